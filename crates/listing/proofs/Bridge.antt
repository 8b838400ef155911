-- From the list over plain offers to the list over the book, and back. Assumes nothing.
use Rattle.std.proofs.Common.{◌≡◌, ℕ, ◌<◌, ◌≤◌, true, ◌&&◌, eqb, ltb, List, [], ◌∷◌, map, length, get_or, take, Some, sym, refl, ap, ◌∙◌, subst, inl, inr, ⊎_elim, arith}
use Rattle.std.specs.List.{slice_get}
use Rattle.std.proofs.lemmas.List.{take-map, length-map}
use Rattle.std.proofs.lemmas.Option.{slice_get_within, get_or_from_slice_get}
use Rattle.std.proofs.lemmas.Bool.{ltb-true, lt-ltb, eqb-true, eq-eqb, and_parts, and_from, or_cases, or_left, or_right, cases_lt}
use Rattle.tariff.specs.Totals.{Meaning}
use Rattle.catalogue.specs.Books.{Book, Meeting, Apart as ApartBook}
use Rattle.catalogue.proofs.Places.{nth_map, nth_within}
use Rattle.ordered.specs.Members.{Among}
use Rattle.ordered.proofs.Members.{among_map, map_among, among_take}
use Rattle.ordered.proofs.Places.{ascending_nth, nth_ascending, nth_of_map}
use Rattle.stages.specs.declared.line.Line.{Line}
use Rattle.stages.specs.Lines.{earlier}
use Rattle.ranking.specs.declared.queued.Queued.{Queued}
use Rattle.ranking.specs.Offers.{offer_at, Fitting, FloorsHold}
use Rattle.ranking.specs.Totals.{places}
use Rattle.ranking.specs.Queues.{sooner, queued_of, queued_at, queue, LinedUp}
use Rattle.ranking.specs.Costing.{totals_of, EndsBefore, Taken, Counted}
use Rattle.ranking.specs.Cheapest.{Ranking}
use Rattle.ranking.proofs.Lining.{queue_only, queue_fitting, queue_few}
use Rattle.ranking.proofs.Fixes.{answer_fixed, lines_costed, counts_bounded}
use Rattle.listing.specs.Enquiries.{EnquiryData}
use Rattle.listing.specs.Fitting.{Placed, Fits, total_of}
use Rattle.listing.specs.Shown.{Earlier, Sooner, TakingEnds, InTurn, Costed, Shown}
use Rattle.listing.specs.Tests.{offer_of, offers}
use Rattle.listing.specs.Theorems.{ListFixed}
use Rattle.listing.proofs.Fits.{fit_at, fits_fit, fits_total, fits_floor, fits_same}

-- the orders of lines and of waiting offers, as tests and in words
earlier_says : (l k : Line) → earlier l k ≡ true → Earlier l k
earlier_says l k e =
    ⊎_elim (λ h. inl (ltb-true _ _ h))
    (λ h. let p = and_parts (eqb l.total k.total) (ltb l.place k.place) h in inr (eqb-true _ _ p.0, ltb-true _ _ p.1))
    (or_cases (ltb l.total k.total) (eqb l.total k.total && ltb l.place k.place) e)

says_earlier : (l k : Line) → Earlier l k → earlier l k ≡ true
says_earlier l k =
    ⊎_elim (λ h. or_left (ltb l.total k.total) (eqb l.total k.total && ltb l.place k.place) (lt-ltb _ _ h))
    (λ h. or_right (ltb l.total k.total) (eqb l.total k.total && ltb l.place k.place) (and_from _ _ (eq-eqb _ _ h.0) (lt-ltb _ _ h.1)))

module _ {T : Type 0} (m : Meaning T) (q : EnquiryData) (b : Book T) where
  -- a placed offer as it waits to be costed
  abbrev waits : Placed T → Queued
  waits o = queued_of o.place (m.floor o.tariff)

  sooner_says : (o p : Placed T) → sooner (waits o) (waits p) ≡ true → Sooner m o p
  sooner_says o p e =
      let f = m.floor o.tariff in let g = m.floor p.tariff in
      ⊎_elim (λ h. inl (ltb-true f g h))
      (λ h. let c = and_parts (eqb f g) (ltb o.place p.place) h in inr (eqb-true f g c.0, ltb-true _ _ c.1))
      (or_cases (ltb f g) (eqb f g && ltb o.place p.place) e)

  says_sooner : (o p : Placed T) → Sooner m o p → sooner (waits o) (waits p) ≡ true
  says_sooner o p =
      let f = m.floor o.tariff in let g = m.floor p.tariff in
      ⊎_elim (λ h. or_left (ltb f g) (eqb f g && ltb o.place p.place) (lt-ltb f g h))
      (λ h. or_right (ltb f g) (eqb f g && ltb o.place p.place) (and_from _ _ (eq-eqb f g h.0) (lt-ltb _ _ h.1)))

  -- a fitting offer waits with the floor that the list sees
  waits_at : (o : Placed T) → Fits m b q o → waits o ≡ queued_at (offers m b q) o.place
  waits_at o f = ap (queued_of o.place) (sym (fits_floor m q b o f))

  -- the offers behind a queue of fitting places
  placed_queue : (xs : List Queued) → ((x : Queued) → Among x xs → Fitting (offers m b q) x.place × (x ≡ queued_at (offers m b q) x.place))
      → (os : List (Placed T)) × ((o : Placed T) → Among o os → Fits m b q o) × (map waits os ≡ xs)
  placed_queue [] f = ([], (λ o a. absurd a), refl)
  placed_queue (x ∷ xs) f =
      let rest = placed_queue xs (λ y a. f y (inr a)) in
      let here = f x (inl refl) in
      let w = fit_at m q b x.place here.0 in
      let is : waits w.0 ≡ x = waits_at w.0 w.2 ∙ (ap (queued_at (offers m b q)) w.1 ∙ sym here.1) in (
        w.0 ∷ rest.0,
        (λ o. ⊎_elim (λ e. subst (Fits m b q) (sym e) w.2) (λ a. rest.1 o a)),
        ap (λ y. y ∷ map waits rest.0) is ∙ ap (λ ys. x ∷ ys) rest.2,
      )

  -- the totals of fitting offers
  totals_same : (os : List (Placed T)) → ((o : Placed T) → Among o os → Fits m b q o) → totals_of (offers m b q) (map waits os) ≡ map (total_of m q) os
  totals_same [] f = refl
  totals_same (o ∷ os) f =
      ap (λ n. n ∷ totals_of (offers m b q) (map waits os)) (fits_total m q b o (f o (inl refl)))
      ∙ ap (λ ns. total_of m q o ∷ ns) (totals_same os (λ p a. f p (inr a)))

  -- the fitting offers in turn are the queue
  turn_lines : (os : List (Placed T)) → InTurn m b q os → LinedUp (offers m b q) (map waits os)
  turn_lines os t = record {
    in_order = nth_ascending sooner (map waits os) (λ i j x y l h k.
        let o = nth_of_map waits os i x h in
        let p = nth_of_map waits os j y k in
        subst (λ z. sooner z y ≡ true) (sym o.2) (subst (λ z. sooner (waits o.0) z ≡ true) (sym p.2) (says_sooner o.0 p.0 (t.by_floor i j o.0 p.0 l o.1 p.1))));
    all_fit = λ x a.
        let o = among_map waits x os a in
        let f = t.all_fit o.0 o.1 in
        let place : x.place ≡ o.0.place = ap (λ (z : Queued). z.place) o.2 in
        (subst (Fitting (offers m b q)) (sym place) (fits_fit m q b o.0 f), o.2 ∙ (waits_at o.0 f ∙ ap (queued_at (offers m b q)) (sym place)));
    none_missing = λ p fit.
        let w = fit_at m q b p fit in
        subst (λ z. Among z (map waits os)) (waits_at w.0 w.2 ∙ ap (queued_at (offers m b q)) w.1) (map_among waits w.0 os (t.none_missing w.0 w.2));
  }

  lines_turn : (os : List (Placed T)) → ((o : Placed T) → Among o os → Fits m b q o) → LinedUp (offers m b q) (map waits os) → InTurn m b q os
  lines_turn os f l = record {
    all_fit = f;
    none_missing = λ o fit.
        let a = l.none_missing o.place (fits_fit m q b o fit) in
        let w = among_map waits _ os a in
        let place : o.place ≡ w.0.place = ap (λ (z : Queued). z.place) w.2 in
        subst (λ z. Among z os) (sym (fits_same m q b o w.0 fit (f w.0 w.1) place)) w.1;
    by_floor = λ i j o p h at to. sooner_says o p (ascending_nth sooner (map waits os) l.in_order i j (waits o) (waits p) h (nth_map waits os i o at) (nth_map waits os j p to));
  }

  -- what is gathered before a place of the queue, and the floor there
  gathered_same : (os : List (Placed T)) → ((o : Placed T) → Among o os → Fits m b q o) → (k : ℕ) → totals_of (offers m b q) (take k (map waits os)) ≡ map (total_of m q) (take k os)
  gathered_same os f k = ap (totals_of (offers m b q)) (take-map waits k os) ∙ totals_same (take k os) (λ o a. f o (among_take o k os a))

  floor_same : (os : List (Placed T)) (k : ℕ) (o : Placed T) → slice_get os k ≡ Some o → (get_or (map waits os) k (queued_of 0 0)).floor ≡ m.floor o.tariff
  floor_same os k o at = ap (λ (x : Queued). x.floor) (get_or_from_slice_get (map waits os) k (waits o) (queued_of 0 0) (nth_map waits os k o at))

  -- taking ends before a place, over plain offers and over the book
  ends_says : (os : List (Placed T)) → ((o : Placed T) → Among o os → Fits m b q o) → (k : ℕ) (o : Placed T) → slice_get os k ≡ Some o
      → EndsBefore q.length (offers m b q) (map waits os) k → TakingEnds q (map (total_of m q) (take k os)) (m.floor o.tariff)
  ends_says os f k o at e =
      subst (λ ts. TakingEnds q ts (m.floor o.tariff)) (gathered_same os f k)
      (subst (λ n. TakingEnds q (totals_of (offers m b q) (take k (map waits os))) n) (floor_same os k o at) e)

  says_ends : (os : List (Placed T)) → ((o : Placed T) → Among o os → Fits m b q o) → (k : ℕ) (o : Placed T) → slice_get os k ≡ Some o
      → TakingEnds q (map (total_of m q) (take k os)) (m.floor o.tariff) → EndsBefore q.length (offers m b q) (map waits os) k
  says_ends os f k o at e =
      subst (λ n. TakingEnds q (totals_of (offers m b q) (take k (map waits os))) n) (sym (floor_same os k o at))
      (subst (λ ts. TakingEnds q ts (m.floor o.tariff)) (sym (gathered_same os f k)) e)

  -- the count, over the book and over plain offers
  costed_by : (n : ℕ) → Counted q.length (offers m b q) n → Costed m b q n
  costed_by n c =
      let w = placed_queue c.in_turn c.is_queue.all_fit in
      let os = w.0 in
      let f = w.1 in
      let long = length-map os waits in
      let taken : Taken q.length (offers m b q) (map waits os) n = subst (λ xs. Taken q.length (offers m b q) xs n) (sym w.2) c.taken in
      record {
        offers = os;
        in_turn = lines_turn os f (subst (LinedUp (offers m b q)) (sym w.2) c.is_queue);
        within = omega (arith, taken.within);
        goes_on = λ k o h at e. taken.goes_on k h (says_ends os f k o at e);
        ends = λ o at. ⊎_elim (λ e. absurd (omega (arith, slice_get_within os n o at))) (λ e. ends_says os f n o at e) taken.ends;
      }

  counted_by : (n : ℕ) → Costed m b q n → Counted q.length (offers m b q) n
  counted_by n c =
      let os = c.offers in
      let f = c.in_turn.all_fit in
      let long = length-map os waits in
      record {
        in_turn = map waits os;
        is_queue = turn_lines os c.in_turn;
        taken = record {
          within = omega (arith, c.within);
          goes_on = λ k h e.
              let w = nth_within os k (omega (arith, c.within)) in
              c.goes_on k w.0 h w.1 (ends_says os f k w.0 w.1 e);
          ends = ⊎_elim
              (λ (h : n < length os). let w = nth_within os n h in inr (says_ends os f n w.0 w.1 (c.ends w.0 w.1)))
              (λ (h : length os ≤ n). inl (omega (arith, c.within)))
              (cases_lt n (length os));
        };
      }

  -- a list over plain offers is a list over the book
  pub shown_by : (ls : List Line) (n : ℕ) → ApartBook b → Ranking q.length (offers m b q) ls n → Shown m b q ls n
  shown_by ls n apart r = record {
    left_off_dearer = λ o f out l i. subst (λ t. l.total < t) (fits_total m q b o f) (r.cheapest.left_off_dearer o.place (fits_fit m q b o f) out l i);
    lines_fit = λ l i.
        let s = r.cheapest.lines_fit l i in
        let w = fit_at m q b l.place s.0 in
        record {
          offer = w.0;
          shows = record {
            fits = w.2;
            at_place = sym w.1;
            at_total = s.1 ∙ (ap (λ p. (offer_at (offers m b q) p).total) (sym w.1) ∙ fits_total m q b w.0 w.2);
          };
        };
    place_once = r.cheapest.place_once;
    totals_wanted = ⊎_elim inl (λ e. inr (e.0, λ o f. e.1 o.place (fits_fit m q b o f))) r.cheapest.totals_wanted;
    names_once = λ l k o p i j so sp names.
        let met : Meeting b = record {
          one = o.place;
          two = p.place;
          head = o.head;
          other = p.head;
          tariff = o.tariff;
          other_tariff = p.tariff;
          at_one = so.fits.is_published;
          at_two = sp.fits.is_published;
          namesakes = names;
          shares = record { day = q.day; on_one = so.fits.on_the_day; on_other = sp.fits.on_the_day };
        } in
        so.at_place ∙ (apart met ∙ sym sp.at_place);
    in_order = λ i j l k h at to. earlier_says l k (ascending_nth earlier ls r.cheapest.in_order i j l k h at to);
    count = costed_by n r.counted;
  }

  -- and back
  ranking_by : (ls : List Line) (n : ℕ) → Shown m b q ls n → Ranking q.length (offers m b q) ls n
  ranking_by ls n s = record {
    cheapest = record {
      left_off_dearer = λ p fit out l i.
          let w = fit_at m q b p fit in
          subst (λ t. l.total < t) (sym (fits_total m q b w.0 w.2) ∙ ap (λ x. (offer_at (offers m b q) x).total) w.1)
          (s.left_off_dearer w.0 w.2 (λ a. out (subst (λ x. Among x (places ls)) w.1 a)) l i);
      lines_fit = λ l i.
          let w = s.lines_fit l i in
          let o = w.offer in
          let sh = w.shows in (
            subst (Fitting (offers m b q)) (sym sh.at_place) (fits_fit m q b o sh.fits),
            sh.at_total ∙ (sym (fits_total m q b o sh.fits) ∙ ap (λ x. (offer_at (offers m b q) x).total) (sym sh.at_place)),
          );
      place_once = s.place_once;
      totals_wanted = ⊎_elim inl
          (λ e. inr (e.0, λ p fit. let w = fit_at m q b p fit in subst (λ x. Among x (places ls)) w.1 (e.1 w.0 w.2)))
          s.totals_wanted;
      in_order = nth_ascending earlier ls (λ i j l k h at to. says_earlier l k (s.in_order i j l k h at to));
    };
    counted = counted_by n s.count;
  }

  -- two answers that show such a list are equal
  pub list_fixed : ListFixed m b q
  list_fixed ls ms n k s t = answer_fixed q.length (offers m b q) ls ms n k (ranking_by ls n s) (ranking_by ms k t)

  -- where floors hold, no more lines are shown than offers costed, and no more offers are costed than there are places
  pub list_bounded : FloorsHold (offers m b q) → (ls : List Line) (n : ℕ) → Shown m b q ls n → (length ls ≤ n) × (n ≤ length b)
  list_bounded floors ls n s =
      let os = offers m b q in
      let c = counts_bounded q.length os ls n floors (ranking_by ls n s) in
      (c.0, omega (arith, c.1, queue_fitting os, queue_few os (length os), length-map b (offer_of m q)))

  -- and every line was costed
  pub line_costed : FloorsHold (offers m b q) → (ls : List Line) (n : ℕ) (s : Shown m b q ls n) (l : Line) → Among l ls
      → Among l.place (map (λ (o : Placed T). o.place) (take n s.count.offers))
  line_costed floors ls n s l i =
      let os = s.count.offers in
      let here = queued_at (offers m b q) l.place in
      let is : take n (queue (offers m b q)) ≡ map waits (take n os) =
      ap (take n) (sym (queue_only (offers m b q) (map waits os) (turn_lines os s.count.in_turn))) ∙ take-map waits n os in
      let w = among_map waits here (take n os) (subst (Among here) is (lines_costed q.length (offers m b q) ls n floors (ranking_by ls n s) l i)) in
      subst (λ p. Among p (map (λ (o : Placed T). o.place) (take n os))) (sym (ap (λ (x : Queued). x.place) w.2)) (map_among (λ (o : Placed T). o.place) w.0 (take n os) w.1)
