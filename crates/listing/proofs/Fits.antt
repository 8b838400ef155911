-- What the tests for a fitting offer say. Assumes nothing.
use Rattle.std.proofs.Common.{◌≡◌, ℕ, zero, suc, ◌+◌, ◌<◌, ◌≤◌, Bool, true, false, ◌&&◌, ◌||◌, eqb, leb, List, [], ◌∷◌, get_or, Some, None, sym, refl, ap, ◌∙◌, subst, inl, inr, ⊎_elim, arith}
use Rattle.std.specs.List.{list_all, enumerate_from}
use Rattle.std.proofs.lemmas.Bool.{leb-true, le-leb, eqb-true, eq-eqb, and_parts, and_from, or_cases, or_left, or_right, cases_eq, true≢false}
use Rattle.tariff.specs.Totals.{Meaning}
use Rattle.heads.specs.Rules.{HeadData, On}
use Rattle.catalogue.specs.Books.{Book, Place, empty, in_work, published, place_at}
use Rattle.catalogue.proofs.Places.{none_some, same_some}
use Rattle.ranking.specs.Offers.{Offer, no_offer, offer_at, Fitting}
use Rattle.listing.specs.Enquiries.{EnquiryData, SoundValues}
use Rattle.listing.specs.Fitting.{Placed, Agrees, Fits, total_of}
use Rattle.listing.specs.Tests.{sound_values, agrees, asked_for, serves_all, offer_of, offers}

-- day, network, contract and term in range
pub values_sound : (q : EnquiryData) → sound_values q ≡ true → SoundValues q
unfolding sound_values
values_sound q e =
    let a = and_parts (leb q.day 65534) (leb q.network 2 && (leb q.contract 2 && leb q.term 60)) e in
    let b = and_parts (leb q.network 2) (leb q.contract 2 && leb q.term 60) a.1 in
    let c = and_parts (leb q.contract 2) (leb q.term 60) b.1 in
    record { day_bound = leb-true _ _ a.0; network_bound = leb-true _ _ b.0; contract_bound = leb-true _ _ c.0; term_bound = leb-true _ _ c.1 }

pub sound_is : (q : EnquiryData) → SoundValues q → sound_values q ≡ true
unfolding sound_values
sound_is q s = and_from _ _ (le-leb _ _ s.day_bound) (and_from _ _ (le-leb _ _ s.network_bound) (and_from _ _ (le-leb _ _ s.contract_bound) (le-leb _ _ s.term_bound)))

-- a head that is asked for
pub record Asked (q : EnquiryData) (h : HeadData) : Type 0 where
  pub on : On h q.day
  pub network : Agrees q.network h.network
  pub contract : Agrees q.contract h.contract
  pub term : h.term ≤ q.term

agrees_true : (a b : ℕ) → agrees a b ≡ true → Agrees a b
agrees_true a b e = ⊎_elim (λ x. inl (eqb-true a 0 x)) (λ x. inr (eqb-true a b x)) (or_cases (eqb a 0) (eqb a b) e)

agrees_from : (a b : ℕ) → Agrees a b → agrees a b ≡ true
agrees_from a b = ⊎_elim (λ x. or_left (eqb a 0) (eqb a b) (eq-eqb a 0 x)) (λ x. or_right (eqb a 0) (eqb a b) (eq-eqb a b x))

asked_true : (q : EnquiryData) (h : HeadData) → asked_for q h ≡ true → Asked q h
unfolding asked_for
asked_true q h e =
    let a = and_parts (leb h.first q.day) (leb q.day h.last && (agrees q.network h.network && (agrees q.contract h.contract && leb h.term q.term))) e in
    let b = and_parts (leb q.day h.last) (agrees q.network h.network && (agrees q.contract h.contract && leb h.term q.term)) a.1 in
    let c = and_parts (agrees q.network h.network) (agrees q.contract h.contract && leb h.term q.term) b.1 in
    let d = and_parts (agrees q.contract h.contract) (leb h.term q.term) c.1 in
    record { on = (leb-true _ _ a.0, leb-true _ _ b.0); network = agrees_true _ _ c.0; contract = agrees_true _ _ d.0; term = leb-true _ _ d.1 }

asked_from : (q : EnquiryData) (h : HeadData) → Asked q h → asked_for q h ≡ true
unfolding asked_for
asked_from q h a =
    and_from _ _ (le-leb _ _ a.on.0) (and_from _ _ (le-leb _ _ a.on.1)
    (and_from _ _ (agrees_from _ _ a.network) (and_from _ _ (agrees_from _ _ a.contract) (le-leb _ _ a.term))))

-- the seats with a use above 0 are served
abbrev pub Served : (ℕ → Bool) → List ℕ → Type 0
Served s us = (k : ℕ) → 0 < get_or us k 0 → s k ≡ true

serves_at : (s : ℕ → Bool) (i : ℕ) (us : List ℕ) → serves_all s i us ≡ true → (k : ℕ) → 0 < get_or us k 0 → s (i + k) ≡ true
serves_at s i [] e k h = absurd (omega arith)
serves_at s i (u ∷ us) e zero h =
    let p = and_parts (eqb u 0 || s i) (serves_all s (suc i) us) e in
    let z : i ≡ i + 0 = omega arith in
    subst (λ n. s n ≡ true) z (⊎_elim (λ x. absurd (let y = eqb-true u 0 x in omega arith)) (λ x. x) (or_cases (eqb u 0) (s i) p.0))
serves_at s i (u ∷ us) e (suc k) h =
    let p = and_parts (eqb u 0 || s i) (serves_all s (suc i) us) e in
    let z : suc i + k ≡ i + suc k = omega arith in
    subst (λ n. s n ≡ true) z (serves_at s (suc i) us p.1 k h)

serves_from : (s : ℕ → Bool) (i : ℕ) (us : List ℕ) → ((k : ℕ) → 0 < get_or us k 0 → s (i + k) ≡ true) → serves_all s i us ≡ true
serves_from s i [] f = refl
serves_from s i (u ∷ us) f =
    let z : i + 0 ≡ i = omega arith in
    let here : (eqb u 0 || s i) ≡ true =
    ⊎_elim (λ x. or_left (eqb u 0) (s i) (eq-eqb u 0 x)) (λ x. or_right (eqb u 0) (s i) (subst (λ n. s n ≡ true) z (f 0 (omega arith)))) (cases_eq u 0) in
    and_from _ _ here (serves_from s (suc i) us (λ k h. let e : i + suc k ≡ suc i + k = omega arith in subst (λ n. s n ≡ true) e (f (suc k) h)))

served_true : (s : ℕ → Bool) (us : List ℕ) → Served s us → serves_all s 0 us ≡ true
served_true s us f = serves_from s 0 us (λ k h. let e : k ≡ 0 + k = omega arith in subst (λ n. s n ≡ true) e (f k h))

true_served : (s : ℕ → Bool) (us : List ℕ) → serves_all s 0 us ≡ true → Served s us
true_served s us e k h = let z : 0 + k ≡ k = omega arith in subst (λ n. s n ≡ true) z (serves_at s 0 us e k h)

-- the test over the seats with their numbers
pub serves_seats : (s : ℕ → Bool) (i : ℕ) (us : List ℕ) → list_all (λ (p : ℕ × ℕ). eqb p.1 0 || s p.0) (enumerate_from i us) ≡ serves_all s i us
serves_seats s i [] = refl
serves_seats s i (u ∷ us) =
    let next : i + 1 ≡ suc i = omega arith in
    ap (λ b. (eqb u 0 || s i) && b) (ap (λ n. list_all (λ (p : ℕ × ℕ). eqb p.1 0 || s p.0) (enumerate_from n us)) next ∙ serves_seats s (suc i) us)

-- the offer at a place, as the list sees it
module _ {T : Type 0} (m : Meaning T) (q : EnquiryData) where
  pub offer_there : (b : Book T) (p : ℕ) (x : Place T) → place_at b p ≡ Some x → offer_at (offers m b q) p ≡ offer_of m q x
  offer_there [] p x e = absurd (none_some None x refl e)
  offer_there (y ∷ b) zero x e = ap (offer_of m q) (same_some (Some y) y x refl e)
  offer_there (y ∷ b) (suc p) x e = offer_there b p x e

  offer_past : (b : Book T) (p : ℕ) → place_at b p ≡ None → offer_at (offers m b q) p ≡ no_offer
  offer_past [] p e = refl
  offer_past (y ∷ b) zero e = absurd (none_some (Some y) y e refl)
  offer_past (y ∷ b) (suc p) e = offer_past b p e

  -- where nothing is published nothing fits
  unpublished : (x : Place T) → ((h : HeadData) (t : T) → x ≡ published h t → ⊥) → (offer_of m q x).fits ≡ false
  unpublished empty n = refl
  unpublished (in_work h t) n = refl
  unpublished (published h t) n = absurd (n h t refl)

  pub none_published : (b : Book T) (p : ℕ) → ((h : HeadData) (t : T) → place_at b p ≡ Some (published h t) → ⊥) → (offer_at (offers m b q) p).fits ≡ false
  none_published [] p n = refl
  none_published (x ∷ b) zero n = unpublished x (λ h t e. n h t (ap Some e))
  none_published (x ∷ b) (suc p) n = none_published b p n

  -- the place of a fitting offer
  fit_place : (b : Book T) (p : ℕ) → Fitting (offers m b q) p → (x : Place T) × (place_at b p ≡ Some x) × ((offer_of m q x).fits ≡ true)
  fit_place [] p e = absurd (true≢false (sym e))
  fit_place (x ∷ b) zero e = (x, refl, e)
  fit_place (x ∷ b) (suc p) e = fit_place b p e

  fit_by : (b : Book T) (p : ℕ) (x : Place T) → place_at b p ≡ Some x → (offer_of m q x).fits ≡ true → (o : Placed T) × (o.place ≡ p) × Fits m b q o
  fit_by b p empty at e = absurd (true≢false (sym e))
  fit_by b p (in_work h t) at e = absurd (true≢false (sym e))
  fit_by b p (published h t) at e =
      let a = and_parts (asked_for q h) (serves_all (m.served t) 0 q.estimate) e in
      let d = asked_true q h a.0 in (
        record { place = p; head = h; tariff = t },
        refl,
        record { is_published = at; on_the_day = d.on; of_network = d.network; of_contract = d.contract; term_accepted = d.term; serves_uses = true_served (m.served t) q.estimate a.1 },
      )

  -- a place that fits holds an offer that fits
  pub fit_at : (b : Book T) (p : ℕ) → Fitting (offers m b q) p → (o : Placed T) × (o.place ≡ p) × Fits m b q o
  fit_at b p e = let x = fit_place b p e in fit_by b p x.0 x.1 x.2

  -- an offer that fits is at a place that fits, with its floor and total
  pub fits_fit : (b : Book T) (o : Placed T) → Fits m b q o → Fitting (offers m b q) o.place
  fits_fit b o f =
      ap (λ (x : Offer). x.fits) (offer_there b o.place (published o.head o.tariff) f.is_published)
      ∙ and_from _ _
      (asked_from q o.head (record { on = f.on_the_day; network = f.of_network; contract = f.of_contract; term = f.term_accepted }))
      (served_true (m.served o.tariff) q.estimate f.serves_uses)

  pub fits_total : (b : Book T) (o : Placed T) → Fits m b q o → (offer_at (offers m b q) o.place).total ≡ total_of m q o
  fits_total b o f = ap (λ (x : Offer). x.total) (offer_there b o.place (published o.head o.tariff) f.is_published)

  pub fits_floor : (b : Book T) (o : Placed T) → Fits m b q o → (offer_at (offers m b q) o.place).floor ≡ m.floor o.tariff
  fits_floor b o f = ap (λ (x : Offer). x.floor) (offer_there b o.place (published o.head o.tariff) f.is_published)

  -- two offers that fit at one place are one
  same_published : (h k : HeadData) (t u : T) → published h t ≡ published k u → (h ≡ k) × (t ≡ u)
  same_published h k t u e = ((cc), (cc))

  pub fits_same : (b : Book T) (o p : Placed T) → Fits m b q o → Fits m b q p → o.place ≡ p.place → o ≡ p
  fits_same b o p f g e =
      let s = same_published o.head p.head o.tariff p.tariff
      (same_some (place_at b p.place) _ _ (ap (place_at b) (sym e) ∙ f.is_published) g.is_published) in
      let placed : ℕ → HeadData → T → Placed T = λ n h t. record { place = n; head = h; tariff = t } in
      ap (λ n. placed n o.head o.tariff) e ∙ (ap (λ h. placed p.place h o.tariff) s.0 ∙ ap (λ t. placed p.place p.head t) s.1)
