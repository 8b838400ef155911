-- The offers costed in turn, gathered and cut, are what a list answers. Assumes nothing.
use Rattle.std.proofs.Common.{◌≡◌, ℕ, zero, suc, ◌+◌, ◌<◌, ◌≤◌, true, ltb, ◌⊎◌, List, length, get_or, take, drop, sym, ap, ◌∙◌, subst, inl, inr, ⊎_elim, arith, below_more}
use Rattle.std.proofs.lemmas.List.{take_all, drop_all}
use Rattle.std.proofs.lemmas.Bool.{cases_lt, cases_Bool, ltb-true, lt-ltb, both_ways}
use Rattle.ordered.specs.Ascending.{all, ascending}
use Rattle.ordered.specs.Members.{Among}
use Rattle.ordered.proofs.Members.{all_among, among_all, among_split, among_take, map_among}
use Rattle.ordered.proofs.Sorted.{ascending_take, ascending_first, apart_by}
use Rattle.stages.specs.declared.line.Line.{Line}
use Rattle.stages.specs.Lines.{earlier}
use Rattle.stages.specs.Cutting.{keeps}
use Rattle.stages.proofs.Falling.{keeps_falls}
use Rattle.ranking.specs.declared.queued.Queued.{Queued}
use Rattle.ranking.specs.Offers.{Offer, offer_at, Fitting, FloorsHold}
use Rattle.ranking.specs.Totals.{totals, different}
use Rattle.ranking.specs.Queues.{sooner, queued_of, queued_at, LinedUp, queue}
use Rattle.ranking.specs.Costing.{Ends, totals_of, EndsBefore, Taken}
use Rattle.ranking.specs.Cheapest.{NoneLeftOff, Cheapest}
use Rattle.ranking.specs.Steps.{line_at, gathered, cut_lines}
use Rattle.ranking.specs.Theorems.{StepsShow, AnswerStands}
use Rattle.ranking.proofs.Orders.{line_order, sooner_floor}
use Rattle.ranking.proofs.Rising.{cut_off}
use Rattle.ranking.proofs.Lining.{queue_is, queue_apart}
use Rattle.ranking.proofs.Gathers.{gathered_has, gathered_from, gathered_order, totals_from, totals_count}

-- an offer that taking ended before costs more than each total gathered: here the floors matter
pub later_dearer : (w : ℕ) (os : List Offer) (q : List Queued) (n : ℕ) → FloorsHold os → LinedUp os q → Taken w os q n
    → (p : ℕ) → Fitting os p → Among (queued_at os p) (drop n q) → EndsBefore w os q n × ((t : ℕ) → Among t (totals_of os (take n q)) → t < (offer_at os p).total)
later_dearer w os q n law is taken p f m =
    ⊎_elim
    (λ short.
    ⊎_elim
    (λ e. absurd (omega arith))
    (λ e.
    let least : (get_or q n (queued_of 0 0)).floor ≤ (offer_at os p).floor =
    ⊎_elim (λ s. omega (arith, ap (λ (x : Queued). x.floor) s)) (λ s. sooner_floor _ _ s) (ascending_first sooner n q (queued_of 0 0) short is.in_order (queued_at os p) m) in
    (e, λ t k. omega (arith, e.1 t k, law p f)))
    taken.ends)
    (λ long. absurd (subst (Among (queued_at os p)) (drop_all n q long) m))
    (cases_lt n (length q))

pub cut_shows : (w : ℕ) (os : List Offer) (q : List Queued) (n : ℕ) → FloorsHold os → LinedUp os q → Taken w os q n → Cheapest w os (cut_lines w (gathered os (take n q)))
cut_shows w os q n law is taken =
    let ls = gathered os (take n q) in
    let k = keeps w ls in
    let order : ascending earlier ls ≡ true = gathered_order os (take n q) (queue_apart os q is n) in
    let cuts = cut_off w ls k order (keeps_falls w ls) in
    let sound : (l : Line) → Among l ls → Fitting os l.place × (l ≡ line_at os l.place) = λ l m.
    let h = gathered_from os (take n q) l m in
    let at = ap (λ (z : Line). z.place) h.2 in
    (subst (Fitting os) (sym at) (is.all_fit h.0 (among_take h.0 n q h.1)).0, h.2 ∙ ap (line_at os) (sym at)) in
    let has : (p : ℕ) → Among (queued_at os p) (take n q) → Among (line_at os p) ls = λ p m. gathered_has os (take n q) (queued_at os p) m in
    record {
      left_off_dearer = λ p f out l m. ⊎_elim
          (λ j. ⊎_elim
          (λ a. absurd (out (map_among (λ (z : Line). z.place) (line_at os p) (take k ls) a)))
          (λ a. ⊎_elim
          (λ c. absurd (subst (Among (line_at os p)) (drop_all k ls (omega (arith, c.0))) a))
          (λ c. c.higher l (line_at os p) m a)
          cuts)
          (among_split (line_at os p) k ls (has p j)))
          (λ j. (later_dearer w os q n law is taken p f j).1 l.total (totals_from os (take n q) l.total (map_among (λ (z : Line). z.total) l ls (among_take l k ls m))))
          (among_split (queued_at os p) n q (is.none_missing p f));
      lines_fit = λ l m. let s = sound l (among_take l k ls m) in (s.0, ap (λ (z : Line). z.total) s.1);
      place_once = apart_by earlier line_order (λ l. l.place) (line_at os) (take k ls) (ascending_take earlier k ls order) (λ l m. (sound l (among_take l k ls m)).1);
      totals_wanted = ⊎_elim
          (λ c. subst (λ zs. (different (totals zs) ≡ w) ⊎ ((different (totals zs) < w) × NoneLeftOff os zs)) (sym (take_all k ls (omega (arith, c.0))))
          (⊎_elim
          (λ lt. inr (
            lt,
            λ p f. ⊎_elim
                (λ e. map_among (λ (z : Line). z.place) (line_at os p) ls (has p (subst (Among (queued_at os p)) (sym (take_all n q (omega arith))) (is.none_missing p f))))
                (λ e. absurd (omega (arith, e.0, totals_count os (take n q), lt)))
                taken.ends,
          ))
          (λ ge. inl (omega (arith, c.1)))
          (cases_lt (different (totals ls)) w)))
          (λ c. inl c.exact)
          cuts;
      in_order = ascending_take earlier k ls order;
    }

pub steps_show : StepsShow
steps_show w os n law taken =
    record {
      cheapest = cut_shows w os (queue os) n law (queue_is os) taken;
      counted = record { in_turn = queue os; is_queue = queue_is os; taken = taken };
    }

-- taking ends before an offer or not
ends_or_not : (w : ℕ) (ts : List ℕ) (f : ℕ) → Ends w ts f ⊎ (Ends w ts f → ⊥)
ends_or_not w ts f =
    ⊎_elim
    (λ few. inr (λ e. omega (arith, e.0)))
    (λ enough. ⊎_elim
    (λ b. inl (enough, λ t m. ltb-true t f (all_among (λ u. ltb u f) ts t b m)))
    (λ b. inr (λ e. both_ways _ b (among_all (λ u. ltb u f) ts (λ t m. lt-ltb t f (e.1 t m)))))
    (cases_Bool (all (λ u. ltb u f) ts)))
    (cases_lt (different ts) w)

-- taking that went on up to k comes to its end
taken_from : (w : ℕ) (os : List Offer) (q : List Queued) (rest k : ℕ) → k + rest ≡ length q → ((i : ℕ) → i < k → EndsBefore w os q i → ⊥) → (n : ℕ) × Taken w os q n
taken_from w os q zero k e on = (k, record { within = omega arith; goes_on = on; ends = inl (omega arith) })
taken_from w os q (suc rest) k e on =
    ⊎_elim
    (λ h. (k, record { within = omega arith; goes_on = on; ends = inr h }))
    (λ h. taken_from w os q rest (k + 1) (omega arith) (below_more (λ i. EndsBefore w os q i → ⊥) k on h))
    (ends_or_not w (totals_of os (take k q)) (get_or q k (queued_of 0 0)).floor)

pub answer_stands : AnswerStands
answer_stands w os law =
    let t = taken_from w os (queue os) (length (queue os)) 0 (omega arith) (λ i h e. omega arith) in
    (cut_lines w (gathered os (take t.0 (queue os))), t.0, steps_show w os t.0 law t.1)
