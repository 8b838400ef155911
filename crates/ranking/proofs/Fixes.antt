-- The answer of a list is fixed, and its counts are bounded. Assumes nothing.
use Rattle.std.proofs.Common.{◌≡◌, ℕ, ◌<◌, ◌≤◌, ◌⊎◌, List, ◌∷◌, map, take, sym, ap, ◌∙◌, subst, inl, inr, ⊎_elim, arith}
use Rattle.std.proofs.lemmas.List.{length-map, length-take-le}
use Rattle.std.proofs.lemmas.Bool.{cases_Bool, cases_order, both_ways}
use Rattle.ordered.specs.Members.{Among}
use Rattle.ordered.proofs.Members.{among_split, among_take, among_map, map_among}
use Rattle.ordered.proofs.Sorted.{ascending_same}
use Rattle.stages.specs.declared.line.Line.{Line}
use Rattle.stages.specs.Lines.{line_of, earlier}
use Rattle.ranking.specs.declared.queued.Queued.{Queued}
use Rattle.ranking.specs.Offers.{Offer, offer_at, Fitting, FloorsHold}
use Rattle.ranking.specs.Totals.{totals, places, occurs, different}
use Rattle.ranking.specs.Queues.{queued_at, LinedUp, queue}
use Rattle.ranking.specs.Costing.{totals_of, Taken, Counted}
use Rattle.ranking.specs.Cheapest.{Cheapest}
use Rattle.ranking.specs.Steps.{line_at}
use Rattle.ranking.specs.Theorems.{AnswerFixed, LinesCosted, CountsBounded}
use Rattle.ranking.proofs.Orders.{line_order}
use Rattle.ranking.proofs.Counting.{occurs_among, among_occurs, different_within, different_new, different_length, apart_different}
use Rattle.ranking.proofs.Lining.{queue_only, queue_fitting}
use Rattle.ranking.proofs.Meets.{later_dearer}

-- a place is on these lines or not
on_or_off : (p : ℕ) (ls : List Line) → Among p (places ls) ⊎ (Among p (places ls) → ⊥)
on_or_off p ls = ⊎_elim (λ e. inl (occurs_among p (places ls) e)) (λ e. inr (λ m. both_ways _ e (among_occurs p (places ls) m))) (cases_Bool (occurs p (places ls)))

module _ (w : ℕ) (os : List Offer) (ls : List Line) (s : Cheapest w os ls) where
  line_is : (l : Line) → Among l ls → l ≡ line_at os l.place
  line_is l m = ap (line_of l.place) (s.lines_fit l m).1

  -- a place on a line is there with its total
  place_line : (p : ℕ) → Among p (places ls) → Among (line_at os p) ls
  place_line p m =
      let h = among_map (λ (z : Line). z.place) p ls m in
      subst (λ z. Among z ls) (line_is h.0 h.1 ∙ ap (line_at os) (sym h.2)) h.1

  -- a fitting place with a lower total than some line is on a line
  cheaper_on : (p : ℕ) → Fitting os p → (l : Line) → Among l ls → (offer_at os p).total < l.total → Among (offer_at os p).total (totals ls)
  cheaper_on p f l m h =
      ⊎_elim (λ k. map_among (λ (z : Line). z.total) (line_at os p) ls (place_line p k)) (λ out. absurd (omega (arith, s.left_off_dearer p f out l m))) (on_or_off p ls)

  few : different (totals ls) ≤ w
  few = omega arith

  -- no line comes behind as many different lower totals as wanted
  too_many : (l : Line) → Among l ls → (ts : List ℕ) → w ≤ different ts → ((t : ℕ) → Among t ts → t < l.total) → ((t : ℕ) → Among t ts → Among t (totals ls)) → ⊥
  too_many l m ts enough below on =
      let new = different_new l.total ts (λ k. omega (arith, below l.total k)) in
      let more = different_within (l.total ∷ ts) (totals ls) (λ t. ⊎_elim (λ e. subst (λ n. Among n (totals ls)) (sym e) (map_among (λ (z : Line). z.total) l ls m)) (on t)) in
      omega (arith, few)

-- two lists that are shown have the same lines
lines_within : (w : ℕ) (os : List Offer) (ls ms : List Line) → Cheapest w os ls → Cheapest w os ms → (l : Line) → Among l ls → Among l ms
lines_within w os ls ms s r l m =
    let fit = s.lines_fit l m in
    ⊎_elim
    (λ on. subst (λ z. Among z ms) (sym (line_is w os ls s l m)) (place_line w os ms r l.place on))
    (λ out.
    ⊎_elim
    (λ enough.
    let below : (k : Line) → Among k ms → k.total < l.total = λ k j. omega (arith, r.left_off_dearer l.place fit.0 out k j, fit.1) in
    absurd (too_many w os ls s l m (totals ms) (omega arith)
    (λ t j. let h = among_map (λ (z : Line). z.total) t ms j in omega (arith, below h.0 h.1, h.2))
    (λ t j.
    let h = among_map (λ (z : Line). z.total) t ms j in
    let k = r.lines_fit h.0 h.1 in
    subst (λ n. Among n (totals ls)) (sym (h.2 ∙ k.1)) (cheaper_on w os ls s h.0.place k.0 l m (omega (arith, below h.0 h.1, k.1))))))
    (λ all. absurd (out (all.1 l.place fit.0)))
    r.totals_wanted)
    (on_or_off l.place ms)

lines_fixed : (w : ℕ) (os : List Offer) (ls ms : List Line) → Cheapest w os ls → Cheapest w os ms → ls ≡ ms
lines_fixed w os ls ms s r = ascending_same earlier line_order ls ms s.in_order r.in_order (lines_within w os ls ms s r) (lines_within w os ms ls r s)

-- taking ends once
pub taken_fixed : (w : ℕ) (os : List Offer) (q : List Queued) (m n : ℕ) → Taken w os q m → Taken w os q n → m ≡ n
taken_fixed w os q m n a b =
    ⊎_elim (λ e. e)
    (⊎_elim
    (λ h. absurd (⊎_elim (λ e. omega (arith, b.within)) (λ e. b.goes_on m h e) a.ends))
    (λ h. absurd (⊎_elim (λ e. omega (arith, a.within)) (λ e. a.goes_on n h e) b.ends)))
    (cases_order m n)

-- the count by the one queue
in_turn_taken : (w : ℕ) (os : List Offer) (n : ℕ) → Counted w os n → Taken w os (queue os) n
in_turn_taken w os n c = subst (λ q. Taken w os q n) (queue_only os c.in_turn c.is_queue) c.taken

pub answer_fixed : AnswerFixed
answer_fixed w os ls ms m n a b = (
  lines_fixed w os ls ms a.cheapest b.cheapest,
  taken_fixed w os (queue os) m n (in_turn_taken w os m a.counted) (in_turn_taken w os n b.counted),
)

lines_taken : (w : ℕ) (os : List Offer) (ls : List Line) (q : List Queued) (n : ℕ) → FloorsHold os → Cheapest w os ls → LinedUp os q → Taken w os q n
    → (l : Line) → Among l ls → Among (queued_at os l.place) (take n q)
lines_taken w os ls q n law s is taken l m =
    let fit = s.lines_fit l m in
    ⊎_elim (λ k. k)
    (λ k.
    let late = later_dearer w os q n law is taken l.place fit.0 k in
    let below : (t : ℕ) → Among t (totals_of os (take n q)) → t < l.total = λ t j. omega (arith, late.1 t j, fit.1) in
    absurd (too_many w os ls s l m (totals_of os (take n q)) late.0.0 below
    (λ t j.
    let h = among_map (λ (x : Queued). (offer_at os x.place).total) t (take n q) j in
    let f = (is.all_fit h.0 (among_take h.0 n q h.1)).0 in
    subst (λ v. Among v (totals ls)) (sym h.2) (cheaper_on w os ls s h.0.place f l m (omega (arith, below t j, h.2))))))
    (among_split (queued_at os l.place) n q (is.none_missing l.place fit.0))

pub lines_costed : LinesCosted
lines_costed w os ls n law a l m =
    let c = a.counted in
    subst (λ q. Among (queued_at os l.place) (take n q)) (queue_only os c.in_turn c.is_queue) (lines_taken w os ls c.in_turn n law a.cheapest c.is_queue c.taken l m)

pub counts_bounded : CountsBounded
counts_bounded w os ls n law a =
    let s = a.cheapest in
    let t = in_turn_taken w os n a.counted in
    let costed = map (λ (x : Queued). x.place) (take n (queue os)) in
    let within = different_within (places ls) costed (λ p m.
    let h = among_map (λ (z : Line). z.place) p ls m in
    subst (λ k. Among k costed) (sym h.2) (map_among (λ (x : Queued). x.place) (queued_at os h.0.place) (take n (queue os)) (lines_costed w os ls n law a h.0 h.1))) in (
      omega (arith, within, apart_different (places ls) s.place_once, length-map ls (λ (z : Line). z.place), different_length costed, length-map (take n (queue os)) (λ (x : Queued). x.place), length-take-le n (queue os) t.within),
      omega (arith, t.within, queue_fitting os),
    )
