-- The queue of the fitting offers: each place put in turn, and that there is one queue. Assumes nothing.
use Rattle.std.proofs.Common.{◌≡◌, ℕ, zero, suc, ◌+◌, ◌<◌, ◌≤◌, true, false, cond, List, [], ◌∷◌, ◌++◌, map, length, take, drop, sym, refl, ap, ◌∙◌, subst, inl, inr, ⊎_elim, add-one, arith}
use Rattle.std.proofs.lemmas.List.{get_or_past, take_more, take_all}
use Rattle.std.proofs.lemmas.Bool.{cond_both, cond-true, cond-false, cases_lt, cases_eq, both_ways}
use Rattle.ordered.specs.Inserting.{insert}
use Rattle.ordered.specs.Ascending.{ascending}
use Rattle.ordered.specs.Members.{Among, NoRepeats}
use Rattle.ordered.proofs.Members.{among_insert, insert_among, among_take}
use Rattle.ordered.proofs.Sorted.{ascending_put, ascending_same, ascending_take, apart_by}
use Rattle.ordered.proofs.Order.{length_insert, take_put}
use Rattle.ranking.specs.declared.queued.Queued.{Queued}
use Rattle.ranking.specs.Offers.{Offer, no_offer, offer_at, Fitting, fitting}
use Rattle.ranking.specs.Queues.{sooner, queued_of, queued_at, LinedUp, queue_below, queue}
use Rattle.ranking.proofs.Orders.{queue_order}

-- q has the fitting places below p
record LinedBelow (os : List Offer) (p : ℕ) (q : List Queued) : Type 0 where
  in_order : ascending sooner q ≡ true
  all_fit : (x : Queued) → Among x q → (x.place < p) × Fitting os x.place × (x ≡ queued_at os x.place)
  none_missing : (i : ℕ) → i < p → Fitting os i → Among (queued_at os i) q

queue_lined : (os : List Offer) (p : ℕ) → LinedBelow os p (queue_below os p)
queue_lined os zero = record { in_order = refl; all_fit = λ x m. absurd m; none_missing = λ i h f. absurd (omega arith) }
queue_lined os (suc p) =
    let q = queue_below os p in
    let h = queue_lined os p in
    cond_both (offer_at os p).fits (insert sooner (queued_at os p) q) q (LinedBelow os (suc p))
    (λ fit. record {
      in_order = ascending_put sooner queue_order (queued_at os p) q h.in_order (λ m. omega (arith, (h.all_fit (queued_at os p) m).0));
      all_fit = λ x m. ⊎_elim
          (λ e. let at = ap (λ (z : Queued). z.place) e in (omega arith, subst (Fitting os) (sym at) fit, e ∙ ap (queued_at os) (sym at)))
          (λ k. let s = h.all_fit x k in (omega (arith, s.0), s.1, s.2))
          (among_insert sooner x (queued_at os p) q m);
      none_missing = λ i l f. insert_among sooner (queued_at os i) (queued_at os p) q
          (⊎_elim (λ e. inl (ap (queued_at os) e)) (λ e. inr (h.none_missing i (omega arith) f)) (cases_eq i p));
    })
    (λ no. record {
      in_order = h.in_order;
      all_fit = λ x m. let s = h.all_fit x m in (omega (arith, s.0), s.1, s.2);
      none_missing = λ i l f. ⊎_elim (λ e. absurd (both_ways _ no (ap (λ n. (offer_at os n).fits) (sym e) ∙ f))) (λ e. h.none_missing i (omega arith) f) (cases_eq i p);
    })

-- a place that fits is a place
pub fits_within : (os : List Offer) (p : ℕ) → Fitting os p → p < length os
fits_within os p f =
    ⊎_elim (λ h. h) (λ h. absurd (both_ways _ (ap (λ (o : Offer). o.fits) (get_or_past os p no_offer h)) f)) (cases_lt p (length os))

-- the places put in turn are the queue
pub queue_is : (os : List Offer) → LinedUp os (queue os)
queue_is os =
    let h = queue_lined os (length os) in
    record {
      in_order = h.in_order;
      all_fit = λ x m. let s = h.all_fit x m in (s.1, s.2);
      none_missing = λ p f. h.none_missing p (fits_within os p f) f;
    }

-- and there is no other
pub queue_only : (os : List Offer) (q : List Queued) → LinedUp os q → q ≡ queue os
queue_only os q is =
    let other = queue_is os in
    ascending_same sooner queue_order q (queue os) is.in_order other.in_order
    (λ x m. let s = is.all_fit x m in subst (λ z. Among z (queue os)) (sym s.1) (other.none_missing x.place s.0))
    (λ x m. let s = other.all_fit x m in subst (λ z. Among z q) (sym s.1) (is.none_missing x.place s.0))

-- no place is in the queue twice
pub queue_apart : (os : List Offer) (q : List Queued) → LinedUp os q → (n : ℕ) → NoRepeats (map (λ (x : Queued). x.place) (take n q))
queue_apart os q is n =
    apart_by sooner queue_order (λ x. x.place) (queued_at os) (take n q) (ascending_take sooner n q is.in_order) (λ x m. (is.all_fit x (among_take x n q m)).1)

-- a place that fits is put, and one that does not is passed over
pub queue_put : (os : List Offer) (p : ℕ) → Fitting os p → queue_below os (p + 1) ≡ insert sooner (queued_at os p) (queue_below os p)
queue_put os p f = ap (queue_below os) (add-one p) ∙ cond-true _ _ _ f

pub queue_skip : (os : List Offer) (p : ℕ) → (offer_at os p).fits ≡ false → queue_below os (p + 1) ≡ queue_below os p
queue_skip os p f = ap (queue_below os) (add-one p) ∙ cond-false _ _ _ f

-- the queue at the front of a memory, after a place was put
pub queue_put_memory : (os : List Offer) (p n f : ℕ) (xs ys : List Queued) → n < length xs → take n xs ≡ queue_below os p → Fitting os p → f ≡ (offer_at os p).floor
    → ys ≡ insert sooner (queued_of p f) (take n xs) ++ drop (n + 1) xs → take (n + 1) ys ≡ queue_below os (p + 1)
queue_put_memory os p n f xs ys h q fit e is =
    ap (take (n + 1)) is
    ∙ take_put sooner (queued_of p f) xs n h
    ∙ ap (λ t. insert sooner (queued_of p t) (take n xs)) e
    ∙ ap (insert sooner (queued_at os p)) q
    ∙ sym (queue_put os p fit)

-- how many wait
fitting_push : (xs : List Offer) (o : Offer) → fitting (xs ++ o ∷ []) ≡ fitting (o ∷ xs)
fitting_push [] o = refl
fitting_push (x ∷ xs) o = let h = fitting_push xs o in elim x.fits as (λ b. cond b (suc (fitting (xs ++ o ∷ []))) (fitting (xs ++ o ∷ [])) ≡ cond o.fits (suc (cond b (suc (fitting xs)) (fitting xs))) (cond b (suc (fitting xs)) (fitting xs))) [
  | true ↦ ap suc h ∙ cond_both o.fits (suc (fitting xs)) (fitting xs) (λ n. suc n ≡ cond o.fits (suc (suc (fitting xs))) (suc (fitting xs))) (λ e. sym (cond-true _ _ _ e)) (λ e. sym (cond-false _ _ _ e))
  | false ↦ h
]

pub queue_length : (os : List Offer) (p : ℕ) → p ≤ length os → length (queue_below os p) ≡ fitting (take p os)
queue_length os zero h = refl
queue_length os (suc p) h =
    let rest = queue_length os p (omega arith) in
    let more : fitting (take (suc p) os) ≡ fitting (offer_at os p ∷ take p os) =
    ap (λ n. fitting (take n os)) (sym (add-one p)) ∙ ap fitting (take_more os p no_offer (omega arith)) ∙ fitting_push (take p os) (offer_at os p) in
    cond_both (offer_at os p).fits (insert sooner (queued_at os p) (queue_below os p)) (queue_below os p) (λ q. length q ≡ fitting (take (suc p) os))
    (λ f. length_insert sooner (queued_at os p) (queue_below os p) ∙ ap suc rest ∙ sym (more ∙ cond-true _ _ _ f))
    (λ f. rest ∙ sym (more ∙ cond-false _ _ _ f))

pub queue_fitting : (os : List Offer) → length (queue os) ≡ fitting os
queue_fitting os = queue_length os (length os) (omega arith) ∙ ap fitting (take_all (length os) os (omega arith))

-- no more wait than places were looked at
pub queue_few : (os : List Offer) (p : ℕ) → length (queue_below os p) ≤ p
queue_few os zero = omega arith
queue_few os (suc p) =
    let h = queue_few os p in
    cond_both (offer_at os p).fits (insert sooner (queued_at os p) (queue_below os p)) (queue_below os p) (λ q. length q ≤ suc p)
    (λ f. omega (arith, length_insert sooner (queued_at os p) (queue_below os p))) (λ f. omega arith)
