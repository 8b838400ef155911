-- How many numbers differ, by which numbers there are. Assumes nothing.
use Rattle.std.proofs.Common.{◌≡◌, ℕ, suc, ◌≤◌, true, false, cond, eqb, List, [], ◌∷◌, ◌++◌, length, sym, refl, ap, ◌∙◌, subst, inl, inr, ⊎_elim, arith}
use Rattle.std.proofs.lemmas.Bool.{cond-true, cond-false, cond_both, cases_Bool, eqb-true, eqb-false, eq-eqb, or_cases, or_left, or_right, or_parts, both_ways}
use Rattle.ordered.specs.Members.{Among, NoRepeats}
use Rattle.ordered.proofs.Members.{among_append, append_among}
use Rattle.ranking.specs.Totals.{occurs, different}

-- a number occurs where it is in the list
pub occurs_among : (t : ℕ) (us : List ℕ) → occurs t us ≡ true → Among t us
occurs_among t [] e = absurd (both_ways false refl e)
occurs_among t (u ∷ us) e = ⊎_elim (λ h. inl (eqb-true t u h)) (λ h. inr (occurs_among t us h)) (or_cases (eqb t u) (occurs t us) e)

pub among_occurs : (t : ℕ) (us : List ℕ) → Among t us → occurs t us ≡ true
among_occurs t [] m = absurd m
among_occurs t (u ∷ us) m = ⊎_elim (λ e. or_left _ _ (eq-eqb t u e)) (λ k. or_right _ _ (among_occurs t us k)) m

pub absent_occurs : (t : ℕ) (us : List ℕ) → (Among t us → ⊥) → occurs t us ≡ false
absent_occurs t us ne = ⊎_elim (λ e. absurd (ne (occurs_among t us e))) (λ e. e) (cases_Bool (occurs t us))

-- the list without a number
abbrev without : ℕ → List ℕ → List ℕ
without t [] = []
without t (u ∷ us) = cond (eqb t u) (without t us) (u ∷ without t us)

without_other : (t v : ℕ) (us : List ℕ) → (v ≡ t → ⊥) → Among v us → Among v (without t us)
without_other t v [] ne m = m
without_other t v (u ∷ us) ne m =
    cond_both (eqb t u) (without t us) (u ∷ without t us) (Among v)
    (λ e. ⊎_elim (λ h. absurd (ne (h ∙ sym (eqb-true t u e)))) (λ k. without_other t v us ne k) m)
    (λ _. ⊎_elim inl (λ k. inr (without_other t v us ne k)) m)

among_without : (t v : ℕ) (us : List ℕ) → Among v (without t us) → Among v us
among_without t v [] m = m
among_without t v (u ∷ us) m =
    cond_both (eqb t u) (without t us) (u ∷ without t us) (λ zs. Among v zs → Among v (u ∷ us))
    (λ _ k. inr (among_without t v us k))
    (λ _. ⊎_elim inl (λ k. inr (among_without t v us k))) m

occurs_without : (t v : ℕ) (us : List ℕ) → (v ≡ t → ⊥) → occurs v (without t us) ≡ occurs v us
occurs_without t v us ne =
    ⊎_elim
    (λ e. among_occurs v (without t us) (without_other t v us ne (occurs_among v us e)) ∙ sym e)
    (λ e. absent_occurs v (without t us) (λ m. both_ways _ e (among_occurs v us (among_without t v us m))) ∙ sym e)
    (cases_Bool (occurs v us))

without_absent : (t : ℕ) (us : List ℕ) → occurs t us ≡ false → without t us ≡ us
without_absent t [] e = refl
without_absent t (u ∷ us) e = let h = or_parts (eqb t u) (occurs t us) e in cond-false _ _ _ h.0 ∙ ap (λ zs. u ∷ zs) (without_absent t us h.1)

-- a number taken out of the list is one less
without_one : (t : ℕ) (us : List ℕ) → occurs t us ≡ true → suc (different (without t us)) ≡ different us
without_one t [] e = absurd (both_ways false refl e)
without_one t (u ∷ us) e =
    cond_both (eqb t u) (without t us) (u ∷ without t us) (λ zs. suc (different zs) ≡ different (u ∷ us))
    (λ s. let same = eqb-true t u s in
    ⊎_elim
    (λ o. without_one t us o ∙ sym (cond-true _ _ _ (ap (λ n. occurs n us) (sym same) ∙ o)))
    (λ o. ap (λ zs. suc (different zs)) (without_absent t us o) ∙ sym (cond-false _ _ _ (ap (λ n. occurs n us) (sym same) ∙ o)))
    (cases_Bool (occurs t us)))
    (λ s.
    let there : occurs t us ≡ true = ⊎_elim (λ h. absurd (both_ways _ s h)) (λ h. h) (or_cases (eqb t u) (occurs t us) e) in
    let rest = without_one t us there in
    let same = occurs_without t u us (λ h. eqb-false t u s (sym h)) in
    ⊎_elim
    (λ o. ap suc (cond-true _ _ _ (same ∙ o)) ∙ rest ∙ sym (cond-true _ _ _ o))
    (λ o. ap suc (cond-false _ _ _ (same ∙ o)) ∙ ap suc rest ∙ sym (cond-false _ _ _ o))
    (cases_Bool (occurs u us)))

-- a list whose numbers are all in another has no more different ones
pub different_within : (ts us : List ℕ) → ((t : ℕ) → Among t ts → Among t us) → different ts ≤ different us
different_within [] us f = omega arith
different_within (t ∷ ts) us f =
    cond_both (occurs t ts) (different ts) (suc (different ts)) (λ n. n ≤ different us)
    (λ _. different_within ts us (λ v m. f v (inr m)))
    (λ o.
    let less = different_within ts (without t us) (λ v m. without_other t v us (λ e. both_ways _ o (among_occurs t ts (subst (λ n. Among n ts) e m))) (f v (inr m))) in
    omega (arith, less, without_one t us (among_occurs t us (f t (inl refl)))))

pub different_same : (ts us : List ℕ) → ((t : ℕ) → Among t ts → Among t us) → ((t : ℕ) → Among t us → Among t ts) → different ts ≡ different us
different_same ts us f g = omega (arith, different_within ts us f, different_within us ts g)

-- one number more, at the front or at the end
pub different_push : (u : ℕ) (us : List ℕ) → different (us ++ u ∷ []) ≡ different (u ∷ us)
different_push u us =
    different_same (us ++ u ∷ []) (u ∷ us)
    (λ t m. ⊎_elim inr (⊎_elim inl (λ n. absurd n)) (among_append t us (u ∷ []) m))
    (λ t m. append_among t us (u ∷ []) (⊎_elim (λ e. inr (inl e)) inl m))

pub different_new : (u : ℕ) (us : List ℕ) → (Among u us → ⊥) → different (u ∷ us) ≡ suc (different us)
different_new u us ne = cond-false _ _ _ (absent_occurs u us ne)

pub different_old : (u : ℕ) (us : List ℕ) → Among u us → different (u ∷ us) ≡ different us
different_old u us m = cond-true _ _ _ (among_occurs u us m)

-- no more differ than there are, and all do where none is there twice
pub different_length : (us : List ℕ) → different us ≤ length us
different_length [] = omega arith
different_length (u ∷ us) =
    let h = different_length us in cond_both (occurs u us) (different us) (suc (different us)) (λ n. n ≤ suc (length us)) (λ _. omega arith) (λ _. omega arith)

pub apart_different : (us : List ℕ) → NoRepeats us → different us ≡ length us
apart_different [] a = refl
apart_different (u ∷ us) a = different_new u us a.0 ∙ ap suc (apart_different us a.1)
