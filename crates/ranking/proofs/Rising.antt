-- Lines in order: their neighbouring totals that differ are all that differ, and what a cut of them keeps. Assumes nothing.
use Rattle.std.proofs.Common.{◌≡◌, ℕ, zero, suc, ◌+◌, ◌<◌, ◌≤◌, true, eqb, leb, ◌⊎◌, List, [], ◌∷◌, length, get_or, take, drop, Decides, sym, refl, ap, ◌∙◌, subst, inl, inr, ⊎_elim, arith}
use Rattle.std.proofs.lemmas.List.{take_all, map_more}
use Rattle.std.proofs.lemmas.Bool.{cond_both, and_parts, and_from, eqb-true, eqb-false, leb-true, le-leb, ltb-true, lt-ltb}
use Rattle.ordered.specs.Ascending.{all, ascending}
use Rattle.ordered.specs.Members.{Among}
use Rattle.ordered.proofs.Members.{all_among, among_all, among_map, map_among}
use Rattle.ordered.proofs.Sorted.{ascending_take, ascending_cut, ascending_first}
use Rattle.stages.specs.declared.line.Line.{Line}
use Rattle.stages.specs.Lines.{blank, earlier}
use Rattle.stages.specs.Cutting.{changes, neighbouring, Falls}
use Rattle.ranking.specs.Totals.{totals, different}
use Rattle.ranking.specs.Costing.{Ends, under, over}
use Rattle.ranking.proofs.Orders.{earlier_total}
use Rattle.ranking.proofs.Counting.{different_new, different_old, different_push}

-- the totals of lines in order do not fall
rises : (y : Line) (ys : List Line) → ascending earlier (y ∷ ys) ≡ true → (z : Line) → Among z ys → y.total ≤ z.total
rises y ys a z m = earlier_total y z (all_among (earlier y) ys z (and_parts (all (earlier y) ys) (ascending earlier ys) a).0 m)

changes_different : (t : ℕ) (ys : List Line) → ascending earlier ys ≡ true → ((z : Line) → Among z ys → t ≤ z.total) → suc (changes t ys) ≡ different (t ∷ totals ys)
changes_different t [] a low = refl
changes_different t (y ∷ ys) a low =
    let b = (and_parts (all (earlier y) ys) (ascending earlier ys) a).1 in
    cond_both (eqb y.total t) (changes t ys) (suc (changes y.total ys)) (λ n. suc n ≡ different (t ∷ y.total ∷ totals ys))
    (λ e. let same = eqb-true _ _ e in
    changes_different t ys b (λ z m. low z (inr m))
    ∙ ap (λ n. different (n ∷ totals ys)) (sym same)
    ∙ sym (different_old t (y.total ∷ totals ys) (inl (sym same))))
    (λ e.
    let less : t < y.total = omega (arith, eqb-false _ _ e, low y (inl refl)) in
    ap suc (changes_different y.total ys b (rises y ys a))
    ∙ sym (different_new t (y.total ∷ totals ys)
    (⊎_elim (λ s. omega arith) (λ m. let h = among_map (λ l. l.total) t ys m in omega (arith, rises y ys a h.0 h.1, h.2)))))

pub neighbouring_different : (ls : List Line) → ascending earlier ls ≡ true → neighbouring ls ≡ different (totals ls)
neighbouring_different [] a = refl
neighbouring_different (y ∷ ys) a = changes_different y.total ys (and_parts (all (earlier y) ys) (ascending earlier ys) a).1 (rises y ys a)

-- the cut behind the first k leaves some off: as many different totals as wanted are kept, and each line left off has a higher one
pub record CutOff (w : ℕ) (ls : List Line) (k : ℕ) : Type 0 where
  pub exact : different (totals (take k ls)) ≡ w
  pub higher : (x y : Line) → Among x (take k ls) → Among y (drop k ls) → x.total < y.total

-- or it leaves none off
pub cut_off : (w : ℕ) (ls : List Line) (k : ℕ) → ascending earlier ls ≡ true → Falls w ls k → ((k ≡ length ls) × (different (totals ls) ≤ w)) ⊎ CutOff w ls k
cut_off w ls k a f =
    let us = totals (take k ls) in
    let x = get_or ls k blank in
    let kept = neighbouring_different (take k ls) (ascending_take earlier k ls a) in
    ⊎_elim
    (λ e. inl (e, omega (arith, f.within, kept, ap (λ zs. different (totals zs)) (take_all k ls (omega arith)))))
    (λ l.
    let next : different (x.total ∷ us) ≡ w + 1 =
    sym (different_push x.total us)
    ∙ ap different (sym (map_more (λ (z : Line). z.total) ls k blank l.0))
    ∙ sym (neighbouring_different (take (k + 1) ls) (ascending_take earlier (k + 1) ls a))
    ∙ l.1 in
    let new : Among x.total us → ⊥ = λ m. omega (arith, different_old x.total us m, next, kept, f.within) in
    inr (record {
      exact = omega (arith, different_new x.total us new, next);
      higher = λ u v m n.
          let first = ascending_first earlier k ls blank l.0 a in
          let at : Among x (drop k ls) = first_there k ls l.0 in
          let low = earlier_total u x (ascending_cut earlier k ls a u x m at) in
          let apart : u.total ≡ x.total → ⊥ = λ e. new (subst (λ t. Among t us) e (map_among (λ z. z.total) u (take k ls) m)) in
          let up : x.total ≤ v.total = ⊎_elim (λ e. omega (arith, ap (λ (z : Line). z.total) e)) (λ b. earlier_total x v b) (first v n) in
          omega arith;
    }))
    f.full
  where
    first_there : (k : ℕ) (ls : List Line) → k < length ls → Among (get_or ls k blank) (drop k ls)
    first_there k [] h = absurd (omega arith)
    first_there zero (y ∷ ys) h = inl refl
    first_there (suc k) (y ∷ ys) h = first_there k ys (omega arith)

-- the test by which taking ends decides whether it does
pub over_ends : (w f : ℕ) (ls : List Line) → ascending earlier ls ≡ true → Decides (over w f ls) (Ends w (totals ls) f)
over_ends w f ls a =
    let count = neighbouring_different ls a in (
      λ t.
          let h = and_parts (leb w (neighbouring ls)) (all (under f) ls) t in (
            omega (arith, leb-true w (neighbouring ls) h.0),
            λ u m. let k = among_map (λ (l : Line). l.total) u ls m in omega (arith, ltb-true _ _ (all_among (under f) ls k.0 h.1 k.1), k.2),
          ),
      λ e. and_from _ _ (le-leb w (neighbouring ls) (omega (arith, e.0)))
          (among_all (under f) ls (λ l m. lt-ltb _ _ (e.1 l.total (map_among (λ (z : Line). z.total) l ls m)))),
    )
