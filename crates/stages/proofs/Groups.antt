-- Neighbouring lines of one total: how many lines the first such groups hold. Assumes nothing.
use Rattle.std.proofs.Common.{◌≡◌, ℕ, zero, suc, ◌+◌, ◌-◌, ◌<◌, ◌≤◌, Bool, true, false, eqb, List, [], ◌∷◌, ◌++◌, map, length, get_or, drop, sum, Bor, sym, refl, ap, ◌∙◌, subst, arith}
use Rattle.std.proofs.Math.Seq.{drop-append_seam}
use Rattle.std.proofs.lemmas.List.{length-append, nil_from_length}
use Rattle.std.proofs.lemmas.List.Sums.{sum_by-cons}
use Rattle.std.proofs.lemmas.Bool.{cond-true, cond-false, eqb-true, eqb-false, eq-eqb, ne_eqb}
use Rattle.std.specs.declared.slice.ChunkBy.{ChunkBy}
use Rattle.std.specs.Slice.Iter.{chunk_by_rest, chunk_by_callee, chunk_by_steps}
use Rattle.std.specs.Iterator.{Yields}
use Rattle.std.specs.Iterator.Runs.{Run}
use Rattle.std.proofs.iter.runs.Made.{took}
use Rattle.std.specs.List.{IsChunkByPrefix}
use Rattle.std.specs.Fn.{ComputesOnPairs}
use denote.Param.Members.{Mut}
use Rattle.stages.specs.declared.line.Line.{Line}
use Rattle.stages.specs.Cutting.{follow, keeps}

-- two lines of one total
abbrev pub alike : Line → Line → Bool
alike x y = eqb x.total y.total

keeps_none : (w : ℕ) → keeps w [] ≡ 0
keeps_none zero = refl
keeps_none (suc w) = refl

-- behind the first group
pub record Behind (ls rest : List Line) (n : ℕ) : Type 0 where
  pub keep : (w : ℕ) → keeps (suc w) ls ≡ n + keeps w rest

follow_next : (w : ℕ) (y z : Line) (zs : List Line) → eqb z.total y.total ≡ false → follow w y.total (z ∷ zs) ≡ keeps w (z ∷ zs)
follow_next zero y z zs e = cond-false _ _ _ e
follow_next (suc w) y z zs e = cond-false _ _ _ e

follow_same : (w : ℕ) (y z : Line) (zs : List Line) → y.total ≡ z.total → follow w y.total (z ∷ zs) ≡ suc (follow w z.total zs)
follow_same zero y z zs e = cond-true _ _ _ (eq-eqb _ _ (sym e)) ∙ ap (λ t. suc (follow zero t zs)) e
follow_same (suc w) y z zs e = cond-true _ _ _ (eq-eqb _ _ (sym e)) ∙ ap (λ t. suc (follow (suc w) t zs)) e

-- the tail of a list of which the first n + 2 lines are a group
tail_group : (y z : Line) (zs : List Line) (n : ℕ) → IsChunkByPrefix alike (y ∷ z ∷ zs) (suc (suc n)) → IsChunkByPrefix alike (z ∷ zs) (suc n)
tail_group y z zs n p = (
  λ k d l.
      let e : suc k + 1 ≡ suc (k + 1) = omega arith in
      subst (λ i. alike (get_or (z ∷ zs) k d) (get_or (y ∷ z ∷ zs) i d) ≡ true) e (p.0 (suc k) d (omega arith)),
  λ l d.
      let e : suc (suc n) - 1 ≡ suc (suc n - 1) = omega arith in
      subst (λ i. alike (get_or (y ∷ z ∷ zs) i d) (get_or zs n d) ≡ false) e (p.1 (omega arith) d),
)

group : (y : Line) (ys : List Line) (n : ℕ) → n ≤ length ys → IsChunkByPrefix alike (y ∷ ys) (suc n) → Behind (y ∷ ys) (drop n ys) (suc n)
group y [] zero h p = record { keep = λ w. omega (arith, keeps_none w) }
group y (z ∷ zs) zero h p =
    let e : eqb z.total y.total ≡ false = ne_eqb _ _ (λ k. eqb-false _ _ (p.1 (omega arith) y) (sym k)) in
    record { keep = λ w. omega (arith, follow_next w y z zs e) }
group y [] (suc n) h p = absurd (omega arith)
group y (z ∷ zs) (suc n) h p =
    let e : y.total ≡ z.total = eqb-true _ _ (p.0 0 y (omega arith)) in
    let more = group z zs n (omega arith) (tail_group y z zs n p) in
    record { keep = λ w. omega (arith, follow_same w y z zs e, more.keep w) }

first_group : (xs rest : List Line) → 0 < length xs → IsChunkByPrefix alike (xs ++ rest) (length xs) → Behind (xs ++ rest) rest (length xs)
first_group [] rest h p = absurd (omega arith)
first_group (y ∷ ys) rest h p =
    subst (λ zs. Behind (y ∷ ys ++ rest) zs (suc (length ys))) (drop-append_seam ys rest)
    (group y (ys ++ rest) (length ys) (omega (arith, length-append ys rest)) p)

module _ {F : Type 0} (g : Mut F (Bor Line × (Bor Line × Unit {0})) Bool) where
  groups_keep : (xs : List (Bor (List Line))) (s u : ChunkBy Line F) (w : ℕ) → ComputesOnPairs g alike (chunk_by_callee s) → Yields (chunk_by_steps g) s xs u
      → length xs ≤ w → (length xs < w → length (chunk_by_rest u) ≡ 0) → sum (map (λ x. length x.now) xs) ≡ keeps w (chunk_by_rest s)
  groups_keep [] s u zero by y h e = refl
  groups_keep [] s u (suc w) by y h e = sym (ap (keeps (suc w)) (ap chunk_by_rest y ∙ nil_from_length _ (e (omega arith))))
  groups_keep (x ∷ xs) s u zero by y h e = absurd (omega arith)
  groups_keep (x ∷ xs) s u (suc w) by y h e =
      let m = y.1.2 alike by in
      let b = first_group x.now (chunk_by_rest y.0) y.1.1 (subst (λ ls. IsChunkByPrefix alike ls (length x.now)) y.1.0 m.1) in
      sum_by-cons (λ n. n) (length x.now) (map (λ z. length z.now) xs)
      ∙ ap (λ n. length x.now + n) (groups_keep xs y.0 u w m.0 y.2 (omega arith) (λ l. e (omega arith)))
      ∙ sym (b.keep w)
      ∙ ap (keeps (suc w)) (sym y.1.0)

  groups_within : (xs : List (Bor (List Line))) (s u : ChunkBy Line F) → Yields (chunk_by_steps g) s xs u → sum (map (λ x. length x.now) xs) ≤ length (chunk_by_rest s)
  groups_within [] s u y = omega arith
  groups_within (x ∷ xs) s u y =
      omega (arith, sum_by-cons (λ n. n) (length x.now) (map (λ z. length z.now) xs), groups_within xs y.0 u y.2, ap length y.1.0, length-append x.now (chunk_by_rest y.0))

  -- what a run of `chunk_by` says of the lines ls
  module _ (r : Run (chunk_by_steps g)) (s : ChunkBy Line F) (from : r.from ≡ s) (ls : List Line) (rest : chunk_by_rest s ≡ ls) where
    lines : chunk_by_rest r.from ≡ ls
    lines = ap chunk_by_rest from ∙ rest

    pub run_within : sum (map (λ x. length x.now) r.items) ≤ length ls
    run_within = omega (arith, groups_within r.items r.from (took r).0 (took r).1, ap length lines)

    module _ (by : ComputesOnPairs g alike (chunk_by_callee s)) where
      computes : ComputesOnPairs g alike (chunk_by_callee r.from)
      computes = subst (λ j. ComputesOnPairs g alike (chunk_by_callee j)) (sym from) by

      pub run_keeps : (w : ℕ) → r.len ≤ w → (r.len < w → r.whole ≡ true) → sum (map (λ x. length x.now) r.items) ≡ keeps w ls
      run_keeps w h e =
          groups_keep r.items r.from (took r).0 w computes (took r).1 (omega (arith, r.long)) (λ l. ((took r).2 (e (omega (arith, r.long)))).1.0)
          ∙ ap (keeps w) lines
