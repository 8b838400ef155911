-- Lists of nodes: which they hold, and their flags. Assumes nothing.
use Rattle.std.proofs.Common.{◌≡◌, ℕ, ◌<◌, ◌≤◌, Bool, true, false, ◌||◌, eqb, leb, ◌≢◌, List, [], ◌∷◌, length, get_or, set, Decides, sym, refl, ◌∙◌, inl, inr, arith}
use Rattle.std.proofs.lemmas.List.{get_or-set_same, get_or-set_other, length-set}
use Rattle.std.proofs.lemmas.Bool.{or_parts, or_cases, or_left, or_right, or_from, leb-true, leb-false, lt-leb, cases_eq, eqb-true, eq-eqb, ne_eqb, false≢true}
use Rattle.ordered.specs.Members.{Among}
use Rattle.tree.specs.Trees.{among}
use Rattle.draft.specs.Drafts.{flagged}
use Rattle.draft.specs.Rules.{strays}

or_true : (b : Bool) → (b || true) ≡ true
or_true true = refl
or_true false = refl

-- the test for an item of a list of numbers
pub decides_among : (n : ℕ) (ns : List ℕ) → Decides (among n ns) (Among n ns)
decides_among n [] = (λ e. absurd (false≢true e), λ x. absurd x)
decides_among n (m ∷ ms) =
    let d = decides_among n ms in (
      λ e. elim (or_cases (eqb m n) (among n ms) e) [ inl t ↦ inl (sym (eqb-true m n t)) | inr t ↦ inr (d.0 t) ],
      λ x. elim x [ inl e ↦ or_left (eqb m n) (among n ms) (eq-eqb m n (sym e)) | inr y ↦ or_right (eqb m n) (among n ms) (d.1 y) ],
    )

-- what the test for numbers that are no nodes tells
pub none_strays : (m : ℕ) (ns : List ℕ) → strays m ns ≡ false → (n : ℕ) → Among n ns → n < m
none_strays m [] e n x = absurd x
none_strays m (k ∷ ks) e n x =
    let p = or_parts (leb m k) (strays m ks) e in
    elim x [ inl q ↦ rw q (leb-false m k p.0) | inr y ↦ none_strays m ks p.1 n y ]

pub one_strays : (m : ℕ) (ns : List ℕ) → strays m ns ≡ true → (n : ℕ) × (Among n ns × (m ≤ n))
one_strays m [] e = absurd (false≢true e)
one_strays m (k ∷ ks) e =
    elim (or_cases (leb m k) (strays m ks) e) [
      | inl t ↦ (k, (inl refl, leb-true m k t))
      | inr t ↦ let r = one_strays m ks t in (r.0, (inr r.1.0, r.1.1))
    ]

-- nodes of a tree are nodes of a larger one
pub strays_more : (m k : ℕ) (ns : List ℕ) → m ≤ k → strays m ns ≡ false → strays k ns ≡ false
strays_more m k [] h e = refl
strays_more m k (n ∷ ns) h e =
    let p = or_parts (leb m n) (strays m ns) e in
    let l = leb-false m n p.0 in
    or_from (leb k n) (strays k ns) (lt-leb k n (omega arith)) (strays_more m k ns h p.1)

-- a node is flagged if it is in the list, or was before
pub flagged_at : (ns : List ℕ) (t : List Bool) (k : ℕ) → k < length t → get_or (flagged ns t) k false ≡ (among k ns || get_or t k false)
flagged_at [] t k h = refl
flagged_at (n ∷ ns) t k h =
    let l : k < length (set t n true) = simp length-set h in
    flagged_at ns (set t n true) k l ∙
    elim (cases_eq n k) [
      | inl q ↦ rw (q, get_or-set_same t k true false h, eq-eqb k k refl) (or_true (among k ns))
      | inr ne ↦ let nk : k ≢ n = λ e. ne (sym e) in rw (get_or-set_other t n k true false nk, ne_eqb n k ne) refl
    ]

pub length_flagged : (ns : List ℕ) (t : List Bool) → length (flagged ns t) ≡ length t
length_flagged [] t = refl
length_flagged (n ∷ ns) t = length_flagged ns (set t n true) ∙ length-set t n true
