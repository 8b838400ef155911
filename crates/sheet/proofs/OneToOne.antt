-- Two records of fields with one encoding are one. Assumes nothing.
use Rattle.std.proofs.Common.{◌≡◌, ℕ, ◌+◌, ◌*◌, ◌/◌, ◌%◌, List, [], ◌∷◌, ◌++◌, length, take, drop, sym, refl, ap, ◌∙◌, arith}
use native.Mathlib.Nat.{div-add-mod}
use Rattle.std.specs.List.{flat_map}
use Rattle.std.proofs.lemmas.List.{append-nil, append_assoc, take_at, drop_at}
use Rattle.cursor.specs.Encodings.{two, four, counted}
use Rattle.sheet.specs.Records.{Fields, head_bytes, price_bytes, group_bytes, section, encoding}

-- a quotient and a remainder have one number
whole_number : (m v w : ℕ) → v / m ≡ w / m → v % m ≡ w % m → v ≡ w
whole_number m v w d r =
    let e : m * (v / m) + v % m ≡ m * (w / m) + w % m = rw (d, r) refl in
    sym (div-add-mod v m) ∙ (e ∙ div-add-mod w m)

-- where two lists of bytes begin with the bytes of one kind of value, the values and the rests are one
abbrev Apart : {V : Type 0} → (V → List ℕ) → Type 0
Apart {V} bytes = (x y : V) (s t : List ℕ) → bytes x ++ s ≡ bytes y ++ t → (x ≡ y) × (s ≡ t)

one_apart : (a b : ℕ) (s t : List ℕ) → a ∷ s ≡ b ∷ t → (a ≡ b) × (s ≡ t)
one_apart a b s t e = (cc, cc)

two_apart : Apart two
two_apart v w s t e =
    let d : v / 256 ≡ w / 256 = cc in
    let r : v % 256 ≡ w % 256 = cc in
    let k : s ≡ t = cc in
    (whole_number 256 v w d r, k)

four_apart : Apart four
four_apart v w s t e =
    let p = two_apart (v / 65536) (w / 65536) (two (v % 65536) ++ s) (two (w % 65536) ++ t) e in
    let q = two_apart (v % 65536) (w % 65536) s t p.1 in
    (whole_number 65536 v w p.0 q.0, q.1)

counted_apart : Apart counted
counted_apart a b s t e =
    let p = one_apart (length a) (length b) (a ++ s) (b ++ t) e in
    let x : take (length a) (a ++ s) ≡ take (length a) (b ++ t) = ap (take (length a)) p.1 in
    let y : drop (length a) (a ++ s) ≡ drop (length a) (b ++ t) = ap (drop (length a)) p.1 in
    (sym (take_at a s (length a) refl) ∙ (x ∙ take_at b t (length a) (sym p.0)), sym (drop_at a s (length a) refl) ∙ (y ∙ drop_at b t (length a) (sym p.0)))

joined_apart : {V : Type 0} (bytes : V → List ℕ) → Apart bytes → (xs ys : List V) (s t : List ℕ) → length xs ≡ length ys → flat_map bytes xs ++ s ≡ flat_map bytes ys ++ t → (xs ≡ ys) × (s ≡ t)
joined_apart bytes each [] [] s t n e = (refl, e)
joined_apart bytes each [] (y ∷ ys) s t n e = absurd (omega arith)
joined_apart bytes each (x ∷ xs) [] s t n e = absurd (omega arith)
joined_apart bytes each (x ∷ xs) (y ∷ ys) s t n e =
    let f : bytes x ++ (flat_map bytes xs ++ s) ≡ bytes y ++ (flat_map bytes ys ++ t) = sym (append_assoc (bytes x) (flat_map bytes xs) s) ∙ (e ∙ append_assoc (bytes y) (flat_map bytes ys) t) in
    let p = each x y (flat_map bytes xs ++ s) (flat_map bytes ys ++ t) f in
    let l : length xs ≡ length ys = omega arith in
    let q = joined_apart bytes each xs ys s t l p.1 in
    ((λ i. p.0 i ∷ q.0 i), q.1)

section_apart : {V : Type 0} (bytes : V → List ℕ) → Apart bytes → Apart (section bytes)
section_apart bytes each xs ys s t e =
    let p = one_apart (length xs) (length ys) (flat_map bytes xs ++ s) (flat_map bytes ys ++ t) e in
    joined_apart bytes each xs ys s t p.0 p.1

head_apart : Apart head_bytes
head_apart h k s t e =
    let a = one_apart h.contract k.contract _ _ e in
    let b = one_apart h.network k.network _ _ a.1 in
    let c = two_apart h.supplier k.supplier (four h.sum ++ (h.term ∷ (two h.first ++ (two h.last ++ s)))) (four k.sum ++ (k.term ∷ (two k.first ++ (two k.last ++ t)))) b.1 in
    let d = four_apart h.sum k.sum (h.term ∷ (two h.first ++ (two h.last ++ s))) (k.term ∷ (two k.first ++ (two k.last ++ t))) c.1 in
    let f = one_apart h.term k.term _ _ d.1 in
    let g = two_apart h.first k.first (two h.last ++ s) (two k.last ++ t) f.1 in
    let l = two_apart h.last k.last s t g.1 in
    ((λ i. record { contract = a.0 i; network = b.0 i; supplier = c.0 i; sum = d.0 i; term = f.0 i; first = g.0 i; last = l.0 i }), l.1)

price_apart : Apart price_bytes
price_apart h k s t e =
    let a = one_apart h.node k.node (four h.price ++ s) (four k.price ++ t) e in
    let b = four_apart h.price k.price s t a.1 in
    ((λ i. record { node = a.0 i; price = b.0 i }), b.1)

group_apart : Apart group_bytes
group_apart h k s t e =
    let a = one_apart h.order k.order _ _ e in
    let b = four_apart h.units k.units (counted h.nodes ++ s) (counted k.nodes ++ t) a.1 in
    let c = counted_apart h.nodes k.nodes s t b.1 in
    ((λ i. record { order = a.0 i; units = b.0 i; nodes = c.0 i }), c.1)

pub one_to_one : (f g : Fields) → encoding f ≡ encoding g → f ≡ g
one_to_one f g e =
    let a = head_apart f.head g.head _ _ e in
    let b = counted_apart f.name g.name _ _ a.1 in
    let c = counted_apart f.link g.link _ _ b.1 in
    let d = section_apart price_bytes price_apart f.prices g.prices (section group_bytes f.groups) (section group_bytes g.groups) c.1 in
    let h : section group_bytes f.groups ++ [] ≡ section group_bytes g.groups ++ [] = append-nil (section group_bytes f.groups) ∙ (d.1 ∙ sym (append-nil (section group_bytes g.groups))) in
    let k = section_apart group_bytes group_apart f.groups g.groups [] [] h in
    λ i. record { head = a.0 i; name = b.0 i; link = c.0 i; prices = d.0 i; groups = k.0 i }
