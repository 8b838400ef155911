-- Texts that may be a name, and names that hold the same text. Assumes nothing.
use Rattle.std.proofs.Common.{◌≡◌, ℕ, ◌+◌, ◌-◌, ◌<◌, ◌≤◌, true, ◌&&◌, eqb, leb, List, ◌++◌, length, get_or, take, drop, replicate, Decides, sym, refl, ap, ◌∙◌, ⊎_elim, arith}
use Rattle.std.proofs.lemmas.List.{get_or-take, get_or-drop, get_or-append_right, get_or_append_left, get_or-replicate, get_or_past, length-take-le, ext_get_or}
use Rattle.std.proofs.lemmas.List.Elements.{All-get_or, All-from_get_or}
use Rattle.std.proofs.lemmas.List.Sums.{AllPass-from_list_all, list_all-from_AllPass}
use Rattle.std.proofs.lemmas.Bool.{le-leb, leb-true, and_parts, and_from, cases_lt}
use Rattle.std.proofs.lemmas.Bool.Decides.{Decides-and, Decides-eqb}
use Rattle.std.proofs.lemmas.Slice.Eq.{slice_eq-Decides}
use Rattle.std.specs.Str.{bytes_eq}
use Rattle.heads.specs.Texts.{NameText, printable_byte, printable}
use Rattle.heads.specs.Names.{text_of}
use Rattle.heads.specs.declared.name.Name.{Name}

-- a byte that may stand in a name
abbrev ByteFits : ℕ → Type 0
ByteFits b = (32 ≤ b) × (b ≤ 126)

printable_all : (bs : List ℕ) → printable bs ≡ true → (k : ℕ) → k < length bs → ByteFits (get_or bs k 0)
printable_all bs e k h =
    let p = and_parts (leb 32 (get_or bs k 0)) (leb (get_or bs k 0) 126) (All-get_or (λ b. printable_byte b ≡ true) bs k 0 h (AllPass-from_list_all printable_byte bs e)) in (
      leb-true 32 (get_or bs k 0) p.0,
      leb-true (get_or bs k 0) 126 p.1,
    )

pub text_printable : (bs : List ℕ) → NameText bs → printable bs ≡ true
text_printable bs t =
    list_all-from_AllPass printable_byte bs
    (All-from_get_or (λ b. printable_byte b ≡ true) bs 0 (λ k h. and_from (leb 32 (get_or bs k 0)) (leb (get_or bs k 0) 126) (le-leb 32 (get_or bs k 0) (t.low k h)) (le-leb (get_or bs k 0) 126 (t.high k h))))

-- the text that every name holds is one that may be a name
pub name_text : (n : Name) → NameText (text_of n)
name_text n =
    let short : n.len ≤ length n.bytes = omega (arith, n.room, n.short) in
    let long : length (text_of n) ≡ n.len = length-take-le n.len n.bytes short in
    record {
      some = omega (arith, n.some, long);
      short = omega (arith, n.short, long);
      low = λ k h. let lt : k < n.len = omega (arith, long) in rw (get_or-take n.len n.bytes k 0 lt) (n.low k lt);
      high = λ k h. let lt : k < n.len = omega (arith, long) in rw (get_or-take n.len n.bytes k 0 lt) (n.high k);
    }

-- a text with noughts behind it
abbrev padded : List ℕ → List ℕ
padded text = text ++ drop (length text) (replicate 24 0)

noughts : (k : ℕ) → get_or (replicate {A = ℕ} 24 0) k 0 ≡ 0
noughts k = ⊎_elim (λ (lt : k < 24). get_or-replicate 24 k 0 0 lt) (λ (ge : 24 ≤ k). get_or_past (replicate 24 0) k 0 ge) (cases_lt k 24)

pub padded_behind : (text : List ℕ) (k : ℕ) → length text ≤ k → get_or (padded text) k 0 ≡ 0
padded_behind text k le =
    get_or-append_right text (drop (length text) (replicate 24 0)) (length text) k 0 refl le
    ∙ get_or-drop (length text) (replicate 24 0) (k - length text) 0
    ∙ noughts (length text + (k - length text))

pub padded_bytes : (text : List ℕ) → printable text ≡ true → (k : ℕ) → k < length text → ByteFits (get_or (padded text) k 0)
padded_bytes text p k lt = rw (get_or_append_left text (drop (length text) (replicate 24 0)) 0 k lt) (printable_all text p k lt)

pub padded_high : (text : List ℕ) → printable text ≡ true → (k : ℕ) → get_or (padded text) k 0 ≤ 126
padded_high text p k = ⊎_elim (λ (lt : k < length text). (padded_bytes text p k lt).1) (λ (le : length text ≤ k). omega (arith, padded_behind text k le)) (cases_lt k (length text))

-- names of one text have one length, and the same bytes
same_lens : (n m : Name) → text_of n ≡ text_of m → n.len ≡ m.len
same_lens n m e =
    sym (length-take-le n.len n.bytes (omega (arith, n.room, n.short))) ∙ ap (λ (t : List ℕ). length t) e ∙ length-take-le m.len m.bytes (omega (arith, m.room, m.short))

same_bytes : (n m : Name) → text_of n ≡ text_of m → n.bytes ≡ m.bytes
same_bytes n m e =
    let lens = same_lens n m e in
    ext_get_or 0 n.bytes m.bytes (n.room ∙ sym m.room)
    (λ k _. ⊎_elim
    (λ (lt : k < n.len). sym (get_or-take n.len n.bytes k 0 lt) ∙ ap (λ (t : List ℕ). get_or t k 0) e ∙ get_or-take m.len m.bytes k 0 (omega arith))
    (λ (le : n.len ≤ k). n.behind k le ∙ sym (m.behind k (omega arith)))
    (cases_lt k n.len))

-- names with the same bytes and length hold the same text, and only they do
pub same_names : (n m : Name) → Decides (bytes_eq n.bytes m.bytes && eqb n.len m.len) (text_of n ≡ text_of m)
same_names n m =
    let d = Decides-and _ _ (slice_eq-Decides Decides-eqb n.bytes m.bytes (bytes_eq n.bytes m.bytes) refl) (Decides-eqb n.len m.len) in (
      (λ e. let p = d.0 e in ap (λ (bs : List ℕ). take n.len bs) p.0 ∙ ap (λ (k : ℕ). take k m.bytes) p.1),
      (λ e. d.1 (same_bytes n m e, same_lens n m e)),
    )
