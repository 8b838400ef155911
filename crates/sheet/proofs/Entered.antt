-- An entry that is read to its end, and the draft's answer to it. Assumes nothing.
use Rattle.std.proofs.Common.{◌≡◌, ℕ, List, Ok, Err, Result, refl}
use Rattle.std.specs.Borrow.{Bor}
use Rattle.cursor.specs.declared.part.Part.{Part}
use Rattle.cursor.specs.Parts.{cut}
use Rattle.cursor.specs.Readings.{Got, Answers, value, fault, field, ranged, run}
use Rattle.draft.specs.declared.refusing.Refusal.{Refusal}
use Rattle.draft.specs.Drafts.{DraftData}
use Rattle.draft.specs.Rules.{map_ok, enter_price, enter_group}
use Rattle.sheet.specs.declared.fault.Fault.{Fault}
use Rattle.sheet.specs.Faults.{with_byte}
use Rattle.sheet.specs.Layout.{answered, priced, price_entry, grouped, group_entry}

-- the price stands in the same bytes as the node
pub price_is : (d : DraftData) (sheet rest : Bor (List ℕ)) (at m n node price : ℕ) (r : Result DraftData Refusal) →
    field 1 sheet.now at ≡ value node m → rest ≡ sheet → field 4 rest.now m ≡ value price n → r ≡ enter_price d node price →
    price_entry d sheet.now at ≡ answered at r sheet.now n
unfolding priced
price_is d sheet rest at m n node price r a s b e =
    let f : field 4 sheet.now m ≡ value price n = simp s at b in
    rw (a, f, e) refl

pub group_is : (d : DraftData) (xs ns : List ℕ) (at m n o p order units count : ℕ) (nodes : Part) (r : Result DraftData Refusal) →
    field 1 xs at ≡ value order m → field 4 xs m ≡ value units n → ranged 1 1 40 xs n ≡ value count o → run count xs o ≡ value nodes p →
    ns ≡ cut nodes xs → r ≡ enter_group d order units ns →
    group_entry d xs at ≡ answered at r xs p
unfolding grouped
group_is d xs ns at m n o p order units count nodes r a b c f g e = rw (a, b, c, f, e, g) refl

-- what a reading gives where a call answers so
abbrev pub got : {E V : Type 0} → Result V E → ℕ → Got E V
got (Ok v) n = value v n
got (Err e) n = fault e

pub answered_is : {D M : Type 0} (see : D → M) (byte n : ℕ) (xs : List ℕ) (r : Result D Refusal) (s : Result D Fault) → s ≡ with_byte byte r → answered byte (map_ok see r) xs n ≡ got (map_ok see s) n
answered_is see byte n xs (Ok d) s e = rw e refl
answered_is see byte n xs (Err f) s e = rw e refl

pub got_answers : {E V : Type 0} (r : Result V E) (n : ℕ) → Answers r (got r n)
got_answers (Ok v) n = (n, refl)
got_answers (Err e) n = refl
