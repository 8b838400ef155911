-- The sections of a sheet, one behind the other. Assumes nothing.
use Rattle.std.proofs.Common.{◌≡◌, ℕ, List, Result, refl, arith}
use Rattle.std.proofs.lemmas.Bool.Decides.{nat_tests}
use Rattle.cursor.specs.declared.part.Part.{Part}
use Rattle.cursor.specs.Readings.{Answers, Got, value, onward, text, ended}
use Rattle.prices.specs.Tables.{TableData}
use Rattle.draft.specs.Drafts.{DraftData}
use Rattle.sheet.specs.declared.fault.Fault.{Fault}
use Rattle.sheet.specs.Layout.{HeadValues, laid, front, prices, groups, saved, plan, whole}

-- the end moves nothing
pub ended_stays : (xs : List ℕ) (at next : ℕ) (u : Unit {0}) → laid ended xs at ≡ value u next → next ≡ at
ended_stays xs at next u e = grind (arith, nat_tests)

-- an answer to a reading that equals another is one to the other
pub answers_to : {E V : Type 0} (r : Result V E) (g h : Got E V) → h ≡ g → Answers r g → Answers r h
answers_to r g h e a = rw e a

pub plan_answers : (sum : ℕ) (d e f : DraftData) (xs : List ℕ) (at m n k : ℕ) (u : Unit {0}) (r : Result TableData Fault) →
    prices d xs at ≡ value e m → groups e xs m ≡ value f n → laid ended xs n ≡ value u k → Answers r (saved sum f xs n) →
    Answers r (plan sum d xs at)
plan_answers sum d e f xs at m n k u r a b c h =
    let z : laid ended xs n ≡ value u n = rw (ended_stays xs n k u c) at c in
    let g : plan sum d xs at ≡ saved sum f xs n = rw (a, b, z) refl in
    answers_to r (saved sum f xs n) (plan sum d xs at) g h

-- what stands behind head and texts decides the whole
pub whole_is : (d : DraftData) (xs : List ℕ) (at m n k : ℕ) (head : HeadValues) (name link : Part) (g : Got Fault TableData) →
    laid front xs at ≡ value head m → laid (text 24) xs m ≡ value name n → laid (text 64) xs n ≡ value link k → plan head.sum d xs k ≡ g →
    whole d xs at ≡ onward g (λ table p. value (record { head = head; name = name; link = link; plan = table }) p)
whole_is d xs at m n k head name link g a b c e = rw (a, b, c, e) refl
