-- The search for the lowest published namesake that shares a day, as a computation. Assumes nothing.
use Rattle.std.specs.Prelude.{ℕ, suc, Bool, false, cond, not, ◌&&◌, List, [], ◌∷◌, Some, None, Option, ◌==◌, nat_le}
use Rattle.std.specs.Str.{bytes_eq}
use Rattle.heads.specs.Rules.{HeadData}
use Rattle.catalogue.specs.declared.slot.State.{State}
use Rattle.catalogue.specs.declared.slot.State.TheVariants.{Empty, InWork, Published}
use Rattle.catalogue.specs.Slots.{SlotData}

-- whether some day is on both heads
abbrev pub spans_meet : HeadData → HeadData → Bool
spans_meet h k = (nat_le h.first h.last && nat_le k.first k.last) && (nat_le h.first k.last && nat_le k.first h.last)

-- whether two heads are namesakes that share a day
unfoldable pub rivals : HeadData → HeadData → Bool
rivals h k = (h.supplier == k.supplier && bytes_eq h.name k.name) && spans_meet h k

abbrev pub bars_by : HeadData → State → HeadData → Bool
bars_by h Empty k = false
bars_by h InWork k = false
bars_by h Published k = rivals h k

abbrev pub bars_slot : HeadData → SlotData → Bool
bars_slot h s = bars_by h s.state s.head

-- the first place but p, counted from i, whose item passes a test
abbrev pub first_other : {X : Type 0} → (X → Bool) → List X → ℕ → ℕ → Option ℕ
first_other test [] i p = None
first_other test (x ∷ xs) i p = cond (not (i == p) && test x) (Some i) (first_other test xs (suc i) p)
