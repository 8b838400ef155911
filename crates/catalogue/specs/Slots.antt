-- What the slots in memory hold, and the book that slots and tariffs stand for. Assumes nothing.
use Rattle.std.specs.Prelude.{ℕ, List, [], ◌∷◌}
use Rattle.heads.specs.Rules.{HeadData, ending}
use Rattle.heads.specs.Heads.{head_data}
use Rattle.catalogue.specs.declared.slot.Slot.{Slot}
use Rattle.catalogue.specs.declared.slot.State.{State}
use Rattle.catalogue.specs.declared.slot.State.TheVariants.{Empty, InWork, Published}
use Rattle.catalogue.specs.Books.{Place, empty, in_work, published, Book}

-- a slot by its values
pub record SlotData : Type 0 where
  pub state : State
  pub head : HeadData

abbrev pub slot_of : State → HeadData → SlotData
slot_of s h = record { state = s; head = h }

abbrev pub slot_data : Slot → SlotData
slot_data s = slot_of s.state (head_data s.head)

-- a slot with another state, its head left
abbrev pub restated : State → SlotData → SlotData
restated st s = slot_of st s.head

abbrev pub emptied : SlotData → SlotData
emptied s = restated Empty s

-- a slot with another last day
abbrev pub redated : ℕ → SlotData → SlotData
redated d s = slot_of s.state (ending s.head d)

-- what a slot and a tariff stand for: those of an empty place do not matter
abbrev pub place_by : {T : Type 0} → State → HeadData → T → Place T
place_by Empty h t = empty
place_by InWork h t = in_work h t
place_by Published h t = published h t

abbrev pub book_of : {T : Type 0} → List SlotData → List T → Book T
book_of [] ts = []
book_of (s ∷ ss) [] = []
book_of (s ∷ ss) (t ∷ ts) = place_by s.state s.head t ∷ book_of ss ts
