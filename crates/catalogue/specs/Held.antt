-- The book that a catalogue's memory stands for, and what a call writes there. Assumes nothing.
use Rattle.std.specs.Prelude.{◌≡◌, ℕ, List, map, Some, vec_items, slice_set}
use Rattle.std.specs.List.{slice_get}
use Rattle.heads.specs.Rules.{HeadData}
use Rattle.catalogue.specs.declared.slot.State.TheVariants.{InWork}
use Rattle.catalogue.specs.declared.memory.Catalogue.{Catalogue}
use Rattle.catalogue.specs.Books.{Book}
use Rattle.catalogue.specs.Slots.{SlotData, slot_of, slot_data, book_of}

-- the slots in memory, those of empty places too
abbrev pub memory : {T : Type 0} → Catalogue T → List SlotData
memory m = map slot_data (vec_items m.slots)

-- the book that the memory stands for
abbrev pub held : {T : Type 0} → Catalogue T → Book T
held m = book_of (memory m) (vec_items m.tariffs)

-- entering writes one slot and one tariff; all others stay, those of empty places too
pub record WritesEntry {T : Type 0} (old new : Catalogue T) (p : ℕ) (h : HeadData) (t : T) : Type 0 where
  pub slots : memory new ≡ slice_set (memory old) p (slot_of InWork h)
  pub tariffs : vec_items new.tariffs ≡ slice_set (vec_items old.tariffs) p t

-- one slot is changed by f; all others stay, those of empty places too, and so does every tariff
pub record WritesSlot {T : Type 0} (old new : Catalogue T) (p : ℕ) (f : SlotData → SlotData) : Type 0 where
  pub was : SlotData
  pub found : slice_get (memory old) p ≡ Some was
  pub slots : memory new ≡ slice_set (memory old) p (f was)
  pub tariffs : new.tariffs ≡ old.tariffs
