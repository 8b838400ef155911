-- What a call writes into the catalogue's memory. Assumes nothing.
use Rattle.std.specs.Prelude.{◌≡◌}
use Rattle.catalogue.specs.Calls.{Change, enter, publish, amend, delete}
use Rattle.catalogue.specs.Slots.{restated, redated}
use Rattle.catalogue.specs.Held.{WritesEntry, WritesSlot}
use Rattle.catalogue.specs.declared.memory.Catalogue.{Catalogue}
use Rattle.catalogue.specs.declared.slot.State.TheVariants.{Empty, Published}
use Rattle.journal.specs.Calls.{CallData, change, list, AnswerData, done, shown, refused}

-- a change that takes its step writes one slot, and entering one tariff; all other memory stays
abbrev pub Writes : {T : Type 0} → Catalogue T → Change T → Catalogue T → Type 0
Writes old (enter p h t) new = WritesEntry old new p h t
Writes old (publish p) new = WritesSlot old new p (restated Published)
Writes old (amend p d) new = WritesSlot old new p (redated d)
Writes old (delete p) new = WritesSlot old new p (restated Empty)

-- a list, and a declined call, leave the whole catalogue as it was
abbrev pub Stored : {T : Type 0} → Catalogue T → CallData T → AnswerData T → Catalogue T → Type 0
Stored old (change c) done new = Writes old c new
Stored old (change c) (shown n k ys) new = new ≡ old
Stored old (change c) (refused row d) new = new ≡ old
Stored old (list q xs) done new = new ≡ old
Stored old (list q xs) (shown n k ys) new = new ≡ old
Stored old (list q xs) (refused row d) new = new ≡ old
