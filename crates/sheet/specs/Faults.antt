-- The number of each fault, and its values: those of the draft's refusal, the byte and the layer. Assumes nothing.
use Rattle.std.specs.Prelude.{ℕ, [], ◌∷◌, ◌++◌, Ok, Err, Result}
use Rattle.refusal.specs.Rows.{RowData}
use Rattle.refusal.specs.declared.value.Value.TheVariants.{Byte, Layer}
use Rattle.refusal.specs.declared.value.Layer.TheVariants.{Draft as LayerDraft}
use Rattle.cursor.specs.Faults.{row_of as layout_row}
use Rattle.draft.specs.declared.refusing.Refusal.{Refusal}
use Rattle.draft.specs.Refusals.{row_of as draft_row}
use Rattle.sheet.specs.declared.fault.Fault.{Fault}
use Rattle.sheet.specs.declared.fault.Fault.TheVariants.{Layout, Draft}

-- a row with a byte and the draft's layer behind its own values
abbrev pub at_entry : RowData → ℕ → RowData
at_entry row byte = record { number = row.number; values = row.values ++ (Byte byte ∷ (Layer LayerDraft ∷ [])) }

abbrev pub row_of : Fault → RowData
row_of (Layout fault) = layout_row fault
row_of (Draft refusal byte) = at_entry (draft_row refusal) byte

-- a draft's answer, with the byte that a refusal names
abbrev pub with_byte : {V : Type 0} → ℕ → Result V Refusal → Result V Fault
with_byte byte (Ok v) = Ok v
with_byte byte (Err e) = Err (Draft e byte)
