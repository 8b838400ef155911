-- The number of each fault, with its byte and the layout's layer. Assumes nothing.
use Rattle.std.specs.Prelude.{ℕ, [], ◌∷◌}
use Rattle.refusal.specs.Rows.{RowData}
use Rattle.refusal.specs.declared.value.Value.TheVariants.{Byte, Layer}
use Rattle.refusal.specs.declared.value.Layer.TheVariants.{Layout}
use Rattle.cursor.specs.declared.fault.Fault.{Fault}
use Rattle.cursor.specs.declared.fault.Fault.TheVariants.{EndsEarly, AgainstRule, BytesLeft}

-- a fault of the layout at a byte
abbrev pub at_byte : ℕ → ℕ → RowData
at_byte number byte = record { number = number; values = Byte byte ∷ (Layer Layout ∷ []) }

abbrev pub row_of : Fault → RowData
row_of (EndsEarly length) = at_byte 40 length
row_of (AgainstRule byte) = at_byte 42 byte
row_of (BytesLeft byte) = at_byte 44 byte
