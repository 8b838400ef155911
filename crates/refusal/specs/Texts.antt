-- How refusals and their values are printed. Assumes nothing.
use Rattle.std.specs.Prelude.{ℕ, List, [], ◌++◌, codes, decimal, Option, Some, None}
use Rattle.refusal.specs.declared.value.Value.{Value}
use Rattle.refusal.specs.declared.value.Value.TheVariants.{Place, Node, Byte, Layer}
use Rattle.refusal.specs.Rows.{RowData, value_at}
use Rattle.refusal.specs.Layers.{layer_number}

-- a word and a number
abbrev numbered : List ℕ → ℕ → List ℕ
numbered word n = word ++ decimal n

abbrev pub value_text : Value → List ℕ
value_text (Place n) = numbered (codes "place ") n
value_text (Node n) = numbered (codes "node ") n
value_text (Byte n) = numbered (codes "byte ") n
value_text (Layer l) = numbered (codes "layer ") (layer_number l)

-- a value behind a blank, or nothing
abbrev pub behind_blank : Option Value → List ℕ
behind_blank None = []
behind_blank (Some value) = codes " " ++ value_text value

-- a row: its number, and its first three values
abbrev pub row_text : RowData → List ℕ
row_text row =
    decimal row.number ++ (behind_blank (value_at row.values 0) ++ (behind_blank (value_at row.values 1) ++ behind_blank (value_at row.values 2)))
