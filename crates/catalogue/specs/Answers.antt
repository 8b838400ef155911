-- What an answer tells: the row that declines, or None. Assumes nothing.
use Rattle.std.specs.Prelude.{Some, None, Ok, Err, Option, Result}
use Rattle.refusal.specs.Rows.{RowData}
use Rattle.catalogue.specs.Refusals.{row_of}
use Rattle.catalogue.specs.declared.refusing.Refusal.{Refusal}

abbrev pub told : {X : Type 0} → Result X Refusal → Option RowData
told (Ok x) = None
told (Err e) = Some (row_of e)

-- the same where what was handed in comes back with the refusal
abbrev pub told_back : {X Y : Type 0} → Result X (Refusal × Y) → Option RowData
told_back (Ok x) = None
told_back (Err e) = Some (row_of e.0)
