-- Calls and answers, by their values. Assumes nothing.
use Rattle.std.specs.Prelude.{ℕ, List, Some, None, Ok, Err, vec_items, Option, Result}
use Rattle.refusal.specs.Rows.{RowData}
use Rattle.heads.specs.Heads.{raw_data}
use Rattle.catalogue.specs.Calls.{Change, enter, publish, amend, delete}
use Rattle.stages.specs.declared.line.Line.{Line}
use Rattle.listing.specs.Enquiries.{EnquiryData, enquiry_data}
use Rattle.journal.specs.declared.call.Call.{Call}
use Rattle.journal.specs.declared.call.Call.TheVariants.{Enter, Publish, Amend, Delete, List as Listing}
use Rattle.journal.specs.declared.call.Granted.{Granted}
use Rattle.journal.specs.declared.call.Granted.TheVariants.{Done, Shown}
use Rattle.journal.specs.declared.call.Declined.{Declined}
use Rattle.journal.specs.Refusals.{row_of}

-- a call: a change of the catalogue, or a list with the line memory that it is lent
pub data CallData (T : Type 0) : Type 0 where
  change : Change T → CallData T
  list : EnquiryData → List Line → CallData T

-- an answer: the step is taken; lines shown, offers costed and the line memory; or a row of the table, and the call back
pub data AnswerData (T : Type 0) : Type 0 where
  done : AnswerData T
  shown : ℕ → ℕ → List Line → AnswerData T
  refused : RowData → CallData T → AnswerData T

abbrev pub call_data : {T : Type 0} → Call T → CallData T
call_data (Enter p h t) = change (enter p (raw_data h) t)
call_data (Publish p) = change (publish p)
call_data (Amend p d) = change (amend p d)
call_data (Delete p) = change (delete p)
call_data (Listing q xs) = list (enquiry_data q) (vec_items xs)

-- the answer to a call, since antt has no name for an alias
abbrev pub Answer : Type 0 → Type 0
Answer T = Result Granted (Declined T)

-- what every answer says
abbrev pub answer_data : {T : Type 0} → Answer T → AnswerData T
answer_data (Ok Done) = done
answer_data (Ok (Shown n k ys)) = shown n k (vec_items ys)
answer_data (Err d) = refused (row_of d.refusal) (call_data d.call)

-- the answer to a call by what is said to it: the row that declines it, or None
abbrev pub said_to : {T : Type 0} → Option RowData → CallData T → AnswerData T
said_to None c = done
said_to (Some row) c = refused row c
