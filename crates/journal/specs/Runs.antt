-- What every run of calls answers, by the book of the earlier calls. Assumes nothing.
use Rattle.std.specs.Prelude.{ℕ, List, [], ◌∷◌, ◌++◌, length}
use Rattle.refusal.specs.Rows.{RowData}
use Rattle.tariff.specs.Totals.{Meaning}
use Rattle.catalogue.specs.Books.{Book, all_empty}
use Rattle.catalogue.specs.Calls.{Change, NoCause, Step, Declined}
use Rattle.stages.specs.declared.line.Line.{Line}
use Rattle.listing.specs.Enquiries.{EnquiryData}
use Rattle.listing.specs.Table.{ListNoCause, ListDeclined}
use Rattle.listing.specs.Answers.{ListShown}
use Rattle.journal.specs.Calls.{CallData, change, list, AnswerData, done, shown, refused}

-- what a call on the book b is answered, and the book that it leaves
pub data Answered {T : Type 0} (m : Meaning T) (b : Book T) : CallData T → AnswerData T → Book T → Type 0 where
  -- a change with no cause takes its step
  changed : {c : Change T} {n : Book T} → NoCause b c → Step b c n → Answered m b (change c) done n
  -- a list with no cause shows the cheapest fitting offers of the book, which stays
  listed : {q : EnquiryData} {xs ys : List Line} {lines costed : ℕ} → ListNoCause (length b) (length xs) q → ListShown m b q xs lines costed ys
      → Answered m b (list q xs) (shown lines costed ys) b
  -- any other call is declined by the topmost row that holds, comes back as it was, and leaves the book
  declined : {c : Change T} {row : RowData} → Declined b c row → Answered m b (change c) (refused row (change c)) b
  list_declined : {q : EnquiryData} {xs : List Line} {row : RowData} → ListDeclined (length b) (length xs) q row → Answered m b (list q xs) (refused row (list q xs)) b

-- calls on a catalogue of so many places, opened empty, each on what the earlier ones left: their answers, and the book at the end
pub data Run {T : Type 0} (m : Meaning T) (places : ℕ) : List (CallData T) → List (AnswerData T) → Book T → Type 0 where
  opened : Run m places [] [] (all_empty places)
  then : {cs : List (CallData T)} {as' : List (AnswerData T)} {b n : Book T} {c : CallData T} {a : AnswerData T}
      → Run m places cs as' b → Answered m b c a n → Run m places (cs ++ c ∷ []) (as' ++ a ∷ []) n

-- a call and its answer go behind any run that led to the book before
abbrev pub Extends : {T : Type 0} → Meaning T → Book T → CallData T → AnswerData T → Book T → Type 0
Extends {T} m b c a n =
    (places : ℕ) (cs : List (CallData T)) (answers : List (AnswerData T)) → Run m places cs answers b → Run m places (cs ++ c ∷ []) (answers ++ a ∷ []) n
