-- What holds of every run. Assumes nothing.
use Rattle.std.specs.Prelude.{◌≡◌, ℕ, List, [], ◌∷◌, length}
use Rattle.refusal.specs.Rows.{RowData}
use Rattle.tariff.specs.Totals.{Meaning}
use Rattle.catalogue.specs.Books.{Book, Apart, SoundBook}
use Rattle.catalogue.specs.Calls.{DayFits}
use Rattle.ordered.specs.Members.{Among}
use Rattle.journal.specs.Calls.{CallData, change, list, AnswerData, done, shown, refused}
use Rattle.journal.specs.Runs.{Answered, Run}

-- a last day given by a call is at most 65,535
abbrev pub DaysFit : {T : Type 0} → CallData T → Type 0
DaysFit (change c) = DayFits c
DaysFit (list q xs) = Unit {0}

-- the calls whose answer is not a refusal
abbrev pub granted_calls : {T : Type 0} → List (CallData T) → List (AnswerData T) → List (CallData T)
granted_calls [] answers = []
granted_calls (c ∷ cs) [] = []
granted_calls (c ∷ cs) (done ∷ answers) = c ∷ granted_calls cs answers
granted_calls (c ∷ cs) (shown n k ys ∷ answers) = c ∷ granted_calls cs answers
granted_calls (c ∷ cs) (refused row d ∷ answers) = granted_calls cs answers

-- the answers that are no refusals
abbrev pub granted_answers : {T : Type 0} → List (AnswerData T) → List (AnswerData T)
granted_answers [] = []
granted_answers (done ∷ answers) = done ∷ granted_answers answers
granted_answers (shown n k ys ∷ answers) = shown n k ys ∷ granted_answers answers
granted_answers (refused row d ∷ answers) = granted_answers answers

pub record RunLaws {T : Type 0} (m : Meaning T) : Type 0 where
  -- at every book of a run, two published namesakes never share a day
  pub apart : (places : ℕ) (cs : List (CallData T)) (answers : List (AnswerData T)) (b : Book T) → Run m places cs answers b → Apart b
  -- and every head entered keeps the rules
  pub sound : (places : ℕ) (cs : List (CallData T)) (answers : List (AnswerData T)) (b : Book T) → ((c : CallData T) → Among c cs → DaysFit c) → Run m places cs answers b → SoundBook b
  -- and it has the number of places that were opened
  pub long : (places : ℕ) (cs : List (CallData T)) (answers : List (AnswerData T)) (b : Book T) → Run m places cs answers b → length b ≡ places
  -- every call has its answer
  pub paired : (places : ℕ) (cs : List (CallData T)) (answers : List (AnswerData T)) (b : Book T) → Run m places cs answers b → length cs ≡ length answers
  -- a declined call leaves the book as it was, and comes back as it was
  pub declined_stays : (b n : Book T) (c d : CallData T) (row : RowData) → Answered m b c (refused row d) n → (n ≡ b) × (d ≡ c)
  -- without its declined calls a run has the same other answers and ends in the same book
  pub struck : (places : ℕ) (cs : List (CallData T)) (answers : List (AnswerData T)) (b : Book T) → Run m places cs answers b → Run m places (granted_calls cs answers) (granted_answers answers) b
  -- what every call is answered and the book at the end are fixed by the calls and the number of places
  pub fixed : (places : ℕ) (cs : List (CallData T)) (answers others : List (AnswerData T)) (b n : Book T) → Run m places cs answers b → Run m places cs others n → (answers ≡ others) × (b ≡ n)
