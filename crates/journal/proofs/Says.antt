-- What one call answers, from what the catalogue and the list say. Assumes nothing.
use Rattle.std.proofs.Common.{◌≡◌, ℕ, List, length, Option, sym, subst}
use Rattle.refusal.specs.Rows.{RowData}
use Rattle.tariff.specs.Totals.{Meaning}
use Rattle.catalogue.specs.Books.{Book}
use Rattle.catalogue.specs.Calls.{Change, Judged}
use Rattle.catalogue.specs.Calls as book
use Rattle.stages.specs.declared.line.Line.{Line}
use Rattle.listing.specs.Enquiries.{EnquiryData}
use Rattle.listing.specs.Table.{ListNoCause, ListDeclined}
use Rattle.listing.specs.Answers.{ListShown}
use Rattle.journal.specs.Calls.{CallData, change, list, AnswerData, shown, refused, said_to}
use Rattle.journal.specs.Runs.{Answered, changed, listed, declined, list_declined, then, Extends}

module _ {T : Type 0} (m : Meaning T) where
  -- a change is answered as the book judges it
  pub judged_says : (b n : Book T) (c : Change T) (o : Option RowData) → Judged b c o n → Answered m b (change c) (said_to o (change c)) n
  judged_says b n c _ (book.done free step) = changed free step
  judged_says b n c _ (book.declined why) = declined why

  pub answered_by : (b n : Book T) (call : CallData T) (c : Change T) (o : Option RowData) (a : AnswerData T) → call ≡ change c → a ≡ said_to o (change c) → Judged b c o n → Answered m b call a n
  answered_by b n call c o a is said j =
      subst (λ (x : CallData T). Answered m b x a n) (sym is) (subst (λ (x : AnswerData T). Answered m b (change c) x n) (sym said) (judged_says b n c o j))

  -- a list is answered as the list says, and hands back the memory zs
  pub listed_by : (b : Book T) (call : CallData T) (q : EnquiryData) (xs ys zs : List Line) (n k : ℕ) → call ≡ list q xs → zs ≡ ys → ListNoCause (length b) (length xs) q → ListShown m b q xs n k ys
      → Answered m b call (shown n k zs) b
  listed_by b call q xs ys zs n k is back free shows =
      subst (λ (x : CallData T). Answered m b x (shown n k zs) b) (sym is) (subst (λ (ls : List Line). Answered m b (list q xs) (shown n k ls) b) (sym back) (listed free shows))

  pub unlisted_by : (b : Book T) (call : CallData T) (q : EnquiryData) (xs zs : List Line) (row r : RowData) → call ≡ list q xs → zs ≡ xs → r ≡ row → ListDeclined (length b) (length xs) q row
      → Answered m b call (refused r (list q zs)) b
  unlisted_by b call q xs zs row r is back same why =
      subst (λ (x : CallData T). Answered m b x (refused r (list q zs)) b) (sym is)
      (subst (λ (ls : List Line). Answered m b (list q xs) (refused r (list q ls)) b) (sym back)
      (subst (λ (x : RowData). Answered m b (list q xs) (refused x (list q xs)) b) (sym same) (list_declined why)))

  -- the call goes behind any run that led to the book before
  pub extends_by : (b n : Book T) (c : CallData T) (a : AnswerData T) → Answered m b c a n → Extends m b c a n
  extends_by b n c a h places cs answers r = then r h
