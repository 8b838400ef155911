-- Worked examples of lists, and of namesakes. Assumes nothing.
use Rattle.std.specs.Prelude.{ℕ, suc, true, List, [], ◌∷◌, replicate}
use Rattle.tariff.specs.Totals.{Meaning}
use Rattle.heads.specs.Rules.{HeadData, head_of}
use Rattle.catalogue.specs.Books.{Book, in_work, published}
use Rattle.stages.specs.declared.line.Line.{Line}
use Rattle.listing.specs.Enquiries.{EnquiryData}
use Rattle.listing.specs.Shown.{Shown}

-- a tariff that has this floor and charges this total, whatever is used
pub record Sums : Type 0 where
  pub floor : ℕ
  pub total : ℕ

abbrev pub sums : ℕ → ℕ → Sums
sums f t = record { floor = f; total = t }

abbrev pub sums_mean : Meaning Sums
sums_mean = record { served = λ t k. true; drawn = λ t us. us; charged = λ t us. t.total; floor = λ t. t.floor }

-- a fixed subscription of this supplier, named A, from day 0 on
abbrev pub head : ℕ → HeadData
head supplier = head_of supplier (65 ∷ []) 1 1 0 0 65535

-- these tariffs published, each by a supplier with the number of its place
abbrev pub book_from : ℕ → List Sums → Book Sums
book_from p [] = []
book_from p (t ∷ ts) = published (head p) t ∷ book_from (suc p) ts

abbrev pub book : List Sums → Book Sums
book ts = book_from 0 ts

-- so many totals on day 0, for an estimate of noughts
abbrev pub asked : ℕ → EnquiryData
asked n = record { day = 0; network = 0; contract = 0; term = 60; length = n; estimate = replicate 16 0 }

-- the list of that length shows these lines, and costs so many offers
abbrev pub Lists : List Sums → ℕ → List Line → ℕ → Type 0
Lists ts n ls costed = Shown sums_mean (book ts) (asked n) ls costed

-- totals of 5, 5 and 7
abbrev pub fives : List Sums
fives = sums 5 5 ∷ sums 5 5 ∷ sums 7 7 ∷ []

-- floors of 3, 5 and 9 with totals of 8, 6 and 9; and the same with a third floor and total of 8
abbrev pub nines : List Sums
nines = sums 3 8 ∷ sums 5 6 ∷ sums 9 9 ∷ []

abbrev pub eights : List Sums
eights = sums 3 8 ∷ sums 5 6 ∷ sums 8 8 ∷ []

-- a head of one name and supplier, for these days
abbrev pub days : ℕ → ℕ → HeadData
days f l = head_of 7 (65 ∷ []) 1 1 0 f l

-- one published for days 10 to 20, its namesake in work for these days
abbrev pub namesakes : ℕ → ℕ → Book ℕ
namesakes f l = published (days 10 20) 0 ∷ in_work (days f l) 0 ∷ []
