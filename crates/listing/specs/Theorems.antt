-- What holds of every list that is shown. Assumes nothing.
use Rattle.std.specs.Prelude.{◌≡◌, ℕ, ◌≤◌, List, map, take, IfOk, Result}
use Rattle.usage.specs.UsesLists.{UsesList}
use Rattle.tariff.specs.Totals.{Meaning}
use Rattle.catalogue.specs.Books.{Book}
use Rattle.ordered.specs.Members.{Among}
use Rattle.stages.specs.declared.line.Line.{Line}
use Rattle.listing.specs.declared.refusing.Refusal.{Refusal}
use Rattle.listing.specs.Enquiries.{EnquiryData}
use Rattle.listing.specs.Shown.{Shown}

-- two answers that show such a list have the same lines and the same count
abbrev pub ListFixed : {T : Type 0} → Meaning T → Book T → EnquiryData → Type 0
ListFixed m b q =
    (ls ms : List Line) (n k : ℕ) → Shown m b q ls n → Shown m b q ms k → (ls ≡ ms) × (n ≡ k)

-- no more lines are shown than offers costed, and no more offers are costed than there are places
abbrev pub ListBounded : ℕ → Result (ℕ × ℕ) Refusal → Type 0
ListBounded places r = IfOk r (λ p. (p.0 ≤ p.1) × (p.1 ≤ places))

-- every line shown is the place of one of the offers that were costed
abbrev pub LinesCosted : {T : Type 0} → Meaning T → Book T → EnquiryData → Type 0
LinesCosted m b q =
    UsesList q.estimate → (ls : List Line) (costed : ℕ) (shows : Shown m b q ls costed) (l : Line) → Among l ls
    → Among l.place (map (λ o. o.place) (take costed shows.count.offers))
