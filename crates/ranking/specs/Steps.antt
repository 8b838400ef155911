-- The steps of a listing. Assumes nothing.
use Rattle.std.specs.Prelude.{ℕ, List, [], ◌∷◌, take}
use Rattle.ordered.specs.Inserting.{insert}
use Rattle.stages.specs.declared.line.Line.{Line}
use Rattle.stages.specs.Lines.{line_of, earlier}
use Rattle.stages.specs.Cutting.{keeps}
use Rattle.ranking.specs.declared.queued.Queued.{Queued}
use Rattle.ranking.specs.Offers.{Offer, offer_at}

-- a place with its offer's total
abbrev pub line_at : List Offer → ℕ → Line
line_at os p = line_of p (offer_at os p).total

-- lines, and those of these offers, each put in its order after the other
abbrev pub gathered_on : List Offer → List Queued → List Line → List Line
gathered_on os [] ls = ls
gathered_on os (x ∷ xs) ls = gathered_on os xs (insert earlier (line_at os x.place) ls)

-- the lines of these offers, each put in its order after the other
abbrev pub gathered : List Offer → List Queued → List Line
gathered os xs = gathered_on os xs []

-- the lines that a cut keeps
abbrev pub cut_lines : ℕ → List Line → List Line
cut_lines wanted ls = take (keeps wanted ls) ls
