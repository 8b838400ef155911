-- What holds of every list that is shown, over any offers. Assumes nothing.
use Rattle.std.specs.Prelude.{◌≡◌, ℕ, ◌≤◌, List, length, take}
use Rattle.ordered.specs.Members.{Among}
use Rattle.stages.specs.declared.line.Line.{Line}
use Rattle.ranking.specs.Offers.{Offer, fitting, FloorsHold}
use Rattle.ranking.specs.Queues.{queue, queued_at}
use Rattle.ranking.specs.Costing.{Taken}
use Rattle.ranking.specs.Cheapest.{Ranking}
use Rattle.ranking.specs.Steps.{gathered, cut_lines}

-- the offers that are costed in turn, gathered and cut, are what a list answers
abbrev pub StepsShow : Type 0
StepsShow =
    (wanted : ℕ) (os : List Offer) (n : ℕ) → FloorsHold os → Taken wanted os (queue os) n
    → Ranking wanted os (cut_lines wanted (gathered os (take n (queue os)))) n

-- there is an answer, whatever the offers are
abbrev pub AnswerStands : Type 0
AnswerStands = (wanted : ℕ) (os : List Offer) → FloorsHold os → (ls : List Line) × (n : ℕ) × Ranking wanted os ls n

-- the answer is fixed: two that meet the relation are equal
abbrev pub AnswerFixed : Type 0
AnswerFixed =
    (wanted : ℕ) (os : List Offer) (ls ms : List Line) (m n : ℕ)
    → Ranking wanted os ls m → Ranking wanted os ms n → (ls ≡ ms) × (m ≡ n)

-- each offer shown was costed
abbrev pub LinesCosted : Type 0
LinesCosted =
    (wanted : ℕ) (os : List Offer) (ls : List Line) (n : ℕ) → FloorsHold os → Ranking wanted os ls n
    → (l : Line) → Among l ls → Among (queued_at os l.place) (take n (queue os))

-- no more offers are shown than costed, and no more costed than fit
abbrev pub CountsBounded : Type 0
CountsBounded =
    (wanted : ℕ) (os : List Offer) (ls : List Line) (n : ℕ) → FloorsHold os → Ranking wanted os ls n
    → (length ls ≤ n) × (n ≤ fitting os)
