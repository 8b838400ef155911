-- Drafts of the worked examples. Assumes nothing.
use Rattle.std.specs.Prelude.{[], ◌∷◌, Ok, Err, Result}
use Rattle.draft.specs.declared.refusing.Refusal.{Refusal}
use Rattle.draft.specs.Drafts.{DraftData, empty_draft}
use Rattle.draft.specs.Rules.{enter_price, enter_group}

-- what follows, unless there was a refusal before
abbrev pub next : {X : Type 0} → Result DraftData Refusal → (DraftData → Result X Refusal) → Result X Refusal
next (Ok d) f = f d
next (Err e) f = Err e

-- nodes 1 and 2 under 0
abbrev pub fork : DraftData
fork = empty_draft (255 ∷ 0 ∷ 0 ∷ [])

-- nodes 1 and 2 under 0, and nodes 3 and 4: the end services 1 to 4 have seats 0 to 3
abbrev pub services : DraftData
services = empty_draft (255 ∷ 0 ∷ 0 ∷ 255 ∷ 255 ∷ [])

-- the plan of the pile: prices at nodes 1 and 2, and a group at the node above both
abbrev pub plan_draft : Result DraftData Refusal
plan_draft = next (next (enter_price services 1 1000) (λ d. enter_price d 2 2000)) (λ d. enter_group d 1 50 (0 ∷ []))

-- the option of the pile: prices at nodes 3 and 4, a group at nodes 2 and 3, and one at node 3
abbrev pub option_draft : Result DraftData Refusal
option_draft =
    next (next (next (enter_price services 3 1500) (λ d. enter_price d 4 5000))
    (λ d. enter_group d 1 500 (2 ∷ 3 ∷ []))) (λ d. enter_group d 2 10 (3 ∷ []))
