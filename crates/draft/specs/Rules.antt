-- What a draft answers to an entry, as a computation. Assumes nothing.
use Rattle.std.specs.Prelude.{ℕ, Bool, false, cond, not, ◌&&◌, List, length, is_some, Some, None, Ok, Err, Option, Result, ◌==◌, nat_le, nat_lt, slice_index_or}
use Rattle.std.specs.List.{list_any}
use Rattle.refusal.specs.Lowest.{lowest}
use Rattle.usage.specs.Groups.{group_data, group_cause}
use Rattle.usage.specs.declared.refusing.Refusal.TheVariants.{OutOfRange}
use Rattle.tree.specs.Trees.{among, share_branch}
use Rattle.draft.specs.declared.refusing.Refusal.{Refusal}
use Rattle.draft.specs.declared.refusing.Refusal.TheVariants.{NoSuchNode, Tariff, BranchPriced, BranchShared}
use Rattle.draft.specs.Drafts.{DraftData, with_price, flagged, members_of, with_group_at}

-- an answer, with a function applied to the value of an Ok
abbrev pub map_ok : {D M E : Type 0} → (D → M) → Result D E → Result M E
map_ok f (Ok d) = Ok (f d)
map_ok f (Err e) = Err e

-- an answer, unless there is a cause against it
abbrev pub unless : {X M : Type 0} → (X → Refusal) → Option X → Result M Refusal → Result M Refusal
unless why (Some x) r = Err (why x)
unless why None r = r

-- whether k is priced, and on one of the branches of a node
abbrev pub priced_on_branch : DraftData → ℕ → ℕ → Bool
priced_on_branch d node k = is_some (slice_index_or d.prices k None) && share_branch d.parents k node

-- a price at a node
abbrev pub enter_price : DraftData → ℕ → ℕ → Result DraftData Refusal
enter_price d node price =
    cond (nat_le (length d.parents) node) (Err NoSuchNode)
    (cond (nat_lt 1000000 price) (Err (Tariff OutOfRange))
    (unless BranchPriced (lowest (priced_on_branch d node) (length d.parents))
    (Ok (with_price d node price))))

-- whether a list has a number that is no node of a tree with so many
abbrev pub strays : ℕ → List ℕ → Bool
strays count ns = list_any (λ n. nat_le count n) ns

-- whether m is another flagged node than n, and shares a branch with it
abbrev pub meets : List ℕ → List Bool → ℕ → ℕ → Bool
meets ps flags n m = not (m == n) && (slice_index_or flags m false && share_branch ps n m)

-- whether n is one of these nodes, and shares a branch with another flagged node
abbrev pub shares : List ℕ → List Bool → List ℕ → ℕ → Bool
shares ps flags ns n = among n ns && is_some (lowest (meets ps flags n) (length ps))

-- a group at nodes; those of this and the earlier groups are flagged
abbrev pub enter_group : DraftData → ℕ → ℕ → List ℕ → Result DraftData Refusal
enter_group d order units ns =
    cond (strays (length d.parents) ns) (Err NoSuchNode)
    (unless Tariff (group_cause d.groups (group_data (members_of d.parents ns) units order))
    (unless BranchShared (lowest (shares d.parents (flagged ns d.grouped) ns) (length d.parents))
    (Ok (with_group_at d order units ns))))
