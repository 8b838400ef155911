-- What a draft holds, and what an entry makes of it. Assumes nothing.
use Rattle.std.specs.Prelude.{ℕ, Bool, true, false, List, [], ◌∷◌, map, replicate, Some, None, Option, slice_set}
use Rattle.std.specs.List.{range_with_len, list_any}
use Rattle.ordered.specs.Members.{Among}
use Rattle.usage.specs.Groups.{GroupData, group_data, with_group}
use Rattle.usage.specs.Held.{held}
use Rattle.prices.specs.Tables.{price_data}
use Rattle.tree.specs.Trees.{is_under, end_at, Seat, OnBranch}
use Rattle.tree.specs.Held.{parents_of}
use Rattle.draft.specs.declared.draft.Draft.{Draft}

-- the parents of its tree; a unit price or none at each of 40 nodes; whether a group stands at each of them;
-- and its groups, seat by seat, by ascending order
pub record DraftData : Type 0 where
  pub parents : List ℕ
  pub prices : List (Option ℕ)
  pub grouped : List Bool
  pub groups : List GroupData

abbrev pub draft_data : Draft → DraftData
draft_data d = record { parents = parents_of d.tree; prices = price_data d.prices; grouped = d.grouped; groups = held d.groups }

-- a draft with nothing in it
abbrev pub empty_draft : List ℕ → DraftData
empty_draft ps = record { parents = ps; prices = replicate 40 None; grouped = replicate 40 false; groups = [] }

-- a price more
abbrev pub with_price : DraftData → ℕ → ℕ → DraftData
with_price d node price = record { parents = d.parents; prices = slice_set d.prices node (Some price); grouped = d.grouped; groups = d.groups }

-- the flags, and those of the nodes of a list set besides
abbrev pub flagged : List ℕ → List Bool → List Bool
flagged [] flags = flags
flagged (n ∷ ns) flags = flagged ns (slice_set flags n true)

-- whether one of the nodes is on the branch of an end service
abbrev pub under_some : List ℕ → List ℕ → ℕ → Bool
under_some ps ns e = list_any (λ n. is_under ps e n) ns

-- the value of a function at a number, if there is one, and another value if there is none
abbrev pub if_there : {V : Type 0} → V → (ℕ → V) → Option ℕ → V
if_there none f (Some k) = f k
if_there none f None = none

-- which of the 16 seats belong to a group at these nodes
abbrev pub members_of : List ℕ → List ℕ → List Bool
members_of ps ns = map (λ s. if_there false (under_some ps ns) (end_at ps s)) (range_with_len 0 16)

-- a seat belongs to a group with a node on its branch
pub record Member (ps ns : List ℕ) (s : ℕ) : Type 0 where
  pub end : ℕ
  pub node : ℕ
  pub seat : Seat ps end s
  pub listed : Among node ns
  pub on_branch : OnBranch ps node end

-- a group more, in its place by order
abbrev pub with_group_at : DraftData → ℕ → ℕ → List ℕ → DraftData
with_group_at d order units ns =
    record {
      parents = d.parents;
      prices = d.prices;
      grouped = flagged ns d.grouped;
      groups = with_group (group_data (members_of d.parents ns) units order) d.groups;
    }
