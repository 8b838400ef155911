-- The groups of one plan or option. Assumes nothing.
use Rattle.std.specs.Prelude.{ℕ, ◌<◌, Bool, not, cond, List, [], ◌∷◌, length, Some, None, Option, ◌==◌, nat_le, nat_lt, slice_index_or, slice_get}
use Rattle.std.specs.List.{list_all, list_any}
use Rattle.ordered.specs.Inserting.{insert}
use Rattle.usage.specs.Drawing.{drawn}
use Rattle.usage.specs.declared.group.Group.{Group}
use Rattle.usage.specs.declared.refusing.Refusal.{Refusal}
use Rattle.usage.specs.declared.refusing.Refusal.TheVariants.{EmptyGroup, OutOfRange, NinthGroup, OrderUsed}

-- a group by its values: which seats are members, whole units, order
pub record GroupData : Type 0 where
  pub members : List Bool
  pub units : ℕ
  pub order : ℕ

abbrev pub group_data : List Bool → ℕ → ℕ → GroupData
group_data ms u o = record { members = ms; units = u; order = o }

abbrev pub data_of : Group → GroupData
data_of g = group_data g.members.flags g.units g.order

-- no seat is a member
abbrev pub no_member : List Bool → Bool
no_member ms = list_all not ms

-- a group has this order
abbrev pub has_order : ℕ → List GroupData → Bool
has_order o gs = list_any (λ g. g.order == o) gs

-- why a group is refused by itself, the topmost cause first
abbrev pub shape_cause : GroupData → Option Refusal
shape_cause g = cond (no_member g.members) (Some EmptyGroup) (cond (nat_lt 1600000 g.units) (Some OutOfRange) None)

-- why one group more is refused, the topmost cause first
abbrev pub group_cause : List GroupData → GroupData → Option Refusal
group_cause gs g =
    cond (no_member g.members) (Some EmptyGroup)
    (cond (nat_lt 1600000 g.units) (Some OutOfRange)
    (cond (nat_le 8 (length gs)) (Some NinthGroup)
    (cond (has_order g.order gs) (Some OrderUsed) None)))

-- the first is drawn before the second
abbrev pub drawn_first : GroupData → GroupData → Bool
drawn_first g h = nat_lt g.order h.order

-- one group more, in its place by order
abbrev pub with_group : GroupData → List GroupData → List GroupData
with_group g gs = insert drawn_first g gs

-- the group at a place, counted from 0
abbrev pub group_at : List GroupData → ℕ → Option GroupData
group_at gs k = slice_get gs k

-- groups stand by ascending order, no two alike
abbrev pub InOrder : List GroupData → Type 0
InOrder gs = (i j : ℕ) (d : GroupData) → i < j → j < length gs → (slice_index_or gs i d).order < (slice_index_or gs j d).order

-- the list of uses after the groups were drawn, one after the other
abbrev pub drawn_all : List GroupData → List ℕ → List ℕ
drawn_all [] us = us
drawn_all (g ∷ gs) us = drawn_all gs (drawn g.members g.units us)
