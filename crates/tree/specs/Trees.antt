-- The service tree, as the list of its nodes' parents: the parent of node n stands at place n, and 255 stands for none.
-- Assumes nothing.
use Rattle.std.specs.Prelude.{◌≡◌, ℕ, zero, suc, ◌<◌, ◌≤◌, Bool, cond, not, ◌&&◌, ◌||◌, List, length, Some, None, Option, ◌==◌, ◌≢◌, nat_lt, slice_index_or}
use Rattle.std.specs.List.{list_any, count_by, range_with_len}
use Rattle.refusal.specs.Lowest.{lowest}

-- the parent of a node, or 255; what is no node has none
abbrev pub parent : List ℕ → ℕ → ℕ
parent ps n = slice_index_or ps n 255

-- the same as an answer: none where there is no such node, or it has no parent
abbrev pub parent_of : List ℕ → ℕ → Option ℕ
parent_of ps n = cond (parent ps n == 255) None (Some (parent ps n))

-- where so many steps up from a node lead, each to the parent
abbrev pub climb : ℕ → List ℕ → ℕ → ℕ
climb zero ps n = n
climb (suc k) ps n = climb k ps (parent ps n)

-- a climb from n leads to a
abbrev pub Leads : List ℕ → ℕ → ℕ → Type 0
Leads ps n a = (k : ℕ) × (climb k ps n ≡ a)

-- the node n is the node a, or is under it: a climb from n leads to a
pub record Under (ps : List ℕ) (n a : ℕ) : Type 0 where
  pub node : n < length ps
  pub above : a < length ps
  pub leads : Leads ps n a

-- an end service is a node without children
pub record EndService (ps : List ℕ) (e : ℕ) : Type 0 where
  pub node : e < length ps
  pub childless : (n : ℕ) → n < length ps → parent ps n ≢ e

-- the node n is on the branch of the end service e: the path that leads down to e from a top node
pub record OnBranch (ps : List ℕ) (n e : ℕ) : Type 0 where
  pub end_service : EndService ps e
  pub under : Under ps e n

-- two nodes share a branch: that of some end service
pub record ShareBranch (ps : List ℕ) (a b : ℕ) : Type 0 where
  pub end : ℕ
  pub one : OnBranch ps a end
  pub other : OnBranch ps b end

-- whether a number is in a list; in a list of parents, whether it is a parent
abbrev pub among : ℕ → List ℕ → Bool
among n ps = list_any (λ p. p == n) ps

-- of the numbers below n, how many are no parent: up to the number of nodes, the end services
abbrev pub ends_below : ℕ → List ℕ → ℕ
ends_below n ps = count_by (λ k. not (among k ps)) (range_with_len 0 n)

-- the end service e has the seat s: so many end services are numbered lower
pub record Seat (ps : List ℕ) (e s : ℕ) : Type 0 where
  pub end_service : EndService ps e
  pub ends_lower : ends_below e ps ≡ s

-- the end services have the seats from 0 to below `seats`, by ascending number
pub record Seating (ps : List ℕ) (seats : ℕ) : Type 0 where
  pub seated : (e s : ℕ) → Seat ps e s → s < seats
  pub taken : (s : ℕ) → s < seats → (e : ℕ) × Seat ps e s
  pub ascending : (e f s t : ℕ) → Seat ps e s → Seat ps f t → e < f → s < t

-- each parent is numbered lower than its node, or there is none
abbrev pub Lower : List ℕ → Type 0
Lower ps = (n : ℕ) → n < length ps → (parent ps n ≢ 255) → parent ps n < n

-- the same as a test of a node and its parent
abbrev pub lower_at : ℕ × ℕ → Bool
lower_at x = x.1 == 255 || nat_lt x.1 x.0

-- the rule of a tree: 1 to 40 nodes, parents numbered lower, at most 16 end services
pub record TreeRule (ps : List ℕ) : Type 0 where
  pub some : 1 ≤ length ps
  pub few : length ps ≤ 40
  pub lower : Lower ps
  pub seats : ends_below (length ps) ps ≤ 16

-- The same relations as tests, which the draft's rules compute with; the functions of the tree are proved to answer
-- both.

-- whether at most f steps up from n lead to a
abbrev pub climbs : ℕ → List ℕ → ℕ → ℕ → Bool
climbs zero ps a n = n == a
climbs (suc f) ps a n = n == a || climbs f ps a (parent ps n)

-- whether n is a or under it; no climb in a tree has more than 40 steps
unfoldable pub is_under : List ℕ → ℕ → ℕ → Bool
is_under ps n a = nat_lt n (length ps) && (nat_lt a (length ps) && climbs 40 ps a n)

-- whether two nodes share a branch: one is under the other
unfoldable pub share_branch : List ℕ → ℕ → ℕ → Bool
share_branch ps a b = is_under ps a b || is_under ps b a

-- whether a number is an end service
abbrev pub is_end : List ℕ → ℕ → Bool
is_end ps n = nat_lt n (length ps) && not (among n ps)

-- the seat of a node, if it is an end service
abbrev pub seat_of : List ℕ → ℕ → Option ℕ
seat_of ps n = cond (is_end ps n) (Some (ends_below n ps)) None

-- whether a node n is the end service of a seat
abbrev pub has_seat : List ℕ → ℕ → ℕ → Bool
has_seat ps s n = not (among n ps) && ends_below n ps == s

-- the end service of a seat, if there is one
abbrev pub end_at : List ℕ → ℕ → Option ℕ
end_at ps s = lowest (has_seat ps s) (length ps)
