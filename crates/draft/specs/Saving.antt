-- What a saved draft is. Assumes nothing.
use Rattle.std.specs.Prelude.{◌≡◌, ℕ, ◌<◌, Bool, true, false, cond, not, ◌&&◌, List, map, length, is_some, Some, None, Ok, Err, Decides, Option, Result, MatchOption, nat_lt, slice_index_or}
use Rattle.std.specs.List.{list_any, range_with_len}
use Rattle.refusal.specs.Rows.{RowData, bare}
use Rattle.refusal.specs.Lowest.{lowest, Lowest}
use Rattle.ordered.specs.Members.{Among}
use Rattle.usage.specs.Groups.{GroupData, InOrder, drawn_all}
use Rattle.usage.specs.declared.refusing.Refusal.TheVariants.{OutOfRange}
use Rattle.prices.specs.Amounts.{fixed_part}
use Rattle.prices.specs.Tables.{TableData, has_price}
use Rattle.kinds.specs.Meanings.{plan_served, plan_drawn, plan_floor}
use Rattle.tree.specs.Trees.{is_under, seat_of, end_at, Seat, OnBranch}
use Rattle.draft.specs.declared.refusing.Refusal.{Refusal}
use Rattle.draft.specs.declared.refusing.Refusal.TheVariants.{Tariff, NoPrice}
use Rattle.draft.specs.Apart.{PriceAt}
use Rattle.draft.specs.Drafts.{DraftData, if_there}
use Rattle.draft.specs.Refusals.{names}
use Rattle.draft.specs.Rules.{unless}
use Rattle.draft.specs.Rows.{Answered}

-- Seat by seat, in words.

-- a node of this price is on the branch of the seat's end service
pub record PricedSeat (d : DraftData) (s p : ℕ) : Type 0 where
  pub end : ℕ
  pub node : ℕ
  pub seat : Seat d.parents end s
  pub on_branch : OnBranch d.parents node end
  pub priced : PriceAt d.prices node p

-- a seat has the price of the priced node on its branch, or none where there is no such node
abbrev pub SeatPrice : DraftData → ℕ → Option ℕ → Type 0
SeatPrice d s price = MatchOption price ((p : ℕ) → PricedSeat d s p → ⊥) (PricedSeat d s)

-- a draft saved with a fixed sum: 16 seats, each with its price, and the draft's groups by ascending order
pub record Saved (d : DraftData) (sum : ℕ) (t : TableData) : Type 0 where
  pub fixed : t.fixed ≡ sum
  pub seats : length t.prices ≡ 16
  pub prices : (s : ℕ) → SeatPrice d s (slice_index_or t.prices s None)
  pub one_price : (s p q : ℕ) (x : PricedSeat d s p) (y : PricedSeat d s q) → (x.node ≡ y.node) × (p ≡ q)
  pub served : (s : ℕ) → Decides (has_price t.prices s) ((p : ℕ) × PricedSeat d s p)
  pub groups : t.groups ≡ d.groups
  pub in_order : InOrder t.groups

-- an end service under a group has no price: its seat belongs to the group, and no node on its branch is priced
pub record LacksPrice (d : DraftData) (e : ℕ) : Type 0 where
  pub seat : ℕ
  pub seated : Seat d.parents e seat
  pub group : GroupData
  pub held : Among group d.groups
  pub member : slice_index_or group.members seat false ≡ true
  pub unpriced : (k p : ℕ) → OnBranch d.parents k e → PriceAt d.prices k p → ⊥

-- a row holds for saving as an option
pub data AddonRow (d : DraftData) (sum : ℕ) : RowData → Type 0 where
  -- 32: a sum outside its range
  high_sum : 1000000 < sum → AddonRow d sum (bare 32)

abbrev pub AddonAnswer : DraftData → ℕ → Result TableData Refusal → Type 0
AddonAnswer d sum r = Answered (AddonRow d sum) (Saved d sum) r

-- a row holds for saving as a plan
pub data PlanRow (d : DraftData) (sum : ℕ) : RowData → Type 0 where
  -- 32: a sum outside its range
  high_plan_sum : 1000000 < sum → PlanRow d sum (bare 32)
  -- 120: an end service under a group has no price; the lowest such node
  no_price : {e : ℕ} → Lowest (LacksPrice d) e → PlanRow d sum (names 120 e)

-- a saved plan: besides, each seat of each of its groups has a price; and it means what every plan of that table means
pub record SavedPlan (d : DraftData) (sum : ℕ) (t : TableData) : Type 0 where
  pub saved : Saved d sum t
  pub covered : (g : GroupData) (s : ℕ) → Among g t.groups → slice_index_or g.members s false ≡ true → plan_served t s ≡ true
  pub serves : (s : ℕ) → Decides (plan_served t s) ((p : ℕ) × PricedSeat d s p)
  pub draws : (us : List ℕ) → plan_drawn t us ≡ drawn_all d.groups us
  pub floor : plan_floor t ≡ fixed_part sum

abbrev pub PlanAnswer : DraftData → ℕ → Result TableData Refusal → Type 0
PlanAnswer d sum r = Answered (PlanRow d sum) (SavedPlan d sum) r

-- The same as a computation.

-- whether k is priced, and on the branch of an end service
abbrev pub covers : DraftData → ℕ → ℕ → Bool
covers d e k = is_some (slice_index_or d.prices k None) && is_under d.parents e k

-- the price at a node, if there is a node
abbrev pub price_there : List (Option ℕ) → Option ℕ → Option ℕ
price_there prices (Some k) = slice_index_or prices k None
price_there prices None = None

-- the price of an end service
abbrev pub end_price : DraftData → ℕ → Option ℕ
end_price d e = price_there d.prices (lowest (covers d e) (length d.parents))

-- the prices of the 16 seats
abbrev pub seat_prices : DraftData → List (Option ℕ)
seat_prices d = map (λ s. if_there None (end_price d) (end_at d.parents s)) (range_with_len 0 16)

abbrev pub saved_table : DraftData → ℕ → TableData
saved_table d sum = record { fixed = sum; prices = seat_prices d; groups = d.groups }

-- whether a seat belongs to one of the groups
abbrev pub in_group : ℕ → List GroupData → Bool
in_group s gs = list_any (λ g. slice_index_or g.members s false) gs

-- whether e is an end service without a price, under a group
abbrev pub lacks_price : DraftData → ℕ → Bool
lacks_price d e = if_there false (λ s. in_group s d.groups && not (is_some (end_price d e))) (seat_of d.parents e)

abbrev pub save_addon : DraftData → ℕ → Result TableData Refusal
save_addon d sum = cond (nat_lt 1000000 sum) (Err (Tariff OutOfRange)) (Ok (saved_table d sum))

abbrev pub save_plan : DraftData → ℕ → Result TableData Refusal
save_plan d sum =
    cond (nat_lt 1000000 sum) (Err (Tariff OutOfRange))
    (unless NoPrice (lowest (lacks_price d) (length d.parents))
    (Ok (saved_table d sum)))
