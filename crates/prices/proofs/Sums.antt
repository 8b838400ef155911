-- Sums over seats, and what has a price or a block, by their numbers. Assumes nothing.
use Rattle.std.proofs.Common.{◌≡◌, ℕ, zero, suc, ◌+◌, ◌*◌, ◌<◌, ◌≤◌, false, List, [], ◌∷◌, map, length, get_or, drop, replicate, is_some, Some, None, Option, refl, ap, mul-le-mul, arith, ◌∙◌, suc-mul}
use Rattle.std.proofs.lemmas.List.{drop_more, at_drop_all}
use Rattle.prices.specs.declared.amounts.UnitPrice.{UnitPrice}
use Rattle.prices.specs.declared.block.Block.{Block}
use Rattle.prices.specs.OverSeats.{over_seats, entry_cost}
use Rattle.prices.specs.Laws.{block_within}
use Rattle.prices.specs.Tables.{price_of, has_price, seat_cost, priced_cost, without_priced}
use Rattle.prices.specs.Blocks.{block_of, started, block_cost}

-- a sum over seats is the same by the numbers of what stands there
pub sum_by_data : {X Y : Type 0} (of : X → Y) (cost : Y → ℕ → ℕ) (own : X → ℕ → ℕ) → ((x : X) (u : ℕ) → own x u ≡ cost (of x) u)
    → (xs : List X) (us : List ℕ) → over_seats own xs us ≡ over_seats cost (map of xs) us
sum_by_data of cost own same [] us = refl
sum_by_data of cost own same (x ∷ xs) [] = refl
sum_by_data of cost own same (x ∷ xs) (u ∷ us) = ap (λ n. n + over_seats own xs us) (same x u) ∙ ap (λ n. cost (of x) u + n) (sum_by_data of cost own same xs us)

suc-mul-here : (n most : ℕ) → suc n * most ≡ most + n * most
suc-mul-here n most = rw suc-mul (omega arith)

-- a sum over seats stays within so much for each
pub sum_most : {X : Type 0} (cost : X → ℕ → ℕ) (most : ℕ) → ((x : X) (u : ℕ) → u ≤ 100000000 → cost x u ≤ most)
    → (xs : List X) (us : List ℕ) → ((k : ℕ) → get_or us k 0 ≤ 100000000) → over_seats cost xs us ≤ length us * most
sum_most cost most each [] us low = omega arith
sum_most cost most each (x ∷ xs) [] low = omega arith
sum_most cost most each (x ∷ xs) (u ∷ us) low =
    let more = sum_most cost most each xs us (λ k. low (suc k)) in
    omega (arith, each x u (low 0), suc-mul-here (length us) most)

module _ {X : Type 0} (cost : X → ℕ → ℕ) where
  -- one seat more
  pub sum_more : (xs : List X) (us : List ℕ) (i sum : ℕ) (d : X) → i < length xs → i < length us
      → sum + over_seats cost (drop i xs) (drop i us) ≡ over_seats cost xs us
      → (sum + cost (get_or xs i d) (get_or us i 0)) + over_seats cost (drop (i + 1) xs) (drop (i + 1) us) ≡ over_seats cost xs us
  sum_more xs us i sum d h k so =
      let e : over_seats cost (drop i xs) (drop i us) ≡ cost (get_or xs i d) (get_or us i 0) + over_seats cost (drop (i + 1) xs) (drop (i + 1) us) =
      rw (drop_more xs i d h, drop_more us i 0 k) in
      omega arith

  -- no seat left
  pub sum_all : (xs : List X) (us : List ℕ) (i sum : ℕ) → length xs ≤ i → sum + over_seats cost (drop i xs) (drop i us) ≡ over_seats cost xs us
      → sum ≡ over_seats cost xs us
  sum_all xs us i sum h so =
      let e : over_seats cost (drop i xs) (drop i us) ≡ 0 = at_drop_all (λ ys. over_seats cost ys (drop i us)) xs i h in
      omega arith

-- an entry costs the same by its numbers
pub price_same : (p : Option UnitPrice) (u : ℕ) → entry_cost (λ (q : UnitPrice) v. v * q.price) p u ≡ seat_cost (price_of p) u
price_same None u = refl
price_same (Some p) u = refl

pub block_same : (b : Option Block) (u : ℕ) → entry_cost (λ (d : Block) v. started v d.parts * (d.price.price * 1000)) b u ≡ block_cost (block_of b) u
block_same None u = refl
block_same (Some b) u = refl

-- a seat costs at most 100,000,000 parts at the highest price
pub seat_most : (p : Option UnitPrice) (u : ℕ) → u ≤ 100000000 → entry_cost (λ (q : UnitPrice) v. v * q.price) p u ≤ 100000000000000
seat_most None u h = omega arith
seat_most (Some p) u h = mul-le-mul h p.low

pub block_most : (b : Option Block) (u : ℕ) → u ≤ 100000000 → entry_cost (λ (d : Block) v. started v d.parts * (d.price.price * 1000)) b u ≤ 5000000000000000
block_most None u h = omega arith
block_most (Some b) u h = block_within b u (omega arith)

-- the seats that have a price, by their numbers
pub is_some_price : (ps : List (Option UnitPrice)) → map is_some ps ≡ map is_some (map price_of ps)
is_some_price [] = refl
is_some_price (None ∷ ps) = ap (λ bs. is_some {T = UnitPrice} None ∷ bs) (is_some_price ps)
is_some_price (Some p ∷ ps) = ap (λ bs. is_some (Some p) ∷ bs) (is_some_price ps)

-- with no prices nothing is priced, costs anything or is set to 0
pub nothing_priced : (n k : ℕ) → has_price (replicate n None) k ≡ false
nothing_priced zero k = refl
nothing_priced (suc n) zero = refl
nothing_priced (suc n) (suc k) = nothing_priced n k

pub nothing_costs : (n : ℕ) (us : List ℕ) → priced_cost (replicate n None) us ≡ 0
nothing_costs zero us = refl
nothing_costs (suc n) [] = refl
nothing_costs (suc n) (u ∷ us) = omega (arith, nothing_costs n us)

pub nothing_cleared : (n : ℕ) (us : List ℕ) → without_priced (replicate n None) us ≡ us
nothing_cleared zero us = refl
nothing_cleared (suc n) [] = refl
nothing_cleared (suc n) (u ∷ us) = ap (λ vs. u ∷ vs) (nothing_cleared n us)
