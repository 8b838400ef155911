-- Which offers are costed, and how many. Assumes nothing.
use Rattle.std.specs.Prelude.{◌≡◌, ℕ, ◌<◌, ◌≤◌, Bool, ◌&&◌, ◌⊎◌, List, map, length, take, nat_le, nat_lt, slice_index_or}
use Rattle.ordered.specs.Ascending.{all}
use Rattle.ordered.specs.Members.{Among}
use Rattle.stages.specs.declared.line.Line.{Line}
use Rattle.stages.specs.Cutting.{neighbouring}
use Rattle.ranking.specs.declared.queued.Queued.{Queued}
use Rattle.ranking.specs.Offers.{Offer, offer_at}
use Rattle.ranking.specs.Totals.{different}
use Rattle.ranking.specs.Queues.{queued_of, LinedUp}

-- taking ends before an offer of the floor f: the totals gathered include as many different ones as wanted, and f exceeds them all
abbrev pub Ends : ℕ → List ℕ → ℕ → Type 0
Ends wanted ts f = (wanted ≤ different ts) × ((t : ℕ) → Among t ts → t < f)

-- the totals of these offers
abbrev pub totals_of : List Offer → List Queued → List ℕ
totals_of os = map (λ x. (offer_at os x.place).total)

-- taking ends before the offer at k in the queue q
abbrev pub EndsBefore : ℕ → List Offer → List Queued → ℕ → Type 0
EndsBefore wanted os q k = Ends wanted (totals_of os (take k q)) (slice_index_or q k (queued_of 0 0)).floor

-- the first n of the queue q are costed: taking goes on before each of them, and then the queue is done or taking ends
pub record Taken (wanted : ℕ) (os : List Offer) (q : List Queued) (n : ℕ) : Type 0 where
  pub within : n ≤ length q
  pub goes_on : (k : ℕ) → k < n → EndsBefore wanted os q k → ⊥
  pub ends : (n ≡ length q) ⊎ EndsBefore wanted os q n

-- n offers are costed
pub record Counted (wanted : ℕ) (os : List Offer) (n : ℕ) : Type 0 where
  pub in_turn : List Queued
  pub is_queue : LinedUp os in_turn
  pub taken : Taken wanted os in_turn n

-- a line's total is below the floor
abbrev pub under : ℕ → Line → Bool
under f l = nat_lt l.total f

-- the test by which taking ends
abbrev pub over : ℕ → ℕ → List Line → Bool
over wanted f ls = nat_le wanted (neighbouring ls) && all (under f) ls
