-- The fitting offers by ascending floor, then place. Assumes nothing.
use Rattle.std.specs.Prelude.{◌≡◌, ℕ, zero, suc, Bool, true, cond, ◌&&◌, ◌||◌, List, [], length, ◌==◌, nat_lt}
use Rattle.ordered.specs.Inserting.{insert}
use Rattle.ordered.specs.Ascending.{ascending}
use Rattle.ordered.specs.Members.{Among}
use Rattle.ranking.specs.declared.queued.Queued.{Queued}
use Rattle.ranking.specs.Offers.{Offer, offer_at, Fitting}

-- the first is costed before the second: a smaller floor, or an equal floor and a smaller place
abbrev pub sooner : Queued → Queued → Bool
sooner x y = nat_lt x.floor y.floor || (x.floor == y.floor && nat_lt x.place y.place)

-- a place with a floor
abbrev pub queued_of : ℕ → ℕ → Queued
queued_of p f = record { place = p; floor = f }

-- a place with its offer's floor
abbrev pub queued_at : List Offer → ℕ → Queued
queued_at os p = queued_of p (offer_at os p).floor

-- q has the fitting offers by ascending floor, then place
pub record LinedUp (os : List Offer) (q : List Queued) : Type 0 where
  pub in_order : ascending sooner q ≡ true
  -- each is a fitting place with its floor
  pub all_fit : (x : Queued) → Among x q → Fitting os x.place × (x ≡ queued_at os x.place)
  -- each fitting place is there
  pub none_missing : (p : ℕ) → Fitting os p → Among (queued_at os p) q

-- the fitting places below p, each put in its order after the other
abbrev pub queue_below : List Offer → ℕ → List Queued
queue_below os zero = []
queue_below os (suc p) = cond (offer_at os p).fits (insert sooner (queued_at os p) (queue_below os p)) (queue_below os p)

-- all fitting places, each put in its order after the other
abbrev pub queue : List Offer → List Queued
queue os = queue_below os (length os)
