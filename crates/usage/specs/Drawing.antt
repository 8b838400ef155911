-- Drawing one group from a list of uses, over the list of who is a member. Assumes nothing.
use Rattle.std.specs.Prelude.{ℕ, ◌+◌, ◌-◌, ◌*◌, ◌/◌, min, Bool, true, false, cond, List, [], ◌∷◌, ◌==◌}

-- what a seat adds to S
abbrev pub used_at : Bool → ℕ → ℕ
used_at member parts = cond member parts 0

-- S: the sum of the members' uses
abbrev pub used : List Bool → List ℕ → ℕ
used [] us = 0
used (m ∷ ms) [] = 0
used (true ∷ ms) (u ∷ us) = u + used ms us
used (false ∷ ms) (u ∷ us) = used ms us

-- Q: the smaller of S and the group's parts
abbrev pub given_out : List Bool → ℕ → List ℕ → ℕ
given_out ms units us = min (used ms us) (units * 1000)

-- what each seat draws of q parts where the members use s together, p of them in front of the first seat here:
-- the floor of q * p / s up to and with the seat, less the floor up to the member before it
abbrev pub draws : ℕ → ℕ → ℕ → List Bool → List ℕ → List ℕ
draws q s p [] us = []
draws q s p (m ∷ ms) [] = []
draws q s p (true ∷ ms) (u ∷ us) = (q * (p + u) / s - q * p / s) ∷ draws q s (p + u) ms us
draws q s p (false ∷ ms) (u ∷ us) = 0 ∷ draws q s p ms us

-- each use less what its seat draws
abbrev pub fallen : List ℕ → List ℕ → List ℕ
fallen [] ds = []
fallen (u ∷ us) [] = u ∷ us
fallen (u ∷ us) (d ∷ ds) = (u - d) ∷ fallen us ds

-- the list of uses after a group of these members and whole units was drawn; where the members use nothing, nothing is drawn
abbrev pub drawn : List Bool → ℕ → List ℕ → List ℕ
drawn ms units us = cond (used ms us == 0) us (fallen us (draws (given_out ms units us) (used ms us) 0 ms us))
