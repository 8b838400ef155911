-- A tariff that changes nothing of another. Assumes nothing.
use Rattle.std.specs.Prelude.{◌≡◌, ℕ, Bool, List}
use Rattle.usage.specs.UsesLists.{UsesList}

-- the four meanings of one tariff are those of another: at every seat, and for every list of uses
pub record ChangesNothing (served : ℕ → Bool) (drawn : List ℕ → List ℕ) (charged : List ℕ → ℕ) (floor : ℕ)
    (served' : ℕ → Bool) (drawn' : List ℕ → List ℕ) (charged' : List ℕ → ℕ) (floor' : ℕ) : Type 0 where
  pub same_seats : (k : ℕ) → served k ≡ served' k
  pub same_overrun : (us : List ℕ) → drawn us ≡ drawn' us
  pub same_charge : (us : List ℕ) → UsesList us → charged us ≡ charged' us
  pub same_floor : floor ≡ floor'
