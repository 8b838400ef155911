-- Lines and queued offers stand in strict orders: by a number, then by place. Assumes nothing.
use Rattle.std.proofs.Common.{◌≡◌, ℕ, ◌≤◌, Bool, true, false, ◌||◌, ◌&&◌, eqb, ltb, arith}
use Rattle.std.proofs.lemmas.Bool.Decides.{nat_tests}
use Rattle.ordered.proofs.Sorted.{Strict}
use Rattle.stages.specs.declared.line.Line.{Line}
use Rattle.stages.specs.Lines.{earlier}
use Rattle.ranking.specs.declared.queued.Queued.{Queued}
use Rattle.ranking.specs.Queues.{sooner}

module _ {X : Type 0} (number place : X → ℕ) where
  -- a smaller number, or an equal number and a smaller place
  abbrev before : X → X → Bool
  before x y = ltb (number x) (number y) || (eqb (number x) (number y) && ltb (place x) (place y))

  strict : ((x y : X) → number x ≡ number y → place x ≡ place y → x ≡ y) → Strict before
  strict same = record { trans = trans; self = λ x h. grind (arith, nat_tests); other = λ x y h ne. behind x y h (λ n p. ne (same x y n p)) }
    where
      trans : (x y z : X) → before x y ≡ true → before y z ≡ true → before x z ≡ true
      trans x y z h g = grind (arith, nat_tests)

      behind : (x y : X) → before x y ≡ false → (number x ≡ number y → place x ≡ place y → ⊥) → before y x ≡ true
      behind x y h ne = grind (arith, nat_tests)

  not_over : (x y : X) → before x y ≡ true → number x ≤ number y
  not_over x y h = grind (arith, nat_tests)

pub line_order : Strict earlier
line_order = strict (λ (x : Line). x.total) (λ x. x.place) (λ x y t p i. record { total = t i; place = p i })

pub earlier_total : (x y : Line) → earlier x y ≡ true → x.total ≤ y.total
earlier_total = not_over (λ x. x.total) (λ x. x.place)

pub queue_order : Strict sooner
queue_order = strict (λ (x : Queued). x.floor) (λ x. x.place) (λ x y f p i. record { floor = f i; place = p i })

pub sooner_floor : (x y : Queued) → sooner x y ≡ true → x.floor ≤ y.floor
sooner_floor = not_over (λ x. x.floor) (λ x. x.place)
