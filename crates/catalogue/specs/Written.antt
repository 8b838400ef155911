-- The slot at a place, and what writing one leaves. Assumes nothing.
use Rattle.std.specs.Prelude.{◌≡◌, ℕ, ◌<◌, Some, Result, MatchResult, vec_items, vec_len, slice_set}
use Rattle.std.specs.List.{slice_get}
use Rattle.heads.specs.Heads.{head_data}
use Rattle.catalogue.specs.declared.slot.Slot.{Slot}
use Rattle.catalogue.specs.declared.slot.State.TheVariants.{Published}
use Rattle.catalogue.specs.declared.memory.Catalogue.{Catalogue}
use Rattle.catalogue.specs.declared.refusing.Refusal.{Refusal}
use Rattle.catalogue.specs.declared.refusing.Refusal.TheVariants.{SharesDay}
use Rattle.catalogue.specs.Books.{Rival, Lowest}
use Rattle.catalogue.specs.Held.{held}

-- the slot that the memory holds at a place
pub record SlotAt {T : Type 0} (m : Catalogue T) (p : ℕ) (s : Slot) : Type 0 where
  pub inside : p < vec_len m.slots
  pub found : slice_get (vec_items m.slots) p ≡ Some s

-- the slot is written, and is no published slot that has a rival
pub record Writes {T : Type 0} (old new : Catalogue T) (p : ℕ) (s : Slot) : Type 0 where
  pub free : s.state ≡ Published → (k : ℕ) → Rival (held old) p (head_data s.head) k → ⊥
  pub slots : vec_items new.slots ≡ slice_set (vec_items old.slots) p s
  pub tariffs : new.tariffs ≡ old.tariffs

-- nothing is written: the slot is published, and the refusal has its lowest rival
pub record Bars {T : Type 0} (old new : Catalogue T) (p : ℕ) (s : Slot) (e : Refusal) : Type 0 where
  pub stays : new ≡ old
  pub public : s.state ≡ Published
  pub rival : ℕ
  pub told : e ≡ SharesDay rival
  pub lowest : Lowest (Rival (held old) p (head_data s.head)) rival

abbrev pub Put : {T : Type 0} → Catalogue T → Catalogue T → ℕ → Slot → Result (Unit {0}) Refusal → Type 0
Put old new p s r = MatchResult r (λ _. Writes old new p s) (λ e. Bars old new p s e)
