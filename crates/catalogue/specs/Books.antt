-- The plain book: what each place holds. Assumes nothing.
use Rattle.std.specs.Prelude.{◌≡◌, ℕ, zero, suc, ◌<◌, ◌≤◌, List, [], ◌∷◌, Some, Option}
use Rattle.std.specs.List.{slice_get}
use Rattle.heads.specs.Rules.{HeadData, SoundHead, Namesakes, ShareADay}

-- a place is empty, in work or published; the last two have a head and a tariff
pub data Place (T : Type 0) : Type 0 where
  empty : Place T
  in_work : HeadData → T → Place T
  published : HeadData → T → Place T

-- the places, counted from 0
abbrev pub Book : Type 0 → Type 0
Book T = List (Place T)

-- the place numbered p, if there is one
abbrev pub place_at : {T : Type 0} → Book T → ℕ → Option (Place T)
place_at b p = slice_get b p

-- the book at opening: n empty places
abbrev pub all_empty : {T : Type 0} → ℕ → Book T
all_empty zero = []
all_empty (suc n) = empty ∷ all_empty n

-- memories for n heads and k tariffs that a catalogue can be opened over
abbrev pub Openable : ℕ → ℕ → Type 0
Openable n k = (1 ≤ n) × (n ≤ 256) × (n ≡ k)

-- at the place k, another than p, a namesake of h is published that shares a day with h
pub record Rival {T : Type 0} (b : Book T) (p : ℕ) (h : HeadData) (k : ℕ) : Type 0 where
  pub elsewhere : k ≡ p → ⊥
  pub rival : HeadData
  pub tariff : T
  pub there : place_at b k ≡ Some (published rival tariff)
  pub namesakes : Namesakes h rival
  pub shares : ShareADay h rival

-- k is the lowest number of which P holds
pub record Lowest (P : ℕ → Type 0) (k : ℕ) : Type 0 where
  pub holds : P k
  pub none_lower : (i : ℕ) → i < k → P i → ⊥

-- published namesakes that share a day
pub record Meeting {T : Type 0} (b : Book T) : Type 0 where
  pub one : ℕ
  pub two : ℕ
  pub head : HeadData
  pub other : HeadData
  pub tariff : T
  pub other_tariff : T
  pub at_one : place_at b one ≡ Some (published head tariff)
  pub at_two : place_at b two ≡ Some (published other other_tariff)
  pub namesakes : Namesakes head other
  pub shares : ShareADay head other

-- two published namesakes never share a day: such a meeting is of a place with itself
abbrev pub Apart : {T : Type 0} → Book T → Type 0
Apart b = (m : Meeting b) → m.one ≡ m.two

-- what is entered at a place has a head that keeps the rules
abbrev pub SoundPlace : {T : Type 0} → Place T → Type 0
SoundPlace empty = Unit {0}
SoundPlace (in_work h t) = SoundHead h
SoundPlace (published h t) = SoundHead h

abbrev pub SoundBook : {T : Type 0} → Book T → Type 0
SoundBook {T} b = (p : ℕ) (x : Place T) → place_at b p ≡ Some x → SoundPlace x
