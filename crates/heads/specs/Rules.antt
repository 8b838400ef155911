-- Heads as plain data: the rules that they keep, their days, and namesakes. Assumes nothing.
use Rattle.std.specs.Prelude.{◌≡◌, ℕ, ◌≤◌, ◌⊎◌, List, [], ◌∷◌}
use Rattle.heads.specs.Texts.{NameText}

-- the values of a head; the name is its text
pub record HeadData : Type 0 where
  pub supplier : ℕ
  pub name : List ℕ
  pub network : ℕ
  pub contract : ℕ
  pub term : ℕ
  pub first : ℕ
  pub last : ℕ

abbrev pub head_of : ℕ → List ℕ → ℕ → ℕ → ℕ → ℕ → ℕ → HeadData
head_of s n w c t f l = record { supplier = s; name = n; network = w; contract = c; term = t; first = f; last = l }

-- what each value of a head keeps to; the last day 65,535 means open
pub record SoundHead (h : HeadData) : Type 0 where
  pub supplier_known : h.supplier ≤ 65535
  pub name_fits : NameText h.name
  pub network_known : (h.network ≡ 1) ⊎ (h.network ≡ 2)
  pub contract_known : (h.contract ≡ 1) ⊎ (h.contract ≡ 2)
  pub term_bound : h.term ≤ 60
  pub first_bound : h.first ≤ 65534
  pub last_bound : h.last ≤ 65535
  pub days_ordered : h.first ≤ h.last
  pub card_mobile : h.contract ≡ 2 → h.network ≡ 2
  pub card_termless : h.contract ≡ 2 → h.term ≡ 0

-- a day from the first to the last
abbrev pub On : HeadData → ℕ → Type 0
On h d = (h.first ≤ d) × (d ≤ h.last)

-- some day is on both
pub record ShareADay (h k : HeadData) : Type 0 where
  pub day : ℕ
  pub on_one : On h day
  pub on_other : On k day

-- equal supplier and equal name
abbrev pub Namesakes : HeadData → HeadData → Type 0
Namesakes h k = (h.supplier ≡ k.supplier) × (h.name ≡ k.name)

-- a head with another last day
abbrev pub ending : HeadData → ℕ → HeadData
ending h d = head_of h.supplier h.name h.network h.contract h.term h.first d

-- the head that stands for none in fresh memory: supplier 0, named by a blank, a fixed subscription for day 0
abbrev pub blank : HeadData
blank = head_of 0 (32 ∷ []) 1 1 0 0 0
