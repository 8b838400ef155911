-- The record of a sheet's fields: the bytes that it is written in, and what it means. Assumes nothing.
use Rattle.std.specs.Prelude.{◌≡◌, ℕ, ◌+◌, ◌≤◌, List, [], ◌∷◌, ◌++◌, length, Ok, Err, Result}
use Rattle.std.specs.List.{flat_map, AllByRecursion}
use Rattle.heads.specs.Rules.{head_of, SoundHead}
use Rattle.cursor.specs.Parts.{cut}
use Rattle.cursor.specs.Encodings.{two, four, Text, counted}
use Rattle.prices.specs.Tables.{TableData}
use Rattle.draft.specs.declared.refusing.Refusal.{Refusal}
use Rattle.draft.specs.Drafts.{DraftData}
use Rattle.draft.specs.Saving.{save_plan}
use Rattle.sheet.specs.Layout.{HeadValues, Contents, priced, grouped}

-- a price: its node and amount
pub record PriceFields : Type 0 where
  pub node : ℕ
  pub price : ℕ

-- a group: its order, its units, and its nodes in the sheet's order, repeated ones kept
pub record GroupFields : Type 0 where
  pub order : ℕ
  pub units : ℕ
  pub nodes : List ℕ

-- the fields of a sheet, its entries in their order
pub record Fields : Type 0 where
  pub head : HeadValues
  pub name : List ℕ
  pub link : List ℕ
  pub prices : List PriceFields
  pub groups : List GroupFields

-- a group has from 1 to 40 nodes
abbrev pub FewNodes : GroupFields → Type 0
FewNodes g = (1 ≤ length g.nodes) × (length g.nodes ≤ 40)

-- each value in its range: the head is one that an offer can have
pub record SoundFields (f : Fields) : Type 0 where
  pub head : SoundHead (head_of f.head.supplier f.name f.head.network f.head.contract f.head.term f.head.first f.head.last)
  pub sum : f.head.sum ≤ 1000000
  pub link : Text 64 f.link
  pub prices : length f.prices ≤ 40
  pub groups : length f.groups ≤ 8
  pub nodes : AllByRecursion FewNodes f.groups

-- The bytes.

abbrev pub head_bytes : HeadValues → List ℕ
head_bytes h =
    (h.contract ∷ []) ++ ((h.network ∷ []) ++ (two h.supplier ++ (four h.sum ++ ((h.term ∷ []) ++ (two h.first ++ two h.last)))))

abbrev pub price_bytes : PriceFields → List ℕ
price_bytes e = (e.node ∷ []) ++ four e.price

abbrev pub group_bytes : GroupFields → List ℕ
group_bytes e = (e.order ∷ []) ++ (four e.units ++ counted e.nodes)

-- entries behind their count
abbrev pub section : {V : Type 0} → (V → List ℕ) → List V → List ℕ
section bytes entries = length entries ∷ flat_map bytes entries

abbrev pub encoding : Fields → List ℕ
encoding f =
    head_bytes f.head ++ (counted f.name ++ (counted f.link ++ (section price_bytes f.prices ++ section group_bytes f.groups)))

-- The meaning.

-- an answer, and what comes of it
abbrev pub go_on : {V W : Type 0} → Result V Refusal → (V → Result W Refusal) → Result W Refusal
go_on (Ok v) k = k v
go_on (Err e) k = Err e

-- the entries go to the draft one by one
abbrev pub enter_all : {V : Type 0} → (V → DraftData → Result DraftData Refusal) → List V → DraftData → Result DraftData Refusal
enter_all enter [] d = Ok d
enter_all enter (e ∷ es) d = go_on (enter e d) (enter_all enter es)

abbrev pub enter_prices : List PriceFields → DraftData → Result DraftData Refusal
enter_prices = enter_all (λ e d. priced d e.node e.price)

abbrev pub enter_groups : List GroupFields → DraftData → Result DraftData Refusal
enter_groups = enter_all (λ e d. grouped d e.order e.units e.nodes)

-- the plan that the entries make
abbrev pub plan_of : Fields → DraftData → Result TableData Refusal
plan_of f d = go_on (enter_prices f.prices d) (λ e. go_on (enter_groups f.groups e) (λ g. save_plan g f.head.sum))

-- the bytes are those of a sound record of fields, and the contents are what the record means
pub record Written (d : DraftData) (xs : List ℕ) (c : Contents) : Type 0 where
  pub fields : Fields
  pub sound : SoundFields fields
  pub bytes : xs ≡ encoding fields
  pub head : c.head ≡ fields.head
  pub name : cut c.name xs ≡ fields.name
  pub link : cut c.link xs ≡ fields.link
  pub plan : plan_of fields d ≡ Ok c.plan
  pub name_within : c.name.start + c.name.len ≤ length xs
  pub link_within : c.link.start + c.link.len ≤ length xs
