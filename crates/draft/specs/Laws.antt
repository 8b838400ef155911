-- What every draft holds, by the entries that were granted. Assumes nothing.
use Rattle.std.specs.Prelude.{◌≡◌, ℕ, false, List, [], ◌∷◌, Ok, Decides, Result, slice_index_or}
use Rattle.ordered.specs.Members.{Among}
use Rattle.usage.specs.Groups.{GroupData}
use Rattle.tree.specs.Trees.{TreeRule}
use Rattle.draft.specs.declared.refusing.Refusal.{Refusal}
use Rattle.draft.specs.Apart.{PriceAt}
use Rattle.draft.specs.Drafts.{DraftData, empty_draft, Member}
use Rattle.draft.specs.Rules.{enter_price, enter_group}

-- a price at a node, or a group of an order and so many units at nodes
pub data Entry : Type 0 where
  price : ℕ → ℕ → Entry
  group : ℕ → ℕ → List ℕ → Entry

-- what a draft answers to an entry
abbrev pub enter : DraftData → Entry → Result DraftData Refusal
enter d (price node p) = enter_price d node p
enter d (group order units ns) = enter_group d order units ns

-- a draft on the tree ps, and the entries that were granted, the last one first; declined ones leave a draft as it was
pub data Drafted (ps : List ℕ) : List Entry → DraftData → Type 0 where
  started : Drafted ps [] (empty_draft ps)
  granted : {es : List Entry} {d : DraftData} (e : Entry) (next : DraftData) → Drafted ps es d → enter d e ≡ Ok next → Drafted ps (e ∷ es) next

-- a group of a draft is the one that was entered with this order, these units and nodes: the seats with one of its nodes on their branch
pub record MadeBy (ps : List ℕ) (order units : ℕ) (ns : List ℕ) (g : GroupData) : Type 0 where
  pub same_order : g.order ≡ order
  pub same_units : g.units ≡ units
  pub members : (s : ℕ) → Decides (slice_index_or g.members s false) (Member ps ns s)

-- the prices and groups of a draft are those that were entered, and no others
pub record KeepsEntries (ps : List ℕ) (es : List Entry) (d : DraftData) : Type 0 where
  pub tree : d.parents ≡ ps
  pub priced : (node p : ℕ) → Among (price node p) es → PriceAt d.prices node p
  pub prices : (node p : ℕ) → PriceAt d.prices node p → Among (price node p) es
  pub grouped : (order units : ℕ) (ns : List ℕ) → Among (group order units ns) es → (g : GroupData) × (Among g d.groups × MadeBy ps order units ns g)
  pub groups : (g : GroupData) → Among g d.groups → (ns : List ℕ) × (Among (group g.order g.units ns) es × MadeBy ps g.order g.units ns g)

abbrev pub DraftsKeepEntries : Type 0
DraftsKeepEntries = (ps : List ℕ) → TreeRule ps → (es : List Entry) (d : DraftData) → Drafted ps es d → KeepsEntries ps es d
