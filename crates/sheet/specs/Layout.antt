-- The layout of a plan sheet, as a reading of the list of its bytes. Assumes nothing.
use Rattle.std.specs.Prelude.{ℕ, cond, List, length, Ok, Err, Result, ◌==◌}
use Rattle.cursor.specs.declared.fault.Fault.{Fault as LayoutFault}
use Rattle.cursor.specs.declared.part.Part.{Part}
use Rattle.cursor.specs.Parts.{cut}
use Rattle.cursor.specs.Readings.{Reading, value, fault, then, done, repeated, with_faults, field, ranged, run, text, ended}
use Rattle.prices.specs.Tables.{TableData}
use Rattle.draft.specs.declared.refusing.Refusal.{Refusal}
use Rattle.draft.specs.Drafts.{DraftData}
use Rattle.draft.specs.Rules.{enter_price, enter_group}
use Rattle.draft.specs.Saving.{save_plan}
use Rattle.sheet.specs.declared.fault.Fault.{Fault}
use Rattle.sheet.specs.declared.fault.Fault.TheVariants.{Layout, Draft}

-- the values of the first 13 bytes
pub record HeadValues : Type 0 where
  pub contract : ℕ
  pub network : ℕ
  pub supplier : ℕ
  pub sum : ℕ
  pub term : ℕ
  pub first : ℕ
  pub last : ℕ

-- a card (contract 2) is mobile (network 2) and has no term
abbrev pub lowest_network : ℕ → ℕ
lowest_network contract = cond (contract == 2) 2 1

abbrev pub longest_term : ℕ → ℕ
longest_term contract = cond (contract == 2) 0 60

-- the first 13 bytes
abbrev pub front : Reading LayoutFault HeadValues
front =
    then (ranged 1 1 2) (λ contract.
    then (ranged 1 (lowest_network contract) 2) (λ network.
    then (field 2) (λ supplier.
    then (ranged 4 0 1000000) (λ sum.
    then (ranged 1 0 (longest_term contract)) (λ term.
    then (ranged 2 0 65534) (λ first.
    then (ranged 2 first 65535) (λ last.
    done (record { contract = contract; network = network; supplier = supplier; sum = sum; term = term; first = first; last = last }))))))))

-- a reading by the layout alone, among those that can meet a draft's refusal
abbrev pub laid : {V : Type 0} → Reading LayoutFault V → Reading Fault V
laid p = with_faults Layout p

-- a draft's answer, with the byte that a refusal names
abbrev pub answered : {D : Type 0} → ℕ → Result D Refusal → Reading Fault D
answered byte (Ok d) xs at = value d at
answered byte (Err e) xs at = fault (Draft e byte)

-- what the draft answers to a price at a node
unfoldable pub priced : DraftData → ℕ → ℕ → Result DraftData Refusal
priced d node price = enter_price d node price

-- one price: a node and its price, which then go to the draft
abbrev pub price_entry : DraftData → Reading Fault DraftData
price_entry d xs at =
    then (laid (field 1)) (λ node.
    then (laid (field 4)) (λ price.
    answered at (priced d node price))) xs at

-- a count from 0 to most, and so many entries
abbrev pub entries : ℕ → (DraftData → Reading Fault DraftData) → DraftData → Reading Fault DraftData
entries most entry d = then (laid (ranged 1 0 most)) (λ n. repeated n entry d)

-- a count from 0 to 40, and so many prices
abbrev pub prices : DraftData → Reading Fault DraftData
prices = entries 40 price_entry

-- what the draft answers to a group at nodes
unfoldable pub grouped : DraftData → ℕ → ℕ → List ℕ → Result DraftData Refusal
grouped d order units nodes = enter_group d order units nodes

-- one group: order, units, a count from 1 to 40 and so many nodes, which then go to the draft
abbrev pub group_entry : DraftData → Reading Fault DraftData
group_entry d xs at =
    then (laid (field 1)) (λ order.
    then (laid (field 4)) (λ units.
    then (laid (ranged 1 1 40)) (λ n.
    then (laid (run n)) (λ nodes.
    answered at (grouped d order units (cut nodes xs)))))) xs at

-- a count from 0 to 8, and so many groups
abbrev pub groups : DraftData → Reading Fault DraftData
groups = entries 8 group_entry

-- the draft saved as a plan: a refusal names the sheet's length
abbrev pub saved : ℕ → DraftData → Reading Fault TableData
saved sum d xs at = answered (length xs) (save_plan d sum) xs at

-- both sections of entries, the end of the sheet, and the plan that the entries make
abbrev pub plan : ℕ → DraftData → Reading Fault TableData
plan sum d =
    then (prices d) (λ e.
    then (groups e) (λ f.
    then (laid ended) (λ _.
    saved sum f)))

-- what a whole sheet says: its head, where its name and link stand, and its plan
pub record Contents : Type 0 where
  pub head : HeadValues
  pub name : Part
  pub link : Part
  pub plan : TableData

-- a whole sheet, with the draft that its entries go to
abbrev pub whole : DraftData → Reading Fault Contents
whole d =
    then (laid front) (λ head.
    then (laid (text 24)) (λ name.
    then (laid (text 64)) (λ link.
    then (plan head.sum d) (λ table.
    done (record { head = head; name = name; link = link; plan = table })))))
