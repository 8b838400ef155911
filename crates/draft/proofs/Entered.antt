-- Entries that are granted, and places of groups. Assumes nothing.
use Rattle.std.proofs.Common.{◌≡◌, ℕ, ◌<◌, ◌≤◌, Bool, false, List, length, set, Some, None, Ok, Option, Result, refl}
use Rattle.std.proofs.lemmas.Bool.{lt-leb, le-ltb}
use Rattle.refusal.specs.Lowest.{lowest}
use Rattle.usage.specs.Groups.{GroupData, group_data, group_cause, with_group}
use Rattle.draft.specs.declared.refusing.Refusal.{Refusal}
use Rattle.draft.specs.Drafts.{DraftData, flagged, members_of}
use Rattle.draft.specs.Rules.{priced_on_branch, enter_price, strays, shares, enter_group}

pub price_ok : (d : DraftData) (node price : ℕ) (prices : List (Option ℕ)) → node < length d.parents → price ≤ 1000000 → lowest (priced_on_branch d node) (length d.parents) ≡ None
    → prices ≡ set d.prices node (Some price)
    → ◌≡◌ {A = Result DraftData Refusal} (Ok (record { parents = d.parents; prices = prices; grouped = d.grouped; groups = d.groups })) (enter_price d node price)
price_ok d node price prices h k e q = rw (lt-leb (length d.parents) node h, le-ltb 1000000 price k, e, q) refl

pub group_ok : (d : DraftData) (order units : ℕ) (ns : List ℕ) (flags : List Bool) (groups : List GroupData) → strays (length d.parents) ns ≡ false
    → group_cause d.groups (group_data (members_of d.parents ns) units order) ≡ None
    → lowest (shares d.parents (flagged ns d.grouped) ns) (length d.parents) ≡ None
    → flags ≡ flagged ns d.grouped → groups ≡ with_group (group_data (members_of d.parents ns) units order) d.groups
    → ◌≡◌ {A = Result DraftData Refusal} (Ok (record { parents = d.parents; prices = d.prices; grouped = flags; groups = groups })) (enter_group d order units ns)
group_ok d order units ns flags groups s c e f g = rw (s, c, e, f, g) refl
