-- What the book says of a call: which row of the table declines it, or what it does. Assumes nothing.
use Rattle.std.specs.Prelude.{◌≡◌, ℕ, ◌<◌, ◌≤◌, Some, None, Option, slice_set}
use Rattle.refusal.specs.Rows.{RowData, bare}
use Rattle.heads.specs.Rules.{HeadData, SoundHead, ending}
use Rattle.catalogue.specs.Refusals.{shares_day}
use Rattle.catalogue.specs.Table.{Higher}
use Rattle.catalogue.specs.Books.{empty, in_work, published, Book, place_at, Rival, Lowest}

-- a call by its arguments
pub data Change (T : Type 0) : Type 0 where
  enter : ℕ → HeadData → T → Change T
  publish : ℕ → Change T
  amend : ℕ → ℕ → Change T
  delete : ℕ → Change T

-- the place that a call is for
abbrev pub place_of : {T : Type 0} → Change T → ℕ
place_of (enter p h t) = p
place_of (publish p) = p
place_of (amend p d) = p
place_of (delete p) = p

-- a row of the table holds for a call, with the values that go with it
pub data Row {T : Type 0} (b : Book T) : Change T → RowData → Type 0 where
  -- 10: no such place
  no_such_place : {c : Change T} → place_at b (place_of c) ≡ None → Row b c (bare 10)
  -- 12: enter with a head value against its rule
  bad_head : {p : ℕ} {h : HeadData} {t : T} → (SoundHead h → ⊥) → Row b (enter p h t) (bare 12)
  -- 16: publish, amend, delete at an empty place
  publish_empty : {p : ℕ} → place_at b p ≡ Some empty → Row b (publish p) (bare 16)
  amend_empty : {p d : ℕ} → place_at b p ≡ Some empty → Row b (amend p d) (bare 16)
  delete_empty : {p : ℕ} → place_at b p ≡ Some empty → Row b (delete p) (bare 16)
  -- 14: amend with a last day before the first
  in_work_before_first : {p d : ℕ} {h : HeadData} {t : T} → place_at b p ≡ Some (in_work h t) → d < h.first → Row b (amend p d) (bare 14)
  published_before_first : {p d : ℕ} {h : HeadData} {t : T} → place_at b p ≡ Some (published h t) → d < h.first → Row b (amend p d) (bare 14)
  -- 200: enter or publish at a published place
  enter_published : {p : ℕ} {h k : HeadData} {t u : T} → place_at b p ≡ Some (published k u) → Row b (enter p h t) (bare 200)
  publish_published : {p : ℕ} {k : HeadData} {u : T} → place_at b p ≡ Some (published k u) → Row b (publish p) (bare 200)
  -- 18: delete at a published place
  delete_published : {p : ℕ} {k : HeadData} {u : T} → place_at b p ≡ Some (published k u) → Row b (delete p) (bare 18)
  -- 210: a published namesake at another place would share a day; the lowest such place
  publish_shares_day : {p q : ℕ} {h : HeadData} {t : T} → place_at b p ≡ Some (in_work h t) → Lowest (Rival b p h) q → Row b (publish p) (shares_day q)
  amend_shares_day : {p d q : ℕ} {h : HeadData} {t : T} → place_at b p ≡ Some (published h t) → Lowest (Rival b p (ending h d)) q → Row b (amend p d) (shares_day q)

-- a call is declined by the topmost row that holds
pub record Declined {T : Type 0} (b : Book T) (c : Change T) (row : RowData) : Type 0 where
  pub holds : Row b c row
  pub topmost : (other : RowData) → Row b c other → Higher other.number row.number → ⊥

-- no row holds
abbrev pub NoCause : {T : Type 0} → Book T → Change T → Type 0
NoCause b c = (row : RowData) → Row b c row → ⊥

-- what a call does to the book: its place is written, and no other
pub data Step {T : Type 0} (b : Book T) : Change T → Book T → Type 0 where
  -- enter writes head and tariff, and the place is in work
  entered : {p : ℕ} {h : HeadData} {t : T} → Step b (enter p h t) (slice_set b p (in_work h t))
  -- publish publishes a place in work
  made_public : {p : ℕ} {h : HeadData} {t : T} → place_at b p ≡ Some (in_work h t) → Step b (publish p) (slice_set b p (published h t))
  -- amend sets the last day of a place in work or published
  amended_work : {p d : ℕ} {h : HeadData} {t : T} → place_at b p ≡ Some (in_work h t) → Step b (amend p d) (slice_set b p (in_work (ending h d) t))
  amended_published : {p d : ℕ} {h : HeadData} {t : T} → place_at b p ≡ Some (published h t) → Step b (amend p d) (slice_set b p (published (ending h d) t))
  -- delete empties a place
  deleted : {p : ℕ} → Step b (delete p) (slice_set b p empty)

-- what is answered to a call, None where it is done, and the book that it leaves
pub data Judged {T : Type 0} (b : Book T) (c : Change T) : Option RowData → Book T → Type 0 where
  -- with no cause the call takes its step
  done : {n : Book T} → NoCause b c → Step b c n → Judged b c None n
  -- any other call changes nothing
  declined : {row : RowData} → Declined b c row → Judged b c (Some row) b

-- the last day that an amend gives is at most 65,535
abbrev pub DayFits : {T : Type 0} → Change T → Type 0
DayFits (enter p h t) = Unit {0}
DayFits (publish p) = Unit {0}
DayFits (amend p d) = d ≤ 65535
DayFits (delete p) = Unit {0}
