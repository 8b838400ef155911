-- What a call of a reader reads, and how it leaves the reader. Assumes nothing.
use Rattle.std.specs.Prelude.{◌≡◌, ℕ, ◌⊎◌, List, Ok, Err, Result}
use Rattle.std.specs.Borrow.{Bor}
use Rattle.cursor.specs.declared.fault.Fault.{Fault as LayoutFault}
use Rattle.cursor.specs.declared.fault.Fault.TheVariants.{AgainstRule}
use Rattle.cursor.specs.declared.part.Part.{Part}
use Rattle.cursor.specs.Readings.{Reading, value, fault, field, text}
use Rattle.cursor.specs.declared.cursor.Cursor.{Cursor}
use Rattle.cursor.specs.Cursors.{from, Took, TookPart}
use Rattle.draft.specs.Drafts.{DraftData, draft_data}
use Rattle.sheet.specs.declared.fault.Fault.{Fault}
use Rattle.sheet.specs.declared.reader.Reader.{Reader}
use Rattle.sheet.specs.Layout.{HeadValues, laid, front}

-- a byte that is the code of no kind, which is against the rule
abbrev pub NoKind : {K X : Type 0} → (ℕ → Result K X → Type 0) → Cursor → LayoutFault → Type 0
NoKind {K} {X} gives s e = (code n : ℕ) × (x : X) × (from s (field 1) ≡ value code n) × gives code (Err x) × (e ≡ AgainstRule s.at)

-- a byte that is the code of a kind; a code of none is against the rule at the byte
abbrev pub TookKind : {K X : Type 0} → (ℕ → Result K X → Type 0) → Cursor → Result K LayoutFault → Cursor → Type 0
TookKind gives s (Ok kind) t = (code : ℕ) × (from s (field 1) ≡ value code t.at) × gives code (Ok kind) × (t.bytes ≡ s.bytes)
TookKind gives s (Err e) t = ((from s (field 1) ≡ fault e) ⊎ NoKind gives s e) × (t ≡ s)

-- the head, with the draft as it was
abbrev pub ReadHead : Reader → Result HeadValues Fault → Reader → Type 0
ReadHead s r t = Took (laid front) s.cursor r t.cursor × (t.draft ≡ s.draft)

-- a text of at most so many bytes, with the draft as it was
abbrev pub ReadText : ℕ → Reader → Result (Bor (List ℕ)) Fault → Reader → Type 0
ReadText most s r t = TookPart (laid (text most)) s.cursor r t.cursor × (t.draft ≡ s.draft)

-- the same, where the text's place is handed out
abbrev pub ReadPlace : ℕ → Reader → Result Part Fault → Reader → Type 0
ReadPlace most s r t = Took (laid (text most)) s.cursor r t.cursor × (t.draft ≡ s.draft)

-- a section of entries, which the draft takes; a refused section leaves it as it was
abbrev pub ReadEntries : (DraftData → Reading Fault DraftData) → Reader → Result (Unit {0}) Fault → Reader → Type 0
ReadEntries p s (Ok u) t = Took (p (draft_data s.draft)) s.cursor (Ok (draft_data t.draft)) t.cursor
ReadEntries p s (Err e) t = Took (p (draft_data s.draft)) s.cursor (Err e) t.cursor × (t.draft ≡ s.draft)

-- one entry, which the draft takes
abbrev pub Entered : (DraftData → Reading Fault DraftData) → Reader → Result Reader Fault → Type 0
Entered p s (Ok t) = Took (p (draft_data s.draft)) s.cursor (Ok (draft_data t.draft)) t.cursor
Entered p s (Err e) = from s.cursor (p (draft_data s.draft)) ≡ fault e

-- whatever a step gives from a reader is such an entry
abbrev pub EachEntered : (DraftData → Reading Fault DraftData) → (Reader → Result Reader Fault → Type 0) → Type 0
EachEntered p gives = (s : Reader) (r : Result Reader Fault) → gives s r → Entered p s r
