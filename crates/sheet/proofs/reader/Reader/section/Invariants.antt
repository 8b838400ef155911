use Rattle.std.proofs.Common.{◌≡◌, ◌-◌}
use Rattle.cursor.specs.Readings.{Reading, repeated}
use Rattle.draft.specs.Drafts.{DraftData, draft_data}
use Rattle.sheet.specs.declared.fault.Fault.{Fault}
use Rattle.sheet.specs.Readers.{EachEntered}
use Rattle.sheet.proofs.reader.Reader.section.Given as goal

abbrev pub invariant-loop-i : goal.invariant-loop-i
invariant-loop-i g l =
    (reads : DraftData → Reading Fault DraftData) → EachEntered reads (goal.F-post g l.entry) →
    (l.reader.cursor.bytes ≡ l.self.cursor.bytes)
    × (repeated (l.count - l._i) reads (draft_data l.reader.draft) l.self.cursor.bytes.now l.reader.cursor.at
    ≡ repeated l.count reads (draft_data l.initial.reader.draft) l.self.cursor.bytes.now l.initial.reader.cursor.at)
