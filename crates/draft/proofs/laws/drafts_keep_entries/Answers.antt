use Rattle.draft.proofs.Entries.{drafts_keep_entries}
use Rattle.draft.proofs.laws.drafts_keep_entries.Goals as goal

pub returns : goal.returns
returns c = drafts_keep_entries
