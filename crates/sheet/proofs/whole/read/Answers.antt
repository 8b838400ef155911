use Rattle.tree.specs.Held.{parents_of}
use Rattle.draft.specs.Drafts.{empty_draft}
use Rattle.draft.specs.Rules.{map_ok}
use Rattle.sheet.specs.Sheets.{contents}
use Rattle.sheet.proofs.Recorded.{written_from}
use Rattle.sheet.proofs.whole.read.Goals as goal

pub returns : goal.returns
returns c =
    record {
      is = c.read_all.ensures;
      written = written_from (empty_draft (parents_of c.args.tree.now)) c.args.sheet.now (map_ok contents c.read_all.result) c.are_bytes.ensures c.read_all.ensures;
    }
