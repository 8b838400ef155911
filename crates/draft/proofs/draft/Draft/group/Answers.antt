use Rattle.std.proofs.Common.{Result, sym, subst}
use Rattle.tree.specs.Held.{parents_of}
use Rattle.tree.proofs.Held.{keeps_rule}
use Rattle.draft.specs.declared.refusing.Refusal.{Refusal}
use Rattle.draft.specs.Drafts.{DraftData, draft_data}
use Rattle.draft.specs.Rows.{GroupAnswer}
use Rattle.draft.proofs.GroupRows.{group_answers}
use Rattle.draft.proofs.Members.{decides_member}
use Rattle.draft.proofs.draft.Draft.group.Goals as goal

pub returns : goal.returns
returns c =
    let self = c.args.self in
    let d = draft_data self in
    let w = keeps_rule self.tree in
    let ns = c.args.nodes.now in
    let e = c.with_group.ensures in
    let P : Result DraftData Refusal → Type 0 = λ r. GroupAnswer d c.args.order c.args.units ns r in
    record {
      is = e;
      means = subst P (sym e) (group_answers d w self.flags c.args.order c.args.units ns);
      members = decides_member (parents_of self.tree) w ns;
    }
