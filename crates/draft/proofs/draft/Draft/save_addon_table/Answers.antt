use Rattle.std.proofs.Common.{take, Result, sym, subst}
use Rattle.prices.specs.Tables.{TableData}
use Rattle.usage.proofs.GroupLaws.{held_in_order}
use Rattle.tree.proofs.Held.{keeps_rule}
use Rattle.draft.specs.declared.refusing.Refusal.{Refusal}
use Rattle.draft.specs.Drafts.{draft_data}
use Rattle.draft.specs.Saving.{AddonAnswer}
use Rattle.draft.proofs.SavedRows.{addon_answers}
use Rattle.draft.proofs.draft.Draft.save_addon_table.Goals as goal

pub returns : goal.returns
returns c =
    let self = c.args.self.now in
    let d = draft_data self in
    let gs = self.groups in
    let ordered = held_in_order (take gs.count gs.entries) gs.rising in
    let e = c.to_addon_table.ensures in
    let P : Result TableData Refusal → Type 0 = λ r. AddonAnswer d c.args.sum r in
    record { is = e; means = subst P (sym e) (addon_answers d (keeps_rule self.tree) self.apart ordered c.args.sum) }
