use Rattle.std.proofs.Common.{Result, sym, subst}
use Rattle.tree.proofs.Held.{keeps_rule}
use Rattle.draft.specs.declared.refusing.Refusal.{Refusal}
use Rattle.draft.specs.Drafts.{DraftData, draft_data}
use Rattle.draft.specs.Rows.{PriceAnswer}
use Rattle.draft.proofs.PriceRows.{price_answers}
use Rattle.draft.proofs.draft.Draft.price.Goals as goal

pub returns : goal.returns
returns c =
    let self = c.args.self in
    let d = draft_data self in
    let e = c.with_price.ensures in
    let P : Result DraftData Refusal → Type 0 = λ r. PriceAnswer d c.args.node c.args.price r in
    record { is = e; means = subst P (sym e) (price_answers d (keeps_rule self.tree) c.args.node c.args.price) }
