use Rattle.std.proofs.Common.{Ok, Err, ◌∙◌}
use Rattle.std.proofs.lemmas.Result.{err_from_is_err_and}
use Rattle.draft.specs.Drafts.{draft_data}
use Rattle.sheet.proofs.Entered.{price_is, answered_is}
use Rattle.sheet.proofs.reader.Reader.price_entry.Goals as goal

pub returns-in_err-draft : goal.returns-in_err-draft
returns-in_err-draft c =
    let p = err_from_is_err_and c.from_residual-in_err-draft.result c.from_residual-in_err-draft.ensures.1 in
    let a = c.in_ok-node.ensures in
    let b = c.in_ok-price.ensures in
    let e = price_is (draft_data c.args.self.draft) c.args.self.cursor.bytes _ _ _ _ _ _ _ a.0 a.1 b.0 c.price.ensures.is in
    let i = answered_is draft_data c.place.result c.number-2.new.self.at c.args.self.cursor.bytes.now c.price.result (Err c.in_err-draft.field-0.0) c.in_err-draft.ensures in
    rw (p.1, p.2) (e ∙ simp c.place.ensures at i)

pub returns : goal.returns
returns c =
    let a = c.in_ok-node.ensures in
    let b = c.in_ok-price.ensures in
    let e = price_is (draft_data c.args.self.draft) c.args.self.cursor.bytes _ _ _ _ _ _ _ a.0 a.1 b.0 c.price.ensures.is in
    let i = answered_is draft_data c.place.result c.number-2.new.self.at c.args.self.cursor.bytes.now c.price.result (Ok c.in_ok-draft.draft) c.in_ok-draft.ensures in
    (e ∙ simp c.place.ensures at i, b.1 ∙ a.1)
