use Rattle.std.proofs.Common.{Ok, Err, ◌∙◌}
use Rattle.std.proofs.lemmas.Result.{err_from_is_err_and}
use Rattle.draft.specs.Drafts.{draft_data}
use Rattle.sheet.proofs.Entered.{group_is, answered_is}
use Rattle.sheet.proofs.reader.Reader.group_entry.Goals as goal

pub returns-in_err-draft : goal.returns-in_err-draft
returns-in_err-draft c =
    let p = err_from_is_err_and c.from_residual-in_err-draft.result c.from_residual-in_err-draft.ensures.1 in
    let a = c.in_ok-order.ensures in
    let b = c.in_ok-units.ensures in
    let d = c.in_ok-count.ensures in
    let h = c.in_ok-nodes.ensures in
    let two = b.1 ∙ a.1 in
    let three = d.1 ∙ two in
    let e = group_is (draft_data c.args.self.draft) c.args.self.cursor.bytes.now _ _ _ _ _ _ _ _ _ h.part _ a.0 (simp a.1 at b.0) (simp two at d.0) (simp three at h.is) (simp three at h.cut_out.bytes) c.group.ensures.is in
    let i = answered_is draft_data c.place.result c.run.new.self.at c.args.self.cursor.bytes.now c.group.result (Err c.in_err-draft.field-0.0) c.in_err-draft.ensures in
    rw (p.1, p.2) (e ∙ simp c.place.ensures at i)

pub returns : goal.returns
returns c =
    let a = c.in_ok-order.ensures in
    let b = c.in_ok-units.ensures in
    let d = c.in_ok-count.ensures in
    let h = c.in_ok-nodes.ensures in
    let two = b.1 ∙ a.1 in
    let three = d.1 ∙ two in
    let e = group_is (draft_data c.args.self.draft) c.args.self.cursor.bytes.now _ _ _ _ _ _ _ _ _ h.part _ a.0 (simp a.1 at b.0) (simp two at d.0) (simp three at h.is) (simp three at h.cut_out.bytes) c.group.ensures.is in
    let i = answered_is draft_data c.place.result c.run.new.self.at c.args.self.cursor.bytes.now c.group.result (Ok c.in_ok-draft.draft) c.in_ok-draft.ensures in
    (e ∙ simp c.place.ensures at i, h.same ∙ three)
