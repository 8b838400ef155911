use Rattle.std.proofs.Common.{refl, ◌∙◌, arith}
use Rattle.std.proofs.lemmas.Result.{err_from_is_err_and}
use Rattle.cursor.proofs.Printed.{text_told}
use Rattle.cursor.proofs.cursor.Cursor.text.Goals as goal

pub returns-in-Some : goal.returns-in-Some
returns-in-Some c =
    let a = c.in_ok-count.ensures in
    let t = text_told c.args.most c.number_in.new.self.bytes.now c.args.self.now.at c.in_ok-count.count c.number_in.new.self.at _ (rw a.1 a.0) (omega arith) c.in-Some.ensures in
    (simp a.1 at t, refl)

pub returns-in_err-text : goal.returns-in_err-text
returns-in_err-text c =
    let p = err_from_is_err_and c.from_residual-in_err-text.result c.from_residual-in_err-text.ensures.1 in
    let a = c.in_ok-count.ensures in
    let b = c.in_err-text.ensures in
    let t = text_told c.args.most c.number_in.new.self.bytes.now c.args.self.now.at c.in_ok-count.count c.number_in.new.self.at _ (rw a.1 a.0) (omega arith) c.in_default.ensures in
    rw (p.1, p.2) (simp a.1 at (t ∙ b.0), refl)

pub returns : goal.returns
returns c =
    let a = c.in_ok-count.ensures in
    let b = c.in_ok-text.ensures in
    let t = text_told c.args.most c.number_in.new.self.bytes.now c.args.self.now.at c.in_ok-count.count c.number_in.new.self.at _ (rw a.1 a.0) (omega arith) c.in_default.ensures in
    record { part = b.part; is = simp a.1 at (t ∙ b.is); cut_out = rw (← a.1) b.cut_out; ends = b.ends; same = b.same ∙ a.1 }
