use Rattle.std.proofs.Common.{refl, ◌∙◌, arith}
use Rattle.std.proofs.lemmas.Result.{err_from_is_err_and}
use Rattle.cursor.proofs.Repeats.{repeated_ok, repeated_fault, repeated_end}
use Rattle.sheet.proofs.reader.Reader.section.Goals as goal

pub returns-in_err-reader : goal.returns-in_err-reader
returns-in_err-reader g c reads each =
    let p = err_from_is_err_and c.from_residual-in_err-reader.result c.from_residual-in_err-reader.ensures.1 in
    let b = each c.loop-i.reader _ c.in_err-reader.ensures in
    let v = c.loop-i.invariant reads each in
    let f = repeated_fault c.in_ok-count.count c.loop-i._i reads _ _ _ _ _ c.loop-i-test.true (simp v.0 at b) v.1 in
    rw (p.1, p.2) ((rw c.in_ok-count.ensures.0 f, refl), refl)

pub loop-i-preserved : goal.loop-i-preserved
loop-i-preserved g c reads each =
    let b = each c.loop-i.reader _ c.in_ok-reader.ensures in
    let v = c.loop-i.invariant reads each in
    (b.1 ∙ v.0, repeated_ok c.in_ok-count.count c.loop-i._i reads _ _ _ _ _ _ c.loop-i-test.true (simp v.0 at b.0) v.1)

pub returns : goal.returns
returns g c reads each =
    let v = c.loop-i.invariant reads each in
    let e = repeated_end c.in_ok-count.count c.loop-i._i reads _ _ _ _ (omega arith) v.1 in
    (rw c.in_ok-count.ensures.0 e, v.0)
