use Rattle.std.proofs.Common.{refl}
use Rattle.std.proofs.lemmas.Result.{err_from_is_err_and}
use Rattle.heads.specs.Heads.{head_data}
use Rattle.catalogue.specs.declared.slot.State.TheVariants.{Empty, Published}
use Rattle.catalogue.specs.Calls.{delete}
use Rattle.catalogue.specs.Slots.{restated}
use Rattle.catalogue.specs.Held.{held}
use Rattle.catalogue.proofs.Judging.{judge_missing, delete_at_empty, delete_taken}
use Rattle.catalogue.proofs.Holding.{stands, tariff_at}
use Rattle.catalogue.proofs.Doing.{slot, put_empty, put_stored}
use Rattle.catalogue.proofs.memory.Catalogue.delete.Goals as goal

pub returns-in_err-slot-clause-judged : goal.returns-in_err-slot-clause-judged
returns-in_err-slot-clause-judged g c =
    let p = err_from_is_err_and c.from_residual.result c.from_residual.ensures.1 in
    rw (p.1, p.2, c.in_err-slot.ensures.0) (judge_missing (held c.args.self.now) (delete c.args.place) c.in_err-slot.ensures.1)

pub returns-in-Empty-clause-judged : goal.returns-in-Empty-clause-judged
returns-in-Empty-clause-judged g c =
    let m = c.args.self.now in
    let at = c.in_ok-slot.ensures in
    let u = tariff_at m c.args.place at.inside in
    delete_at_empty (held m) c.args.place (stands m c.args.place c.in_ok-slot.slot Empty u.0 at c.in-Empty.is u.1)

pub returns-in-Published-clause-judged : goal.returns-in-Published-clause-judged
returns-in-Published-clause-judged g c =
    let m = c.args.self.now in
    let s = c.in_ok-slot.slot in
    let at = c.in_ok-slot.ensures in
    let u = tariff_at m c.args.place at.inside in
    delete_taken (held m) c.args.place (head_data s.head) u.0 (stands m c.args.place s Published u.0 at c.in-Published.is u.1)

pub returns-in-InWork-clause-judged : goal.returns-in-InWork-clause-judged
returns-in-InWork-clause-judged g c = put_empty c.args.self.now c.put.new.self c.args.place c.in_ok-slot.slot c.in_ok-slot.ensures c.in-InWork.is c.put.result c.put.ensures

pub returns-in-InWork-clause-stored : goal.returns-in-InWork-clause-stored
returns-in-InWork-clause-stored g c =
    let s = c.in_ok-slot.slot in
    put_stored c.args.self.now c.put.new.self c.args.place s (slot Empty s.head) (restated Empty) c.in_ok-slot.ensures refl c.put.result c.put.ensures
