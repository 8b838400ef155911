use Rattle.std.proofs.Common.{set, vec_items, refl, ap, ◌∙◌}
use Rattle.std.proofs.lemmas.List.{map-set}
use Rattle.heads.specs.Rules.{HeadData}
use Rattle.heads.specs.Heads.{raw_data}
use Rattle.catalogue.specs.declared.slot.State.TheVariants.{InWork}
use Rattle.catalogue.specs.Calls.{enter}
use Rattle.catalogue.specs.Slots.{slot_data, slot_of}
use Rattle.catalogue.specs.Held.{memory}
use Rattle.catalogue.proofs.Doing.{slot, with_both, entering, apart_after}
use Rattle.catalogue.proofs.memory.Catalogue.enter.Goals as goal

pub returns-in-Ok-clause-judged : goal.returns-in-Ok-clause-judged
returns-in-Ok-clause-judged g c =
    let e = c.in-Ok.ensures in
    entering c.args.self.now c.args.place c.in-Ok.head (raw_data c.args.head.now) c.args.tariff e.1 (e.2 c.args.tariff)

pub returns-in-Ok-clause-stored : goal.returns-in-Ok-clause-stored
returns-in-Ok-clause-stored g c =
    let m = c.args.self.now in
    record {
      slots = map-set slot_data (vec_items m.slots) c.args.place (slot InWork c.in-Ok.head) ∙ ap (λ (h : HeadData). set (memory m) c.args.place (slot_of InWork h)) c.in-Ok.ensures.1;
      tariffs = refl {a = set (vec_items m.tariffs) c.args.place c.args.tariff};
    }

pub invariant_of-self : goal.invariant_of-self
invariant_of-self g c =
    let m = c.args.self.now in
    let p = c.args.place in
    let t = c.args.tariff in
    let h = raw_data c.args.head.now in
    let e = c.in-Ok.ensures in record {
      level = m.level;
      some = m.some;
      few = m.few;
      apart = apart_after m p (enter p h t) (with_both m p (slot InWork c.in-Ok.head) t) (entering m p c.in-Ok.head h t e.1 (e.2 t));
    }
