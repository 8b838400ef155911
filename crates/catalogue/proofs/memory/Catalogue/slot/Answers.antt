use Rattle.std.proofs.Common.{◌≡◌, arith, vec_items}
use Rattle.std.specs.List.{slice_get}
use Rattle.std.specs.Option.{option_copied}
use Rattle.std.proofs.lemmas.Grind.{common_steps}
use Rattle.std.proofs.lemmas.Option.{gets}
use Rattle.catalogue.proofs.Holding.{read_slot}
use Rattle.catalogue.proofs.memory.Catalogue.slot.Goals as goal

pub returns : goal.returns
returns g c =
    let e : option_copied c.get.result ≡ slice_get (vec_items c.args.self.now.slots) c.args.place = grind (arith, common_steps, gets) in
    read_slot c.args.self.now c.args.place c.ok_or.result (cc)
