use Rattle.std.proofs.Common.{refl, arith}
use Rattle.catalogue.proofs.OneAnswer.{book_laws}
use Rattle.catalogue.proofs.Holding.{held_long, held_sound}
use Rattle.catalogue.proofs.memory.Catalogue.places.Goals as goal

pub returns : goal.returns
returns g c =
    let m = c.args.self.now in
    record { is = omega (arith, held_long m); openable = (omega arith, omega arith, refl); apart = m.apart; sound = held_sound m; laws = book_laws g.row.T.Denot }
