use Rattle.std.proofs.Common.{refl, arith}
use Rattle.std.proofs.lemmas.Option.{MatchOption-at_some}
use Rattle.cursor.proofs.BigEndian.{field_behind}
use Rattle.cursor.proofs.cursor.Cursor.number.Goals as goal

pub returns : goal.returns
returns g c =
    let h = MatchOption-at_some _ _ c.in_ok-number.number c.in_ok-number.ensures.ok_part c.first_in.ensures in
    (rw c.WIDTH.ensures (field_behind g.N.Number.WIDTH c.args.self.now.bytes.now c.args.self.now.at (g.N.Number.number c.in_ok-number.number) (omega arith) h.0 h.1), refl)
