use Rattle.usage.proofs.Steps.{Drawing}
use Rattle.usage.proofs.group.Group.draw.Given as goal

abbrev pub invariant-loop-i : goal.invariant-loop-i
invariant-loop-i l = Drawing l.self.members.flags l.uses.parts l.q l.s l.i l.parts l.p l.before
