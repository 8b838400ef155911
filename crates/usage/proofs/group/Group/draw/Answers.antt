use Rattle.std.proofs.Common.{◌≡◌, ℕ, ◌+◌, ◌*◌, ◌/◌, ◌<◌, ◌≤◌, length, get_or, sym, subst, arith}
use Rattle.std.proofs.lemmas.Nat.{mul-le}
use Rattle.usage.specs.Drawing.{drawn}
use Rattle.usage.specs.Laws.{FairDraw}
use Rattle.usage.proofs.Fairness.{drawn_fair}
use Rattle.usage.proofs.Floors.{floor_more, floor_near}
use Rattle.usage.proofs.Steps.{used_in, drawing_in, drawing_out, drawing_all}
use Rattle.usage.proofs.group.Group.draw.Goals as goal
use Rattle.usage.proofs.group.Group.draw.Goals.{then-self-i, else-self-i}

-- what the needs of a member's turn share
record Turn (q s p u before : ℕ) : Type 0 where
  pos : 0 < s
  most : s ≤ 1600000000
  le : q ≤ s
  inside : p + u ≤ s
  small : u ≤ 100000000
  was : before ≡ q * p / s
  up : before ≤ q * (p + u) / s
  near : q * (p + u) / s ≤ before + u

turn : (c : goal.Then-self-i) → Turn c.min-q.result c.members_use-s.result c.loop-i.p (get_or c.args.uses.parts c.loop-i.i 0) c.loop-i.before
turn c =
    let ms = c.args.self.now.members.flags in
    let us = c.args.uses.parts in
    let i = c.loop-i.i in
    let q = c.min-q.result in
    let s = c.members_use-s.result in
    let p = c.loop-i.p in
    let u = get_or us i 0 in
    let in-ms : i < length ms = omega arith in
    let in-us : i < length us = omega arith in
    let pos : 0 < s = omega arith in
    let le : q ≤ s = omega arith in
    let step = used_in ms us i in-ms in-us c.if-self-i.true in
    record {
      pos = pos;
      most = c.members_use-s.ensures.bound;
      le = le;
      inside = omega arith;
      small = c.args.uses.bounded i;
      was = c.loop-i.invariant.2;
      up = omega (arith, floor_more q s p u pos);
      near = omega (arith, floor_near q s p u pos le);
    }

pub overflow_mul-floor : goal.overflow_mul-floor
overflow_mul-floor c =
    let t = turn c in
    omega (arith, mul-le c.min-q.result (c.loop-i.p + get_or c.args.uses.parts c.loop-i.i 0) 1600000000 1600000000 (omega arith) (omega arith))

pub overflow_sub-parts : goal.overflow_sub-parts
overflow_sub-parts c = (turn c).up

pub overflow_cast-parts : goal.overflow_cast-parts
overflow_cast-parts c = let t = turn c in omega arith

pub overflow_sub-parts-then-self-i : goal.overflow_sub-parts-then-self-i
overflow_sub-parts-then-self-i c = let t = turn c in omega arith

pub loop-i-preserved : goal.loop-i-preserved
loop-i-preserved c =
    let ms = c.args.self.now.members.flags in
    let us = c.args.uses.parts in
    let i = c.loop-i.i in
    let in-ms : i < length ms = omega arith in
    let in-us : i < length us = omega arith in
    let in_parts : i < length c.loop-i.parts = omega arith in
    elim c.if-self-i.branch [
      | then-self-i w ↦ drawing_in ms us _ _ i _ _ _ in-ms in-us in_parts c.loop-i.invariant _ _ _ w.if-self-i.true w.parts-is w.p-is w.before-is
      | else-self-i w ↦ drawing_out ms us _ _ i _ _ _ in-ms in-us in_parts c.loop-i.invariant _ _ _ w.if-self-i.false w.parts-is w.p-is w.before-is
    ]

pub invariant_of-result : goal.invariant_of-result
invariant_of-result c =
    let ms = c.args.self.now.members.flags in
    let units = c.args.self.now.units in
    let us = c.args.uses.parts in
    let e : c.loop-i.parts ≡ drawn ms units us =
    drawing_all ms us units _ _ c.loop-i.i c.loop-i.parts _ _ c.members_use-s.ensures.is c.min-q.ensures (omega arith) (omega arith) (omega arith) c.loop-i.invariant in
    record {
      seats = c.loop-i.invariant.0;
      bounded = λ k. rw e (omega (arith, (drawn_fair ms units us).lowers k, c.args.uses.bounded k));
    }

pub returns : goal.returns
returns c =
    let ms = c.args.self.now.members.flags in
    let units = c.args.self.now.units in
    let us = c.args.uses.parts in
    let e : c.loop-i.parts ≡ drawn ms units us =
    drawing_all ms us units _ _ c.loop-i.i c.loop-i.parts _ _ c.members_use-s.ensures.is c.min-q.ensures (omega arith) (omega arith) (omega arith) c.loop-i.invariant in
    record { is = e; fair = subst (FairDraw ms units us) (sym e) (drawn_fair ms units us) }
