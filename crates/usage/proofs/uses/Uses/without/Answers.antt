use Rattle.std.proofs.Common.{◌≡◌, false, cond, length, get_or, ap, ◌∙◌, arith, rules}
use Rattle.usage.specs.UsesLists.{cleared}
use Rattle.usage.proofs.Arrays.{from_fn_at}
use Rattle.usage.proofs.UsesLaws.{cleared_is, cleared_low, cleared_length}
use Rattle.usage.proofs.uses.Uses.without.Goals as goal

pub invariant_of-result : goal.invariant_of-result
invariant_of-result c =
    let fs = c.args.seats.now.flags in
    let us = c.args.self.parts in
    let made = c.from_fn-parts.ensures.items in
    let e : c.from_fn-parts.result ≡ cleared fs us =
    cleared_is fs us c.from_fn-parts.result (omega arith) (omega (arith, made.long))
    (λ k lt. from_fn_at _ _ (λ j. cond (get_or fs j false) 0 (get_or us j 0)) (λ j y q w. search rules) _ 16 made k 0 (omega arith)) in
    record {
      seats = ap length e ∙ cleared_length fs us ∙ c.args.self.seats;
      bounded = λ k. rw e (omega (arith, cleared_low fs us k, c.args.self.bounded k));
    }

pub returns : goal.returns
returns c =
    let fs = c.args.seats.now.flags in
    let us = c.args.self.parts in
    let made = c.from_fn-parts.ensures.items in
    let e : c.from_fn-parts.result ≡ cleared fs us =
    cleared_is fs us c.from_fn-parts.result (omega arith) (omega (arith, made.long))
    (λ k lt. from_fn_at _ _ (λ j. cond (get_or fs j false) 0 (get_or us j 0)) (λ j y q w. search rules) _ 16 made k 0 (omega arith)) in
    e
