use Rattle.std.proofs.Common.{◌≡◌, false, sum, get_or, ◌∙◌, arith, rules}
use Rattle.std.proofs.lemmas.Iterator.{YieldsList-from_slice}
use Rattle.std.proofs.lemmas.Iterator.Consumers.{fits_from_yields_list}
use Rattle.std.proofs.lemmas.List.Sums.{sum_by-le}
use Rattle.usage.specs.Drawing.{used, used_at}
use Rattle.usage.proofs.Arrays.{from_fn_at}
use Rattle.usage.proofs.Steps.{used_is, used_at_within}
use Rattle.usage.proofs.group.Group.members_use.Goals as goal

pub sum-requires-clause-fits : goal.sum-requires-clause-fits
sum-requires-clause-fits c =
    let ms = c.args.self.now.members.flags in
    let us = c.args.uses.now.parts in
    let made = c.from_fn-each.ensures.items in
    let each = from_fn_at _ _ (λ j. used_at (get_or ms j false) (get_or us j 0)) (λ j y q w. search rules) c.from_fn-each.result 16 made in
    let low = sum_by-le (λ y. y) 100000000 c.from_fn-each.result
    (λ k d lt. omega (arith, each k d (omega (arith, made.long)), used_at_within (get_or ms k false) (get_or us k 0), c.args.uses.now.bounded k)) in
    fits_from_yields_list _ 18446744073709551616 (YieldsList-from_slice c.from_fn-each.result (search rules)) (omega (arith, low, made.long))

pub returns : goal.returns
returns c =
    let ms = c.args.self.now.members.flags in
    let us = c.args.uses.now.parts in
    let made = c.from_fn-each.ensures.items in
    let each = from_fn_at _ _ (λ j. used_at (get_or ms j false) (get_or us j 0)) (λ j y q w. search rules) c.from_fn-each.result 16 made in
    let low = sum_by-le (λ y. y) 100000000 c.from_fn-each.result
    (λ k d lt. omega (arith, each k d (omega (arith, made.long)), used_at_within (get_or ms k false) (get_or us k 0), c.args.uses.now.bounded k)) in
    let e : c.sum.result ≡ sum c.from_fn-each.result = search rules in
    let is : sum c.from_fn-each.result ≡ used ms us = used_is ms us c.from_fn-each.result (omega arith) (omega (arith, made.long)) (λ k lt. each k 0 (omega (arith, made.long))) in
    record { is = e ∙ is; bound = omega (arith, low, made.long) }
