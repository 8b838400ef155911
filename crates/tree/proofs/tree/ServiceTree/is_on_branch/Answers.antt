use Rattle.std.proofs.lemmas.Bool.{both_ways}
use Rattle.tree.proofs.tree.ServiceTree.is_on_branch.Goals as goal

pub returns-then-is_end_service : goal.returns-then-is_end_service
returns-then-is_end_service c =
    let u = c.is_under.ensures.means in (
      λ t. record { end_service = c.is_end_service.ensures.means.0 c.if-is_end_service.true; under = u.0 t },
      λ b. u.1 b.under,
    )

pub returns-else-is_end_service : goal.returns-else-is_end_service
returns-else-is_end_service c =
    let r = c.is_end_service.result in
    let no = c.if-is_end_service.false in
    (λ t. absurd (both_ways r no t), λ b. c.is_end_service.ensures.means.1 b.end_service)
