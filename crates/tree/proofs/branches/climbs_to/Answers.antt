use Rattle.std.proofs.Common.{◌≡◌, ◌∙◌, inl, inr, arith}
use Rattle.std.proofs.lemmas.List.{get_or_default}
use Rattle.std.proofs.lemmas.Bool.{false≢true, eqb-true, eq-eqb, cases_order}
use Rattle.tree.specs.Trees.{parent}
use Rattle.tree.proofs.Climbs.{from_parent, to_parent, not_higher, not_past_top}
use Rattle.tree.proofs.branches.climbs_to.Goals as goal

pub returns-then-p : goal.returns-then-p
returns-then-p c =
    let ps = c.args.parents.now in
    let at = c.loop-at.at in
    let g : parent ps at ≡ 255 = get_or_default ps at 255 0 c.loop-at.invariant.0 ∙ c.if-p.true in (
      λ e. absurd (false≢true e),
      λ x. absurd (not_past_top ps c.requires.few c.args.above c.requires.above
          (rw g at (from_parent ps at c.args.above c.loop-at-test.true (c.loop-at.invariant.2 x)))),
    )

pub loop-at-smaller : goal.loop-at-smaller
loop-at-smaller c =
    let ps = c.args.parents.now in
    let g = get_or_default ps c.loop-at.at 0 255 c.loop-at.invariant.0 in
    let l = c.requires.lower c.loop-at.at c.loop-at.invariant.0 (λ e. c.if-p.false (g ∙ e)) in
    omega arith

pub loop-at-preserved : goal.loop-at-preserved
loop-at-preserved c =
    let ps = c.args.parents.now in
    let at = c.loop-at.at in
    let top = c.args.above in
    let g = get_or_default ps at 0 255 c.loop-at.invariant.0 in
    let l = c.requires.lower at c.loop-at.invariant.0 (λ e. c.if-p.false (g ∙ e)) in
    let h = c.loop-at.invariant.0 in (
      omega arith,
      λ x. c.loop-at.invariant.1 (to_parent ps at top (rw g at x)),
      λ x. rw g (from_parent ps at top c.loop-at-test.true (c.loop-at.invariant.2 x)),
    )

pub returns : goal.returns
returns c =
    let ps = c.args.parents.now in
    let at = c.loop-at.at in
    let top = c.args.above in
    let lq = c.loop-at-test.false in (
      λ e. c.loop-at.invariant.1 (0, eqb-true at top e),
      λ x. elim (cases_order at top) [
        | inl e ↦ eq-eqb at top e
        | inr o ↦ elim o [
          | inl lt ↦ absurd (not_higher ps c.requires.few c.requires.lower at top c.requires.above c.loop-at.invariant.0 lt (c.loop-at.invariant.2 x))
          | inr gt ↦ absurd (omega arith)
        ]
      ],
    )
