use Rattle.std.proofs.Common.{sym, ◌∙◌, arith}
use Rattle.std.proofs.lemmas.Bool.{both_ways}
use Rattle.heads.specs.Texts.{printable}
use Rattle.heads.proofs.TextLaws.{text_printable, padded_behind, padded_bytes, padded_high}
use Rattle.heads.proofs.name.Name.new.Goals as goal
use Rattle.heads.proofs.name.Name.new.Goals.{then-len-eq0-via-then-len-eq0, then-len-eq0-via-else-len-eq0+then-len-gt-MOST_BYTES, then-len-eq0-via-else-len-eq0+else-len-gt-MOST_BYTES+then-not-are_printable}

pub returns-then-len-eq0 : goal.returns-then-len-eq0
returns-then-len-eq0 c = λ t. elim c.then-len-eq0.branch [
  | then-len-eq0-via-then-len-eq0 w ↦ omega (arith, w.if-len-eq0.true, t.some)
  | then-len-eq0-via-else-len-eq0+then-len-gt-MOST_BYTES w ↦ omega (arith, w.if-len-gt-MOST_BYTES.true, t.short)
  | then-len-eq0-via-else-len-eq0+else-len-gt-MOST_BYTES+then-not-are_printable w ↦
      both_ways (printable c.args.text.now) (sym w.are_printable.ensures ∙ w.if-not-are_printable.true) (text_printable c.args.text.now t)
]

pub invariant_of-result-clause-low : goal.invariant_of-result-clause-low
invariant_of-result-clause-low c = λ k lt. rw c.copy_from_slice.ensures.after (padded_bytes c.args.text.now (sym c.are_printable.ensures ∙ c.if-not-are_printable.false) k lt).0

pub invariant_of-result-clause-high : goal.invariant_of-result-clause-high
invariant_of-result-clause-high c = λ k. rw c.copy_from_slice.ensures.after (padded_high c.args.text.now (sym c.are_printable.ensures ∙ c.if-not-are_printable.false) k)

pub invariant_of-result-clause-behind : goal.invariant_of-result-clause-behind
invariant_of-result-clause-behind c = λ k le. rw c.copy_from_slice.ensures.after (padded_behind c.args.text.now k le)
