use Rattle.std.proofs.lemmas.Bool.{leb-true, le-leb}
use Rattle.heads.specs.Heads.{head_data}
use Rattle.heads.proofs.HeadLaws.{crossing, shared_other}
use Rattle.heads.proofs.head.Head.shares_day.Goals as goal

pub returns-then-self-other : goal.returns-then-self-other
returns-then-self-other c =
    let h = c.args.self.now in
    let k = c.args.other.now in (
      (λ e. crossing (head_data h) (head_data k) h.ordered k.ordered c.if-self-other.true (leb-true k.first h.last e)),
      (λ s. le-leb k.first h.last (shared_other (head_data h) (head_data k) s)),
    )
