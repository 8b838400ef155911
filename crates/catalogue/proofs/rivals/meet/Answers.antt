use Rattle.std.proofs.lemmas.Bool.{both_ways}
use Rattle.std.proofs.lemmas.Bool.Decides.{same_from_decides}
use Rattle.heads.specs.Heads.{head_data}
use Rattle.catalogue.specs.Search.{rivals}
use Rattle.catalogue.proofs.Searching.{rivals_decide}
use Rattle.catalogue.proofs.rivals.meet.Goals as goal

pub returns-then-is_namesake : goal.returns-then-is_namesake
returns-then-is_namesake c =
    let h = head_data c.args.head.now in
    let k = head_data c.args.other.now in
    let d = rivals_decide h k in
    let n = c.is_namesake.ensures.0 c.if-is_namesake.true in
    let s = c.shares_day.ensures in
    same_from_decides c.shares_day.result (rivals h k) ((λ e. (n, s.0 e)), (λ m. s.1 m.1)) d

pub returns-else-is_namesake : goal.returns-else-is_namesake
returns-else-is_namesake c =
    let h = head_data c.args.head.now in
    let k = head_data c.args.other.now in
    let d = rivals_decide h k in
    let n = c.is_namesake.ensures in
    same_from_decides c.is_namesake.result (rivals h k) ((λ e. absurd (both_ways c.is_namesake.result c.if-is_namesake.false e)), (λ m. n.1 m.0)) d
