use Rattle.std.proofs.Common.{◌≡◌, ◌&&◌, refl, sym, ap, ◌∙◌, arith, rules}
use Rattle.std.proofs.lemmas.Bool.{le-leb}
use Rattle.std.proofs.lemmas.Bool.Decides.{Decides-at}
use Rattle.std.proofs.lemmas.List.Recursion.{and_is}
use Rattle.ordered.specs.Ascending.{all}
use Rattle.stages.specs.Lines.{blank}
use Rattle.stages.specs.Cutting.{neighbouring}
use Rattle.ranking.specs.Costing.{under, over}
use Rattle.ranking.proofs.Rising.{over_ends}
use Rattle.ranking.proofs.ending.taking_ends.Goals as goal

pub returns-then-wanted-different_totals : goal.returns-then-wanted-different_totals
returns-then-wanted-different_totals c =
    let lines = c.args.lines.now in
    let w = c.args.wanted in
    let f = c.args.floor in
    let are_under : c.all.result ≡ all (under f) lines = and_is (all (under f)) (under f) refl (λ _ _. refl) lines blank c.all.result (search rules) (search rules) in
    let is : c.all.result ≡ over w f lines = are_under ∙ ap (λ b. b && all (under f) lines) (sym (le-leb w (neighbouring lines) (omega arith))) in
    record { is = is; means = λ a. Decides-at _ (over w f lines) is (over_ends w f lines a) }
