use Rattle.std.proofs.Common.{ℕ, Bool, false, ◌∙◌, rules}
use Rattle.std.proofs.lemmas.List.FromFn.{fill_by_all}
use Rattle.usage.proofs.Arrays.{from_fn_at}
use Rattle.tree.specs.Trees.{end_at}
use Rattle.tree.specs.Held.{parents_of}
use Rattle.draft.specs.Drafts.{if_there, under_some}
use Rattle.draft.proofs.grouping.members.Goals as goal

pub returns : goal.returns
returns c =
    let ps = parents_of c.args.tree.now in
    let f : ℕ → Bool = λ t. if_there false (under_some ps c.args.nodes.now) (end_at ps t) in
    let made = c.from_fn-flags.ensures.items in
    c.new.ensures ∙ fill_by_all f c.from_fn-flags.result 16 false made.long (λ k h. from_fn_at _ _ f (λ j y q w. search rules) _ 16 made k false h)
