use Rattle.std.proofs.Common.{ℕ, not, rules, tests, arith, refl, sym, ◌∙◌}
use Rattle.std.proofs.lemmas.Iterator.{YieldsList-from_range}
use Rattle.std.proofs.lemmas.Iterator.Consumers.{YieldsList-at, YieldsList-from_filter, nth_from_yields_List}
use Rattle.std.proofs.lemmas.Iterator.Adapters.{option_map_id}
use Rattle.tree.specs.Trees.{among}
use Rattle.tree.proofs.seating.end_at_place.Goals as goal

pub returns : goal.returns
returns c =
    let n = c.args.upto in
    rw c.from.ensures at (sym (option_map_id c.nth.result) ∙ nth_from_yields_List {v = λ (x : ℕ). x} c.nth.result c.nth.new.self c.from.result c.nth.ensures.ran
    (YieldsList-from_filter _ (λ k. not (among k c.args.parents.now)) (YieldsList-at c.filter.ensures.source (YieldsList-from_range 0 n n refl (omega arith))) c.filter.ensures.closure (λ x r q k. search (rules, tests))))
