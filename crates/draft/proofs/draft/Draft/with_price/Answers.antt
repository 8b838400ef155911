use Rattle.std.proofs.Common.{◌≡◌, ℕ, ◌<◌, length, set, Some, None, sym, ap, ◌∙◌, subst, arith}
use Rattle.std.proofs.lemmas.List.{length-set}
use Rattle.refusal.specs.Lowest.{lowest}
use Rattle.tree.proofs.Held.{keeps_rule}
use Rattle.draft.specs.Apart.{Apart}
use Rattle.draft.specs.Drafts.{draft_data}
use Rattle.draft.specs.Rules.{priced_on_branch}
use Rattle.draft.specs.Rows.{PricedOnBranch}
use Rattle.draft.proofs.Apart.{set_apart, data_set}
use Rattle.draft.proofs.Entered.{price_ok}
use Rattle.draft.proofs.PriceRows.{priced_tells}
use Rattle.draft.proofs.draft.Draft.with_price.Goals as goal

pub invariant_of-result : goal.invariant_of-result
invariant_of-result c =
    let self = c.args.self in
    let d = draft_data self in
    let node = c.args.node in
    let p = c.in_ok-amount.amount in
    let none : lowest (priced_on_branch d node) (length d.parents) ≡ None = sym c.priced_on_branch.ensures ∙ c.in_default.is in
    let free : (k : ℕ) → PricedOnBranch d node k → ⊥ = rw none at (priced_tells d (keeps_rule self.tree) node p.price) in
    record {
      room = length-set self.prices node (Some p) ∙ self.room;
      flags = self.flags;
      apart = subst (Apart d.parents) (sym (data_set self.prices node p)) (set_apart d node p.price free self.apart);
      seated = self.seated;
    }

pub returns : goal.returns
returns c =
    let self = c.args.self in
    let d = draft_data self in
    let node = c.args.node in
    let p = c.in_ok-amount.amount in
    let none : lowest (priced_on_branch d node) (length d.parents) ≡ None = sym c.priced_on_branch.ensures ∙ c.in_default.is in
    let z = c.nodes.ensures.is in
    let h : node < length d.parents = omega arith in
    let q = c.in_ok-amount.ensures in
    price_ok d node c.args.price _ h q.0 none (data_set self.prices node p ∙ ap (λ (x : ℕ). set d.prices node (Some x)) q.1)
