use Rattle.std.proofs.Common.{◌≡◌, ℕ, ◌<◌, Bool, true, false, List, length, get_or, None, sym, ap, ◌∙◌, subst, arith}
use Rattle.usage.specs.Groups.{group_data, with_group, group_cause}
use Rattle.usage.specs.Held.{held}
use Rattle.tree.specs.Trees.{ends_below}
use Rattle.tree.specs.Held.{parents_of}
use Rattle.tree.proofs.Held.{keeps_rule}
use Rattle.refusal.specs.Lowest.{lowest}
use Rattle.draft.specs.Apart.{Seated}
use Rattle.draft.specs.Drafts.{draft_data, flagged, members_of}
use Rattle.draft.specs.Rules.{strays, shares}
use Rattle.draft.proofs.Apart.{add_seated}
use Rattle.draft.proofs.Entered.{group_ok}
use Rattle.draft.proofs.Members.{member_seated}
use Rattle.draft.proofs.Nodes.{strays_more, length_flagged}
use Rattle.draft.proofs.draft.Draft.with_group.Goals as goal

pub flag-grouped-requires : goal.flag-grouped-requires
flag-grouped-requires c =
    let w = c.nodes.ensures.rule in
    let z = c.nodes.ensures.is in
    strays_more c.nodes.result 40 c.args.nodes.now (omega (arith, w.few)) (sym c.if-strays.ensures)

pub invariant_of-result : goal.invariant_of-result
invariant_of-result c =
    let self = c.args.self in
    let ps = parents_of self.tree in
    let ns = c.args.nodes.now in
    let g = group_data c.members-members.result.flags c.args.units c.args.order in
    let m = c.members-members.ensures in
    let own : (s : ℕ) → get_or c.members-members.result.flags s false ≡ true → s < ends_below (length ps) ps =
    λ s t. member_seated ps (keeps_rule self.tree) ns s (sym (ap (λ (fs : List Bool). get_or fs s false) m) ∙ t) in
    record {
      room = self.room;
      flags = ap length c.flag-grouped.ensures ∙ (length_flagged ns self.grouped ∙ self.flags);
      apart = self.apart;
      seated = subst (Seated ps) (sym c.in_ok-groups.ensures.1) (add_seated ps g (held self.groups) own self.seated);
    }

pub returns : goal.returns
returns c =
    let self = c.args.self in
    let d = draft_data self in
    let ps = parents_of self.tree in
    let ns = c.args.nodes.now in
    let units = c.args.units in
    let order = c.args.order in
    let m = c.members-members.ensures in
    let g = c.in_ok-groups.ensures in
    let f : c.flag-grouped.result ≡ flagged ns self.grouped = c.flag-grouped.ensures in
    let z = c.nodes.ensures.is in
    let s : strays (length ps) ns ≡ false = sym (ap (λ (n : ℕ). strays n ns) z) ∙ sym c.if-strays.ensures in
    let cause : group_cause d.groups (group_data (members_of ps ns) units order) ≡ None =
    sym (ap (λ (fs : List Bool). group_cause d.groups (group_data fs units order)) m) ∙ g.0 in
    let free : lowest (shares ps (flagged ns self.grouped) ns) (length ps) ≡ None =
    sym (ap (λ (fs : List Bool). lowest (shares ps fs ns) (length ps)) f) ∙ (sym c.sharer.ensures ∙ c.in_default.is) in
    group_ok d order units ns c.flag-grouped.result (held c.in_ok-groups.groups) s cause free f
    (g.1 ∙ ap (λ (fs : List Bool). with_group (group_data fs units order) d.groups) m)
