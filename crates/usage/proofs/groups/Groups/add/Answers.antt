use Rattle.std.specs.Bool.{◌==◌}
use Rattle.std.proofs.Common.{◌≡◌, ◌<◌, true, false, map, length, take, ap, ◌∙◌, arith, rules}
use Rattle.usage.specs.Groups.{GroupData, data_of, group_data, has_order}
use Rattle.usage.proofs.GroupLaws.{any_data, cause_order, cause_none, held_length, put_length, put_rising, put_data}
use Rattle.usage.proofs.groups.Groups.add.Goals as goal

pub returns-then-uses_order : goal.returns-then-uses_order
returns-then-uses_order c =
    let self = c.args.self in
    let new = group_data c.args.members.flags c.args.units c.args.order in
    let among = any_data (λ d. d.order == c.args.order) (take self.count self.entries) in
    let used : has_order c.args.order (map data_of (take self.count self.entries)) ≡ true = search rules in
    cause_order _ new c.in_ok-group.ensures.0 (held_length self.entries self.count (omega arith) c.if-self-ge-MOST_GROUPS.false) used

pub invariant_of-result : goal.invariant_of-result
invariant_of-result c =
    let self = c.args.self in
    let group = c.in_ok-group.group in
    let fs = c.put.new.memory in
    let kept = take self.count self.entries in
    let wrote = c.in_ok-put.ensures.1 in
    let order : group.order ≡ c.args.order = ap (λ (d : GroupData). d.order) c.in_ok-group.ensures.1 in
    let among = any_data (λ d. d.order == c.args.order) kept in
    let unused : has_order c.args.order (map data_of kept) ≡ false = search rules in
    let free : has_order group.order (map data_of kept) ≡ false = ap (λ o. has_order o (map data_of kept)) order ∙ unused in
    let room : self.count < length self.entries = omega arith in
    record {
      room = put_length group self.entries fs self.count room wrote ∙ self.room;
      few = omega arith;
      rising = put_rising group self.entries fs self.count room wrote self.rising free;
    }

pub returns : goal.returns
returns c =
    let self = c.args.self in
    let new = group_data c.args.members.flags c.args.units c.args.order in
    let among = any_data (λ d. d.order == c.args.order) (take self.count self.entries) in
    let unused : has_order c.args.order (map data_of (take self.count self.entries)) ≡ false = search rules in (
      cause_none _ new c.in_ok-group.ensures.0 (held_length self.entries self.count (omega arith) (omega arith)) unused,
      put_data c.in_ok-group.group self.entries c.put.new.memory self.count (omega arith) c.in_ok-put.ensures.1 new c.in_ok-group.ensures.1,
    )
