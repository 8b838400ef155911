use Rattle.std.proofs.Common.{take, sym, ◌∙◌, arith}
use Rattle.std.proofs.lemmas.List.{length-map, length-take-le}
use Rattle.usage.specs.Groups.{data_of}
use Rattle.usage.proofs.GroupLaws.{held_in_order}
use Rattle.usage.proofs.groups.Groups.count.Goals as goal

pub returns : goal.returns
returns c =
    let self = c.args.self.now in
    let kept = take self.count self.entries in
    record {
      many = sym (length-map kept data_of ∙ length-take-le self.count self.entries (omega arith));
      few = self.few;
      ascending = held_in_order kept self.rising;
    }
