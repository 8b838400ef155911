use Rattle.std.proofs.Common.{rules}
use Rattle.heads.proofs.TextLaws.{same_names}
use Rattle.heads.proofs.name.Name.is_same.Goals as goal

pub returns : goal.returns
returns c = search (rules, same_names)
