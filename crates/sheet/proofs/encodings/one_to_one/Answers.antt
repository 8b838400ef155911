use Rattle.sheet.proofs.OneToOne.{one_to_one}
use Rattle.sheet.proofs.encodings.one_to_one.Goals as goal

pub returns : goal.returns
returns c = one_to_one
