use Rattle.std.proofs.Common.{Ok, Err, Result, refl, sym, arith}
use Rattle.heads.specs.Codes.{Decodes}
use Rattle.heads.specs.Kinds.{contract_code}
use Rattle.heads.specs.declared.kinds.Contract.{Contract}
use Rattle.heads.specs.declared.kinds.Contract.TheVariants.{Subscription, Card}
use Rattle.cursor.specs.declared.cursor.Cursor.{Cursor}
use Rattle.cursor.specs.declared.fault.Fault.{Fault}
use Rattle.cursor.specs.Readings.{ranged}
use Rattle.cursor.specs.Cursors.{Took}
use Rattle.draft.specs.Rules.{map_ok}
use Rattle.sheet.specs.Readers.{TookKind}
use Rattle.sheet.proofs.Ranges.{no_kind}
use Rattle.sheet.proofs.front.contract.Goals as goal

took : (s t : Cursor) (r : Result Contract Fault) → TookKind (Decodes contract_code) s r t → Took (ranged 1 1 2) s (map_ok contract_code r) t
took s t (Ok Subscription) (code, h, g, same) = rw (h, sym g) (refl, same)
took s t (Ok Card) (code, h, g, same) = rw (h, sym g) (refl, same)
took s t (Err e) k = no_kind contract_code 1 2 s t e (λ code none h. let a = none Subscription in let b = none Card in omega arith) k

pub returns : goal.returns
returns c = took c.args.cursor.now c.kind.new.cursor c.kind.result c.kind.ensures
