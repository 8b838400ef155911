use Rattle.std.proofs.Common.{◌≡◌, Ok, Err, Result, MatchResult, IsErrAnd, inr, refl, sym, ◌∙◌, rules}
use Rattle.std.proofs.lemmas.Result.{err_from_is_err_and}
use Rattle.cursor.specs.declared.fault.Fault.TheVariants.{AgainstRule}
use Rattle.sheet.proofs.front.kind.Goals as goal

-- the error behind a mapped one
declined : {V E F : Type 0} (r : Result V E) (s : Result V F) (f : F) (R : E → F → Type 0) → MatchResult r (λ v. s ≡ Ok v) (λ e. IsErrAnd s (R e)) → s ≡ Err f → (e : E) × (r ≡ Err e) × R e f
declined (Ok v) s f R m e = let z : Ok v ≡ Err f = sym m ∙ e in cc
declined (Err d) s f R m e = (d, refl, rw e at m)

pub returns-in_err-kind : goal.returns-in_err-kind
returns-in_err-kind g c =
    let p = err_from_is_err_and c.from_residual-in_err-kind.result c.from_residual-in_err-kind.ensures.1 in
    let d = declined c.try_from.result c.map_err.result c.in_err-kind.field-0.0 _ c.map_err.ensures.cases c.in_err-kind.was in
    let k : c.in_err-kind.field-0.0 ≡ AgainstRule c.args.cursor.now.at = search rules in
    rw (p.1, p.2) (inr (_, _, d.0, c.in_ok-number.ensures.0, rw d.1 at c.try_from.ensures, k), refl)
