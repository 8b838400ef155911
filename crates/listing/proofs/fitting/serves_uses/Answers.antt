use Rattle.std.proofs.Common.{ℕ, ◌||◌, eqb, ap, ◌∙◌, rules}
use borrow.Author.Tests.{tests}
use Rattle.std.proofs.lemmas.Iterator.{YieldsList-from_slice}
use Rattle.std.proofs.lemmas.Iterator.Consumers.{YieldsList-from_enumerate}
use Rattle.std.proofs.lemmas.Iterator.Search.{all_from_yields_List}
use Rattle.listing.specs.Tests.{serves_all}
use Rattle.listing.proofs.Fits.{serves_seats}
use Rattle.listing.proofs.fitting.serves_uses.Goals as goal

pub returns : goal.returns
returns g c =
    let s = g.T.Tariff.served c.args.tariff.now in
    all_from_yields_List (λ (p : ℕ × ℕ). eqb p.1 0 || s p.0) _ _ _ c.all.ensures.ran
    (YieldsList-from_enumerate (YieldsList-from_slice c.parts.result cc) cc) (λ x b q k. search (rules, tests))
    ∙ serves_seats s 0 c.parts.result
    ∙ ap (serves_all s 0) c.parts.ensures.same
