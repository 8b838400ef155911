use Rattle.std.proofs.Common.{◌≡◌, ◌+◌, true, false, is_some, get_or, sym, refl, ap, ◌∙◌, subst, inr, arith, below_more}
use Rattle.std.proofs.lemmas.Bool.{false≢true}
use Rattle.std.proofs.lemmas.Option.{same_Some}
use Rattle.std.proofs.lemmas.Result.{MatchResult-at_ok}
use Rattle.tariff.specs.Totals.{meaning}
use Rattle.ordered.proofs.Members.{among_get_or}
use Rattle.stages.specs.declared.gathering.Gathering.{Gathering}
use Rattle.stages.specs.Lines.{line_of}
use Rattle.stages.specs.Stages.{gathering, put_among}
use Rattle.ranking.specs.Queues.{queued_of, LinedUp}
use Rattle.ranking.specs.Costing.{EndsBefore, Taken}
use Rattle.ranking.proofs.Lining.{queue_is}
use Rattle.ranking.proofs.Gathers.{gathered_memory}
use Rattle.listing.specs.Requests.{offers_for}
use Rattle.listing.proofs.Steps.{ends_here}
use Rattle.listing.proofs.request.Request.gather.Goals as goal

pub returns-then-taking_ends-clause-taken : goal.returns-then-taking_ends-clause-taken
returns-then-taking_ends-clause-taken g c =
    let r = c.args.self.now in
    let os = offers_for (meaning g.T.Tariff.served g.T.Tariff.drawn g.T.Tariff.charged g.T.Tariff.floor) r in
    let xs = c.args.waiting.now in
    let inv = c.loop-costed.invariant in
    let lined : LinedUp os xs = subst (LinedUp os) (sym c.requires.queued) (queue_is os) in
    let ends = (ends_here os xs lined r.enquiry.now.length c.loop-costed.costed c.loop-costed.memory true inv.lines c.if-taking_ends.ensures.means).0 refl in
    let taken : Taken r.enquiry.now.length os xs c.loop-costed.costed = record { within = inv.within; goes_on = inv.goes_on; ends = inr ends } in
    subst (Taken r.enquiry.now.length os xs) (sym (ap (λ (s : Gathering). s.held) inv.stands)) taken

pub unwrap-requires : goal.unwrap-requires
unwrap-requires g c =
    let os = offers_for (meaning g.T.Tariff.served g.T.Tariff.drawn g.T.Tariff.charged g.T.Tariff.floor) c.args.self.now in
    let xs = c.args.waiting.now in
    let lined : LinedUp os xs = subst (LinedUp os) (sym c.requires.queued) (queue_is os) in
    ap is_some (c.total_at.ensures (lined.all_fit _ (among_get_or xs c.loop-costed.costed (queued_of 0 0) c.loop-costed-test.true)).0)

pub loop-costed-preserved : goal.loop-costed-preserved
loop-costed-preserved g c =
    let r = c.args.self.now in
    let os = offers_for (meaning g.T.Tariff.served g.T.Tariff.drawn g.T.Tariff.charged g.T.Tariff.floor) r in
    let xs = c.args.waiting.now in
    let k = c.loop-costed.costed in
    let mem = c.loop-costed.memory in
    let stage = c.loop-costed.stage in
    let inv = c.loop-costed.invariant in
    let x = get_or xs k (queued_of 0 0) in
    let cost = c.unwrap.result in
    let lined : LinedUp os xs = subst (LinedUp os) (sym c.requires.queued) (queue_is os) in
    let read = same_Some _ _ (sym c.unwrap.ensures ∙ c.total_at.ensures (lined.all_fit x (among_get_or xs k (queued_of 0 0) c.loop-costed-test.true)).0) in
    let holds : stage.held ≡ k = ap (λ (s : Gathering). s.held) inv.stands in
    let put = MatchResult-at_ok _ _ _ c.unwrap-stage.ensures c.put.ensures in
    let ends = ends_here os xs lined r.enquiry.now.length k mem false inv.lines c.if-taking_ends.ensures.means in
    record {
      within = omega arith;
      long = c.put.auto.memory ∙ inv.long;
      stands = put.1 ∙ ap (λ (s : Gathering). gathering s.wanted (s.held + 1)) inv.stands;
      lines = gathered_memory os xs k cost (queued_of 0 0) mem c.put.new.memory c.loop-costed-test.true (omega (arith, holds, put.0)) inv.lines read
          (put.2 ∙ ap (λ n. put_among n (line_of x.place cost) mem) holds);
      goes_on = below_more (λ j. EndsBefore r.enquiry.now.length os xs j → ⊥) k inv.goes_on (λ e. false≢true (ends.1 e));
    }
