use Rattle.std.proofs.Common.{◌≡◌, map, length, vec_items, vec_len, sym, refl, ap, ◌∙◌, subst, arith}
use Rattle.std.specs.Vec.Iter.{into_iter_items}
use Rattle.tariff.specs.Totals.{Meaning, meaning}
use Rattle.catalogue.specs.Held.{held}
use Rattle.catalogue.specs.Refusals.{row_of}
use Rattle.catalogue.proofs.Holding.{held_sound}
use Rattle.catalogue.proofs.OneAnswer.{book_laws}
use Rattle.journal.specs.Calls.{call_data, answer_data}
use Rattle.journal.specs.Runs.{Run}
use Rattle.journal.proofs.Loops.{none_made, none_opened, one_more, all_made}
use Rattle.journal.proofs.RunLaws.{run_laws}
use Rattle.journal.proofs.replaying.replay.Given as given
use Rattle.journal.proofs.replaying.replay.Goals as goal

mean : (g : given.Over) → Meaning g.row.T.Denot
mean g = meaning g.T.Tariff.served g.T.Tariff.drawn g.T.Tariff.charged g.T.Tariff.floor

pub returns-then-room-len : goal.returns-then-room-len
unfolding mean
returns-then-room-len g c = record { replays = ((λ room. omega arith), refl); laws = run_laws (mean g) (book_laws g.row.T.Denot) }

pub returns-in-Err : goal.returns-in-Err
unfolding mean
returns-in-Err g c =
    let o = c.in-Err.ensures in
    let v = c.args.given in
    record {
      replays = (
        omega arith,
        o.0,
        ap row_of o.1,
        ap (λ s. record { slots = s; tariffs = c.in-Err.back.tariffs; calls = v.calls; answers = v.answers }) o.2
            ∙ ap (λ t. record { slots = v.slots; tariffs = t; calls = v.calls; answers = v.answers }) o.3,
      );
      laws = run_laws (mean g) (book_laws g.row.T.Denot);
    }

pub loop-call-init : goal.loop-call-init
unfolding mean
loop-call-init g c =
    let laws = book_laws g.row.T.Denot in
    let b = held c.in-Ok.catalogue in
    let n = vec_len c.args.given.slots in
    let items = c.into_iter-call-iterator.ensures.into_iter_gives.0 in
    none_made (mean g) (length b) _ c.args.given.answers b
    (none_opened (mean g) (length b) b n (laws.opened_long n) c.in-Ok.ensures.1 refl)
    (omega (arith, ap length items, c.args.given.calls.ok.0))

pub loop-call-preserved : goal.loop-call-preserved
unfolding mean
loop-call-preserved g c =
    let p = c.push_reserved.ensures in
    one_more (mean g) (length (held c.in-Ok.catalogue)) c.loop-call.yielded (into_iter_items c.loop-call.call-iterator) (into_iter_items c.next.new.self) _
    c.args.given.answers c.loop-call.answers c.push_reserved.new.self (held c.loop-call.catalogue) (held c.answer-said.new.catalogue) c.in-Some.call c.answer-said.result
    c.loop-call.invariant c.in-Some.ensures.steps.0 c.answer-said.ensures.answered p.items p.len p.capacity

pub returns : goal.returns
unfolding mean
returns g c =
    let laws = book_laws g.row.T.Denot in
    let o = c.in-Ok.ensures in
    let b = held c.in-Ok.catalogue in
    let n = vec_len c.args.given.slots in
    let long : length b ≡ n = ap length o.1 ∙ laws.opened_long n in
    let so = c.loop-call.invariant in
    let rest = c.loop-call.call-iterator.rest.ok in
    let all = all_made (mean g) (length b) c.loop-call.yielded (into_iter_items c.loop-call.call-iterator) _ c.args.given.answers c.loop-call.answers (held c.loop-call.catalogue) so
    (sym rest.0 ∙ c.in-None.ensures.steps.0) ∙ c.into_iter-call-iterator.ensures.into_iter_gives.0 in
    record {
      replays = (
        omega arith,
        o.0,
        record {
          said = so.said;
          run = subst (λ k. Run (mean g) k (map call_data (vec_items c.args.given.calls)) (map answer_data so.said) (held c.loop-call.catalogue)) long
              (subst (λ cs. Run (mean g) (length b) (map call_data cs) (map answer_data so.said) (held c.loop-call.catalogue)) all so.run);
          answers_are = so.answers_are;
          room_kept = so.room_kept;
          apart = c.loop-call.catalogue.apart;
          sound = held_sound c.loop-call.catalogue;
        },
      );
      laws = run_laws (mean g) laws;
    }
