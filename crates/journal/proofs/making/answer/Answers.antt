use Rattle.std.proofs.Common.{◌≡◌, length, vec_items, sym, ap, ◌∙◌, rules}
use Rattle.std.specs.Vec.{with_items}
use Rattle.std.proofs.lemmas.List.{with_items_is}
use Rattle.tariff.specs.Totals.{Meaning, meaning}
use Rattle.heads.specs.Heads.{raw_data}
use Rattle.catalogue.specs.Calls.{enter, publish, amend, delete}
use Rattle.catalogue.specs.Answers.{told, told_back}
use Rattle.catalogue.specs.Held.{held}
use Rattle.listing.specs.Refusals.{row_of as list_row}
use Rattle.listing.specs.Enquiries.{enquiry_data}
use Rattle.journal.specs.Calls.{change, list, call_data, answer_data, said_to}
use Rattle.journal.specs.Refusals.{row_of}
use Rattle.journal.proofs.Says.{answered_by, listed_by, unlisted_by, extends_by}
use Rattle.journal.proofs.making.answer.Given as given
use Rattle.journal.proofs.making.answer.Goals as goal

mean : (g : given.Over) → Meaning g.row.T.Denot
mean g = meaning g.T.Tariff.served g.T.Tariff.drawn g.T.Tariff.charged g.T.Tariff.floor

pub returns-in-Enter-clause-answered : goal.returns-in-Enter-clause-answered
unfolding mean
returns-in-Enter-clause-answered g c =
    let e = enter c.in-Enter.place (raw_data c.in-Enter.head) c.in-Enter.tariff in
    let said : answer_data c.map_err.result ≡ said_to (told_back c.enter.result) (change e) = search rules in
    answered_by (mean g) (held c.args.catalogue.now) (held c.enter.new.self) (call_data c.args.call) e (told_back c.enter.result) (answer_data c.map_err.result) (ap call_data c.in-Enter.is) said c.enter.ensures.judged

pub returns-in-Enter-clause-extends : goal.returns-in-Enter-clause-extends
unfolding mean
returns-in-Enter-clause-extends g c = extends_by (mean g) _ _ _ _ (returns-in-Enter-clause-answered g c)

pub returns-in-Publish-clause-answered : goal.returns-in-Publish-clause-answered
unfolding mean
returns-in-Publish-clause-answered g c =
    answered_by (mean g) (held c.args.catalogue.now) (held c.publish.new.self) (call_data c.args.call) (publish c.in-Publish.place) (told c.publish.result) (answer_data c.changed.result) (ap call_data c.in-Publish.is) c.changed.ensures c.publish.ensures.judged

pub returns-in-Publish-clause-extends : goal.returns-in-Publish-clause-extends
unfolding mean
returns-in-Publish-clause-extends g c = extends_by (mean g) _ _ _ _ (returns-in-Publish-clause-answered g c)

pub returns-in-Amend-clause-answered : goal.returns-in-Amend-clause-answered
unfolding mean
returns-in-Amend-clause-answered g c =
    answered_by (mean g) (held c.args.catalogue.now) (held c.amend.new.self) (call_data c.args.call) (amend c.in-Amend.place c.in-Amend.last) (told c.amend.result) (answer_data c.changed-in-Amend.result) (ap call_data c.in-Amend.is) c.changed-in-Amend.ensures c.amend.ensures.judged

pub returns-in-Amend-clause-extends : goal.returns-in-Amend-clause-extends
unfolding mean
returns-in-Amend-clause-extends g c = extends_by (mean g) _ _ _ _ (returns-in-Amend-clause-answered g c)

pub returns-in-Delete-clause-answered : goal.returns-in-Delete-clause-answered
unfolding mean
returns-in-Delete-clause-answered g c =
    answered_by (mean g) (held c.args.catalogue.now) (held c.delete.new.self) (call_data c.args.call) (delete c.in-Delete.place) (told c.delete.result) (answer_data c.changed-in-Delete.result) (ap call_data c.in-Delete.is) c.changed-in-Delete.ensures c.delete.ensures.judged

pub returns-in-Delete-clause-extends : goal.returns-in-Delete-clause-extends
unfolding mean
returns-in-Delete-clause-extends g c = extends_by (mean g) _ _ _ _ (returns-in-Delete-clause-answered g c)

pub returns-in-Ok-clause-answered : goal.returns-in-Ok-clause-answered
unfolding mean
returns-in-Ok-clause-answered g c =
    let q = enquiry_data c.in-List.enquiry in
    let v = c.in-List.lines in
    let xs = c.deref_mut.result.now in
    let ys = c.list.new.memory in
    let long : length ys ≡ v.len = c.list.auto.memory ∙ (ap length c.deref_mut.ensures.value ∙ sym v.ok.0) in
    let is = ap call_data c.in-List.is ∙ ap (λ ls. list q ls) (sym c.deref_mut.ensures.value) in
    let a = c.in-Ok.ensures.answered in
    listed_by (mean g) (held c.args.catalogue.now) (call_data c.args.call) q xs ys (vec_items (with_items v ys)) c.in-Ok.shown c.in-Ok.costed is (with_items_is v ys long) a.0 a.1

pub returns-in-Ok-clause-extends : goal.returns-in-Ok-clause-extends
unfolding mean
returns-in-Ok-clause-extends g c = extends_by (mean g) _ _ _ _ (returns-in-Ok-clause-answered g c)

pub returns-in-Err-clause-answered : goal.returns-in-Err-clause-answered
unfolding mean
returns-in-Err-clause-answered g c =
    let q = enquiry_data c.in-List.enquiry in
    let v = c.in-List.lines in
    let xs = c.deref_mut.result.now in
    let ys = c.list.new.memory in
    let long : length ys ≡ v.len = c.list.auto.memory ∙ (ap length c.deref_mut.ensures.value ∙ sym v.ok.0) in
    let is = ap call_data c.in-List.is ∙ ap (λ ls. list q ls) (sym c.deref_mut.ensures.value) in
    let a = c.in-Err.ensures.answered in
    unlisted_by (mean g) (held c.args.catalogue.now) (call_data c.args.call) q xs (vec_items (with_items v ys)) (list_row c.in-Err.refusal) (row_of c.into.result) is (with_items_is v ys long ∙ a.1) (ap row_of c.into.ensures) a.0

pub returns-in-Err-clause-extends : goal.returns-in-Err-clause-extends
unfolding mean
returns-in-Err-clause-extends g c = extends_by (mean g) _ _ _ _ (returns-in-Err-clause-answered g c)
