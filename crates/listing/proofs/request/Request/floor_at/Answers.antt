use Rattle.std.proofs.Common.{◌≡◌, ◌&&◌, sym, ap, ◌∙◌, rules}
use Rattle.std.proofs.lemmas.Bool.{and_left}
use Rattle.tariff.specs.Totals.{meaning}
use Rattle.heads.specs.Heads.{head_data}
use Rattle.catalogue.specs.Held.{held}
use Rattle.listing.specs.Enquiries.{enquiry_data}
use Rattle.listing.specs.Tests.{asked_for, serves_all}
use Rattle.listing.proofs.Fits.{none_published}
use Rattle.listing.proofs.Steps.{floor_if}
use Rattle.listing.proofs.request.Request.floor_at.Goals as goal
use Rattle.listing.proofs.request.Request.floor_at.Goals.{then-admits, else-admits}

pub returns-in_err-head : goal.returns-in_err-head
returns-in_err-head g c =
    let m = meaning g.T.Tariff.served g.T.Tariff.drawn g.T.Tariff.charged g.T.Tariff.floor in
    let r = c.args.self.now in
    rw c.from_residual.ensures (none_published m (enquiry_data r.enquiry.now) (held r.catalogue.now) c.args.place c.in_err-head.ensures)

pub returns : goal.returns
returns g c =
    let m = meaning g.T.Tariff.served g.T.Tariff.drawn g.T.Tariff.charged g.T.Tariff.floor in
    let r = c.args.self.now in
    let h = head_data c.in_ok-head.head in
    let t = c.in_ok-head.tariff.now in
    let admits = c.admits.ensures (enquiry_data r.enquiry.now) r.asks in
    let served = serves_all (g.T.Tariff.served t) 0 r.uses.parts in
    let fits : c.if-admits.then ≡ (asked_for (enquiry_data r.enquiry.now) h && served) = elim c.if-admits.branch [
      | then-admits w ↦ w.then-is ∙ w.serves_uses.ensures ∙ ap (λ b. b && served) (sym w.if-admits.true ∙ admits)
      | else-admits w ↦ w.then-is ∙ w.if-admits.false ∙ sym (and_left _ _ (sym admits ∙ w.if-admits.false))
    ] in
    floor_if m (enquiry_data r.enquiry.now) (held r.catalogue.now) c.args.place h t r.uses.parts r.estimated c.in_ok-head.ensures c.then.result (c.then.ensures.variant ∙ fits) (search rules)
