use Rattle.std.proofs.Common.{Some, ap, ◌∙◌}
use Rattle.std.proofs.lemmas.Bool.{both_ways}
use Rattle.tariff.specs.Totals.{meaning}
use Rattle.heads.specs.Heads.{head_data}
use Rattle.catalogue.specs.Held.{held}
use Rattle.listing.specs.Enquiries.{enquiry_data}
use Rattle.listing.proofs.Fits.{none_published}
use Rattle.listing.proofs.Steps.{total_is}
use Rattle.listing.proofs.request.Request.total_at.Goals as goal

pub returns-in_err-tariff : goal.returns-in_err-tariff
returns-in_err-tariff g c fit =
    let m = meaning g.T.Tariff.served g.T.Tariff.drawn g.T.Tariff.charged g.T.Tariff.floor in
    let r = c.args.self.now in
    absurd (both_ways _ (none_published m (enquiry_data r.enquiry.now) (held r.catalogue.now) c.args.place c.in_err-tariff.ensures) fit)

pub returns : goal.returns
returns g c fit =
    let m = meaning g.T.Tariff.served g.T.Tariff.drawn g.T.Tariff.charged g.T.Tariff.floor in
    let r = c.args.self.now in
    ap Some (c.total.ensures.is ∙ total_is m (enquiry_data r.enquiry.now) (held r.catalogue.now) c.args.place (head_data c.in_ok-tariff.field-0-0) c.in_ok-tariff.tariff.now r.uses.parts r.estimated c.in_ok-tariff.ensures)
