use Rattle.std.proofs.Common.{◌≡◌, ◌≤◌, length, take, Err, sym, refl, ap, ◌∙◌, subst, arith, rules}
use Rattle.std.proofs.lemmas.Bool.{both_ways}
use Rattle.tariff.specs.Totals.{Meaning, meaning}
use Rattle.usage.specs.UsesLists.{UsesList}
use Rattle.catalogue.specs.Books.{Book}
use Rattle.catalogue.specs.Held.{held}
use Rattle.stages.specs.declared.gathering.Gathering.{Gathering}
use Rattle.stages.specs.Cutting.{keeps}
use Rattle.ranking.specs.Queues.{queue}
use Rattle.ranking.specs.Costing.{Taken}
use Rattle.ranking.specs.Steps.{gathered, cut_lines}
use Rattle.ranking.proofs.Meets.{steps_show}
use Rattle.stages.specs.Stages.{CutMade}
use Rattle.listing.specs.declared.refusing.Refusal.TheVariants.{ListLength, BadEnquiry, BadUses}
use Rattle.listing.specs.Enquiries.{EnquiryData, enquiry_data}
use Rattle.listing.specs.Theorems.{LinesCosted}
use Rattle.listing.specs.Tests.{sound_values, offers}
use Rattle.listing.proofs.Fits.{values_sound, sound_is}
use Rattle.listing.proofs.Causes.{length_row, values_row, memory_row, uses_row, no_row}
use Rattle.listing.proofs.Bridge.{shown_by, list_fixed, list_bounded, line_costed}
use Rattle.listing.proofs.Steps.{floors_hold, written_by}
use Rattle.listing.proofs.listing.list.Given as given
use Rattle.listing.proofs.listing.list.Goals as goal

mean : (g : given.Over) → Meaning g.row.T.Denot
mean g = meaning g.T.Tariff.served g.T.Tariff.drawn g.T.Tariff.charged g.T.Tariff.floor

-- every line shown was costed, by the laws of the tariffs
all-costed : (g : given.Over) (q : EnquiryData) (b : Book g.row.T.Denot) → LinesCosted (mean g) b q
unfolding mean
all-costed g q b uses = line_costed (mean g) q b (floors_hold (mean g) q b g.met.T.Tariff.keeps g.met.T.Tariff.lowers g.met.T.Tariff.above uses)

pub returns-in_err-begun : goal.returns-in_err-begun
unfolding mean
returns-in_err-begun g c =
    let b = held c.args.catalogue.now in
    let q = enquiry_data c.args.enquiry.now in
    let is : c.from_residual.result ≡ Err ListLength = search rules in
    rw is record {
      answered = (length_row (length b) (length c.args.memory.now) q (search rules), refl);
      fixed = list_fixed (mean g) q b;
      bounded = tt;
      costed = all-costed g q b;
    }

pub returns-in_err-asked : goal.returns-in_err-asked
unfolding mean
returns-in_err-asked g c =
    let b = held c.args.catalogue.now in
    let q = enquiry_data c.args.enquiry.now in
    let is : c.from_residual-in_err-asked.result ≡ Err BadEnquiry = search rules in
    let out = c.in_err-asked.ensures.1 in
    rw is record {
      answered = (values_row (length b) (length c.args.memory.now) q (search rules) (search rules) (λ s. both_ways (sound_values q) out (sound_is q s)), refl);
      fixed = list_fixed (mean g) q b;
      bounded = tt;
      costed = all-costed g q b;
    }

pub returns-then-memory-places : goal.returns-then-memory-places
unfolding mean
returns-then-memory-places g c =
    let b = held c.args.catalogue.now in
    let q = enquiry_data c.args.enquiry.now in
    record {
      answered = (memory_row (length b) (length c.args.memory.now) q (search rules) (search rules) (values_sound q c.in_ok-asked.ensures.0) (omega (arith, c.places.ensures.is)), refl);
      fixed = list_fixed (mean g) q b;
      bounded = tt;
      costed = all-costed g q b;
    }

pub returns-in_err-uses : goal.returns-in_err-uses
unfolding mean
returns-in_err-uses g c =
    let b = held c.args.catalogue.now in
    let q = enquiry_data c.args.enquiry.now in
    let is : c.from_residual-in_err-uses.result ≡ Err BadUses = search rules in
    rw is record {
      answered = (uses_row (length b) (length c.args.memory.now) q (search rules) (search rules) (values_sound q c.in_ok-asked.ensures.0) (omega (arith, c.places.ensures.is)) (search rules), refl);
      fixed = list_fixed (mean g) q b;
      bounded = tt;
      costed = all-costed g q b;
    }

pub returns : goal.returns
unfolding mean
returns g c =
    let m = mean g in
    let b = held c.args.catalogue.now in
    let q = enquiry_data c.args.enquiry.now in
    let os = offers m b q in
    let len = q.length in
    let xs = c.args.memory.now in
    let uses : UsesList q.estimate = search rules in
    let costed = c.held-costed.result in
    let stage = c.gather-stage.result in
    let mem = c.gather-stage.new.memory in
    let ls = gathered os (take costed (queue os)) in
    let held_is : stage.held ≡ costed = sym c.held-costed.ensures in
    let taken : Taken len os (queue os) costed = rw (← c.line_up-waiting.ensures.queued, c.held-costed.ensures) c.gather-stage.ensures.taken in
    let lines : take costed mem ≡ ls = rw (← c.line_up-waiting.ensures.queued, c.held-costed.ensures) c.gather-stage.ensures.lines in
    let made : CutMade stage mem c.unwrap-cut.result c.cut.new.memory = search rules in
    let wanted : stage.wanted ≡ len = ap (λ (s : Gathering). s.wanted) c.gather-stage.ensures.stage in
    let shown = c.unwrap-cut.result.shown in
    let held_lines : take stage.held mem ≡ ls = ap (λ n. take n mem) held_is ∙ lines in
    let is : shown ≡ keeps len ls = made.shown_is ∙ (ap (λ w. keeps w (take stage.held mem)) wanted ∙ ap (keeps len) held_lines) in
    let within : shown ≤ length ls = subst (λ zs. shown ≤ length zs) held_lines made.falls.leading in
    let floors = floors_hold m q b g.met.T.Tariff.keeps g.met.T.Tariff.lowers g.met.T.Tariff.above uses in
    let written = written_by xs mem c.cut.new.memory ls costed len shown c.gather-stage.auto.memory (omega (arith, made.room)) lines is within made.cleared in
    let shows = shown_by m q b (cut_lines len ls) costed c.places.ensures.apart (steps_show len os costed floors taken) in
    let bounds = list_bounded m q b floors (cut_lines len ls) costed shows in
    let same : c.shown.result ≡ length (cut_lines len ls) = c.shown.ensures ∙ written.1 in
    record {
      answered = (
        no_row (length b) (length xs) q (search rules) (search rules) (values_sound q c.in_ok-asked.ensures.0) (omega (arith, c.places.ensures.is)) uses,
        record { lines = cut_lines len ls; shows = shows; counts = same; written = written.0 },
      );
      fixed = list_fixed m q b;
      bounded = (omega (arith, bounds.0), bounds.1);
      costed = all-costed g q b;
    }
