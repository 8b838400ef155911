-- The steps of a list, over plain values. Assumes nothing.
use Rattle.std.proofs.Common.{◌≡◌, ℕ, ◌-◌, ◌≤◌, Bool, true, ◌&&◌, List, ◌++◌, length, get_or, take, replicate, Option, is_some, IfSome, Some, None, Decides, sym, ap, ◌∙◌, subst, arith}
use Rattle.std.proofs.lemmas.List.{length-take-le, take-take}
use Rattle.tariff.specs.Totals.{Meaning, offer_total}
use Rattle.usage.specs.UsesLists.{UsesList}
use Rattle.usage.proofs.UsesLaws.{lower_uses}
use Rattle.heads.specs.Rules.{HeadData}
use Rattle.catalogue.specs.Books.{Book, published, place_at}
use Rattle.ordered.specs.Ascending.{ascending}
use Rattle.stages.specs.declared.line.Line.{Line}
use Rattle.stages.specs.Lines.{blank, earlier}
use Rattle.stages.specs.Cutting.{keeps, cut_to}
use Rattle.ranking.specs.declared.queued.Queued.{Queued}
use Rattle.ranking.specs.Offers.{Offer, offer_at, FloorsHold}
use Rattle.ranking.specs.Totals.{totals}
use Rattle.ranking.specs.Queues.{queued_of, LinedUp}
use Rattle.ranking.specs.Costing.{Ends, EndsBefore}
use Rattle.ranking.specs.Steps.{gathered, cut_lines}
use Rattle.ranking.proofs.Lining.{queue_apart}
use Rattle.ranking.proofs.Gathers.{gathered_order, ends_from, from_ends}
use Rattle.listing.specs.Enquiries.{EnquiryData}
use Rattle.listing.specs.Answers.{Written}
use Rattle.listing.specs.Tests.{asked_for, serves_all, offers}
use Rattle.listing.specs.Requests.{FloorIfFitting}
use Rattle.listing.proofs.Fits.{offer_there, fit_at, fits_total, fits_floor}

module _ {T : Type 0} (m : Meaning T) (q : EnquiryData) (b : Book T) where
  -- whether what is published at a place fits
  module _ (p : ℕ) (h : HeadData) (t : T) (us : List ℕ) (same : us ≡ q.estimate) (at : place_at b p ≡ Some (published h t)) where
    there : (offer_at (offers m b q) p).fits ≡ (asked_for q h && serves_all (m.served t) 0 q.estimate)
    there = ap (λ (o : Offer). o.fits) (offer_there m q b p (published h t) at)

    fits_is : (offer_at (offers m b q) p).fits ≡ (asked_for q h && serves_all (m.served t) 0 us)
    fits_is = there ∙ ap (λ vs. asked_for q h && serves_all (m.served t) 0 vs) (sym same)

    -- its floor where it fits
    pub floor_if : (r : Option ℕ) → is_some r ≡ (asked_for q h && serves_all (m.served t) 0 us) → IfSome r (λ f. f ≡ m.floor t) → FloorIfFitting (offers m b q) p r
    floor_if None e is = fits_is ∙ sym e
    floor_if (Some f) e is = (fits_is ∙ sym e, is ∙ sym (ap (λ (o : Offer). o.floor) (offer_there m q b p (published h t) at)))

    -- its total
    pub total_is : offer_total (m.drawn t) (m.charged t) us ≡ (offer_at (offers m b q) p).total
    total_is = ap (λ vs. offer_total (m.drawn t) (m.charged t) vs) same ∙ sym (ap (λ (o : Offer). o.total) (offer_there m q b p (published h t) at))

  -- no fitting offer's total is below its floor: the law of the tariffs, where the early end needs it
  pub floors_hold : ((t : T) (us : List ℕ) → UsesList us → length (m.drawn t us) ≡ length us) → ((t : T) (us : List ℕ) → UsesList us → (k : ℕ) → get_or (m.drawn t us) k 0 ≤ get_or us k 0)
      → ((t : T) (us : List ℕ) → UsesList us → m.floor t ≤ m.charged t us) → UsesList q.estimate → FloorsHold (offers m b q)
  floors_hold keeps lowers above uses p fit =
      let w = fit_at m q b p fit in
      let t = w.0.tariff in
      let law = above t (m.drawn t q.estimate) (lower_uses q.estimate (m.drawn t q.estimate) (keeps t q.estimate uses) (lowers t q.estimate uses) uses) in
      let f = fits_floor m q b w.0 w.2 in
      let c = fits_total m q b w.0 w.2 in
      subst (λ n. (offer_at (offers m b q) n).floor ≤ (offer_at (offers m b q) n).total) w.1 (omega arith)

-- whether taking ends before a place of the queue, by the lines gathered so far
pub ends_here : (os : List Offer) (xs : List Queued) → LinedUp os xs → (w k : ℕ) (mem : List Line) (r : Bool) → take k mem ≡ gathered os (take k xs)
    → (ascending earlier (take k mem) ≡ true → Decides r (Ends w (totals (take k mem)) (get_or xs k (queued_of 0 0)).floor)) → Decides r (EndsBefore w os xs k)
ends_here os xs lined w k mem r e means =
    let f = (get_or xs k (queued_of 0 0)).floor in
    let d = means (ap (ascending earlier) e ∙ gathered_order os (take k xs) (queue_apart os xs lined k)) in (
      (λ t. ends_from os w (take k xs) f (subst (λ ls. Ends w (totals ls) f) e (d.0 t))),
      (λ x. d.1 (subst (λ ls. Ends w (totals ls) f) (sym e) (from_ends os w (take k xs) f x))),
    )

-- the memory after the cut
pub written_by : (xs mem ys ls : List Line) (held w shown : ℕ) → length mem ≡ length xs → held ≤ length mem → take held mem ≡ ls → shown ≡ keeps w ls → shown ≤ length ls
    → ys ≡ cut_to shown mem → Written xs (cut_lines w ls) ys × (shown ≡ length (cut_lines w ls))
written_by xs mem ys ls held w shown long room e s within is =
    let len : length ls ≡ held = sym (ap length e) ∙ length-take-le held mem room in
    let kept : take shown mem ≡ cut_lines w ls = sym (take-take shown held mem (omega arith)) ∙ (ap (take shown) e ∙ ap (λ n. take n ls) s) in
    let count : length (cut_lines w ls) ≡ shown = sym (ap length kept) ∙ length-take-le shown mem (omega arith) in (
      record {
        room = omega arith;
        memory = is ∙ (ap (λ zs. zs ++ replicate (length mem - shown) blank) kept ∙ ap (λ n. cut_lines w ls ++ replicate n blank) (omega arith));
      },
      sym count,
    )
