use Rattle.std.proofs.Common.{◌≡◌, not, ◌∙◌, sym, ap, subst}
use Rattle.std.specs.List.{filter, range_with_len, slice_get}
use Rattle.refusal.specs.Lowest.{lowest}
use Rattle.tree.specs.Trees.{among, end_at, has_seat}
use Rattle.tree.specs.Held.{parents_of}
use Rattle.tree.proofs.Held.{length_parents}
use Rattle.tree.proofs.Seats.{SeatedBy, seated_by, ends_at}
use Rattle.tree.proofs.tree.ServiceTree.end_service.Goals as goal

pub returns : goal.returns
returns c =
    let t = c.args.self.now in
    let ps = parents_of t in
    let s = c.args.seat in
    let q : c.end_at_place.result ≡ slice_get (filter (λ k. not (among k ps)) (range_with_len 0 t.count)) s = rw c.parents.ensures at c.end_at_place.ensures in
    let e : c.end_at_place.result ≡ end_at ps s = q ∙ (ends_at ps s t.count ∙ ap (lowest (has_seat ps s)) (sym (length_parents t))) in
    record { is = e; means = subst (SeatedBy ps s) (sym e) (seated_by ps s) }
