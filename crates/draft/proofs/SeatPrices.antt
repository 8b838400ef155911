-- The price of an end service and of a seat. Assumes nothing.
use Rattle.std.proofs.Common.{◌≡◌, ℕ, map, length, get_or, is_some, Some, None, Decides, Option, refl, ap, inl, inr, arith, MatchOption}
use Rattle.std.specs.List.{range_with_len}
use Rattle.std.proofs.lemmas.List.FromFn.{get_or-map-range_with_len, length-map-range_with_len}
use Rattle.std.proofs.lemmas.List.{get_or_past}
use Rattle.std.proofs.lemmas.Bool.{and_parts, and_from, cases_lt, false≢true}
use Rattle.refusal.specs.Lowest.{lowest}
use Rattle.refusal.proofs.Lowest.{Answers, lowest_tells}
use Rattle.prices.specs.Tables.{has_price}
use Rattle.tree.specs.Trees.{TreeRule, Under, Seat, is_under, end_at}
use Rattle.tree.proofs.Climbs.{decides_under}
use Rattle.tree.proofs.Seats.{SeatedBy, seated_by, one_seated}
use Rattle.draft.specs.Apart.{PriceAt, Apart}
use Rattle.draft.specs.Drafts.{DraftData, if_there}
use Rattle.draft.specs.Saving.{PricedSeat, SeatPrice, covers, price_there, end_price, seat_prices}
use Rattle.draft.proofs.PriceRows.{some_value}
use Rattle.draft.proofs.Members.{seat_low}

-- k has a price, and e is under it
pub record Covers (d : DraftData) (e k : ℕ) : Type 0 where
  pub price : ℕ
  pub priced : PriceAt d.prices k price
  pub under : Under d.parents e k

-- the price of an end service is that of a node that it is under; or no such node has one
abbrev pub Found : DraftData → ℕ → Option ℕ → Type 0
Found d e o = MatchOption o ((k : ℕ) → Covers d e k → ⊥) (λ p. (k : ℕ) × (PriceAt d.prices k p × Under d.parents e k))

module _ (d : DraftData) (w : TreeRule d.parents) where
  decides_covers : (e k : ℕ) → Decides (covers d e k) (Covers d e k)
  decides_covers e k = (
    λ t.
        let p = and_parts (is_some (get_or d.prices k None)) (is_under d.parents e k) t in
        let v = some_value (get_or d.prices k None) p.0 in
        record { price = v.0; priced = v.1; under = (decides_under d.parents w e k).0 p.1 },
    λ x. and_from (is_some (get_or d.prices k None)) (is_under d.parents e k) (ap is_some x.priced) ((decides_under d.parents w e k).1 x.under),
  )

  at : (e k : ℕ) (o : Option ℕ) → get_or d.prices k None ≡ o → Covers d e k → Found d e o
  at e k (Some p) q x = (k, (q, x.under))
  at e k None q x = let v = x.priced in let z : ◌≡◌ {A = ℕ} 0 1 = cc in absurd (omega arith)

  found_at : (e : ℕ) (o : Option ℕ) → Answers (Covers d e) o → Found d e (price_there d.prices o)
  found_at e (Some k) x = at e k (get_or d.prices k None) refl x.holds
  found_at e None x = x

  pub end_found : (e : ℕ) → Found d e (end_price d e)
  end_found e =
      found_at e (lowest (covers d e) (length d.parents))
      (lowest_tells (covers d e) (Covers d e) (length d.parents) (λ k h. decides_covers e k) (λ k x. x.under.above))

  by_end : (s e : ℕ) → Seat d.parents e s → (o : Option ℕ) → Found d e o → SeatPrice d s o
  by_end s e x (Some p) f = record { end = e; node = f.0; seat = x; on_branch = record { end_service = x.end_service; under = f.1.1 }; priced = f.1.0 }
  by_end s e x None f =
      λ p m. let q = one_seated d.parents e m.end s x m.seat in f m.node (record { price = p; priced = m.priced; under = rw q m.on_branch.under })

  by_seat : (s : ℕ) (o : Option ℕ) → SeatedBy d.parents s o → SeatPrice d s (if_there None (end_price d) o)
  by_seat s (Some e) x = by_end s e x (end_price d e) (end_found e)
  by_seat s None x = λ p m. x m.end m.seat

  pub seat_price : (s : ℕ) → SeatPrice d s (get_or (seat_prices d) s None)
  seat_price s =
      let f : ℕ → Option ℕ = λ t. if_there None (end_price d) (end_at d.parents t) in
      elim (cases_lt s 16) [
        | inl h ↦
            let e : get_or (seat_prices d) s None ≡ f s = get_or-map-range_with_len f 0 16 s s None h (omega arith) in
            rw e (by_seat s (end_at d.parents s) (seated_by d.parents s))
        | inr h ↦
            let l = length-map-range_with_len f 0 16 in
            let e : get_or (seat_prices d) s None ≡ None = get_or_past (map f (range_with_len 0 16)) s None (omega arith) in
            rw e (λ p m. let g = seat_low d.parents w m.end s m.seat in omega arith)
      ]

  pub one_price : Apart d.parents d.prices → (s p q : ℕ) (x : PricedSeat d s p) (y : PricedSeat d s q) → (x.node ≡ y.node) × (p ≡ q)
  one_price apart s p q x y =
      let e = one_seated d.parents y.end x.end s y.seat x.seat in
      let n : x.node ≡ y.node = apart (record {
        one = x.node;
        two = y.node;
        end = x.end;
        price = p;
        other = q;
        one_on = x.on_branch;
        two_on = rw e at y.on_branch;
        one_priced = x.priced;
        two_priced = y.priced;
      }) in
      let a : get_or d.prices y.node None ≡ Some p = rw n at x.priced in
      let b = y.priced in
      (n, cc)

  served_by : (s : ℕ) (o : Option ℕ) → SeatPrice d s o → Decides (is_some o) ((p : ℕ) × PricedSeat d s p)
  served_by s (Some p) x = (λ t. (p, x), λ y. refl)
  served_by s None x = (λ t. absurd (false≢true t), λ y. absurd (x y.0 y.1))

  pub served : (s : ℕ) → Decides (has_price (seat_prices d) s) ((p : ℕ) × PricedSeat d s p)
  served s = served_by s (get_or (seat_prices d) s None) (seat_price s)
