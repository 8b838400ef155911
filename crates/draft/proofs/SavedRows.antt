-- Which row declines saving, and what is saved. Assumes nothing.
use Rattle.std.proofs.Common.{◌≡◌, ℕ, Bool, true, false, cond, not, ◌&&◌, ltb, List, [], ◌∷◌, length, get_or, is_some, Some, None, Ok, Err, Decides, Option, sym, refl, ap, ◌∙◌, inl, inr, arith, MatchOption}
use Rattle.std.proofs.lemmas.List.FromFn.{length-map-range_with_len}
use Rattle.std.proofs.lemmas.Bool.{and_parts, and_from, or_cases, or_left, or_right, ltb-true, ltb-false, false≢true, cases_Bool}
use Rattle.refusal.specs.Rows.{RowData}
use Rattle.refusal.specs.Table.{Higher}
use Rattle.refusal.specs.Lowest.{lowest}
use Rattle.refusal.proofs.Lowest.{Answers, lowest_tells}
use Rattle.ordered.specs.Members.{Among}
use Rattle.usage.specs.Groups.{GroupData, InOrder}
use Rattle.usage.specs.declared.refusing.Refusal.TheVariants.{OutOfRange}
use Rattle.prices.specs.Tables.{has_price}
use Rattle.tree.specs.Trees.{TreeRule, EndService, Seat, seat_of, end_at}
use Rattle.tree.proofs.Seats.{seating, seat_said}
use Rattle.draft.specs.declared.refusing.Refusal.TheVariants.{Tariff, NoPrice}
use Rattle.draft.specs.Apart.{Apart, Seated}
use Rattle.draft.specs.Drafts.{DraftData, if_there}
use Rattle.draft.specs.Rules.{unless}
use Rattle.draft.specs.Saving.{Saved, LacksPrice, AddonRow, high_sum, AddonAnswer, PlanRow, high_plan_sum, no_price, PlanAnswer, end_price, seat_prices, saved_table, in_group, lacks_price, save_addon, save_plan}
use Rattle.draft.proofs.SeatPrices.{Found, end_found, seat_price, one_price, served}

group_tells : (s : ℕ) (gs : List GroupData) → in_group s gs ≡ true → (g : GroupData) × (Among g gs × (get_or g.members s false ≡ true))
group_tells s [] t = absurd (false≢true t)
group_tells s (g ∷ gs) t =
    elim (or_cases (get_or g.members s false) (in_group s gs) t) [
      | inl u ↦ (g, (inl refl, u))
      | inr u ↦ let r = group_tells s gs u in (r.0, (inr r.1.0, r.1.1))
    ]

group_finds : (s : ℕ) (gs : List GroupData) (g : GroupData) → Among g gs → get_or g.members s false ≡ true → in_group s gs ≡ true
group_finds s [] g a t = absurd a
group_finds s (h ∷ hs) g a t =
    elim a [
      | inl q ↦ or_left (get_or h.members s false) (in_group s hs) (ap (λ (x : GroupData). get_or x.members s false) (sym q) ∙ t)
      | inr b ↦ or_right (get_or h.members s false) (in_group s hs) (group_finds s hs g b t)
    ]

module _ (d : DraftData) (w : TreeRule d.parents) where
  lacks_by : (e s : ℕ) → Seat d.parents e s → (o : Option ℕ) → Found d e o
      → Decides (in_group s d.groups && not (is_some o)) (LacksPrice d e)
  lacks_by e s x (Some p) f = (
    λ t. absurd (false≢true (and_parts (in_group s d.groups) false t).1),
    λ l. absurd (l.unpriced f.0 p (record { end_service = x.end_service; under = f.1.1 }) f.1.0),
  )
  lacks_by e s x None f = (
    λ t.
        let r = group_tells s d.groups (and_parts (in_group s d.groups) true t).0 in
        record { seat = s; seated = x; group = r.0; held = r.1.0; member = r.1.1; unpriced = λ k p b q. f k (record { price = p; priced = q; under = b.under }) },
    λ l.
        let q : s ≡ l.seat = sym x.ends_lower ∙ l.seated.ends_lower in
        and_from (in_group s d.groups) true (group_finds s d.groups l.group l.held (rw q l.member)) refl,
  )

  lacks_at : (e : ℕ) (o : Option ℕ) → MatchOption o (EndService d.parents e → ⊥) (Seat d.parents e)
      → Decides (if_there false (λ s. in_group s d.groups && not (is_some (end_price d e))) o) (LacksPrice d e)
  lacks_at e (Some s) x = lacks_by e s x (end_price d e) (end_found d w e)
  lacks_at e None x = (λ t. absurd (false≢true t), λ l. absurd (x l.seated.end_service))

  lacks_tells : Answers (LacksPrice d) (lowest (lacks_price d) (length d.parents))
  lacks_tells =
      lowest_tells (lacks_price d) (LacksPrice d) (length d.parents)
      (λ e h. lacks_at e (seat_of d.parents e) (seat_said d.parents e)) (λ e l. l.seated.end_service.node)

  module _ (apart : Apart d.parents d.prices) (ordered : InOrder d.groups) (sum : ℕ) where
    saved : Saved d sum (saved_table d sum)
    saved =
        record {
          fixed = refl;
          seats = length-map-range_with_len (λ t. if_there None (end_price d) (end_at d.parents t)) 0 16;
          prices = seat_price d w;
          one_price = one_price d w apart;
          served = served d w;
          groups = refl;
          in_order = ordered;
        }

    addon_by : (b : Bool) → ltb 1000000 sum ≡ b → AddonAnswer d sum (cond b (Err (Tariff OutOfRange)) (Ok (saved_table d sum)))
    addon_by true e = record { holds = high_sum (ltb-true _ _ e); topmost = above }
      where
        above : (other : RowData) → AddonRow d sum other → Higher other.number 32 → ⊥
        above _ (high_sum h) r = omega arith
    addon_by false e = (none, saved)
      where
        none : (row : RowData) → AddonRow d sum row → ⊥
        none _ (high_sum h) = let l = ltb-false _ _ e in omega arith

    pub addon_answers : AddonAnswer d sum (save_addon d sum)
    addon_answers = addon_by (ltb 1000000 sum) refl

    module _ (seated : Seated d.parents d.groups) where
      covered : ((e : ℕ) → LacksPrice d e → ⊥) → (g : GroupData) (s : ℕ) → Among g d.groups → get_or g.members s false ≡ true → has_price (seat_prices d) s ≡ true
      covered free g s a t =
          elim (cases_Bool (has_price (seat_prices d) s)) [
            | inl y ↦ y
            | inr n ↦
                let x = (seating d.parents).taken s (seated (record { group = g; seat = s; held = a; member = t })) in
                absurd (free x.0 (record {
                  seat = s;
                  seated = x.1;
                  group = g;
                  held = a;
                  member = t;
                  unpriced = λ k p b q. false≢true (sym n ∙ (served d w s).1 (p, record { end = x.0; node = k; seat = x.1; on_branch = b; priced = q }));
                }))
          ]

      plan_by : (b : Bool) (o : Option ℕ) → ltb 1000000 sum ≡ b → Answers (LacksPrice d) o → PlanAnswer d sum (cond b (Err (Tariff OutOfRange)) (unless NoPrice o (Ok (saved_table d sum))))
      plan_by true o e x = record { holds = high_plan_sum (ltb-true _ _ e); topmost = above }
        where
          above : (other : RowData) → PlanRow d sum other → Higher other.number 32 → ⊥
          above _ (high_plan_sum h) r = omega arith
          above _ (no_price h) r = omega arith
      plan_by false (Some k) e x = record { holds = no_price x; topmost = above }
        where
          above : (other : RowData) → PlanRow d sum other → Higher other.number 120 → ⊥
          above _ (high_plan_sum h) r = let l = ltb-false _ _ e in omega arith
          above _ (no_price h) r = omega arith
      plan_by false None e x = (none, record { saved = saved; covered = covered x; serves = served d w; draws = λ us. refl; floor = refl })
        where
          none : (row : RowData) → PlanRow d sum row → ⊥
          none _ (high_plan_sum h) = let l = ltb-false _ _ e in omega arith
          none _ (no_price {e = k} y) = x k y.holds

      pub plan_answers : PlanAnswer d sum (save_plan d sum)
      plan_answers = plan_by (ltb 1000000 sum) (lowest (lacks_price d) (length d.parents)) refl lacks_tells
