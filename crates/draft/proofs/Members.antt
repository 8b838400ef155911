-- Which seats belong to a group at nodes. Assumes nothing.
use Rattle.std.proofs.Common.{◌≡◌, ℕ, zero, suc, ◌<◌, Bool, true, false, List, [], ◌∷◌, map, length, get_or, Some, None, Decides, Option, sym, refl, ◌∙◌, subst, inl, inr, arith}
use Rattle.std.specs.List.{range_with_len}
use Rattle.std.proofs.lemmas.List.FromFn.{get_or-map-range_with_len, length-map-range_with_len}
use Rattle.std.proofs.lemmas.List.{get_or_past}
use Rattle.std.proofs.lemmas.Bool.{or_cases, or_left, or_right, cases_lt, false≢true}
use Rattle.std.proofs.lemmas.Bool.Decides.{Decides-at}
use Rattle.ordered.specs.Members.{Among}
use Rattle.usage.specs.Groups.{no_member}
use Rattle.tree.specs.Trees.{TreeRule, Under, Seat, is_under, ends_below, end_at}
use Rattle.tree.proofs.Climbs.{decides_under}
use Rattle.tree.proofs.Sharing.{on_branch}
use Rattle.tree.proofs.Seats.{SeatedBy, seated_by, one_seated, seating}
use Rattle.draft.specs.Drafts.{under_some, if_there, members_of, Member}

module _ (ps : List ℕ) (w : TreeRule ps) where
  -- a seat of the tree is one of the 16
  pub seat_low : (e s : ℕ) → Seat ps e s → s < 16
  seat_low e s x = let h = (seating ps).seated e s x in let m = w.seats in omega arith

  some_tells : (ns : List ℕ) (e : ℕ) → under_some ps ns e ≡ true → (n : ℕ) × (Among n ns × Under ps e n)
  some_tells [] e t = absurd (false≢true t)
  some_tells (n ∷ ns) e t =
      elim (or_cases (is_under ps e n) (under_some ps ns e) t) [
        | inl u ↦ (n, (inl refl, (decides_under ps w e n).0 u))
        | inr u ↦ let r = some_tells ns e u in (r.0, (inr r.1.0, r.1.1))
      ]

  some_finds : (ns : List ℕ) (e n : ℕ) → Among n ns → Under ps e n → under_some ps ns e ≡ true
  some_finds [] e n a u = absurd a
  some_finds (m ∷ ms) e n a u =
      elim a [
        | inl q ↦ or_left (is_under ps e m) (under_some ps ms e) ((decides_under ps w e m).1 (rw q at u))
        | inr b ↦ or_right (is_under ps e m) (under_some ps ms e) (some_finds ms e n b u)
      ]

  by_end : (ns : List ℕ) (s : ℕ) (o : Option ℕ) → SeatedBy ps s o → Decides (if_there false (under_some ps ns) o) (Member ps ns s)
  by_end ns s (Some e) x = (
    λ t. let r = some_tells ns e t in record { end = e; node = r.0; seat = x; listed = r.1.0; on_branch = record { end_service = x.end_service; under = r.1.1 } },
    λ m. let q = one_seated ps e m.end s x m.seat in some_finds ns e m.node m.listed (rw q m.on_branch.under),
  )
  by_end ns s None x = (λ t. absurd (false≢true t), λ m. absurd (x m.end m.seat))

  pub decides_member : (ns : List ℕ) (s : ℕ) → Decides (get_or (members_of ps ns) s false) (Member ps ns s)
  decides_member ns s =
      let f : ℕ → Bool = λ t. if_there false (under_some ps ns) (end_at ps t) in
      elim (cases_lt s 16) [
        | inl h ↦ Decides-at (get_or (members_of ps ns) s false) (f s) (get_or-map-range_with_len f 0 16 s s false h (omega arith)) (by_end ns s (end_at ps s) (seated_by ps s))
        | inr h ↦
            let l = length-map-range_with_len f 0 16 in
            let e : get_or (members_of ps ns) s false ≡ false = get_or_past (map f (range_with_len 0 16)) s false (omega arith) in
            (λ t. absurd (false≢true (sym e ∙ t)), λ m. absurd (let g = seat_low m.end s m.seat in omega arith))
      ]

  -- a member's seat is one of the tree's
  pub member_seated : (ns : List ℕ) (s : ℕ) → get_or (members_of ps ns) s false ≡ true → s < ends_below (length ps) ps
  member_seated ns s t = let m = (decides_member ns s).0 t in (seating ps).seated m.end s m.seat

  -- a group at a node of the tree has a member, and one at no node has none
  some_member : (n : ℕ) (ns : List ℕ) → n < length ps → Among n ns → (s : ℕ) × (get_or (members_of ps ns) s false ≡ true)
  some_member n ns h a =
      let b = on_branch ps w n h in
      let s = ends_below b.0 ps in
      (s, (decides_member ns s).1 (record { end = b.0; node = n; seat = record { end_service = b.1.end_service; ends_lower = refl }; listed = a; on_branch = b.1 }))

  flag_tells : (ms : List Bool) (s : ℕ) → get_or ms s false ≡ true → no_member ms ≡ true → ⊥
  flag_tells [] s t e = false≢true t
  flag_tells (true ∷ ms) s t e = false≢true e
  flag_tells (false ∷ ms) zero t e = false≢true t
  flag_tells (false ∷ ms) (suc s) t e = flag_tells ms s t e

  flag_finds : (ms : List Bool) → no_member ms ≡ false → (s : ℕ) × (get_or ms s false ≡ true)
  flag_finds [] e = absurd (false≢true (sym e))
  flag_finds (true ∷ ms) e = (0, refl)
  flag_finds (false ∷ ms) e = let r = flag_finds ms e in (suc r.0, r.1)

  pub no_member_empty : (ns : List ℕ) → ((n : ℕ) → Among n ns → n < length ps) → no_member (members_of ps ns) ≡ true → ns ≡ []
  no_member_empty [] low e = refl
  no_member_empty (n ∷ ns) low e =
      let m = some_member n (n ∷ ns) (low n (inl refl)) (inl refl) in
      absurd (flag_tells (members_of ps (n ∷ ns)) m.0 m.1 e)

  pub member_not_empty : (ns : List ℕ) → no_member (members_of ps ns) ≡ false → ns ≡ [] → ⊥
  member_not_empty ns e q =
      let r = flag_finds (members_of ps ns) e in
      let m = (decides_member ns r.0).0 r.1 in
      absurd (subst (Among m.node) q m.listed)
