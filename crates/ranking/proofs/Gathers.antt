-- Lines put in their order one after the other. Assumes nothing.
use Rattle.std.proofs.Common.{◌≡◌, ℕ, ◌+◌, ◌<◌, true, ◌⊎◌, List, [], ◌∷◌, ◌++◌, map, length, get_or, take, sym, refl, ap, ◌∙◌, subst, inl, inr, ⊎_elim, arith}
use Rattle.std.proofs.lemmas.List.{take_more}
use Rattle.ordered.specs.Inserting.{insert}
use Rattle.ordered.specs.Ascending.{ascending}
use Rattle.ordered.specs.Members.{Among, NoRepeats}
use Rattle.ordered.proofs.Members.{among_insert, insert_among, among_map, map_among}
use Rattle.ordered.proofs.Sorted.{ascending_put}
use Rattle.ordered.proofs.Order.{length_insert, take_put}
use Rattle.stages.specs.declared.line.Line.{Line}
use Rattle.stages.specs.Lines.{line_of, earlier}
use Rattle.stages.specs.Stages.{put_among}
use Rattle.ranking.specs.declared.queued.Queued.{Queued}
use Rattle.ranking.specs.Offers.{Offer, offer_at}
use Rattle.ranking.specs.Totals.{totals, places, different}
use Rattle.ranking.specs.Costing.{Ends, totals_of}
use Rattle.ranking.specs.Steps.{line_at, gathered_on, gathered}
use Rattle.ranking.proofs.Orders.{line_order}
use Rattle.ranking.proofs.Counting.{different_same}

module _ (os : List Offer) where
  gathered_push : (xs : List Queued) (x : Queued) (ls : List Line) → gathered_on os (xs ++ x ∷ []) ls ≡ insert earlier (line_at os x.place) (gathered_on os xs ls)
  gathered_push [] x ls = refl
  gathered_push (y ∷ ys) x ls = gathered_push ys x (insert earlier (line_at os y.place) ls)

  -- one offer more of the queue is gathered
  pub gathered_more : (q : List Queued) (k : ℕ) (d : Queued) → k < length q → gathered os (take (k + 1) q) ≡ insert earlier (line_at os (get_or q k d).place) (gathered os (take k q))
  gathered_more q k d h = ap (gathered os) (take_more q k d h) ∙ gathered_push (take k q) (get_or q k d) []

  -- the lines at the front of a memory, after one was put
  pub gathered_memory : (q : List Queued) (k t : ℕ) (d : Queued) (xs ys : List Line) → k < length q → k < length xs → take k xs ≡ gathered os (take k q)
      → t ≡ (offer_at os (get_or q k d).place).total → ys ≡ put_among k (line_of (get_or q k d).place t) xs → take (k + 1) ys ≡ gathered os (take (k + 1) q)
  gathered_memory q k t d xs ys h room g e is =
      let p = (get_or q k d).place in
      ap (take (k + 1)) is
      ∙ take_put earlier (line_of p t) xs k room
      ∙ ap (λ n. insert earlier (line_of p n) (take k xs)) e
      ∙ ap (insert earlier (line_at os p)) g
      ∙ sym (gathered_more q k d h)

  on_length : (xs : List Queued) (ls : List Line) → length (gathered_on os xs ls) ≡ length xs + length ls
  on_length [] ls = omega arith
  on_length (x ∷ xs) ls = omega (arith, on_length xs (insert earlier (line_at os x.place) ls), length_insert earlier (line_at os x.place) ls)

  pub gathered_length : (xs : List Queued) → length (gathered os xs) ≡ length xs
  gathered_length xs = on_length xs [] ∙ omega arith

  on_keeps : (xs : List Queued) (ls : List Line) (l : Line) → Among l ls → Among l (gathered_on os xs ls)
  on_keeps [] ls l m = m
  on_keeps (x ∷ xs) ls l m = on_keeps xs (insert earlier (line_at os x.place) ls) l (insert_among earlier l (line_at os x.place) ls (inr m))

  on_has : (xs : List Queued) (ls : List Line) (x : Queued) → Among x xs → Among (line_at os x.place) (gathered_on os xs ls)
  on_has [] ls x m = absurd m
  on_has (y ∷ ys) ls x m =
      let more = insert earlier (line_at os y.place) ls in
      ⊎_elim
      (λ e. on_keeps ys more (line_at os x.place) (insert_among earlier (line_at os x.place) (line_at os y.place) ls (inl (ap (λ (z : Queued). line_at os z.place) e))))
      (λ k. on_has ys more x k) m

  on_from : (xs : List Queued) (ls : List Line) (l : Line) → Among l (gathered_on os xs ls) → ((x : Queued) × Among x xs × (l ≡ line_at os x.place)) ⊎ Among l ls
  on_from [] ls l m = inr m
  on_from (y ∷ ys) ls l m =
      ⊎_elim
      (λ h. inl (h.0, inr h.1, h.2))
      (λ k. ⊎_elim (λ e. inl (y, inl refl, e)) inr (among_insert earlier l (line_at os y.place) ls k))
      (on_from ys (insert earlier (line_at os y.place) ls) l m)

  -- the lines gathered are those of the offers, each at its total
  pub gathered_has : (xs : List Queued) (x : Queued) → Among x xs → Among (line_at os x.place) (gathered os xs)
  gathered_has xs x m = on_has xs [] x m

  pub gathered_from : (xs : List Queued) (l : Line) → Among l (gathered os xs) → (x : Queued) × Among x xs × (l ≡ line_at os x.place)
  gathered_from xs l m = ⊎_elim (λ h. h) (λ n. absurd n) (on_from xs [] l m)

  on_order : (xs : List Queued) (ls : List Line) → ascending earlier ls ≡ true → NoRepeats (map (λ (x : Queued). x.place) xs)
      → ((x : Queued) → Among x xs → Among x.place (places ls) → ⊥) → ascending earlier (gathered_on os xs ls) ≡ true
  on_order [] ls a apart ne = a
  on_order (x ∷ xs) ls a apart ne =
      let new = line_at os x.place in
      on_order xs (insert earlier new ls)
      (ascending_put earlier line_order new ls a (λ m. ne x (inl refl) (map_among (λ (l : Line). l.place) new ls m)))
      apart.1
      (λ y m n.
      let h = among_map (λ (l : Line). l.place) y.place (insert earlier new ls) n in
      ⊎_elim
      (λ e. apart.0 (subst (λ p. Among p (map (λ (z : Queued). z.place) xs)) (h.2 ∙ ap (λ (l : Line). l.place) e) (map_among (λ (z : Queued). z.place) y xs m)))
      (λ k. ne y (inr m) (subst (λ p. Among p (places ls)) (sym h.2) (map_among (λ (l : Line). l.place) h.0 ls k)))
      (among_insert earlier h.0 new ls h.1))

  -- they are in order, where no place comes twice
  pub gathered_order : (xs : List Queued) → NoRepeats (map (λ (x : Queued). x.place) xs) → ascending earlier (gathered os xs) ≡ true
  gathered_order xs apart = on_order xs [] refl apart (λ x m n. n)

  -- the totals gathered are those of the offers
  pub totals_from : (xs : List Queued) (t : ℕ) → Among t (totals (gathered os xs)) → Among t (totals_of os xs)
  totals_from xs t m =
      let h = among_map (λ (l : Line). l.total) t (gathered os xs) m in
      let k = gathered_from xs h.0 h.1 in
      subst (λ n. Among n (totals_of os xs)) (sym (h.2 ∙ ap (λ (l : Line). l.total) k.2)) (map_among (λ (x : Queued). (offer_at os x.place).total) k.0 xs k.1)

  pub from_totals : (xs : List Queued) (t : ℕ) → Among t (totals_of os xs) → Among t (totals (gathered os xs))
  from_totals xs t m =
      let h = among_map (λ (x : Queued). (offer_at os x.place).total) t xs m in
      subst (λ n. Among n (totals (gathered os xs))) (sym h.2) (map_among (λ (l : Line). l.total) (line_at os h.0.place) (gathered os xs) (gathered_has xs h.0 h.1))

  pub totals_count : (xs : List Queued) → different (totals (gathered os xs)) ≡ different (totals_of os xs)
  totals_count xs = different_same (totals (gathered os xs)) (totals_of os xs) (totals_from xs) (from_totals xs)

  -- so taking ends by the lines gathered as it does by the offers costed
  pub ends_from : (w : ℕ) (xs : List Queued) (f : ℕ) → Ends w (totals (gathered os xs)) f → Ends w (totals_of os xs) f
  ends_from w xs f e = (omega (arith, e.0, totals_count xs), λ t m. e.1 t (from_totals xs t m))

  pub from_ends : (w : ℕ) (xs : List Queued) (f : ℕ) → Ends w (totals_of os xs) f → Ends w (totals (gathered os xs)) f
  from_ends w xs f e = (omega (arith, e.0, totals_count xs), λ t m. e.1 t (totals_from xs t m))
