-- The search finds the lowest rival, and finds none only where there is none. Assumes nothing.
use Rattle.std.proofs.Common.{◌≡◌, ℕ, zero, suc, ◌+◌, ◌<◌, Bool, true, false, cond, not, ◌&&◌, eqb, leb, ◌⊎◌, ◌==◌, List, [], ◌∷◌, map, length, Some, None, Decides, Option, sym, refl, ap, ◌∙◌, subst, inl, inr, ⊎_elim, add-one, arith}
use Rattle.std.specs.List.{slice_get, position_from, enumerate_from}
use Rattle.std.specs.Str.{bytes_eq}
use Rattle.std.proofs.lemmas.Slice.Eq.{bytes_eq-Decides}
use Rattle.std.proofs.lemmas.Bool.{eq-eqb, ne_eqb, le-leb, leb-true, eqb-true, and_from, and_parts, both_ways, not-true}
use Rattle.heads.specs.Rules.{HeadData, Namesakes, ShareADay}
use Rattle.heads.proofs.HeadLaws.{crossing, shared_one, shared_other}
use Rattle.catalogue.specs.declared.slot.State.{State}
use Rattle.catalogue.specs.declared.slot.State.TheVariants.{Empty, InWork, Published}
use Rattle.catalogue.specs.Books.{Place, empty, in_work, published, Book, place_at, Rival, Lowest}
use Rattle.catalogue.specs.declared.slot.Slot.{Slot}
use Rattle.catalogue.specs.Slots.{SlotData, slot_data, place_by, book_of}
use Rattle.catalogue.specs.Search.{rivals, spans_meet, bars_by, bars_slot, first_other}
use Rattle.catalogue.proofs.Places.{none_some, same_some}

-- the test of two heads decides whether they are namesakes that share a day
meet_from : (h k : HeadData) → Namesakes h k → ShareADay h k → rivals h k ≡ true
unfolding rivals
meet_from h k n s =
    and_from (eqb h.supplier k.supplier && bytes_eq h.name k.name) (spans_meet h k)
    (and_from (eqb h.supplier k.supplier) (bytes_eq h.name k.name) (eq-eqb h.supplier k.supplier n.0) ((bytes_eq-Decides h.name k.name).1 n.1))
    (and_from (leb h.first h.last && leb k.first k.last) (leb h.first k.last && leb k.first h.last)
    (and_from (leb h.first h.last) (leb k.first k.last) (le-leb h.first h.last (omega (arith, s.on_one))) (le-leb k.first k.last (omega (arith, s.on_other))))
    (and_from (leb h.first k.last) (leb k.first h.last) (le-leb h.first k.last (shared_one h k s)) (le-leb k.first h.last (shared_other h k s))))

meet_to : (h k : HeadData) → rivals h k ≡ true → Namesakes h k × ShareADay h k
unfolding rivals
meet_to h k e =
    let p = and_parts (eqb h.supplier k.supplier && bytes_eq h.name k.name) (spans_meet h k) e in
    let n = and_parts (eqb h.supplier k.supplier) (bytes_eq h.name k.name) p.0 in
    let s = and_parts (leb h.first h.last && leb k.first k.last) (leb h.first k.last && leb k.first h.last) p.1 in
    let o = and_parts (leb h.first h.last) (leb k.first k.last) s.0 in
    let x = and_parts (leb h.first k.last) (leb k.first h.last) s.1 in (
      (eqb-true h.supplier k.supplier n.0, (bytes_eq-Decides h.name k.name).0 n.1),
      crossing h k (leb-true h.first h.last o.0) (leb-true k.first k.last o.1) (leb-true h.first k.last x.0) (leb-true k.first h.last x.1),
    )

pub rivals_decide : (h k : HeadData) → Decides (rivals h k) (Namesakes h k × ShareADay h k)
rivals_decide h k = (meet_to h k, λ m. meet_from h k m.0 m.1)

-- where the search stands: m places behind i
pub record Found {X : Type 0} (test : X → Bool) (xs : List X) (i p m : ℕ) : Type 0 where
  pub item : X
  pub there : slice_get xs m ≡ Some item
  pub passes : test item ≡ true
  pub other : i + m ≡ p → ⊥
  pub none_before : (j : ℕ) (y : X) → j < m → (i + j ≡ p → ⊥) → slice_get xs j ≡ Some y → test y ≡ false

test_true : (i p : ℕ) (v : Bool) → (not (eqb i p) && v) ≡ true → (i ≡ p → ⊥) × (v ≡ true)
test_true i p v e =
    let q = and_parts (not (eqb i p)) v e in
    ((λ same. both_ways (eqb i p) (not-true (eqb i p) q.0) (eq-eqb i p same)), q.1)

test_false : (i p : ℕ) (v : Bool) → (not (eqb i p) && v) ≡ false → (i ≡ p → ⊥) → v ≡ false
test_false i p v e ne = sym (ap (λ (x : Bool). not x && v) (ne_eqb i p ne)) ∙ e

cond_none : (v : Bool) (i : ℕ) (o : Option ℕ) → cond v (Some i) o ≡ None → (v ≡ false) × (o ≡ None)
cond_none true i o e = absurd (none_some (Some i) i e refl)
cond_none false i o e = (refl, e)

cond_some : (v : Bool) (i k : ℕ) (o : Option ℕ) → cond v (Some i) o ≡ Some k → ((v ≡ true) × (i ≡ k)) ⊎ ((v ≡ false) × (o ≡ Some k))
cond_some true i k o e = inl (refl, same_some (Some i) i k refl e)
cond_some false i k o e = inr (refl, e)

module _ {X : Type 0} (test : X → Bool) where
  pub search_none : (xs : List X) (i p : ℕ) → first_other test xs i p ≡ None → (j : ℕ) (y : X) → (i + j ≡ p → ⊥) → slice_get xs j ≡ Some y → test y ≡ false
  search_none [] i p e j y ne at = absurd (none_some None y refl at)
  search_none (x ∷ xs) i p e zero y ne at =
      let q = cond_none (not (eqb i p) && test x) i (first_other test xs (suc i) p) e in
      subst (λ (z : X). test z ≡ false) (same_some (Some x) x y refl at) (test_false i p (test x) q.0 (λ same. ne (omega arith)))
  search_none (x ∷ xs) i p e (suc j) y ne at =
      let q = cond_none (not (eqb i p) && test x) i (first_other test xs (suc i) p) e in
      search_none xs (suc i) p q.1 j y (λ same. ne (omega arith)) at

  before_more : (x : X) (xs : List X) (i p m : ℕ) → (not (eqb i p) && test x) ≡ false → Found test xs (suc i) p m
      → (j : ℕ) (y : X) → j < suc m → (i + j ≡ p → ⊥) → slice_get (x ∷ xs) j ≡ Some y → test y ≡ false
  before_more x xs i p m e f zero y lt ne at = subst (λ (z : X). test z ≡ false) (same_some (Some x) x y refl at) (test_false i p (test x) e (λ same. ne (omega arith)))
  before_more x xs i p m e f (suc j) y lt ne at = f.none_before j y (omega arith) (λ same. ne (omega arith)) at

  pub search_some : (xs : List X) (i p k : ℕ) → first_other test xs i p ≡ Some k → (m : ℕ) × (k ≡ i + m) × Found test xs i p m
  search_some [] i p k e = absurd (none_some None k refl e)
  search_some (x ∷ xs) i p k e =
      ⊎_elim
      (λ q. let t = test_true i p (test x) q.0 in let ik = q.1 in
      (0, omega arith, record { item = x; there = refl; passes = t.1; other = λ same. t.0 (omega arith); none_before = λ j y lt ne at. absurd (omega arith) }))
      (λ q. let r = search_some xs (suc i) p k q.1 in let f = r.2 in let km = r.1 in
      (suc r.0, omega arith, record { item = f.item; there = f.there; passes = f.passes; other = λ same. f.other (omega arith); none_before = before_more x xs i p r.0 q.0 f }))
      (cond_some (not (eqb i p) && test x) i k (first_other test xs (suc i) p) e)

-- whether a place is published, for a namesake of h that shares a day with it
abbrev pub bars_place : {T : Type 0} → HeadData → Place T → Bool
bars_place h empty = false
bars_place h (in_work k t) = false
bars_place h (published k t) = rivals h k

false_true : {P : Type 0} → false ≡ true → P
false_true e = absurd (both_ways true (sym e) refl)

-- a place that bars h holds a rival
bars_rival : {T : Type 0} (b : Book T) (p k : ℕ) (h : HeadData) (x : Place T) → place_at b k ≡ Some x → (k ≡ p → ⊥) → bars_place h x ≡ true → Rival b p h k
bars_rival b p k h empty at ne e = false_true e
bars_rival b p k h (in_work j t) at ne e = false_true e
bars_rival b p k h (published j t) at ne e =
    let d = meet_to h j e in record { elsewhere = ne; rival = j; tariff = t; there = at; namesakes = d.0; shares = d.1 }

rival_bars : {T : Type 0} (b : Book T) (p k : ℕ) (h : HeadData) → (r : Rival b p h k) → bars_place h (published r.rival r.tariff) ≡ true
rival_bars b p k h r = meet_from h r.rival r.namesakes r.shares

-- the search in the book
abbrev pub clash : {T : Type 0} → Book T → ℕ → HeadData → Option ℕ
clash b p h = first_other (bars_place h) b 0 p

pub clash_none : {T : Type 0} (b : Book T) (p : ℕ) (h : HeadData) → clash b p h ≡ None → (k : ℕ) → Rival b p h k → ⊥
clash_none b p h e k r =
    both_ways (bars_place h (published r.rival r.tariff))
    (search_none (bars_place h) b 0 p e k (published r.rival r.tariff) (λ same. r.elsewhere (omega arith)) r.there)
    (rival_bars b p k h r)

pub clash_some : {T : Type 0} (b : Book T) (p k : ℕ) (h : HeadData) → clash b p h ≡ Some k → Lowest (Rival b p h) k
clash_some b p k h e =
    let r = search_some (bars_place h) b 0 p k e in
    let f = r.2 in
    let same : k ≡ r.0 = omega (arith, r.1) in
    record {
      holds = bars_rival b p k h f.item (subst (λ (n : ℕ). place_at b n ≡ Some f.item) (sym same) f.there) (λ eq. f.other (omega arith)) f.passes;
      none_lower = λ i lt q.
          both_ways (bars_place h (published q.rival q.tariff))
          (f.none_before i (published q.rival q.tariff) (omega arith) (λ eq. q.elsewhere (omega arith)) q.there)
          (rival_bars b p i h q);
    }

-- where no place is the lowest rival, there is none
pub no_rival : {T : Type 0} (b : Book T) (p : ℕ) (h : HeadData) → ((k : ℕ) → Lowest (Rival b p h) k → ⊥) → (k : ℕ) → Rival b p h k → ⊥
no_rival b p h none = go (clash b p h) refl
  where
    go : (o : Option ℕ) → clash b p h ≡ o → (k : ℕ) → Rival b p h k → ⊥
    go None e = clash_none b p h e
    go (Some q) e = λ k r. none q (clash_some b p q h e)

-- the search over slots sees the same
bars_same : {T : Type 0} (h : HeadData) (st : State) (k : HeadData) (t : T) → bars_by h st k ≡ bars_place h (place_by st k t)
bars_same h Empty k t = refl
bars_same h InWork k t = refl
bars_same h Published k t = refl

pub search_same : {T : Type 0} (ss : List SlotData) (ts : List T) (i p : ℕ) (h : HeadData) → length ss ≡ length ts → first_other (bars_slot h) ss i p ≡ first_other (bars_place h) (book_of ss ts) i p
search_same [] ts i p h e = refl
search_same (s ∷ ss) [] i p h e = absurd (omega arith)
search_same (s ∷ ss) (t ∷ ts) i p h e =
    ap (λ (v : Bool). cond (not (eqb i p) && v) (Some i) (first_other (bars_slot h) ss (suc i) p)) (bars_same h s.state s.head t)
    ∙ ap (λ (o : Option ℕ). cond (not (eqb i p) && bars_place h (place_by s.state s.head t)) (Some i) o) (search_same ss ts (suc i) p h (omega arith))

-- the search over slots with their places
abbrev pub bars_other : HeadData → ℕ → ℕ × Slot → Bool
bars_other h p x = not (x.0 == p) && bars_slot h (slot_data x.1)

pub found_other : (h : HeadData) (p : ℕ) (xs : List Slot) (i : ℕ) → position_from (bars_other h p) i (enumerate_from i xs) ≡ first_other (bars_slot h) (map slot_data xs) i p
found_other h p [] i = refl
found_other h p (x ∷ xs) i =
    ap (λ (o : Option ℕ). cond (bars_other h p (i, x)) (Some i) o)
    (found_other h p xs (i + 1) ∙ ap (λ (j : ℕ). first_other (bars_slot h) (map slot_data xs) j p) (add-one i))
