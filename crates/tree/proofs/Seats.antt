-- End services and their seats. Assumes nothing.
use Rattle.std.proofs.Common.{◌≡◌, ℕ, zero, suc, ◌+◌, ◌<◌, ◌≤◌, Bool, true, false, cond, not, ◌&&◌, eqb, ltb, List, [], ◌∷◌, ◌++◌, map, sum, sum_by, length, Some, None, Decides, Option, sym, refl, ap, ◌∙◌, inl, inr, add-zero, add-one, arith, MatchOption}
use Rattle.std.specs.List.{HoldsAt, range_with_len, filter, slice_get}
use Rattle.std.proofs.Math.Dec.{eqb-zero-suc, eqb-suc-suc}
use Rattle.std.proofs.lemmas.List.{get_or_default, map-id}
use Rattle.std.proofs.lemmas.Bool.Decides.{Decides-by_or, Decides-eqb}
use Rattle.std.proofs.lemmas.Bool.{and_parts, and_from, not-true, not_from_false, eqb-true, eq-eqb, both_ways, cases_order, cases_Bool, ltb-true, lt-ltb}
use Rattle.std.proofs.lemmas.List.Sums.{sum-map, sum_by-append, sum_by-cons, length-filter}
use Rattle.std.proofs.lemmas.List.FromFn.{map-range_with_len_more, filter_of_map_range_with_len_more}
use Rattle.refusal.specs.Lowest.{or_else, lowest}
use Rattle.refusal.proofs.Lowest.{lowest_tells, Answers}
use Rattle.tree.specs.Trees.{parent, among, ends_below, is_end, seat_of, has_seat, end_at, EndService, Seat, Seating}

-- the test for a number of a list
decides_listed : (n : ℕ) (ns : List ℕ) → Decides (among n ns) ((k : ℕ) × (k < length ns) × HoldsAt (λ m. m ≡ n) ns k)
decides_listed n ns = Decides-by_or (λ m. eqb m n) (λ m. m ≡ n) (among n) (λ m. Decides-eqb m n) refl (λ _ _. refl) ns

-- what the test for a parent tells
pub parent_tells : (n : ℕ) (ps : List ℕ) → among n ps ≡ true → (i : ℕ) × (i < length ps) × (parent ps i ≡ n)
parent_tells n ps e = let r = (decides_listed n ps).0 e in (r.0, r.1, r.2 255)

parent_finds : (n : ℕ) (ps : List ℕ) (i : ℕ) → i < length ps → parent ps i ≡ n → among n ps ≡ true
parent_finds n ps i h e = (decides_listed n ps).1 (i, h, λ d. get_or_default ps i d 255 h ∙ e)

pub end_from : (ps : List ℕ) (n : ℕ) → n < length ps → among n ps ≡ false → EndService ps n
end_from ps n h f = record { node = h; childless = λ i hi e. both_ways (among n ps) f (parent_finds n ps i hi e) }

childless_test : (ps : List ℕ) (n : ℕ) → EndService ps n → among n ps ≡ false
childless_test ps n x =
    elim (cases_Bool (among n ps)) [
      | inl t ↦ let r = parent_tells n ps t in absurd (x.childless r.0 r.1 r.2)
      | inr f ↦ f
    ]

pub decides_end : (ps : List ℕ) (n : ℕ) → Decides (is_end ps n) (EndService ps n)
decides_end ps n = (
  λ t. let p = and_parts (ltb n (length ps)) (not (among n ps)) t in end_from ps n (ltb-true _ _ p.0) (not-true _ p.1),
  λ x. and_from (ltb n (length ps)) (not (among n ps)) (lt-ltb _ _ x.node) (not_from_false _ (childless_test ps n x)),
)

-- what the seat of a node is, in words
seat_by : (ps : List ℕ) (n : ℕ) (b : Bool) → is_end ps n ≡ b → MatchOption (cond b (Some (ends_below n ps)) None) (EndService ps n → ⊥) (Seat ps n)
seat_by ps n true e = record { end_service = (decides_end ps n).0 e; ends_lower = refl }
seat_by ps n false e = λ x. both_ways (is_end ps n) e ((decides_end ps n).1 x)

pub seat_said : (ps : List ℕ) (n : ℕ) → MatchOption (seat_of ps n) (EndService ps n → ⊥) (Seat ps n)
seat_said ps n = seat_by ps n (is_end ps n) refl

-- one number more
ends_next : (n : ℕ) (ps : List ℕ) → ends_below (n + 1) ps ≡ ends_below n ps + cond (not (among n ps)) 1 0
ends_next n ps =
    let f = λ (k : ℕ). cond (not (among k ps)) 1 0 in
    let a = sum-map f (range_with_len 0 (n + 1)) in
    let b = ap sum (map-range_with_len_more f 0 n n (omega arith)) in
    let c = sum_by-append (λ x. x) (map f (range_with_len 0 n)) (f n ∷ []) in
    let d = sum-map f (range_with_len 0 n) in
    let e = sum_by-cons (λ x. x) (f n) [] in
    sym a ∙ b ∙ c ∙ ap (λ m. m + sum_by (λ x. x) (f n ∷ [])) d ∙ ap (λ m. ends_below n ps + m) (e ∙ add-zero (f n))

pub ends_same : (n : ℕ) (ps : List ℕ) → among n ps ≡ true → ends_below (n + 1) ps ≡ ends_below n ps
ends_same n ps e = ends_next n ps ∙ rw e (add-zero (ends_below n ps))

pub ends_more : (n : ℕ) (ps : List ℕ) → among n ps ≡ false → ends_below (n + 1) ps ≡ ends_below n ps + 1
ends_more n ps e = ends_next n ps ∙ rw e refl

-- an element more, or none, at the end of a list
get_more : (ns : List ℕ) (n s : ℕ) (b : Bool) → slice_get (ns ++ cond b (n ∷ []) []) s ≡ or_else (slice_get ns s) (cond (b && eqb (length ns) s) (Some n) None)
get_more [] n zero true = refl
get_more [] n (suc s) true = rw (eqb-zero-suc s) refl
get_more [] n s false = refl
get_more (m ∷ ns) n zero b = refl
get_more (m ∷ ns) n (suc s) b = rw (eqb-suc-suc (length ns) s) (get_more ns n s b)

-- of the end services below n, the one at the place s is the lowest that so many are numbered below
pub ends_at : (ps : List ℕ) (s n : ℕ) → slice_get (filter (λ k. not (among k ps)) (range_with_len 0 n)) s ≡ lowest (has_seat ps s) n
ends_at ps s zero = refl
ends_at ps s (suc n) =
    let p = λ (k : ℕ). not (among k ps) in
    let ends = filter p (range_with_len 0 n) in
    let more : filter p (range_with_len 0 (suc n)) ≡ ends ++ cond (p n) (n ∷ []) [] =
    rw (map-id, map-id, add-one) at (filter_of_map_range_with_len_more p (λ k. k) 0 n n (omega arith)) in
    rw (more, get_more ends n s (p n), length-filter p (range_with_len 0 n), ends_at ps s n) refl

-- the test for the end service of a seat
pub seat_here : (ps : List ℕ) (s n : ℕ) → among n ps ≡ false → ends_below n ps ≡ s → has_seat ps s n ≡ true
seat_here ps s n f e = and_from (not (among n ps)) (eqb (ends_below n ps) s) (not_from_false _ f) (eq-eqb _ _ e)

decides_seat : (ps : List ℕ) (s n : ℕ) → n < length ps → Decides (has_seat ps s n) (Seat ps n s)
decides_seat ps s n h = (
  λ t. let p = and_parts (not (among n ps)) (eqb (ends_below n ps) s) t in
      record { end_service = end_from ps n h (not-true _ p.0); ends_lower = eqb-true _ _ p.1 },
  λ x. seat_here ps s n (childless_test ps n x.end_service) x.ends_lower,
)

-- what the end service of a seat is, in words
abbrev pub SeatedBy : List ℕ → ℕ → Option ℕ → Type 0
SeatedBy ps s o = MatchOption o ((e : ℕ) → Seat ps e s → ⊥) (λ e. Seat ps e s)

seated_from : (ps : List ℕ) (s : ℕ) (o : Option ℕ) → Answers (λ e. Seat ps e s) o → SeatedBy ps s o
seated_from ps s (Some e) x = x.holds
seated_from ps s None x = x

pub seated_by : (ps : List ℕ) (s : ℕ) → SeatedBy ps s (end_at ps s)
seated_by ps s = seated_from ps s (end_at ps s) (lowest_tells (has_seat ps s) (λ e. Seat ps e s) (length ps) (decides_seat ps s) (λ e x. x.end_service.node))

-- seats go up with the nodes
ends_grow : (ps : List ℕ) (m n : ℕ) → m ≤ n → ends_below m ps ≤ ends_below n ps
ends_grow ps m zero h = let e : m ≡ 0 = omega arith in rw e (omega arith)
ends_grow ps m (suc n) h =
    let next = rw add-one at (ends_next n ps) in
    elim (cases_order m (suc n)) [
      | inl e ↦ rw e (omega arith)
      | inr o ↦ elim o [ inl lt ↦ let g = ends_grow ps m n (omega arith) in omega arith | inr gt ↦ absurd (omega arith) ]
    ]

seat_below : (ps : List ℕ) (e n s : ℕ) → Seat ps e s → e < n → s < ends_below n ps
seat_below ps e n s x h =
    let q = x.ends_lower in
    let m = ends_more e ps (childless_test ps e x.end_service) in
    let g = ends_grow ps (e + 1) n (omega arith) in
    omega arith

-- a seat has one end service
pub one_seated : (ps : List ℕ) (e f s : ℕ) → Seat ps e s → Seat ps f s → e ≡ f
one_seated ps e f s x y =
    let p = x.ends_lower in
    let q = y.ends_lower in
    elim (cases_order e f) [
      | inl t ↦ t
      | inr o ↦ elim o [
        | inl lt ↦ absurd (let g = seat_below ps e f s x lt in omega arith)
        | inr gt ↦ absurd (let g = seat_below ps f e s y gt in omega arith)
      ]
    ]

-- each seat below the count is taken
taken_by : (ps : List ℕ) (s n : ℕ) → n ≤ length ps → s < ends_below n ps → (e : ℕ) × Seat ps e s
taken_by ps s zero l h = absurd (omega arith)
taken_by ps s (suc n) l h =
    elim (cases_Bool (among n ps)) [
      | inl t ↦ taken_by ps s n (omega arith) (let e : ends_below (suc n) ps ≡ ends_below n ps = rw add-one at (ends_same n ps t) in omega arith)
      | inr f ↦
          let e : ends_below (suc n) ps ≡ ends_below n ps + 1 = rw add-one at (ends_more n ps f) in
          elim (cases_order s (ends_below n ps)) [
            | inl q ↦ (n, record { end_service = end_from ps n (omega arith) f; ends_lower = sym q })
            | inr o ↦ elim o [ inl lt ↦ taken_by ps s n (omega arith) lt | inr gt ↦ absurd (omega arith) ]
          ]
    ]

pub seating : (ps : List ℕ) → Seating ps (ends_below (length ps) ps)
seating ps =
    record {
      seated = λ e s x. seat_below ps e (length ps) s x x.end_service.node;
      taken = λ s h. taken_by ps s (length ps) (omega arith) h;
      ascending = λ e f s t x y lt. let g = seat_below ps e f s x lt in let q = y.ends_lower in omega arith;
    }
