-- What the book says of a call is fixed: one answer, one book. Assumes nothing.
use Rattle.std.proofs.Common.{◌≡◌, ℕ, suc, ◌<◌, Bool, true, false, cond, eqb, ◌⊎◌, List, [], ◌∷◌, length, get_or, set, Some, Option, sym, refl, ap, ◌∙◌, subst, inl, inr, ⊎_elim, arith}
use Rattle.std.proofs.lemmas.Bool.{cases_order, eqb-true}
use Rattle.refusal.specs.Rows.{RowData, bare}
use Rattle.heads.specs.Rules.{HeadData, ending}
use Rattle.catalogue.specs.Refusals.{shares_day}
use Rattle.catalogue.specs.Table.{table, position, rank}
use Rattle.catalogue.specs.Books.{in_work, published, Book, place_at, Rival, Lowest}
use Rattle.catalogue.specs.Calls.{Change, enter, publish, amend, delete, Row, no_such_place, bad_head, publish_empty, amend_empty, delete_empty, in_work_before_first, published_before_first, enter_published, publish_published, delete_published, publish_shares_day, amend_shares_day, Declined, Step, entered, made_public, amended_work, amended_published, deleted, Judged, done, declined}
use Rattle.catalogue.specs.Laws.{BookLaws}
use Rattle.catalogue.proofs.BookLaws.{stays, long_kept, apart_kept, sound_kept, opened_long, opened_apart, opened_sound}
use Rattle.catalogue.proofs.Judging.{same_work, same_published, work_published}

-- a number is found again at its rank
found_at : (n m : ℕ) (ms : List ℕ) (v : Bool) → eqb n m ≡ v → cond v 0 (suc (position n ms)) < suc (length ms) → (position n ms < length ms → get_or ms (position n ms) 0 ≡ n) → get_or (m ∷ ms) (cond v 0 (suc (position n ms))) 0 ≡ n
found_at n m ms true e lt rest = sym (eqb-true n m e)
found_at n m ms false e lt rest = rest (omega arith)

position_finds : (n : ℕ) (ms : List ℕ) → position n ms < length ms → get_or ms (position n ms) 0 ≡ n
position_finds n [] lt = absurd (omega arith)
position_finds n (m ∷ ms) lt = found_at n m ms (eqb n m) refl lt (position_finds n ms)

same_number : (n m : ℕ) → rank n < 24 → rank m < 24 → rank n ≡ rank m → n ≡ m
same_number n m a b e = sym (position_finds n table a) ∙ ap (λ (k : ℕ). get_or table k 0) e ∙ position_finds m table b

-- the places that a call would share a day with
abbrev Clash : {T : Type 0} → Book T → Change T → ℕ → Type 0
Clash b (enter p h t) q = ⊥
Clash {T} b (publish p) q = (h : HeadData) × (t : T) × (place_at b p ≡ Some (in_work h t)) × Rival b p h q
Clash {T} b (amend p d) q = (h : HeadData) × (t : T) × (place_at b p ≡ Some (published h t)) × Rival b p (ending h d) q
Clash b (delete p) q = ⊥

-- what a row is by its number: the number alone, or 210 with the lowest such place
abbrev Shape : {T : Type 0} → Book T → Change T → RowData → Type 0
Shape b c r = ((r ≡ bare r.number) × (r.number ≡ 210 → ⊥)) ⊎ ((q : ℕ) × (r ≡ shares_day q) × Lowest (Clash b c) q)

module _ {T : Type 0} (b : Book T) where
  shape : (c : Change T) (r : RowData) → Row b c r → (rank r.number < 24) × Shape b c r
  shape c r (no_such_place e) = (omega arith, inl (refl, λ z. omega arith))
  shape c r (bad_head e) = (omega arith, inl (refl, λ z. omega arith))
  shape c r (publish_empty e) = (omega arith, inl (refl, λ z. omega arith))
  shape c r (amend_empty e) = (omega arith, inl (refl, λ z. omega arith))
  shape c r (delete_empty e) = (omega arith, inl (refl, λ z. omega arith))
  shape c r (in_work_before_first e l) = (omega arith, inl (refl, λ z. omega arith))
  shape c r (published_before_first e l) = (omega arith, inl (refl, λ z. omega arith))
  shape c r (enter_published e) = (omega arith, inl (refl, λ z. omega arith))
  shape c r (publish_published e) = (omega arith, inl (refl, λ z. omega arith))
  shape c r (delete_published e) = (omega arith, inl (refl, λ z. omega arith))
  shape c r (publish_shares_day {p = p} {q = q} {h = h} {t = t} at l) = (
    omega arith,
    inr (
      q,
      refl,
      record {
        holds = (h, t, at, l.holds);
        none_lower = λ i lt x. l.none_lower i lt (subst (λ (k : HeadData). Rival b p k i) (same_work (place_at b p) x.0 h x.1 t x.2 at) x.3);
      },
    ),
  )
  shape c r (amend_shares_day {p = p} {d = d} {q = q} {h = h} {t = t} at l) = (
    omega arith,
    inr (
      q,
      refl,
      record {
        holds = (h, t, at, l.holds);
        none_lower = λ i lt x. l.none_lower i lt (subst (λ (k : HeadData). Rival b p (ending k d) i) (same_published (place_at b p) x.0 h x.1 t x.2 at) x.3);
      },
    ),
  )

  lowest_one : (P : ℕ → Type 0) (q k : ℕ) → Lowest P q → Lowest P k → q ≡ k
  lowest_one P q k a c = ⊎_elim
      (λ (e : q ≡ k). e)
      (⊎_elim (λ (lt : q < k). absurd (c.none_lower q lt a.holds)) (λ (lt : k < q). absurd (a.none_lower k lt c.holds)))
      (cases_order q k)

  same_shape : (c : Change T) (r s : RowData) → r.number ≡ s.number → Shape b c r → Shape b c s → r ≡ s
  same_shape c r s e one two = ⊎_elim
      (λ x. ⊎_elim
      (λ y. x.0 ∙ ap bare e ∙ sym y.0)
      (λ y. absurd (x.1 (e ∙ ap (λ (z : RowData). z.number) y.1)))
      two)
      (λ x. ⊎_elim
      (λ y. absurd (y.1 (sym e ∙ ap (λ (z : RowData). z.number) x.1)))
      (λ y. x.1 ∙ ap shares_day (lowest_one (Clash b c) x.0 y.0 x.2 y.2) ∙ sym y.1)
      two)
      one

  same_rank : (m n : ℕ) → (m < n → ⊥) → (n < m → ⊥) → m ≡ n
  same_rank m n f g = ⊎_elim (λ (e : m ≡ n). e) (⊎_elim (λ (lt : m < n). absurd (f lt)) (λ (lt : n < m). absurd (g lt))) (cases_order m n)

  same_row : (c : Change T) (r s : RowData) → Declined b c r → Declined b c s → r ≡ s
  same_row c r s d e =
      let one = shape c r d.holds in
      let two = shape c s e.holds in
      same_shape c r s
      (same_number r.number s.number one.0 two.0 (same_rank (rank r.number) (rank s.number) (e.topmost r d.holds) (d.topmost s e.holds)))
      one.1 two.1

  same_step : (c : Change T) (n k : Book T) → Step b c n → Step b c k → n ≡ k
  same_step c n k (entered) (entered) = refl
  same_step c n k (made_public {p = p} {h = h} {t = t} at) (made_public {h = i} {t = u} au) = ap (set b p) (let e : published h t ≡ published i u = cc in e)
  same_step c n k (amended_work {p = p} {d = d} {h = h} {t = t} at) (amended_work {h = i} {t = u} au) = ap (set b p) (let e : in_work (ending h d) t ≡ in_work (ending i d) u = cc in e)
  same_step c n k (amended_work {p = p} {h = h} {t = t} at) (amended_published {h = i} {t = u} au) = absurd (work_published (place_at b p) h i t u at au)
  same_step c n k (amended_published {p = p} {h = h} {t = t} at) (amended_work {h = i} {t = u} au) = absurd (work_published (place_at b p) i h u t au at)
  same_step c n k (amended_published {p = p} {d = d} {h = h} {t = t} at) (amended_published {h = i} {t = u} au) = ap (set b p) (let e : published (ending h d) t ≡ published (ending i d) u = cc in e)
  same_step c n k (deleted) (deleted) = refl

-- two answers to a call on a book are one, and so are the books left
pub one_answer : {T : Type 0} (b : Book T) (c : Change T) (n k : Book T) (a e : Option RowData) → Judged b c a n → Judged b c e k → (a ≡ e) × (n ≡ k)
one_answer b c n k a e (done none s) (done other t) = (refl, same_step b c n k s t)
one_answer b c n k a e (done none s) (declined {row = row} d) = absurd (none row d.holds)
one_answer b c n k a e (declined {row = row} d) (done none s) = absurd (none row d.holds)
one_answer b c n k a e (declined {row = r} d) (declined {row = s} f) = (ap (λ (x : RowData). Some x) (same_row b c r s d f), refl)

-- the laws of books, together
pub book_laws : (T : Type 0) → BookLaws T
book_laws T = record {
  opened_long = opened_long T;
  opened_apart = opened_apart;
  opened_sound = opened_sound;
  declined_stays = stays;
  long_kept = long_kept;
  apart_kept = apart_kept;
  sound_kept = sound_kept;
  one_answer = one_answer;
}
