-- Which row declines a call, once it is known what stands at its place. Assumes nothing.
use Rattle.std.proofs.Common.{◌≡◌, ℕ, ◌<◌, ◌≤◌, Some, None, Option, refl, ap, subst, arith}
use Rattle.refusal.specs.Rows.{RowData, bare}
use Rattle.heads.specs.Rules.{HeadData, SoundHead, ending}
use Rattle.catalogue.specs.Refusals.{shares_day}
use Rattle.catalogue.specs.Table.{Higher}
use Rattle.catalogue.specs.Books.{Place, empty, in_work, published, Book, place_at, Rival, Lowest}
use Rattle.catalogue.specs.Calls.{Change, enter, publish, amend, delete, place_of, Row, no_such_place, bad_head, publish_empty, amend_empty, delete_empty, in_work_before_first, published_before_first, enter_published, publish_published, delete_published, publish_shares_day, amend_shares_day, NoCause, Judged, declined}
use Rattle.catalogue.proofs.Places.{none_some, same_some}

-- two things do not stand at one place
empty_work : {T : Type 0} (o : Option (Place T)) (h : HeadData) (t : T) → o ≡ Some empty → o ≡ Some (in_work h t) → ⊥
empty_work o h t p q = cc

empty_published : {T : Type 0} (o : Option (Place T)) (h : HeadData) (t : T) → o ≡ Some empty → o ≡ Some (published h t) → ⊥
empty_published o h t p q = cc

pub work_published : {T : Type 0} (o : Option (Place T)) (h k : HeadData) (t u : T) → o ≡ Some (in_work h t) → o ≡ Some (published k u) → ⊥
work_published o h k t u p q = cc

pub same_work : {T : Type 0} (o : Option (Place T)) (h k : HeadData) (t u : T) → o ≡ Some (in_work h t) → o ≡ Some (in_work k u) → h ≡ k
same_work o h k t u p q = cc

pub same_published : {T : Type 0} (o : Option (Place T)) (h k : HeadData) (t u : T) → o ≡ Some (published h t) → o ≡ Some (published k u) → h ≡ k
same_published o h k t u p q = cc

module _ {T : Type 0} (b : Book T) (p : ℕ) where
  -- 10
  not_above_10 : (c : Change T) (row : RowData) → Row b c row → Higher row.number 10 → ⊥
  not_above_10 c row (no_such_place e) = λ lt. omega arith
  not_above_10 c row (bad_head e) = λ lt. omega arith
  not_above_10 c row (publish_empty e) = λ lt. omega arith
  not_above_10 c row (amend_empty e) = λ lt. omega arith
  not_above_10 c row (delete_empty e) = λ lt. omega arith
  not_above_10 c row (in_work_before_first e l) = λ lt. omega arith
  not_above_10 c row (published_before_first e l) = λ lt. omega arith
  not_above_10 c row (enter_published e) = λ lt. omega arith
  not_above_10 c row (publish_published e) = λ lt. omega arith
  not_above_10 c row (delete_published e) = λ lt. omega arith
  not_above_10 c row (publish_shares_day e l) = λ lt. omega arith
  not_above_10 c row (amend_shares_day e l) = λ lt. omega arith

pub judge_missing : {T : Type 0} (b : Book T) (c : Change T) → place_at b (place_of c) ≡ None → Judged b c (Some (bare 10)) b
judge_missing b c e = declined (record { holds = no_such_place e; topmost = not_above_10 b 0 c })

module _ {T : Type 0} (b : Book T) (p : ℕ) (h : HeadData) (t : T) where
  above_12 : (x : Place T) → place_at b p ≡ Some x → (row : RowData) → Row b (enter p h t) row → Higher row.number 12 → ⊥
  above_12 x at row (no_such_place e) = λ lt. none_some (place_at b p) x e at
  above_12 x at row (bad_head e) = λ lt. omega arith
  above_12 x at row (enter_published e) = λ lt. omega arith

  pub enter_unsound : (x : Place T) → place_at b p ≡ Some x → (SoundHead h → ⊥) → Judged b (enter p h t) (Some (bare 12)) b
  enter_unsound x at bad = declined (record { holds = bad_head bad; topmost = above_12 x at })

  above_200 : (x : Place T) → place_at b p ≡ Some x → SoundHead h → (row : RowData) → Row b (enter p h t) row → Higher row.number 200 → ⊥
  above_200 x at s row (no_such_place e) = λ lt. none_some (place_at b p) x e at
  above_200 x at s row (bad_head e) = λ lt. e s
  above_200 x at s row (enter_published e) = λ lt. omega arith

  pub enter_taken : (k : HeadData) (u : T) → place_at b p ≡ Some (published k u) → SoundHead h → Judged b (enter p h t) (Some (bare 200)) b
  enter_taken k u at s = declined (record { holds = enter_published at; topmost = above_200 (published k u) at s })

  pub enter_at_empty : place_at b p ≡ Some empty → SoundHead h → NoCause b (enter p h t)
  enter_at_empty at s row (no_such_place e) = none_some (place_at b p) empty e at
  enter_at_empty at s row (bad_head e) = e s
  enter_at_empty at s row (enter_published {k = k} {u = u} e) = empty_published (place_at b p) k u at e

  pub enter_at_work : (k : HeadData) (u : T) → place_at b p ≡ Some (in_work k u) → SoundHead h → NoCause b (enter p h t)
  enter_at_work k u at s row (no_such_place e) = none_some (place_at b p) (in_work k u) e at
  enter_at_work k u at s row (bad_head e) = e s
  enter_at_work k u at s row (enter_published {k = j} {u = v} e) = work_published (place_at b p) k j u v at e

module _ {T : Type 0} (b : Book T) (p : ℕ) where
  -- publish: 16, 200, 210, or none
  publish_above_16 : place_at b p ≡ Some empty → (row : RowData) → Row b (publish p) row → Higher row.number 16 → ⊥
  publish_above_16 at row (no_such_place e) = λ lt. none_some (place_at b p) empty e at
  publish_above_16 at row (publish_empty e) = λ lt. omega arith
  publish_above_16 at row (publish_published e) = λ lt. omega arith
  publish_above_16 at row (publish_shares_day e l) = λ lt. omega arith

  pub publish_at_empty : place_at b p ≡ Some empty → Judged b (publish p) (Some (bare 16)) b
  publish_at_empty at = declined (record { holds = publish_empty at; topmost = publish_above_16 at })

  publish_above_200 : (k : HeadData) (u : T) → place_at b p ≡ Some (published k u) → (row : RowData) → Row b (publish p) row → Higher row.number 200 → ⊥
  publish_above_200 k u at row (no_such_place e) = λ lt. none_some (place_at b p) (published k u) e at
  publish_above_200 k u at row (publish_empty e) = λ lt. empty_published (place_at b p) k u e at
  publish_above_200 k u at row (publish_published e) = λ lt. omega arith
  publish_above_200 k u at row (publish_shares_day e l) = λ lt. omega arith

  pub publish_taken : (k : HeadData) (u : T) → place_at b p ≡ Some (published k u) → Judged b (publish p) (Some (bare 200)) b
  publish_taken k u at = declined (record { holds = publish_published at; topmost = publish_above_200 k u at })

  publish_above_210 : (h : HeadData) (t : T) → place_at b p ≡ Some (in_work h t) → (row : RowData) → Row b (publish p) row → Higher row.number 210 → ⊥
  publish_above_210 h t at row (no_such_place e) = λ lt. none_some (place_at b p) (in_work h t) e at
  publish_above_210 h t at row (publish_empty e) = λ lt. empty_work (place_at b p) h t e at
  publish_above_210 h t at row (publish_published {k = k} {u = u} e) = λ lt. work_published (place_at b p) h k t u at e
  publish_above_210 h t at row (publish_shares_day e l) = λ lt. omega arith

  pub publish_clash : (h : HeadData) (t : T) (q : ℕ) → place_at b p ≡ Some (in_work h t) → Lowest (Rival b p h) q → Judged b (publish p) (Some (shares_day q)) b
  publish_clash h t q at l = declined (record { holds = publish_shares_day at l; topmost = publish_above_210 h t at })

  pub publish_free : (h : HeadData) (t : T) → place_at b p ≡ Some (in_work h t) → ((k : ℕ) → Rival b p h k → ⊥) → NoCause b (publish p)
  publish_free h t at free row (no_such_place e) = none_some (place_at b p) (in_work h t) e at
  publish_free h t at free row (publish_empty e) = empty_work (place_at b p) h t e at
  publish_free h t at free row (publish_published {k = k} {u = u} e) = work_published (place_at b p) h k t u at e
  publish_free h t at free row (publish_shares_day {q = q} {h = k} {t = u} e l) =
      free q (subst (λ (x : HeadData). Rival b p x q) (same_work (place_at b p) k h u t e at) l.holds)

  -- delete: 16, 18, or none
  delete_above_16 : place_at b p ≡ Some empty → (row : RowData) → Row b (delete p) row → Higher row.number 16 → ⊥
  delete_above_16 at row (no_such_place e) = λ lt. none_some (place_at b p) empty e at
  delete_above_16 at row (delete_empty e) = λ lt. omega arith
  delete_above_16 at row (delete_published e) = λ lt. omega arith

  pub delete_at_empty : place_at b p ≡ Some empty → Judged b (delete p) (Some (bare 16)) b
  delete_at_empty at = declined (record { holds = delete_empty at; topmost = delete_above_16 at })

  delete_above_18 : (k : HeadData) (u : T) → place_at b p ≡ Some (published k u) → (row : RowData) → Row b (delete p) row → Higher row.number 18 → ⊥
  delete_above_18 k u at row (no_such_place e) = λ lt. none_some (place_at b p) (published k u) e at
  delete_above_18 k u at row (delete_empty e) = λ lt. empty_published (place_at b p) k u e at
  delete_above_18 k u at row (delete_published e) = λ lt. omega arith

  pub delete_taken : (k : HeadData) (u : T) → place_at b p ≡ Some (published k u) → Judged b (delete p) (Some (bare 18)) b
  delete_taken k u at = declined (record { holds = delete_published at; topmost = delete_above_18 k u at })

  pub delete_work : (h : HeadData) (t : T) → place_at b p ≡ Some (in_work h t) → NoCause b (delete p)
  delete_work h t at row (no_such_place e) = none_some (place_at b p) (in_work h t) e at
  delete_work h t at row (delete_empty e) = empty_work (place_at b p) h t e at
  delete_work h t at row (delete_published {k = k} {u = u} e) = work_published (place_at b p) h k t u at e

module _ {T : Type 0} (b : Book T) (p d : ℕ) where
  -- amend: 16, 14, 210, or none
  amend_above_16 : place_at b p ≡ Some empty → (row : RowData) → Row b (amend p d) row → Higher row.number 16 → ⊥
  amend_above_16 at row (no_such_place e) = λ lt. none_some (place_at b p) empty e at
  amend_above_16 at row (amend_empty e) = λ lt. omega arith
  amend_above_16 at row (in_work_before_first e l) = λ lt. omega arith
  amend_above_16 at row (published_before_first e l) = λ lt. omega arith
  amend_above_16 at row (amend_shares_day e l) = λ lt. omega arith

  pub amend_at_empty : place_at b p ≡ Some empty → Judged b (amend p d) (Some (bare 16)) b
  amend_at_empty at = declined (record { holds = amend_empty at; topmost = amend_above_16 at })

  -- a place that is not empty
  above_14 : (x : Place T) → place_at b p ≡ Some x → (x ≡ empty → ⊥) → (row : RowData) → Row b (amend p d) row → Higher row.number 14 → ⊥
  above_14 x at ne row (no_such_place e) = λ lt. none_some (place_at b p) x e at
  above_14 x at ne row (amend_empty e) = λ lt. ne (same_some (place_at b p) x empty at e)
  above_14 x at ne row (in_work_before_first e l) = λ lt. omega arith
  above_14 x at ne row (published_before_first e l) = λ lt. omega arith
  above_14 x at ne row (amend_shares_day e l) = λ lt. omega arith

  work_not_empty : (h : HeadData) (t : T) → in_work h t ≡ empty → ⊥
  work_not_empty h t e = empty_work (Some (in_work h t)) h t (ap (λ (x : Place T). Some x) e) refl

  published_not_empty : (h : HeadData) (t : T) → published h t ≡ empty → ⊥
  published_not_empty h t e = empty_published (Some (published h t)) h t (ap (λ (x : Place T). Some x) e) refl

  pub amend_early_work : (h : HeadData) (t : T) → place_at b p ≡ Some (in_work h t) → d < h.first → Judged b (amend p d) (Some (bare 14)) b
  amend_early_work h t at l = declined (record { holds = in_work_before_first at l; topmost = above_14 (in_work h t) at (work_not_empty h t) })

  pub amend_early_published : (h : HeadData) (t : T) → place_at b p ≡ Some (published h t) → d < h.first → Judged b (amend p d) (Some (bare 14)) b
  amend_early_published h t at l = declined (record { holds = published_before_first at l; topmost = above_14 (published h t) at (published_not_empty h t) })

  pub amend_work : (h : HeadData) (t : T) → place_at b p ≡ Some (in_work h t) → h.first ≤ d → NoCause b (amend p d)
  amend_work h t at l row (no_such_place e) = none_some (place_at b p) (in_work h t) e at
  amend_work h t at l row (amend_empty e) = empty_work (place_at b p) h t e at
  amend_work h t at l row (in_work_before_first {h = k} {t = u} e lt) =
      let s : k.first ≡ h.first = ap (λ (x : HeadData). x.first) (same_work (place_at b p) k h u t e at) in omega arith
  amend_work h t at l row (published_before_first {h = k} {t = u} e lt) = work_published (place_at b p) h k t u at e
  amend_work h t at l row (amend_shares_day {h = k} {t = u} e lo) = work_published (place_at b p) h k t u at e

  amend_above_210 : (h : HeadData) (t : T) → place_at b p ≡ Some (published h t) → h.first ≤ d → (row : RowData) → Row b (amend p d) row → Higher row.number 210 → ⊥
  amend_above_210 h t at l row (no_such_place e) = λ lt. none_some (place_at b p) (published h t) e at
  amend_above_210 h t at l row (amend_empty e) = λ lt. empty_published (place_at b p) h t e at
  amend_above_210 h t at l row (in_work_before_first {h = k} {t = u} e early) = λ lt. work_published (place_at b p) k h u t e at
  amend_above_210 h t at l row (published_before_first {h = k} {t = u} e early) = λ lt.
      let s : k.first ≡ h.first = ap (λ (x : HeadData). x.first) (same_published (place_at b p) k h u t e at) in omega arith
  amend_above_210 h t at l row (amend_shares_day e lo) = λ lt. omega arith

  pub amend_clash : (h : HeadData) (t : T) (q : ℕ) → place_at b p ≡ Some (published h t) → h.first ≤ d → Lowest (Rival b p (ending h d)) q → Judged b (amend p d) (Some (shares_day q)) b
  amend_clash h t q at l lo = declined (record { holds = amend_shares_day at lo; topmost = amend_above_210 h t at l })

  pub amend_free : (h : HeadData) (t : T) → place_at b p ≡ Some (published h t) → h.first ≤ d → ((k : ℕ) → Rival b p (ending h d) k → ⊥) → NoCause b (amend p d)
  amend_free h t at l free row (no_such_place e) = none_some (place_at b p) (published h t) e at
  amend_free h t at l free row (amend_empty e) = empty_published (place_at b p) h t e at
  amend_free h t at l free row (in_work_before_first {h = k} {t = u} e early) = work_published (place_at b p) k h u t e at
  amend_free h t at l free row (published_before_first {h = k} {t = u} e early) =
      let s : k.first ≡ h.first = ap (λ (x : HeadData). x.first) (same_published (place_at b p) k h u t e at) in omega arith
  amend_free h t at l free row (amend_shares_day {q = q} {h = k} {t = u} e lo) =
      free q (subst (λ (x : HeadData). Rival b p (ending x d) q) (same_published (place_at b p) k h u t e at) lo.holds)
