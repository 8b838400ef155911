-- The worked examples of lists. Assumes nothing.
use Rattle.std.proofs.Common.{◌≡◌, ℕ, zero, suc, ◌+◌, ◌<◌, ◌≤◌, List, [], ◌∷◌, take, Some, None, sym, refl, ap, ◌∙◌, inl, inr, ⊎_elim, arith}
use Rattle.std.proofs.lemmas.Bool.{false≢true}
use Rattle.catalogue.specs.Books.{published, place_at, Apart}
use Rattle.catalogue.proofs.Places.{none_some, same_some}
use Rattle.heads.specs.Rules.{HeadData}
use Rattle.stages.specs.Lines.{line_of}
use Rattle.ranking.specs.Offers.{Offer, FloorsHold}
use Rattle.ranking.specs.Queues.{queue}
use Rattle.ordered.specs.Members.{Among}
use Rattle.ranking.specs.Costing.{Taken, EndsBefore}
use Rattle.ranking.specs.Steps.{gathered, cut_lines}
use Rattle.ranking.proofs.Meets.{steps_show}
use Rattle.listing.specs.Tests.{asked_for, offers}
use Rattle.listing.proofs.Bridge.{shown_by}
use Rattle.examples.specs.Lists.{Sums, sums, sums_mean, head, book_from, book, asked, Lists, fives, nines, eights}

-- the supplier of what is published is its place
same_head : (h k : HeadData) (t u : Sums) → published h t ≡ published k u → h ≡ k
same_head h k t u e = cc

supplier_at : (ts : List Sums) (from p : ℕ) (h : HeadData) (t : Sums) → place_at (book_from from ts) p ≡ Some (published h t) → h.supplier ≡ from + p
supplier_at [] from p h t e = absurd (none_some None _ refl e)
supplier_at (u ∷ ts) from zero h t e =
    sym (ap (λ (k : HeadData). k.supplier) (same_head (head from) h u t (same_some (Some (published (head from) u)) _ _ refl e))) ∙ omega arith
supplier_at (u ∷ ts) from (suc p) h t e = supplier_at ts (suc from) p h t e ∙ omega arith

book_apart : (ts : List Sums) → Apart (book ts)
book_apart ts m =
    omega (arith, supplier_at ts 0 m.one m.head m.tariff m.at_one, supplier_at ts 0 m.two m.other m.other_tariff m.at_two, m.namesakes.0)

-- the offers of such a book, as the list sees them
abbrev seen : List Sums → ℕ → List Offer
seen ts w = offers sums_mean (book ts) (asked w)

-- the list over such a book, from the offers that are costed in turn
lists_by : (ts : List Sums) (w n : ℕ) → FloorsHold (seen ts w) → Taken w (seen ts w) (queue (seen ts w)) n
    → Lists ts w (cut_lines w (gathered (seen ts w) (take n (queue (seen ts w))))) n
lists_by ts w n floors taken =
    shown_by sums_mean (asked w) (book ts) (cut_lines w (gathered (seen ts w) (take n (queue (seen ts w))))) n (book_apart ts) (steps_show w (seen ts w) n floors taken)

floors_of : (a b c d e f w : ℕ) → a ≤ b → c ≤ d → e ≤ f → FloorsHold (seen (sums a b ∷ sums c d ∷ sums e f ∷ []) w)
floors_of a b c d e f w x y z zero fit = x
floors_of a b c d e f w x y z (suc zero) fit = y
floors_of a b c d e f w x y z (suc (suc zero)) fit = z
floors_of a b c d e f w x y z (suc (suc (suc p))) fit = absurd (false≢true fit)

pub two_lines : Lists fives 1 (line_of 0 5 ∷ line_of 1 5 ∷ []) 2
unfolding asked_for
two_lines = lists_by fives 1 2 (floors_of 5 5 5 5 7 7 1 (omega arith) (omega arith) (omega arith)) taken
  where
    goes : (k : ℕ) → k < 2 → EndsBefore 1 (seen fives 1) (queue (seen fives 1)) k → ⊥
    goes zero h e = omega (arith, e.0)
    goes (suc zero) h e = omega (arith, e.1 5 (inl refl))
    goes (suc (suc k)) h e = omega arith

    below : (t : ℕ) → Among t (5 ∷ 5 ∷ []) → t < 7
    below t = ⊎_elim (λ e. omega arith) (⊎_elim (λ e. omega arith) (λ e. absurd e))

    taken : Taken 1 (seen fives 1) (queue (seen fives 1)) 2
    taken = record { within = omega arith; goes_on = goes; ends = inr (omega arith, below) }

-- with two or three totals wanted, taking never ends early
all_taken : (w : ℕ) → 2 ≤ w → Taken w (seen fives w) (queue (seen fives w)) 3
unfolding asked_for
all_taken w two = record { within = omega arith; goes_on = goes; ends = inl refl }
  where
    goes : (k : ℕ) → k < 3 → EndsBefore w (seen fives w) (queue (seen fives w)) k → ⊥
    goes zero h e = omega (arith, e.0)
    goes (suc zero) h e = omega (arith, e.0)
    goes (suc (suc zero)) h e = omega (arith, e.0)
    goes (suc (suc (suc k))) h e = omega arith

pub three_lines : Lists fives 2 (line_of 0 5 ∷ line_of 1 5 ∷ line_of 2 7 ∷ []) 3
unfolding asked_for
three_lines = lists_by fives 2 3 (floors_of 5 5 5 5 7 7 2 (omega arith) (omega arith) (omega arith)) (all_taken 2 (omega arith))

pub all_lines : Lists fives 3 (line_of 0 5 ∷ line_of 1 5 ∷ line_of 2 7 ∷ []) 3
unfolding asked_for
all_lines = lists_by fives 3 3 (floors_of 5 5 5 5 7 7 3 (omega arith) (omega arith) (omega arith)) (all_taken 3 (omega arith))

pub early_end : Lists nines 1 (line_of 1 6 ∷ []) 2
unfolding asked_for
early_end = lists_by nines 1 2 (floors_of 3 8 5 6 9 9 1 (omega arith) (omega arith) (omega arith)) taken
  where
    goes : (k : ℕ) → k < 2 → EndsBefore 1 (seen nines 1) (queue (seen nines 1)) k → ⊥
    goes zero h e = omega (arith, e.0)
    goes (suc zero) h e = omega (arith, e.1 8 (inl refl))
    goes (suc (suc k)) h e = omega arith

    below : (t : ℕ) → Among t (8 ∷ 6 ∷ []) → t < 9
    below t = ⊎_elim (λ e. omega arith) (⊎_elim (λ e. omega arith) (λ e. absurd e))

    taken : Taken 1 (seen nines 1) (queue (seen nines 1)) 2
    taken = record { within = omega arith; goes_on = goes; ends = inr (omega arith, below) }

pub no_early_end : Lists eights 1 (line_of 1 6 ∷ []) 3
unfolding asked_for
no_early_end = lists_by eights 1 3 (floors_of 3 8 5 6 8 8 1 (omega arith) (omega arith) (omega arith)) taken
  where
    goes : (k : ℕ) → k < 3 → EndsBefore 1 (seen eights 1) (queue (seen eights 1)) k → ⊥
    goes zero h e = omega (arith, e.0)
    goes (suc zero) h e = omega (arith, e.1 8 (inl refl))
    goes (suc (suc zero)) h e = omega (arith, e.1 8 (inl refl))
    goes (suc (suc (suc k))) h e = omega arith

    taken : Taken 1 (seen eights 1) (queue (seen eights 1)) 3
    taken = record { within = omega arith; goes_on = goes; ends = inl refl }
