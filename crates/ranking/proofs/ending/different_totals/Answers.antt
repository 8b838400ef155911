use Rattle.std.proofs.Common.{◌≡◌, ℕ, suc, ◌+◌, ◌<◌, ◌≤◌, ◌^◌, cond, eqb, List, [], ◌∷◌, length, sym, ap, ◌∙◌, subst, ⊎_elim, arith, rules}
use Rattle.std.specs.List.{zip, fold, sum_by}
use Rattle.std.proofs.lemmas.Bool.{cond-true, cond-false, eq-eqb, ne_eqb, cases_eq}
use Rattle.std.proofs.lemmas.List.Sums.{sum_by-cons}
use Rattle.std.proofs.lemmas.Iterator.{YieldsList-from_slice, YieldsList-from_zip}
use Rattle.std.proofs.lemmas.Iterator.Adapters.{serves_from_total}
use Rattle.std.proofs.lemmas.Iterator.Consumers.{fold_from_yields_List}
use borrow.Author.Tests.{tests}
use Rattle.stages.specs.declared.line.Line.{Line}
use Rattle.stages.specs.Cutting.{changes, neighbouring}
use Rattle.ranking.proofs.Rising.{neighbouring_different}
use Rattle.ranking.proofs.ending.different_totals.Goals as goal

-- one where the second line begins another total
abbrev turn : Line × Line → ℕ
turn p = cond (eqb p.0.total p.1.total) 0 1

turn_more : (x y : Line) (ys : List Line) → turn (x, y) + changes y.total ys ≡ changes x.total (y ∷ ys)
turn_more x y ys =
    ⊎_elim
    (λ (e : x.total ≡ y.total).
    omega (arith, cond-true {A = ℕ} _ 0 1 (eq-eqb _ _ e), cond-true _ (changes x.total ys) (suc (changes y.total ys)) (eq-eqb _ _ (sym e)), ap (λ t. changes t ys) e))
    (λ (e : x.total ≡ y.total → ⊥).
    omega (arith, cond-false {A = ℕ} _ 0 1 (ne_eqb _ _ e), cond-false _ (changes x.total ys) (suc (changes y.total ys)) (ne_eqb _ _ (λ h. e (sym h)))))
    (cases_eq x.total y.total)

fold_turns : (n : ℕ) (x : Line) (ys : List Line) → fold (λ a p. a + turn p) n (zip (x ∷ ys) ys) ≡ n + changes x.total ys
fold_turns n x [] = omega arith
fold_turns n x (y ∷ ys) = omega (arith, fold_turns (n + turn (x, y)) y ys, turn_more x y ys)

turns_within : (x : Line) (ys : List Line) → sum_by turn (zip (x ∷ ys) ys) ≤ length ys
turns_within x [] = omega arith
turns_within x (y ∷ ys) =
    let cons = sum_by-cons turn (x, y) (zip (y ∷ ys) ys) in
    ⊎_elim
    (λ (e : x.total ≡ y.total). omega (arith, cons, turns_within y ys, cond-true {A = ℕ} _ 0 1 (eq-eqb _ _ e)))
    (λ (e : x.total ≡ y.total → ⊥). omega (arith, cons, turns_within y ys, cond-false {A = ℕ} _ 0 1 (ne_eqb _ _ e)))
    (cases_eq x.total y.total)

pub fold-requires-clause-callable : goal.fold-requires-clause-callable
fold-requires-clause-callable c =
    let lines = c.args.lines.now in
    let later = c.in-Some.later.now in
    let y = c.in-Some.field-0-0.now in
    let first : lines ≡ y ∷ later = search rules in
    let low : sum_by turn (zip lines later) ≤ length later = subst (λ ls. sum_by turn (zip ls later) ≤ length later) (sym first) (turns_within y later) in
    let long : length later + 1 < 2 ^ 64 = omega (arith, ap length first) in
    serves_from_total (YieldsList-from_zip (YieldsList-from_slice lines (search rules)) (YieldsList-from_slice later (search rules))) turn
    (λ n x q k. search (rules, tests))
    (λ n x k. let fits : n + turn (x.0.now, x.1.now) < 2 ^ 64 = omega arith in search (rules, tests))

pub returns : goal.returns
returns c =
    let lines = c.args.lines.now in
    let later = c.in-Some.later.now in
    let y = c.in-Some.field-0-0.now in
    let first : lines ≡ y ∷ later = search rules in
    let told : c.fold.result ≡ fold (λ a p. a + turn p) 1 (zip lines later) =
    fold_from_yields_List _ (λ a p. a + turn p) 1 _ c.fold.ensures.ran
    (YieldsList-from_zip (YieldsList-from_slice lines (search rules)) (YieldsList-from_slice later (search rules)))
    (λ a x b q k. search (rules, tests)) in
    let turns : fold (λ a p. a + turn p) 1 (zip lines later) ≡ 1 + changes y.total later = ap (λ ls. fold (λ a p. a + turn p) 1 (zip ls later)) first ∙ fold_turns 1 y later in
    let count : c.fold.result ≡ neighbouring lines = omega (arith, told, turns, ap neighbouring first) in
    record { is = count; means = λ a. count ∙ neighbouring_different lines a }
