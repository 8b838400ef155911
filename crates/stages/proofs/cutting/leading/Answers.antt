use Rattle.std.proofs.Common.{◌<◌, ◌^◌, length, map, sum, sym, ap, ◌∙◌, arith, rules}
use Rattle.std.proofs.lemmas.List.Sorted.{answers_always}
use Rattle.stages.proofs.Groups.{run_keeps, run_within}
use Rattle.stages.proofs.cutting.leading.Goals as goal

pub sum-requires-clause-fits : goal.sum-requires-clause-fits
sum-requires-clause-fits c p seen from =
    let q = c.map.ensures.runs p seen from in
    let r = (c.take.ensures.runs q.0 q.0.seen q.1).1 in
    let sizes = q.2.3 (λ x. length x.now) (λ x y f k. search rules) ∙ ap (map (λ x. length x.now)) (sym r.2.0.1) in
    let short : length c.args.lines.now < 2 ^ 64 = omega arith in
    omega (arith, short, ap sum sizes, run_within _ r.0 _ r.1 _ c.chunk_by.ensures.rest)

pub returns : goal.returns
returns c =
    let s = c.sum.ensures.runs tt in
    let p = s.0 in
    let q = c.map.ensures.runs p p.seen s.1 in
    let t = c.take.ensures.runs q.0 q.0.seen q.1 in
    let r = t.1 in
    let sizes = q.2.3 (λ x. length x.now) (λ x y f k. search rules) ∙ ap (map (λ x. length x.now)) (sym r.2.0.1) in
    let sum_is = s.3 ∙ ap sum sizes in
    let within = run_within _ r.0 _ r.1 _ c.chunk_by.ensures.rest in
    record {
      count = sum_is ∙ run_keeps _ r.0 _ r.1 _ c.chunk_by.ensures.rest (answers_always _ _ _ (λ f a x k h. search rules)) c.args.wanted (omega (arith, r.2.0.0, t.0)) (λ l. r.2.1 (q.2.0 ∙ s.2) (omega (arith, r.2.0.0)));
      within = omega (arith, sum_is, within);
    }
