use Rattle.std.proofs.Common.{◌≡◌, ◌-◌, ◌≤◌, [], length, take, drop, replicate, sym, subst, ap, ◌∙◌, length-drop, arith, rules}
use Rattle.std.proofs.Math.ListN.{drop_of_length-le}
use Rattle.std.proofs.lemmas.List.{length-take-le}
use borrow.Rule.Slice.PartMut.{post_of}
use Rattle.stages.specs.Lines.{blank}
use Rattle.stages.specs.Cutting.{keeps, Falls}
use Rattle.stages.specs.Stages.{held_lines}
use Rattle.stages.proofs.Falling.{keeps_falls}
use Rattle.stages.proofs.gathering.Gathering.cut.Goals as goal

pub returns : goal.returns
returns c =
    let self = c.args.self in
    let mem = c.args.memory.now in
    let k = c.leading-shown.result in
    let shown : k ≡ keeps self.wanted (held_lines self mem) = search rules in
    let within : k ≤ length mem = search rules in
    let n = length mem - k in
    let long : length (take n (drop k mem)) ≡ n = omega (arith, length-take-le n (drop k mem), length-drop k mem) in
    let filled : c.fill.new.self ≡ replicate n blank = c.fill.ensures.after (λ y e. e) ∙ ap (λ m. replicate m blank) long in
    let none : post_of k n mem ≡ [] = drop_of_length-le (drop k mem) (omega (arith, length-drop k mem)) in
    record {
      room = omega arith;
      shown_is = shown;
      falls = subst (Falls self.wanted (held_lines self mem)) (sym shown) (keeps_falls self.wanted (held_lines self mem));
      cleared = simp (filled, none) (search rules);
    }
