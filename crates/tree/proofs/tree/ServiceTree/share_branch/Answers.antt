use Rattle.std.proofs.Common.{◌≡◌, ℕ, Bool, false, ◌||◌, List, sym, ◌∙◌}
use Rattle.std.proofs.lemmas.Bool.{or_left}
use Rattle.std.proofs.lemmas.Bool.Decides.{Decides-at}
use Rattle.tree.specs.Trees.{is_under, share_branch}
use Rattle.tree.specs.Held.{parents_of}
use Rattle.tree.proofs.Sharing.{decides_share}
use Rattle.tree.proofs.Held.{keeps_rule}
use Rattle.tree.proofs.tree.ServiceTree.share_branch.Goals as goal

by-either : (ps : List ℕ) (a b : ℕ) (r : Bool) → r ≡ (is_under ps a b || is_under ps b a) → r ≡ share_branch ps a b
unfolding share_branch
by-either ps a b r e = e

pub returns-then-is_under : goal.returns-then-is_under
returns-then-is_under c =
    let t = c.args.self.now in
    let ps = parents_of t in
    let a = c.args.a in
    let b = c.args.b in
    let r = c.is_under.result in
    let e : r ≡ share_branch ps a b =
    by-either ps a b r (c.if-is_under.true ∙ sym (or_left (is_under ps a b) (is_under ps b a) (sym c.is_under.ensures.is ∙ c.if-is_under.true))) in
    record { is = e; means = Decides-at r (share_branch ps a b) e (decides_share ps (keeps_rule t) a b) }

pub returns-else-is_under : goal.returns-else-is_under
returns-else-is_under c =
    let t = c.args.self.now in
    let ps = parents_of t in
    let a = c.args.a in
    let b = c.args.b in
    let r = c.is_under-else-is_under.result in
    let f : is_under ps a b ≡ false = sym c.is_under.ensures.is ∙ c.if-is_under.false in
    let e : r ≡ share_branch ps a b = by-either ps a b r (rw f c.is_under-else-is_under.ensures.is) in
    record { is = e; means = Decides-at r (share_branch ps a b) e (decides_share ps (keeps_rule t) a b) }
