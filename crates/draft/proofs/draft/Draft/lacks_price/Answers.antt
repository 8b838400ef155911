use Rattle.std.proofs.Common.{◌≡◌, ℕ, false, take, get_or, rules}
use Rattle.std.specs.List.{list_any}
use Rattle.usage.specs.declared.group.Group.{Group}
use Rattle.usage.specs.Held.{held}
use Rattle.usage.proofs.GroupLaws.{any_data}
use Rattle.draft.specs.Saving.{in_group}
use Rattle.draft.proofs.draft.Draft.lacks_price.Goals as goal

pub returns : goal.returns
returns c =
    let gs = c.args.self.now.groups in
    let among : (s : ℕ) → list_any (λ (g : Group). get_or g.members.flags s false) (take gs.count gs.entries) ≡ in_group s (held gs) =
    λ s. any_data (λ g. get_or g.members s false) (take gs.count gs.entries) in
    search (rules, among)
