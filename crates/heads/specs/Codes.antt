-- What the kind with a code is, where no kind may have it. Assumes nothing.
use Rattle.std.specs.Prelude.{◌≡◌, ◌≢◌, ℕ, Result, MatchResult}
use Rattle.heads.specs.declared.kinds.UnknownCode.{UnknownCode}

-- the kind with this code, or an error that holds the code, where no kind has it
abbrev pub Decodes : {Kind : Type 0} → (Kind → ℕ) → ℕ → Result Kind UnknownCode → Type 0
Decodes {Kind} number code r = MatchResult r (λ kind. number kind ≡ code) (λ e. (e.0 ≡ code) × ((kind : Kind) → number kind ≢ code))
