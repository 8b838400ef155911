-- What a replay answers. Assumes nothing.
use Rattle.std.specs.Prelude.{◌≡◌, ◌+◌, ◌≤◌, List, ◌++◌, map, vec_items, vec_len, vec_capacity, Result, MatchResult}
use Rattle.tariff.specs.Totals.{Meaning}
use Rattle.refusal.specs.Rows.{bare}
use Rattle.catalogue.specs.Books.{Openable, Apart, SoundBook}
use Rattle.catalogue.specs.Refusals.{row_of}
use Rattle.catalogue.specs.Held.{held}
use Rattle.journal.specs.declared.run.Given.{Given}
use Rattle.journal.specs.declared.run.Replayed.{Replayed}
use Rattle.journal.specs.declared.run.Stopped.{Stopped}
use Rattle.journal.specs.declared.run.Stopped.TheVariants.{NoRoom, NotOpened}
use Rattle.journal.specs.Calls.{Answer, call_data, answer_data}
use Rattle.journal.specs.Runs.{Run}

-- there is room for an answer to each call, behind what the memory for the answers holds
abbrev pub HasRoom : {T : Type 0} → Given T → Type 0
HasRoom g = vec_len g.answers + vec_len g.calls ≤ vec_capacity g.answers

-- the two memories can be opened
abbrev pub Opens : {T : Type 0} → Given T → Type 0
Opens g = Openable (vec_len g.slots) (vec_len g.tariffs)

-- all calls are made: the answers are those of a run of the calls, which ends in the book that the catalogue holds
pub record Ran {T : Type 0} (m : Meaning T) (g : Given T) (p : Replayed T) : Type 0 where
  pub said : List (Answer T)
  pub run : Run m (vec_len g.slots) (map call_data (vec_items g.calls)) (map answer_data said) (held p.catalogue)
  -- the answers stand behind what the memory for them held, which has kept its room
  pub answers_are : vec_items p.answers ≡ vec_items g.answers ++ said
  pub room_kept : vec_capacity p.answers ≡ vec_capacity g.answers
  -- the book at the end: two published namesakes never share a day, and every head entered keeps the rules
  pub apart : Apart (held p.catalogue)
  pub sound : SoundBook (held p.catalogue)

-- no call is made, and everything comes back; what cannot be opened is declined with 8
abbrev pub Stops : {T : Type 0} → Given T → Stopped T → Type 0
Stops g (NoRoom back) = (HasRoom g → ⊥) × (back ≡ g)
Stops g (NotOpened e back) = HasRoom g × (Opens g → ⊥) × (row_of e ≡ bare 8) × (back ≡ g)

-- a replay makes all calls exactly where there is room for their answers and the memories can be opened
abbrev pub Replays : {T : Type 0} → Meaning T → Given T → Result (Replayed T) (Stopped T) → Type 0
Replays m g r = MatchResult r (λ p. HasRoom g × Opens g × Ran m g p) (λ e. Stops g e)
