-- What holds of every run. Assumes nothing.
use Rattle.std.proofs.Common.{◌≡◌, ℕ, ◌+◌, ◌-◌, List, [], ◌∷◌, ◌++◌, length, replicate, Some, None, sym, refl, ap, ◌∙◌, subst, inl, inr, arith}
use Rattle.std.proofs.lemmas.List.{append-nil, length_push, same_from_push}
use Rattle.refusal.specs.Rows.{RowData}
use Rattle.tariff.specs.Totals.{Meaning}
use Rattle.catalogue.specs.Books.{Book, Apart, SoundBook}
use Rattle.catalogue.specs.Calls.{Change, Judged, DayFits}
use Rattle.catalogue.specs.Calls as book
use Rattle.catalogue.specs.Laws.{BookLaws}
use Rattle.catalogue.proofs.Places.{same_some}
use Rattle.ordered.specs.Members.{Among}
use Rattle.ordered.proofs.Members.{append_among}
use Rattle.stages.specs.declared.line.Line.{Line}
use Rattle.stages.specs.Lines.{blank}
use Rattle.listing.specs.Enquiries.{EnquiryData}
use Rattle.listing.specs.Answers.{ListShown}
use Rattle.listing.proofs.Bridge.{list_fixed}
use Rattle.listing.proofs.Causes.{one_row}
use Rattle.journal.specs.Calls.{CallData, change, list, AnswerData, done, shown, refused}
use Rattle.journal.specs.Runs.{Answered, changed, listed, declined, list_declined, Run, opened, then}
use Rattle.journal.specs.Laws.{DaysFit, granted_calls, granted_answers, RunLaws}

module _ {T : Type 0} (m : Meaning T) (laws : BookLaws T) where
  apart_step : {b n : Book T} {c : CallData T} {a : AnswerData T} → Answered m b c a n → Apart b → Apart n
  apart_step {b} {n} (changed {c = c} free step) h = laws.apart_kept b n c None (book.done free step) h
  apart_step (listed free shows) h = h
  apart_step (declined why) h = h
  apart_step (list_declined why) h = h

  sound_step : {b n : Book T} {c : CallData T} {a : AnswerData T} → Answered m b c a n → DaysFit c → SoundBook b → SoundBook n
  sound_step {b} {n} (changed {c = c} free step) d h = laws.sound_kept b n c None (book.done free step) d h
  sound_step (listed free shows) d h = h
  sound_step (declined why) d h = h
  sound_step (list_declined why) d h = h

  long_step : {b n : Book T} {c : CallData T} {a : AnswerData T} → Answered m b c a n → length n ≡ length b
  long_step {b} {n} (changed {c = c} free step) = laws.long_kept b n c None (book.done free step)
  long_step (listed free shows) = refl
  long_step (declined why) = refl
  long_step (list_declined why) = refl

  module _ (places : ℕ) where
    run_apart : {cs : List (CallData T)} {answers : List (AnswerData T)} {b : Book T} → Run m places cs answers b → Apart b
    run_apart opened = laws.opened_apart places
    run_apart (then r a) = apart_step a (run_apart r)

    run_sound : {cs : List (CallData T)} {answers : List (AnswerData T)} {b : Book T} → Run m places cs answers b → ((c : CallData T) → Among c cs → DaysFit c) → SoundBook b
    run_sound opened f = laws.opened_sound places
    run_sound (then {cs = cs} {c = c} r a) f =
        sound_step a (f c (append_among c cs (c ∷ []) (inr (inl refl)))) (run_sound r (λ d i. f d (append_among d cs (c ∷ []) (inl i))))

    run_long : {cs : List (CallData T)} {answers : List (AnswerData T)} {b : Book T} → Run m places cs answers b → length b ≡ places
    run_long opened = laws.opened_long places
    run_long (then r a) = long_step a ∙ run_long r

    run_paired : {cs : List (CallData T)} {answers : List (AnswerData T)} {b : Book T} → Run m places cs answers b → length cs ≡ length answers
    run_paired opened = refl
    run_paired (then {cs = cs} {as' = answers} {c = c} {a = a} r h) = length_push cs c ∙ (ap (λ n. n + 1) (run_paired r) ∙ sym (length_push answers a))

    -- the calls and answers that are kept, with one more behind them
    calls_kept : (cs : List (CallData T)) (answers : List (AnswerData T)) (c : CallData T) (a : AnswerData T) → length cs ≡ length answers
        → granted_calls (cs ++ c ∷ []) (answers ++ a ∷ []) ≡ granted_calls cs answers ++ granted_calls (c ∷ []) (a ∷ [])
    calls_kept [] [] c a e = refl
    calls_kept [] (x ∷ answers) c a e = absurd (omega arith)
    calls_kept (d ∷ cs) [] c a e = absurd (omega arith)
    calls_kept (d ∷ cs) (done ∷ answers) c a e = ap (λ xs. d ∷ xs) (calls_kept cs answers c a (omega arith))
    calls_kept (d ∷ cs) (shown n k ys ∷ answers) c a e = ap (λ xs. d ∷ xs) (calls_kept cs answers c a (omega arith))
    calls_kept (d ∷ cs) (refused row x ∷ answers) c a e = calls_kept cs answers c a (omega arith)

    answers_kept : (answers : List (AnswerData T)) (a : AnswerData T) → granted_answers (answers ++ a ∷ []) ≡ granted_answers answers ++ granted_answers (a ∷ [])
    answers_kept [] a = refl
    answers_kept (done ∷ answers) a = ap (λ xs. done ∷ xs) (answers_kept answers a)
    answers_kept (shown n k ys ∷ answers) a = ap (λ xs. shown n k ys ∷ xs) (answers_kept answers a)
    answers_kept (refused row x ∷ answers) a = answers_kept answers a

    struck_step : (cs : List (CallData T)) (answers : List (AnswerData T)) {b n : Book T} {c : CallData T} {a : AnswerData T}
        → Run m places (granted_calls cs answers) (granted_answers answers) b → Answered m b c a n
        → Run m places (granted_calls cs answers ++ granted_calls (c ∷ []) (a ∷ [])) (granted_answers answers ++ granted_answers (a ∷ [])) n
    struck_step cs answers r (changed free step) = then r (changed free step)
    struck_step cs answers r (listed free shows) = then r (listed free shows)
    struck_step cs answers {b} r (declined why) =
        subst (λ xs. Run m places xs (granted_answers answers ++ []) b) (sym (append-nil (granted_calls cs answers)))
        (subst (λ ys. Run m places (granted_calls cs answers) ys b) (sym (append-nil (granted_answers answers))) r)
    struck_step cs answers {b} r (list_declined why) =
        subst (λ xs. Run m places xs (granted_answers answers ++ []) b) (sym (append-nil (granted_calls cs answers)))
        (subst (λ ys. Run m places (granted_calls cs answers) ys b) (sym (append-nil (granted_answers answers))) r)

    run_struck : {cs : List (CallData T)} {answers : List (AnswerData T)} {b : Book T} → Run m places cs answers b → Run m places (granted_calls cs answers) (granted_answers answers) b
    run_struck opened = opened
    run_struck (then {cs = cs} {as' = answers} {n = n} {c = c} {a = a} r h) =
        subst (λ xs. Run m places xs (granted_answers (answers ++ a ∷ [])) n) (sym (calls_kept cs answers c a (run_paired r)))
        (subst (λ ys. Run m places (granted_calls cs answers ++ granted_calls (c ∷ []) (a ∷ [])) ys n) (sym (answers_kept answers a))
        (struck_step cs answers (run_struck r) h))

  stays : (b n : Book T) (c d : CallData T) (row : RowData) → Answered m b c (refused row d) n → (n ≡ b) × (d ≡ c)
  stays b n c d row (declined why) = (refl, refl)
  stays b n c d row (list_declined why) = (refl, refl)

  -- two lists shown into the same memory are one answer
  shown_same : (b : Book T) (q : EnquiryData) (xs ys zs : List Line) (n k i j : ℕ) → ListShown m b q xs n k ys → ListShown m b q xs i j zs → ◌≡◌ {A = AnswerData T} (shown n k ys) (shown i j zs)
  shown_same b q xs ys zs n k i j s t =
      let f = list_fixed m q b s.lines t.lines k j s.shows t.shows in
      let lines : n ≡ i = s.counts ∙ (ap length f.0 ∙ sym t.counts) in
      let memory : ys ≡ zs = s.written.memory ∙ (ap (λ ls. ls ++ replicate (length xs - length ls) blank) f.0 ∙ sym t.written.memory) in
      ap (λ x. shown x k ys) lines ∙ (ap (λ x. shown i x ys) f.1 ∙ ap (λ x. shown i j x) memory)

  -- two answers to one call on one book are the same, and leave the same book
  one_answer : {b n k : Book T} {c : CallData T} {a e : AnswerData T} → Answered m b c a n → Answered m b c e k → (a ≡ e) × (n ≡ k)
  one_answer {b} {n} {k} (changed {c = c} free step) (changed right same) = (refl, (laws.one_answer b c n k None None (book.done free step) (book.done right same)).1)
  one_answer (changed free step) (declined {row = row} why) = absurd (free row why.holds)
  one_answer (declined {row = row} why) (changed free step) = absurd (free row why.holds)
  one_answer {b} (declined {c = c} {row = row} why) (declined {row = other} because) =
      (ap (λ r. refused r (change c)) (same_some (Some row) row other refl (laws.one_answer b c b b (Some row) (Some other) (book.declined why) (book.declined because)).0), refl)
  one_answer {b} (listed {q = q} {xs = xs} {ys = ys} {lines = n} {costed = k} free s) (listed {ys = zs} {lines = i} {costed = j} right t) = (shown_same b q xs ys zs n k i j s t, refl)
  one_answer (listed free s) (list_declined {row = row} why) = absurd (free row why.holds)
  one_answer (list_declined {row = row} why) (listed free s) = absurd (free row why.holds)
  one_answer {b} (list_declined {q = q} {xs = xs} {row = row} why) (list_declined {row = other} because) =
      (ap (λ r. refused r (list q xs)) (one_row (length b) (length xs) q row other why because), refl)

  -- two runs of the same calls
  one_run : (places : ℕ) {cs ds : List (CallData T)} {answers others : List (AnswerData T)} {b n : Book T} → Run m places cs answers b → Run m places ds others n → cs ≡ ds → (answers ≡ others) × (b ≡ n)
  one_run places opened opened e = (refl, refl)
  one_run places opened (then {cs = ds} {c = d} r h) e = absurd (omega (arith, ap length e, length_push ds d))
  one_run places (then {cs = cs} {c = c} r h) opened e = absurd (omega (arith, ap length e, length_push cs c))
  one_run places (then {cs = cs} {as' = answers} {b = b} {c = c} {a = a} r h) (then {cs = ds} {as' = others} {n = n} {c = d} {a = o} s i) e =
      let p = same_from_push cs ds c d e in
      let so = one_run places r s p.0 in
      let w = one_answer h (subst (λ x. Answered m b x o n) (sym p.1) (subst (λ x. Answered m x d o n) (sym so.1) i)) in
      (ap (λ xs. xs ++ a ∷ []) so.0 ∙ ap (λ x. others ++ x ∷ []) w.0, w.1)

  pub run_laws : RunLaws m
  run_laws = record {
    apart = λ places cs answers b r. run_apart places r;
    sound = λ places cs answers b f r. run_sound places r f;
    long = λ places cs answers b r. run_long places r;
    paired = λ places cs answers b r. run_paired places r;
    declined_stays = stays;
    struck = λ places cs answers b r. run_struck places r;
    fixed = λ places cs answers others b n r s. one_run places r s refl;
  }
