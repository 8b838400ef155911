-- Where a replay stands between two calls. Assumes nothing.
use Rattle.std.proofs.Common.{◌≡◌, ℕ, ◌+◌, ◌≤◌, List, [], ◌∷◌, ◌++◌, map, length, vec_items, vec_len, vec_capacity, Vec, sym, refl, ap, ◌∙◌, subst, arith}
use Rattle.std.specs.declared.alloc.Global.{Global}
use Rattle.std.proofs.lemmas.List.{append-nil, append_assoc, nil_from_length, map-append}
use Rattle.tariff.specs.Totals.{Meaning}
use Rattle.catalogue.specs.Books.{Book, all_empty}
use Rattle.journal.specs.declared.call.Call.{Call}
use Rattle.journal.specs.Calls.{Answer, call_data, answer_data}
use Rattle.journal.specs.Runs.{Answered, Run, opened, then}

-- the calls made so far are a run that leads to the book held, those made and those to come are all, and there is room for the rest
pub record SoFar {T : Type 0} (m : Meaning T) (places : ℕ) (made rest all : List (Call T)) (before after : Vec (Answer T) Global) (b : Book T) : Type 0 where
  pub said : List (Answer T)
  pub run : Run m places (map call_data made) (map answer_data said) b
  pub answers_are : vec_items after ≡ vec_items before ++ said
  pub room_kept : vec_capacity after ≡ vec_capacity before
  pub calls_are : made ++ rest ≡ all
  pub room : vec_len after + length rest ≤ vec_capacity after

module _ {T : Type 0} (m : Meaning T) (places : ℕ) where
  -- before the first call
  pub none_made : (all : List (Call T)) (given : Vec (Answer T) Global) (b : Book T) → Run m places [] [] b → vec_len given + length all ≤ vec_capacity given → SoFar m places [] all all given given b
  none_made all given b r room = record { said = []; run = r; answers_are = sym (append-nil (vec_items given)); room_kept = refl; calls_are = refl; room = room }

  -- one call more
  pub one_more : (made rest left all : List (Call T)) (before after next : Vec (Answer T) Global) (b n : Book T) (c : Call T) (a : Answer T)
      → SoFar m places made rest all before after b → rest ≡ c ∷ left → Answered m b (call_data c) (answer_data a) n
      → vec_items next ≡ vec_items after ++ a ∷ [] → vec_len next ≡ vec_len after + 1 → vec_capacity next ≡ vec_capacity after
      → SoFar m places (made ++ c ∷ []) left all before next n
  one_more made rest left all before after next b n c a s e ans items len cap' =
      record {
        said = s.said ++ a ∷ [];
        run = subst (λ cs. Run m places cs (map answer_data (s.said ++ a ∷ [])) n) (sym (map-append call_data made (c ∷ [])))
            (subst (λ xs. Run m places (map call_data made ++ call_data c ∷ []) xs n) (sym (map-append answer_data s.said (a ∷ []))) (then s.run ans));
        answers_are = items ∙ (ap (λ xs. xs ++ a ∷ []) s.answers_are ∙ append_assoc (vec_items before) s.said (a ∷ []));
        room_kept = cap' ∙ s.room_kept;
        calls_are = append_assoc made (c ∷ []) left ∙ (ap (λ l. made ++ l) (sym e) ∙ s.calls_are);
        room = omega (arith, s.room, ap length e);
      }

  -- no call left
  pub all_made : (made rest all : List (Call T)) (before after : Vec (Answer T) Global) (b : Book T) → SoFar m places made rest all before after b → length rest ≡ 0 → made ≡ all
  all_made made rest all before after b s z = sym (append-nil made) ∙ (ap (λ l. made ++ l) (sym (nil_from_length rest z)) ∙ s.calls_are)

  -- no call made yet, on a book that has just been opened
  pub none_opened : (b : Book T) (n : ℕ) → length (all_empty {T = T} n) ≡ n → b ≡ all_empty n → places ≡ length b → Run m places [] [] b
  none_opened b n long e p =
      subst (λ k. Run m k [] [] b) (sym (p ∙ (ap length e ∙ long))) (subst (λ x. Run m n [] [] x) (sym e) opened)
