-- The table of worked examples of drafts. Assumes nothing.
use Rattle.std.specs.Prelude.{◌≡◌, true, [], ◌∷◌, is_ok, Ok, Err}
use Rattle.draft.specs.declared.refusing.Refusal.TheVariants.{BranchPriced, BranchShared, NoPrice}
use Rattle.draft.specs.Rules.{enter_price, enter_group}
use Rattle.draft.specs.Saving.{save_plan, save_addon}
use Rattle.examples.specs.Offers.{plan_table, option_table}
use Rattle.draft_examples.specs.Drafted.{next, fork, plan_draft, option_draft}

pub record DraftedExamples : Type 0 where
  -- nodes 1 and 2 under 0: a price at 0 and then one at 1 is refused and names 0; so is a group at 0 and 1;
  -- two groups at 0, of two orders, are granted
  pub price_below : next (enter_price fork 0 5) (λ d. enter_price d 1 7) ≡ Err (BranchPriced 0)
  pub group_above : enter_group fork 3 10 (0 ∷ 1 ∷ []) ≡ Err (BranchShared 0)
  pub node_twice : is_ok (next (enter_group fork 3 10 (0 ∷ [])) (λ d. enter_group d 4 10 (0 ∷ []))) ≡ true
  -- the plan and the option of the pile, saved from drafts
  pub plan_drafted : next plan_draft (λ d. save_plan d 1000) ≡ Ok plan_table
  pub option_drafted : next option_draft (λ d. save_addon d 200) ≡ Ok option_table
  -- as a plan the option is refused: node 2 is under a group and has no price
  pub no_plan : next option_draft (λ d. save_plan d 200) ≡ Err (NoPrice 2)
