-- The worked examples of namesakes. Assumes nothing.
use Rattle.std.proofs.Common.{◌≡◌, ℕ, zero, suc, Some, None, refl, ap, arith}
use Rattle.refusal.specs.Rows.{RowData}
use Rattle.heads.specs.Rules.{HeadData}
use Rattle.catalogue.specs.Books.{empty, in_work, published, Rival, Lowest}
use Rattle.catalogue.specs.Table.{Higher}
use Rattle.catalogue.specs.Calls.{publish, Row, no_such_place, publish_empty, publish_published, publish_shares_day, Declined, NoCause}
use Rattle.catalogue.specs.Refusals.{shares_day}
use Rattle.catalogue.proofs.Places.{none_some}
use Rattle.examples.specs.Lists.{days, namesakes}

-- a place in work is neither empty nor published
not_empty : (h : HeadData) (t : ℕ) → Some (in_work h t) ≡ Some empty → ⊥
not_empty h t e = let z : ◌≡◌ {A = ℕ} 0 1 = cc in omega arith

not_published : (h k : HeadData) (t u : ℕ) → Some (in_work h t) ≡ Some (published k u) → ⊥
not_published h k t u e = let z : ◌≡◌ {A = ℕ} 0 1 = cc in omega arith

same_work : (h k : HeadData) (t u : ℕ) → Some (in_work h t) ≡ Some (in_work k u) → h ≡ k
same_work h k t u e = cc

same_published : (h k : HeadData) (t u : ℕ) → Some (published h t) ≡ Some (published k u) → h ≡ k
same_published h k t u e = cc

pub shared_day : Declined (namesakes 20 30) (publish 1) (shares_day 0)
shared_day = record { holds = publish_shares_day refl lowest; topmost = top }
  where
    lowest : Lowest (Rival (namesakes 20 30) 1 (days 20 30)) 0
    lowest = record {
      holds = record {
        elsewhere = λ e. omega arith;
        rival = days 10 20;
        tariff = 0;
        there = refl;
        namesakes = (refl, refl);
        shares = record { day = 20; on_one = (omega arith, omega arith); on_other = (omega arith, omega arith) };
      };
      none_lower = λ i h r. omega arith;
    }

    top : (other : RowData) → Row (namesakes 20 30) (publish 1) other → Higher other.number 210 → ⊥
    top _ (no_such_place e) r = none_some _ _ e refl
    top _ (publish_empty e) r = not_empty (days 20 30) 0 e
    top _ (publish_published e) r = not_published (days 20 30) _ 0 _ e
    top _ (publish_shares_day at low) r = omega arith

pub no_shared_day : NoCause (namesakes 21 30) (publish 1)
no_shared_day _ (no_such_place e) = none_some _ _ e refl
no_shared_day _ (publish_empty e) = not_empty (days 21 30) 0 e
no_shared_day _ (publish_published e) = not_published (days 21 30) _ 0 _ e
no_shared_day _ (publish_shares_day {q = q} {h = h} at low) = rival q low.holds
  where
    rival : (q : ℕ) → Rival (namesakes 21 30) 1 h q → ⊥
    rival zero r =
        let mine : days 21 30 ≡ h = same_work (days 21 30) h 0 _ at in
        let theirs : days 10 20 ≡ r.rival = same_published (days 10 20) r.rival 0 r.tariff r.there in
        omega (arith, r.shares.on_one.0, r.shares.on_other.1, ap (λ (k : HeadData). k.first) mine, ap (λ (k : HeadData). k.last) theirs)
    rival (suc zero) r = r.elsewhere refl
    rival (suc (suc p)) r = none_some None _ refl r.there
