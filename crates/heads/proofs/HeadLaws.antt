-- What every head keeps to, and when two heads share a day. Assumes nothing.
use Rattle.std.proofs.Common.{◌≡◌, ◌≢◌, ℕ, Result, Ok, Err, None, ◌<◌, ◌≤◌, ◌⊎◌, length, get_or, refl, inl, inr, ⊎_elim, arith}
use Rattle.std.proofs.lemmas.Bool.{cases_lt, cases_eq}
use Rattle.std.specs.Result.{result_ok}
use Rattle.heads.specs.Kinds.{network_code, contract_code}
use Rattle.heads.specs.Codes.{Decodes}
use Rattle.heads.specs.declared.kinds.UnknownCode.{UnknownCode}
use Rattle.heads.specs.Rules.{HeadData, SoundHead, ShareADay}
use Rattle.heads.specs.Heads.{head_data}
use Rattle.heads.specs.declared.head.Head.{Head}
use Rattle.heads.specs.declared.kinds.Network.{Network}
use Rattle.heads.specs.declared.kinds.Network.TheVariants.{Fixed, Mobile}
use Rattle.heads.specs.declared.kinds.Contract.{Contract}
use Rattle.heads.specs.declared.kinds.Contract.TheVariants.{Subscription, Card}
use Rattle.heads.proofs.TextLaws.{name_text}

pub network_known : (n : Network) → (network_code n ≡ 1) ⊎ (network_code n ≡ 2)
network_known Fixed = inl refl
network_known Mobile = inr refl

pub contract_known : (c : Contract) → (contract_code c ≡ 1) ⊎ (contract_code c ≡ 2)
contract_known Subscription = inl refl
contract_known Card = inr refl

-- where `ok` keeps no kind of a code, no kind has it
pub undecoded : {Kind : Type 0} (number : Kind → ℕ) (code : ℕ) (r : Result Kind UnknownCode) → Decodes number code r → None ≡ result_ok r → (kind : Kind) → number kind ≢ code
undecoded number code (Ok k) d e = cc
undecoded number code (Err u) d e = d.1

-- every head keeps the rules
pub head_sound : (h : Head) → SoundHead (head_data h)
head_sound h = record {
  supplier_known = h.known;
  name_fits = name_text h.name;
  network_known = network_known h.network;
  contract_known = contract_known h.contract;
  term_bound = h.bound;
  first_bound = h.begins;
  last_bound = h.ends;
  days_ordered = h.ordered;
  card_mobile = h.mobile;
  card_termless = h.termless;
}

-- spans whose ends cross share a day
pub crossing : (h k : HeadData) → h.first ≤ h.last → k.first ≤ k.last → h.first ≤ k.last → k.first ≤ h.last → ShareADay h k
crossing h k a b c d = ⊎_elim
    (λ (lt : h.first < k.first). record { day = k.first; on_one = (omega arith, d); on_other = (omega arith, b) })
    (λ (ge : k.first ≤ h.first). record { day = h.first; on_one = (omega arith, a); on_other = (ge, c) })
    (cases_lt h.first k.first)

pub shared_one : (h k : HeadData) → ShareADay h k → h.first ≤ k.last
shared_one h k s = omega (arith, s.on_one, s.on_other)

pub shared_other : (h k : HeadData) → ShareADay h k → k.first ≤ h.last
shared_other h k s = omega (arith, s.on_one, s.on_other)

-- a head of which it is not so that it breaks a rule keeps them all
at_most : (n m : ℕ) → (m < n → ⊥) → n ≤ m
at_most n m f = ⊎_elim (λ (lt : m < n). absurd (f lt)) (λ (le : n ≤ m). le) (cases_lt m n)

one_or_two : (n : ℕ) → (((n ≡ 1) ⊎ (n ≡ 2) → ⊥) → ⊥) → (n ≡ 1) ⊎ (n ≡ 2)
one_or_two n f = ⊎_elim (λ (e : n ≡ 1). inl e)
    (λ (ne : n ≡ 1 → ⊥). ⊎_elim (λ (e : n ≡ 2). inr e) (λ (no2 : n ≡ 2 → ⊥). absurd (f (⊎_elim ne no2))) (cases_eq n 2)) (cases_eq n 1)

equal : (n m : ℕ) → ((n ≡ m → ⊥) → ⊥) → n ≡ m
equal n m f = ⊎_elim (λ (e : n ≡ m). e) (λ (ne : n ≡ m → ⊥). absurd (f ne)) (cases_eq n m)

pub sound_stable : (h : HeadData) → ((SoundHead h → ⊥) → ⊥) → SoundHead h
sound_stable h nn = record {
  supplier_known = at_most h.supplier 65535 (λ bad. nn (λ s. omega (arith, s.supplier_known)));
  name_fits = record {
    some = at_most 1 (length h.name) (λ bad. nn (λ s. omega (arith, s.name_fits.some)));
    short = at_most (length h.name) 24 (λ bad. nn (λ s. omega (arith, s.name_fits.short)));
    low = λ k lt. at_most 32 (get_or h.name k 0) (λ bad. nn (λ s. omega (arith, s.name_fits.low k lt)));
    high = λ k lt. at_most (get_or h.name k 0) 126 (λ bad. nn (λ s. omega (arith, s.name_fits.high k lt)));
  };
  network_known = one_or_two h.network (λ bad. nn (λ s. bad s.network_known));
  contract_known = one_or_two h.contract (λ bad. nn (λ s. bad s.contract_known));
  term_bound = at_most h.term 60 (λ bad. nn (λ s. omega (arith, s.term_bound)));
  first_bound = at_most h.first 65534 (λ bad. nn (λ s. omega (arith, s.first_bound)));
  last_bound = at_most h.last 65535 (λ bad. nn (λ s. omega (arith, s.last_bound)));
  days_ordered = at_most h.first h.last (λ bad. nn (λ s. omega (arith, s.days_ordered)));
  card_mobile = λ card. equal h.network 2 (λ bad. nn (λ s. bad (s.card_mobile card)));
  card_termless = λ card. equal h.term 0 (λ bad. nn (λ s. bad (s.card_termless card)));
}
