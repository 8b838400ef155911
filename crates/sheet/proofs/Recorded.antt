-- A sheet that is read without a fault is the encoding of its fields. Assumes nothing.
use Rattle.std.proofs.Common.{◌≡◌, ℕ, zero, suc, ◌≤◌, ◌⊎◌, List, [], ◌∷◌, ◌++◌, length, IfOk, Ok, Err, Result, refl, ap, ◌∙◌, inl, inr, arith}
use Rattle.std.specs.List.{flat_map, AllByRecursion}
use Rattle.std.proofs.lemmas.List.{append-nil, drop_all}
use Rattle.std.proofs.lemmas.Bool.{cases_lt}
use Rattle.std.proofs.lemmas.Bool.Decides.{nat_tests}
use Rattle.heads.specs.Rules.{head_of, SoundHead}
use Rattle.cursor.specs.Parts.{cut}
use Rattle.cursor.specs.Readings.{Answers, Reading, repeated, field, ranged, run, text, ended}
use Rattle.cursor.specs.Encodings.{Bytes, two, four, Text, counted}
use Rattle.cursor.proofs.Whenever.{Whenever, whenever_weaker, whenever_then, whenever_as, whenever_at, whenever_both}
use Rattle.cursor.proofs.Written.{Stands, stands_behind, TextRead, one_written, two_written, two_bound, four_written, ranged_whenever, run_written, text_written, ended_written}
use Rattle.prices.specs.Tables.{TableData}
use Rattle.draft.specs.declared.refusing.Refusal.{Refusal}
use Rattle.draft.specs.Drafts.{DraftData}
use Rattle.draft.specs.Saving.{save_plan}
use Rattle.sheet.specs.declared.fault.Fault.{Fault}
use Rattle.sheet.specs.declared.fault.Fault.TheVariants.{Layout}
use Rattle.sheet.specs.Layout.{HeadValues, Contents, lowest_network, longest_term, front, answered, priced, price_entry, grouped, group_entry, entries, plan, whole}
use Rattle.sheet.specs.Records.{PriceFields, GroupFields, Fields, FewNodes, head_bytes, price_bytes, group_bytes, section, encoding, go_on, enter_all, enter_prices, enter_groups, Written}

-- the values of a head as its reading tests them
record InRange (h : HeadValues) : Type 0 where
  contract : (1 ≤ h.contract) × (h.contract ≤ 2)
  network : (lowest_network h.contract ≤ h.network) × (h.network ≤ 2)
  supplier : h.supplier ≤ 65535
  sum : h.sum ≤ 1000000
  term : h.term ≤ longest_term h.contract
  first : h.first ≤ 65534
  ordered : h.first ≤ h.last
  last : h.last ≤ 65535

one_or_two : (n : ℕ) → 1 ≤ n → n ≤ 2 → (n ≡ 1) ⊎ (n ≡ 2)
one_or_two n a b = elim (cases_lt n 2) [ inl h ↦ inl (omega arith) | inr h ↦ inr (omega arith) ]

sound_head : (h : HeadValues) (name : List ℕ) → InRange h → Text 24 name → SoundHead (head_of h.supplier name h.network h.contract h.term h.first h.last)
sound_head h name r t =
    let low : 1 ≤ h.network = grind (arith, nat_tests, r.network.0) in
    record {
      supplier_known = r.supplier;
      name_fits = record { some = t.some; short = t.short; low = t.low; high = t.high };
      network_known = one_or_two h.network low r.network.1;
      contract_known = one_or_two h.contract r.contract.0 r.contract.1;
      term_bound = grind (arith, nat_tests, r.term);
      first_bound = r.first;
      last_bound = r.last;
      days_ordered = r.ordered;
      card_mobile = λ e. grind (arith, nat_tests, r.network.0, r.network.1);
      card_termless = λ e. grind (arith, nat_tests, r.term);
    }

module _ (xs : List ℕ) (fit : Bytes xs) where
  -- numbers within a range
  one_in : (low high at : ℕ) → Whenever (ranged 1 low high xs at) (λ v n. Stands (v ∷ []) xs at n × (low ≤ v) × (v ≤ high))
  one_in low high at = ranged_whenever 1 low high xs at (λ v n. Stands (v ∷ []) xs at n) (one_written xs at)

  two_in : (low high at : ℕ) → Whenever (ranged 2 low high xs at) (λ v n. Stands (two v) xs at n × (low ≤ v) × (v ≤ high))
  two_in low high at = ranged_whenever 2 low high xs at (λ v n. Stands (two v) xs at n) (two_written xs at fit)

  four_in : (low high at : ℕ) → Whenever (ranged 4 low high xs at) (λ v n. Stands (four v) xs at n × (low ≤ v) × (v ≤ high))
  four_in low high at = ranged_whenever 4 low high xs at (λ v n. Stands (four v) xs at n) (four_written xs at fit)

  front_written : (at : ℕ) → Whenever (front xs at) (λ h n. Stands (head_bytes h) xs at n × InRange h)
  front_written at =
      whenever_then _ _ (λ v n. Stands (v ∷ []) xs at n × (1 ≤ v) × (v ≤ 2)) _ (one_in 1 2 at) (λ contract a e1.
      whenever_then _ _ (λ v n. Stands (v ∷ []) xs a n × (lowest_network contract ≤ v) × (v ≤ 2)) _ (one_in (lowest_network contract) 2 a) (λ network b e2.
      whenever_then _ _ (λ v n. Stands (two v) xs b n × (v ≤ 65535)) _ (whenever_both (field 2 xs b) (λ v n. Stands (two v) xs b n) (λ v n. v ≤ 65535) (two_written xs b fit) (two_bound xs b fit)) (λ supplier c e3.
      whenever_then _ _ (λ v n. Stands (four v) xs c n × (0 ≤ v) × (v ≤ 1000000)) _ (four_in 0 1000000 c) (λ sum d e4.
      whenever_then _ _ (λ v n. Stands (v ∷ []) xs d n × (0 ≤ v) × (v ≤ longest_term contract)) _ (one_in 0 (longest_term contract) d) (λ term e e5.
      whenever_then _ _ (λ v n. Stands (two v) xs e n × (0 ≤ v) × (v ≤ 65534)) _ (two_in 0 65534 e) (λ first f e6.
      whenever_then _ _ (λ v n. Stands (two v) xs f n × (first ≤ v) × (v ≤ 65535)) _ (two_in first 65535 f) (λ last g e7. (
        stands_behind e1.0 (stands_behind e2.0 (stands_behind e3.0 (stands_behind e4.0 (stands_behind e5.0 (stands_behind e6.0 e7.0))))),
        record {
          contract = (e1.1, e1.2);
          network = (e2.1, e2.2);
          supplier = e3.1;
          sum = e4.2;
          term = e5.2;
          first = e6.2;
          ordered = e7.1;
          last = e7.2;
        },
      ))))))))

  -- a draft's answer that is no refusal
  answered_whenever : {D : Type 0} (byte : ℕ) (r : Result D Refusal) (at : ℕ) (P : D → ℕ → Type 0) → ((d : D) → r ≡ Ok d → P d at) → Whenever (answered byte r xs at) P
  answered_whenever byte (Ok d) at P h = h d refl
  answered_whenever byte (Err e) at P h = tt

  -- entries whose bytes are those of fields of which P holds, and which the draft takes
  module _ {V : Type 0} (bytes : V → List ℕ) (enter : V → DraftData → Result DraftData Refusal) (P : V → Type 0) (entry : DraftData → Reading Fault DraftData)
      (each : (d : DraftData) (at : ℕ) → Whenever (entry d xs at) (λ e n. (f : V) × Stands (bytes f) xs at n × (enter f d ≡ Ok e) × P f)) where
    entries_written : (n : ℕ) (d : DraftData) (at : ℕ) → Whenever (repeated n entry d xs at) (λ e m. (fs : List V) × (length fs ≡ n) × Stands (flat_map bytes fs) xs at m × (enter_all enter fs d ≡ Ok e) × AllByRecursion P fs)
    entries_written zero d at = ([], refl, record { is = refl }, refl, tt)
    entries_written (suc n) d at =
        whenever_then (entry d xs at) (λ e k. repeated n entry e xs k) (λ e m. (f : V) × Stands (bytes f) xs at m × (enter f d ≡ Ok e) × P f) _ (each d at) (λ e m p.
        whenever_weaker (repeated n entry e xs m) _ _ (entries_written n e m) (λ g k q.
        (p.0 ∷ q.0, ap suc q.1, stands_behind p.1 q.2, rw p.2 q.3, (p.3, q.4))))

    section_written : (most : ℕ) (d : DraftData) (at : ℕ) → Whenever (entries most entry d xs at) (λ e m. (fs : List V) × Stands (section bytes fs) xs at m × (enter_all enter fs d ≡ Ok e) × (length fs ≤ most) × AllByRecursion P fs)
    section_written most d at =
        whenever_then _ _ (λ v n. Stands (v ∷ []) xs at n × (0 ≤ v) × (v ≤ most)) _ (whenever_as Layout (ranged 1 0 most xs at) _ (one_in 0 most at)) (λ n m e1.
        whenever_weaker (repeated n entry d xs m) _ _ (entries_written n d m) (λ e k q.
        let s : Stands ((n ∷ []) ++ flat_map bytes q.0) xs at k = stands_behind e1.0 q.2 in
        let l : length q.0 ≤ most = omega arith in
        (q.0, rw q.1 s, q.3, l, q.4)))

  price_written : (d : DraftData) (at : ℕ) → Whenever (price_entry d xs at) (λ e n. (f : PriceFields) × Stands (price_bytes f) xs at n × (priced d f.node f.price ≡ Ok e) × Unit {0})
  price_written d at =
      whenever_then _ _ (λ v n. Stands (v ∷ []) xs at n) _ (whenever_as Layout (field 1 xs at) _ (one_written xs at)) (λ node a e1.
      whenever_then _ _ (λ v n. Stands (four v) xs a n) _ (whenever_as Layout (field 4 xs a) _ (four_written xs a fit)) (λ price b e2.
      answered_whenever at (priced d node price) b _ (λ e h. (record { node = node; price = price }, stands_behind e1 e2, h, tt))))

  group_written : (d : DraftData) (at : ℕ) → Whenever (group_entry d xs at) (λ e n. (f : GroupFields) × Stands (group_bytes f) xs at n × (grouped d f.order f.units f.nodes ≡ Ok e) × FewNodes f)
  group_written d at =
      whenever_then _ _ (λ v n. Stands (v ∷ []) xs at n) _ (whenever_as Layout (field 1 xs at) _ (one_written xs at)) (λ order a e1.
      whenever_then _ _ (λ v n. Stands (four v) xs a n) _ (whenever_as Layout (field 4 xs a) _ (four_written xs a fit)) (λ units b e2.
      whenever_then _ _ (λ v n. Stands (v ∷ []) xs b n × (1 ≤ v) × (v ≤ 40)) _ (whenever_as Layout (ranged 1 1 40 xs b) _ (one_in 1 40 b)) (λ count c e3.
      whenever_then _ _ (λ p n. (length (cut p xs) ≡ count) × Stands (cut p xs) xs c n) _ (whenever_as Layout (run count xs c) _ (run_written count xs c)) (λ nodes k e4.
      answered_whenever at (grouped d order units (cut nodes xs)) k _ (λ e h.
      let s : Stands ((count ∷ []) ++ cut nodes xs) xs b k = stands_behind e3.0 e4.1 in
      let t : Stands (counted (cut nodes xs)) xs b k = rw e4.0 s in
      let few : FewNodes (record { order = order; units = units; nodes = cut nodes xs }) = rw e4.0 (e3.1, e3.2) in
      (record { order = order; units = units; nodes = cut nodes xs }, stands_behind e1 (stands_behind e2 t), h, few))))))

  -- both sections and the end of the sheet, and the plan that they make
  abbrev Made : ℕ → DraftData → ℕ → TableData → ℕ → Type 0
  Made sum d at t n =
      (ps : List PriceFields) × (gs : List GroupFields) × Stands (section price_bytes ps ++ section group_bytes gs) xs at n
      × (length xs ≤ n) × (length ps ≤ 40) × (length gs ≤ 8) × AllByRecursion FewNodes gs × (go_on (enter_prices ps d) (λ e. go_on (enter_groups gs e) (λ g. save_plan g sum)) ≡ Ok t)

  plan_written : (sum : ℕ) (d : DraftData) (at : ℕ) → Whenever (plan sum d xs at) (Made sum d at)
  plan_written sum d at =
      whenever_then _ _ (λ e m. (fs : List PriceFields) × Stands (section price_bytes fs) xs at m × (enter_prices fs d ≡ Ok e) × (length fs ≤ 40) × AllByRecursion (λ _. Unit {0}) fs) _ (section_written price_bytes (λ e d. priced d e.node e.price) (λ _. Unit {0}) price_entry price_written 40 d at) (λ e a p.
      whenever_then _ _ (λ g m. (fs : List GroupFields) × Stands (section group_bytes fs) xs a m × (enter_groups fs e ≡ Ok g) × (length fs ≤ 8) × AllByRecursion FewNodes fs) _ (section_written group_bytes (λ e d. grouped d e.order e.units e.nodes) FewNodes group_entry group_written 8 e a) (λ g b q.
      whenever_then _ _ (λ _ n. (n ≡ b) × (length xs ≤ b)) _ (whenever_as Layout (ended xs b) _ (ended_written xs b)) (λ _ c r.
      answered_whenever (length xs) (save_plan g sum) c _ (λ t h.
      let s : Stands (section group_bytes q.0) xs a c = rw r.0 q.1 in
      let l : length xs ≤ c = omega arith in
      (p.0, q.0, stands_behind p.1 s, l, p.3, q.3, q.4, rw (p.2, q.2) h)))))

  whole_written : (d : DraftData) → Whenever (whole d xs 0) (λ c n. Written d xs c)
  whole_written d =
      whenever_then _ _ (λ h n. Stands (head_bytes h) xs 0 n × InRange h) _ (whenever_as Layout (front xs 0) _ (front_written 0)) (λ head a e1.
      whenever_then _ _ (TextRead 24 xs a) _ (whenever_as Layout (text 24 xs a) _ (text_written 24 xs a)) (λ name b e2.
      whenever_then _ _ (TextRead 64 xs b) _ (whenever_as Layout (text 64 xs b) _ (text_written 64 xs b)) (λ link c e3.
      whenever_then _ _ (Made head.sum d c) _ (plan_written head.sum d c) (λ table n p.
      let f : Fields = record { head = head; name = cut name xs; link = cut link xs; prices = p.0; groups = p.1 } in
      let s : Stands (encoding f) xs 0 n = stands_behind e1.0 (stands_behind e2.stands (stands_behind e3.stands p.2)) in
      let l = drop_all n xs p.3 in
      record {
        fields = f;
        sound = record { head = sound_head head (cut name xs) e1.1 e2.text; sum = e1.1.sum; link = e3.text; prices = p.4; groups = p.5; nodes = p.6 };
        bytes = s.is ∙ (ap (λ r. encoding f ++ r) l ∙ append-nil (encoding f));
        head = refl;
        name = refl;
        link = refl;
        plan = p.7;
        name_within = e2.within;
        link_within = e3.within;
      }))))

-- a sheet that was read, and one that was refused
pub written_from : (d : DraftData) (xs : List ℕ) (r : Result Contents Fault) → Bytes xs → Answers r (whole d xs 0) → IfOk r (Written d xs)
written_from d xs (Ok c) fit a = whenever_at (whole d xs 0) (λ c n. Written d xs c) c a.0 a.1 (whole_written xs fit d)
written_from d xs (Err e) fit a = tt
