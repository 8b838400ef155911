-- What the slots and tariffs in memory say of the book. Assumes nothing.
use Rattle.std.proofs.Common.{◌≡◌, ℕ, zero, suc, ◌<◌, ◌≤◌, List, [], ◌∷◌, ◌++◌, map, length, get_or, take, drop, set, Some, None, Ok, Err, Result, MatchResult, vec_items, vec_len, Option, sym, refl, ap, ◌∙◌, subst, arith}
use Rattle.std.specs.List.{slice_get}
use Rattle.std.specs.Option.{ok_or, option_map}
use Rattle.std.proofs.lemmas.Option.{slice_get_read, slice_get_within, slice_get-map}
use Rattle.std.proofs.lemmas.List.{length-map, map-set, take_all, drop_all, append-nil}
use Rattle.heads.specs.Rules.{HeadData, SoundHead}
use Rattle.heads.specs.Heads.{head_data}
use Rattle.heads.proofs.HeadLaws.{head_sound}
use Rattle.catalogue.specs.declared.slot.Slot.{Slot}
use Rattle.catalogue.specs.declared.slot.State.{State}
use Rattle.catalogue.specs.declared.slot.State.TheVariants.{Empty, InWork, Published}
use Rattle.catalogue.specs.declared.memory.Catalogue.{Catalogue}
use Rattle.catalogue.specs.declared.refusing.Refusal.{Refusal}
use Rattle.catalogue.specs.declared.refusing.Refusal.TheVariants.{NoSuchPlace}
use Rattle.catalogue.specs.Books.{Place, empty, published, place_at, all_empty, SoundPlace, SoundBook}
use Rattle.catalogue.specs.Slots.{SlotData, slot_data, place_by, book_of, emptied}
use Rattle.catalogue.specs.Search.{bars_slot, first_other}
use Rattle.catalogue.specs.Held.{memory, held}
use Rattle.catalogue.specs.Written.{SlotAt}
use Rattle.catalogue.proofs.Places.{none_some, same_some, nth_map, nth_within}
use Rattle.catalogue.proofs.Searching.{clash, search_same}

book_past : {T : Type 0} (ss : List SlotData) (ts : List T) (p : ℕ) → length ss ≤ p → place_at (book_of ss ts) p ≡ None
book_past [] ts p h = refl
book_past (s ∷ ss) [] p h = refl
book_past (s ∷ ss) (t ∷ ts) zero h = absurd (omega arith)
book_past (s ∷ ss) (t ∷ ts) (suc p) h = book_past ss ts p (omega arith)

book_none : {T : Type 0} (ss : List SlotData) (ts : List T) (p : ℕ) → slice_get ss p ≡ None → place_at (book_of ss ts) p ≡ None
book_none [] ts p h = refl
book_none (s ∷ ss) [] p h = refl
book_none (s ∷ ss) (t ∷ ts) zero h = absurd (none_some (Some s) s h refl)
book_none (s ∷ ss) (t ∷ ts) (suc p) h = book_none ss ts p h

book_at : {T : Type 0} (ss : List SlotData) (ts : List T) (p : ℕ) (s : SlotData) (t : T) → slice_get ss p ≡ Some s → slice_get ts p ≡ Some t → place_at (book_of ss ts) p ≡ Some (place_by s.state s.head t)
book_at [] ts p s t e f = absurd (none_some None s refl e)
book_at (x ∷ ss) [] p s t e f = absurd (none_some None t refl f)
book_at (x ∷ ss) (y ∷ ts) zero s t e f =
    ap (λ (z : SlotData). Some (place_by z.state z.head y)) (same_some (Some x) x s refl e) ∙ ap (λ z. Some (place_by s.state s.head z)) (same_some (Some y) y t refl f)
book_at (x ∷ ss) (y ∷ ts) (suc p) s t e f = book_at ss ts p s t e f

-- a slot written, and a slot with its tariff
pub book_set_slot : {T : Type 0} (ss : List SlotData) (ts : List T) (p : ℕ) (s : SlotData) (t : T) → slice_get ts p ≡ Some t → book_of (set ss p s) ts ≡ set (book_of ss ts) p (place_by s.state s.head t)
book_set_slot [] ts p s t f = refl
book_set_slot (x ∷ ss) [] p s t f = absurd (none_some None t refl f)
book_set_slot (x ∷ ss) (y ∷ ts) zero s t f = ap (λ z. place_by s.state s.head z ∷ book_of ss ts) (same_some (Some y) y t refl f)
book_set_slot (x ∷ ss) (y ∷ ts) (suc p) s t f = ap (λ b. place_by x.state x.head y ∷ b) (book_set_slot ss ts p s t f)

pub book_set_both : {T : Type 0} (ss : List SlotData) (ts : List T) (p : ℕ) (s : SlotData) (t : T) → book_of (set ss p s) (set ts p t) ≡ set (book_of ss ts) p (place_by s.state s.head t)
book_set_both [] ts p s t = refl
book_set_both (x ∷ ss) [] zero s t = refl
book_set_both (x ∷ ss) [] (suc p) s t = refl
book_set_both (x ∷ ss) (y ∷ ts) zero s t = refl
book_set_both (x ∷ ss) (y ∷ ts) (suc p) s t = ap (λ b. place_by x.state x.head y ∷ b) (book_set_both ss ts p s t)

book_long : {T : Type 0} (ss : List SlotData) (ts : List T) → length ss ≡ length ts → length (book_of ss ts) ≡ length ss
book_long [] ts e = refl
book_long (s ∷ ss) [] e = absurd (omega arith)
book_long (s ∷ ss) (t ∷ ts) e = ap suc (book_long ss ts (omega arith))

pub book_emptied : {T : Type 0} (ss : List SlotData) (ts : List T) → length ss ≡ length ts → book_of (map emptied ss) ts ≡ all_empty (length ss)
book_emptied [] ts e = refl
book_emptied (s ∷ ss) [] e = absurd (omega arith)
book_emptied (s ∷ ss) (t ∷ ts) e = ap (λ b. empty ∷ b) (book_emptied ss ts (omega arith))

-- every place of the book comes from a slot
place_sound : {T : Type 0} (st : State) (h : HeadData) (t : T) → SoundHead h → SoundPlace (place_by st h t)
place_sound Empty h t s = tt
place_sound InWork h t s = s
place_sound Published h t s = s

slots_sound : {T : Type 0} (ss : List Slot) (ts : List T) → SoundBook (book_of (map slot_data ss) ts)
slots_sound [] ts p x e = absurd (none_some None x refl e)
slots_sound (s ∷ ss) [] p x e = absurd (none_some None x refl e)
slots_sound {T} (s ∷ ss) (t ∷ ts) zero x e =
    subst (λ (z : Place T). SoundPlace z) (same_some (Some (place_by s.state (head_data s.head) t)) (place_by s.state (head_data s.head) t) x refl e)
    (place_sound s.state (head_data s.head) t (head_sound s.head))
slots_sound (s ∷ ss) (t ∷ ts) (suc p) x e = slots_sound ss ts p x e

module _ {T : Type 0} (m : Catalogue T) where
  memory_long : length (memory m) ≡ length (vec_items m.tariffs)
  memory_long =
      let o = m.slots.ok.0 in let q = m.tariffs.ok.0 in let l = m.level in
      length-map (vec_items m.slots) slot_data ∙ omega arith

  pub held_long : length (held m) ≡ vec_len m.slots
  held_long =
      let o = m.slots.ok.0 in
      book_long (memory m) (vec_items m.tariffs) memory_long ∙ length-map (vec_items m.slots) slot_data ∙ sym o

  pub held_sound : SoundBook (held m)
  held_sound = slots_sound (vec_items m.slots) (vec_items m.tariffs)

  -- past the last place
  pub none_at : (p : ℕ) → vec_len m.slots ≤ p → place_at (held m) p ≡ None
  none_at p h =
      let o = m.slots.ok.0 in let n = length-map (vec_items m.slots) slot_data in
      book_past (memory m) (vec_items m.tariffs) p (omega arith)

  -- the slot at a place, and the tariff that stands beside it
  pub slot_at : (p : ℕ) (s : Slot) → SlotAt m p s → slice_get (memory m) p ≡ Some (slot_data s)
  slot_at p s r = nth_map slot_data (vec_items m.slots) p s r.found

  pub found_at : (p : ℕ) (s : Slot) → slice_get (vec_items m.slots) p ≡ Some s → SlotAt m p s
  found_at p s at = let o = m.slots.ok.0 in record { inside = omega (arith, slice_get_within (vec_items m.slots) p s at); found = at }

  pub read_slot : (p : ℕ) (r : Result Slot Refusal) → r ≡ ok_or (slice_get (vec_items m.slots) p) NoSuchPlace → MatchResult r (λ s. SlotAt m p s) (λ e. (e ≡ NoSuchPlace) × (place_at (held m) p ≡ None))
  read_slot p r e = go (slice_get (vec_items m.slots) p) refl r e
    where
      go : (o : Option Slot) → slice_get (vec_items m.slots) p ≡ o → (r : Result Slot Refusal) → r ≡ ok_or o NoSuchPlace → MatchResult r (λ s. SlotAt m p s) (λ e. (e ≡ NoSuchPlace) × (place_at (held m) p ≡ None))
      go (Some x) at (Ok s) e =
          let same : x ≡ s = cc in
          found_at p s (at ∙ ap (λ (y : Slot). Some y) same)
      go (Some x) at (Err d) e = cc
      go None at (Ok s) e = cc
      go None at (Err d) e = (cc, book_none (memory m) (vec_items m.tariffs) p (slice_get-map slot_data (vec_items m.slots) p ∙ ap (λ (o : Option Slot). option_map slot_data o) at))

  pub tariff_at : (p : ℕ) → p < vec_len m.slots → (t : T) × (slice_get (vec_items m.tariffs) p ≡ Some t)
  tariff_at p h =
      let q = m.tariffs.ok.0 in let l = m.level in
      nth_within (vec_items m.tariffs) p (omega arith)

  -- what stands at a place, once the state of its slot is known
  pub stands : (p : ℕ) (s : Slot) (st : State) (t : T) → SlotAt m p s → s.state ≡ st → slice_get (vec_items m.tariffs) p ≡ Some t
      → place_at (held m) p ≡ Some (place_by st (head_data s.head) t)
  stands p s st t r i f =
      book_at (memory m) (vec_items m.tariffs) p (slot_data s) t (slot_at p s r) f
      ∙ ap (λ (z : State). Some (place_by z (head_data s.head) t)) i

  -- a slot that is not published stands for nothing published
  pub unpublished : (p : ℕ) (s : Slot) → SlotAt m p s → (s.state ≡ Published → ⊥) → (h : HeadData) (t : T) → place_at (held m) p ≡ Some (published h t) → ⊥
  unpublished p s r ne h t e = go s.state refl
    where
      u : (t : T) × (slice_get (vec_items m.tariffs) p ≡ Some t)
      u = tariff_at p r.inside

      go : (st : State) → s.state ≡ st → ⊥
      go Empty i = let q = sym (stands p s Empty u.0 r i u.1) ∙ e in cc
      go InWork i = let q = sym (stands p s InWork u.0 r i u.1) ∙ e in cc
      go Published i = ne i

  -- the search over the slots is that in the book
  pub clash_at : (ss : List Slot) (p : ℕ) (h : HeadData) {o : Option ℕ} → ss ≡ vec_items m.slots → o ≡ first_other (bars_slot h) (map slot_data ss) 0 p → clash (held m) p h ≡ o
  clash_at ss p h e r =
      sym (r ∙ ap (λ (l : List Slot). first_other (bars_slot h) (map slot_data l) 0 p) e ∙ search_same (memory m) (vec_items m.tariffs) 0 p h memory_long)

  -- one slot written
  pub held_slot : (p : ℕ) (n : Slot) (t : T) → slice_get (vec_items m.tariffs) p ≡ Some t
      → book_of (map slot_data (set (vec_items m.slots) p n)) (vec_items m.tariffs) ≡ set (held m) p (place_by n.state (head_data n.head) t)
  held_slot p n t f =
      ap (λ (l : List SlotData). book_of l (vec_items m.tariffs)) (map-set slot_data (vec_items m.slots) p n)
      ∙ book_set_slot (memory m) (vec_items m.tariffs) p (slot_data n) t f

  -- one slot and its tariff written
  pub held_both : (p : ℕ) (n : Slot) (t : T)
      → book_of (map slot_data (set (vec_items m.slots) p n)) (set (vec_items m.tariffs) p t) ≡ set (held m) p (place_by n.state (head_data n.head) t)
  held_both p n t =
      ap (λ (l : List SlotData). book_of l (set (vec_items m.tariffs) p t)) (map-set slot_data (vec_items m.slots) p n)
      ∙ book_set_both (memory m) (vec_items m.tariffs) p (slot_data n) t

  -- every place below the number of places holds something
  pub some_at : (p : ℕ) → p < vec_len m.slots → (x : Place T) × (place_at (held m) p ≡ Some x)
  some_at p h = nth_within (held m) p (omega (arith, held_long))

  -- the tariff read at a place
  pub tariff_read : (p : ℕ) (t : T) → p < vec_len m.slots → t ≡ get_or (vec_items m.tariffs) p t → slice_get (vec_items m.tariffs) p ≡ Some t
  tariff_read p t h r = let l = m.level in slice_get_read (vec_items m.tariffs) (vec_len m.tariffs) p t m.tariffs.ok.0 (omega arith) r

-- a slot emptied in memory: its head stays
abbrev pub clear : Slot → Slot
clear s = record { state = Empty; head = s.head }

pub cleared_data : (ss : List Slot) → map slot_data (map clear ss) ≡ map emptied (map slot_data ss)
cleared_data [] = refl
cleared_data (s ∷ ss) = ap (λ (l : List SlotData). emptied (slot_data s) ∷ l) (cleared_data ss)

pub map_over_all : {X : Type 0} (f : X → X) (xs ys : List X) (i : ℕ) → length xs ≤ i → ys ≡ map f (take i xs) ++ drop i xs → ys ≡ map f xs
map_over_all f xs ys i h e = e ∙ ap (λ l. map f l ++ drop i xs) (take_all i xs h) ∙ ap (λ l. map f xs ++ l) (drop_all i xs h) ∙ append-nil (map f xs)

-- slots all emptied hold the book at opening
pub opened_book : {T : Type 0} (ss ys : List Slot) (ts : List T) → ys ≡ map clear ss → length ss ≡ length ts → book_of (map slot_data ys) ts ≡ all_empty (length ss)
opened_book ss ys ts e l =
    ap (λ (x : List Slot). book_of (map slot_data x) ts) e
    ∙ ap (λ (x : List SlotData). book_of x ts) (cleared_data ss)
    ∙ book_emptied (map slot_data ss) ts (length-map ss slot_data ∙ l)
    ∙ ap all_empty (length-map ss slot_data)
