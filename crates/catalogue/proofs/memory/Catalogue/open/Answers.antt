use Rattle.std.proofs.Common.{◌≡◌, ℕ, ◌<◌, ◌≤◌, List, ◌++◌, map, length, take, drop, vec_items, Vec, sym, refl, ap, ◌∙◌, subst, arith, rules, tests}
use Rattle.std.specs.declared.alloc.Global.{Global}
use Rattle.std.specs.Vec.{with_items}
use Rattle.std.proofs.lemmas.List.{get_or_default, with_items_is}
use Rattle.std.proofs.lemmas.List.Edits.{map_over_more}
use Rattle.catalogue.specs.declared.slot.Slot.{Slot}
use Rattle.catalogue.specs.Books.{Book, all_empty, Apart}
use Rattle.catalogue.specs.Slots.{slot_data}
use Rattle.catalogue.proofs.BookLaws.{opened_apart}
use Rattle.catalogue.proofs.Holding.{clear, cleared_data, map_over_all, opened_book}
use Rattle.catalogue.proofs.memory.Catalogue.open.Goals as goal

pub loop-slot-preserved : goal.loop-slot-preserved
loop-slot-preserved g c =
    let lt : c.loop-slot.slot-index < length c.loop-slot.slot-items = omega arith in
    map_over_more clear c.deref_mut-slot-items.result.now c.loop-slot.slot-items c.loop-slot.slot-index _ c.loop-slot-test.true c.loop-slot.invariant (get_or_default c.loop-slot.slot-items c.loop-slot.slot-index _ _ lt)

-- the slots in memory as the loop ends
emptied-all : (v : Vec Slot Global) (xs ys : List Slot) (i : ℕ) → xs ≡ vec_items v → length ys ≡ v.len → length xs ≤ i → ys ≡ map clear (take i xs) ++ drop i xs
    → (with_items v ys).items ≡ map clear (vec_items v)
emptied-all v xs ys i e l h inv = with_items_is v ys l ∙ map_over_all clear xs ys i h inv ∙ ap (λ (zs : List Slot). map clear zs) e

pub invariant_of-result-clause-apart : goal.invariant_of-result-clause-apart
invariant_of-result-clause-apart g c =
    let v = c.args.slots in
    let o = v.ok.0 in
    let q = c.args.tariffs.ok.0 in
    let is = emptied-all v c.deref_mut-slot-items.result.now c.loop-slot.slot-items c.loop-slot.slot-index c.deref_mut-slot-items.ensures.value (omega arith) c.loop-slot-test.false c.loop-slot.invariant in
    let book = opened_book (vec_items v) (with_items v c.loop-slot.slot-items).items (vec_items c.args.tariffs) is (omega arith) in
    subst (λ (b : Book g.row.T.Denot). Apart b) (sym book) (opened_apart (length (vec_items v)))

pub returns : goal.returns
returns g c =
    let v = c.args.slots in
    let o = v.ok.0 in
    let q = c.args.tariffs.ok.0 in
    let is = emptied-all v c.deref_mut-slot-items.result.now c.loop-slot.slot-items c.loop-slot.slot-index c.deref_mut-slot-items.ensures.value (omega arith) c.loop-slot-test.false c.loop-slot.invariant in
    let book = opened_book (vec_items v) (with_items v c.loop-slot.slot-items).items (vec_items c.args.tariffs) is (omega arith) in (
      (search (rules, tests), search (rules, tests), omega arith),
      book ∙ ap all_empty (sym o),
      ap (λ (zs : List Slot). map slot_data zs) is ∙ cleared_data (vec_items v),
      refl,
    )
