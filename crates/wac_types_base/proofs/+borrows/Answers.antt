use Rattle.std.proofs.Common.{◌≡◌, ◌∙◌, Some, false, slice_get, sym, ap, arith, below_more}
use Rattle.wac_types_base.specs.declared.item.ItemKind.{ItemKind}
use Rattle.wac_types_base.specs.Collection.{defined_entry}
use Rattle.wac_types_base.specs.Stated.{stated_of, contains_borrow}
use Rattle.wac_types_base.proofs.Walking.{some_place, no_place}
use Rattle.wac_types_base.proofs.Telling.{place_stands, borrows_in_places, slot_with, slots_without, value_places, primitive_borrow, borrow_borrow, own_borrow, defined_stated, defined_size, defined_children}
use Rattle.wac_types_base.proofs.+borrows.Goals as goal
use Rattle.wac_types_base.proofs.+borrows.Goals.{defined::DefinedType::contains_borrow-in-Some-place+in-Value+else-contains_borrow, defined::DefinedType::contains_borrow-in-Some-place+in_default-child, defined::DefinedType::contains_borrow-in_default-place}

pub item::ValueType::contains_borrow-contains_borrow-requires : goal.item::ValueType::contains_borrow-contains_borrow-requires
item::ValueType::contains_borrow-contains_borrow-requires t c =
    let size = defined_size c.args.types.now c.defined_type.ensures.acyclic c.args.self.now c.in-Defined.id c.defined_type.result.now c.in-Defined.is c.defined_type.ensures.entry c.defined_type.ensures.own in
    (omega (arith, size, c.decreases), defined_children c.args.types.now c.defined_type.ensures.acyclic c.args.self.now c.in-Defined.id c.defined_type.result.now c.in-Defined.is c.defined_type.ensures.entry c.defined_type.ensures.own)

pub item::ValueType::contains_borrow-returns-in-Primitive : goal.item::ValueType::contains_borrow-returns-in-Primitive
item::ValueType::contains_borrow-returns-in-Primitive t c = sym (primitive_borrow c.args.types.now c.see_acyclic.ensures c.args.self.now c.in-Primitive.field-0 c.in-Primitive.is)

pub item::ValueType::contains_borrow-returns-in-Borrow : goal.item::ValueType::contains_borrow-returns-in-Borrow
item::ValueType::contains_borrow-returns-in-Borrow t c = sym (borrow_borrow c.args.types.now c.see_acyclic.ensures c.args.self.now c.in-Borrow.field-0 c.in-Borrow.is c.requires)

pub item::ValueType::contains_borrow-returns-in-Own : goal.item::ValueType::contains_borrow-returns-in-Own
item::ValueType::contains_borrow-returns-in-Own t c = sym (own_borrow c.args.types.now c.see_acyclic.ensures c.args.self.now c.in-Own.field-0 c.in-Own.is c.requires)

pub item::ValueType::contains_borrow-returns-in-Defined : goal.item::ValueType::contains_borrow-returns-in-Defined
item::ValueType::contains_borrow-returns-in-Defined t c = c.contains_borrow.ensures ∙ ap contains_borrow (sym (defined_stated c.args.types.now c.defined_type.ensures.acyclic c.args.self.now c.in-Defined.id c.defined_type.result.now c.in-Defined.is c.defined_type.ensures.entry c.defined_type.ensures.own))

pub defined::DefinedType::contains_borrow-contains_borrow-requires : goal.defined::DefinedType::contains_borrow-contains_borrow-requires
defined::DefinedType::contains_borrow-contains_borrow-requires t c =
    let at = sym c.in-Some.ensures.place ∙ ap Some (c.in-Some-place.is ∙ ap Some c.in-Value.is) in
    let s = place_stands c.args.types.now c.see_acyclic.ensures (defined_entry c.args.self.now) c.requires c.loop-place.at (ItemKind.Value c.in-Value.ty) at in
    (omega (arith, s.1, c.decreases), s.0)

pub defined::DefinedType::contains_borrow-returns-then-contains_borrow : goal.defined::DefinedType::contains_borrow-returns-then-contains_borrow
defined::DefinedType::contains_borrow-returns-then-contains_borrow t c =
    let at = sym c.in-Some.ensures.place ∙ ap Some (c.in-Some-place.is ∙ ap Some c.in-Value.is) in
    sym (borrows_in_places c.args.types.now c.args.self.now ∙ slot_with c.args.types.now (defined_entry c.args.self.now).1 c.loop-place.at (ItemKind.Value c.in-Value.ty) at (sym c.contains_borrow.ensures ∙ c.if-contains_borrow.true))

pub defined::DefinedType::contains_borrow-loop-place-smaller : goal.defined::DefinedType::contains_borrow-loop-place-smaller
defined::DefinedType::contains_borrow-loop-place-smaller t c =
    let lt = some_place (defined_entry c.args.self.now).1 c.loop-place.at c.in-Some.place (sym c.in-Some.ensures.place) in
    omega (arith, lt)

pub defined::DefinedType::contains_borrow-loop-place-preserved : goal.defined::DefinedType::contains_borrow-loop-place-preserved
defined::DefinedType::contains_borrow-loop-place-preserved t c i j lt at =
    below_more (λ i. (j : ItemKind) → slice_get (defined_entry c.args.self.now).1 i ≡ Some (Some j) → contains_borrow (stated_of c.args.types.now j) ≡ false) c.loop-place.at
    (λ i lt j at. c.loop-place.invariant i j lt at)
    (λ j at.
    let is : c.in-Some.place ≡ Some j = cc (c.in-Some.ensures.place, at) in
    elim c.match-place.branch [
      | defined::DefinedType::contains_borrow-in-Some-place+in-Value+else-contains_borrow w ↦
          let same : ItemKind.Value w.in-Value.ty ≡ j = cc (w.in-Some-place.is, w.in-Value.is, is) in
          ap (λ j. contains_borrow (stated_of c.args.types.now j)) (sym same) ∙ sym w.contains_borrow.ensures ∙ w.if-contains_borrow.false
      | defined::DefinedType::contains_borrow-in-Some-place+in_default-child w ↦
          let v = value_places c.args.self.now c.loop-place.at j at in
          let same : w.in-Some-place.child ≡ ItemKind.Value v.0 = cc (w.in-Some-place.is, is, v.1) in
          absurd (w.in_default-child.not-Value v.0 same)
      | defined::DefinedType::contains_borrow-in_default-place w ↦ absurd (w.in_default-place.not-Some j is)
    ]) i lt j at

pub defined::DefinedType::contains_borrow-returns : goal.defined::DefinedType::contains_borrow-returns
defined::DefinedType::contains_borrow-returns t c =
    let xs = (defined_entry c.args.self.now).1 in
    sym (borrows_in_places c.args.types.now c.args.self.now ∙ slots_without c.args.types.now xs (λ i j lt at.
    c.loop-place.invariant i j (no_place xs c.loop-place.at i (sym c.defined_place.ensures.place ∙ c.in_default.is) lt) at))
