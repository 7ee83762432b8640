-- What is answered of a value type: what is stated of it, as it stands in the collection that grew, or the first cause.
use Rattle.std.specs.Prelude.{List, [], map, Option, Result}
use Rattle.std.specs.declared.alloc.Global.{Global}
use Rattle.std.specs.declared.boxed.Box.{Box}
use Rattle.std.specs.declared.vec.Vec.{Vec}
use Rattle.wac_types_base.specs.declared.item.ItemKind.{ItemKind}
use Rattle.wac_types_base.specs.declared.item.ValueType.{ValueType}
use Rattle.wac_types_base.specs.Collection as s
use Rattle.wac_types_base.specs.Record.{Collection}
use Rattle.wac_types_base.specs.Stated.{kind_of, stated_of}
use Rattle.wac_parser_tree.specs.Trees as t
use Rattle.wac_parser_tree.specs.declared.text.Ident.{Ident}
use Rattle.wac_parser_tree.specs.declared.value_type.«Type».{«Type»}
use Rattle.wac_parser_tree.specs.Views.{view_ident, view_ty}
use Rattle.wac_parser_refusals.specs.declared.refusal.Refusal.{Refusal}
use Rattle.wac_parser_refusals.specs.Causes.{pure}
use Rattle.wac_parser_refusals.specs.Outcomes.{IsOutcome}
use Rattle.wac_parser_declare.specs.Functions.{Names}
use Rattle.wac_parser_declare.specs.Holding.{AreValues, IsValue, IsValueIf, scope_of, stated_if}
use Rattle.wac_parser_declare.specs.Payloads.{boxed_payload}
use Rattle.wac_parser_declare.specs.ValueTypes.{borrow_by, borrow_named, maybe_value, of_all, of_maybe, of_one, of_two, value, value_by, value_named, values}

-- ---- names

-- an item as a value type, and as what is borrowed
abbrev pub IsValueOf : Collection → ItemKind → Ident → Result ValueType Refusal → Type 0
IsValueOf c k i r = IsOutcome (IsValue c) (value_by (kind_of (stated_of c k)) (view_ident i) (stated_of c k)) r

abbrev pub IsBorrowOf : Collection → ItemKind → Ident → Result ValueType Refusal → Type 0
IsBorrowOf c k i r = IsOutcome (IsValue c) (borrow_by (kind_of (stated_of c k)) (view_ident i) (stated_of c k)) r

abbrev pub IsValueNamed : Collection → Names → Ident → Collection → Result ValueType Refusal → Type 0
IsValueNamed c names i d r = IsOutcome (IsValue d) (value_named (scope_of c names) (view_ident i)) r

abbrev pub IsBorrowNamed : Collection → Names → Ident → Collection → Result ValueType Refusal → Type 0
IsBorrowNamed c names i d r = IsOutcome (IsValue d) (borrow_named (scope_of c names) (view_ident i)) r

-- ---- types that are written

abbrev pub IsValueWritten : Collection → Names → «Type» → Collection → Result ValueType Refusal → Type 0
IsValueWritten c names ty d r = IsOutcome (IsValue d) (value (scope_of c names) (view_ty ty)) r

abbrev pub IsMaybeWritten : Collection → Names → Option (Box «Type» Global) → Collection → Result (Option ValueType) Refusal
    → Type 0
IsMaybeWritten c names ty d r = IsOutcome (IsValueIf d) (maybe_value (scope_of c names) (boxed_payload ty)) r

abbrev pub AreWritten : Collection → Names → Vec «Type» Global → Collection → Result (List ValueType) Refusal → Type 0
AreWritten c names tys d r = IsOutcome (AreValues d) (values (scope_of c names) [] (t.tys (map view_ty tys.items))) r

-- a list or an option: a shape of one type
abbrev pub IsOfOne : s.Shape → Collection → Names → «Type» → Collection → Result ValueType Refusal → Type 0
IsOfOne l c names ty d r = IsOutcome (IsValue d) (of_one l (value (scope_of c names) (view_ty ty))) r

-- a stream or a future: a shape of a type that may be left out
abbrev pub IsOfMaybe : s.Shape → Collection → Names → Option (Box «Type» Global) → Collection → Result ValueType Refusal → Type 0
IsOfMaybe l c names ty d r = IsOutcome (IsValue d) (of_maybe l (maybe_value (scope_of c names) (boxed_payload ty))) r

-- a result, whose first payload is known
abbrev pub IsResultWith : Option ValueType → Collection → Names → Option (Box «Type» Global) → Collection
    → Result ValueType Refusal → Type 0
IsResultWith ok c names err d r =
    IsOutcome (IsValue d) (of_two s.result (pure (stated_if c ok)) (maybe_value (scope_of c names) (boxed_payload err))) r

abbrev pub IsTuple : Collection → Names → Vec «Type» Global → Collection → Result ValueType Refusal → Type 0
IsTuple c names tys d r = IsOutcome (IsValue d) (of_all s.tuple (values (scope_of c names) [] (t.tys (map view_ty tys.items)))) r
