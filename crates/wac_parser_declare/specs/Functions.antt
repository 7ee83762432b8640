-- What is answered of a function: what is stated of it, as it stands in the collection that grew, or the first cause.
use Rattle.std.specs.Prelude.{List, map, Option, Result, ⊤}
use Rattle.wac_types_base.specs.declared.item.ItemKind.{ItemKind}
use Rattle.wac_types_base.specs.declared.item.ValueType.{ValueType}
use Rattle.wac_types_base.specs.declared.item.FuncKind.{FuncKind}
use Rattle.wac_types_base.specs.declared.ids.FuncTypeId.{FuncTypeId}
use Rattle.wac_types_base.specs.Record.{Collection}
use Rattle.wac_types_base.specs.Entries.{Name, with_values}
use Rattle.wac_types_base.specs.Stated.{stated_of, kind_of}
use Rattle.wac_parser_tree.specs.declared.text.Ident.{Ident}
use Rattle.wac_parser_tree.specs.declared.value_type.«Type».{«Type»}
use Rattle.wac_parser_tree.specs.declared.value_type.NamedType.{NamedType}
use Rattle.wac_parser_tree.specs.declared.value_type.ResultList.{ResultList}
use Rattle.wac_parser_tree.specs.declared.value_type.FuncType.{FuncType}
use Rattle.wac_parser_tree.specs.declared.value_type.FuncTypeRef.{FuncTypeRef}
use Rattle.wac_parser_tree.specs.Views.{view_func_type, view_func_type_ref, view_ident, view_named_type, view_result_list, view_ty}
use Rattle.wac_parser_refusals.specs.declared.refusal.Refusal.{Refusal}
use Rattle.wac_parser_refusals.specs.Causes.{each}
use Rattle.wac_parser_refusals.specs.Outcomes.{IsOutcome}
use Rattle.wac_parser_declare.specs.declared.functions.Signature.{Signature}
use Rattle.wac_parser_declare.specs.declared.scope.Binding.{Binding}
use Rattle.wac_parser_declare.specs.Declarations.{param, scalar_result, result_of, function, free, func_by, func_named, func_ref}
use Rattle.wac_parser_declare.specs.Holding.{AreNamedValues, IsFunc, IsValueIf, scope_of, self_params, stated_if, stated_value}

-- names of the code, and parameters found
abbrev pub Names : Type 0
Names = List (Name × Binding)

abbrev pub Params : Type 0
Params = List (Name × ValueType)

-- the parameters found are those found before, with one more
abbrev pub IsParam : FuncKind → Collection → Names → Params → NamedType → Collection → Params → Result ⊤ Refusal → Type 0
IsParam kind c names found p d all r =
    IsOutcome (λ xs u. AreNamedValues d xs all) (param kind (scope_of c names) (with_values (stated_value c) found)
    (view_named_type p)) r

-- with these in order
abbrev pub AreParams : FuncKind → Collection → Names → Params → List NamedType → Collection → Params → Result ⊤ Refusal → Type 0
AreParams kind c names found ps d all r =
    IsOutcome (λ xs u. AreNamedValues d xs all)
    (each (param kind (scope_of c names)) (with_values (stated_value c) found) (map view_named_type ps)) r

abbrev pub IsScalar : Collection → Names → «Type» → Collection → Result (Option ValueType) Refusal → Type 0
IsScalar c names ty d r = IsOutcome (IsValueIf d) (scalar_result (scope_of c names) (view_ty ty)) r

abbrev pub IsResultOf : Collection → Names → Option ValueType → ResultList → Collection → Result (Option ValueType) Refusal
    → Type 0
IsResultOf c names given results d r =
    IsOutcome (IsValueIf d) (result_of (scope_of c names) (stated_if c given) (view_result_list results)) r

-- a function type; `self` and a constructor's result are given
abbrev pub IsFuncWith : Signature → Collection → Names → List NamedType → ResultList → Collection → Result FuncTypeId Refusal
    → Type 0
IsFuncWith s c names ps results d r =
    IsOutcome (IsFunc d)
    (function s.kind (scope_of c names) (self_params (stated_if c s.receiver)) (stated_if c s.given)
    (map view_named_type ps) (view_result_list results) s.is_async) r

-- of a function that belongs to no resource
abbrev pub IsFree : Collection → Names → FuncType → Collection → Result FuncTypeId Refusal → Type 0
IsFree c names f d r = IsOutcome (IsFunc d) (free (scope_of c names) (view_func_type f)) r

-- an item as a function
abbrev pub IsFuncOf : Collection → ItemKind → Ident → Result FuncTypeId Refusal → Type 0
IsFuncOf c k i r = IsOutcome (IsFunc c) (func_by (kind_of (stated_of c k)) (view_ident i) (stated_of c k)) r

abbrev pub IsFuncNamed : Collection → Names → Ident → Result FuncTypeId Refusal → Type 0
IsFuncNamed c names i r = IsOutcome (IsFunc c) (func_named (scope_of c names) (view_ident i)) r

-- written, or named
abbrev pub IsFuncRef : Collection → Names → FuncTypeRef → Collection → Result FuncTypeId Refusal → Type 0
IsFuncRef c names f d r = IsOutcome (IsFunc d) (func_ref (scope_of c names) (view_func_type_ref f)) r
