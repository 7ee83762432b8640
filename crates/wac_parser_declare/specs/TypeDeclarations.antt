-- What is answered of a declaration of a type: what is stated of it, as it stands in the collection that grew, or the first
-- cause.
use Rattle.std.specs.Prelude.{◌≡◌, List, [], map, Option, option_map, Result, ⊤}
use Rattle.wac_types_base.specs.declared.item.ValueType.{ValueType}
use Rattle.wac_types_base.specs.declared.item.«Type».{«Type» as TypeKind}
use Rattle.wac_types_base.specs.Record.{Collection}
use Rattle.wac_types_base.specs.Entries.{Name, with_values}
use Rattle.wac_parser_tree.specs.declared.value_type.«Type».{«Type»}
use Rattle.wac_parser_tree.specs.declared.declaration.VariantCase.{VariantCase}
use Rattle.wac_parser_tree.specs.declared.declaration.VariantDecl.{VariantDecl}
use Rattle.wac_parser_tree.specs.declared.declaration.Field.{Field}
use Rattle.wac_parser_tree.specs.declared.declaration.RecordDecl.{RecordDecl}
use Rattle.wac_parser_tree.specs.declared.declaration.Flag.{Flag}
use Rattle.wac_parser_tree.specs.declared.declaration.FlagsDecl.{FlagsDecl}
use Rattle.wac_parser_tree.specs.declared.declaration.EnumCase.{EnumCase}
use Rattle.wac_parser_tree.specs.declared.declaration.EnumDecl.{EnumDecl}
use Rattle.wac_parser_tree.specs.Views.{view_ty, view_variant_case, view_variant_decl, view_field, view_record_decl, view_flag, view_flags_decl, view_enum_case, view_enum_decl}
use Rattle.wac_parser_refusals.specs.declared.refusal.Refusal.{Refusal}
use Rattle.wac_parser_refusals.specs.Causes.{each}
use Rattle.wac_parser_refusals.specs.Outcomes.{IsOutcome}
use Rattle.wac_parser_declare.specs.Declarations.{case_of, field_of, flag_of, enum_case_of, variant_decl, record_decl, flags_decl, enum_decl}
use Rattle.wac_parser_declare.specs.Functions.{Names, Params}
use Rattle.wac_parser_declare.specs.Holding.{AreCases, AreNamedValues, IsType, IsValueIf, scope_of, stated_if, stated_value}
use Rattle.wac_parser_declare.specs.ValueTypes.{value_if}

-- cases found
abbrev pub Cases : Type 0
Cases = List (Name × Option ValueType)

-- names that are those that are stated
abbrev pub AreNames : List Name → List Name → Type 0
AreNames xs ns = ns ≡ xs

-- the type of a case, if it has one
abbrev pub IsPayload : Collection → Names → Option «Type» → Collection → Result (Option ValueType) Refusal → Type 0
IsPayload c names ty d r = IsOutcome (IsValueIf d) (value_if (scope_of c names) (option_map view_ty ty)) r

-- the cases found are those found before, with one more
abbrev pub IsCase : Name → Collection → Names → Cases → VariantCase → Collection → Cases → Result ⊤ Refusal → Type 0
IsCase variant c names found x d all r =
    IsOutcome (λ xs u. AreCases d xs all) (case_of variant (scope_of c names) (with_values (stated_if c) found)
    (view_variant_case x)) r

abbrev pub AreCasesOf : Collection → Names → VariantDecl → Collection → Result Cases Refusal → Type 0
AreCasesOf c names v d r =
    IsOutcome (AreCases d) (each (case_of v.id.string.now (scope_of c names)) [] (map view_variant_case v.cases.items)) r

abbrev pub IsVariant : Collection → Names → VariantDecl → Collection → Result TypeKind Refusal → Type 0
IsVariant c names v d r = IsOutcome (IsType d) (variant_decl (scope_of c names) (view_variant_decl v)) r

-- the fields found are those found before, with one more
abbrev pub IsField : Name → Collection → Names → Params → Field → Collection → Params → Result ⊤ Refusal → Type 0
IsField record_name c names found x d all r =
    IsOutcome (λ xs u. AreNamedValues d xs all) (field_of record_name (scope_of c names) (with_values (stated_value c) found)
    (view_field x)) r

abbrev pub AreFieldsOf : Collection → Names → RecordDecl → Collection → Result Params Refusal → Type 0
AreFieldsOf c names v d r =
    IsOutcome (AreNamedValues d) (each (field_of v.id.string.now (scope_of c names)) [] (map view_field v.fields.items)) r

abbrev pub IsRecord : Collection → Names → RecordDecl → Collection → Result TypeKind Refusal → Type 0
IsRecord c names v d r = IsOutcome (IsType d) (record_decl (scope_of c names) (view_record_decl v)) r

-- the flags found are those found before, with one more
abbrev pub IsFlag : Name → List Name → Flag → List Name → Result ⊤ Refusal → Type 0
IsFlag flags found x all r = IsOutcome (λ xs u. AreNames xs all) (flag_of flags found (view_flag x)) r

abbrev pub AreFlagsOf : FlagsDecl → Result (List Name) Refusal → Type 0
AreFlagsOf v r = IsOutcome AreNames (each (flag_of v.id.string.now) [] (map view_flag v.flags.items)) r

abbrev pub AreFlags : FlagsDecl → Collection → Result TypeKind Refusal → Type 0
AreFlags v d r = IsOutcome (IsType d) (flags_decl (view_flags_decl v)) r

-- the cases of an enum found are those found before, with one more
abbrev pub IsEnumCase : Name → List Name → EnumCase → List Name → Result ⊤ Refusal → Type 0
IsEnumCase enum found x all r = IsOutcome (λ xs u. AreNames xs all) (enum_case_of enum found (view_enum_case x)) r

abbrev pub AreEnumCasesOf : EnumDecl → Result (List Name) Refusal → Type 0
AreEnumCasesOf v r = IsOutcome AreNames (each (enum_case_of v.id.string.now) [] (map view_enum_case v.cases.items)) r

abbrev pub IsEnum : EnumDecl → Collection → Result TypeKind Refusal → Type 0
IsEnum v d r = IsOutcome (IsType d) (enum_decl (view_enum_decl v)) r
