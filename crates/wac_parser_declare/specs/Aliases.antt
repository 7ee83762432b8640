-- What is answered of an alias: what is stated of it, as it stands in the collection that grew, or the first cause.
use Rattle.std.specs.Prelude.{◌≡◌, Bool, true, false, Option, option_map, Result}
use Rattle.wac_types_base.specs.declared.item.ItemKind.{ItemKind}
use Rattle.wac_types_base.specs.declared.item.ValueType.{ValueType}
use Rattle.wac_types_base.specs.declared.item.«Type».{«Type» as TypeKind}
use Rattle.wac_types_base.specs.declared.ids.FuncTypeId.{FuncTypeId}
use Rattle.wac_types_base.specs.declared.ids.InterfaceId.{InterfaceId}
use Rattle.wac_types_base.specs.declared.ids.ResourceId.{ResourceId}
use Rattle.wac_types_base.specs.Record.{Collection}
use Rattle.wac_types_base.specs.Entries.{Name}
use Rattle.wac_types_base.specs.Stated.{Stated, as_type, kind_of, stated_of}
use Rattle.wac_parser_tree.specs.declared.text.Ident.{Ident}
use Rattle.wac_parser_tree.specs.declared.value_type.«Type».{«Type»}
use Rattle.wac_parser_tree.specs.declared.value_type.FuncType.{FuncType}
use Rattle.wac_parser_tree.specs.declared.declaration.TypeAlias.{TypeAlias}
use Rattle.wac_parser_tree.specs.declared.declaration.TypeDecl.{TypeDecl}
use Rattle.wac_parser_tree.specs.Views.{view_func_type, view_ident, view_ty, view_type_alias, view_type_decl}
use Rattle.wac_parser_refusals.specs.declared.refusal.Refusal.{Refusal}
use Rattle.wac_parser_refusals.specs.Causes.{◌>>=◌, pure}
use Rattle.wac_parser_refusals.specs.Outcomes.{IsOutcome}
use Rattle.wac_parser_declare.specs.declared.aliases.Place.{Place}
use Rattle.wac_parser_declare.specs.Declarations.{alias_by, alias_named, alias_of, alias_type, alias_value, free, owner_of, resource_alias_of, type_alias, type_decl}
use Rattle.wac_parser_declare.specs.Functions.{Names}
use Rattle.wac_parser_declare.specs.Holding.{IsType, scope_of, stated_value}
use Rattle.wac_parser_declare.specs.ValueTypes.{value}

-- what a resource states
abbrev pub stated_resource : Collection → ResourceId → Stated
stated_resource c r = stated_of c (ItemKind.Ty (TypeKind.Resource r))

-- the owner is that of the alias that the resource is
abbrev pub IsOwner : Collection → ResourceId → Option InterfaceId → Type 0
IsOwner c r o = option_map (stated_of c) (option_map ItemKind.Instance o) ≡ owner_of (stated_resource c r)

abbrev pub is_root : Place → Bool
is_root Place.Root = true
is_root Place.Body = false

-- another name of a resource, of a value type, of a function
abbrev pub IsResourceAlias : Collection → Name → ResourceId → Collection → Result TypeKind Refusal → Type 0
IsResourceAlias c n r d answer = IsOutcome (IsType d) (pure (resource_alias_of n (stated_resource c r))) answer

abbrev pub IsValueAlias : Collection → ValueType → Collection → Result TypeKind Refusal → Type 0
IsValueAlias c v d answer = IsOutcome (IsType d) (pure (alias_of (stated_value c v))) answer

abbrev pub IsFuncAlias : Collection → FuncTypeId → Collection → Result TypeKind Refusal → Type 0
IsFuncAlias c f d answer = IsOutcome (IsType d) (pure (as_type (stated_of c (ItemKind.Func f)))) answer

-- another name of an item
abbrev pub IsAlias : Place → Collection → Ident → Ident → ItemKind → Collection → Result TypeKind Refusal → Type 0
IsAlias p c n i k d answer =
    IsOutcome (IsType d) (alias_by (kind_of (stated_of c k)) (is_root p) (view_ident n) (view_ident i) (stated_of c k)) answer

-- of a type, and of a resource, by their items
abbrev pub IsAliasOfType : Place → Ident → Ident → TypeKind → Collection → Collection → Result TypeKind Refusal → Type 0
IsAliasOfType p n i ty c d answer = IsAlias p c n i (ItemKind.Ty ty) d answer

abbrev pub IsAliasAt : Place → Ident → Ident → ResourceId → Collection → Collection → Result TypeKind Refusal → Type 0
IsAliasAt p n i r c d answer = IsAliasOfType p n i (TypeKind.Resource r) c d answer

-- of what a name means
abbrev pub IsAliasNamed : Place → Collection → Names → Ident → Ident → Collection → Result TypeKind Refusal → Type 0
IsAliasNamed p c names n i d answer =
    IsOutcome (IsType d) (alias_named (is_root p) (scope_of c names) (view_ident n) (view_ident i)) answer

-- of a type that is written
abbrev pub IsAliasValue : Collection → Names → «Type» → Collection → Result TypeKind Refusal → Type 0
IsAliasValue c names ty d answer = IsOutcome (IsType d) (alias_value (value (scope_of c names) (view_ty ty))) answer

abbrev pub IsAliasType : Place → Collection → Names → Ident → «Type» → Collection → Result TypeKind Refusal → Type 0
IsAliasType p c names n ty d answer =
    IsOutcome (IsType d) (alias_type (is_root p) (scope_of c names) (view_ident n) (view_ty ty)) answer

-- of a function type that is written
abbrev pub IsAliasFunc : Collection → Names → FuncType → Collection → Result TypeKind Refusal → Type 0
IsAliasFunc c names f d answer =
    IsOutcome (IsType d) (free (scope_of c names) (view_func_type f) >>= λ x. pure (as_type x)) answer

abbrev pub IsTypeAlias : Place → Collection → Names → TypeAlias → Collection → Result TypeKind Refusal → Type 0
IsTypeAlias p c names a d answer = IsOutcome (IsType d) (type_alias (is_root p) (scope_of c names) (view_type_alias a)) answer

-- of a declaration at the root
abbrev pub IsTypeDecl : Collection → Names → TypeDecl → Collection → Result TypeKind Refusal → Type 0
IsTypeDecl c names x d answer = IsOutcome (IsType d) (type_decl (scope_of c names) (view_type_decl x)) answer
