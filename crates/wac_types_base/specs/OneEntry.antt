-- Entries that are equal are one.
use Rattle.std.proofs.Common.{◌&&◌, refl, ap, ◌==◌}
use Rattle.std.proofs.lemmas.Bool.{and_parts}
use Rattle.std.specs.Option.{option_eq}
use mathlib.Core.Bool.{beq}
use Rattle.wac_types_base.specs.Equal.{same_text, same_map, same_two}
use Rattle.wac_types_base.specs.EqualImports.{same_imports}
use Rattle.wac_types_base.specs.One.{IsOne, one_list, one_option, one_number, one_bool, one_text, one_names, one_two, one_columns, one_map}
use Rattle.wac_types_base.specs.OneCore.{one_extern}
use Rattle.wac_types_base.specs.declared.item.PrimitiveType.{PrimitiveType}
use Rattle.wac_types_base.specs.declared.item.ValueType.{ValueType}
use Rattle.wac_types_base.specs.declared.item.«Type».{«Type» as ItemType}
use Rattle.wac_types_base.specs.declared.item.ItemKind.{ItemKind}
use Rattle.wac_types_base.specs.declared.defined.DefinedType.{DefinedType}
use Rattle.wac_types_base.specs.contracts.ids.DefinedTypeIdPartialEq.TheImpl.{eq-value as defined_id_eq}
use Rattle.wac_types_base.specs.contracts.ids.ResourceIdPartialEq.TheImpl.{eq-value as resource_id_eq}
use Rattle.wac_types_base.specs.contracts.ids.FuncTypeIdPartialEq.TheImpl.{eq-value as func_id_eq}
use Rattle.wac_types_base.specs.contracts.ids.InterfaceIdPartialEq.TheImpl.{eq-value as interface_id_eq}
use Rattle.wac_types_base.specs.contracts.ids.WorldIdPartialEq.TheImpl.{eq-value as world_id_eq}
use Rattle.wac_types_base.specs.contracts.ids.ModuleTypeIdPartialEq.TheImpl.{eq-value as module_id_eq}
use Rattle.wac_types_base.specs.contracts.item.PrimitiveTypePartialEq.TheImpl.{eq-value as primitive_eq}
use Rattle.wac_types_base.specs.contracts.item.ValueTypePartialEq.TheImpl.{eq-value as value_eq}
use Rattle.wac_types_base.specs.contracts.item.TypePartialEq.TheImpl.{eq-value as type_eq}
use Rattle.wac_types_base.specs.contracts.item.ItemKindPartialEq.TheImpl.{eq-value as kind_eq}
use Rattle.wac_types_base.specs.contracts.defined.DefinedTypePartialEq.TheImpl.{eq-value as defined_eq}
use Rattle.wac_types_base.specs.contracts.defined.ResourceAliasPartialEq.TheImpl.{eq-value as alias_eq}
use Rattle.wac_types_base.specs.contracts.defined.ResourcePartialEq.TheImpl.{eq-value as resource_eq}
use Rattle.wac_types_base.specs.contracts.defined.FuncTypePartialEq.TheImpl.{eq-value as func_eq}
use Rattle.wac_types_base.specs.contracts.defined.UsedTypePartialEq.TheImpl.{eq-value as used_eq}
use Rattle.wac_types_base.specs.contracts.defined.InterfacePartialEq.TheImpl.{eq-value as interface_eq}
use Rattle.wac_types_base.specs.contracts.defined.WorldPartialEq.TheImpl.{eq-value as world_eq}
use Rattle.wac_types_base.specs.contracts.core_types.CoreExternPartialEq.TheImpl.{eq-value as extern_eq}
use Rattle.wac_types_base.specs.contracts.core_types.ModuleTypePartialEq.TheImpl.{eq-value as module_eq}

one_defined_id : IsOne defined_id_eq.it
one_defined_id x y e =
    let h = and_parts (x.collection == y.collection) (x.index == y.index) e in
    let a = one_number x.collection y.collection h.0 in
    let b = one_number x.index y.index h.1 in
    λ i. record { collection = a i; index = b i }

one_resource_id : IsOne resource_id_eq.it
one_resource_id x y e =
    let h = and_parts (x.collection == y.collection) (x.index == y.index) e in
    let a = one_number x.collection y.collection h.0 in
    let b = one_number x.index y.index h.1 in
    λ i. record { collection = a i; index = b i }

one_func_id : IsOne func_id_eq.it
one_func_id x y e =
    let h = and_parts (x.collection == y.collection) (x.index == y.index) e in
    let a = one_number x.collection y.collection h.0 in
    let b = one_number x.index y.index h.1 in
    λ i. record { collection = a i; index = b i }

one_interface_id : IsOne interface_id_eq.it
one_interface_id x y e =
    let h = and_parts (x.collection == y.collection) (x.index == y.index) e in
    let a = one_number x.collection y.collection h.0 in
    let b = one_number x.index y.index h.1 in
    λ i. record { collection = a i; index = b i }

one_world_id : IsOne world_id_eq.it
one_world_id x y e =
    let h = and_parts (x.collection == y.collection) (x.index == y.index) e in
    let a = one_number x.collection y.collection h.0 in
    let b = one_number x.index y.index h.1 in
    λ i. record { collection = a i; index = b i }

one_module_id : IsOne module_id_eq.it
one_module_id x y e =
    let h = and_parts (x.collection == y.collection) (x.index == y.index) e in
    let a = one_number x.collection y.collection h.0 in
    let b = one_number x.index y.index h.1 in
    λ i. record { collection = a i; index = b i }

one_primitive : IsOne primitive_eq.it
one_primitive PrimitiveType.U8 PrimitiveType.U8 e = refl
one_primitive PrimitiveType.S8 PrimitiveType.S8 e = refl
one_primitive PrimitiveType.U16 PrimitiveType.U16 e = refl
one_primitive PrimitiveType.S16 PrimitiveType.S16 e = refl
one_primitive PrimitiveType.U32 PrimitiveType.U32 e = refl
one_primitive PrimitiveType.S32 PrimitiveType.S32 e = refl
one_primitive PrimitiveType.U64 PrimitiveType.U64 e = refl
one_primitive PrimitiveType.S64 PrimitiveType.S64 e = refl
one_primitive PrimitiveType.F32 PrimitiveType.F32 e = refl
one_primitive PrimitiveType.F64 PrimitiveType.F64 e = refl
one_primitive PrimitiveType.Char PrimitiveType.Char e = refl
one_primitive PrimitiveType.Bool PrimitiveType.Bool e = refl
one_primitive PrimitiveType.String PrimitiveType.String e = refl
one_primitive PrimitiveType.ErrorContext PrimitiveType.ErrorContext e = refl
one_primitive x y e = absurd (cc e)

one_value : IsOne value_eq.it
one_value (ValueType.Primitive x) (ValueType.Primitive y) e = ap ValueType.Primitive (one_primitive x y e)
one_value (ValueType.Borrow x) (ValueType.Borrow y) e = ap ValueType.Borrow (one_resource_id x y e)
one_value (ValueType.Own x) (ValueType.Own y) e = ap ValueType.Own (one_resource_id x y e)
one_value (ValueType.Defined x) (ValueType.Defined y) e = ap ValueType.Defined (one_defined_id x y e)
one_value x y e = absurd (cc e)

one_type : IsOne type_eq.it
one_type (ItemType.Resource x) (ItemType.Resource y) e = ap ItemType.Resource (one_resource_id x y e)
one_type (ItemType.Func x) (ItemType.Func y) e = ap ItemType.Func (one_func_id x y e)
one_type (ItemType.Value x) (ItemType.Value y) e = ap ItemType.Value (one_value x y e)
one_type (ItemType.Interface x) (ItemType.Interface y) e = ap ItemType.Interface (one_interface_id x y e)
one_type (ItemType.World x) (ItemType.World y) e = ap ItemType.World (one_world_id x y e)
one_type (ItemType.Module x) (ItemType.Module y) e = ap ItemType.Module (one_module_id x y e)
one_type x y e = absurd (cc e)

one_kind : IsOne kind_eq.it
one_kind (ItemKind.Ty x) (ItemKind.Ty y) e = ap ItemKind.Ty (one_type x y e)
one_kind (ItemKind.Func x) (ItemKind.Func y) e = ap ItemKind.Func (one_func_id x y e)
one_kind (ItemKind.Instance x) (ItemKind.Instance y) e = ap ItemKind.Instance (one_interface_id x y e)
one_kind (ItemKind.Component x) (ItemKind.Component y) e = ap ItemKind.Component (one_world_id x y e)
one_kind (ItemKind.Module x) (ItemKind.Module y) e = ap ItemKind.Module (one_module_id x y e)
one_kind (ItemKind.Value x) (ItemKind.Value y) e = ap ItemKind.Value (one_value x y e)
one_kind x y e = absurd (cc e)

one_maybe : IsOne (option_eq value_eq.it)
one_maybe = one_option value_eq.it one_value

one_id : IsOne (option_eq same_text)
one_id = one_option same_text one_text

pub one_defined : IsOne defined_eq.it
one_defined (DefinedType.Tuple x) (DefinedType.Tuple y) e = ap DefinedType.Tuple (one_list value_eq.it one_value x y e)
one_defined (DefinedType.List x) (DefinedType.List y) e = ap DefinedType.List (one_value x y e)
one_defined (DefinedType.FixedSizeList x n) (DefinedType.FixedSizeList y m) e =
    let h = and_parts (value_eq.it x y) (n == m) e in
    let a = one_value x y h.0 in
    let b = one_number n m h.1 in
    λ i. DefinedType.FixedSizeList (a i) (b i)
one_defined (DefinedType.Option x) (DefinedType.Option y) e = ap DefinedType.Option (one_value x y e)
one_defined (DefinedType.Result x s) (DefinedType.Result y t) e =
    let h = and_parts (option_eq value_eq.it x y) (option_eq value_eq.it s t) e in
    let a = one_maybe x y h.0 in
    let b = one_maybe s t h.1 in
    λ i. DefinedType.Result (a i) (b i)
one_defined (DefinedType.Variant x) (DefinedType.Variant y) e =
    let a = one_map (option_eq value_eq.it) one_maybe x.cases y.cases e in
    λ i. DefinedType.Variant (record { cases = a i })
one_defined (DefinedType.Record x) (DefinedType.Record y) e =
    let a = one_map value_eq.it one_value x.fields y.fields e in
    λ i. DefinedType.Record (record { fields = a i })
one_defined (DefinedType.Flags x) (DefinedType.Flags y) e =
    let a = one_names x.0 y.0 e in
    λ i. DefinedType.Flags (record { 0 = a i })
one_defined (DefinedType.Enum x) (DefinedType.Enum y) e =
    let a = one_names x.0 y.0 e in
    λ i. DefinedType.Enum (record { 0 = a i })
one_defined (DefinedType.Alias x) (DefinedType.Alias y) e = ap DefinedType.Alias (one_value x y e)
one_defined (DefinedType.Stream x) (DefinedType.Stream y) e = ap DefinedType.Stream (one_maybe x y e)
one_defined (DefinedType.Future x) (DefinedType.Future y) e = ap DefinedType.Future (one_maybe x y e)
one_defined x y e = absurd (cc e)

one_alias : IsOne alias_eq.it
one_alias x y e =
    let h = and_parts (option_eq interface_id_eq.it x.owner y.owner) (resource_id_eq.it x.source y.source) e in
    let a = one_option interface_id_eq.it one_interface_id x.owner y.owner h.0 in
    let b = one_resource_id x.source y.source h.1 in
    λ i. record { owner = a i; source = b i }

pub one_resource : IsOne resource_eq.it
one_resource x y e =
    let h = and_parts (same_text x.name y.name) (option_eq alias_eq.it x.alias y.alias) e in
    let a = one_text x.name y.name h.0 in
    let b = one_option alias_eq.it one_alias x.alias y.alias h.1 in
    λ i. record { name = a i; alias = b i }

pub one_func : IsOne func_eq.it
one_func x y e =
    let h = and_parts (same_map value_eq.it x.params y.params)
    (option_eq value_eq.it x.result y.result && beq x.is_async y.is_async) e in
    let k = and_parts (option_eq value_eq.it x.result y.result) (beq x.is_async y.is_async) h.1 in
    let a = one_map value_eq.it one_value x.params y.params h.0 in
    let b = one_maybe x.result y.result k.0 in
    let c = one_bool x.is_async y.is_async k.1 in
    λ i. record { params = a i; result = b i; is_async = c i }

one_used : IsOne used_eq.it
one_used x y e =
    let h = and_parts (interface_id_eq.it x.interface y.interface) (option_eq same_text x.name y.name) e in
    let a = one_interface_id x.interface y.interface h.0 in
    let b = one_id x.name y.name h.1 in
    λ i. record { interface = a i; name = b i }

pub one_interface : IsOne interface_eq.it
one_interface x y e =
    let h = and_parts (option_eq same_text x.id y.id)
    (same_map used_eq.it x.uses y.uses && same_map kind_eq.it x.exports y.exports) e in
    let k = and_parts (same_map used_eq.it x.uses y.uses) (same_map kind_eq.it x.exports y.exports) h.1 in
    let a = one_id x.id y.id h.0 in
    let b = one_map used_eq.it one_used x.uses y.uses k.0 in
    let c = one_map kind_eq.it one_kind x.exports y.exports k.1 in
    λ i. record { id = a i; uses = b i; exports = c i }

pub one_world : IsOne world_eq.it
one_world x y e =
    let h = and_parts (option_eq same_text x.id y.id)
    (same_map used_eq.it x.uses y.uses
    && (same_map kind_eq.it x.imports y.imports && same_map kind_eq.it x.exports y.exports)) e in
    let k = and_parts (same_map used_eq.it x.uses y.uses)
    (same_map kind_eq.it x.imports y.imports && same_map kind_eq.it x.exports y.exports) h.1 in
    let l = and_parts (same_map kind_eq.it x.imports y.imports) (same_map kind_eq.it x.exports y.exports) k.1 in
    let a = one_id x.id y.id h.0 in
    let b = one_map used_eq.it one_used x.uses y.uses k.0 in
    let c = one_map kind_eq.it one_kind x.imports y.imports l.0 in
    let d = one_map kind_eq.it one_kind x.exports y.exports l.1 in
    λ i. record { id = a i; uses = b i; imports = c i; exports = d i }

pub one_module : IsOne module_eq.it
one_module x y e =
    let h = and_parts (same_imports x.imports y.imports) (same_map extern_eq.it x.exports y.exports) e in
    let a = one_columns same_two extern_eq.it one_two one_extern x.imports y.imports h.0 in
    let b = one_map extern_eq.it one_extern x.exports y.exports h.1 in
    λ i. record { imports = a i; exports = b i }
