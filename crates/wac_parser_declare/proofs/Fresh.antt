-- What is added did not stand before.
use Rattle.std.proofs.Common.{◌≡◌, ◌==◌, ◌≤◌, Bool, true, false, true≢false, List, length, Option, Some, None, IsSome, Result, Ok, Err, IfOk, option_map, slice_get, cond, subst, sym, ap, arith}
use Rattle.std.proofs.lemmas.Option.{slice_get_past}
use Rattle.std.specs.declared.alloc.AllocError.{AllocError}
use Rattle.wac_types_base.specs.declared.item.ItemKind.{ItemKind}
use Rattle.wac_types_base.specs.declared.item.ValueType.{ValueType}
use Rattle.wac_types_base.specs.declared.item.«Type».{«Type» as TypeKind}
use Rattle.wac_types_base.specs.declared.ids.DefinedTypeId.{DefinedTypeId}
use Rattle.wac_types_base.specs.declared.ids.ResourceId.{ResourceId}
use Rattle.wac_types_base.specs.declared.ids.FuncTypeId.{FuncTypeId}
use Rattle.wac_types_base.specs.declared.ids.InterfaceId.{InterfaceId}
use Rattle.wac_types_base.specs.declared.ids.WorldId.{WorldId}
use Rattle.wac_types_base.specs.Record.{Collection}
use Rattle.wac_types_base.specs.Collection.{Entry, Grows, Stands, item_node, defined_entry, resource_entry, func_entry, interface_entry, world_entry}
use Rattle.wac_types_base.proofs.Slots.{stands_typed_value, stands_typed_func, stands_typed_interface, stands_typed_world}
use Rattle.wac_parser_declare.specs.Added.{IsNew, IsNewType}

-- no entry stands behind the last
none_past : {E : Type 0} (f : E → Entry) (es : List E) (b : Bool) → IsSome (cond b (option_map f (slice_get es (length es))) None) → ⊥
none_past f es true s = let P : Option _ → Type 0 = λ o. IsSome (option_map f o) in true≢false (sym (subst P (slice_get_past es (length es) (omega arith)) s))
none_past f es false s = true≢false (sym s)

module _ (c : Collection) where
  pub defined_fresh : (r : Result DefinedTypeId AllocError) → IfOk r (λ i. i ≡ record { collection = c.number; index = length c.defined_types }) → IfOk r (λ i. IsNew c (ItemKind.Value (ValueType.Defined i)))
  unfolding item_node
  defined_fresh (Ok i) e = rw e (record { absent = none_past defined_entry c.defined_types (c.number == c.number) })
  defined_fresh (Err f) e = tt

  pub resource_fresh : (r : Result ResourceId AllocError) → IfOk r (λ i. i ≡ record { collection = c.number; index = length c.resources }) → IfOk r (λ i. IsNew c (ItemKind.Ty (TypeKind.Resource i)))
  unfolding item_node
  resource_fresh (Ok i) e = rw e (record { absent = none_past resource_entry c.resources (c.number == c.number) })
  resource_fresh (Err f) e = tt

  pub func_fresh : (r : Result FuncTypeId AllocError) → IfOk r (λ i. i ≡ record { collection = c.number; index = length c.func_types }) → IfOk r (λ i. IsNew c (ItemKind.Func i))
  unfolding item_node
  func_fresh (Ok i) e = rw e (record { absent = none_past func_entry c.func_types (c.number == c.number) })
  func_fresh (Err f) e = tt

  pub interface_fresh : (r : Result InterfaceId AllocError) → IfOk r (λ i. i ≡ record { collection = c.number; index = length c.interfaces }) → IfOk r (λ i. IsNew c (ItemKind.Instance i))
  unfolding item_node
  interface_fresh (Ok i) e = rw e (record { absent = none_past interface_entry c.interfaces (c.number == c.number) })
  interface_fresh (Err f) e = tt

  pub world_fresh : (r : Result WorldId AllocError) → IfOk r (λ i. i ≡ record { collection = c.number; index = length c.worlds }) → IfOk r (λ i. IsNew c (ItemKind.Component i))
  unfolding item_node
  world_fresh (Ok i) e = rw e (record { absent = none_past world_entry c.worlds (c.number == c.number) })
  world_fresh (Err f) e = tt

  pub value_new : (v : ValueType) → IsNew c (ItemKind.Value v) → IsNewType c (TypeKind.Value v)
  value_new v n = record { absent = λ s. n.absent (stands_typed_value c v s); plain = λ r e. cc }

  pub func_new : (f : FuncTypeId) → IsNew c (ItemKind.Func f) → IsNewType c (TypeKind.Func f)
  func_new f n = record { absent = λ s. n.absent (stands_typed_func c f s); plain = λ r e. cc }

  pub interface_new : (i : InterfaceId) → IsNew c (ItemKind.Instance i) → IsNewType c (TypeKind.Interface i)
  interface_new i n = record { absent = λ s. n.absent (stands_typed_interface c i s); plain = λ r e. cc }

  pub world_new : (w : WorldId) → IsNew c (ItemKind.Component w) → IsNewType c (TypeKind.World w)
  world_new w n = record { absent = λ s. n.absent (stands_typed_world c w s); plain = λ r e. cc }

pub new_before : (c d : Collection) (k : ItemKind) → Grows c d → IsNew d k → IsNew c k
new_before c d k g n = record { absent = λ s. n.absent (g.stand k s) }

pub value_newer : (c d : Collection) (v : ValueType) → Grows c d → IsNew d (ItemKind.Value v) → IsNewType c (TypeKind.Value v)
value_newer c d v g n = value_new c v (new_before c d (ItemKind.Value v) g n)

pub func_newer : (c d : Collection) (f : FuncTypeId) → Grows c d → IsNew d (ItemKind.Func f) → IsNew c (ItemKind.Func f)
func_newer c d f g n = new_before c d (ItemKind.Func f) g n

pub type_newer : (c d : Collection) → Grows c d → {E : Type 0} (r : Result TypeKind E) → IfOk r (IsNewType d) → IfOk r (IsNewType c)
type_newer c d g (Ok t) n = record { absent = λ s. n.absent (g.stand (ItemKind.Ty t) s); plain = n.plain }
type_newer c d g (Err e) n = tt
