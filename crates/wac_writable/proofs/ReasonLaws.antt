-- Why instances and component types cannot be written.
use Rattle.std.proofs.Common.{◌≡◌, Bool, sym, ap, subst}
use Rattle.wac_types_base.specs.Entries.{Name}
use Rattle.wac_types_base.specs.Stated.{Stated, Kind, IsInstance, IsComponent, IsInterface, IsWorld, shape_kind, kind_of, uses_of, exports_of}
use Rattle.wac_composition.specs.Writable.{Holder as Held}
use Rattle.wac_composition.specs.NotWritten.{CannotBeWritten, a_value, core_items, module_as_type, renamed, an_alias, a_function, a_function_type, a_value_type, an_instance, an_interface, a_component, a_world, ItemsFail, ComponentFails}

module _ (o : Bool) (h : Held) (n : Name) where
  -- of other kinds nothing is told
  abbrev pub Reason : Kind → Stated → Type 0
  Reason IsInstance x = ItemsFail o (uses_of x) (exports_of x)
  Reason IsInterface x = ItemsFail o (uses_of x) (exports_of x)
  Reason IsComponent x = ComponentFails o x
  Reason IsWorld x = ComponentFails o x
  Reason k x = Unit {0}

  reason : (x : Stated) → CannotBeWritten o h n x → Reason (kind_of x) x
  reason x (a_value e) = subst (λ k. Reason k x) (sym e) tt
  reason x (core_items m e f) = subst (λ k. Reason k x) (sym (ap shape_kind e)) tt
  reason x (module_as_type e) = subst (λ k. Reason k x) (sym e) tt
  reason x (renamed r e f g) = subst (λ k. Reason k x) (sym (ap shape_kind e)) tt
  reason x (an_alias r e f) = subst (λ k. Reason k x) (sym (ap shape_kind e)) tt
  reason x (a_function e m d) = subst (λ k. Reason k x) (sym e) tt
  reason x (a_function_type e m d) = subst (λ k. Reason k x) (sym e) tt
  reason x (a_value_type e d) = subst (λ k. Reason k x) (sym e) tt
  reason x (an_instance e f) = subst (λ k. Reason k x) (sym e) f
  reason x (an_interface e f) = subst (λ k. Reason k x) (sym e) f
  reason x (a_component e f) = subst (λ k. Reason k x) (sym e) f
  reason x (a_world e f) = subst (λ k. Reason k x) (sym e) f

  pub reason_of : (x : Stated) (k : Kind) → kind_of x ≡ k → CannotBeWritten o h n x → Reason k x
  reason_of x k e f = subst (λ k. Reason k x) e (reason x f)
