-- Core items that can be written.
use Rattle.std.proofs.Common.{◌≡◌, ◌≢◌, Bool, true, false, ◌&&◌, List, [], ◌∷◌, Option, Some, None, is_some, IfSome, refl, sym, ap, ◌∙◌}
use Rattle.std.specs.List.{list_all}
use Rattle.wac_types_base.specs.Entries.{values_of}
use Rattle.wac_types_base.specs.declared.core_types.HeapType.{HeapType}
use Rattle.wac_types_base.specs.declared.core_types.CoreRefType.{CoreRefType}
use Rattle.wac_types_base.specs.declared.core_types.CoreType.{CoreType}
use Rattle.wac_types_base.specs.declared.core_types.ModuleType.{ModuleType}
use Rattle.wac_graph_bytes.specs.declared.module.CoreReference.{CoreReference}
use Rattle.wac_graph_bytes.specs.declared.module.CoreReference.TheVariants as reference
use Rattle.wac_graph_bytes.specs.declared.module.CoreValue.{CoreValue}
use Rattle.wac_graph_bytes.specs.declared.module.CoreValue.TheVariants as value
use Rattle.wac_graph_bytes.specs.Typing.{core_reference_type, core_type}
use Rattle.wac_composition.specs.Writable.{writable_heap, writable_reference, writable_core_type, writable_extern, writable_module}

-- ---- what can be spelled

spelled_reference : (r : CoreReference) → writable_reference (core_reference_type r) ≡ true
spelled_reference reference.Func = refl
spelled_reference reference.Extern = refl

spelled_value : (v : CoreValue) → writable_core_type (core_type v) ≡ true
spelled_value value.I32 = refl
spelled_value value.I64 = refl
spelled_value value.F32 = refl
spelled_value value.F64 = refl
spelled_value value.V128 = refl
spelled_value (value.Reference r) = spelled_reference r

-- ---- what cannot

unspelled_heap : (h : HeapType) → ((r : CoreReference) → core_reference_type r ≡ record { nullable = true; heap_type = h } → ⊥) → false ≡ writable_heap h
unspelled_heap HeapType.Func n = absurd (n reference.Func refl)
unspelled_heap HeapType.Extern n = absurd (n reference.Extern refl)
unspelled_heap (HeapType.Concrete i) n = refl
unspelled_heap HeapType.Any n = refl
unspelled_heap HeapType.None n = refl
unspelled_heap HeapType.NoExtern n = refl
unspelled_heap HeapType.NoFunc n = refl
unspelled_heap HeapType.Eq n = refl
unspelled_heap HeapType.Struct n = refl
unspelled_heap HeapType.Array n = refl
unspelled_heap HeapType.I31 n = refl
unspelled_heap HeapType.Exn n = refl
unspelled_heap HeapType.NoExn n = refl
unspelled_heap HeapType.Cont n = refl
unspelled_heap HeapType.NoCont n = refl

pub unspelled_reference : (b : Bool) (h : HeapType) → ((r : CoreReference) → core_reference_type r ≡ record { nullable = b; heap_type = h } → ⊥) → false ≡ writable_reference (record { nullable = b; heap_type = h })
unspelled_reference true h n = unspelled_heap h n
unspelled_reference false h n = refl

pub unspelled_type : (t : CoreType) → ((v : CoreValue) → core_type v ≡ t → ⊥) → false ≡ writable_core_type t
unspelled_type CoreType.I32 n = absurd (n value.I32 refl)
unspelled_type CoreType.I64 n = absurd (n value.I64 refl)
unspelled_type CoreType.F32 n = absurd (n value.F32 refl)
unspelled_type CoreType.F64 n = absurd (n value.F64 refl)
unspelled_type CoreType.V128 n = absurd (n value.V128 refl)
unspelled_type (CoreType.Ref r) n = unspelled_reference r.nullable r.heap_type (λ s e. n (value.Reference s) (ap CoreType.Ref e))

pub reference_tested : (o : Option CoreReference) (t : CoreRefType) → IfSome o (λ r. core_reference_type r ≡ t) → (o ≡ None → (r : CoreReference) → core_reference_type r ≢ t) → is_some o ≡ writable_reference t
reference_tested (Some r) t e n = sym (spelled_reference r) ∙ ap writable_reference e
reference_tested None t e n = unspelled_reference t.nullable t.heap_type (n refl)

pub type_tested : (o : Option CoreValue) (t : CoreType) → IfSome o (λ v. core_type v ≡ t) → (o ≡ None → (v : CoreValue) → core_type v ≢ t) → is_some o ≡ writable_core_type t
type_tested (Some v) t e n = sym (spelled_value v) ∙ ap writable_core_type e
type_tested None t e n = unspelled_type t (n refl)

-- ---- all of a module

pub of_values : {N X : Type 0} (p : X → Bool) (xs : List (N × X)) → list_all p (values_of xs) ≡ list_all (λ e. p e.1) xs
of_values p [] = refl
of_values p (x ∷ xs) = ap (λ b. p x.1 && b) (of_values p xs)

pub both_tested : (m : ModuleType) (first second : Bool) → first ≡ list_all writable_extern (values_of m.imports) → second ≡ list_all writable_extern (values_of m.exports) → first && second ≡ writable_module m
both_tested m first second e f =
    ap (λ b. b && second) (e ∙ of_values writable_extern m.imports) ∙ ap (λ b. list_all (λ i. writable_extern i.1) m.imports && b) (f ∙ of_values writable_extern m.exports)

pub first_tested : (m : ModuleType) (first : Bool) → first ≡ list_all writable_extern (values_of m.imports) → first ≡ false → first ≡ writable_module m
first_tested m first e f = f ∙ sym (ap (λ b. b && list_all (λ e. writable_extern e.1) m.exports) (sym (of_values writable_extern m.imports) ∙ sym e ∙ f))
