-- A core module that the writer refuses cannot be written.
use Rattle.std.proofs.Common.{◌≡◌, ◌⊎◌, Bool, true, false, ◌&&◌, List, [], ◌∷◌, Some, None, inl, inr, refl, sym, ap, ◌∙◌}
use Rattle.std.specs.List.{list_all}
use Rattle.wac_types_base.specs.Graph.{Among}
use Rattle.wac_types_base.specs.Entries.{values_of}
use Rattle.wac_types_base.specs.declared.core_types.CoreType.{CoreType}
use Rattle.wac_types_base.specs.declared.core_types.CoreExtern.{CoreExtern}
use Rattle.wac_types_base.specs.declared.core_types.ModuleType.{ModuleType}
use Rattle.wac_graph_bytes.specs.declared.module.CoreDescription.TheVariants as core
use Rattle.wac_composition.specs.Writable.{writable_reference, writable_core_type, writable_extern, writable_module}
use Rattle.wac_graph_scopes.specs.CoreItems.{HasUnspoken, CoreFails, OneFails, ModuleFails}
use Rattle.wac_writable.proofs.CoreItems.{unspelled_reference, unspelled_type, of_values}
use Rattle.wac_writable.proofs.ValueLaws.{and_false}

one_false : {X : Type 0} (p : X → Bool) (xs : List X) (x : X) → Among x xs → p x ≡ false → list_all p xs ≡ false
one_false p [] x m e = absurd m
one_false p (y ∷ ys) x (inl s) e = ap (λ b. b && list_all p ys) (ap p (sym s) ∙ e)
one_false p (y ∷ ys) x (inr m) e = ap (λ b. p y && b) (one_false p ys x m e) ∙ and_false (p y)

types_false : (ts : List CoreType) → HasUnspoken ts → list_all writable_core_type ts ≡ false
types_false ts h = one_false writable_core_type ts h.0 h.1 (sym (unspelled_type h.0 h.2))

signature_false : (ps rs : List CoreType) → (HasUnspoken ps ⊎ HasUnspoken rs) → (list_all writable_core_type ps && list_all writable_core_type rs) ≡ false
signature_false ps rs (inl h) = ap (λ b. b && list_all writable_core_type rs) (types_false ps h)
signature_false ps rs (inr h) = ap (λ b. list_all writable_core_type ps && b) (types_false rs h) ∙ and_false (list_all writable_core_type ps)

extern_false : (x : CoreExtern) → CoreFails x → writable_extern x ≡ false
extern_false (CoreExtern.Func f) h = signature_false f.params f.results h
extern_false (CoreExtern.Tag f) h = signature_false f.params f.results h
extern_false (CoreExtern.Table t least most wide true) h = and_false (writable_reference t)
extern_false (CoreExtern.Table t least most wide false) h =
    ap (λ b. b && true) (sym (unspelled_reference t.nullable t.heap_type (λ r e. h (core.Table r (record { minimum = least; maximum = most; wide = wide })) (λ sigs. ap (λ u. Some (CoreExtern.Table u least most wide false)) e))))
extern_false (CoreExtern.Memory wide shared least most None) h = absurd (h (core.Memory (record { minimum = least; maximum = most; wide = wide }) shared) (λ sigs. refl))
extern_false (CoreExtern.Memory wide shared least most (Some n)) h = refl
extern_false (CoreExtern.Global t mutable true) h = and_false (writable_core_type t)
extern_false (CoreExtern.Global t mutable false) h =
    ap (λ b. b && true) (sym (unspelled_type t (λ v e. h (core.Global v mutable) (λ sigs. ap (λ u. Some (CoreExtern.Global u mutable false)) e))))

all_false : (xs : List CoreExtern) → OneFails xs → list_all writable_extern xs ≡ false
all_false xs h = one_false writable_extern xs h.0 h.1 (extern_false h.0 h.2)

pub module_false : (m : ModuleType) → ModuleFails m → writable_module m ≡ false
module_false m (inl h) = ap (λ b. b && list_all (λ e. writable_extern e.1) m.exports) (sym (of_values writable_extern m.imports) ∙ all_false (values_of m.imports) h)
module_false m (inr h) =
    ap (λ b. list_all (λ i. writable_extern i.1) m.imports && b) (sym (of_values writable_extern m.exports) ∙ all_false (values_of m.exports) h)
    ∙ and_false (list_all (λ i. writable_extern i.1) m.imports)
