-- Core items that no description states.
use Rattle.std.proofs.Common.{◌≡◌, ℕ, zero, suc, ◌+◌, Bool, true, List, [], ◌∷◌, take, map, Option, Some, refl, sym, ap, ◌∙◌, subst, arith, slice_get, inl, inr}
use Rattle.std.specs.Prelude.{◌⊎◌}
use Rattle.wac_types_base.specs.declared.core_types.CoreExtern.{CoreExtern}
use Rattle.wac_types_base.specs.declared.core_types.CoreExtern.TheVariants as extern
use Rattle.wac_types_base.specs.declared.core_types.CoreFuncType.{CoreFuncType}
use Rattle.wac_types_base.specs.declared.core_types.CoreRefType.{CoreRefType}
use Rattle.wac_types_base.specs.declared.core_types.CoreType.{CoreType}
use Rattle.wac_types_base.specs.declared.core_types.ModuleType.{ModuleType}
use Rattle.wac_types_base.specs.Entries.{values_of}
use Rattle.wac_types_base.specs.Graph.{Among}
use Rattle.wac_types_base.proofs.Looked.{among-get}
use Rattle.wac_graph_bytes.specs.declared.module.CoreDescription.{CoreDescription}
use Rattle.wac_graph_bytes.specs.declared.module.CoreDescription.TheVariants as core
use Rattle.wac_graph_bytes.specs.declared.module.CoreReference.{CoreReference}
use Rattle.wac_graph_bytes.specs.declared.module.CoreValue.{CoreValue}
use Rattle.wac_graph_bytes.specs.Typing.{core_reference_type, core_type}
use Rattle.wac_graph_scopes.specs.declared.error.WriteError.{WriteError}
use Rattle.wac_graph_scopes.specs.CoreItems.{IsItem, IsUnspoken, HasUnspoken, CoreFails, OneFails, IsPlainItem, TypesRefused, CoresRefused, ModuleFails, ModuleRefused}

pub never_table : (e : CoreRefType) (least : ℕ) (most : Option ℕ) (wide shared : Bool) → (shared ≡ true) ⊎ ((r : CoreReference) → core_reference_type r ≡ e → ⊥) → (d : CoreDescription) → IsItem d (extern.Table e least most wide shared) → ⊥
never_table e least most wide shared (inl s) (core.Table r l) h = absurd (cc (h [], s))
never_table e least most wide shared (inr n) (core.Table r l) h = n r (cc (h []))
never_table e least most wide shared n (core.Func i) h = absurd (cc (h []))
never_table e least most wide shared n (core.Memory l s) h = absurd (cc (h []))
never_table e least most wide shared n (core.Global t m) h = absurd (cc (h []))
never_table e least most wide shared n (core.Tag i) h = absurd (cc (h []))

pub never_memory : (wide shared : Bool) (least : ℕ) (most page : Option ℕ) {n : ℕ} → page ≡ Some n → (d : CoreDescription) → IsItem d (extern.Memory wide shared least most page) → ⊥
never_memory wide shared least most page {n} e (core.Memory l s) h = absurd (cc (h [], e))
never_memory wide shared least most page {n} e (core.Table r l) h = absurd (cc (h []))
never_memory wide shared least most page {n} e (core.Func i) h = absurd (cc (h []))
never_memory wide shared least most page {n} e (core.Global t m) h = absurd (cc (h []))
never_memory wide shared least most page {n} e (core.Tag i) h = absurd (cc (h []))

pub never_global : (t : CoreType) (mutable shared : Bool) → (shared ≡ true) ⊎ IsUnspoken t → (d : CoreDescription) → IsItem d (extern.Global t mutable shared) → ⊥
never_global t mutable shared (inl s) (core.Global v m) h = absurd (cc (h [], s))
never_global t mutable shared (inr n) (core.Global v m) h = n v (cc (h []))
never_global t mutable shared n (core.Table r l) h = absurd (cc (h []))
never_global t mutable shared n (core.Func i) h = absurd (cc (h []))
never_global t mutable shared n (core.Memory l s) h = absurd (cc (h []))
never_global t mutable shared n (core.Tag i) h = absurd (cc (h []))

-- what is described can be
pub spoken_plain : (x : CoreExtern) (d : CoreDescription) → IsPlainItem x → IsItem d x → CoreFails x → ⊥
spoken_plain (CoreExtern.Func f) d p h n = p
spoken_plain (CoreExtern.Tag f) d p h n = p
spoken_plain (CoreExtern.Table e i m w s) d p h n = n d h
spoken_plain (CoreExtern.Memory w s i m g) d p h n = n d h
spoken_plain (CoreExtern.Global t m s) d p h n = n d h

spoken_among : (vs : List CoreValue) (t : CoreType) → Among t (map core_type vs) → IsUnspoken t → ⊥
spoken_among [] t m n = m
spoken_among (v ∷ vs) t (inl e) n = n v (sym e)
spoken_among (v ∷ vs) t (inr m) n = spoken_among vs t m n

pub spoken_all : (vs : List CoreValue) (ts : List CoreType) → map core_type vs ≡ ts → HasUnspoken ts → ⊥
spoken_all vs ts e n = spoken_among vs n.0 (subst (λ (l : List CoreType). Among n.0 l) (sym e) n.1) n.2

pub spoken_signature : (f : CoreFuncType) (ps rs : List CoreValue) → map core_type ps ≡ f.params → map core_type rs ≡ f.results → (HasUnspoken f.params ⊎ HasUnspoken f.results) → ⊥
spoken_signature f ps rs p r (inl n) = spoken_all ps f.params p n
spoken_signature f ps rs p r (inr n) = spoken_all rs f.results r n

-- ---- one after another

same_fails : (x : CoreExtern) → OneFails (x ∷ []) → CoreFails x
same_fails x (y, inl e, f) = subst CoreFails e f
same_fails x (y, inr m, f) = absurd m

-- a type of a signature
pub params_refused : (f : CoreFuncType) (e : WriteError) → TypesRefused f.params e → CoresRefused (extern.Func f ∷ []) e
params_refused f WriteError.Unwritable h = (extern.Func f, inl refl, inl h)
params_refused f WriteError.Memory h = tt

pub results_refused : (f : CoreFuncType) (e : WriteError) → TypesRefused f.results e → CoresRefused (extern.Func f ∷ []) e
results_refused f WriteError.Unwritable h = (extern.Func f, inl refl, inr h)
results_refused f WriteError.Memory h = tt

pub tag_refused : (f : CoreFuncType) (x : CoreExtern) (e : WriteError) → x ≡ extern.Tag f → CoresRefused (extern.Func f ∷ []) e → CoresRefused (x ∷ []) e
tag_refused f x WriteError.Unwritable is h = (extern.Tag f, inl (sym is), same_fails (extern.Func f) h)
tag_refused f x WriteError.Memory is h = tt

-- an item of them
pub one_refused : (xs : List CoreExtern) (x : CoreExtern) (k : ℕ) (e : WriteError) → slice_get xs k ≡ Some x → CoresRefused (x ∷ []) e → CoresRefused xs e
one_refused xs x k WriteError.Unwritable at h = (x, among-get xs k x at, same_fails x h)
one_refused xs x k WriteError.Memory at h = tt

-- no item before fails, nor the next
spoken_suc : (xs : List CoreExtern) (i : ℕ) (x : CoreExtern) → slice_get xs i ≡ Some x → (OneFails (take i xs) → ⊥) → (CoreFails x → ⊥) → OneFails (take (suc i) xs) → ⊥
spoken_suc [] i x at before n h = absurd (cc at)
spoken_suc (y ∷ ys) zero x at before n (z, inl e, f) = n (subst CoreFails (e ∙ cc at) f)
spoken_suc (y ∷ ys) zero x at before n (z, inr m, f) = absurd m
spoken_suc (y ∷ ys) (suc i) x at before n (z, inl e, f) = before (z, inl e, f)
spoken_suc (y ∷ ys) (suc i) x at before n (z, inr m, f) = spoken_suc ys i x at (λ g. before (g.0, inr g.1, g.2)) n (z, m, f)

pub spoken_next : (xs : List CoreExtern) (i : ℕ) (x : CoreExtern) → slice_get xs i ≡ Some x → (OneFails (take i xs) → ⊥) → (CoreFails x → ⊥) → OneFails (take (i + 1) xs) → ⊥
spoken_next xs i x at before n h =
    let more : i + 1 ≡ suc i = omega arith in
    spoken_suc xs i x at before n (subst (λ k. OneFails (take k xs)) more h)

pub value_place : {N T : Type 0} (es : List (N × T)) (i : ℕ) (n : N) (x : T) → slice_get es i ≡ Some (n, x) → slice_get (values_of es) i ≡ Some x
value_place [] i n x at = absurd (cc at)
value_place (e ∷ es) zero n x at = ap Some (cc at)
value_place (e ∷ es) (suc i) n x at = value_place es i n x at

-- no item of the module fails
pub spoken_module : (m : ModuleType) → (OneFails (values_of m.imports) → ⊥) → (OneFails (values_of m.exports) → ⊥) → ModuleFails m → ⊥
spoken_module m a b (inl h) = a h
spoken_module m a b (inr h) = b h

pub imports_refused : (m : ModuleType) (e : WriteError) → CoresRefused (values_of m.imports) e → ModuleRefused m e
imports_refused m WriteError.Unwritable h = inl h
imports_refused m WriteError.Memory h = tt

pub exports_refused : (m : ModuleType) (e : WriteError) → CoresRefused (values_of m.exports) e → ModuleRefused m e
exports_refused m WriteError.Unwritable h = inr h
exports_refused m WriteError.Memory h = tt
