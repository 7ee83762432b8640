-- One more declaration of a core module type.
use Rattle.std.proofs.Common.{◌≡◌, ℕ, ◌+◌, ◌-◌, ◌^◌, List, [], ◌∷◌, ◌++◌, length, map, take, Option, Some, slice_get, sym, ap, ◌∙◌, subst, arith, append_assoc, string_bytes, Vec, Global}
use Rattle.std.specs.Prelude.{String, min}
use Rattle.std.proofs.lemmas.Bool.{and_from}
use Rattle.std.proofs.lemmas.List.{length_push, map_push, append-nil}
use Rattle.wac_types_base.specs.declared.core_types.CoreExtern.{CoreExtern}
use Rattle.wac_types_base.specs.declared.core_types.CoreFuncType.{CoreFuncType}
use Rattle.wac_types_base.specs.Entries.{Name, names_of, AreDistinct}
use Rattle.wac_types_base.specs.Tree.{core_module, ascending, pair_cmp, name_cmp}
use Rattle.wac_types_base.proofs.Looked.{take-one_more}
use Rattle.wac_graph_bytes.specs.declared.module.CoreDeclaration.{CoreDeclaration as CodeCore}
use Rattle.wac_graph_bytes.specs.declared.module.CoreDeclaration.TheVariants.{Import, Signature, Export}
use Rattle.wac_graph_bytes.specs.declared.module.CoreDescription.{CoreDescription}
use Rattle.wac_graph_bytes.specs.declared.module.CoreValue.{CoreValue}
use Rattle.wac_graph_bytes.specs.Entries.{CoreDeclaration, CoreImport, CoreSignature, CoreExport}
use Rattle.wac_graph_bytes.specs.Typing.{◌>>=◌, core_type, core_item, signature, same_pair, some_if, module_by, module_with, module_tree}
use Rattle.wac_graph_bytes.specs.Views.{core_view, module_view}
use Rattle.wac_graph_bytes.proofs.Distinct.{distinct_by, same_pair_decides, distinct_decides}
use Rattle.wac_graph_scopes.specs.declared.core_items.ModuleScope.{ModuleScope}
use Rattle.wac_graph_scopes.specs.CoreItems.{IsModuleScope, GoesModule, AddsCores}
use Rattle.wac_graph_scopes.proofs.CountLaws.{next_counts}

-- the declarations that were there, and then one more before the rest
pushed_view : (xs ys : List CodeCore) (d : CodeCore) (rest : List CoreDeclaration) → ys ≡ xs ++ d ∷ [] → module_view ys ++ rest ≡ module_view xs ++ core_view d ∷ rest
pushed_view xs ys d rest e = ap (λ (l : List CodeCore). module_view l ++ rest) e ∙ ap (λ (l : List CoreDeclaration). l ++ rest) (map_push core_view xs d) ∙ simp append_assoc

module _ (s u : ModuleScope) (sigs : List CoreFuncType) (is : List ((Name × Name) × CoreExtern)) (es : List (Name × CoreExtern)) (h : IsModuleScope s sigs is es) where
  pub signature_added : (params results : Vec CoreValue Global) (f : CoreFuncType) → u.declarations.items ≡ s.declarations.items ++ Signature params results ∷ [] → u.signatures ≡ min (s.signatures + 1) (2 ^ 64 - 1)
      → map core_type params.items ≡ f.params → map core_type results.items ≡ f.results → IsModuleScope u (sigs ++ f ∷ []) is es × (s.signatures ≡ length sigs)
  signature_added params results f e n p q =
      let same : signature params.items results.items ≡ f = λ i. record { params = p i; results = q i } in (
        record {
          reads = λ rest. ap (module_by [] [] []) (pushed_view s.declarations.items u.declarations.items (Signature params results) rest e) ∙ h.reads (CoreSignature params.items results.items ∷ rest)
              ∙ ap (λ (g : CoreFuncType). module_by (sigs ++ g ∷ []) is es rest) same;
          count = omega (arith, next_counts u.declarations s.declarations.items (Signature params results) s.signatures u.signatures e (omega (arith, h.count, h.within)) n, h.count, length_push sigs f);
          within = omega (arith, h.within, ap (λ (l : List CodeCore). length l) e, length_push s.declarations.items (Signature params results), length_push sigs f);
        },
        h.count,
      )

  pub import_added : (from n : String Global) (d : CoreDescription) (x : CoreExtern) (names : Name × Name) → core_item sigs d ≡ Some x → u.declarations.items ≡ s.declarations.items ++ Import from n d ∷ [] → u.signatures ≡ s.signatures
      → string_bytes from ≡ names.0 → string_bytes n ≡ names.1 → IsModuleScope u sigs (is ++ (names, x) ∷ []) es
  import_added from n d x names at e k p q = record {
    reads = λ rest.
        ap (module_by [] [] []) (pushed_view s.declarations.items u.declarations.items (Import from n d) rest e) ∙ h.reads (CoreImport (string_bytes from) (string_bytes n) d ∷ rest)
        ∙ ap (λ (o : Option CoreExtern). o >>= λ y. module_by sigs (is ++ ((string_bytes from, string_bytes n), y) ∷ []) es rest) at
        ∙ ap (λ (m : Name × Name). module_by sigs (is ++ (m, x) ∷ []) es rest) (λ i. (p i, q i));
    count = k ∙ h.count;
    within = omega (arith, h.within, ap (λ (l : List CodeCore). length l) e, length_push s.declarations.items (Import from n d));
  }

  pub export_added : (n : String Global) (d : CoreDescription) (x : CoreExtern) (name : Name) → core_item sigs d ≡ Some x → u.declarations.items ≡ s.declarations.items ++ Export n d ∷ [] → u.signatures ≡ s.signatures
      → string_bytes n ≡ name → IsModuleScope u sigs is (es ++ (name, x) ∷ [])
  export_added n d x name at e k p = record {
    reads = λ rest.
        ap (module_by [] [] []) (pushed_view s.declarations.items u.declarations.items (Export n d) rest e) ∙ h.reads (CoreExport (string_bytes n) d ∷ rest)
        ∙ ap (λ (o : Option CoreExtern). o >>= λ y. module_by sigs is (es ++ (string_bytes n, y) ∷ []) rest) at
        ∙ ap (λ (m : Name). module_by sigs is (es ++ (m, x) ∷ []) rest) p;
    count = k ∙ h.count;
    within = omega (arith, h.within, ap (λ (l : List CodeCore). length l) e, length_push s.declarations.items (Export n d));
  }

-- ---- one after another

pub cores_none : (s : ModuleScope) → AddsCores s s [] []
cores_none s js fs g = subst (λ l. GoesModule s l (fs ++ [])) (sym (append-nil js)) (subst (λ l. GoesModule s js l) (sym (append-nil fs)) g)

pub cores_then : (s u v : ModuleScope) (is js : List ((Name × Name) × CoreExtern)) (es fs : List (Name × CoreExtern)) → AddsCores s u is es → AddsCores u v js fs → AddsCores s v (is ++ js) (es ++ fs)
cores_then s u v is js es fs a b ks gs g =
    subst (λ l. GoesModule v l (gs ++ (es ++ fs))) (append_assoc ks is js) (subst (λ l. GoesModule v ((ks ++ is) ++ js) l) (append_assoc gs es fs) (b (ks ++ is) (gs ++ es) (a ks gs g)))

pub imports_next : (s u v : ModuleScope) (is : List ((Name × Name) × CoreExtern)) (n : ℕ) (x : (Name × Name) × CoreExtern) → slice_get is n ≡ Some x → AddsCores s u (take n is) [] → AddsCores u v (x ∷ []) [] → AddsCores s v (take (n + 1) is) []
imports_next s u v is n x at a b = subst (λ l. AddsCores s v l []) (sym (take-one_more is n x at)) (cores_then s u v (take n is) (x ∷ []) [] [] a b)

pub exports_next : (s u v : ModuleScope) (es : List (Name × CoreExtern)) (n : ℕ) (x : Name × CoreExtern) → slice_get es n ≡ Some x → AddsCores s u [] (take n es) → AddsCores u v [] (x ∷ []) → AddsCores s v [] (take (n + 1) es)
exports_next s u v es n x at a b = subst (λ l. AddsCores s v [] l) (sym (take-one_more es n x at)) (cores_then s u v [] [] (take n es) (x ∷ []) a b)

-- ---- the whole module type

pub module_reads : (s u v : ModuleScope) (is : List ((Name × Name) × CoreExtern)) (es : List (Name × CoreExtern)) → s.declarations.items ≡ [] → s.signatures ≡ 0 → AddsCores s u is [] → AddsCores u v [] es
    → AreDistinct (names_of is) → AreDistinct (names_of es) → module_tree (module_view v.declarations.items) ≡ Some (core_module (ascending pair_cmp is) (ascending name_cmp es))
module_reads s u v is es e n a b d f =
    let begin : GoesModule s [] [] = ([], record { reads = λ rest. ap (λ (l : List CodeCore). module_by [] [] [] (module_view l ++ rest)) e; count = n; within = omega arith }) in
    let last = b ([] ++ is) ([] ++ []) (a [] [] begin) in
    let read = ap (module_by [] [] []) (sym (append-nil (module_view v.declarations.items))) ∙ last.1.reads [] ∙ ap (λ l. module_with l es) (append-nil is) in
    read ∙ ap (λ b. some_if b (core_module (ascending pair_cmp is) (ascending name_cmp es))) (and_from _ _ ((distinct_by same_pair same_pair_decides (names_of is)).1 d) ((distinct_decides (names_of es)).1 f))
