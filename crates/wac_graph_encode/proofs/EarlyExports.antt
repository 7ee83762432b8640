-- Definitions that are exported where they are written, as exports of the graph.
use Rattle.std.specs.List.{AllZip}
use Rattle.std.specs.Map.{lookup}
use Rattle.std.specs.Prelude.{nat_eq, option_map}
use Rattle.std.proofs.Common.{◌≡◌, ℕ, Bool, List, [], ◌∷◌, Option, Some, None, inl, inr, refl, sym, ap, subst, ◌∙◌}
use Rattle.std.proofs.lemmas.Option.{none-some, same_Some}
use Rattle.wac_types_base.specs.Entries.{Name, value_at}
use Rattle.wac_types_base.specs.Graph.{Among}
use Rattle.wac_types_base.specs.declared.ids.DefinedTypeId.{DefinedTypeId}
use Rattle.wac_types_base.specs.declared.item.ItemKind.{ItemKind}
use Rattle.wac_types_base.specs.declared.item.ValueType.{ValueType}
use Rattle.wac_types_base.specs.declared.item.«Type».{«Type» as TypeKind}
use Rattle.wac_types_base.specs.Collection.{IsAcyclic, Stands}
use Rattle.wac_types_base.specs.Resolving.{IsNoAlias}
use Rattle.wac_types_base.specs.Tree.{Tree, tree}
use Rattle.wac_types_fit.specs.Trees.{tree_in}
use Rattle.wac_types_fit.proofs.Unfolded.{type_value}
use Rattle.wac_graph_bytes.specs.declared.value.ValueType.TheVariants.{Index}
use Rattle.wac_graph_bytes.specs.declared.value.Sort.TheVariants as sort
use Rattle.wac_graph_bytes.specs.Typing.{Worlds, Scope, Inside, item_of, type_in, type_at, value_of}
use Rattle.wac_graph_bytes.specs.Wirings.{Source}
use Rattle.wac_graph_bytes.specs.Meaning.{source_of}
use Rattle.wac_graph_core.specs.Graph.{Graph}
use Rattle.wac_graph_scopes.specs.Scopes.{Extends}
use Rattle.wac_graph_scopes.specs.Roots.{HaveSources, IsEarly}
use Rattle.wac_graph_scopes.proofs.UsedLaws.{item_value}
use Rattle.wac_graph_bytes.proofs.Looked.{type_in_item}
use Rattle.wac_types_written.specs.Written.{written_definition}
use Rattle.wac_types_base.specs.Stated.{stated_of}
use Rattle.wac_types_base.specs.Record.{Collection}
use Rattle.wac_graph_encode.proofs.FormKinds.{own_form}
use Rattle.wac_graph_encode.specs.declared.declarations.Early.{Early}
use Rattle.wac_graph_encode.specs.Standing.{by_number, IsExported, StandsFor}
use Rattle.wac_graph_encode.specs.Rooting.{early_in, early_named}
use Rattle.wac_graph_encode.specs.Defining.{AreEarly}

-- the one that is found
early_found : (es : List (ℕ × Early)) (k : ℕ) (x : Name × ℕ) (o : Option Early) → lookup (nat_eq k) es ≡ o → option_map early_named o ≡ Some x → (e : Early) × (lookup (nat_eq k) es ≡ Some e) × (early_named e ≡ x)
early_found es k x None q is = absurd (none-some x is)
early_found es k x (Some e) q is = (e, q, same_Some _ _ is)

module _ (g : Graph) (w : Worlds) (i j : Inside) (es : List (ℕ × Early)) (more : Extends i.here j.here) (are : AreEarly g w i es) where
  pub early_sources : HaveSources (early_in es) j
  early_sources k x named m at =
      let f = early_found es k x (lookup (nat_eq k) es) refl named in
      let a = (are k f.0 f.1).stands in
      let same : a.meaning ≡ m = same_Some _ _ (sym (more.indexes sort.Ty k a.meaning a.at) ∙ at) in
      (by_number [] a.source, ap source_of (sym same) ∙ a.means)

  module _ (define : Bool) where
    exported_one : (x : Name × ℕ) (e : Name × Source ℕ) → IsEarly (early_in es) j x e → IsExported g w define [] x e
    exported_one x e h =
        let f = early_found es h.index x (lookup (nat_eq h.index) es) refl h.named in
        let a = (are h.index f.0 f.1).stands in
        let same : a.meaning ≡ h.meaning = same_Some _ _ (sym (more.indexes sort.Ty h.index a.meaning a.at) ∙ h.at) in
        record {
          name = h.name;
          source = a.source;
          denotes = subst (λ (y : Name × ℕ). StandsFor g y.1 a.source) f.2 a.denotes;
          written = a.written;
          is = same_Some _ _ (sym h.is ∙ ap source_of (sym same) ∙ a.means);
        }

    exports_one : (x : Name × ℕ) (e : Name × Source ℕ) → IsEarly (early_in es) j x e → value_at g.exports x.0 ≡ Some x.1
    exports_one x e h =
        let f = early_found es h.index x (lookup (nat_eq h.index) es) refl h.named in
        subst (λ (y : Name × ℕ). value_at g.exports y.0 ≡ Some y.1) f.2 (are h.index f.0 f.1).export

    pub early_exports : (xs : List (Name × ℕ)) (ys : List (Name × Source ℕ)) → AllZip (IsEarly (early_in es) j) xs ys → ((x : Name × ℕ) → Among x xs → value_at g.exports x.0 ≡ Some x.1) × AllZip (IsExported g w define []) xs ys
    early_exports [] [] z = ((λ x m. absurd m), tt)
    early_exports [] (y ∷ ys) z = absurd z
    early_exports (x ∷ xs) [] z = absurd z
    early_exports (x ∷ xs) (y ∷ ys) z =
        let rest = early_exports xs ys z.1 in (
          λ n m. elim m [ inl e ↦ subst (λ (v : Name × ℕ). value_at g.exports v.0 ≡ Some v.1) (sym e) (exports_one x y z.0) | inr k ↦ rest.0 n k ],
          (exported_one x y z.0, rest.1),
        )

-- ---- types of the graph's collection

-- the index of a definition that is a value type is that of its type, and of what is at the end of its aliases
module _ (c : Collection) (acyclic : IsAcyclic c) (w : Worlds) (ss : List Scope) (d : DefinedTypeId) (last : ValueType) (k : ℕ) (u : Tree) (stands : Stands c (ItemKind.Value last)) (type : Stands c (ItemKind.Ty (TypeKind.Value (ValueType.Defined d))))
    (end : IsNoAlias c last) (same : tree_in c (ItemKind.Value last) ≡ tree_in c (ItemKind.Value (ValueType.Defined d))) (reads : type_at w ss k ≡ Some u)
    (is : item_of u ≡ tree (written_definition (stated_of c (ItemKind.Ty (TypeKind.Value (ValueType.Defined d)))))) where
  pub defined_index : value_of w ss (Index k) ≡ Some (tree_in c (ItemKind.Value (ValueType.Defined d)))
  unfolding tree_in
  defined_index =
      item_value w c acyclic ss last (ValueType.Defined d) k stands end same
      (reads ∙ sym (type_in_item u) ∙ ap type_in (is ∙ ap tree (own_form c acyclic (TypeKind.Value (ValueType.Defined d)) type refl) ∙ type_value c acyclic (ValueType.Defined d) type))
