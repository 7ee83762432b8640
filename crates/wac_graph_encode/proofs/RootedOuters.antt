-- Outer imports that are placed stand for what is asked.
use Rattle.std.specs.Prelude.{option_and_then, option_map}
use Rattle.std.proofs.Common.{◌≡◌, ℕ, true≢false, List, [], ◌∷◌, map, Option, Some, None, is_none, slice_get, refl, sym, ap, subst, ◌∙◌, inl, inr}
use Rattle.std.proofs.lemmas.Option.{none-some, same_Some}
use Rattle.wac_types_base.specs.declared.ids.WorldId.{WorldId}
use Rattle.wac_types_base.specs.declared.item.ItemKind.{ItemKind}
use Rattle.wac_types_base.specs.Record.{Collection}
use Rattle.wac_types_base.specs.Entries.{Name, names_of, value_at}
use Rattle.wac_types_base.specs.Graph.{Among}
use Rattle.wac_types_base.specs.Collection.{IsAcyclic}
use Rattle.wac_types_base.specs.Stated.{stated_of}
use Rattle.wac_types_base.specs.Tree.{Tree, tree}
use Rattle.wac_types_base.specs.Fits.{Fits}
use Rattle.wac_types_base.proofs.Adding.{Among-left}
use Rattle.wac_types_base.proofs.Stating.{value_with}
use Rattle.wac_types_base.proofs.Lists.{value_named}
use Rattle.wac_types_fit.specs.Trees.{tree_in}
use Rattle.wac_types_fit.proofs.Items.{value_at-among}
use Rattle.wac_types_fit.proofs.Ordering.{tree_in_order}
use Rattle.wac_graph_bytes.specs.Typing.{Worlds, Item, Inside}
use Rattle.wac_graph_core.specs.Nodes.{NodeData, Role}
use Rattle.wac_graph_core.specs.Graph.{Graph, IsGraph, node_at}
use Rattle.wac_graph_scopes.specs.declared.imports.SortIndex.{SortIndex}
use Rattle.wac_graph_scopes.specs.declared.imports.ImportScope.{ImportScope}
use Rattle.wac_types_parts.specs.Parts.{imports_of}
use Rattle.wac_graph_scopes.specs.Imports.{ArePlaced, WritesWorld}
use Rattle.wac_graph_scopes.specs.Roots.{at_root}
use Rattle.wac_graph_scopes.proofs.WritingLaws.{value_here}
use Rattle.wac_composition.specs.Composition.{Placed}
use Rattle.wac_composition.specs.Asks.{Ask, explicit_ask, named_asks, asks_of}
use Rattle.wac_composition.specs.OuterImports.{outer_imports}
use Rattle.wac_graph_asks.specs.Graphs.{composition_of, import_by, nodes_of, item_of}
use Rattle.wac_graph_asks.specs.Outers.{IsOuters}
use Rattle.wac_graph_asks.specs.Wirings.{asked_trees}
use Rattle.wac_composition.proofs.Clashing.{name_found}
use Rattle.wac_graph_asks.proofs.Origins.{node_among, among_mapped}
use Rattle.wac_graph_encode.specs.Standing.{spelled, IsOuterAt, written_under}
use Rattle.wac_graph_encode.proofs.ItemSorts.{fits_sort, import_there}

-- what is written under a name is so at its place
pub under_place : (places : List (Name × ℕ)) (imports : List (Option SortIndex)) (n : Name) (p : SortIndex) → written_under places imports n ≡ Some p → (at : ℕ) × (value_at places n ≡ Some at) × (slice_get imports at ≡ Some (Some p))
under_place places imports n p v = by_place (value_at places n) refl v
  where
    by_import : (at : ℕ) (o : Option (Option SortIndex)) → slice_get imports at ≡ o → option_and_then (λ q. q) o ≡ Some p → slice_get imports at ≡ Some (Some p)
    by_import at None q e = absurd (none-some _ e)
    by_import at (Some r) q e = q ∙ ap Some e

    by_place : (o : Option ℕ) → value_at places n ≡ o → option_and_then (λ at. option_and_then (λ q. q) (slice_get imports at)) o ≡ Some p → (at : ℕ) × (value_at places n ≡ Some at) × (slice_get imports at ≡ Some (Some p))
    by_place None q e = absurd (none-some _ e)
    by_place (Some at) q e = (at, q, by_import at (slice_get imports at) refl e)

module _ (g : Graph) (sound : IsGraph g) (finite_types : IsAcyclic g.types) (c : Collection) (acyclic : IsAcyclic c) (world : WorldId) (places : List (Name × ℕ)) (is : IsOuters g c world places) where
  -- what an import of the graph asks
  abbrev pub ask_at : (j : ℕ) (x : NodeData) (n : Name) → Ask ℕ
  ask_at j x n = explicit_ask (record { by = j; name = n; item = item_of g x })

  among_mapped_asks : (xs : List (Placed ℕ)) (p : Placed ℕ) → Among p xs → Among (explicit_ask p) (map explicit_ask xs)
  among_mapped_asks [] p m = m
  among_mapped_asks (y ∷ xs) p (inl e) = inl (ap explicit_ask e)
  among_mapped_asks (y ∷ xs) p (inr m) = inr (among_mapped_asks xs p m)

  pub asked_there : (j : ℕ) (x : NodeData) (n : Name) → node_at g j ≡ Some x → x.role ≡ Role.Imported n → Among (ask_at j x n) (asks_of (composition_of g))
  asked_there j x n there role =
      let placed : Placed ℕ = record { by = j; name = n; item = item_of g x } in
      let made : Among placed (composition_of g).imports = among_mapped (λ e. import_by g e.0 e.1 e.1.role) (nodes_of g) (j, x) placed (node_among g j x there) (ap (import_by g j x) role) in
      Among-left (explicit_ask placed) (named_asks (composition_of g)) _
      (Among-left (explicit_ask placed) (map explicit_ask (composition_of g).imports) _ (among_mapped_asks (composition_of g).imports placed made))

  -- what is imported under the spelling fits what is asked
  pub import_fits : (j : ℕ) (x : NodeData) (n : Name) (k : ItemKind) → node_at g j ≡ Some x → x.role ≡ Role.Imported n → value_at (imports_of c world) (spelled g n) ≡ Some k → Fits (tree_in c k) (tree_in g.types x.item_kind)
  unfolding tree_in
  import_fits j x n k there role at =
      let met = is.met (ask_at j x n) (asked_there j x n there role) in
      let found : value_at (outer_imports (asks_of (composition_of g))) (spelled g n) ≡ Some (stated_of c k) =
      ap (λ es. value_at es (spelled g n)) (sym is.imports) ∙ value_with (stated_of c) (imports_of c world) (spelled g n) ∙ ap (option_map (stated_of c)) at in
      subst (λ s. Fits (tree s) (tree (item_of g x))) (same_Some _ _ (sym met.there ∙ found)) met.fits

  pub outers_stand : (w : Worlds) (i : Inside) (ps : List (Option SortIndex)) → ArePlaced w c (i.here ∷ []) (imports_of c world) ps → (n : Name) (p : SortIndex) → written_under places ps n ≡ Some p
      → IsOuterAt g w (at_root i []) n p
  unfolding tree_in
  outers_stand w i ps placed n p v =
      let at = under_place places ps n p v in
      let import = is.placed n at.0 at.1 in
      let k = import.0 in
      let here = placed at.0 (spelled g n) k p import.1 at.2 in
      let first = value_here (imports_of c world) at.0 (spelled g n) k is.distinct import.1 in
      record {
        meaning = Item (spelled g n) p.sort (tree_in c k);
        at = here.means;
        means = refl;
        asked = λ j x there role.
            let fits = import_fits j x n k there role first in (
              fits_sort c acyclic g.types finite_types k x.item_kind p.sort (import_there c acyclic world is.stands (spelled g n) k first) ((sound.nodes j x there).item) here.sort fits,
              λ instance. (tree_in c k, refl, tree_in_order (stated_of c k), fits),
            );
      }

  -- what is imported is what is asked, once all of it is written
  pub imports_asked : (w : Worlds) (s : ImportScope) (imported : List Name) (h : WritesWorld w c [] world s imported []) → ((n : Name) → Among n (names_of (imports_of c world)) → Among n imported)
      → (n : Name) → value_at h.writing.inside.imports n ≡ asked_trees g n
  unfolding tree_in
  imports_asked w s imported h all n = go (value_at h.writing.inside.imports n) refl
    where
      asked_is : asked_trees g n ≡ option_map tree (option_map (stated_of c) (value_at (imports_of c world) n))
      asked_is = ap (λ es. option_map tree (value_at es n)) (sym is.imports) ∙ ap (option_map tree) (value_with (stated_of c) (imports_of c world) n)

      none_asked : value_at h.writing.inside.imports n ≡ None → (v : Option ItemKind) → value_at (imports_of c world) n ≡ v → option_map tree (option_map (stated_of c) v) ≡ None
      none_asked e None f = refl
      none_asked e (Some k) f =
          let there : Among n (names_of h.writing.inside.imports) = subst (λ l. Among n l) (sym h.writing.imports) (all n (value_named (imports_of c world) n k f)) in
          absurd (true≢false (ap is_none (sym e) ∙ name_found h.writing.inside.imports n there))

      go : (v : Option Tree) → value_at h.writing.inside.imports n ≡ v → value_at h.writing.inside.imports n ≡ asked_trees g n
      go (Some t) e =
          let tree_is = h.writing.import_trees n t (value_at-among h.writing.inside.imports n t e) in
          e ∙ ap Some tree_is.2 ∙ sym (asked_is ∙ ap (λ v. option_map tree (option_map (stated_of c) v)) tree_is.1)
      go None e = e ∙ sym (asked_is ∙ none_asked e (value_at (imports_of c world) n) refl)
