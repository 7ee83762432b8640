-- What each call does, from what its parts do.
use Rattle.std.proofs.Common.{◌≡◌, ◌≢◌, ℕ, Bool, false, not, List, [], ◌∷◌, ◌++◌, Option, Some, None, IsSome, filter, slice_get, refl, sym, ap, subst, ◌∙◌, inl, inr}
use Rattle.std.specs.Bool.{Decides}
use Rattle.std.specs.List.{swap_remove}
use Rattle.std.specs.FinMap as map
use Rattle.wac_types_base.specs.declared.item.ItemKind.{ItemKind}
use Rattle.wac_types_base.specs.Entries.{Name, value_at}
use Rattle.wac_types_base.specs.Graph.{Among}
use Rattle.wac_types_names.specs.Packaged.{Packaged}
use Rattle.wac_graph_core.specs.declared.ids.PackageId.{PackageId}
use Rattle.wac_graph_core.specs.declared.edge.Edge.{Edge}
use Rattle.wac_graph_core.specs.declared.edge.Follow.{Follow}
use Rattle.wac_graph_core.specs.Nodes.{NodeData, Role, plain_node}
use Rattle.wac_graph_core.specs.NodeMaps.{NodeMap, NoImport, AreBelow}
use Rattle.wac_graph_core.specs.Edges.{alias_edge, argument_edge, HasAlias, HasArgument, AreEdges, Reaches, IsReached, has, Stays}
use Rattle.wac_graph_core.specs.Graph.{Graph, node_at, ContainsNode, package_of, IsExport, IsArgument, IsGraph}
use Rattle.wac_graph_core.specs.Steps.{IsExternName, AddsEdge, Imports, Instantiates, Aliases, NodeFits, SetsArgument, UnsetsArgument}
use Rattle.wac_graph_core.specs.Exporting.{IsExportName, Exports, IsTold, Unexports, Names, place_of}
use Rattle.wac_graph_core.specs.Removing.{TakesNodes}
use Rattle.wac_graph_core.proofs.NodeMap.{below_free}
use Rattle.wac_graph_core.proofs.ExportSteps.{IsGraph-named, IsGraph-exported, IsGraph-unexported, place_found, place_none, one_named}
use Rattle.wac_types_base.proofs.Looked.{among-get}
use Rattle.wac_types_fit.proofs.ValueTrees.{not_both}

-- the node of an id that stands
pub node_of : (g : Graph) (k : ℕ) → ContainsNode g k → (x : NodeData) × (node_at g k ≡ Some x)
node_of g k there = by_option (node_at g k) refl there
  where
    by_option : (o : Option NodeData) → node_at g k ≡ o → IsSome o → (x : NodeData) × (node_at g k ≡ Some x)
    by_option None e h = absurd (cc (h))
    by_option (Some x) e h = (x, e)

-- a test that failed
pub refuted : (b : Bool) (P : Type 0) → Decides b P → b ≡ false → P → ⊥
refuted b P d is p = not_both b is (d.1 p)

module _ (g : Graph) where
  pub import_step : (ns : NodeMap) (k : ℕ) (name : Name) (kind : ItemKind) (n : NodeData) → ns ≡ map.insert g.nodes k n → n ≡ plain_node (Role.Imported name) None kind → NoImport g.nodes name → IsExternName name → AreBelow g.nodes k
      → Imports g (record g { nodes = ns }) name kind k
  import_step ns k name kind n added node none valid above =
      record { none = none; valid = valid; above = above; free = below_free g.nodes k above; made = ap (λ m. record g { nodes = m }) (added ∙ ap (map.insert g.nodes k) node) }

  pub instance_step : (ns : NodeMap) (k : ℕ) (id : PackageId) (p : Packaged) (n : NodeData) → ns ≡ map.insert g.nodes k n → n ≡ plain_node Role.Instance (Some id) (ItemKind.Instance p.instance_type) → package_of g id ≡ Some p → AreBelow g.nodes k
      → Instantiates g (record g { nodes = ns }) id k
  instance_step ns k id p n added node at above =
      record { of = p; is = at; above = above; free = below_free g.nodes k above; made = ap (λ m. record g { nodes = m }) (added ∙ ap (map.insert g.nodes k) node) }

  pub alias_step : (ns : NodeMap) (es : List Edge) (i k : ℕ) (n : Name) (item : ItemKind) (x : NodeData) (e : Edge) → ns ≡ map.insert g.nodes k x → x ≡ plain_node Role.Aliased None item → AddsEdge g.edges es e → e ≡ alias_edge i k n
      → ((j : ℕ) → HasAlias g.edges i n j → ⊥) → IsExport g i n item → AreBelow g.nodes k → Aliases g (record g { nodes = ns; edges = es }) i n k
  alias_step ns es i k n item x e added node adds edge none export above =
      inr (record {
        none = none;
        item = item;
        export = export;
        above = above;
        free = below_free g.nodes k above;
        edges = subst (AddsEdge g.edges es) edge adds;
        made = ap (λ m. record g { nodes = m; edges = es }) (added ∙ ap (map.insert g.nodes k) node);
      })

  pub again_step : (i k : ℕ) (n : Name) → HasAlias g.edges i n k → Aliases g g i n k
  again_step i k n there = inl (record { there = there; same = refl })

  pub set_step : (es : List Edge) (a i : ℕ) (n : Name) (item : ItemKind) (e : Edge) → AddsEdge g.edges es e → e ≡ argument_edge a i n → IsArgument g i n item → ((b : ℕ) → HasArgument g.edges i n b → ⊥) → NodeFits g a item
      → (Reaches Follow.Flow g.edges (i ∷ []) a → ⊥) → SetsArgument g (record g { edges = es }) i n a
  set_step es a i n item e adds edge argument none fits apart =
      record {
        item = item;
        is = argument;
        step = inr (record { none = none; fits = fits; apart = apart; edges = subst (AddsEdge g.edges es) edge adds; made = refl });
      }

  pub keep_step : (a b i : ℕ) (n : Name) (item : ItemKind) → IsArgument g i n item → HasArgument g.edges i n b → b ≡ a → SetsArgument g g i n a
  keep_step a b i n item argument there same =
      record { item = item; is = argument; step = inl (record { there = subst (HasArgument g.edges i n) same there; same = refl }) }

  pub unset_step : (es : List Edge) (a i : ℕ) (n : Name) (item : ItemKind) → AreEdges es (λ d. Among d g.edges × (d ≢ argument_edge a i n)) → IsArgument g i n item → UnsetsArgument g (record g { edges = es }) i n a
  unset_step es a i n item left argument = record { item = item; is = argument; edges = left; made = refl }

  pub not_reached : (es : List Edge) (starts seen : List ℕ) (a : ℕ) → IsReached Follow.Flow es starts seen → has seen a ≡ false → Reaches Follow.Flow es starts a → ⊥
  not_reached es starts seen a reached away r = not_both (has seen a) away (reached.complete a r)

  -- ---- exports and names

  pub export_step : (ns : NodeMap) (xs : List (Name × ℕ)) (k : ℕ) (o : NodeData) (name : Name) → node_at g k ≡ Some o → value_at g.exports name ≡ None → IsExportName name → ns ≡ map.insert g.nodes k (record o { export = Some name })
      → xs ≡ g.exports ++ (name, k) ∷ [] → Exports g (record g { nodes = ns; exports = xs }) k name
  export_step ns xs k o name at none valid nodes exports =
      record {
        none = none;
        valid = valid;
        node = o;
        there = at;
        made = ap (λ m. record g { nodes = m; exports = xs }) nodes ∙ ap (λ ys. record g { nodes = map.insert g.nodes k (record o { export = Some name }); exports = ys }) exports;
      }

  pub exported_by : (ns : NodeMap) (xs : List (Name × ℕ)) (k : ℕ) (o : NodeData) (name : Name) → node_at g k ≡ Some o → value_at g.exports name ≡ None → ns ≡ map.insert g.nodes k (record o { export = Some name })
      → xs ≡ g.exports ++ (name, k) ∷ [] → IsGraph g → IsGraph (record g { nodes = ns; exports = xs })
  exported_by ns xs k o name at none nodes exports is =
      subst (λ m. IsGraph (record g { nodes = m; exports = xs })) (sym nodes)
      (subst (λ ys. IsGraph (record g { nodes = map.insert g.nodes k (record o { export = Some name }); exports = ys })) (sym exports) (IsGraph-exported g k o name at none is))

  pub name_step : (ns : NodeMap) (k : ℕ) (o : NodeData) (name : Name) → node_at g k ≡ Some o → ns ≡ map.insert g.nodes k (record o { name = Some name }) → Names g (record g { nodes = ns }) k name
  name_step ns k o name at nodes = record { node = o; there = at; made = ap (λ m. record g { nodes = m }) nodes }

  pub named_by : (ns : NodeMap) (k : ℕ) (o : NodeData) (name : Name) → node_at g k ≡ Some o → ns ≡ map.insert g.nodes k (record o { name = Some name }) → IsGraph g → IsGraph (record g { nodes = ns })
  named_by ns k o name at nodes is = subst (λ m. IsGraph (record g { nodes = m })) (sym nodes) (IsGraph-named g k o name at is)

  pub told_by : (k : ℕ) (x : NodeData) (n : Name) (at : Option ℕ) → IsGraph g → node_at g k ≡ Some x → x.export ≡ Some n → at ≡ place_of g.exports n → IsTold g k at
  told_by k x n at is there told place =
      record {
        node = x;
        there = there;
        none = λ e. absurd (place_none g.exports n k (sym place ∙ e) (is.exported.named k x n there told));
        some = λ i e.
            let found = place_found g.exports n i (sym place ∙ e) in
            let same : found.0 ≡ k = one_named g.exports n found.0 k is.exported.distinct (among-get g.exports i (n, found.0) found.1) (is.exported.named k x n there told) in
            (n, told, subst (λ j. slice_get g.exports i ≡ Some (n, j)) same found.1);
      }

  pub told_none : (k : ℕ) (x : NodeData) → node_at g k ≡ Some x → x.export ≡ None → IsTold g k None
  told_none k x there none = record { node = x; there = there; none = λ e. none; some = λ i e. absurd (cc (e)) }

  pub untold_step : (k : ℕ) (told : IsTold g k None) → (told.node.role ≡ Role.Defined → ⊥) → Unexports g g k
  untold_step k told role = record { node = told.node; there = told.there; role = role; step = inl (record { none = told.none refl; same = refl }) }

  pub unexport_step : (ns : NodeMap) (xs : List (Name × ℕ)) (k i : ℕ) (o : NodeData) (n : Name) → node_at g k ≡ Some o → (o.role ≡ Role.Defined → ⊥) → o.export ≡ Some n → slice_get g.exports i ≡ Some (n, k)
      → ns ≡ map.insert g.nodes k (record o { export = None }) → xs ≡ swap_remove g.exports i (n, k) → Unexports g (record g { nodes = ns; exports = xs }) k
  unexport_step ns xs k i o n at role told place nodes exports =
      record {
        node = o;
        there = at;
        role = role;
        step = inr (record {
          name = n;
          told = told;
          place = i;
          at = place;
          made = ap (λ m. record g { nodes = m; exports = xs }) nodes ∙ ap (λ ys. record g { nodes = map.insert g.nodes k (record o { export = None }); exports = ys }) exports;
        });
      }

  pub unexported_by : (ns : NodeMap) (xs : List (Name × ℕ)) (k i : ℕ) (o : NodeData) (n : Name) → node_at g k ≡ Some o → slice_get g.exports i ≡ Some (n, k) → ns ≡ map.insert g.nodes k (record o { export = None }) → xs ≡ swap_remove g.exports i (n, k)
      → IsGraph g → IsGraph (record g { nodes = ns; exports = xs })
  unexported_by ns xs k i o n at place nodes exports is =
      subst (λ m. IsGraph (record g { nodes = m; exports = xs })) (sym nodes)
      (subst (λ ys. IsGraph (record g { nodes = map.insert g.nodes k (record o { export = None }); exports = ys })) (sym exports) (IsGraph-unexported g k o n i at place is))

  -- ---- removal

  pub take_step : (ns : NodeMap) (es : List Edge) (xs : List (Name × ℕ)) (gone : List ℕ) → ns ≡ map.retain_keys g.nodes (λ k. not (has gone k)) → xs ≡ filter (λ (e : Name × ℕ). not (has gone e.1)) g.exports
      → AreEdges es (λ d. Among d g.edges × (Stays gone d.from × Stays gone d.to)) → TakesNodes g (record g { nodes = ns; edges = es; exports = xs }) gone
  take_step ns es xs gone nodes exports kept =
      record {
        edges = kept;
        made = ap (λ m. record g { nodes = m; edges = es; exports = xs }) nodes
            ∙ ap (λ ys. record g { nodes = map.retain_keys g.nodes (λ k. not (has gone k)); edges = es; exports = ys }) exports;
      }
