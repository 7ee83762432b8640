-- A definition is added, with its dependencies.
use Rattle.std.proofs.Common.{◌≡◌, ◌≢◌, ◌⊎◌, ℕ, true, List, [], ◌∷◌, ◌++◌, Some, None, IsSome, refl, sym, ap, subst, ◌∙◌, inl, inr}
use Rattle.std.proofs.lemmas.Option.{same_Some}
use Rattle.std.specs.FinMap as map
use Rattle.wac_types_base.specs.declared.item.ItemKind.{ItemKind}
use Rattle.wac_types_base.specs.declared.item.«Type».{«Type» as TypeKind}
use Rattle.wac_types_base.specs.Collection.{Stands}
use Rattle.wac_types_base.specs.Entries.{Name, value_at}
use Rattle.wac_types_base.specs.Graph.{Among}
use Rattle.wac_types_base.proofs.Lists.{last_among}
use Rattle.wac_graph_core.specs.declared.edge.Edge.{Edge}
use Rattle.wac_graph_core.specs.declared.edge.Label.{Label}
use Rattle.wac_graph_core.specs.declared.edge.Follow.{Follow}
use Rattle.wac_graph_core.specs.Nodes.{NodeData, IsResource, defined_node}
use Rattle.wac_graph_core.specs.NodeMaps.{NodeMap, AreBelow, NoDefinition, IsDefinition, AreThose}
use Rattle.wac_graph_core.specs.Edges.{AddsEach, alias_edge, argument_edge, dependency_edge, follows, has}
use Rattle.wac_graph_core.specs.Graph.{Graph, node_at, NodeStands, EdgeStands, AreExports, IsGraph}
use Rattle.wac_graph_core.specs.Defining.{UsesType, Depends, IsDependencyOf, DefinesType, MayDefine, IsUsedBy, IsUserOf, ItemsStand}
use Rattle.wac_graph_core.proofs.NodeMap.{get-insert_same}
use Rattle.wac_graph_core.proofs.Found.{Among-front}
use Rattle.wac_graph_core.proofs.NodeSteps.{kept_at, new_at, each_node, AreOnce-insert, IsAbove-fresh, some_there}
use Rattle.wac_graph_core.proofs.EdgeSteps.{edge_from, edge_to, edge_label, IsAcyclic-by, AreKeyed-by}
use Rattle.wac_graph_core.proofs.GraphSteps.{AreWired-by, same_places, same_stated}
use Rattle.wac_graph_core.proofs.ExportSteps.{not_among, distinct_last}
use Rattle.wac_types_fit.proofs.Items.{Among-last}

-- an edge is old, or a dependency between nodes that stand
abbrev pub IsOldOrDependency : List Edge → NodeMap → Edge → Type 0
IsOldOrDependency es m d = Among d es ⊎ ((a : ℕ) × (b : ℕ) × (d ≡ dependency_edge a b) × IsSome (map.get m a) × IsSome (map.get m b))

module _ (g : Graph) (es : List Edge) (k : ℕ) (t : TypeKind) (name : Name) (free : node_at g k ≡ None) (unexported : value_at g.exports name ≡ None)
    (only : (d : Edge) → Among d es → IsOldOrDependency g.edges (map.insert g.nodes k (defined_node t name)) d) (keeps : (d : Edge) → Among d g.edges → Among d es) where
  abbrev pub defined_graph : Graph
  defined_graph = record g { nodes = map.insert g.nodes k (defined_node t name); edges = es; exports = g.exports ++ (name, k) ∷ [] }

  no_alias_label : (n : Name) → Label.Alias n ≡ Label.Dependency → ⊥
  no_alias_label n h = absurd (cc)

  no_argument_label : (n : Name) → Label.Argument n ≡ Label.Dependency → ⊥
  no_argument_label n h = absurd (cc)

  not_followed : (d : Edge) (a b : ℕ) → d ≡ dependency_edge a b → follows Follow.Flow d.label ≡ true → ⊥
  not_followed d a b same is = absurd (cc (ap (follows Follow.Flow) (edge_label same), is))

  old_followed : (d : Edge) → Among d es → follows Follow.Flow d.label ≡ true → Among d g.edges
  old_followed d at is = elim (only d at) [ inl old ↦ old | inr r ↦ absurd (not_followed d r.0 r.1 r.2 is) ]

  node_there : map.get (map.insert g.nodes k (defined_node t name)) k ≡ Some (defined_node t name)
  node_there = get-insert_same g.nodes k (defined_node t name)

  dependency_stands : (e : Edge) (a b : ℕ) → e ≡ dependency_edge a b → IsSome (map.get (map.insert g.nodes k (defined_node t name)) a) → IsSome (map.get (map.insert g.nodes k (defined_node t name)) b) → EdgeStands defined_graph e
  dependency_stands e a b same from to =
      record {
        from = subst (λ j. IsSome (map.get (map.insert g.nodes k (defined_node t name)) j)) (sym (edge_from same)) from;
        to = subst (λ j. IsSome (map.get (map.insert g.nodes k (defined_node t name)) j)) (sym (edge_to same)) to;
        alias = λ n l. absurd (no_alias_label n (sym l ∙ edge_label same));
        export = λ n l. absurd (no_alias_label n (sym l ∙ edge_label same));
        argument = λ n l. absurd (no_argument_label n (sym l ∙ edge_label same));
      }

  told_new : (j : ℕ) (n : Name) → j ≡ k → Some name ≡ Some n → Among (n, j) (g.exports ++ (name, k) ∷ [])
  told_new j n here told =
      let same : name ≡ n = cc in
      subst (λ n. Among (n, j) (g.exports ++ (name, k) ∷ [])) same (subst (λ j. Among (name, j) (g.exports ++ (name, k) ∷ [])) (sym here) (last_among g.exports (name, k)))

  defined_exports : AreExports g.nodes g.exports → AreExports (map.insert g.nodes k (defined_node t name)) (g.exports ++ (name, k) ∷ [])
  defined_exports is =
      record {
        distinct = distinct_last g.exports name k is.distinct (not_among g.exports name unexported);
        stand = λ n j m. elim (Among-last g.exports (name, k) (n, j) m) [
          | inl old ↦ some_there g.nodes (map.insert g.nodes k (defined_node t name)) j (IsAbove-fresh g.nodes k (defined_node t name) free) (is.stand n j old)
          | inr same ↦ subst IsSome (sym (ap (map.get (map.insert g.nodes k (defined_node t name))) (ap (λ (e : Name × ℕ). e.1) same) ∙ node_there)) refl
        ];
        named = λ j x n here told. elim (new_at g.nodes k (defined_node t name) j x here) [
          | inl p ↦ told_new j n p.0 (ap (λ (y : NodeData). y.export) p.1 ∙ told)
          | inr q ↦ Among-front g.exports (name, k) (n, j) (is.named j x n q.1 told)
        ];
      }

  pub IsGraph-defined : Stands g.types (ItemKind.Ty t) → NoDefinition g.nodes (ItemKind.Ty t) → (IsResource t → ⊥) → IsGraph g → IsGraph (record g { nodes = map.insert g.nodes k (defined_node t name); edges = es; exports = g.exports ++ (name, k) ∷ [] })
  IsGraph-defined stands none named is =
      record {
        nodes = each_node (NodeStands g.types g.places) g.nodes k (defined_node t name)
            (record { item = stands; of = λ id e. absurd (cc (e)); made = λ r. absurd (cc (r)); only = λ id e. absurd (cc (e)); defined = λ r. record { type = t; is = refl; no_resource = named }; instance = λ id p e at. absurd (cc (e)) }) is.nodes;
        once = AreOnce-insert g.nodes k (defined_node t name) (λ x r. absurd (cc (r))) (λ r. none) is.once;
        acyclic = IsAcyclic-by g.edges es old_followed is.acyclic;
        keyed = AreKeyed-by g.edges es (λ i j n at. old_followed (alias_edge i j n) at refl) (λ i a n at. old_followed (argument_edge a i n) at refl) is.keyed;
        wired = AreWired-by g defined_graph (IsAbove-fresh g.nodes k (defined_node t name) free) (same_places g.nodes g.places) (same_stated g.types) is
            (λ e at. elim (only e at) [ inl old ↦ inl old | inr r ↦ inr (dependency_stands e r.0 r.1 r.2 r.3 r.4) ])
            (λ i j n at. keeps (alias_edge i j n) at)
            (λ j x at role. elim (new_at g.nodes k (defined_node t name) j x at) [
              | inl p ↦ absurd (cc (ap (λ (y : NodeData). y.role) p.1, role))
              | inr q ↦ inl (record { node = x; there = q.1; role = refl; of = refl; item = refl })
            ]);
        exported = defined_exports is.exported;
        packages = is.packages;
      }

-- ---- as the call makes it

module _ (g : Graph) (k : ℕ) (t : TypeKind) (name : Name) (free : node_at g k ≡ None) (sources targets : List ℕ)
    (used : AreThose g.nodes (λ x. IsUsedBy g.types t x) sources) (users : AreThose g.nodes (λ x. IsUserOf g.types t x) targets) (mid es : List Edge)
    (first : AddsEach (λ a. dependency_edge a k) g.edges mid sources) (second : AddsEach (λ b. dependency_edge k b) mid es targets) where
  abbrev m : NodeMap
  m = map.insert g.nodes k (defined_node t name)

  abbrev made_graph : List (Name × ℕ) → Graph
  made_graph xs = record g { nodes = m; edges = es; exports = xs }

  keeps_edges : (d : Edge) → Among d g.edges → Among d es
  keeps_edges d at = (second d).1 (inl ((first d).1 (inl at)))

  here : map.get m k ≡ Some (defined_node t name)
  here = get-insert_same g.nodes k (defined_node t name)

  old_there : (a : ℕ) (x : NodeData) → map.get g.nodes a ≡ Some x → map.get m a ≡ Some x
  old_there a x at = kept_at g.nodes k (defined_node t name) a x free at

  other_node : (a : ℕ) (x : NodeData) → map.get g.nodes a ≡ Some x → a ≢ k
  other_node a x at e = absurd (cc (at, ap (map.get g.nodes) e, free))

  only_edges : (d : Edge) → Among d es → IsOldOrDependency g.edges m d
  only_edges d at = elim ((second d).0 at) [
    | inl old ↦ elim ((first d).0 old) [
      | inl older ↦ inl older
      | inr r ↦
          let x = (used r.0).0 r.1 in
          inr (r.0, k, r.2, subst IsSome (sym (old_there r.0 x.0 x.1)) refl, subst IsSome (sym here) refl)
    ]
    | inr r ↦
        let x = (users r.0).0 r.1 in
        inr (k, r.0, r.2, subst IsSome (sym here) refl, subst IsSome (sym (old_there r.0 x.0 x.1)) refl)
  ]

  new_definition : IsDefinition m k (ItemKind.Ty t)
  new_definition = record { node = defined_node t name; there = here; role = refl; type = refl }

  on_source : (xs : List (Name × ℕ)) (a : ℕ) (x : NodeData) → map.get g.nodes a ≡ Some x → IsUsedBy g.types t x → Depends (made_graph xs) a k
  on_source xs a x at u =
      record {
        source = u.source;
        target = t;
        from = record { node = x; there = old_there a x at; role = u.role; type = u.type };
        to = new_definition;
        apart = other_node a x at;
        uses = u.uses;
      }

  to_target : (xs : List (Name × ℕ)) (b : ℕ) (x : NodeData) → map.get g.nodes b ≡ Some x → IsUserOf g.types t x → Depends (made_graph xs) k b
  to_target xs b x at u =
      record {
        source = t;
        target = u.target;
        from = new_definition;
        to = record { node = x; there = old_there b x at; role = u.role; type = u.type };
        apart = λ e. other_node b x at (sym e);
        uses = u.uses;
      }

  type_here : (s : TypeKind) → IsDefinition m k (ItemKind.Ty s) → s ≡ t
  type_here s d =
      let node : d.node ≡ defined_node t name = same_Some _ _ (sym d.there ∙ here) in
      let kinds : ItemKind.Ty s ≡ ItemKind.Ty t = sym d.type ∙ ap (λ (y : NodeData). y.item_kind) node in
      cc

  source_of : (xs : List (Name × ℕ)) (a : ℕ) → Depends (made_graph xs) a k → has sources a ≡ true
  source_of xs a d = elim (new_at g.nodes k (defined_node t name) a d.from.node d.from.there) [
    | inl p ↦ absurd (d.apart p.0)
    | inr q ↦
        (used a).1
        (d.from.node, q.1, record { source = d.source; role = d.from.role; type = d.from.type; uses = subst (λ s. UsesType g.types s d.source) (type_here d.target d.to) d.uses })
  ]

  target_of : (xs : List (Name × ℕ)) (b : ℕ) → Depends (made_graph xs) k b → has targets b ≡ true
  target_of xs b d = elim (new_at g.nodes k (defined_node t name) b d.to.node d.to.there) [
    | inl p ↦ absurd (d.apart (sym p.0))
    | inr q ↦
        (users b).1
        (d.to.node, q.1, record { target = d.target; role = d.to.role; type = d.to.type; uses = subst (λ s. UsesType g.types d.target s) (type_here d.source d.from) d.uses })
  ]

  is_added : (xs : List (Name × ℕ)) (d : Edge) → Among d es → Among d g.edges ⊎ IsDependencyOf (made_graph xs) k d
  is_added xs d at = elim ((second d).0 at) [
    | inl old ↦ elim ((first d).0 old) [
      | inl older ↦ inl older
      | inr r ↦
          let x = (used r.0).0 r.1 in
          inr (record { a = r.0; b = k; is = r.2; depends = on_source xs r.0 x.0 x.1 x.2; ends = inr refl })
    ]
    | inr r ↦
        let x = (users r.0).0 r.1 in
        inr (record { a = k; b = r.0; is = r.2; depends = to_target xs r.0 x.0 x.1 x.2; ends = inl refl })
  ]

  joined : (xs : List (Name × ℕ)) (d : Edge) → IsDependencyOf (made_graph xs) k d → Among d es
  joined xs d r = elim r.ends [
    | inl e ↦
        (second d).1
        (inr (r.b, target_of xs r.b (subst (λ a. Depends (made_graph xs) a r.b) e r.depends), r.is ∙ ap (λ a. dependency_edge a r.b) e))
    | inr e ↦
        (second d).1
        (inl ((first d).1 (inr (r.a, source_of xs r.a (subst (Depends (made_graph xs) r.a) e r.depends), r.is ∙ ap (dependency_edge r.a) e))))
  ]

  is_there : (xs : List (Name × ℕ)) (d : Edge) → Among d g.edges ⊎ IsDependencyOf (made_graph xs) k d → Among d es
  is_there xs d (inl at) = keeps_edges d at
  is_there xs d (inr r) = joined xs d r

  pub define_step : (ns : NodeMap) (xs : List (Name × ℕ)) (own : Name) → AreBelow g.nodes k → ns ≡ m → xs ≡ g.exports ++ (name, k) ∷ [] → MayDefine g name t own → DefinesType g (record g { nodes = ns; edges = es; exports = xs }) name t k
  define_step ns xs own above nodes exports may =
      subst (λ ns. DefinesType g (record g { nodes = ns; edges = es; exports = xs }) name t k) (sym nodes)
      (record {
        definable = may.definable;
        valid = may.valid;
        unexported = may.unexported;
        above = above;
        free = free;
        edges = λ d. (is_added xs d, is_there xs d);
        made = ap (λ ys. record g { nodes = m; edges = es; exports = ys }) exports;
      })

  pub defined_by : (ns : NodeMap) (xs : List (Name × ℕ)) (own : Name) → ns ≡ m → xs ≡ g.exports ++ (name, k) ∷ [] → MayDefine g name t own → Stands g.types (ItemKind.Ty t) → IsGraph g
      → IsGraph (record g { nodes = ns; edges = es; exports = xs })
  defined_by ns xs own nodes exports may stands is =
      subst (λ ns. IsGraph (record g { nodes = ns; edges = es; exports = xs })) (sym nodes)
      (subst (λ ys. IsGraph (record g { nodes = m; edges = es; exports = ys })) (sym exports)
      (IsGraph-defined g es k t name free may.unexported only_edges keeps_edges stands may.definable.0 may.definable.1 is))

-- the items of a graph stand
pub items_stand : (g : Graph) → IsGraph g → ItemsStand g.types g.nodes
items_stand g is k x at = (is.nodes k x at).item

-- the nodes of such a list stand
pub those_stand : (m : NodeMap) (IsSo : NodeData → Type 0) (ks : List ℕ) → AreThose m IsSo ks → (k : ℕ) → has ks k ≡ true → IsSome (map.get m k)
those_stand m IsSo ks are k h = let r = (are k).0 h in subst IsSome (sym r.1) refl
