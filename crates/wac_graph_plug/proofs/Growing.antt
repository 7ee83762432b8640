-- What stays when a graph grows.
use Rattle.std.proofs.Common.{◌≡◌, ℕ, List, [], ◌∷◌, ◌++◌, Option, Some, None, IsSome, refl, sym, ap, subst, ◌∙◌, inl, inr}
use Rattle.std.proofs.lemmas.Option.{same_Some}
use Rattle.std.proofs.lemmas.Bool.{cases_eq}
use Rattle.std.proofs.lemmas.List.{append-nil, append_assoc}
use Rattle.std.specs.FinMap as map
use Rattle.wac_types_base.specs.declared.item.ItemKind.{ItemKind}
use Rattle.wac_types_base.specs.Entries.{Name}
use Rattle.wac_types_base.specs.Graph.{Among}
use Rattle.wac_graph_core.specs.declared.ids.PackageId.{PackageId}
use Rattle.wac_graph_core.specs.declared.edge.Edge.{Edge}
use Rattle.wac_graph_core.specs.Nodes.{NodeData, Role, plain_node}
use Rattle.wac_graph_core.specs.NodeMaps.{NodeMap}
use Rattle.wac_graph_core.specs.Graph.{Graph, node_at, ContainsNode, package_of, ContainsPackage, item_export}
use Rattle.wac_graph_core.specs.Steps.{Instantiates, Aliases, SetsArgument, with_node, with_edges}
use Rattle.wac_graph_core.specs.Exporting.{Exports}
use Rattle.wac_graph_core.proofs.NodeMap.{get-insert_same, get-insert_other}
use Rattle.wac_graph_core.proofs.NodeSteps.{kept_at}
use Rattle.wac_graph_plug.specs.declared.matching.Match.{Match}
use Rattle.wac_graph_plug.specs.Steps.{StaysNode, Grown, HasExport, Passes, ExportsOne}
use Rattle.wac_graph_plug.specs.Stops.{world_of, worlds_of}

stays : (g : Graph) (k : ℕ) (x : NodeData) → node_at g k ≡ Some x → StaysNode g k x
stays g k x at = record { node = x; there = at; role = refl; of = refl; item = refl; name = refl }

pub Grown-refl : (g : Graph) → Grown g g
Grown-refl g =
    record { types = refl; places = refl; nodes = λ k x at. stays g k x at; edges = λ e m. m; exports = ([], sym (append-nil g.exports)) }

pub Grown-same : (g h : Graph) → h ≡ g → Grown g h
Grown-same g h same = subst (Grown g) (sym same) (Grown-refl g)

pub Grown-trans : (f g h : Graph) → Grown f g → Grown g h → Grown f h
Grown-trans f g h a b =
    record {
      types = b.types ∙ a.types;
      places = b.places ∙ a.places;
      nodes = λ k x at.
          let s = a.nodes k x at in
          let t = b.nodes k s.node s.there in
          record { node = t.node; there = t.there; role = t.role ∙ s.role; of = t.of ∙ s.of; item = t.item ∙ s.item; name = t.name ∙ s.name };
      edges = λ e m. b.edges e (a.edges e m);
      exports = (a.exports.0 ++ b.exports.0, b.exports.1 ∙ ap (λ xs. xs ++ b.exports.0) a.exports.1 ∙ append_assoc f.exports a.exports.0 b.exports.0);
    }

-- ---- single calls

fresh_node : (g : Graph) (k : ℕ) (n : NodeData) (es : List Edge) → node_at g k ≡ None → ((e : Edge) → Among e g.edges → Among e es) → Grown g (with_edges (with_node g k n) es)
fresh_node g k n es free keeps =
    record {
      types = refl;
      places = refl;
      nodes = λ j x at. stays (with_edges (with_node g k n) es) j x (kept_at g.nodes k n j x free at);
      edges = keeps;
      exports = ([], sym (append-nil g.exports));
    }

pub Grown-instance : (g h : Graph) (id : PackageId) (k : ℕ) → Instantiates g h id k → Grown g h
Grown-instance g h id k s =
    subst (Grown g) (sym s.made) (fresh_node g k (plain_node Role.Instance (Some id) (ItemKind.Instance s.of.instance_type)) g.edges s.free (λ e m. m))

pub Grown-alias : (g h : Graph) (i : ℕ) (n : Name) (k : ℕ) → Aliases g h i n k → Grown g h
Grown-alias g h i n k (inl again) = Grown-same g h again.same
Grown-alias g h i n k (inr s) = subst (Grown g) (sym s.made) (fresh_node g k (plain_node Role.Aliased None s.item) h.edges s.free (λ e m. (s.edges e).1 (inl m)))

pub Grown-set : (g h : Graph) (i : ℕ) (n : Name) (a : ℕ) → SetsArgument g h i n a → Grown g h
Grown-set g h i n a s = elim s.step [
  | inl keep ↦ Grown-same g h keep.same
  | inr add ↦ subst (Grown g) (sym add.made) (record {
    types = refl;
    places = refl;
    nodes = λ j x at. stays (with_edges g h.edges) j x at;
    edges = λ e m. (add.edges e).1 (inl m);
    exports = ([], sym (append-nil g.exports));
  })
]

written : (m : NodeMap) (k : ℕ) (n : Name) (o : NodeData) → map.get m k ≡ Some o → (g : Graph) → g.nodes ≡ map.insert m k (record o { export = Some n }) → (j : ℕ) (x : NodeData) → map.get m j ≡ Some x → StaysNode g j x
written m k n o at g nodes j x there = elim (cases_eq j k) [
  | inl e ↦
      let same : o ≡ x = same_Some _ _ (sym at ∙ ap (map.get m) (sym e) ∙ there) in
      record {
        node = record o { export = Some n };
        there = ap (λ m. map.get m j) nodes ∙ ap (map.get (map.insert m k (record o { export = Some n }))) e ∙ get-insert_same m k (record o { export = Some n });
        role = ap (λ (y : NodeData). y.role) same;
        of = ap (λ (y : NodeData). y.of) same;
        item = ap (λ (y : NodeData). y.item_kind) same;
        name = ap (λ (y : NodeData). y.name) same;
      }
  | inr ne ↦ stays g j x (ap (λ m. map.get m j) nodes ∙ get-insert_other m k (record o { export = Some n }) j ne ∙ there)
]

pub Grown-export : (g h : Graph) (k : ℕ) (n : Name) → Exports g h k n → Grown g h
Grown-export g h k n s =
    record {
      types = ap (λ (x : Graph). x.types) s.made;
      places = ap (λ (x : Graph). x.places) s.made;
      nodes = λ j x at. written g.nodes k n s.node s.there h (ap (λ (x : Graph). x.nodes) s.made) j x at;
      edges = λ e m. subst (Among e) (sym (ap (λ (x : Graph). x.edges) s.made)) m;
      exports = ((n, k) ∷ [], ap (λ (x : Graph). x.exports) s.made);
    }

pub Grown-passes : (socket plug : ℕ) (m : Match) (g h : Graph) → Passes socket plug m g h → Grown g h
Grown-passes socket plug m g h s = Grown-trans g s.middle h (Grown-alias g s.middle plug m.export s.alias s.aliased) (Grown-set s.middle h socket m.import s.alias s.set)

pub Grown-exports : (socket : ℕ) (n : Name) (g h : Graph) → ExportsOne socket n g h → Grown g h
Grown-exports socket n g h s = Grown-trans g s.middle h (Grown-alias g s.middle socket n s.alias s.aliased) (Grown-export s.middle h s.alias n s.exported)

-- ---- what stays

module _ (g h : Graph) (grown : Grown g h) where
  pub ContainsNode-grown : (k : ℕ) → ContainsNode g k → ContainsNode h k
  ContainsNode-grown k there = by_node (node_at g k) refl there
    where
      by_node : (o : Option NodeData) → node_at g k ≡ o → IsSome o → ContainsNode h k
      by_node None e is = absurd (cc (is))
      by_node (Some x) e is = subst IsSome (sym (grown.nodes k x e).there) refl

  pub same_package : (id : PackageId) → package_of h id ≡ package_of g id
  same_package id = ap (λ ps. package_of (record h { places = ps }) id) grown.places

  pub ContainsPackage-grown : (id : PackageId) → ContainsPackage g id → ContainsPackage h id
  ContainsPackage-grown id there = subst IsSome (sym (same_package id)) there

  pub HasExport-grown : (k : ℕ) (n : Name) → HasExport g k n → HasExport h k n
  HasExport-grown k n has =
      let s = grown.nodes k has.1.node has.1.there in (
        has.0,
        record {
          node = s.node;
          there = s.there;
          kind = ap (λ c. item_export c s.node.item_kind n) grown.types ∙ ap (λ x. item_export g.types x n) s.item ∙ has.1.kind;
        },
      )

  pub same_world : (id : PackageId) → world_of h id ≡ world_of g id
  same_world id = ap (λ c. world_of (record h { types = c }) id) grown.types ∙ ap (λ ps. world_of (record h { types = g.types; places = ps }) id) grown.places

pub worlds_same : (g h : Graph) → Grown g h → (ids : List PackageId) → worlds_of h ids ≡ worlds_of g ids
worlds_same g h grown [] = refl
worlds_same g h grown (id ∷ ids) = ap (λ w. w ∷ worlds_of h ids) (same_world g h grown id) ∙ ap (λ ws. world_of g id ∷ ws) (worlds_same g h grown ids)
