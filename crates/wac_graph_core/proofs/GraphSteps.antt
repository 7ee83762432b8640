-- What holds of graphs is kept by their steps.
use Rattle.std.proofs.Common.{◌≡◌, ◌≢◌, ◌⊎◌, ℕ, false, List, [], ◌∷◌, Option, Some, None, IsSome, refl, sym, ap, subst, ◌∙◌, inl, inr}
use Rattle.std.specs.Ordering.{nat_cmp}
use Rattle.std.specs.FinMap as map
use Rattle.wac_types_base.specs.declared.item.ItemKind.{ItemKind}
use Rattle.wac_types_base.specs.Record.{Collection}
use Rattle.wac_types_base.specs.Collection.{Stands, Grows}
use Rattle.wac_types_base.specs.Stated.{stated_in, stated_of, instance_type, imports_of, exports_of}
use Rattle.wac_types_base.specs.Tree.{tree}
use Rattle.wac_types_base.specs.Fits.{Fits}
use Rattle.wac_types_fit.specs.Trees.{tree_in}
use Rattle.wac_types_base.specs.Entries.{Name, value_at}
use Rattle.wac_types_base.specs.Graph.{Among}
use Rattle.wac_types_names.specs.Packaged.{Packaged}
use Rattle.wac_graph_core.specs.declared.ids.PackageId.{PackageId}
use Rattle.wac_graph_core.specs.declared.edge.Edge.{Edge}
use Rattle.wac_graph_core.specs.declared.edge.Label.{Label}
use Rattle.wac_graph_core.specs.declared.edge.Follow.{Follow}
use Rattle.wac_graph_core.specs.declared.package.Place.{Place}
use Rattle.wac_graph_core.specs.Nodes.{NodeData, Role, plain_node}
use Rattle.wac_graph_core.specs.NodeMaps.{NodeMap, NoImport, NoDefinition}
use Rattle.wac_graph_core.specs.Edges.{alias_edge, argument_edge, HasAlias, HasArgument, AreEdges, has, IsReached}
use Rattle.wac_graph_core.specs.Graph.{passed, passed_as, Graph, with_types, node_at, ContainsNode, package_in, package_of, package_if, package_made, instantiated, PackageStands, NodeStands, GivesExport, FillsImport, EdgeStands, AreWired, AreExports, IsGraph, IsStatedExport, IsStatedImport, is_instance}
use Rattle.wac_graph_core.specs.Steps.{with_node, with_edges, AddsEdge, NodeFits}
use Rattle.wac_graph_core.proofs.NodeMap.{get-insert_same}
use Rattle.wac_graph_core.proofs.NodeSteps.{kept_at, new_at, each_node, AreOnce-insert, SameBut, IsAbove, IsAbove-fresh, IsAbove-same, some_there}
use Rattle.wac_graph_core.proofs.EdgeSteps.{edge_from, edge_to, edge_label, IsAcyclic-by, IsAcyclic-leaf, IsAcyclic-between, AreKeyed-sub, AreKeyed-alias, AreKeyed-argument}

-- ---- nothing

pub no_node : (k : ℕ) (x : NodeData) → map.get (map.empty {X = NodeData} {R = nat_cmp}) k ≡ Some x → ⊥
no_node k x at = absurd (cc (map.get-empty {X = NodeData} nat_cmp k, at))

no_package : (id : PackageId) (p : Packaged) → package_in [] id ≡ Some p → ⊥
no_package id p at = absurd (cc (at))

pub IsGraph-empty : (c : Collection) → IsGraph (with_types c)
IsGraph-empty c =
    record {
      nodes = λ k n at. absurd (no_node k n at);
      once = record { imports = λ j k n a b. absurd (no_node j a.node a.there); definitions = λ j k n a b. absurd (no_node j a.node a.there) };
      acyclic = (λ k. 0, record { rises = λ e at is. absurd at });
      keyed = record { one_alias = λ i j k n a b. absurd a; one_source = λ i j k m n a b. absurd a; one_argument = λ i a b n p q. absurd p };
      wired = record { edges = λ e at. absurd at; sources = λ k x at is. absurd (no_node k x at) };
      exported = record { distinct = tt; stand = λ n k at. absurd at; named = λ k x n at is. absurd (no_node k x at) };
      packages = record { stand = λ id p at. absurd (no_package id p at); low = λ i p at is. absurd (cc (at)); once = λ i j p q at bt same. absurd (no_package i p at) };
    }

pub empty_graph : (c : Collection) (ns : NodeMap) (es : List Edge) (xs : List (Name × ℕ)) (ps : List Place) → ns ≡ map.empty → es ≡ [] → xs ≡ [] → ps ≡ []
    → IsGraph (record { types = c; nodes = ns; edges = es; exports = xs; places = ps })
empty_graph c ns es xs ps a b d e =
    subst (λ ns. IsGraph (record { types = c; nodes = ns; edges = es; exports = xs; places = ps })) (sym a)
    (subst (λ es. IsGraph (record { types = c; nodes = map.empty; edges = es; exports = xs; places = ps })) (sym b)
    (subst (λ xs. IsGraph (record { types = c; nodes = map.empty; edges = []; exports = xs; places = ps })) (sym d)
    (subst (λ ps. IsGraph (record { types = c; nodes = map.empty; edges = []; exports = []; places = ps })) (sym e) (IsGraph-empty c))))

-- ---- what stands after a step

-- the packages of the nodes are still those
abbrev pub KeepsUsed : NodeMap → List Place → List Place → Type 0
KeepsUsed m ps qs = (k : ℕ) (x : NodeData) (id : PackageId) → map.get m k ≡ Some x → x.of ≡ Some id → IsSome (package_in ps id) → package_in qs id ≡ package_in ps id

pub same_places : (m : NodeMap) (ps : List Place) → KeepsUsed m ps ps
same_places m ps k x id at of there = refl

-- what stands has its stated type still
abbrev pub KeepsStated : Collection → Collection → Type 0
KeepsStated c d = (k : ItemKind) → Stands c k → stated_of d k ≡ stated_of c k

pub same_stated : (c : Collection) → KeepsStated c c
same_stated c k stands = refl

-- the package of an instance stands
pub instantiated_stands : (g : Graph) (k : ℕ) (p : Packaged) → IsGraph g → instantiated g k ≡ Some p → PackageStands g.types p
instantiated_stands g k p is at = by_node (node_at g k) at
  where
    by_package : (o : Option PackageId) → package_if g o ≡ Some p → PackageStands g.types p
    by_package None h = absurd (cc (h))
    by_package (Some id) h = is.packages.stand id p h

    by_node : (o : Option NodeData) → package_made g o ≡ Some p → PackageStands g.types p
    by_node None h = absurd (cc (h))
    by_node (Some x) h = by_package x.of h

module _ (g h : Graph) (above : IsAbove g.nodes h.nodes) (keeps : KeepsUsed g.nodes g.places h.places) (stated : KeepsStated g.types h.types) (is : IsGraph g) where
  package_kept : (k : ℕ) (x : NodeData) → node_at g k ≡ Some x → (o p : Option PackageId) → x.of ≡ o → p ≡ o → IsSome (package_if g o) → package_if h p ≡ package_if g o
  package_kept k x at None p of e there = absurd (cc (there))
  package_kept k x at (Some id) p of e there = ap (package_if h) e ∙ keeps k x id at of there

  made_kept : (k : ℕ) (o : Option NodeData) → node_at g k ≡ o → IsSome (package_made g o) → instantiated h k ≡ package_made g o
  made_kept k None e there = absurd (cc (there))
  made_kept k (Some x) e there =
      let s = above k x e in
      ap (package_made h) s.there ∙ package_kept k x e x.of s.node.of refl s.of there

  pub instantiated_kept : (k : ℕ) (p : Packaged) → instantiated g k ≡ Some p → instantiated h k ≡ Some p
  instantiated_kept k p at = made_kept k (node_at g k) refl (subst IsSome (sym at) refl) ∙ at

  -- a node's item has its stated type still
  stated_item : (k : ℕ) (x : NodeData) (at : node_at g k ≡ Some x) → stated_of h.types (above k x at).node.item_kind ≡ stated_of g.types x.item_kind
  stated_item k x at = ap (stated_of h.types) (above k x at).item ∙ stated x.item_kind (is.nodes k x at).item

  GivesExport-kept : (i : ℕ) (n : Name) (k : ℕ) → GivesExport g i n k → GivesExport h i n k
  GivesExport-kept i n k s =
      let x = above i s.instance s.instance_at in
      let y = above k s.alias s.alias_at in
      record {
        instance = x.node;
        instance_at = x.there;
        one = ap is_instance x.item ∙ s.one;
        alias = y.node;
        alias_at = y.there;
        export = ap (λ t. value_at (exports_of t) n) (stated_item i s.instance s.instance_at) ∙ s.export ∙ ap Some (sym (stated_item k s.alias s.alias_at));
      }

  passed_still : (k : ℕ) (x : NodeData) (at : node_at g k ≡ Some x) → passed h.types (above k x at).node ≡ passed g.types x
  passed_still k x at = ap (λ r. passed_as r (stated_of h.types (above k x at).node.item_kind)) (above k x at).role ∙ ap (passed_as x.role) (stated_item k x at)

  FillsImport-kept : (a i : ℕ) (n : Name) → FillsImport g a i n → FillsImport h a i n
  unfolding tree_in
  FillsImport-kept a i n s =
      let x = above a s.argument s.argument_at in
      record {
        argument = x.node;
        argument_at = x.there;
        of = s.of;
        is = instantiated_kept i s.of s.is;
        asked = s.asked;
        import = ap (λ t. value_at (imports_of t) n) (stated (ItemKind.Component s.of.ty) (instantiated_stands g i s.of is s.is).world) ∙ s.import;
        fits = subst (λ t. Fits (tree t) (tree s.asked)) (sym (passed_still a s.argument s.argument_at)) s.fits;
      }

  pub EdgeStands-kept : (e : Edge) → EdgeStands g e → EdgeStands h e
  EdgeStands-kept e s =
      record {
        from = some_there g.nodes h.nodes e.from above s.from;
        to = some_there g.nodes h.nodes e.to above s.to;
        alias = λ n l. let x = s.alias n l in let y = above e.to x.0 x.1 in (y.node, y.there, y.role ∙ x.2);
        export = λ n l. GivesExport-kept e.from n e.to (s.export n l);
        argument = λ n l. FillsImport-kept e.from e.to n (s.argument n l);
      }

  abbrev pub Sourced : ℕ → Type 0
  Sourced k = (i : ℕ) × (n : Name) × HasAlias h.edges i n k

  pub AreWired-by : ((e : Edge) → Among e h.edges → Among e g.edges ⊎ EdgeStands h e) → ((i k : ℕ) (n : Name) → HasAlias g.edges i n k → HasAlias h.edges i n k)
      → ((k : ℕ) (x : NodeData) → node_at h k ≡ Some x → x.role ≡ Role.Aliased → SameBut g.nodes k x ⊎ Sourced k) → AreWired h
  AreWired-by back forth from =
      record {
        edges = λ e at. elim (back e at) [ inl old ↦ EdgeStands-kept e (is.wired.edges e old) | inr new ↦ new ];
        sources = λ k x at role. elim (from k x at role) [
          | inl s ↦ let r = is.wired.sources k s.node s.there (s.role ∙ role) in (r.0, r.1, forth r.0 k r.1 r.2)
          | inr s ↦ s
        ];
      }

pub NodeStands-kept : (c d : Collection) (ps qs : List Place) (x y : NodeData) → ((k : ItemKind) → Stands c k → Stands d k) → ((id : PackageId) → x.of ≡ Some id → IsSome (package_in ps id) → package_in qs id ≡ package_in ps id)
    → x.role ≡ y.role → x.of ≡ y.of → x.item_kind ≡ y.item_kind → NodeStands c ps x → NodeStands d qs y
NodeStands-kept c d ps qs x y stand keeps role of item is =
    record {
      item = subst (Stands d) item (stand x.item_kind is.item);
      of = λ id e. subst IsSome (sym (keeps id (of ∙ e) (is.of id (of ∙ e)))) (is.of id (of ∙ e));
      made = λ r. subst IsSome of (is.made (role ∙ r));
      only = λ id e. sym role ∙ is.only id (of ∙ e);
      defined = λ r. let d = is.defined (role ∙ r) in record { type = d.type; is = sym item ∙ d.is; no_resource = d.no_resource };
      instance = λ id p e at. sym item ∙ is.instance id p (of ∙ e) (sym (keeps id (of ∙ e) (is.of id (of ∙ e))) ∙ at);
    }

pub AreExports-fresh : (m : NodeMap) (k : ℕ) (n : NodeData) (xs : List (Name × ℕ)) → map.get m k ≡ None → n.export ≡ None → AreExports m xs → AreExports (map.insert m k n) xs
AreExports-fresh m k n xs free none is =
    record {
      distinct = is.distinct;
      stand = λ name j at. some_there m (map.insert m k n) j (IsAbove-fresh m k n free) (is.stand name j at);
      named = λ j x name at e. elim (new_at m k n j x at) [
        | inl p ↦ absurd (cc (none, ap (λ (y : NodeData). y.export) p.1, e))
        | inr q ↦ is.named j x name q.1 e
      ];
    }

-- ---- steps

-- a node is added that is no alias
pub IsGraph-new_node : (g : Graph) (k : ℕ) (n : NodeData) → node_at g k ≡ None → NodeStands g.types g.places n → (n.role ≡ Role.Aliased → ⊥) → ((x : Name) → n.role ≡ Role.Imported x → NoImport g.nodes x)
    → (n.role ≡ Role.Defined → NoDefinition g.nodes n.item_kind) → n.export ≡ None → IsGraph g → IsGraph (with_node g k n)
IsGraph-new_node g k n free stands no_alias no_import no_definition none is =
    record {
      nodes = each_node (NodeStands g.types g.places) g.nodes k n stands is.nodes;
      once = AreOnce-insert g.nodes k n no_import no_definition is.once;
      acyclic = is.acyclic;
      keyed = is.keyed;
      wired = AreWired-by g (with_node g k n) (IsAbove-fresh g.nodes k n free) (same_places g.nodes g.places) (same_stated g.types) is
          (λ e at. inl at) (λ i j m at. at)
          (λ j x at role. elim (new_at g.nodes k n j x at) [
            | inl p ↦ absurd (no_alias (ap (λ (y : NodeData). y.role) p.1 ∙ role))
            | inr q ↦ inl (record { node = x; there = q.1; role = refl; of = refl; item = refl })
          ]);
      exported = AreExports-fresh g.nodes k n g.exports free none is.exported;
      packages = is.packages;
    }

-- an alias is made
module _ (g : Graph) (es : List Edge) (i k : ℕ) (n : Name) (item : ItemKind) (free : node_at g k ≡ None) (adds : AddsEdge g.edges es (alias_edge i k n)) where
  none_here : (j : ℕ) → ContainsNode g j → j ≢ k
  none_here j there e = absurd (cc (there, ap (node_at g) e, free))

  alias_there : map.get (map.insert g.nodes k (plain_node Role.Aliased None item)) k ≡ Some (plain_node Role.Aliased None item)
  alias_there = get-insert_same g.nodes k (plain_node Role.Aliased None item)

  abbrev aliased : Graph
  aliased = with_edges (with_node g k (plain_node Role.Aliased None item)) es

  gives_export : IsStatedExport g i n item → GivesExport aliased i n k
  gives_export s = record {
    instance = s.node;
    instance_at = kept_at g.nodes k (plain_node Role.Aliased None item) i s.node free s.there;
    one = s.kind.0;
    alias = plain_node Role.Aliased None item;
    alias_at = alias_there;
    export = s.kind.1;
  }

  new_stands : IsStatedExport g i n item → (e : Edge) → e ≡ alias_edge i k n → EdgeStands aliased e
  new_stands s e same =
      record {
        from = subst (λ j. IsSome (map.get (map.insert g.nodes k (plain_node Role.Aliased None item)) j)) (sym (edge_from same))
            (some_there g.nodes (map.insert g.nodes k (plain_node Role.Aliased None item)) i (IsAbove-fresh g.nodes k (plain_node Role.Aliased None item) free) (subst IsSome (sym s.there) refl));
        to = subst (λ j. IsSome (map.get (map.insert g.nodes k (plain_node Role.Aliased None item)) j)) (sym (edge_to same)) (subst IsSome (sym alias_there) refl);
        alias = λ m l. (plain_node Role.Aliased None item, ap (map.get (map.insert g.nodes k (plain_node Role.Aliased None item))) (edge_to same) ∙ alias_there, refl);
        export = λ m l. subst (λ (d : Edge). GivesExport aliased d.from m d.to) (sym same) (subst (λ m. GivesExport aliased i m k) (same_label m (sym (edge_label same) ∙ l)) (gives_export s));
        argument = λ m l. absurd (other_label m (sym l ∙ edge_label same));
      }
    where
      other_label : (m : Name) → Label.Argument m ≡ Label.Alias n → ⊥
      other_label m h = absurd (cc)

      same_label : (m : Name) → Label.Alias n ≡ Label.Alias m → n ≡ m
      same_label m h = cc

  pub IsGraph-alias : IsStatedExport g i n item → Stands g.types item → ((j : ℕ) → HasAlias g.edges i n j → ⊥) → IsGraph g → IsGraph (with_edges (with_node g k (plain_node Role.Aliased None item)) es)
  IsGraph-alias given stands none is =
      let there : ContainsNode g i = subst IsSome (sym given.there) refl in
      record {
        nodes = each_node (NodeStands g.types g.places) g.nodes k (plain_node Role.Aliased None item)
            (record { item = stands; of = λ id e. absurd (cc (e)); made = λ r. absurd (cc (r)); only = λ id e. absurd (cc (e)); defined = λ r. absurd (cc (r)); instance = λ id p e at. absurd (cc (e)) }) is.nodes;
        once = AreOnce-insert g.nodes k (plain_node Role.Aliased None item) (λ x r. absurd (cc (r))) (λ r. absurd (cc (r))) is.once;
        acyclic = IsAcyclic-leaf g.edges es (alias_edge i k n) adds
            (λ d at. (none_here d.from (is.wired.edges d at).from, none_here d.to (is.wired.edges d at).to)) (none_here i there) is.acyclic;
        keyed = AreKeyed-alias g.edges es i k n adds none (λ j m at. absurd (none_here k (is.wired.edges (alias_edge j k m) at).to refl)) is.keyed;
        wired = AreWired-by g (with_edges (with_node g k (plain_node Role.Aliased None item)) es) (IsAbove-fresh g.nodes k (plain_node Role.Aliased None item) free) (same_places g.nodes g.places) (same_stated g.types) is
            (λ e at. elim ((adds e).0 at) [ inl old ↦ inl old | inr same ↦ inr (new_stands given e same) ])
            (λ j l m at. (adds (alias_edge j l m)).1 (inl at))
            (λ j x at role. elim (new_at g.nodes k (plain_node Role.Aliased None item) j x at) [
              | inl p ↦ inr (i, n, subst (λ j. HasAlias es i n j) (sym p.0) ((adds (alias_edge i k n)).1 (inr refl)))
              | inr q ↦ inl (record { node = x; there = q.1; role = refl; of = refl; item = refl })
            ]);
        exported = AreExports-fresh g.nodes k (plain_node Role.Aliased None item) g.exports free refl is.exported;
        packages = is.packages;
      }

-- an item that fits an import that is asked
fills_import : (g : Graph) (a i : ℕ) (n : Name) (item : ItemKind) → IsStatedImport g i n item → NodeFits g a item → FillsImport g a i n
unfolding tree_in
fills_import g a i n item asked fits = record {
  argument = fits.node;
  argument_at = fits.there;
  of = asked.of;
  is = asked.is;
  asked = stated_of g.types item;
  import = asked.import;
  fits = fits.fits;
}

-- an argument is passed
pub IsGraph-argument : (g : Graph) (es : List Edge) (a i : ℕ) (n : Name) (seen : List ℕ) → AddsEdge g.edges es (argument_edge a i n) → ContainsNode g a → ContainsNode g i → FillsImport g a i n
    → ((b : ℕ) → HasArgument g.edges i n b → ⊥) → IsReached Follow.Flow g.edges (i ∷ []) seen → has seen a ≡ false → IsGraph g → IsGraph (with_edges g es)
IsGraph-argument g es a i n seen adds given there fills none reached away is =
    record {
      nodes = is.nodes;
      once = is.once;
      acyclic = IsAcyclic-between g.edges es (argument_edge a i n) seen adds reached away is.acyclic;
      keyed = AreKeyed-argument g.edges es a i n adds none is.keyed;
      wired = AreWired-by g (with_edges g es) (IsAbove-same g.nodes) (same_places g.nodes g.places) (same_stated g.types) is
          (λ e at. elim ((adds e).0 at) [ inl old ↦ inl old | inr same ↦ inr (stands e same) ])
          (λ j l m at. (adds (alias_edge j l m)).1 (inl at))
          (λ j x at role. inl (record { node = x; there = at; role = refl; of = refl; item = refl }));
      exported = is.exported;
      packages = is.packages;
    }
  where
    other_label : (m : Name) → Label.Alias m ≡ Label.Argument n → ⊥
    other_label m h = absurd (cc)

    same_label : (m : Name) → Label.Argument n ≡ Label.Argument m → n ≡ m
    same_label m h = cc

    fills_there : FillsImport (with_edges g es) a i n
    fills_there = FillsImport-kept g (with_edges g es) (IsAbove-same g.nodes) (same_places g.nodes g.places) (same_stated g.types) is a i n fills

    stands : (e : Edge) → e ≡ argument_edge a i n → EdgeStands (with_edges g es) e
    stands e same =
        record {
          from = subst (λ j. IsSome (map.get g.nodes j)) (sym (edge_from same)) given;
          to = subst (λ j. IsSome (map.get g.nodes j)) (sym (edge_to same)) there;
          alias = λ m l. absurd (other_label m (sym l ∙ edge_label same));
          export = λ m l. absurd (other_label m (sym l ∙ edge_label same));
          argument = λ m l. subst (λ (d : Edge). FillsImport (with_edges g es) d.from d.to m) (sym same) (subst (λ m. FillsImport (with_edges g es) a i m) (same_label m (sym (edge_label same) ∙ l)) fills_there);
        }

-- edges are dropped that are no aliases
pub IsGraph-fewer : (g : Graph) (es : List Edge) → ((d : Edge) → Among d es → Among d g.edges) → ((i k : ℕ) (n : Name) → HasAlias g.edges i n k → HasAlias es i n k) → IsGraph g → IsGraph (with_edges g es)
IsGraph-fewer g es sub aliases is =
    record {
      nodes = is.nodes;
      once = is.once;
      acyclic = IsAcyclic-by g.edges es (λ d at f. sub d at) is.acyclic;
      keyed = AreKeyed-sub g.edges es sub is.keyed;
      wired = AreWired-by g (with_edges g es) (IsAbove-same g.nodes) (same_places g.nodes g.places) (same_stated g.types) is
          (λ e at. inl (sub e at)) aliases
          (λ j x at role. inl (record { node = x; there = at; role = refl; of = refl; item = refl }));
      exported = is.exported;
      packages = is.packages;
    }

-- an argument is taken back
pub IsGraph-unset : (g : Graph) (es : List Edge) (a i : ℕ) (n : Name) → AreEdges es (λ d. Among d g.edges × (d ≢ argument_edge a i n)) → IsGraph g → IsGraph (with_edges g es)
IsGraph-unset g es a i n left is =
    IsGraph-fewer g es (λ d at. ((left d).0 at).0) (λ j k m at. (left (alias_edge j k m)).1 (at, λ same. absurd (other_label m (edge_label same)))) is
  where
    other_label : (m : Name) → Label.Alias m ≡ Label.Argument n → ⊥
    other_label m h = absurd (cc)

-- the same graph, by its nodes
pub IsGraph-nodes : (g : Graph) (ns m : NodeMap) → ns ≡ m → IsGraph (record g { nodes = m }) → IsGraph (record g { nodes = ns })
IsGraph-nodes g ns m same is = subst (λ ns. IsGraph (record g { nodes = ns })) (sym same) is

-- what stands has its stated type in a larger collection
pub stated_kept : (c d : Collection) (k : ItemKind) → Grows c d → Stands c k → stated_of d k ≡ stated_of c k
stated_kept c d k grows stands = ap stated_in (grows.keep k stands)

pub PackageStands-grown : (c d : Collection) (p : Packaged) → Grows c d → PackageStands c p → PackageStands d p
PackageStands-grown c d p grows is =
    record {
      world = grows.stand (ItemKind.Component p.ty) is.world;
      instance = grows.stand (ItemKind.Instance p.instance_type) is.instance;
      exports = stated_kept c d (ItemKind.Instance p.instance_type) grows is.instance ∙ is.exports
          ∙ ap instance_type (sym (stated_kept c d (ItemKind.Component p.ty) grows is.world));
    }

-- the collection grows
pub IsGraph-grown : (g : Graph) (c : Collection) → Grows g.types c → IsGraph g → IsGraph (record g { types = c })
IsGraph-grown g c grows is =
    record {
      nodes = λ k n at. NodeStands-kept g.types c g.places g.places n n grows.stand (λ id of there. refl) refl refl refl (is.nodes k n at);
      once = is.once;
      acyclic = is.acyclic;
      keyed = is.keyed;
      wired = AreWired-by g (record g { types = c }) (IsAbove-same g.nodes) (same_places g.nodes g.places) (λ k. stated_kept g.types c k grows) is
          (λ e at. inl at) (λ i j m at. at)
          (λ j x at role. inl (record { node = x; there = at; role = refl; of = refl; item = refl }));
      exported = is.exported;
      packages = record {
        stand = λ id p at. PackageStands-grown g.types c p grows (is.packages.stand id p at);
        low = is.packages.low;
        once = is.packages.once;
      };
    }

-- ---- as the calls make them

-- an import is added
pub IsGraph-import : (g : Graph) (k : ℕ) (name : Name) (kind : ItemKind) → node_at g k ≡ None → Stands g.types kind → NoImport g.nodes name → IsGraph g → IsGraph (with_node g k (plain_node (Role.Imported name) None kind))
IsGraph-import g k name kind free stands none is =
    IsGraph-new_node g k (plain_node (Role.Imported name) None kind) free
    (record { item = stands; of = λ id e. absurd (cc (e)); made = λ r. absurd (cc (r)); only = λ id e. absurd (cc (e)); defined = λ r. absurd (cc (r)); instance = λ id p e at. absurd (cc (e)) })
    (λ r. absurd (cc (r))) (λ x r. subst (NoImport g.nodes) (same_import x r) none) (λ r. absurd (cc (r))) refl is
  where
    same_import : (x : Name) → Role.Imported name ≡ Role.Imported x → name ≡ x
    same_import x r = cc

-- an instance is added
pub IsGraph-instance : (g : Graph) (k : ℕ) (id : PackageId) (p : Packaged) → node_at g k ≡ None → package_of g id ≡ Some p → IsGraph g → IsGraph (with_node g k (plain_node Role.Instance (Some id) (ItemKind.Instance p.instance_type)))
IsGraph-instance g k id p free at is =
    IsGraph-new_node g k (plain_node Role.Instance (Some id) (ItemKind.Instance p.instance_type)) free
    (record { item = (is.packages.stand id p at).instance; of = λ j e. subst (λ j. IsSome (package_in g.places j)) (same_package j e) (subst IsSome (sym at) refl); made = λ r. refl; only = λ j e. refl; defined = λ r. absurd (cc (r)); instance = same_instance })
    (λ r. absurd (cc (r))) (λ x r. absurd (cc (r))) (λ r. absurd (cc (r))) refl is
  where
    same_package : (j : PackageId) → Some id ≡ Some j → id ≡ j
    same_package j e = cc

    same_instance : (j : PackageId) (q : Packaged) → Some id ≡ Some j → package_in g.places j ≡ Some q → ItemKind.Instance p.instance_type ≡ ItemKind.Instance q.instance_type
    same_instance j q e there =
        let same : Some p ≡ Some q = sym at ∙ ap (package_in g.places) (same_package j e) ∙ there in
        let one : p ≡ q = cc same in
        ap (λ (r : Packaged). ItemKind.Instance r.instance_type) one

-- the same, with the node known by an equation
pub import_by : (g : Graph) (ns : NodeMap) (k : ℕ) (name : Name) (kind : ItemKind) (n : NodeData) → ns ≡ map.insert g.nodes k n → n ≡ plain_node (Role.Imported name) None kind → node_at g k ≡ None → Stands g.types kind → NoImport g.nodes name → IsGraph g → IsGraph (record g { nodes = ns })
import_by g ns k name kind n added node free stands none is =
    IsGraph-nodes g ns (map.insert g.nodes k (plain_node (Role.Imported name) None kind)) (added ∙ ap (map.insert g.nodes k) node) (IsGraph-import g k name kind free stands none is)

pub instance_by : (g : Graph) (ns : NodeMap) (k : ℕ) (id : PackageId) (p : Packaged) (n : NodeData) → ns ≡ map.insert g.nodes k n → n ≡ plain_node Role.Instance (Some id) (ItemKind.Instance p.instance_type) → node_at g k ≡ None → package_of g id ≡ Some p → IsGraph g → IsGraph (record g { nodes = ns })
instance_by g ns k id p n added node free at is =
    IsGraph-nodes g ns (map.insert g.nodes k (plain_node Role.Instance (Some id) (ItemKind.Instance p.instance_type))) (added ∙ ap (map.insert g.nodes k) node) (IsGraph-instance g k id p free at is)

pub alias_by : (g : Graph) (ns : NodeMap) (es : List Edge) (i k : ℕ) (n : Name) (item : ItemKind) (x : NodeData) (e : Edge) → ns ≡ map.insert g.nodes k x → x ≡ plain_node Role.Aliased None item → AddsEdge g.edges es e → e ≡ alias_edge i k n → node_at g k ≡ None
    → IsStatedExport g i n item → Stands g.types item → ((j : ℕ) → HasAlias g.edges i n j → ⊥) → IsGraph g → IsGraph (record g { nodes = ns; edges = es })
alias_by g ns es i k n item x e added node adds edge free given stands none is =
    subst (λ ns. IsGraph (record g { nodes = ns; edges = es })) (sym (added ∙ ap (map.insert g.nodes k) node))
    (IsGraph-alias g es i k n item free (subst (AddsEdge g.edges es) edge adds) given stands none is)

pub argument_by : (g : Graph) (es : List Edge) (a i : ℕ) (n : Name) (item : ItemKind) (e : Edge) (seen : List ℕ) → AddsEdge g.edges es e → e ≡ argument_edge a i n → ContainsNode g i → IsStatedImport g i n item → NodeFits g a item
    → ((b : ℕ) → HasArgument g.edges i n b → ⊥) → IsReached Follow.Flow g.edges (i ∷ []) seen → has seen a ≡ false → IsGraph g → IsGraph (record g { edges = es })
argument_by g es a i n item e seen adds edge there asked fits none reached away is =
    IsGraph-argument g es a i n seen (subst (AddsEdge g.edges es) edge adds) (subst IsSome (sym fits.there) refl) there (fills_import g a i n item asked fits) none reached away is
