-- What holds of a graph while plugs are plugged.
use Rattle.std.proofs.Common.{◌≡◌, ◌≢◌, ℕ, List, [], ◌∷◌, ◌++◌, map, Option, Some, None, IsSome, refl, sym, ap, subst, ◌∙◌, inl, inr}
use Rattle.wac_types_base.specs.declared.item.ItemKind.{ItemKind}
use Rattle.wac_types_base.specs.Entries.{Name, AreDistinct}
use Rattle.wac_types_base.specs.Graph.{Among}
use Rattle.wac_types_names.specs.Packaged.{Packaged}
use Rattle.wac_graph_core.specs.declared.ids.PackageId.{PackageId}
use Rattle.wac_graph_core.specs.declared.edge.Edge.{Edge}
use Rattle.wac_graph_core.specs.declared.edge.Label.{Label}
use Rattle.wac_graph_core.specs.Nodes.{NodeData, Role, plain_node}
use Rattle.wac_graph_core.specs.Edges.{alias_edge, argument_edge, HasAlias, HasArgument}
use Rattle.wac_graph_core.specs.Graph.{Graph, node_at, ContainsNode, package_in, package_if, package_made, instantiated}
use Rattle.wac_graph_core.specs.Steps.{Instantiates, AliasesAnew, AddsArgument}
use Rattle.wac_graph_core.proofs.NodeMap.{get-insert_same}
use Rattle.wac_graph_core.proofs.EdgeSteps.{edge_from, edge_to, edge_label}
use Rattle.wac_graph_plug.specs.Steps.{Grown}
use Rattle.wac_graph_plug.proofs.Growing.{Grown-alias, Grown-instance, ContainsNode-grown}
use Rattle.wac_types_fit.proofs.Items.{Among-last}
use Rattle.wac_graph_core.proofs.Found.{Among-front}
use Rattle.wac_types_base.proofs.Loops.{mapped_next}
use Rattle.wac_types_base.proofs.Lists.{last_among}

-- an export of a plug's instance that is passed
pub record Bound : Type 0 where
  pub plug : ℕ
  pub export : Name
  pub import : Name

abbrev pub imports_of_all : List Bound → List Name
imports_of_all bs = map (λ (b : Bound). b.import) bs

-- the socket's arguments are these; nothing else leads out of it or into it
pub record State (g : Graph) (s : ℕ) (sp : Packaged) (done : List Bound) : Type 0 where
  pub ends : (e : Edge) → Among e g.edges → ContainsNode g e.from × ContainsNode g e.to
  pub socket : instantiated g s ≡ Some sp
  pub there : ContainsNode g s
  pub quiet : (n : Name) (k : ℕ) → HasAlias g.edges s n k → ⊥
  pub loose : (i : ℕ) (n : Name) → HasArgument g.edges i n s → ⊥
  pub own : (i : ℕ) (n : Name) → HasAlias g.edges i n s → ⊥
  pub bound : (n : Name) (a : ℕ) → HasArgument g.edges s n a → (b : Bound) × Among b done × (b.import ≡ n) × HasAlias g.edges b.plug b.export a
  pub complete : (b : Bound) → Among b done → (a : ℕ) × HasArgument g.edges s b.import a × HasAlias g.edges b.plug b.export a
  pub distinct : AreDistinct (imports_of_all done)

-- an instance of the package, of which these exports have an alias
pub record IsPlug (g : Graph) (p : ℕ) (pp : Packaged) (exports : List Name) : Type 0 where
  pub node : NodeData
  pub at : node_at g p ≡ Some node
  pub kind : node.item_kind ≡ ItemKind.Instance pp.instance_type
  pub is : instantiated g p ≡ Some pp
  pub aliases : (n : Name) (k : ℕ) → HasAlias g.edges p n k → Among n exports

-- ---- lists

pub distinct_end : (ns : List Name) (n : Name) → AreDistinct ns → (Among n ns → ⊥) → AreDistinct (ns ++ n ∷ [])
distinct_end [] n d none = (λ m. m, tt)
distinct_end (m ∷ ns) n d none = (λ at. elim (Among-last ns n m at) [ inl old ↦ d.0 old | inr same ↦ none (inl (sym same)) ], distinct_end ns n d.1 (λ at. none (inr at)))

pub distinct_front : (ns : List Name) (n : Name) → AreDistinct (ns ++ n ∷ []) → AreDistinct ns × (Among n ns → ⊥)
distinct_front [] n d = (tt, λ m. m)
distinct_front (m ∷ ns) n d =
    let r = distinct_front ns n d.1 in
    ((λ at. d.0 (Among-front ns n m at), r.0), λ at. elim at [ inl same ↦ d.0 (subst (λ x. Among x (ns ++ n ∷ [])) same (last_among ns n)) | inr later ↦ r.1 later ])

pub among_map : {X Y : Type 0} (f : X → Y) (xs : List X) (y : Y) → Among y (map f xs) → (x : X) × Among x xs × (f x ≡ y)
among_map f [] y m = absurd m
among_map f (x ∷ xs) y (inl e) = (x, inl refl, sym e)
among_map f (x ∷ xs) y (inr m) = let r = among_map f xs y m in (r.0, inr r.1, r.2)

-- ---- edges

pub no_argument : (m n : Name) → Label.Argument m ≡ Label.Alias n → ⊥
no_argument m n e = absurd (cc)

pub no_alias : (m n : Name) → Label.Alias m ≡ Label.Argument n → ⊥
no_alias m n e = absurd (cc)

abbrev pub alias_name : Label → Name → Name
alias_name (Label.Alias n) d = n
alias_name (Label.Argument n) d = d
alias_name Label.Dependency d = d

abbrev pub argument_name : Label → Name → Name
argument_name (Label.Alias n) d = d
argument_name (Label.Argument n) d = n
argument_name Label.Dependency d = d

-- ---- nodes

-- an instance stays one where nothing is taken away
pub instantiated-grown : (g h : Graph) (k : ℕ) (p : Packaged) → Grown g h → instantiated g k ≡ Some p → instantiated h k ≡ Some p
instantiated-grown g h k p grown is = by_node (node_at g k) refl is
  where
    same_if : (o : Option PackageId) → package_if h o ≡ package_if g o
    same_if None = refl
    same_if (Some id) = ap (λ ps. package_in ps id) grown.places

    by_node : (o : Option NodeData) → node_at g k ≡ o → package_made g o ≡ Some p → instantiated h k ≡ Some p
    by_node None e at = absurd (cc (at))
    by_node (Some x) e at =
        let s = grown.nodes k x e in
        ap (package_made h) s.there ∙ ap (package_if h) s.of ∙ same_if x.of ∙ at

-- ---- a node is made that no edge touches

module _ (g h : Graph) (s : ℕ) (sp : Packaged) (done : List Bound) (st : State g s sp done) where
  pub State-instance : (id : PackageId) (p : ℕ) → Instantiates g h id p → State h s sp done
  State-instance id p made =
      let grown = Grown-instance g h id p made in
      let edges : h.edges ≡ g.edges = ap (λ (x : Graph). x.edges) made.made in
      let old : (e : Edge) → Among e h.edges → Among e g.edges = λ e m. subst (Among e) edges m in
      record {
        ends = λ e m. let r = st.ends e (old e m) in (ContainsNode-grown g h grown e.from r.0, ContainsNode-grown g h grown e.to r.1);
        socket = instantiated-grown g h s sp grown st.socket;
        there = ContainsNode-grown g h grown s st.there;
        quiet = λ n k m. st.quiet n k (old (alias_edge s k n) m);
        loose = λ i n m. st.loose i n (old (argument_edge s i n) m);
        own = λ i n m. st.own i n (old (alias_edge i s n) m);
        bound = λ n a m. let r = st.bound n a (old (argument_edge a s n) m) in (r.0, r.1, r.2, subst (Among (alias_edge r.0.plug a r.0.export)) (sym edges) r.3);
        complete = λ b m.
            let r = st.complete b m in
            (r.0, subst (Among (argument_edge r.0 s b.import)) (sym edges) r.1, subst (Among (alias_edge b.plug r.0 b.export)) (sym edges) r.2);
        distinct = st.distinct;
      }

  pub apart_from_new : (k : ℕ) → node_at g k ≡ None → k ≢ s
  apart_from_new k free e = absurd (cc (ap (node_at g) (sym e) ∙ free, st.there))

  -- an alias of a plug's export
  pub State-alias : (p k : ℕ) (e : Name) → p ≢ s → AliasesAnew g h p e k → ContainsNode g p → State h s sp done
  State-alias p k e apart made there =
      let grown = Grown-alias g h p e k (inr made) in
      let new_node : ContainsNode h k = subst IsSome (sym (ap (λ (x : Graph). node_at x k) made.made ∙ get-insert_same g.nodes k (plain_node Role.Aliased None made.item))) refl in
      record {
        ends = λ d m. elim ((made.edges d).0 m) [
          | inl old ↦ let r = st.ends d old in (ContainsNode-grown g h grown d.from r.0, ContainsNode-grown g h grown d.to r.1)
          | inr same ↦ (subst (ContainsNode h) (sym (edge_from same)) (ContainsNode-grown g h grown p there), subst (ContainsNode h) (sym (edge_to same)) new_node)
        ];
        socket = instantiated-grown g h s sp grown st.socket;
        there = ContainsNode-grown g h grown s st.there;
        quiet = λ n j m. elim ((made.edges (alias_edge s j n)).0 m) [ inl old ↦ st.quiet n j old | inr same ↦ apart (sym (edge_from same)) ];
        loose = λ i n m. elim ((made.edges (argument_edge s i n)).0 m) [ inl old ↦ st.loose i n old | inr same ↦ no_argument n e (edge_label same) ];
        own = λ i n m. elim ((made.edges (alias_edge i s n)).0 m) [ inl old ↦ st.own i n old | inr same ↦ apart_from_new k made.free (sym (edge_to same)) ];
        bound = λ n a m. elim ((made.edges (argument_edge a s n)).0 m) [
          | inl old ↦ let r = st.bound n a old in (r.0, r.1, r.2, (made.edges (alias_edge r.0.plug a r.0.export)).1 (inl r.3))
          | inr same ↦ absurd (no_argument n e (edge_label same))
        ];
        complete = λ b m.
            let r = st.complete b m in
            (r.0, (made.edges (argument_edge r.0 s b.import)).1 (inl r.1), (made.edges (alias_edge b.plug r.0 b.export)).1 (inl r.2));
        distinct = st.distinct;
      }

  -- nothing is passed from a node that was made just now
  pub nothing_from : (p k : ℕ) (e : Name) → AliasesAnew g h p e k → (i : ℕ) (n : Name) → HasArgument h.edges i n k → ⊥
  nothing_from p k e made i n m = elim ((made.edges (argument_edge k i n)).0 m) [
    | inl old ↦ absurd (cc (made.free, (st.ends (argument_edge k i n) old).0))
    | inr same ↦ no_argument n e (edge_label same)
  ]

  -- an argument is passed
  pub State-set : (p k : ℕ) (e n : Name) (item : ItemKind) → k ≢ s → HasAlias g.edges p e k → AddsArgument g h s n k item → State h s sp (done ++ record { plug = p; export = e; import = n } ∷ [])
  State-set p k e n item apart aliased made =
      let one : Bound = record { plug = p; export = e; import = n } in
      let same_node : (j : ℕ) → node_at h j ≡ node_at g j = λ j. ap (λ (x : Graph). node_at x j) made.made in
      let new_import : Among n (imports_of_all done) → ⊥ = λ m.
      let b = among_map (λ (b : Bound). b.import) done n m in
      let r = st.complete b.0 b.1 in
      made.none r.0 (subst (λ x. HasArgument g.edges s x r.0) b.2 r.1) in
      record {
        ends = λ d m. elim ((made.edges d).0 m) [
          | inl old ↦ let r = st.ends d old in (subst IsSome (sym (same_node d.from)) r.0, subst IsSome (sym (same_node d.to)) r.1)
          | inr same ↦ (
            subst IsSome (sym (same_node d.from ∙ ap (node_at g) (edge_from same))) (st.ends (alias_edge p k e) aliased).1,
            subst IsSome (sym (same_node d.to ∙ ap (node_at g) (edge_to same))) st.there,
          )
        ];
        socket = ap (λ (x : Graph). instantiated x s) made.made ∙ st.socket;
        there = subst IsSome (sym (same_node s)) st.there;
        quiet = λ m j at. elim ((made.edges (alias_edge s j m)).0 at) [ inl old ↦ st.quiet m j old | inr same ↦ no_alias m n (edge_label same) ];
        loose = λ i m at. elim ((made.edges (argument_edge s i m)).0 at) [ inl old ↦ st.loose i m old | inr same ↦ apart (sym (edge_from same)) ];
        own = λ i m at. elim ((made.edges (alias_edge i s m)).0 at) [ inl old ↦ st.own i m old | inr same ↦ no_alias m n (edge_label same) ];
        bound = λ m a at. elim ((made.edges (argument_edge a s m)).0 at) [
          | inl old ↦ let r = st.bound m a old in (r.0, Among-front done one r.0 r.1, r.2, (made.edges (alias_edge r.0.plug a r.0.export)).1 (inl r.3))
          | inr same ↦
              (one, last_among done one, sym (ap (λ l. argument_name l n) (edge_label same)), subst (λ j. HasAlias h.edges p e j) (sym (edge_from same)) ((made.edges (alias_edge p k e)).1 (inl aliased)))
        ];
        complete = λ b m. elim (Among-last done one b m) [
          | inl old ↦
              let r = st.complete b old in
              (r.0, (made.edges (argument_edge r.0 s b.import)).1 (inl r.1), (made.edges (alias_edge b.plug r.0 b.export)).1 (inl r.2))
          | inr same ↦
              subst (λ (b : Bound). (a : ℕ) × HasArgument h.edges s b.import a × HasAlias h.edges b.plug b.export a) (sym same)
              (k, (made.edges (argument_edge k s n)).1 (inr refl), (made.edges (alias_edge p k e)).1 (inl aliased))
        ];
        distinct = subst AreDistinct (sym (mapped_next (λ (b : Bound). b.import) done one)) (distinct_end (imports_of_all done) n st.distinct new_import);
      }
