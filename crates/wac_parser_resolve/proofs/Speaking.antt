-- An alias is the export that is spoken of.
use Rattle.std.proofs.Common.{◌≡◌, ◌≢◌, ◌⊎◌, ℕ, List, [], ◌∷◌, ◌++◌, Bool, true, false, if◌then◌else◌, Option, Some, None, IsSome, inl, inr, refl, sym, ap, subst, ◌∙◌}
use Rattle.std.specs.Prelude.{option_map}
use Rattle.std.specs.FinMap as map
use Rattle.std.specs.List.{list_any}
use Rattle.wac_types_base.specs.declared.item.ItemKind.{ItemKind}
use Rattle.wac_types_base.specs.Record.{Collection}
use Rattle.wac_types_base.specs.Entries.{Name, names_of, value_at}
use Rattle.wac_types_base.specs.Collection.{IsAcyclic}
use Rattle.wac_types_base.specs.Graph.{Among}
use Rattle.wac_types_base.specs.Stated.{Stated, kind_of, exports_of, stated_of}
use Rattle.wac_types_base.proofs.Lists.{among_last as last_or}
use Rattle.wac_composition.specs.Classes.{is_instance_kind}
use Rattle.wac_graph_core.specs.declared.ids.PackageId.{PackageId}
use Rattle.wac_graph_core.specs.declared.edge.Label.{Label}
use Rattle.wac_graph_core.specs.Nodes.{NodeData, Role, plain_node}
use Rattle.wac_graph_core.specs.Edges.{HasAlias, HasArgument, alias_edge, argument_edge}
use Rattle.wac_graph_core.specs.Graph as graph
use Rattle.wac_graph_core.specs.Graph.{Graph, IsGraph, IsOfKind, instantiated, item_export, node_at, package_if, package_made}
use Rattle.wac_graph_core.specs.Steps.{AliasesAnew, Aliases}
use Rattle.wac_graph_core.proofs.NodeMap.{get-insert_same}
use Rattle.wac_graph_core.proofs.NodeSteps.{new_at}
use Rattle.wac_graph_core.proofs.EdgeSteps.{edge_from, edge_to, edge_label, alias_name}
use Rattle.wac_composition.specs.Composition.{projected}
use Rattle.wac_parser_refusals.specs.declared.error.InstanceOperation.{InstanceOperation}
use Rattle.wac_parser_refusals.specs.Causes.{◌>>◌}
use Rattle.wac_parser_refusals.specs.Outcomes.{IsHeld}
use Rattle.wac_parser_tree.specs.Trees.{Span}
use Rattle.wac_parser_declare.specs.Holding.{Holds}
use Rattle.wac_parser_resolve.specs.Ascribing.{Denoted, Made, State, projection, same_origin, speak_of}
use Rattle.wac_parser_resolve.specs.Denoting.{export_by, export_named, needs_instance, spoken}
use Rattle.wac_parser_resolve.specs.Holding.{Denotes, HasItem, IsExported, IsMade, Says}
use Rattle.wac_parser_resolve.specs.InExpressions.{SaysThat}
use Rattle.wac_parser_resolve.specs.Later.{Later}
use Rattle.wac_parser_resolve.proofs.Growing.{as_it_was, Later-alias}
use Rattle.wac_parser_resolve.proofs.Items.{one_item, stated_once, is_one, export_stated, passes_one}
use Rattle.wac_parser_resolve.proofs.Nodes.{alias_of_instance, denotes_stays, exported_stays, holds_stays, kind_stays, made_stays, names_stay, node_stays, same_alias, same_node}
use Rattle.wac_parser_resolve.proofs.Numbers.{among_last, among_more}
use Rattle.wac_parser_resolve.proofs.Turns.{any_among, any_none, turn_back, turn_map, turn_more, turn_on}
use Rattle.wac_graph_core.proofs.Rising.{rises_apart, rises_more}

-- ---- instances, while nothing is passed

module _ (g h : Graph) (l : Later g h) (back : (i a : ℕ) (n : Name) → HasArgument h.edges i n a → HasArgument g.edges i n a) where
  pub made_kept : (ms : List ℕ) (m : Made) (e : ℕ × Span) → IsMade g ms m e → IsMade h ms m e
  made_kept ms m e a = record {
    of = a.of;
    is = made_stays g h l e.0 a.of a.is;
    key = a.key;
    world = holds_stays g h l m.world (ItemKind.Component a.of.ty) a.world;
    arguments = record {
      passed = λ n d v. let p = a.arguments.passed n d v in (p.0, (as_it_was g h l.stays).edges (argument_edge p.0 e.0 n) p.1, denotes_stays g h l ms ms (λ i k x. x) d p.0 p.2);
      only = λ n b x. a.arguments.only n b (back e.0 b n x);
    };
    span = a.span;
  }

-- ---- an alias that was there

spoken_by : (s : State) (d : Denoted) (b : Bool) → b ≡ true → (if b then s else record s { aliases = s.aliases ++ d ∷ [] }) ≡ s
spoken_by s d true e = refl
spoken_by s d false e = absurd (cc e)

unspoken_by : (s : State) (d : Denoted) (b : Bool) → b ≡ false → (if b then s else record s { aliases = s.aliases ++ d ∷ [] }) ≡ record s { aliases = s.aliases ++ d ∷ [] }
unspoken_by s d true e = absurd (cc e)
unspoken_by s d false e = refl

module _ (g : Graph) (is : IsGraph g) (noted : List (ℕ × Span)) (names : List (Name × ℕ)) (s : State) (says : Says g noted names s) (d : Denoted) (i : ℕ) (dn : Denotes g (names_of noted) d i) (n : Name) where
  abbrev ms : List ℕ
  ms = names_of noted

  -- what is told of an export of the instance
  pub record Told (h : Graph) (k : ℕ) : Type 0 where
    pub item : Stated
    pub one : is_instance_kind (kind_of d.item) ≡ true
    pub at : value_at (exports_of d.item) n ≡ Some item
    pub said : Says h noted names (speak_of s (projection d n item))
    pub denotes : Denotes h ms (projection d n item) k

  aliased_at : (k : ℕ) → HasAlias g.edges i n k → (x : NodeData) × (node_at g k ≡ Some x) × (x.role ≡ Role.Aliased)
  aliased_at k e = let z = (is.wired.edges (alias_edge i k n) e).alias n refl in (z.0, z.1, z.2)

  again_told : (acyclic : IsAcyclic g.types) (k : ℕ) → HasAlias g.edges i n k → Told g k
  again_told acyclic k e =
      let z = aliased_at k e in
      let spoke = turn_back (Denotes g ms) s.aliases says.aliases.nodes k says.aliases.are (says.aliases.all k z.0 z.1 z.2) in
      let kind = alias_of_instance g is ms spoke.0.origin n i k spoke.2.node e in
      let x = says.aliases.exports i k n e in
      let from : x.from ≡ d.item = stated_once g i x.from d.item x.is dn.item in
      let at : value_at (exports_of d.item) n ≡ Some x.item = subst (λ (t : Stated). value_at (exports_of t) n ≡ Some x.item) from x.at in
      let both = one_item g i (Holds g.types d.item) (λ y. graph.is_instance y ≡ true) dn.item kind in
      let proj = projection d n x.item in
      let thing = same_alias g is ms (rises_apart ms says.rising) spoke.0.origin d.origin n i k spoke.2.node e dn.node kind in
      let any = any_among (λ (y : Denoted). same_origin y.origin (projected d.origin n)) s.aliases spoke.0 spoke.1 thing in
      let same : speak_of s proj ≡ s = spoken_by s proj (list_any (λ (y : Denoted). same_origin y.origin (projected d.origin n)) s.aliases) any in
      record {
        item = x.item;
        one = is_one g.types acyclic d.item both.node.item_kind both.kind.0 ∙ both.kind.1;
        at = at;
        said = subst (Says g noted names) (sym same) says;
        denotes = record { node = (i, dn.node, kind, e); item = x.there };
      }

  -- ---- a new one

  module _ (h : Graph) (after : IsGraph h) (acyclic : IsAcyclic g.types) (k : ℕ) (made : AliasesAnew g h i n k) where
    abbrev fresh_node : NodeData
    fresh_node = plain_node Role.Aliased None made.item

    later : Later g h
    later = Later-alias g h i n k (inr made)

    types : h.types ≡ g.types
    types = ap (λ (x : Graph). x.types) made.made

    nodes : h.nodes ≡ map.insert g.nodes k fresh_node
    nodes = ap (λ (x : Graph). x.nodes) made.made

    there : node_at h k ≡ Some fresh_node
    there = ap (λ m. map.get m k) nodes ∙ get-insert_same g.nodes k fresh_node

    edge : HasAlias h.edges i n k
    edge = (made.edges (alias_edge i k n)).1 (inr refl)

    no_argument : (j a : ℕ) (m : Name) → argument_edge a j m ≡ alias_edge i k n → ⊥
    no_argument j a m e = let l : Label.Argument m ≡ Label.Alias n = edge_label e in absurd (cc l)

    argument_back : (j a : ℕ) (m : Name) → HasArgument h.edges j m a → HasArgument g.edges j m a
    argument_back j a m x = elim ((made.edges (argument_edge a j m)).0 x) [ inl old ↦ old | inr e ↦ absurd (no_argument j a m e) ]

    -- the node in the old graph, or the new one
    node_back : (j : ℕ) (x : NodeData) → node_at h j ≡ Some x → ((j ≡ k) × (fresh_node ≡ x)) ⊎ ((j ≢ k) × (node_at g j ≡ Some x))
    node_back j x at = new_at g.nodes k fresh_node j x (ap (λ m. map.get m j) (sym nodes) ∙ at)

    places : (o : Option PackageId) → package_if h o ≡ package_if g o
    places None = refl
    places (Some id) = ap (λ (x : Graph). graph.package_in x.places id) made.made

    instance_by : (j : ℕ) (o : Option NodeData) → node_at h j ≡ o → IsSome (package_made h o) → IsSome (instantiated g j)
    instance_by j None at x = absurd (cc x)
    instance_by j (Some y) at x = elim (node_back j y at) [
      | inl e ↦ absurd (cc (subst (λ (z : NodeData). IsSome (package_if h z.of)) (sym e.1) x))
      | inr e ↦ subst IsSome (sym (ap (package_made g) e.1)) (subst IsSome (places y.of) x)
    ]

    instance_back : (j : ℕ) → IsSome (instantiated h j) → IsSome (instantiated g j)
    instance_back j x = instance_by j (node_at h j) refl x

    record Item : Type 0 where
      one : is_instance_kind (kind_of d.item) ≡ true
      kind : IsOfKind g i (λ x. graph.is_instance x ≡ true)
      at : value_at (exports_of d.item) n ≡ Some (stated_of g.types made.item)

    instance_exports : (y : ItemKind) → item_export g.types y n ≡ Some made.item → graph.is_instance y ≡ true
    instance_exports (ItemKind.Instance j) e = refl
    instance_exports (ItemKind.Ty t) e = absurd (cc e)
    instance_exports (ItemKind.Func f) e = absurd (cc e)
    instance_exports (ItemKind.Component w) e = absurd (cc e)
    instance_exports (ItemKind.Module m) e = absurd (cc e)
    instance_exports (ItemKind.Value v) e = absurd (cc e)

    item : Item
    item =
        let both = one_item g i (Holds g.types d.item) (λ y. item_export g.types y n ≡ Some made.item) dn.item made.export in
        let kind = instance_exports both.node.item_kind both.kind.1 in
        record {
          one = is_one g.types acyclic d.item both.node.item_kind both.kind.0 ∙ kind;
          kind = record { node = both.node; there = both.there; kind = kind };
          at = export_stated g.types acyclic d.item both.node.item_kind both.kind.0 kind n ∙ ap (option_map (stated_of g.types)) both.kind.1;
        }

    abbrev proj : Denoted
    proj = projection d n (stated_of g.types made.item)

    has_item : HasItem h k (stated_of g.types made.item)
    has_item = record { node = fresh_node; there = there; kind = record { stands = (after.nodes k fresh_node there).item; same = ap (λ (c : Collection). stated_of c made.item) types } }

    denoted : Denotes h ms proj k
    denoted = record {
      node = (i, node_stays g h later ms ms (λ j x e. e) d.origin i dn.node, kind_stays g h later i (λ x. graph.is_instance x ≡ true) item.kind, edge);
      item = has_item;
    }

    unspoken : (y : Denoted) → Among y s.aliases → same_origin y.origin (projected d.origin n) ≡ true → ⊥
    unspoken y m e =
        let at = turn_on (Denotes g ms) s.aliases says.aliases.nodes y says.aliases.are m in
        let z = node_stays g h later ms ms (λ j x q. q) y.origin at.0 at.2.node in
        let same : at.0 ≡ k = same_node h after ms y.origin (projected d.origin n) at.0 k e z denoted.node in
        let old : node_at g k ≡ Some at.2.item.node = subst (λ (j : ℕ). node_at g j ≡ Some at.2.item.node) same at.2.item.there in
        absurd (cc (sym made.free ∙ old))

    export_by_edge : (j b : ℕ) (m : Name) → alias_edge j b m ≡ alias_edge i k n → IsExported h j m b
    export_by_edge j b m e =
        let here : IsExported h i n k = record { from = d.item; is = denotes_item; item = stated_of g.types made.item; at = item.at; there = has_item } in
        let from : i ≡ j = sym (edge_from e) in
        let to : k ≡ b = sym (edge_to e) in
        let name : n ≡ m = sym (alias_name m n (edge_label e)) in
        subst (λ (x : ℕ). IsExported h x m b) from (subst (λ (x : Name). IsExported h i x b) name (subst (λ (x : ℕ). IsExported h i n x) to here))
      where
        denotes_item : HasItem h i d.item
        denotes_item = (denotes_stays g h later ms ms (λ j x q. q) d i dn).item

    only_aliases : (j : ℕ) → Among j (says.aliases.nodes ++ k ∷ []) → (l : ℕ) × (m : Name) × HasAlias h.edges l m j
    only_aliases j x = elim (last_or j k says.aliases.nodes x) [
      | inl old ↦ let a = says.aliases.only j old in (a.0, a.1, (made.edges (alias_edge a.0 j a.1)).1 (inl a.2))
      | inr e ↦ (i, n, subst (λ (l : ℕ). HasAlias h.edges i n l) (sym e) edge)
    ]

    all_aliases : (j : ℕ) (x : NodeData) → node_at h j ≡ Some x → x.role ≡ Role.Aliased → Among j (says.aliases.nodes ++ k ∷ [])
    all_aliases j x at r = elim (node_back j x at) [
      | inl e ↦ subst (λ (y : ℕ). Among y (says.aliases.nodes ++ k ∷ [])) (sym e.0) (among_last says.aliases.nodes k)
      | inr e ↦ among_more j says.aliases.nodes k (says.aliases.all j x e.1 r)
    ]

    says_more : Says h noted names (record s { aliases = s.aliases ++ proj ∷ [] })
    says_more = record {
      rising = says.rising;
      made = turn_map (IsMade g ms) (IsMade h ms) (made_kept g h later (λ j a m x. argument_back j a m x) ms) s.made noted says.made;
      all = λ j x. says.all j (instance_back j x);
      aliases = record {
        nodes = says.aliases.nodes ++ k ∷ [];
        rising = rises_more says.aliases.nodes k says.aliases.rising
            (λ j m. let a = turn_back (Denotes g ms) s.aliases says.aliases.nodes j says.aliases.are m in made.above j (subst IsSome (sym a.2.item.there) refl));
        are = turn_more (Denotes h ms) s.aliases says.aliases.nodes proj k
            (turn_map (Denotes g ms) (Denotes h ms) (denotes_stays g h later ms ms (λ j x q. q)) s.aliases says.aliases.nodes says.aliases.are) denoted;
        only = only_aliases;
        all = all_aliases;
        exports = λ j b m x. elim ((made.edges (alias_edge j b m)).0 x) [
          | inl old ↦ exported_stays g h later j b m (says.aliases.exports j b m old)
          | inr e ↦ export_by_edge j b m e
        ];
      };
      root = names_stay g h later ms ms (λ j x q. q) s.root names says.root;
    }

    new_told : Told h k
    new_told =
        let none = any_none (λ (y : Denoted). same_origin y.origin (projected d.origin n)) s.aliases unspoken in
        let same : speak_of s proj ≡ record s { aliases = s.aliases ++ proj ∷ [] } = unspoken_by s proj (list_any (λ (y : Denoted). same_origin y.origin (projected d.origin n)) s.aliases) none in
        record { item = stated_of g.types made.item; one = item.one; at = item.at; said = subst (Says h noted names) (sym same) says_more; denotes = denoted }

  pub told : (h : Graph) → IsGraph h → IsAcyclic g.types → (k : ℕ) → Aliases g h i n k → Told h k
  told h after acyclic k (inl again) = subst (λ (x : Graph). Told x k) (sym again.same) (again_told acyclic k again.there)
  told h after acyclic k (inr made) = new_told h after acyclic k made

  -- ---- what is answered

  export_held : (h : Graph) (k : ℕ) (at : Span) (o : Option Stated) → value_at (exports_of d.item) n ≡ o → (t : Told h k) → IsHeld (SaysThat h noted names) (spoken s (export_by d n o at)) k
  export_held h k at None e t = absurd (cc (sym e ∙ t.at))
  export_held h k at (Some x) e t =
      let z : Some x ≡ Some t.item = sym e ∙ t.at in
      let same : t.item ≡ x = sym (cc z) in
      (subst (λ (y : Stated). Says h noted names (speak_of s (projection d n y))) same t.said, subst (λ (y : Stated). Denotes h ms (projection d n y) k) same t.denotes)

  pub alias_held : (h : Graph) → IsGraph h → IsAcyclic g.types → (k : ℕ) → Aliases g h i n k → (op : InstanceOperation) (before at : Span)
      → IsHeld (SaysThat h noted names) (needs_instance d op before >> spoken s (export_named d n at)) k
  alias_held h after acyclic k a op before at =
      let t = told h after acyclic k a in
      passes_one d.item op before (SaysThat h noted names) (spoken s (export_named d n at)) k t.one (export_held h k at (value_at (exports_of d.item) n) refl t)
