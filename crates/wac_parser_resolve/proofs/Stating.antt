-- What is said, while statements are said: steps of the graph, names, imports and definitions.
use Rattle.std.proofs.Common.{◌≡◌, ◌≢◌, ◌⊎◌, ℕ, List, [], ◌∷◌, ◌++◌, Option, Some, None, IsSome, inl, inr, refl, sym, ap, subst, ◌∙◌}
use Rattle.std.specs.FinMap as map
use Rattle.wac_types_base.specs.declared.item.ItemKind.{ItemKind}
use Rattle.wac_types_base.specs.declared.item.«Type».{«Type» as TypeKind}
use Rattle.wac_types_base.specs.Entries.{Name}
use Rattle.wac_types_base.specs.Graph.{Among}
use Rattle.wac_graph_core.specs.declared.ids.PackageId.{PackageId}
use Rattle.wac_graph_core.specs.Nodes.{NodeData, Role, plain_node, defined_node}
use Rattle.wac_graph_core.specs.Edges.{HasAlias, HasArgument, alias_edge, argument_edge}
use Rattle.wac_graph_core.specs.Graph.{Graph, instantiated, node_at, package_if, package_in, package_made}
use Rattle.wac_graph_core.specs.Steps.{Imports}
use Rattle.wac_graph_core.specs.Defining.{DefinesType}
use Rattle.wac_graph_core.specs.Exporting.{Names}
use Rattle.wac_graph_core.proofs.NodeSteps.{new_at}
use Rattle.wac_graph_core.proofs.EdgeSteps.{edge_label}
use Rattle.wac_types_base.specs.Record.{Collection}
use Rattle.wac_types_base.specs.Collection.{Grows, KeepsTrees, Stands}
use Rattle.wac_types_base.specs.Entries.{names_of, value_at}
use Rattle.wac_types_base.specs.Stated.{Stated, stated_in, stated_of}
use Rattle.wac_types_names.specs.Keys.{Key}
use Rattle.wac_graph_core.specs.NodeMaps.{IsImport}
use Rattle.wac_graph_core.specs.Graph.{IsOfKind}
use Rattle.wac_composition.specs.Composition.{Origin, imported, instance, projected, defined}
use Rattle.wac_parser_tree.specs.Trees as t
use Rattle.wac_parser_tree.specs.Trees.{Span}
use Rattle.std.specs.Option.{option_or}
use Rattle.wac_parser_declare.specs.declared.scope.Binding.{Binding}
use Rattle.wac_parser_declare.specs.Holding.{BindingStands, Holds, NamesStand, meant_by, scope_of}
use Rattle.wac_parser_declare.specs.Packages.{Content, SamePackages}
use Rattle.wac_parser_declare.proofs.Kept.{EachStands-kept, Holds-kept, with_values-same}
use Rattle.wac_parser_resolve.specs.declared.board.Board.{Board}
use Rattle.wac_parser_resolve.specs.declared.packages.GraphTypes.{GraphTypes}
use Rattle.wac_parser_resolve.specs.declared.state.State.{State as Held}
use Rattle.wac_parser_resolve.specs.Ascribing.{Bound, Denoted, Import, Made, State, root_scope}
use Rattle.wac_parser_resolve.specs.Holding.{AreNamed, Denotes, HasItem, IsDefinition, IsExported, IsMade, IsNamed, IsNode, Says}
use Rattle.wac_parser_resolve.specs.Knowing.{all_known, handed_keys, handed_under, known_in, content_in}
use Rattle.wac_parser_resolve.specs.Later.{AddsNone, Inner, IsMore, IsWithin, Later, first_name}
use Rattle.wac_parser_resolve.specs.Said.{AreAsked, AreDeclared, AreExported, IsAsked, IsDeclared, IsNoted, IsOnBoard, IsSaid, last_noted}
use Rattle.wac_parser_resolve.proofs.Growing.{as_it_was}
use Rattle.wac_parser_resolve.proofs.Knowing.{edges_back, exports_back, instances_back, keys_back, nodes_back}
use Rattle.wac_parser_resolve.proofs.Nodes.{denotes_stays, item_stays, node_stays}
use Rattle.wac_parser_resolve.proofs.Staying.{says_stay}
use Rattle.wac_parser_resolve.proofs.Turns.{turn_map}
use Rattle.std.specs.Prelude.{option_map, is_some, ⊤, false}
use Rattle.wac_types_base.proofs.Stating.{value_with}
use Rattle.wac_types_base.specs.Entries.{put_entry}
use Rattle.wac_types_base.proofs.Looked.{put_entry-new}
use Rattle.wac_types_base.proofs.Lists.{no_value}
use Rattle.wac_parser_refusals.specs.Causes.{◌>>◌, pure}
use Rattle.wac_parser_refusals.specs.Outcomes.{IsHeld}
use Rattle.wac_parser_declare.specs.Scope.{Meant, Scope, bind, taken}
use Rattle.wac_parser_declare.proofs.Kept.{EachStands-more, with_values-more}
use Rattle.wac_parser_resolve.specs.Ascribing as stated
use Rattle.wac_parser_resolve.specs.Ascribing.{bound}
use Rattle.wac_parser_resolve.proofs.Items.{of_item}
use Rattle.wac_parser_resolve.proofs.Rooted.{AreFound, both_found}
use Rattle.wac_parser_resolve.proofs.Turns.{turn_more}

-- ---- steps that make no instance, alias or argument

pub none_refl : (g : Graph) → AddsNone g g
none_refl g = record { instances = λ k s. s; aliased = λ k x at r. (x, at, r); aliases = λ i k n x. x; arguments = λ i a n x. x }

pub none_same : (g h : Graph) → h ≡ g → AddsNone g h
none_same g h same = subst (AddsNone g) (sym same) (none_refl g)

module _ (g h : Graph) (k : ℕ) (x : NodeData) (nodes : h.nodes ≡ map.insert g.nodes k x) (places : h.places ≡ g.places) where
  pub node_back : (j : ℕ) (y : NodeData) → node_at h j ≡ Some y → ((j ≡ k) × (x ≡ y)) ⊎ ((j ≢ k) × (node_at g j ≡ Some y))
  node_back j y at = new_at g.nodes k x j y (ap (λ m. map.get m j) (sym nodes) ∙ at)

  packages : (o : Option PackageId) → package_if h o ≡ package_if g o
  packages None = refl
  packages (Some id) = ap (λ ps. package_in ps id) places

  instance_by : (IsSome (package_if g x.of) → IsSome (instantiated g k)) → (j : ℕ) (o : Option NodeData) → node_at h j ≡ o → IsSome (package_made h o) → IsSome (instantiated g j)
  instance_by here j None at s = absurd (cc s)
  instance_by here j (Some y) at s = elim (node_back j y at) [
    | inl e ↦ subst (λ (i : ℕ). IsSome (instantiated g i)) (sym e.0) (here (subst (λ (z : NodeData). IsSome (package_if g z.of)) (sym e.1) (subst IsSome (packages y.of) s)))
    | inr e ↦ subst IsSome (sym (ap (package_made g) e.1)) (subst IsSome (packages y.of) s)
  ]

  none_by : (IsSome (package_if g x.of) → IsSome (instantiated g k)) → (x.role ≡ Role.Aliased → (y : NodeData) × (node_at g k ≡ Some y) × (y.role ≡ Role.Aliased))
      → ((i j : ℕ) (n : Name) → HasAlias h.edges i n j → HasAlias g.edges i n j) → ((i a : ℕ) (n : Name) → HasArgument h.edges i n a → HasArgument g.edges i n a) → AddsNone g h
  none_by here alias aliases arguments = record {
    instances = λ j s. instance_by here j (node_at h j) refl s;
    aliased = λ j y at r. elim (node_back j y at) [
      | inl e ↦ let z = alias (ap (λ (w : NodeData). w.role) e.1 ∙ r) in (z.0, ap (node_at g) e.0 ∙ z.1, z.2)
      | inr e ↦ (y, e.1, r)
    ];
    aliases = aliases;
    arguments = arguments;
  }

pub none_imported : (g h : Graph) (n : Name) (kind : ItemKind) (k : ℕ) → Imports g h n kind k → AddsNone g h
none_imported g h n kind k s =
    let edges = ap (λ (y : Graph). y.edges) s.made in
    none_by g h k (plain_node (Role.Imported n) None kind) (ap (λ (y : Graph). y.nodes) s.made) (ap (λ (y : Graph). y.places) s.made) (λ i. absurd (cc i)) (λ r. absurd (cc r))
    (λ i j m e. subst (Among (alias_edge i j m)) edges e) (λ i a m e. subst (Among (argument_edge a i m)) edges e)

pub none_named : (g h : Graph) (k : ℕ) (n : Name) → Names g h k n → AddsNone g h
none_named g h k n s =
    let edges = ap (λ (y : Graph). y.edges) s.made in
    none_by g h k (record s.node { name = Some n }) (ap (λ (y : Graph). y.nodes) s.made) (ap (λ (y : Graph). y.places) s.made)
    (λ i. subst IsSome (sym (ap (package_made g) s.there)) i) (λ r. (s.node, s.there, r))
    (λ i j m e. subst (Among (alias_edge i j m)) edges e) (λ i a m e. subst (Among (argument_edge a i m)) edges e)

pub none_defined : (g h : Graph) (n : Name) (ty : TypeKind) (k : ℕ) → DefinesType g h n ty k → AddsNone g h
none_defined g h n ty k s =
    none_by g h k (defined_node ty n) (ap (λ (y : Graph). y.nodes) s.made) (ap (λ (y : Graph). y.places) s.made) (λ i. absurd (cc i)) (λ r. absurd (cc r))
    (λ i j m e. elim ((s.edges (alias_edge i j m)).0 e) [ inl old ↦ old | inr d ↦ absurd (cc (edge_label d.is)) ])
    (λ i a m e. elim ((s.edges (argument_edge a i m)).0 e) [ inl old ↦ old | inr d ↦ absurd (cc (edge_label d.is)) ])

pub within_named : (g h : Graph) (k : ℕ) (n : Name) → Names g h k n → IsWithin g h
within_named g h k n s = record { types = ap (λ (y : Graph). y.types) s.made; places = ap (λ (y : Graph). y.places) s.made }

pub ruleset naming = (none_refl, none_same, none_named, within_named)

-- ---- what a graph holds that another held

pub record Carries (g h : Graph) (ms ns : List ℕ) : Type 0 where
  pub denotes : (d : Denoted) (k : ℕ) → Denotes g ms d k → Denotes h ns d k
  pub items : (k : ℕ) (x : Stated) → HasItem g k x → HasItem h k x
  pub imports : (k : ℕ) (n : Name) → IsImport g.nodes k n → IsImport h.nodes k n
  pub definitions : (k : ℕ) (n : Name) → IsDefinition g k n → IsDefinition h k n
  pub kinds : (x : ItemKind) → Stands g.types x → Stands h.types x
  pub trees : KeepsTrees g.types h.types

-- nothing more is imported, defined or exported
pub record AddsNothing (g h : Graph) : Type 0 where
  pub imports : (k : ℕ) (n : Name) → IsImport h.nodes k n → IsImport g.nodes k n
  pub definitions : (k : ℕ) (x : NodeData) → node_at h k ≡ Some x → x.role ≡ Role.Defined → (y : NodeData) × (node_at g k ≡ Some y) × (y.role ≡ Role.Defined)
  pub exports : h.exports ≡ g.exports

pub carries_later : (g h : Graph) → Later g h → (ms ns : List ℕ) → IsMore ms ns → Carries g h ms ns
carries_later g h l ms ns more = record {
  denotes = denotes_stays g h l ms ns more;
  items = item_stays g h l;
  imports = λ k n a. node_stays g h l ms ns more (imported n) k a;
  definitions = λ k n a. by_definition k n a;
  kinds = l.kinds;
  trees = (as_it_was g h l.stays).trees;
}
  where
    by_definition : (k : ℕ) (n : Name) → IsDefinition g k n → IsDefinition h k n
    by_definition k n a =
        let s = (as_it_was g h l.stays).still k a.node a.there in
        record { node = s.node; there = s.there; role = s.role ∙ a.role; type = a.type; item = s.item ∙ a.item; named = (as_it_was g h l.stays).exported n k a.named; first = (as_it_was g h l.stays).first k n a.first }

pub nothing_inner : (g h : Graph) → Inner g h → AddsNothing g h
nothing_inner g h i = record {
  imports = i.imports;
  definitions = λ k x at r. let y = i.definitions k x.item_kind (record { node = x; there = at; role = r; type = refl }) in (y.node, y.there, y.role);
  exports = i.exports;
}

-- ---- a collection that grows, with nothing else in the graph

module _ (g h : Graph) (grows : Grows g.types h.types) (nodes_same : h.nodes ≡ g.nodes) (edges : h.edges ≡ g.edges) (exports : h.exports ≡ g.exports) (made : (k : ℕ) → instantiated h k ≡ instantiated g k) where
  at_same : (k : ℕ) → node_at h k ≡ node_at g k
  at_same k = ap (λ m. map.get m k) nodes_same

  item_grown : (k : ℕ) (x : Stated) → HasItem g k x → HasItem h k x
  item_grown k x a = record { node = a.node; there = at_same k ∙ a.there; kind = Holds-kept g.types h.types grows x a.node.item_kind a.kind }

  definition_grown : (k : ℕ) (n : Name) → IsDefinition g k n → IsDefinition h k n
  definition_grown k n a = record { node = a.node; there = at_same k ∙ a.there; role = a.role; type = a.type; item = a.item; named = ap (λ (xs : List (Name × ℕ)). value_at xs n) exports ∙ a.named; first = ap (λ (xs : List (Name × ℕ)). first_name xs k) exports ∙ a.first }

  node_grown : (ms : List ℕ) (o : Origin ℕ) (k : ℕ) → IsNode g ms o k → IsNode h ms o k
  node_grown ms (imported n) k a = record { node = a.node; there = at_same k ∙ a.there; role = a.role }
  node_grown ms (instance i) k a = (a.0, subst IsSome (sym (made k)) a.1)
  node_grown ms (projected o n) k a =
      (a.0, node_grown ms o a.0 a.1, record { node = a.2.node; there = at_same a.0 ∙ a.2.there; kind = a.2.kind }, subst (Among (alias_edge a.0 k n)) (sym edges) a.3)
  node_grown ms (defined n x) k a = definition_grown k n a

  denotes_grown : (ms : List ℕ) (d : Denoted) (k : ℕ) → Denotes g ms d k → Denotes h ms d k
  denotes_grown ms d k a = record { node = node_grown ms d.origin k a.node; item = item_grown k d.item a.item }

  made_grown : (ms : List ℕ) (m : Made) (e : ℕ × Span) → IsMade g ms m e → IsMade h ms m e
  made_grown ms m e a = record {
    of = a.of;
    is = made e.0 ∙ a.is;
    key = a.key;
    world = Holds-kept g.types h.types grows m.world (ItemKind.Component a.of.ty) a.world;
    arguments = record {
      passed = λ n d v. let p = a.arguments.passed n d v in (p.0, subst (Among (argument_edge p.0 e.0 n)) (sym edges) p.1, denotes_grown ms d p.0 p.2);
      only = λ n x p. a.arguments.only n x (subst (Among (argument_edge x e.0 n)) edges p);
    };
    span = a.span;
  }

  exported_grown : (i k : ℕ) (n : Name) → IsExported g i n k → IsExported h i n k
  exported_grown i k n a = record { from = a.from; is = item_grown i a.from a.is; item = a.item; at = a.at; there = item_grown k a.item a.there }

  says_grown : (noted : List (ℕ × Span)) (names : List (Name × ℕ)) (s : State) → Says g noted names s → Says h noted names s
  says_grown noted names s says =
      let ms = names_of noted in
      record {
        rising = says.rising;
        made = turn_map (IsMade g ms) (IsMade h ms) (made_grown ms) s.made noted says.made;
        all = λ k x. says.all k (subst IsSome (made k) x);
        aliases = record {
          nodes = says.aliases.nodes;
          rising = says.aliases.rising;
          only = λ k m. let a = says.aliases.only k m in (a.0, a.1, subst (Among (alias_edge a.0 k a.1)) (sym edges) a.2);
          are = turn_map (Denotes g ms) (Denotes h ms) (denotes_grown ms) s.aliases says.aliases.nodes says.aliases.are;
          all = λ k x at r. says.aliases.all k x (sym (at_same k) ∙ at) r;
          exports = λ i k n e. exported_grown i k n (says.aliases.exports i k n (subst (Among (alias_edge i k n)) edges e));
        };
        root = turn_map (IsNamed g ms) (IsNamed h ms) (λ b e a. record { name = a.name; denotes = denotes_grown ms b.1.denoted e.1 a.denotes }) s.root names says.root;
      }

  carries_grown : (ms : List ℕ) → Carries g h ms ms
  carries_grown ms = record {
    denotes = denotes_grown ms;
    items = item_grown;
    imports = λ k n a. record { node = a.node; there = at_same k ∙ a.there; role = a.role };
    definitions = definition_grown;
    kinds = grows.stand;
    trees = grows.keep;
  }

  nothing_grown : AddsNothing g h
  nothing_grown = record {
    imports = λ k n a. record { node = a.node; there = sym (at_same k) ∙ a.there; role = a.role };
    definitions = λ k x at r. (x, sym (at_same k) ∙ at, r);
    exports = exports;
  }

-- ---- what is said, over another board

module _ (g h : Graph) (ms ns : List ℕ) (c : Carries g h ms ns) where
  pub scope_carried : (bs : List (Name × Binding)) → NamesStand g.types bs → scope_of h.types bs ≡ scope_of g.types bs
  scope_carried bs s =
      with_values-same (BindingStands g.types) (meant_by h.types) (meant_by g.types) (λ b x. ap (λ y. record { item = stated_in y; span = b.span }) (c.trees b.kind x)) bs s

  pub names_carried : (bs : List (Name × Binding)) → NamesStand g.types bs → NamesStand h.types bs
  names_carried bs s = EachStands-kept (BindingStands g.types) (BindingStands h.types) (λ b x. c.kinds b.kind x) bs s

  pub asked_carried : (ids jds : List (ℕ × Span)) (i : Import) (e : ℕ × Span) → last_noted jds e.0 ≡ last_noted ids e.0 → IsAsked g ids i e → IsAsked h jds i e
  asked_carried ids jds i e same a = record { import = c.imports e.0 i.name a.import; item = c.items e.0 i.item a.item; span = a.span; id = same ∙ a.id }

  pub declared_carried : (d : Name × Stated) (k : ℕ) → IsDeclared g d k → IsDeclared h d k
  declared_carried d k a = record { definition = c.definitions k d.0 a.definition; item = c.items k d.1 a.item }

  pub noted_carried : (b : Name × Bound) (e : ℕ × Span) → IsNoted g ms b e → IsNoted h ns b e
  noted_carried b e a = record { denotes = c.denotes b.1.denoted e.0 a.denotes; span = a.span }

  pub named_carried : (b : Name × Bound) (e : Name × ℕ) → IsNamed g ms b e → IsNamed h ns b e
  named_carried b e a = record { name = a.name; denotes = c.denotes b.1.denoted e.1 a.denotes }

  pub all_asked : (noted ids : List (ℕ × Span)) (is : List Import) → ((k : ℕ) (n : Name) → IsImport h.nodes k n → IsImport g.nodes k n) → AreAsked g noted ids is → AreAsked h noted ids is
  all_asked noted ids is back a = record {
    rising = a.rising;
    are = turn_map (IsAsked g ids) (IsAsked h ids) (λ i e x. asked_carried ids ids i e refl x) is noted a.are;
    all = λ k n x. a.all k n (back k n x);
  }

  pub all_declared : (ds : List (Name × Stated)) → ((k : ℕ) (x : NodeData) → node_at h k ≡ Some x → x.role ≡ Role.Defined → (y : NodeData) × (node_at g k ≡ Some y) × (y.role ≡ Role.Defined)) → AreDeclared g ds → AreDeclared h ds
  all_declared ds back a = record {
    nodes = a.nodes;
    rising = a.rising;
    are = turn_map (IsDeclared g) (IsDeclared h) declared_carried ds a.nodes a.are;
    all = λ k x at r. let y = back k x at r in a.all k y.0 y.1 y.2;
  }

  pub all_exported : (noted : List (ℕ × Span)) (es : List (Name × Bound)) → h.exports ≡ g.exports → AreExported g ms noted es → AreExported h ns noted es
  all_exported noted es same a = record {
    are = subst (λ (xs : List (Name × ℕ)). AreNamed h ns es xs) (sym same) (turn_map (IsNamed g ms) (IsNamed h ns) named_carried es g.exports a.are);
    noted = turn_map (IsNoted g ms) (IsNoted h ns) noted_carried es noted a.noted;
  }

abbrev pub with_board : Held → Board → Held
with_board b x = record b { board = x }

abbrev pub with_made : State → List Made → List Denoted → State
with_made s m ds = record s { made = m; aliases = ds }

-- the instances and the aliases may be others
pub said_carried : (own : t.PackageName) (b : Held) (x : Board) (s : State) (m : List Made) (ds : List Denoted)
    → Carries b.board.types.graph x.types.graph (names_of b.board.instances.noted.items) (names_of x.instances.noted.items) → AddsNothing b.board.types.graph x.types.graph
    → IsOnBoard own.name b.nodes x (with_made s m ds) → IsSaid own b s → IsSaid own (with_board b x) (with_made s m ds)
said_carried own b x s m ds c none on said =
    let g = b.board.types.graph in
    let h = x.types.graph in
    let ms = names_of b.board.instances.noted.items in
    let ns = names_of x.instances.noted.items in
    record {
      board = on;
      own = said.own;
      stand = names_carried g h ms ns c b.names said.stand;
      scope = scope_carried g h ms ns c b.names said.stand ∙ said.scope;
      imports = all_asked g h ms ns c b.imports.noted.items b.ids.noted.items s.imports none.imports said.imports;
      definitions = all_declared g h ms ns c s.definitions none.definitions said.definitions;
      exports = all_exported g h ms ns c b.exports.noted.items s.exports none.exports said.exports;
    }

abbrev pub with_graph : GraphTypes → Graph → GraphTypes
with_graph x h = record x { graph = h }

abbrev pub with_types : Held → GraphTypes → Held
with_types b x = record b { board = record b.board { types = x } }

pub known_within : (x : GraphTypes) (h : Graph) → IsWithin x.graph h → (k : Key) → known_in (with_graph x h) k ≡ known_in x k
known_within x h w k =
    ap (λ (o : Option Content). option_or o (handed_under x k)) (ap (λ (y : Collection). content_in y h.places k) w.types ∙ ap (λ ps. content_in x.graph.types ps k) w.places)

-- what was said stays said where nodes get names
pub said_within : (own : t.PackageName) (b : Held) (h : Graph) (s : State) → Inner b.board.types.graph h → AddsNone b.board.types.graph h → IsWithin b.board.types.graph h
    → IsSaid own b s → IsSaid own (with_types b (with_graph b.board.types h)) s
said_within own b h s inner none within said =
    let ms = names_of b.board.instances.noted.items in
    said_carried own b (record b.board { types = with_graph b.board.types h }) s s.made s.aliases
    (carries_later b.board.types.graph h inner.later ms ms (λ i k e. e)) (nothing_inner b.board.types.graph h inner)
    (record {
      says = says_stay b.board.types.graph h inner.later none b.board.instances.noted.items b.nodes s said.board.says;
      known = λ k. known_within b.board.types h within k ∙ said.board.known k;
      handed = said.board.handed;
      own = said.board.own;
    }) said

-- what was said stays said while the collection grows and packages come in
pub said_grows : (own : t.PackageName) (b : Held) (x : GraphTypes) (s : State) → Grows b.board.types.graph.types x.graph.types → SamePackages (all_known b.board.types) (all_known x)
    → IsSaid own b s → IsSaid own (with_types b x) s
said_grows own b x s grows same said =
    let g = b.board.types.graph in
    let h = x.graph in
    let ms = names_of b.board.instances.noted.items in
    let js = handed_keys b.board.types in
    let ks = handed_keys x in
    let ns = nodes_back g h js ks same.rest in
    let es = edges_back g h js ks same.rest in
    let xs = exports_back g h js ks same.rest in
    let is = instances_back g h js ks same.rest in
    said_carried own b (record b.board { types = x }) s s.made s.aliases
    (carries_grown g h grows ns es xs is ms) (nothing_grown g h grows ns es xs is)
    (record {
      says = says_grown g h grows ns es xs is b.board.instances.noted.items b.nodes s said.board.says;
      known = λ k. same.same k ∙ said.board.known k;
      handed = keys_back g h js ks same.rest ∙ said.board.handed;
      own = said.board.own;
    }) said

-- ---- a name for what is denoted

module _ (own : t.PackageName) (b : Held) (s : State) (said : IsSaid own b s) (d : Denoted) (k : ℕ) (denotes : Denotes b.board.types.graph (names_of b.board.instances.noted.items) d k) (i : t.Ident) (kind : ItemKind) where
  abbrev g : Graph
  g = b.board.types.graph

  abbrev ms : List ℕ
  ms = names_of b.board.instances.noted.items

  abbrev one : Bound
  one = record { denoted = d; span = i.span }

  abbrev named_so : State
  named_so = record s { root = s.root ++ (i.string, one) ∷ [] }

  abbrev binding : Binding
  binding = record { kind = kind; span = i.span }

  abbrev with_names : List (Name × Binding) → List (Name × ℕ) → Held
  with_names bs es = record b { names = bs; nodes = es }

  holds : IsOfKind g k (λ x. x ≡ kind) → Holds g.types d.item kind
  holds kept = of_item g k kind (Holds g.types d.item) denotes.item kept

  nameless : value_at (root_scope s) i.string ≡ None → is_some (value_at b.nodes i.string) ≡ false
  nameless e = by (value_at s.root i.string) (value_at b.nodes i.string) refl refl (both_found g ms s.root b.nodes i.string said.board.says.root)
    where
      by : (o : Option Bound) (p : Option ℕ) → value_at s.root i.string ≡ o → value_at b.nodes i.string ≡ p → AreFound g ms o p → is_some p ≡ false
      by None None x y f = refl
      by None (Some j) x y f = absurd f
      by (Some z) p x y f = absurd (cc (sym e ∙ value_with stated.meant_by s.root i.string ∙ ap (option_map stated.meant_by) x))

  said_named : IsOfKind g k (λ x. x ≡ kind) → value_at (root_scope s) i.string ≡ None → IsSaid own (with_names (b.names ++ (i.string, binding) ∷ []) (b.nodes ++ (i.string, k) ∷ [])) named_so
  said_named kept e =
      let h = holds kept in
      record {
        board = record {
          says = record {
            rising = said.board.says.rising;
            made = said.board.says.made;
            all = said.board.says.all;
            aliases = said.board.says.aliases;
            root = turn_more (IsNamed g ms) s.root b.nodes (i.string, one) (i.string, k) said.board.says.root (record { name = refl; denotes = denotes });
          };
          known = said.board.known;
          handed = said.board.handed;
          own = said.board.own;
        };
        own = said.own;
        stand = EachStands-more (BindingStands g.types) b.names i.string binding said.stand h.stands;
        scope = with_values-more (meant_by g.types) b.names i.string binding ∙ ap (λ (ns : Scope). ns ++ (i.string, meant_by g.types binding) ∷ []) said.scope
            ∙ ap (λ (x : Stated). root_scope s ++ (i.string, record { item = x; span = i.span }) ∷ []) h.same ∙ sym (with_values-more stated.meant_by s.root i.string one);
        imports = said.imports;
        definitions = said.definitions;
        exports = said.exports;
      }

  module _ (h : Graph) (inner : Inner g h) (none : AddsNone g h) (within : IsWithin g h) (bs : List (Name × Binding)) (es : List (Name × ℕ)) (now : bs ≡ b.names ++ (i.string, binding) ∷ []) (put : es ≡ put_entry b.nodes i.string k) where
    abbrev after : Held
    after = with_types (with_names bs es) (with_graph b.board.types h)

    said_after : IsOfKind g k (λ x. x ≡ kind) → value_at (root_scope s) i.string ≡ None → IsSaid own after named_so
    said_after kept e =
        let new = put_entry-new b.nodes i.string k (no_value b.nodes i.string (nameless e)) in
        let first = subst (λ (xs : List (Name × ℕ)). IsSaid own (with_names (b.names ++ (i.string, binding) ∷ []) xs) named_so) (sym (put ∙ new)) (said_named kept e) in
        let both = subst (λ (xs : List (Name × Binding)). IsSaid own (with_names xs es) named_so) (sym now) first in
        said_within own (with_names bs es) h named_so inner none within both

    bound_by : IsOfKind g k (λ x. x ≡ kind) → (o : Option Meant) → value_at (root_scope s) i.string ≡ o → (ns : Scope) (R : Scope → ⊤ → Type 0) (u : ⊤) → IsHeld R (taken o i >> pure ns) u
        → IsHeld (λ (q : State) (v : ⊤). IsSaid own after q) ((taken o i >> pure ns) >> pure named_so) u
    bound_by kept None e ns R u x = said_after kept e
    bound_by kept (Some m) e ns R u x = absurd x

    pub bound_held : IsOfKind g k (λ x. x ≡ kind) → (u : ⊤) → IsHeld (λ (ns : Scope) (v : ⊤). scope_of g.types bs ≡ ns) (bind (scope_of g.types b.names) i (stated_of g.types kind)) u
        → IsHeld (λ (q : State) (v : ⊤). IsSaid own after q) (bound s i d) u
    bound_held kept u x =
        let R : Scope → ⊤ → Type 0 = λ ns v. scope_of g.types bs ≡ ns in
        let one = subst (λ (ns : Scope). IsHeld R (bind ns i (stated_of g.types kind)) u) said.scope x in
        let two = subst (λ (y : Stated). IsHeld R (bind (root_scope s) i y) u) (holds kept).same one in
        bound_by kept (value_at (root_scope s) i.string) refl (root_scope s ++ (i.string, record { item = d.item; span = i.span }) ∷ []) R u two
