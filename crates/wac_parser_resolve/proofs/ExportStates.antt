-- What is said behind an export, and while exports of instances are spoken of.
use Rattle.std.specs.Prelude.{Result, String, ⊤, string_bytes, unwrap_or}
use Rattle.std.proofs.Common.{◌≡◌, ℕ, ◌+◌, ◌<◌, ◌≤◌, length, drop, filter, get_or, List, [], ◌∷◌, ◌++◌, Bool, true, false, not, ◌||◌, if◌then◌else◌, Option, Some, None, IsSome, is_some, Ok, Err, inl, inr, refl, sym, ap, subst, ◌∙◌}
use Rattle.std.proofs.lemmas.List.{drop_all, drop_more}
use Rattle.std.proofs.lemmas.List.Elements.{filter_agree}
use Rattle.std.specs.List.{list_any}
use Rattle.std.specs.Option.{option_or}
use Rattle.std.specs.FinMap as map
use Rattle.std.specs.Prelude.{◌==◌}
use Rattle.std.specs.Cmp.Lexicographic.{pointwise}
use Rattle.wac_types_base.specs.declared.item.ExternKind.{ExternKind}
use Rattle.wac_types_base.specs.declared.item.ItemKind.{ItemKind}
use Rattle.wac_types_base.specs.declared.ids.InterfaceId.{InterfaceId}
use Rattle.wac_types_base.specs.Record.{Collection}
use Rattle.wac_types_base.specs.Collection.{IsAcyclic}
use Rattle.wac_types_base.specs.Entries.{Name, names_of, texts_of, value_at}
use Rattle.wac_types_base.specs.Graph.{Among}
use Rattle.wac_types_base.specs.Stated.{Stated, desc, exports_of, kind_of, stated_of}
use Rattle.wac_graph_core.specs.declared.error.ExportError.{ExportError}
use Rattle.wac_graph_core.specs.declared.ids.PackageId.{PackageId}
use Rattle.wac_graph_core.specs.Nodes.{NodeData, Role}
use Rattle.wac_graph_core.specs.NodeMaps.{IsImport}
use Rattle.wac_graph_core.specs.Edges.{alias_edge, argument_edge}
use Rattle.wac_graph_core.specs.Graph.{Graph, IsGraph, instantiated, node_at, package_if, package_in, package_made}
use Rattle.wac_graph_core.specs.Exporting.{ExportRefused, Exports}
use Rattle.wac_graph_core.proofs.NodeSteps.{new_at}
use Rattle.wac_composition.specs.Composition.{imported, defined}
use Rattle.wac_parser_tree.specs.Trees as t
use Rattle.wac_parser_tree.specs.Trees.{Span}
use Rattle.wac_parser_tree.specs.Accessors.{extern_name_span, extern_name_text}
use Rattle.wac_parser_refusals.specs.declared.refusal.Refusal.{Refusal}
use Rattle.wac_parser_refusals.specs.Causes.{Answer, ◌>>◌, ◌>>=◌, pure, unless_clear, present, each, ExportConflict, ExportRequiresAs, DuplicateExternName, InvalidExternName, SpreadExportNoEffect}
use Rattle.wac_parser_refusals.specs.Outcomes.{IsHeld, IsMemory, IsOutcome, IsRefusal, Refuses}
use Rattle.wac_parser_refusals.specs.Views.{Names, cause_in}
use Rattle.wac_parser_refusals.proofs.Outcomes.{memory_refusal, then_refused}
use Rattle.wac_parser_declare.specs.Holding.{Holds, NamesStand, scope_of}
use Rattle.wac_parser_declare.proofs.Loops.{step_by as go_on}
use Rattle.wac_parser_declare.proofs.Members.{told}
use Rattle.wac_parser_resolve.specs.declared.spans.Spans.{Spans}
use Rattle.wac_parser_resolve.specs.declared.exports.Definition.{Definition}
use Rattle.wac_parser_resolve.specs.declared.exports.ExportName.{ExportName}
use Rattle.wac_parser_resolve.specs.declared.state.State.{State as Held}
use Rattle.wac_parser_resolve.specs.Ascribing.{Bound, Denoted, Import, State, is_projection, own_name, same_origin, speak_of, is_own_definition}
use Rattle.wac_parser_resolve.specs.Denoting.{instance_identifier, spoken}
use Rattle.wac_parser_resolve.specs.Holding.{AreNamed, Denotes, HasItem, InTurn, IsNamed, Says}
use Rattle.wac_parser_resolve.specs.InStatements.{DenotesOn}
use Rattle.wac_parser_resolve.specs.InExports.{IsBoundTo, IsDefinitionIn, is_defined, export_cause, ident_of, left_to_export}
use Rattle.wac_parser_resolve.specs.InExpressions.{SaysThat}
use Rattle.wac_parser_resolve.specs.Knowing.{handed_under, content_in}
use Rattle.wac_parser_resolve.specs.Later.{AddsNone, Inner, IsWithin, Later}
use Rattle.wac_parser_resolve.specs.Said.{AreExported, IsAsked, IsDeclared, IsNoted, IsSaid, last_noted}
use Rattle.wac_types_names.specs.InterfaceNames.{is_exportable}
use Rattle.wac_parser_resolve.specs.Saying.{export_left, export_name, export_one, export_span, exported, new_export, no_definition, written_name}
use Rattle.wac_parser_resolve.specs.Told.{IsInferred, IsInferredBy}
use Rattle.wac_parser_resolve.proofs.Exporting.{export_place, exportable, one_thing, unexportable}
use Rattle.wac_parser_resolve.proofs.Growing.{Later-export}
use Rattle.wac_parser_resolve.proofs.Inferring.{identifier_told, own_told}
use Rattle.wac_parser_resolve.proofs.Nodes.{denotes_stays, item_stays, names_stay, node_stays, same_node}
use Rattle.wac_parser_resolve.proofs.Rooted.{AreFound, both_found}
use Rattle.wac_parser_resolve.proofs.Staying.{says_stay}
use Rattle.wac_parser_resolve.proofs.Turns.{turn_map, turn_more, turn_on}
use Rattle.wac_graph_core.proofs.Rising.{rises_apart}

-- ---- what is said, on a graph that grew

-- a definition was one before
abbrev pub DefinitionsBack : Graph → Graph → Type 0
DefinitionsBack g h = (k : ℕ) (x : NodeData) → node_at h k ≡ Some x → x.role ≡ Role.Defined → (y : NodeData) × (node_at g k ≡ Some y) × (y.role ≡ Role.Defined)

-- the state of the code with this graph and these places of exports
abbrev pub beside_it : Held → Graph → Spans → Held
beside_it b h spans = record b { board = record b.board { types = record b.board.types { graph = h } }; exports = spans }

module _ (own : t.PackageName) (b : Held) (h : Graph) (spans : Spans) (s : State) (said : IsSaid own b s) (as_ : List Denoted) (es : List (Name × Bound)) where
  -- what is said with these aliases and exports
  abbrev said_with : State
  said_with = record s { aliases = as_; exports = es }

  asked_stays : Later b.board.types.graph h → (i : Import) (e : ℕ × Span) → IsAsked b.board.types.graph b.ids.noted.items i e → IsAsked h b.ids.noted.items i e
  asked_stays l i e a = record {
    import = node_stays b.board.types.graph h l [] [] (λ j k x. x) (imported i.name) e.0 a.import;
    item = item_stays b.board.types.graph h l e.0 i.item a.item;
    span = a.span;
    id = a.id;
  }

  declared_stays : Later b.board.types.graph h → (d : Name × Stated) (k : ℕ) → IsDeclared b.board.types.graph d k → IsDeclared h d k
  declared_stays l d k a = record {
    definition = node_stays b.board.types.graph h l [] [] (λ j i x. x) (defined d.0 d.1) k a.definition;
    item = item_stays b.board.types.graph h l k d.1 a.item;
  }

  pub said_beside : Later b.board.types.graph h → IsWithin b.board.types.graph h → ((k : ℕ) (n : Name) → IsImport h.nodes k n → IsImport b.board.types.graph.nodes k n) → DefinitionsBack b.board.types.graph h
      → Says h b.board.instances.noted.items b.nodes said_with → AreExported h (names_of b.board.instances.noted.items) spans.noted.items es → IsSaid own (beside_it b h spans) said_with
  said_beside l within imports back says exports = let g = b.board.types.graph in record {
    board = record {
      says = says;
      known = λ k.
          ap (λ (c : Collection). option_or (content_in c h.places k) (handed_under b.board.types k)) within.types
          ∙ ap (λ ps. option_or (content_in g.types ps k) (handed_under b.board.types k)) within.places ∙ said.board.known k;
      handed = said.board.handed;
      own = said.board.own;
    };
    own = said.own;
    stand = subst (λ (c : Collection). NamesStand c b.names) (sym within.types) said.stand;
    scope = ap (λ (c : Collection). scope_of c b.names) within.types ∙ said.scope;
    imports = record {
      rising = said.imports.rising;
      are = turn_map (IsAsked g b.ids.noted.items) (IsAsked h b.ids.noted.items) (asked_stays l) s.imports b.imports.noted.items said.imports.are;
      all = λ k n x. said.imports.all k n (imports k n x);
    };
    definitions = record {
      nodes = said.definitions.nodes;
      rising = said.definitions.rising;
      are = turn_map (IsDeclared g) (IsDeclared h) (declared_stays l) s.definitions said.definitions.nodes said.definitions.are;
      all = λ k x at r. let y = back k x at r in said.definitions.all k y.0 y.1 y.2;
    };
    exports = exports;
  }

-- ---- an export

module _ (g h : Graph) (k : ℕ) (n : Name) (step : Exports g h k n) where
  abbrev written : NodeData
  written = record step.node { export = Some n }

  places : h.places ≡ g.places
  places = ap (λ (x : Graph). x.places) step.made

  edges : h.edges ≡ g.edges
  edges = ap (λ (x : Graph). x.edges) step.made

  export_within : IsWithin g h
  export_within = record { types = ap (λ (x : Graph). x.types) step.made; places = places }

  -- the node as it was before
  node_back : (j : ℕ) (y : NodeData) → node_at h j ≡ Some y → (z : NodeData) × (node_at g j ≡ Some z) × (y.role ≡ z.role) × (y.of ≡ z.of)
  node_back j y at = elim (new_at g.nodes k written j y (ap (λ m. map.get m j) (sym (ap (λ (x : Graph). x.nodes) step.made)) ∙ at)) [
    | inl e ↦ (step.node, ap (node_at g) e.0 ∙ step.there, ap (λ (x : NodeData). x.role) (sym e.1), ap (λ (x : NodeData). x.of) (sym e.1))
    | inr e ↦ (y, e.1, refl, refl)
  ]

  packages : (o : Option PackageId) → package_if h o ≡ package_if g o
  packages None = refl
  packages (Some id) = ap (λ ps. package_in ps id) places

  instance_by : (j : ℕ) (o : Option NodeData) → node_at h j ≡ o → IsSome (package_made h o) → IsSome (instantiated g j)
  instance_by j None at x = absurd (cc x)
  instance_by j (Some y) at x =
      let z = node_back j y at in
      subst IsSome (sym (ap (package_made g) z.1)) (subst (λ (o : Option PackageId). IsSome (package_if g o)) z.3 (subst IsSome (packages y.of) x))

  export_none : AddsNone g h
  export_none = record {
    instances = λ j x. instance_by j (node_at h j) refl x;
    aliased = λ j y at r. let z = node_back j y at in (z.0, z.1, sym z.2 ∙ r);
    aliases = λ i j m e. subst (Among (alias_edge i j m)) edges e;
    arguments = λ i a m e. subst (Among (argument_edge a i m)) edges e;
  }

  import_back : (j : ℕ) (m : Name) → IsImport h.nodes j m → IsImport g.nodes j m
  import_back j m i = let z = node_back j i.node i.there in record { node = z.0; there = z.1; role = sym z.2 ∙ i.role }

  definitions_back : DefinitionsBack g h
  definitions_back j y at r = let z = node_back j y at in (z.0, z.1, sym z.2 ∙ r)

module _ (h : Graph) (noted : List (ℕ × Span)) (names : List (Name × ℕ)) (s : State) (es : List (Name × Bound)) where
  says_with : Says h noted names s → Says h noted names (record s { exports = es })
  says_with x = record { rising = x.rising; made = x.made; all = x.all; aliases = x.aliases; root = x.root }

module _ (own : t.PackageName) (b : Held) (h : Graph) (spans : Spans) (k : ℕ) (n : Name) (s : State) (d : Denoted) (at : Span) where
  abbrev more : List (Name × Bound)
  more = s.exports ++ (n, record { denoted = d; span = at }) ∷ []

  pub said_exported : IsSaid own b s → Denotes b.board.types.graph (names_of b.board.instances.noted.items) d k → Exports b.board.types.graph h k n
      → spans.noted.items ≡ b.exports.noted.items ++ (k, at) ∷ [] → IsSaid own (beside_it b h spans) (record s { exports = more })
  said_exported said dn step noted =
      let g = b.board.types.graph in
      let ns = names_of b.board.instances.noted.items in
      let l = Later-export g h k n step in
      let here = denotes_stays g h l ns ns (λ i j x. x) d k dn in
      said_beside own b h spans s said s.aliases more l (export_within g h k n step) (import_back g h k n step) (definitions_back g h k n step)
      (says_with h b.board.instances.noted.items b.nodes s more (says_stay g h l (export_none g h k n step) b.board.instances.noted.items b.nodes s said.board.says))
      (record {
        are = subst (AreNamed h ns more) (sym (ap (λ (x : Graph). x.exports) step.made))
            (turn_more (IsNamed h ns) s.exports g.exports (n, record { denoted = d; span = at }) (n, k) (names_stay g h l ns ns (λ i j x. x) s.exports g.exports said.exports.are) (record { name = refl; denotes = here }));
        noted = subst (InTurn (IsNoted h ns) more) (sym noted)
            (turn_more (IsNoted h ns) s.exports b.exports.noted.items (n, record { denoted = d; span = at }) (k, at)
            (turn_map (IsNoted g ns) (IsNoted h ns) (λ e x is. record { denotes = denotes_stays g h l ns ns (λ i j y. y) e.1.denoted x.0 is.denotes; span = is.span }) s.exports b.exports.noted.items said.exports.noted)
            (record { denotes = here; span = refl }));
      })

-- ---- what is answered of an export

module _ (d : Denoted) (helped : Bool) (n : t.Ident) where
  -- over what was said, where what is exported is spoken of
  abbrev pub exported_over : State → Answer State
  exported_over u = do
    no_definition n helped (value_at u.root n.string)
    new_export u n helped (value_at u.exports n.string)
    unless_clear (not (is_exportable n.string)) (InvalidExternName n.string ExternKind.Export) n.span
    pure (record u { exports = u.exports ++ (n.string, record { denoted = d; span = n.span }) ∷ [] })

  pub spoken_over : (s : State) → exported d helped s n ≡ exported_over (speak_of s d)
  spoken_over s = go (not (is_projection d.origin) || list_any (λ (e : Denoted). same_origin e.origin d.origin) s.aliases)
    where
      chosen : Bool → State
      chosen c = if c then s else record s { aliases = s.aliases ++ d ∷ [] }

      first : State → Option Bound → Answer State
      first u o = do
        no_definition n helped (value_at s.root n.string)
        new_export s n helped o
        unless_clear (not (is_exportable n.string)) (InvalidExternName n.string ExternKind.Export) n.span
        pure (record u { exports = s.exports ++ (n.string, record { denoted = d; span = n.span }) ∷ [] })

      second : State → Option Bound → Answer State
      second u o = do
        no_definition n helped (value_at u.root n.string)
        new_export u n helped o
        unless_clear (not (is_exportable n.string)) (InvalidExternName n.string ExternKind.Export) n.span
        pure (record u { exports = u.exports ++ (n.string, record { denoted = d; span = n.span }) ∷ [] })

      by_found : (o : Option Bound) → first (record s { aliases = s.aliases ++ d ∷ [] }) o ≡ second (record s { aliases = s.aliases ++ d ∷ [] }) o
      by_found None = refl
      by_found (Some e) = refl

      go : (c : Bool) → first (chosen c) (value_at s.exports n.string) ≡ exported_over (chosen c)
      go true = refl
      go false = by_found (value_at s.exports n.string)

  -- ---- step by step

  module _ {A : Type 0} (rest : Answer A) where
    conflict_by : (o : Option Bound) (x : Bound) (e : Refusal) → o ≡ Some x → is_own_definition x.denoted.origin ≡ true → Refuses e (ExportConflict n.string (desc x.denoted.item) x.span helped) n.span
        → IsRefusal (no_definition n helped o >> rest) e
    conflict_by o x e is def r =
        subst (λ (p : Option Bound). IsRefusal (no_definition n helped p >> rest) e) (sym is)
        (subst (λ (c : Bool). IsRefusal (unless_clear c (ExportConflict n.string (desc x.denoted.item) x.span helped) n.span >> rest) e) (sym def) r)

    no_conflict : (o : Option Bound) → is_defined o ≡ false → (no_definition n helped o >> rest) ≡ rest
    no_conflict None e = refl
    no_conflict (Some x) e = ap (λ (c : Bool). unless_clear c (ExportConflict n.string (desc x.denoted.item) x.span helped) n.span >> rest) e

    new_by : (u : State) (o : Option Bound) → o ≡ None → (new_export u n helped o >> rest) ≡ rest
    new_by u o e = ap (λ (p : Option Bound). new_export u n helped p >> rest) e

    valid_by : (c : Bool) → c ≡ true → (unless_clear (not c) (InvalidExternName n.string ExternKind.Export) n.span >> rest) ≡ rest
    valid_by c e = ap (λ (x : Bool). unless_clear (not x) (InvalidExternName n.string ExternKind.Export) n.span >> rest) e

    taken_by : (u : State) (o : Option Bound) (x : Bound) (e : Refusal) → o ≡ Some x → Refuses e (DuplicateExternName n.string ExternKind.Export (export_span u x) helped) n.span → IsRefusal (new_export u n helped o >> rest) e
    taken_by u o x e is r = subst (λ (p : Option Bound). IsRefusal (new_export u n helped p >> rest) e) (sym is) r

    invalid_by : (c : Bool) (e : Refusal) → c ≡ false → Refuses e (InvalidExternName n.string ExternKind.Export) n.span → IsRefusal (unless_clear (not c) (InvalidExternName n.string ExternKind.Export) n.span >> rest) e
    invalid_by c e is r = subst (λ (x : Bool). IsRefusal (unless_clear (not x) (InvalidExternName n.string ExternKind.Export) n.span >> rest) e) (sym is) r

-- a refusal that names no cause is want of memory
memory_told : (e : Refusal) → Names e None → IsMemory (cause_in e)
memory_told (Refusal.Named b) h = subst IsMemory (sym h) tt
memory_told Refusal.Memory h = tt

value_among : (es : List (Name × Bound)) (n : Name) (e : Bound) → value_at es n ≡ Some e → (x : Name × Bound) × Among x es × (x.1 ≡ e)
value_among [] n e h = absurd (cc h)
value_among (y ∷ es) n e h = by_test (pointwise ◌==◌ n y.0) h (value_among es n e)
  where
    by_test : (c : Bool) → (if c then Some y.1 else value_at es n) ≡ Some e → (value_at es n ≡ Some e → (x : Name × Bound) × Among x es × (x.1 ≡ e)) → (x : Name × Bound) × Among x (y ∷ es) × (x.1 ≡ e)
    by_test true q f = (y, inl refl, cc q)
    by_test false q f = let z = f q in (z.0, inr z.1, z.2)

module _ (own : t.PackageName) (b : Held) (u : State) (said : IsSaid own b u) (is : IsGraph b.board.types.graph) where
  -- the place that is noted last of an export's node is that of the export
  pub earlier_place : (n : Name) (x : Bound) (j : ℕ) (other : Span) → value_at u.exports n ≡ Some x → Denotes b.board.types.graph (names_of b.board.instances.noted.items) x.denoted j
      → export_span u x ≡ unwrap_or (last_noted b.exports.noted.items j) other
  earlier_place n x j other at dn =
      let g = b.board.types.graph in
      let ns = names_of b.board.instances.noted.items in
      let apart = rises_apart (names_of b.board.instances.noted.items) said.board.says.rising in
      let a = value_among u.exports n x at in
      let y = turn_on (IsNoted g ns) u.exports b.exports.noted.items a.0 said.exports.noted a.1 in
      let o = x.denoted.origin in
      let dy : Denotes g ns x.denoted y.0.0 = subst (λ (z : Bound). Denotes g ns z.denoted y.0.0) a.2 y.2.denotes in
      let same : y.0.0 ≡ j = same_node g is ns o o y.0.0 j (one_thing g is ns apart o o j dn.node dn.node) dy.node dn.node in
      export_place g is ns apart o j dn.node u.exports b.exports.noted.items x.span other y.0 said.exports.noted y.1 same

module _ (b : Held) (u : State) (d : Denoted) (name : ExportName) where
  -- a name that denotes a definition
  pub conflict_refused : (o : Definition) (word : Name) (e : Refusal) → IsBoundTo b.board.types.graph (names_of b.board.instances.noted.items) (value_at u.root name.text.now) o → ((x : Stated) → HasItem b.board.types.graph o.node x → word ≡ desc x)
      → Refuses e (ExportConflict name.text.now word o.span name.is_helped) name.span → IsRefusal (exported_over d name.is_helped (ident_of name) u) e
  conflict_refused o word e at called r =
      conflict_by d name.is_helped (ident_of name) _ (value_at u.root name.text.now) at.bound e at.is at.defines
      (subst (λ (w : Name). Refuses e (ExportConflict name.text.now w at.bound.span name.is_helped) name.span) (called at.bound.denoted.item at.denotes.item)
      (subst (λ (x : Span). Refuses e (ExportConflict name.text.now word x name.is_helped) name.span) at.span r))

module _ (own : t.PackageName) (b : Held) (u : State) (said : IsSaid own b u) (is : IsGraph b.board.types.graph) (d : Denoted) (name : ExportName) where
  abbrev old_graph : Graph
  old_graph = b.board.types.graph

  abbrev made : List ℕ
  made = names_of b.board.instances.noted.items

  abbrev ident : t.Ident
  ident = ident_of name

  abbrev helped : Bool
  helped = name.is_helped

  module _ (free : is_defined (value_at u.root ident.string) ≡ false) where
    found : (o : Option ℕ) → value_at old_graph.exports ident.string ≡ o → AreFound old_graph made (value_at u.exports ident.string) o
    found o e = subst (AreFound old_graph made (value_at u.exports ident.string)) e (both_found old_graph made u.exports old_graph.exports ident.string said.exports.are)

    none_found : (o : Option Bound) → AreFound old_graph made o None → o ≡ None
    none_found None f = refl
    none_found (Some x) f = absurd f

    some_found : (o : Option Bound) (j : ℕ) → AreFound old_graph made o (Some j) → (x : Bound) × (o ≡ Some x) × Denotes old_graph made x.denoted j
    some_found None j f = absurd f
    some_found (Some x) j f = (x, refl, f)

    -- where the name is free and one of an export
    pub exported_ok : (h : Graph) (k : ℕ) → Exports old_graph h k ident.string
        → exported_over d helped ident u ≡ Ok (record u { exports = u.exports ++ (ident.string, record { denoted = d; span = ident.span }) ∷ [] })
    exported_ok h k step =
        no_conflict d helped ident _ (value_at u.root ident.string) free
        ∙ new_by d helped ident _ u (value_at u.exports ident.string) (none_found (value_at u.exports ident.string) (found None step.none))
        ∙ valid_by d helped ident _ (is_exportable ident.string) (exportable ident.string step.valid)

    -- the refusals of the graph
    pub graph_refused : (fault : ExportError) (e : Refusal) → ExportRefused old_graph ident.string fault → Names e (export_cause b.exports.noted.items name fault) → IsRefusal (exported_over d helped ident u) e
    graph_refused (ExportError.ExportAlreadyExists m j) e refused named =
        let f = some_found (value_at u.exports ident.string) j (found (Some j) refused.1) in
        let at : unwrap_or (last_noted b.exports.noted.items j) ident.span ≡ export_span u f.0 = sym (earlier_place own b u said is ident.string f.0 j ident.span f.1 f.2) in
        subst (λ (q : Answer State). IsRefusal q e) (sym (no_conflict d helped ident _ (value_at u.root ident.string) free))
        (taken_by d helped ident _ u (value_at u.exports ident.string) f.0 e f.1
        (subst (λ (s : Span). Refuses e (DuplicateExternName ident.string ExternKind.Export s helped) ident.span) at
        (subst (λ (z : Name). Refuses e (DuplicateExternName z ExternKind.Export (unwrap_or (last_noted b.exports.noted.items j) ident.span) helped) ident.span) refused.0
        (told e _ _ named))))
    graph_refused (ExportError.InvalidExportName m source) e refused named =
        subst (λ (q : Answer State). IsRefusal q e)
        (sym (no_conflict d helped ident _ (value_at u.root ident.string) free
        ∙ new_by d helped ident _ u (value_at u.exports ident.string) (none_found (value_at u.exports ident.string) (found None refused.1))))
        (invalid_by d helped ident _ (is_exportable ident.string) e (unexportable ident.string refused.2)
        (subst (λ (z : Name). Refuses e (InvalidExternName z ExternKind.Export) ident.span) refused.0 (told e _ _ named)))
    graph_refused ExportError.Memory e refused named = memory_refusal (exported_over d helped ident u) e (memory_told e named)

-- no definition is found
pub none_defined : (g : Graph) (ns : List ℕ) (o : Option Bound) (r : Option Definition) → ((x : Definition) → r ≡ Some x → ⊥) → IsDefinitionIn g ns o r → is_defined o ≡ false
none_defined g ns o None h f = f
none_defined g ns o (Some x) h f = absurd (h x refl)

-- what is answered of an export, by what is answered over what is spoken of
pub held_over : (H : State → ⊤ → Type 0) (d : Denoted) (helped : Bool) (n : t.Ident) (s q : State) → exported_over d helped n (speak_of s d) ≡ Ok q → H q tt → IsHeld H (exported d helped s n) tt
held_over H d helped n s q e x = subst (λ (r : Answer State). IsHeld H r tt) (sym (spoken_over d helped n s ∙ e)) x

pub refused_over : (d : Denoted) (helped : Bool) (n : t.Ident) (s : State) (e : Refusal) → IsRefusal (exported_over d helped n (speak_of s d)) e → IsRefusal (exported d helped s n) e
refused_over d helped n s e x = subst (λ (r : Answer State). IsRefusal r e) (sym (spoken_over d helped n s)) x

-- ---- the name that is told

pub inferred_told : (g : Graph) → IsGraph g → IsAcyclic g.types → (k : ℕ) (o : Option Name) → IsInferred g k o → (ns : List ℕ) (d : Denoted) → Denotes g ns d k → o ≡ export_name d
inferred_told g is a k o h ns d dn =
    by_identifier (instance_identifier (kind_of d.item) d.item) (subst (λ (i : Option Name). IsInferredBy g k i o) (identifier_told g a k d.item dn.item) h)
  where
    by_identifier : (i : Option Name) → IsInferredBy g k i o → o ≡ option_or i (own_name d.origin)
    by_identifier None x = own_told g is ns d.origin k o dn.node x
    by_identifier (Some n) x = x

module _ (f : Name → Answer State) (s : Span) where
  pub unnamed_refused : (o : Option Name) (e : Refusal) → None ≡ o → Refuses e ExportRequiresAs s → IsRefusal (present o ExportRequiresAs s >>= f) e
  unnamed_refused o e is r = subst (λ (p : Option Name). IsRefusal (present p ExportRequiresAs s >>= f) e) is r

  pub named_outcome : (H : State → ⊤ → Type 0) (o : Option Name) (n : Name) (r : Result ⊤ Refusal) → Some n ≡ o → IsOutcome H (f n) r → IsOutcome H (present o ExportRequiresAs s >>= f) r
  named_outcome H o n r is x = subst (λ (p : Option Name). IsOutcome H (present p ExportRequiresAs s >>= f) r) is x

-- ---- an export of an instance

-- only aliases are more where something is spoken of
spoken_with : (s : State) (d : Denoted) → (as_ : List Denoted) × (speak_of s d ≡ record s { aliases = as_ })
spoken_with s d = by_test (not (is_projection d.origin) || list_any (λ (e : Denoted). same_origin e.origin d.origin) s.aliases)
  where
    by_test : (c : Bool) → (as_ : List Denoted) × ((if c then s else record s { aliases = s.aliases ++ d ∷ [] }) ≡ record s { aliases = as_ })
    by_test true = (s.aliases, refl)
    by_test false = (s.aliases ++ d ∷ [], refl)

module _ (own : t.PackageName) (b : Held) (h : Graph) (s : State) (d : Denoted) where
  pub said_spoken : IsSaid own b s → Inner b.board.types.graph h → IsWithin b.board.types.graph h → Says h b.board.instances.noted.items b.nodes (speak_of s d) → IsSaid own (beside_it b h b.exports) (speak_of s d)
  said_spoken said inner within says =
      let g = b.board.types.graph in
      let ns = names_of b.board.instances.noted.items in
      let w = spoken_with s d in
      subst (IsSaid own (beside_it b h b.exports)) (sym w.1)
      (said_beside own b h b.exports s said w.0 s.exports inner.later within inner.imports
      (λ k x at r. let z = inner.definitions k x.item_kind (record { node = x; there = at; role = r; type = refl }) in (z.node, z.there, z.role))
      (subst (Says h b.board.instances.noted.items b.nodes) w.1 says)
      (record {
        are = subst (AreNamed h ns s.exports) (sym inner.exports) (names_stay g h inner.later ns ns (λ i j x. x) s.exports g.exports said.exports.are);
        noted = turn_map (IsNoted g ns) (IsNoted h ns) (λ e x is. record { denotes = denotes_stays g h inner.later ns ns (λ i j y. y) e.1.denoted x.0 is.denotes; span = is.span }) s.exports b.exports.noted.items said.exports.noted;
      }))

module _ (h : Graph) (noted : List (ℕ × Span)) (names : List (Name × ℕ)) (s : State) (f : Denoted → Answer State) where
  pub alias_outcome : (H : State → ⊤ → Type 0) (q : Answer Denoted) (k : ℕ) (r : Result ⊤ Refusal) → IsHeld (SaysThat h noted names) (spoken s q) k
      → ((e : Denoted) → Says h noted names (speak_of s e) → Denotes h (names_of noted) e k → IsOutcome H (f e) r) → IsOutcome H (q >>= f) r
  alias_outcome H (Ok e) k r x step = step e x.0 x.1
  alias_outcome H (Err c) k r x step = absurd x

  pub alias_refused : (q : Answer Denoted) (e : Refusal) → IsRefusal (spoken s q) e → IsRefusal (q >>= f) e
  alias_refused (Ok d) e x = memory_refusal (f d) e x
  alias_refused (Err c) e x = x

-- what is denoted is denoted still
pub denotes_in : (b c : Held) → Later b.board.types.graph c.board.types.graph → c.board.instances.noted.items ≡ b.board.instances.noted.items → (d : Denoted) (k : ℕ) → DenotesOn b d k → DenotesOn c d k
denotes_in b c l same d k dn =
    let ns = names_of b.board.instances.noted.items in
    subst (λ (xs : List (ℕ × Span)). Denotes c.board.types.graph (names_of xs) d k) (sym same) (denotes_stays b.board.types.graph c.board.types.graph l ns ns (λ i j x. x) d k dn)

-- ---- export by export

module _ {Z : Type 0} (at : Span) (d : Denoted) (items : List (String Z)) (i : ℕ) where
  module _ (item : String Z) (lt : i < length items) (is : item ≡ get_or items i item) (n : Name) (same : n ≡ string_bytes item) where
    these : texts_of (drop i items) ≡ n ∷ texts_of (drop (i + 1) items)
    these =
        ap (λ (us : List (String Z)). texts_of us) (drop_more items i item lt) ∙ ap (λ (t : String Z). string_bytes t ∷ texts_of (drop (i + 1) items)) (sym is)
        ∙ ap (λ (m : Name). m ∷ texts_of (drop (i + 1) items)) (sym same)

    pub one_exported : (H : State → ⊤ → Type 0) (s : State) → IsHeld H (export_one at d s n) tt
        → (q : State) × H q tt × (each (export_one at d) s (texts_of (drop i items)) ≡ each (export_one at d) q (texts_of (drop (i + 1) items)))
    one_exported H s x =
        let z = go_on H (λ (q : State). each (export_one at d) q (texts_of (drop (i + 1) items))) (export_one at d s n) tt x in
        (z.0, z.1, ap (each (export_one at d) s) these ∙ z.2)

    pub one_refused : (s : State) (e : Refusal) → IsRefusal (export_one at d s n) e → IsRefusal (each (export_one at d) s (texts_of (drop i items))) e
    one_refused s e x =
        subst (λ (ms : List Name). IsRefusal (each (export_one at d) s ms) e) (sym these)
        (then_refused (λ (q : State). each (export_one at d) q (texts_of (drop (i + 1) items))) (export_one at d s n) e x)

  pub all_exported : (s : State) → length items ≤ i → each (export_one at d) s (texts_of (drop i items)) ≡ Ok s
  all_exported s h = ap (λ (us : List (String Z)). each (export_one at d) s (texts_of us)) (drop_all i items h)

-- ---- what is left to export

there_same : (g : Graph) (ns : List ℕ) (o : Option Bound) (p : Option ℕ) → AreFound g ns o p → is_some p ≡ is_some o
there_same g ns None None f = refl
there_same g ns None (Some k) f = absurd f
there_same g ns (Some x) None f = absurd f
there_same g ns (Some x) (Some k) f = refl

pub left_is : (g : Graph) (ns : List ℕ) (es : List (Name × Bound)) (x : Stated) (i : InterfaceId) → AreNamed g ns es g.exports → Holds g.types x (ItemKind.Instance i)
    → left_to_export g.exports (names_of (exports_of (stated_of g.types (ItemKind.Instance i)))) ≡ filter (λ n. not (is_some (value_at es n))) (names_of (exports_of x))
left_is g ns es x i all h =
    filter_agree (λ (n : Name). not (is_some (value_at g.exports n))) (λ n. not (is_some (value_at es n)))
    (λ n. ap not (there_same g ns (value_at es n) (value_at g.exports n) (both_found g ns es g.exports n all))) (names_of (exports_of (stated_of g.types (ItemKind.Instance i))))
    ∙ ap (λ (y : Stated). filter (λ n. not (is_some (value_at es n))) (names_of (exports_of y))) h.same

module _ (g : State) (s dots : Span) (d : Denoted) where
  pub none_left : (ks : List Name) (e : Refusal) → ks ≡ [] → Refuses e SpreadExportNoEffect s → IsRefusal (export_left g s dots d ks) e
  none_left [] e is r = r
  none_left (k ∷ ks) e is r = absurd (cc is)

  pub some_left : (ks : List Name) → (ks ≡ [] → ⊥) → each (export_one dots d) g ks ≡ export_left g s dots d ks
  some_left [] h = absurd (h refl)
  some_left (k ∷ ks) h = refl

-- ---- a name that is written

pub written_as : (x : t.ExternName) (n : Name) (s : Span) → n ≡ extern_name_text x → s ≡ extern_name_span x → record { string = n; span = s } ≡ written_name x
written_as (t.ExternName.ident i) n s e f = ap (λ (m : Name). record { string = m; span = s }) e ∙ ap (λ (z : Span). record { string = i.string; span = z }) f
written_as (t.ExternName.string x) n s e f = ap (λ (m : Name). record { string = m; span = s }) e ∙ ap (λ (z : Span). record { string = x.value; span = z }) f
