-- Declarations: the place of an earlier export, and what is said behind one.
use Rattle.std.specs.Prelude.{Result, ⊤, string_bytes, unwrap_or}
use Rattle.std.proofs.Common.{◌≡◌, ℕ, List, [], ◌∷◌, ◌++◌, Bool, true, false, not, ◌==◌, if◌then◌else◌, Option, Some, None, IsSome, inl, inr, refl, sym, ap, subst, ◌∙◌}
use Rattle.std.specs.Cmp.Lexicographic.{bytes_decides, pointwise}
use Rattle.std.specs.FinMap as map
use Rattle.wac_types_base.specs.declared.item.ExternKind.{ExternKind}
use Rattle.wac_types_base.specs.declared.item.ItemKind.{ItemKind}
use Rattle.wac_types_base.specs.declared.item.«Type».{«Type» as TypeKind}
use Rattle.wac_types_base.specs.Record.{Collection}
use Rattle.wac_types_base.specs.Entries.{AreDistinct, Name, names_of, value_at}
use Rattle.wac_types_base.specs.Graph.{Among}
use Rattle.wac_types_base.specs.Stated.{Stated}
use Rattle.wac_types_base.proofs.Replacing.{number_same}
use Rattle.wac_types_fit.proofs.Items.{value_at-among}
use Rattle.wac_graph_core.specs.declared.error.DefineTypeError.{DefineTypeError}
use Rattle.wac_graph_core.specs.Defining.{DefineRefused, DefinesType}
use Rattle.wac_graph_core.specs.Nodes.{NodeData, defined_node}
use Rattle.wac_graph_core.specs.NodeMaps.{IsImport}
use Rattle.wac_graph_core.specs.Graph.{Graph, IsGraph, node_at}
use Rattle.wac_graph_core.proofs.NodeMap.{get-insert_same}
use Rattle.wac_composition.specs.Composition.{defined}
use Rattle.wac_parser_tree.specs.Trees as t
use Rattle.wac_parser_tree.specs.Trees.{Span}
use Rattle.wac_parser_refusals.specs.declared.refusal.Refusal.{Refusal}
use Rattle.wac_parser_refusals.specs.Causes.{◌>>◌, DeclarationConflict, InvalidExternName, unless_clear, plainly}
use Rattle.wac_parser_refusals.specs.Outcomes.{IsMemory, IsOutcome, IsRefusal, Tells}
use Rattle.wac_parser_refusals.specs.Views.{Names, cause_in}
use Rattle.wac_parser_refusals.proofs.Outcomes.{memory_refusal}
use Rattle.wac_parser_declare.specs.Holding.{Holds}
use Rattle.wac_parser_declare.proofs.Members.{told}
use Rattle.wac_parser_resolve.specs.declared.state.State.{State as Held}
use Rattle.wac_parser_resolve.specs.Ascribing.{Bound, Denoted, State, bound}
use Rattle.std.specs.Option.{option_or}
use Rattle.wac_parser_resolve.specs.Holding.{AreNamed, Denotes, HasItem, InTurn, IsDefinition, IsNamed}
use Rattle.wac_parser_resolve.specs.InStatements.{NotesExport, definition_cause, noted_export}
use Rattle.wac_parser_resolve.specs.Later.{IsWithin, Later, first_name}
use Rattle.wac_parser_resolve.specs.Said.{AreAsked, AreDeclared, AreExported, IsAsked, IsDeclared, IsNoted, IsSaid, last_noted}
use Rattle.wac_types_names.specs.InterfaceNames.{is_extern_name}
use Rattle.wac_parser_resolve.specs.Saying.{declaration, export_span, not_exported, with_definition}
use Rattle.wac_parser_resolve.proofs.Exporting.{export_place, last_is, one_thing, first_new}
use Rattle.wac_parser_resolve.proofs.Growing.{Later-define}
use Rattle.wac_parser_resolve.proofs.Importing.{extern_name, last_other, no_extern_name}
use Rattle.wac_parser_resolve.proofs.Nodes.{same_node}
use Rattle.wac_parser_resolve.proofs.Numbers.{among_last, among_more}
use Rattle.wac_parser_resolve.proofs.Rooted.{AreFound, both_found}
use Rattle.wac_parser_resolve.proofs.Stating.{Carries, asked_carried, carries_later, declared_carried, known_within, named_carried, names_carried, node_back, none_defined, noted_carried, scope_carried, with_graph, with_types}
use Rattle.wac_parser_resolve.proofs.Staying.{says_stay}
use Rattle.wac_parser_resolve.proofs.Turns.{turn_map, turn_more, turn_on, turn_within, turn_back}
use Rattle.wac_graph_core.proofs.Rising.{rises_apart, rises_more}

-- ---- a name that is new

value_last : (es : List (Name × ℕ)) (n : Name) (k : ℕ) → value_at es n ≡ None → value_at (es ++ (n, k) ∷ []) n ≡ Some k
value_last [] n k e = ap (λ (b : Bool). if b then Some k else None) ((bytes_decides n n).1 refl)
value_last (x ∷ es) n k e = by (value_at es n) (value_at (es ++ (n, k) ∷ []) n) (λ f. value_last es n k f) (pointwise ◌==◌ n x.0) e
  where
    by : (o p : Option ℕ) → (o ≡ None → p ≡ Some k) → (b : Bool) → (if b then Some x.1 else o) ≡ None → (if b then Some x.1 else p) ≡ Some k
    by o p rest true f = absurd (cc f)
    by o p rest false f = rest f

-- ---- where an export is noted

else_some : (l o : Option Span) → IsSome o → IsSome (option_or l o)
else_some (Some y) o e = refl
else_some None o e = e

then_some : (l o : Option Span) → IsSome l → IsSome (option_or l o)
then_some (Some y) o e = refl
then_some None o e = absurd (cc e)

some_last : (xs : List (ℕ × Span)) (e : ℕ × Span) → Among e xs → IsSome (last_noted xs e.0)
some_last [] e m = absurd m
some_last (x ∷ xs) e (inl q) =
    else_some (last_noted xs e.0) (if x.0 == e.0 then Some x.1 else None)
    (subst (λ (b : Bool). IsSome (if b then Some x.1 else None)) (sym (number_same x.0 e.0 (sym (ap (λ (z : ℕ × Span). z.0) q)))) refl)
some_last (x ∷ xs) e (inr m) = then_some (last_noted xs e.0) (if x.0 == e.0 then Some x.1 else None) (some_last xs e m)

unwrapped_is : (o : Option Span) (s : Span) → IsSome o → o ≡ Some (unwrap_or o s)
unwrapped_is None s e = absurd (cc e)
unwrapped_is (Some x) s e = refl

-- the node of an export is noted last where the name stands that it had last
pub noted_span : (g : Graph) → IsGraph g → (ms : List ℕ) → AreDistinct ms → (s : State) (spans : List (ℕ × Span)) → InTurn (IsNoted g ms) s.exports spans
    → (n : Name) (b : Bound) → value_at s.exports n ≡ Some b → (k : ℕ) → Denotes g ms b.denoted k → last_noted spans k ≡ Some (export_span s b)
noted_span g is ms apart s spans turn n b at k denotes =
    let o = b.denoted.origin in
    let e = turn_on (IsNoted g ms) s.exports spans (n, b) turn (value_at-among s.exports n b at) in
    let own_node : e.0.0 ≡ k = same_node g is ms o o e.0.0 k (one_thing g is ms apart o o k denotes.node denotes.node) e.2.denotes.node denotes.node in
    let there : IsSome (last_noted spans k) = subst (λ (j : ℕ). IsSome (last_noted spans j)) own_node (some_last spans e.0 e.1) in
    unwrapped_is (last_noted spans k) b.span there ∙ ap Some (sym (last_is g is ms apart o k denotes.node s.exports spans b.span turn))

-- ---- a declaration

module _ (own : t.PackageName) (b : Held) (s : State) (said : IsSaid own b s) (i : t.Ident) (x : Stated) (ty : TypeKind) (sound : IsGraph b.board.types.graph) where
  abbrev g : Graph
  g = b.board.types.graph

  abbrev ms : List ℕ
  ms = names_of b.board.instances.noted.items

  abbrev here : Denoted
  here = record { origin = defined i.string x; item = x }

  abbrev one : Bound
  one = record { denoted = here; span = i.span }

  found : AreFound g ms (value_at s.exports i.string) (value_at g.exports i.string)
  found = both_found g ms s.exports g.exports i.string said.exports.are

  refused_by : (c : Bool) (e : Refusal) → is_extern_name i.string ≡ c
      → IsRefusal (unless_clear (not c) (InvalidExternName i.string ExternKind.Export) i.span >> (not_exported s (value_at s.exports i.string) i >> bound (with_definition s i x) i here)) e → IsRefusal (declaration s i x) e
  refused_by c e valid r =
      subst (λ (d : Bool). IsRefusal (unless_clear (not d) (InvalidExternName i.string ExternKind.Export) i.span >> (not_exported s (value_at s.exports i.string) i >> bound (with_definition s i x) i here)) e) (sym valid) r

  no_cause : (e : Refusal) → Names e None → IsMemory (cause_in e)
  no_cause (Refusal.Named f) h = subst IsMemory (sym h) tt
  no_cause Refusal.Memory h = tt

  -- the export of the name stands where its node is noted last
  place_of : (k : ℕ) (o : Option Bound) → value_at s.exports i.string ≡ o → AreFound g ms o (Some k) → (e : Refusal)
      → Tells (cause_in e) (plainly (DeclarationConflict i.string (unwrap_or (last_noted b.exports.noted.items k) i.span)) (Some i.span))
      → IsRefusal (not_exported s o i >> bound (with_definition s i x) i here) e
  place_of k None is f e tells = absurd f
  place_of k (Some p) is f e tells =
      let at = turn_on (IsNoted g ms) s.exports b.exports.noted.items (i.string, p) said.exports.noted (value_at-among s.exports i.string p is) in
      let thing = one_thing g sound ms (rises_apart ms said.board.says.rising) p.denoted.origin p.denoted.origin k f.node f.node in
      let own_node : at.0.0 ≡ k = same_node g sound ms p.denoted.origin p.denoted.origin at.0.0 k thing at.2.denotes.node f.node in
      let place : export_span s p ≡ unwrap_or (last_noted b.exports.noted.items k) i.span =
      export_place g sound ms (rises_apart ms said.board.says.rising) p.denoted.origin k f.node s.exports b.exports.noted.items p.span i.span at.0 said.exports.noted at.1 own_node in
      subst (λ (z : Span). Tells (cause_in e) (plainly (DeclarationConflict i.string z) (Some i.span))) (sym place) tells

  pub definition_refused : (fault : DefineTypeError) (e : Refusal) → DefineRefused g i.string ty fault → Names e (definition_cause g b.exports.noted.items i fault) → IsRefusal (declaration s i x) e
  definition_refused DefineTypeError.TypeAlreadyDefined e r names = memory_refusal (declaration s i x) e (no_cause e names)
  definition_refused DefineTypeError.CannotDefineResource e r names = memory_refusal (declaration s i x) e (no_cause e names)
  definition_refused DefineTypeError.Memory e r names = memory_refusal (declaration s i x) e (no_cause e names)
  definition_refused (DefineTypeError.InvalidExternName m y) e r names =
      let one_told = told e (InvalidExternName (string_bytes m) ExternKind.Export) (Some i.span) names in
      refused_by false e (no_extern_name i.string r.2) (subst (λ (z : Name). Tells (cause_in e) (plainly (InvalidExternName z ExternKind.Export) (Some i.span))) r.0 one_told)
  definition_refused (DefineTypeError.ExportConflict m) e r names =
      let k = r.3 in
      let at : value_at g.exports i.string ≡ Some k = r.4 in
      let one_told = told e (DeclarationConflict (string_bytes m) (noted_export b.exports.noted.items i.span (value_at g.exports i.string))) (Some i.span) names in
      let two = subst (λ (z : Name). Tells (cause_in e) (plainly (DeclarationConflict z (noted_export b.exports.noted.items i.span (value_at g.exports i.string))) (Some i.span))) r.0 one_told in
      let three = subst (λ (o : Option ℕ). Tells (cause_in e) (plainly (DeclarationConflict i.string (noted_export b.exports.noted.items i.span o)) (Some i.span))) at two in
      refused_by true e (extern_name i.string r.2)
      (place_of k (value_at s.exports i.string) refl (subst (AreFound g ms (value_at s.exports i.string)) at found) e three)

  -- it is there
  module _ (h : Graph) (k : ℕ) (made : DefinesType g h i.string ty k) (holds : Holds g.types x (ItemKind.Ty ty)) where
    abbrev node : NodeData
    node = defined_node ty i.string

    later : Later g h
    later = Later-define g h i.string ty k made

    types : h.types ≡ g.types
    types = ap (λ (y : Graph). y.types) made.made

    nodes : h.nodes ≡ map.insert g.nodes k node
    nodes = ap (λ (y : Graph). y.nodes) made.made

    places : h.places ≡ g.places
    places = ap (λ (y : Graph). y.places) made.made

    exports_are : h.exports ≡ g.exports ++ (i.string, k) ∷ []
    exports_are = ap (λ (y : Graph). y.exports) made.made

    within : IsWithin g h
    within = record { types = types; places = places }

    there : node_at h k ≡ Some node
    there = ap (λ m. map.get m k) nodes ∙ get-insert_same g.nodes k node

    item_there : HasItem h k x
    item_there = record { node = node; there = there; kind = subst (λ (c : Collection). Holds c x (ItemKind.Ty ty)) (sym types) holds }

    unexported : (m : Name) → Among (m, k) g.exports → ⊥
    unexported m e = absurd (cc (subst IsSome made.free (sound.exported.stand m k e)))

    is_definition : IsDefinition h k i.string
    is_definition = record {
      node = node;
      there = there;
      role = refl;
      type = ty;
      item = refl;
      named = ap (λ (xs : List (Name × ℕ)). value_at xs i.string) exports_are ∙ value_last g.exports i.string k made.unexported;
      first = ap (λ (xs : List (Name × ℕ)). first_name xs k) exports_are ∙ first_new g.exports i.string k unexported;
    }

    pub definition_denotes : Denotes h ms here k
    definition_denotes = record { node = is_definition; item = item_there }

    c : Carries g h ms ms
    c = carries_later g h later ms ms (λ j l e. e)

    other : (e : ℕ) (y : NodeData) → node_at g e ≡ Some y → k ≡ e → ⊥
    other e y at same = let old : node_at g k ≡ Some y = subst (λ (j : ℕ). node_at g j ≡ Some y) (sym same) at in absurd (cc (sym made.free ∙ old))

    import_old : (j : ℕ) (m : Name) → IsImport h.nodes j m → IsImport g.nodes j m
    import_old j m a = elim (node_back g h k node nodes places j a.node a.there) [
      | inl e ↦ absurd (cc (ap (λ (w : NodeData). w.role) e.1 ∙ a.role))
      | inr e ↦ record { node = a.node; there = e.1; role = a.role }
    ]

    abbrev ids : List (ℕ × Span)
    ids = b.ids.noted.items

    abbrev noted : List (ℕ × Span)
    noted = b.imports.noted.items

    asked_on : AreAsked h noted (ids ++ (k, i.span) ∷ []) s.imports
    asked_on = record {
      rising = said.imports.rising;
      are = turn_within (IsAsked g ids) (IsAsked h (ids ++ (k, i.span) ∷ [])) s.imports noted
          (λ j e m a. asked_carried g h ms ms c ids (ids ++ (k, i.span) ∷ []) j e (last_other ids k e.0 i.span (other e.0 a.import.node a.import.there)) a) said.imports.are;
      all = λ j m a. said.imports.all j m (import_old j m a);
    }

    declared_on : AreDeclared h (s.definitions ++ (i.string, x) ∷ [])
    declared_on = record {
      nodes = said.definitions.nodes ++ k ∷ [];
      rising = rises_more said.definitions.nodes k said.definitions.rising
          (λ j m. let a = turn_back (IsDeclared g) s.definitions said.definitions.nodes j said.definitions.are m in made.above j (subst IsSome (sym a.2.definition.there) refl));
      are = turn_more (IsDeclared h) s.definitions said.definitions.nodes (i.string, x) k
          (turn_map (IsDeclared g) (IsDeclared h) (declared_carried g h ms ms c) s.definitions said.definitions.nodes said.definitions.are)
          (record { definition = is_definition; item = item_there });
      all = λ j y at r. elim (node_back g h k node nodes places j y at) [
        | inl e ↦ subst (λ (z : ℕ). Among z (said.definitions.nodes ++ k ∷ [])) (sym e.0) (among_last said.definitions.nodes k)
        | inr e ↦ among_more j said.definitions.nodes k (said.definitions.all j y e.1 r)
      ];
    }

    exported_on : AreExported h ms (b.exports.noted.items ++ (k, i.span) ∷ []) (s.exports ++ (i.string, one) ∷ [])
    exported_on = record {
      are = subst (λ (xs : List (Name × ℕ)). AreNamed h ms (s.exports ++ (i.string, one) ∷ []) xs) (sym exports_are)
          (turn_more (IsNamed h ms) s.exports g.exports (i.string, one) (i.string, k) (turn_map (IsNamed g ms) (IsNamed h ms) (named_carried g h ms ms c) s.exports g.exports said.exports.are)
          (record { name = refl; denotes = definition_denotes }));
      noted = turn_more (IsNoted h ms) s.exports b.exports.noted.items (i.string, one) (k, i.span)
          (turn_map (IsNoted g ms) (IsNoted h ms) (noted_carried g h ms ms c) s.exports b.exports.noted.items said.exports.noted)
          (record { denotes = definition_denotes; span = refl });
    }

    abbrev state_with : Held → Held
    state_with a = record (with_types b (with_graph b.board.types h)) { exports = a.exports; ids = a.ids }

    said_noted : (a : Held) → a.exports.noted.items ≡ b.exports.noted.items ++ (k, i.span) ∷ [] → a.ids.noted.items ≡ ids ++ (k, i.span) ∷ [] → IsSaid own (state_with a) (with_definition s i x)
    said_noted a noted_are ids_are =
        let says = says_stay g h later (none_defined g h i.string ty k made) b.board.instances.noted.items b.nodes s said.board.says in
        record {
          board = record {
            says = record { rising = says.rising; made = says.made; all = says.all; aliases = says.aliases; root = says.root };
            known = λ j. known_within b.board.types h within j ∙ said.board.known j;
            handed = said.board.handed;
            own = said.board.own;
          };
          own = said.own;
          stand = names_carried g h ms ms c b.names said.stand;
          scope = scope_carried g h ms ms c b.names said.stand ∙ said.scope;
          imports = subst (λ (ys : List (ℕ × Span)). AreAsked h noted ys s.imports) (sym ids_are) asked_on;
          definitions = declared_on;
          exports = subst (λ (ys : List (ℕ × Span)). AreExported h ms ys (s.exports ++ (i.string, one) ∷ [])) (sym noted_are) exported_on;
        }

    pub definition_said : (a : Held) → NotesExport (with_types b (with_graph b.board.types h)) a k i.span → IsSaid own a (with_definition s i x)
    definition_said a notes = subst (λ (z : Held). IsSaid own z (with_definition s i x)) (sym notes.rest) (said_noted a notes.exports notes.ids)

    unsaid : (o : Option Bound) → AreFound g ms o None → o ≡ None
    unsaid None f = refl
    unsaid (Some p) f = absurd f

    pub definition_outcome : (H : State → ⊤ → Type 0) (r : Result ⊤ Refusal) → IsOutcome H (bound (with_definition s i x) i here) r → IsOutcome H (declaration s i x) r
    definition_outcome H r o =
        let fresh = unsaid (value_at s.exports i.string) (subst (AreFound g ms (value_at s.exports i.string)) made.unexported found) in
        subst (λ (d : Bool). IsOutcome H (unless_clear (not d) (InvalidExternName i.string ExternKind.Export) i.span >> (not_exported s (value_at s.exports i.string) i >> bound (with_definition s i x) i here)) r) (sym (extern_name i.string made.valid))
        (subst (λ (p : Option Bound). IsOutcome H (not_exported s p i >> bound (with_definition s i x) i here) r) (sym fresh) o)
