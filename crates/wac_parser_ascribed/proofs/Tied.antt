-- The composition of a graph that holds what was said.
use Rattle.std.specs.Prelude.{slice_get, unwrap_or, option_map, map, ◌==◌, cond}
use Rattle.std.proofs.lemmas.Option.{same_Some, none-some}
use Rattle.std.proofs.Common.{◌≡◌, ℕ, zero, suc, ◌+◌, List, [], ◌∷◌, Bool, true, false, Option, Some, None, IsSome, refl, sym, ap, subst, ◌∙◌, arith, inl, inr}
use Rattle.wac_types_base.specs.Collection.{IsAcyclic}
use Rattle.wac_types_base.specs.Entries.{Name, AreDistinct, names_of, value_at}
use Rattle.wac_types_base.specs.Graph.{Among}
use Rattle.wac_types_base.specs.Stated.{Stated}
use Rattle.wac_types_names.specs.Packaged.{Packaged}
use Rattle.wac_types_names.specs.Keys.{Key}
use Rattle.wac_graph_core.specs.Nodes.{NodeData, Role}
use Rattle.wac_graph_core.specs.Edges.{alias_edge, HasAlias, HasArgument}
use Rattle.wac_graph_core.specs.Graph.{Graph, IsGraph, node_at, package_if, package_made, instantiated}
use Rattle.wac_graph_core.specs.Walking.{first_argument, first_source}
use Rattle.wac_graph_core.proofs.Found.{argument_found, no_argument, source_found}
use Rattle.wac_graph_core.proofs.Rising.{rises_apart}
use Rattle.wac_composition.specs.Composition as c
use Rattle.wac_composition.specs.Composition.{Origin, imported, instance, projected, defined, Composition, Placed}
use Rattle.wac_composition.specs.Alike.{IsSameMade, AreSameMade, IsAlike}
use Rattle.wac_composition.specs.Renaming.{origin_renamed, placed_renamed, made_renamed, renamed}
use Rattle.wac_graph_asks.specs.Graphs.{item_of, item_at, origin_of, arguments_to, first_export, import_by, made_with, definition_by, alias_with, composition_of}
use Rattle.wac_graph_asks.proofs.Origins.{alias_is, argument_is, made_of, value_mapped}
use Rattle.wac_parser_tree.specs.Trees.{Span}
use Rattle.wac_parser_declare.specs.Packages.{Content}
use Rattle.wac_parser_resolve.specs.Ascribed.{Asker, by_import, by_definition, argument_in, made_in, numbered, placed_import, placed_definition, alias_in, composition, said_export}
use Rattle.wac_parser_resolve.specs.Ascribing.{Denoted, Made, Import, Bound, State, own_name}
use Rattle.wac_parser_resolve.specs.Holding.{InTurn, HasItem, IsNode, Denotes, IsMade, IsNamed}
use Rattle.wac_parser_resolve.specs.InDocuments.{IsBuilt}
use Rattle.wac_parser_resolve.specs.Resolved.{Places}
use Rattle.wac_parser_resolve.specs.Said.{IsAsked, IsDeclared}
use Rattle.wac_parser_resolve.proofs.Nodes.{instance_role}
use Rattle.wac_parser_resolve.proofs.Sound.{Sound, HasThat}
use Rattle.wac_parser_resolve.proofs.Turns.{slice_among, turn_back, turn_map, turn_within}
use Rattle.wac_parser_ascribed.specs.Tied.{place_of, asker_by, asker_of, partner}
use Rattle.wac_parser_ascribed.proofs.Places.{place_is, beside_none, turn_beside, turn_named, turn_mapped}
use Rattle.wac_parser_ascribed.proofs.Listing.{Makes, made_in_turn}
use Rattle.wac_parser_ascribed.proofs.Origins.{first_named, has_states, item_there, item_is, origin_back}

module _ (g : Graph) (sound : IsGraph g) (acyclic : IsAcyclic g.types) {places : Places} (s : State) (b : IsBuilt g places s) (ps : List (Key × Content)) (said : Sound ps s) where
  -- the nodes of imports and of instances, in order
  abbrev pub ks : List ℕ
  ks = names_of places.imports

  abbrev pub ms : List ℕ
  ms = names_of places.instances

  pub ks_apart : AreDistinct ks
  ks_apart = rises_apart ks b.imports.rising

  pub ms_apart : AreDistinct ms
  ms_apart = rises_apart ms b.says.rising

  abbrev pub asker : ℕ → Asker
  asker = asker_of ks ms s

  abbrev pub number : ℕ → ℕ
  number = place_of ms

  -- ---- roles

  role_at : (k : ℕ) (x y : NodeData) → node_at g k ≡ Some x → node_at g k ≡ Some y → x.role ≡ y.role
  role_at k x y p q = ap (λ (z : NodeData). z.role) (same_Some _ _ (sym p ∙ q))

  import_role : (k : ℕ) → Among k ks → (x : NodeData) × (n : Name) × (node_at g k ≡ Some x) × (x.role ≡ Role.Imported n)
  import_role k m =
      let t = turn_named (IsAsked g places.ids) s.imports places.imports b.imports.are in
      let i = turn_back (λ x j. (e : ℕ × Span) × (e.0 ≡ j) × IsAsked g places.ids x e) s.imports ks k t m in
      let a = i.2.2.import in
      (a.node, i.0.name, subst (λ j. node_at g j ≡ Some a.node) i.2.1 a.there, a.role)

  instance_here : (k : ℕ) → Among k ms → (x : NodeData) × (node_at g k ≡ Some x) × (x.role ≡ Role.Instance)
  instance_here k m =
      let t = turn_named (IsMade g ms) s.made places.instances b.says.made in
      let i = turn_back (λ x j. (e : ℕ × Span) × (e.0 ≡ j) × IsMade g ms x e) s.made ms k t m in
      instance_role g sound k (subst (λ j. IsSome (instantiated g j)) i.2.1 (subst IsSome (sym i.2.2.is) refl))

  pub instance_no_import : (k : ℕ) → Among k ms → Among k ks → ⊥
  instance_no_import k m n =
      let x = instance_here k m in
      let y = import_role k n in
      absurd (cc (sym x.2 ∙ role_at k x.0 y.0 x.1 y.2 ∙ y.3))

  defined_no_import : (k : ℕ) (x : NodeData) → node_at g k ≡ Some x → x.role ≡ Role.Defined → Among k ks → ⊥
  defined_no_import k x at r m = let y = import_role k m in absurd (cc (sym r ∙ role_at k x y.0 at y.2 ∙ y.3))

  defined_no_instance : (k : ℕ) (x : NodeData) → node_at g k ≡ Some x → x.role ≡ Role.Defined → Among k ms → ⊥
  defined_no_instance k x at r m = let y = instance_here k m in absurd (cc (sym r ∙ role_at k x y.0 at y.1 ∙ y.2))

  -- ---- imports

  abbrev IsPlacedImport : Import → Placed ℕ → Type 0
  IsPlacedImport i p = placed_renamed asker p ≡ placed_import i

  abbrev import_made : ℕ × NodeData → Option (Placed ℕ)
  import_made e = import_by g e.0 e.1 e.1.role

  one_import : (i : Import) (k : ℕ) → ((e : ℕ × Span) × (e.0 ≡ k) × IsAsked g places.ids i e) × (partner ks s.imports k ≡ Some i) → Makes g.nodes import_made IsPlacedImport i k
  one_import i k r =
      let a = r.0.2 in
      let x = a.import.node in
      let at : node_at g k ≡ Some x = subst (λ j. node_at g j ≡ Some x) r.0.1 a.import.there in
      let by_it : asker k ≡ by_import i = ap (λ (o : Option Import). asker_by o (partner ms s.made k)) r.1 in
      let item : item_of g x ≡ i.item = item_there g k x i.item at (subst (λ j. HasItem g j i.item) r.0.1 a.item) in
      record {
        node = x;
        at = at;
        made = record { by = k; name = i.name; item = item_of g x };
        is = ap (import_by g k x) a.import.role;
        so = λ j. record { by = by_it j; name = i.name; item = item j };
      }

  an_import_there : (k : ℕ) (x : NodeData) → node_at g k ≡ Some x → IsSome (import_made (k, x)) → Among k ks
  an_import_there k x at h = by x.role refl h
    where
      by : (r : Role) → x.role ≡ r → IsSome (import_by g k x r) → Among k ks
      by (Role.Imported n) e h = b.imports.all k n (record { node = x; there = at; role = e })
      by Role.Instance e h = absurd (cc h)
      by Role.Defined e h = absurd (cc h)
      by Role.Aliased e h = absurd (cc h)

  imports_same : map (placed_renamed asker) (composition_of g).imports ≡ map placed_import s.imports
  imports_same =
      let t = turn_named (IsAsked g places.ids) s.imports places.imports b.imports.are in
      let u = turn_beside (λ i k. (e : ℕ × Span) × (e.0 ≡ k) × IsAsked g places.ids i e) s.imports ks ks_apart t in
      turn_mapped (placed_renamed asker) placed_import s.imports (composition_of g).imports
      (made_in_turn g.nodes import_made IsPlacedImport s.imports ks b.imports.rising (turn_map _ (Makes g.nodes import_made IsPlacedImport) one_import s.imports ks u) an_import_there)

  -- ---- definitions

  abbrev IsPlacedDefinition : Name × Stated → Placed ℕ → Type 0
  IsPlacedDefinition d p = placed_renamed asker p ≡ placed_definition d

  abbrev definition_made : ℕ × NodeData → Option (Placed ℕ)
  definition_made e = definition_by g e.0 e.1 e.1.role

  one_definition : (d : Name × Stated) (k : ℕ) → IsDeclared g d k → Makes g.nodes definition_made IsPlacedDefinition d k
  one_definition d k a =
      let x = a.definition.node in
      let at = a.definition.there in
      let no_import : partner ks s.imports k ≡ None = beside_none ks s.imports k (defined_no_import k x at a.definition.role) in
      let no_instance : partner ms s.made k ≡ None = beside_none ms s.made k (defined_no_instance k x at a.definition.role) in
      let by_it : asker k ≡ by_definition = λ j. asker_by (no_import j) (no_instance j) in
      let name : first_export g.exports k ≡ d.0 = first_named g.exports k d.0 a.definition.first in
      let item : item_of g x ≡ d.1 = item_there g k x d.1 at a.item in
      record {
        node = x;
        at = at;
        made = record { by = k; name = first_export g.exports k; item = item_of g x };
        is = ap (definition_by g k x) a.definition.role;
        so = λ j. record { by = by_it j; name = name j; item = item j };
      }

  a_definition_there : (k : ℕ) (x : NodeData) → node_at g k ≡ Some x → IsSome (definition_made (k, x)) → Among k b.definitions.nodes
  a_definition_there k x at h = by x.role refl h
    where
      by : (r : Role) → x.role ≡ r → IsSome (definition_by g k x r) → Among k b.definitions.nodes
      by (Role.Imported n) e h = absurd (cc h)
      by Role.Instance e h = absurd (cc h)
      by Role.Defined e h = b.definitions.all k x at e
      by Role.Aliased e h = absurd (cc h)

  definitions_same : map (placed_renamed asker) (composition_of g).definitions ≡ map placed_definition s.definitions
  definitions_same =
      turn_mapped (placed_renamed asker) placed_definition s.definitions (composition_of g).definitions
      (made_in_turn g.nodes definition_made IsPlacedDefinition s.definitions b.definitions.nodes b.definitions.rising
      (turn_map (IsDeclared g) (Makes g.nodes definition_made IsPlacedDefinition) one_definition s.definitions b.definitions.nodes b.definitions.are) a_definition_there)

  -- ---- aliases

  abbrev IsPlacedAlias : Denoted → Name × Stated → Type 0
  IsPlacedAlias d p = p ≡ alias_in d

  abbrev alias_made : ℕ × NodeData → Option (Name × Stated)
  alias_made e = alias_with g e.1 (first_source g.edges e.0)

  alias_named : (o : Origin ℕ) (k i : ℕ) (n : Name) → IsNode g ms o k → HasAlias g.edges i n k → n ≡ unwrap_or (own_name o) []
  alias_named (projected o m) k i n a h =
      let one : Some (a.0, m) ≡ Some (i, n) = sym (alias_is g sound acyclic a.0 k m a.3) ∙ alias_is g sound acyclic i k n h in
      sym (ap (λ (p : ℕ × Name). p.1) (same_Some _ _ one))
  alias_named (imported m) k i n a h =
      let e = (sound.wired.edges (alias_edge i k n) h).alias n refl in
      absurd (cc (sym a.role ∙ role_at k a.node e.0 a.there e.1 ∙ e.2))
  alias_named (instance j) k i n a h =
      let x = instance_role g sound k a.1 in
      let e = (sound.wired.edges (alias_edge i k n) h).alias n refl in
      absurd (cc (sym x.2 ∙ role_at k x.0 e.0 x.1 e.1 ∙ e.2))
  alias_named (defined m x) k i n a h =
      let e = (sound.wired.edges (alias_edge i k n) h).alias n refl in
      absurd (cc (sym a.role ∙ role_at k a.node e.0 a.there e.1 ∙ e.2))

  one_alias : (d : Denoted) (k : ℕ) → Among k b.says.aliases.nodes → Denotes g ms d k → Makes g.nodes alias_made IsPlacedAlias d k
  one_alias d k m a =
      let h = b.says.aliases.only k m in
      let name : h.1 ≡ unwrap_or (own_name d.origin) [] = alias_named d.origin k h.0 h.1 a.node h.2 in
      let item : item_of g a.item.node ≡ d.item = item_there g k a.item.node d.item a.item.there a.item in
      record {
        node = a.item.node;
        at = a.item.there;
        made = (h.1, item_of g a.item.node);
        is = ap (alias_with g a.item.node) (alias_is g sound acyclic h.0 k h.1 h.2);
        so = λ j. (name j, item j);
      }

  an_alias_there : (k : ℕ) (x : NodeData) → node_at g k ≡ Some x → IsSome (alias_made (k, x)) → Among k b.says.aliases.nodes
  an_alias_there k x at h = by (first_source g.edges k) refl h
    where
      by : (o : Option (ℕ × Name)) → first_source g.edges k ≡ o → IsSome (alias_with g x o) → Among k b.says.aliases.nodes
      by None q h = absurd (cc h)
      by (Some p) q h =
          let e = (sound.wired.edges (alias_edge p.0 k p.1) (source_found g.edges k p.0 p.1 q)).alias p.1 refl in
          b.says.aliases.all k x at (role_at k x e.0 at e.1 ∙ e.2)

  aliases_same : (composition_of g).aliases ≡ map alias_in s.aliases
  aliases_same =
      let t = turn_within (Denotes g ms) (Makes g.nodes alias_made IsPlacedAlias) s.aliases b.says.aliases.nodes (λ d k m a. one_alias d k m a) b.says.aliases.are in
      sym (map_same (composition_of g).aliases)
      ∙ turn_mapped (λ p. p) alias_in s.aliases (composition_of g).aliases (made_in_turn g.nodes alias_made IsPlacedAlias s.aliases b.says.aliases.nodes b.says.aliases.rising t an_alias_there)
    where
      map_same : {X : Type 0} (xs : List X) → map (λ x. x) xs ≡ xs
      map_same [] = refl
      map_same (x ∷ xs) = ap (λ l. x ∷ l) (map_same xs)

  -- ---- exports

  one_export : (x : Name × Bound) (e : Name × ℕ) → HasThat s x.1.denoted → IsNamed g ms x e → (e.0, origin_renamed number (origin_of g e.1), item_at g e.1) ≡ said_export x
  one_export x e has n =
      let d = n.denotes in
      let from = origin_back g sound acyclic ms ms_apart x.1.denoted.origin e.1 d.node (has_states g s x.1.denoted.origin x.1.denoted.item e.1 has d.item) in
      let item = item_is g e.1 x.1.denoted.item d.item in
      λ j. (n.name j, from j, item j)

  all_exports : (xs : List (Name × Bound)) (es : List (Name × ℕ)) → ((x : Name × Bound) → Among x xs → HasThat s x.1.denoted) → InTurn (IsNamed g ms) xs es
      → map (λ (e : Name × Origin ℕ × Stated). (e.0, origin_renamed number e.1, e.2)) (map (λ (e : Name × ℕ). (e.0, origin_of g e.1, item_at g e.1)) es) ≡ map said_export xs
  all_exports [] [] h t = refl
  all_exports [] (e ∷ es) h t = absurd t
  all_exports (x ∷ xs) [] h t = absurd t
  all_exports (x ∷ xs) (e ∷ es) h t =
      let first = one_export x e (h x (inl refl)) t.0 in
      let rest = all_exports xs es (λ y m. h y (inr m)) t.1 in
      λ j. first j ∷ rest j

  -- ---- instances

  -- what is passed under a name
  pub passed_is : (k : ℕ) (m : Made) (e : ℕ × Span) → e.0 ≡ k → IsMade g ms m e → (n : Name) → (d : Denoted) → value_at m.arguments n ≡ Some d → (q : ℕ) × (first_argument g.edges k n ≡ Some q) × Denotes g ms d q
  passed_is k m e same a n d v =
      let p = a.arguments.passed n d v in
      let here : HasArgument g.edges k n p.0 = subst (λ j. HasArgument g.edges j n p.0) same p.1 in
      (p.0, by (first_argument g.edges k n) refl p.0 here, p.2)
    where
      by : (o : Option ℕ) → first_argument g.edges k n ≡ o → (q : ℕ) → HasArgument g.edges k n q → o ≡ Some q
      by None f q h = absurd (no_argument g.edges k q n f h)
      by (Some r) f q h = ap Some (sound.keyed.one_argument k r q n (argument_found g.edges k r n f) h)

  pub not_passed : (k : ℕ) (m : Made) (e : ℕ × Span) → e.0 ≡ k → IsMade g ms m e → (n : Name) → value_at m.arguments n ≡ None → first_argument g.edges k n ≡ None
  not_passed k m e same a n v = by (first_argument g.edges k n) refl
    where
      by : (o : Option ℕ) → first_argument g.edges k n ≡ o → o ≡ None
      by None f = refl
      by (Some r) f = absurd (cc (v, a.arguments.only n r (subst (λ j. HasArgument g.edges j n r) (sym same) (argument_found g.edges k r n f))))

  passed_same : (i k : ℕ) (m : Made) (e : ℕ × Span) (of : Packaged) → e.0 ≡ k → slice_get s.made i ≡ Some m → IsMade g ms m e
      → (n : Name) → value_at (map {B = Name × Origin ℕ} (λ (a : Name × Origin ℕ). (a.0, origin_renamed number a.1)) (map {B = Name × Origin ℕ} (λ (a : Name × ℕ). (a.0, origin_of g a.1)) (arguments_to g.edges k))) n ≡ value_at (map argument_in m.arguments) n
  passed_same i k m e of same here a n =
      value_mapped (origin_renamed number) (map {B = Name × Origin ℕ} (λ (a : Name × ℕ). (a.0, origin_of g a.1)) (arguments_to g.edges k)) n
      ∙ ap (option_map (origin_renamed number)) (argument_is g sound acyclic k n)
      ∙ by (value_at m.arguments n) refl
      ∙ sym (value_mapped (λ (d : Denoted). d.origin) m.arguments n)
    where
      by : (o : Option Denoted) → value_at m.arguments n ≡ o → option_map (origin_renamed number) (option_map (origin_of g) (first_argument g.edges k n)) ≡ option_map (λ (d : Denoted). d.origin) o
      by None v = ap (λ (o : Option ℕ). option_map (origin_renamed number) (option_map (origin_of g) o)) (not_passed k m e same a n v)
      by (Some d) v =
          let p = passed_is k m e same a n d v in
          let has = (said.made i m here).has n d v in
          ap (λ (o : Option ℕ). option_map (origin_renamed number) (option_map (origin_of g) o)) p.1
          ∙ ap Some (origin_back g sound acyclic ms ms_apart d.origin p.0 p.2.node (has_states g s d.origin d.item p.0 has p.2.item))

  abbrev pub IsSameAs : c.Made Asker ℕ → c.Made ℕ ℕ → Type 0
  IsSameAs x y = IsSameMade (made_renamed asker number y) x

  abbrev instance_made : ℕ × NodeData → Option (c.Made ℕ ℕ)
  instance_made e = made_with g e.0 (package_if g e.1.of)

  pub one_instance : (i k : ℕ) (m : Made) (e : ℕ × Span) → e.0 ≡ k → slice_get ms i ≡ Some k → slice_get s.made i ≡ Some m → partner ms s.made k ≡ Some m → IsMade g ms m e → Makes g.nodes instance_made IsSameAs (made_in i m) k
  one_instance i k m e same place here next a =
      let is : instantiated g k ≡ Some a.of = subst (λ j. instantiated g j ≡ Some a.of) same a.is in
      let x = instance_role g sound k (subst IsSome (sym is) refl) in
      let made : package_if g x.0.of ≡ Some a.of = ap (package_made g) (sym x.1) ∙ is in
      let no_import : partner ks s.imports k ≡ None = beside_none ks s.imports k (instance_no_import k (slice_among ms i k place)) in
      record {
        node = x.0;
        at = x.1;
        made = made_of g sound acyclic k a.of;
        is = ap (made_with g k) made;
        so = record {
          by = λ j. asker_by (no_import j) (next j);
          number = place_is ms i k ms_apart place;
          key = a.key;
          world = a.world.same;
          arguments = passed_same i k m e a.of same here a;
        };
      }

  an_instance_there : (k : ℕ) (x : NodeData) → node_at g k ≡ Some x → IsSome (instance_made (k, x)) → Among k ms
  an_instance_there k x at h = b.says.all k (subst (λ (o : Option NodeData). IsSome (package_made g o)) (sym at) (by (package_if g x.of) h))
    where
      by : (o : Option Packaged) → IsSome (made_with g k o) → IsSome o
      by None h = absurd (cc h)
      by (Some p) h = refl

  -- those that are made, with their numbers
  all_numbered : (j : ℕ) (xs : List Made) (js : List ℕ)
      → ((i k : ℕ) → slice_get js i ≡ Some k → slice_get ms (i + j) ≡ Some k)
      → ((i : ℕ) (m : Made) → slice_get xs i ≡ Some m → slice_get s.made (i + j) ≡ Some m)
      → InTurn (λ m k. ((e : ℕ × Span) × (e.0 ≡ k) × IsMade g ms m e) × (partner ms s.made k ≡ Some m)) xs js
      → InTurn (Makes g.nodes instance_made IsSameAs) (numbered j xs) js
  all_numbered j [] [] p q t = tt
  all_numbered j [] (k ∷ js) p q t = absurd t
  all_numbered j (m ∷ xs) [] p q t = absurd t
  all_numbered j (m ∷ xs) (k ∷ js) p q t = (
    one_instance j k m t.0.0.0 t.0.0.1
        (subst (λ n. slice_get ms n ≡ Some k) (omega arith) (p zero k refl))
        (subst (λ n. slice_get s.made n ≡ Some m) (omega arith) (q zero m refl)) t.0.1 t.0.0.2,
    all_numbered (suc j) xs js
        (λ i l h. subst (λ n. slice_get ms n ≡ Some l) (omega arith) (p (suc i) l h))
        (λ i n h. subst (λ l. slice_get s.made l ≡ Some n) (omega arith) (q (suc i) n h)) t.1,
  )

  turn_same : (xs : List (c.Made Asker ℕ)) (ys : List (c.Made ℕ ℕ)) → InTurn IsSameAs xs ys → AreSameMade (map (made_renamed asker number) ys) xs
  turn_same [] [] t = tt
  turn_same [] (y ∷ ys) t = absurd t
  turn_same (x ∷ xs) [] t = absurd t
  turn_same (x ∷ xs) (y ∷ ys) t = (t.0, turn_same xs ys t.1)

  made_same : AreSameMade (map (made_renamed asker number) (composition_of g).made) (numbered zero s.made)
  made_same =
      let t = turn_named (IsMade g ms) s.made places.instances b.says.made in
      let u = turn_beside (λ m k. (e : ℕ × Span) × (e.0 ≡ k) × IsMade g ms m e) s.made ms ms_apart t in
      turn_same (numbered zero s.made) (composition_of g).made
      (made_in_turn g.nodes instance_made IsSameAs (numbered zero s.made) ms b.says.rising
      (all_numbered zero s.made ms
      (λ i k h. subst (λ n. slice_get ms n ≡ Some k) (omega arith) h)
      (λ i m h. subst (λ n. slice_get s.made n ≡ Some m) (omega arith) h) u)
      an_instance_there)

  -- ---- all of it

  pub alike : IsAlike (renamed asker number (composition_of g)) (composition s)
  alike = record {
    imports = imports_same;
    made = made_same;
    definitions = definitions_same;
    aliases = aliases_same;
    exports = all_exports s.exports g.exports said.exports b.exports.are;
  }
