-- Arguments that are passed to the instance that was made last.
use Rattle.std.proofs.Common.{◌≡◌, ◌⊎◌, ◌==◌, ℕ, List, [], ◌∷◌, ◌++◌, Bool, true, false, Option, Some, None, IsSome, is_some, inl, inr, refl, sym, ap, subst, ◌∙◌, if◌then◌else◌}
use Rattle.std.specs.Prelude.{⊤, slice_get, option_copied, option_map, string_bytes}
use Rattle.std.specs.FinMap as map
use Rattle.std.specs.Cmp.Lexicographic.{pointwise, bytes_decides}
use Rattle.std.proofs.lemmas.Option.{same_Some}
use Rattle.std.proofs.lemmas.Bool.{false_from_ne_true}
use Rattle.wac_types_base.proofs.Stating.{value_with}
use Rattle.wac_types_base.specs.declared.item.ItemKind.{ItemKind}
use Rattle.wac_types_base.specs.declared.ids.WorldId.{WorldId}
use Rattle.wac_types_base.specs.declared.defined.World.{World}
use Rattle.wac_types_base.specs.Record.{Collection}
use Rattle.wac_types_base.specs.Collection.{IsAcyclic}
use Rattle.wac_types_base.specs.Entries.{AreDistinct, Name, has_name, names_of, value_at}
use Rattle.wac_types_base.specs.Graph.{Among}
use Rattle.wac_types_base.specs.Stated.{Stated, imports_of, stated_of}
use Rattle.wac_types_base.specs.Tree.{tree}
use Rattle.wac_types_base.specs.Fits.{Fits}
use Rattle.wac_types_base.proofs.GraphLemmas.{value_of}
use Rattle.wac_types_base.proofs.Standing.{world_found}
use Rattle.wac_types_names.specs.Packaged.{Packaged}
use Rattle.wac_types_names.specs.Keys.{Key}
use Rattle.wac_types_fit.specs.declared.checker.SubtypeCheck.{SubtypeCheck}
use Rattle.wac_types_fit.specs.declared.error.SubtypeError.{SubtypeError}
use Rattle.wac_types_fit.specs.Errors.{steps, words_of}
use Rattle.wac_types_fit.specs.Frames.{Step}
use Rattle.wac_types_fit.specs.Trees.{Fit, tree_in}
use Rattle.wac_composition.specs.Tests.{fits}
use Rattle.wac_composition.proofs.FitBack.{fits_decides}
use Rattle.wac_types_base.proofs.Lists.{value_append}
use Rattle.wac_graph_core.specs.declared.edge.Label.{Label}
use Rattle.wac_graph_core.specs.Nodes.{NodeData, Role}
use Rattle.wac_graph_core.specs.Edges.{HasAlias, HasArgument, alias_edge, argument_edge}
use Rattle.wac_graph_core.specs.Graph.{Graph, IsArgument, IsGraph, imported_in, instantiated, item_import, node_at, passed, passed_as}
use Rattle.wac_graph_core.specs.Steps.{AddsArgument, SetsArgument}
use Rattle.wac_graph_core.specs.Refusals.{IsOpen, LacksArgument, NodeMismatches, StatedMismatches}
use Rattle.wac_graph_core.proofs.EdgeSteps.{edge_from, edge_to, edge_label, argument_name}
use Rattle.wac_composition.specs.Composition.{Origin, imported, instance, projected, defined}
use Rattle.wac_parser_tree.specs.Trees.{Span}
use Rattle.wac_parser_refusals.specs.declared.refusal.Refusal.{Refusal}
use Rattle.wac_parser_refusals.specs.Causes.{Answer, ◌>>=◌, MismatchedInstantiationArg, MissingComponentImport, present}
use Rattle.wac_parser_refusals.specs.Outcomes.{IsHeld, IsRefusal, Refuses}
use Rattle.wac_parser_refusals.specs.Sources.{TellsBetween, TellsOf, reported}
use Rattle.wac_parser_refusals.specs.Views.{Names, checked_at}
use Rattle.wac_parser_refusals.proofs.Outcomes.{needs_held, needs_refused, told_between}
use Rattle.wac_parser_refusals.proofs.Sources.{tells_of}
use Rattle.wac_parser_declare.specs.Holding.{Holds}
use Rattle.wac_parser_declare.proofs.Exports.{component_imports}
use Rattle.wac_parser_resolve.specs.declared.arguments.Given.{Given}
use Rattle.wac_parser_resolve.specs.Ascribing.{Denoted, Made, State}
use Rattle.wac_parser_resolve.specs.Denoting as stated
use Rattle.wac_parser_resolve.specs.Denoting.{argument_fits, compared_by, fitting}
use Rattle.wac_parser_resolve.specs.Holding.{Denotes, InTurn, IsGiven, IsMade}
use Rattle.wac_parser_resolve.specs.InInstances.{SaysMade, with_argument}
use Rattle.wac_parser_resolve.specs.Later.{Later}
use Rattle.wac_parser_resolve.proofs.Growing.{Later-set, as_it_was}
use Rattle.wac_parser_resolve.proofs.Matching.{has_value}
use Rattle.wac_parser_resolve.proofs.Nodes.{RoleTold, denotes_stays, exported_stays, holds_stays, names_stay, told_role}
use Rattle.wac_parser_resolve.proofs.Numbers.{among_last}
use Rattle.wac_parser_resolve.proofs.Staying.{made_on}
use Rattle.wac_parser_resolve.proofs.Turns.{names_more, turn_last, turn_map, turn_more, turn_within}
use Rattle.wac_graph_core.proofs.Rising.{rises_apart}
use Rattle.wac_types_fit.proofs.Unfolded.{tree_as_stated}

-- ---- values under names

last_by : {V : Type 0} (m : Name) (v : V) (n : Name) (w : V) (b : Bool) → pointwise ◌==◌ n m ≡ b → (if b then Some v else None) ≡ Some w → (m ≡ n) × (v ≡ w)
last_by m v n w true t e = (sym ((bytes_decides n m).0 t), same_Some _ _ e)
last_by m v n w false t e = absurd (cc e)

-- under a name stands what stood there, or what came last
value_cases : {V : Type 0} (xs : List (Name × V)) (m : Name) (v : V) (n : Name) (w : V) → value_at (xs ++ (m, v) ∷ []) n ≡ Some w → (value_at xs n ≡ Some w) ⊎ ((m ≡ n) × (v ≡ w))
value_cases [] m v n w e = inr (last_by m v n w (pointwise ◌==◌ n m) refl e)
value_cases (x ∷ xs) m v n w e = go (value_cases xs m v n w) (pointwise ◌==◌ n x.0) e
  where
    go : (value_at (xs ++ (m, v) ∷ []) n ≡ Some w → (value_at xs n ≡ Some w) ⊎ ((m ≡ n) × (v ≡ w))) → (b : Bool)
        → (if b then Some x.1 else value_at (xs ++ (m, v) ∷ []) n) ≡ Some w → ((if b then Some x.1 else value_at xs n) ≡ Some w) ⊎ ((m ≡ n) × (v ≡ w))
    go rest true q = inl q
    go rest false q = rest q

-- what came last stands under its name, where that is new
value_last : {V : Type 0} (xs : List (Name × V)) (m : Name) (v : V) → IsSome (value_at (xs ++ (m, v) ∷ []) m)
value_last [] m v = go (pointwise ◌==◌ m m) ((bytes_decides m m).1 refl)
  where
    go : (b : Bool) → b ≡ true → IsSome (if b then Some v else None)
    go true t = refl
    go false t = absurd (cc t)
value_last (x ∷ xs) m v = go (pointwise ◌==◌ m x.0) (value_last xs m v)
  where
    go : (b : Bool) → IsSome (value_at (xs ++ (m, v) ∷ []) m) → IsSome (if b then Some x.1 else value_at (xs ++ (m, v) ∷ []) m)
    go true s = refl
    go false s = s

value_more : {V : Type 0} (xs : List (Name × V)) (y : Name × V) (n : Name) → IsSome (value_at xs n) → IsSome (value_at (xs ++ y ∷ []) n)
value_more xs y n s = let v = value_of (value_at xs n) s in subst IsSome (sym (value_append xs (y ∷ []) n v.0 v.1)) refl

-- the last name is none of those before
not_last : {V : Type 0} (xs : List (ℕ × V)) (i : ℕ) (v : V) → AreDistinct (names_of (xs ++ (i, v) ∷ [])) → (e : ℕ × V) → Among e xs → e.0 ≡ i → ⊥
not_last [] i v d e m is = absurd m
not_last (x ∷ xs) i v d e (inl here) is =
    d.0 (subst (λ (k : ℕ). Among k (names_of (xs ++ (i, v) ∷ []))) (sym is ∙ ap (λ (y : ℕ × _). y.0) here)
    (subst (Among i) (sym (names_more xs (i, v))) (among_last (names_of xs) i)))
not_last (x ∷ xs) i v d e (inr m) is = not_last xs i v d.1 e m is

-- ---- the imports of an instance's package

module _ (c : Collection) (a : IsAcyclic c) (t : Stated) (w : WorldId) (h : Holds c t (ItemKind.Component w)) where
  import_by : (o : Option World) → slice_get c.worlds w.index ≡ o → IsSome o → w.collection ≡ c.number → (n : Name) → value_at (imports_of t) n ≡ option_map (stated_of c) (imported_in o n)
  import_by None at s own n = absurd (cc s)
  import_by (Some x) at s own n =
      sym (ap (λ (u : Stated). value_at (imports_of u) n) h.same) ∙ ap (λ (es : List (Name × Stated)). value_at es n) (component_imports c a w x at own)
      ∙ value_with (stated_of c) x.imports n

  -- an import of a component, as it is stated
  pub import_stated : (n : Name) → value_at (imports_of t) n ≡ option_map (stated_of c) (item_import c w n)
  import_stated n = let x = world_found c w h.stands in import_by (slice_get c.worlds w.index) refl (subst IsSome (sym x.at) refl) x.own n

-- ---- what is passed is compared as it is written

compared_same : (g : Graph) (o : Origin ℕ) (r : Role) (t : Stated) → RoleTold o r → passed_as r t ≡ compared_by o t
compared_same g (imported n) r t is = ap (λ (x : Role). passed_as x t) is
compared_same g (instance i) r t is = ap (λ (x : Role). passed_as x t) is
compared_same g (projected o n) r t is = ap (λ (x : Role). passed_as x t) is
compared_same g (defined n x) r t is = ap (λ (x : Role). passed_as x t) is

module _ (g : Graph) (is : IsGraph g) (ms : List ℕ) (d : Denoted) (a : ℕ) (dn : Denotes g ms d a) where
  -- the stated type of the node, as it is passed
  pub passed_is : (x : NodeData) → node_at g a ≡ Some x → passed g.types x ≡ compared_by d.origin d.item
  passed_is x at =
      let r = told_role g is ms d.origin a dn.node in
      let one : r.0 ≡ x = same_Some _ _ (sym r.1 ∙ at) in
      let two : dn.item.node ≡ x = same_Some _ _ (sym dn.item.there ∙ at) in
      let stated : stated_of g.types x.item_kind ≡ d.item = ap (λ (y : NodeData). stated_of g.types y.item_kind) (sym two) ∙ dn.item.kind.same in
      ap (passed_as x.role) stated ∙ compared_same g d.origin x.role d.item (subst (λ (y : NodeData). RoleTold d.origin y.role) one r.2)

-- ---- one argument

module _ (k : Key) (w : Stated) (a : stated.Given) where
  abbrev offered : Stated
  offered = compared_by a.denoted.origin a.denoted.item

  -- the test against what the world imports under the name
  abbrev tested : Option Stated → Answer ⊤
  tested o = present o (MissingComponentImport k.0 a.name) a.span >>= λ y. fitting SubtypeCheck.Covariant offered y (MismatchedInstantiationArg a.name) (Some a.span)

  -- what fits passes
  pub passes_by : {B : Type 0} (H : B → Type 0) (o : Option Stated) (x : Stated) (v : B) → o ≡ Some x → fits offered x ≡ true → H v → IsHeld (λ u b. H b) (tested o) v
  passes_by H o x v at fit h = subst (λ (p : Option Stated). IsHeld (λ u b. H b) (tested p) v) (sym at) (needs_held H (fits offered x) _ v fit h)

  pub lacks_by : (o : Option Stated) (e : Refusal) → o ≡ None → Refuses e (MissingComponentImport k.0 a.name) a.span → IsRefusal (tested o) e
  lacks_by o e at r = subst (λ (p : Option Stated). IsRefusal (tested p) e) (sym at) r

  pub differs_by : (o : Option Stated) (x : Stated) (e : Refusal) (m : SubtypeError) → o ≡ Some x → fits offered x ≡ false → TellsBetween SubtypeCheck.Covariant offered x (reported (words_of m))
      → Names e (checked_at (MismatchedInstantiationArg a.name) (Some a.span) m) → IsRefusal (tested o) e
  differs_by o x e m at fit tells named =
      subst (λ (p : Option Stated). IsRefusal (tested p) e) (sym at)
      (needs_refused (fits offered x) _ e fit (told_between e (MismatchedInstantiationArg a.name) (Some a.span) m SubtypeCheck.Covariant offered x named tells))

-- the checker's fault tells of what is passed and what is asked
mismatch_tells : (t : Stated) (c : Collection) (item : ItemKind) (fault : SubtypeError) → StatedMismatches t c item fault → TellsBetween SubtypeCheck.Covariant t (stated_of c item) (reported (words_of fault))
mismatch_tells t c item SubtypeError.Memory sm = absurd (cc sm.differ.are)
mismatch_tells t c item (SubtypeError.Mismatch fs a b) sm =
    let same : steps fs.items ≡ sm.differ.steps = same_Some _ _ sm.differ.are in
    let words = sm.differ.words (option_copied a) (option_copied b) (ap (λ (ss : List Step). Some (ss, (option_copied a, option_copied b))) same) in
    subst (λ (x : Stated). TellsOf SubtypeCheck.Covariant x (stated_of c item) (steps fs.items, (option_copied a, option_copied b))) sm.is
    (subst (λ (ss : List Step). TellsOf SubtypeCheck.Covariant (stated_of sm.types sm.given) (stated_of c item) (ss, (option_copied a, option_copied b))) (sym same)
    (tells_of SubtypeCheck.Covariant sm.types sm.given c item (sm.differ.steps, (option_copied a, option_copied b)) sm.differ.disagree words))

fit_back : (c : Collection) (k : ItemKind) (d : Collection) (item : ItemKind) → Fits (tree (stated_of c k)) (tree (stated_of d item)) → Fit c k d item
unfolding tree_in
fit_back c k d item f = f

module _ (g : Graph) (is : IsGraph g) (acyclic : IsAcyclic g.types) (noted : List (ℕ × Span)) (i : ℕ) (names : List (Name × ℕ)) (s : State) (m : Made) (says : SaysMade g noted i names s m) (a : stated.Given) (one : Given)
    (given : IsGiven g (names_of (noted ++ (i, m.span) ∷ [])) a one) (new : has_name (names_of m.arguments) a.name ≡ false) where
  abbrev ms : List ℕ
  ms = names_of (noted ++ (i, m.span) ∷ [])

  abbrev n : Name
  n = string_bytes one.name

  split : InTurn (IsMade g ms) s.made noted × IsMade g ms m (i, m.span)
  split = turn_last (IsMade g ms) s.made noted m (i, m.span) says.made

  abbrev own : IsMade g ms m (i, m.span)
  own = split.1

  -- nothing is passed under the name yet
  pub unpassed : (b : ℕ) → HasArgument g.edges i n b → ⊥
  unpassed b x =
      let there = own.arguments.only n b x in
      let same : is_some (value_at m.arguments n) ≡ false = sym (has_value m.arguments n) ∙ ap (has_name (names_of m.arguments)) given.name ∙ new in
      absurd (cc (there, same))

  import_is : (item : ItemKind) → IsArgument g i n item → value_at (imports_of m.world) a.name ≡ Some (stated_of g.types item)
  import_is item arg =
      let of : arg.of ≡ own.of = same_Some _ _ (sym arg.is ∙ own.is) in
      ap (value_at (imports_of m.world)) (sym given.name) ∙ import_stated g.types acyclic m.world own.of.ty own.world n
      ∙ ap (option_map (stated_of g.types)) (ap (λ (p : Packaged). item_import g.types p.ty n) (sym of) ∙ arg.import)

  -- ---- refusals

  pub lacks : (p : Name) (e : Refusal) → LacksArgument g i n p → Refuses e (MissingComponentImport p n) one.span → IsRefusal (argument_fits m.key m.world tt a) e
  lacks p e l r =
      let of : l.of ≡ own.of = same_Some _ _ (sym l.is ∙ own.is) in
      let none : value_at (imports_of m.world) a.name ≡ None =
      ap (value_at (imports_of m.world)) (sym given.name) ∙ import_stated g.types acyclic m.world own.of.ty own.world n
      ∙ ap (option_map (stated_of g.types)) (ap (λ (p : Packaged). item_import g.types p.ty n) (sym of) ∙ l.import) in
      let named : p ≡ m.key.0 = sym l.named ∙ ap (λ (p : Packaged). p.name) of ∙ ap (λ (k : Key). k.0) own.key in
      lacks_by m.key m.world a (value_at (imports_of m.world) a.name) e none
      (subst (λ (x : Span). Refuses e (MissingComponentImport m.key.0 a.name) x) given.span
      (subst (λ (x : Name). Refuses e (MissingComponentImport m.key.0 x) one.span) given.name
      (subst (λ (x : Name). Refuses e (MissingComponentImport x n) one.span) named r)))

  pub differs : (item : ItemKind) (fault : SubtypeError) (e : Refusal) → IsOpen g i n item → NodeMismatches g one.node item fault → Names e (checked_at (MismatchedInstantiationArg n) (Some one.span) fault)
      → IsRefusal (argument_fits m.key m.world tt a) e
  differs item fault e left mis r =
      let is_passed : passed g.types mis.node ≡ compared_by a.denoted.origin a.denoted.item = passed_is g is ms a.denoted one.node given.denotes mis.node mis.there in
      let sm = mis.mismatch in
      let apart : fits (compared_by a.denoted.origin a.denoted.item) (stated_of g.types item) ≡ false =
      false_from_ne_true _ (λ t. sm.differ.differ (fit_back sm.types sm.given g.types item
      (subst (λ (x : Stated). Fits (tree x) (tree (stated_of g.types item))) (sym is_passed ∙ sym sm.is) ((fits_decides (compared_by a.denoted.origin a.denoted.item) (stated_of g.types item)).0 t)))) in
      differs_by m.key m.world a (value_at (imports_of m.world) a.name) (stated_of g.types item) e fault (import_is item left.is) apart
      (subst (λ (x : Stated). TellsBetween SubtypeCheck.Covariant x (stated_of g.types item) (reported (words_of fault))) is_passed (mismatch_tells (passed g.types mis.node) g.types item fault sm))
      (subst (λ (x : Span). Names e (checked_at (MismatchedInstantiationArg a.name) (Some x) fault)) given.span
      (subst (λ (x : Name). Names e (checked_at (MismatchedInstantiationArg x) (Some one.span) fault)) given.name r))

  -- ---- an argument more

  module _ (h : Graph) (sets : SetsArgument g h i n one.node) (add : AddsArgument g h i n one.node sets.item) where
    later : Later g h
    later = Later-set g h i n one.node sets

    nodes : h.nodes ≡ g.nodes
    nodes = ap (λ (x : Graph). x.nodes) add.made

    made_same : (j : ℕ) → instantiated h j ≡ instantiated g j
    made_same j = ap (λ (x : Graph). instantiated x j) add.made

    no_alias : (j b : ℕ) (m : Name) → alias_edge j b m ≡ argument_edge one.node i n → ⊥
    no_alias j b x e = let l : Label.Alias x ≡ Label.Argument n = edge_label e in absurd (cc l)

    alias_back : (j b : ℕ) (x : Name) → HasAlias h.edges j x b → HasAlias g.edges j x b
    alias_back j b x e = elim ((add.edges (alias_edge j b x)).0 e) [ inl old ↦ old | inr q ↦ absurd (no_alias j b x q) ]

    -- a new argument is this one
    argument_cases : (j b : ℕ) (x : Name) → HasArgument h.edges j x b → HasArgument g.edges j x b ⊎ ((j ≡ i) × (x ≡ n) × (b ≡ one.node))
    argument_cases j b x e = elim ((add.edges (argument_edge b j x)).0 e) [
      | inl old ↦ inl old
      | inr q ↦ inr (edge_to q, argument_name x n (edge_label q), edge_from q)
    ]

    -- those made before are others
    other : (e : ℕ × Span) → Among e noted → e.0 ≡ i → ⊥
    other e t is = not_last noted i m.span (rises_apart (names_of (noted ++ (i, m.span) ∷ [])) says.rising) e t is

    old_back : (e : ℕ × Span) → Among e noted → (b : ℕ) (x : Name) → HasArgument h.edges e.0 x b → HasArgument g.edges e.0 x b
    old_back e t b x q = elim (argument_cases e.0 b x q) [ inl old ↦ old | inr fresh ↦ absurd (other e t fresh.0) ]

    here : HasArgument h.edges i n one.node
    here = (add.edges (argument_edge one.node i n)).1 (inr refl)

    stay : (d : Denoted) (b : ℕ) → Denotes g ms d b → Denotes h ms d b
    stay = denotes_stays g h later ms ms (λ j x e. e)

    passed_here : (x : Name) (d : Denoted) → value_at (m.arguments ++ (a.name, a.denoted) ∷ []) x ≡ Some d → (b : ℕ) × HasArgument h.edges i x b × Denotes h ms d b
    passed_here x d v = elim (value_cases m.arguments a.name a.denoted x d v) [
      | inl old ↦ let p = own.arguments.passed x d old in (p.0, (as_it_was g h later.stays).edges (argument_edge p.0 i x) p.1, stay d p.0 p.2)
      | inr new ↦ (one.node, subst (λ (y : Name). HasArgument h.edges i y one.node) (given.name ∙ new.0) here, subst (λ (y : Denoted). Denotes h ms y one.node) new.1 (stay a.denoted one.node given.denotes))
    ]

    only_here : (x : Name) (b : ℕ) → HasArgument h.edges i x b → IsSome (value_at (m.arguments ++ (a.name, a.denoted) ∷ []) x)
    only_here x b q = elim (argument_cases i b x q) [
      | inl old ↦ value_more m.arguments (a.name, a.denoted) x (own.arguments.only x b old)
      | inr new ↦ subst (λ (y : Name). IsSome (value_at (m.arguments ++ (a.name, a.denoted) ∷ []) y)) (sym (new.1 ∙ given.name)) (value_last m.arguments a.name a.denoted)
    ]

    own_made : IsMade h ms (with_argument m a) (i, m.span)
    own_made = record {
      of = own.of;
      is = made_same i ∙ own.is;
      key = own.key;
      world = holds_stays g h later m.world (ItemKind.Component own.of.ty) own.world;
      arguments = record { passed = passed_here; only = only_here };
      span = own.span;
    }

    pub argument_says : SaysMade h noted i names s (with_argument m a)
    argument_says = record {
      rising = says.rising;
      made = turn_more (IsMade h ms) s.made noted (with_argument m a) (i, m.span)
          (turn_within (IsMade g ms) (IsMade h ms) s.made noted (λ x e t y. made_on g h later ms ms (λ j z q. q) x e (old_back e t) y) split.0) own_made;
      all = λ j x. says.all j (subst IsSome (made_same j) x);
      aliases = record {
        nodes = says.aliases.nodes;
        rising = says.aliases.rising;
        only = λ j x. let b = says.aliases.only j x in (b.0, b.1, (as_it_was g h later.stays).edges (alias_edge b.0 j b.1) b.2);
        are = turn_map (Denotes g ms) (Denotes h ms) stay s.aliases says.aliases.nodes says.aliases.are;
        all = λ j x at r. says.aliases.all j x (ap (λ l. map.get l j) (sym nodes) ∙ at) r;
        exports = λ j b x e. exported_stays g h later j b x (says.aliases.exports j b x (alias_back j b x e));
      };
      root = names_stay g h later ms ms (λ j x e. e) s.root names says.root;
    }

    fit_here : fits (compared_by a.denoted.origin a.denoted.item) (stated_of g.types sets.item) ≡ true
    fit_here =
        let f = add.fits in
        let is_passed : passed g.types f.node ≡ compared_by a.denoted.origin a.denoted.item = passed_is g is ms a.denoted one.node given.denotes f.node f.there in
        (fits_decides (compared_by a.denoted.origin a.denoted.item) (stated_of g.types sets.item)).1 (subst (λ (x : Stated). Fits (tree x) (tree (stated_of g.types sets.item))) is_passed (subst (Fits (tree (passed g.types f.node))) (tree_as_stated g.types sets.item) f.fits))

  pub argument_held : (h : Graph) → SetsArgument g h i n one.node → IsHeld (λ (u v : ⊤). SaysMade h noted i names s (with_argument m a)) (argument_fits m.key m.world tt a) tt
  argument_held h sets = elim sets.step [
    | inl keep ↦ absurd (unpassed one.node keep.there)
    | inr add ↦ passes_by m.key m.world a (λ (v : ⊤). SaysMade h noted i names s (with_argument m a)) (value_at (imports_of m.world) a.name) (stated_of g.types sets.item) tt (import_is sets.item sets.is) (fit_here h sets add)
        (argument_says h sets add)
  ]
