-- The bytes of a graph that holds what a document says mean the ascribed wiring.
use Rattle.std.specs.Prelude.{true, false, option_map, Result, Ok, Err, IfOk, OnOk}
use Rattle.std.proofs.Common.{◌≡◌, ℕ, List, Some, refl, sym, ap, subst, ◌∙◌}
use Rattle.wac_types_base.specs.declared.item.ItemKind.{ItemKind}
use Rattle.wac_types_base.specs.declared.ids.WorldId.{WorldId}
use Rattle.wac_types_base.specs.Record.{Collection}
use Rattle.wac_types_base.specs.Collection.{IsAcyclic}
use Rattle.wac_types_base.specs.Entries.{Name, names_of}
use Rattle.wac_types_base.specs.Graph.{Among}
use Rattle.wac_types_base.specs.Stated.{Stated, instance_type, stated_of}
use Rattle.wac_types_base.specs.Tree.{Tree, tree, tree_of}
use Rattle.wac_types_base.proofs.Telling.{tree_stated}
use Rattle.wac_types_names.specs.Packaged.{Packaged}
use Rattle.wac_types_names.specs.Keys.{Key, package_key}
use Rattle.wac_graph_bytes.specs.Entries.{Entry}
use Rattle.wac_graph_bytes.specs.Typing.{Worlds}
use Rattle.wac_graph_bytes.specs.Wirings.{Tag, OfBytes, Instantiation, Same, Wiring}
use Rattle.wac_graph_bytes.proofs.SameWirings.{same_trans}
use Rattle.wac_graph_core.specs.declared.ids.PackageId.{PackageId}
use Rattle.wac_graph_core.specs.Graph.{Graph, IsGraph, PackageStands, instantiated, package_of}
use Rattle.wac_graph_core.proofs.WiringLaws.{has_wiring}
use Rattle.wac_composition.specs.Asks.{asks_of}
use Rattle.wac_composition.specs.Conflicts.{dependency_name}
use Rattle.wac_composition.specs.Wired.{composed_wiring}
use Rattle.wac_composition.specs.Classes.{spelling}
use Rattle.wac_composition.proofs.Merged.{all_met}
use Rattle.wac_graph_asks.specs.Graphs.{composition_of}
use Rattle.wac_graph_asks.specs.Wirings.{IsGraphWiring, asked_trees, written_tree}
use Rattle.wac_graph_asks.proofs.Origins.{package_stands}
use Rattle.wac_graph_encode.specs.Encoding as graph
use Rattle.wac_graph_encode.specs.Encoding.{HasTrueWorld}
use Rattle.wac_graph_encode.specs.Refused.{IsFree}
use Rattle.wac_graph_encode.specs.Finished.{MeansImported, MeansNested}
use Rattle.wac_graph_encode.specs.declared.options.EncodeOptions.{EncodeOptions}
use Rattle.wac_graph_encode.specs.declared.options.Encoded.{Encoded}
use Rattle.wac_parser_tree.specs.Trees.{Span}
use Rattle.wac_parser_resolve.specs.Ascribed.{composition}
use Rattle.wac_parser_resolve.specs.Ascribing.{Made, State}
use Rattle.wac_parser_resolve.specs.Holding.{IsMade}
use Rattle.wac_parser_resolve.specs.InDocuments.{IsBuilt}
use Rattle.wac_parser_resolve.specs.Resolved.{Places}
use Rattle.wac_parser_resolve.proofs.Instantiated.{said_at}
use Rattle.wac_parser_resolve.proofs.Turns.{turn_on}
use Rattle.wac_parser_ascribed.specs.Tied.{IsAscribed, IsTagged, handed_tag, ascribed_wiring, handed_bytes}
use Rattle.wac_parser_ascribed.proofs.Wired.{ascribed}
use Rattle.wac_parser_encode.specs.Processing.{IsProcessed}
use Rattle.wac_parser_encode.specs.Sizes.{StateIn, StateImporting}
use Rattle.wac_parser_encode.specs.Meaning.{AreTrueAs, AreTrueOf, HasResolvedWorld, ImportsAscribed, ImportsResolved, MeansAscribed, MeansResolved, imported_tag}

module _ (g : Graph) (sound : IsGraph g) (acyclic : IsAcyclic g.types) (places : Places) (s : State) (b : IsBuilt g places s) where
  abbrev ms : List ℕ
  ms = names_of places.instances

  -- the tree of an instance of a package that stands
  tree_is : (p : Packaged) (w : Stated) → PackageStands g.types p → stated_of g.types (ItemKind.Component p.ty) ≡ w → Some (tree (instance_type w)) ≡ tree_of g.types (ItemKind.Instance p.instance_type)
  tree_is p w stands world =
      ap (λ (x : Stated). Some (tree (instance_type x))) (sym world) ∙ ap (λ (x : Stated). Some (tree x)) (sym stands.exports)
      ∙ sym (tree_stated g.types acyclic (ItemKind.Instance p.instance_type) stands.instance)

  tag_is : (k : ℕ) (p : Packaged) → instantiated g k ≡ Some p → OfBytes p.bytes ≡ handed_tag s.packages (package_key p)
  tag_is k p e = let id = package_stands g sound acyclic k p e in sym (ap (λ o. OfBytes (handed_bytes o)) (b.packages id.0 p id.1))

  -- of the package that an instance is of
  one_true : (tag : Key → Tag) (worlds : Worlds) → AreTrueAs tag s worlds → (p : Packaged) (m : Made) (x : ℕ × Span) (id : PackageId) → Among m s.made → (a : IsMade g ms m x) → a.of ≡ p → package_of g id ≡ Some p
      → worlds (tag (package_key p)) ≡ tree_of g.types (ItemKind.Instance p.instance_type)
  one_true tag worlds h p m x id among a of at =
      ap (λ k. worlds (tag k)) (ap package_key (sym of) ∙ a.key) ∙ h m among
      ∙ tree_is p m.world (sound.packages.stand id p at) (ap (λ (q : Packaged). stated_of g.types (ItemKind.Component q.ty)) (sym of) ∙ a.world.same)

  true_at : (tag : Key → Tag) (worlds : Worlds) → AreTrueAs tag s worlds → (k : ℕ) (p : Packaged) → instantiated g k ≡ Some p → worlds (tag (package_key p)) ≡ tree_of g.types (ItemKind.Instance p.instance_type)
  true_at tag worlds h k p e =
      let m = said_at g places s b k p e in
      one_true tag worlds h p m.made m.place (package_stands g sound acyclic k p e).0 m.among m.is m.of (package_stands g sound acyclic k p e).1

  -- worlds that are true of what was said are true of the graph's packages
  true_of_graph : (worlds : Worlds) → AreTrueOf s worlds → graph.AreTrueOf true g worlds
  true_of_graph worlds h = record { each = λ k p e. ap worlds (tag_is k p e) ∙ true_at (handed_tag s.packages) worlds h k p e }

  -- the graph's wiring is the one that is ascribed
  same_as : IsAscribed g places s → (meant : Wiring ℕ) (imports : List (Name × Tree)) → graph.IsOfGraph true g meant imports → (W : Wiring ℕ) × IsGraphWiring g W → Same (ascribed_wiring s) meant
  same_as tied meant imports m w = same_trans (ascribed_wiring s) w.0 meant (tied.wired w.0 w.1) (m.same w.0 w.1)

  wiring_there : (W : Wiring ℕ) × IsGraphWiring g W
  wiring_there = has_wiring (spelling (asks_of (composition_of g))) (written_tree g) g sound (asked_trees g)

  said : IsAscribed g places s → (bytes : List ℕ) → graph.MeansWiring true g bytes → MeansAscribed s bytes
  said tied bytes h worlds are =
      let m = h worlds (true_of_graph worlds are) in
      record { meant = m.meant; means = m.means; same = same_as tied m.meant m.means.states.last.listed.imports m.of wiring_there }

  -- entries that state the graph's wiring state it
  pub entries_said : IsAscribed g places s → (es : List Entry) → ((worlds : Worlds) → graph.AreTrueOf true g worlds → graph.StateGraph true g worlds es) → (worlds : Worlds) → AreTrueOf s worlds → StateIn s worlds es
  entries_said tied es h worlds are =
      let m = h worlds (true_of_graph worlds are) in
      record { meant = m.meant; states = m.states; same = same_as tied m.meant m.states.last.listed.imports m.of wiring_there }

module _ (g : Graph) (sound : IsGraph g) (acyclic : IsAcyclic g.types) (places : Places) (s : State) (b : IsBuilt g places s) where
  true_of_imports : (worlds : Worlds) → AreTrueAs imported_tag s worlds → graph.AreTrueOf false g worlds
  true_of_imports worlds h = record { each = λ k p e. true_at g sound acyclic places s b imported_tag worlds h k p e }

  tagged : (W : Wiring ℕ) → IsGraphWiring g W → IsTagged imported_tag g W (graph.with_dependencies g W)
  tagged W is = record {
    outers = λ n. refl;
    instances = λ k p x made at.
        ap (option_map (λ (y : Instantiation ℕ). graph.tagged (graph.dependency_tag (instantiated g k) y.tag) y)) at ∙ ap (λ o. Some (graph.tagged (graph.dependency_tag o x.tag) x)) made;
    no_other = λ k none. ap (option_map (λ (y : Instantiation ℕ). graph.tagged (graph.dependency_tag (instantiated g k) y.tag) y)) (is.no_other k none);
    exports = λ n. refl;
  }

  -- what is instantiated is imported
  imported : (imports : List (Name × Tree)) → ((p : Packaged) → graph.IsInstantiated g p → graph.IsImportedIn false g p imports) → (m : Made) → Among m s.made → Among (dependency_name m.key, tree m.world) imports
  imported imports h m among =
      let x = turn_on (IsMade g (names_of places.instances)) s.made places.instances m b.says.made among in
      let a = x.2 in
      subst (λ e. Among e imports) (λ i. (dependency_name (a.key i), tree (a.world.same i))) (h a.of (x.0.0, a.is))

  same_imported : IsAscribed g places s → (meant : Wiring ℕ) (imports : List (Name × Tree)) → graph.IsOfGraph false g meant imports → (W : Wiring ℕ) × IsGraphWiring g W → Same (composed_wiring imported_tag (composition s)) meant
  same_imported tied meant imports m w =
      same_trans (composed_wiring imported_tag (composition s)) (graph.with_dependencies g w.0) meant (tied.tagged imported_tag w.0 (graph.with_dependencies g w.0) w.1 (tagged w.0 w.1)) (m.same w.0 w.1)

  imports_said : IsAscribed g places s → (bytes : List ℕ) → graph.IsComposed false g bytes → ImportsAscribed s bytes
  imports_said tied bytes h worlds are =
      let m = h.means worlds (true_of_imports worlds are) in
      let imports = m.means.states.last.listed.imports in
      record {
        meant = m.meant;
        means = m.means;
        same = same_imported tied m.meant imports m.of (wiring_there g sound acyclic places s b);
        packages = imported imports m.of.packages;
      }

  pub imports_stated : IsAscribed g places s → (es : List Entry) → ((worlds : Worlds) → graph.AreTrueOf false g worlds → graph.StateGraph false g worlds es) → (worlds : Worlds) → AreTrueAs imported_tag s worlds → StateImporting s worlds es
  imports_stated tied es h worlds are =
      let m = h worlds (true_of_imports worlds are) in
      let imports = m.states.last.listed.imports in
      record {
        meant = m.meant;
        states = m.states;
        same = same_imported tied m.meant imports m.of (wiring_there g sound acyclic places s b);
        packages = imported imports m.of.packages;
      }

pub of_document : (g : Graph) (options : EncodeOptions) (bytes : List ℕ) → IsGraph g → IsAcyclic g.types → MeansNested g options bytes → MeansResolved g options bytes
unfolding MeansResolved
of_document g options bytes sound acyclic nested = λ define d ps r at e b. said g sound acyclic at r.0 b (ascribed d ps r g at e sound acyclic b) bytes (nested define).means

-- with a processor, and else the same options
pub of_processed : (g : Graph) (old new : EncodeOptions) (bytes : List ℕ) → IsProcessed old new → IsGraph g → IsAcyclic g.types → MeansNested g new bytes → MeansResolved g old bytes
of_processed g old new bytes is sound acyclic nested = of_document g old bytes sound acyclic (λ define. nested (is.define ∙ define))

pub all_processed : {A E : Type 0} (g : Graph) (old new : EncodeOptions) (r : Result A E) (bytes : A → List ℕ) → IsProcessed old new → IsGraph g → IsAcyclic g.types → IfOk r (λ a. MeansNested g new (bytes a)) → IfOk r (λ a. MeansResolved g old (bytes a))
all_processed g old new (Ok a) bytes is sound acyclic nested = of_processed g old new (bytes a) is sound acyclic nested
all_processed g old new (Err e) bytes is sound acyclic nested = tt

-- ---- with packages imported

imports_document : (g : Graph) (options : EncodeOptions) (bytes : List ℕ) → IsGraph g → IsAcyclic g.types → MeansImported g options bytes → ImportsResolved g options bytes
unfolding ImportsResolved
imports_document g options bytes sound acyclic imports = λ define d ps r at e b. imports_said g sound acyclic at r.0 b (ascribed d ps r g at e sound acyclic b) bytes (imports define)

pub imports_processed : {A E : Type 0} (g : Graph) (old new : EncodeOptions) (r : Result A E) (bytes : A → List ℕ) → IsProcessed old new → IsGraph g → IsAcyclic g.types → IfOk r (λ a. MeansImported g new (bytes a)) → IfOk r (λ a. ImportsResolved g old (bytes a))
imports_processed g old new (Ok a) bytes is sound acyclic imports = imports_document g old (bytes a) sound acyclic (λ define. imports (is.define ∙ define))
imports_processed g old new (Err e) bytes is sound acyclic imports = tt

-- ---- the world

pub of_world : (g : Graph) (options : EncodeOptions) (types : Collection) (world : WorldId) → IsGraph g → IsAcyclic g.types → IsFree options g → HasTrueWorld g types world → HasResolvedWorld g types world
unfolding HasResolvedWorld
of_world g options types world sound acyclic free true_ = λ d ps r at e b.
    let a = ascribed d ps r g at e sound acyclic b in
    record { met = a.met (all_met options.define_components (composition_of g) free.cause); states = record { stands = true_.stands; states = true_.states ∙ sym a.world } }

pub all_worlds : {E : Type 0} (g : Graph) (options : EncodeOptions) (r : Result Encoded E) → IsGraph g → IsAcyclic g.types → OnOk r (IsFree options g) → IfOk r (λ e. HasTrueWorld g e.types e.world) → IfOk r (λ e. HasResolvedWorld g e.types e.world)
all_worlds g options (Ok e) sound acyclic free true_ = of_world g options e.types e.world sound acyclic free true_
all_worlds g options (Err f) sound acyclic free true_ = tt
