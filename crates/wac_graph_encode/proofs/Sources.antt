-- What instances are given, and what exports are, asks of the outside only what is imported.
use Rattle.std.specs.Prelude.{option_map, is_some, not}
use Rattle.std.specs.List.{flat_map}
use Rattle.std.proofs.Common.{◌≡◌, ℕ, List, map, Option, Some, None, IsSome, refl, sym, ap, subst, ◌∙◌}
use Rattle.wac_types_base.specs.declared.ids.WorldId.{WorldId}
use Rattle.wac_types_base.specs.declared.item.ItemKind.{ItemKind}
use Rattle.wac_types_base.specs.Record.{Collection}
use Rattle.wac_types_base.specs.Entries.{Name, value_at}
use Rattle.wac_types_base.specs.Graph.{Among}
use Rattle.wac_types_base.specs.Collection.{IsAcyclic}
use Rattle.wac_types_base.specs.Stated.{Stated, stated_of, imports_of}
use Rattle.wac_types_base.specs.Tree.{tree}
use Rattle.wac_types_base.proofs.Adding.{Among-left, Among-right}
use Rattle.wac_types_base.proofs.Lists.{among_mapped}
use Rattle.wac_types_names.specs.Packaged.{Packaged}
use Rattle.wac_graph_bytes.specs.Wirings.{Source, Absent, Outer, Inst, Projection, Bundle, Definition, Asks, Instantiation, project, rename}
use Rattle.wac_graph_core.specs.Edges.{HasArgument}
use Rattle.wac_graph_core.specs.Walking.{first_argument}
use Rattle.wac_graph_core.specs.Graph.{Graph, IsGraph, instantiated, item_import}
use Rattle.wac_graph_core.specs.GraphWiring as wired
use Rattle.wac_graph_core.proofs.Found.{argument_found}
use Rattle.wac_composition.specs.Asks.{ToFill, Ask, explicit_ask, filled_asks, named_asks, asks_of}
use Rattle.wac_composition.proofs.Bound.{among_passing}
use Rattle.wac_composition.proofs.Lists.{flat_among}
use Rattle.wac_graph_asks.specs.Graphs.{composition_of, origin_of}
use Rattle.wac_graph_asks.specs.Outers.{IsOuters}
use Rattle.wac_graph_asks.specs.Wirings.{asked_trees, written_tree}
use Rattle.wac_graph_asks.proofs.Origins.{argument_is, import_stated, made_among, made_of}
use Rattle.wac_graph_encode.specs.Standing.{spelled, IsInstanceOf, StandsFor}
use Rattle.wac_graph_encode.proofs.RootedOuters.{ask_at, asked_there}

-- ---- what a source asks

asks_project : {I : Type 0} (P : Name → Type 0) (s : Source I) (n : Name) → Asks P s → Asks P (project s n)
asks_project P Absent n h = tt
asks_project P (Outer m) n h = h
asks_project P (Inst k) n h = tt
asks_project P (Projection s m) n h = h
asks_project P (Bundle f) n h = h n
asks_project P (Definition t) n h = tt

pub asks_renamed : {I J : Type 0} (P : Name → Type 0) (f : I → J) (s : Source I) → Asks P s → Asks P (rename f s)
asks_renamed P f Absent h = tt
asks_renamed P f (Outer m) h = h
asks_renamed P f (Inst k) h = tt
asks_renamed P f (Projection s n) h = asks_project P (rename f s) n (asks_renamed P f s h)
asks_renamed P f (Bundle g) h = λ n. asks_renamed P f (g n) (h n)
asks_renamed P f (Definition t) h = tt

pub asks_weaker : {I : Type 0} (P Q : Name → Type 0) → ((n : Name) → P n → Q n) → (s : Source I) → Asks P s → Asks Q s
asks_weaker P Q w Absent h = tt
asks_weaker P Q w (Outer n) h = w n h
asks_weaker P Q w (Inst k) h = tt
asks_weaker P Q w (Projection s n) h = asks_weaker P Q w s h
asks_weaker P Q w (Bundle f) h = λ n. asks_weaker P Q w (f n) (h n)
asks_weaker P Q w (Definition t) h = tt

-- ---- in a graph whose outer imports are made

-- it asks of the outside what is imported
abbrev pub IsAsked : Graph → Source ℕ → Type 0
IsAsked g s = Asks (λ n. IsSome (asked_trees g n)) s

module _ (g : Graph) (sound : IsGraph g) (finite_types : IsAcyclic g.types) (c : Collection) (acyclic : IsAcyclic c) (world : WorldId) (places : List (Name × ℕ)) (is : IsOuters g c world places) where
  asked_named : (a : Ask ℕ) → Among a (asks_of (composition_of g)) → IsSome (asked_trees g (spelled g a.name))
  asked_named a m = ap (λ (o : Option Stated). is_some (option_map tree o)) (is.met a m).there

  -- what a node stands for
  pub denoted_asks : (k : ℕ) (s : Source ℕ) → StandsFor g k s → IsAsked g s
  denoted_asks k s (wired.imported x n at role) = asked_named (ask_at g sound finite_types c acyclic world places is k x n) (asked_there g sound finite_types c acyclic world places is k x n at role)
  denoted_asks k s (wired.instance x at role) = tt
  denoted_asks k s (wired.defined x at role) = tt
  denoted_asks k s (wired.aliased {s = t} i n e d) = asks_project (λ m. IsSome (asked_trees g m)) t n (denoted_asks i t d)

  -- what is not passed is asked
  pub filled_there : (k : ℕ) (p : Packaged) (n : Name) (item : ItemKind) → instantiated g k ≡ Some p → item_import g.types p.ty n ≡ Some item → ((a : ℕ) → HasArgument g.edges k n a → ⊥)
      → Among (record { asking = ToFill; by = k; name = n; item = stated_of g.types item }) (asks_of (composition_of g))
  filled_there k p n item made import none =
      let m = made_of g sound finite_types k p in
      let x : Stated = stated_of g.types item in
      let v : value_at (imports_of m.world) n ≡ Some x = import_stated g sound finite_types k p made n ∙ ap (option_map (stated_of g.types)) import in
      let a : value_at m.arguments n ≡ None = argument_is g sound finite_types k n ∙ ap (option_map (origin_of g)) (not_passed (first_argument g.edges k n) refl) in
      let open_ = among_passing (λ (e : Name × Stated). not (is_some (value_at m.arguments e.0))) (imports_of m.world) n x v (ap (λ o. not (is_some o)) a) in
      let one = among_mapped (λ (e : Name × Stated). record { asking = ToFill; by = m.by; name = e.0; item = e.1 }) _ (n, x) open_ in
      Among-left _ (named_asks (composition_of g)) _ (Among-right _ (map explicit_ask (composition_of g).imports) (flat_map filled_asks (composition_of g).made)
      (flat_among filled_asks (composition_of g).made m _ (made_among g sound finite_types k p made) one))
    where
      not_passed : (o : Option ℕ) → first_argument g.edges k n ≡ o → first_argument g.edges k n ≡ None
      not_passed None e = e
      not_passed (Some a) e = absurd (none a (argument_found g.edges k a n e))

  bound_asks : (k : ℕ) (p : Packaged) (n : Name) (item : ItemKind) (s : Source ℕ) → instantiated g k ≡ Some p → item_import g.types p.ty n ≡ Some item → wired.Binds (spelled g) (written_tree g) g k n s → IsAsked g s
  bound_asks k p n item s made import (wired.argument a h d) = denoted_asks a s d
  bound_asks k p n item s made import (wired.outer none) = asked_named (record { asking = ToFill; by = k; name = n; item = stated_of g.types item }) (filled_there k p n item made import none)

  -- what an instance is given
  pub given_asks : (k : ℕ) (p : Packaged) (x : Instantiation ℕ) → instantiated g k ≡ Some p → IsInstanceOf g k p x → (n : Name) → IsAsked g (x.args n)
  given_asks k p x made of n = go (item_import g.types p.ty n) refl
    where
      go : (o : Option ItemKind) → item_import g.types p.ty n ≡ o → IsAsked g (x.args n)
      go None e = subst (IsAsked g) (sym (of.no_other n e)) tt
      go (Some item) e = bound_asks k p n item (x.args n) made e (of.bound n item e)
