-- What a graph's nodes need is among what is asked, held and defined.
use Rattle.std.specs.Prelude.{is_none, is_some}
use Rattle.std.specs.FinMap as finite
use Rattle.std.proofs.Common.{◌≡◌, ℕ, Bool, true, false, true≢false, List, [], Option, Some, None, refl, sym, ap, subst, ◌∙◌}
use Rattle.wac_types_base.specs.declared.ids.WorldId.{WorldId}
use Rattle.wac_types_base.specs.declared.item.ItemKind.{ItemKind}
use Rattle.wac_types_base.specs.Record.{Collection}
use Rattle.wac_types_base.specs.Entries.{Name, names_of, value_at}
use Rattle.wac_types_base.specs.Graph.{Among}
use Rattle.wac_types_base.specs.Collection.{IsAcyclic}
use Rattle.wac_types_base.specs.Stated.{stated_of}
use Rattle.wac_types_base.proofs.Lists.{among_mapped}
use Rattle.wac_types_names.specs.Packaged.{Packaged}
use Rattle.wac_graph_core.specs.declared.ids.PackageId.{PackageId}
use Rattle.wac_graph_core.specs.Nodes.{NodeData, Role}
use Rattle.wac_graph_core.specs.Edges.{HasAlias, alias_edge}
use Rattle.wac_graph_core.specs.Walking.{first_argument, first_source}
use Rattle.wac_graph_core.specs.Graph.{Graph, IsGraph, instantiated, item_import, node_at, package_if, package_made, package_of}
use Rattle.wac_graph_core.proofs.Found.{no_argument, no_source}
use Rattle.wac_types_parts.specs.Parts.{imports_of}
use Rattle.wac_composition.specs.Asks.{ToFill}
use Rattle.wac_composition.proofs.Clashing.{name_found}
use Rattle.wac_composition.proofs.Against.{found_none}
use Rattle.wac_graph_asks.specs.declared.asks.Definition.{Definition}
use Rattle.wac_graph_asks.specs.Asked.{package_ids}
use Rattle.wac_graph_asks.specs.Graphs.{nodes_of}
use Rattle.wac_graph_asks.specs.Outers.{IsOuters}
use Rattle.wac_graph_asks.specs.Reads.{import_name_of, is_defined, is_definition, package_id_of}
use Rattle.wac_graph_asks.proofs.Origins.{node_among, among_mapped as among_passing}
use Rattle.wac_graph_causes.specs.Unwritable.{alias_cause, alias_cause_at, alias_cause_by, is_value_at}
use Rattle.wac_graph_causes.proofs.AliasCauses.{aliases_are}
use Rattle.wac_graph_encode.specs.declared.root.Root.{Root}
use Rattle.wac_graph_encode.specs.Finished.{HasAllOf}
use Rattle.wac_graph_encode.specs.Ready.{HasPlace, IsReadyWith}
use Rattle.wac_graph_encode.proofs.Nested.{with_has}
use Rattle.wac_graph_encode.proofs.Readying.{of_node}
use Rattle.wac_graph_encode.proofs.RootedOuters.{ask_at, asked_there}
use Rattle.wac_graph_encode.proofs.Sources.{filled_there}
use Rattle.wac_graph_encode.proofs.StandingGiven.{has_imports}
use Rattle.wac_graph_encode.proofs.WritingSteps.{imported_role}

-- ---- outer imports

module _ (g : Graph) (sound : IsGraph g) (finite_types : IsAcyclic g.types) (c : Collection) (acyclic : IsAcyclic c) (world : WorldId) (places : List (Name × ℕ)) (is : IsOuters g c world places) where
  import_placed : (k : ℕ) (n : Name) (o : Option NodeData) → node_at g k ≡ o → import_name_of o ≡ Some n → HasPlace places n
  import_placed k n None e q = absurd (cc q)
  import_placed k n (Some x) e q = is.named (ask_at g sound finite_types c acyclic world places is k x n) (asked_there g sound finite_types c acyclic world places is k x n e (imported_role x.role n q))

  of_package : (k : ℕ) (of : Packaged) (o : Option PackageId) → package_if g o ≡ Some of → (id : PackageId) × (package_of g id ≡ Some of)
  of_package k of None q = absurd (cc q)
  of_package k of (Some id) q = (id, q)

  of_made : (k : ℕ) (of : Packaged) (o : Option NodeData) → package_made g o ≡ Some of → (id : PackageId) × (package_of g id ≡ Some of)
  of_made k of None q = absurd (cc q)
  of_made k of (Some x) q = of_package k of x.of q

  unbound_placed : (k : ℕ) (of : Packaged) (n : Name) → instantiated g k ≡ Some of → Among n (names_of (imports_of g.types of.ty)) → first_argument g.edges k n ≡ None → HasPlace places n
  unbound_placed k of n made there none = go (item_import g.types of.ty n) refl
    where
      id : (i : PackageId) × (package_of g i ≡ Some of)
      id = of_made k of (node_at g k) made

      not_there : (o : Option ItemKind) → is_some o ≡ false → is_none o ≡ false → ⊥
      not_there None s n = true≢false n
      not_there (Some x) s n = true≢false s

      go : (o : Option ItemKind) → item_import g.types of.ty n ≡ o → HasPlace places n
      go None e =
          let known = has_imports g.types of.ty (imports_of g.types of.ty) n (sound.packages.stand id.0 of id.1).world refl in
          absurd (not_there (value_at (imports_of g.types of.ty) n) (known ∙ ap is_some e) (name_found (imports_of g.types of.ty) n there))
      go (Some item) e =
          is.named (record { asking = ToFill; by = k; name = n; item = stated_of g.types item })
          (filled_there g sound finite_types c acyclic world places is k of n item made e (λ a h. no_argument g.edges k a n none h))

-- ---- aliases

module _ (g : Graph) (sound : IsGraph g) (finite_types : IsAcyclic g.types) where
  no_value : alias_cause g ≡ None → (i k : ℕ) (n : Name) → HasAlias g.edges i n k → is_value_at g k ≡ false
  no_value none i k n h = go (first_source g.edges k) refl (is_value_at g k) refl
    where
      key : Among k (finite.keys g.nodes)
      key = by (node_at g k) refl (sound.wired.edges (alias_edge i k n) h).to
        where
          by : (o : Option NodeData) → node_at g k ≡ o → is_some o ≡ true → Among k (finite.keys g.nodes)
          by None e s = absurd (true≢false (sym s))
          by (Some x) e s = among_mapped (λ (y : ℕ × NodeData). y.0) (nodes_of g) (k, x) (node_among g k x e)

      here : alias_cause_at g k ≡ None
      here = found_none (alias_cause_at g) (finite.keys g.nodes) (aliases_are g sound finite_types ∙ none) k key

      go : (o : Option (ℕ × Name)) → first_source g.edges k ≡ o → (b : Bool) → is_value_at g k ≡ b → is_value_at g k ≡ false
      go None e b q = absurd (no_source g.edges k i n e h)
      go (Some x) e false q = q
      go (Some x) e true q =
          let told : alias_cause_by true (Some x) ≡ alias_cause_at g k = λ j. alias_cause_by (sym q j) (sym e j) in
          let none_told : alias_cause_by true (Some x) ≡ None = told ∙ here in
          absurd (cc none_told)

-- ---- all

module _ (g : Graph) (sound : IsGraph g) (finite_types : IsAcyclic g.types) (c : Collection) (acyclic : IsAcyclic c) (world : WorldId) (places : List (Name × ℕ)) (is : IsOuters g c world places) (ids : List PackageId) (xs : List Definition) (all : HasAllOf g ids xs) where
  package_held : (k : ℕ) (id : PackageId) → package_id_of (node_at g k) ≡ Some id → Among id ids
  package_held k id q =
      let x = of_node g k (node_at g k) refl id q in
      subst (Among id) (sym all.packages) (with_has g [] (package_ids g) id (among_passing (λ (e : ℕ × NodeData). e.1.of) (nodes_of g) (k, x.0) id (node_among g k x.0 x.1) x.2))

  defined_role : (r : Role) → is_defined r ≡ true → r ≡ Role.Defined
  defined_role Role.Defined q = refl
  defined_role (Role.Imported n) q = absurd (true≢false (sym q))
  defined_role Role.Instance q = absurd (true≢false (sym q))
  defined_role Role.Aliased q = absurd (true≢false (sym q))

  definition_there : (k : ℕ) (o : Option NodeData) → node_at g k ≡ o → is_definition o ≡ true → (x : Definition) × Among x xs × (x.node ≡ k)
  definition_there k None e q = absurd (true≢false (sym q))
  definition_there k (Some x) e q = all.definitions k x e (defined_role x.role q)

  pub provided : (root : Root) → ((id : PackageId) → Among id ids → Among id (names_of root.packages.entries)) → ((x : Definition) → Among x xs → Among x.node (names_of root.nodes.entries)) → IsReadyWith g (HasPlace places) root
  provided root held defined = record {
    imports = λ k n q. import_placed g sound finite_types c acyclic world places is k n (node_at g k) refl q;
    unbound = unbound_placed g sound finite_types c acyclic world places is;
    packages = λ k id q. held id (package_held k id q);
    definitions = λ k q. let x = definition_there k (node_at g k) refl q in subst (λ j. Among j (names_of root.nodes.entries)) x.2 (defined x.0 x.1);
    values = no_value g sound finite_types all.aliases;
  }
