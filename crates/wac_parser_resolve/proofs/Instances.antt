-- A new instance, and what is passed to it.
use Rattle.std.proofs.Common.{◌≡◌, ◌≢◌, ◌⊎◌, ℕ, List, [], ◌∷◌, ◌++◌, Option, Some, None, IsSome, inl, inr, refl, sym, ap, subst, ◌∙◌, ◌<◌}
use Rattle.std.specs.Prelude.{slice_get}
use Rattle.std.specs.FinMap as map
use Rattle.wac_types_base.specs.declared.item.ItemKind.{ItemKind}
use Rattle.wac_types_base.specs.Record.{Collection}
use Rattle.wac_types_base.specs.Collection.{Stands}
use Rattle.wac_types_base.specs.Entries.{Name, names_of}
use Rattle.wac_types_base.specs.Graph.{Among}
use Rattle.wac_types_base.specs.Stated.{Stated, instance_type, stated_of}
use Rattle.wac_types_names.specs.Packaged.{Packaged}
use Rattle.wac_types_names.specs.Keys.{Key, package_key}
use Rattle.wac_graph_core.specs.declared.ids.PackageId.{PackageId}
use Rattle.wac_graph_core.specs.Nodes.{NodeData, Role, plain_node}
use Rattle.wac_graph_core.specs.Edges.{HasArgument, alias_edge, argument_edge}
use Rattle.wac_graph_core.specs.Graph.{Graph, IsGraph, instantiated, node_at, package_if, package_in, package_made, package_of}
use Rattle.wac_graph_core.specs.Steps.{Instantiates}
use Rattle.wac_graph_core.proofs.NodeMap.{get-insert_same}
use Rattle.wac_graph_core.proofs.NodeSteps.{new_at}
use Rattle.wac_parser_tree.specs.Trees.{Span}
use Rattle.wac_parser_resolve.specs.Ascribing.{State}
use Rattle.wac_parser_resolve.specs.Holding.{Denotes, HasItem, IsMade, Says}
use Rattle.wac_parser_resolve.specs.InInstances.{SaysMade, just_made}
use Rattle.wac_parser_resolve.specs.Knowing.{IsPackage}
use Rattle.wac_parser_resolve.specs.Later.{IsMore, Later}
use Rattle.wac_parser_resolve.proofs.Growing.{Later-instance}
use Rattle.wac_parser_resolve.proofs.Nodes.{denotes_stays, exported_stays, names_stay}
use Rattle.wac_parser_resolve.proofs.Numbers.{among_last, among_more, slice_kept}
use Rattle.wac_parser_resolve.proofs.Staying.{made_on}
use Rattle.wac_parser_resolve.proofs.Turns.{names_more, turn_back, turn_map, turn_more}
use Rattle.wac_graph_core.proofs.Rising.{rises_more}
use Rattle.wac_graph_core.specs.NodeMaps.{Rises}

-- ---- names of lists

pub among_named : {V : Type 0} (xs : List (ℕ × V)) (k : ℕ) → Among k (names_of xs) → (x : ℕ × V) × Among x xs × (x.0 ≡ k)
among_named [] k m = absurd m
among_named (x ∷ xs) k (inl e) = (x, inl refl, sym e)
among_named (x ∷ xs) k (inr m) = let r = among_named xs k m in (r.0, inr r.1, r.2)

pub more_one : {V : Type 0} (xs : List (ℕ × V)) (x : ℕ × V) → IsMore (names_of xs) (names_of (xs ++ x ∷ []))
more_one xs x i k e = ap (λ ns. slice_get ns i) (names_more xs x) ∙ slice_kept (names_of xs) x.0 k i e

-- ---- a new instance

module _ (g h : Graph) (is : IsGraph g) (id : PackageId) (i : ℕ) (s : Instantiates g h id i) where
  abbrev new_node : NodeData
  new_node = plain_node Role.Instance (Some id) (ItemKind.Instance s.of.instance_type)

  later : Later g h
  later = Later-instance g h id i s

  types : h.types ≡ g.types
  types = ap (λ (x : Graph). x.types) s.made

  edges : h.edges ≡ g.edges
  edges = ap (λ (x : Graph). x.edges) s.made

  nodes : h.nodes ≡ map.insert g.nodes i new_node
  nodes = ap (λ (x : Graph). x.nodes) s.made

  there : node_at h i ≡ Some new_node
  there = ap (λ m. map.get m i) nodes ∙ get-insert_same g.nodes i new_node

  held : package_of h id ≡ Some s.of
  held = ap (λ (x : Graph). package_in x.places id) s.made ∙ s.is

  made_here : instantiated h i ≡ Some s.of
  made_here = ap (package_made h) there ∙ held

  node_back : (j : ℕ) (x : NodeData) → node_at h j ≡ Some x → ((j ≡ i) × (new_node ≡ x)) ⊎ ((j ≢ i) × (node_at g j ≡ Some x))
  node_back j x at = new_at g.nodes i new_node j x (ap (λ m. map.get m j) (sym nodes) ∙ at)

  places : (o : Option PackageId) → package_if h o ≡ package_if g o
  places None = refl
  places (Some p) = ap (λ (x : Graph). package_in x.places p) s.made

  instance_by : (j : ℕ) (o : Option NodeData) → node_at h j ≡ o → IsSome (package_made h o) → (j ≡ i) ⊎ IsSome (instantiated g j)
  instance_by j None at x = absurd (cc x)
  instance_by j (Some y) at x = elim (node_back j y at) [
    | inl e ↦ inl e.0
    | inr e ↦ inr (subst IsSome (sym (ap (package_made g) e.1)) (subst IsSome (places y.of) x))
  ]

  instance_stands : (j : ℕ) → IsSome (instantiated g j) → IsSome (node_at g j)
  instance_stands j x = by (node_at g j) refl x
    where
      by : (o : Option NodeData) → node_at g j ≡ o → IsSome (package_made g o) → IsSome (node_at g j)
      by None at x = absurd (cc x)
      by (Some y) at x = subst IsSome (sym at) refl

  -- nothing is passed to it
  no_argument : (n : Name) (a : ℕ) → HasArgument h.edges i n a → ⊥
  no_argument n a x =
      let there = (is.wired.edges (argument_edge a i n) (subst (Among (argument_edge a i n)) edges x)).to in
      absurd (cc (s.free, there))

  module _ (noted : List (ℕ × Span)) (names : List (Name × ℕ)) (st : State) (k : Key) (w : Stated) (at : Span) (says : Says g noted names st) (held_as : IsPackage g k w id) where
    abbrev ms : List ℕ
    ms = names_of noted

    abbrev ns : List ℕ
    ns = names_of (noted ++ (i, at) ∷ [])

    more : IsMore ms ns
    more = more_one noted (i, at)

    below : (j : ℕ) → Among j ms → j < i
    below j m =
        let e = among_named noted j m in
        let b = turn_back (IsMade g ms) st.made noted e.0 says.made e.1 in
        s.above j (subst (λ (l : ℕ). IsSome (node_at g l)) e.2 (instance_stands e.0.0 (subst IsSome (sym b.2.is) refl)))

    same_package : held_as.held ≡ s.of
    same_package = let e : Some held_as.held ≡ Some s.of = sym held_as.there ∙ s.is in cc e

    new_made : IsMade h ns (just_made k w at) (i, at)
    new_made = record {
      of = s.of;
      is = made_here;
      key = ap package_key (sym same_package) ∙ held_as.key;
      world = record {
        stands = subst (λ (c : Collection). Stands c (ItemKind.Component s.of.ty)) (sym types) (is.packages.stand id s.of s.is).world;
        same = ap (λ (c : Collection). stated_of c (ItemKind.Component s.of.ty)) types ∙ ap (λ (p : Packaged). stated_of g.types (ItemKind.Component p.ty)) (sym same_package) ∙ held_as.world;
      };
      arguments = record { passed = λ n d v. absurd (cc v); only = λ n a x. absurd (no_argument n a x) };
      span = refl;
    }

    pub instance_item : HasItem h i (instance_type w)
    instance_item =
        let stands = is.packages.stand id s.of s.is in
        record {
          node = new_node;
          there = there;
          kind = record {
            stands = subst (λ (c : Collection). Stands c (ItemKind.Instance s.of.instance_type)) (sym types) stands.instance;
            same = ap (λ (c : Collection). stated_of c (ItemKind.Instance s.of.instance_type)) types ∙ stands.exports
                ∙ ap (λ (p : Packaged). instance_type (stated_of g.types (ItemKind.Component p.ty))) (sym same_package) ∙ ap instance_type held_as.world;
          };
        }

    argument_back : (j a : ℕ) (n : Name) → HasArgument h.edges j n a → HasArgument g.edges j n a
    argument_back j a n x = subst (Among (argument_edge a j n)) edges x

    pub instance_says : SaysMade h noted i names st (just_made k w at)
    instance_says = record {
      rising = subst Rises (sym (names_more noted (i, at))) (rises_more ms i says.rising below);
      made = turn_more (IsMade h ns) st.made noted (just_made k w at) (i, at)
          (turn_map (IsMade g ms) (IsMade h ns) (λ m e a. made_on g h later ms ns more m e (λ b n x. argument_back e.0 b n x) a) st.made noted says.made) new_made;
      all = λ j x. subst (Among j) (sym (names_more noted (i, at))) (all_at j (instance_by j (node_at h j) refl x));
      aliases = record {
        nodes = says.aliases.nodes;
        rising = says.aliases.rising;
        only = λ j m. let a = says.aliases.only j m in (a.0, a.1, subst (Among (alias_edge a.0 j a.1)) (sym edges) a.2);
        are = turn_map (Denotes g ms) (Denotes h ns) (denotes_stays g h later ms ns more) st.aliases says.aliases.nodes says.aliases.are;
        all = λ j x at r. aliased j x r (node_back j x at);
        exports = λ j b n x. exported_stays g h later j b n (says.aliases.exports j b n (subst (Among (alias_edge j b n)) edges x));
      };
      root = names_stay g h later ms ns more st.root names says.root;
    }
      where
        all_at : (j : ℕ) → (j ≡ i) ⊎ IsSome (instantiated g j) → Among j (ms ++ i ∷ [])
        all_at j (inl e) = subst (λ (x : ℕ). Among x (ms ++ i ∷ [])) (sym e) (among_last ms i)
        all_at j (inr x) = among_more j ms i (says.all j x)

        aliased : (j : ℕ) (x : NodeData) → x.role ≡ Role.Aliased → ((j ≡ i) × (new_node ≡ x)) ⊎ ((j ≢ i) × (node_at g j ≡ Some x)) → Among j says.aliases.nodes
        aliased j x r (inl e) = absurd (cc (r, ap (λ (y : NodeData). y.role) e.1))
        aliased j x r (inr e) = says.aliases.all j x e.1 r
