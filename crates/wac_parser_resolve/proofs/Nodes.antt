-- What nodes denote: while a graph grows, and when two are one.
use Rattle.std.proofs.Common.{◌≡◌, ℕ, List, Bool, true, false, ◌&&◌, Option, Some, None, IsSome, refl, sym, ap, subst, ◌∙◌, arith}
use Rattle.std.specs.Prelude.{slice_get, ◌==◌, bytes_eq}
use Rattle.std.specs.Cmp.Lexicographic.{bytes_decides}
use Rattle.std.proofs.lemmas.Bool.{and_parts}
use Rattle.std.proofs.lemmas.Bool.Decides.{nat_tests}
use Rattle.wac_types_base.specs.declared.item.ItemKind.{ItemKind}
use Rattle.wac_types_base.specs.Entries.{Name, AreDistinct, value_at}
use Rattle.wac_types_base.specs.Stated.{Stated, stated_in}
use Rattle.wac_types_base.proofs.GraphLemmas.{value_of}
use Rattle.wac_types_names.specs.Packaged.{Packaged}
use Rattle.wac_graph_core.specs.declared.ids.PackageId.{PackageId}
use Rattle.wac_graph_core.specs.Nodes.{NodeData, Role}
use Rattle.wac_graph_core.specs.NodeMaps.{IsImport}
use Rattle.wac_graph_core.specs.Edges.{HasAlias, alias_edge}
use Rattle.wac_graph_core.specs.Graph.{Graph, IsGraph, IsOfKind, instantiated, is_instance, node_at, package_if, package_made}
use Rattle.wac_composition.specs.Composition.{Origin, imported, instance, projected, defined}
use Rattle.wac_parser_declare.specs.Holding.{Holds}
use Rattle.wac_parser_resolve.specs.Ascribing.{Denoted, Bound, same_origin}
use Rattle.wac_parser_resolve.specs.Holding.{AreNamed, Denotes, HasItem, IsDefinition, IsExported, IsNamed, IsNode}
use Rattle.wac_parser_resolve.specs.Later.{IsMore, Later}
use Rattle.wac_parser_resolve.proofs.Growing.{as_it_was}
use Rattle.wac_parser_resolve.proofs.Turns.{turn_map, one_place}

-- ---- what is denoted stays

module _ (g h : Graph) (l : Later g h) where
  pub kind_stays : (k : ℕ) (P : ItemKind → Type 0) → IsOfKind g k P → IsOfKind h k P
  kind_stays k P a = let s = (as_it_was g h l.stays).still k a.node a.there in record { node = s.node; there = s.there; kind = subst P (sym s.item) a.kind }

  pub holds_stays : (t : Stated) (x : ItemKind) → Holds g.types t x → Holds h.types t x
  holds_stays t x a = record { stands = l.kinds x a.stands; same = ap stated_in ((as_it_was g h l.stays).trees x a.stands) ∙ a.same }

  pub item_stays : (k : ℕ) (t : Stated) → HasItem g k t → HasItem h k t
  item_stays k t a =
      let s = (as_it_was g h l.stays).still k a.node a.there in
      record { node = s.node; there = s.there; kind = holds_stays t s.node.item_kind (subst (Holds g.types t) (sym s.item) a.kind) }

  if_stays : (o : Option PackageId) (p : Packaged) → package_if g o ≡ Some p → package_if h o ≡ Some p
  if_stays None p e = absurd (cc e)
  if_stays (Some id) p e = (as_it_was g h l.stays).held id p e

  made_by : (k : ℕ) (o : Option NodeData) (p : Packaged) → node_at g k ≡ o → package_made g o ≡ Some p → instantiated h k ≡ Some p
  made_by k None p at e = absurd (cc e)
  made_by k (Some x) p at e = let s = (as_it_was g h l.stays).still k x at in ap (package_made h) s.there ∙ ap (package_if h) s.of ∙ if_stays x.of p e

  pub made_stays : (k : ℕ) (p : Packaged) → instantiated g k ≡ Some p → instantiated h k ≡ Some p
  made_stays k p e = made_by k (node_at g k) p refl e

  pub instance_stays : (k : ℕ) → IsSome (instantiated g k) → IsSome (instantiated h k)
  instance_stays k a = let v = value_of _ a in subst IsSome (sym (made_stays k v.0 v.1)) refl

  import_stays : (k : ℕ) (n : Name) → IsImport g.nodes k n → IsImport h.nodes k n
  import_stays k n a = let s = (as_it_was g h l.stays).still k a.node a.there in record { node = s.node; there = s.there; role = s.role ∙ a.role }

  definition_stays : (k : ℕ) (n : Name) → IsDefinition g k n → IsDefinition h k n
  definition_stays k n a =
      let s = (as_it_was g h l.stays).still k a.node a.there in
      record { node = s.node; there = s.there; role = s.role ∙ a.role; type = a.type; item = s.item ∙ a.item; named = (as_it_was g h l.stays).exported n k a.named; first = (as_it_was g h l.stays).first k n a.first }

  module _ (ms ns : List ℕ) (more : IsMore ms ns) where
    pub node_stays : (o : Origin ℕ) (k : ℕ) → IsNode g ms o k → IsNode h ns o k
    node_stays (imported n) k a = import_stays k n a
    node_stays (instance i) k a = (more i k a.0, instance_stays k a.1)
    node_stays (projected o n) k a =
        (a.0, node_stays o a.0 a.1, kind_stays a.0 (λ x. is_instance x ≡ true) a.2, (as_it_was g h l.stays).edges (alias_edge a.0 k n) a.3)
    node_stays (defined n x) k a = definition_stays k n a

    pub denotes_stays : (d : Denoted) (k : ℕ) → Denotes g ms d k → Denotes h ns d k
    denotes_stays d k a = record { node = node_stays d.origin k a.node; item = item_stays k d.item a.item }

    pub names_stay : (bs : List (Name × Bound)) (es : List (Name × ℕ)) → AreNamed g ms bs es → AreNamed h ns bs es
    names_stay bs es t = turn_map (IsNamed g ms) (IsNamed h ns) (λ b e a. record { name = a.name; denotes = denotes_stays b.1.denoted e.1 a.denotes }) bs es t

  pub exported_stays : (i k : ℕ) (n : Name) → IsExported g i n k → IsExported h i n k
  exported_stays i k n a = record { from = a.from; is = item_stays i a.from a.is; item = a.item; at = a.at; there = item_stays k a.item a.there }

-- ---- roles

abbrev pub RoleTold : Origin ℕ → Role → Type 0
RoleTold (imported n) r = r ≡ Role.Imported n
RoleTold (instance i) r = r ≡ Role.Instance
RoleTold (projected o n) r = r ≡ Role.Aliased
RoleTold (defined n x) r = r ≡ Role.Defined

module _ (g : Graph) (is : IsGraph g) where
  instance_by : (k : ℕ) (x : NodeData) (o : Option PackageId) → node_at g k ≡ Some x → x.of ≡ o → IsSome (package_if g o) → x.role ≡ Role.Instance
  instance_by k x None at e s = absurd (cc s)
  instance_by k x (Some id) at e s = (is.nodes k x at).only id e

  role_by : (k : ℕ) (o : Option NodeData) → node_at g k ≡ o → IsSome (package_made g o) → (x : NodeData) × (node_at g k ≡ Some x) × (x.role ≡ Role.Instance)
  role_by k None at s = absurd (cc s)
  role_by k (Some x) at s = (x, at, instance_by k x x.of at refl s)

  pub instance_role : (k : ℕ) → IsSome (instantiated g k) → (x : NodeData) × (node_at g k ≡ Some x) × (x.role ≡ Role.Instance)
  instance_role k s = role_by k (node_at g k) refl s

  module _ (ms : List ℕ) where
    pub told_role : (o : Origin ℕ) (k : ℕ) → IsNode g ms o k → (x : NodeData) × (node_at g k ≡ Some x) × RoleTold o x.role
    told_role (imported n) k a = (a.node, a.there, a.role)
    told_role (instance i) k a = instance_role k a.1
    told_role (projected o n) k a = let e = (is.wired.edges (alias_edge a.0 k n) a.3).alias n refl in (e.0, e.1, e.2)
    told_role (defined n x) k a = (a.node, a.there, a.role)

    -- one node has one role
    both_told : (o p : Origin ℕ) (k : ℕ) → IsNode g ms o k → IsNode g ms p k → (r : Role) × RoleTold o r × RoleTold p r
    both_told o p k a b =
        let x = told_role o k a in
        let y = told_role p k b in
        let e : Some y.0 ≡ Some x.0 = sym y.1 ∙ x.1 in
        let same : y.0 ≡ x.0 = cc e in
        (x.0.role, x.2, subst (λ (z : NodeData). RoleTold p z.role) same y.2)

    -- ---- one thing has one node

    number_same : (i j : ℕ) → (i == j) ≡ true → i ≡ j
    number_same i j e = grind (arith, nat_tests)

    number_is : (i j : ℕ) → i ≡ j → (i == j) ≡ true
    number_is i j e = grind (arith, nat_tests)

    true_both : (a b : Bool) → a ≡ true → b ≡ true → (a && b) ≡ true
    true_both true b e f = f
    true_both false b e f = absurd (cc e)

    one_found : (o : Option ℕ) (j k : ℕ) → o ≡ Some j → o ≡ Some k → j ≡ k
    one_found o j k e f = let same : Some j ≡ Some k = sym e ∙ f in cc same

    pub same_node : (o p : Origin ℕ) (j k : ℕ) → same_origin o p ≡ true → IsNode g ms o j → IsNode g ms p k → j ≡ k
    same_node (imported m) (imported n) j k e a b =
        let s : m ≡ n = (bytes_decides m n).0 e in is.once.imports j k n (subst (IsImport g.nodes j) s a) b
    same_node (instance i) (instance l) j k e a b =
        let s : i ≡ l = number_same i l e in one_found (slice_get ms l) j k (ap (slice_get ms) (sym s) ∙ a.0) b.0
    same_node (projected o m) (projected p n) j k e a b =
        let s = and_parts (same_origin o p) (bytes_eq m n) e in
        let from : a.0 ≡ b.0 = same_node o p a.0 b.0 s.0 a.1 b.1 in
        let name : m ≡ n = (bytes_decides m n).0 s.1 in
        is.keyed.one_alias b.0 j k n (subst (λ (i : ℕ). HasAlias g.edges i n j) from (subst (λ (x : Name). HasAlias g.edges a.0 x j) name a.3)) b.3
    same_node (defined m x) (defined n y) j k e a b =
        let s : m ≡ n = (bytes_decides m n).0 e in one_found (value_at g.exports n) j k (ap (value_at g.exports) (sym s) ∙ a.named) b.named
    same_node (imported m) (instance l) j k e a b = absurd (cc e)
    same_node (imported m) (projected p n) j k e a b = absurd (cc e)
    same_node (imported m) (defined n y) j k e a b = absurd (cc e)
    same_node (instance i) (imported n) j k e a b = absurd (cc e)
    same_node (instance i) (projected p n) j k e a b = absurd (cc e)
    same_node (instance i) (defined n y) j k e a b = absurd (cc e)
    same_node (projected o m) (imported n) j k e a b = absurd (cc e)
    same_node (projected o m) (instance l) j k e a b = absurd (cc e)
    same_node (projected o m) (defined n y) j k e a b = absurd (cc e)
    same_node (defined m x) (imported n) j k e a b = absurd (cc e)
    same_node (defined m x) (instance l) j k e a b = absurd (cc e)
    same_node (defined m x) (projected p n) j k e a b = absurd (cc e)

    -- ---- one node that is an instance, or an alias, is one thing

    module _ (apart : AreDistinct ms) where
      no_definition : (k : ℕ) (n : Name) → IsOfKind g k (λ x. is_instance x ≡ true) → IsDefinition g k n → ⊥
      no_definition k n a b =
          let e : Some b.node ≡ Some a.node = sym b.there ∙ a.there in
          let same : b.node ≡ a.node = cc e in
          let item : a.node.item_kind ≡ ItemKind.Ty b.type = ap (λ (x : NodeData). x.item_kind) (sym same) ∙ b.item in
          absurd (cc (sym (ap is_instance item) ∙ a.kind))

      pub same_thing : (o p : Origin ℕ) (k : ℕ) → IsOfKind g k (λ x. is_instance x ≡ true) → IsNode g ms o k → IsNode g ms p k → same_origin o p ≡ true
      same_thing (imported m) (imported n) k i a b =
          let r = both_told (imported m) (imported n) k a b in
          let e : Role.Imported m ≡ Role.Imported n = sym r.1 ∙ r.2 in
          let s : m ≡ n = cc e in
          (bytes_decides m n).1 s
      same_thing (instance l) (instance m) k i a b = number_is l m (one_place ms l m k apart a.0 b.0)
      same_thing (projected o m) (projected p n) k i a b =
          let s = is.keyed.one_source a.0 b.0 k m n a.3 b.3 in
          true_both (same_origin o p) (bytes_eq m n) (same_thing o p a.0 a.2 a.1 (subst (IsNode g ms p) (sym s.0) b.1)) ((bytes_decides m n).1 s.1)
      same_thing (defined m x) p k i a b = absurd (no_definition k m i a)
      same_thing o (defined n y) k i a b = absurd (no_definition k n i b)
      same_thing (imported m) (instance l) k i a b = let r = both_told (imported m) (instance l) k a b in absurd (cc (r.1, r.2))
      same_thing (imported m) (projected p n) k i a b = let r = both_told (imported m) (projected p n) k a b in absurd (cc (r.1, r.2))
      same_thing (instance l) (imported n) k i a b = let r = both_told (instance l) (imported n) k a b in absurd (cc (r.1, r.2))
      same_thing (instance l) (projected p n) k i a b = let r = both_told (instance l) (projected p n) k a b in absurd (cc (r.1, r.2))
      same_thing (projected o m) (imported n) k i a b = let r = both_told (projected o m) (imported n) k a b in absurd (cc (r.1, r.2))
      same_thing (projected o m) (instance l) k i a b = let r = both_told (projected o m) (instance l) k a b in absurd (cc (r.1, r.2))

      -- an alias is a projection of the one instance that it is of
      pub same_alias : (o p : Origin ℕ) (n : Name) (i k : ℕ) → IsNode g ms o k → HasAlias g.edges i n k → IsNode g ms p i
          → (is_instance_at : IsOfKind g i (λ x. is_instance x ≡ true)) → same_origin o (projected p n) ≡ true
      same_alias o p n i k a e b kind = by_origin o a
        where
          here : IsNode g ms (projected p n) k
          here = (i, b, kind, e)

          by_origin : (q : Origin ℕ) → IsNode g ms q k → same_origin q (projected p n) ≡ true
          by_origin (imported m) c = let r = both_told (imported m) (projected p n) k c here in absurd (cc (r.1, r.2))
          by_origin (instance l) c = let r = both_told (instance l) (projected p n) k c here in absurd (cc (r.1, r.2))
          by_origin (defined m x) c = let r = both_told (defined m x) (projected p n) k c here in absurd (cc (r.1, r.2))
          by_origin (projected q m) c =
              let s = is.keyed.one_source c.0 i k m n c.3 e in
              true_both (same_origin q p) (bytes_eq m n) (same_thing q p c.0 c.2 c.1 (subst (IsNode g ms p) (sym s.0) b)) ((bytes_decides m n).1 s.1)

    -- the node of which an alias is one is an instance
    pub alias_of_instance : (o : Origin ℕ) (n : Name) (i k : ℕ) → IsNode g ms o k → HasAlias g.edges i n k → IsOfKind g i (λ x. is_instance x ≡ true)
    alias_of_instance o n i k a e = by_origin o a
      where
        aliased : (x : NodeData) × (node_at g k ≡ Some x) × (x.role ≡ Role.Aliased)
        aliased = let z = (is.wired.edges (alias_edge i k n) e).alias n refl in (z.0, z.1, z.2)

        clash : (q : Origin ℕ) → IsNode g ms q k → (r : Role) × RoleTold q r × (r ≡ Role.Aliased)
        clash q c =
            let x = told_role q k c in
            let z : Some aliased.0 ≡ Some x.0 = sym aliased.1 ∙ x.1 in
            let same : aliased.0 ≡ x.0 = cc z in
            (x.0.role, x.2, subst (λ (y : NodeData). y.role ≡ Role.Aliased) same aliased.2)

        by_origin : (q : Origin ℕ) → IsNode g ms q k → IsOfKind g i (λ x. is_instance x ≡ true)
        by_origin (imported m) c = let r = clash (imported m) c in absurd (cc (r.1, r.2))
        by_origin (instance l) c = let r = clash (instance l) c in absurd (cc (r.1, r.2))
        by_origin (defined m x) c = let r = clash (defined m x) c in absurd (cc (r.1, r.2))
        by_origin (projected q m) c = subst (λ (j : ℕ). IsOfKind g j (λ x. is_instance x ≡ true)) (is.keyed.one_source c.0 i k m n c.3 e).0 c.2
