-- The wiring of a graph is the one that its composition has.
use Rattle.std.specs.Prelude.{◌&&◌, is_some, filter_map, option_map}
use Rattle.std.proofs.lemmas.Option.{none-some, same_Some}
use Rattle.std.specs.List.{cons_option}
use Rattle.std.specs.FinMap as finite
use Rattle.std.specs.FinMap.{find}
use Rattle.std.specs.Ordering.{nat_cmp, eq_by_cmp}
use Rattle.std.specs.Cmp.{unsigned_tied}
use Rattle.std.specs.Cmp.Lexicographic.{pointwise, bytes_decides}
use Rattle.std.proofs.lemmas.Bool.{lt-ltb, ltb-true}
use Rattle.std.proofs.Common.{◌≡◌, ◌==◌, ℕ, zero, suc, ◌+◌, ◌<◌, ◌≤◌, ltb, Bool, true, false, true≢false, cond, List, [], ◌∷◌, map, length, Option, Some, None, refl, sym, ap, subst, ◌∙◌, inl, inr, arith}
use Rattle.wac_types_base.specs.declared.item.ItemKind.{ItemKind}
use Rattle.wac_types_base.specs.Collection.{IsAcyclic as IsFinite}
use Rattle.wac_types_base.specs.Entries.{Name, value_at}
use Rattle.wac_types_base.specs.Graph.{Among}
use Rattle.wac_types_base.specs.Stated.{Stated, stated_of, imports_of}
use Rattle.wac_types_base.proofs.Standing.{world_found}
use Rattle.wac_types_names.specs.Packaged.{Packaged}
use Rattle.wac_types_names.specs.Keys.{package_key}
use Rattle.wac_graph_bytes.specs.Wirings.{Source, Absent, project, OfBytes, Instantiation, Wiring}
use Rattle.wac_graph_core.specs.declared.ids.PackageId.{PackageId}
use Rattle.wac_graph_core.specs.declared.edge.Edge.{Edge}
use Rattle.wac_graph_core.specs.declared.edge.Label.{Label}
use Rattle.wac_graph_core.specs.Nodes.{NodeData, Role}
use Rattle.wac_graph_core.specs.Edges.{HasAlias, alias_edge}
use Rattle.wac_graph_core.specs.Walking.{is_argument, first_argument, first_source}
use Rattle.wac_graph_core.specs.Graph.{Graph, IsGraph, node_at, package_if, package_made, instantiated, item_import, imported_in}
use Rattle.wac_graph_core.specs.GraphWiring as w
use Rattle.wac_graph_core.proofs.Found.{argument_found, no_argument, source_found, no_source}
use Rattle.wac_types_base.proofs.Stating.{imports_stated}
use Rattle.wac_composition.specs.Composition.{Origin, Made, projected}
use Rattle.wac_composition.specs.Asks.{asks_of}
use Rattle.wac_composition.specs.Classes.{spelling}
use Rattle.wac_composition.specs.Worlds.{source_of}
use Rattle.wac_composition.specs.Wired.{source_for, argument_source, export_source}
use Rattle.wac_graph_asks.specs.Graphs.{nodes_of, argument_by, if_argument, arguments_to, export_of, origin_by, origin_at, origin_within, origin_of, made_with, item_at, composition_of}
use Rattle.wac_graph_asks.specs.Wirings.{written_tree, IsGraphWiring}
use Rattle.wac_graph_asks.specs.Composed.{IsComposedAs, IsComposed, GraphsAreComposed}
use Rattle.wac_types_base.proofs.Replacing.{same_number}

-- ---- how many edges pass a test

one_if : Bool → ℕ
one_if true = 1
one_if false = 0

pub count : (Edge → Bool) → List Edge → ℕ
count p [] = 0
count p (e ∷ es) = one_if (p e) + count p es

pub count_most : (p : Edge → Bool) (es : List Edge) → count p es ≤ length es
unfolding count one_if
count_most p [] = omega arith
count_most p (e ∷ es) = go (count_most p es) (p e)
  where
    go : count p es ≤ length es → (b : Bool) → one_if b + count p es ≤ length (e ∷ es)
    go h true = omega (arith, h)
    go h false = omega (arith, h)

module _ (p q : Edge → Bool) (wider : (e : Edge) → p e ≡ true → q e ≡ true) where
  one_wider : (a b : Bool) → (a ≡ true → b ≡ true) → one_if a ≤ one_if b
  unfolding one_if
  one_wider false b h = omega arith
  one_wider true true h = omega arith
  one_wider true false h = absurd (true≢false (sym (h refl)))

  count_wider : (es : List Edge) → count p es ≤ count q es
  unfolding count
  count_wider [] = omega arith
  count_wider (e ∷ es) = let a = one_wider (p e) (q e) (wider e) in let b = count_wider es in omega (arith, a, b)

  one_more : (a b : Bool) → a ≡ false → b ≡ true → one_if a < one_if b
  unfolding one_if
  one_more false true x y = omega arith
  one_more true b x y = absurd (true≢false x)
  one_more false false x y = absurd (true≢false (sym y))

  count_more : (es : List Edge) (d : Edge) → Among d es → p d ≡ false → q d ≡ true → count p es < count q es
  unfolding count
  count_more [] d m x y = absurd m
  count_more (e ∷ es) d (inl s) x y =
      let a = one_more (p e) (q e) (ap p (sym s) ∙ x) (ap q (sym s) ∙ y) in
      let b = count_wider es in
      omega (arith, a, b)
  count_more (e ∷ es) d (inr m) x y =
      let a = one_wider (p e) (q e) (wider e) in
      let b = count_more es d m x y in
      omega (arith, a, b)

-- ---- lists and maps

pub find_among : (es : List (ℕ × NodeData)) (k : ℕ) (x : NodeData) → find nat_cmp k es ≡ Some x → Among (k, x) es
find_among [] k x e = absurd (none-some _ e)
find_among (d ∷ es) k x e = go (find_among es k x) (eq_by_cmp nat_cmp k d.0) refl e
  where
    go : (find nat_cmp k es ≡ Some x → Among (k, x) es) → (b : Bool) → eq_by_cmp nat_cmp k d.0 ≡ b → cond b (Some d.1) (find nat_cmp k es) ≡ Some x → Among (k, x) (d ∷ es)
    go rest true q r = let same : k ≡ d.0 = same_number k d.0 (sym (unsigned_tied k d.0) ∙ q) in inl (λ i. (same i, sym (same_Some _ _ r) i))
    go rest false q r = inr (rest r)

pub node_among : (g : Graph) (k : ℕ) (x : NodeData) → node_at g k ≡ Some x → Among (k, x) (nodes_of g)
node_among g k x e = find_among (nodes_of g) k x (sym (finite.get-entries g.nodes k) ∙ e)

pub among_mapped : {X Y : Type 0} (f : X → Option Y) (xs : List X) (x : X) (y : Y) → Among x xs → f x ≡ Some y → Among y (filter_map f xs)
among_mapped f [] x y m e = absurd m
among_mapped {X = X} {Y = Y} f (z ∷ zs) x y m e = go (among_mapped f zs x y) (f z) refl m
  where
    go : (Among x zs → f x ≡ Some y → Among y (filter_map f zs)) → (o : Option Y) → f z ≡ o → Among x (z ∷ zs) → Among y (cons_option o (filter_map f zs))
    go rest (Some v) q (inl s) = inl (same_Some _ _ (sym e ∙ ap f s ∙ q))
    go rest None q (inl s) = absurd (none-some _ (sym q ∙ ap f (sym s) ∙ e))
    go rest (Some v) q (inr n) = inr (rest n e)
    go rest None q (inr n) = rest n e

names_turn : (m n : Name) → pointwise ◌==◌ m n ≡ pointwise ◌==◌ n m
names_turn m n = go (pointwise ◌==◌ m n) refl (pointwise ◌==◌ n m) refl
  where
    go : (a : Bool) → pointwise ◌==◌ m n ≡ a → (b : Bool) → pointwise ◌==◌ n m ≡ b → a ≡ b
    go true p true q = refl
    go false p false q = refl
    go true p false q = absurd (true≢false (sym ((bytes_decides n m).1 (sym ((bytes_decides m n).0 p))) ∙ q))
    go false p true q = absurd (true≢false (sym ((bytes_decides m n).1 (sym ((bytes_decides n m).0 q))) ∙ p))

-- what is passed under a name
pub passed_as : (es : List Edge) (k : ℕ) (n : Name) → value_at (arguments_to es k) n ≡ first_argument es k n
passed_as [] k n = refl
passed_as (e ∷ es) k n = go (passed_as es k n) (e.to == k) e.label
  where
    turn : value_at (arguments_to es k) n ≡ first_argument es k n → (m : Name) → cond (pointwise ◌==◌ n m) (Some e.from) (value_at (arguments_to es k) n) ≡ cond (pointwise ◌==◌ m n) (Some e.from) (first_argument es k n)
    turn h m = ap (λ b. cond b (Some e.from) (value_at (arguments_to es k) n)) (names_turn n m) ∙ ap (cond (pointwise ◌==◌ m n) (Some e.from)) h

    go : value_at (arguments_to es k) n ≡ first_argument es k n → (b : Bool) (l : Label) → value_at (cons_option (if_argument b (argument_by l e)) (arguments_to es k)) n ≡ cond (b && is_argument l n) (Some e.from) (first_argument es k n)
    go h true (Label.Argument m) = turn h m
    go h true (Label.Alias m) = h
    go h true Label.Dependency = h
    go h false l = h

pub value_mapped : {X Y : Type 0} (f : X → Y) (xs : List (Name × X)) (n : Name) → value_at (map (λ x. (x.0, f x.1)) xs) n ≡ option_map f (value_at xs n)
value_mapped f [] n = refl
value_mapped f (x ∷ xs) n = go (value_mapped f xs n) (pointwise ◌==◌ n x.0)
  where
    go : value_at (map (λ x. (x.0, f x.1)) xs) n ≡ option_map f (value_at xs n) → (b : Bool) → cond b (Some (f x.1)) (value_at (map (λ x. (x.0, f x.1)) xs) n) ≡ option_map f (cond b (Some x.1) (value_at xs n))
    go h true = refl
    go h false = h

map_twice : {X Y Z : Type 0} (f : X → Y) (h : Y → Z) (xs : List X) → map h (map f xs) ≡ map (λ x. h (f x)) xs
map_twice f h [] = refl
map_twice f h (x ∷ xs) = ap (λ l. h (f x) ∷ l) (map_twice f h xs)

module _ (g : Graph) (sound : IsGraph g) (finite_types : IsFinite g.types) where
  abbrev pub spell : Name → Name
  spell = spelling (asks_of (composition_of g))

  abbrev Denotes : ℕ → Source ℕ → Type 0
  Denotes = w.Denotes spell (written_tree g) g

  abbrev pub source : Origin ℕ → Source ℕ
  source = source_of (asks_of (composition_of g))

  abbrev pub rank : ℕ → ℕ
  rank = sound.acyclic.0

  -- the edges from below a node
  abbrev pub starts_below : ℕ → Edge → Bool
  starts_below r e = ltb (rank e.from) r

  abbrev pub below : ℕ → ℕ
  below k = count (starts_below (rank k)) g.edges

  pub fewer : (i k : ℕ) (n : Name) → HasAlias g.edges i n k → below i < below k
  fewer i k n h =
      let rise : rank i < rank k = sound.acyclic.1.rises (alias_edge i k n) h refl in
      count_more (starts_below (rank i)) (starts_below (rank k))
      (λ e t. lt-ltb (rank e.from) (rank k) (let l = ltb-true (rank e.from) (rank i) t in omega (arith, l, rise)))
      g.edges (alias_edge i k n) h (not_below (rank i)) (lt-ltb (rank i) (rank k) rise)
    where
      not_below : (r : ℕ) → ltb r r ≡ false
      not_below r = go (ltb r r) refl
        where
          go : (b : Bool) → ltb r r ≡ b → b ≡ false
          go true e = let l = ltb-true r r e in absurd (omega (arith, l))
          go false e = refl

  -- the alias edge into a node is the one that is found
  pub alias_is : (i k : ℕ) (n : Name) → HasAlias g.edges i n k → first_source g.edges k ≡ Some (i, n)
  alias_is i k n h = go (first_source g.edges k) refl
    where
      go : (o : Option (ℕ × Name)) → first_source g.edges k ≡ o → o ≡ Some (i, n)
      go None e = absurd (no_source g.edges k i n e h)
      go (Some x) e = let same = sound.keyed.one_source x.0 i k x.1 n (source_found g.edges k x.0 x.1 e) h in λ j. Some (same.0 j, same.1 j)

  pub at_node : (from : ℕ → Origin ℕ) (k : ℕ) (x : NodeData) (r : Role) → node_at g k ≡ Some x → x.role ≡ r → origin_at g from k (node_at g k) ≡ origin_by g from k r x
  at_node from k x r e is = ap (origin_at g from k) e ∙ ap (λ r. origin_by g from k r x) is

  -- what a node denotes is the source that its origin is
  within : (d k : ℕ) (s : Source ℕ) → below k ≤ d → Denotes k s → s ≡ source (origin_within g (suc d) k)
  within d k s b (w.imported x n e is) = ap source (sym (at_node (origin_within g d) k x (Role.Imported n) e is))
  within d k s b (w.instance x e is) = ap source (sym (at_node (origin_within g d) k x Role.Instance e is))
  within d k s b (w.defined x e is) = ap source (sym (at_node (origin_within g d) k x Role.Defined e is))
  within zero k s b (w.aliased i n h f) = let l = fewer i k n h in absurd (omega (arith, b, l))
  within (suc d) k s b (w.aliased {s = t} i n h f) =
      let l = fewer i k n h in
      let x = (sound.wired.edges (alias_edge i k n) h).alias n refl in
      ap (λ u. project u n) (within d i t (omega (arith, b, l)) f)
      ∙ ap source (sym (at_node (origin_within g (suc d)) k x.0 Role.Aliased x.1 x.2 ∙ ap (export_of (origin_within g (suc d)) k) (alias_is i k n h)))

  pub denoted : (k : ℕ) (s : Source ℕ) → Denotes k s → s ≡ source (origin_of g k)
  denoted k s f = within (length g.edges) k s (count_most (starts_below (rank k)) g.edges) f

  -- ---- how far a node is followed

  -- where what it is an alias of comes from the same place, so does a node
  same_by_role : (d e k : ℕ) (x : NodeData) (r : Role) → ((i : ℕ) (n : Name) → HasAlias g.edges i n k → origin_within g d i ≡ origin_within g e i) → origin_by g (origin_within g d) k r x ≡ origin_by g (origin_within g e) k r x
  same_by_role d e k x (Role.Imported n) same = refl
  same_by_role d e k x Role.Instance same = refl
  same_by_role d e k x Role.Defined same = refl
  same_by_role d e k x Role.Aliased same = go (first_source g.edges k) refl
    where
      go : (o : Option (ℕ × Name)) → first_source g.edges k ≡ o → export_of (origin_within g d) k o ≡ export_of (origin_within g e) k o
      go None is = refl
      go (Some s) is = ap (λ o. projected o s.1) (same s.0 s.1 (source_found g.edges k s.0 s.1 is))

  same_at : (d e k : ℕ) → ((i : ℕ) (n : Name) → HasAlias g.edges i n k → origin_within g d i ≡ origin_within g e i) → origin_within g (suc d) k ≡ origin_within g (suc e) k
  same_at d e k same = go (node_at g k)
    where
      go : (o : Option NodeData) → origin_at g (origin_within g d) k o ≡ origin_at g (origin_within g e) k o
      go None = refl
      go (Some x) = same_by_role d e k x x.role same

  -- it is followed to its end
  steady : (d e k : ℕ) → below k ≤ d → below k ≤ e → origin_within g (suc d) k ≡ origin_within g (suc e) k
  steady zero e k b c = same_at zero e k (λ i n h. let l = fewer i k n h in absurd (omega (arith, b, l)))
  steady (suc d) zero k b c = same_at (suc d) zero k (λ i n h. let l = fewer i k n h in absurd (omega (arith, c, l)))
  steady (suc d) (suc e) k b c = same_at (suc d) (suc e) k (λ i n h. let l = fewer i k n h in steady d e i (omega (arith, b, l)) (omega (arith, c, l)))

  further : (d i k : ℕ) (n : Name) → HasAlias g.edges i n k → below k ≤ d → origin_within g d i ≡ origin_within g (suc d) i
  further zero i k n h b = let l = fewer i k n h in absurd (omega (arith, b, l))
  further (suc d) i k n h b = let l = fewer i k n h in steady d (suc d) i (omega (arith, b, l)) (omega (arith, b, l))

  -- an alias is an export of what it is an alias of
  pub origin_alias : (i k : ℕ) (n : Name) → HasAlias g.edges i n k → origin_of g k ≡ projected (origin_of g i) n
  origin_alias i k n h =
      let x = (sound.wired.edges (alias_edge i k n) h).alias n refl in
      at_node (origin_within g (length g.edges)) k x.0 Role.Aliased x.1 x.2
      ∙ ap (export_of (origin_within g (length g.edges)) k) (alias_is i k n h)
      ∙ ap (λ o. projected o n) (further (length g.edges) i k n h (count_most (starts_below (rank k)) g.edges))

  -- a node of another role comes from itself
  pub origin_role : (k : ℕ) (x : NodeData) (r : Role) → node_at g k ≡ Some x → x.role ≡ r → origin_of g k ≡ origin_by g (origin_within g (length g.edges)) k r x
  origin_role k x r e is = at_node (origin_within g (length g.edges)) k x r e is

  -- ---- instances

  abbrev pub made_of : ℕ → Packaged → Made ℕ ℕ
  made_of k p = record {
    by = k;
    number = k;
    key = package_key p;
    world = stated_of g.types (ItemKind.Component p.ty);
    arguments = map (λ a. (a.0, origin_of g a.1)) (arguments_to g.edges k);
  }

  pub made_among : (k : ℕ) (p : Packaged) → instantiated g k ≡ Some p → Among (made_of k p) (composition_of g).made
  made_among k p e = by_node (node_at g k) refl e
    where
      by_node : (o : Option NodeData) → node_at g k ≡ o → package_made g o ≡ Some p → Among (made_of k p) (composition_of g).made
      by_node None q h = absurd (none-some _ h)
      by_node (Some x) q h = among_mapped (λ e. made_with g e.0 (package_if g e.1.of)) (nodes_of g) (k, x) (made_of k p) (node_among g k x q) (ap (made_with g k) h)

  pub package_stands : (k : ℕ) (p : Packaged) → instantiated g k ≡ Some p → (id : PackageId) × (package_if g (Some id) ≡ Some p)
  package_stands k p e = by_node (node_at g k) e
    where
      by_id : (o : Option PackageId) → package_if g o ≡ Some p → (id : PackageId) × (package_if g (Some id) ≡ Some p)
      by_id None h = absurd (none-some _ h)
      by_id (Some id) h = (id, h)

      by_node : (o : Option NodeData) → package_made g o ≡ Some p → (id : PackageId) × (package_if g (Some id) ≡ Some p)
      by_node None h = absurd (none-some _ h)
      by_node (Some x) h = by_id x.of h

  pub import_stated : (k : ℕ) (p : Packaged) → instantiated g k ≡ Some p → (n : Name) → value_at (imports_of (stated_of g.types (ItemKind.Component p.ty))) n ≡ option_map (stated_of g.types) (item_import g.types p.ty n)
  import_stated k p e n =
      let id = package_stands k p e in
      let v = world_found g.types p.ty (sound.packages.stand id.0 p id.1).world in
      ap (λ l. value_at l n) (imports_stated g.types finite_types p.ty v.value v.at v.own) ∙ value_mapped (stated_of g.types) v.value.imports n
      ∙ ap (λ o. option_map (stated_of g.types) (imported_in o n)) (sym v.at)

  pub argument_is : (k : ℕ) (n : Name) → value_at (map (λ a. (a.0, origin_of g a.1)) (arguments_to g.edges k)) n ≡ option_map (origin_of g) (first_argument g.edges k n)
  argument_is k n = value_mapped (origin_of g) (arguments_to g.edges k) n ∙ ap (option_map (origin_of g)) (passed_as g.edges k n)

  bound_is : (k : ℕ) (n : Name) (s : Source ℕ) → w.Binds spell (written_tree g) g k n s → s ≡ source_for (λ key. OfBytes []) (composition_of g) (option_map (origin_of g) (first_argument g.edges k n)) n
  bound_is k n s b = go (first_argument g.edges k n) refl s b
    where
      go : (o : Option ℕ) → first_argument g.edges k n ≡ o → (s : Source ℕ) → w.Binds spell (written_tree g) g k n s → s ≡ source_for (λ key. OfBytes []) (composition_of g) (option_map (origin_of g) o) n
      go None e s (w.argument a h d) = absurd (no_argument g.edges k a n e h)
      go None e s (w.outer none) = refl
      go (Some a) e s (w.argument c h d) =
          let same : c ≡ a = sound.keyed.one_argument k c a n h (argument_found g.edges k a n e) in
          denoted a s (subst (λ j. Denotes j s) same d)
      go (Some a) e s (w.outer none) = absurd (none a (argument_found g.edges k a n e))

  pub given_is : (k : ℕ) (p : Packaged) (x : Instantiation ℕ) → instantiated g k ≡ Some p → w.IsInstance spell (written_tree g) g k p x → (n : Name) → x.args n ≡ argument_source (λ key. OfBytes p.bytes) (composition_of g) (made_of k p) n
  given_is k p x e is n = go (item_import g.types p.ty n) refl
    where
      go : (o : Option ItemKind) → item_import g.types p.ty n ≡ o → x.args n ≡ argument_source (λ key. OfBytes p.bytes) (composition_of g) (made_of k p) n
      go None q = is.no_other n q ∙ ap (λ (o : Option Stated). cond (is_some o) (source_for (λ key. OfBytes p.bytes) (composition_of g) (value_at (made_of k p).arguments n) n) Absent) (sym (import_stated k p e n ∙ ap (option_map (stated_of g.types)) q))
      go (Some item) q =
          bound_is k n (x.args n) (is.bound n item q) ∙ ap (λ o. source_for (λ key. OfBytes p.bytes) (composition_of g) o n) (sym (argument_is k n))
          ∙ ap (λ (o : Option Stated). cond (is_some o) (source_for (λ key. OfBytes p.bytes) (composition_of g) (value_at (made_of k p).arguments n) n) Absent) (sym (import_stated k p e n ∙ ap (option_map (stated_of g.types)) q))

  -- ---- the wiring

  pub export_is : (n : Name) → value_at (map (λ e. (e.0, e.1)) (composition_of g).exports) n ≡ option_map (origin_of g) (value_at g.exports n)
  export_is n = ap (λ l. value_at l n) (map_twice (λ e. (e.0, origin_of g e.1, item_at g e.1)) (λ e. (e.0, e.1)) g.exports) ∙ value_mapped (origin_of g) g.exports n

  pub composed : (W : Wiring ℕ) → IsGraphWiring g W → IsComposed g W
  composed W is = record {
    outers = is.outers;
    each = each;
    only = is.no_other;
    exports = λ n. exported n (value_at g.exports n) refl ∙ ap (export_source (λ key. OfBytes []) (composition_of g)) (sym (export_is n));
  }
    where
      each : (k : ℕ) (p : Packaged) → instantiated g k ≡ Some p → IsComposedAs g W k p
      each k p e =
          let x = is.instances k p e in
          record {
            made = made_of k p;
            there = made_among k p e;
            number = refl;
            key = refl;
            instance = x.0;
            wired = x.1;
            tag = x.2.tag;
            given = given_is k p x.0 e x.2;
          }

      exported : (n : Name) (o : Option ℕ) → value_at g.exports n ≡ o → W.exports n ≡ export_source (λ key. OfBytes []) (composition_of g) (option_map (origin_of g) o)
      exported n None e = is.no_export n e
      exported n (Some k) e = denoted k (W.exports n) (is.exported n k e)

pub graphs_are_composed : GraphsAreComposed
graphs_are_composed g W sound finite_types is = composed g sound finite_types W is
