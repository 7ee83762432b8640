-- The plain order of the writer is the order of the causes.
use Rattle.std.proofs.Common.{◌≡◌, ◌+◌, ◌≤◌, ℕ, suc, Bool, true, false, true≢false, List, [], ◌∷◌, ◌++◌, map, length, Option, Some, None, inl, inr, refl, sym, ap, ◌∙◌, subst, slice_get, unwrap_or, arith, zero, ◌||◌, ◌≢◌, ◌==◌}
use Rattle.std.specs.Prelude.{◌⊎◌, filter, filter_map, option_map, option_and_then, is_some, if◌then◌else◌}
use Rattle.std.specs.List.{flat_map, cons_option, range_with_len, fold}
use Rattle.std.specs.Cmp.Lexicographic.{pointwise}
use Rattle.std.proofs.lemmas.Option.{none-some, same_Some, slice_get_within}
use Rattle.std.proofs.lemmas.List.{append-nil}
use Rattle.std.proofs.lemmas.List.Elements.{filter_map-append, filter-append}
use Rattle.std.proofs.lemmas.List.Sums.{length-filter, count_by-le-length}
use Rattle.wac_types_base.specs.declared.ids.InterfaceId.{InterfaceId}
use Rattle.wac_types_base.specs.declared.item.ItemKind.{ItemKind}
use Rattle.wac_types_base.specs.declared.item.«Type».{«Type» as TypeKind}
use Rattle.wac_types_base.specs.declared.defined.UsedType.{UsedType}
use Rattle.wac_types_base.specs.Record.{Collection}
use Rattle.wac_types_base.specs.Entries.{Name, AreDistinct, has_name, names_of, values_of, value_at}
use Rattle.wac_types_base.specs.Graph.{Among}
use Rattle.wac_types_base.specs.Collection.{IsAcyclic}
use Rattle.wac_types_base.specs.Stated.{Stated, stated_of, identifier_of}
use Rattle.wac_types_base.proofs.Adding.{Among-left}
use Rattle.wac_types_base.proofs.Lists.{among_filtered, from_filtered, last_among, name_tested, there_is}
use Rattle.wac_types_base.proofs.Loops.{names-with_values}
use Rattle.wac_types_base.proofs.Stating.{value_with}
use Rattle.wac_types_written.specs.Forms.{ItemsStand, stated_items}
use Rattle.wac_types_parts.specs.Parts.{exports_of, uses_of, IsOfInterface}
use Rattle.wac_types_parts.proofs.PartsStated.{identifier_is}
use Rattle.wac_composition.specs.Circles.{used_inside, used_names, interfaces_in, put, written_names}
use Rattle.wac_composition.proofs.Closures.{among_filter}
use Rattle.wac_composition.proofs.NotWritten.{has_decides}
use Rattle.wac_graph_scopes.specs.declared.imports.Importing.{Importing}
use Rattle.wac_graph_scopes.specs.Behind.{needs_at, places_in_order}
use Rattle.wac_graph_scopes.specs.Orders.{IsSource}
use Rattle.wac_graph_scopes.specs.Imports.{all_imports, own_places}
use Rattle.wac_graph_scopes.specs.UsePlaces.{place_of, UsePlaces, nothing, other_item, interface_item, AllUses, IsSourceAt, SourcesBehind, ComesBefore}
use Rattle.wac_graph_asks.proofs.Origins.{among_mapped}
use Rattle.wac_graph_causes.specs.Orders.{interfaces_used, used_in_items}
use Rattle.wac_graph_causes.specs.Late.{is_interface_item, interface_items}
use Rattle.wac_graph_causes.proofs.UsedInside.{nothing_used, item_uses}
use Rattle.wac_graph_causes.proofs.LateLaws.{interfaces_are}
use Rattle.wac_graph_encode.specs.PlainOrders.{source_name, source_at, source_names, is_source_name, FindsSpelled, names_in_order, Plain_order_is_written, IsTurnOf, Each_source_has_its_turn, UsesStanding, Standing_is_before}
use Rattle.wac_graph_encode.proofs.TwoOrders.{Ties, one_order, filter_yes, names_count}
use Rattle.wac_graph_encode.proofs.ImportPlaces.{place_here, place_from, no_place, fewer, source_value, every_source}
use Rattle.wac_graph_encode.proofs.Rearranging.{named_there}
use Rattle.wac_graph_encode.proofs.Splits.{Split, split, comes}

-- ---- lists

flat_mapped : {X Y Z : Type 0} (f : Y → List Z) (g : X → Y) (xs : List X) → flat_map f (map g xs) ≡ flat_map (λ x. f (g x)) xs
flat_mapped f g [] = refl
flat_mapped f g (x ∷ xs) = ap (λ l. f (g x) ++ l) (flat_mapped f g xs)

map_filtered : {X Y Z : Type 0} (f : Y → Option Z) (g : X → Y) (xs : List X) → filter_map f (map g xs) ≡ filter_map (λ x. f (g x)) xs
map_filtered f g [] = refl
map_filtered f g (x ∷ xs) = ap (cons_option (f (g x))) (map_filtered f g xs)

same_filtered : {X Y : Type 0} (f g : X → Option Y) → ((x : X) → f x ≡ g x) → (xs : List X) → filter_map f xs ≡ filter_map g xs
same_filtered f g e [] = refl
same_filtered f g e (x ∷ xs) = (λ i. cons_option (e x i) (same_filtered f g e xs i))

filtered_twice : {X Y Z : Type 0} (f : Y → Option Z) (g : X → Option Y) (xs : List X) → filter_map f (filter_map g xs) ≡ filter_map (λ x. option_and_then f (g x)) xs
filtered_twice f g [] = refl
filtered_twice {X} {Y} {Z} f g (x ∷ xs) = go (g x) (filtered_twice f g xs)
  where
    go : (o : Option Y) → filter_map f (filter_map g xs) ≡ filter_map (λ x. option_and_then f (g x)) xs → filter_map f (cons_option o (filter_map g xs)) ≡ cons_option (option_and_then f o) (filter_map (λ x. option_and_then f (g x)) xs)
    go None e = e
    go (Some y) e = ap (cons_option (f y)) e

-- ---- what an item uses, by places

module _ (c : Collection) (acyclic : IsAcyclic c) (found : List (Name × ℕ)) where
  -- where the import of a stated interface stands
  abbrev stated_place : Stated → Option ℕ
  stated_place x = option_and_then (value_at found) (identifier_of x)

  abbrev stated_uses : List ItemKind → List Stated
  stated_uses ks = flat_map (λ k. used_inside (stated_of c k)) ks

  interface_places : (us : List (Name × UsedType)) → filter_map (λ u. place_of c found u.1.interface) us ≡ filter_map stated_place (interfaces_used c us)
  interface_places us =
      same_filtered (λ (u : Name × UsedType). place_of c found u.1.interface) (λ (u : Name × UsedType). stated_place (stated_of c (ItemKind.Instance u.1.interface)))
      (λ u. ap (option_and_then (value_at found)) (sym (identifier_is c acyclic u.1.interface))) us
      ∙ sym (map_filtered stated_place (λ (u : Name × UsedType). stated_of c (ItemKind.Instance u.1.interface)) us)

  pub places_stated : (ks : List ItemKind) (ns : List ℕ) → UsePlaces c found ks ns → ns ≡ filter_map stated_place (stated_uses ks)
  places_stated [] ns nothing = refl
  places_stated (k ∷ ks) ns (other_item h t) = places_stated ks ns t ∙ ap (λ l. filter_map stated_place (l ++ stated_uses ks)) (sym (nothing_used c acyclic k h))
  places_stated (k ∷ ks) ns (interface_item {inner = os} {ns = ms} id is s within t) =
      (λ j. interface_places (uses_of c id) j ++ places_stated (values_of (exports_of c id)) os within j ++ places_stated ks ms t j)
      ∙ ap (λ l. filter_map stated_place (interfaces_used c (uses_of c id)) ++ filter_map stated_place l ++ filter_map stated_place (stated_uses ks)) (flat_mapped (λ j. used_inside (stated_of c j)) (λ (x : Name × ItemKind). x.1) (exports_of c id))
      ∙ ap (λ l. l ++ filter_map stated_place (stated_uses ks)) (sym (filter_map-append stated_place (interfaces_used c (uses_of c id)) (used_in_items c (exports_of c id))))
      ∙ sym (filter_map-append stated_place (interfaces_used c (uses_of c id) ++ used_in_items c (exports_of c id)) (stated_uses ks))
      ∙ ap (λ l. filter_map stated_place (l ++ stated_uses ks)) (sym (item_uses c acyclic k id is s))

  one_place : (k : ItemKind) (ns : List ℕ) → UsePlaces c found (k ∷ []) ns → ns ≡ filter_map stated_place (used_inside (stated_of c k))
  one_place k ns t = places_stated (k ∷ []) ns t ∙ ap (filter_map stated_place) (append-nil (used_inside (stated_of c k)))

-- ---- imports

interface_of_item : (k : ItemKind) → is_interface_item k ≡ false → (i : InterfaceId) → IsOfInterface k i → ⊥
interface_of_item (ItemKind.Instance j) e i h = true≢false e
interface_of_item (ItemKind.Ty (TypeKind.Interface j)) e i h = true≢false e
interface_of_item k e i h = h

pub source_item : (k : ItemKind) → IsSource k → is_interface_item k ≡ true
source_item (ItemKind.Instance j) s = refl
source_item (ItemKind.Ty (TypeKind.Interface j)) s = refl
source_item k s = absurd s.1

pub item_source : (k : ItemKind) → is_interface_item k ≡ true → IsSource k
item_source (ItemKind.Instance j) e = (j, refl)
item_source (ItemKind.Ty (TypeKind.Interface j)) e = (j, refl)
item_source k e = absurd (true≢false (sym e))

module _ (c : Collection) (acyclic : IsAcyclic c) (is : List (Name × ItemKind)) (distinct : AreDistinct (names_of is)) (stand : ItemsStand c is) where
  abbrev sources : List (Name × Stated)
  sources = interfaces_in (stated_items c is)

  abbrev place : Name → Option ℕ
  place n = value_at (own_places 0 (names_of is)) n

  sources_are : sources ≡ stated_items c (interface_items is)
  sources_are = interfaces_are c acyclic is stand

  names_are : names_of sources ≡ names_of (interface_items is)
  names_are = ap names_of sources_are ∙ names-with_values (stated_of c) (interface_items is)

  place_is : (m : ℕ) (n : Name) (k : ItemKind) → slice_get is m ≡ Some (n, k) → place n ≡ Some m
  place_is m n k e = let zero : 0 + m ≡ m = omega arith in place_here is 0 m n k distinct e ∙ ap Some zero

  -- the name of a source at a place
  name_is : (m : ℕ) (n : Name) (k : ItemKind) (b : Bool) → slice_get is m ≡ Some (n, k) → is_interface_item k ≡ b → source_at is m ≡ (if b then Some n else None)
  name_is m n k b e t = ap (option_and_then source_name) e ∙ ap (λ b. if b then Some n else None) t

  pub record Source (m : ℕ) (n : Name) : Type 0 where
    pub item : ItemKind
    pub at : slice_get is m ≡ Some (n, item)
    pub source : is_interface_item item ≡ true

  pub source_there : (m : ℕ) (n : Name) → source_at is m ≡ Some n → Source m n
  source_there m n e = go (slice_get is m) refl e
    where
      go : (o : Option (Name × ItemKind)) → slice_get is m ≡ o → option_and_then source_name o ≡ Some n → Source m n
      go None q e = absurd (none-some _ e)
      go (Some x) q e = by (is_interface_item x.1) refl e
        where
          by : (b : Bool) → is_interface_item x.1 ≡ b → (if b then Some x.0 else None) ≡ Some n → Source m n
          by true t e = record { item = x.1; at = q ∙ ap (λ l. Some (l, x.1)) (same_Some x.0 n e); source = t }
          by false t e = absurd (none-some _ e)

  among_sources : (m : ℕ) (n : Name) (k : ItemKind) (b : Bool) → slice_get is m ≡ Some (n, k) → is_interface_item k ≡ b → has_name (names_of (interface_items is)) n ≡ b
  among_sources m n k b e t =
      named_there (interface_items is) n ∙ ap is_some (source_value is m n k distinct e) ∙ by b t
    where
      by : (b : Bool) → is_interface_item k ≡ b → is_some (if is_interface_item k then Some k else None) ≡ b
      by true t = ap (λ b. is_some (if b then Some k else None)) t
      by false t = ap (λ b. is_some (if b then Some k else None)) t

  pub value_there : (m : ℕ) (n : Name) (k : ItemKind) → slice_get is m ≡ Some (n, k) → is_interface_item k ≡ true → value_at sources n ≡ Some (stated_of c k)
  value_there m n k e t =
      ap (λ l. value_at l n) sources_are ∙ value_with (stated_of c) (interface_items is) n
      ∙ ap (option_map (stated_of c)) (source_value is m n k distinct e ∙ ap (λ b. if b then Some k else None) t)

  no_value : (n : Name) → has_name (names_of sources) n ≡ false → value_at sources n ≡ None
  no_value n e = go (value_at sources n) (sym (named_there sources n) ∙ e)
    where
      go : (o : Option Stated) → is_some o ≡ false → o ≡ None
      go None q = refl
      go (Some x) q = absurd (true≢false q)

  module _ (spell : Name → Name) (found : List (Name × ℕ)) (finds : FindsSpelled is spell found) where
    -- a used interface is found where its import stands
    used_place : (xs : List Stated) → filter_map (λ x. option_and_then (value_at found) (identifier_of x)) xs ≡ filter_map place (filter_map (λ x. option_map spell (identifier_of x)) xs)
    used_place xs =
        same_filtered (λ x. option_and_then (value_at found) (identifier_of x)) (λ x. option_and_then place (option_map spell (identifier_of x))) (λ x. by (identifier_of x)) xs
        ∙ sym (filtered_twice place (λ x. option_map spell (identifier_of x)) xs)
      where
        by : (o : Option Name) → option_and_then (value_at found) o ≡ option_and_then place (option_map spell o)
        by None = refl
        by (Some i) = finds i

    module _ (uses : List (List ℕ)) (all : AllUses c is found uses) where
      -- what the place needs that has an import
      pub needs_there : (m : ℕ) (n : Name) (k : ItemKind) → slice_get is m ≡ Some (n, k) → UsePlaces c found (k ∷ []) (needs_at uses m)
      needs_there m n k e =
          let lt = slice_get_within is m (n, k) e in
          let x = there_is uses m (omega (arith, lt, all.0)) in
          subst (UsePlaces c found (k ∷ [])) (sym (ap (λ o. unwrap_or o []) x.1)) (all.1 m x.0 x.1 n k e)

      no_needs : (m : ℕ) → source_at is m ≡ None → needs_at uses m ≡ []
      no_needs m e = go (slice_get is m) refl (slice_get uses m) refl e
        where
          other : (n : Name) (k : ItemKind) → slice_get is m ≡ Some (n, k) → is_interface_item k ≡ false → needs_at uses m ≡ []
          other n k q t =
              one_place c acyclic found k (needs_at uses m) (needs_there m n k q)
              ∙ ap (filter_map (λ x. option_and_then (value_at found) (identifier_of x))) (nothing_used c acyclic k (λ s. interface_of_item k t))

          go : (o : Option (Name × ItemKind)) → slice_get is m ≡ o → (u : Option (List ℕ)) → slice_get uses m ≡ u → option_and_then source_name o ≡ None → needs_at uses m ≡ []
          go None q None r e = ap (λ o. unwrap_or o []) r
          go None q (Some ns) r e =
              let lt = slice_get_within uses m ns r in
              let x = there_is is m (omega (arith, lt, all.0)) in
              absurd (none-some _ (sym q ∙ x.1))
          go (Some x) q u r e = by (is_interface_item x.1) refl e
            where
              by : (b : Bool) → is_interface_item x.1 ≡ b → (if b then Some x.0 else None) ≡ None → needs_at uses m ≡ []
              by true t e = absurd (none-some _ (sym e))
              by false t e = other x.0 x.1 q t

      ties : Ties uses spell sources place (source_at is)
      ties = record {
        there = λ m n e. (
            let s = source_there m n e in
            let lt = slice_get_within is m (n, s.item) s.at in
            (place_is m n s.item s.at, omega (arith, lt, all.0), ap (λ l. has_name l n) names_are ∙ among_sources m n s.item true s.at s.source)
            );
        needed = λ m n e. (
            let s = source_there m n e in
            one_place c acyclic found s.item (needs_at uses m) (needs_there m n s.item s.at)
            ∙ used_place (used_inside (stated_of c s.item))
            ∙ ap (λ o. filter_map place (used_names spell sources o)) (sym (value_there m n s.item s.at s.source))
            );
        other = no_needs;
        placed = λ n m e. (
            let s = place_from is 0 m n e in
            let same : m ≡ s.place = omega (arith, s.is) in
            let at : slice_get is m ≡ Some (n, s.item) = ap (slice_get is) same ∙ s.at in
            placed_by m n s.item at (is_interface_item s.item) refl
            );
        unplaced = λ n e. ap (λ l. has_name l n) names_are ∙ fewer is n (no_place is 0 n e);
        useless = λ n e. ap (used_names spell sources) (no_value n e);
        all = ap (λ k. filter_map (source_at is) (range_with_len 0 k)) all.0 ∙ every_source is ∙ sym names_are;
        few = few;
      }
        where
          placed_by : (m : ℕ) (n : Name) (k : ItemKind) → slice_get is m ≡ Some (n, k) → (b : Bool) → is_interface_item k ≡ b → (source_at is m ≡ Some n) ⊎ ((source_at is m ≡ None) × (has_name (names_of sources) n ≡ false))
          placed_by m n k e true t = inl (name_is m n k true e t)
          placed_by m n k e false t = inr (name_is m n k false e t, ap (λ l. has_name l n) names_are ∙ among_sources m n k false e t)

          few : length sources ≤ length uses
          few =
              let a = sym (names_count sources) ∙ ap length names_are ∙ names_count (interface_items is) in
              let b = length-filter (λ (x : Name × ItemKind). is_interface_item x.1) is in
              let d = count_by-le-length (λ (x : Name × ItemKind). is_interface_item x.1) is in
              omega (arith, a, b, d, all.0)

      pub plain_written : source_names is (places_in_order uses) ≡ filter (is_source_name is) (names_in_order c spell is)
      plain_written = one_order uses spell sources place (source_at is) ties ∙ ap (λ l. filter (has_name l) (names_in_order c spell is)) names_are

pub plain_order_written : Plain_order_is_written
plain_order_written = plain_written

-- ---- each source has its turn

module _ (spell : Name → Name) (imports : List (Name × Stated)) where
  each_kept : (f : List Name → Name → List Name) → ((ns : List Name) (m x : Name) → Among x ns → Among x (f ns m)) → (ns ms : List Name) (x : Name) → Among x ns → Among x (fold f ns ms)
  each_kept f kept ns [] x i = i
  each_kept f kept ns (m ∷ ms) x i = each_kept f kept (f ns m) ms x (kept ns m x i)

  put_kept : (k : ℕ) (ws ns : List Name) (m x : Name) → Among x ns → Among x (put spell imports k ws ns m)
  put_kept zero ws ns m x i = i
  put_kept (suc k) ws ns m x i =
      by (has_name ws m || has_name ns m) (each_kept (put spell imports k (m ∷ ws)) (λ os p y j. put_kept k (m ∷ ws) os p y j) ns (used_names spell imports (value_at imports m)) x i)
    where
      by : (b : Bool) → Among x (fold (put spell imports k (m ∷ ws)) ns (used_names spell imports (value_at imports m)))
          → Among x (if b then ns else fold (put spell imports k (m ∷ ws)) ns (used_names spell imports (value_at imports m)) ++ m ∷ [])
      by true j = i
      by false j = Among-left x (fold (put spell imports k (m ∷ ws)) ns (used_names spell imports (value_at imports m))) (m ∷ []) j

  put_there : (k : ℕ) (ns : List Name) (m : Name) → Among m (put spell imports (suc k) [] ns m)
  put_there k ns m = by (has_name ns m) refl
    where
      by : (b : Bool) → has_name ns m ≡ b → Among m (if b then ns else fold (put spell imports k (m ∷ [])) ns (used_names spell imports (value_at imports m)) ++ m ∷ [])
      by true e = (has_decides ns m).0 e
      by false e = last_among (fold (put spell imports k (m ∷ [])) ns (used_names spell imports (value_at imports m))) m

  all_there : (k : ℕ) (ns ms : List Name) (x : Name) → Among x ms → Among x (fold (put spell imports (suc k) []) ns ms)
  all_there k ns [] x i = absurd i
  all_there k ns (m ∷ ms) x (inl e) =
      each_kept (put spell imports (suc k) []) (λ os p y j. put_kept (suc k) [] os p y j) (put spell imports (suc k) [] ns m) ms x (subst (λ y. Among y (put spell imports (suc k) [] ns m)) (sym e) (put_there k ns m))
  all_there k ns (m ∷ ms) x (inr i) = all_there k (put spell imports (suc k) [] ns m) ms x i

-- names among which one stands, before it for the first time
record First (ns : List Name) (n : Name) : Type 0 where
  before : List Name
  rest : List Name
  is : ns ≡ before ++ n ∷ rest
  new : Among n before → ⊥

first_of : (ns : List Name) (n : Name) → Among n ns → First ns n
first_of [] n i = absurd i
first_of (m ∷ ms) n i = by (name_tested n m) (first_of ms n) i
  where
    by : ((n ≡ m) × (pointwise ◌==◌ n m ≡ true)) ⊎ ((n ≢ m) × (pointwise ◌==◌ n m ≡ false)) → (Among n ms → First ms n) → Among n (m ∷ ms) → First (m ∷ ms) n
    by (inl e) rest i = record { before = []; rest = ms; is = ap (λ x. x ∷ ms) (sym e.0); new = λ j. j }
    by (inr e) rest (inl same) = absurd (e.0 same)
    by (inr e) rest (inr j) =
        let f = rest j in
        record { before = m ∷ f.before; rest = f.rest; is = ap (λ l. m ∷ l) f.is; new = λ h. elim h [ inl same ↦ e.0 same | inr k ↦ f.new k ] }

pub source_turn : Each_source_has_its_turn
source_turn c acyclic is distinct stand spell at n k import_is source =
    let there = (has_decides (names_of (interfaces_in (stated_items c is))) n).0 (ap (λ l. has_name l n) (names_are c acyclic is distinct stand) ∙ among_sources c acyclic is distinct stand at n k true import_is source) in
    let f = first_of (names_in_order c spell is) n (by (interfaces_in (stated_items c is)) there) in
    (f.before, record { import_is = import_is; source = source; rest = f.rest; order = f.is; first = f.new })
  where
    by : (imports : List (Name × Stated)) → Among n (names_of imports) → Among n (written_names spell imports)
    by [] i = absurd i
    by (x ∷ xs) i = all_there spell (x ∷ xs) (length xs) [] (names_of (x ∷ xs)) n i

-- ---- what stands before a source

module _ (a : Importing) (acyclic : IsAcyclic a.types.now) (distinct : AreDistinct (names_of (all_imports a))) (stand : ItemsStand a.types.now (all_imports a)) (spell : Name → Name) (found : List (Name × ℕ))
    (finds : FindsSpelled (all_imports a) spell found) where
  abbrev c : Collection
  c = a.types.now

  abbrev is : List (Name × ItemKind)
  is = all_imports a

  -- places with one name are one
  same_place : (m k : ℕ) (n : Name) → source_at is m ≡ Some n → source_at is k ≡ Some n → m ≡ k
  same_place m k n e f =
      let s = source_there c acyclic is distinct stand m n e in
      let t = source_there c acyclic is distinct stand k n f in
      same_Some m k (sym (place_is c acyclic is distinct stand m n s.item s.at) ∙ place_is c acyclic is distinct stand k n t.item t.at)

  module _ (uses : List (List ℕ)) (all : AllUses c is found uses) (standing : List Name) (at : ℕ) (n : Name) (k : ItemKind) (turn : IsTurnOf c spell is standing at n k) where
    here : source_at is at ≡ Some n
    here = name_is c acyclic is distinct stand at n k true turn.import_is turn.source

    parts : Split (source_at is) (places_in_order uses) (filter (is_source_name is) standing) n
    parts = split (source_at is) (places_in_order uses) (filter (is_source_name is) standing) (filter (is_source_name is) turn.rest) n (
        plain_written c acyclic is distinct stand spell found finds uses all
        ∙ ap (filter (is_source_name is)) turn.order
        ∙ filter-append (is_source_name is) standing (n ∷ turn.rest)
        ∙ ap (λ l. filter (is_source_name is) standing ++ l) (filter_yes (is_source_name is) n turn.rest (among_sources c acyclic is distinct stand at n k true turn.import_is turn.source))
        )

    -- so it comes before in the plain order
    comes_before : (m : ℕ) (p : Name) → source_at is m ≡ Some p → has_name standing p ≡ true → ComesBefore (places_in_order uses) m at
    comes_before m p e there =
        comes (places_in_order uses) parts.before parts.rest m at (parts.is ∙ ap (λ j. parts.before ++ j ∷ parts.rest) (same_place parts.here at n parts.gives here)) among none
      where
        s : Source c acyclic is distinct stand m p
        s = source_there c acyclic is distinct stand m p e

        kept : Among p (filter (is_source_name is) standing)
        kept = among_filter (is_source_name is) standing p ((has_decides standing p).0 there) (among_sources c acyclic is distinct stand m p s.item true s.at s.source)

        among : Among m parts.before
        among =
            let f = from_filtered (source_at is) parts.before p (subst (Among p) (sym parts.front) kept) in
            subst (λ j. Among j parts.before) (same_place f.0 m p f.2 e) f.1

        none : Among at parts.before → ⊥
        none i = turn.first (among_filtered (is_source_name is) standing n (subst (Among n) parts.front (among_mapped (source_at is) parts.before at n i here))).0

  -- the name of the source that is found
  named_found : (i : Name) (m : ℕ) → value_at found i ≡ Some m → IsSourceAt a m → source_at is m ≡ Some (spell i)
  named_found i m e s =
      let f = place_from is 0 m (spell i) (sym (finds i) ∙ e) in
      let same : f.place ≡ m = omega (arith, f.is) in
      let at : slice_get is m ≡ Some (spell i, f.item) = ap (slice_get is) (sym same) ∙ f.at in
      let item : s.1 ≡ f.item = ap (λ (x : Name × ItemKind). x.1) (same_Some (s.0, s.1) (spell i, f.item) (sym s.2 ∙ at)) in
      name_is c acyclic is distinct stand m (spell i) f.item true at (ap is_interface_item (sym item) ∙ source_item s.1 s.3)

  module _ (ks before after : List ℕ) (at : ℕ) (behind : SourcesBehind a found ks) (e : ks ≡ before ++ at ∷ after) (standing : List Name) (n : Name) (k : ItemKind) (turn : IsTurnOf c spell is standing at n k) where
    stands_before : (i : Name) → UsesStanding c spell standing k i → (m : ℕ) → value_at found i ≡ Some m → IsSourceAt a m → Among m before
    stands_before i used m f s =
        let uses = behind.plain_is.0 in
        let all = behind.plain_is.1 in
        let there : UsePlaces c found (k ∷ []) (needs_at uses at) = needs_there c acyclic is distinct stand spell found finds uses all at n k turn.import_is in
        behind.interfaces before after at m e (record {
          source = (n, k, turn.import_is, item_source k turn.source);
          before = (s, subst (λ l. ComesBefore l m at) (sym behind.plain_is.2) (comes_before uses all standing at n k turn m (spell i) (named_found i m f s) used.3));
          uses = needs_at uses at;
          are = λ l j q. needs_there c acyclic is distinct stand spell found finds uses all at l j q;
          among = subst (Among m) (sym (one_place c acyclic found k (needs_at uses at) there))
              (among_mapped (λ x. option_and_then (value_at found) (identifier_of x)) (used_inside (stated_of c k)) used.0 m used.1 (ap (option_and_then (value_at found)) used.2 ∙ f));
        })

pub standing_before : Standing_is_before
standing_before a acyclic distinct stand spell found finds ks before after at behind e standing n k turn i used m f s =
    stands_before a acyclic distinct stand spell found finds ks before after at behind e standing n k turn i used m f s
