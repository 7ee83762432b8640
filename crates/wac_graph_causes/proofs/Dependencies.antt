-- The names under which packages are imported: those of a graph's composition, each once.
use Rattle.std.specs.Prelude.{◌||◌, codes, filter_map, map}
use Rattle.std.specs.Bool.{Decides, one_answer}
use Rattle.std.specs.List.{cons_option, list_any}
use Rattle.std.proofs.Common.{◌≡◌, ℕ, Bool, true, false, true≢false, List, [], ◌∷◌, ◌++◌, append_assoc, take, slice_get, ◌+◌, Option, Some, None, IsSome, refl, sym, ap, ◌∙◌, inl, inr}
use Rattle.std.proofs.lemmas.List.{append-nil}
use Rattle.std.proofs.lemmas.Option.{same_Some}
use Rattle.std.proofs.lemmas.Bool.Decides.{Decides-like}
use Rattle.wac_types_base.specs.declared.item.ItemKind.{ItemKind}
use Rattle.wac_types_base.specs.Entries.{Name, names_of}
use Rattle.wac_types_base.specs.Graph.{Among}
use Rattle.wac_types_base.specs.Stated.{stated_of}
use Rattle.wac_types_base.proofs.Lists.{joined}
use Rattle.wac_types_base.proofs.Loops.{mapped_next, names-with_values, map-get, map-map}
use Rattle.wac_types_base.proofs.Looked.{take-one_more}
use Rattle.wac_types_names.specs.Packaged.{Packaged}
use Rattle.wac_types_names.specs.Keys.{Key, package_key, same_key}
use Rattle.wac_types_names.proofs.KeyTests.{keys_decide}
use Rattle.wac_graph_core.specs.declared.ids.PackageId.{PackageId}
use Rattle.wac_graph_core.specs.contracts.ids.PackageIdPartialEq.TheImpl.{eq-value}
use Rattle.wac_graph_core.specs.Nodes.{NodeData}
use Rattle.wac_graph_core.specs.Graph.{Graph, IsGraph, package_of, package_if}
use Rattle.wac_composition.specs.Composition.{Made}
use Rattle.wac_composition.specs.Asks.{asks_of}
use Rattle.wac_composition.specs.OuterImports.{outer_imports}
use Rattle.wac_composition.specs.Conflicts.{version_name, dependency_name, each_once, dependencies_of, import_names}
use Rattle.wac_types_parts.specs.Parts.{imports_of}
use Rattle.wac_graph_asks.specs.declared.asks.Asked.{Asked}
use Rattle.wac_graph_asks.specs.declared.outers.Outers.{Outers}
use Rattle.wac_graph_asks.specs.Graphs.{nodes_of, made_with, composition_of}
use Rattle.wac_graph_asks.specs.Asked.{package_ids, with_id, with_ids}
use Rattle.wac_graph_asks.proofs.ByNode.{entry_there}
use Rattle.wac_graph_causes.specs.Alike.{AreHeld, dependency_of, package_name, dependency_names, outer_names, names_imported}
use Rattle.wac_graph_causes.specs.Unwritable.{package_world, dependency_at}
use Rattle.wac_graph_asks.proofs.NodeAsks.{same_id}

-- ---- ids

ids_decide : (i j : PackageId) → Decides (eq-value.it i j) (i ≡ j)
ids_decide i j = ((same_id i j).0, (same_id i j).1)

any_last : {X : Type 0} (t : X → Bool) (xs : List X) (x : X) → list_any t (xs ++ x ∷ []) ≡ (t x || list_any t xs)
any_last t [] x = refl
any_last t (y ∷ xs) x = go (t y) (t x) (any_last t xs x)
  where
    go : (a b : Bool) → list_any t (xs ++ x ∷ []) ≡ (b || list_any t xs) → (a || list_any t (xs ++ x ∷ [])) ≡ (b || (a || list_any t xs))
    go true true h = refl
    go true false h = refl
    go false true h = h
    go false false h = h

-- a package is imported under the name of its key
pub name_is : (g : Graph) (i : PackageId) (p : Packaged) → package_of g i ≡ Some p → dependency_of g i ≡ dependency_name (package_key p)
name_is g i p a =
    ap (λ o. codes "unlocked-dep=<" ++ (package_name o ++ codes ">")) a ∙ ap (λ l. codes "unlocked-dep=<" ++ l) (append_assoc p.name (version_name p.version) (codes ">"))

module _ (g : Graph) (sound : IsGraph g) where
  -- two ids of packages are the same exactly where the keys are
  same_by_key : (i j : PackageId) (p q : Packaged) → package_of g i ≡ Some p → package_of g j ≡ Some q → eq-value.it i j ≡ same_key (package_key p) (package_key q)
  same_by_key i j p q a b =
      one_answer _ _ (ids_decide i j)
      (Decides-like _ (λ e. sound.packages.once i j p q a b e) (λ e. ap package_key (same_Some p q (sym a ∙ ap (package_of g) e ∙ b))) (keys_decide (package_key p) (package_key q)))

  -- these ids are those of the packages with these keys
  abbrev AreOf : List PackageId → List Key → Type 0
  AreOf ids keys = (i : PackageId) (p : Packaged) → package_of g i ≡ Some p → list_any (eq-value.it i) ids ≡ list_any (same_key (package_key p)) keys

  of_more : (ids : List PackageId) (keys : List Key) (j : PackageId) (q : Packaged) → package_of g j ≡ Some q → AreOf ids keys → AreOf (ids ++ j ∷ []) (package_key q ∷ keys)
  of_more ids keys j q b h i p a =
      any_last (eq-value.it i) ids j ∙ ap (λ t. t || list_any (eq-value.it i) ids) (same_by_key i j p q a b) ∙ ap (λ t. same_key (package_key p) (package_key q) || t) (h i p a)

  dependency_is : (i : PackageId) (p : Packaged) → package_of g i ≡ Some p → dependency_at g i ≡ (dependency_name (package_key p), stated_of g.types (ItemKind.Component p.ty))
  dependency_is i p a = joined _ _ (name_is g i p a) (ap (package_world g) a)

  abbrev ids_in : List (ℕ × NodeData) → List PackageId
  ids_in es = filter_map (λ e. e.1.of) es

  abbrev made_in : List (ℕ × NodeData) → List (Made ℕ ℕ)
  made_in es = filter_map (λ e. made_with g e.0 (package_if g e.1.of)) es

  -- the packages of these nodes, behind others
  abbrev AreListed : List (ℕ × NodeData) → Type 0
  AreListed es = (ids : List PackageId) (keys : List Key) → AreOf ids keys → map (dependency_at g) (with_ids ids (ids_in es)) ≡ map (dependency_at g) ids ++ each_once keys (made_in es)

  module _ (e : ℕ × NodeData) (es : List (ℕ × NodeData)) (rest : AreListed es) (ids : List PackageId) (keys : List Key) (h : AreOf ids keys) where
    new_listed : (i : PackageId) (p : Packaged) → package_of g i ≡ Some p
        → map (dependency_at g) (with_ids (ids ++ i ∷ []) (ids_in es)) ≡ map (dependency_at g) ids ++ (dependency_name (package_key p), stated_of g.types (ItemKind.Component p.ty)) ∷ each_once (package_key p ∷ keys) (made_in es)
    new_listed i p a =
        let more = each_once (package_key p ∷ keys) (made_in es) in
        rest (ids ++ i ∷ []) (package_key p ∷ keys) (of_more ids keys i p a h)
        ∙ ap (λ l. l ++ more) (mapped_next (dependency_at g) ids i)
        ∙ append_assoc (map (dependency_at g) ids) (dependency_at g i ∷ []) more
        ∙ ap (λ n. map (dependency_at g) ids ++ n ∷ more) (dependency_is i p a)

    listed_once : (i : PackageId) (p : Packaged) → package_of g i ≡ Some p → (b : Bool) → list_any (eq-value.it i) ids ≡ b → list_any (same_key (package_key p)) keys ≡ b
        → map (dependency_at g) (with_ids (with_id ids i) (ids_in es)) ≡ map (dependency_at g) ids ++ each_once keys (cons_option (made_with g e.0 (Some p)) (made_in es))
    listed_once i p a true s t = rw (s, t) (rest ids keys h)
    listed_once i p a false s t = rw (s, t) (new_listed i p a)

    package_listed : (i : PackageId) (o : Option Packaged) → package_of g i ≡ o → IsSome o
        → map (dependency_at g) (with_ids (with_id ids i) (ids_in es)) ≡ map (dependency_at g) ids ++ each_once keys (cons_option (made_with g e.0 o) (made_in es))
    package_listed i None a s = absurd (true≢false (sym s))
    package_listed i (Some p) a s = listed_once i p a (list_any (eq-value.it i) ids) refl (sym (h i p a))

    node_listed : (o : Option PackageId) → ((i : PackageId) → o ≡ Some i → IsSome (package_of g i))
        → map (dependency_at g) (with_ids ids (cons_option o (ids_in es))) ≡ map (dependency_at g) ids ++ each_once keys (cons_option (made_with g e.0 (package_if g o)) (made_in es))
    node_listed None stands = rest ids keys h
    node_listed (Some i) stands = package_listed i (package_of g i) refl (stands i refl)

  all_listed : (es : List (ℕ × NodeData)) → ((e : ℕ × NodeData) → Among e es → (i : PackageId) → e.1.of ≡ Some i → IsSome (package_of g i)) → AreListed es
  all_listed [] stand ids keys h = sym (append-nil (map (dependency_at g) ids))
  all_listed (e ∷ es) stand ids keys h = node_listed e es (all_listed es (λ d m. stand d (inr m))) ids keys h e.1.of (stand e (inl refl))

  pub packages_listed : map (dependency_at g) (with_ids [] (package_ids g)) ≡ each_once [] (composition_of g).made
  packages_listed = all_listed (nodes_of g) (λ e m i q. (sound.nodes e.0 e.1 (entry_there g.nodes e m)).of i q) [] [] (λ i p a. refl)

  pub packages_named : map (dependency_of g) (with_ids [] (package_ids g)) ≡ names_of (each_once [] (composition_of g).made)
  packages_named = sym (map-map (λ e. e.0) (dependency_at g) (with_ids [] (package_ids g))) ∙ ap names_of packages_listed

  module _ (asked : Asked) (outers : Outers) (h : AreHeld g asked outers) where
    outers_named : outer_names asked outers ≡ names_of (outer_imports (asks_of (composition_of g)))
    outers_named = sym (names-with_values _ (imports_of asked.types outers.world)) ∙ ap names_of h.imports.imports

    dependencies_named : (define : Bool) → dependency_names define g asked ≡ names_of (dependencies_of define (composition_of g))
    dependencies_named true = refl
    dependencies_named false = ap (map (dependency_of g)) h.packages ∙ packages_named

    pub imports_named : (define : Bool) → names_imported define g asked outers ≡ import_names define (composition_of g)
    imports_named define =
        ap (λ l. l ++ dependency_names define g asked) outers_named ∙ ap (λ l. names_of (outer_imports (asks_of (composition_of g))) ++ l) (dependencies_named define)

-- ---- names are pushed one after another

module _ {X : Type 0} (f : X → Name) (names : List Name) where
  pub names_pushed : {all : List Name} (new : List Name) (xs rest : List X) (x : X) → new ≡ names ++ f x ∷ [] → xs ≡ x ∷ rest → names ++ map f xs ≡ all → new ++ map f rest ≡ all
  names_pushed new xs rest x e s h = ap (λ l. l ++ map f rest) e ∙ append_assoc names (f x ∷ []) (map f rest) ∙ ap (λ l. names ++ map f l) (sym s) ∙ h

  pub none_pushed : {all : List Name} (xs : List X) → xs ≡ [] → names ++ map f xs ≡ all → names ≡ all
  none_pushed xs e h = sym (append-nil names) ∙ ap (λ l. names ++ map f l) (sym e) ∙ h

pub outer_next : (base old new : List Name) (xs : List (Name × ItemKind)) (i : ℕ) (e : Name × ItemKind) → slice_get xs i ≡ Some e → old ≡ base ++ take i (names_of xs) → new ≡ old ++ e.0 ∷ [] → new ≡ base ++ take (i + 1) (names_of xs)
outer_next base old new xs i e at h is =
    is ∙ ap (λ l. l ++ e.0 ∷ []) h ∙ append_assoc base (take i (names_of xs)) (e.0 ∷ []) ∙ ap (λ l. base ++ l) (sym (take-one_more (names_of xs) i e.0 (map-get (λ x. x.0) xs i e at)))
