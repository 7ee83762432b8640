-- What is read beside the graph's wiring: outer imports, and packages that are nested or imported.
use Rattle.std.specs.Prelude.{if◌then◌else◌, is_some}
use Rattle.std.specs.Cmp.Lexicographic.{bytes_decides}
use Rattle.std.proofs.lemmas.Option.{same_Some}
use Rattle.std.proofs.lemmas.List.{map-append}
use Rattle.std.proofs.Common.{◌≡◌, ℕ, Bool, true, false, true≢false, ◌||◌, List, [], ◌∷◌, ◌++◌, append_assoc, codes, map, Option, Some, None, IsSome, is_none, inl, inr, refl, sym, ap, subst, ◌∙◌}
use Rattle.wac_types_base.specs.declared.item.ItemKind.{ItemKind}
use Rattle.wac_types_base.specs.Record.{Collection}
use Rattle.wac_types_base.specs.Entries.{Name, AreDistinct, names_of, value_at}
use Rattle.wac_types_base.specs.Graph.{Among}
use Rattle.wac_types_base.specs.Stated.{stated_in, stated_of}
use Rattle.wac_types_base.specs.Tree.{Tree, tree}
use Rattle.wac_types_base.proofs.Adding.{Among-right}
use Rattle.wac_types_base.proofs.Lists.{among_mapped, value_append, value_behind, value_named}
use Rattle.wac_types_fit.specs.Trees.{tree_in}
use Rattle.wac_types_names.specs.Packaged.{Packaged}
use Rattle.wac_types_names.specs.Keys.{package_key}
use Rattle.wac_graph_bytes.specs.declared.entry.Entry.{Entry as CodeEntry}
use Rattle.wac_graph_bytes.specs.Typing.{Worlds, same_name}
use Rattle.wac_graph_bytes.specs.Wirings.{Tag, OfDependency, Source}
use Rattle.wac_graph_bytes.specs.Meaning.{Listed, NamesPackage, is_package, is_package_of, wiring_of}
use Rattle.wac_graph_core.specs.declared.ids.PackageId.{PackageId}
use Rattle.wac_graph_core.specs.Graph.{Graph, IsGraph, package_of, package_if, package_made, instantiated}
use Rattle.wac_types_parts.proofs.Lists.{distinct-append}
use Rattle.wac_composition.specs.Conflicts.{dependency_name, version_name}
use Rattle.wac_composition.proofs.Clashing.{name_found}
use Rattle.wac_composition.proofs.Lists.{mapped_among}
use Rattle.wac_graph_asks.specs.Asked.{package_ids}
use Rattle.wac_graph_asks.specs.Wirings.{asked_trees}
use Rattle.wac_graph_causes.specs.Alike.{dependency_of}
use Rattle.wac_graph_causes.proofs.Dependencies.{name_is}
use Rattle.wac_graph_encode.specs.Standing.{IsFinished, IsListed}
use Rattle.wac_graph_encode.specs.Encoding.{IsInstantiated}
use Rattle.wac_graph_encode.specs.Finished.{AreInstantiated}
use Rattle.wac_graph_encode.specs.Importing.{AreImportable, AreToImport, AreWorldsOf, Packages, dependency_import, with_packages}
use Rattle.wac_graph_encode.proofs.Finishing.{IsReadBeside}
use Rattle.wac_graph_encode.proofs.Nested.{ids_held, made_of, with_among, with_has}
use Rattle.wac_graph_encode.proofs.StandingWirings.{among_zip, nested_apart, nested_outers, zip_on}

-- ---- lists

named_there : {K V : Type 0} (es : List (K × V)) (k : K) → Among k (names_of es) → (v : V) × Among (k, v) es
named_there [] k m = absurd m
named_there (e ∷ es) k (inl s) = (e.1, inl (λ i. (s i, e.1)))
named_there (e ∷ es) k (inr m) = let r = named_there es k m in (r.0, inr r.1)

-- ---- which imports are packages

none_package : (n : Name) (xs : List (Tag × List (Name × Source ℕ))) → ((x : Tag × List (Name × Source ℕ)) → Among x xs → is_package_of n x.0 ≡ false) → is_package n xs ≡ false
none_package n [] h = refl
none_package n (x ∷ xs) h = ap (λ b. b || is_package n xs) (h x (inl refl)) ∙ none_package n xs (λ y m. h y (inr m))

some_package : (n : Name) (xs : List (Tag × List (Name × Source ℕ))) → is_package n xs ≡ true → (x : Tag × List (Name × Source ℕ)) × Among x xs × (is_package_of n x.0 ≡ true)
some_package n [] e = absurd (true≢false (sym e))
some_package n (x ∷ xs) e = go (is_package_of n x.0) refl (some_package n xs) e
  where
    go : (b : Bool) → is_package_of n x.0 ≡ b → (is_package n xs ≡ true → (y : Tag × List (Name × Source ℕ)) × Among y xs × (is_package_of n y.0 ≡ true)) → (b || is_package n xs) ≡ true
        → (y : Tag × List (Name × Source ℕ)) × Among y (x ∷ xs) × (is_package_of n y.0 ≡ true)
    go true q rest r = (x, inl refl, q)
    go false q rest r = let y = rest r in (y.0, inr y.1, y.2)

a_package : (n : Name) (xs : List (Tag × List (Name × Source ℕ))) (x : Tag × List (Name × Source ℕ)) → Among x xs → is_package_of n x.0 ≡ true → is_package n xs ≡ true
a_package n [] x m e = absurd m
a_package n (y ∷ xs) x (inl s) e = ap (λ b. b || is_package n xs) (ap (λ (z : Tag × List (Name × Source ℕ)). is_package_of n z.0) (sym s) ∙ e)
a_package n (y ∷ xs) x (inr m) e = go (is_package_of n y.0) (a_package n xs x m e)
  where
    go : (b : Bool) → is_package n xs ≡ true → (b || is_package n xs) ≡ true
    go true r = refl
    go false r = r

-- ---- packages that are imported

module _ (g : Graph) (sound : IsGraph g) (w : Worlds) (c : Collection) (ps : Packages) (are : AreWorldsOf g c ps) (each : AreInstantiated g (names_of ps)) (can : AreImportable g (names_of ps))
    (imports : List (Name × Tree)) (once : AreDistinct (names_of imports)) (asked : (n : Name) → value_at imports n ≡ asked_trees g n) where
  abbrev deps : List (Name × Tree)
  deps = map (dependency_import g c) ps

  deps_named : (qs : Packages) → names_of (map (dependency_import g c) qs) ≡ map (dependency_of g) (names_of qs)
  deps_named [] = refl
  deps_named (q ∷ qs) = ap (λ l. dependency_of g q.0 ∷ l) (deps_named qs)

  -- a dependency's name is that of a package
  dependency_there : (n : Name) → Among n (names_of deps) → (id : PackageId) × Among id (names_of ps) × (n ≡ dependency_of g id)
  dependency_there n m = mapped_among (dependency_of g) (names_of ps) n (subst (Among n) (deps_named ps) m)

  -- none is asked
  not_asked : (n : Name) → Among n (names_of deps) → asked_trees g n ≡ None
  not_asked n m = let d = dependency_there n m in ap (asked_trees g) d.2 ∙ can.apart d.0 d.1

  pub once_all : AreDistinct (names_of (imports ++ deps))
  once_all =
      subst AreDistinct (sym (map-append (λ e. e.0) imports deps))
      (distinct-append (names_of imports) (names_of deps) once (subst AreDistinct (sym (deps_named ps)) can.once)
      (λ n m k. true≢false (sym (ap is_none (asked n ∙ not_asked n k)) ∙ name_found imports n m)))

  -- a package that is instantiated is one of them
  held : (p : Packaged) (k : ℕ) → instantiated g k ≡ Some p → (id : PackageId) × Among id (names_of ps) × (package_of g id ≡ Some p)
  held p k e =
      let m = made_of g sound p k e in
      (m.0, subst (Among m.0) (sym each) (with_has g [] (package_ids g) m.0 m.1), m.2)

  named : (p : Packaged) → IsInstantiated g p → NamesPackage (dependency_name (package_key p))
  named p m = (p.name ++ version_name p.version, ap (λ z. codes "unlocked-dep=<" ++ z) (sym (append_assoc p.name (version_name p.version) (codes ">"))))

  -- and is imported, as its world
  row_there : (p : Packaged) → IsInstantiated g p → Among (dependency_name (package_key p), tree (stated_of g.types (ItemKind.Component p.ty))) deps
  unfolding tree_in
  row_there p m =
      let h = held p m.0 m.1 in
      let v = named_there ps h.0 h.1 in
      let a = are h.0 v.0 v.1 in
      let same : a.held ≡ p = same_Some _ _ (sym a.is ∙ h.2) in
      let row : dependency_import g c (h.0, v.0) ≡ (dependency_name (package_key p), tree (stated_of g.types (ItemKind.Component p.ty))) =
      λ i. (name_is g h.0 p h.2 i, (ap (λ o. tree (stated_in o)) a.copy.same ∙ ap (λ (q : Packaged). tree (stated_of g.types (ItemKind.Component q.ty))) same) i) in
      subst (λ e. Among e deps) row (among_mapped (dependency_import g c) ps (h.0, v.0) v.1)

  module _ (es : List CodeEntry) (done : IsFinished g w false (imports ++ deps) es) where
    abbrev l : Listed
    l = done.state.listed

    -- an instance is one of a dependency
    listed_as : (x : Tag × List (Name × Source ℕ)) → Among x l.instances → (n : Name) × (x.0 ≡ OfDependency n) × Among n (names_of deps)
    listed_as x m =
        let a = among_zip (IsListed g w false done.order) done.order l.instances done.instances x m in
        let p = a.1.of in
        (dependency_name (package_key p), a.1.tag, among_mapped (λ (e : Name × Tree). e.0) deps _ (row_there p (a.0, a.1.is)))

    apart_at : (n : Name) → IsSome (asked_trees g n) → (x : Tag × List (Name × Source ℕ)) → Among x l.instances → is_package_of n x.0 ≡ false
    apart_at n s x m = let d = listed_as x m in ap (is_package_of n) d.1 ∙ go (same_name n d.0) refl d.2
      where
        go : (b : Bool) → same_name n (listed_as x m).0 ≡ b → Among (listed_as x m).0 (names_of deps) → b ≡ false
        go false q k = refl
        go true q k = absurd (true≢false (sym s ∙ ap is_some (ap (asked_trees g) ((bytes_decides n _).0 q) ∙ not_asked _ k)))

    apart : (n : Name) → IsSome (asked_trees g n) → is_package n l.instances ≡ false
    apart n s = none_package n l.instances (apart_at n s)

    -- each of these packages has an instance
    made_there : (n : Name) → Among n (names_of deps) → is_package n l.instances ≡ true
    made_there n m =
        let d = dependency_there n m in
        let k = ids_held g sound d.0 (elim (with_among [] (package_ids g) d.0 (subst (Among d.0) each d.1)) [ inl x ↦ absurd x | inr y ↦ y ]) in
        go d.0 d.2 k.0 (ap (package_made g) k.2 ∙ ap (package_if g) k.3) (package_of g d.0) refl ((sound.nodes k.0 k.1 k.2).of d.0 k.3)
      where
        go : (id : PackageId) → n ≡ dependency_of g id → (k : ℕ) → instantiated g k ≡ package_of g id → (o : Option Packaged) → package_of g id ≡ o → IsSome o → is_package n l.instances ≡ true
        go id e k made None q s = absurd (true≢false (sym s))
        go id e k made (Some p) q s =
            let x = zip_on (IsListed g w false done.order) done.order l.instances k done.instances (done.all k (ap is_some (made ∙ q))) in
            let same : x.2.of ≡ p = same_Some _ _ (sym x.2.is ∙ made ∙ q) in
            a_package n l.instances x.0 x.1
            (ap (is_package_of n) (x.2.tag ∙ ap (λ (r : Packaged). OfDependency (dependency_name (package_key r))) same)
            ∙ (bytes_decides n (dependency_name (package_key p))).1 (e ∙ name_is g id p q))

    outers : (n : Name) → asked_trees g n ≡ (wiring_of l).outers n
    outers n = go (is_package n l.instances) refl
      where
        behind : (o : Option Tree) → value_at deps n ≡ o → is_package n l.instances ≡ false → o ≡ None
        behind None e q = refl
        behind (Some t) e q = absurd (true≢false (sym (made_there n (value_named deps n t e)) ∙ q))

        there : (o : Option Tree) → value_at imports n ≡ o → is_package n l.instances ≡ false → o ≡ value_at (imports ++ deps) n
        there (Some t) e q = sym (value_append imports deps n t e)
        there None e q = sym (value_behind imports deps n e ∙ behind (value_at deps n) refl q)

        go : (b : Bool) → is_package n l.instances ≡ b → asked_trees g n ≡ (if b then None else value_at l.imports n)
        go true q =
            let x = some_package n l.instances q in
            let d = listed_as x.0 x.1 in
            ap (asked_trees g) ((bytes_decides n d.0).0 (sym (ap (is_package_of n) d.1) ∙ x.2)) ∙ not_asked d.0 d.2
        go false q = sym (asked n) ∙ there (value_at imports n) refl q ∙ ap (λ xs. value_at xs n) (sym done.imports)

    pub imported_beside : IsReadBeside false g l
    imported_beside = record {
      outers = outers;
      apart = apart;
      named = named;
      packages = λ p m. subst (Among _) (sym done.imports) (Among-right _ imports deps (row_there p m));
    }

-- ---- either way

module _ (g : Graph) (sound : IsGraph g) (w : Worlds) (c : Collection) (ps : Packages) (are : AreWorldsOf g c ps) (each : AreInstantiated g (names_of ps))
    (imports : List (Name × Tree)) (once : AreDistinct (names_of imports)) (asked : (n : Name) → value_at imports n ≡ asked_trees g n) (es : List CodeEntry) where
  pub once_with : (define : Bool) → AreToImport define g (names_of ps) → AreDistinct (names_of (with_packages define g c ps imports))
  once_with true can = once
  once_with false can = once_all g sound w c ps are each can imports once asked

  pub read_beside : (define : Bool) → AreToImport define g (names_of ps) → (done : IsFinished g w define (with_packages define g c ps imports) es) → IsReadBeside define g done.state.listed
  read_beside true can done = record {
    outers = nested_outers g w imports es done asked;
    apart = λ n s. nested_apart g w imports es done n;
    named = λ p m. tt;
    packages = λ p m. tt;
  }
  read_beside false can done = imported_beside g sound w c ps are each can imports once asked es done
