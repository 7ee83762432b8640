-- What is nested in entries.
use Rattle.std.specs.Prelude.{filter_map, option_to_list}
use Rattle.std.specs.List.{AllZip, cons_option, list_any}
use Rattle.std.proofs.Common.{◌≡◌, ℕ, Bool, true, false, true≢false, List, [], ◌∷◌, ◌++◌, map, Option, Some, None, IsSome, Result, Ok, Err, OnOk, ◌⊎◌, inl, inr, refl, sym, ap, subst, ◌∙◌, if◌then◌else◌}
use Rattle.std.proofs.lemmas.Option.{none-some}
use Rattle.std.proofs.lemmas.List.{map-append, append-nil}
use Rattle.wac_types_base.specs.Record.{Collection}
use Rattle.wac_types_base.specs.Entries.{Name, AreDistinct, names_of}
use Rattle.wac_types_base.specs.Graph.{Among}
use Rattle.wac_types_base.proofs.Adding.{Among-left, Among-right}
use Rattle.wac_types_base.proofs.Lists.{among_split, from_filtered}
use Rattle.wac_types_names.specs.Packaged.{Packaged}
use Rattle.wac_types_names.specs.Keys.{package_key}
use Rattle.wac_graph_bytes.specs.declared.entry.Entry.{Entry as CodeEntry}
use Rattle.wac_graph_bytes.specs.Entries.{Alias, ExportAlias, OuterAlias, Entry, Core, Nested, Instantiate, Aliased, Typed, Imported, Exported, Declarations, End, CoreThen, TypeThen, ComponentTypeThen, InstanceTypeThen, AliasThen, ImportThen, ExportThen, entries_of}
use Rattle.wac_graph_bytes.specs.Views.{view, declarations_of}
use Rattle.wac_graph_core.specs.declared.ids.PackageId.{PackageId}
use Rattle.wac_graph_core.specs.contracts.ids.PackageIdPartialEq.TheImpl.{eq-value}
use Rattle.wac_graph_core.specs.Nodes.{NodeData}
use Rattle.wac_graph_core.specs.Graph.{Graph, IsGraph, node_at, package_of, package_if, package_made, instantiated}
use Rattle.wac_graph_scopes.specs.declared.imports.SortIndex.{SortIndex}
use Rattle.wac_graph_scopes.specs.declared.imports.ImportScope.{ImportScope}
use Rattle.wac_graph_scopes.specs.Roots.{root_entries, alias_entry, alias_export}
use Rattle.wac_types_parts.proofs.Lists.{distinct-append}
use Rattle.wac_composition.proofs.Closures.{any_among, among_any}
use Rattle.wac_graph_asks.specs.Graphs.{nodes_of}
use Rattle.wac_graph_asks.specs.Asked.{package_ids, with_id, with_ids}
use Rattle.wac_graph_asks.proofs.ByNode.{entry_there}
use Rattle.wac_graph_asks.proofs.Origins.{node_among, among_mapped}
use Rattle.wac_graph_encode.specs.declared.root.Root.{Root}
use Rattle.wac_graph_encode.specs.Encoding.{nested_in, nested_at, nested_strings, bytes_in, bytes_of, NestPackages, NestsPackages}
use Rattle.wac_graph_encode.specs.declared.root.Writing.{Writing}
use Rattle.wac_graph_encode.specs.Beginning.{NestsThese, nested_bytes}
use Rattle.wac_graph_encode.specs.Importing.{ImportsBefore, Packages}
use Rattle.wac_graph_encode.specs.Rooting.{early_in}
use Rattle.wac_graph_encode.specs.Finished.{AreSpelled, NestsBytes}
use Rattle.wac_graph_encode.specs.Nesting.{NestsBehind}
use Rattle.wac_graph_encode.specs.Writing.{AddsEntry, AddsExports, IsExportOf}
use Rattle.wac_graph_encode.proofs.Entries.{same_package}

-- ---- lists of entries

nested_append : (xs ys : List Entry) → nested_in (xs ++ ys) ≡ nested_in xs ++ nested_in ys
nested_append [] ys = refl
nested_append (Core ds ∷ xs) ys = nested_append xs ys
nested_append (Nested bytes ∷ xs) ys = ap (λ l. bytes ∷ l) (nested_append xs ys)
nested_append (Instantiate k as_ ∷ xs) ys = nested_append xs ys
nested_append (Aliased a ∷ xs) ys = nested_append xs ys
nested_append (Typed t ∷ xs) ys = nested_append xs ys
nested_append (Imported n d ∷ xs) ys = nested_append xs ys
nested_append (Exported e ∷ xs) ys = nested_append xs ys

alias_nests_none : (a : Alias) (o : Option (Name × ℕ)) (es : List Entry) → nested_in (alias_entry a o ∷ es) ≡ nested_in es
alias_nests_none a None es = refl
alias_nests_none (ExportAlias s k n) (Some x) es = refl
alias_nests_none (OuterAlias s d k) (Some x) es = refl

none_declared : (early : ℕ → Option (Name × ℕ)) (seen : List (Name × ℕ)) (ds : Declarations) → nested_in (root_entries early seen ds) ≡ []
none_declared early seen End = refl
none_declared early seen (CoreThen ds rest) = none_declared early seen rest
none_declared early seen (TypeThen t rest) = none_declared early seen rest
none_declared early seen (ComponentTypeThen ds rest) = none_declared early seen rest
none_declared early seen (InstanceTypeThen ds rest) = none_declared early seen rest
none_declared early seen (AliasThen a rest) =
    let more = seen ++ option_to_list (alias_export early seen a) in
    alias_nests_none a (alias_export early seen a) (root_entries early more rest) ∙ none_declared early more rest
none_declared early seen (ImportThen n d rest) = none_declared early seen rest
none_declared early seen (ExportThen n d rest) = none_declared early seen rest

all_nested : (g : Graph) (ids : List PackageId) → nested_in (map (λ id. Nested (bytes_of g id)) ids) ≡ map (bytes_of g) ids
all_nested g [] = refl
all_nested g (id ∷ ids) = ap (λ l. bytes_of g id ∷ l) (all_nested g ids)

-- an entry that nests nothing
pub entry_nests_none : (old new : List CodeEntry) (x : Entry) → nested_in (x ∷ []) ≡ [] → AddsEntry old new x → nested_at new ≡ nested_at old
entry_nests_none old new x none a =
    ap nested_in (ap (map view) a.added ∙ map-append view old (a.entry ∷ []) ∙ ap (λ e. map view old ++ e ∷ []) a.is)
    ∙ nested_append (map view old) (x ∷ []) ∙ ap (λ l. nested_at old ++ l) none ∙ append-nil (nested_at old)

none_exported : (nodes : List (ℕ × SortIndex)) (xs : List (Name × ℕ)) (es : List CodeEntry) → AllZip (IsExportOf nodes) xs es → nested_at es ≡ []
none_exported nodes [] [] z = refl
none_exported nodes [] (e ∷ es) z = absurd z
none_exported nodes (x ∷ xs) [] z = absurd z
none_exported nodes (x ∷ xs) (e ∷ es) z = ap (λ v. nested_in (v ∷ map view es)) z.0.is ∙ none_exported nodes xs es z.1

pub exports_nest_none : (nodes : List (ℕ × SortIndex)) (xs : List (Name × ℕ)) (old new : List CodeEntry) → AddsExports nodes xs old new → nested_at new ≡ nested_at old
exports_nest_none nodes xs old new a =
    ap nested_in (ap (map view) a.added ∙ map-append view old a.entries) ∙ nested_append (map view old) (map view a.entries)
    ∙ ap (λ l. nested_at old ++ l) (none_exported nodes xs a.entries a.are) ∙ append-nil (nested_at old)

-- the packages are all that is nested behind a scope
pub behind_nests : (g : Graph) (ids : List PackageId) (scope : ImportScope) (old new : Root) → old.entries.items ≡ [] → NestsBehind g ids scope old new → nested_at new.entries.items ≡ map (bytes_of g) ids
behind_nests g ids scope old new empty b =
    ap nested_in b.nests.entries ∙ nested_append (map view b.taken.entries.items) (map (λ id. Nested (bytes_of g id)) ids)
    ∙ ap (λ l. l ++ nested_in (map (λ id. Nested (bytes_of g id)) ids)) (ap nested_in (b.takes.adds.entries ∙ ap (λ es. map view es ++ root_entries (early_in old.early.entries) old.exported (declarations_of scope.scope.types.declarations.items)) empty)
    ∙ none_declared (early_in old.early.entries) old.exported (declarations_of scope.scope.types.declarations.items))
    ∙ all_nested g ids

-- nothing is nested behind a scope in which the packages are imported
imported_nests : (g : Graph) (c : Collection) (ps : Packages) (scope : ImportScope) (old new : Root) → old.entries.items ≡ [] → ImportsBefore g c ps scope old new → nested_at new.entries.items ≡ []
imported_nests g c ps scope old new empty b =
    let ds = declarations_of b.between.scope.types.declarations.items in
    let es = root_entries (early_in b.mid.early.entries) b.mid.exported ds in
    ap nested_in (b.takes.adds.entries ∙ ap (λ xs. map view xs.items ++ es) b.entries ∙ ap (λ xs. map view xs ++ es) empty) ∙ none_declared (early_in b.mid.early.entries) b.mid.exported ds

pub nests_nested : {U E : Type 0} (x : Writing) (scope : ImportScope) (old new : Root) (r : Result U E) → x.options.now.define_components ≡ true → OnOk r (NestsBehind x.graph.now (names_of x.worlds.now.entries) scope old new) → NestsThese x old new r
nests_nested x scope old new (Ok u) define b = λ bare.
    behind_nests x.graph.now (names_of x.worlds.now.entries) scope old new bare.0 b ∙ ap (λ d. nested_bytes d x.graph.now (names_of x.worlds.now.entries)) (sym define)
nests_nested x scope old new (Err e) define b = λ bare. tt

pub nests_imported : {U E : Type 0} (x : Writing) (scope : ImportScope) (old new : Root) (r : Result U E) → x.options.now.define_components ≡ false → OnOk r (ImportsBefore x.graph.now x.all.types.now x.worlds.now.entries scope old new) → NestsThese x old new r
nests_imported x scope old new (Ok u) define b = λ bare.
    imported_nests x.graph.now x.all.types.now x.worlds.now.entries scope old new bare.0 b ∙ ap (λ d. nested_bytes d x.graph.now (names_of x.worlds.now.entries)) (sym define)
nests_imported x scope old new (Err e) define b = λ bare. tt

-- a spelling of entries nests what they nest
pub spelled_nests : (define : Bool) (g : Graph) (ids : List PackageId) (es : List Entry) (bytes : List ℕ) → nested_in es ≡ nested_bytes define g ids → AreSpelled es bytes → NestsBytes define g ids bytes
spelled_nests define g ids es bytes nested a = record { sections = a.sections; spelled = a.spelled; nested = ap nested_in a.entries ∙ nested }

-- ---- packages, each once

pub with_among : (ids more : List PackageId) (id : PackageId) → Among id (with_ids ids more) → Among id ids ⊎ Among id more
with_among ids [] id m = inl m
with_among ids (x ∷ more) id m = elim (with_among (with_id ids x) more id m) [
  | inl k ↦ one (list_any (eq-value.it x) ids) k
  | inr k ↦ inr (inr k)
]
  where
    one : (b : Bool) → Among id (if b then ids else ids ++ x ∷ []) → Among id ids ⊎ Among id (x ∷ more)
    one true k = inl k
    one false k = elim (among_split id ids (x ∷ []) k) [ inl a ↦ inl a | inr (inl e) ↦ inr (inl e) | inr (inr n) ↦ absurd n ]

module _ (g : Graph) where
  with_stays : (ids more : List PackageId) (id : PackageId) → Among id ids → Among id (with_ids ids more)
  with_stays ids [] id m = m
  with_stays ids (x ∷ more) id m = with_stays (with_id ids x) more id (one (list_any (eq-value.it x) ids))
    where
      one : (b : Bool) → Among id (if b then ids else ids ++ x ∷ [])
      one true = m
      one false = Among-left id ids (x ∷ []) m

  pub with_has : (ids more : List PackageId) (id : PackageId) → Among id more → Among id (with_ids ids more)
  with_has ids [] id m = absurd m
  with_has ids (x ∷ more) id (inr m) = with_has (with_id ids x) more id m
  with_has ids (x ∷ more) id (inl e) = with_stays (with_id ids x) more id (one (list_any (eq-value.it x) ids) refl)
    where
      one : (b : Bool) → list_any (eq-value.it x) ids ≡ b → Among id (if b then ids else ids ++ x ∷ [])
      one true q = let a = any_among (eq-value.it x) ids q in subst (λ i. Among i ids) (sym ((same_package x a.0).0 a.2) ∙ sym e) a.1
      one false q = Among-right id ids (x ∷ []) (inl e)

  with_distinct : (ids more : List PackageId) → AreDistinct ids → AreDistinct (with_ids ids more)
  with_distinct ids [] d = d
  with_distinct ids (x ∷ more) d = with_distinct (with_id ids x) more (one (list_any (eq-value.it x) ids) refl)
    where
      apart : list_any (eq-value.it x) ids ≡ false → (id : PackageId) → Among id ids → Among id (x ∷ []) → ⊥
      apart q id m (inr n) = n
      apart q id m (inl e) = true≢false (sym (among_any (eq-value.it x) ids x (subst (λ i. Among i ids) e m) ((same_package x x).1 refl)) ∙ q)

      one : (b : Bool) → list_any (eq-value.it x) ids ≡ b → AreDistinct (if b then ids else ids ++ x ∷ [])
      one true q = d
      one false q = distinct-append ids (x ∷ []) d ((λ m. m), tt) (apart q)

  -- the packages of ids that have one
  packages_of : List PackageId → List Packaged
  packages_of ids = filter_map (package_of g) ids

  abbrev AreHeld : List PackageId → Type 0
  AreHeld ids = (id : PackageId) → Among id ids → IsSome (package_of g id)

  held_bytes : (ids : List PackageId) → AreHeld ids → map (bytes_of g) ids ≡ map (λ p. p.bytes) (packages_of ids)
  unfolding packages_of
  held_bytes [] h = refl
  held_bytes (id ∷ ids) h = go (held_bytes ids (λ i m. h i (inr m))) (package_of g id) refl (h id (inl refl))
    where
      go : map (bytes_of g) ids ≡ map (λ (p : Packaged). p.bytes) (packages_of ids) → (o : Option Packaged) → package_of g id ≡ o → IsSome o → bytes_in o ∷ map (bytes_of g) ids ≡ map (λ (p : Packaged). p.bytes) (cons_option o (packages_of ids))
      go rest None e s = absurd (true≢false (sym s))
      go rest (Some p) e s = ap (λ l. p.bytes ∷ l) rest

  package_there : (ids : List PackageId) (p : Packaged) → Among p (packages_of ids) → (id : PackageId) × Among id ids × (package_of g id ≡ Some p)
  unfolding packages_of
  package_there ids p m = from_filtered (package_of g) ids p m

  package_among : (ids : List PackageId) (id : PackageId) (p : Packaged) → Among id ids → package_of g id ≡ Some p → Among p (packages_of ids)
  unfolding packages_of
  package_among ids id p m e = among_mapped (package_of g) ids id p m e

  module _ (sound : IsGraph g) where
    keys_distinct : (ids : List PackageId) → AreDistinct ids → AreDistinct (map package_key (packages_of ids))
    unfolding packages_of
    keys_distinct [] d = tt
    keys_distinct (id ∷ ids) d = go (keys_distinct ids d.1) (package_of g id) refl
      where
        apart : (p : Packaged) → package_of g id ≡ Some p → (qs : List Packaged) → ((q : Packaged) → Among q qs → (j : PackageId) × Among j ids × (package_of g j ≡ Some q)) → Among (package_key p) (map package_key qs) → ⊥
        apart p e [] h m = m
        apart p e (q ∷ qs) h (inl same) = let j = h q (inl refl) in d.0 (subst (λ i. Among i ids) (sym (sound.packages.once id j.0 p q e j.2 same)) j.1)
        apart p e (q ∷ qs) h (inr m) = apart p e qs (λ r k. h r (inr k)) m

        go : AreDistinct (map package_key (packages_of ids)) → (o : Option Packaged) → package_of g id ≡ o → AreDistinct (map package_key (cons_option o (packages_of ids)))
        go rest None e = rest
        go rest (Some p) e = (apart p e (packages_of ids) (λ q m. package_there ids q m), rest)

    pub ids_held : (id : PackageId) → Among id (package_ids g) → (k : ℕ) × (n : NodeData) × (node_at g k ≡ Some n) × (n.of ≡ Some id)
    ids_held id m =
        let f = from_filtered (λ (e : ℕ × NodeData). e.1.of) (nodes_of g) id m in
        (f.0.0, f.0.1, entry_there g.nodes f.0 f.1, f.2)

    pub made_of : (p : Packaged) (k : ℕ) → instantiated g k ≡ Some p → (id : PackageId) × Among id (package_ids g) × (package_of g id ≡ Some p)
    made_of p k e = by_node (node_at g k) refl e
      where
        by_id : (n : NodeData) → node_at g k ≡ Some n → (o : Option PackageId) → n.of ≡ o → package_if g o ≡ Some p → (id : PackageId) × Among id (package_ids g) × (package_of g id ≡ Some p)
        by_id n at None of h = absurd (none-some _ h)
        by_id n at (Some id) of h = (id, among_mapped (λ (e : ℕ × NodeData). e.1.of) (nodes_of g) (k, n) id (node_among g k n at) of, h)

        by_node : (o : Option NodeData) → node_at g k ≡ o → package_made g o ≡ Some p → (id : PackageId) × Among id (package_ids g) × (package_of g id ≡ Some p)
        by_node None at h = absurd (none-some _ h)
        by_node (Some n) at h = by_id n at n.of refl h

    same_strings : (define : Bool) (ids : List PackageId) → AreHeld ids → nested_bytes define g ids ≡ nested_strings define (packages_of ids)
    same_strings true ids h = held_bytes ids h
    same_strings false ids h = refl

    -- entries that nest these packages nest the ones that are instantiated
    pub nest_packages : (define : Bool) (ids : List PackageId) (es : List Entry) → ids ≡ with_ids [] (package_ids g) → nested_in es ≡ nested_bytes define g ids → NestPackages define g es
    nest_packages define ids es are nested = record {
      packages = packages_of ids;
      once = keys_distinct ids (subst AreDistinct (sym are) (with_distinct [] (package_ids g) tt));
      those = λ p. (
        λ m. (let i = package_there ids p m in let k = ids_held i.0 (listed i.0 i.1) in (k.0, ap (package_made g) k.2 ∙ ap (package_if g) k.3 ∙ i.2)),
        λ made. let i = made_of p made.0 made.1 in package_among ids i.0 p (subst (Among i.0) (sym are) (with_has [] (package_ids g) i.0 i.1)) i.2,
      );
      nested = nested ∙ same_strings define ids (λ id m. let k = ids_held id (listed id m) in (sound.nodes k.0 k.1 k.2).of id k.3);
    }
      where
        listed : (id : PackageId) → Among id ids → Among id (package_ids g)
        listed id m = elim (with_among [] (package_ids g) id (subst (Among id) are m)) [ inl x ↦ absurd x | inr k ↦ k ]

    -- and so do the bytes
    pub nests_packages : (define : Bool) (ids : List PackageId) (bytes : List ℕ) → ids ≡ with_ids [] (package_ids g) → NestsBytes define g ids bytes → NestsPackages define g bytes
    nests_packages define ids bytes are n = record { sections = n.sections; spelled = n.spelled; nest = nest_packages define ids (entries_of n.sections) are n.nested }
