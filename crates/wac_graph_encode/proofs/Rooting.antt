-- What is written in a scope is read at the root.
use Rattle.std.specs.List.{AllZip}
use Rattle.std.specs.Prelude.{Result, Ok, Err, OnOk, option_to_list, if◌then◌else◌}
use Rattle.std.proofs.Common.{◌≡◌, ℕ, zero, suc, Bool, true, false, List, [], ◌∷◌, ◌++◌, map, length, Option, Some, None, refl, sym, ap, subst, ◌∙◌, append_assoc, Vec, Global, arith}
use Rattle.std.proofs.lemmas.List.{append-nil}
use Rattle.std.proofs.lemmas.Option.{same_Some}
use Rattle.wac_types_base.specs.Record.{Collection}
use Rattle.wac_types_base.specs.Entries.{AreDistinct, Name, names_of, has_name}
use Rattle.wac_types_base.specs.declared.ids.WorldId.{WorldId}
use Rattle.wac_types_base.specs.Tree.{Tree}
use Rattle.wac_graph_bytes.specs.declared.value.Sort.{Sort}
use Rattle.wac_graph_bytes.specs.declared.value.Sort.TheVariants as sort
use Rattle.wac_graph_bytes.specs.declared.entry.Declaration.{Declaration, Module, Defined, ComponentType, ComponentType', InstanceType, InstanceType', Alias, Import, Export}
use Rattle.wac_graph_bytes.specs.declared.entry.Alias.TheVariants as alias
use Rattle.wac_graph_bytes.specs.declared.entry.Entry.{Entry as CodeEntry}
use Rattle.wac_graph_bytes.specs.Entries.{Entry, OuterAlias, Declarations, End, CoreThen, TypeThen, ComponentTypeThen, InstanceTypeThen, AliasThen, ImportThen, ExportThen}
use Rattle.wac_graph_bytes.specs.Counting.{count_of}
use Rattle.wac_graph_bytes.specs.Typing.{◌>>=◌, Worlds, Scope, Known, Inside, space, with_core, nothing_inside, adds_inside, imports_inside, exports_inside, defined, described, alias_of, alias_sort, module_tree, instance_tree, component_tree, declared}
use Rattle.wac_graph_bytes.specs.Meaning.{start, steps}
use Rattle.wac_graph_bytes.specs.Views.{view, before, declarations_of}
use Rattle.wac_graph_bytes.proofs.Rows.{before_component, before_instance}
use Rattle.wac_graph_bytes.proofs.Steps as entry_steps
use Rattle.wac_graph_bytes.proofs.Steps.{bind_some, some_is}
use Rattle.wac_graph_scopes.specs.declared.items.ItemScope.{ItemScope}
use Rattle.wac_graph_scopes.specs.declared.imports.ImportScope.{ImportScope}
use Rattle.wac_graph_scopes.specs.declared.imports.SortIndex.{SortIndex}
use Rattle.wac_types_parts.specs.Parts.{imports_of}
use Rattle.wac_graph_scopes.specs.Imports.{ArePlaced, WritesWorld}
use Rattle.wac_graph_scopes.specs.Items.{IsItemScope}
use Rattle.wac_graph_scopes.specs.Roots.{root_entries, root_exports, alias_entry, if_new, has_no_export, at_root, HaveSources, IsEarly, ReadsWith}
use Rattle.wac_graph_scopes.proofs.RootLaws.{roots_read, exports_once}
use Rattle.wac_graph_encode.specs.declared.declarations.Early.{Early}
use Rattle.wac_graph_encode.specs.declared.root.Root.{Root}
use Rattle.wac_graph_encode.specs.Standing.{counted}
use Rattle.wac_graph_encode.specs.Rooting.{AddsEarly, AddsRead, IsReadTo, IsRepeatedBy, early_in, plain_entries, ReadsAtRoot, TakesScope, counter}

-- ---- declarations as entries

-- one more declaration before others
module _ (early : ℕ → Option (Name × ℕ)) where
  entries_then : (seen : List (Name × ℕ)) (d : Declaration) (rest : Declarations) → root_entries early seen (before d rest) ≡ root_entries early seen (before d End) ++ root_entries early (root_exports early seen (before d End)) rest
  entries_then seen (Module ds) rest = refl
  entries_then seen (Defined t) rest = refl
  entries_then seen (ComponentType' _ row) rest = refl
  entries_then seen (InstanceType' _ row) rest = refl
  entries_then seen (Alias a) rest = refl
  entries_then seen (Import n e) rest = refl
  entries_then seen (Export n e) rest = refl

  exports_then : (seen : List (Name × ℕ)) (d : Declaration) (rest : Declarations) → root_exports early seen (before d rest) ≡ root_exports early (root_exports early seen (before d End)) rest
  exports_then seen (Module ds) rest = refl
  exports_then seen (Defined t) rest = refl
  exports_then seen (ComponentType' _ row) rest = refl
  exports_then seen (InstanceType' _ row) rest = refl
  exports_then seen (Alias a) rest = refl
  exports_then seen (Import n e) rest = refl
  exports_then seen (Export n e) rest = refl

pub component_entry : (v : Vec Declaration Global) → plain_entries (ComponentTypeThen (declarations_of v.items) End) ≡ plain_entries (before (ComponentType v) End)
component_entry v = ap plain_entries (sym (before_component v End))

pub instance_entry : (v : Vec Declaration Global) → plain_entries (InstanceTypeThen (declarations_of v.items) End) ≡ plain_entries (before (InstanceType v) End)
instance_entry v = ap plain_entries (sym (before_instance v End))

-- what repeats no type is written as it is
pub adds_plain : (early : List (ℕ × Early)) (d : Declaration) (old new : List CodeEntry) (seen : List (Name × ℕ)) → IsRepeatedBy d None → AddsRead old new (plain_entries (before d End)) → AddsEarly early (before d End) old seen new seen
adds_plain early (Module ds) old new seen n a = record { entries = a; exported = refl }
adds_plain early (Defined t) old new seen n a = record { entries = a; exported = refl }
adds_plain early (ComponentType' _ row) old new seen n a = record { entries = a; exported = refl }
adds_plain early (InstanceType' _ row) old new seen n a = record { entries = a; exported = refl }
adds_plain early (Alias (alias.Export s k n')) old new seen n a = record { entries = a; exported = sym (append-nil seen) }
adds_plain early (Alias (alias.Outer sort.Func c k)) old new seen n a = record { entries = a; exported = sym (append-nil seen) }
adds_plain early (Alias (alias.Outer sort.Component c k)) old new seen n a = record { entries = a; exported = sym (append-nil seen) }
adds_plain early (Alias (alias.Outer sort.Instance c k)) old new seen n a = record { entries = a; exported = sym (append-nil seen) }
adds_plain early (Alias (alias.Outer sort.Module c k)) old new seen n a = record { entries = a; exported = sym (append-nil seen) }
adds_plain early (Alias (alias.Outer sort.Ty (suc c) k)) old new seen n a = record { entries = a; exported = sym (append-nil seen) }
adds_plain early (Alias (alias.Outer sort.Ty zero k)) old new seen n a = absurd (n k refl)
adds_plain early (Import m e) old new seen n a = record { entries = a; exported = refl }
adds_plain early (Export m e) old new seen n a = record { entries = a; exported = refl }

-- what repeats a type is written as it is, or as its export
module _ (early : List (ℕ × Early)) (d : Declaration) (k : ℕ) (is : IsRepeatedBy d (Some k)) (old new : List CodeEntry) (seen now : List (Name × ℕ)) (o : Option (Name × ℕ)) (at : o ≡ if_new seen (early_in early k)) where
  pub adds_repeated : AddsRead old new (alias_entry (OuterAlias sort.Ty 0 k) o ∷ []) → now ≡ seen ++ option_to_list o → AddsEarly early (before d End) old seen new now
  adds_repeated a b =
      subst (λ (x : Declaration). AddsEarly early (before x End) old seen new now) (sym is)
      (record {
        entries = a ∙ ap (λ (p : Option (Name × ℕ)). map view old ++ alias_entry (OuterAlias sort.Ty 0 k) p ∷ []) at;
        exported = b ∙ ap (λ (p : Option (Name × ℕ)). seen ++ option_to_list p) at;
      })

-- what is new has a name that is not among the exports
pub new_export : (early : List (ℕ × Early)) (seen : List (Name × ℕ)) (k : ℕ) (x : Name × ℕ) → Some x ≡ if_new seen (early_in early k) → has_name (names_of seen) x.0 ≡ false
new_export early seen k x e = by (early_in early k) e
  where
    apart : (y : Name × ℕ) (b : Bool) → has_name (names_of seen) y.0 ≡ b → Some x ≡ (if b then None else Some y) → has_name (names_of seen) x.0 ≡ false
    apart y true q e = absurd (cc e)
    apart y false q e = ap (λ (z : Name × ℕ). has_name (names_of seen) z.0) (same_Some _ _ e) ∙ q

    by : (o : Option (Name × ℕ)) → Some x ≡ if_new seen o → has_name (names_of seen) x.0 ≡ false
    by None e = absurd (cc e)
    by (Some y) e = apart y (has_name (names_of seen) y.0) refl e

-- so much is written, and the rest is left
pub record Entered (early : List (ℕ × Early)) (old : List CodeEntry) (seen : List (Name × ℕ)) (all : List Declaration) (now : List CodeEntry) (exported : List (Name × ℕ)) (rest : List Declaration) : Type 0 where
  pub entries : ◌≡◌ {A = List Entry} (map view now ++ root_entries (early_in early) exported (declarations_of rest)) (map view old ++ root_entries (early_in early) seen (declarations_of all))
  pub exports : root_exports (early_in early) exported (declarations_of rest) ≡ root_exports (early_in early) seen (declarations_of all)

pub entered_more : (early : List (ℕ × Early)) (old : List CodeEntry) (seen : List (Name × ℕ)) (all : List Declaration) (now new : List CodeEntry) (before_them after : List (Name × ℕ)) (d : Declaration) (items rest : List Declaration)
    → AddsEarly early (before d End) now before_them new after → items ≡ d ∷ rest → Entered early old seen all now before_them items → Entered early old seen all new after rest
entered_more early old seen all now new before_them after d items rest added turn h =
    let f = early_in early in
    let ds = declarations_of rest in
    record {
      entries =
          ap (λ (l : List Entry). l ++ root_entries f after ds) added.entries
          ∙ append_assoc (map view now) (root_entries f before_them (before d End)) (root_entries f after ds)
          ∙ ap (λ (xs : List (Name × ℕ)). map view now ++ (root_entries f before_them (before d End) ++ root_entries f xs ds)) added.exported
          ∙ ap (λ (l : List Entry). map view now ++ l) (sym (entries_then f before_them d ds))
          ∙ ap (λ (l : List Declaration). map view now ++ root_entries f before_them (declarations_of l)) (sym turn)
          ∙ h.entries;
      exports =
          ap (λ (xs : List (Name × ℕ)). root_exports f xs ds) added.exported
          ∙ sym (exports_then f before_them d ds)
          ∙ ap (λ (l : List Declaration). root_exports f before_them (declarations_of l)) (sym turn)
          ∙ h.exports;
    }

pub entered_all : (early : List (ℕ × Early)) (old : List CodeEntry) (seen : List (Name × ℕ)) (all : List Declaration) (now : List CodeEntry) (exported : List (Name × ℕ)) (rest : List Declaration) → length rest ≡ 0 → Entered early old seen all now exported rest
    → AddsEarly early (declarations_of all) old seen now exported
entered_all early old seen all now exported [] z h = record { entries = sym (append-nil (map view now)) ∙ h.entries; exported = h.exports }
entered_all early old seen all now exported (d ∷ rest) z h = absurd (omega (arith, z))

-- ---- nothing is exported

abbrev Nothing : Inside → Declarations → Type 0
Nothing i ds = (has_no_export ds ≡ true) × (i.exports ≡ [])

pushed : {X : Type 0} (xs : List X) (x : X) → xs ++ x ∷ [] ≡ [] → ⊥
pushed [] x e = absurd (cc e)
pushed (y ∷ xs) x e = absurd (cc e)

pub no_export : (w : Worlds) (outer : List Scope) (i j : Inside) (ds : Declarations) → declared w outer i ds ≡ Some j → j.exports ≡ [] → Nothing i ds
unfolding declared
no_export w outer i j End e h = (refl, ap (λ (k : Inside). k.exports) (some_is i j e) ∙ h)
no_export w outer i j (CoreThen ds rest) e h =
    let b = bind_some (module_tree ds) (λ t. declared w outer (record i { here = with_core t i.here }) rest) j e in
    no_export w outer (record i { here = with_core b.0 i.here }) j rest b.2 h
no_export w outer i j (TypeThen t rest) e h =
    let b = bind_some (defined w (i.here ∷ outer) t) (λ t. declared w outer (adds_inside sort.Ty (Known t) i) rest) j e in
    no_export w outer (adds_inside sort.Ty (Known b.0) i) j rest b.2 h
no_export w outer i j (ComponentTypeThen ds rest) e h =
    let b = bind_some (declared w (i.here ∷ outer) nothing_inside ds >>= component_tree) (λ t. declared w outer (adds_inside sort.Ty (Known t) i) rest) j e in
    no_export w outer (adds_inside sort.Ty (Known b.0) i) j rest b.2 h
no_export w outer i j (InstanceTypeThen ds rest) e h =
    let b = bind_some (declared w (i.here ∷ outer) nothing_inside ds >>= instance_tree) (λ t. declared w outer (adds_inside sort.Ty (Known t) i) rest) j e in
    no_export w outer (adds_inside sort.Ty (Known b.0) i) j rest b.2 h
no_export w outer i j (AliasThen a rest) e h =
    let b = bind_some (alias_of w (i.here ∷ outer) a) (λ m. declared w outer (adds_inside (alias_sort a) m i) rest) j e in
    no_export w outer (adds_inside (alias_sort a) b.0 i) j rest b.2 h
no_export w outer i j (ImportThen m d rest) e h =
    let b = bind_some (described w (i.here ∷ outer) m d) (λ x. declared w outer (imports_inside m x i) rest) j e in
    no_export w outer (imports_inside m b.0 i) j rest b.2 h
no_export w outer i j (ExportThen m d rest) e h =
    let b = bind_some (described w (i.here ∷ outer) m d) (λ x. declared w outer (exports_inside m x i) rest) j e in
    absurd (pushed i.exports (m, b.0.1) (no_export w outer (exports_inside m b.0 i) j rest b.2 h).1)

-- ---- a scope at the root

-- the counters are true
pub counters_true : (w : Worlds) (c : Collection) (outer : List Scope) (i : Inside) (scope : ItemScope) → IsItemScope w c outer i scope → (s : Sort) → counter scope s ≡ length (space s i.here)
counters_true w c outer i scope h sort.Func = h.funcs
counters_true w c outer i scope h sort.Ty = h.written.types
counters_true w c outer i scope h sort.Component = h.components
counters_true w c outer i scope h sort.Instance = h.instances
counters_true w c outer i scope h sort.Module = h.modules

pub nothing_named : (xs : List (Name × Tree)) → ◌≡◌ {A = List Name} (names_of xs) [] → xs ≡ []
nothing_named [] e = refl
nothing_named (x ∷ xs) e = absurd (cc e)

-- the entries are read to what stood in the scope, and their indexes are counted
abbrev pub IsReadAs : Worlds → Inside → List (ℕ × Early) → Root → Type 0
IsReadAs w i early root = ReadsWith (early_in early) i w start (map view root.entries.items) root.exported × ((s : Sort) → counted root.counts s ≡ count_of s root.entries.items) × AreDistinct (names_of root.exported)

-- what is taken is read
entries_read : (scope : ItemScope) (early : List (ℕ × Early)) (new : Root) → AddsEarly early (declarations_of scope.types.declarations.items) [] [] new.entries.items new.exported → ((s : Sort) → counted new.counts s ≡ counter scope s)
    → (w : Worlds) (c : Collection) (i : Inside) → IsItemScope w c [] i scope → i.exports ≡ [] → HaveSources (early_in early) i → IsReadAs w i early new
entries_read scope early new adds counts w c i stands nothing sources =
    let ds = declarations_of scope.types.declarations.items in
    let read = stands.written.reads in
    let all = roots_read (early_in early) w nothing_inside i ds [] [] tt sources (no_export w [] nothing_inside i ds read nothing).0 read in
    let reads : steps w start (map view new.entries.items) ≡ Some (at_root i all.listing) = ap (λ (es : List Entry). steps w start es) adds.entries ∙ all.reads in (
      record { listing = all.listing; reads = reads; are = subst (λ (xs : List (Name × ℕ)). AllZip (IsEarly (early_in early) i) xs all.listing) (sym adds.exported) all.are },
      λ s. counts s ∙ counters_true w c [] i scope stands s ∙ entry_steps.counted w new.entries.items (at_root i all.listing) s reads,
      subst (λ (xs : List (Name × ℕ)). AreDistinct (names_of xs)) (sym adds.exported) (exports_once (early_in early) [] ds tt),
    )

pub taken_reads : (scope : ImportScope) (early : List (ℕ × Early)) (new : Root) → AddsEarly early (declarations_of scope.scope.types.declarations.items) [] [] new.entries.items new.exported
    → ((s : Sort) → counted new.counts s ≡ counter scope.scope s) → new.imports.items ≡ scope.places.items
    → (w : Worlds) (c : Collection) (world : WorldId) (imported : List Name) (h : WritesWorld w c [] world scope imported []) → HaveSources (early_in early) h.writing.inside → IsReadTo w c world h.writing.inside early new
taken_reads scope early new adds counts places w c world imported h sources =
    let i = h.writing.inside in
    let read = entries_read scope.scope early new adds counts w c i h.writing.stands (nothing_named i.exports h.writing.exports) sources in
    record {
      reads = read.0;
      counts = read.1;
      once = read.2;
      placed = subst (λ (ps : List (Option SortIndex)). ArePlaced w c (i.here ∷ []) (imports_of c world) ps) (sym places) h.placed;
    }

-- from nothing on
bare_adds : (early : List (ℕ × Early)) (ds es : List Declaration) (old new : List CodeEntry) (seen now : List (Name × ℕ)) → old ≡ [] → seen ≡ [] → ds ≡ es → AddsEarly early (declarations_of ds) old seen new now → AddsEarly early (declarations_of es) [] [] new now
bare_adds early ds es old new seen now none unsaid same a =
    subst (λ (l : List Declaration). AddsEarly early (declarations_of l) [] [] new now) same
    (subst (λ (xs : List (Name × ℕ)). AddsEarly early (declarations_of ds) [] xs new now) unsaid
    (subst (λ (l : List CodeEntry). AddsEarly early (declarations_of ds) l seen new now) none a))

pub taken_when : {U E : Type 0} (scope : ImportScope) (old new : Root) (ds : List Declaration) (r : Result U E) → ds ≡ scope.scope.types.declarations.items
    → ((s : Sort) → counted new.counts s ≡ counter scope.scope s) → new.imports.items ≡ scope.places.items
    → OnOk r (AddsEarly old.early.entries (declarations_of ds) old.entries.items old.exported new.entries.items new.exported) → ReadsAtRoot scope old new r
taken_when scope old new ds (Ok u) same counts places added none unsaid w c world imported h sources =
    taken_reads scope old.early.entries new
    (bare_adds old.early.entries ds scope.scope.types.declarations.items old.entries.items new.entries.items old.exported new.exported none unsaid same added)
    counts places w c world imported h sources
taken_when scope old new ds (Err e) same counts places added none unsaid w c world imported h sources = tt

pub scope_reads : (scope : ImportScope) (old new : Root) → TakesScope scope old new → old.entries.items ≡ [] → old.exported ≡ [] → (w : Worlds) (c : Collection) (world : WorldId) (imported : List Name) (h : WritesWorld w c [] world scope imported [])
    → HaveSources (early_in old.early.entries) h.writing.inside → IsReadTo w c world h.writing.inside old.early.entries new
scope_reads scope old new t none unsaid w c world imported h sources =
    let ds = scope.scope.types.declarations.items in
    taken_reads scope old.early.entries new (bare_adds old.early.entries ds ds old.entries.items new.entries.items old.exported new.exported none unsaid refl t.adds) t.counts t.imports w c world imported h sources

-- likewise where more than a world is imported
pub scope_read : (scope : ImportScope) (old new : Root) → TakesScope scope old new → old.entries.items ≡ [] → old.exported ≡ [] → (w : Worlds) (c : Collection) (i : Inside) → IsItemScope w c [] i scope.scope → i.exports ≡ []
    → HaveSources (early_in old.early.entries) i → IsReadAs w i old.early.entries new
scope_read scope old new t none unsaid w c i stands nothing sources =
    let ds = scope.scope.types.declarations.items in
    entries_read scope.scope old.early.entries new (bare_adds old.early.entries ds ds old.entries.items new.entries.items old.exported new.exported none unsaid refl t.adds) t.counts w c i stands nothing sources
