-- Packages that are imported at the root: their indexes stand for their imports, and what stood stands.
use Rattle.std.specs.List.{AllZip}
use Rattle.std.specs.Prelude.{slice_get}
use Rattle.std.proofs.Common.{◌≡◌, ◌⊎◌, ℕ, false, List, [], ◌∷◌, ◌++◌, map, Some, inl, inr, refl, sym, ap, subst, ◌∙◌, append_assoc}
use Rattle.std.proofs.lemmas.List.{map-append, append-nil}
use Rattle.std.proofs.lemmas.Option.{same_Some}
use Rattle.wac_types_base.specs.declared.ids.WorldId.{WorldId}
use Rattle.wac_types_base.specs.declared.item.ItemKind.{ItemKind}
use Rattle.wac_types_base.specs.Record.{Collection}
use Rattle.wac_types_base.specs.Entries.{Name, names_of}
use Rattle.wac_types_base.specs.Graph.{Among}
use Rattle.wac_types_base.specs.Collection.{Stands}
use Rattle.wac_types_base.proofs.Adding.{Among-right}
use Rattle.wac_types_fit.specs.Trees.{tree_in}
use Rattle.wac_graph_bytes.specs.declared.value.Sort.{Sort}
use Rattle.wac_graph_bytes.specs.declared.value.Sort.TheVariants as sort
use Rattle.wac_graph_bytes.specs.declared.value.Description.{Description}
use Rattle.wac_graph_bytes.specs.Typing.{Worlds, Meaning, Item, Inside, found, space}
use Rattle.wac_graph_bytes.specs.Wirings.{OfDependency}
use Rattle.wac_graph_bytes.specs.Meaning.{State}
use Rattle.wac_graph_core.specs.declared.ids.PackageId.{PackageId}
use Rattle.wac_graph_core.specs.contracts.ids.PackageIdPartialEq.TheImpl as package_id
use Rattle.wac_graph_core.specs.Graph.{Graph}
use Rattle.wac_graph_scopes.specs.declared.imports.ImportScope.{ImportScope}
use Rattle.wac_graph_scopes.specs.declared.imports.SortIndex.{SortIndex}
use Rattle.wac_graph_scopes.specs.declared.items.ItemScope.{ItemScope}
use Rattle.wac_graph_scopes.specs.Imports.{ImportsItem}
use Rattle.wac_graph_scopes.specs.Items.{Describes, IsItemScope}
use Rattle.wac_graph_scopes.specs.Roots.{at_root, HaveSources, IsEarly}
use Rattle.wac_graph_scopes.proofs.ScopeLaws.{Extends-refl, Extends-trans}
use Rattle.wac_graph_causes.specs.Alike.{dependency_of}
use Rattle.wac_graph_causes.proofs.Dependencies.{name_is}
use Rattle.wac_graph_encode.specs.declared.declarations.Early.{Early}
use Rattle.wac_graph_encode.specs.declared.root.Root.{Root}
use Rattle.wac_graph_encode.specs.Standing.{IsPackageAt, written_under}
use Rattle.wac_graph_encode.specs.Writing.{IsBegun}
use Rattle.wac_graph_encode.specs.Rooting.{early_in}
use Rattle.wac_graph_encode.specs.Beginning.{AreTold, IsRooted}
use Rattle.wac_graph_encode.specs.Importing.{AreWorldsOf, HasImported, HasImportedAll, ImportsBefore, IsImportedAt, NotesImport, Packages, dependency_import}
use Rattle.wac_graph_encode.proofs.Entries.{same_package}
use Rattle.wac_graph_encode.proofs.Nesting.{inserted_among}
use Rattle.wac_graph_encode.proofs.Rooting.{IsReadAs, scope_read}
use Rattle.wac_graph_encode.proofs.EarlyExports.{early_sources, early_exports}
use Rattle.wac_graph_encode.proofs.StandingSteps.{stands_on, outer_on}

-- ---- one more package

-- what is described as a component and imported stands at its index
pub has_imported : (w : Worlds) (c : Collection) (i : Inside) (n : Name) (world : WorldId) (d : Description) (mid new : ItemScope) (p : SortIndex)
    → (a : Describes w c [] i (ItemKind.Component world) mid d) → ImportsItem w c [] a.after n (tree_in c (ItemKind.Component world)) d new p → HasImported w c i n world new p.index
has_imported w c i n world d mid new p a b =
    let t = tree_in c (ItemKind.Component world) in
    let is : p.sort ≡ sort.Component = b.sort_is ∙ sym (same_Some _ _ a.sorted) in
    record {
      after = b.after;
      stands = b.stands;
      extends = Extends-trans i.here a.after.here b.after.here a.goes.extends b.extends;
      imports = b.imports ∙ ap (λ l. l ++ (n, t) ∷ []) a.goes.imports;
      exports = b.exports ∙ a.goes.exports;
      at = subst (λ s. found (b.after.here ∷ []) s p.index ≡ Some (Item n s t)) is b.means;
    }

-- ---- one after another

named_left : {K V : Type 0} (xs ys : List (K × V)) (k : K) → Among k (names_of xs) → Among k (names_of (xs ++ ys))
named_left [] ys k m = absurd m
named_left (x ∷ xs) ys k (inl e) = inl e
named_left (x ∷ xs) ys k (inr m) = inr (named_left xs ys k m)

named_here : {K V : Type 0} (xs : List (K × V)) (x : K × V) → Among x.0 (names_of (xs ++ x ∷ []))
named_here [] x = inl refl
named_here (y ∷ xs) x = inr (named_here xs x)

module _ (g : Graph) (c : Collection) (w : Worlds) (i : Inside) where
  imported_none : (s : ItemScope) → IsItemScope w c [] i s → HasImportedAll w g c i [] s []
  imported_none s h = record {
    after = i;
    stands = h;
    extends = Extends-refl i.here;
    imports = sym (append-nil i.imports);
    exports = refl;
    named = λ id index m. absurd m;
    stand = λ id index m. absurd m;
  }

  imported_more : (ps : Packages) (p : PackageId × WorldId) (old new : ItemScope) (before after : List (PackageId × ℕ)) → (h : HasImportedAll w g c i ps old before) → NotesImport w g c h.after p.0 p.1 new before after
      → HasImportedAll w g c i (ps ++ p ∷ []) new after
  imported_more ps p old new before after h x =
      let row = dependency_import g c p in
      record {
        after = x.import.after;
        stands = x.import.stands;
        extends = Extends-trans i.here h.after.here x.import.after.here h.extends x.import.extends;
        imports =
            x.import.imports ∙ ap (λ l. l ++ row ∷ []) h.imports ∙ append_assoc i.imports (map (dependency_import g c) ps) (row ∷ [])
            ∙ ap (λ l. i.imports ++ l) (sym (map-append (dependency_import g c) ps (p ∷ [])));
        exports = x.import.exports ∙ h.exports;
        named = λ id index m. elim (split id index m) [ inl k ↦ named_left ps (p ∷ []) id (h.named id index k) | inr e ↦ subst (λ j. Among j (names_of (ps ++ p ∷ []))) (sym (ap (λ (q : PackageId × ℕ). q.0) e)) (named_here ps p) ];
        stand = λ id index m. elim (split id index m) [
          | inl k ↦ let r = h.stand id index k in (r.0, x.import.extends.indexes sort.Component index (Item (dependency_of g id) sort.Component r.0) r.1)
          | inr e ↦ one id index e
        ];
      }
    where
      split : (id : PackageId) (index : ℕ) → Among (id, index) after → Among (id, index) before ⊎ (◌≡◌ {A = PackageId × ℕ} (id, index) (p.0, x.index))
      split id index m = inserted_among package_id.eq-value.it same_package before p.0 x.index (id, index) (subst (Among (id, index)) x.noted m)

      one : (id : PackageId) (index : ℕ) → ◌≡◌ {A = PackageId × ℕ} (id, index) (p.0, x.index) → IsImportedAt g x.import.after id index
      one id index e =
          let same : id ≡ p.0 = ap (λ (q : PackageId × ℕ). q.0) e in
          let at : index ≡ x.index = ap (λ (q : PackageId × ℕ). q.1) e in (
            tree_in c (ItemKind.Component p.1),
            ap (slice_get x.import.after.here.components) at ∙ x.import.at ∙ ap (λ j. Some (Item (dependency_of g j) sort.Component (tree_in c (ItemKind.Component p.1)))) (sym same),
          )

-- so many are imported, and the others are left
pub record Importing (g : Graph) (c : Collection) (all rest : Packages) (old : ItemScope) (before : List (PackageId × ℕ)) (new : ItemScope) (after : List (PackageId × ℕ)) : Type 0 where
  pub done : Packages
  pub split : done ++ rest ≡ all
  pub imported : before ≡ [] → AreWorldsOf g c all → (w : Worlds) (i : Inside) → IsItemScope w c [] i old → HasImportedAll w g c i done new after

pub importing_first : (g : Graph) (c : Collection) (all rest : Packages) (s : ItemScope) (held : List (PackageId × ℕ)) → rest ≡ all → Importing g c all rest s held s held
importing_first g c all rest s held e = record {
  done = [];
  split = e;
  imported = λ none are w i h. subst (HasImportedAll w g c i [] s) (sym none) (imported_none g c w i s h);
}

pub importing_more : (g : Graph) (c : Collection) (all turn rest : Packages) (id : PackageId) (world : WorldId) (old : ItemScope) (before : List (PackageId × ℕ)) (mid : ItemScope) (held : List (PackageId × ℕ)) (new : ItemScope) (after : List (PackageId × ℕ))
    → turn ≡ (id, world) ∷ rest → (h : Importing g c all turn old before mid held)
    → (Stands c (ItemKind.Component world) → (w : Worlds) (i : Inside) → IsItemScope w c [] i mid → NotesImport w g c i id world new held after) → Importing g c all rest old before new after
importing_more g c all turn rest id world old before mid held new after e h one = record {
  done = h.done ++ (id, world) ∷ [];
  split = append_assoc h.done ((id, world) ∷ []) rest ∙ ap (λ (ps : Packages). h.done ++ ps) (sym e) ∙ h.split;
  imported = λ none are w i s.
      let x = h.imported none are w i s in
      imported_more g c w i h.done (id, world) mid new held after x (one (are id world there).copy.stands w x.after x.stands);
}
  where
    there : Among (id, world) all
    there = subst (Among (id, world)) (ap (λ (ps : Packages). h.done ++ ps) (sym e) ∙ h.split) (Among-right (id, world) h.done ((id, world) ∷ rest) (inl refl))

pub importing_all : (g : Graph) (c : Collection) (all rest : Packages) (old : ItemScope) (before : List (PackageId × ℕ)) (new : ItemScope) (after : List (PackageId × ℕ)) → rest ≡ [] → Importing g c all rest old before new after
    → before ≡ [] → AreWorldsOf g c all → (w : Worlds) (i : Inside) → IsItemScope w c [] i old → HasImportedAll w g c i all new after
importing_all g c all rest old before new after e h none are w i s =
    subst (λ (ps : Packages). HasImportedAll w g c i ps new after) (sym (append-nil h.done) ∙ ap (λ (ps : Packages). h.done ++ ps) (sym e) ∙ h.split) (h.imported none are w i s)

-- ---- what is imported is read

module _ (g : Graph) (c : Collection) (ps : Packages) (are : AreWorldsOf g c ps) (w : Worlds) (told : AreTold false g w (names_of ps)) (places : List (Name × ℕ)) (i : Inside) (nothing : i.exports ≡ [])
    (scope : ImportScope) (stands : IsItemScope w c [] i scope.scope) (old new : Root) (none : old.entries.items ≡ []) (empty : old.packages.entries ≡ []) (unsaid : old.exported ≡ [])
    (rooted : IsRooted g w places i old.nodes.entries old.early.entries scope.places.items) (b : ImportsBefore g c ps scope old new) where
  abbrev all : HasImportedAll w g c i ps b.between.scope b.mid.packages.entries
  all = b.imported empty are w i stands

  abbrev st : State
  st = at_root i []

  early_is : b.mid.early.entries ≡ old.early.entries
  early_is = ap (λ es. es.entries) b.early

  sources : HaveSources (early_in b.mid.early.entries) all.after
  sources = subst (λ (es : List (ℕ × Early)). HaveSources (early_in es) all.after) (sym early_is) (early_sources g w i all.after old.early.entries all.extends rooted.are_early)

  read : IsReadAs w all.after b.mid.early.entries new
  read = scope_read b.between b.mid new b.takes (ap (λ v. v.items) b.entries ∙ none) (b.exported ∙ unsaid) w c all.after all.stands (all.exports ∙ nothing) sources

  abbrev next : State
  next = at_root all.after read.0.listing

  kept : (s : Sort) (j : ℕ) (m : Meaning) → slice_get (space s st.scope) j ≡ Some m → slice_get (space s next.scope) j ≡ Some m
  kept s j m e = all.extends.indexes s j m e

  held : (id : PackageId) (index : ℕ) → Among (id, index) new.packages.entries → IsPackageAt g w false next id index
  held id index m =
      let k = subst (λ ms. Among (id, index) ms.entries) b.takes.packages m in
      let x = all.stand id index k in
      let t = told id (all.named id index k) in
      record {
        of = t.of;
        is = t.is;
        meaning = Item (dependency_of g id) sort.Component x.0;
        at = x.1;
        tag = ap (λ n. Some (OfDependency n)) (name_is g id t.of t.is);
        world = t.world;
      }

  pub begun_imported : IsBegun false w (i.imports ++ map (dependency_import g c) ps) places g new
  begun_imported =
      let firsts = early_exports g w i all.after old.early.entries all.extends rooted.are_early false new.exported read.0.listing
      (subst (λ (es : List (ℕ × Early)). AllZip (IsEarly (early_in es) all.after) new.exported read.0.listing) early_is read.0.are) in
      record {
        written = record {
          state = next;
          reads = read.0.reads;
          counts = read.1;
          imports = all.imports;
          firsts = record { once = read.2; there = firsts.0 };
          exports = firsts.1;
          stated = refl;
          outers = λ n p e. absurd (cc e);
          packages = held;
          order = [];
          once = tt;
          stand = λ k p m. stands_on g w (at_root i []) next [] [] kept (λ j a. a) (λ j a. refl) k p (rooted.nodes_stand k p (subst (λ ns. Among (k, p) ns.entries) (b.takes.nodes ∙ b.nodes) m));
          noted = λ k m. absurd m;
          instances = tt;
        };
        outers = λ n p e. outer_on g w st next [] [] kept (λ j a. a) (λ j a. refl) n p
            (rooted.outers_stand n p (subst (λ xs. written_under places xs n ≡ Some p) (b.takes.imports ∙ ap (λ v. v.items) b.places) e));
      }
