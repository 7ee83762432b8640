-- The root is begun once packages are imported or nested behind types and outer imports.
use Rattle.std.specs.List.{AllZip}
use Rattle.std.specs.Prelude.{slice_get}
use Rattle.std.proofs.Common.{◌≡◌, ℕ, true, false, List, [], Some, Result, Ok, Err, OnOk, refl, sym, ap, subst, ◌∙◌}
use Rattle.wac_types_base.specs.declared.ids.WorldId.{WorldId}
use Rattle.wac_types_base.specs.declared.item.ItemKind.{ItemKind}
use Rattle.wac_types_base.specs.Record.{Collection}
use Rattle.wac_types_base.specs.Entries.{AreDistinct, Name, names_of, value_at}
use Rattle.wac_types_base.specs.Graph.{Among}
use Rattle.wac_types_base.proofs.Looked.{among-get}
use Rattle.wac_types_base.proofs.Loops.{map-get}
use Rattle.wac_graph_bytes.specs.declared.value.Sort.{Sort}
use Rattle.wac_graph_bytes.specs.Typing.{Worlds, Inside, Meaning, space}
use Rattle.wac_graph_bytes.specs.Meaning.{State}
use Rattle.wac_graph_core.specs.declared.ids.PackageId.{PackageId}
use Rattle.wac_graph_core.specs.Graph.{Graph}
use Rattle.wac_graph_scopes.specs.declared.imports.ImportScope.{ImportScope}
use Rattle.wac_graph_scopes.specs.Imports.{WritesWorld}
use Rattle.wac_types_parts.specs.Parts.{imports_of}
use Rattle.wac_graph_scopes.specs.Roots.{at_root}
use Rattle.wac_graph_encode.specs.declared.root.Root.{Root}
use Rattle.wac_graph_encode.specs.declared.root.Writing.{Writing}
use Rattle.wac_graph_asks.specs.Outers.{IsOuters}
use Rattle.wac_graph_encode.specs.declared.declarations.Early.{Early}
use Rattle.wac_graph_encode.specs.Standing.{IsExported, IsPackageAt, spelled, written_under}
use Rattle.wac_graph_encode.specs.Ready.{AddsNames, ArePlacedAt}
use Rattle.wac_graph_encode.specs.Rooting.{IsReadTo, early_in}
use Rattle.wac_graph_scopes.specs.Roots.{IsEarly}
use Rattle.wac_graph_scopes.proofs.ScopeLaws.{Extends-refl}
use Rattle.wac_graph_encode.proofs.EarlyExports.{early_sources, early_exports}
use Rattle.wac_graph_encode.specs.Nesting.{NestsAll, NestsBehind}
use Rattle.wac_graph_encode.specs.Beginning.{AreTold, IsBare, IsBegunWith, IsRooted, Begins, HoldsTaken}
use Rattle.wac_graph_encode.specs.Importing.{ImportsBefore, with_packages}
use Rattle.wac_graph_encode.specs.Writing.{IsBegun}
use Rattle.wac_graph_encode.proofs.StandingSteps.{stands_on, outer_on}
use Rattle.wac_graph_encode.proofs.Nesting.{with_nested, nested_reads, nested_keeps, nested_counts, package_stands}
use Rattle.wac_graph_encode.proofs.Importing.{begun_imported}
use Rattle.wac_graph_encode.proofs.Rooting.{nothing_named, scope_reads}

module _ (g : Graph) (w : Worlds) (ids : List PackageId) (told : AreTold true g w ids) (places : List (Name × ℕ)) (i : Inside) (c : Collection) (world : WorldId) (mid new : Root) (empty : mid.packages.entries ≡ [])
    (early : List (ℕ × Early)) (reads : IsReadTo w c world i early mid) (rooted : IsRooted g w places i mid.nodes.entries early mid.imports.items) (nests : NestsAll g ids mid new) where
  abbrev st : State
  st = at_root i reads.reads.listing

  abbrev next : State
  next = with_nested g ids st

  kept : (s : Sort) (j : ℕ) (m : Meaning) → slice_get (space s st.scope) j ≡ Some m → slice_get (space s next.scope) j ≡ Some m
  kept = nested_keeps g ids mid new nests w st reads.reads.reads

  held : (id : PackageId) (index : ℕ) → Among (id, index) new.packages.entries → IsPackageAt g w true next id index
  held id index m = package_stands g ids mid new nests w st reads.reads.reads reads.counts id index (told id) (λ n. absurd (subst (Among (id, index)) empty n)) m

  firsts : ((x : Name × ℕ) → Among x new.exported → value_at g.exports x.0 ≡ Some x.1) × AllZip (IsExported g w true []) new.exported reads.reads.listing
  firsts = early_exports g w i i early (Extends-refl i.here) rooted.are_early true new.exported reads.reads.listing (subst (λ (xs : List (Name × ℕ)). AllZip (IsEarly (early_in early) i) xs reads.reads.listing) (sym nests.others.exported) reads.reads.are)

  pub begun : IsBegun true w i.imports places g new
  begun = record {
    written = record {
      state = next;
      reads = nested_reads g ids mid new nests w st reads.reads.reads;
      counts = nested_counts g ids mid new nests w st reads.reads.reads reads.counts;
      imports = refl;
      firsts = record { once = subst (λ (xs : List (Name × ℕ)). AreDistinct (names_of xs)) (sym nests.others.exported) reads.once; there = firsts.0 };
      exports = firsts.1;
      stated = refl;
      outers = λ n p e. absurd (cc e);
      packages = held;
      order = [];
      once = tt;
      stand = λ k p m. stands_on g w (at_root i []) next [] [] kept (λ j a. a) (λ j a. refl) k p (rooted.nodes_stand k p (subst (λ ns. Among (k, p) ns.entries) nests.others.nodes m));
      noted = λ k m. absurd m;
      instances = tt;
    };
    outers = λ n p e. outer_on g w (at_root i []) next [] [] kept (λ j a. a) (λ j a. refl) n p
        (rooted.outers_stand n p (subst (λ xs. written_under places xs.items n ≡ Some p) nests.others.imports e));
  }

-- behind what is taken from a scope
pub begun_nested : (x : Writing) (scope : ImportScope) (old new : Root) → x.options.now.define_components ≡ true → NestsBehind x.graph.now (names_of x.worlds.now.entries) scope old new
    → (w : Worlds) (world : WorldId) (imported : List Name) (places : List (Name × ℕ)) (h : WritesWorld w x.all.types.now [] world scope imported []) → IsBare old
    → AreTold x.options.now.define_components x.graph.now w (names_of x.worlds.now.entries) → IsRooted x.graph.now w places h.writing.inside old.nodes.entries old.early.entries scope.places.items → IsBegunWith x w h.writing.inside.imports places new
begun_nested x scope old new define b w world imported places h bare told rooted =
    let g = x.graph.now in
    let c = x.all.types.now in
    let ids = names_of x.worlds.now.entries in
    let imports = h.writing.inside.imports in
    subst (λ d. IsBegun d w (with_packages d g c x.worlds.now.entries imports) places g new) (sym define)
    (begun g w ids (subst (λ d. AreTold d g w ids) define told) places h.writing.inside c world b.taken new (ap (λ ps. ps.entries) b.takes.packages ∙ bare.1) old.early.entries
    (scope_reads scope old b.taken b.takes bare.0 bare.2 w c world imported h (early_sources g w h.writing.inside h.writing.inside old.early.entries (Extends-refl h.writing.inside.here) rooted.are_early))
    (subst (λ xs. IsRooted g w places h.writing.inside b.taken.nodes.entries old.early.entries xs) (sym b.takes.imports) (subst (λ ns. IsRooted g w places h.writing.inside ns.entries old.early.entries scope.places.items) (sym b.takes.nodes) rooted)) b.nests)

pub begins_nested : {U E : Type 0} (x : Writing) (scope : ImportScope) (old new : Root) (r : Result U E) → x.options.now.define_components ≡ true → OnOk r (NestsBehind x.graph.now (names_of x.worlds.now.entries) scope old new) → Begins x scope old new r
begins_nested x scope old new (Ok u) define n = λ w world imported places h bare worlds told rooted. begun_nested x scope old new define n w world imported places h bare told rooted
begins_nested x scope old new (Err e) define n = λ w world imported places h bare worlds told rooted. tt

-- behind what is imported in the scope
pub begins_imported : {U E : Type 0} (x : Writing) (scope : ImportScope) (old new : Root) (r : Result U E) → x.options.now.define_components ≡ false → OnOk r (ImportsBefore x.graph.now x.all.types.now x.worlds.now.entries scope old new) → Begins x scope old new r
begins_imported x scope old new (Ok u) define b = λ w world imported places h bare worlds told rooted.
    let g = x.graph.now in
    let c = x.all.types.now in
    let ps = x.worlds.now.entries in
    let i = h.writing.inside in
    subst (λ d. IsBegun d w (with_packages d g c ps i.imports) places g new) (sym define)
    (begun_imported g c ps worlds w (subst (λ d. AreTold d g w (names_of ps)) define told) places i (nothing_named i.exports h.writing.exports) scope h.writing.stands old new bare.0 bare.1 bare.2 rooted b)
begins_imported x scope old new (Err e) define b = λ w world imported places h bare worlds told rooted. tt

-- ---- what is held

pub holds_nested : (x : Writing) (scope : ImportScope) (old new : Root) → NestsBehind x.graph.now (names_of x.worlds.now.entries) scope old new → HoldsTaken x scope old new
holds_nested x scope old new b = record {
  imports = ap (λ v. v.items) b.nests.others.imports ∙ b.takes.imports;
  nodes = b.nests.others.nodes ∙ b.takes.nodes;
  packages = subst (λ ps. AddsNames (names_of x.worlds.now.entries) (names_of ps.entries) (names_of new.packages.entries)) b.takes.packages b.nests.held;
}

pub holds_imported : (x : Writing) (scope : ImportScope) (old new : Root) → ImportsBefore x.graph.now x.all.types.now x.worlds.now.entries scope old new → HoldsTaken x scope old new
holds_imported x scope old new b = record {
  imports = b.takes.imports ∙ ap (λ v. v.items) b.places;
  nodes = b.takes.nodes ∙ b.nodes;
  packages = subst (λ ps. AddsNames (names_of x.worlds.now.entries) (names_of old.packages.entries) (names_of ps.entries)) (sym b.takes.packages) b.held;
}

-- of all imports something is written, so it is at each place
pub all_placed : (w : Worlds) (g : Graph) (c : Collection) (world : WorldId) (places : List (Name × ℕ)) → IsOuters g c world places → (scope : ImportScope) (imported : List Name) → WritesWorld w c [] world scope imported []
    → ((n : Name) → Among n (names_of (imports_of c world)) → Among n imported) → ArePlacedAt scope.places.items places
all_placed w g c world places is scope imported h all n at v =
    let k = is.placed n at v in
    let m : Name = spelled g n in
    let named : slice_get (names_of (imports_of c world)) at ≡ Some m = map-get (λ (x : Name × ItemKind). x.0) (imports_of c world) at (m, k.0) k.1 in
    h.have at m named (all m (among-get (names_of (imports_of c world)) at m named))
