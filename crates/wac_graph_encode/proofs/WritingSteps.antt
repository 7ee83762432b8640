-- What is written after one more node.
use Rattle.std.specs.Prelude.{Bool, Result, Ok, Err, Vec, IfOk, IfSome, option_map}
use Rattle.std.specs.Global.{Global}
use Rattle.std.proofs.Common.{◌≡◌, ℕ, List, [], ◌∷◌, ◌++◌, Option, Some, None, refl, sym, ap, subst, ◌∙◌}
use Rattle.wac_types_base.specs.Collection.{IsAcyclic}
use Rattle.wac_types_base.specs.declared.ids.WorldId.{WorldId}
use Rattle.wac_types_base.specs.Record.{Collection}
use Rattle.wac_types_base.specs.Entries.{AreDistinct, Name, names_of}
use Rattle.wac_types_base.specs.Graph.{Among}
use Rattle.wac_types_base.specs.Tree.{Tree}
use Rattle.wac_types_names.specs.Packaged.{Packaged}
use Rattle.wac_graph_bytes.specs.declared.value.Sort.{Sort}
use Rattle.wac_graph_bytes.specs.declared.value.Sort.TheVariants as sort
use Rattle.wac_graph_bytes.specs.declared.entry.Entry.{Entry as CodeEntry}
use Rattle.wac_graph_bytes.specs.declared.entry.NamedIndex.{NamedIndex}
use Rattle.wac_graph_bytes.specs.Views.{arguments_view}
use Rattle.wac_graph_bytes.specs.Entries.{Argument, Aliased, ExportAlias, Instantiate}
use Rattle.wac_graph_bytes.specs.Typing.{Worlds}
use Rattle.wac_graph_core.specs.declared.ids.PackageId.{PackageId}
use Rattle.wac_graph_core.specs.Nodes.{NodeData, Role, imported_as}
use Rattle.wac_graph_core.specs.Graph.{Graph, IsGraph, node_at, package_of}
use Rattle.wac_types_parts.specs.Parts.{imports_of}
use Rattle.wac_graph_scopes.specs.declared.imports.SortIndex.{SortIndex}
use Rattle.wac_graph_encode.specs.declared.root.Counts.{Counts}
use Rattle.wac_graph_encode.specs.declared.root.Root.{Root}
use Rattle.wac_graph_encode.specs.declared.instances.Wired.{Wired}
use Rattle.wac_graph_encode.specs.declared.instances.Standing.{Standing}
use Rattle.wac_graph_asks.specs.Reads.{AreArguments, import_name_of, package_id_of}
use Rattle.wac_graph_encode.specs.Standing.{IsWritten, written_under}
use Rattle.wac_graph_encode.specs.Writing.{AddsIndex, IsBegun, AreGivenAt, AreGivenUnder, IsAliasAt, PassesAll, WrittenSo, WrittenWith, noted, outer_in, outer_of}
use Rattle.wac_graph_encode.proofs.WritingLaws.{all_given}
use Rattle.wac_graph_encode.proofs.Counted.{has_next}
use Rattle.wac_graph_encode.proofs.StandingSteps.{alias_written}
use Rattle.wac_graph_encode.proofs.StandingInstances.{import_written, instance_written_on}

-- the same, with packages, entries and nodes that are known by equations
moved : (g : Graph) (worlds : Worlds) (define : Bool) (asked : List (Name × Tree)) (found : Name → Option SortIndex) (held old_held : List (PackageId × ℕ)) (given old_given : List (Name × ℕ)) (es old : List CodeEntry) (c : Counts) (nodes old_nodes : List (ℕ × SortIndex)) → held ≡ old_held → given ≡ old_given → es ≡ old → nodes ≡ old_nodes
    → IsWritten g worlds define asked found old_held old_given old c old_nodes → IsWritten g worlds define asked found held given es c nodes
moved g worlds define asked found held old_held given old_given es old c nodes old_nodes p v q r h =
    subst (λ x. IsWritten g worlds define asked found x given es c nodes) (sym p)
    (subst (λ x. IsWritten g worlds define asked found old_held x es c nodes) (sym v)
    (subst (λ x. IsWritten g worlds define asked found old_held old_given x c nodes) (sym q) (subst (IsWritten g worlds define asked found old_held old_given old c) (sym r) h)))

module _ (w : Wired) (is : IsGraph w.graph.now) (finite : IsAcyclic w.graph.now.types) (new : Root) (k : ℕ) (place : SortIndex) where
  abbrev Written : (define : Bool) (worlds : Worlds) (asked : List (Name × Tree)) → Type 0
  Written define worlds asked = IsWritten w.graph.now worlds define asked (outer_of w) new.packages.entries new.exported new.entries.items new.counts (noted w ++ (k, place) ∷ [])

  pub alias_wired : (s : Sort) (index : ℕ) (n : Name) → IsAliasAt w k s index n → AddsIndex w.root new (Aliased (ExportAlias s index n)) s place → (define : Bool) (worlds : Worlds) (asked : List (Name × Tree)) → WrittenSo define worlds asked w → Written define worlds asked
  alias_wired s index n a add define worlds asked h =
      moved w.graph.now worlds define asked (outer_of w) new.packages.entries w.root.packages.entries new.exported w.root.exported new.entries.items _ new.counts (noted w ++ (k, place) ∷ []) _ (ap (λ m. m.entries) add.packages) add.exported add.entry.added (ap (λ p. noted w ++ (k, p) ∷ []) add.index)
      (alias_written w.graph.now is finite worlds define asked (outer_of w) w.root.packages.entries w.root.exported w.root.entries.items w.root.counts (noted w) h a.from k n a.place a.item.node s a.stands a.edge a.item.there a.item.kind
      add.entry.entry new.counts (add.entry.is ∙ ap (λ i. Aliased (ExportAlias s i n)) a.same) (add.counts (has_next w.root s (h.counts s))))

  module _ (id : PackageId) (index : ℕ) (bound : List (Name × ℕ)) (as_ : List Argument) (of_is : package_id_of (node_at w.graph.now k) ≡ Some id) (at : Among (id, index) w.root.packages.entries) (are : AreArguments w.graph.now k bound)
      (passes : PassesAll w id bound as_) (add : AddsIndex w.root new (Instantiate index as_) sort.Instance place) where
    by_node : (o : Option NodeData) → node_at w.graph.now k ≡ o → package_id_of o ≡ Some id → (x : NodeData) × (node_at w.graph.now k ≡ Some x) × (x.of ≡ Some id)
    by_node None e q = absurd (cc q)
    by_node (Some x) e q = (x, e, q)

    pub instance_wired : (define : Bool) (worlds : Worlds) (asked : List (Name × Tree)) → WrittenSo define worlds asked w → (Among k (names_of (noted w)) → ⊥) → Written define worlds asked
    instance_wired define worlds asked h fresh =
        let x = by_node (node_at w.graph.now k) refl of_is in
        let p = h.packages id index at in
        let all = passes p.of p.is in
        moved w.graph.now worlds define asked (outer_of w) new.packages.entries w.root.packages.entries new.exported w.root.exported new.entries.items _ new.counts (noted w ++ (k, place) ∷ []) _ (ap (λ m. m.entries) add.packages) add.exported add.entry.added (ap (λ q. noted w ++ (k, q) ∷ []) add.index)
        (instance_written_on w.graph.now is worlds define asked (outer_of w) w.root.packages.entries w.root.exported w.root.entries.items w.root.counts (noted w) h k x.0 id index as_ _ x.1 x.2 at all.0 (all.1 k are) (λ of e. ap (λ (q : Packaged). names_of (imports_of w.graph.now.types q.ty)) (some_same e p.is)) fresh add.entry.entry new.counts add.entry.is (add.counts (has_next w.root sort.Instance (h.counts sort.Instance))))
      where
        some_same : {A : Type 0} {x y : A} {o : Option A} → o ≡ Some x → o ≡ Some y → x ≡ y
        some_same e f = cc (e, f)

-- ---- imports

pub imported_role : (r : Role) (n : Name) → imported_as r ≡ Some n → r ≡ Role.Imported n
imported_role (Role.Imported m) n e = let same : m ≡ n = cc e in ap Role.Imported same
imported_role Role.Instance n e = absurd (cc e)
imported_role Role.Aliased n e = absurd (cc e)
imported_role Role.Defined n e = absurd (cc e)

module _ (w : Wired) (is : IsGraph w.graph.now) (k : ℕ) (n : Name) (named : import_name_of (node_at w.graph.now k) ≡ Some n) where
  import_node : (o : Option NodeData) → node_at w.graph.now k ≡ o → import_name_of o ≡ Some n → (x : NodeData) × (node_at w.graph.now k ≡ Some x) × (x.role ≡ Role.Imported n)
  import_node None e q = absurd (cc q)
  import_node (Some x) e q = (x, e, imported_role x.role n q)

  pub import_wired : (o : Option SortIndex) → o ≡ outer_of w n → (define : Bool) (worlds : Worlds) (asked : List (Name × Tree)) → WrittenSo define worlds asked w → IfSome o (λ p. WrittenWith define worlds asked w (noted w ++ (k, p) ∷ []))
  import_wired None e define worlds asked h = tt
  import_wired (Some p) e define worlds asked h =
      let x = import_node (node_at w.graph.now k) refl named in
      import_written w.graph.now is worlds define asked (outer_of w) w.root.packages.entries w.root.exported w.root.entries.items w.root.counts (noted w) h k n p x.0 x.1 x.2 (sym e)

-- ---- arguments

module _ (w : Wired) (s : Standing) (nodes : s.nodes.now ≡ w.root.nodes) (outers : outer_in s ≡ outer_of w) (id : PackageId) (bound : List (Name × ℕ)) (types : Collection) (same : types ≡ w.graph.now.types) (world : WorldId) (is : Some world ≡ option_map (λ (p : Packaged). p.ty) (package_of w.graph.now id)) where
  world_is : (of : Packaged) → package_of w.graph.now id ≡ Some of → world ≡ of.ty
  world_is of e = let q : Some world ≡ Some of.ty = is ∙ ap (option_map (λ (p : Packaged). p.ty)) e in cc q

  pub passes_all : (as_ : List Argument) → AreDistinct (names_of (imports_of types world)) → AreGivenUnder s bound (names_of (imports_of types world)) as_ → PassesAll w id bound as_
  passes_all as_ once given of e =
      let ns : names_of (imports_of types world) ≡ names_of (imports_of w.graph.now.types of.ty) = ap (λ (c : Collection). names_of (imports_of c world)) same ∙ ap (λ (t : WorldId). names_of (imports_of w.graph.now.types t)) (world_is of e) in (
        subst AreDistinct ns once,
        λ k are.
            subst (λ (ms : List Name). AreGivenAt w.graph.now (outer_of w) (noted w) k ms as_) ns
            (subst (λ (m : Name → Option SortIndex). AreGivenAt w.graph.now m (noted w) k (names_of (imports_of types world)) as_) outers
            (subst (λ m. AreGivenAt w.graph.now (outer_in s) m.entries k (names_of (imports_of types world)) as_) nodes
            (all_given w.graph.now k bound are s (names_of (imports_of types world)) as_ given))),
      )

  pub passes_if : {E : Type 0} (r : Result (Vec NamedIndex Global) E) → AreDistinct (names_of (imports_of types world)) → IfOk r (λ v. AreGivenUnder s bound (names_of (imports_of types world)) (arguments_view v.items))
      → IfOk r (λ v. PassesAll w id bound (arguments_view v.items))
  passes_if (Err e) once x = tt
  passes_if (Ok v) once x = passes_all (arguments_view v.items) once x

-- ---- outer imports

pub begun_outers : (define : Bool) (worlds : Worlds) (asked : List (Name × Tree)) (places : List (Name × ℕ)) (g : Graph) (r : Root) → IsBegun define worlds asked places g r
    → IsWritten g worlds define asked (written_under places r.imports.items) r.packages.entries r.exported r.entries.items r.counts r.nodes.entries
begun_outers define worlds asked places g r b =
    let h = b.written in
    record {
      state = h.state;
      reads = h.reads;
      counts = h.counts;
      imports = h.imports;
      firsts = h.firsts;
      exports = h.exports;
      stated = h.stated;
      outers = b.outers;
      packages = h.packages;
      order = h.order;
      once = h.once;
      stand = h.stand;
      noted = h.noted;
      instances = h.instances;
    }
