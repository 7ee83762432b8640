-- The imports and exports of a world, one after another.
use Rattle.std.specs.Prelude.{String, ◌==◌, eqb, option_map, option_to_list}
use Rattle.std.proofs.Common.{◌≡◌, ℕ, zero, suc, ◌+◌, ◌<◌, ◌≤◌, Bool, List, [], ◌∷◌, ◌++◌, length, take, Option, Some, None, refl, sym, ap, ◌∙◌, subst, arith, slice_get, slice_set, inl, inr, string_bytes, append_assoc}
use Rattle.std.specs.Global.{Global}
use Rattle.std.proofs.lemmas.List.{map_push, append-nil, length-map}
use Rattle.std.proofs.lemmas.Bool.{and_from}
use Rattle.std.proofs.lemmas.Bool.Decides.{Decides-eqb}
use Rattle.std.proofs.lemmas.Option.{slice_get_within, slice_get_past}
use Rattle.std.proofs.Math.ListN.{length-set}
use Rattle.wac_types_base.specs.declared.ids.InterfaceId.{InterfaceId}
use Rattle.wac_types_base.specs.declared.ids.WorldId.{WorldId}
use Rattle.wac_types_base.specs.declared.defined.Interface.{Interface}
use Rattle.wac_types_base.specs.declared.item.«Type».{«Type» as TypeKind}
use Rattle.wac_types_base.specs.declared.item.ItemKind.{ItemKind}
use Rattle.wac_types_base.specs.Record.{Collection}
use Rattle.wac_types_base.specs.Graph.{Among}
use Rattle.wac_types_base.specs.Entries.{Name, names_of, value_at, put_name, AreDistinct}
use Rattle.wac_types_base.specs.Collection.{Stands, IsAcyclic}
use Rattle.wac_types_base.specs.Tree.{Tree, component}
use Rattle.wac_types_base.proofs.Looked.{among-get, distinct-before, take-one_more}
use Rattle.wac_types_base.proofs.Adding.{Among-left, Among-right, guarded-some}
use Rattle.wac_types_base.proofs.Replacing.{slice_get-set_same, slice_get-set_other}
use Rattle.wac_types_base.proofs.Standing.{world_found}
use Rattle.wac_types_base.proofs.Slots.{stands_typed_world}
use Rattle.wac_types_base.proofs.Lists.{among_split}
use Rattle.wac_types_base.proofs.Loops.{map-get}
use Rattle.wac_types_fit.specs.Trees.{tree_in}
use Rattle.wac_types_fit.proofs.Items.{Among-last, looked_in}
use Rattle.wac_types_fit.proofs.ItemKinds.{kind_is}
use Rattle.wac_types_fit.proofs.Unfolded as unfolded
use Rattle.wac_graph_bytes.specs.declared.value.Sort.{Sort}
use Rattle.wac_graph_bytes.specs.declared.value.Sort.TheVariants as sort
use Rattle.wac_graph_bytes.specs.declared.value.Description.{Description}
use Rattle.wac_graph_bytes.specs.declared.entry.Declaration.{Import}
use Rattle.wac_graph_bytes.specs.Counting.{description_sort}
use Rattle.wac_graph_bytes.specs.Entries.{End}
use Rattle.wac_graph_bytes.specs.Typing as typing
use Rattle.wac_graph_bytes.specs.Typing.{◌>>=◌, Worlds, Meaning, Item, Scope, space, with_one, Inside, nothing_inside, imports_inside, declared, described, found, item_tree, type_at, type_tree, item_of, type_in, as_sort, get, export_named, some_if, distinct_names, component_of, fields_in}
use Rattle.wac_graph_bytes.specs.Views.{before, declarations_of}
use Rattle.wac_graph_bytes.proofs.Steps.{last_of}
use Rattle.wac_graph_bytes.proofs.Distinct.{distinct_decides}
use Rattle.wac_graph_scopes.specs.declared.scope.KnownTypes.{KnownTypes}
use Rattle.wac_graph_scopes.specs.declared.scope.TypeScope.{TypeScope}
use Rattle.wac_graph_scopes.specs.declared.items.ItemScope.{ItemScope}
use Rattle.wac_graph_scopes.specs.declared.used.UsedIndex.{UsedIndex}
use Rattle.wac_graph_scopes.specs.Used.{Used, used_at, put_used}
use Rattle.wac_graph_scopes.proofs.UsedNames.{used_among}
use Rattle.wac_graph_scopes.specs.declared.imports.SortIndex.{SortIndex}
use Rattle.wac_graph_scopes.specs.declared.imports.Importing.{Importing}
use Rattle.wac_graph_scopes.specs.declared.imports.ImportScope.{ImportScope}
use Rattle.wac_graph_scopes.specs.Scopes.{Extends, GoesOn, AreKnown, Exchanges}
use Rattle.wac_types_base.specs.Parts.{exports_in}
use Rattle.wac_types_parts.specs.Parts.{interface_in, exports_of, imports_of, world_exports_of, IsUsedKind, IsOfWorld}
use Rattle.wac_graph_scopes.specs.Items.{IsItemScope, ItemsGo, GivesType, ExportsItem, ExportsIndex, IsInstanceAt, IsTypeItem, IsUsedType, AreUsed, IsSorted, Describes, IsTreeOf, AreTreesOf, StatesComponent, described_as}
use Rattle.wac_graph_scopes.specs.Imports.{NoneWritten, IsImportAt, ArePlaced, WritesWorld, WritesOn, IsSource, HasAlias, HasExported, DescribesIn, DescribesApart, ImportsItem, names_at, IsNewAt, BeginsWorld}
use Rattle.wac_graph_scopes.proofs.ScopeLaws.{Extends-refl, Extends-trans, Extends-one, all_known_kept}
use Rattle.wac_graph_scopes.proofs.ItemLaws.{used_on, item_exchanged, ItemsGo-refl}
use Rattle.wac_graph_scopes.proofs.UsedLaws.{plain_item}
use Rattle.wac_types_parts.proofs.PartLaws.{imports_there, world_exports_there, name_at}
use Rattle.wac_graph_scopes.proofs.FieldLaws.{same_look, written_fields}
use Rattle.wac_graph_scopes.proofs.OrderLaws.{apart}
use Rattle.wac_types_parts.proofs.Lists.{distinct-append, distinct-apart}
use Rattle.wac_graph_scopes.specs.Orders.{IsOrder}
use Rattle.wac_graph_scopes.proofs.WritingLaws.{writes_on, writes_more, value_here}

-- ---- exports of an imported instance

exports_some : (o : Option Interface) (n : Name) (k : ItemKind) → value_at (exports_in o) n ≡ Some k → (x : Interface) × (o ≡ Some x)
exports_some (Some x) n k e = (x, refl)
exports_some None n k e = absurd (cc e)

pub export_tree : (c : Collection) → IsAcyclic c → (id : InterfaceId) (n : Name) (t : Tree) → IsTreeOf c (exports_of c id) n t → export_named n (tree_in c (ItemKind.Instance id)) ≡ Some t
export_tree c acyclic id n t e =
    let x = exports_some (interface_in c id) n e.0 e.1 in
    let own = guarded-some (id.collection == c.number) (slice_get c.interfaces id.index) x.0 x.1 in
    let is = unfolded.instance_tree c acyclic id x.0 own.1 ((Decides-eqb id.collection c.number).0 own.0) in
    let at = ap (λ (o : Option Interface). value_at (exports_in o) n) (sym x.1) ∙ e.1 in
    ap (export_named n) is ∙ same_look n (unfolded.fields_in c x.0.exports) ∙ looked_in c x.0.exports n ∙ ap (option_map (tree_in c)) at ∙ ap Some (sym e.2)

-- it is a source of each type that it exports
pub instance_source : (c : Collection) → IsAcyclic c → (id : InterfaceId) (w : Worlds) (ss : List Scope) (n : Name) (item : ItemKind) (k : ℕ) → IsTreeOf c (exports_of c id) n (tree_in c item) → IsInstanceAt w ss (tree_in c (ItemKind.Instance id)) k → IsSource w ss n (tree_in c item) k
instance_source c acyclic id w ss n item k e h = (tree_in c (ItemKind.Instance id), h, export_tree c acyclic id n (tree_in c item) e)

-- ---- what stands on

pub source_on : (w : Worlds) (g h : Scope) (outer : List Scope) (n : Name) (t : Tree) (k : ℕ) → Extends g h → IsSource w (g ∷ outer) n t k → IsSource w (h ∷ outer) n t k
source_on w g h outer n t k e x = (x.0, (x.1.0, e.indexes sort.Instance k x.1.0 x.1.1, x.1.2), x.2)

pub import_on : (c : Collection) (g h : Scope) (outer : List Scope) (n : Name) (k : ItemKind) (p : SortIndex) → Extends g h → IsImportAt c (g ∷ outer) n k p → IsImportAt c (h ∷ outer) n k p
import_on c g h outer n k p x a = record { sort = a.sort; means = x.indexes p.sort p.index (Item n p.sort (tree_in c k)) a.means }

pub placed_on : (w : Worlds) (c : Collection) (g h : Scope) (outer : List Scope) (is : List (Name × ItemKind)) (ps : List (Option SortIndex)) → Extends g h → ArePlaced w c (g ∷ outer) is ps → ArePlaced w c (h ∷ outer) is ps
placed_on w c g h outer is ps x a at n k p e f = import_on c g h outer n k p x (a at n k p e f)

pub GoesOn-refl : (i : Inside) → GoesOn i i
GoesOn-refl i = record { extends = Extends-refl i.here; imports = refl; exports = refl }

pub items_on : (w : Worlds) (c : Collection) (outer : List Scope) (i j k : Inside) (u : ItemScope) → GoesOn i j → ItemsGo w c outer j k u → GoesOn i k
items_on w c outer i j k u x g = record { extends = Extends-trans i.here j.here k.here x.extends g.extends; imports = g.imports ∙ x.imports; exports = g.exports ∙ x.exports }

-- a name stands at one place
pub one_place : (ns : List Name) (j k : ℕ) (n : Name) → AreDistinct ns → slice_get ns j ≡ Some n → slice_get ns k ≡ Some n → j ≡ k
one_place [] j k n d e f = absurd (cc e)
one_place (m ∷ ns) zero zero n d e f = refl
one_place (m ∷ ns) zero (suc k) n d e f = let same : m ≡ n = cc e in absurd (d.0 (subst (λ (x : Name). Among x ns) (sym same) (among-get ns k n f)))
one_place (m ∷ ns) (suc j) zero n d e f = let same : m ≡ n = cc f in absurd (d.0 (subst (λ (x : Name). Among x ns) (sym same) (among-get ns j n e)))
one_place (m ∷ ns) (suc j) (suc k) n d e f = let same = one_place ns j k n d.1 e f in omega (arith, same)

module _ (w : Worlds) (c : Collection) (outer : List Scope) (world : WorldId) (imported exported : List Name) where
  -- a world is written on from where it is
  pub written : (s : ImportScope) (h : WritesWorld w c outer world s imported exported) → WritesOn w c outer world h.writing.inside s imported exported
  written s h = record { goes = h; on = GoesOn-refl h.writing.inside }

  -- the items' scope goes on
  unfoldable pub world_goes : (s : ImportScope) (u : ItemScope) (h : WritesWorld w c outer world s imported exported) (j : Inside) → ItemsGo w c outer h.writing.inside j u → WritesWorld w c outer world (record s { scope = u }) imported exported
  unfolding writes_on
  world_goes s u h j g = record {
    writing = writes_on w c outer (imports_of c world) (world_exports_of c world) imported exported s.scope u h.writing j g;
    used = used_on w c h.writing.inside.here j.here outer 0 s.used g.extends h.used;
    placed = placed_on w c h.writing.inside.here j.here outer (imports_of c world) s.places.items g.extends h.placed;
    many = h.many;
    have = h.have;
  }

  -- and one more used type is known
  pub world_adds : (i : Inside) (s : ImportScope) (u : ItemScope) (v : Used) (a n : Name) (h : WritesOn w c outer world i s imported exported) (j : Inside) (item : ItemKind) (k : ℕ) → ItemsGo w c outer h.goes.writing.inside j u
      → v ≡ put_used s.used a n (record { item = item; index = k }) → Stands c item → IsUsedKind item → IsTypeItem w (j.here ∷ outer) 0 (tree_in c item) k
      → HasAlias w c outer world i (record s { scope = u; used = v }) imported exported (tree_in c item) (Some k)
  unfolding writes_on world_goes
  world_adds i s u v a n h j item k g e stands kind at =
      let b = world_goes s u h.goes j g in
      let one : UsedIndex = record { item = item; index = k } in
      record {
        goes = record {
          writing = b.writing;
          used = λ y m x f. elim (used_among s.used a n one y m x (subst (λ (l : Used). used_at l y m ≡ Some x) e f)) [
            | inl old ↦ b.used y m x old
            | inr same ↦ subst (λ (y : UsedIndex). IsUsedType w c (j.here ∷ outer) 0 y) (sym same) (record { stands = stands; kind = kind; index = at })
          ];
          placed = b.placed;
          many = b.many;
          have = b.have;
        };
        on = items_on w c outer i h.goes.writing.inside j u h.on g;
        index = at;
      }

  pub world_describes : (i : Inside) (s : ImportScope) (u : ItemScope) (h : WritesOn w c outer world i s imported exported) (n : Name) (kind : ItemKind) (d : Description) → Describes w c outer h.goes.writing.inside kind u d
      → DescribesIn w c outer world i n kind (record s { scope = u }) imported exported d
  unfolding writes_on world_goes
  world_describes i s u h n kind d a = record {
    goes = world_goes s u h.goes a.after a.goes;
    on = items_on w c outer i h.goes.writing.inside a.after u h.on a.goes;
    sorted = a.sorted;
    reads = a.reads n;
  }

  -- so of another collection, of whose types others are known
  pub world_apart : (other : Collection) (i : Inside) (s : ImportScope) (u : ItemScope) (t : TypeScope) (ks ls : KnownTypes) (h : WritesOn w c outer world i s imported exported) (kind : ItemKind) (d : Description)
      → Describes w other outer h.goes.writing.inside kind u d → AreKnown w (h.goes.writing.inside.here ∷ outer) c ks → Exchanges u.types ks t ls
      → DescribesApart w c other outer world i kind (record s { scope = record u { types = t } }) ls imported exported d
  unfolding writes_on world_goes
  world_apart other i s u t ks ls h kind d a known e =
      let j = a.after in
      let last : ItemScope = record u { types = t } in
      let x = item_exchanged w other c outer j u t ks ls e a.goes.stands (all_known_kept w c h.goes.writing.inside.here j.here outer ks a.goes.extends known) in
      let g : ItemsGo w c outer h.goes.writing.inside j last = record { stands = x.0; extends = a.goes.extends; imports = a.goes.imports; exports = a.goes.exports } in
      record {
        goes = world_goes s last h.goes j g;
        on = items_on w c outer i h.goes.writing.inside j last h.on g;
        known = x.1;
        sorted = a.sorted;
        reads = a.reads;
      }

  -- what is remembered changes
  pub world_noted : (i : Inside) (s : ImportScope) (u : ItemScope) (h : WritesWorld w c outer world s imported exported) → GoesOn i h.writing.inside → IsItemScope w c outer h.writing.inside u
      → WritesOn w c outer world i (record s { scope = u }) imported exported
  unfolding writes_on world_goes
  world_noted i s u h x g = record { goes = world_goes s u h h.writing.inside (ItemsGo-refl w c outer h.writing.inside u g); on = x }

  -- one more export
  pub world_exports : (s : ImportScope) (u : ItemScope) (h : WritesWorld w c outer world s imported exported) (n : Name) (t : Tree) (more : List Name) → IsTreeOf c (world_exports_of c world) n t → ExportsItem w c outer h.writing.inside n t u
      → (Among n exported → ⊥) → more ≡ put_name exported n → WritesWorld w c outer world (record s { scope = u }) imported more
  unfolding writes_more
  world_exports s u h n t more is a new e = record {
    writing = writes_more w c outer (imports_of c world) (world_exports_of c world) imported exported s.scope u h.writing n t more is a new e;
    used = used_on w c h.writing.inside.here a.after.here outer 0 s.used a.extends h.used;
    placed = placed_on w c h.writing.inside.here a.after.here outer (imports_of c world) s.places.items a.extends h.placed;
    many = h.many;
    have = h.have;
  }

  pub world_exports_indexed : (s : ImportScope) (u : ItemScope) (h : WritesWorld w c outer world s imported exported) (n : Name) (kind : ItemKind) (more : List Name) (k : ℕ) → IsTreeOf c (world_exports_of c world) n (tree_in c kind)
      → ExportsIndex w c outer h.writing.inside n kind u k → (Among n exported → ⊥) → more ≡ put_name exported n → HasExported w c outer world n kind (record s { scope = u }) imported more k
  unfolding writes_more world_exports
  world_exports_indexed s u h n kind more k is a new e = record { goes = world_exports s u h n (tree_in c kind) more is a.exported new e; means = a.means }

  -- one more import, which is written at its place
  pub world_imports : (s t : ImportScope) (h : WritesWorld w c outer world s imported exported) (n : Name) (kind : ItemKind) (d : Description) (at : ℕ) (p : SortIndex) → slice_get (imports_of c world) at ≡ Some (n, kind)
      → AreDistinct (names_of (imports_of c world)) → IsSorted kind d → ImportsItem w c outer h.writing.inside n (tree_in c kind) d t.scope p → t.used ≡ s.used → t.places.items ≡ slice_set s.places.items at (Some p)
      → (Among n imported → ⊥) → WritesWorld w c outer world t (imported ++ n ∷ []) exported
  world_imports s t h n kind d at p there distinct sorted a us ps new =
      let i = h.writing.inside in
      let is = imports_of c world in
      let tree = tree_in c kind in
      let k = h.writing in
      record {
        writing = record {
          inside = a.after;
          stands = a.stands;
          imports = ap (λ (l : List (Name × Tree)). names_of l) a.imports ∙ map_push (λ (x : Name × Tree). x.0) i.imports (n, tree) ∙ ap (λ (l : List Name). l ++ n ∷ []) k.imports;
          imports_once = distinct-append imported (n ∷ []) k.imports_once ((λ m. m), tt) (λ m x y. elim y [ inl q ↦ new (subst (λ (z : Name). Among z imported) q x) | inr z ↦ z ]);
          import_trees = λ m v among. elim (Among-last i.imports (n, tree) (m, v) (subst (λ (l : List (Name × Tree)). Among (m, v) l) a.imports among)) [
            | inl b ↦ k.import_trees m v b
            | inr q ↦ (kind, ap (value_at is) (ap (λ x. x.0) q) ∙ value_here is at n kind distinct there, ap (λ x. x.1) q)
          ];
          exports = ap (λ (l : List (Name × Tree)). names_of l) a.exports ∙ k.exports;
          exports_once = k.exports_once;
          export_trees = subst (AreTreesOf c (world_exports_of c world)) (sym a.exports) k.export_trees;
        };
        used = subst (AreUsed w c (a.after.here ∷ outer) 0) (sym us) (used_on w c i.here a.after.here outer 0 s.used a.extends h.used);
        placed = λ x m l q e f. elim (apart x at (eqb x at) refl) [
          | inl same ↦
              let lt = slice_get_within (slice_set s.places.items at (Some p)) x (Some q) (ap (λ l. slice_get l x) (sym ps) ∙ f) in
              let within : at < length s.places.items = omega (arith, lt, length-set s.places.items at (Some p), same) in
              let now : Some (Some q) ≡ Some (Some p) = sym (ap (λ l. slice_get l x) (sym ps) ∙ f) ∙ ap (slice_get (slice_set s.places.items at (Some p))) same ∙ slice_get-set_same s.places.items at (Some p) within in
              let is_p : q ≡ p = cc now in
              let is_k : (m, l) ≡ (n, kind) = cc (e, there, same) in
              let there_now : IsImportAt c (a.after.here ∷ outer) n kind p = record { sort = sorted ∙ ap Some (sym a.sort_is); means = a.means } in
              subst (λ (z : SortIndex). IsImportAt c (a.after.here ∷ outer) m l z) (sym is_p)
              (subst (λ (y : Name × ItemKind). IsImportAt c (a.after.here ∷ outer) y.0 y.1 p) (sym is_k) there_now)
          | inr other ↦ import_on c i.here a.after.here outer m l q a.extends (h.placed x m l q e (sym (slice_get-set_other s.places.items at x (Some p) other) ∙ ap (λ l. slice_get l x) (sym ps) ∙ f))
        ];
        many = ap length ps ∙ length-set s.places.items at (Some p) ∙ h.many;
        have = λ x m e among. elim (apart x at (eqb x at) refl) [
          | inl same ↦
              let lt = slice_get_within is at (n, kind) there in
              let within : at < length s.places.items = omega (arith, lt, h.many) in
              (p, ap (λ l. slice_get l x) ps ∙ ap (slice_get (slice_set s.places.items at (Some p))) same ∙ slice_get-set_same s.places.items at (Some p) within)
          | inr other ↦
              let own : Among m imported = elim (Among-last imported n m among) [
                | inl before ↦ before
                | inr q ↦ absurd (other (one_place (names_of is) x at m distinct e (map-get (λ (y : Name × ItemKind). y.0) is at (n, kind) there ∙ ap Some (sym q))))
              ] in
              let before = h.have x m e own in
              (before.0, ap (λ l. slice_get l x) ps ∙ slice_get-set_other s.places.items at x (Some p) other ∙ before.1)
        ];
      }

-- ---- beginning

pub world_begun : (a : Importing) (s : ImportScope) → ((w : Worlds) (c : Collection) (outer : List Scope) → IsItemScope w c outer nothing_inside s.scope) → s.used ≡ [] → NoneWritten s.places.items
    → length s.places.items ≡ length (imports_of a.types.now a.world) → BeginsWorld a s
world_begun a s h us ps many w outer = record {
  writing = record { inside = nothing_inside; stands = h w a.types.now outer; imports = refl; imports_once = tt; import_trees = λ n t m. absurd m; exports = refl; exports_once = tt; export_trees = λ n t m. absurd m };
  used = λ j n u m. absurd (cc (subst (λ (l : Used). used_at l j n ≡ Some u) us m));
  placed = λ at n k p e f. absurd (ps at p f);
  many = many;
  have = λ at n e among. absurd among;
}

pub none_pushed : (ps : List (Option SortIndex)) → NoneWritten ps → NoneWritten (ps ++ None ∷ [])
none_pushed [] h zero p e = absurd (cc e)
none_pushed [] h (suc k) p e = absurd (cc e)
none_pushed (x ∷ ps) h zero p e = h zero p e
none_pushed (x ∷ ps) h (suc k) p e = none_pushed ps (λ j q f. h (suc j) q f) k p e

-- ---- one import

module _ (w : Worlds) (c : Collection) (outer : List Scope) (i : Inside) where
  pub import_declared : (n : String Global) (d : Description) (x : Sort × Tree) → described w (i.here ∷ outer) (string_bytes n) d ≡ Some x → declared w outer i (before (Import n d) End) ≡ Some (imports_inside (string_bytes n) x i)
  unfolding declared
  import_declared n d x e = ap (λ (o : Option (Sort × Tree)). o >>= λ y. Some (imports_inside (string_bytes n) y i)) e

  pub imported_item : (m n : Name) (t : Tree) (d : Description) (u : ItemScope) (k : ℕ) → m ≡ n → IsItemScope w c outer (imports_inside m (description_sort d, t) i) u → k ≡ length (space (description_sort d) i.here)
      → ImportsItem w c outer i n t d u (record { sort = description_sort d; index = k })
  imported_item m n t d u k e h at = record {
    after = imports_inside m (description_sort d, t) i;
    stands = h;
    extends = Extends-one (description_sort d) (Item m (description_sort d) t) i.here;
    imports = ap (λ (x : Name). i.imports ++ (x, t) ∷ []) e;
    exports = refl;
    sort_is = refl;
    means = last_of (description_sort d) (Item m (description_sort d) t) i.here k at ∙ ap (λ (x : Name). Some (Item x (description_sort d) t)) e;
  }

-- ---- in order

pub names_at-append : (ns : List Name) (ks ls : List ℕ) → names_at ns (ks ++ ls) ≡ names_at ns ks ++ names_at ns ls
names_at-append ns [] ls = refl
names_at-append ns (k ∷ ks) ls = ap (λ l. option_to_list (slice_get ns k) ++ l) (names_at-append ns ks ls) ∙ sym (append_assoc (option_to_list (slice_get ns k)) (names_at ns ks) (names_at ns ls))

one_name : (n : Name) (o : Option Name) → Among n (option_to_list o) → o ≡ Some n
one_name n (Some m) (inl e) = ap Some (sym e)
one_name n (Some m) (inr x) = absurd x
one_name n None x = absurd x

pub named_place : (ns : List Name) (ks : List ℕ) (n : Name) → Among n (names_at ns ks) → (k : ℕ) × Among k ks × (slice_get ns k ≡ Some n)
named_place ns [] n m = absurd m
named_place ns (k ∷ ks) n m = elim (among_split n (option_to_list (slice_get ns k)) (names_at ns ks) m) [
  | inl a ↦ (k, inl refl, one_name n (slice_get ns k) a)
  | inr b ↦ let r = named_place ns ks n b in (r.0, inr r.1, r.2)
]

pub place_named : (ns : List Name) (ks : List ℕ) (k : ℕ) (n : Name) → Among k ks → slice_get ns k ≡ Some n → Among n (names_at ns ks)
place_named ns [] k n m e = absurd m
place_named ns (l ∷ ks) k n (inl same) e =
    let here : slice_get ns l ≡ Some n = ap (slice_get ns) (sym same) ∙ e in
    Among-left n (option_to_list (slice_get ns l)) (names_at ns ks) (subst (λ (o : Option Name). Among n (option_to_list o)) (sym here) (inl refl))
place_named ns (l ∷ ks) k n (inr m) e = Among-right n (option_to_list (slice_get ns l)) (names_at ns ks) (place_named ns ks k n m e)

pub place_of_name : (ns : List Name) (n : Name) → Among n ns → (k : ℕ) × (slice_get ns k ≡ Some n)
place_of_name [] n m = absurd m
place_of_name (x ∷ ns) n (inl e) = (zero, ap Some (sym e))
place_of_name (x ∷ ns) n (inr m) = let r = place_of_name ns n m in (suc r.0, r.1)

-- ---- the whole world

pub states_component : (w : Worlds) (c : Collection) → IsAcyclic c → (outer : List Scope) (id : WorldId) (s : ImportScope) (imported exported : List Name) → Stands c (ItemKind.Component id) → WritesWorld w c outer id s imported exported
    → ((n : Name) → Among n (names_of (imports_of c id)) → Among n imported) → ((n : Name) → Among n (names_of (world_exports_of c id)) → Among n exported)
    → StatesComponent w outer (tree_in c (ItemKind.Component id)) (declarations_of s.scope.types.declarations.items)
states_component w c acyclic outer id s imported exported stands h all_in all_out =
    let x = world_found c id stands in
    let k = h.writing in
    let i = k.inside in
    let ins = imports_there c id x.value x.at x.own in
    let outs = world_exports_there c id x.value x.at x.own in
    let once_in = subst AreDistinct (sym k.imports) k.imports_once in
    let once_out = subst AreDistinct (sym k.exports) k.exports_once in
    let in_trees = subst (λ (l : List (Name × ItemKind)). AreTreesOf c l i.imports) ins k.import_trees in
    let out_trees = subst (λ (l : List (Name × ItemKind)). AreTreesOf c l i.exports) outs k.export_trees in
    let in_all = λ (n : Name) (m : Among n (names_of x.value.imports)). subst (λ (l : List Name). Among n l) (sym k.imports) (all_in n (subst (λ (l : List (Name × ItemKind)). Among n (names_of l)) (sym ins) m)) in
    let out_all = λ (n : Name) (m : Among n (names_of x.value.exports)). subst (λ (l : List Name). Among n l) (sym k.exports) (all_out n (subst (λ (l : List (Name × ItemKind)). Among n (names_of l)) (sym outs) m)) in
    let distinct = and_from (distinct_names (names_of i.imports)) (distinct_names (names_of i.exports)) ((distinct_decides (names_of i.imports)).1 once_in) ((distinct_decides (names_of i.exports)).1 once_out) in
    ap (λ (o : Option Inside). o >>= typing.component_tree) k.stands.written.reads
    ∙ ap (λ (b : Bool). some_if b (component (fields_in i.imports) (fields_in i.exports))) distinct
    ∙ ap (λ f. Some (component f (fields_in i.exports))) (written_fields c x.value.imports i.imports once_in in_trees in_all)
    ∙ ap (λ f. Some (component (unfolded.fields_in c x.value.imports) f)) (written_fields c x.value.exports i.exports once_out out_trees out_all)
    ∙ ap Some (sym (unfolded.component_tree c acyclic id x.value x.at x.own))

module _ (c : Collection) (acyclic : IsAcyclic c) where
  pub component_described : (w : Worlds) (outer : List Scope) (i : Inside) (kind : ItemKind) (id : WorldId) (s : ItemScope) (k : ℕ) → IsOfWorld kind id → Stands c kind → GivesType w c outer i (tree_in c (ItemKind.Component id)) s k
      → Describes w c outer i kind s (described_as kind k)
  component_described w outer i (ItemKind.Component j) id s k is stands a =
      let x = world_found c j stands in
      let same = ap (λ (f : WorldId). tree_in c (ItemKind.Component f)) is in
      let t = unfolded.component_tree c acyclic j x.value x.at x.own in
      let sorted : as_sort sort.Component (tree_in c (ItemKind.Component j)) ≡ Some (tree_in c (ItemKind.Component j)) = ap (as_sort sort.Component) t ∙ ap Some (sym t) in
      record {
        after = a.after;
        goes = a.goes;
        sorted = refl;
        reads = λ n. ap (λ (o : Option Tree). o >>= as_sort sort.Component >>= λ t. Some (sort.Component, t)) (a.index ∙ ap Some (sym same)) ∙ ap (λ (o : Option Tree). o >>= λ t. Some (sort.Component, t)) sorted;
      }
  component_described w outer i (ItemKind.Ty (TypeKind.World j)) id s k is stands a =
      let same = ap (λ (f : WorldId). tree_in c (ItemKind.Component f)) is in
      let there = stands_typed_world c j stands in
      let plain = plain_item (tree_in c (ItemKind.Component j)) (λ e. absurd (cc (e, kind_is c acyclic (ItemKind.Component j) there))) in
      let item = plain ∙ sym (unfolded.type_world c acyclic j stands) in
      record {
        after = a.after;
        goes = a.goes;
        sorted = refl;
        reads = λ n. ap (λ (o : Option Tree). o >>= λ t. Some (sort.Ty, item_of t)) (a.index ∙ ap Some (sym same)) ∙ ap (λ (x : Tree). Some (sort.Ty, x)) item;
      }
  component_described w outer i (ItemKind.Ty (TypeKind.Resource j)) id s k is stands a = absurd is
  component_described w outer i (ItemKind.Ty (TypeKind.Func j)) id s k is stands a = absurd is
  component_described w outer i (ItemKind.Ty (TypeKind.Value j)) id s k is stands a = absurd is
  component_described w outer i (ItemKind.Ty (TypeKind.Interface j)) id s k is stands a = absurd is
  component_described w outer i (ItemKind.Ty (TypeKind.Module j)) id s k is stands a = absurd is
  component_described w outer i (ItemKind.Func j) id s k is stands a = absurd is
  component_described w outer i (ItemKind.Instance j) id s k is stands a = absurd is
  component_described w outer i (ItemKind.Module j) id s k is stands a = absurd is
  component_described w outer i (ItemKind.Value j) id s k is stands a = absurd is

pub world_stands : (c : Collection) (kind : ItemKind) (id : WorldId) → IsOfWorld kind id → Stands c kind → Stands c (ItemKind.Component id)
world_stands c (ItemKind.Component j) id is s = subst (λ (f : WorldId). Stands c (ItemKind.Component f)) is s
world_stands c (ItemKind.Ty (TypeKind.World j)) id is s = subst (λ (f : WorldId). Stands c (ItemKind.Component f)) is (stands_typed_world c j s)
world_stands c (ItemKind.Ty (TypeKind.Resource j)) id is s = absurd is
world_stands c (ItemKind.Ty (TypeKind.Func j)) id is s = absurd is
world_stands c (ItemKind.Ty (TypeKind.Value j)) id is s = absurd is
world_stands c (ItemKind.Ty (TypeKind.Interface j)) id is s = absurd is
world_stands c (ItemKind.Ty (TypeKind.Module j)) id is s = absurd is
world_stands c (ItemKind.Func j) id is s = absurd is
world_stands c (ItemKind.Instance j) id is s = absurd is
world_stands c (ItemKind.Module j) id is s = absurd is
world_stands c (ItemKind.Value j) id is s = absurd is

-- ---- all of them

module _ (ns : List Name) (sources others : List ℕ) (o : IsOrder (length ns) sources others) where
  pub all_named : (n : Name) → Among n ns → Among n (([] ++ names_at ns sources) ++ names_at ns others)
  all_named n m =
      let p = place_of_name ns n m in
      let there = o.all p.0 (slice_get_within ns p.0 n p.1) in
      subst (λ (l : List Name). Among n l) (names_at-append ns sources others) (place_named ns (sources ++ others) p.0 n there p.1)

  -- no source is among the others
  pub others_new : AreDistinct ns → (k : ℕ) → Among k others → IsNewAt ns k ([] ++ names_at ns sources)
  others_new d k m n at among =
      let p = named_place ns sources n among in
      let same = one_place ns p.0 k n d p.2 at in
      distinct-apart k sources others o.distinct (subst (λ (j : ℕ). Among j sources) same p.1) m

-- the next of them is new
pub next_new : (ns : List Name) (order : List ℕ) (imported : List Name) (i k : ℕ) → AreDistinct ns → AreDistinct order → ((j : ℕ) → Among j order → IsNewAt ns j imported) → slice_get order i ≡ Some k
    → IsNewAt ns k (imported ++ names_at ns (take i order))
next_new ns order imported i k d e new at n there among = elim (among_split n imported (names_at ns (take i order)) among) [
  | inl a ↦ new k (among-get order i k at) n there a
  | inr b ↦
      let p = named_place ns (take i order) n b in
      let same = one_place ns p.0 k n d p.2 there in
      distinct-before order i k e at (subst (λ (j : ℕ). Among j (take i order)) same p.1)
]

pub next_names : (ns : List Name) (order : List ℕ) (imported : List Name) (i k : ℕ) → slice_get order i ≡ Some k
    → (imported ++ names_at ns (take i order)) ++ option_to_list (slice_get ns k) ≡ imported ++ names_at ns (take (i + 1) order)
next_names ns order imported i k at =
    append_assoc imported (names_at ns (take i order)) (option_to_list (slice_get ns k))
    ∙ ap (λ l. imported ++ l) (ap (λ l. names_at ns (take i order) ++ l) (sym (append-nil (option_to_list (slice_get ns k)))) ∙ sym (names_at-append ns (take i order) (k ∷ [])) ∙ ap (names_at ns) (sym (take-one_more order i k at)))

pub no_name_at : {T : Type 0} (es : List (Name × T)) (at : ℕ) (imported : List Name) → length es ≤ at → imported ++ option_to_list (slice_get (names_of es) at) ≡ imported
no_name_at es at imported le =
    let past : length (names_of es) ≤ at = omega (arith, le, length-map es (λ e. e.0)) in
    ap (λ (o : Option Name). imported ++ option_to_list o) (slice_get_past (names_of es) at past) ∙ append-nil imported

pub name_added : {T : Type 0} (es : List (Name × T)) (at : ℕ) (n : Name) (v : T) (imported : List Name) → slice_get es at ≡ Some (n, v) → imported ++ n ∷ [] ≡ imported ++ option_to_list (slice_get (names_of es) at)
name_added es at n v imported e = ap (λ (o : Option Name). imported ++ option_to_list o) (sym (name_at es at n v e))

pub ordered_names : {T : Type 0} (es : List (Name × T)) (sources others : List ℕ) → IsOrder (length es) sources others → IsOrder (length (names_of es)) sources others
ordered_names es sources others o = let same : length es ≡ length (names_of es) = omega (arith, length-map es (λ e. e.0)) in subst (λ (n : ℕ). IsOrder n sources others) same o
