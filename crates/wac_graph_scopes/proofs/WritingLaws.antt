-- The items of an interface, one after another.
use Rattle.std.proofs.Common.{is_some, ◌≡◌, ℕ, zero, suc, ◌+◌, ◌≤◌, Bool, true, false, List, [], ◌∷◌, ◌++◌, length, take, Option, Some, refl, sym, ap, ◌∙◌, subst, arith, slice_get, inl, inr, string_bytes}
use Rattle.std.specs.Prelude.{String, ◌⊎◌, ◌||◌, ◌==◌}
use Rattle.std.specs.Global.{Global}
use Rattle.std.specs.declared.vec.Vec.{Vec}
use Rattle.std.specs.Cmp.Lexicographic.{pointwise}
use Rattle.std.proofs.lemmas.List.{map_push, take_all, length-map}
use Rattle.std.proofs.lemmas.Option.{same_Some}
use Rattle.std.proofs.lemmas.Slice.Eq.{bytes_eq-Decides}
use Rattle.wac_types_base.specs.declared.ids.InterfaceId.{InterfaceId}
use Rattle.wac_types_base.specs.declared.ids.FuncTypeId.{FuncTypeId}
use Rattle.wac_types_base.specs.declared.ids.ModuleTypeId.{ModuleTypeId}
use Rattle.wac_types_base.specs.declared.ids.WorldId.{WorldId}
use Rattle.wac_types_base.specs.declared.ids.ResourceId.{ResourceId}
use Rattle.wac_types_base.specs.declared.defined.Interface.{Interface}
use Rattle.wac_types_base.specs.declared.item.«Type».{«Type» as TypeKind}
use Rattle.wac_types_base.specs.declared.item.ItemKind.{ItemKind}
use Rattle.wac_types_base.specs.declared.item.ValueType.{ValueType}
use Rattle.wac_types_base.specs.Record.{Collection}
use Rattle.wac_types_base.specs.Graph.{Among}
use Rattle.wac_types_base.specs.Entries.{Name, names_of, value_at, has_name, put_name, AreDistinct}
use Rattle.wac_types_base.specs.Collection.{Stands, IsAcyclic, item_node, resource}
use Rattle.wac_types_base.specs.Tree.{Tree, rigid, end}
use Rattle.wac_types_base.proofs.Looked.{put_name-new, take-one_more, among-get}
use Rattle.wac_types_base.proofs.Adding.{Among-left, Among-right}
use Rattle.wac_types_base.proofs.Standing.{is_some-labelled, func_found, interface_found}
use Rattle.wac_types_base.proofs.Slots.{stands_typed_interface}
use Rattle.wac_types_base.proofs.Walking.{some_place}
use Rattle.wac_types_fit.specs.Trees.{tree_in}
use Rattle.wac_types_fit.proofs.Items.{Among-last, among-value_at}
use Rattle.wac_types_fit.proofs.Unfolded.{func_tree, type_interface, instance_tree}
use Rattle.wac_types_fit.proofs.ItemKinds.{resource_is, kind_is}
use Rattle.wac_graph_bytes.specs.declared.value.Sort.{Sort}
use Rattle.wac_graph_bytes.specs.declared.value.Sort.TheVariants as sort
use Rattle.wac_graph_bytes.specs.declared.value.Description.{Description}
use Rattle.wac_graph_bytes.specs.declared.value.Description.TheVariants as desc
use Rattle.wac_graph_bytes.specs.declared.entry.Declaration.{Declaration, Module, Export, InstanceType, ComponentType}
use Rattle.wac_graph_bytes.specs.declared.module.CoreDeclaration.{CoreDeclaration as CodeCore}
use Rattle.wac_graph_bytes.specs.Counting.{description_sort}
use Rattle.wac_graph_bytes.specs.Entries.{End}
use Rattle.wac_graph_bytes.specs.Typing as typing
use Rattle.wac_graph_bytes.specs.Typing.{◌>>=◌, Worlds, Meaning, Item, Known, Scope, space, with_one, Inside, nothing_inside, adds_inside, imports_inside, exports_inside, declared, described, found, type_tree, type_at, item_of, as_func, as_sort, module_tree, instance_by}
use Rattle.wac_graph_bytes.specs.Views.{before, declarations_of, module_view}
use Rattle.wac_graph_bytes.proofs.Steps.{get_last, some_is, last_of}
use Rattle.wac_graph_bytes.proofs.Rows.{before_instance, before_component}
use Rattle.wac_graph_scopes.specs.declared.scope.TypeScope.{TypeScope}
use Rattle.wac_graph_scopes.specs.declared.items.ItemScope.{ItemScope}
use Rattle.wac_graph_scopes.specs.Scopes.{AnswersType, ExportsType, IsTypeDeclaration}
use Rattle.wac_graph_scopes.proofs.ScopeLaws.{type_stated}
use Rattle.wac_types_parts.specs.Parts.{exports_of, IsOfInterface, IsOfWorld}
use Rattle.wac_graph_scopes.specs.Items.{IsItemScope, ItemsGo, GivesType, ExportsItem, ExportsIndex, IsTypeItem, IsNotable, IsSorted, Describes, IsTreeOf, AreTreesOf, Writing, adds_core, HasCore, GivesCore, GivesItem, MayExport, WritesSome, GrowsBy, StatesInstance, StatesComponent, HasType, described_as, HasEntry, IsNoResource}
use Rattle.wac_graph_scopes.proofs.ScopeLaws.{Extends-one}
use Rattle.wac_graph_scopes.proofs.ItemLaws.{ItemsGo-refl, ItemsGo-trans, types_go, export_follows}
use Rattle.wac_graph_scopes.proofs.UsedLaws.{plain_item}
use Rattle.wac_graph_scopes.proofs.FieldLaws.{written_instance}
use Rattle.wac_types_parts.proofs.Lists.{distinct-append}
use Rattle.wac_types_base.proofs.Lists.{no_entries}

-- ---- names

pub among_has : (ms : List Name) (n : Name) → has_name ms n ≡ true → Among n ms
among_has [] n e = absurd (cc e)
among_has (x ∷ ms) n e = go (pointwise ◌==◌ n x) refl e (among_has ms n)
  where
    go : (b : Bool) → pointwise ◌==◌ n x ≡ b → (b || has_name ms n) ≡ true → (has_name ms n ≡ true → Among n ms) → Among n (x ∷ ms)
    go true q h f = inl ((bytes_eq-Decides n x).0 q)
    go false q h f = inr (f h)

-- a name that is put there, and those that were
pub put_there : (ms : List Name) (n : Name) → Among n (put_name ms n)
put_there ms n = go (has_name ms n) refl
  where
    go : (b : Bool) → has_name ms n ≡ b → Among n (put_name ms n)
    go true q = subst (λ (l : List Name). Among n l) (sym (rw q refl)) (among_has ms n q)
    go false q = subst (λ (l : List Name). Among n l) (sym (rw q refl)) (Among-right n ms (n ∷ []) (inl refl))

pub put_keeps : (ms : List Name) (n m : Name) → Among m ms → Among m (put_name ms n)
put_keeps ms n m a = go (has_name ms n) refl
  where
    go : (b : Bool) → has_name ms n ≡ b → Among m (put_name ms n)
    go true q = subst (λ (l : List Name). Among m l) (sym (rw q refl)) a
    go false q = subst (λ (l : List Name). Among m l) (sym (rw q refl)) (Among-left m ms (n ∷ []) a)

none_taken : {X : Type 0} (x : X) (xs : List X) → Among x (take zero xs) → ⊥
none_taken x [] m = m
none_taken x (y ∷ xs) m = m

take_suc : {X : Type 0} (x : X) (xs : List X) (n : ℕ) → Among x (take n xs) → Among x (take (suc n) xs)
take_suc x [] zero m = absurd m
take_suc x [] (suc n) m = absurd m
take_suc x (y ∷ xs) zero m = absurd m
take_suc x (y ∷ xs) (suc n) (inl e) = inl e
take_suc x (y ∷ xs) (suc n) (inr m) = inr (take_suc x xs n m)

pub take_more : {X : Type 0} (x : X) (xs : List X) (n : ℕ) → Among x (take n xs) → Among x (take (n + 1) xs)
take_more x xs n m = let same : suc n ≡ n + 1 = omega arith in subst (λ (k : ℕ). Among x (take k xs)) same (take_suc x xs n m)

take_or_suc : {X : Type 0} (x : X) (xs : List X) (n : ℕ) → Among x (take (suc n) xs) → Among x (take n xs) ⊎ (slice_get xs n ≡ Some x)
take_or_suc x [] n m = absurd m
take_or_suc x (y ∷ xs) zero (inl e) = inr (ap Some (sym e))
take_or_suc x (y ∷ xs) zero (inr m) = absurd (none_taken x xs m)
take_or_suc x (y ∷ xs) (suc n) (inl e) = inl (inl e)
take_or_suc x (y ∷ xs) (suc n) (inr m) = elim (take_or_suc x xs n m) [ inl a ↦ inl (inr a) | inr b ↦ inr b ]

-- it is the next, or an earlier one
pub take_or : {X : Type 0} (x : X) (xs : List X) (n : ℕ) → Among x (take (n + 1) xs) → Among x (take n xs) ⊎ (slice_get xs n ≡ Some x)
take_or x xs n m = let same : n + 1 ≡ suc n = omega arith in take_or_suc x xs n (subst (λ (k : ℕ). Among x (take k xs)) same m)

pub all_taken : {T : Type 0} (es : List (Name × T)) (n : Name) → Among n (names_of es) → Among n (take (length es) (names_of es))
all_taken es n m =
    let le : length (names_of es) ≤ length es = omega (arith, length-map es (λ e. e.0)) in
    subst (λ (l : List Name). Among n l) (sym (take_all (length es) (names_of es) le)) m

-- the next name, or an earlier one
pub take_next : {X : Type 0} (x y : X) (xs : List X) (n : ℕ) → slice_get xs n ≡ Some y → Among x (take (n + 1) xs) → Among x (take n xs) ⊎ (x ≡ y)
take_next x y xs n at m = Among-last (take n xs) y x (subst (λ (l : List _). Among x l) (take-one_more xs n y at) m)

pub take_last : {X : Type 0} (x : X) (xs : List X) (n : ℕ) → slice_get xs n ≡ Some x → Among x (take (n + 1) xs)
take_last x xs n at = subst (λ (l : List _). Among x l) (sym (take-one_more xs n x at)) (Among-right x (take n xs) (x ∷ []) (inl refl))

pub past_names : {T : Type 0} (es : List (Name × T)) (i : ℕ) (n : Name) → length es ≤ i → slice_get (names_of es) i ≡ Some n → ⊥
past_names es i n le at = absurd (omega (arith, some_place (names_of es) i n at, length-map es (λ e. e.0), le))

-- the item at a place has its name's value
pub value_here : {T : Type 0} (es : List (Name × T)) (i : ℕ) (n : Name) (k : T) → AreDistinct (names_of es) → slice_get es i ≡ Some (n, k) → value_at es n ≡ Some k
value_here es i n k d at = among-value_at es n k d (among-get es i (n, k) at)

-- ---- types of things

module _ (w : Worlds) (c : Collection) (outer : List Scope) (i : Inside) where
  pub gives_of : (t : Tree) (s : ItemScope) (u : TypeScope) (k : ℕ) → IsItemScope w c outer i s → AnswersType w c outer i t u k → GivesType w c outer i t (record s { types = u }) k
  gives_of t s u k h a = record { after = a.after; goes = types_go w c outer i a.after s u h a.goes; index = a.index }

  pub item_of_type : (t x : Tree) (s : ItemScope) (k : ℕ) → item_of x ≡ t → GivesType w c outer i x s k → GivesItem w c outer i t s k
  item_of_type t x s k e a = record { after = a.after; goes = a.goes; index = record { there = x; item = e; reads = a.index } }

  pub resource_there : IsAcyclic c → (r : ResourceId) (s : ItemScope) (k : ℕ) → Stands c (ItemKind.Ty (TypeKind.Resource r)) → IsItemScope w c outer i s → type_at w (i.here ∷ outer) k ≡ Some (tree_in c (ItemKind.Ty (TypeKind.Resource r)))
      → GivesItem w c outer i (tree_in c (ItemKind.Ty (TypeKind.Resource r))) s k
  resource_there a r s k stands h e =
      let n = resource_is c a r stands in
      record { after = i; goes = ItemsGo-refl w c outer i s h; index = record { there = rigid (resource n.0) end; item = sym n.1; reads = e ∙ ap Some n.1 } }

  -- what is so described
  pub type_described : (t : TypeKind) (s : ItemScope) (k : ℕ) → GivesItem w c outer i (tree_in c (ItemKind.Ty t)) s k → Describes w c outer i (ItemKind.Ty t) s (desc.Equal k)
  type_described t s k a = record {
    after = a.after;
    goes = a.goes;
    sorted = refl;
    reads = λ n. ap (λ (o : Option Tree). o >>= λ t. Some (sort.Ty, item_of t)) a.index.reads ∙ ap (λ (x : Tree). Some (sort.Ty, x)) a.index.item;
  }

  pub func_described : IsAcyclic c → (f : FuncTypeId) (s : ItemScope) (k : ℕ) → Stands c (ItemKind.Func f) → GivesType w c outer i (tree_in c (ItemKind.Func f)) s k → Describes w c outer i (ItemKind.Func f) s (desc.Func k)
  func_described acyclic f s k stands a =
      let x = func_found c f stands in
      let t = func_tree c acyclic f x.value x.at x.own in
      let is : as_func (tree_in c (ItemKind.Func f)) ≡ Some (tree_in c (ItemKind.Func f)) = ap as_func t ∙ ap Some (sym t) in
      record {
        after = a.after;
        goes = a.goes;
        sorted = refl;
        reads = λ n. ap (λ (o : Option Tree). o >>= as_sort sort.Func >>= λ t. Some (sort.Func, t)) a.index ∙ ap (λ (o : Option Tree). o >>= λ t. Some (sort.Func, t)) is;
      }

-- ---- core module types

pub core_reads : (w : Worlds) (outer : List Scope) (i : Inside) (ds : Vec CodeCore Global) (t : Tree) → module_tree (module_view ds.items) ≡ Some t → declared w outer i (before (Module ds) End) ≡ Some (adds_core t i)
unfolding declared
core_reads w outer i ds t e = ap (λ (o : Option Tree). o >>= λ t. Some (adds_core t i)) e

pub core_given : (w : Worlds) (c : Collection) (outer : List Scope) (i : Inside) (t : Tree) (s : ItemScope) (k : ℕ) → HasCore w c outer i t s k → GivesCore w c outer i t s k
core_given w c outer i t s k h = record { after = adds_core t i; goes = h.goes; index = get_last i.here.cores t k h.index }

pub module_described : (w : Worlds) (c : Collection) (outer : List Scope) (i : Inside) (m : _) (s : ItemScope) (k : ℕ) → GivesCore w c outer i (tree_in c (ItemKind.Module m)) s k → Describes w c outer i (ItemKind.Module m) s (desc.Module k)
module_described w c outer i m s k a = record {
  after = a.after;
  goes = a.goes;
  sorted = refl;
  reads = λ n. ap (λ (o : Option Tree). o >>= λ t. Some (sort.Module, t)) a.index;
}

pub describes_kind : (w : Worlds) (c : Collection) (outer : List Scope) (i : Inside) (j k : ItemKind) (s : ItemScope) (d : Description) → k ≡ j → Describes w c outer i j s d → Describes w c outer i k s d
describes_kind w c outer i j k s d e a = subst (λ (x : ItemKind). Describes w c outer i x s d) (sym e) a

-- ---- exports

-- the index of an export stands for the item
pub noted_item : (w : Worlds) (c : Collection) (outer : List Scope) (i : Inside) (n : Name) (kind : ItemKind) (d : Description) (k : ℕ) → Stands c kind → IsSorted kind d → k ≡ length (space (description_sort d) i.here)
    → IsNotable w c ((exports_inside n (description_sort d, tree_in c kind) i).here ∷ outer) kind k
noted_item w c outer i n (ItemKind.Ty t) d k stands sorted e =
    let u = tree_in c (ItemKind.Ty t) in
    let m = Item n (description_sort d) u in
    let is : description_sort d ≡ sort.Ty = sym (some_is sort.Ty (description_sort d) sorted) in
    let at : k ≡ length i.here.types = e ∙ ap (λ (x : Sort). length (space x i.here)) is in
    let types : (with_one (description_sort d) m i.here).types ≡ i.here.types ++ m ∷ [] = ap (λ (x : Sort). (with_one x m i.here).types) is in
    let there : slice_get (with_one (description_sort d) m i.here).types k ≡ Some m = ap (λ (l : List Meaning). slice_get l k) types ∙ get_last i.here.types m k at in
    (stands, ap (λ (o : Option Meaning). o >>= type_tree w) there)
noted_item w c outer i n (ItemKind.Func f) d k stands sorted e = tt
noted_item w c outer i n (ItemKind.Instance f) d k stands sorted e = tt
noted_item w c outer i n (ItemKind.Component f) d k stands sorted e = tt
noted_item w c outer i n (ItemKind.Module f) d k stands sorted e = tt
noted_item w c outer i n (ItemKind.Value f) d k stands sorted e = tt

pub noted_import : (w : Worlds) (c : Collection) (outer : List Scope) (i : Inside) (n : Name) (kind : ItemKind) (d : Description) (k : ℕ) → Stands c kind → IsSorted kind d → k ≡ length (space (description_sort d) i.here)
    → IsNotable w c ((imports_inside n (description_sort d, tree_in c kind) i).here ∷ outer) kind k
noted_import w c outer i n kind d k stands sorted e = noted_item w c outer i n kind d k stands sorted e

module _ (w : Worlds) (c : Collection) (outer : List Scope) where
  pub export_declared : (i : Inside) (n : String Global) (d : Description) (x : Sort × Tree) → described w (i.here ∷ outer) (string_bytes n) d ≡ Some x → declared w outer i (before (Export n d) End) ≡ Some (exports_inside (string_bytes n) x i)
  unfolding declared
  export_declared i n d x e = ap (λ (o : Option (Sort × Tree)). o >>= λ y. Some (exports_inside (string_bytes n) y i)) e

  -- an item that is so described and noted
  pub exported_item : (i : Inside) (m n : Name) (t : Tree) (so : Sort) (u : ItemScope) → m ≡ n → IsItemScope w c outer (exports_inside m (so, t) i) u → ExportsItem w c outer i n t u
  exported_item i m n t so u e h = record {
    after = exports_inside m (so, t) i;
    stands = h;
    extends = Extends-one so (Item m so t) i.here;
    imports = refl;
    exports = ap (λ (x : Name). i.exports ++ (x, t) ∷ []) e;
  }

  -- and the export's index stands for it
  pub exported_index : (i : Inside) (m n : Name) (kind : ItemKind) (d : Description) (u : ItemScope) (k : ℕ) → m ≡ n → IsSorted kind d → k ≡ length (space (description_sort d) i.here)
      → IsItemScope w c outer (exports_inside m (description_sort d, tree_in c kind) i) u → ExportsIndex w c outer i n kind u k
  unfolding exported_item
  exported_index i m n kind d u k e sorted at h = record {
    exported = exported_item i m n (tree_in c kind) (description_sort d) u e h;
    means = λ x is.
        let t = tree_in c kind in
        let here = with_one (description_sort d) (Item m (description_sort d) t) i.here in
        let same : description_sort d ≡ x = same_Some _ _ (sym sorted ∙ is) in
        let means = last_of (description_sort d) (Item m (description_sort d) t) i.here k at ∙ ap (λ (y : Name). Some (Item y (description_sort d) t)) e in
        subst (λ (y : Sort). found (here ∷ outer) y k ≡ Some (Item n y t)) same means;
  }

  -- a type is exported that has an index
  pub type_exports : (i : Inside) (m n : Name) (x t : Tree) (s : ItemScope) (u : TypeScope) (k : ℕ) → m ≡ n → item_of x ≡ t → IsItemScope w c outer i s → ExportsType w c outer i m x u k
      → (a : ExportsItem w c outer i n t (record s { types = u })) × IsTypeItem w (a.after.here ∷ outer) 0 t k
  type_exports i m n x t s u k e f h a =
      let j = a.exported.after in
      let stands : IsItemScope w c outer j (record s { types = u }) = record {
        written = a.exported.stands;
        cores = h.cores ∙ sym (ap (λ (l : List Tree). length l) a.others.cores);
        funcs = h.funcs ∙ sym (ap (λ (l : List Meaning). length l) a.others.funcs);
        components = h.components ∙ sym (ap (λ (l : List Meaning). length l) a.others.components);
        instances = h.instances ∙ sym (ap (λ (l : List Meaning). length l) a.others.instances);
        modules = h.modules ∙ sym (ap (λ (l : List Meaning). length l) a.others.modules);
      } in
      let both : (m, item_of x) ≡ (n, t) = λ o. (e o, f o) in (
        record {
          after = j;
          stands = stands;
          extends = a.exported.extends;
          imports = a.exported.imports;
          exports = a.exported.exports ∙ ap (λ (p : Name × Tree). i.exports ++ p ∷ []) both;
        },
        record { there = x; item = f; reads = a.index },
      )

  pub export_noted : (i : Inside) (n : Name) (t : Tree) (s u : ItemScope) → (a : ExportsItem w c outer i n t s) → IsItemScope w c outer a.after u → ExportsItem w c outer i n t u
  export_noted i n t s u a h = record { after = a.after; stands = h; extends = a.extends; imports = a.imports; exports = a.exports }

  pub may_follow : (i j : Inside) (es : List (Name × ItemKind)) (n : Name) (s u : ItemScope) (yes : Bool) → ItemsGo w c outer i j s → MayExport w c outer j es n u yes → MayExport w c outer i es n u yes
  may_follow i j es n s u true g a = (a.0, a.1, export_follows w c outer i j n a.0 s u g a.2)
  may_follow i j es n s u false g a = (a.0, ItemsGo-trans w c outer i j a.0 s u g a.1)

  -- ---- items of a list

  module _ (is es : List (Name × ItemKind)) (asked given : List Name) (s u : ItemScope) (k : Writing w c outer is es s asked given) where
    unfoldable pub writes_on : (j : Inside) → ItemsGo w c outer k.inside j u → Writing w c outer is es u asked given
    writes_on j g = record {
      inside = j;
      stands = g.stands;
      imports = ap (λ (l : List (Name × Tree)). names_of l) g.imports ∙ k.imports;
      imports_once = k.imports_once;
      import_trees = subst (AreTreesOf c is) (sym g.imports) k.import_trees;
      exports = ap (λ (l : List (Name × Tree)). names_of l) g.exports ∙ k.exports;
      exports_once = k.exports_once;
      export_trees = subst (AreTreesOf c es) (sym g.exports) k.export_trees;
    }

    unfoldable pub writes_more : (n : Name) (t : Tree) (more : List Name) → IsTreeOf c es n t → ExportsItem w c outer k.inside n t u → (Among n given → ⊥) → more ≡ put_name given n → Writing w c outer is es u asked more
    writes_more n t more is_tree a new e = record {
      inside = a.after;
      stands = a.stands;
      imports = ap (λ (l : List (Name × Tree)). names_of l) a.imports ∙ k.imports;
      imports_once = k.imports_once;
      import_trees = subst (AreTreesOf c is) (sym a.imports) k.import_trees;
      exports = ap (λ (l : List (Name × Tree)). names_of l) a.exports ∙ map_push (λ (x : Name × Tree). x.0) k.inside.exports (n, t) ∙ ap (λ (l : List Name). l ++ n ∷ []) k.exports ∙ sym (put_name-new given n new) ∙ sym e;
      exports_once = subst AreDistinct (sym (e ∙ put_name-new given n new)) (distinct-append given (n ∷ []) k.exports_once ((λ m. m), tt) (λ m a b. elim b [ inl q ↦ new (subst (λ (y : Name). Among y given) q a) | inr z ↦ z ]));
      export_trees = λ m v among. elim (Among-last k.inside.exports (n, t) (m, v) (subst (λ (l : List (Name × Tree)). Among (m, v) l) a.exports among)) [
        | inl b ↦ k.export_trees m v b
        | inr q ↦ (is_tree.0, ap (value_at es) (ap (λ p. p.0) q) ∙ is_tree.1, ap (λ p. p.1) q ∙ is_tree.2)
      ];
    }

pub grows_by : (n : Name) (old new : List Name) → (Among n old → ⊥) → new ≡ put_name old n → GrowsBy n old new
grows_by n old new fresh e m a = Among-last old n m (subst (λ (l : List Name). Among m l) (e ∙ put_name-new old n fresh) a)

-- ---- the whole interface

pub writes_none : (w : Worlds) (c : Collection) (outer : List Scope) (id : InterfaceId) (s : ItemScope) → IsItemScope w c outer nothing_inside s → WritesSome w c outer id s []
writes_none w c outer id s h = record { inside = nothing_inside; stands = h; imports = refl; imports_once = tt; import_trees = λ n t m. absurd m; exports = refl; exports_once = tt; export_trees = λ n t m. absurd m }

pub states_instance : (w : Worlds) (c : Collection) → IsAcyclic c → (outer : List Scope) (id : InterfaceId) (x : Interface) (s : ItemScope) (given : List Name) → slice_get c.interfaces id.index ≡ Some x → id.collection ≡ c.number → exports_of c id ≡ x.exports
    → WritesSome w c outer id s given → ((n : Name) → Among n (names_of (exports_of c id)) → Among n given)
    → StatesInstance w outer (tree_in c (ItemKind.Instance id)) (declarations_of s.types.declarations.items)
states_instance w c acyclic outer id x s given at own is k all =
    let i = k.inside in
    let distinct = subst AreDistinct (sym k.exports) k.exports_once in
    let trees = subst (λ (l : List (Name × ItemKind)). AreTreesOf c l i.exports) is k.export_trees in
    let complete = λ (n : Name) (m : Among n (names_of x.exports)). subst (λ (l : List Name). Among n l) (sym k.exports) (all n (subst (λ (l : List (Name × ItemKind)). Among n (names_of l)) (sym is) m)) in
    ap (λ (o : Option Inside). o >>= typing.instance_tree) k.stands.written.reads
    ∙ ap (λ (l : List (Name × Tree)). instance_by l i.exports) (no_entries i.imports k.imports)
    ∙ written_instance c x.exports i.exports distinct trees complete
    ∙ ap Some (sym (instance_tree c acyclic id x at own))

-- ---- instances and their types

module _ (c : Collection) (acyclic : IsAcyclic c) where
  pub instance_described : (w : Worlds) (outer : List Scope) (i : Inside) (kind : ItemKind) (id : InterfaceId) (s : ItemScope) (k : ℕ) → IsOfInterface kind id → Stands c kind → GivesType w c outer i (tree_in c (ItemKind.Instance id)) s k
      → Describes w c outer i kind s (described_as kind k)
  instance_described w outer i (ItemKind.Instance j) id s k is stands a =
      let x = interface_found c j stands in
      let same = ap (λ (f : InterfaceId). tree_in c (ItemKind.Instance f)) is in
      let t = instance_tree c acyclic j x.value x.at x.own in
      let sorted : as_sort sort.Instance (tree_in c (ItemKind.Instance j)) ≡ Some (tree_in c (ItemKind.Instance j)) = ap (as_sort sort.Instance) t ∙ ap Some (sym t) in
      record {
        after = a.after;
        goes = a.goes;
        sorted = refl;
        reads = λ n. ap (λ (o : Option Tree). o >>= as_sort sort.Instance >>= λ t. Some (sort.Instance, t)) (a.index ∙ ap Some (sym same)) ∙ ap (λ (o : Option Tree). o >>= λ t. Some (sort.Instance, t)) sorted;
      }
  instance_described w outer i (ItemKind.Ty (TypeKind.Interface j)) id s k is stands a =
      let same = ap (λ (f : InterfaceId). tree_in c (ItemKind.Instance f)) is in
      let there = stands_typed_interface c j stands in
      let plain = plain_item (tree_in c (ItemKind.Instance j)) (λ e. absurd (cc (e, kind_is c acyclic (ItemKind.Instance j) there))) in
      let item = plain ∙ sym (type_interface c acyclic j stands) in
      record {
        after = a.after;
        goes = a.goes;
        sorted = refl;
        reads = λ n. ap (λ (o : Option Tree). o >>= λ t. Some (sort.Ty, item_of t)) (a.index ∙ ap Some (sym same)) ∙ ap (λ (x : Tree). Some (sort.Ty, x)) item;
      }
  instance_described w outer i (ItemKind.Ty (TypeKind.Resource j)) id s k is stands a = absurd is
  instance_described w outer i (ItemKind.Ty (TypeKind.Func j)) id s k is stands a = absurd is
  instance_described w outer i (ItemKind.Ty (TypeKind.Value j)) id s k is stands a = absurd is
  instance_described w outer i (ItemKind.Ty (TypeKind.World j)) id s k is stands a = absurd is
  instance_described w outer i (ItemKind.Ty (TypeKind.Module j)) id s k is stands a = absurd is
  instance_described w outer i (ItemKind.Func j) id s k is stands a = absurd is
  instance_described w outer i (ItemKind.Component j) id s k is stands a = absurd is
  instance_described w outer i (ItemKind.Module j) id s k is stands a = absurd is
  instance_described w outer i (ItemKind.Value j) id s k is stands a = absurd is

module _ (c : Collection) where
  pub interface_stands : (kind : ItemKind) (id : InterfaceId) → IsOfInterface kind id → Stands c kind → Stands c (ItemKind.Instance id)
  interface_stands (ItemKind.Instance j) id is s = subst (λ (f : InterfaceId). Stands c (ItemKind.Instance f)) is s
  interface_stands (ItemKind.Ty (TypeKind.Interface j)) id is s = subst (λ (f : InterfaceId). Stands c (ItemKind.Instance f)) is (stands_typed_interface c j s)
  interface_stands (ItemKind.Ty (TypeKind.Resource j)) id is s = absurd is
  interface_stands (ItemKind.Ty (TypeKind.Func j)) id is s = absurd is
  interface_stands (ItemKind.Ty (TypeKind.Value j)) id is s = absurd is
  interface_stands (ItemKind.Ty (TypeKind.World j)) id is s = absurd is
  interface_stands (ItemKind.Ty (TypeKind.Module j)) id is s = absurd is
  interface_stands (ItemKind.Func j) id is s = absurd is
  interface_stands (ItemKind.Component j) id is s = absurd is
  interface_stands (ItemKind.Module j) id is s = absurd is
  interface_stands (ItemKind.Value j) id is s = absurd is

-- the declarations of an instance type, behind others
pub instance_reads : (w : Worlds) (outer : List Scope) (i : Inside) (ds : Vec Declaration Global) (t : Tree) → StatesInstance w (i.here ∷ outer) t (declarations_of ds.items) → declared w outer i (before (InstanceType ds) End) ≡ Some (adds_inside sort.Ty (Known t) i)
unfolding declared
instance_reads w outer i ds t e = ap (declared w outer i) (before_instance ds End) ∙ ap (λ (o : Option Tree). o >>= λ t. Some (adds_inside sort.Ty (Known t) i)) e

pub type_given : (w : Worlds) (c : Collection) (outer : List Scope) (i : Inside) (t : Tree) (s : ItemScope) (k : ℕ) → HasType w c outer i (Known t) s k → GivesType w c outer i t s k
type_given w c outer i t s k h = record { after = adds_inside sort.Ty (Known t) i; goes = h.goes; index = ap (λ (o : Option Meaning). o >>= type_tree w) (get_last i.here.types (Known t) k h.index) }

pub component_reads : (w : Worlds) (outer : List Scope) (i : Inside) (ds : Vec Declaration Global) (t : Tree) → StatesComponent w (i.here ∷ outer) t (declarations_of ds.items) → declared w outer i (before (ComponentType ds) End) ≡ Some (adds_inside sort.Ty (Known t) i)
unfolding declared
component_reads w outer i ds t e = ap (declared w outer i) (before_component ds End) ∙ ap (λ (o : Option Tree). o >>= λ t. Some (adds_inside sort.Ty (Known t) i)) e

-- ---- types of their own

pub instance_declared : (ds : Vec Declaration Global) → IsTypeDeclaration (InstanceType ds)
unfolding declared
instance_declared ds w outer i j e =
    type_stated i j (declared w (i.here ∷ outer) nothing_inside (declarations_of ds.items) >>= typing.instance_tree) (sym (ap (declared w outer i) (before_instance ds End)) ∙ e)

pub component_declared : (ds : Vec Declaration Global) → IsTypeDeclaration (ComponentType ds)
unfolding declared
component_declared ds w outer i j e =
    type_stated i j (declared w (i.here ∷ outer) nothing_inside (declarations_of ds.items) >>= typing.component_tree) (sym (ap (declared w outer i) (before_component ds End)) ∙ e)

-- any type but a resource, a value type, a function type and a core module type
pub declared_entry : (t : TypeKind) → IsNoResource t → ((v : ValueType) → t ≡ TypeKind.Value v → ⊥) → ((f : FuncTypeId) → t ≡ TypeKind.Func f → ⊥) → ((m : ModuleTypeId) → t ≡ TypeKind.Module m → ⊥) → HasEntry (ItemKind.Ty t)
declared_entry (TypeKind.Resource r) n v f m = absurd n
declared_entry (TypeKind.Value x) n v f m = absurd (v x refl)
declared_entry (TypeKind.Func x) n v f m = absurd (f x refl)
declared_entry (TypeKind.Module x) n v f m = absurd (m x refl)
declared_entry (TypeKind.Interface i) n v f m = tt
declared_entry (TypeKind.World i) n v f m = tt

-- of an interface or a world the description is its type
pub described_entry : (kind : ItemKind) (k : ℕ) → HasEntry kind → described_as kind k ≡ desc.Equal k
described_entry (ItemKind.Ty t) k h = refl
described_entry (ItemKind.Func f) k h = absurd h
described_entry (ItemKind.Instance i) k h = absurd h
described_entry (ItemKind.Component w) k h = absurd h
described_entry (ItemKind.Module m) k h = absurd h
described_entry (ItemKind.Value v) k h = absurd h

pub no_entry : (kind : ItemKind) → HasEntry kind → ((i : InterfaceId) → IsOfInterface kind i → ⊥) → ((w : WorldId) → IsOfWorld kind w → ⊥) → ⊥
no_entry (ItemKind.Ty (TypeKind.Interface i)) h a b = a i refl
no_entry (ItemKind.Ty (TypeKind.World w)) h a b = b w refl
no_entry (ItemKind.Ty (TypeKind.Resource r)) h a b = h
no_entry (ItemKind.Ty (TypeKind.Func r)) h a b = h
no_entry (ItemKind.Ty (TypeKind.Value r)) h a b = h
no_entry (ItemKind.Ty (TypeKind.Module r)) h a b = h
no_entry (ItemKind.Func f) h a b = h
no_entry (ItemKind.Instance i) h a b = h
no_entry (ItemKind.Component w) h a b = h
no_entry (ItemKind.Module m) h a b = h
no_entry (ItemKind.Value v) h a b = h

-- the type of a function stands where the function does
pub typed_func_stands : (c : Collection) (f : FuncTypeId) → is_some (item_node c (ItemKind.Ty (TypeKind.Func f))) ≡ is_some (item_node c (ItemKind.Func f))
unfolding item_node
typed_func_stands c f = is_some-labelled _ _
