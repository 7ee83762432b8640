-- What stands in an instance type before its other exports, in the scope in which it is written.
use Rattle.std.proofs.Common.{◌≡◌, ℕ, ◌+◌, List, [], ◌∷◌, length, Bool, true, false, Option, Some, None, IsSome, Result, Ok, Err, slice_get, inl, inr, refl, sym, ap, ◌∙◌, subst, arith}
use Rattle.std.specs.Prelude.{IfOk, IfErr, OnOk, ◌⊎◌, is_some, unwrap_or}
use Rattle.std.proofs.lemmas.Bool.{cases_eq}
use Rattle.std.proofs.lemmas.Option.{slice_get_within}
use Rattle.wac_types_base.proofs.Lists.{name_tested, put_is, put_else}
use Rattle.wac_types_fit.proofs.Items.{Among-last}
use Rattle.wac_types_base.specs.declared.ids.DefinedTypeId.{DefinedTypeId}
use Rattle.wac_types_base.specs.declared.ids.InterfaceId.{InterfaceId}
use Rattle.wac_types_base.specs.declared.ids.ResourceId.{ResourceId}
use Rattle.wac_types_base.specs.declared.item.«Type».{«Type» as TypeKind}
use Rattle.wac_types_base.specs.declared.item.ValueType.{ValueType}
use Rattle.wac_types_base.specs.declared.item.ItemKind.{ItemKind}
use Rattle.wac_types_base.specs.declared.defined.DefinedType.{DefinedType}
use Rattle.wac_types_base.specs.declared.defined.UsedType.{UsedType}
use Rattle.wac_types_base.specs.Record.{Collection}
use Rattle.wac_types_base.specs.Graph.{Among}
use Rattle.wac_types_base.specs.Entries.{Name, value_at, has_name, put_name, put_entry}
use Rattle.wac_types_base.specs.Parts.{identifier_in}
use Rattle.wac_types_base.specs.Collection.{Slot, Stands, IsAcyclic, slots_of, resource}
use Rattle.wac_types_base.specs.Resolving.{IsNoAlias}
use Rattle.wac_types_base.specs.Tree.{Tree, rigid, type_item, end}
use Rattle.wac_types_base.proofs.Slots.{slots_defined, slots_primitive, stands_typed_func, stands_typed_value}
use Rattle.wac_types_base.proofs.Standing.{defined_found, interface_found, typed_value_stands}
use Rattle.wac_types_base.proofs.Telling.{value_source}
use Rattle.wac_types_base.proofs.Walking.{slice_get-Among, child_smaller}
use Rattle.wac_types_fit.specs.Trees.{tree_in}
use Rattle.wac_types_fit.proofs.Unfolded.{type_value, alias_tree}
use Rattle.wac_types_parts.specs.declared.parts.Use.{Use}
use Rattle.wac_types_parts.specs.Parts.{interface_in, exports_of, uses_of, IsUseAt, IsUsedKind, used_kind, used_if, taken_in, IsOfInterface, IsFresh}
use Rattle.wac_types_parts.proofs.PartLaws.{exports_there, exports_missing, export_stands}
use Rattle.wac_types_parts.proofs.PartsStated.{stands_or_not}
use Rattle.wac_types_parts.proofs.Resources.{fresh_is}
use Rattle.wac_graph_scopes.specs.declared.error.WriteError.{WriteError}
use Rattle.wac_graph_scopes.specs.declared.scope.TypeScope.{TypeScope}
use Rattle.wac_graph_scopes.specs.declared.items.ItemScope.{ItemScope}
use Rattle.wac_graph_scopes.specs.Known.{type_tree, HasTree, KeepsKnown}
use Rattle.wac_graph_scopes.specs.Scopes.{IsScopeOf}
use Rattle.wac_graph_scopes.specs.Refusals.{IsUnnamed, IsUnknown, IsLookedUp, Dangles, own_dangles, borrow_dangles, part_dangles}
use Rattle.wac_graph_scopes.specs.ItemRefusals.{RefusedItem}
use Rattle.wac_graph_scopes.specs.Used.{Used, IsUsedAs}
use Rattle.wac_graph_scopes.specs.Stock.{IsTaken, IsOwn, IsStocked, Holds, HoldsStock, KeepsTypes, HoldsUse, HoldsUseAt, HoldsUses, HoldsExport, HoldsExports, HoldsOwnAt, HoldsOwn}
use Rattle.wac_graph_scopes.specs.InstanceRefusals.{IsMissing, IsMissingValue, DanglesBeside, own_beside, borrow_beside, part_beside, InstanceRefused, export_refused, inner_refused, IsExportRefused, LacksIdentifiers, use_lacks, export_lacks}
use Rattle.wac_graph_scopes.specs.Items.{IsTreeOf}
use Rattle.wac_graph_scopes.proofs.PlaceLaws.{known_same_list, tree_on}

-- ---- what is kept

pub keeps_listed : (s u : TypeScope) → KeepsKnown s.known.all.items u.known.all.items → u.resources ≡ s.resources → KeepsTypes s u
keeps_listed s u ks rs = record { known = ks; resources = λ n h. subst (λ (l : List (Name × ℕ)). IsSome (value_at l n)) (sym rs) h }

pub keeps_same : (s u : TypeScope) → u.known ≡ s.known → u.resources ≡ s.resources → KeepsTypes s u
keeps_same s u ks rs = keeps_listed s u (known_same_list s.known.all.items u.known.all.items (ap (λ k. k.all.items) ks)) rs

pub KeepsTypes-refl : (s : TypeScope) → KeepsTypes s s
KeepsTypes-refl s = record { known = λ k m. m; resources = λ n h. h }

pub KeepsTypes-trans : (s u v : TypeScope) → KeepsTypes s u → KeepsTypes u v → KeepsTypes s v
KeepsTypes-trans s u v a b = record { known = λ k m. b.known k (a.known k m); resources = λ n h. b.resources n (a.resources n h) }

pub holds_on : (c : Collection) (s u : TypeScope) (k : ItemKind) → KeepsTypes s u → Holds c s k → Holds c u k
holds_on c s u (ItemKind.Ty (TypeKind.Resource r)) a h = (h.0, h.1, a.resources h.0 h.2)
holds_on c s u (ItemKind.Ty (TypeKind.Value v)) a h = tree_on c s.known.all.items u.known.all.items (type_tree c v) a.known h
holds_on c s u (ItemKind.Ty (TypeKind.Func f)) a h = tt
holds_on c s u (ItemKind.Ty (TypeKind.Interface f)) a h = tt
holds_on c s u (ItemKind.Ty (TypeKind.World f)) a h = tt
holds_on c s u (ItemKind.Ty (TypeKind.Module f)) a h = tt
holds_on c s u (ItemKind.Func f) a h = tt
holds_on c s u (ItemKind.Instance f) a h = tt
holds_on c s u (ItemKind.Component f) a h = tt
holds_on c s u (ItemKind.Module f) a h = tt
holds_on c s u (ItemKind.Value f) a h = tt

pub stock_on : (c : Collection) (us : Used) (id : InterfaceId) (s u : TypeScope) → KeepsTypes s u → HoldsStock c us id s → HoldsStock c us id u
stock_on c us id s u a h item is = holds_on c s u item a (h item is)

pub use_on : (c : Collection) (us : Used) (x : Use) (s u : TypeScope) → KeepsTypes s u → HoldsUse c us x s → HoldsUse c us x u
use_on c us x s u a h item k takes used = holds_on c s u item a (h item k takes used)

pub exports_on : (c : Collection) (id : InterfaceId) (ns : List Name) (s u : TypeScope) → KeepsTypes s u → HoldsExports c id s ns → HoldsExports c id u ns
exports_on c id ns s u a h n m k at f = a.resources n (h n m k at f)

-- a name that is put there, or an earlier one
put_or : (ms : List Name) (m n : Name) → Among n (put_name ms m) → Among n ms ⊎ (n ≡ m)
put_or ms m n a = go (has_name ms m) refl
  where
    go : (b : Bool) → has_name ms m ≡ b → Among n ms ⊎ (n ≡ m)
    go true q = inl (subst (λ (l : List Name). Among n l) (rw q refl) a)
    go false q = Among-last ms m n (subst (λ (l : List Name). Among n l) (rw q refl) a)

-- the exports of one more name
pub exports_named : (c : Collection) (id : InterfaceId) (s u : TypeScope) → KeepsTypes s u → (ns ms : List Name) (m : Name) → ms ≡ put_name ns m → HoldsExports c id s ns → HoldsExport c id u m → HoldsExports c id u ms
exports_named c id s u keeps ns ms m is before now n among = elim (put_or ns m n (subst (λ (l : List Name). Among n l) is among)) [
  | inl old ↦ exports_on c id ns s u keeps before n old
  | inr same ↦ subst (HoldsExport c id u) (sym same) now
]

-- what the use takes
pub use_taken : (c : Collection) (us : Used) (x : Use) (item : ItemKind) (s : TypeScope) → taken_in c x ≡ Some item → Holds c s item → HoldsUse c us x s
use_taken c us x item s is h other k takes used =
    let same : item ≡ other = cc (is, takes) in
    subst (Holds c s) same h

-- it is one use that stands at a place
pub use_same : (c : Collection) (us : Used) (es : List (Name × UsedType)) (at : ℕ) (u v : Use) (s : TypeScope) → IsUseAt es at u → IsUseAt es at v → HoldsUse c us u s → HoldsUse c us v s
use_same c us es at u v s x y h item k takes used =
    let same : x.0 ≡ y.0 = cc (x.1, y.1) in
    let there : u.there.now ≡ v.there.now = x.2.there ∙ ap (λ (e : Name × UsedType). unwrap_or e.1.name e.0) same ∙ sym y.2.there in
    let one : u.interface ≡ v.interface = x.2.interface ∙ ap (λ (e : Name × UsedType). e.1.interface) same ∙ sym y.2.interface in
    let taken = ap (λ (i : InterfaceId). used_if (value_at (exports_of c i) u.there.now)) one ∙ ap (λ (m : Name). used_if (value_at (exports_of c v.interface) m)) there in
    h item k (taken ∙ takes) (used.0, ap (λ (i : InterfaceId). identifier_in (interface_in c i)) one ∙ used.1, subst (λ (m : Name). IsUsedAs c us used.0 m item k) (sym there) used.2)

-- ---- one more place

pub uses_next : (c : Collection) (us : Used) (id : InterfaceId) (s u : TypeScope) → KeepsTypes s u → (at : ℕ) → HoldsUses c us id at s → HoldsUseAt c us id at u → HoldsUses c us id (at + 1) u
uses_next c us id s u keeps at before now n lt x is = elim (cases_eq n at) [
  | inl same ↦ now x (subst (λ (m : ℕ). IsUseAt (uses_of c id) m x) same is)
  | inr other ↦ use_on c us x s u keeps (before n (omega (arith, lt, other)) x is)
]

pub own_next : (c : Collection) (id : InterfaceId) (s u : TypeScope) → KeepsTypes s u → (at : ℕ) → HoldsOwn c id at s → HoldsOwnAt c id at u → HoldsOwn c id (at + 1) u
own_next c id s u keeps at before now m lt n k is f = elim (cases_eq m at) [
  | inl same ↦ now n k (subst (λ (i : ℕ). slice_get (exports_of c id) i ≡ Some (n, k)) same is) f
  | inr other ↦ keeps.resources n (before m (omega (arith, lt, other)) n k is f)
]

-- ---- what is taken stands

used_kind_is : (j k : ItemKind) → used_kind j ≡ Some k → (j ≡ k) × IsUsedKind k
used_kind_is (ItemKind.Ty (TypeKind.Resource r)) k e = let same : ItemKind.Ty (TypeKind.Resource r) ≡ k = cc e in (same, subst IsUsedKind same tt)
used_kind_is (ItemKind.Ty (TypeKind.Value v)) k e = let same : ItemKind.Ty (TypeKind.Value v) ≡ k = cc e in (same, subst IsUsedKind same tt)
used_kind_is (ItemKind.Ty (TypeKind.Func f)) k e = absurd (cc e)
used_kind_is (ItemKind.Ty (TypeKind.Interface f)) k e = absurd (cc e)
used_kind_is (ItemKind.Ty (TypeKind.World f)) k e = absurd (cc e)
used_kind_is (ItemKind.Ty (TypeKind.Module f)) k e = absurd (cc e)
used_kind_is (ItemKind.Func f) k e = absurd (cc e)
used_kind_is (ItemKind.Instance f) k e = absurd (cc e)
used_kind_is (ItemKind.Component f) k e = absurd (cc e)
used_kind_is (ItemKind.Module f) k e = absurd (cc e)
used_kind_is (ItemKind.Value f) k e = absurd (cc e)

pub used_if_is : (o : Option ItemKind) (k : ItemKind) → used_if o ≡ Some k → (o ≡ Some k) × IsUsedKind k
used_if_is None k e = absurd (cc e)
used_if_is (Some j) k e = let p = used_kind_is j k e in (ap Some p.0, p.1)

module _ (c : Collection) (acyclic : IsAcyclic c) where
  export_there : (id : InterfaceId) (n : Name) (k : ItemKind) → value_at (exports_of c id) n ≡ Some k → Stands c k
  export_there id n k e = elim (stands_or_not c (ItemKind.Instance id)) [
    | inl s ↦ let f = interface_found c id s in export_stands c id acyclic f.value s f.at f.own n k (ap (λ (l : List (Name × ItemKind)). value_at l n) (sym (exports_there c id f.value f.at f.own)) ∙ e)
    | inr none ↦ absurd (cc (e, ap (λ (l : List (Name × ItemKind)). value_at l n) (exports_missing c id none)))
  ]

  taken_there : (u : Use) (item : ItemKind) → taken_in c u ≡ Some item → Stands c item × IsUsedKind item
  taken_there u item e =
      let p = used_if_is (value_at (exports_of c u.interface) u.there.now) item e in
      (export_there u.interface u.there.now item p.0, p.1)

  -- ---- what stands in the scope, by its tree

  module _ (s : TypeScope) where
    value_by : (t : Tree) → (item : ItemKind) → Stands c item → IsUsedKind item → tree_in c item ≡ type_item t → Holds c s item → HasTree c s.known.all.items t
    value_by t (ItemKind.Ty (TypeKind.Value w)) stands used same h =
        let trees : type_tree c w ≡ t = cc (sym (type_value c acyclic w stands) ∙ same) in
        (h.0, h.1, h.2, h.3 ∙ trees)
    value_by t (ItemKind.Ty (TypeKind.Resource r)) stands used same h = absurd (cc (h.1, same))
    value_by t (ItemKind.Ty (TypeKind.Func f)) stands used same h = absurd used
    value_by t (ItemKind.Ty (TypeKind.Interface f)) stands used same h = absurd used
    value_by t (ItemKind.Ty (TypeKind.World f)) stands used same h = absurd used
    value_by t (ItemKind.Ty (TypeKind.Module f)) stands used same h = absurd used
    value_by t (ItemKind.Func f) stands used same h = absurd used
    value_by t (ItemKind.Instance f) stands used same h = absurd used
    value_by t (ItemKind.Component f) stands used same h = absurd used
    value_by t (ItemKind.Module f) stands used same h = absurd used
    value_by t (ItemKind.Value f) stands used same h = absurd used

    pub resource_by : (n : Name) (item : ItemKind) → Stands c item → IsUsedKind item → tree_in c item ≡ rigid (resource n) end → Holds c s item → IsSome (value_at s.resources n)
    resource_by n (ItemKind.Ty (TypeKind.Resource r)) stands used same h =
        let name : h.0 ≡ n = cc (h.1, same) in
        subst (λ (m : Name). IsSome (value_at s.resources m)) name h.2
    resource_by n (ItemKind.Ty (TypeKind.Value w)) stands used same h = absurd (cc (type_value c acyclic w stands, same))
    resource_by n (ItemKind.Ty (TypeKind.Func f)) stands used same h = absurd used
    resource_by n (ItemKind.Ty (TypeKind.Interface f)) stands used same h = absurd used
    resource_by n (ItemKind.Ty (TypeKind.World f)) stands used same h = absurd used
    resource_by n (ItemKind.Ty (TypeKind.Module f)) stands used same h = absurd used
    resource_by n (ItemKind.Func f) stands used same h = absurd used
    resource_by n (ItemKind.Instance f) stands used same h = absurd used
    resource_by n (ItemKind.Component f) stands used same h = absurd used
    resource_by n (ItemKind.Module f) stands used same h = absurd used
    resource_by n (ItemKind.Value f) stands used same h = absurd used

  -- ---- what stands in the stock stands in the scope

  module _ (us : Used) (id : InterfaceId) where
    stock_kind : (item : ItemKind) → IsTaken c us id item ⊎ IsOwn c id item → Stands c item × IsUsedKind item
    stock_kind item (inl t) = taken_there t.0 item t.2.item_is
    stock_kind item (inr o) = let r = fresh_is c acyclic o.0 item o.2 in (o.2.0, subst IsUsedKind (sym r.1) tt)

    module _ (s : TypeScope) (stock : HoldsStock c us id s) where
      value_held : (v : ValueType) → Stands c (ItemKind.Value v) → IsStocked c us id (tree_in c (ItemKind.Ty (TypeKind.Value v))) → HasTree c s.known.all.items (tree_in c (ItemKind.Value v))
      value_held v stands x =
          let k = stock_kind x.0 x.1 in
          value_by s (tree_in c (ItemKind.Value v)) x.0 k.0 k.1 (x.2 ∙ type_value c acyclic v (typed_value_stands c v ∙ stands)) (stock x.0 x.1)

      resource_held : (n : Name) → IsStocked c us id (rigid (resource n) end) → IsSome (value_at s.resources n)
      resource_held n x = let k = stock_kind x.0 x.1 in resource_by s n x.0 k.0 k.1 x.2 (stock x.0 x.1)

      -- ---- what is refused in the scope is missing in the stock

      pub unnamed_missing : (r : ResourceId) → IsUnnamed c s.resources r → IsMissing c us id (ItemKind.Ty (TypeKind.Resource r))
      unnamed_missing r u h =
          let held = resource_held u.name (subst (IsStocked c us id) u.root h) in
          absurd (cc (held, ap (λ (o : Option ℕ). is_some o) u.lacking))

      module _ (scope : IsScopeOf c s) where
        unknown_missing : (v : ValueType) → Stands c (ItemKind.Value v) → IsUnknown c s v → IsMissingValue c us id (ItemKind.Value v)
        unknown_missing v stands f h = f scope (value_held v stands h)

        beside_missing : (k : ItemKind) → DanglesBeside c us id k → IsMissingValue c us id k
        beside_missing _ (own_beside {r = r} m f) = f
        beside_missing _ (borrow_beside {r = r} m f) = f
        beside_missing _ (part_beside {k = k} {v = v} f among d) = f

        -- an alias has the tree of its source
        alias_missing : (d : DefinedTypeId) (t v : ValueType) → Stands c (ItemKind.Value (ValueType.Defined d)) → slice_get c.defined_types d.index ≡ Some (DefinedType.Alias t) → d.collection ≡ c.number
            → Among (Some (ItemKind.Value v)) (slots_of c (ItemKind.Value (ValueType.Defined d))) → DanglesBeside c us id (ItemKind.Value v) → IsMissingValue c us id (ItemKind.Value (ValueType.Defined d))
        alias_missing d t v stands at own among part h =
            let source = (value_source c acyclic (ValueType.Defined d) d (DefinedType.Alias t) t refl at own refl).0 in
            let slots = subst (λ (l : List Slot). Among (Some (ItemKind.Value v)) l) (slots_defined c d (DefinedType.Alias t) at own) among in
            let this = only_slot (Some (ItemKind.Value v)) (Some (ItemKind.Value t)) slots in
            let is : v ≡ t = cc this in
            let there = subst (λ (x : ValueType). DanglesBeside c us id (ItemKind.Value x)) is part in
            let same = type_value c acyclic (ValueType.Defined d) (typed_value_stands c (ValueType.Defined d) ∙ stands) ∙ ap type_item (alias_tree c acyclic d t at own) ∙ sym (type_value c acyclic t (typed_value_stands c t ∙ source)) in
            beside_missing (ItemKind.Value t) there (subst (IsStocked c us id) same h)
          where
            only_slot : (x y : Slot) → Among x (y ∷ []) → x ≡ y
            only_slot x y (inl e) = e
            only_slot x y (inr m) = absurd m

        plain_missing : (d : DefinedTypeId) (x : DefinedType) → Stands c (ItemKind.Value (ValueType.Defined d)) → slice_get c.defined_types d.index ≡ Some x → ((t : ValueType) → x ≡ DefinedType.Alias t → ⊥)
            → IsLookedUp c s (ItemKind.Value (ValueType.Defined d)) → IsMissingValue c us id (ItemKind.Value (ValueType.Defined d))
        plain_missing d x stands at differs f h = f none scope (inr (value_held (ValueType.Defined d) stands h))
          where
            none : IsNoAlias c (ValueType.Defined d)
            none e t is found =
                let this : e ≡ d = cc is in
                let there : x ≡ DefinedType.Alias t = cc (at, found, ap (λ (i : DefinedTypeId). i.index) this) in
                differs t there

        defined_missing : (d : DefinedTypeId) (x : DefinedType) (v : ValueType) → Stands c (ItemKind.Value (ValueType.Defined d)) → slice_get c.defined_types d.index ≡ Some x → d.collection ≡ c.number
            → IsLookedUp c s (ItemKind.Value (ValueType.Defined d)) → Among (Some (ItemKind.Value v)) (slots_of c (ItemKind.Value (ValueType.Defined d))) → DanglesBeside c us id (ItemKind.Value v)
            → IsMissingValue c us id (ItemKind.Value (ValueType.Defined d))
        defined_missing d (DefinedType.Alias t) v stands at own f among part = alias_missing d t v stands at own among part
        defined_missing d (DefinedType.Tuple ts) v stands at own f among part = plain_missing d (DefinedType.Tuple ts) stands at (λ t e. absurd (cc e)) f
        defined_missing d (DefinedType.List t) v stands at own f among part = plain_missing d (DefinedType.List t) stands at (λ t e. absurd (cc e)) f
        defined_missing d (DefinedType.FixedSizeList t n) v stands at own f among part = plain_missing d (DefinedType.FixedSizeList t n) stands at (λ t e. absurd (cc e)) f
        defined_missing d (DefinedType.Option t) v stands at own f among part = plain_missing d (DefinedType.Option t) stands at (λ t e. absurd (cc e)) f
        defined_missing d (DefinedType.Result x y) v stands at own f among part = plain_missing d (DefinedType.Result x y) stands at (λ t e. absurd (cc e)) f
        defined_missing d (DefinedType.Variant x) v stands at own f among part = plain_missing d (DefinedType.Variant x) stands at (λ t e. absurd (cc e)) f
        defined_missing d (DefinedType.Record x) v stands at own f among part = plain_missing d (DefinedType.Record x) stands at (λ t e. absurd (cc e)) f
        defined_missing d (DefinedType.Flags x) v stands at own f among part = plain_missing d (DefinedType.Flags x) stands at (λ t e. absurd (cc e)) f
        defined_missing d (DefinedType.Enum x) v stands at own f among part = plain_missing d (DefinedType.Enum x) stands at (λ t e. absurd (cc e)) f
        defined_missing d (DefinedType.Stream x) v stands at own f among part = plain_missing d (DefinedType.Stream x) stands at (λ t e. absurd (cc e)) f
        defined_missing d (DefinedType.Future x) v stands at own f among part = plain_missing d (DefinedType.Future x) stands at (λ t e. absurd (cc e)) f

        looked_missing : (k : ItemKind) (v : ValueType) → Stands c k → IsLookedUp c s k → Among (Some (ItemKind.Value v)) (slots_of c k) → DanglesBeside c us id (ItemKind.Value v) → IsMissingValue c us id k
        looked_missing (ItemKind.Value (ValueType.Defined d)) v stands f among part = let x = defined_found c d stands in defined_missing d x.value v stands x.at x.own f among part
        looked_missing (ItemKind.Value (ValueType.Own r)) v stands f among part = unknown_missing (ValueType.Own r) stands f
        looked_missing (ItemKind.Value (ValueType.Borrow r)) v stands f among part = unknown_missing (ValueType.Borrow r) stands f
        looked_missing (ItemKind.Value (ValueType.Primitive p)) v stands f among part = absurd (subst (λ (l : List Slot). Among (Some (ItemKind.Value v)) l) (slots_primitive c p) among)
        looked_missing (ItemKind.Ty t) v stands f among part = tt
        looked_missing (ItemKind.Func t) v stands f among part = tt
        looked_missing (ItemKind.Instance t) v stands f among part = tt
        looked_missing (ItemKind.Component t) v stands f among part = tt
        looked_missing (ItemKind.Module t) v stands f among part = tt

        pub dangles_beside : (k : ItemKind) → Stands c k → Dangles c s.resources s k → DanglesBeside c us id k
        dangles_beside _ stands (own_dangles {r = r} u f) = own_beside (unnamed_missing r u) (unknown_missing (ValueType.Own r) stands f)
        dangles_beside _ stands (borrow_dangles {r = r} u f) = borrow_beside (unnamed_missing r u) (unknown_missing (ValueType.Borrow r) stands f)
        dangles_beside _ stands (part_dangles {k = k} {v = v} f among d) =
            let p = slice_get-Among (slots_of c k) (Some (ItemKind.Value v)) among in
            let inner = dangles_beside (ItemKind.Value v) (child_smaller c acyclic k stands p.0 (ItemKind.Value v) p.2).0 d in
            part_beside (looked_missing k v stands f among inner) among inner

  -- ---- while the stock is written

  module _ (us : Used) (id : InterfaceId) (s u : TypeScope) (keeps : KeepsTypes s u) where
    pub stock_begun : HoldsUses c us id (length (uses_of c id)) s → HoldsOwn c id (length (exports_of c id)) u → HoldsStock c us id u
    stock_begun uses own item (inl t) =
        let x = t.2 in
        holds_on c s u item keeps (uses x.at (slice_get_within (uses_of c id) x.at x.use_is.0 x.use_is.1) t.0 x.use_is item t.1 x.item_is t.3)
    stock_begun uses own item (inr o) =
        let r = fresh_is c acyclic o.0 item o.2 in
        let p = slice_get-Among (exports_of c id) (o.0, item) o.1 in
        let there = own p.0 (slice_get_within (exports_of c id) p.0 (o.0, item) p.2) o.0 item p.2 o.2 in
        subst (Holds c u) (sym r.1) (o.0, ap (tree_in c) (sym r.1) ∙ o.2.1, there)

  -- the export that has its tree
  pub export_taken : (id : InterfaceId) (n : Name) (item : ItemKind) (s : TypeScope) → Stands c item → IsUsedKind item → IsTreeOf c (exports_of c id) n (tree_in c item) → Holds c s item → HoldsExport c id s n
  export_taken id n item s stands used t h k at f =
      let same : t.0 ≡ k = cc (t.1, at) in
      resource_by s n item stands used (t.2 ∙ ap (tree_in c) same ∙ f.1) h

  -- the export itself
  pub export_held : (n m : Name) (k j : ItemKind) (s : TypeScope) → IsFresh c n k → Holds c s k → IsFresh c m j → j ≡ k → IsSome (value_at s.resources m)
  export_held n m k j s f h g same =
      let r = fresh_is c acyclic n k f in
      resource_by s m k f.0 (subst IsUsedKind (sym r.1) tt) (ap (tree_in c) (sym same) ∙ g.1) h

pub if_ok_with : {T E : Type 0} (r : Result T E) (P : T → Type 0) (Q : Type 0) (R : T → Type 0) → ((x : T) → P x → Q → R x) → IfOk r P → OnOk r Q → IfOk r R
if_ok_with (Ok x) P Q R f p q = f x p q
if_ok_with (Err e) P Q R f p q = tt

-- ---- why an export was refused

memory_alone : (e : WriteError) (P : Type 0) → e ≡ WriteError.Memory → e ≡ WriteError.Unwritable → P
memory_alone e P is not = absurd (cc (is, not))

pub refused_memory : {T : Type 0} (r : Result T WriteError) (P : Type 0) → IfErr r (λ e. e ≡ WriteError.Memory) → IfErr r (λ e. e ≡ WriteError.Unwritable → P)
refused_memory (Ok x) P h = tt
refused_memory (Err e) P h = memory_alone e P h

-- what is refused in a scope that holds the stock is refused beside the stock
pub item_refused : (c : Collection) → IsAcyclic c → (us : Used) (depth : ℕ) (id : InterfaceId) (k : ItemKind) (s u : ItemScope) (e : WriteError) → HoldsStock c us id s.types → IsScopeOf c s.types → Stands c k → u.types.resources ≡ s.types.resources
    → RefusedItem c k s u e → ((inner : InterfaceId) → IsOfInterface k inner → e ≡ WriteError.Unwritable → InstanceRefused c us depth inner) → e ≡ WriteError.Unwritable → IsExportRefused c us depth id k
item_refused c acyclic us depth id k s u e stock scope stands same h inner is = by k stands (subst (RefusedItem c k s u) is h) (λ i of. inner i of is)
  where
    dangling : (j : ItemKind) → Stands c j → Dangles c u.types.resources s.types j → DanglesBeside c us id j
    dangling j there d = dangles_beside c acyclic us id s.types stock scope j there (subst (λ (rs : List (Name × ℕ)). Dangles c rs s.types j) same d)

    by : (k : ItemKind) → Stands c k → RefusedItem c k s u WriteError.Unwritable → ((inner : InterfaceId) → IsOfInterface k inner → InstanceRefused c us depth inner) → IsExportRefused c us depth id k
    by (ItemKind.Ty (TypeKind.Resource r)) stands h inner = inl (unnamed_missing c acyclic us id s.types stock r (subst (λ (rs : List (Name × ℕ)). IsUnnamed c rs r) same h.1))
    by (ItemKind.Ty (TypeKind.Func f)) stands h inner = inl (dangling (ItemKind.Func f) (stands_typed_func c f stands) h)
    by (ItemKind.Ty (TypeKind.Value v)) stands h inner = inl (dangling (ItemKind.Value v) (stands_typed_value c v stands) h)
    by (ItemKind.Ty (TypeKind.Interface i)) stands h inner = inr (i, refl, inner i refl)
    by (ItemKind.Ty (TypeKind.World w)) stands h inner = inl tt
    by (ItemKind.Ty (TypeKind.Module m)) stands h inner = inl tt
    by (ItemKind.Func f) stands h inner = inl (dangling (ItemKind.Func f) stands h)
    by (ItemKind.Instance i) stands h inner = inr (i, refl, inner i refl)
    by (ItemKind.Component w) stands h inner = inl tt
    by (ItemKind.Module m) stands h inner = inl h
    by (ItemKind.Value v) stands h inner = inl tt

-- and so is the instance that exports it
pub export_is_refused : (c : Collection) (us : Used) (depth next : ℕ) (id : InterfaceId) (n : Name) (k : ItemKind) → next ≡ depth + 1 → Among (n, k) (exports_of c id) → IsExportRefused c us next id k → InstanceRefused c us depth id
export_is_refused c us depth next id n k e among (inl r) = export_refused n k among r
export_is_refused c us depth next id n k e among (inr r) = inner_refused n k among r.1 (subst (λ (d : ℕ). InstanceRefused c us d r.0) e r.2)

-- what is so of an instance is so of each kind of its interface
pub lacks_as : (c : Collection) (k : ItemKind) (id : InterfaceId) → IsOfInterface k id → (j : ItemKind) → j ≡ ItemKind.Instance id → LacksIdentifiers c j → LacksIdentifiers c k
lacks_as c k id of j same (use_lacks i is r) = use_lacks i (subst (IsOfInterface k) (subst (λ (x : ItemKind). IsOfInterface x i) same is) of) r
lacks_as c k id of j same (export_lacks i n is among r) = export_lacks i n (subst (IsOfInterface k) (subst (λ (x : ItemKind). IsOfInterface x i) same is) of) among r

-- a kind is of one interface
pub one_interface : (k : ItemKind) (i j : InterfaceId) → IsOfInterface k i → IsOfInterface k j → i ≡ j
one_interface (ItemKind.Ty (TypeKind.Interface x)) i j a b = sym a ∙ b
one_interface (ItemKind.Instance x) i j a b = sym a ∙ b
one_interface (ItemKind.Ty (TypeKind.Resource x)) i j a b = absurd a
one_interface (ItemKind.Ty (TypeKind.Func x)) i j a b = absurd a
one_interface (ItemKind.Ty (TypeKind.Value x)) i j a b = absurd a
one_interface (ItemKind.Ty (TypeKind.World x)) i j a b = absurd a
one_interface (ItemKind.Ty (TypeKind.Module x)) i j a b = absurd a
one_interface (ItemKind.Func x) i j a b = absurd a
one_interface (ItemKind.Component x) i j a b = absurd a
one_interface (ItemKind.Module x) i j a b = absurd a
one_interface (ItemKind.Value x) i j a b = absurd a

-- ---- resources under names

pub resource_put : (rs us : List (Name × ℕ)) (m : Name) (v : ℕ) → us ≡ put_entry rs m v → (n : Name) → IsSome (value_at rs n) → IsSome (value_at us n)
resource_put rs us m v is n h = elim (name_tested n m) [
  | inl same ↦ ap is_some (ap (λ (l : List (Name × ℕ)). value_at l n) is ∙ ap (value_at (put_entry rs m v)) same.0 ∙ put_is rs m v)
  | inr other ↦ ap is_some (ap (λ (l : List (Name × ℕ)). value_at l n) is ∙ put_else rs m n v other.0) ∙ h
]
