-- What gives an item gives each of its exports, under the sort of the export.
use Rattle.std.specs.Prelude.{◌≡◌, Some, option_map}
use Rattle.std.proofs.lemmas.Option.{same_Some}
use Rattle.std.proofs.Common.{refl, sym, ap, subst, ◌∙◌, true, List}
use Rattle.wac_types_base.specs.declared.item.ItemKind.{ItemKind}
use Rattle.wac_types_base.specs.declared.item.«Type».{«Type» as TypeKind}
use Rattle.wac_types_base.specs.declared.core_types.CoreExtern.{CoreExtern}
use Rattle.wac_types_base.specs.Record.{Collection}
use Rattle.wac_types_base.specs.Collection.{Shape, Stands, IsAcyclic}
use Rattle.wac_types_base.specs.Entries.{Name, value_at}
use Rattle.wac_types_base.specs.Stated.{Stated, kind_of, exports_of}
use Rattle.wac_types_base.specs.Tree.{Tree, tree, Row, Fields, rigid, instance, component, core_module, type_item}
use Rattle.wac_types_base.specs.Fits.{Fits, HasField, rigid_fits, component_fits, module_fits, type_fits}
use Rattle.wac_types_base.proofs.Standing.{func_found, interface_found, world_found, module_found}
use Rattle.wac_types_fit.specs.Trees.{tree_in}
use Rattle.wac_types_fit.specs.Ordered.{InOrder, AllInOrder}
use Rattle.wac_types_fit.proofs.Looking.{given, looked-has, has-looked, in_order-at}
use Rattle.wac_types_fit.proofs.Unfolded as unfolded
use Rattle.wac_graph_bytes.specs.declared.value.Sort.{Sort}
use Rattle.wac_graph_bytes.specs.declared.value.Sort.TheVariants as sort
use Rattle.wac_graph_bytes.specs.Typing.{export_named, as_func, as_sort, item_of_sort, type_in}
use Rattle.wac_graph_scopes.proofs.FieldLaws.{same_look}
use Rattle.wac_types_fit.proofs.ItemKinds.{resource_is}
use Rattle.wac_composition.specs.Classes.{is_instance_kind}
use Rattle.wac_composition.specs.Sound.{fields_of}
use Rattle.wac_composition.proofs.KeptFits.{fields_looked, instance_tree}
use Rattle.wac_graph_scopes.specs.Items.{sort_of}
use Rattle.wac_types_fit.proofs.TreeLaws.{fits_instance}

-- ---- what fits a tree has its label

only_rigid : (u : Tree) (s : Shape) (r : Row) → Fits u (rigid s r) → u ≡ rigid s r
only_rigid u s r rigid_fits = refl

of_component : (u : Tree) (js fs : Fields) → Fits u (component js fs) → (is : Fields) × (es : Fields) × (u ≡ component is es)
of_component u js fs (component_fits {is = is} {es = es} f g) = (is, es, refl)

of_module : (u : Tree) (js : List ((Name × Name) × CoreExtern)) (fs : List (Name × CoreExtern)) → Fits u (core_module js fs) → (is : List ((Name × Name) × CoreExtern)) × (es : List (Name × CoreExtern)) × (u ≡ core_module is es)
of_module u js fs (module_fits {is = is} {es = es} f g) = (is, es, refl)

of_type : (u t : Tree) → Fits u (type_item t) → (v : Tree) × (u ≡ type_item v)
of_type u t (type_fits {t = v} f) = (v, refl)

-- ---- sorts

abbrev pub Sorts : Sort → Tree → Type 0
Sorts s u = (v : Tree) × (item_of_sort s u ≡ Some v)

by_type : (u t k : Tree) → k ≡ type_item t → Fits u k → Sorts sort.Ty u
by_type u t k is f = let v = of_type u t (subst (Fits u) is f) in (v.0, ap type_in v.1)

module _ (c : Collection) (acyclic : IsAcyclic c) where
  func_sorts : (id : _) (u : Tree) → Stands c (ItemKind.Func id) → Fits u (tree_in c (ItemKind.Func id)) → Sorts sort.Func u
  func_sorts id u stands f =
      let x = func_found c id stands in
      let is = unfolded.func_tree c acyclic id x.value x.at x.own in
      (_, ap as_func (only_rigid u _ _ (subst (Fits u) is f)))

  instance_sorts : (id : _) (u : Tree) → Stands c (ItemKind.Instance id) → Fits u (tree_in c (ItemKind.Instance id)) → Sorts sort.Instance u
  instance_sorts id u stands f =
      let x = interface_found c id stands in
      let v = fits_instance u _ (subst (Fits u) (unfolded.instance_tree c acyclic id x.value x.at x.own) f) in
      (instance v.0, ap (as_sort sort.Instance) v.1)

  component_sorts : (id : _) (u : Tree) → Stands c (ItemKind.Component id) → Fits u (tree_in c (ItemKind.Component id)) → Sorts sort.Component u
  component_sorts id u stands f =
      let x = world_found c id stands in
      let v = of_component u _ _ (subst (Fits u) (unfolded.component_tree c acyclic id x.value x.at x.own) f) in
      (component v.0 v.1, ap (as_sort sort.Component) v.2)

  module_sorts : (id : _) (u : Tree) → Stands c (ItemKind.Module id) → Fits u (tree_in c (ItemKind.Module id)) → Sorts sort.Module u
  module_sorts id u stands f =
      let x = module_found c id stands in
      let v = of_module u _ _ (subst (Fits u) (unfolded.module_tree c acyclic id x.value x.at x.own) f) in
      (core_module v.0 v.1, ap (as_sort sort.Module) v.2)

  type_sorts : (t : TypeKind) (u : Tree) → Stands c (ItemKind.Ty t) → Fits u (tree_in c (ItemKind.Ty t)) → Sorts sort.Ty u
  type_sorts (TypeKind.Resource r) u stands f =
      let n = resource_is c acyclic r stands in
      (_, ap type_in (only_rigid u _ _ (subst (Fits u) n.1 f)))
  type_sorts (TypeKind.Func i) u stands f = by_type u _ _ (unfolded.type_func c acyclic i stands) f
  type_sorts (TypeKind.Value v) u stands f = by_type u _ _ (unfolded.type_value c acyclic v stands) f
  type_sorts (TypeKind.Interface i) u stands f = by_type u _ _ (unfolded.type_interface c acyclic i stands) f
  type_sorts (TypeKind.World w) u stands f = by_type u _ _ (unfolded.type_world c acyclic w stands) f
  type_sorts (TypeKind.Module m) u stands f = by_type u _ _ (unfolded.type_module c acyclic m stands) f

  -- what fits an item is of its sort
  pub sorts : (k : ItemKind) (s : Sort) (u : Tree) → Stands c k → sort_of k ≡ Some s → Fits u (tree_in c k) → Sorts s u
  sorts (ItemKind.Ty t) s u stands e f = let same : sort.Ty ≡ s = cc e in subst (λ (x : Sort). Sorts x u) same (type_sorts t u stands f)
  sorts (ItemKind.Func i) s u stands e f = let same : sort.Func ≡ s = cc e in subst (λ (x : Sort). Sorts x u) same (func_sorts i u stands f)
  sorts (ItemKind.Instance i) s u stands e f = let same : sort.Instance ≡ s = cc e in subst (λ (x : Sort). Sorts x u) same (instance_sorts i u stands f)
  sorts (ItemKind.Component w) s u stands e f = let same : sort.Component ≡ s = cc e in subst (λ (x : Sort). Sorts x u) same (component_sorts w u stands f)
  sorts (ItemKind.Module m) s u stands e f = let same : sort.Module ≡ s = cc e in subst (λ (x : Sort). Sorts x u) same (module_sorts m u stands f)
  sorts (ItemKind.Value v) s u stands e f = absurd (cc e)

-- ---- exports

pub record Gives (n : Name) (t : Tree) (y : Stated) : Type 0 where
  pub part : Tree
  pub at : export_named n t ≡ Some part
  pub ordered : InOrder part
  pub fits : Fits part (tree y)

pub gives_export : (t : Tree) (x y : Stated) (n : Name) → is_instance_kind (kind_of x) ≡ true → InOrder t → Fits t (tree x) → value_at (exports_of x) n ≡ Some y → Gives n t y
gives_export t x y n one order fits at =
    let f = fits_instance t (fields_of (exports_of x)) (subst (Fits t) (instance_tree x one) fits) in
    let h : HasField n (tree y) (fields_of (exports_of x)) = looked-has n (tree y) (fields_of (exports_of x)) (fields_looked (exports_of x) n ∙ ap (option_map tree) at) in
    let g = given f.0 (fields_of (exports_of x)) n (tree y) f.2 h in
    let o : AllInOrder f.0 = subst InOrder f.1 order in
    record {
      part = g.0;
      at = ap (export_named n) f.1 ∙ same_look n f.0 ∙ has-looked n g.0 f.0 o g.1;
      ordered = in_order-at n g.0 f.0 o g.1;
      fits = g.2;
    }

-- what a type exports that fits another fits what that exports
pub exports_fit : (a x : Stated) (n : Name) (m y : Stated) → is_instance_kind (kind_of a) ≡ true → is_instance_kind (kind_of x) ≡ true → InOrder (tree a) → Fits (tree a) (tree x)
    → value_at (exports_of a) n ≡ Some m → value_at (exports_of x) n ≡ Some y → Fits (tree m) (tree y)
exports_fit a x n m y own one order fits at asked =
    let g = gives_export (tree a) x y n one order fits asked in
    let is : export_named n (tree a) ≡ Some (tree m) = ap (export_named n) (instance_tree a own) ∙ same_look n (fields_of (exports_of a)) ∙ fields_looked (exports_of a) n ∙ ap (option_map tree) at in
    subst (λ t. Fits t (tree y)) (same_Some _ _ (sym g.at ∙ is)) g.fits
