-- What the checker's answers rest on.
use Rattle.std.proofs.Common.{◌≡◌, List, [], ◌∷◌, Option, Some, None, Bool, IsTrue, ◌↔◌, sym, ap, subst, ◌∙◌}
use Rattle.std.specs.Prelude.{Result, Ok, Err, OnOk, ⊤}
use Rattle.wac_types_base.specs.declared.item.ItemKind.{ItemKind}
use Rattle.wac_types_base.specs.declared.item.ExternKind.{ExternKind}
use Rattle.wac_types_base.specs.Record.{Collection}
use Rattle.wac_types_base.specs.Entries.{Name, value_at}
use Rattle.wac_types_base.specs.Tree.{Tree, type_item}
use Rattle.wac_types_base.specs.Fits.{Fits, type_fits}
use Rattle.wac_types_fit.specs.declared.error.SubtypeError.{SubtypeError}
use Rattle.wac_types_fit.specs.Frames.{Step, Disagree, in_type}
use Rattle.wac_types_fit.specs.Errors.{IfMismatch}
use Rattle.wac_types_base.specs.declared.item.ValueType.{ValueType}
use Rattle.wac_types_base.specs.declared.item.«Type».{«Type» as TypeKind}
use Rattle.wac_types_base.specs.declared.ids.FuncTypeId.{FuncTypeId}
use Rattle.wac_types_base.specs.declared.ids.InterfaceId.{InterfaceId}
use Rattle.wac_types_base.specs.declared.ids.WorldId.{WorldId}
use Rattle.wac_types_base.specs.declared.ids.ModuleTypeId.{ModuleTypeId}
use Rattle.wac_types_base.specs.Collection.{Stands, IsAcyclic, size_of}
use Rattle.wac_types_base.proofs.Slots.{stands_typed_func, stands_typed_value, stands_typed_interface, stands_typed_world, stands_typed_module}
use Rattle.wac_types_fit.proofs.Unfolded.{type_func, type_value, type_interface, type_world, type_module, interface_size, world_size}
use Rattle.wac_types_fit.specs.Trees.{tree_in, Fit, SameTree}
use Rattle.wac_types_fit.specs.Checking.{NameDisagrees, name_missing, name_differs}
use Rattle.wac_types_fit.proofs.TreeLaws.{Fits-refl}

pub same_fit : (t u : Tree) → t ≡ u → Fits t u
same_fit t u e = subst (λ v. Fits t v) e (Fits-refl t)

pub on_ok : (r : Result ⊤ SubtypeError) (P Q : Type 0) → OnOk r P → (P → Q) → OnOk r Q
on_ok (Ok x) P Q h f = f h
on_ok (Err e) P Q h f = tt

pub if_mismatch : (r : Result ⊤ SubtypeError) (P Q : List Step → Type 0) → IfMismatch r P → ((ss : List Step) → P ss → Q ss) → IfMismatch r Q
if_mismatch r P Q h f ss e = f ss (h ss e)

-- a fault without steps
pub no_steps : (o : Option (List Step)) (P : List Step → Type 0) → o ≡ Some [] → P [] → (ss : List Step) → o ≡ Some ss → P ss
no_steps o P e h ss f = let is : [] ≡ ss = cc (e, f) in subst P is h

module _ (side : ExternKind) (c : Collection) (es : List (Name × ItemKind)) (d : Collection) (n : Name) (k : ItemKind) where
  pub missing_here : (o : Option (List Step)) (ss rest : List Step) → value_at es n ≡ None → o ≡ Some [] → o ≡ Some rest → ss ≡ (side, n) ∷ rest → NameDisagrees side c es d n k ss
  missing_here o ss rest none e f is =
      let nothing : rest ≡ [] = cc (e, f) in
      subst (NameDisagrees side c es d n k) (sym (is ∙ ap (λ r. (side, n) ∷ r) nothing)) (name_missing none)

  pub differs_here : (j : ItemKind) (ss rest : List Step) → value_at es n ≡ Some j → Disagree rest (tree_in c j) (tree_in d k) → ss ≡ (side, n) ∷ rest → NameDisagrees side c es d n k ss
  differs_here j ss rest at h is = subst (NameDisagrees side c es d n k) (sym is) (name_differs j rest at h)

-- types of things
pub types_fit_as : (c d : Collection) (i j k l : ItemKind) → tree_in c i ≡ type_item (tree_in c k) → tree_in d j ≡ type_item (tree_in d l) → Fit c k d l → Fit c i d j
types_fit_as c d i j k l e f h = subst (λ t. Fits t (tree_in d j)) (sym e) (subst (λ u. Fits (type_item (tree_in c k)) u) (sym f) (type_fits h))

pub types_disagree_as : (c d : Collection) (i j k l : ItemKind) → tree_in c i ≡ type_item (tree_in c k) → tree_in d j ≡ type_item (tree_in d l) → (ss : List Step) → Disagree ss (tree_in c k) (tree_in d l) → Disagree ss (tree_in c i) (tree_in d j)
types_disagree_as c d i j k l e f ss h = subst (λ t. Disagree ss t (tree_in d j)) (sym e) (subst (λ u. Disagree ss (type_item (tree_in c k)) u) (sym f) (in_type h))

-- a test of two types by that of their things
pub types_tested : (c d : Collection) (i j k l : ItemKind) (t : Bool) → tree_in c i ≡ type_item (tree_in c k) → tree_in d j ≡ type_item (tree_in d l) → (IsTrue t ↔ SameTree c k d l) → IsTrue t ↔ SameTree c i d j
types_tested c d i j k l t e f h = (
  λ y. e ∙ ap type_item (h.0 y) ∙ sym f,
  λ z. let same : type_item (tree_in c k) ≡ type_item (tree_in d l) = sym e ∙ z ∙ f in h.1 (cc same),
)

-- what is so of two trees is so of those that are the same
pub with_trees : (P : Tree → Tree → Type 0) (t t' u u' : Tree) → t ≡ t' → u ≡ u' → P t' u' → P t u
with_trees P t t' u u' e f h = subst (λ v. P v u) (sym e) (subst (λ v. P t' v) (sym f) h)

pub func_type_is : (c : Collection) → IsAcyclic c → (t : TypeKind) (x : FuncTypeId) → t ≡ TypeKind.Func x → Stands c (ItemKind.Ty t) → tree_in c (ItemKind.Ty t) ≡ type_item (tree_in c (ItemKind.Func x))
func_type_is c a t x is s = ap (λ u. tree_in c (ItemKind.Ty u)) is ∙ type_func c a x (subst (λ u. Stands c (ItemKind.Ty u)) is s)

pub func_type_stands : (c : Collection) (t : TypeKind) (x : FuncTypeId) → t ≡ TypeKind.Func x → Stands c (ItemKind.Ty t) → Stands c (ItemKind.Func x)
func_type_stands c t x is s = stands_typed_func c x (subst (λ u. Stands c (ItemKind.Ty u)) is s)

pub value_type_is : (c : Collection) → IsAcyclic c → (t : TypeKind) (x : ValueType) → t ≡ TypeKind.Value x → Stands c (ItemKind.Ty t) → tree_in c (ItemKind.Ty t) ≡ type_item (tree_in c (ItemKind.Value x))
value_type_is c a t x is s = ap (λ u. tree_in c (ItemKind.Ty u)) is ∙ type_value c a x (subst (λ u. Stands c (ItemKind.Ty u)) is s)

pub value_type_stands : (c : Collection) (t : TypeKind) (x : ValueType) → t ≡ TypeKind.Value x → Stands c (ItemKind.Ty t) → Stands c (ItemKind.Value x)
value_type_stands c t x is s = stands_typed_value c x (subst (λ u. Stands c (ItemKind.Ty u)) is s)

pub interface_type_is : (c : Collection) → IsAcyclic c → (t : TypeKind) (x : InterfaceId) → t ≡ TypeKind.Interface x → Stands c (ItemKind.Ty t) → tree_in c (ItemKind.Ty t) ≡ type_item (tree_in c (ItemKind.Instance x))
interface_type_is c a t x is s = ap (λ u. tree_in c (ItemKind.Ty u)) is ∙ type_interface c a x (subst (λ u. Stands c (ItemKind.Ty u)) is s)

pub interface_type_stands : (c : Collection) (t : TypeKind) (x : InterfaceId) → t ≡ TypeKind.Interface x → Stands c (ItemKind.Ty t) → Stands c (ItemKind.Instance x)
interface_type_stands c t x is s = stands_typed_interface c x (subst (λ u. Stands c (ItemKind.Ty u)) is s)

pub world_type_is : (c : Collection) → IsAcyclic c → (t : TypeKind) (x : WorldId) → t ≡ TypeKind.World x → Stands c (ItemKind.Ty t) → tree_in c (ItemKind.Ty t) ≡ type_item (tree_in c (ItemKind.Component x))
world_type_is c a t x is s = ap (λ u. tree_in c (ItemKind.Ty u)) is ∙ type_world c a x (subst (λ u. Stands c (ItemKind.Ty u)) is s)

pub world_type_stands : (c : Collection) (t : TypeKind) (x : WorldId) → t ≡ TypeKind.World x → Stands c (ItemKind.Ty t) → Stands c (ItemKind.Component x)
world_type_stands c t x is s = stands_typed_world c x (subst (λ u. Stands c (ItemKind.Ty u)) is s)

pub module_type_is : (c : Collection) → IsAcyclic c → (t : TypeKind) (x : ModuleTypeId) → t ≡ TypeKind.Module x → Stands c (ItemKind.Ty t) → tree_in c (ItemKind.Ty t) ≡ type_item (tree_in c (ItemKind.Module x))
module_type_is c a t x is s = ap (λ u. tree_in c (ItemKind.Ty u)) is ∙ type_module c a x (subst (λ u. Stands c (ItemKind.Ty u)) is s)

pub module_type_stands : (c : Collection) (t : TypeKind) (x : ModuleTypeId) → t ≡ TypeKind.Module x → Stands c (ItemKind.Ty t) → Stands c (ItemKind.Module x)
module_type_stands c t x is s = stands_typed_module c x (subst (λ u. Stands c (ItemKind.Ty u)) is s)

pub interface_type_size : (c : Collection) → IsAcyclic c → (t : TypeKind) (x : InterfaceId) → t ≡ TypeKind.Interface x → Stands c (ItemKind.Ty t) → size_of c (ItemKind.Ty t) ≡ size_of c (ItemKind.Instance x)
interface_type_size c a t x is s = ap (λ u. size_of c (ItemKind.Ty u)) is ∙ interface_size c a x (subst (λ u. Stands c (ItemKind.Ty u)) is s)

pub world_type_size : (c : Collection) → IsAcyclic c → (t : TypeKind) (x : WorldId) → t ≡ TypeKind.World x → Stands c (ItemKind.Ty t) → size_of c (ItemKind.Ty t) ≡ size_of c (ItemKind.Component x)
world_type_size c a t x is s = ap (λ u. size_of c (ItemKind.Ty u)) is ∙ world_size c a x (subst (λ u. Stands c (ItemKind.Ty u)) is s)
