-- When no tree fits two items.
use Rattle.std.proofs.Common.{◌≡◌, List, Option, Some, None, refl, sym, ap, subst, ◌∙◌}
use Rattle.std.specs.Option.{option_map}
use Rattle.std.specs.Prelude.{Result, Ok, Err, ⊤}
use Rattle.wac_types_base.specs.declared.item.«Type».{«Type» as TypeKind}
use Rattle.wac_types_base.specs.declared.item.ItemKind.{ItemKind}
use Rattle.wac_types_base.specs.declared.ids.InterfaceId.{InterfaceId}
use Rattle.wac_types_base.specs.declared.defined.Interface.{Interface}
use Rattle.wac_types_base.specs.Record.{Collection}
use Rattle.wac_types_base.specs.Entries.{Name, value_at}
use Rattle.wac_types_base.specs.Collection.{Stands, SlotStands, IsAcyclic, Grows}
use Rattle.wac_types_base.specs.Tree.{Tree, Fields, instance, type_item, no_fields, field}
use Rattle.wac_types_base.specs.Fits.{HasField, at_first, at_later, Fits, instance_fits, type_fits}
use Rattle.wac_types_base.proofs.Standing.{world_found, module_found}
use Rattle.wac_types_base.proofs.Slots.{stands_typed_world, stands_typed_module}
use Rattle.wac_types_base.proofs.Telling.{item_kind}
use Rattle.wac_types_fit.specs.declared.error.SubtypeError.{SubtypeError}
use Rattle.wac_types_base.specs.declared.item.ExternKind.{ExternKind}
use Rattle.wac_types_fit.specs.Frames.{Step, Disagree}
use Rattle.wac_types_fit.specs.Errors.{IfMismatch}
use Rattle.wac_types_merge.specs.Errors.{IfClash, IfLeads}
use Rattle.wac_types_fit.specs.Ordered.{InOrder}
use Rattle.wac_types_fit.specs.Lookups.{lookup}
use Rattle.wac_types_fit.specs.Meets.{IsPlain, ArePlain, Clash}
use Rattle.wac_types_fit.specs.Trees.{tree_in}
use Rattle.wac_types_fit.specs.Checking.{IsFlat, NameDisagrees, name_differs, ItemsDisagree}
use Rattle.wac_types_fit.proofs.Looking.{looked-has, has-looked, in_order-at, given}
use Rattle.wac_types_fit.proofs.Items.{looked_in}
use Rattle.wac_types_fit.proofs.ItemKinds.{flat_is, fits_kind, kind_is, not_instance, not_type, not_interface_type, types_are_types, is_type, flat_fits}
use Rattle.wac_types_fit.proofs.Unfolded.{fields_in, instance_tree, component_tree, module_tree, type_world, type_module}
use Rattle.wac_types_merge.specs.Interfaces.{IsAt, ClashIn, ClashUnlessFit, OtherClash, ItemsClash, LeadsIn, OtherLeads}
use Rattle.wac_types_merge.proofs.Grown.{tree_kept}

-- ---- trees without parts

module _ (c : Collection) (a : IsAcyclic c) (j k : ItemKind) (s : Stands c j) where
  pub flat_apart : IsFlat j → ClashUnlessFit c j k
  flat_apart f wider p x o g h = wider (subst (λ t. Fits t (tree_in c k)) (flat_fits x (tree_in c j) (flat_is c a j f s) g) h)

  pub kinds_apart : Stands c k → (item_kind j ≡ item_kind k → ⊥) → ClashUnlessFit c j k
  kinds_apart r h wider p x o f g =
      h (sym (kind_is c a j s) ∙ sym (fits_kind x (tree_in c j) f) ∙ fits_kind x (tree_in c k) g ∙ kind_is c a k r)

  pub instance_apart : Stands c k → (i : InterfaceId) → j ≡ ItemKind.Instance i → ((g : InterfaceId) → k ≡ ItemKind.Instance g → ⊥) → ClashUnlessFit c j k
  instance_apart r i is h = kinds_apart r (λ e. not_instance k h (sym e ∙ ap item_kind is))

  pub type_apart : Stands c k → (t : TypeKind) → j ≡ ItemKind.Ty t → ((u : TypeKind) → k ≡ ItemKind.Ty u → ⊥) → ClashUnlessFit c j k
  type_apart r t is h = kinds_apart r (λ e. not_type k h (ap is_type (sym e ∙ ap item_kind is) ∙ types_are_types t))

-- what is no instance and no type
pub other_apart : (c : Collection) → IsAcyclic c → (j k : ItemKind) → Stands c j → ((t : TypeKind) → j ≡ ItemKind.Ty t → ⊥) → ((i : InterfaceId) → j ≡ ItemKind.Instance i → ⊥) → ClashUnlessFit c j k
other_apart c a (ItemKind.Ty t) k s h g wider p = absurd (h t refl)
other_apart c a (ItemKind.Instance i) k s h g wider p = absurd (g i refl)
other_apart c a (ItemKind.Func f) k s h g wider p = flat_apart c a (ItemKind.Func f) k s tt wider p
other_apart c a (ItemKind.Value v) k s h g wider p = flat_apart c a (ItemKind.Value v) k s tt wider p
other_apart c a (ItemKind.Component w) k s h g wider p =
    let f = world_found c w s in
    absurd (subst IsPlain (component_tree c a w f.value f.at f.own) p)
other_apart c a (ItemKind.Module m) k s h g wider p =
    let f = module_found c m s in
    absurd (subst IsPlain (module_tree c a m f.value f.at f.own) p)

-- the types of what is no interface
pub other_type_apart : (c : Collection) → IsAcyclic c → (t : TypeKind) (k : ItemKind) → Stands c (ItemKind.Ty t) → ((i : InterfaceId) → t ≡ TypeKind.Interface i → ⊥) → ClashUnlessFit c (ItemKind.Ty t) k
other_type_apart c a (TypeKind.Interface i) k s h wider p = absurd (h i refl)
other_type_apart c a (TypeKind.Resource r) k s h wider p = flat_apart c a (ItemKind.Ty (TypeKind.Resource r)) k s tt wider p
other_type_apart c a (TypeKind.Func f) k s h wider p = flat_apart c a (ItemKind.Ty (TypeKind.Func f)) k s tt wider p
other_type_apart c a (TypeKind.Value v) k s h wider p = flat_apart c a (ItemKind.Ty (TypeKind.Value v)) k s tt wider p
other_type_apart c a (TypeKind.World w) k s h wider p =
    let f = world_found c w (stands_typed_world c w s) in
    absurd (subst IsPlain (type_world c a w s ∙ ap type_item (component_tree c a w f.value f.at f.own)) p)
other_type_apart c a (TypeKind.Module m) k s h wider p =
    let f = module_found c m (stands_typed_module c m s) in
    absurd (subst IsPlain (type_module c a m s ∙ ap type_item (module_tree c a m f.value f.at f.own)) p)

-- an interface type and another
pub interface_type_apart : (c : Collection) → IsAcyclic c → (t u : TypeKind) → Stands c (ItemKind.Ty t) → Stands c (ItemKind.Ty u) → (i : InterfaceId) → t ≡ TypeKind.Interface i → ((g : InterfaceId) → u ≡ TypeKind.Interface g → ⊥) → ClashUnlessFit c (ItemKind.Ty t) (ItemKind.Ty u)
interface_type_apart c a t u s r i is h = kinds_apart c a (ItemKind.Ty t) (ItemKind.Ty u) s r (λ e. not_interface_type u h (sym e ∙ ap (λ x. item_kind (ItemKind.Ty x)) is))

-- ---- instances

pub plain_has : (n : Name) (t : Tree) (xs : Fields) → HasField n t xs → ArePlain xs → IsPlain t
plain_has n t (field m u xs) at_first p = p.0
plain_has n t (field m u xs) (at_later h) p = plain_has n t xs h p.1
plain_has n t no_fields h p = elim h [ ]

clash_fields : (n : Name) (t u : Tree) (xs ys : Fields) → lookup n xs ≡ Some t → lookup n ys ≡ Some u → Clash t u → (x : Tree) → InOrder x → Fits x (instance xs) → Fits x (instance ys) → ⊥
clash_fields n t u xs ys e f h x o (instance_fits {xs = ws} p) (instance_fits q) =
    let a = given ws xs n t p (looked-has n t xs e) in
    let b = given ws ys n u q (looked-has n u ys f) in
    let same : b.0 ≡ a.0 = cc (has-looked n a.0 ws o a.1, has-looked n b.0 ws o b.1) in
    h a.0 (in_order-at n a.0 ws o a.1) a.2 (subst (λ v. Fits v u) same b.2)

-- a clash under one name is a clash of the instances
clash_inside : (n : Name) (t u : Tree) (xs ys : Fields) → lookup n xs ≡ Some t → lookup n ys ≡ Some u → Clash t u → Clash (instance xs) (instance ys)
clash_inside n t u xs ys e f h x o p q = clash_fields n t u xs ys e f h x o p q

items_clash : (c : Collection) (es fs : List (Name × ItemKind)) → ItemsClash c es fs → ArePlain (fields_in c es) → Clash (instance (fields_in c es)) (instance (fields_in c fs))
items_clash c es fs h p =
    let first = looked_in c es h.name ∙ ap (option_map (tree_in c)) h.first_at in
    let second = looked_in c fs h.name ∙ ap (option_map (tree_in c)) h.second_at in
    clash_inside h.name (tree_in c h.first) (tree_in c h.second) (fields_in c es) (fields_in c fs) first second
    (h.clash (plain_has h.name (tree_in c h.first) (fields_in c es) (looked-has h.name (tree_in c h.first) (fields_in c es) first) p))

pub instances_clash : (c : Collection) → IsAcyclic c → (i j : InterfaceId) (x y : Interface) → IsAt c i x → IsAt c j y → ItemsClash c x.exports y.exports → ClashIn c (ItemKind.Instance i) (ItemKind.Instance j)
instances_clash c a i j x y p q h =
    subst (λ t. IsPlain t → Clash t (tree_in c (ItemKind.Instance j))) (sym (instance_tree c a i x p.at p.own))
    (subst (λ u. ArePlain (fields_in c x.exports) → Clash (instance (fields_in c x.exports)) u) (sym (instance_tree c a j y q.at q.own)) (items_clash c x.exports y.exports h))

-- ---- types of instances

types_clash : (t u x : Tree) → Clash t u → InOrder x → Fits x (type_item t) → Fits x (type_item u) → ⊥
types_clash t u x h o (type_fits {t = w} f) (type_fits g) = h w o f g

pub typed_clash : (c : Collection) (j k i l : ItemKind) → tree_in c j ≡ type_item (tree_in c i) → tree_in c k ≡ type_item (tree_in c l) → ClashIn c i l → ClashIn c j k
typed_clash c j k i l e f h =
    subst (λ t. IsPlain t → Clash t (tree_in c k)) (sym e)
    (subst (λ u. IsPlain (tree_in c i) → Clash (type_item (tree_in c i)) u) (sym f) (λ p x o g m. types_clash (tree_in c i) (tree_in c l) x (h p) o g m))

-- a clash in a grown collection is one in the collection before
pub clash_before : (c d : Collection) → Grows c d → (j k : ItemKind) → Stands c j → Stands c k → ClashIn d j k → ClashIn c j k
clash_before c d g j k s r h =
    subst (λ t. IsPlain t → Clash t (tree_in c k)) (tree_kept c d g j s) (subst (λ u. IsPlain (tree_in d j) → Clash (tree_in d j) u) (tree_kept c d g k r) h)

-- what follows from a mismatch of the checker
pub clash_of : (r : Result ⊤ SubtypeError) (P : Type 0) → IfMismatch r (λ ss. P) → IfClash r P
clash_of (Ok x) P h = tt
clash_of (Err e) P h = h

-- what clashes under a name
pub clash_at : (c d : Collection) (es fs : List (Name × ItemKind)) (n : Name) (k : ItemKind) (o : Option ItemKind) → Grows c d → value_at es n ≡ Some k → o ≡ value_at fs n → Stands c k → SlotStands c o → OtherClash d k o → ItemsClash c es fs
clash_at c d es fs n k None g e f s r h = absurd h
clash_at c d es fs n k (Some j) g e f s r h = record { name = n; first = k; second = j; first_at = e; second_at = sym f; clash = clash_before c d g k j s r h }

-- ---- where the steps lead

pub leads_of : (r : Result ⊤ SubtypeError) (P : List Step → Type 0) → IfMismatch r P → IfLeads r P
leads_of (Ok x) P h = tt
leads_of (Err e) P h = h

-- steps in a grown collection lead there in the collection before
leads_before : (c d : Collection) → Grows c d → (j k : ItemKind) → Stands c j → Stands c k → (ss : List Step) → LeadsIn d j k ss → LeadsIn c j k ss
leads_before c d g j k s r ss h = subst (λ t. Disagree ss t (tree_in c k)) (tree_kept c d g j s) (subst (Disagree ss (tree_in d j)) (tree_kept c d g k r) h)

-- through the export of a name
pub leads_at : (c d : Collection) (es fs : List (Name × ItemKind)) (n : Name) (k : ItemKind) (o : Option ItemKind) → Grows c d → value_at es n ≡ Some k → o ≡ value_at fs n → Stands c k → SlotStands c o
    → (ss : List Step) → OtherLeads d n k o ss → ItemsDisagree ExternKind.Export c es c fs ss
leads_at c d es fs n k None g e f s r ss h = absurd h
leads_at c d es fs n k (Some j) g e f s r ss h = record {
  name = n;
  kind = j;
  asked = sym f;
  disagrees = subst (NameDisagrees ExternKind.Export c es c n j) (sym h.1) (name_differs k h.0 e (leads_before c d g k j s r h.0 h.2));
}
