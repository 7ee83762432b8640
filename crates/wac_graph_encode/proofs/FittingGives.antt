-- An instance that fits another gives its types.
use Rattle.std.proofs.Common.{◌≡◌, Option, Some, sym, ap, ◌∙◌, subst, inl, inr}
use Rattle.std.specs.Prelude.{option_map}
use Rattle.std.proofs.lemmas.Option.{none-some, same_Some}
use Rattle.wac_types_base.specs.declared.ids.InterfaceId.{InterfaceId}
use Rattle.wac_types_base.specs.declared.item.ItemKind.{ItemKind}
use Rattle.wac_types_base.specs.declared.item.«Type».{«Type» as TypeKind}
use Rattle.wac_types_base.specs.Record.{Collection}
use Rattle.wac_types_base.specs.Entries.{Name, value_at}
use Rattle.wac_types_base.specs.Collection.{Stands, IsAcyclic}
use Rattle.wac_types_base.specs.Tree.{Tree, Fields, instance}
use Rattle.wac_types_base.specs.Fits.{HasField, Fits, instance_fits, FieldsFit}
use Rattle.wac_types_base.proofs.Standing.{interface_found}
use Rattle.wac_types_fit.specs.Checking.{IsFlat}
use Rattle.wac_types_fit.specs.Trees.{tree_in}
use Rattle.wac_types_fit.proofs.ItemKinds.{flat_fits, flat_is}
use Rattle.wac_types_fit.proofs.Items.{looked_in, ordered_in}
use Rattle.wac_types_fit.proofs.Looking.{given, looked-has, has-looked}
use Rattle.wac_types_fit.proofs.Meeting.{mapped-some}
use Rattle.wac_types_fit.proofs.Unfolded.{fields_in, instance_tree}
use Rattle.wac_types_parts.specs.Parts.{exports_of, used_if}
use Rattle.wac_types_parts.proofs.PartLaws.{exports_there, exports_missing}
use Rattle.wac_types_parts.proofs.PartsStated.{stands_or_not}

-- a type that a use takes has no parts that could fit otherwise
pub used_flat : (o : Option ItemKind) (k : ItemKind) → used_if o ≡ Some k → IsFlat k
used_flat (Some (ItemKind.Ty (TypeKind.Resource r))) k e = subst IsFlat (same_Some _ _ e) tt
used_flat (Some (ItemKind.Ty (TypeKind.Value v))) k e = subst IsFlat (same_Some _ _ e) tt
used_flat o k e = absurd (none-some _ e)

fields_fit : (xs ys : Fields) → Fits (instance xs) (instance ys) → FieldsFit xs ys
fields_fit xs ys (instance_fits f) = f

module _ (c : Collection) (acyclic : IsAcyclic c) where
  -- an interface that has an item stands
  pub with_item_stands : (j : InterfaceId) (n : Name) (k : ItemKind) → value_at (exports_of c j) n ≡ Some k → Stands c (ItemKind.Instance j)
  with_item_stands j n k e = elim (stands_or_not c (ItemKind.Instance j)) [
    | inl s ↦ s
    | inr h ↦ absurd (none-some _ (ap (λ es. value_at es n) (sym (exports_missing c j h)) ∙ e))
  ]

  tree_there : (j : InterfaceId) → Stands c (ItemKind.Instance j) → tree_in c (ItemKind.Instance j) ≡ instance (fields_in c (exports_of c j))
  tree_there j st =
      let f = interface_found c j st in
      instance_tree c acyclic j f.value f.at f.own ∙ ap (λ es. instance (fields_in c es)) (sym (exports_there c j f.value f.at f.own))

  -- a field that fits a type is that type
  same_field : (l : InterfaceId) (n : Name) (item : ItemKind) → IsFlat item → Stands c item → (t : Tree) → HasField n t (fields_in c (exports_of c l)) → Fits t (tree_in c item)
      → (k : ItemKind) × (value_at (exports_of c l) n ≡ Some k) × (tree_in c item ≡ tree_in c k)
  same_field l n item flat stands t has fit =
      out (mapped-some (tree_in c) (value_at (exports_of c l) n) t (sym (looked_in c (exports_of c l) n) ∙ has-looked n t (fields_in c (exports_of c l)) (ordered_in c (exports_of c l)) has))
    where
      out : (k : ItemKind) × (value_at (exports_of c l) n ≡ Some k) × (tree_in c k ≡ t) → (k : ItemKind) × (value_at (exports_of c l) n ≡ Some k) × (tree_in c item ≡ tree_in c k)
      out (k, at, is) = (k, at, sym (is ∙ flat_fits t (tree_in c item) (flat_is c acyclic item flat stands) fit))

  pub type_given : (l j : InterfaceId) → Stands c (ItemKind.Instance l) → Stands c (ItemKind.Instance j) → Fits (tree_in c (ItemKind.Instance l)) (tree_in c (ItemKind.Instance j))
      → (n : Name) (item : ItemKind) → value_at (exports_of c j) n ≡ Some item → IsFlat item → Stands c item → (k : ItemKind) × (value_at (exports_of c l) n ≡ Some k) × (tree_in c item ≡ tree_in c k)
  type_given l j left right f n item e flat stands = out (given xs ys n (tree_in c item) fit has)
    where
      xs : Fields
      xs = fields_in c (exports_of c l)

      ys : Fields
      ys = fields_in c (exports_of c j)

      fit : FieldsFit xs ys
      fit = fields_fit xs ys (subst (λ t. Fits t (instance ys)) (tree_there l left) (subst (Fits (tree_in c (ItemKind.Instance l))) (tree_there j right) f))

      has : HasField n (tree_in c item) ys
      has = looked-has n (tree_in c item) ys (looked_in c (exports_of c j) n ∙ ap (option_map (tree_in c)) e)

      out : (t : Tree) × HasField n t xs × Fits t (tree_in c item) → (k : ItemKind) × (value_at (exports_of c l) n ≡ Some k) × (tree_in c item ≡ tree_in c k)
      out (t, there, g) = same_field l n item flat stands t there g
