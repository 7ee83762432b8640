-- Resources, at the end of their aliases and under their own names.
use Rattle.std.proofs.Common.{◌≡◌, Some, slice_get, refl, sym, ap, ◌∙◌}
use Rattle.wac_types_base.specs.declared.ids.ResourceId.{ResourceId}
use Rattle.wac_types_base.specs.declared.item.«Type».{«Type» as TypeKind}
use Rattle.wac_types_base.specs.declared.item.ItemKind.{ItemKind}
use Rattle.wac_types_base.specs.declared.defined.Resource.{Resource}
use Rattle.wac_types_base.specs.Record.{Collection}
use Rattle.wac_types_base.specs.Entries.{Name}
use Rattle.wac_types_base.specs.Collection.{Stands, IsAcyclic, resource}
use Rattle.wac_types_base.specs.Resolving.{IsRootOf}
use Rattle.wac_types_base.specs.Stated.{IsResource}
use Rattle.wac_types_base.specs.Tree.{rigid, end, tree_of}
use Rattle.wac_types_base.proofs.Telling.{item_kind}
use Rattle.wac_types_fit.specs.Trees.{tree_in}
use Rattle.wac_types_fit.proofs.ItemKinds.{tree_kind, kind_is}
use Rattle.wac_types_fit.proofs.Unfolded.{same_tree, root_tree, root_no_alias}
use Rattle.wac_types_parts.specs.Parts.{IsFresh}

module _ (c : Collection) (acyclic : IsAcyclic c) where
  pub root_is : (r s : ResourceId) (x : Resource) → IsRootOf c r s → Stands c (ItemKind.Ty (TypeKind.Resource s)) → Stands c (ItemKind.Ty (TypeKind.Resource r))
      → tree_of c (ItemKind.Ty (TypeKind.Resource s)) ≡ tree_of c (ItemKind.Ty (TypeKind.Resource r)) → slice_get c.resources s.index ≡ Some x → s.collection ≡ c.number
      → tree_in c (ItemKind.Ty (TypeKind.Resource r)) ≡ rigid (resource x.name) end
  root_is r s x end_of there stands e at own =
      sym (same_tree c acyclic (ItemKind.Ty (TypeKind.Resource s)) (ItemKind.Ty (TypeKind.Resource r)) there stands e)
      ∙ root_tree c acyclic s x at own (root_no_alias c acyclic end_of x at)

  -- only a resource is one under its own name
  pub fresh_is : (n : Name) (k : ItemKind) → IsFresh c n k → (r : ResourceId) × (k ≡ ItemKind.Ty (TypeKind.Resource r))
  fresh_is n k f = by k (sym (ap tree_kind f.1) ∙ kind_is c acyclic k f.0)
    where
      by : (k : ItemKind) → IsResource ≡ item_kind k → (r : ResourceId) × (k ≡ ItemKind.Ty (TypeKind.Resource r))
      by (ItemKind.Ty (TypeKind.Resource r)) e = (r, refl)
      by (ItemKind.Ty (TypeKind.Value v)) e = absurd (cc e)
      by (ItemKind.Ty (TypeKind.Func f)) e = absurd (cc e)
      by (ItemKind.Ty (TypeKind.Interface i)) e = absurd (cc e)
      by (ItemKind.Ty (TypeKind.World w)) e = absurd (cc e)
      by (ItemKind.Ty (TypeKind.Module m)) e = absurd (cc e)
      by (ItemKind.Func f) e = absurd (cc e)
      by (ItemKind.Instance i) e = absurd (cc e)
      by (ItemKind.Component w) e = absurd (cc e)
      by (ItemKind.Module m) e = absurd (cc e)
      by (ItemKind.Value v) e = absurd (cc e)
