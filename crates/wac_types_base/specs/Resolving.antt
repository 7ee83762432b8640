-- What is at the end of aliases.
use Rattle.std.specs.Prelude.{◌≡◌, Some, None, slice_get}
use Rattle.wac_types_base.specs.declared.ids.ResourceId.{ResourceId}
use Rattle.wac_types_base.specs.declared.ids.DefinedTypeId.{DefinedTypeId}
use Rattle.wac_types_base.specs.declared.item.ValueType.{ValueType}
use Rattle.wac_types_base.specs.declared.item.«Type».{«Type» as TypeKind}
use Rattle.wac_types_base.specs.declared.item.ItemKind.{ItemKind}
use Rattle.wac_types_base.specs.declared.defined.DefinedType.{DefinedType}
use Rattle.wac_types_base.specs.declared.defined.Resource.{Resource}
use Rattle.wac_types_base.specs.declared.defined.ResourceAlias.{ResourceAlias}
use Rattle.wac_types_base.specs.Record.{Collection}

-- the value type is no alias
abbrev pub IsNoAlias : Collection → ValueType → Type 0
IsNoAlias c v = (d : DefinedTypeId) (t : ValueType) → v ≡ ValueType.Defined d
    → slice_get c.defined_types d.index ≡ Some (DefinedType.Alias t) → ⊥

-- v is an alias, or several, of w, which is none
pub data ResolvesTo (c : Collection) : ValueType → ValueType → Type 0 where
  resolved : {v : ValueType} → IsNoAlias c v → ResolvesTo c v v
  through_alias : {d : DefinedTypeId} {t w : ValueType} → slice_get c.defined_types d.index ≡ Some (DefinedType.Alias t)
      → ResolvesTo c t w → ResolvesTo c (ValueType.Defined d) w

-- r is an alias, or several, of s, which is none
pub data IsRootOf (c : Collection) : ResourceId → ResourceId → Type 0 where
  root : {r : ResourceId} {x : Resource} → slice_get c.resources r.index ≡ Some x → x.alias ≡ None → IsRootOf c r r
  through_source : {r s : ResourceId} {x : Resource} {a : ResourceAlias} → slice_get c.resources r.index ≡ Some x
      → x.alias ≡ Some a → IsRootOf c a.source s → IsRootOf c r s

-- what an item is of, as a type
abbrev pub item_type : ItemKind → TypeKind
item_type (ItemKind.Ty t) = t
item_type (ItemKind.Func f) = TypeKind.Func f
item_type (ItemKind.Instance i) = TypeKind.Interface i
item_type (ItemKind.Component w) = TypeKind.World w
item_type (ItemKind.Module m) = TypeKind.Module m
item_type (ItemKind.Value v) = TypeKind.Value v

-- function, interface and world types become function, instance and component; all else stays
abbrev pub promoted : ItemKind → ItemKind
promoted (ItemKind.Ty (TypeKind.Func f)) = ItemKind.Func f
promoted (ItemKind.Ty (TypeKind.Interface i)) = ItemKind.Instance i
promoted (ItemKind.Ty (TypeKind.World w)) = ItemKind.Component w
promoted k = k
