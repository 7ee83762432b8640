-- When two types share: they are equal values without entry, or differ at most in ids of one kept entry.
use Rattle.std.specs.Prelude.{◌≡◌, ℕ, List, slice_get}
use Rattle.wac_types_base.specs.declared.item.ValueType.{ValueType}
use Rattle.wac_types_base.specs.declared.item.«Type».{«Type» as TypeKind}
use Rattle.wac_types_base.specs.declared.item.ItemKind.{ItemKind}
use Rattle.wac_types_base.specs.Record.{Collection}

-- the entries at both indexes are equal, so they are one kept entry
abbrev pub OneEntry : {E : Type 0} → List E → ℕ → ℕ → Type 0
OneEntry es i j = slice_get es i ≡ slice_get es j

abbrev pub ShareValue : Collection → ValueType → ValueType → Type 0
ShareValue c (ValueType.Primitive p) (ValueType.Primitive q) = p ≡ q
ShareValue c (ValueType.Borrow r) (ValueType.Borrow s) = OneEntry c.resources r.index s.index
ShareValue c (ValueType.Own r) (ValueType.Own s) = OneEntry c.resources r.index s.index
ShareValue c (ValueType.Defined d) (ValueType.Defined e) = OneEntry c.defined_types d.index e.index
ShareValue c v w = ⊥

abbrev pub Share : Collection → TypeKind → TypeKind → Type 0
Share c (TypeKind.Resource r) (TypeKind.Resource s) = OneEntry c.resources r.index s.index
Share c (TypeKind.Func f) (TypeKind.Func g) = OneEntry c.func_types f.index g.index
Share c (TypeKind.Value v) (TypeKind.Value w) = ShareValue c v w
Share c (TypeKind.Interface i) (TypeKind.Interface j) = OneEntry c.interfaces i.index j.index
Share c (TypeKind.World v) (TypeKind.World w) = OneEntry c.worlds v.index w.index
Share c (TypeKind.Module m) (TypeKind.Module n) = OneEntry c.modules m.index n.index
Share c t u = ⊥

-- likewise of two items
abbrev pub ItemsShare : Collection → ItemKind → ItemKind → Type 0
ItemsShare c (ItemKind.Ty t) (ItemKind.Ty u) = Share c t u
ItemsShare c (ItemKind.Func f) (ItemKind.Func g) = OneEntry c.func_types f.index g.index
ItemsShare c (ItemKind.Instance i) (ItemKind.Instance j) = OneEntry c.interfaces i.index j.index
ItemsShare c (ItemKind.Component v) (ItemKind.Component w) = OneEntry c.worlds v.index w.index
ItemsShare c (ItemKind.Module m) (ItemKind.Module n) = OneEntry c.modules m.index n.index
ItemsShare c (ItemKind.Value v) (ItemKind.Value w) = ShareValue c v w
ItemsShare c j k = ⊥
