-- Sets of types, as the lists of their members.
use Rattle.std.specs.Prelude.{◌≡◌, ◌↔◌, ◌⊎◌, List}
use Rattle.wac_types_base.specs.declared.item.«Type».{«Type» as TypeKind}
use Rattle.wac_types_base.specs.Graph.{Among}

-- exactly this type more
abbrev pub AddsType : List TypeKind → List TypeKind → TypeKind → Type 0
AddsType old new t = (u : TypeKind) → Among u new ↔ (Among u old ⊎ (u ≡ t))
