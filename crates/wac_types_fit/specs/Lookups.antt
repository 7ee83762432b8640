-- What a map in a tree has under a name.
use Rattle.std.specs.Prelude.{Option, Some, None}
use Rattle.std.specs.declared.cmp.Ordering.{Ordering}
use Rattle.wac_types_base.specs.Entries.{Name}
use Rattle.wac_types_base.specs.Tree.{Tree, Fields, no_fields, field, name_cmp}

abbrev pub found : Ordering → Tree → Option Tree → Option Tree
found Ordering.Less t o = o
found Ordering.Equal t o = Some t
found Ordering.Greater t o = o

-- what the map has under a name
abbrev pub lookup : Name → Fields → Option Tree
lookup n no_fields = None
lookup n (field m t xs) = found (name_cmp n m) t (lookup n xs)
