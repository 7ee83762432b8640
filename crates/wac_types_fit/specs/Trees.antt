-- The tree of an id that stands, and when one fits another.
use Rattle.std.specs.Prelude.{◌⊎◌, ◌≡◌, ◌<◌}
use Rattle.wac_types_base.specs.declared.item.ItemKind.{ItemKind}
use Rattle.wac_types_base.specs.Record.{Collection}
use Rattle.wac_types_base.specs.Collection.{Stands, size_of}
use Rattle.wac_types_base.specs.Stated.{stated_of}
use Rattle.wac_types_base.specs.Tree.{Tree, tree}
use Rattle.wac_types_base.specs.Fits.{Fits}

-- the tree of what a kind names; where it does not stand it does not matter which
unfoldable pub tree_in : Collection → ItemKind → Tree
tree_in c k = tree (stated_of c k)

-- j of c fits k of d
abbrev pub Fit : Collection → ItemKind → Collection → ItemKind → Type 0
Fit c j d k = Fits (tree_in c j) (tree_in d k)

-- j of c and k of d have one tree
abbrev pub SameTree : Collection → ItemKind → Collection → ItemKind → Type 0
SameTree c j d k = tree_in c j ≡ tree_in d k

-- one collection, or two with different numbers
abbrev pub OneOrApart : Collection → Collection → Type 0
OneOrApart c d = (c ≡ d) ⊎ (c.number ≡ d.number → ⊥)

-- the kind stands, and is smaller than the other
abbrev pub IsInside : Collection → ItemKind → ItemKind → Type 0
IsInside c j k = Stands c j × (size_of c j < size_of c k)
