-- What it means that one collection holds a copy of what another one holds.
use Rattle.std.specs.Prelude.{◌≡◌, List, [], ◌∷◌, Some, None}
use Rattle.wac_types_base.specs.declared.item.ItemKind.{ItemKind}
use Rattle.wac_types_base.specs.Record.{Collection}
use Rattle.wac_types_base.specs.Collection.{Slot, Stands, unfolding_of}

-- k' of d is a copy of k of c: it stands, and has the same tree with the same identifiers, uses and owners
pub record IsCopy (c d : Collection) (k k' : ItemKind) : Type 0 where
  pub stands : Stands d k'
  pub same : unfolding_of d k' ≡ unfolding_of c k

-- place by place
pub data SlotsCopied (c d : Collection) : List Slot → List Slot → Type 0 where
  none_copied : SlotsCopied c d [] []
  hole_copied : {xs ys : List Slot} → SlotsCopied c d xs ys → SlotsCopied c d (None ∷ xs) (None ∷ ys)
  place_copied : {x y : ItemKind} {xs ys : List Slot} → IsCopy c d x y → SlotsCopied c d xs ys
      → SlotsCopied c d (Some x ∷ xs) (Some y ∷ ys)
