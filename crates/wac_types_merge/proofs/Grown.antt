-- What stands keeps its tree and its size while a collection grows.
use Rattle.std.proofs.Common.{◌≡◌, Option, Some, None, refl, ap, arith}
use Rattle.std.specs.Option.{option_map}
use Rattle.wac_types_base.specs.declared.item.ItemKind.{ItemKind}
use Rattle.wac_types_base.specs.Record.{Collection}
use Rattle.wac_types_base.specs.Collection.{Stands, SlotStands, Grows, size_in, size_of}
use Rattle.wac_types_base.specs.Copying.{IsCopy}
use Rattle.wac_types_base.specs.Stated.{stated_in, stated_of}
use Rattle.wac_types_base.specs.Tree.{tree}
use Rattle.wac_types_fit.specs.Trees.{tree_in, IsInside}

module _ (c d : Collection) (g : Grows c d) where
  pub tree_kept : (k : ItemKind) → Stands c k → tree_in d k ≡ tree_in c k
  unfolding tree_in
  tree_kept k s = ap (λ o. tree (stated_in o)) (g.keep k s)

  pub stated_kept : (k : ItemKind) → Stands c k → stated_of d k ≡ stated_of c k
  stated_kept k s = ap stated_in (g.keep k s)

  pub size_kept : (k : ItemKind) → Stands c k → size_of d k ≡ size_of c k
  size_kept k s = ap size_in (g.keep k s)

  pub inside_kept : (j k : ItemKind) → Stands c k → IsInside c j k → IsInside d j k
  inside_kept j k s h =
      let a = size_kept j h.0 in
      let b = size_kept k s in
      let lt = h.1 in
      (g.stand j h.0, omega (arith, a, b, lt))

  pub slot_kept : (o : Option ItemKind) → SlotStands c o → option_map (tree_in d) o ≡ option_map (tree_in c) o
  slot_kept None s = refl
  slot_kept (Some k) s = ap Some (tree_kept k s)

pub copied_tree : (c d : Collection) (k j : ItemKind) → IsCopy c d k j → tree_in d j ≡ tree_in c k
unfolding tree_in
copied_tree c d k j h = ap (λ o. tree (stated_in o)) h.same
