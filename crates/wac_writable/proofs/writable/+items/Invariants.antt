use Rattle.std.proofs.Common.{◌≡◌, ◌+◌, ◌*◌, take, drop}
use Rattle.std.specs.List.{list_any}
use Rattle.wac_types_base.specs.declared.item.ItemKind.{ItemKind}
use Rattle.wac_types_base.specs.Collection.{size_of}
use Rattle.wac_composition.specs.Writable.{Holder as Held}
use Rattle.wac_types_parts.specs.Parts.{exports_of as exports_in, uses_of as uses_in, world_uses_of as world_uses_in, imports_of as imports_in, world_exports_of as world_exports_in}
use Rattle.wac_writable.specs.Unnamed.{KnowsAll}
use Rattle.wac_writable.specs.Holders.{Holds, Keeps}
use Rattle.wac_writable.specs.Tests.{exports_unwritable, tested_unwritable, some_ungiven, some_unwritable}
use Rattle.wac_writable.proofs.UseLaws.{NoneOf, FailsIn, ItemNeeds}
use Rattle.wac_writable.proofs.GiverLaws.{Passed}
use Rattle.wac_writable.proofs.writable.+items.Given as goal

abbrev pub decreases-item_fails : goal.decreases-item_fails
decreases-item_fails l = 16 * size_of l.test.types.now l.item.kind + 9

abbrev pub decreases-interface_fails : goal.decreases-interface_fails
decreases-interface_fails l = 16 * size_of l.test.types.now (ItemKind.Instance l.id) + 7

abbrev pub decreases-exports_fail : goal.decreases-exports_fail
decreases-exports_fail l = 16 * size_of l.test.types.now (ItemKind.Instance l.id) + 6

abbrev pub decreases-world_fails : goal.decreases-world_fails
decreases-world_fails l = 16 * size_of l.test.types.now (ItemKind.Component l.id) + 8

abbrev pub decreases-world_uses_fail : goal.decreases-world_uses_fail
decreases-world_uses_fail l = 16 * size_of l.test.types.now (ItemKind.Component l.id) + 5

abbrev pub decreases-uses_of_imports_fail : goal.decreases-uses_of_imports_fail
decreases-uses_of_imports_fail l = 16 * size_of l.test.types.now (ItemKind.Component l.id) + 5

abbrev pub decreases-uses_of_exports_fail : goal.decreases-uses_of_exports_fail
decreases-uses_of_exports_fail l = 16 * size_of l.test.types.now (ItemKind.Component l.id) + 5

abbrev pub decreases-imports_fail : goal.decreases-imports_fail
decreases-imports_fail l = 16 * size_of l.test.types.now (ItemKind.Component l.id) + 5

abbrev pub decreases-world_exports_fail : goal.decreases-world_exports_fail
decreases-world_exports_fail l = 16 * size_of l.test.types.now (ItemKind.Component l.id) + 5

abbrev pub decreases-use_fails : goal.decreases-use_fails
decreases-use_fails l = 16 * size_of l.test.types.now (ItemKind.Instance l.used.interface) + 10

abbrev pub decreases-types_fail : goal.decreases-types_fail
decreases-types_fail l = 16 * size_of l.test.types.now (ItemKind.Instance l.id) + 8

abbrev pub decreases-direct_fails : goal.decreases-direct_fails
decreases-direct_fails l = 16 * size_of l.test.types.now (ItemKind.Instance l.id) + 7

abbrev pub decreases-uses_fail : goal.decreases-uses_fail
decreases-uses_fail l = 16 * size_of l.test.types.now l.kind + 8

abbrev pub decreases-all_uses_fail : goal.decreases-all_uses_fail
decreases-all_uses_fail l = 16 * size_of l.test.types.now (ItemKind.Component l.id) + 6

abbrev pub decreases-all_items_fail : goal.decreases-all_items_fail
decreases-all_items_fail l = 16 * size_of l.test.types.now (ItemKind.Component l.id) + 6

abbrev pub decreases-uses_of_world_fail : goal.decreases-uses_of_world_fail
decreases-uses_of_world_fail l = 16 * size_of l.test.types.now (ItemKind.Component l.id) + 7

abbrev pub decreases-items_of_world_fail : goal.decreases-items_of_world_fail
decreases-items_of_world_fail l = 16 * size_of l.test.types.now (ItemKind.Component l.id) + 7

abbrev pub decreases-ungiven_fails : goal.decreases-ungiven_fails
decreases-ungiven_fails l = 16 * size_of l.test.types.now l.item.kind + 10

abbrev pub decreases-tested_fails : goal.decreases-tested_fails
decreases-tested_fails l = 16 * size_of l.test.types.now l.item.kind + 11

abbrev pub decreases-use_itself_fails : goal.decreases-use_itself_fails
decreases-use_itself_fails l = 16 * size_of l.test.types.now (ItemKind.Instance l.used.interface) + 9

-- the exports that are left decide
abbrev pub invariant-exports_fail-loop-at : goal.invariant-exports_fail-loop-at
invariant-exports_fail-loop-at l =
    Keeps l.test.types.now l.fn.holder l.holder × (KnowsAll l.test.types.now l.test.unnamed.now → (h : Held) → Holds l.test.types.now l.fn.holder h
    → exports_unwritable l.test.types.now l.test.is_outer l.which l.id h ≡ list_any (tested_unwritable l.test.types.now l.test.is_outer l.which h) (drop l.at (exports_in l.test.types.now l.id)))

-- the imports that are left decide, and the exports of a world
abbrev pub invariant-imports_fail-loop-at : goal.invariant-imports_fail-loop-at
invariant-imports_fail-loop-at l =
    Keeps l.test.types.now l.fn.holder l.holder × (KnowsAll l.test.types.now l.test.unnamed.now → (h : Held) → Holds l.test.types.now l.fn.holder h
    → some_ungiven l.test.types.now l.test.is_outer h (imports_in l.test.types.now l.id) ≡ some_ungiven l.test.types.now l.test.is_outer h (drop l.at (imports_in l.test.types.now l.id)))

abbrev pub invariant-world_exports_fail-loop-at : goal.invariant-world_exports_fail-loop-at
invariant-world_exports_fail-loop-at l =
    Keeps l.test.types.now l.fn.holder l.holder × (KnowsAll l.test.types.now l.test.unnamed.now → (h : Held) → Holds l.test.types.now l.fn.holder h
    → some_unwritable l.test.types.now l.test.is_outer h (world_exports_in l.test.types.now l.id) ≡ some_unwritable l.test.types.now l.test.is_outer h (drop l.at (world_exports_in l.test.types.now l.id)))

-- none of the uses so far fails, or needs one that does
abbrev pub invariant-direct_fails-loop-at : goal.invariant-direct_fails-loop-at
invariant-direct_fails-loop-at l =
    Passed l.test l.fn.giver l.giver (size_of l.test.types.now (ItemKind.Instance l.id)) (λ is. NoneOf (FailsIn l.test.is_outer is l.test.types.now) (take l.at (uses_in l.test.types.now l.id)))

abbrev pub invariant-world_uses_fail-loop-at : goal.invariant-world_uses_fail-loop-at
invariant-world_uses_fail-loop-at l =
    Passed l.test l.fn.giver l.giver (size_of l.test.types.now (ItemKind.Component l.id)) (λ is. NoneOf (FailsIn l.test.is_outer is l.test.types.now) (take l.at (world_uses_in l.test.types.now l.id)))

-- none of the items so far needs one that does
abbrev pub invariant-uses_fail-loop-at : goal.invariant-uses_fail-loop-at
invariant-uses_fail-loop-at l =
    Passed l.test l.fn.giver l.giver (size_of l.test.types.now l.fn.kind) (λ is. NoneOf (ItemNeeds l.test.is_outer is l.test.types.now) (take l.at (exports_in l.test.types.now l.id)))

abbrev pub invariant-uses_of_imports_fail-loop-at : goal.invariant-uses_of_imports_fail-loop-at
invariant-uses_of_imports_fail-loop-at l =
    Passed l.test l.fn.giver l.giver (size_of l.test.types.now (ItemKind.Component l.id)) (λ is. NoneOf (ItemNeeds l.test.is_outer is l.test.types.now) (take l.at (imports_in l.test.types.now l.id)))

abbrev pub invariant-uses_of_exports_fail-loop-at : goal.invariant-uses_of_exports_fail-loop-at
invariant-uses_of_exports_fail-loop-at l =
    Passed l.test l.fn.giver l.giver (size_of l.test.types.now (ItemKind.Component l.id)) (λ is. NoneOf (ItemNeeds l.test.is_outer is l.test.types.now) (take l.at (world_exports_in l.test.types.now l.id)))
