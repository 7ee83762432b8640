use Rattle.std.proofs.Common.{◌+◌, ◌*◌, take}
use Rattle.wac_types_base.specs.declared.item.ItemKind.{ItemKind}
use Rattle.wac_types_base.specs.Collection.{Grows, items, size_of, used}
use Rattle.wac_types_base.proofs.Telling.{row_size}
use Rattle.wac_types_written.specs.Forms.{AreFormed, AreForms, UsesFormed, maker}
use Rattle.wac_types_written.proofs.items.+forms.Given as goal

abbrev pub decreases-form_items : goal.decreases-form_items
decreases-form_items l = 6 * row_size l.types.now (items l.items.now) + 6

abbrev pub decreases-form_uses : goal.decreases-form_uses
decreases-form_uses l = 6 * row_size l.types.now (used l.uses.now) + 6

abbrev pub decreases-form_item : goal.decreases-form_item
decreases-form_item l = 6 * size_of l.types.now l.item + 5

abbrev pub decreases-form_type : goal.decreases-form_type
decreases-form_type l = 6 * size_of l.types.now (ItemKind.Ty l.ty) + 4

abbrev pub decreases-form_interface : goal.decreases-form_interface
decreases-form_interface l = 6 * size_of l.types.now (ItemKind.Instance l.id) + 3

abbrev pub decreases-new_interface : goal.decreases-new_interface
decreases-new_interface l = 6 * size_of l.types.now (ItemKind.Instance l.id) + 2

abbrev pub decreases-interface_of_parts : goal.decreases-interface_of_parts
decreases-interface_of_parts l = 6 * size_of l.types.now (ItemKind.Instance l.id) + 1

abbrev pub decreases-world_of_parts : goal.decreases-world_of_parts
decreases-world_of_parts l = 6 * size_of l.types.now (ItemKind.Component l.id) + 1

abbrev pub decreases-form_world : goal.decreases-form_world
decreases-form_world l = 6 * size_of l.types.now (ItemKind.Component l.id) + 3

abbrev pub decreases-new_world : goal.decreases-new_world
decreases-new_world l = 6 * size_of l.types.now (ItemKind.Component l.id) + 2

-- what became of those so far
abbrev pub invariant-form_items-loop-at : goal.invariant-form_items-loop-at
invariant-form_items-loop-at l = record { formed : AreFormed (maker l.worlds) l.types (take l.at l.items) l.all; forms : AreForms (maker l.worlds) l.types l.forms; grows : Grows l.fn.types l.types }

abbrev pub invariant-form_uses-loop-at : goal.invariant-form_uses-loop-at
invariant-form_uses-loop-at l = record { formed : UsesFormed (maker l.worlds) l.types (take l.at l.uses) l.all; forms : AreForms (maker l.worlds) l.types l.forms; grows : Grows l.fn.types l.types }
