use Rattle.std.proofs.Common.{◌&&◌, Bool, sym, ap, ◌∙◌}
use Rattle.std.specs.List.{list_all}
use Rattle.wac_composition.specs.Writable.{writable_extern}
use Rattle.wac_writable.proofs.CoreItems.{both_tested, first_tested}
use Rattle.wac_writable.proofs.modules.is_writable_module.Goals as goal

pub returns-then-are_writable_items : goal.returns-then-are_writable_items
returns-then-are_writable_items c =
    let second = c.are_writable_items-then-are_writable_items.result in
    sym (ap (λ (b : Bool). b && second) c.if-are_writable_items.true)
    ∙ both_tested c.args.module.now c.are_writable_items.result second (c.are_writable_items.ensures ∙ ap (list_all writable_extern) c.values.ensures)
    (c.are_writable_items-then-are_writable_items.ensures ∙ ap (list_all writable_extern) c.values-then-are_writable_items.ensures)

pub returns-else-are_writable_items : goal.returns-else-are_writable_items
returns-else-are_writable_items c = first_tested c.args.module.now c.are_writable_items.result (c.are_writable_items.ensures ∙ ap (list_all writable_extern) c.values.ensures) c.if-are_writable_items.false
