use Rattle.std.proofs.Common.{sym, ◌∙◌}
use Rattle.wac_types_same.proofs.Lists.{entries_decided}
use Rattle.wac_types_same.proofs.core_items.same_exports.Goals as goal

pub returns-then-same_names : goal.returns-then-same_names
returns-then-same_names c =
    entries_decided c.args.a.now c.args.b.now c.values.result.now c.values-then-same_names.result.now c.same_item_lists.result
    (sym c.names.ensures ∙ c.same_names.ensures.0 c.if-same_names.true ∙ c.names-2.ensures) c.values.ensures c.values-then-same_names.ensures c.same_item_lists.ensures
