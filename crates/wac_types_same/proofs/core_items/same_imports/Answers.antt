use Rattle.std.proofs.Common.{sym, ◌∙◌}
use Rattle.wac_types_same.proofs.Lists.{entries_decided}
use Rattle.wac_types_same.proofs.core_items.same_imports.Goals as goal

pub returns-then-same_pair_lists : goal.returns-then-same_pair_lists
returns-then-same_pair_lists c =
    entries_decided c.args.a.now c.args.b.now c.values.result.now c.values-then-same_pair_lists.result.now c.same_item_lists.result
    (sym c.names.ensures ∙ c.same_pair_lists.ensures.0 c.if-same_pair_lists.true ∙ c.names-2.ensures) c.values.ensures c.values-then-same_pair_lists.ensures c.same_item_lists.ensures
