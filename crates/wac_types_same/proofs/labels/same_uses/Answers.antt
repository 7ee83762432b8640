use Rattle.std.proofs.Common.{sym, ◌∙◌}
use Rattle.wac_types_same.proofs.Lists.{uses_decided, uses_named, said_no, no_test}
use Rattle.wac_types_same.proofs.labels.same_uses.Goals as goal

pub returns-then-same_names : goal.returns-then-same_names
returns-then-same_names c =
    uses_decided c.args.a.now c.args.b.now c.values.result.now c.values-then-same_names.result.now c.same_taken.result
    (sym c.names.ensures ∙ c.same_names.ensures.0 c.if-same_names.true ∙ c.names-2.ensures) c.values.ensures c.values-then-same_names.ensures c.same_taken.ensures

pub returns-else-same_names : goal.returns-else-same_names
returns-else-same_names c =
    said_no c.same_names.result _ c.if-same_names.false
    (λ e. no_test c.same_names.result _ c.if-same_names.false c.same_names.ensures (c.names.ensures ∙ uses_named c.args.a.now c.args.b.now e ∙ sym c.names-2.ensures))
