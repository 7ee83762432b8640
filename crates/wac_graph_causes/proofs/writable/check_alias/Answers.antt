use Rattle.std.proofs.Common.{sym, ◌∙◌}
use Rattle.wac_graph_causes.proofs.AliasCauses.{no_value, no_alias, alias_told}
use Rattle.wac_graph_causes.proofs.writable.check_alias.Goals as goal

pub returns-then-not-is_value-clause-none : goal.returns-then-not-is_value-clause-none
returns-then-not-is_value-clause-none c = no_value c.args.graph.now c.args.node (sym c.is_value.ensures ∙ c.if-not-is_value.true)

pub returns-in-Some-clause-cause : goal.returns-in-Some-clause-cause
returns-in-Some-clause-cause c =
    alias_told c.args.graph.now c.args.node c.see_sound.ensures c.in-Some.source.0 c.in-Some.source.1.now c.unwritable.result c.in-Some.ensures.found (sym c.is_value.ensures ∙ c.if-not-is_value.false) c.unwritable.ensures

pub returns-in-None-clause-none : goal.returns-in-None-clause-none
returns-in-None-clause-none c = no_alias c.args.graph.now c.args.node c.in-None.ensures.none
