use Rattle.std.proofs.Common.{ap, sym, ◌∙◌, subst}
use Rattle.wac_types_base.specs.Entries.{names_of, AreDistinct}
use Rattle.wac_types_base.specs.Stated.{stated_of}
use Rattle.wac_types_base.proofs.Stating.{exports_stated}
use Rattle.wac_types_base.proofs.Loops.{names-with_values}
use Rattle.wac_graph_plug.proofs.plugging.export_names.Goals as goal

pub returns-clause-names : goal.returns-clause-names
returns-clause-names c =
    c.in_ok-names.ensures ∙ c.names.ensures
    ∙ sym (ap names_of (exports_stated c.args.types.now c.world.ensures.acyclic c.args.world c.world.result.now c.world.ensures.entry c.world.ensures.own) ∙ names-with_values (stated_of c.args.types.now) c.world.result.now.exports)

pub returns-clause-distinct : goal.returns-clause-distinct
returns-clause-distinct c = subst AreDistinct (sym (c.in_ok-names.ensures ∙ c.names.ensures)) c.len-count.ensures.distinct
