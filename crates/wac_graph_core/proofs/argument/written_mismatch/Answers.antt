use Rattle.std.proofs.Common.{ap, ◌∙◌}
use Rattle.wac_types_base.specs.Stated.{stated_of, stated_in}
use Rattle.wac_types_written.specs.Written.{written_definition}
use Rattle.wac_graph_core.proofs.Passed.{told_of}
use Rattle.wac_graph_core.proofs.argument.written_mismatch.Goals as goal

pub returns : goal.returns
returns c =
    told_of c.written_definition.new.types c.in_ok-form.form (written_definition (stated_of c.args.types.now c.args.given)) c.args.types.now c.args.asked
    (c.in_ok-form.ensures.written.states ∙ ap (λ u. written_definition (stated_in u)) c.in_ok-copy.ensures.copied.same)
    c.in_ok-fault.fault c.in_ok-fault.ensures
