use Rattle.std.proofs.Common.{◌∙◌}
use Rattle.wac_types_base.specs.declared.defined.UsedType.{UsedType}
use Rattle.wac_types_base.specs.Entries.{Name}
use Rattle.wac_types_written.proofs.Loops.{filter_new, filter_next}
use Rattle.wac_graph_causes.specs.Beside.{stands_named}
use Rattle.wac_graph_causes.specs.Standing.{stands_by}
use Rattle.wac_graph_causes.proofs.beside.standing_uses.Goals as goal

pub add_use-requires : goal.add_use-requires
add_use-requires c =
    filter_new (λ (u : Name × UsedType). stands_named (stands_by c.args.standing) c.args.types.now u.1.interface) c.loop-at.all c.args.uses.now c.loop-at.at c.entry.result.0.now c.entry.result.1.now c.len-at-end.ensures.distinct c.loop-at.invariant c.entry.ensures

pub loop-at-preserved : goal.loop-at-preserved
loop-at-preserved c =
    c.in_ok-add_use.ensures
    ∙ filter_next (λ (u : Name × UsedType). stands_named (stands_by c.args.standing) c.args.types.now u.1.interface) c.loop-at.all c.args.uses.now c.loop-at.at c.entry.result.0.now c.entry.result.1.now c.loop-at.invariant c.entry.ensures
