use Rattle.std.proofs.Common.{◌∙◌, arith}
use Rattle.wac_types_written.proofs.Loops.{filter_end, filter_new, filter_next}
use Rattle.wac_graph_causes.specs.Late.{is_interface_item}
use Rattle.wac_graph_causes.proofs.late.interfaces_of.Goals as goal

pub entry-requires : goal.entry-requires
entry-requires c = omega (arith, c.loop-at-test.true, c.len-at-end.ensures.len)

pub add_interface-requires : goal.add_interface-requires
add_interface-requires c = filter_new (λ x. is_interface_item x.1) c.loop-at.interfaces c.args.items.now c.loop-at.at c.entry.result.0.now c.entry.result.1.now c.len-at-end.ensures.distinct c.loop-at.invariant c.entry.ensures

pub loop-at-preserved : goal.loop-at-preserved
loop-at-preserved c =
    c.in_ok-add_interface.ensures
    ∙ filter_next (λ x. is_interface_item x.1) c.loop-at.interfaces c.args.items.now c.loop-at.at c.entry.result.0.now c.entry.result.1.now c.loop-at.invariant c.entry.ensures

pub returns : goal.returns
returns c = filter_end (λ x. is_interface_item x.1) c.loop-at.interfaces c.args.items.now c.loop-at.at c.len-at-end.result c.loop-at.invariant c.loop-at-test.false c.len-at-end.ensures.len
