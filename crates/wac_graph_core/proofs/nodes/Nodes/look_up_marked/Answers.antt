use Rattle.wac_graph_core.proofs.Noting.{found_none, found_next, found_all}
use Rattle.wac_graph_core.proofs.nodes.Nodes.look_up_marked.Goals as goal

pub loop-ty-init : goal.loop-ty-init
loop-ty-init c = found_none c.args.self.now c.args.marks.now c.new-found.result.items c.new-found.ensures.items

pub loop-ty-preserved : goal.loop-ty-preserved
loop-ty-preserved c =
    found_next c.args.self.now c.args.marks.now c.loop-ty.ty-index _ c.loop-ty.found.items c.gather_definition.new.found.items c.loop-ty-test.true c.in_ok-gather_definition.ensures c.loop-ty.invariant

pub returns : goal.returns
returns c = found_all c.args.self.now c.args.marks.now c.loop-ty.ty-index c.loop-ty.found.items c.loop-ty-test.false c.loop-ty.invariant
