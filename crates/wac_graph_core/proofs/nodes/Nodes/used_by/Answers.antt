use Rattle.std.proofs.lemmas.Result.{IfOk-weaker}
use Rattle.wac_graph_core.proofs.Reached.{unmarked_closed, used_those}
use Rattle.wac_graph_core.proofs.nodes.Nodes.used_by.Goals as goal

pub mark_reached-requires : goal.mark_reached-requires
mark_reached-requires c = record { stands = c.requires; closed = unmarked_closed _ _ c.new-marks.ensures }

pub returns : goal.returns
returns c =
    IfOk-weaker c.marked.result _ _ (λ v those.
    used_those c.args.types.now c.args.self.now c.args.ty c.new-marks.result c.mark_reached.new.marks v.items c.new-marks.ensures c.in_ok-mark_reached.ensures.gathers those) c.marked.ensures
