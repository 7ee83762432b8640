use Rattle.std.proofs.Common.{inl, inr}
use Rattle.std.proofs.lemmas.Result.{on_ok_weaker}
use Rattle.wac_graph_encode.proofs.Readying.{source_added}
use Rattle.wac_graph_encode.proofs.WritingLaws.{source_needed}
use Rattle.wac_graph_encode.proofs.instances.push_alias_source.Goals as goal

pub returns-in-Some-clause-only : goal.returns-in-Some-clause-only
returns-in-Some-clause-only c =
    on_ok_weaker c.push_node.result
    (source_needed c.args.graph.now c.args.node c.args.sources.now.items c.push_node.new.nodes.items _ _ c.in-Some.ensures.found) c.push_node.ensures

pub returns-in-Some-clause-all : goal.returns-in-Some-clause-all
returns-in-Some-clause-all c =
    on_ok_weaker c.push_node.result
    (source_added c.args.graph.now c.see_sound.ensures.keyed c.args.node c.args.sources.now.items c.push_node.new.nodes.items _ _ c.in-Some.ensures.found) c.push_node.ensures

pub returns-in-None-clause-all : goal.returns-in-None-clause-all
returns-in-None-clause-all c j m = elim m [ inl there ↦ there | inr x ↦ absurd (c.in-None.ensures.none j x.0 x.1) ]
