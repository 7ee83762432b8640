use Rattle.std.proofs.Common.{◌≡◌, ◌≤◌, ℕ, List, Some, length, inl, slice_get, subst}
use Rattle.std.proofs.lemmas.Result.{on_ok_weaker}
use Rattle.wac_types_base.specs.Entries.{values_of}
use Rattle.wac_types_base.specs.Graph.{Among}
use Rattle.wac_types_base.proofs.Looked.{among-get}
use Rattle.wac_types_base.proofs.Loops.{get-place, take-all}
use Rattle.wac_graph_encode.specs.Ready.{AddsNames}
use Rattle.wac_graph_encode.proofs.Readying.{has_needed, none_added, one_added}
use Rattle.wac_graph_encode.proofs.WritingLaws.{passed_needed, needed_more, needed_trans}
use Rattle.wac_graph_encode.proofs.instances.push_sources.Goals as goal

pub loop-argument-init : goal.loop-argument-init
loop-argument-init c = record { only = λ j m. inl m; all = none_added (values_of c.args.bound.now) c.args.sources.now.items }

pub loop-argument-preserved : goal.loop-argument-preserved
loop-argument-preserved c =
    let items = c.nodes-argument-items.result.now in
    let k = c.argument-item.result in
    let at = get-place items c.loop-argument.argument-index k c.loop-argument-test.true c.argument-item.is in
    let there = among-get items c.loop-argument.argument-index k at in
    let needed = passed_needed c.args.graph.now c.args.node c.args.bound.now c.requires c.nodes-argument-items.ensures.distinct k (subst (Among k) c.nodes-argument-items.ensures.nodes there) in
    record {
      only = needed_more c.args.graph.now c.args.node c.args.sources.now.items c.loop-argument.sources.items c.push_node.new.nodes.items k c.loop-argument.invariant.only c.in_ok-push_node.ensures needed;
      all = one_added (values_of c.args.bound.now) c.loop-argument.argument-index k (subst (λ (xs : List ℕ). slice_get xs c.loop-argument.argument-index ≡ Some k) c.nodes-argument-items.ensures.nodes at) c.args.sources.now.items c.loop-argument.sources.items c.push_node.new.nodes.items
          c.loop-argument.invariant.all c.in_ok-push_node.ensures;
    }

pub returns-clause-only : goal.returns-clause-only
returns-clause-only c =
    on_ok_weaker c.push_alias_source.result
    (needed_trans c.args.graph.now c.args.node c.args.sources.now.items c.loop-argument.sources.items c.push_alias_source.new.sources.items c.loop-argument.invariant.only) c.push_alias_source.ensures.only

pub returns-clause-all : goal.returns-clause-all
returns-clause-all c =
    let items = c.nodes-argument-items.result.now in
    let all = subst (λ (xs : List ℕ). AddsNames xs c.args.sources.now.items c.loop-argument.sources.items) (take-all (values_of c.args.bound.now) c.loop-argument.argument-index (subst (λ (xs : List ℕ). length xs ≤ c.loop-argument.argument-index) c.nodes-argument-items.ensures.nodes c.loop-argument-test.false)) c.loop-argument.invariant.all in
    on_ok_weaker c.push_alias_source.result (has_needed c.args.graph.now c.see_sound.ensures.keyed c.args.node c.args.bound.now c.requires c.args.sources.now.items c.loop-argument.sources.items c.push_alias_source.new.sources.items all) c.push_alias_source.ensures.all
