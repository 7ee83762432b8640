use Rattle.std.proofs.Common.{◌<◌, ◌≤◌, length, get_or, ap, ◌∙◌, subst}
use Rattle.wac_graph_core.proofs.Following.{walk_begins, walks_on, walk_ends, walk_smaller, here}
use Rattle.wac_graph_core.proofs.edge.reached.Goals as goal

pub loop-at-init : goal.loop-at-init
loop-at-init c = walk_begins c.args.follow c.args.edges.now c.args.starts

pub loop-at-preserved : goal.loop-at-preserved
loop-at-preserved c = walks_on c.args.follow c.args.edges.now c.args.starts c.loop-at.seen c.follow_from.new.seen c.loop-at.at c.index-as_slice-at.result (subst (λ l. c.loop-at.at < length l) c.as_slice.ensures.value c.loop-at-test.true) (c.index-as_slice-at.is ∙ ap (λ l. get_or l c.loop-at.at c.index-as_slice-at.result) c.as_slice-in-loop-at.ensures.value) (here c.loop-at.seen c.loop-at.at c.index-as_slice-at.result (subst (λ l. c.loop-at.at < length l) c.as_slice.ensures.value c.loop-at-test.true) (c.index-as_slice-at.is ∙ ap (λ l. get_or l c.loop-at.at c.index-as_slice-at.result) c.as_slice-in-loop-at.ensures.value)) c.in_ok-follow_from.ensures c.loop-at.invariant

pub loop-at-smaller : goal.loop-at-smaller
loop-at-smaller c = walk_smaller c.args.follow c.args.edges.now c.args.starts c.loop-at.seen c.follow_from.new.seen c.loop-at.at c.index-as_slice-at.result (subst (λ l. c.loop-at.at < length l) c.as_slice.ensures.value c.loop-at-test.true) c.in_ok-follow_from.ensures

pub returns : goal.returns
returns c = record { sound = c.loop-at.invariant.sound; complete = walk_ends c.args.follow c.args.edges.now c.args.starts c.loop-at.seen c.loop-at.at (subst (λ l. length l ≤ c.loop-at.at) c.as_slice.ensures.value c.loop-at-test.false) c.loop-at.invariant }
