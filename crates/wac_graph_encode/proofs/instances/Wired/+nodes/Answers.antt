use Rattle.std.proofs.Common.{◌≡◌, ◌<◌, ◌≤◌, ℕ, [], ap, arith, inl, inr, sym, subst}
use Rattle.std.proofs.lemmas.Result.{on_ok_weaker}
use Rattle.wac_types_base.specs.Graph.{Among}
use Rattle.wac_types_base.proofs.Looked.{among-get}
use Rattle.wac_types_base.proofs.Loops.{get-place, take-all}
use Rattle.wac_graph_encode.specs.Writing.{AddsNeeded, Below, UpTo, UpToOne, noted}
use Rattle.wac_graph_encode.specs.Ready.{AllStand, HasNeeded}
use Rattle.wac_graph_encode.proofs.Depths.{all_below, depth_of}
use Rattle.wac_graph_encode.proofs.Readying.{ready_kept, sources_lower, sources_stand, sources_there, stand_first, stand_more, there_kept}
use Rattle.wac_graph_encode.proofs.WritingLaws.{keeps_refl, keeps_trans, needed_below_one, only_none, only_trans, stands_if}
use Rattle.wac_graph_encode.proofs.instances.Wired.+nodes.Goals as goal

pub write_bound-write_itself-requires-clause-ready : goal.write_bound-write_itself-requires-clause-ready
write_bound-write_itself-requires-clause-ready t c = ready_kept c.args.self.now c.write_sources.new.self c.in_ok-write_sources.ensures.keeps c.requires.ready

pub write_bound-write_itself-requires-clause-there : goal.write_bound-write_itself-requires-clause-there
write_bound-write_itself-requires-clause-there t c = there_kept c.args.self.now c.write_sources.new.self c.in_ok-write_sources.ensures.keeps c.args.node c.requires.there

pub write_bound-write_itself-requires-clause-new : goal.write_bound-write_itself-requires-clause-new
write_bound-write_itself-requires-clause-new t c m =
    let r = c.see_sound.ensures.acyclic in
    elim (c.in_ok-write_sources.ensures.only r.0 r.1 c.args.node m) [
      | inl there ↦ c.requires.new there
      | inr below ↦ let low : r.0 c.args.node < r.0 c.args.node = below in absurd (omega (arith, low))
    ]

pub write_bound-returns-clause-keeps : goal.write_bound-returns-clause-keeps
write_bound-returns-clause-keeps t c = on_ok_weaker c.write_itself.result (keeps_trans c.args.self.now c.write_sources.new.self c.write_itself.new.self c.in_ok-write_sources.ensures.keeps) c.write_itself.ensures.keeps

pub write_bound-returns-clause-only : goal.write_bound-returns-clause-only
write_bound-returns-clause-only t c =
    on_ok_weaker c.write_itself.result
    (only_trans (Below c.args.node) (λ rank k. k ≡ c.args.node) (UpTo c.args.node) c.args.self.now c.write_sources.new.self c.write_itself.new.self c.in_ok-write_sources.ensures.keeps.same.graph
    (λ rank is k low. below_most (rank k) (rank c.args.node) low) (λ rank is k e. same_most (rank k) (rank c.args.node) (ap rank e)) c.in_ok-write_sources.ensures.only) c.write_itself.ensures.only
  where
    below_most : (m n : ℕ) → m < n → m ≤ n
    below_most m n h = omega (arith, h)

    same_most : (m n : ℕ) → m ≡ n → m ≤ n
    same_most m n e = omega (arith, e)

pub write_each-write_node-requires : goal.write_each-write_node-requires
write_each-write_node-requires t c =
    let old = c.args.self.now in
    let now = c.loop-node.self in
    let keeps = c.loop-node.invariant.keeps in
    let ks = c.args.nodes.now in
    let k = c.node-item.result in
    let there = among-get ks c.loop-node.node-index k (get-place ks c.loop-node.node-index k c.loop-node-test.true c.node-item.is) in
    let same : depth_of now.graph.now.edges k ≡ depth_of old.graph.now.edges k = ap (λ r. depth_of r.now.edges k) keeps.same.graph in
    let low = all_below (depth_of old.graph.now.edges) ks k there in
    (omega (arith, same, low, c.decreases), (ready_kept old now keeps c.requires.ready, there_kept old now keeps k (c.requires.there k there)))

pub write_each-loop-node-init : goal.write_each-loop-node-init
write_each-loop-node-init t c = record {
  writes = λ define worlds asked h. h;
  keeps = keeps_refl c.args.self.now;
  only = only_none (UpToOne c.args.nodes.now) c.args.self.now;
  stand = stand_first c.args.self.now c.args.nodes.now;
}

pub write_each-loop-node-preserved : goal.write_each-loop-node-preserved
write_each-loop-node-preserved t c =
    let before = c.loop-node.invariant in
    let ks = c.args.nodes.now in
    let k = c.node-item.result in
    let at = get-place ks c.loop-node.node-index k c.loop-node-test.true c.node-item.is in
    let there : Among k ks = among-get ks c.loop-node.node-index k at in
    record {
      writes = λ define worlds asked h. c.in_ok-write_node.ensures.writes define worlds asked (before.writes define worlds asked h);
      keeps = keeps_trans c.args.self.now c.loop-node.self c.write_node.new.self before.keeps c.in_ok-write_node.ensures.keeps;
      only = only_trans (UpToOne ks) (UpTo k) (UpToOne ks) c.args.self.now c.loop-node.self c.write_node.new.self before.keeps.same.graph (λ rank is j x. x) (λ rank is j low. (k, there, low)) before.only c.in_ok-write_node.ensures.only;
      stand = stand_more c.loop-node.self c.write_node.new.self c.in_ok-write_node.ensures.keeps ks c.loop-node.node-index k at before.stand c.in_ok-write_node.ensures.stands;
    }

pub write_each-returns-clause-stand : goal.write_each-returns-clause-stand
write_each-returns-clause-stand t c = subst (AllStand c.loop-node.self) (take-all c.args.nodes.now c.loop-node.node-index c.loop-node-test.false) c.loop-node.invariant.stand

pub write_node-returns-then-is_some-clause-stands : goal.write_node-returns-then-is_some-clause-stands
write_node-returns-then-is_some-clause-stands t c = stands_if (noted c.args.self.now) c.args.node c.node.result c.if-is_some.ensures c.node.ensures.found

pub write_sources-write_each-requires : goal.write_sources-write_each-requires
write_sources-write_each-requires t c =
    let g = c.args.self.now.graph.now in
    let ks = c.deref.result.now in
    let needs = subst (AddsNeeded g c.args.node []) (sym c.deref.ensures.value) c.in_ok-sources.ensures.only in
    let most = sources_lower g c.see_sound.ensures c.args.node ks needs in
    (omega (arith, most, c.decreases), (c.requires.ready, sources_there g c.see_sound.ensures c.args.node ks needs))

pub write_sources-returns-clause-stand : goal.write_sources-returns-clause-stand
write_sources-returns-clause-stand t c =
    let old = c.args.self.now in
    let has = subst (HasNeeded old.graph.now c.args.node) (sym c.deref.ensures.value) c.in_ok-sources.ensures.all in
    sources_stand old c.write_each.new.self c.args.node c.deref.result.now has c.write_each.result c.write_each.ensures.keeps c.write_each.ensures.stand

pub write_sources-returns-clause-only : goal.write_sources-returns-clause-only
write_sources-returns-clause-only t c =
    let g = c.args.self.now.graph.now in
    let needs = subst (AddsNeeded g c.args.node []) (sym c.deref.ensures.value) c.in_ok-sources.ensures.only in
    on_ok_weaker c.write_each.result
    (λ only rank is k m. elim (only rank is k m) [ inl there ↦ inl there | inr x ↦ inr (needed_below_one g c.args.node c.deref.result.now needs rank is k x) ]) c.write_each.ensures.only
