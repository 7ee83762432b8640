use Rattle.std.proofs.Common.{◌+◌, ◌∷◌, [], ◌++◌, List, drop, sym, subst, arith}
use Rattle.std.proofs.lemmas.List.{drop_all}
use Rattle.std.specs.Prelude.{⊤}
use Rattle.wac_types_base.specs.Entries.{names_of}
use Rattle.wac_types_base.specs.Graph.{Among}
use Rattle.wac_types_base.proofs.Used.{among_at}
use Rattle.wac_parser_refusals.specs.Causes.{each}
use Rattle.wac_parser_refusals.proofs.Outcomes.{refused_outcome}
use Rattle.wac_parser_resolve.specs.declared.arguments.Given.{Given}
use Rattle.wac_parser_resolve.specs.Denoting.{argument_fits}
use Rattle.wac_parser_resolve.specs.Holding.{InTurn, IsGiven}
use Rattle.wac_parser_resolve.specs.InInstances.{SaysMade, just_made, with_argument, with_arguments}
use Rattle.wac_parser_resolve.proofs.Accesses.{held_any}
use Rattle.wac_parser_resolve.proofs.Growing.{Inner-refl, Inner-trans, within_refl, within_trans}
use Rattle.wac_parser_resolve.proofs.PassedAll.{ArePassedSo, answered, passed_at, passed_end, passed_first, passed_next, passed_step, passed_stops}
use Rattle.wac_parser_resolve.proofs.Staying.{given_stays}
use Rattle.wac_parser_resolve.proofs.arguments.pass_all.Goals as goal

pub loop-one-init : goal.loop-one-init
loop-one-init c = record {
  fresh = c.requires.fresh;
  inner = Inner-refl c.args.graph.now;
  within = within_refl c.args.graph.now;
  rest = λ noted names s k w at gs says given.
      passed_first c.args.graph.now noted c.args.instance names s k w at gs c.args.graph.now c.deref-one-items.result.now says
      (subst (InTurn (IsGiven c.args.graph.now (names_of (noted ++ (c.args.instance, at) ∷ []))) gs) (sym c.deref-one-items.ensures.value) given.are);
}

pub loop-one-preserved : goal.loop-one-preserved
loop-one-preserved c = record {
  fresh = c.in_ok-pass.ensures.fresh;
  inner = Inner-trans c.args.graph.now c.loop-one.graph c.pass.new.graph c.loop-one.invariant.inner c.in_ok-pass.ensures.inner;
  within = within_trans c.args.graph.now c.loop-one.graph c.pass.new.graph c.loop-one.invariant.within c.in_ok-pass.ensures.within;
  rest = λ noted names s k w at gs says given.
      let g = c.args.graph.now in
      let x = c.one-item.result in
      let ms = names_of (noted ++ (c.args.instance, at) ∷ []) in
      let left = drop (c.loop-one.one-index + 1) c.deref-one-items.result.now in
      let so = passed_at g noted c.args.instance names s k w at gs c.loop-one.graph c.deref-one-items.result.now c.loop-one.one-index x c.loop-one-test.true c.one-item.is (c.loop-one.invariant.rest noted names s k w at gs says given) in
      let next = passed_next g noted c.args.instance names s k w at gs c.loop-one.graph x left given.apart so in
      let m = with_arguments (just_made k w at) so.done in
      let held = c.in_ok-pass.ensures.outcome noted names s m next.one so.says (given_stays g c.loop-one.graph c.loop-one.invariant.inner.later ms ms (λ i j e. e) next.one x next.given) next.new in
      passed_step g noted c.args.instance names s k w at gs c.loop-one.graph x left given.apart so c.pass.new.graph next
      (held_any (argument_fits k w (tt {0}) next.one) (λ (v : ⊤). SaysMade c.pass.new.graph noted c.args.instance names s (with_argument m next.one)) (tt {0}) held)
      (answered (argument_fits k w (tt {0}) next.one) (λ (v : ⊤). SaysMade c.pass.new.graph noted c.args.instance names s (with_argument m next.one)) (tt {0}) held);
}

pub returns-in_err-pass-clause-outcome : goal.returns-in_err-pass-clause-outcome
returns-in_err-pass-clause-outcome c noted names s k w at gs says given =
    let g = c.args.graph.now in
    let x = c.one-item.result in
    let ms = names_of (noted ++ (c.args.instance, at) ∷ []) in
    let left = drop (c.loop-one.one-index + 1) c.deref-one-items.result.now in
    let so = passed_at g noted c.args.instance names s k w at gs c.loop-one.graph c.deref-one-items.result.now c.loop-one.one-index x c.loop-one-test.true c.one-item.is (c.loop-one.invariant.rest noted names s k w at gs says given) in
    let next = passed_next g noted c.args.instance names s k w at gs c.loop-one.graph x left given.apart so in
    let m = with_arguments (just_made k w at) so.done in
    let r = c.in_err-pass.ensures.outcome noted names s m next.one so.says (given_stays g c.loop-one.graph c.loop-one.invariant.inner.later ms ms (λ i j e. e) next.one x next.given) next.new in
    refused_outcome (λ (u v : ⊤). SaysMade c.pass.new.graph noted c.args.instance names s (with_arguments (just_made k w at) gs)) (each (argument_fits k w) (tt {0}) gs) _ _ c.from_residual.ensures.1
    (passed_stops g noted c.args.instance names s k w at gs c.loop-one.graph x left given.apart so next c.in_err-pass.field-0.0 r)

pub returns-clause-outcome : goal.returns-clause-outcome
returns-clause-outcome c noted names s k w at gs says given =
    let none = drop_all c.loop-one.one-index c.deref-one-items.result.now (omega (arith, c.loop-one-test.false)) in
    passed_end c.args.graph.now noted c.args.instance names s k w at gs c.loop-one.graph
    (subst (λ (xs : List Given). ArePassedSo c.args.graph.now noted c.args.instance names s k w at gs c.loop-one.graph xs) none (c.loop-one.invariant.rest noted names s k w at gs says given))

pub pass-requires-clause-node : goal.pass-requires-clause-node
pass-requires-clause-node c =
    let m = among_at c.deref-one-items.result.now c.loop-one.one-index c.one-item.result c.loop-one-test.true c.one-item.is in
    c.loop-one.invariant.inner.later.nodes c.one-item.result.node (c.requires.given.nodes c.one-item.result (subst (Among c.one-item.result) c.deref-one-items.ensures.value m))

pub pass-requires-clause-apart : goal.pass-requires-clause-apart
pass-requires-clause-apart c =
    let m = among_at c.deref-one-items.result.now c.loop-one.one-index c.one-item.result c.loop-one-test.true c.one-item.is in
    c.requires.apart.nodes c.one-item.result (subst (Among c.one-item.result) c.deref-one-items.ensures.value m)
