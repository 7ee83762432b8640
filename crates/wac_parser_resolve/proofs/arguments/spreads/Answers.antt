use Rattle.std.proofs.Common.{List, map, sym, ap, subst, ◌∙◌, arith}
use Rattle.std.specs.Prelude.{⊤}
use Rattle.wac_types_base.specs.Record.{Collection}
use Rattle.wac_parser_tree.specs.Trees as t
use Rattle.wac_parser_tree.specs.declared.expr.InstantiationArgument.{InstantiationArgument}
use Rattle.wac_parser_tree.specs.Views.{view_instantiation_argument}
use Rattle.wac_parser_refusals.specs.Causes.{Answer, each}
use Rattle.wac_parser_refusals.specs.Outcomes.{IsHeld, IsRefusal}
use Rattle.wac_parser_refusals.proofs.Outcomes.{refused_outcome}
use Rattle.wac_parser_resolve.specs.Ascribing.{State}
use Rattle.wac_parser_resolve.specs.Denoting as stated
use Rattle.wac_parser_resolve.specs.Denoting.{spread_one, spreads_of}
use Rattle.wac_parser_resolve.specs.InArguments.{SaysGiven, imported_by, own_spread}
use Rattle.wac_parser_resolve.proofs.Growing.{Inner-refl, Inner-trans, within_refl, within_trans}
use Rattle.wac_parser_resolve.proofs.Spreading.{spread_halts, spread_taken, spreads_end}
use Rattle.wac_parser_resolve.proofs.arguments.spreads.Goals as goal

pub loop-argument-init : goal.loop-argument-init
loop-argument-init c = record {
  given = c.requires.given;
  inner = Inner-refl c.args.graph.now;
  within = within_refl c.args.graph.now;
  rest = λ noted q says.
      (q, says, ap (λ (as_ : List InstantiationArgument). each (spread_one (imported_by c.args.graph.now.types c.args.world)) q (spreads_of (t.arguments (map view_instantiation_argument as_)))) (sym c.deref-argument-items.ensures.value));
}

pub loop-argument-preserved : goal.loop-argument-preserved
loop-argument-preserved c = record {
  given = c.in_ok-take_spread.ensures.given;
  inner = Inner-trans c.args.graph.now c.loop-argument.graph c.take_spread.new.graph c.loop-argument.invariant.inner c.in_ok-take_spread.ensures.inner;
  within = within_trans c.args.graph.now c.loop-argument.graph c.take_spread.new.graph c.loop-argument.invariant.within c.in_ok-take_spread.ensures.within;
  rest = λ noted q says.
      let f = spread_one (imported_by c.args.graph.now.types c.args.world) in
      let inv = c.loop-argument.invariant.rest noted q says in
      let H : State × List stated.Given → ⊤ → Type 0 = λ p u. SaysGiven c.take_spread.new.graph noted c.args.root.nodes.now c.take_spread.new.given.items p in
      let n = spread_taken f c.deref-argument-items.result.now c.loop-argument.argument-index c.argument-item.result c.loop-argument-test.true c.argument-item.is H inv.0 tt
      (subst (λ (x : Collection). IsHeld H (each (spread_one (imported_by x c.args.world)) inv.0 (own_spread (view_instantiation_argument c.argument-item.result))) tt)
      c.loop-argument.invariant.within.types (c.in_ok-take_spread.ensures.outcome noted inv.0 inv.1)) in
      (n.0, n.1, inv.2 ∙ n.2);
}

pub returns-in_err-take_spread-clause-outcome : goal.returns-in_err-take_spread-clause-outcome
returns-in_err-take_spread-clause-outcome c noted q says =
    let f = spread_one (imported_by c.args.graph.now.types c.args.world) in
    let inv = c.loop-argument.invariant.rest noted q says in
    refused_outcome (λ (p : State × List stated.Given) (u : ⊤). SaysGiven c.take_spread.new.graph noted c.args.root.nodes.now c.take_spread.new.given.items p)
    (each f q (spreads_of (t.arguments (map view_instantiation_argument c.args.arguments.now.items)))) _ _ c.from_residual.ensures.1
    (subst (λ (r : Answer (State × List stated.Given)). IsRefusal r c.in_err-take_spread.field-0.0) (sym inv.2)
    (spread_halts f c.deref-argument-items.result.now c.loop-argument.argument-index c.argument-item.result c.loop-argument-test.true c.argument-item.is inv.0 c.in_err-take_spread.field-0.0
    (subst (λ (x : Collection). IsRefusal (each (spread_one (imported_by x c.args.world)) inv.0 (own_spread (view_instantiation_argument c.argument-item.result))) c.in_err-take_spread.field-0.0)
    c.loop-argument.invariant.within.types (c.in_err-take_spread.ensures.outcome noted inv.0 inv.1))))

pub returns-clause-outcome : goal.returns-clause-outcome
returns-clause-outcome c noted q says =
    let f = spread_one (imported_by c.args.graph.now.types c.args.world) in
    let inv = c.loop-argument.invariant.rest noted q says in
    subst (λ (r : Answer (State × List stated.Given)). IsHeld (λ (p : State × List stated.Given) (u : ⊤). SaysGiven c.loop-argument.graph noted c.args.root.nodes.now c.loop-argument.given.items p) r tt)
    (sym (inv.2 ∙ spreads_end f c.deref-argument-items.result.now c.loop-argument.argument-index inv.0 (omega (arith, c.loop-argument-test.false)))) inv.1

pub returns-in_err-take_spread-clause-inner : goal.returns-in_err-take_spread-clause-inner
returns-in_err-take_spread-clause-inner c = Inner-trans c.args.graph.now c.loop-argument.graph c.take_spread.new.graph c.loop-argument.invariant.inner c.in_err-take_spread.ensures.inner
