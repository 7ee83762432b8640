use Rattle.std.proofs.Common.{List, map, refl, sym, ap, subst, ◌∙◌, arith}
use Rattle.std.specs.Prelude.{⊤}
use Rattle.wac_parser_tree.specs.declared.document.Statement.{Statement}
use Rattle.wac_parser_tree.specs.Views.{view_package_name, view_statement}
use Rattle.wac_parser_refusals.specs.Causes.{Answer, each}
use Rattle.wac_parser_refusals.specs.Outcomes.{IsHeld, IsRefusal}
use Rattle.wac_parser_refusals.proofs.Outcomes.{refused_outcome}
use Rattle.wac_parser_resolve.specs.Ascribing.{State}
use Rattle.wac_parser_resolve.specs.Said.{IsSaid}
use Rattle.wac_parser_resolve.specs.Saying.{statement}
use Rattle.wac_parser_resolve.proofs.Behind.{each_ends, each_halts, each_taken}
use Rattle.wac_parser_resolve.proofs.statements.say_statements.Goals as goal

pub loop-statement-init : goal.loop-statement-init
loop-statement-init c = record {
  sound = c.requires;
  number = refl;
  rest = λ s said. (s, said, ap (λ (xs : List Statement). each statement s (map view_statement xs)) (sym c.deref-statement-items.ensures.value));
}

pub loop-statement-preserved : goal.loop-statement-preserved
loop-statement-preserved c = record {
  sound = c.in_ok-say_statement.ensures.sound;
  number = c.in_ok-say_statement.ensures.number ∙ c.loop-statement.invariant.number;
  rest = λ s said.
      let inv = c.loop-statement.invariant.rest s said in
      let n = each_taken statement view_statement c.deref-statement-items.result.now c.loop-statement.statement-index c.statement-item.result c.loop-statement-test.true c.statement-item.is
      (IsSaid (view_package_name c.args.own.now) c.say_statement.new.state) inv.0 tt (c.in_ok-say_statement.ensures.outcome inv.0 inv.1) in
      (n.0, n.1, inv.2 ∙ n.2);
}

pub returns-in_err-say_statement-clause-outcome : goal.returns-in_err-say_statement-clause-outcome
returns-in_err-say_statement-clause-outcome c s said =
    let inv = c.loop-statement.invariant.rest s said in
    refused_outcome (λ (q : State) (u : ⊤). IsSaid (view_package_name c.args.own.now) c.say_statement.new.state q) (each statement s (map view_statement c.args.statements.now.items)) _ _ c.from_residual.ensures.1
    (subst (λ (r : Answer State). IsRefusal r c.in_err-say_statement.field-0.0) (sym inv.2)
    (each_halts statement view_statement c.deref-statement-items.result.now c.loop-statement.statement-index c.statement-item.result c.loop-statement-test.true c.statement-item.is inv.0 c.in_err-say_statement.field-0.0
    (c.in_err-say_statement.ensures.outcome inv.0 inv.1)))

pub returns-clause-outcome : goal.returns-clause-outcome
returns-clause-outcome c s said =
    let inv = c.loop-statement.invariant.rest s said in
    subst (λ (r : Answer State). IsHeld (λ (q : State) (u : ⊤). IsSaid (view_package_name c.args.own.now) c.loop-statement.state q) r tt)
    (sym (inv.2 ∙ each_ends statement view_statement c.deref-statement-items.result.now c.loop-statement.statement-index inv.0 (omega (arith, c.loop-statement-test.false)))) inv.1
