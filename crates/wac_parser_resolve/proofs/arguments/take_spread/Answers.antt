use Rattle.std.proofs.Common.{List, sym, subst}
use Rattle.std.specs.Prelude.{⊤}
use Rattle.wac_parser_tree.specs.Trees as t
use Rattle.wac_parser_tree.specs.Views.{view_ident, view_instantiation_argument}
use Rattle.wac_parser_refusals.specs.Causes.{Answer, each}
use Rattle.wac_parser_refusals.specs.Outcomes.{IsHeld, IsOutcome}
use Rattle.wac_parser_resolve.specs.Ascribing.{State}
use Rattle.wac_parser_resolve.specs.Denoting as stated
use Rattle.wac_parser_resolve.specs.Denoting.{spread_one}
use Rattle.wac_parser_resolve.specs.InArguments.{SaysGiven, imported_by, own_spread}
use Rattle.wac_parser_resolve.proofs.Spreading.{none_taken, one_taken}
use Rattle.wac_parser_resolve.proofs.arguments.take_spread.Goals as goal

pub returns-in-Some-clause-outcome : goal.returns-in-Some-clause-outcome
returns-in-Some-clause-outcome c noted q says =
    let f = spread_one (imported_by c.args.graph.now.types c.args.world) in
    let H : State × List stated.Given → ⊤ → Type 0 = λ p u. SaysGiven c.spread.new.graph noted c.args.root.nodes.now c.spread.new.given.items p in
    subst (λ (a : t.InstantiationArgument). IsOutcome H (each f q (own_spread a)) c.spread.result) (sym c.in-Some.ensures)
    (one_taken f H (f q (view_ident c.in-Some.id)) c.spread.result (c.spread.ensures.outcome noted q says))

pub returns-in-None-clause-outcome : goal.returns-in-None-clause-outcome
returns-in-None-clause-outcome c noted q says =
    let f = spread_one (imported_by c.args.graph.now.types c.args.world) in
    subst (λ (r : Answer (State × List stated.Given)). IsHeld (λ (p : State × List stated.Given) (u : ⊤). SaysGiven c.args.graph.now noted c.args.root.nodes.now c.args.given.now.items p) r tt)
    (sym (none_taken f (view_instantiation_argument c.args.argument.now) c.in-None.ensures q)) says
