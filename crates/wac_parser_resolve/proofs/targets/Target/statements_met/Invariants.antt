use Rattle.std.proofs.Common.{◌≡◌, drop}
use Rattle.wac_parser_resolve.specs.Giving.{gives_of}
use Rattle.wac_parser_resolve.specs.InTargets.{all_pass, statement_test}
use Rattle.wac_parser_resolve.specs.Targeting.{IsStatementMet}
use Rattle.wac_parser_resolve.proofs.Meeting.{AreToCome}
use Rattle.wac_parser_resolve.proofs.targets.Target.statements_met.Given as goal

-- those before are met, and the others decide
abbrev pub invariant-loop-node : goal.invariant-loop-node
invariant-loop-node l = record {
  come : AreToCome (IsStatementMet l.graph (gives_of l.self)) l.node-items l.node-index;
  rest : all_pass (statement_test l.self l.graph) (drop l.node-index l.node-items) ≡ all_pass (statement_test l.self l.graph) l.node-items;
}
