use Rattle.std.proofs.Common.{arith}
use Rattle.wac_parser_grammar.specs.Nesting.{types, expressions}
use Rattle.wac_parser_grammar.proofs.DeepFaults.{deeper}
use Rattle.wac_parser_grammar.proofs.TypeDepths.{ty_sinks}
use Rattle.wac_parser_grammar.proofs.ExprDepths.{expr_sinks}
use Rattle.wac_parser_grammar.proofs.laws.deep_faults_are_deep.Goals as goal

pub returns : goal.returns
returns c = record {
  types = λ n s span h. deeper types n s span ((ty_sinks {n = n} n 0 (omega arith)).deep s span h);
  expressions = λ n s span h. deeper expressions n s span ((expr_sinks {n = n} n 0 (omega arith)).deep s span h);
}
