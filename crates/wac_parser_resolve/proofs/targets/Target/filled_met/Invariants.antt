use Rattle.std.proofs.Common.{◌≡◌, drop}
use Rattle.wac_parser_resolve.specs.Giving.{gives_of}
use Rattle.wac_parser_resolve.specs.InTargets.{all_pass, filled_test}
use Rattle.wac_parser_resolve.specs.Targeting.{IsFilledMet}
use Rattle.wac_parser_resolve.proofs.TargetMet.{AreBelow}
use Rattle.wac_parser_resolve.proofs.targets.Target.filled_met.Given as goal

-- those before are met, and the others decide
abbrev pub invariant-loop-at : goal.invariant-loop-at
invariant-loop-at l = record {
  below : AreBelow (IsFilledMet l.graph (gives_of l.self) l.instance) l.imports l.at;
  rest : all_pass (filled_test l.self l.graph l.instance) (drop l.at l.imports) ≡ all_pass (filled_test l.self l.graph l.instance) l.imports;
}
