use Rattle.std.proofs.Common.{◌≡◌, drop}
use Rattle.wac_parser_resolve.specs.InTargets.{all_pass, export_test}
use Rattle.wac_parser_resolve.specs.Targeting.{IsExportMet}
use Rattle.wac_parser_resolve.proofs.TargetMet.{AreBelow}
use Rattle.wac_parser_resolve.proofs.targets.Target.exports_met.Given as goal

-- those before are met, and the others decide
abbrev pub invariant-loop-at : goal.invariant-loop-at
invariant-loop-at l = record {
  below : AreBelow (IsExportMet l.graph) l.exports l.at;
  rest : all_pass (export_test l.self l.graph l.spans.noted.items) (drop l.at l.exports) ≡ all_pass (export_test l.self l.graph l.spans.noted.items) l.exports;
}
