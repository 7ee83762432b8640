use Rattle.std.proofs.Common.{◌≡◌, ◌∷◌, [], string_bytes}
use Rattle.wac_types_base.specs.Collection.{Stands}
use Rattle.wac_types_base.specs.Stated.{stated_of}
use Rattle.wac_parser_tree.specs.Segments.{Segment}
use Rattle.wac_parser_declare.specs.Scope.{package_path}
use Rattle.wac_parser_declare.proofs.PathSteps.{IsPassed}
use Rattle.wac_parser_declare.proofs.paths.foreign_rest.Given as goal

abbrev pub invariant-loop-segment : goal.invariant-loop-segment
invariant-loop-segment l = record {
  stands : Stands l.types l.kind;
  passed : (i : Segment) → i.0 ≡ string_bytes l.initial.passed → IsPassed l.types l.path.name.now (package_path l.path.name.now (i ∷ []) (stated_of l.types l.initial.kind) l.initial.segment-iterator) (string_bytes l.passed) l.kind l.segment-iterator;
}
