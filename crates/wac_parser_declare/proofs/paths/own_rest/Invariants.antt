use Rattle.std.proofs.Common.{◌≡◌}
use denote.Shadow.{shadow}
use denote.Text.{Utf8}
use Rattle.wac_types_base.specs.Collection.{Stands}
use Rattle.wac_types_base.specs.Stated.{stated_of}
use Rattle.wac_parser_declare.specs.Scope.{own_path}
use Rattle.wac_parser_declare.proofs.paths.own_rest.Given as goal

-- what is left behind the item that was reached gives the same as all
abbrev pub invariant-loop-segment : goal.invariant-loop-segment
invariant-loop-segment l = record {
  text : shadow (Utf8 l.parent);
  stands : Stands l.types l.kind;
  rest : own_path l.initial.parent (stated_of l.types l.initial.kind) l.initial.segment-iterator ≡ own_path l.parent (stated_of l.types l.kind) l.segment-iterator;
}
