use Rattle.std.proofs.Common.{◌≡◌, map, drop}
use Rattle.wac_parser_tree.specs.Views.{view_package_name, view_statement}
use Rattle.wac_parser_refusals.specs.Causes.{each}
use Rattle.wac_parser_resolve.specs.Ascribing.{State}
use Rattle.wac_parser_resolve.specs.Later.{SameNumber}
use Rattle.wac_parser_resolve.specs.Said.{IsSaid}
use Rattle.wac_parser_resolve.specs.Saying.{statement}
use Rattle.wac_parser_resolve.specs.Standing.{IsSound}
use Rattle.wac_parser_resolve.proofs.statements.say_statements.Given as goal

-- the statements that are left, over what was said so far, say the same as all
abbrev pub invariant-loop-statement : goal.invariant-loop-statement
invariant-loop-statement l = record {
  sound : IsSound l.state.board.types.graph l.state.names;
  number : SameNumber l.initial.state.board.types.graph l.state.board.types.graph;
  rest : (s : State) → IsSaid (view_package_name l.own) l.initial.state s
      → (q : State) × IsSaid (view_package_name l.own) l.state q
      × (each statement s (map view_statement l.statements.items) ≡ each statement q (map view_statement (drop l.statement-index l.statement-items)));
}
