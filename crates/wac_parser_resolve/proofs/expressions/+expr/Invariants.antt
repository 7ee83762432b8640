use Rattle.std.proofs.Common.{◌≡◌, List, drop, map}
use Rattle.wac_parser_tree.specs.Trees as t
use Rattle.wac_parser_tree.specs.Views.{view_instantiation_argument}
use Rattle.wac_parser_resolve.specs.Ascribing.{State}
use Rattle.wac_parser_resolve.specs.Denoting as stated
use Rattle.wac_parser_resolve.specs.InArguments.{imported_by}
use Rattle.wac_parser_resolve.specs.InInstances.{HasGiven, instances_of}
use Rattle.wac_parser_resolve.specs.Later.{Inner, IsMore}
use Rattle.wac_parser_resolve.specs.Standing.{AreThere}
use Rattle.wac_parser_resolve.proofs.expressions.+expr.Given as goal

-- the arguments that are left, over what was said and given so far, give the same as all
abbrev pub invariant-arguments-loop-one : goal.invariant-arguments-loop-one
invariant-arguments-loop-one l = record {
  given : AreThere l.board.types.graph l.given.items;
  inner : Inner l.initial.board.types.graph l.board.types.graph;
  more : IsMore (instances_of l.initial.board) (instances_of l.board);
  seen : l.seen ≡ l.one-index;
  rest : (q : State × List stated.Given) → HasGiven l.root l.initial.board l.initial.given.items q
      → (p : State × List stated.Given) × HasGiven l.root l.board l.given.items p
      × (stated.arguments q.0 (imported_by l.initial.board.types.graph.types l.world) q.1 (t.arguments (map view_instantiation_argument l.list.items))
      ≡ stated.arguments p.0 (imported_by l.initial.board.types.graph.types l.world) p.1 (t.arguments (map view_instantiation_argument (drop l.one-index l.one-items))));
}
