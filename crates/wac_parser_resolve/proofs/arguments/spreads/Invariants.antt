use Rattle.std.proofs.Common.{◌≡◌, ℕ, List, map, drop}
use Rattle.wac_parser_tree.specs.Trees as t
use Rattle.wac_parser_tree.specs.Trees.{Span}
use Rattle.wac_parser_tree.specs.Views.{view_instantiation_argument}
use Rattle.wac_parser_refusals.specs.Causes.{each}
use Rattle.wac_parser_resolve.specs.Ascribing.{State}
use Rattle.wac_parser_resolve.specs.Denoting as stated
use Rattle.wac_parser_resolve.specs.Denoting.{spread_one, spreads_of}
use Rattle.wac_parser_resolve.specs.InArguments.{SaysGiven, imported_by}
use Rattle.wac_parser_resolve.specs.Later.{Inner, IsWithin}
use Rattle.wac_parser_resolve.specs.Standing.{AreThere}
use Rattle.wac_parser_resolve.proofs.arguments.spreads.Given as goal

-- the arguments that are left, over what was said and given so far, give the same as all
abbrev pub invariant-loop-argument : goal.invariant-loop-argument
invariant-loop-argument l = record {
  given : AreThere l.graph l.given.items;
  inner : Inner l.initial.graph l.graph;
  within : IsWithin l.initial.graph l.graph;
  rest : (noted : List (ℕ × Span)) (q : State × List stated.Given) → SaysGiven l.initial.graph noted l.root.nodes.now l.initial.given.items q
      → (p : State × List stated.Given) × SaysGiven l.graph noted l.root.nodes.now l.given.items p
      × (each (spread_one (imported_by l.initial.graph.types l.world)) q (spreads_of (t.arguments (map view_instantiation_argument l.arguments.items)))
      ≡ each (spread_one (imported_by l.initial.graph.types l.world)) p (spreads_of (t.arguments (map view_instantiation_argument (drop l.argument-index l.argument-items)))));
}
