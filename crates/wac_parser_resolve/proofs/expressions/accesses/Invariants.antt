use Rattle.std.proofs.Common.{◌≡◌, ℕ, List, map, drop}
use Rattle.wac_types_base.specs.Entries.{Name, names_of}
use Rattle.wac_graph_core.specs.Graph.{ContainsNode}
use Rattle.wac_parser_tree.specs.Trees.{Span}
use Rattle.wac_parser_tree.specs.Views.{view_postfix_expr}
use Rattle.wac_parser_resolve.specs.Ascribing.{Denoted, State}
use Rattle.wac_parser_resolve.specs.Denoting as stated
use Rattle.wac_parser_resolve.specs.Holding.{Denotes, Says}
use Rattle.wac_parser_resolve.specs.InExpressions.{SaysThat}
use Rattle.wac_parser_resolve.specs.Later.{Inner, IsWithin}
use Rattle.wac_parser_resolve.proofs.expressions.accesses.Given as goal

-- what is left, over what was said and denoted so far, gives the same as all
abbrev pub invariant-loop-one : goal.invariant-loop-one
invariant-loop-one l = record {
  node : ContainsNode l.graph l.node;
  inner : Inner l.initial.graph l.graph;
  within : IsWithin l.initial.graph l.graph;
  rest : (noted : List (ℕ × Span)) (names : List (Name × ℕ)) (s : State) (d : Denoted) → Says l.initial.graph noted names s → Denotes l.initial.graph (names_of noted) d l.initial.node
      → (q : State × Denoted) × SaysThat l.graph noted names q l.node
      × (stated.accesses l.initial.span s d (map view_postfix_expr l.list.items) ≡ stated.accesses l.span q.0 q.1 (map view_postfix_expr (drop l.one-index l.one-items)));
}
