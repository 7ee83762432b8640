use Rattle.std.proofs.Common.{◌≡◌, drop, true}
use Rattle.wac_types_base.specs.Entries.{texts_of}
use Rattle.wac_types_base.specs.Stated.{kind_of}
use Rattle.wac_composition.specs.Classes.{is_instance_kind}
use Rattle.wac_graph_core.specs.Graph.{ContainsNode}
use Rattle.wac_parser_tree.specs.Trees as t
use Rattle.wac_parser_refusals.specs.Causes.{each}
use Rattle.wac_parser_resolve.specs.Ascribing.{Denoted, State}
use Rattle.wac_parser_resolve.specs.InStatements.{DenotesOn}
use Rattle.wac_parser_resolve.specs.Later.{Later}
use Rattle.wac_parser_resolve.specs.Said.{IsSaid}
use Rattle.wac_parser_resolve.specs.Saying.{export_one}
use Rattle.wac_parser_resolve.specs.Standing.{IsSound}
use Rattle.wac_parser_resolve.proofs.state.State.export_all.Given as goal

-- the names that are left, over what was said so far, give the same as all
abbrev pub invariant-loop-name : goal.invariant-loop-name
invariant-loop-name l = record {
  node : ContainsNode l.self.board.types.graph l.node;
  sound : IsSound l.self.board.types.graph l.self.names;
  later : Later l.initial.self.board.types.graph l.self.board.types.graph;
  instances : l.self.board.instances.noted.items ≡ l.initial.self.board.instances.noted.items;
  rest : (own : t.PackageName) (s : State) (d : Denoted) → IsSaid own l.initial.self s → DenotesOn l.initial.self d l.node → is_instance_kind (kind_of d.item) ≡ true
      → (q : State) × IsSaid own l.self q × (each (export_one l.access.access d) s (texts_of l.names.items) ≡ each (export_one l.access.access d) q (texts_of (drop l.name-index l.name-items)));
}
