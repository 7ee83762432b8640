use Rattle.std.proofs.Common.{List, take}
use Rattle.wac_types_base.specs.Entries.{Name}
use Rattle.wac_graph_bytes.specs.Typing.{Inside, Worlds}
use Rattle.wac_graph_core.specs.Graph.{IsGraph}
use Rattle.wac_graph_encode.specs.Defining.{AreToWrite, HoldsDefined, NotesAll}
use Rattle.wac_graph_encode.proofs.root.add_definitions.Given as goal

-- those so far stand
abbrev pub invariant-loop-definition : goal.invariant-loop-definition
invariant-loop-definition l = IsGraph l.graph → AreToWrite l.graph l.all.types.now l.definitions → (w : Worlds) (i : Inside) (imported : List Name) → HoldsDefined l.graph w l.all i imported l.fn.scope l.fn.defined → HoldsDefined l.graph w l.all i imported l.scope l.defined × NotesAll (take l.definition-index l.definitions) l.fn.defined.nodes.entries l.defined.nodes.entries
