use Rattle.std.proofs.Common.{◌≡◌, take}
use Rattle.wac_types_base.specs.Entries.{texts_of}
use Rattle.wac_graph_scopes.proofs.entry.texts_of.Given as goal

abbrev pub invariant-loop-name : goal.invariant-loop-name
invariant-loop-name l = texts_of l.all.items ≡ texts_of (take l.name-index l.names)
