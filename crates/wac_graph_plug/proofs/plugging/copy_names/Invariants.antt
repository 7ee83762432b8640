use Rattle.std.proofs.Common.{◌≡◌, take}
use Rattle.wac_types_base.specs.Entries.{texts_of}
use Rattle.wac_graph_plug.proofs.plugging.copy_names.Given as goal

-- those so far are copied
abbrev pub invariant-loop-name : goal.invariant-loop-name
invariant-loop-name l = texts_of l.copies.items ≡ texts_of (take l.name-index l.names)
