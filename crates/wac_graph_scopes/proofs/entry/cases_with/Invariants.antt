use Rattle.std.proofs.Common.{◌≡◌, take}
use Rattle.wac_types_base.specs.Entries.{texts_of}
use Rattle.wac_graph_bytes.specs.Views.{cases_view}
use Rattle.wac_graph_scopes.specs.Forms.{cases_with}
use Rattle.wac_graph_scopes.proofs.entry.cases_with.Given as goal

abbrev pub invariant-loop-at : goal.invariant-loop-at
invariant-loop-at l = cases_view l.all.items ≡ cases_with (texts_of (take l.at l.names)) l.places
