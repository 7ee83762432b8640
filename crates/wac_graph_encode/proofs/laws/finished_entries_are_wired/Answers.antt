use Rattle.wac_graph_encode.proofs.StandingWirings.{nested_wiring}
use Rattle.wac_graph_encode.proofs.laws.finished_entries_are_wired.Goals as goal

pub returns : goal.returns
returns c = λ g worlds asked es W is outers done wires. nested_wiring g is worlds asked es done outers W wires
