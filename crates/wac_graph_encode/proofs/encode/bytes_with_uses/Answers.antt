use Rattle.wac_graph_encode.proofs.encode.bytes_with_uses.Goals as goal

pub bytes_wired-requires-clause-to : goal.bytes_wired-requires-clause-to
bytes_wired-requires-clause-to c = let there = c.requires.there in record { outers = there.0; worlds = there.1; definitions = there.2 }

pub returns-clause-means : goal.returns-clause-means
returns-clause-means c = λ h. c.bytes_wired.ensures.means c.new-wired.ensures.graph c.new-wired.ensures.bare (record { outers = h.0; worlds = h.1; definitions = h.2 })

pub returns-clause-unfit : goal.returns-clause-unfit
returns-clause-unfit c = λ fits h. c.bytes_wired.ensures.unfit c.new-wired.ensures.graph c.new-wired.ensures.bare fits (record { outers = h.0; worlds = h.1; definitions = h.2 })

pub returns-clause-nests : goal.returns-clause-nests
returns-clause-nests c = c.bytes_wired.ensures.nests c.new-wired.ensures.bare
