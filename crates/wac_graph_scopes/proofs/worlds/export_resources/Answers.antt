use Rattle.wac_graph_scopes.proofs.worlds.export_resources.Goals as goal

pub returns : goal.returns
returns c w outer imported h = c.loop-at.invariant w outer imported h
