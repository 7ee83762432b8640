use Rattle.wac_graph_scopes.proofs.worlds.alias_world_uses.Goals as goal

pub returns : goal.returns
returns c w outer i imported exported h = c.loop-at.invariant w outer i imported exported h
