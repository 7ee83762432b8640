use Rattle.wac_graph_scopes.proofs.worlds.alias_types.Goals as goal

pub loop-at-preserved : goal.loop-at-preserved
loop-at-preserved c w outer i imported exported h at = c.in_ok-alias_type_at.ensures w outer i imported exported (c.loop-at.invariant w outer i imported exported h at) at
