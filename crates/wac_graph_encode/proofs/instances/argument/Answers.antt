use Rattle.std.proofs.Common.{sym, subst, ◌∙◌}
use Rattle.wac_graph_encode.specs.Ready.{StandsBy}
use Rattle.wac_graph_encode.specs.Writing.{by_import, by_node, outer_in}
use Rattle.wac_graph_encode.proofs.instances.argument.Goals as goal

pub place_of-requires : goal.place_of-requires
place_of-requires c = subst (StandsBy (outer_in c.args.standing) c.args.standing.nodes.now.entries c.args.name.now) (sym c.get.ensures ∙ c.in-Some.is) c.requires

pub place_under-requires : goal.place_under-requires
place_under-requires c = subst (StandsBy (outer_in c.args.standing) c.args.standing.nodes.now.entries c.args.name.now) (sym c.get.ensures ∙ c.in-None.is) c.requires

pub returns-in-Some : goal.returns-in-Some
returns-in-Some c = by_node c.in-Some.argument (sym c.get.ensures ∙ c.in-Some.is) c.place_of.ensures

pub returns-in-None : goal.returns-in-None
returns-in-None c = by_import (sym c.get.ensures ∙ c.in-None.is) c.place_under.ensures
