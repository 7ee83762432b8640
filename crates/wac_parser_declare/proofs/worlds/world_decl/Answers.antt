use Rattle.wac_parser_declare.proofs.Fresh.{new_before}
use Rattle.wac_parser_declare.proofs.worlds.world_decl.Goals as goal

pub returns-clause-fresh : goal.returns-clause-fresh
returns-clause-fresh g c = new_before (g.T.GrowingTypes.collection c.args.types.now) (g.T.GrowingTypes.collection c.body_of.new.types) _ c.in_ok-body.ensures.grows c.in_ok-id.ensures.fresh
