use Rattle.wac_types_base.proofs.Shared.{items_state}
use Rattle.wac_types_base.proofs.types.Types.items_share.Goals as goal

pub returns-clause-stated : goal.returns-clause-stated
returns-clause-stated c is = items_state c.args.self.now c.args.a c.args.b c.requires.first c.requires.second (c.share_items.ensures.0 is)
