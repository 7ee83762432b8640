use Rattle.wac_types_base.specs.declared.item.ItemKind.{ItemKind}
use Rattle.wac_types_base.proofs.Shared.{items_state}
use Rattle.wac_types_base.proofs.types.Types.shares.Goals as goal

pub returns-clause-stated : goal.returns-clause-stated
returns-clause-stated c is = items_state c.args.self.now (ItemKind.Ty c.args.a) (ItemKind.Ty c.args.b) c.requires.first c.requires.second (c.share.ensures.0 is)
