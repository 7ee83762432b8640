use Rattle.std.proofs.Common.{◌∙◌, ap}
use Rattle.wac_types_base.specs.Stated.{stated_of}
use Rattle.wac_types_base.proofs.Telling.{promote_stated}
use Rattle.wac_types_base.proofs.item.ItemKind.promote.Goals as goal

pub returns-clause-stated : goal.returns-clause-stated
returns-clause-stated c d a s = ap (stated_of d) c.promoted_kind.ensures ∙ promote_stated c.args.self.now d a s
