use Rattle.std.proofs.Common.{◌∙◌}
use Rattle.wac_writable.proofs.CoreItems.{type_tested}
use Rattle.wac_writable.proofs.modules.is_writable_type.Goals as goal

pub returns : goal.returns
returns c = c.is_some.ensures ∙ type_tested c.core_value.result c.args.ty c.core_value.ensures.written c.core_value.ensures.none
