use Rattle.std.proofs.Common.{◌∙◌}
use Rattle.wac_writable.proofs.CoreItems.{reference_tested}
use Rattle.wac_writable.proofs.modules.is_writable_reference.Goals as goal

pub returns : goal.returns
returns c = c.is_some.ensures ∙ reference_tested c.core_reference.result c.args.ty c.core_reference.ensures.written c.core_reference.ensures.none
