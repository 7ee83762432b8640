-- What the target of a document gives, as the code holds it.
use Rattle.wac_types_base.specs.Implicit.{shown}
use Rattle.wac_types_fit.specs.Targets.{target_import}
use Rattle.wac_parser_resolve.specs.declared.targets.Target.{Target}
use Rattle.wac_parser_resolve.specs.Targeting.{Gives}

-- under the name of an import: an implicit interface, else an import
abbrev pub gives_of : Target → Gives
gives_of t = target_import (shown t.implicit.now.entries) t.imports.now
