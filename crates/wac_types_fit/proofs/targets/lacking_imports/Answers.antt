use Rattle.std.proofs.Common.{ap}
use Rattle.wac_types_base.specs.Entries.{texts_of}
use Rattle.wac_types_base.specs.Implicit.{shown}
use Rattle.wac_types_fit.specs.Targets.{target_import}
use Rattle.wac_types_fit.proofs.Reports.{nothing_lacking, lacking_step}
use Rattle.wac_types_fit.proofs.targets.lacking_imports.Goals as goal

pub loop-at-init : goal.loop-at-init
loop-at-init c = nothing_lacking (target_import (shown c.args.implicit.now.entries) c.args.target.now.imports) c.args.imports.now (texts_of c.new-lacking.result.items) (ap texts_of c.new-lacking.ensures.items)

pub loop-at-preserved : goal.loop-at-preserved
loop-at-preserved c =
    lacking_step (target_import (shown c.args.implicit.now.entries) c.args.target.now.imports) c.args.imports.now c.loop-at.at c.entry.result.0.now c.entry.result.1.now c.entry.ensures
    c.given_import.result (texts_of c.loop-at.lacking.items) (texts_of c.add_lacking.new.lacking.items) c.given_import.ensures c.loop-at.invariant c.in_ok-add_lacking.ensures
