use Rattle.std.proofs.Common.{take}
use Rattle.wac_types_base.specs.Graph.{Among}
use Rattle.wac_graph_plug.specs.Plans.{imports_given}
use Rattle.wac_graph_plug.proofs.plan.Plan.has_given.Given as goal

-- none so far is for the import
abbrev pub invariant-loop-argument : goal.invariant-loop-argument
invariant-loop-argument l = Among l.import (imports_given (take l.argument-index l.self.arguments.items)) → ⊥
