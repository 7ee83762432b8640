use Rattle.std.proofs.Common.{◌∙◌, refl, sym}
use Rattle.wac_types_base.specs.Visiting.{call_with}
use Rattle.wac_types_base.proofs.Visited.{called_none, called_some}
use Rattle.wac_types_base.proofs.visit.visit_own.Goals as goal

pub returns-in-None-clause-called : goal.returns-in-None-clause-called
returns-in-None-clause-called g c = called_none (call_with (goal.F-step g) c.args.types.now) c.args.types.now c.args.kind c.args.visitor.now (sym c.in-None.is ∙ c.defined_of.ensures)

pub returns-in-Some-clause-called : goal.returns-in-Some-clause-called
returns-in-Some-clause-called g c = called_some (call_with (goal.F-step g) c.args.types.now) c.args.types.now c.args.kind c.args.visitor.now c.visitor.new.self c.in-Some.id c.visitor.result (sym c.in-Some.is ∙ c.defined_of.ensures) (c.args.types, refl, c.visitor.ensures)
