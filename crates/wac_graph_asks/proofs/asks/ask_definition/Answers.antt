use Rattle.std.proofs.Common.{sym, ap, refl, ◌∙◌}
use Rattle.std.proofs.lemmas.Result.{on_ok_weaker}
use Rattle.wac_types_base.specs.Stated.{stated_of}
use Rattle.wac_composition.specs.Asks.{asked_for, used_by}
use Rattle.wac_graph_asks.proofs.Uses.{adds_none, uses_as}
use Rattle.wac_graph_asks.proofs.UseSteps.{typed_stands, world_type_stands, named_definition, unnamed_definition, named_world_definition, unnamed_world_definition, no_type_uses, other_type_uses}
use Rattle.wac_graph_asks.proofs.asks.ask_definition.Goals as goal

pub returns-in_default : goal.returns-in_default
returns-in_default c =
    uses_as c.args.types.now c.args.all.now c.args.all.now (adds_none c.args.types.now c.args.all.now c.args.all.now refl refl)
    (ap (asked_for c.args.by) (sym (no_type_uses c.args.types.now c.see_acyclic.ensures c.args.copy c.requires.stands c.in_default.not-Ty)))

-- ---- an interface

pub interface-requires : goal.interface-requires
interface-requires c = typed_stands c.args.types.now c.args.copy c.in-Ty.ty c.in-Interface.id c.in-Ty.is c.in-Interface.is c.requires.stands

pub returns-then-is_some : goal.returns-then-is_some
returns-then-is_some c =
    uses_as c.args.types.now c.args.all.now c.args.all.now (adds_none c.args.types.now c.args.all.now c.args.all.now refl refl)
    (ap (asked_for c.args.by) (sym (named_definition c.args.types.now c.see_acyclic.ensures c.args.copy c.in-Ty.ty c.in-Ty.is c.in-Interface.id c.interface.result.now c.in-Interface.is c.interface.ensures.entry c.interface.ensures.own (sym c.is_some.ensures ∙ c.if-is_some.true))))

pub returns-else-is_some : goal.returns-else-is_some
returns-else-is_some c =
    on_ok_weaker c.ask_uses.result
    (λ h. uses_as c.args.types.now c.args.all.now c.ask_uses.new.all h
    (ap (λ k. asked_for c.args.by (used_by (stated_of c.args.types.now k))) (sym c.in-Ty.is)
    ∙ ap (asked_for c.args.by) (sym (unnamed_definition c.args.types.now c.see_acyclic.ensures c.args.copy c.in-Ty.ty c.in-Ty.is c.in-Interface.id c.interface.result.now c.in-Interface.is c.interface.ensures.entry c.interface.ensures.own (sym c.is_some.ensures ∙ c.if-is_some.false)))))
    c.ask_uses.ensures

-- ---- a world

pub world-requires : goal.world-requires
world-requires c = world_type_stands c.args.types.now c.args.copy c.in-Ty.ty c.in-World.id c.in-Ty.is c.in-World.is c.requires.stands

pub ask_world-requires-clause-stands : goal.ask_world-requires-clause-stands
ask_world-requires-clause-stands c = world_type_stands c.args.types.now c.args.copy c.in-Ty.ty c.in-World.id c.in-Ty.is c.in-World.is c.requires.stands

pub returns-then-is_some-2 : goal.returns-then-is_some-2
returns-then-is_some-2 c =
    uses_as c.args.types.now c.args.all.now c.args.all.now (adds_none c.args.types.now c.args.all.now c.args.all.now refl refl)
    (ap (asked_for c.args.by) (sym (named_world_definition c.args.types.now c.see_acyclic.ensures c.args.copy c.in-Ty.ty c.in-Ty.is c.in-World.id c.world.result.now c.in-World.is c.world.ensures.entry c.world.ensures.own (sym c.is_some-in-World.ensures ∙ c.if-is_some-2.true))))

pub returns-else-is_some-2 : goal.returns-else-is_some-2
returns-else-is_some-2 c =
    on_ok_weaker c.ask_world.result
    (λ h. uses_as c.args.types.now c.args.all.now c.ask_world.new.all h
    (ap (asked_for c.args.by) (sym (unnamed_world_definition c.args.types.now c.see_acyclic.ensures c.args.copy c.in-Ty.ty c.in-Ty.is c.in-World.id c.world.result.now c.in-World.is c.world.ensures.entry c.world.ensures.own (sym c.is_some-in-World.ensures ∙ c.if-is_some-2.false)))))
    c.ask_world.ensures

-- ---- another type

pub returns-in_default-ty : goal.returns-in_default-ty
returns-in_default-ty c =
    uses_as c.args.types.now c.args.all.now c.args.all.now (adds_none c.args.types.now c.args.all.now c.args.all.now refl refl)
    (ap (asked_for c.args.by) (sym (other_type_uses c.args.types.now c.see_acyclic.ensures c.args.copy c.in-Ty.ty c.in-Ty.is c.requires.stands c.in_default-ty.not-Interface c.in_default-ty.not-World)))
