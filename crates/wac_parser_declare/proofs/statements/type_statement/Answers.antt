use Rattle.std.proofs.Common.{subst, sym}
use Rattle.wac_types_base.specs.declared.item.«Type».{«Type» as TypeKind}
use Rattle.wac_types_base.specs.Stated.{Stated, as_type}
use Rattle.wac_parser_tree.specs.declared.document.TypeStatement.{TypeStatement}
use Rattle.wac_parser_tree.specs.Views.{view_interface_decl, view_type_statement, view_world_decl}
use Rattle.wac_parser_refusals.specs.Causes.{Answer, pure}
use Rattle.wac_parser_refusals.specs.Outcomes.{IsHeld, IsRefusal}
use Rattle.wac_parser_refusals.proofs.Outcomes.{after_held, refused_outcome, then_refused}
use Rattle.wac_parser_declare.specs.Holding.{IsType}
use Rattle.wac_parser_declare.specs.InPaths.{AWorld}
use Rattle.wac_parser_declare.specs.Interfaces.{interface_decl}
use Rattle.wac_parser_declare.specs.Making.{AnInstance}
use Rattle.wac_parser_declare.specs.Worlds.{type_statement, world_decl}
use Rattle.wac_parser_declare.proofs.InWorlds.{interface_typed, world_typed}
use Rattle.wac_parser_declare.proofs.Fresh.{interface_new, world_new}
use Rattle.wac_parser_declare.proofs.statements.type_statement.Goals as goal

pub returns-in_err-id-in-Interface-clause-outcome : goal.returns-in_err-id-in-Interface-clause-outcome
returns-in_err-id-in-Interface-clause-outcome g c x s =
    let e = c.in_err-id-in-Interface.field-0.0 in
    let typed : Stated → Answer Stated = λ y. pure (as_type y) in
    refused_outcome _ _ _ _ c.from_residual.ensures.1
    (subst (λ (t : TypeStatement). IsRefusal (type_statement x (view_type_statement t)) e) (sym c.in-Interface.is)
    (then_refused typed (interface_decl x (view_interface_decl c.in-Interface.decl)) e (c.in_err-id-in-Interface.ensures.outcome x s)))

pub returns-in_err-id-in-World-clause-outcome : goal.returns-in_err-id-in-World-clause-outcome
returns-in_err-id-in-World-clause-outcome g c x s =
    let e = c.in_err-id-in-World.field-0.0 in
    let typed : Stated → Answer Stated = λ y. pure (as_type y) in
    refused_outcome _ _ _ _ c.from_residual-in_err-id-in-World.ensures.1
    (subst (λ (t : TypeStatement). IsRefusal (type_statement x (view_type_statement t)) e) (sym c.in-World.is)
    (then_refused typed (world_decl x (view_world_decl c.in-World.decl)) e (c.in_err-id-in-World.ensures.outcome x s)))

pub returns-in_ok-id-in-Interface-clause-outcome : goal.returns-in_ok-id-in-Interface-clause-outcome
returns-in_ok-id-in-Interface-clause-outcome g c x s =
    let new = g.T.GrowingTypes.collection c.interface_decl.new.types in
    let i = c.in_ok-id-in-Interface.id in
    let typed : Stated → Answer Stated = λ y. pure (as_type y) in
    subst (λ (t : TypeStatement). IsHeld (IsType new) (type_statement x (view_type_statement t)) (TypeKind.Interface i)) (sym c.in-Interface.is)
    (after_held typed (AnInstance new) (IsType new) (interface_decl x (view_interface_decl c.in-Interface.decl)) i (TypeKind.Interface i) (c.in_ok-id-in-Interface.ensures.outcome x s)
    (λ y h. interface_typed new c.in_ok-id-in-Interface.ensures.grows.acyclic y i h))

pub returns-in_ok-id-in-World-clause-outcome : goal.returns-in_ok-id-in-World-clause-outcome
returns-in_ok-id-in-World-clause-outcome g c x s =
    let new = g.T.GrowingTypes.collection c.world_decl.new.types in
    let i = c.in_ok-id-in-World.id in
    let typed : Stated → Answer Stated = λ y. pure (as_type y) in
    subst (λ (t : TypeStatement). IsHeld (IsType new) (type_statement x (view_type_statement t)) (TypeKind.World i)) (sym c.in-World.is)
    (after_held typed (AWorld new) (IsType new) (world_decl x (view_world_decl c.in-World.decl)) i (TypeKind.World i) (c.in_ok-id-in-World.ensures.outcome x s)
    (λ y h. world_typed new c.in_ok-id-in-World.ensures.grows.acyclic y i h))

pub returns-in_ok-id-in-Interface-clause-fresh : goal.returns-in_ok-id-in-Interface-clause-fresh
returns-in_ok-id-in-Interface-clause-fresh g c = interface_new (g.T.GrowingTypes.collection c.args.types.now) c.in_ok-id-in-Interface.id c.in_ok-id-in-Interface.ensures.fresh

pub returns-in_ok-id-in-World-clause-fresh : goal.returns-in_ok-id-in-World-clause-fresh
returns-in_ok-id-in-World-clause-fresh g c = world_new (g.T.GrowingTypes.collection c.args.types.now) c.in_ok-id-in-World.id c.in_ok-id-in-World.ensures.fresh
