use Rattle.std.specs.Prelude.{Option, IfSome}
use Rattle.std.proofs.Common.{subst, arith}
use Rattle.wac_types_base.specs.declared.item.ItemKind.{ItemKind}
use Rattle.wac_types_base.specs.Collection.{IsAcyclic, Stands}
use Rattle.wac_graph_encode.specs.Worlds.{TellsFinal}
use Rattle.wac_graph_encode.proofs.Finals.{alias_none, alias_some, nearer}
use Rattle.wac_graph_encode.proofs.world.+final_type.Goals as goal

pub final_type-requires : goal.final_type-requires
final_type-requires t c =
    let closer = nearer c.args.graph.now c.see_sound.ensures (subst IsAcyclic c.types.ensures c.see_acyclic.ensures) c.in-Some.found.0 c.args.node c.in-Some.found.1.now c.in-Some.ensures.found in
    (omega (arith, closer, c.decreases), c.requires)

pub returns-in-Some-final_type : goal.returns-in-Some-final_type
returns-in-Some-final_type t c =
    alias_some c.args.graph.now c.see_sound.ensures (subst IsAcyclic c.types.ensures c.see_acyclic.ensures) c.args.types.now c.see_acyclic-2.ensures c.in-Some.found.0 c.args.node c.in-Some.found.1.now c.in-Some-final_type.kind c.export_of.result
    c.in-Some.ensures.found (subst (TellsFinal c.args.graph.now c.args.types.now c.in-Some.found.0) c.in-Some-final_type.is c.final_type.ensures) c.export_of.ensures.value
    (λ m e. subst (λ (o : Option ItemKind). IfSome o (Stands c.args.types.now)) e c.export_of.ensures.stands)

pub returns-in-None-final_type : goal.returns-in-None-final_type
returns-in-None-final_type t c =
    alias_none c.args.graph.now c.see_sound.ensures (subst IsAcyclic c.types.ensures c.see_acyclic.ensures) c.args.types.now c.see_acyclic-2.ensures c.in-Some.found.0 c.args.node c.in-Some.found.1.now c.in-Some.ensures.found
    (subst (TellsFinal c.args.graph.now c.args.types.now c.in-Some.found.0) c.in-None-final_type.is c.final_type.ensures)

pub returns-in-None : goal.returns-in-None
returns-in-None t c = c.type_told.ensures
