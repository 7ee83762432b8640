use Rattle.std.proofs.Common.{sym}
use Rattle.std.proofs.lemmas.Result.{IfOk-weaker}
use Rattle.wac_types_base.specs.Collection.{Stands}
use Rattle.wac_parser_declare.proofs.Exports.{component_exports}
use Rattle.wac_parser_declare.proofs.Kept.{found_stands}
use Rattle.wac_parser_declare.proofs.Standing.{world_exports}
use Rattle.wac_parser_resolve.proofs.Defined.{exported_defines, lacking_defines, meaning_defines}
use Rattle.wac_parser_resolve.proofs.packages.definition_in.Goals as goal

pub definition_of-requires : goal.definition_of-requires
definition_of-requires c =
    let d = c.args.types.now in
    let w = c.world.ensures in
    found_stands (Stands d) c.world.result.now.exports c.args.name.now c.in-Some.item.now (world_exports d w.acyclic c.args.world c.world.result.now w.entry w.own) (sym c.in-Some.ensures)

pub returns-in-Some : goal.returns-in-Some
returns-in-Some c =
    let d = c.args.types.now in
    let w = c.world.ensures in
    let stands = found_stands (Stands d) c.world.result.now.exports c.args.name.now c.in-Some.item.now (world_exports d w.acyclic c.args.world c.world.result.now w.entry w.own) (sym c.in-Some.ensures) in
    IfOk-weaker c.definition_of.result _ _
    (λ o h. exported_defines d w.acyclic c.args.world c.world.result.now.exports (component_exports d w.acyclic c.args.world c.world.result.now w.entry w.own) c.see_distinct.ensures c.args.name.now
    c.in-Some.item.now o (sym c.in-Some.ensures) (meaning_defines d w.acyclic c.in-Some.item.now o stands h))
    c.definition_of.ensures

pub returns-in-None : goal.returns-in-None
returns-in-None c =
    let d = c.args.types.now in
    let w = c.world.ensures in
    lacking_defines d w.acyclic c.args.world c.world.result.now.exports (component_exports d w.acyclic c.args.world c.world.result.now w.entry w.own) c.see_distinct.ensures c.args.name.now (sym c.in-None.ensures)
