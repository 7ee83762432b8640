use Rattle.std.specs.Option.{option_copied}
use Rattle.std.proofs.Common.{◌∙◌, ap, sym, subst}
use Rattle.wac_types_base.specs.Collection.{IsAcyclic}
use Rattle.wac_graph_encode.specs.Worlds.{TellsFinal}
use Rattle.wac_graph_encode.proofs.Finals.{definition_told, import_told}
use Rattle.wac_graph_encode.proofs.world.type_told.Goals as goal

pub returns-in-Some : goal.returns-in-Some
returns-in-Some c =
    subst (TellsFinal c.args.graph.now c.args.types.now c.args.node) (sym c.type_under.ensures)
    (import_told c.args.graph.now c.see_sound.ensures (subst IsAcyclic c.types.ensures c.see_acyclic.ensures) c.args.types.now c.see_acyclic-2.ensures c.args.finals.now.outers.now c.requires.finals.outers c.args.node c.in-Some.name.now
    (sym c.import_name.ensures ∙ ap option_copied c.in-Some.is))

pub returns-in-None : goal.returns-in-None
returns-in-None c =
    definition_told c.args.graph.now c.see_sound.ensures (subst IsAcyclic c.types.ensures c.see_acyclic.ensures) c.args.types.now c.args.finals.now c.requires.finals c.args.node c.copied.result (c.copied.ensures ∙ c.get.ensures.value)
    (sym c.import_name.ensures ∙ ap option_copied c.in-None.is) c.requires.alone
