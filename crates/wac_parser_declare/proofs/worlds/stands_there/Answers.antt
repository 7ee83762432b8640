use Rattle.std.proofs.Common.{ap, sym, ◌∙◌}
use Rattle.wac_types_base.specs.declared.item.ExternKind.{ExternKind}
use Rattle.wac_parser_declare.specs.Held.{stated_body}
use Rattle.wac_parser_declare.specs.InWorlds.{items_on}
use Rattle.wac_parser_declare.specs.Scope.{has}
use Rattle.wac_parser_declare.proofs.InIncludes.{has_now}
use Rattle.wac_parser_declare.proofs.worlds.stands_there.Goals as goal

pub returns-in-Import : goal.returns-in-Import
returns-in-Import c d =
    let b = c.args.body.now in
    let n = c.args.name.now in
    c.contains.ensures ∙ sym (has_now d b.items n) ∙ ap (λ (k : ExternKind). has (items_on k (stated_body d b)) n) (sym c.in-Import.is)

pub returns-in-Export : goal.returns-in-Export
returns-in-Export c d =
    let b = c.args.body.now in
    let n = c.args.name.now in
    c.contains-in-Export.ensures ∙ sym (has_now d b.exports n) ∙ ap (λ (k : ExternKind). has (items_on k (stated_body d b)) n) (sym c.in-Export.is)
