use Rattle.std.proofs.Common.{List, ◌&&◌, filter, is_some, not, sym, ap, subst, ◌∙◌}
use Rattle.std.proofs.lemmas.Result.{IfOk-weaker}
use Rattle.wac_types_base.specs.Entries.{AreDistinct, Name, has_name, value_at}
use Rattle.wac_parser_resolve.specs.Holding.{names_given}
use Rattle.wac_parser_resolve.specs.InArguments.{imported_by}
use Rattle.wac_parser_resolve.proofs.Inferring.{import_names}
use Rattle.wac_parser_resolve.proofs.Spreading.{distinct_filter, exports_by}
use Rattle.wac_parser_resolve.proofs.arguments.spread_names.Goals as goal

pub returns-clause-names : goal.returns-clause-names
returns-clause-names c =
    let gn = names_given c.args.given.now.items in
    IfOk-weaker c.left_names.result _ _
    (λ v e. e ∙ ap (filter (λ n. not (has_name gn n) && is_some (value_at c.interface.result.now.exports n)))
    (c.names.ensures ∙ sym (import_names c.args.types.now c.world.ensures.acyclic c.args.world c.world.result.now c.world.ensures.entry c.world.ensures.own))
    ∙ exports_by c.args.types.now c.interface.ensures.acyclic c.args.interface c.interface.result.now c.interface.ensures.entry c.interface.ensures.own gn (imported_by c.args.types.now c.args.world))
    c.left_names.ensures

pub returns-clause-distinct : goal.returns-clause-distinct
returns-clause-distinct c =
    let gn = names_given c.args.given.now.items in
    IfOk-weaker c.left_names.result _ _
    (λ v e. subst (λ (ns : List Name). AreDistinct ns) (sym e)
    (distinct_filter (λ n. not (has_name gn n) && is_some (value_at c.interface.result.now.exports n)) _ (subst (λ (ns : List Name). AreDistinct ns) (sym c.names.ensures) c.len.ensures.distinct)))
    c.left_names.ensures
