use Rattle.std.proofs.Common.{find, not, sym, ap, ◌∙◌}
use Rattle.std.specs.Option.{option_copied}
use Rattle.wac_types_base.specs.Entries.{has_name}
use Rattle.wac_parser_tree.specs.Views.{view_package_name}
use Rattle.wac_parser_resolve.specs.Holding.{names_given}
use Rattle.wac_parser_resolve.specs.InArguments.{imported_by}
use Rattle.wac_parser_resolve.proofs.Filling.{missing_none, missing_some}
use Rattle.wac_parser_resolve.proofs.Inferring.{import_names}
use Rattle.wac_parser_resolve.proofs.arguments.complete.Goals as goal

pub returns-in-None : goal.returns-in-None
returns-in-None c =
    let gn = names_given c.args.given.now.items in
    let same = c.names.ensures ∙ sym (import_names c.args.types.now c.world.ensures.acyclic c.args.world c.world.result.now c.world.ensures.entry c.world.ensures.own) in
    missing_none (view_package_name c.args.«package».now) (find (λ n. not (has_name gn n)) (imported_by c.args.types.now c.args.world)) tt
    (ap (find (λ n. not (has_name gn n))) (sym same) ∙ sym c.first_missing.ensures ∙ ap option_copied c.in-None.is)

pub returns-in-Some : goal.returns-in-Some
returns-in-Some c =
    let gn = names_given c.args.given.now.items in
    let same = c.names.ensures ∙ sym (import_names c.args.types.now c.world.ensures.acyclic c.args.world c.world.result.now c.world.ensures.entry c.world.ensures.own) in
    missing_some (view_package_name c.args.«package».now) (find (λ n. not (has_name gn n)) (imported_by c.args.types.now c.args.world)) c.in-Some.name.now c.missing_argument.result
    (ap (find (λ n. not (has_name gn n))) (sym same) ∙ sym c.first_missing.ensures ∙ ap option_copied c.in-Some.is) c.missing_argument.ensures
