use Rattle.std.proofs.Common.{sym}
use Rattle.wac_parser_tree.specs.Views.{view_ident}
use Rattle.wac_parser_resolve.proofs.Asking.{named_held, named_lacking}
use Rattle.wac_parser_resolve.proofs.SoundGraph.{name_stands}
use Rattle.wac_parser_resolve.proofs.statements.item_named.Goals as goal

pub returns-in-Some-clause-stands : goal.returns-in-Some-clause-stands
returns-in-Some-clause-stands c =
    name_stands c.args.types.now c.args.names.now c.args.id.now.string.now c.in-Some.binding.now c.requires (sym c.in-Some.ensures)

pub returns-in-Some-clause-outcome : goal.returns-in-Some-clause-outcome
returns-in-Some-clause-outcome c =
    named_held c.args.types.now c.args.names.now (view_ident c.args.id.now) c.in-Some.binding.now c.requires (sym c.in-Some.ensures)

pub returns-in-None-clause-outcome : goal.returns-in-None-clause-outcome
returns-in-None-clause-outcome c =
    named_lacking c.args.types.now c.args.names.now (view_ident c.args.id.now) c.undefined_name.result (sym c.in-None.ensures) c.undefined_name.ensures
