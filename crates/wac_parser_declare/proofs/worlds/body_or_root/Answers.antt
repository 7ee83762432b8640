use Rattle.std.proofs.Common.{sym}
use Rattle.wac_parser_tree.specs.Views.{view_ident}
use Rattle.wac_parser_declare.specs.Holding.{BindingStands}
use Rattle.wac_parser_declare.proofs.Kept.{found_stands}
use Rattle.wac_parser_declare.proofs.Making.{meant_at_root, meant_in_body}
use Rattle.wac_parser_declare.proofs.Standing.{meant_stands}
use Rattle.wac_parser_declare.proofs.worlds.body_or_root.Goals as goal

pub returns-in-Some-clause-outcome : goal.returns-in-Some-clause-outcome
returns-in-Some-clause-outcome c d = meant_in_body d c.args.names.now c.args.context.root.now (view_ident c.args.id.now) c.in-Some.binding.now (sym c.in-Some.ensures)

pub returns-in-Some-clause-stands : goal.returns-in-Some-clause-stands
returns-in-Some-clause-stands c d r s = found_stands (BindingStands d) c.args.names.now c.args.id.now.string.now c.in-Some.binding.now s (sym c.in-Some.ensures)

pub returns-in-None-clause-outcome : goal.returns-in-None-clause-outcome
returns-in-None-clause-outcome c d = meant_at_root d c.args.names.now c.args.context.root.now (view_ident c.args.id.now) c.meaning.result (sym c.in-None.ensures) c.meaning.ensures

pub returns-in-None-clause-stands : goal.returns-in-None-clause-stands
returns-in-None-clause-stands c d r s = meant_stands d c.args.context.root.now (view_ident c.args.id.now) c.meaning.result r c.meaning.ensures
