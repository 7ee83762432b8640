use Rattle.std.proofs.Common.{sym}
use Rattle.wac_types_base.specs.Stated.{stated_of}
use Rattle.wac_parser_tree.specs.Views.{view_ident}
use Rattle.wac_parser_declare.proofs.InBodies.{bound_held, bound_refused}
use Rattle.wac_parser_declare.proofs.Standing.{added_new}
use Rattle.wac_parser_declare.proofs.scope.bind.Goals as goal

pub returns-in-Some-clause-outcome : goal.returns-in-Some-clause-outcome
returns-in-Some-clause-outcome c d =
    bound_refused d c.args.names.now (view_ident c.args.id.now) (stated_of d c.args.kind) c.in-Some.earlier.now c.duplicate_name.result (sym c.in-Some.ensures) c.duplicate_name.ensures

pub returns-clause-outcome : goal.returns-clause-outcome
returns-clause-outcome c d =
    let i = view_ident c.args.id.now in
    bound_held d c.args.names.now i c.add_new.new.entries c.args.kind tt (sym c.in_default.ensures)
    (added_new c.args.names.now c.add_new.new.entries i.string (record { kind = c.args.kind; span = i.span }) c.in_ok-add_new.field-0 (sym c.in_default.ensures) c.in_ok-add_new.ensures.added)
