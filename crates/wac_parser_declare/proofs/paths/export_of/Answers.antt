use Rattle.std.proofs.Common.{Some, None, sym}
use Rattle.wac_parser_declare.proofs.Exports.{export_in}
use Rattle.wac_parser_declare.proofs.paths.export_of.Goals as goal

pub returns-in-Some-clause-export : goal.returns-in-Some-clause-export
returns-in-Some-clause-export c =
    export_in c.args.types.now c.args.kind c.args.name.now (Some c.in_ok-exports.exports.now) (Some c.in-Some.item.now) c.in_ok-exports.ensures.exports (sym c.in-Some.ensures)

pub returns-in-None-clause-export : goal.returns-in-None-clause-export
returns-in-None-clause-export c =
    export_in c.args.types.now c.args.kind c.args.name.now (Some c.in_ok-exports.exports.now) None c.in_ok-exports.ensures.exports (sym c.in-None.ensures)
