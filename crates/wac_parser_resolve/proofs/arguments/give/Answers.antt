use Rattle.std.proofs.Common.{Some, ap, ◌∙◌}
use Rattle.std.specs.Prelude.{string_bytes}
use Rattle.wac_types_base.specs.Entries.{has_name}
use Rattle.wac_parser_refusals.specs.Causes.{DuplicateInstantiationArg}
use Rattle.wac_parser_declare.proofs.Members.{told}
use Rattle.wac_parser_resolve.specs.Holding.{names_given}
use Rattle.wac_parser_resolve.proofs.Giving.{give_held, give_refused}
use Rattle.wac_parser_resolve.proofs.arguments.give.Goals as goal

pub returns-then-is_given-clause-outcome : goal.returns-then-is_given-clause-outcome
returns-then-is_given-clause-outcome c g ms gs a all is =
    give_refused g ms gs c.args.given.now.items all a c.args.one is c.is_given.result c.named.result
    (c.is_given.ensures ∙ ap (has_name (names_given c.args.given.now.items)) c.as_str.ensures.value) c.if-is_given.true
    (told c.named.result (DuplicateInstantiationArg (string_bytes c.args.one.name)) (Some c.args.one.span) c.named.ensures)

pub returns-clause-outcome : goal.returns-clause-outcome
returns-clause-outcome c g ms gs a all is =
    give_held g ms gs c.args.given.now.items all a c.args.one is c.push.new.self.items tt c.is_given.result
    (c.is_given.ensures ∙ ap (has_name (names_given c.args.given.now.items)) c.as_str.ensures.value) c.if-is_given.false c.in_ok-push.ensures.items
