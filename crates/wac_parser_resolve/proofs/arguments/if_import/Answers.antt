use Rattle.std.proofs.Common.{Option, ap, sym, ◌∙◌}
use Rattle.std.specs.Borrow.{Bor}
use Rattle.std.specs.Option.{option_copied}
use Rattle.wac_types_base.specs.Entries.{Name, names_of}
use Rattle.wac_parser_resolve.specs.Denoting.{if_among}
use Rattle.wac_parser_resolve.proofs.Inferring.{among_here, among_not}
use Rattle.wac_parser_resolve.proofs.Matching.{has_value}
use Rattle.wac_parser_resolve.proofs.arguments.if_import.Goals as goal

pub returns-then-contains : goal.returns-then-contains
returns-then-contains c =
    among_here (names_of c.args.imports.now) c.in-Some.name.now (has_value c.args.imports.now c.in-Some.name.now ∙ sym c.contains.ensures ∙ c.if-contains.true)
    ∙ ap (λ (o : Option (Bor Name)). if_among (names_of c.args.imports.now) (option_copied o)) (sym c.in-Some.is)

pub returns-else-contains : goal.returns-else-contains
returns-else-contains c =
    among_not (names_of c.args.imports.now) c.in-Some.name.now (has_value c.args.imports.now c.in-Some.name.now ∙ sym c.contains.ensures ∙ c.if-contains.false)
    ∙ ap (λ (o : Option (Bor Name)). if_among (names_of c.args.imports.now) (option_copied o)) (sym c.in-Some.is)
