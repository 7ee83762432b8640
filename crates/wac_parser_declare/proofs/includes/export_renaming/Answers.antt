use Rattle.std.proofs.Common.{sym, ◌∙◌}
use Rattle.wac_parser_declare.proofs.InIncludes.{left_free_of, left_taken_of}
use Rattle.wac_parser_declare.proofs.includes.export_renaming.Goals as goal

pub returns-then-contains : goal.returns-then-contains
returns-then-contains c d x imports colon = left_taken_of d x c.args.imports.now imports c.args.with.now.items c.args.name.now colon (sym c.contains.ensures ∙ c.if-contains.true)

pub returns-else-contains : goal.returns-else-contains
returns-else-contains c d x imports colon = c.renaming.ensures ∙ left_free_of d x c.args.imports.now imports c.args.with.now.items c.args.name.now colon (sym c.contains.ensures ∙ c.if-contains.false)
