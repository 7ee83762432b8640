use Rattle.std.proofs.Common.{sym, ap, ◌∙◌, is_some}
use Rattle.wac_types_base.specs.Entries.{value_at, put_entry}
use Rattle.wac_graph_causes.proofs.Firsts.{first_put, first_kept}
use Rattle.wac_graph_causes.proofs.implicit.add_first.Goals as goal

pub returns-then-contains : goal.returns-then-contains
returns-then-contains c = first_kept c.args.imports.now c.args.ask.now.name c.args.ask.now.by (sym (c.contains.ensures ∙ ap (λ n. is_some (value_at c.args.imports.now n)) c.as_str.ensures) ∙ c.if-contains.true)

pub returns : goal.returns
returns c =
    first_put c.args.imports.now c.insert.new.self c.args.ask.now.name c.args.ask.now.by (sym (c.contains.ensures ∙ ap (λ n. is_some (value_at c.args.imports.now n)) c.as_str.ensures) ∙ c.if-contains.false)
    (c.in_ok-insert.ensures.ok ∙ ap (λ n. put_entry c.args.imports.now n c.args.ask.now.by) (c.in_ok-name.ensures.ok ∙ c.as_str-2.ensures))
