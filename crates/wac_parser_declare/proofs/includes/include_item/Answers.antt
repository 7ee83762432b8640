use Rattle.std.proofs.Common.{option_map, sym, ◌∙◌}
use Rattle.wac_parser_tree.specs.Views.{view_ident}
use Rattle.wac_parser_declare.specs.InIncludes.{helps, path_of}
use Rattle.wac_parser_declare.proofs.InIncludes.{with_colon, without_colon}
use Rattle.wac_parser_declare.proofs.includes.include_item.Goals as goal

pub returns-then-has_colon-clause-outcome : goal.returns-then-has_colon-clause-outcome
returns-then-has_colon-clause-outcome c d =
    let i = c.args.inclusion in
    with_colon d i.to.now (path_of i) (helps i) i.kind c.args.stand.now c.add_new.new.entries c.args.item c.args.name.now (option_map view_ident c.args.renamed) c.in_ok-add_new.field-0 (sym c.has_colon.ensures ∙ c.if-has_colon.true) c.in_ok-add_new.ensures.added

pub returns-clause-outcome : goal.returns-clause-outcome
returns-clause-outcome c d =
    let i = c.args.inclusion in
    without_colon d i.to.now (path_of i) (helps i) i.kind c.args.stand.now c.include_at.new.stand c.args.item c.args.name.now (option_map view_ident c.args.renamed) (view_ident c.new_name-id.result) c.include_at.result (sym c.has_colon.ensures ∙ c.if-has_colon.false) c.new_name-id.ensures (c.include_at.ensures.outcome d)
