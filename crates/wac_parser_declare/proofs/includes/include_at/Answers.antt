use Rattle.wac_parser_tree.specs.Views.{view_ident}
use Rattle.wac_parser_declare.specs.InIncludes.{conflict_of}
use Rattle.wac_parser_declare.proofs.InIncludes.{put_there, there_already}
use Rattle.wac_parser_declare.proofs.includes.include_at.Goals as goal

pub returns-then-branch-clause-outcome : goal.returns-then-branch-clause-outcome
returns-then-branch-clause-outcome c d =
    let i = c.args.inclusion in
    put_there d (conflict_of i c.args.id.now) c.args.stand.now c.add_new.new.entries c.args.item (view_ident c.args.id.now) c.in_ok-add_new.field-0 c.in_ok-add_new.ensures.added c.if-branch.true

pub returns-else-branch-clause-outcome : goal.returns-else-branch-clause-outcome
returns-else-branch-clause-outcome c d =
    let i = c.args.inclusion in
    there_already d (conflict_of i c.args.id.now) c.args.stand.now c.add_new.new.entries c.args.item (view_ident c.args.id.now) c.in_ok-add_new.field-0 c.in_ok-add_new.ensures.added c.if-branch.false c.conflict.result c.conflict.ensures
