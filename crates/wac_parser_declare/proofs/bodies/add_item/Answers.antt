use Rattle.std.specs.Prelude.{⊤}
use Rattle.std.proofs.Common.{◌∙◌, Ok}
use Rattle.wac_types_base.specs.Stated.{stated_of}
use Rattle.wac_parser_tree.specs.Views.{view_ident}
use Rattle.wac_parser_declare.specs.Bodies as stated
use Rattle.wac_parser_declare.specs.Bodies.{with_item}
use Rattle.wac_parser_declare.specs.Held.{holder_of, stated_body}
use Rattle.wac_parser_declare.specs.InBodies.{IsBody}
use Rattle.wac_parser_declare.specs.Scope.{has}
use Rattle.wac_parser_declare.proofs.InBodies.{absent_outcome, has_item, item_more, there_refused}
use Rattle.wac_parser_declare.proofs.Members.{new_entry, old_entry}
use Rattle.wac_parser_declare.proofs.bodies.add_item.Goals as goal

pub returns-then-branch-clause-outcome : goal.returns-then-branch-clause-outcome
returns-then-branch-clause-outcome c d =
    let b = c.args.body.now in
    let i = view_ident c.args.id.now in
    let s = stated_body d b in
    let h = holder_of c.args.holder in
    let n = new_entry b.items c.add_new.new.entries i.string c.args.kind c.in_ok-add_new.field-0 c.if-branch.true c.in_ok-add_new.ensures.added in
    absent_outcome (has s.items i.string) (h.duplicate i.string) i.span (Ok (with_item s i.string (stated_of d c.args.kind)))
    (λ (x : stated.Body) (u : ⊤). IsBody d x (record { names = b.names; uses = b.uses; items = c.add_new.new.entries; exports = b.exports })) (Ok tt)
    (has_item d b i.string ∙ n.0) (item_more d b i.string c.add_new.new.entries c.args.kind n.1)

pub returns-else-branch-clause-outcome : goal.returns-else-branch-clause-outcome
returns-else-branch-clause-outcome c d =
    let b = c.args.body.now in
    let i = view_ident c.args.id.now in
    let s = stated_body d b in
    let h = holder_of c.args.holder in
    let n = old_entry b.items c.add_new.new.entries i.string c.args.kind c.in_ok-add_new.field-0 c.if-branch.false c.in_ok-add_new.ensures.added in
    there_refused (has s.items i.string) (h.duplicate i.string) i.span (Ok (with_item s i.string (stated_of d c.args.kind))) c.duplicate.result (has_item d b i.string ∙ n.0) c.duplicate.ensures
