use Rattle.std.proofs.Common.{◌||◌, sym, ap, ◌∙◌}
use Rattle.wac_writable.specs.Unnamed.{uses_unnamed}
use Rattle.wac_writable.proofs.UnnamedLaws.{lacks_identifier}
use Rattle.wac_writable.proofs.unnamed.Unnamed.is_found_unnamed.Goals as goal

pub returns-then-is_none : goal.returns-then-is_none
returns-then-is_none c k =
    let e = sym c.if-is_none.true ∙ lacks_identifier c.args.types.now c.see_acyclic.ensures c.args.id c.identifier.result c.is_none.result c.identifier.ensures c.is_none.ensures in
    c.if-is_none.true ∙ ap (λ b. b || uses_unnamed c.args.types.now c.args.id) e

pub returns-else-is_none : goal.returns-else-is_none
returns-else-is_none c k =
    let e = sym c.if-is_none.false ∙ lacks_identifier c.args.types.now c.see_acyclic.ensures c.args.id c.identifier.result c.is_none.result c.identifier.ensures c.is_none.ensures in
    c.is_found.ensures ∙ k c.args.id ∙ ap (λ b. b || uses_unnamed c.args.types.now c.args.id) e
