use Rattle.std.proofs.Common.{Some, sym, subst}
use Rattle.wac_graph_core.specs.declared.noted.Noted.{Noted}
use Rattle.wac_graph_core.specs.Noted.{IsNodeNoted}
use Rattle.wac_graph_core.proofs.Noting.{both_noted}
use Rattle.wac_graph_core.proofs.noted.with_node.Goals as goal

pub returns : goal.returns
returns c =
    let now : Noted = record { imports = c.note_import.new.imports; types = c.note_type.new.types } in
    let names = c.note_import.ensures c.if-not-note_import.false in
    let types = c.note_type.ensures c.if-not-note_type.false in
    subst (λ o. IsNodeNoted o c.args.node.now c.args.id (Some now)) (sym c.in_ok-noted.was) (both_noted c.in_ok-noted.noted now c.args.node.now c.args.id names types)
