use Rattle.std.proofs.Common.{◌≡◌, None, not, ap, sym, subst, ◌∙◌}
use Rattle.wac_types_base.specs.Entries.{value_at}
use Rattle.wac_graph_core.specs.NodeMaps.{NoImport}
use Rattle.wac_graph_core.specs.Slots.{nodes_in}
use Rattle.wac_graph_core.specs.Noted.{HasNotes}
use Rattle.wac_graph_core.proofs.Noting.{import_away, lacks_value}
use Rattle.wac_graph_core.proofs.nodes.Nodes.lacks_import.Goals as goal

pub returns-in-Some : goal.returns-in-Some
returns-in-Some c = λ h.
    let known = subst (λ o. HasNotes o (nodes_in c.self.inside.slots.items)) c.in-Some.is c.self.invariant in
    let away : value_at c.in-Some.noted.imports.items c.args.name.now ≡ None = sym c.get.ensures ∙ lacks_value c.get.result (c.is_none.ensures ∙ ap not h) in
    subst (λ m. NoImport m c.args.name.now) c.self.view_is (import_away c.in-Some.noted (nodes_in c.self.inside.slots.items) known c.args.name.now away)
