use Rattle.std.proofs.Common.{ap, ◌∙◌}
use Rattle.wac_graph_scopes.specs.declared.items.ItemScope.{ItemScope}
use Rattle.wac_graph_encode.proofs.Rooting.{taken_when}
use Rattle.wac_graph_encode.proofs.root.take_scope.Goals as goal

pub returns-clause-reads : goal.returns-clause-reads
returns-clause-reads c none unsaid w types world imported h sources =
    taken_when c.args.scope.now c.args.root.now (record { entries = c.add_entries.new.entries; counts = c.counts_of-root.result; imports = c.take_places.result; nodes = c.args.root.now.nodes; early = c.args.root.now.early; exported = c.add_entries.new.exported; packages = c.args.root.now.packages })
    c.take_declarations-declarations.result.items c.add_entries.result (c.take_declarations-declarations.ensures ∙ ap (λ (s : ItemScope). s.types.declarations.items) c.take_places.ensures.scope) c.counts_of-root.ensures c.take_places.ensures.places
    c.add_entries.ensures none unsaid w types world imported h sources
