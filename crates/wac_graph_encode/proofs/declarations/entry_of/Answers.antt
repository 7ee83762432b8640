use Rattle.std.proofs.Common.{ap, sym, ◌∙◌}
use Rattle.wac_graph_bytes.specs.Entries.{End}
use Rattle.wac_graph_bytes.specs.Views.{before}
use Rattle.wac_graph_bytes.specs.declared.entry.Declaration.{Declaration}
use Rattle.wac_graph_encode.specs.Rooting.{plain_entries}
use Rattle.wac_graph_encode.proofs.Rooting.{component_entry, instance_entry}
use Rattle.wac_graph_encode.proofs.declarations.entry_of.Goals as goal

pub returns-in-ComponentType : goal.returns-in-ComponentType
returns-in-ComponentType c = component_entry c.in-ComponentType.declarations ∙ ap (λ (d : Declaration). plain_entries (before d End)) (sym c.in-ComponentType.is)

pub returns-in-InstanceType : goal.returns-in-InstanceType
returns-in-InstanceType c = instance_entry c.in-InstanceType.declarations ∙ ap (λ (d : Declaration). plain_entries (before d End)) (sym c.in-InstanceType.is)
