use Rattle.std.proofs.Common.{refl, subst}
use Rattle.wac_types_base.specs.Collection.{IsAcyclic}
use Rattle.wac_graph_bytes.specs.Entries.{Aliased, ExportAlias}
use Rattle.wac_graph_encode.proofs.Nested.{entry_nests_none}
use Rattle.wac_graph_encode.proofs.WritingSteps.{alias_wired}
use Rattle.wac_graph_encode.proofs.instances.Wired.alias.Goals as goal

pub returns-clause-writes : goal.returns-clause-writes
returns-clause-writes c define worlds asked h new =
    alias_wired c.args.self.now c.see_sound.ensures (subst IsAcyclic c.types.ensures c.see_acyclic.ensures) c.add_alias.new.self c.args.node c.in_ok-place.place c.alias_of-sort.result.0 c.alias_of-sort.result.1 c.alias_of-sort.result.2.now c.alias_of-sort.ensures c.in_ok-place.ensures
    define worlds asked h

pub returns-clause-same : goal.returns-clause-same
returns-clause-same c = record {
  graph = refl;
  places = refl;
  imports = refl;
  packages = c.in_ok-place.ensures.packages;
  exported = c.in_ok-place.ensures.exported;
  nested = entry_nests_none c.args.self.now.root.entries.items c.add_alias.new.self.entries.items (Aliased (ExportAlias c.alias_of-sort.result.0 c.alias_of-sort.result.1 c.alias_of-sort.result.2.now)) refl c.in_ok-place.ensures.entry;
}
