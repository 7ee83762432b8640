use Rattle.std.specs.Option.{option_copied}
use Rattle.std.proofs.Common.{sym, ap, ◌∙◌}
use Rattle.wac_graph_core.specs.contracts.ids.PackageIdPartialEq.TheImpl as package_id
use Rattle.wac_graph_encode.proofs.Entries.{found_among, none_among, same_package}
use Rattle.wac_graph_encode.proofs.instances.Wired.component.Goals as goal

pub returns : goal.returns
returns c = found_among package_id.eq-value.it same_package c.args.self.now.root.packages.entries c.args.id c.in-Some.index.now (sym c.get.ensures.value ∙ ap option_copied c.in-Some.is)

pub unreachable-requires : goal.unreachable-requires
unreachable-requires c = none_among package_id.eq-value.it same_package c.args.self.now.root.packages.entries c.args.id (sym c.get.ensures.value ∙ ap option_copied c.in-None.is) c.requires
