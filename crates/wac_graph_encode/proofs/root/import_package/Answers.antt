use Rattle.std.proofs.Common.{◌∙◌, subst}
use Rattle.wac_types_base.specs.Entries.{Name}
use Rattle.wac_graph_encode.specs.Importing.{HasImported}
use Rattle.wac_graph_core.specs.contracts.ids.PackageIdPartialEq.TheImpl as package_id
use Rattle.wac_graph_encode.proofs.Entries.{same_package}
use Rattle.wac_graph_encode.proofs.Readying.{names_inserted}
use Rattle.wac_graph_encode.proofs.root.import_package.Goals as goal

pub returns-clause-imports : goal.returns-clause-imports
returns-clause-imports c stands w i h = record {
  index = c.in_ok-index.index;
  import = subst (λ (n : Name). HasImported w c.args.types.now i n c.args.world c.import_component.new.scope.scope c.in_ok-index.index) (c.as_str.ensures.value ∙ c.in_ok-name.ensures) (c.in_ok-index.ensures.imports stands w i h);
  noted = c.in_ok-insert.ensures.entries;
}

pub returns-clause-held : goal.returns-clause-held
returns-clause-held c = names_inserted package_id.eq-value.it same_package c.args.packages.now.entries c.insert.new.self.entries c.args.id c.in_ok-index.index c.in_ok-insert.ensures.entries
