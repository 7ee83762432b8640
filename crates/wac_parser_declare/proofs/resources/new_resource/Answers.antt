use Rattle.std.proofs.Common.{◌∙◌}
use Rattle.wac_parser_declare.proofs.InBodies.{resource_stated}
use Rattle.wac_parser_declare.proofs.resources.new_resource.Goals as goal

pub returns-clause-stated : goal.returns-clause-stated
returns-clause-stated g c =
    resource_stated (g.T.GrowingTypes.collection c.add_resource.new.self) c.add_resource.ensures.grows.acyclic c.new.result c.args.name.now (c.new.ensures ∙ c.in_ok-from_str.ensures.ok) c.add_resource.result c.add_resource.ensures.node
