use Rattle.std.proofs.Common.{refl, sym, ◌∙◌}
use Rattle.wac_graph_core.proofs.Noting.{one_added, none_added}
use Rattle.wac_graph_core.proofs.nodes.Nodes.gather_definition.Goals as goal

pub returns-in_ok-push : goal.returns-in_ok-push
returns-in_ok-push c =
    one_added c.args.self.now c.args.ty c.args.found.now.items c.push.new.self.items c.in-Some-look_up_definition.id c.in-Some.field-0 (sym c.defined_of.ensures ∙ c.in-Some.is)
    c.in-Some-look_up_definition.ensures.found c.in-Some-look_up_definition.ensures.told c.in_ok-push.ensures.items

pub returns-in_default-look_up_definition : goal.returns-in_default-look_up_definition
returns-in_default-look_up_definition c =
    none_added c.args.self.now c.args.ty c.args.found.now.items c.args.found.now.items c.look_up_definition.result c.in_default-look_up_definition.not-Some c.look_up_definition.ensures.told refl
