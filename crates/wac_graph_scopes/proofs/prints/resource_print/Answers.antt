use Rattle.std.proofs.Common.{sym, ap, ◌∙◌}
use Rattle.wac_graph_scopes.specs.Prints.{text_print, resource_print}
use Rattle.wac_types_parts.proofs.Resources.{root_is}
use Rattle.wac_graph_scopes.proofs.prints.resource_print.Goals as goal

pub returns : goal.returns
returns c =
    let r = c.resource-root in
    let root = root_is c.args.types.now c.see_acyclic.ensures c.args.id c.resolve_resource.result r.result.now c.resolve_resource.ensures.root c.resolve_resource.ensures.stands c.requires c.resolve_resource.ensures.tree r.ensures.entry r.ensures.own in
    c.text_print.ensures ∙ ap text_print c.as_str.ensures ∙ sym (ap resource_print root)
