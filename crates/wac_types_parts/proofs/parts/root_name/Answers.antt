use Rattle.std.proofs.Common.{sym, ap, ◌∙◌}
use Rattle.wac_types_base.specs.Entries.{Name}
use Rattle.wac_types_base.specs.Collection.{resource}
use Rattle.wac_types_base.specs.Tree.{rigid, end}
use Rattle.wac_types_parts.proofs.Resources.{root_is}
use Rattle.wac_types_parts.proofs.parts.root_name.Goals as goal

pub returns-then-has : goal.returns-then-has
returns-then-has c stands =
    root_is c.args.types.now c.resource.ensures.acyclic c.args.id c.resolve_resource.result c.resource.result.now c.resolve_resource.ensures.root c.resolve_resource.ensures.stands stands c.resolve_resource.ensures.tree c.resource.ensures.entry c.resource.ensures.own
    ∙ ap (λ (n : Name). rigid (resource n) end) (sym c.as_str.ensures)
