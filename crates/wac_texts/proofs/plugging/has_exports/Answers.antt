use Rattle.std.proofs.Common.{ap, sym, ◌∙◌}
use Rattle.wac_types_base.specs.Stated.{exports_of, stated_of, stated_world}
use Rattle.wac_types_base.proofs.Stating.{exports_stated}
use Rattle.wac_texts.proofs.Written.{some_exports}
use Rattle.wac_texts.proofs.plugging.has_exports.Goals as goal

pub returns : goal.returns
returns c =
    let types = c.args.package.types.now in
    let stated = exports_stated types c.world.ensures.acyclic c.ty.result c.world.result.now c.world.ensures.entry c.world.ensures.own in
    some_exports (stated_of types) c.world.result.now.exports _ c.is_empty.result
    (ap (λ w. exports_of (stated_world types w)) (sym c.ty.ensures) ∙ stated) c.is_empty.ensures
