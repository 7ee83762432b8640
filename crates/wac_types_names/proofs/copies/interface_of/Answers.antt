use Rattle.std.proofs.Common.{◌≡◌, ap, ◌∙◌, None}
use Rattle.wac_types_base.specs.declared.defined.Interface.{Interface}
use Rattle.wac_types_names.specs.Packages.{interface_of}
use Rattle.wac_types_names.proofs.Copied.{interface_stands}
use Rattle.wac_types_names.proofs.copies.interface_of.Goals as goal

pub returns-clause-children : goal.returns-clause-children
returns-clause-children c =
    let w = c.world-world.result.now in
    let u = c.in_ok-copy_uses.field-0 in
    let i : Interface = record { id = None; uses = u; exports = c.in_ok-copy_items.field-0 } in
    let is : i ≡ interface_of w = ap (λ e. let j : Interface = record { id = None; uses = u; exports = e } in j) c.in_ok-copy_items.ensures
    ∙ ap (λ u. let j : Interface = record { id = None; uses = u; exports = w.exports } in j) c.in_ok-copy_uses.ensures in
    interface_stands c.args.types.now c.world-world.ensures.acyclic c.args.world w c.world-world.ensures.entry c.world-world.ensures.own i is
