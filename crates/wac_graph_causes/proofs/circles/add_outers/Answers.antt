use Rattle.std.proofs.lemmas.Result.{on_ok_weaker}
use Rattle.std.proofs.Common.{sym, subst}
use Rattle.wac_types_written.specs.Forms.{ItemsStand}
use Rattle.wac_types_written.proofs.Growing.{items_stand_kept}
use Rattle.wac_graph_causes.proofs.CircleLaws.{outers_added}
use Rattle.wac_graph_causes.proofs.LateLaws.{imports_stand}
use Rattle.wac_graph_causes.proofs.circles.add_outers.Goals as goal

pub add_all_inside-requires : goal.add_all_inside-requires
add_all_inside-requires c =
    let old = c.args.types.now in
    let imports = c.in_ok-imports.imports in
    items_stand_kept old c.add_world.new.types c.in_ok-add_world.ensures.grows imports (subst (ItemsStand old) (sym c.in_ok-imports.ensures) (imports_stand old c.see_acyclic.ensures c.args.outers.now.world))

pub returns-clause-adds : goal.returns-clause-adds
returns-clause-adds c =
    let old = c.args.types.now in
    let mid = c.add_world.new.types in
    let o = c.args.outers.now in
    let imports = c.in_ok-imports.imports in
    let stand = subst (ItemsStand old) (sym c.in_ok-imports.ensures) (imports_stand old c.see_acyclic.ensures o.world) in
    on_ok_weaker c.add_all_inside.result
    (λ h. outers_added old mid c.add_all_inside.new.types c.in_ok-add_world.ensures.grows o imports c.in_ok-imports.ensures stand c.args.all.now.items c.add_world.new.all.items c.add_all_inside.new.all.items c.in_ok-add_world.ensures.adds h)
    c.add_all_inside.ensures.adds
