use Rattle.std.proofs.Common.{ap, ◌∙◌}
use Rattle.std.proofs.lemmas.Result.{on_ok_weaker}
use Rattle.wac_types_base.specs.declared.item.ItemKind.{ItemKind}
use Rattle.wac_types_base.specs.Stated.{stated_of}
use Rattle.wac_types_written.specs.Forms.{stated_items}
use Rattle.wac_composition.specs.Circles.{exports_written, written_names}
use Rattle.wac_graph_causes.specs.Late.{written_after}
use Rattle.wac_graph_causes.specs.Standing.{spelled_at}
use Rattle.wac_graph_causes.proofs.LateLaws.{adds_as, exported_stand, exports_added}
use Rattle.wac_graph_causes.proofs.late.add_exports.Goals as goal

pub add_in_order-requires : goal.add_in_order-requires
add_in_order-requires c = exported_stand c.args.types.now c.see_acyclic.ensures c.args.world c.in_ok-interfaces.interfaces c.in_ok-interfaces.ensures

pub returns-clause-adds : goal.returns-clause-adds
returns-clause-adds c =
    let d = c.args.types.now in
    let xs = c.in_ok-interfaces.interfaces in
    let ns = c.in_ok-names.names in
    let order = c.deref.result.now in
    let empty = c.new-none.ensures in
    let ordered = c.deref.ensures.value ∙ c.in_ok-order.ensures ∙ ap (λ m. written_names (spelled_at m xs) (stated_items d xs)) empty in
    on_ok_weaker c.add_in_order.result
    (λ f stands. adds_as d c.add_in_order.new.types c.args.all.now.items c.add_in_order.new.all.items _ (exports_written (stated_of d (ItemKind.Component c.args.world)))
    (ap (λ m. written_after d (spelled_at m xs) xs ns order) empty ∙ exports_added d c.see_acyclic.ensures c.args.world xs ns order c.in_ok-interfaces.ensures c.in_ok-names.ensures ordered) f)
    c.add_in_order.ensures.adds
