use Rattle.std.proofs.lemmas.Result.{on_ok_weaker}
use Rattle.std.proofs.Common.{◌++◌, map, sym, ap, ◌∙◌}
use Rattle.wac_types_base.specs.declared.item.ItemKind.{ItemKind}
use Rattle.wac_types_base.specs.Entries.{Name}
use Rattle.wac_types_base.specs.Stated.{Stated, stated_of}
use Rattle.wac_types_base.proofs.Stating.{stated_kept}
use Rattle.wac_composition.specs.Circles.{exports_written, written_inside, written_package}
use Rattle.wac_graph_causes.proofs.LateLaws.{adds_as, adds_then}
use Rattle.wac_graph_causes.proofs.circles.add_package.Goals as goal

pub returns-clause-adds : goal.returns-clause-adds
returns-clause-adds c =
    let d = c.args.types.now in
    let e = c.add_inside.new.types in
    let k = ItemKind.Component c.args.world in
    let g = c.in_ok-add_inside.ensures.grows in
    let before = c.args.all.now.items in
    let mid = c.add_inside.new.all.items in
    let after = c.add_exported.new.all.items in
    let one = c.as_str.ensures.value ∙ c.in_ok-name.ensures in
    let two = c.as_str-2.ensures.value ∙ c.in_ok-name.ensures in
    let first = adds_as d e before mid _ _ (ap (λ n. written_inside (n, stated_of d k)) one) c.in_ok-add_inside.ensures.adds in
    on_ok_weaker c.add_exported.result
    (λ f. adds_then d e c.add_exported.new.types before mid after _ _ first
    (adds_as e c.add_exported.new.types mid after _ _ ((λ i. map (λ (x : Name × Stated). (two i, x.1)) (exports_written (stated_kept d e g k c.requires i)))) (f (g.stand k c.requires))))
    c.add_exported.ensures.adds
