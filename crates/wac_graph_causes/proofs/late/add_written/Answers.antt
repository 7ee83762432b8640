use Rattle.std.specs.Prelude.{option_map}
use Rattle.std.proofs.Common.{◌∷◌, [], sym, ap, ◌∙◌}
use Rattle.wac_types_base.specs.Stated.{stated_of}
use Rattle.wac_types_base.proofs.Adding.{Grows-refl}
use Rattle.wac_types_fit.proofs.Items.{value_at-among}
use Rattle.wac_types_base.proofs.Stating.{value_with}
use Rattle.wac_composition.specs.Circles.{beside, under}
use Rattle.wac_graph_causes.specs.declared.late.Late.{Late}
use Rattle.wac_graph_causes.specs.Late.{written_beside}
use Rattle.wac_graph_causes.specs.Standing.{spelled_in, stands_by}
use Rattle.wac_graph_causes.proofs.LateLaws.{adds_as, adds_nothing, adds_one}
use Rattle.wac_graph_causes.proofs.late.add_written.Goals as goal

pub returns-in_default-clause-adds : goal.returns-in_default-clause-adds
returns-in_default-clause-adds c =
    let d = c.args.types.now in
    let st = c.args.standing in
    let xs = c.args.interfaces.now in
    let n = c.args.name.now in
    let es = c.args.all.now.items in
    adds_as d d es es [] (written_beside d st xs n)
    (ap (λ o. under (spelled_in st.placed) [] n (option_map (beside (stands_by st)) o)) (sym (value_with (stated_of d) xs n ∙ ap (option_map (stated_of d)) (sym c.in_default.ensures))))
    (adds_nothing d d (Grows-refl d c.see_acyclic.ensures) es)

pub beside-requires : goal.beside-requires
beside-requires c = c.requires (c.args.name.now, c.in-Some.item.now) (value_at-among c.args.interfaces.now c.args.name.now c.in-Some.item.now (sym c.in-Some.ensures))

pub returns-clause-adds : goal.returns-clause-adds
returns-clause-adds c =
    let d = c.args.types.now in
    let new = c.beside.new.types in
    let st = c.args.standing in
    let xs = c.args.interfaces.now in
    let n = c.args.name.now in
    let es = c.args.all.now.items in
    let x = beside (stands_by st) (stated_of d c.in-Some.item.now) in
    let l : Late = record { name = c.in_ok-name.name; item = c.in_ok-item.item } in
    adds_as d new es c.push.new.self.items ((l.name, x) ∷ []) (written_beside d st xs n)
    ((λ i. (c.in_ok-name.ensures i, x) ∷ [])
    ∙ ap (λ o. under (spelled_in st.placed) [] n (option_map (beside (stands_by st)) o)) (sym (value_with (stated_of d) xs n ∙ ap (option_map (stated_of d)) (sym c.in-Some.ensures))))
    (adds_one d new c.in_ok-item.ensures.grows l x es c.push.new.self.items c.in_ok-item.ensures.beside c.in_ok-push.ensures.items)
