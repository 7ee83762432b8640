use Rattle.std.proofs.Common.{◌++◌, ◌∷◌, [], refl}
use Rattle.std.proofs.lemmas.Result.{on_ok_weaker}
use Rattle.wac_types_base.specs.Stated.{stated_of}
use Rattle.wac_types_base.proofs.Adding.{Grows-refl}
use Rattle.wac_composition.specs.Circles.{written_inside}
use Rattle.wac_graph_causes.proofs.LateLaws.{adds_one, adds_then}
use Rattle.wac_graph_causes.proofs.circles.add_whole.Goals as goal

pub returns-clause-adds : goal.returns-clause-adds
returns-clause-adds c =
    let d = c.args.types.now in
    let k = c.args.item in
    let n = c.args.name.now in
    let x = stated_of d k in
    let before = c.args.all.now.items in
    let mid = c.push_late.new.all.items in
    let itself = adds_one d d (Grows-refl d c.see_acyclic.ensures) (record { name = n; item = k }) x before mid (record { stands = c.requires; states = refl }) c.in_ok-push_late.ensures in
    on_ok_weaker c.add_inside.result
    (λ f. adds_then d d c.add_inside.new.types before mid c.add_inside.new.all.items ((n, x) ∷ []) (written_inside (n, x)) itself f) c.add_inside.ensures.adds
