use Rattle.std.specs.List.{flat_map}
use Rattle.std.proofs.Common.{◌+◌, ◌++◌, get_or, map, take, sym, ap, subst, ◌∙◌}
use Rattle.wac_types_base.specs.declared.ids.WorldId.{WorldId}
use Rattle.wac_types_base.specs.Graph.{Among}
use Rattle.wac_types_base.specs.Stated.{stated_of}
use Rattle.wac_types_base.proofs.Adding.{Grows-refl, Grows-trans}
use Rattle.wac_types_base.proofs.Looked.{among-get}
use Rattle.wac_types_base.proofs.Used.{place_or}
use Rattle.wac_composition.specs.Circles.{interfaces_written}
use Rattle.wac_graph_causes.specs.Inside.{world_imports}
use Rattle.wac_graph_causes.proofs.CircleLaws.{inside_all, inside_more, inside_of, named, world_kept}
use Rattle.wac_graph_causes.proofs.LateLaws.{adds_as, adds_nothing, adds_then}
use Rattle.wac_graph_causes.proofs.WorldsInside.{missing_inside}
use Rattle.wac_graph_causes.proofs.circles.add_inside.Goals as goal

pub returns-then-not-has-clause-adds : goal.returns-then-not-has-clause-adds
returns-then-not-has-clause-adds c =
    let d = c.args.types.now in
    let es = c.args.all.now.items in
    adds_as d d es es _ _ (ap (λ l. map (named c.args.name.now) (flat_map (interfaces_written (λ n. n)) l)) (sym (missing_inside d c.args.item (λ s. absurd (cc (c.if-not-has.ensures.1 s))))))
    (adds_nothing d d (Grows-refl d c.see_acyclic.ensures) es)

pub loop-world-init : goal.loop-world-init
loop-world-init c =
    let d = c.args.types.now in
    let g = Grows-refl d c.see_acyclic.ensures in
    record { grows = g; adds = adds_nothing d d g c.args.all.now.items }

-- what a loop over worlds reads past the end
abbrev nothing : WorldId
nothing = record { collection = 0; index = 0 }

pub loop-world-preserved : goal.loop-world-preserved
loop-world-preserved c =
    let old = c.args.types.now in
    let mid = c.loop-world.types in
    let new = c.add_component.new.types in
    let n = c.args.name.now in
    let ws = c.deref-world-items.result.now in
    let i = c.loop-world.world-index in
    let w = get_or ws i nothing in
    let g = c.loop-world.invariant.grows in
    let at = place_or ws i nothing c.loop-world-test.true in
    let stands = c.in_ok-worlds.ensures.stand w (subst (Among w) c.deref-world-items.ensures.value (among-get ws i w at)) in
    record {
      grows = Grows-trans old mid new g c.in_ok-add_component.ensures.grows;
      adds = adds_as old new c.args.all.now.items c.add_component.new.all.items _ (inside_of old n (take (i + 1) ws))
          (ap (λ l. inside_of old n (take i ws) ++ map (named n) l) (world_kept old mid c.see_acyclic.ensures g (λ n. n) w stands) ∙ inside_more old n ws i w at)
          (adds_then old mid new c.args.all.now.items c.loop-world.all.items c.add_component.new.all.items _ _ c.loop-world.invariant.adds c.in_ok-add_component.ensures.adds);
    }

pub returns-clause-adds : goal.returns-clause-adds
returns-clause-adds c =
    let old = c.args.types.now in
    let ws = c.deref-world-items.result.now in
    let are = ap (map (world_imports old)) c.deref-world-items.ensures.value ∙ c.in_ok-worlds.ensures.imports in
    adds_as old c.loop-world.types c.args.all.now.items c.loop-world.all.items _ _
    (inside_all old c.args.name.now (stated_of old c.args.item) ws c.loop-world.world-index c.loop-world-test.false are) c.loop-world.invariant.adds
