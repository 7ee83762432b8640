use Rattle.std.proofs.Common.{◌+◌, Some, take, sym, ap, ◌∙◌}
use Rattle.std.proofs.lemmas.List.{append-nil}
use Rattle.wac_types_base.specs.Entries.{has_name, put_name}
use Rattle.wac_types_base.proofs.Adding.{Grows-refl, Grows-trans}
use Rattle.wac_types_base.proofs.Loops.{get-place, take-all}
use Rattle.wac_types_written.proofs.Growing.{items_stand_kept}
use Rattle.wac_graph_causes.specs.declared.standing.Standing.{Standing}
use Rattle.wac_graph_causes.specs.Late.{written_after}
use Rattle.wac_graph_causes.specs.Standing.{spelled_in}
use Rattle.wac_graph_causes.proofs.LateLaws.{adds_as, adds_nothing, adds_then, standing_more, written_more}
use Rattle.wac_graph_causes.proofs.late.add_in_order.Goals as goal

pub loop-name-init : goal.loop-name-init
loop-name-init c = record {
  grows = Grows-refl c.args.types.now c.see_acyclic.ensures;
  adds = adds_nothing c.args.types.now c.args.types.now (Grows-refl c.args.types.now c.see_acyclic.ensures) c.args.all.now.items;
  names = λ n. ap (λ l. has_name l n) (sym (append-nil c.args.names.now));
}

pub add_written-requires : goal.add_written-requires
add_written-requires c = items_stand_kept c.args.types.now c.loop-name.types c.loop-name.invariant.grows c.args.interfaces.now c.requires

pub loop-name-preserved : goal.loop-name-preserved
loop-name-preserved c =
    let old = c.args.types.now in
    let mid = c.loop-name.types in
    let new = c.add_written.new.types in
    let spell = spelled_in c.args.placed in
    let xs = c.args.interfaces.now in
    let order = c.args.order.now in
    let i = c.loop-name.name-index in
    let x = c.as_str.result.now in
    let g = c.loop-name.invariant.grows in
    let st : Standing = record { placed = c.args.placed; names = record { ref_ptr = c.args.placed.places.ref_ptr; now = c.loop-name.names } } in
    let item = get-place order i c.name-item.result c.loop-name-test.true c.name-item.is in
    let at = item ∙ ap Some (sym c.as_str.ensures) in
    record {
      grows = Grows-trans old mid new g c.in_ok-add_written.ensures.grows;
      adds = adds_as old new c.args.all.now.items c.add_written.new.all.items _ (written_after old spell xs c.args.names.now (take (i + 1) order))
          (written_more old mid g xs c.requires st order i x at c.args.names.now c.loop-name.invariant.names)
          (adds_then old mid new c.args.all.now.items c.loop-name.all.items c.add_written.new.all.items (written_after old spell xs c.args.names.now (take i order)) _ c.loop-name.invariant.adds c.in_ok-add_written.ensures.adds);
      names = standing_more c.args.names.now order i c.name-item.result item c.loop-name.names c.add_standing.new.names (c.in_ok-add_standing.ensures ∙ ap (put_name c.loop-name.names) c.as_str-in-loop-name.ensures) c.loop-name.invariant.names;
    }

pub returns-clause-adds : goal.returns-clause-adds
returns-clause-adds c =
    let d = c.args.types.now in
    adds_as d c.loop-name.types c.args.all.now.items c.loop-name.all.items _ _ (ap (written_after d (spelled_in c.args.placed) c.args.interfaces.now c.args.names.now) (take-all c.args.order.now c.loop-name.name-index c.loop-name-test.false)) c.loop-name.invariant.adds
