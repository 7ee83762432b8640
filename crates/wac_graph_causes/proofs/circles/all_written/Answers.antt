use Rattle.std.specs.List.{flat_map}
use Rattle.std.proofs.Common.{subst}
use Rattle.wac_types_base.proofs.Adding.{Grows-trans}
use Rattle.wac_composition.specs.Circles.{written_whole, written_package}
use Rattle.wac_graph_causes.specs.Late.{AreLate}
use Rattle.wac_graph_causes.proofs.CircleLaws.{forms_kept, own_late, unless_kept}
use Rattle.wac_graph_causes.proofs.LateLaws.{late_kept}
use Rattle.wac_graph_causes.proofs.circles.all_written.Goals as goal

pub returns-clause-written : goal.returns-clause-written
returns-clause-written c =
    let old = c.args.types.now in
    let one = c.add_outers.new.types in
    let two = c.add_forms.new.types in
    let new = c.written_packages.new.types in
    let first = c.in_ok-add_outers.ensures.grows in
    let second = c.in_ok-add_forms.ensures.grows in
    let third = c.in_ok-all.ensures.grows in
    record {
      outers = λ asks h. late_kept one new (Grows-trans one two new second third) c.add_outers.new.all.items _ (own_late old one c.add_outers.new.all.items c.new.result.items _ c.new.ensures.items (c.in_ok-add_outers.ensures.adds asks h));
      definitions = late_kept two new third c.add_forms.new.all.items _
          (subst (λ xs. AreLate two c.add_forms.new.all.items (flat_map written_whole xs)) (forms_kept old one first c.args.definitions.now c.requires.copies)
          (own_late one two c.add_forms.new.all.items c.new-2.result.items _ c.new-2.ensures.items c.in_ok-add_forms.ensures.adds));
      packages = subst (λ xs. AreLate new c.in_ok-all.field-0.items (flat_map written_package xs))
          (unless_kept old two (Grows-trans old one two first second) c.args.define_components c.args.graph.now c.args.packages.now.entries c.requires.packages) c.in_ok-all.ensures.late;
    }
