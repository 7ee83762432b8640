use Rattle.std.specs.List.{flat_map}
use Rattle.std.proofs.Common.{Bool, List, [], sym, ap, subst, ◌∙◌}
use Rattle.wac_types_base.specs.Record.{Collection}
use Rattle.wac_types_base.specs.Entries.{Name}
use Rattle.wac_types_base.specs.Stated.{Stated}
use Rattle.wac_composition.specs.Circles.{written_package}
use Rattle.wac_graph_causes.specs.declared.late.Late.{Late}
use Rattle.wac_graph_causes.specs.Circling.{packages_in, imported_packages}
use Rattle.wac_graph_causes.specs.Late.{AreLate}
use Rattle.wac_graph_causes.proofs.CircleLaws.{none_late, own_late}
use Rattle.wac_graph_causes.proofs.circles.written_packages.Goals.{then-not-define_components+in_ok-add_packages, else-not-define_components}
use Rattle.wac_graph_causes.proofs.circles.written_packages.Goals as goal

pub returns-clause-late : goal.returns-clause-late
returns-clause-late c =
    let old = c.args.types.now in
    let ps = c.args.packages.now.entries in
    let held : Bool → List (Name × Stated) = λ d. flat_map written_package (imported_packages d c.args.graph.now old ps) in
    let all = flat_map written_package (packages_in c.args.graph.now old ps) in
    elim c.if-not-define_components.branch [
      | then-not-define_components+in_ok-add_packages w ↦
          let new = w.add_packages.new.types in
          let own = w.add_packages.new.all.items in
          subst (λ (t : Collection). AreLate t c.if-not-define_components.all.items (held c.args.define_components)) (sym w.types-is)
          (subst (λ (ls : List Late). AreLate new ls (held c.args.define_components)) (sym (ap (λ v. v.items) w.all-is))
          (subst (AreLate new own) (sym (ap held w.if-not-define_components.true)) (own_late old new own c.new-all.result.items all c.new-all.ensures.items w.in_ok-add_packages.ensures.adds)))
      | else-not-define_components w ↦
          subst (λ (t : Collection). AreLate t c.if-not-define_components.all.items (held c.args.define_components)) (sym w.types-is)
          (subst (λ (ls : List Late). AreLate old ls (held c.args.define_components)) (sym (ap (λ v. v.items) w.all-is ∙ c.new-all.ensures.items))
          (subst (AreLate old []) (sym (ap held w.if-not-define_components.false)) (none_late old)))
    ]
