use Rattle.std.proofs.Common.{◌++◌, sym, ap, ◌∙◌}
use Rattle.wac_types_base.specs.Stated.{stated_of}
use Rattle.wac_composition.specs.Circles.{used_inside}
use Rattle.wac_graph_causes.specs.Orders.{import_names_of}
use Rattle.wac_graph_causes.proofs.Orders.{needs_none, needs_there}
use Rattle.wac_graph_causes.proofs.order.needs_of.Goals.{in-Some+in_ok-add_needs, in_default}
use Rattle.wac_graph_causes.proofs.order.needs_of.Goals as goal

pub returns : goal.returns
returns c =
    let s = c.args.sources in
    let n = c.args.name.now in
    elim c.match-get.branch [
      | in-Some+in_ok-add_needs w ↦
          ap (λ v. v.items) w.names-is ∙ w.in_ok-add_needs.ensures
          ∙ ap (λ l. l ++ import_names_of s (used_inside (stated_of s.types.now w.in-Some.kind.now))) c.new-names.ensures.items ∙ needs_there s n w.in-Some.kind.now (sym w.in-Some.ensures)
      | in_default w ↦ ap (λ v. v.items) w.names-is ∙ c.new-names.ensures.items ∙ needs_none s n (sym w.in_default.ensures)
    ]
