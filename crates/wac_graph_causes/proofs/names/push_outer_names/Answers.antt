use Rattle.std.proofs.Common.{ap, ◌∙◌, arith}
use Rattle.wac_types_parts.specs.Parts.{imports_of}
use Rattle.wac_graph_causes.proofs.Dependencies.{outer_next}
use Rattle.wac_graph_causes.proofs.names.push_outer_names.Goals as goal
use Rattle.wac_graph_causes.proofs.names.push_outer_names.Goals.{in-Some+in_ok-push_copy, in_default}

pub loop-at-preserved : goal.loop-at-preserved
loop-at-preserved c =
    elim c.match-import_at.branch [
      | in-Some+in_ok-push_copy w ↦
          outer_next c.args.names.now.items c.loop-at.names.items c.match-import_at.names.items (imports_of c.args.asked.now.types c.args.outers.now.world) c.loop-at.at _ w.in-Some.ensures.entry c.loop-at.invariant
          (ap (λ v. v.items) w.names-is ∙ w.in_ok-push_copy.ensures)
      | in_default w ↦ let all = w.in_default.ensures.none in let count = c.import_count-at-end.ensures.len in absurd (omega (arith, all, count))
    ]
