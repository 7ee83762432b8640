use Rattle.std.proofs.Common.{ap, ◌∙◌}
use Rattle.wac_graph_scopes.specs.Forms.{value_or}
use Rattle.wac_graph_scopes.proofs.EntryLaws.{params_next}
use Rattle.wac_graph_scopes.proofs.entry.params_with.Goals as goal

pub loop-at-preserved : goal.loop-at-preserved
loop-at-preserved c =
    params_next c.args.names.now c.loop-at.at c.index-names-at.result c.loop-at-test.true c.index-names-at.is c.args.places.now c.loop-at.all.items c.push.new.self.items _
    (c.in_ok-name.ensures.ok ∙ c.as_str.ensures.value) (c.value_or-ty.ensures ∙ ap value_or c.place_at.ensures) c.in_ok-push.ensures.items c.loop-at.invariant
