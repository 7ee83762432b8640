use Rattle.std.proofs.Common.{◌∙◌}
use Rattle.wac_graph_scopes.proofs.EntryLaws.{cases_next}
use Rattle.wac_graph_scopes.proofs.entry.cases_with.Goals as goal

pub loop-at-preserved : goal.loop-at-preserved
loop-at-preserved c =
    cases_next c.args.names.now c.loop-at.at c.index-names-at.result c.loop-at-test.true c.index-names-at.is c.args.places.now c.loop-at.all.items c.push.new.self.items _
    (c.in_ok-name.ensures.ok ∙ c.as_str.ensures.value) c.place_at-ty.ensures c.in_ok-push.ensures.items c.loop-at.invariant
