use Rattle.std.proofs.Common.{◌∙◌}
use Rattle.wac_types_base.proofs.Loops.{get-place}
use Rattle.wac_graph_asks.specs.declared.error.OuterError.{OuterError}
use Rattle.wac_graph_asks.specs.Takes.{IfConflict, RefusesAt}
use Rattle.wac_graph_asks.proofs.TakingMore.{again_err, if_conflict, refuses_at, takes_at}
use Rattle.wac_graph_asks.proofs.taken.take.Goals as goal

pub returns-clause-takes : goal.returns-clause-takes
returns-clause-takes c =
    takes_at c.args.types.now c.args.asks.now c.args.at c.args.class c.args.taken.now.entries c.taken_with.new.types c.insert.new.self.entries c.copied-before.result (c.copied-before.ensures ∙ c.get.ensures.value) c.index-asks-at.result
    (get-place c.args.asks.now c.args.at c.index-asks-at.result c.requires c.index-asks-at.is) c.in_ok-after.after c.in_ok-after.ensures.one c.in_ok-insert.ensures.entries

pub returns-in_err-after-clause-refused : goal.returns-in_err-after-clause-refused
returns-in_err-after-clause-refused c =
    again_err c.from_residual.result (λ e. IfConflict e (RefusesAt c.args.types.now c.args.asks.now c.args.at c.args.class c.args.taken.now.entries)) c.in_err-after.field-0.0 c.from_residual.ensures.1
    (if_conflict c.in_err-after.field-0.0 (refuses_at c.args.types.now c.args.asks.now c.args.at c.args.class c.args.taken.now.entries c.copied-before.result (c.copied-before.ensures ∙ c.get.ensures.value) c.index-asks-at.result
    (get-place c.args.asks.now c.args.at c.index-asks-at.result c.requires c.index-asks-at.is)) c.in_err-after.ensures.refused)

pub returns-in_err-insert-clause-refused : goal.returns-in_err-insert-clause-refused
returns-in_err-insert-clause-refused c =
    again_err c.from_residual-in_err-insert.result (λ e. IfConflict e (RefusesAt c.args.types.now c.args.asks.now c.args.at c.args.class c.args.taken.now.entries)) OuterError.Memory c.from_residual-in_err-insert.ensures.1 tt
