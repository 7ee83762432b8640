use Rattle.std.proofs.Common.{◌≤◌, [], length, subst, arith}
use Rattle.std.proofs.lemmas.List.{take_all}
use Rattle.wac_graph_scopes.specs.CoreItems.{AddsCores}
use Rattle.std.proofs.lemmas.Result.{err_from_is_err_and}
use Rattle.std.proofs.lemmas.List.{length-map}
use Rattle.wac_types_base.specs.Entries.{values_of}
use Rattle.wac_graph_scopes.specs.CoreItems.{OneFails}
use Rattle.wac_graph_scopes.proofs.CoreLaws.{exports_next}
use Rattle.wac_graph_scopes.proofs.CoreRefusals.{one_refused, spoken_next, value_place}
use Rattle.wac_graph_scopes.proofs.core_items.ModuleScope.export_all.Goals as goal

pub loop-at-preserved : goal.loop-at-preserved
loop-at-preserved c =
    let es = c.args.exports.now in
    let i = c.loop-at.at in
    let x = c.entry.result.1.now in (
      exports_next c.args.self.now c.loop-at.self c.export.new.self es i (c.entry.result.0.now, x) c.entry.ensures c.loop-at.invariant.0 c.in_ok-export.ensures.written,
      spoken_next (values_of es) i x (value_place es i c.entry.result.0.now x c.entry.ensures) c.loop-at.invariant.1 c.in_ok-export.ensures.spoken,
    )

pub returns-clause-adds : goal.returns-clause-adds
returns-clause-adds c =
    let end : length c.args.exports.now ≤ c.loop-at.at = omega (arith, c.loop-at-test.false, c.len-at-end.ensures.len) in
    subst (λ l. AddsCores c.args.self.now c.loop-at.self [] l) (take_all c.loop-at.at c.args.exports.now end) c.loop-at.invariant.0

pub returns-in_err-export-clause-refused : goal.returns-in_err-export-clause-refused
returns-in_err-export-clause-refused c =
    let p = err_from_is_err_and c.from_residual.result c.from_residual.ensures.1 in
    let es = c.args.exports.now in
    let i = c.loop-at.at in
    let x = c.entry.result.1.now in
    rw (p.1, p.2)
    (one_refused (values_of es) x i c.in_err-export.field-0.0 (value_place es i c.entry.result.0.now x c.entry.ensures) c.in_err-export.ensures.refused)

pub returns-clause-spoken : goal.returns-clause-spoken
returns-clause-spoken c =
    let es = c.args.exports.now in
    let end : length (values_of es) ≤ c.loop-at.at = omega (arith, c.loop-at-test.false, c.len-at-end.ensures.len, length-map es (λ y. y.1)) in
    subst (λ l. OneFails l → ⊥) (take_all c.loop-at.at (values_of es) end) c.loop-at.invariant.1
