use Rattle.std.proofs.Common.{◌≡◌, ◌≤◌, ◌<◌, [], Some, length, slice_get, subst, arith, string_bytes}
use Rattle.std.proofs.lemmas.List.{take_all}
use Rattle.wac_types_base.proofs.PairNames.{pair-place}
use Rattle.wac_graph_scopes.specs.CoreItems.{AddsCores}
use Rattle.std.proofs.lemmas.Result.{err_from_is_err_and}
use Rattle.std.proofs.lemmas.List.{length-map}
use Rattle.wac_types_base.specs.Entries.{Name, values_of}
use Rattle.wac_graph_scopes.specs.CoreItems.{OneFails}
use Rattle.wac_graph_scopes.proofs.CoreLaws.{imports_next}
use Rattle.wac_graph_scopes.proofs.CoreRefusals.{one_refused, spoken_next, value_place}
use Rattle.wac_graph_scopes.proofs.core_items.ModuleScope.import_all.Goals as goal

pub loop-at-preserved : goal.loop-at-preserved
loop-at-preserved c =
    let es = c.args.imports.now in
    let i = c.loop-at.at in
    let t = c.index-names-at.result in
    let x = c.index-values-at.result in
    let name : Name × Name = (string_bytes t.0, string_bytes t.1) in
    let inside : i < length es = omega (arith, c.loop-at-test.true, c.len-at-end.ensures.len) in
    let place : slice_get es i ≡ Some (name, x) = pair-place es c.names.result.now c.values.result.now i t x c.names.ensures c.values.ensures inside c.index-names-at.is c.index-values-at.is in (
      imports_next c.args.self.now c.loop-at.self c.import.new.self es i (name, x) place c.loop-at.invariant.0 c.in_ok-import.ensures.written,
      spoken_next (values_of es) i x (value_place es i name x place) c.loop-at.invariant.1 c.in_ok-import.ensures.spoken,
    )

pub returns-clause-adds : goal.returns-clause-adds
returns-clause-adds c =
    let end : length c.args.imports.now ≤ c.loop-at.at = omega (arith, c.loop-at-test.false, c.len-at-end.ensures.len) in
    subst (λ l. AddsCores c.args.self.now c.loop-at.self l []) (take_all c.loop-at.at c.args.imports.now end) c.loop-at.invariant.0

pub returns-in_err-import-clause-refused : goal.returns-in_err-import-clause-refused
returns-in_err-import-clause-refused c =
    let p = err_from_is_err_and c.from_residual.result c.from_residual.ensures.1 in
    let es = c.args.imports.now in
    let i = c.loop-at.at in
    let t = c.index-names-at.result in
    let x = c.index-values-at.result in
    let name : Name × Name = (string_bytes t.0, string_bytes t.1) in
    let inside : i < length es = omega (arith, c.loop-at-test.true, c.len-at-end.ensures.len) in
    let place : slice_get es i ≡ Some (name, x) = pair-place es c.names.result.now c.values.result.now i t x c.names.ensures c.values.ensures inside c.index-names-at.is c.index-values-at.is in
    rw (p.1, p.2)
    (one_refused (values_of es) x i c.in_err-import.field-0.0 (value_place es i name x place) c.in_err-import.ensures.refused)

pub returns-clause-spoken : goal.returns-clause-spoken
returns-clause-spoken c =
    let es = c.args.imports.now in
    let end : length (values_of es) ≤ c.loop-at.at = omega (arith, c.loop-at-test.false, c.len-at-end.ensures.len, length-map es (λ y. y.1)) in
    subst (λ l. OneFails l → ⊥) (take_all c.loop-at.at (values_of es) end) c.loop-at.invariant.1
