use Rattle.std.proofs.Common.{◌≡◌, ◌<◌, ◌∙◌, length, slice_get, Some, sym, arith}
use Rattle.std.specs.Prelude.{string_bytes}
use Rattle.wac_types_base.proofs.PairNames.{pair-place}
use Rattle.wac_types_fit.proofs.CoreItems.{import_found, import_passed}
use Rattle.wac_types_fit.proofs.core_items.import_of.Goals as goal

pub returns-then-is_named : goal.returns-then-is_named
returns-then-is_named c =
    let es = c.args.imports.now in
    let t = c.index-names-at.result in
    let x = c.index-values-at.result in
    let within : c.loop-at.at < length es = omega (arith, c.loop-at-test.true, c.len-at-end.ensures.len) in
    let place : slice_get es c.loop-at.at ≡ Some ((string_bytes t.0, string_bytes t.1), x) = pair-place es c.names.result.now c.values.result.now c.loop-at.at t x c.names.ensures c.values.ensures within c.index-names-at.is c.index-values-at.is in
    sym (c.loop-at.invariant ∙ import_found es (c.args.from.now, c.args.name.now) (string_bytes t.0, string_bytes t.1) c.loop-at.at x place (sym c.is_named.ensures ∙ c.if-is_named.true))

pub loop-at-preserved : goal.loop-at-preserved
loop-at-preserved c =
    let es = c.args.imports.now in
    let t = c.index-names-at.result in
    let x = c.index-values-at.result in
    let within : c.loop-at.at < length es = omega (arith, c.loop-at-test.true, c.len-at-end.ensures.len) in
    let place : slice_get es c.loop-at.at ≡ Some ((string_bytes t.0, string_bytes t.1), x) = pair-place es c.names.result.now c.values.result.now c.loop-at.at t x c.names.ensures c.values.ensures within c.index-names-at.is c.index-values-at.is in
    c.loop-at.invariant ∙ import_passed es (c.args.from.now, c.args.name.now) (string_bytes t.0, string_bytes t.1) c.loop-at.at x place (sym c.is_named.ensures ∙ c.if-is_named.false)
