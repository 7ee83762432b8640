use Rattle.std.proofs.Common.{◌≡◌, [], Some, slice_get, sym, ap, subst, ◌∙◌}
use Rattle.std.proofs.lemmas.Result.{err_from_is_err_and}
use Rattle.wac_types_base.proofs.Loops.{get-place}
use Rattle.wac_types_merge.proofs.Listing.{nothing_merged, lent_stands, list_refused, next_merged, next_asked}
use Rattle.wac_types_merge.specs.Lists.{AreAsked, none_asked, none_yet}
use Rattle.wac_types_merge.specs.Imports.{Imports}
use Rattle.wac_types_merge.proofs.aggregator.aggregate_all.Goals as goal

pub loop-name-init : goal.loop-name-init
loop-name-init c = record {
  merged = nothing_merged c.new-all.result (ap (λ (g : Imports). g.kept) c.new-all.ensures);
  number = ap (λ (g : Imports). g.types.number) c.new-all.ensures;
  asked = subst (AreAsked (none_yet c.args.number) []) (sym c.new-all.ensures) none_asked;
}

pub with_ask-requires : goal.with_ask-requires
with_ask-requires c =
    let xs = c.args.asks.now in
    let i = c.loop-name.name-index in
    let x = c.loop-name-item.result in
    lent_stands xs i x (get-place xs i x c.loop-name-test.true c.loop-name-item.is) c.requires

pub returns-in_err-all-clause-refused : goal.returns-in_err-all-clause-refused
returns-in_err-all-clause-refused c =
    let xs = c.args.asks.now in
    let i = c.loop-name.name-index in
    let x = c.loop-name-item.result in
    let p = err_from_is_err_and c.from_residual.result c.from_residual.ensures.1 in
    rw (p.1, p.2)
    (list_refused c.args.number xs i x c.loop-name.all c.in_err-all.field-0.0 (get-place xs i x c.loop-name-test.true c.loop-name-item.is) c.loop-name.invariant.asked c.loop-name.invariant.merged c.in_err-all.ensures.refused c.in_err-all.ensures.frames)

pub loop-name-preserved : goal.loop-name-preserved
loop-name-preserved c =
    let xs = c.args.asks.now in
    let i = c.loop-name.name-index in
    let x = c.loop-name-item.result in
    let at : slice_get xs i ≡ Some x = get-place xs i x c.loop-name-test.true c.loop-name-item.is in
    let is = c.in_ok-all.ensures.asked in
    record {
      merged = next_merged xs i x c.loop-name.all c.in_ok-all.all at c.with_ask.ensures.sound c.in_ok-all.ensures.sound_after c.loop-name.invariant.merged is;
      number = is.grows.number ∙ c.loop-name.invariant.number;
      asked = next_asked c.args.number xs i x c.loop-name.all c.in_ok-all.all at c.loop-name.invariant.asked is;
    }
