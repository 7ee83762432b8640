use Rattle.std.proofs.Common.{length, ap, sym, ◌∙◌, arith}
use Rattle.wac_writable.specs.Unnamed.{found_of}
use Rattle.wac_writable.proofs.UnnamedLaws.{knows_next, knows_all}
use Rattle.wac_writable.proofs.unnamed.Unnamed.all.Goals as goal

pub loop-index-preserved : goal.loop-index-preserved
loop-index-preserved c =
    let l = c.in_ok-is_used_by.ensures.learns in (
      l.knows,
      knows_next c.args.types.now c.loop-index.index c.loop-index.unnamed c.is_used_by.new.self c.in_ok-is_used_by.field-0 c.loop-index.invariant.1 l
          (ap (λ n. found_of c.is_used_by.new.self (record { collection = n; index = c.loop-index.index })) (sym c.number-collection.ensures) ∙ c.in_ok-is_used_by.ensures.found),
    )

pub returns : goal.returns
returns c = knows_all c.args.types.now c.loop-index.index c.loop-index.unnamed c.loop-index.invariant.0 c.loop-index.invariant.1 (let v = c.len-index-end.ensures in let e = ap (λ l. length l) c.interfaces.ensures in omega (arith, v, e, c.loop-index-test.false, c.loop-index.auto.index-end))
