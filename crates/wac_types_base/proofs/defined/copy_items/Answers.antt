use Rattle.std.specs.Prelude.{string_bytes}
use Rattle.wac_types_base.proofs.Again.{new_in_copy, one_more_copied}
use Rattle.wac_types_base.proofs.defined.copy_items.Goals as goal

pub push-requires : goal.push-requires
push-requires c =
    new_in_copy c.args.items.now c.loop-at.at c.entry.result.0.now c.entry.result.1.now c.entry.ensures (string_bytes c.in_ok-from_str.field-0) c.loop-at.copy c.len-at-end.ensures.distinct c.loop-at.invariant c.in_ok-from_str.ensures.ok

pub loop-at-preserved : goal.loop-at-preserved
loop-at-preserved c =
    one_more_copied c.args.items.now c.loop-at.at c.entry.result.0.now c.entry.result.1.now c.entry.ensures (string_bytes c.in_ok-from_str.field-0) c.loop-at.copy c.push.new.self c.loop-at.invariant c.in_ok-from_str.ensures.ok c.in_ok-push.ensures.ok
