use Rattle.std.proofs.Common.{sym, ◌∙◌}
use Rattle.wac_types_parts.specs.Parts.{world_uses_of as world_uses_in}
use Rattle.wac_writable.specs.Unnamed.{world_uses_unnamed}
use Rattle.wac_writable.proofs.UnnamedLaws.{used_by_world, use_settles, use_leaves, no_gap}
use Rattle.wac_writable.proofs.unnamed.Unnamed.is_found_of_world.Goals.{in-Some+else-is_found_unnamed, in_default}
use Rattle.wac_writable.proofs.unnamed.Unnamed.is_found_of_world.Goals as goal

pub loop-at-init : goal.loop-at-init
loop-at-init c k = used_by_world c.args.types.now c.see_acyclic.ensures c.args.id

pub returns-then-is_found_unnamed : goal.returns-then-is_found_unnamed
returns-then-is_found_unnamed c k =
    use_settles c.args.types.now (world_uses_in c.args.types.now c.args.id) c.loop-at.at c.in-Some.used c.in-Some.ensures.entry (world_uses_unnamed c.args.types.now c.args.id) (c.loop-at.invariant k) (sym (c.is_found_unnamed.ensures k) ∙ c.if-is_found_unnamed.true)

pub loop-at-preserved : goal.loop-at-preserved
loop-at-preserved c k = elim c.match-world_use_at.branch [
  | in-Some+else-is_found_unnamed w ↦
      use_leaves c.args.types.now (world_uses_in c.args.types.now c.args.id) c.loop-at.at w.in-Some.used w.in-Some.ensures.entry (world_uses_unnamed c.args.types.now c.args.id) (c.loop-at.invariant k)
      (sym (w.is_found_unnamed.ensures k) ∙ w.if-is_found_unnamed.false)
  | in_default w ↦ absurd (no_gap (world_uses_in c.args.types.now c.args.id) c.loop-at.at c.world_use_count-at-end.result c.loop-at-test.true c.world_use_count-at-end.ensures.len w.in_default.ensures.none)
]
