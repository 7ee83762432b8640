use Rattle.std.proofs.Common.{◌∙◌, arith}
use Rattle.wac_types_parts.specs.Parts.{world_uses_of as world_uses_in}
use Rattle.wac_types_parts.proofs.PartsStated.{world_uses_are}
use Rattle.wac_writable.proofs.UnnamedLaws.{no_gap}
use Rattle.wac_writable.proofs.HolderLaws.{filled_first, filled_at, filled_all}
use Rattle.wac_writable.proofs.holder.Holder.add_world_uses.Goals.{in-Some+in_ok-add_use, in_default}
use Rattle.wac_writable.proofs.holder.Holder.add_world_uses.Goals as goal

pub loop-at-init : goal.loop-at-init
loop-at-init c = filled_first c.args.types.now c.see_acyclic.ensures c.args.self.now (world_uses_in c.args.types.now c.args.id) c.requires

pub loop-at-preserved : goal.loop-at-preserved
loop-at-preserved c = elim c.match-world_use_at.branch [
  | in-Some+in_ok-add_use w ↦
      filled_at c.args.types.now c.see_acyclic.ensures (world_uses_in c.args.types.now c.args.id) c.loop-at.at w.in-Some.used c.loop-at.self c.match-world_use_at.self c.world_use_count-at-end.ensures.distinct w.in-Some.ensures.entry c.loop-at.invariant
      (w.self-is ∙ w.in_ok-add_use.ensures)
  | in_default w ↦ absurd (no_gap (world_uses_in c.args.types.now c.args.id) c.loop-at.at c.world_use_count-at-end.result c.loop-at-test.true c.world_use_count-at-end.ensures.len w.in_default.ensures.none)
]

pub returns : goal.returns
returns c =
    filled_all c.args.types.now c.see_acyclic.ensures (world_uses_in c.args.types.now c.args.id) c.loop-at.at c.loop-at.self _ (let l = c.world_use_count-at-end.ensures.len in omega (arith, l, c.loop-at-test.false)) (world_uses_are c.args.types.now c.see_acyclic.ensures c.args.id) c.loop-at.invariant
