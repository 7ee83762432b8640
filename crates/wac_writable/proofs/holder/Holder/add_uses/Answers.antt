use Rattle.std.proofs.Common.{◌∙◌, arith}
use Rattle.wac_types_parts.specs.Parts.{uses_of as uses_in}
use Rattle.wac_types_parts.proofs.PartsStated.{uses_are}
use Rattle.wac_writable.proofs.UnnamedLaws.{no_gap}
use Rattle.wac_writable.proofs.HolderLaws.{filled_first, filled_at, filled_all}
use Rattle.wac_writable.proofs.holder.Holder.add_uses.Goals.{in-Some+in_ok-add_use, in_default}
use Rattle.wac_writable.proofs.holder.Holder.add_uses.Goals as goal

pub loop-at-init : goal.loop-at-init
loop-at-init c = filled_first c.args.types.now c.see_acyclic.ensures c.args.self.now (uses_in c.args.types.now c.args.id) c.requires

pub loop-at-preserved : goal.loop-at-preserved
loop-at-preserved c = elim c.match-use_at.branch [
  | in-Some+in_ok-add_use w ↦
      filled_at c.args.types.now c.see_acyclic.ensures (uses_in c.args.types.now c.args.id) c.loop-at.at w.in-Some.used c.loop-at.self c.match-use_at.self c.use_count-at-end.ensures.distinct w.in-Some.ensures.entry c.loop-at.invariant
      (w.self-is ∙ w.in_ok-add_use.ensures)
  | in_default w ↦ absurd (no_gap (uses_in c.args.types.now c.args.id) c.loop-at.at c.use_count-at-end.result c.loop-at-test.true c.use_count-at-end.ensures.len w.in_default.ensures.none)
]

pub returns : goal.returns
returns c =
    filled_all c.args.types.now c.see_acyclic.ensures (uses_in c.args.types.now c.args.id) c.loop-at.at c.loop-at.self _ (let l = c.use_count-at-end.ensures.len in omega (arith, l, c.loop-at-test.false)) (uses_are c.args.types.now c.see_acyclic.ensures c.args.id) c.loop-at.invariant
