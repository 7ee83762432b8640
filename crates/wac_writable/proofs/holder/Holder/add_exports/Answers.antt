use Rattle.std.proofs.Common.{◌∙◌, arith}
use Rattle.wac_types_parts.specs.Parts.{exports_of as exports_in}
use Rattle.wac_types_parts.proofs.PartsStated.{exports_are}
use Rattle.wac_writable.proofs.UnnamedLaws.{no_gap}
use Rattle.wac_writable.proofs.HolderLaws.{adds_first, adds_at, adds_all}
use Rattle.wac_writable.proofs.holder.Holder.add_exports.Goals.{in-Some+in_ok-add_fresh, in_default}
use Rattle.wac_writable.proofs.holder.Holder.add_exports.Goals as goal

pub loop-at-init : goal.loop-at-init
loop-at-init c = adds_first c.args.types.now c.args.self.now (exports_in c.args.types.now c.args.id)

pub loop-at-preserved : goal.loop-at-preserved
loop-at-preserved c = elim c.match-export_at.branch [
  | in-Some+in_ok-add_fresh w ↦
      adds_at c.args.types.now c.args.self.now c.loop-at.self c.match-export_at.self (exports_in c.args.types.now c.args.id) c.loop-at.at w.in-Some.item.name.now w.in-Some.item.kind w.in-Some.ensures.entry c.loop-at.invariant
      (w.self-is ∙ w.in_ok-add_fresh.ensures)
  | in_default w ↦ absurd (no_gap (exports_in c.args.types.now c.args.id) c.loop-at.at c.export_count-at-end.result c.loop-at-test.true c.export_count-at-end.ensures.len w.in_default.ensures.none)
]

pub returns : goal.returns
returns c =
    adds_all c.args.types.now c.args.self.now c.loop-at.self (exports_in c.args.types.now c.args.id) c.loop-at.at _ (let l = c.export_count-at-end.ensures.len in omega (arith, l, c.loop-at-test.false)) (exports_are c.args.types.now c.see_acyclic.ensures c.args.id) c.loop-at.invariant
