use Rattle.std.proofs.Common.{◌∙◌, arith}
use Rattle.wac_types_parts.specs.Parts.{imports_of as imports_in}
use Rattle.wac_types_parts.proofs.PartsStated.{imports_are}
use Rattle.wac_writable.proofs.UnnamedLaws.{no_gap}
use Rattle.wac_writable.proofs.HolderLaws.{adds_first, adds_at, adds_all}
use Rattle.wac_writable.proofs.holder.Holder.add_imports.Goals.{in-Some+in_ok-add_fresh, in_default}
use Rattle.wac_writable.proofs.holder.Holder.add_imports.Goals as goal

pub loop-at-init : goal.loop-at-init
loop-at-init c = adds_first c.args.types.now c.args.self.now (imports_in c.args.types.now c.args.id)

pub loop-at-preserved : goal.loop-at-preserved
loop-at-preserved c = elim c.match-import_at.branch [
  | in-Some+in_ok-add_fresh w ↦
      adds_at c.args.types.now c.args.self.now c.loop-at.self c.match-import_at.self (imports_in c.args.types.now c.args.id) c.loop-at.at w.in-Some.item.name.now w.in-Some.item.kind w.in-Some.ensures.entry c.loop-at.invariant
      (w.self-is ∙ w.in_ok-add_fresh.ensures)
  | in_default w ↦ absurd (no_gap (imports_in c.args.types.now c.args.id) c.loop-at.at c.import_count-at-end.result c.loop-at-test.true c.import_count-at-end.ensures.len w.in_default.ensures.none)
]

pub returns : goal.returns
returns c =
    adds_all c.args.types.now c.args.self.now c.loop-at.self (imports_in c.args.types.now c.args.id) c.loop-at.at _ (let l = c.import_count-at-end.ensures.len in omega (arith, l, c.loop-at-test.false)) (imports_are c.args.types.now c.see_acyclic.ensures c.args.id) c.loop-at.invariant
