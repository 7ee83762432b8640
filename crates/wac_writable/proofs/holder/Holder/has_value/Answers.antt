use Rattle.std.proofs.Common.{sym, ◌∙◌}
use Rattle.wac_types_base.specs.declared.item.ItemKind.{ItemKind}
use Rattle.wac_types_base.specs.Stated.{stated_of}
use Rattle.wac_writable.proofs.HolderLaws.{used_values, item_stands, value_settles, value_leaves}
use Rattle.wac_writable.proofs.holder.Holder.has_value.Goals as goal

pub loop-at-init : goal.loop-at-init
loop-at-init c v h w = used_values c.args.types.now c.args.self.now h (stated_of c.args.types.now (ItemKind.Value c.args.ty)) w

pub returns-then-branch : goal.returns-then-branch
returns-then-branch c v h w =
    value_settles c.args.types.now c.args.self.now.used c.loop-at.at c.entry.result.0.now c.entry.result.1.now (stated_of c.args.types.now (ItemKind.Value c.args.ty)) _ c.entry.ensures (c.loop-at.invariant v h w)
    (sym (c.in_ok-is_value_of.ensures (item_stands c.args.types.now c.args.self.now h c.loop-at.at c.entry.result.0.now c.entry.result.1.now w c.entry.ensures) v) ∙ c.if-branch.true)

pub loop-at-preserved : goal.loop-at-preserved
loop-at-preserved c v h w =
    value_leaves c.args.types.now c.args.self.now.used c.loop-at.at c.entry.result.0.now c.entry.result.1.now (stated_of c.args.types.now (ItemKind.Value c.args.ty)) _ c.entry.ensures (c.loop-at.invariant v h w)
    (sym (c.in_ok-is_value_of.ensures (item_stands c.args.types.now c.args.self.now h c.loop-at.at c.entry.result.0.now c.entry.result.1.now w c.entry.ensures) v) ∙ c.if-branch.false)
