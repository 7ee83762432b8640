use Rattle.std.proofs.Common.{sym, ◌∙◌}
use Rattle.std.proofs.lemmas.Result.{IfOk-weaker}
use Rattle.wac_types_base.specs.Stated.{stated_of}
use Rattle.wac_writable.proofs.HolderLaws.{gives_some, gives_none, value_stands}
use Rattle.wac_writable.proofs.holder.Holder.gives.Goals as goal

pub returns-in-Some : goal.returns-in-Some
returns-in-Some c = IfOk-weaker c.is_same_item.result _ _ (λ y f s h w. f (value_stands c.args.types.now c.args.self.now h c.args.item.name.now c.in-Some.used.now w (sym c.in-Some.ensures)) s ∙ sym (gives_some c.args.types.now c.args.self.now h c.args.item.name.now c.in-Some.used.now (stated_of c.args.types.now c.args.item.kind) w (sym c.in-Some.ensures))) c.is_same_item.ensures

pub returns-in-None : goal.returns-in-None
returns-in-None c s h w = gives_none c.args.types.now c.args.self.now h c.args.item.name.now (stated_of c.args.types.now c.args.item.kind) w (sym c.in-None.ensures)
