use Rattle.std.proofs.Common.{sym, ◌∙◌}
use Rattle.std.proofs.lemmas.Result.{IfOk-weaker}
use Rattle.wac_types_base.specs.declared.item.ItemKind.{ItemKind}
use Rattle.wac_types_base.specs.Stated.{stated_of}
use Rattle.wac_writable.proofs.ItemLaws.{used_value, value_item_stands, used_no_value}
use Rattle.wac_writable.proofs.holder.is_value_of.Goals as goal

pub returns-in-Some : goal.returns-in-Some
returns-in-Some c = IfOk-weaker c.is_same_item.result _ _ (λ y h s t. h (value_item_stands c.args.types.now c.see_acyclic.ensures c.args.used c.in-Some.value (sym c.in-Some.ensures) s) t ∙ sym (used_value c.args.types.now c.see_acyclic.ensures c.args.used c.in-Some.value c.args.ty (sym c.in-Some.ensures) s)) c.is_same_item.ensures

pub returns-in-None : goal.returns-in-None
returns-in-None c s t = used_no_value c.args.types.now c.see_acyclic.ensures c.args.used (stated_of c.args.types.now (ItemKind.Value c.args.ty)) (sym c.in-None.ensures) s
