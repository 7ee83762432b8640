use Rattle.std.proofs.lemmas.Result.{IfOk-weaker}
use Rattle.wac_types_base.specs.declared.item.ItemKind.{ItemKind}
use Rattle.wac_types_base.specs.Stated.{stated_of}
use Rattle.wac_composition.specs.NotWritten.{component_holder}
use Rattle.wac_writable.proofs.HolderLaws.{filled_holds}
use Rattle.wac_writable.proofs.writable.unwritable_outer.Goals as goal

pub returns : goal.returns
returns c = IfOk-weaker c.first_that_fails.result _ _ (λ o f ka. f ka (component_holder (stated_of c.args.test.types.now (ItemKind.Component c.args.world))) (filled_holds c.args.test.types.now c.in_ok-holder.holder _ c.in_ok-holder.ensures)) c.first_that_fails.ensures
