use Rattle.std.proofs.Common.{[], subst}
use Rattle.std.specs.Bool.{Decides}
use Rattle.std.proofs.lemmas.Result.{IfOk-weaker}
use Rattle.wac_types_base.specs.declared.item.ItemKind.{ItemKind}
use Rattle.wac_types_base.specs.Collection.{size_of}
use Rattle.wac_types_base.specs.Stated.{exports_of, stated_world}
use Rattle.wac_writable.specs.Uses.{SomeNeeded}
use Rattle.wac_writable.specs.Givers.{givers_by}
use Rattle.wac_writable.proofs.UseLaws.{world_needed}
use Rattle.wac_writable.proofs.GiverLaws.{knows_none}
use Rattle.wac_writable.proofs.PackageLaws.{no_use, no_item}
use Rattle.wac_writable.proofs.writable.uses_of_package_exports_fail.Goals as goal

pub returns : goal.returns
returns c =
    let T = c.args.test in
    let x = stated_world T.types.now c.args.id in
    let g = c.new-giver.result in
    let is = givers_by T.types.now g.given_by in
    IfOk-weaker c.uses_of_exports_fail.result _ _ (λ b f ka.
    subst (λ w. Decides b (SomeNeeded T.is_outer (givers_by T.types.now w) [] (exports_of x))) c.new-giver.ensures.given_by
    (world_needed T.is_outer is [] [] (exports_of x) b (no_use T.is_outer is) (no_item T.is_outer is)
    (f ka (knows_none T (size_of T.types.now (ItemKind.Component c.args.id)) g c.new-giver.ensures.seen c.new-giver.ensures.fine)).0)) c.uses_of_exports_fail.ensures
