use Rattle.std.proofs.Common.{[], arith, subst}
use Rattle.std.specs.Bool.{Decides}
use Rattle.std.proofs.lemmas.Bool.Decides.{not_from_Decides}
use Rattle.std.proofs.lemmas.Result.{IfOk-weaker}
use Rattle.wac_types_base.specs.declared.item.ItemKind.{ItemKind}
use Rattle.wac_types_base.specs.Collection.{size_of}
use Rattle.wac_types_base.specs.Stated.{uses_of, imports_of, stated_world}
use Rattle.wac_types_base.proofs.Lists.{always}
use Rattle.wac_writable.specs.Uses.{SomeItem, SomeNeeded}
use Rattle.wac_writable.specs.Givers.{givers_by}
use Rattle.wac_writable.proofs.UseLaws.{use_needed, world_needed}
use Rattle.wac_writable.proofs.GiverLaws.{tells_after, knows_none}
use Rattle.wac_writable.proofs.PackageLaws.{no_item}
use Rattle.wac_writable.proofs.writable.uses_of_package_fail.Goals as goal

pub returns-then-branch : goal.returns-then-branch
returns-then-branch c ka =
    let T = c.args.test in
    let x = stated_world T.types.now c.args.id in
    let v = (c.in_ok-world_uses_fail.ensures ka (knows_none T _ c.new-giver.result c.new-giver.ensures.seen c.new-giver.ensures.fine)).0 in
    let is = givers_by T.types.now c.new-giver.result.given_by in
    always (subst (λ w. SomeNeeded T.is_outer (givers_by T.types.now w) (uses_of x) (imports_of x)) c.new-giver.ensures.given_by (use_needed T.is_outer is (uses_of x) (imports_of x) (v.0 c.if-branch.true)))

pub returns : goal.returns
returns c =
    let T = c.args.test in
    let x = stated_world T.types.now c.args.id in
    let n = size_of T.types.now (ItemKind.Component c.args.id) in
    let g = c.new-giver.result in
    IfOk-weaker c.uses_of_imports_fail.result _ _ (λ b f ka.
    let k = knows_none T n g c.new-giver.ensures.seen c.new-giver.ensures.fine in
    let v = c.in_ok-world_uses_fail.ensures ka k in
    let y = tells_after T g c.world_uses_fail.new.giver c.uses_of_imports_fail.new.giver n n (λ is. SomeItem T.is_outer is (imports_of x)) b ka k (omega arith) (v.1 c.if-branch.false) f in
    let is = givers_by T.types.now g.given_by in
    subst (λ w. Decides b (SomeNeeded T.is_outer (givers_by T.types.now w) (uses_of x) (imports_of x))) c.new-giver.ensures.given_by
    (world_needed T.is_outer is (uses_of x) [] (imports_of x) b (not_from_Decides _ v.0 c.if-branch.false) (no_item T.is_outer is) y.0)) c.uses_of_imports_fail.ensures
