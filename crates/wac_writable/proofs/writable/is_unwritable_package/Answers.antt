use Rattle.std.proofs.Common.{sym, ◌∙◌}
use Rattle.std.proofs.lemmas.Bool.Decides.{Decides-at, not_from_Decides}
use Rattle.std.proofs.lemmas.Result.{IfOk-weaker}
use Rattle.wac_types_base.specs.declared.item.ItemKind.{ItemKind}
use Rattle.wac_types_base.specs.Stated.{stated_world}
use Rattle.wac_types_base.proofs.Lists.{always}
use Rattle.wac_composition.specs.NotWritten.{unnamed_in_package}
use Rattle.wac_types_base.proofs.Telling.{kind_stated}
use Rattle.wac_writable.proofs.WorldLaws.{world_items_decide}
use Rattle.wac_writable.proofs.PackageLaws.{needed_in_package, needed_by_exports, package_left, as_package}
use Rattle.wac_writable.proofs.writable.is_unwritable_package.Goals as goal

pub returns-then-is_found_of_world : goal.returns-then-is_found_of_world
returns-then-is_found_of_world c ka s =
    let T = c.args.test in
    always (record { component = kind_stated T.types.now c.see_acyclic.ensures (ItemKind.Component c.args.world) s; fails = unnamed_in_package (sym (c.is_found_of_world.ensures ka) ∙ c.if-is_found_of_world.true) })

pub returns-then-branch : goal.returns-then-branch
returns-then-branch c ka s =
    let T = c.args.test in
    always (record { component = kind_stated T.types.now c.see_acyclic.ensures (ItemKind.Component c.args.world) s; fails = needed_in_package (stated_world T.types.now c.args.world) T.is_outer c.requires ((c.in_ok-uses_of_package_fail.ensures ka).0 c.if-branch.true) })

pub returns-then-branch-2 : goal.returns-then-branch-2
returns-then-branch-2 c ka s =
    let T = c.args.test in
    always (record { component = kind_stated T.types.now c.see_acyclic.ensures (ItemKind.Component c.args.world) s; fails = needed_by_exports (stated_world T.types.now c.args.world) T.is_outer c.requires ((c.in_ok-uses_of_package_exports_fail.ensures ka).0 c.if-branch-2.true) })

pub returns : goal.returns
returns c =
    let T = c.args.test in
    let x = stated_world T.types.now c.args.world in
    IfOk-weaker c.items_of_world_fail.result _ _ (λ b f ka s.
    as_package x b (kind_stated T.types.now c.see_acyclic.ensures (ItemKind.Component c.args.world) s)
    (package_left x T.is_outer c.requires b (sym (c.is_found_of_world.ensures ka) ∙ c.if-is_found_of_world.false) (not_from_Decides _ (c.in_ok-uses_of_package_fail.ensures ka) c.if-branch.false)
    (not_from_Decides _ (c.in_ok-uses_of_package_exports_fail.ensures ka) c.if-branch-2.false)
    (Decides-at b _ (f ka) (world_items_decide T.types.now c.see_acyclic.ensures T.is_outer c.args.world)))) c.items_of_world_fail.ensures
