use Rattle.std.proofs.Common.{◌+◌, ◌||◌, ◌++◌, false, true≢false, inl, inr, refl, sym, ap, ◌∙◌, subst, arith}
use Rattle.std.specs.Bool.{Decides}
use Rattle.std.proofs.lemmas.Bool.Decides.{Decides-at, not_from_Decides}
use Rattle.std.proofs.lemmas.Result.{IfOk-weaker}
use Rattle.wac_types_base.specs.declared.item.ItemKind.{ItemKind}
use Rattle.wac_types_base.specs.Collection.{size_of}
use Rattle.wac_types_base.specs.Stated.{stated_of, uses_of, imports_of, exports_of, stated_world}
use Rattle.wac_composition.specs.NotWritten.{component_holder, unnamed_use}
use Rattle.wac_types_parts.specs.Parts.{exports_of as exports_in, uses_of as uses_in, world_uses_of as world_uses_in, imports_of as imports_in, world_exports_of as world_exports_in}
use Rattle.wac_writable.specs.Holders.{Keeps}
use Rattle.wac_writable.specs.Items.{item_unwritable}
use Rattle.wac_writable.specs.Tests.{used_of, ungiven_unwritable, tested_unwritable, exports_unwritable, some_ungiven, some_unwritable}
use Rattle.wac_writable.specs.Uses.{AddedFails, NeededBy, FailsAt, SomeUse, SomeItem}
use Rattle.wac_writable.specs.Givers.{instance_of, givers_by, NeedsFailing, WorldNeeds}
use Rattle.wac_types_parts.proofs.PartsStated.{uses_are, exports_are, identifier_is, world_uses_are, imports_are, world_exports_are}
use Rattle.wac_writable.proofs.UnnamedLaws.{no_gap}
use Rattle.wac_writable.proofs.HolderLaws.{filled_holds}
use Rattle.wac_writable.proofs.ItemLaws.{if_ok_all}
use Rattle.wac_writable.proofs.ValueLaws.{keeps_on}
use Rattle.wac_writable.proofs.InterfaceLaws.{item_settles, item_leaves, interface_item, has_parts, has_none}
use Rattle.wac_writable.proofs.TypesLaws.{types_decide}
use Rattle.wac_writable.proofs.UseLaws.{tells_no, none_first, ItemNeeds, needed_decides, items_passed, use_needed, item_needed, item_left, world_needed, use_of_parts, item_of_parts, none_of_parts}
use Rattle.wac_types_base.proofs.Lists.{always}
use Rattle.wac_writable.proofs.GiverLaws.{was_there, goes_nowhere, knows_after, tells_after, beside_yes, beside_no, found_fine, types_added, goes_fine, unnamed_passes, imported_passes, by_types, seen_before, knows_new, goes_new, goes_seen, knows_none}
use Rattle.wac_writable.proofs.WalkLaws.{UsesPassed, ItemsPassed, uses_start, use_fails_here, use_passes_here, uses_end, items_start, item_fails_here, item_passes_here, items_end}
use Rattle.wac_writable.proofs.WorldLaws.{needed_fails, items_left, world_items_decide, world_item}
use Rattle.wac_writable.proofs.writable.+items.Goals.{exports_fail-in-Some+in_ok-tested_fails+else-branch, exports_fail-in_default, imports_fail-in-Some+in_ok-ungiven_fails+else-branch, imports_fail-in_default, world_exports_fail-in-Some+in_ok-item_fails+else-branch, world_exports_fail-in_default}
use Rattle.wac_writable.proofs.writable.+items.Goals.{direct_fails-in-Some+in_ok-use_fails+else-branch, direct_fails-in_default, world_uses_fail-in-Some+in_ok-use_fails+else-branch, world_uses_fail-in_default, uses_fail-in-Some-export_at+in_ok-uses_fail+else-branch-2, uses_fail-in_default-export_at}
use Rattle.wac_writable.proofs.writable.+items.Goals.{uses_of_imports_fail-in-Some+in_ok-uses_fail+else-branch, uses_of_imports_fail-in_default, uses_of_exports_fail-in-Some+in_ok-uses_fail+else-branch, uses_of_exports_fail-in_default}
use Rattle.wac_writable.proofs.writable.+items.Goals as goal

-- ---- items of an interface

pub exports_fail-returns-then-branch : goal.exports_fail-returns-then-branch
exports_fail-returns-then-branch t c ka h w =
    let C = c.args.test.types.now in
    item_settles (tested_unwritable C c.args.test.is_outer c.args.which h) (exports_in C c.args.id) c.loop-at.at (c.in-Some.item.name.now, c.in-Some.item.kind) (exports_unwritable C c.args.test.is_outer c.args.which c.args.id h) c.in-Some.ensures.entry (c.loop-at.invariant.1 ka h w)
    (sym (c.in_ok-tested_fails.ensures.fails ka c.in-Some.ensures.inside.0 h (c.loop-at.invariant.0 C (inl refl) h w)) ∙ c.if-branch.true)

pub exports_fail-loop-at-preserved : goal.exports_fail-loop-at-preserved
exports_fail-loop-at-preserved t c = elim c.match-export_at.branch [
  | exports_fail-in-Some+in_ok-tested_fails+else-branch b ↦
      let C = c.args.test.types.now in (
        subst (Keeps C c.args.holder.now) (sym b.holder-is) (keeps_on C c.args.holder.now c.loop-at.holder b.tested_fails.new.holder c.loop-at.invariant.0 b.in_ok-tested_fails.ensures.keeps),
        λ ka h w. item_leaves (tested_unwritable C c.args.test.is_outer c.args.which h) (exports_in C c.args.id) c.loop-at.at (b.in-Some.item.name.now, b.in-Some.item.kind) (exports_unwritable C c.args.test.is_outer c.args.which c.args.id h) b.in-Some.ensures.entry (c.loop-at.invariant.1 ka h w)
            (sym (b.in_ok-tested_fails.ensures.fails ka b.in-Some.ensures.inside.0 h (c.loop-at.invariant.0 C (inl refl) h w)) ∙ b.if-branch.false),
      )
  | exports_fail-in_default b ↦ absurd (no_gap (exports_in c.args.test.types.now c.args.id) c.loop-at.at c.export_count-at-end.result c.loop-at-test.true c.export_count-at-end.ensures.len b.in_default.ensures.none)
]

pub item_fails-returns-in-Some-clause-fails : goal.item_fails-returns-in-Some-clause-fails
item_fails-returns-in-Some-clause-fails t c =
    let C = c.args.test.types.now in
    IfOk-weaker c.interface_fails.result _ _ (λ b f ka s h w. f ka
    ∙ interface_item C c.see_acyclic.ensures c.args.test.is_outer c.args.item.kind c.in-Some.id c.args.item.name.now h c.in-Some.ensures.kind s) c.interface_fails.ensures

pub item_fails-returns-in-Some-clause-simple : goal.item_fails-returns-in-Some-clause-simple
item_fails-returns-in-Some-clause-simple t c = if_ok_all c.interface_fails.result (λ b i. absurd (i.no_interface c.in-Some.id c.in-Some.ensures.kind))

pub item_fails-returns-in-Some-world_of-clause-simple : goal.item_fails-returns-in-Some-world_of-clause-simple
item_fails-returns-in-Some-world_of-clause-simple t c = if_ok_all c.world_fails.result (λ b i. absurd (i.no_world c.in-Some-world_of.id c.in-Some-world_of.ensures.kind))

pub item_fails-returns-in-Some-world_of-clause-fails : goal.item_fails-returns-in-Some-world_of-clause-fails
item_fails-returns-in-Some-world_of-clause-fails t c =
    let C = c.args.test.types.now in
    IfOk-weaker c.world_fails.result _ _ (λ b f ka s h w.
    world_item C c.see_acyclic.ensures c.args.test.is_outer c.args.item.kind c.in-Some-world_of.id c.args.item.name.now h b c.in-Some-world_of.ensures.kind s (f ka)) c.world_fails.ensures

-- ---- a used interface

pub types_fail-returns-then-test : goal.types_fail-returns-then-test
types_fail-returns-then-test t c =
    beside_yes c.args.test c.args.giver.now c.args.giver.now 0 (λ is. AddedFails c.args.test.is_outer (instance_of c.args.test.types.now c.args.id)) (λ ka k. inl c.if-test.true)

pub types_fail-returns-then-contains : goal.types_fail-returns-then-contains
types_fail-returns-then-contains t c ka k = (
  found_fine c.args.test c.args.id c.args.giver.now c.if-test.false k (sym c.contains.ensures ∙ c.if-contains.true),
  λ e. goes_nowhere c.args.test 0 c.args.giver.now k,
)

pub types_fail-returns-then-branch : goal.types_fail-returns-then-branch
types_fail-returns-then-branch t c =
    let C = c.args.test.types.now in
    let o = c.args.test.is_outer in
    beside_yes c.args.test c.args.giver.now c.args.giver.now 0 (λ is. AddedFails o (instance_of C c.args.id))
    (λ ka k. inr ((types_decide C c.see_acyclic.ensures o c.args.id).0 (sym (c.in_ok-interface_fails.ensures ka) ∙ c.if-branch.true)))

pub types_fail-returns : goal.types_fail-returns
types_fail-returns t c ka k =
    let C = c.args.test.types.now in
    let o = c.args.test.is_outer in
    let n = not_from_Decides _ (types_decide C c.see_acyclic.ensures o c.args.id) (sym (c.in_ok-interface_fails.ensures ka) ∙ c.if-branch.false) in (
      tells_no (types_added c.args.test c.args.id c.args.giver.now c.if-test.false n),
      λ e. goes_fine c.args.test c.args.id c.args.giver.now (record c.args.giver.now { fine = c.insert.new.self }) k n refl refl c.in_ok-insert.ensures.keys,
    )

-- ---- a use

pub use_itself_fails-returns-in_default : goal.use_itself_fails-returns-in_default
use_itself_fails-returns-in_default t c ka k = (
  tells_no (unnamed_passes c.args.test c.args.used (givers_by c.args.test.types.now c.args.giver.now.given_by) (identifier_is c.args.test.types.now c.see_acyclic.ensures c.args.used.interface ∙ sym c.in_default.ensures)),
  λ e. goes_nowhere c.args.test 0 c.args.giver.now k,
)

pub use_itself_fails-returns-then-branch : goal.use_itself_fails-returns-then-branch
use_itself_fails-returns-then-branch t c ka k = (
  tells_no (imported_passes c.args.test c.args.used (givers_by c.args.test.types.now c.args.giver.now.given_by) c.in-Some.name.now
      (identifier_is c.args.test.types.now c.see_acyclic.ensures c.args.used.interface ∙ sym c.in-Some.ensures) (c.in_ok-gives.ensures.0 c.if-branch.true)),
  λ e. goes_nowhere c.args.test 0 c.args.giver.now k,
)

pub use_itself_fails-returns : goal.use_itself_fails-returns
use_itself_fails-returns t c =
    IfOk-weaker c.types_fail.result _ _ (λ b f ka k.
    let x = f ka k in (
      by_types c.args.test c.args.used (givers_by c.args.test.types.now c.args.giver.now.given_by) c.in-Some.name.now b
          (identifier_is c.args.test.types.now c.see_acyclic.ensures c.args.used.interface ∙ sym c.in-Some.ensures) (not_from_Decides _ c.in_ok-gives.ensures c.if-branch.false) x.0,
      x.1,
    )) c.types_fail.ensures

-- ---- a use, and what its interface needs

pub use_fails-returns-then-branch : goal.use_fails-returns-then-branch
use_fails-returns-then-branch t c =
    let T = c.args.test in
    let C = T.types.now in
    beside_yes T c.args.giver.now c.use_itself_fails.new.giver (size_of C (ItemKind.Instance c.args.used.interface) + 1) (λ is. FailsAt T.is_outer is (used_of C c.args.used))
    (λ ka k. inl ((c.in_ok-use_itself_fails.ensures ka (knows_after T _ 0 c.args.giver.now c.args.giver.now (omega arith) k (goes_nowhere T _ c.args.giver.now k))).0.0 c.if-branch.true))

pub use_fails-returns-then-is_new : goal.use_fails-returns-then-is_new
use_fails-returns-then-is_new t c =
    let T = c.args.test in
    let u = c.args.used in
    let m = c.use_itself_fails.new.giver in
    let d = record m { seen = c.insert.new.self } in
    IfOk-weaker c.uses_fail.result _ _ (λ b f ka k.
    let x = c.in_ok-use_itself_fails.ensures ka (knows_after T _ 0 c.args.giver.now c.args.giver.now (omega arith) k (goes_nowhere T _ c.args.giver.now k)) in
    let g = x.1 c.if-branch.false in
    let y = f ka (knows_new T u c.args.giver.now m k g d refl refl c.in_ok-is_new.ensures.keys) in
    let z = subst (λ w. Decides b (NeedsFailing T w u.interface)) g.given_by y.0 in (
      needed_decides T.is_outer (givers_by T.types.now c.args.giver.now.given_by) (used_of T.types.now u) b (not_from_Decides _ x.0 c.if-branch.false) z,
      λ e. goes_new T u c.args.giver.now m k g d refl refl c.in_ok-is_new.ensures.keys c.uses_fail.new.giver (y.1 e) (not_from_Decides b z e),
    )) c.uses_fail.ensures

pub use_fails-returns-else-is_new : goal.use_fails-returns-else-is_new
use_fails-returns-else-is_new t c ka k =
    let T = c.args.test in
    let u = c.args.used in
    let m = c.use_itself_fails.new.giver in
    let x = c.in_ok-use_itself_fails.ensures ka (knows_after T _ 0 c.args.giver.now c.args.giver.now (omega arith) k (goes_nowhere T _ c.args.giver.now k)) in
    let g = x.1 c.if-branch.false in
    let there = was_there u.interface m.seen.keys c.in_ok-is_new.is_new c.in_ok-is_new.ensures.added c.if-is_new.false in (
      needed_decides T.is_outer (givers_by T.types.now c.args.giver.now.given_by) (used_of T.types.now u) false (not_from_Decides _ x.0 c.if-branch.false) (tells_no (seen_before T u c.args.giver.now m k g there)),
      λ e. goes_seen T u c.args.giver.now m k g (record m { seen = c.insert.new.self }) refl refl c.in_ok-is_new.ensures.keys there,
    )

-- ---- what an interface uses

pub direct_fails-loop-at-init : goal.direct_fails-loop-at-init
direct_fails-loop-at-init t c = uses_start c.args.test c.args.giver.now (size_of c.args.test.types.now (ItemKind.Instance c.args.id)) (uses_in c.args.test.types.now c.args.id)

pub direct_fails-returns-then-branch : goal.direct_fails-returns-then-branch
direct_fails-returns-then-branch t c =
    let C = c.args.test.types.now in
    use_fails_here c.args.test c.args.giver.now (size_of c.args.test.types.now (ItemKind.Instance c.args.id)) c.loop-at.giver c.use_fails.new.giver (uses_in C c.args.id) c.loop-at.at c.in-Some.used c.in-Some.ensures.entry _ c.in-Some.ensures.inside.1 c.loop-at.invariant c.in_ok-use_fails.ensures
    (uses_of (instance_of c.args.test.types.now c.args.id)) (uses_are C c.see_acyclic.ensures c.args.id) (λ is. SomeUse c.args.test.is_outer is (uses_of (instance_of c.args.test.types.now c.args.id))) (λ is s. s) c.if-branch.true

pub direct_fails-loop-at-preserved : goal.direct_fails-loop-at-preserved
direct_fails-loop-at-preserved t c = elim c.match-use_at.branch [
  | direct_fails-in-Some+in_ok-use_fails+else-branch b ↦
      let C = c.args.test.types.now in
      subst (λ g. UsesPassed c.args.test c.args.giver.now g (size_of c.args.test.types.now (ItemKind.Instance c.args.id)) (uses_in C c.args.id) (c.loop-at.at + 1)) (sym b.giver-is)
      (use_passes_here c.args.test c.args.giver.now (size_of c.args.test.types.now (ItemKind.Instance c.args.id)) c.loop-at.giver b.use_fails.new.giver (uses_in C c.args.id) c.loop-at.at b.in-Some.used b.in-Some.ensures.entry _ b.in-Some.ensures.inside.1 c.loop-at.invariant b.in_ok-use_fails.ensures b.if-branch.false)
  | direct_fails-in_default b ↦ absurd (no_gap (uses_in c.args.test.types.now c.args.id) c.loop-at.at c.use_count-at-end.result c.loop-at-test.true c.use_count-at-end.ensures.len b.in_default.ensures.none)
]

pub direct_fails-returns : goal.direct_fails-returns
direct_fails-returns t c =
    let C = c.args.test.types.now in
    let l = c.use_count-at-end.ensures.len in
    uses_end c.args.test c.args.giver.now (size_of c.args.test.types.now (ItemKind.Instance c.args.id)) c.loop-at.giver (uses_in C c.args.id) c.loop-at.at (uses_of (instance_of c.args.test.types.now c.args.id)) (uses_are C c.see_acyclic.ensures c.args.id) (omega (arith, l, c.loop-at-test.false)) c.loop-at.invariant

-- ---- what a world uses

pub world_uses_fail-loop-at-init : goal.world_uses_fail-loop-at-init
world_uses_fail-loop-at-init t c = uses_start c.args.test c.args.giver.now (size_of c.args.test.types.now (ItemKind.Component c.args.id)) (world_uses_in c.args.test.types.now c.args.id)

pub world_uses_fail-returns-then-branch : goal.world_uses_fail-returns-then-branch
world_uses_fail-returns-then-branch t c =
    let C = c.args.test.types.now in
    use_fails_here c.args.test c.args.giver.now (size_of c.args.test.types.now (ItemKind.Component c.args.id)) c.loop-at.giver c.use_fails.new.giver (world_uses_in C c.args.id) c.loop-at.at c.in-Some.used c.in-Some.ensures.entry _ c.in-Some.ensures.inside.1 c.loop-at.invariant c.in_ok-use_fails.ensures
    (uses_of (stated_world c.args.test.types.now c.args.id)) (world_uses_are C c.see_acyclic.ensures c.args.id) (λ is. SomeUse c.args.test.is_outer is (uses_of (stated_world c.args.test.types.now c.args.id))) (λ is s. s) c.if-branch.true

pub world_uses_fail-loop-at-preserved : goal.world_uses_fail-loop-at-preserved
world_uses_fail-loop-at-preserved t c = elim c.match-world_use_at.branch [
  | world_uses_fail-in-Some+in_ok-use_fails+else-branch b ↦
      let C = c.args.test.types.now in
      subst (λ g. UsesPassed c.args.test c.args.giver.now g (size_of c.args.test.types.now (ItemKind.Component c.args.id)) (world_uses_in C c.args.id) (c.loop-at.at + 1)) (sym b.giver-is)
      (use_passes_here c.args.test c.args.giver.now (size_of c.args.test.types.now (ItemKind.Component c.args.id)) c.loop-at.giver b.use_fails.new.giver (world_uses_in C c.args.id) c.loop-at.at b.in-Some.used b.in-Some.ensures.entry _ b.in-Some.ensures.inside.1 c.loop-at.invariant b.in_ok-use_fails.ensures b.if-branch.false)
  | world_uses_fail-in_default b ↦ absurd (no_gap (world_uses_in c.args.test.types.now c.args.id) c.loop-at.at c.world_use_count-at-end.result c.loop-at-test.true c.world_use_count-at-end.ensures.len b.in_default.ensures.none)
]

pub world_uses_fail-returns : goal.world_uses_fail-returns
world_uses_fail-returns t c =
    let C = c.args.test.types.now in
    let l = c.world_use_count-at-end.ensures.len in
    uses_end c.args.test c.args.giver.now (size_of c.args.test.types.now (ItemKind.Component c.args.id)) c.loop-at.giver (world_uses_in C c.args.id) c.loop-at.at (uses_of (stated_world c.args.test.types.now c.args.id)) (world_uses_are C c.see_acyclic.ensures c.args.id) (omega (arith, l, c.loop-at-test.false)) c.loop-at.invariant

-- ---- what its imports need

pub uses_of_imports_fail-loop-at-init : goal.uses_of_imports_fail-loop-at-init
uses_of_imports_fail-loop-at-init t c = items_start c.args.test c.args.giver.now (size_of c.args.test.types.now (ItemKind.Component c.args.id)) (imports_in c.args.test.types.now c.args.id)

pub uses_of_imports_fail-returns-then-branch : goal.uses_of_imports_fail-returns-then-branch
uses_of_imports_fail-returns-then-branch t c =
    let C = c.args.test.types.now in
    item_fails_here c.args.test c.args.giver.now (size_of c.args.test.types.now (ItemKind.Component c.args.id)) c.loop-at.giver c.uses_fail.new.giver (imports_in C c.args.id) c.loop-at.at c.in-Some.item.name.now c.in-Some.item.kind c.in-Some.ensures.entry _ c.in-Some.ensures.inside.1 c.loop-at.invariant c.in_ok-uses_fail.ensures
    (imports_of (stated_world c.args.test.types.now c.args.id)) (imports_are C c.see_acyclic.ensures c.args.id) (λ is. SomeItem c.args.test.is_outer is (imports_of (stated_world c.args.test.types.now c.args.id))) (λ is s. s) c.if-branch.true

pub uses_of_imports_fail-loop-at-preserved : goal.uses_of_imports_fail-loop-at-preserved
uses_of_imports_fail-loop-at-preserved t c = elim c.match-import_at.branch [
  | uses_of_imports_fail-in-Some+in_ok-uses_fail+else-branch b ↦
      let C = c.args.test.types.now in
      subst (λ g. ItemsPassed c.args.test c.args.giver.now g (size_of c.args.test.types.now (ItemKind.Component c.args.id)) (imports_in C c.args.id) (c.loop-at.at + 1)) (sym b.giver-is)
      (item_passes_here c.args.test c.args.giver.now (size_of c.args.test.types.now (ItemKind.Component c.args.id)) c.loop-at.giver b.uses_fail.new.giver (imports_in C c.args.id) c.loop-at.at b.in-Some.item.name.now b.in-Some.item.kind b.in-Some.ensures.entry _ b.in-Some.ensures.inside.1 c.loop-at.invariant b.in_ok-uses_fail.ensures b.if-branch.false)
  | uses_of_imports_fail-in_default b ↦ absurd (no_gap (imports_in c.args.test.types.now c.args.id) c.loop-at.at c.import_count-at-end.result c.loop-at-test.true c.import_count-at-end.ensures.len b.in_default.ensures.none)
]

pub uses_of_imports_fail-returns : goal.uses_of_imports_fail-returns
uses_of_imports_fail-returns t c =
    let C = c.args.test.types.now in
    let l = c.import_count-at-end.ensures.len in
    items_end c.args.test c.args.giver.now (size_of c.args.test.types.now (ItemKind.Component c.args.id)) c.loop-at.giver (imports_in C c.args.id) c.loop-at.at (imports_of (stated_world c.args.test.types.now c.args.id)) (imports_are C c.see_acyclic.ensures c.args.id) (omega (arith, l, c.loop-at-test.false)) c.loop-at.invariant

-- ---- what its exports need

pub uses_of_exports_fail-loop-at-init : goal.uses_of_exports_fail-loop-at-init
uses_of_exports_fail-loop-at-init t c = items_start c.args.test c.args.giver.now (size_of c.args.test.types.now (ItemKind.Component c.args.id)) (world_exports_in c.args.test.types.now c.args.id)

pub uses_of_exports_fail-returns-then-branch : goal.uses_of_exports_fail-returns-then-branch
uses_of_exports_fail-returns-then-branch t c =
    let C = c.args.test.types.now in
    item_fails_here c.args.test c.args.giver.now (size_of c.args.test.types.now (ItemKind.Component c.args.id)) c.loop-at.giver c.uses_fail.new.giver (world_exports_in C c.args.id) c.loop-at.at c.in-Some.item.name.now c.in-Some.item.kind c.in-Some.ensures.entry _ c.in-Some.ensures.inside.1 c.loop-at.invariant c.in_ok-uses_fail.ensures
    (exports_of (stated_world c.args.test.types.now c.args.id)) (world_exports_are C c.see_acyclic.ensures c.args.id) (λ is. SomeItem c.args.test.is_outer is (exports_of (stated_world c.args.test.types.now c.args.id))) (λ is s. s) c.if-branch.true

pub uses_of_exports_fail-loop-at-preserved : goal.uses_of_exports_fail-loop-at-preserved
uses_of_exports_fail-loop-at-preserved t c = elim c.match-world_export_at.branch [
  | uses_of_exports_fail-in-Some+in_ok-uses_fail+else-branch b ↦
      let C = c.args.test.types.now in
      subst (λ g. ItemsPassed c.args.test c.args.giver.now g (size_of c.args.test.types.now (ItemKind.Component c.args.id)) (world_exports_in C c.args.id) (c.loop-at.at + 1)) (sym b.giver-is)
      (item_passes_here c.args.test c.args.giver.now (size_of c.args.test.types.now (ItemKind.Component c.args.id)) c.loop-at.giver b.uses_fail.new.giver (world_exports_in C c.args.id) c.loop-at.at b.in-Some.item.name.now b.in-Some.item.kind b.in-Some.ensures.entry _ b.in-Some.ensures.inside.1 c.loop-at.invariant b.in_ok-uses_fail.ensures b.if-branch.false)
  | uses_of_exports_fail-in_default b ↦ absurd (no_gap (world_exports_in c.args.test.types.now c.args.id) c.loop-at.at c.world_export_count-at-end.result c.loop-at-test.true c.world_export_count-at-end.ensures.len b.in_default.ensures.none)
]

pub uses_of_exports_fail-returns : goal.uses_of_exports_fail-returns
uses_of_exports_fail-returns t c =
    let C = c.args.test.types.now in
    let l = c.world_export_count-at-end.ensures.len in
    items_end c.args.test c.args.giver.now (size_of c.args.test.types.now (ItemKind.Component c.args.id)) c.loop-at.giver (world_exports_in C c.args.id) c.loop-at.at (exports_of (stated_world c.args.test.types.now c.args.id)) (world_exports_are C c.see_acyclic.ensures c.args.id) (omega (arith, l, c.loop-at-test.false)) c.loop-at.invariant

-- ---- what an item needs

pub uses_fail-returns-in_default : goal.uses_fail-returns-in_default
uses_fail-returns-in_default t c =
    let T = c.args.test in
    beside_no T c.args.giver.now c.args.giver.now (size_of T.types.now c.args.kind) (λ is. NeededBy T.is_outer is (stated_of T.types.now c.args.kind))
    (λ ka k. (goes_nowhere T _ c.args.giver.now k, λ p. true≢false (sym p.0 ∙ has_none T.types.now c.see_acyclic.ensures c.args.kind c.in_default.ensures.none)))

pub uses_fail-returns-then-branch : goal.uses_fail-returns-then-branch
uses_fail-returns-then-branch t c =
    let T = c.args.test in
    let C = T.types.now in
    let p = has_parts C c.see_acyclic.ensures c.args.kind c.in-Some.id c.in-Some.ensures.kind c.in-Some.ensures.stands in
    let same = c.in-Some.ensures.size in
    beside_yes T c.args.giver.now c.direct_fails.new.giver (size_of C c.args.kind) (λ is. NeededBy T.is_outer is (stated_of C c.args.kind))
    (λ ka k. use_of_parts T.is_outer _ C c.args.kind c.in-Some.id p ((c.in_ok-direct_fails.ensures ka (knows_after T _ _ c.args.giver.now c.args.giver.now (omega (arith, same)) k (goes_nowhere T _ c.args.giver.now k))).0.0 c.if-branch.true))

pub uses_fail-loop-at-init : goal.uses_fail-loop-at-init
uses_fail-loop-at-init t c ka k =
    let T = c.args.test in
    let same = c.in-Some.ensures.size in
    let x = c.in_ok-direct_fails.ensures ka (knows_after T _ _ c.args.giver.now c.args.giver.now (omega (arith, same)) k (goes_nowhere T _ c.args.giver.now k)) in
    (x.1 c.if-branch.false, none_first (ItemNeeds T.is_outer _ T.types.now) (exports_in T.types.now c.in-Some.id))

pub uses_fail-returns-then-branch-2 : goal.uses_fail-returns-then-branch-2
uses_fail-returns-then-branch-2 t c =
    let T = c.args.test in
    let C = T.types.now in
    let p = has_parts C c.see_acyclic.ensures c.args.kind c.in-Some.id c.in-Some.ensures.kind c.in-Some.ensures.stands in
    let same = c.in-Some.ensures.size in
    let less = c.in-Some-export_at.ensures.inside.1 in
    item_fails_here T c.args.giver.now (size_of C c.args.kind) c.loop-at.giver c.uses_fail.new.giver (exports_in C c.in-Some.id) c.loop-at.at c.in-Some-export_at.item.name.now c.in-Some-export_at.item.kind c.in-Some-export_at.ensures.entry _ (omega (arith, same, less)) c.loop-at.invariant c.in_ok-uses_fail.ensures
    (exports_of (instance_of C c.in-Some.id)) (exports_are C c.see_acyclic.ensures c.in-Some.id) (λ is. NeededBy T.is_outer is (stated_of C c.args.kind)) (λ is. item_of_parts T.is_outer is C c.args.kind c.in-Some.id p) c.if-branch-2.true

pub uses_fail-loop-at-preserved : goal.uses_fail-loop-at-preserved
uses_fail-loop-at-preserved t c = elim c.match-export_at.branch [
  | uses_fail-in-Some-export_at+in_ok-uses_fail+else-branch-2 b ↦
      let T = c.args.test in
      let C = T.types.now in
      let same = c.in-Some.ensures.size in
      let less = b.in-Some-export_at.ensures.inside.1 in
      subst (λ g. ItemsPassed T c.args.giver.now g (size_of C c.args.kind) (exports_in C c.in-Some.id) (c.loop-at.at + 1)) (sym b.giver-is)
      (item_passes_here T c.args.giver.now (size_of C c.args.kind) c.loop-at.giver b.uses_fail.new.giver (exports_in C c.in-Some.id) c.loop-at.at b.in-Some-export_at.item.name.now b.in-Some-export_at.item.kind b.in-Some-export_at.ensures.entry _ (omega (arith, same, less)) c.loop-at.invariant b.in_ok-uses_fail.ensures b.if-branch-2.false)
  | uses_fail-in_default-export_at b ↦ absurd (no_gap (exports_in c.args.test.types.now c.in-Some.id) c.loop-at.at c.export_count-at-end.result c.loop-at-test.true c.export_count-at-end.ensures.len b.in_default-export_at.ensures.none)
]

pub uses_fail-returns : goal.uses_fail-returns
uses_fail-returns t c =
    let T = c.args.test in
    let C = T.types.now in
    let a = c.see_acyclic.ensures in
    let p = has_parts C a c.args.kind c.in-Some.id c.in-Some.ensures.kind c.in-Some.ensures.stands in
    let same = c.in-Some.ensures.size in
    let l = c.export_count-at-end.ensures.len in
    beside_no T c.args.giver.now c.loop-at.giver (size_of C c.args.kind) (λ is. NeededBy T.is_outer is (stated_of C c.args.kind))
    (λ ka k.
    let x = c.in_ok-direct_fails.ensures ka (knows_after T _ _ c.args.giver.now c.args.giver.now (omega (arith, same)) k (goes_nowhere T _ c.args.giver.now k)) in
    let v = c.loop-at.invariant ka k in (
      v.0,
      none_of_parts T.is_outer _ C c.args.kind c.in-Some.id p (not_from_Decides _ x.0 c.if-branch.false)
          (items_passed T.is_outer _ C (exports_in C c.in-Some.id) c.loop-at.at (exports_of (instance_of C c.in-Some.id)) (exports_are C a c.in-Some.id) (omega (arith, l, c.loop-at-test.false)) v.1),
    ))

-- ---- imports of a world

pub imports_fail-returns-then-branch-clause-keeps : goal.imports_fail-returns-then-branch-clause-keeps
imports_fail-returns-then-branch-clause-keeps t c = keeps_on c.args.test.types.now c.args.holder.now c.loop-at.holder c.ungiven_fails.new.holder c.loop-at.invariant.0 c.in_ok-ungiven_fails.ensures.keeps

pub imports_fail-returns-then-branch-clause-fails : goal.imports_fail-returns-then-branch-clause-fails
imports_fail-returns-then-branch-clause-fails t c ka h w =
    let C = c.args.test.types.now in
    item_settles (λ e. ungiven_unwritable C c.args.test.is_outer e h) (imports_in C c.args.id) c.loop-at.at (c.in-Some.item.name.now, c.in-Some.item.kind) (some_ungiven C c.args.test.is_outer h (imports_in C c.args.id)) c.in-Some.ensures.entry (c.loop-at.invariant.1 ka h w)
    (sym (c.in_ok-ungiven_fails.ensures.fails ka c.in-Some.ensures.inside.0 h (c.loop-at.invariant.0 C (inl refl) h w)) ∙ c.if-branch.true)

pub imports_fail-loop-at-preserved : goal.imports_fail-loop-at-preserved
imports_fail-loop-at-preserved t c = elim c.match-import_at.branch [
  | imports_fail-in-Some+in_ok-ungiven_fails+else-branch b ↦
      let C = c.args.test.types.now in (
        subst (Keeps C c.args.holder.now) (sym b.holder-is) (keeps_on C c.args.holder.now c.loop-at.holder b.ungiven_fails.new.holder c.loop-at.invariant.0 b.in_ok-ungiven_fails.ensures.keeps),
        λ ka h w. item_leaves (λ e. ungiven_unwritable C c.args.test.is_outer e h) (imports_in C c.args.id) c.loop-at.at (b.in-Some.item.name.now, b.in-Some.item.kind) (some_ungiven C c.args.test.is_outer h (imports_in C c.args.id)) b.in-Some.ensures.entry (c.loop-at.invariant.1 ka h w)
            (sym (b.in_ok-ungiven_fails.ensures.fails ka b.in-Some.ensures.inside.0 h (c.loop-at.invariant.0 C (inl refl) h w)) ∙ b.if-branch.false),
      )
  | imports_fail-in_default b ↦ absurd (no_gap (imports_in c.args.test.types.now c.args.id) c.loop-at.at c.import_count-at-end.result c.loop-at-test.true c.import_count-at-end.ensures.len b.in_default.ensures.none)
]

-- ---- exports of a world

pub world_exports_fail-returns-then-branch : goal.world_exports_fail-returns-then-branch
world_exports_fail-returns-then-branch t c ka h w =
    let C = c.args.test.types.now in
    item_settles (λ e. item_unwritable C c.args.test.is_outer e.0 e.1 h) (world_exports_in C c.args.id) c.loop-at.at (c.in-Some.item.name.now, c.in-Some.item.kind) (some_unwritable C c.args.test.is_outer h (world_exports_in C c.args.id)) c.in-Some.ensures.entry (c.loop-at.invariant.1 ka h w)
    (sym (c.in_ok-item_fails.ensures.fails ka c.in-Some.ensures.inside.0 h (c.loop-at.invariant.0 C (inl refl) h w)) ∙ c.if-branch.true)

pub world_exports_fail-loop-at-preserved : goal.world_exports_fail-loop-at-preserved
world_exports_fail-loop-at-preserved t c = elim c.match-world_export_at.branch [
  | world_exports_fail-in-Some+in_ok-item_fails+else-branch b ↦
      let C = c.args.test.types.now in (
        subst (Keeps C c.args.holder.now) (sym b.holder-is) (keeps_on C c.args.holder.now c.loop-at.holder b.item_fails.new.holder c.loop-at.invariant.0 b.in_ok-item_fails.ensures.keeps),
        λ ka h w. item_leaves (λ e. item_unwritable C c.args.test.is_outer e.0 e.1 h) (world_exports_in C c.args.id) c.loop-at.at (b.in-Some.item.name.now, b.in-Some.item.kind) (some_unwritable C c.args.test.is_outer h (world_exports_in C c.args.id)) b.in-Some.ensures.entry (c.loop-at.invariant.1 ka h w)
            (sym (b.in_ok-item_fails.ensures.fails ka b.in-Some.ensures.inside.0 h (c.loop-at.invariant.0 C (inl refl) h w)) ∙ b.if-branch.false),
      )
  | world_exports_fail-in_default b ↦ absurd (no_gap (world_exports_in c.args.test.types.now c.args.id) c.loop-at.at c.world_export_count-at-end.result c.loop-at-test.true c.world_export_count-at-end.ensures.len b.in_default.ensures.none)
]

-- ---- all that a world uses and needs

pub all_uses_fail-returns-then-branch : goal.all_uses_fail-returns-then-branch
all_uses_fail-returns-then-branch t c =
    let T = c.args.test in
    let x = stated_world T.types.now c.args.id in
    beside_yes T c.args.giver.now c.world_uses_fail.new.giver (size_of T.types.now (ItemKind.Component c.args.id)) (λ is. WorldNeeds T.is_outer is x)
    (λ ka k. use_needed T.is_outer _ (uses_of x) (imports_of x ++ exports_of x) ((c.in_ok-world_uses_fail.ensures ka k).0.0 c.if-branch.true))

pub all_uses_fail-returns-then-branch-2 : goal.all_uses_fail-returns-then-branch-2
all_uses_fail-returns-then-branch-2 t c =
    let T = c.args.test in
    let x = stated_world T.types.now c.args.id in
    let n = size_of T.types.now (ItemKind.Component c.args.id) in
    beside_yes T c.args.giver.now c.uses_of_imports_fail.new.giver n (λ is. WorldNeeds T.is_outer is x)
    (λ ka k.
    let g = (c.in_ok-world_uses_fail.ensures ka k).1 c.if-branch.false in
    let y = tells_after T c.args.giver.now c.world_uses_fail.new.giver c.uses_of_imports_fail.new.giver n n (λ is. SomeItem T.is_outer is (imports_of x)) _ ka k (omega arith) g c.in_ok-uses_of_imports_fail.ensures in
    item_needed T.is_outer _ (uses_of x) (imports_of x ++ exports_of x) (item_left T.is_outer _ (imports_of x) (exports_of x) (y.0.0 c.if-branch-2.true)))

pub all_uses_fail-returns : goal.all_uses_fail-returns
all_uses_fail-returns t c =
    let T = c.args.test in
    let x = stated_world T.types.now c.args.id in
    let n = size_of T.types.now (ItemKind.Component c.args.id) in
    IfOk-weaker c.uses_of_exports_fail.result _ _ (λ b f ka k.
    let v = c.in_ok-world_uses_fail.ensures ka k in
    let y = tells_after T c.args.giver.now c.world_uses_fail.new.giver c.uses_of_imports_fail.new.giver n n (λ is. SomeItem T.is_outer is (imports_of x)) _ ka k (omega arith) (v.1 c.if-branch.false) c.in_ok-uses_of_imports_fail.ensures in
    let z = tells_after T c.args.giver.now c.uses_of_imports_fail.new.giver c.uses_of_exports_fail.new.giver n n (λ is. SomeItem T.is_outer is (exports_of x)) b ka k (omega arith) (y.1 c.if-branch-2.false) f in
    (world_needed T.is_outer _ (uses_of x) (imports_of x) (exports_of x) b (not_from_Decides _ v.0 c.if-branch.false) (not_from_Decides _ y.0 c.if-branch-2.false) z.0, z.1)) c.uses_of_exports_fail.ensures

pub uses_of_world_fail-returns : goal.uses_of_world_fail-returns
uses_of_world_fail-returns t c =
    let T = c.args.test in
    IfOk-weaker c.all_uses_fail.result _ _ (λ b f ka.
    subst (λ w. Decides b (WorldNeeds T.is_outer (givers_by T.types.now w) (stated_world T.types.now c.args.id))) c.new-giver.ensures.given_by
    (f ka (knows_none T _ c.new-giver.result c.new-giver.ensures.seen c.new-giver.ensures.fine)).0) c.all_uses_fail.ensures

-- ---- all items of a world

pub all_items_fail-returns-then-branch : goal.all_items_fail-returns-then-branch
all_items_fail-returns-then-branch t c ka h w =
    let C = c.args.test.types.now in
    sym (ap (λ b. b || some_unwritable C c.args.test.is_outer h (world_exports_in C c.args.id)) (sym (c.in_ok-imports_fail.ensures.fails ka h w) ∙ c.if-branch.true))

pub all_items_fail-returns : goal.all_items_fail-returns
all_items_fail-returns t c =
    let C = c.args.test.types.now in
    IfOk-weaker c.world_exports_fail.result _ _ (λ b f ka h w. f ka h (c.in_ok-imports_fail.ensures.keeps C (inl refl) h w)
    ∙ sym (ap (λ b. b || some_unwritable C c.args.test.is_outer h (world_exports_in C c.args.id)) (sym (c.in_ok-imports_fail.ensures.fails ka h w) ∙ c.if-branch.false))) c.world_exports_fail.ensures

pub items_of_world_fail-returns : goal.items_of_world_fail-returns
items_of_world_fail-returns t c = IfOk-weaker c.all_items_fail.result _ _ (λ b f ka. f ka (component_holder (stated_world c.args.test.types.now c.args.id)) (filled_holds c.args.test.types.now c.in_ok-holder.holder _ c.in_ok-holder.ensures)) c.all_items_fail.ensures

-- ---- a world

pub world_fails-returns-then-is_found_of_world : goal.world_fails-returns-then-is_found_of_world
world_fails-returns-then-is_found_of_world t c ka = always (unnamed_use (sym (c.is_found_of_world.ensures ka) ∙ c.if-is_found_of_world.true))

pub world_fails-returns-then-branch : goal.world_fails-returns-then-branch
world_fails-returns-then-branch t c ka = always (needed_fails c.args.test.is_outer (stated_world c.args.test.types.now c.args.id) ((c.in_ok-uses_of_world_fail.ensures ka).0 c.if-branch.true))

pub world_fails-returns : goal.world_fails-returns
world_fails-returns t c =
    let T = c.args.test in
    IfOk-weaker c.items_of_world_fail.result _ _ (λ b f ka.
    items_left T.is_outer (stated_world T.types.now c.args.id) b (sym (c.is_found_of_world.ensures ka) ∙ c.if-is_found_of_world.false) (not_from_Decides _ (c.in_ok-uses_of_world_fail.ensures ka) c.if-branch.false)
    (Decides-at b _ (f ka) (world_items_decide T.types.now c.see_acyclic.ensures T.is_outer c.args.id))) c.items_of_world_fail.ensures
