use Rattle.std.proofs.Common.{inl, refl, sym, ap, ◌∙◌, subst, arith}
use Rattle.std.specs.List.{list_any}
use Rattle.wac_types_base.proofs.Loops.{take-all}
use Rattle.wac_types_parts.specs.Parts.{imports_of as imports_in}
use Rattle.wac_writable.specs.Holders.{Keeps}
use Rattle.wac_writable.specs.Tests.{import_unwritable}
use Rattle.wac_writable.proofs.UnnamedLaws.{no_gap}
use Rattle.wac_writable.proofs.ValueLaws.{keeps_on}
use Rattle.wac_writable.proofs.RootLaws.{none_taken, none_next}
use Rattle.wac_writable.proofs.writable.first_that_fails.Goals.{in-Some+in_ok-item_fails+else-branch, in_default}
use Rattle.wac_writable.proofs.writable.first_that_fails.Goals as goal

pub loop-at-init : goal.loop-at-init
loop-at-init c = (λ d o h w. w, λ ka h w. none_taken (import_unwritable c.args.test h) (imports_in c.args.test.types.now c.args.world))

pub returns-then-branch : goal.returns-then-branch
returns-then-branch c ka h w =
    let C = c.args.test.types.now in (
      (c.in-Some.item.name.now, c.in-Some.item.kind),
      c.in-Some.ensures.entry,
      sym (c.in_ok-item_fails.ensures.fails ka c.in-Some.ensures.inside.0 h (c.loop-at.invariant.0 C (inl refl) h w)) ∙ c.if-branch.true,
      c.loop-at.invariant.1 ka h w,
    )

pub loop-at-preserved : goal.loop-at-preserved
loop-at-preserved c = elim c.match-import_at.branch [
  | in-Some+in_ok-item_fails+else-branch b ↦
      let C = c.args.test.types.now in (
        subst (Keeps C c.args.holder.now) (sym b.holder-is) (keeps_on C c.args.holder.now c.loop-at.holder b.item_fails.new.holder c.loop-at.invariant.0 b.in_ok-item_fails.ensures.keeps),
        λ ka h w. none_next (import_unwritable c.args.test h) (imports_in C c.args.world) c.loop-at.at (b.in-Some.item.name.now, b.in-Some.item.kind) b.in-Some.ensures.entry (c.loop-at.invariant.1 ka h w)
            (sym (b.in_ok-item_fails.ensures.fails ka b.in-Some.ensures.inside.0 h (c.loop-at.invariant.0 C (inl refl) h w)) ∙ b.if-branch.false),
      )
  | in_default b ↦ absurd (no_gap (imports_in c.args.test.types.now c.args.world) c.loop-at.at c.import_count-at-end.result c.loop-at-test.true c.import_count-at-end.ensures.len b.in_default.ensures.none)
]

pub returns : goal.returns
returns c ka h w =
    let C = c.args.test.types.now in
    let l = c.import_count-at-end.ensures.len in
    ap (list_any (import_unwritable c.args.test h)) (sym (take-all (imports_in C c.args.world) c.loop-at.at (omega (arith, l, c.loop-at-test.false)))) ∙ c.loop-at.invariant.1 ka h w
