use Rattle.std.proofs.Common.{◌≤◌, ◌++◌, ◌∷◌, [], ◌∙◌, ap, arith, length, refl, subst, sym, take}
use Rattle.std.specs.Prelude.{string_bytes}
use Rattle.wac_types_base.specs.declared.item.ItemKind.{ItemKind}
use Rattle.wac_types_base.specs.Entries.{IsNew, Name}
use Rattle.wac_types_base.proofs.Again.{one_more_copied}
use Rattle.wac_types_base.proofs.Loops.{take-all}
use Rattle.wac_types_written.proofs.Loops.{append_assoc, new_behind, place_new}
use Rattle.wac_types_written.proofs.components.add_all.Goals as goal

pub entry-requires : goal.entry-requires
entry-requires c = omega (arith, c.loop-at-test.true, c.len-at-end.ensures.len)

pub push-requires : goal.push-requires
push-requires c =
    let es = c.args.items.now in
    let n = c.entry.result.0.now in
    subst (λ k. IsNew k c.loop-at.all) (sym c.in_ok-from_str.ensures.ok)
    (subst (IsNew n) (sym c.loop-at.invariant)
    (new_behind c.args.all.now es c.loop-at.at n c.entry.result.1.now c.requires c.entry.ensures (place_new es c.loop-at.at n c.entry.result.1.now (take c.loop-at.at es) c.len-at-end.ensures.distinct c.entry.ensures refl)))

pub loop-at-preserved : goal.loop-at-preserved
loop-at-preserved c =
    let es = c.args.items.now in
    let e : Name × ItemKind = (string_bytes c.in_ok-from_str.field-0, c.entry.result.1.now) in
    c.in_ok-push.ensures.ok ∙ ap (λ l. l ++ e ∷ []) c.loop-at.invariant ∙ append_assoc c.args.all.now (take c.loop-at.at es) (e ∷ [])
    ∙ ap (λ l. c.args.all.now ++ l) (one_more_copied es c.loop-at.at c.entry.result.0.now c.entry.result.1.now c.entry.ensures (string_bytes c.in_ok-from_str.field-0) (take c.loop-at.at es) (take c.loop-at.at es ++ e ∷ []) refl c.in_ok-from_str.ensures.ok refl)

pub returns : goal.returns
returns c =
    let whole : length c.args.items.now ≤ c.loop-at.at = omega (arith, c.loop-at-test.false, c.len-at-end.ensures.len) in
    c.loop-at.invariant ∙ ap (λ l. c.args.all.now ++ l) (take-all c.args.items.now c.loop-at.at whole)
