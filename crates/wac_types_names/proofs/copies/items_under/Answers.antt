use Rattle.std.proofs.Common.{◌≡◌, ◌++◌, ◌∷◌, [], take, sym, ap, subst, ◌∙◌}
use Rattle.std.specs.Prelude.{string_bytes}
use Rattle.wac_types_base.specs.Entries.{names_of, with_values}
use Rattle.wac_types_base.specs.Graph.{Among}
use Rattle.wac_types_base.specs.Renaming.{kind_under}
use Rattle.wac_types_base.proofs.Loops.{map-one_more, map-take, names-with_values}
use Rattle.wac_types_base.proofs.Again.{name_before}
use Rattle.wac_types_names.proofs.copies.items_under.Goals as goal

pub push-requires : goal.push-requires
push-requires c a =
    let before : names_of c.loop-at.copy ≡ take c.loop-at.at (names_of c.args.items.now) = ap names_of c.loop-at.invariant ∙ names-with_values (kind_under c.args.number) (take c.loop-at.at c.args.items.now) ∙ map-take (λ e. e.0) c.args.items.now c.loop-at.at in
    name_before c.args.items.now c.loop-at.at c.entry.result.0.now c.entry.result.1.now c.entry.ensures (names_of c.loop-at.copy) c.len-at-end.ensures.distinct before
    (subst (λ n. Among n (names_of c.loop-at.copy)) c.in_ok-from_str.ensures.ok a)

pub loop-at-preserved : goal.loop-at-preserved
loop-at-preserved c =
    let f = kind_under c.args.number in
    c.in_ok-push.ensures.ok ∙ ap (λ l. l ++ (string_bytes c.in_ok-from_str.field-0, c.under.result) ∷ []) c.loop-at.invariant
    ∙ ap (λ n. with_values f (take c.loop-at.at c.args.items.now) ++ (n, c.under.result) ∷ []) c.in_ok-from_str.ensures.ok
    ∙ ap (λ k. with_values f (take c.loop-at.at c.args.items.now) ++ (c.entry.result.0.now, k) ∷ []) c.under.ensures
    ∙ sym (map-one_more (λ e. (e.0, f e.1)) c.args.items.now c.loop-at.at (c.entry.result.0.now, c.entry.result.1.now) c.entry.ensures)
