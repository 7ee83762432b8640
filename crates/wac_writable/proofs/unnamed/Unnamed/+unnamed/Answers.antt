use Rattle.std.proofs.Common.{◌||◌, sym, ap, ◌∙◌, subst}
use Rattle.wac_types_parts.specs.Parts.{uses_of as uses_in}
use Rattle.wac_writable.specs.Unnamed.{Learns, found_of, uses_unnamed}
use Rattle.wac_writable.proofs.UnnamedLaws.{lacks_identifier, used_by, learns_nothing, learns_more, learns_one, by_rest, use_settles, use_leaves, no_gap}
use Rattle.wac_writable.proofs.unnamed.Unnamed.+unnamed.Goals.{is_used_directly-in-Some+in_ok-is_unnamed+else-branch, is_used_directly-in_default}
use Rattle.wac_writable.proofs.unnamed.Unnamed.+unnamed.Goals as goal

pub is_unnamed-returns-then-is_none-clause-found : goal.is_unnamed-returns-then-is_none-clause-found
is_unnamed-returns-then-is_none-clause-found t c =
    ap (λ b. b || uses_unnamed c.args.types.now c.args.id) (sym c.if-is_none.true ∙ lacks_identifier c.args.types.now c.see_acyclic.ensures c.args.id c.identifier.result c.is_none.result c.identifier.ensures c.is_none.ensures)

pub is_unnamed-returns-clause-found : goal.is_unnamed-returns-clause-found
is_unnamed-returns-clause-found t c =
    by_rest c.args.types.now c.args.self.now c.is_used_by.new.self c.args.id c.is_used_by.result
    (sym c.if-is_none.false ∙ lacks_identifier c.args.types.now c.see_acyclic.ensures c.args.id c.identifier.result c.is_none.result c.identifier.ensures c.is_none.ensures) c.is_used_by.ensures.learns c.is_used_by.ensures.found

pub is_used_by-returns-clause-learns : goal.is_used_by-returns-clause-learns
is_used_by-returns-clause-learns t c =
    learns_one c.args.types.now c.args.self.now c.is_used_directly.new.self c.insert.new.self.entries c.args.id c.in_ok-found.found c.in_ok-found.ensures.learns c.in_ok-found.ensures.found
    (ap (λ l. found_of l c.args.id) (sym c.self.view_is) ∙ sym c.in_default.ensures.value) c.in_ok-insert.ensures.updates.1 (λ j o. c.in_ok-insert.ensures.updates.2 j o ∙ ap (λ l. found_of l j) c.self-2.view_is)

pub is_used_directly-loop-at-init : goal.is_used_directly-loop-at-init
is_used_directly-loop-at-init t c = (learns_nothing c.args.types.now c.args.self.now c.requires, used_by c.args.types.now c.see_acyclic.ensures c.args.id)

pub is_used_directly-returns-then-branch-clause-found : goal.is_used_directly-returns-then-branch-clause-found
is_used_directly-returns-then-branch-clause-found t c =
    use_settles c.args.types.now (uses_in c.args.types.now c.args.id) c.loop-at.at c.in-Some.used c.in-Some.ensures.entry (uses_unnamed c.args.types.now c.args.id) c.loop-at.invariant.1 (sym c.in_ok-is_unnamed.ensures.found ∙ c.if-branch.true)

pub is_used_directly-loop-at-preserved : goal.is_used_directly-loop-at-preserved
is_used_directly-loop-at-preserved t c = elim c.match-use_at.branch [
  | is_used_directly-in-Some+in_ok-is_unnamed+else-branch w ↦ (
    subst (Learns c.args.types.now c.args.self.now) (sym w.self-is) (learns_more c.args.types.now c.args.self.now c.loop-at.self w.is_unnamed.new.self c.loop-at.invariant.0 w.in_ok-is_unnamed.ensures.learns),
    use_leaves c.args.types.now (uses_in c.args.types.now c.args.id) c.loop-at.at w.in-Some.used w.in-Some.ensures.entry (uses_unnamed c.args.types.now c.args.id) c.loop-at.invariant.1 (sym w.in_ok-is_unnamed.ensures.found ∙ w.if-branch.false),
  )
  | is_used_directly-in_default w ↦ absurd (no_gap (uses_in c.args.types.now c.args.id) c.loop-at.at c.use_count-at-end.result c.loop-at-test.true c.use_count-at-end.ensures.len w.in_default.ensures.none)
]
