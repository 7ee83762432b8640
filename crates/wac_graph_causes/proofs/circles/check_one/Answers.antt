use Rattle.std.proofs.Common.{ap, subst, refl, inl, ◌∙◌}
use Rattle.wac_types_base.specs.Stated.{stated_of}
use Rattle.wac_composition.specs.Conflicts.{late_unwritable}
use Rattle.wac_graph_causes.specs.Unwritable.{TellsName}
use Rattle.wac_graph_causes.proofs.CircleLaws.{one_told}
use Rattle.wac_graph_causes.proofs.FirstCauses.{named_if, tells_named}
use Rattle.wac_graph_causes.proofs.circles.check_one.Goals as goal

pub returns-then-fails-clause-cause : goal.returns-then-fails-clause-cause
returns-then-fails-clause-cause c = λ knows stand.
    let t = c.args.test in
    let l = c.args.one.now in
    let found = c.in_ok-fails.ensures knows (stand l (inl refl)) ∙ ap (λ n. late_unwritable t.is_outer (n, stated_of t.types.now l.item)) c.as_str.ensures in
    tells_named l.name _ c.unwritable.result (one_told t l c.in_ok-fails.fails found ∙ ap (λ b. named_if b l.name) c.if-fails.true) (subst (λ n. TellsName n c.unwritable.result) c.as_str-then-fails.ensures c.unwritable.ensures)

pub returns-clause-none : goal.returns-clause-none
returns-clause-none c = λ knows stand.
    let t = c.args.test in
    let l = c.args.one.now in
    let found = c.in_ok-fails.ensures knows (stand l (inl refl)) ∙ ap (λ n. late_unwritable t.is_outer (n, stated_of t.types.now l.item)) c.as_str.ensures in
    one_told t l c.in_ok-fails.fails found ∙ ap (λ b. named_if b l.name) c.if-fails.false
