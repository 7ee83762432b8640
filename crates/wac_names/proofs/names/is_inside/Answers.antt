use Rattle.std.proofs.Common.{sym, ◌∙◌}
use Rattle.std.specs.Prelude.{◌==◌}
use Rattle.std.proofs.lemmas.Bool.{and_from, and_parts}
use Rattle.std.proofs.lemmas.Bool.Decides.{Decides-eqb}
use Rattle.wac_names.proofs.NameKinds.{inside_decides}
use Rattle.wac_names.proofs.names.is_inside.Goals as goal

pub returns-then-last-eq62 : goal.returns-then-last-eq62
returns-then-last-eq62 c =
    let d = inside_decides c.args.text.now c.in-Some.inside.now c.in-Some.last.now c.in-Some.ensures.cases.0 in
    (λ e. d.0 (and_from (c.in-Some.last.now == 62) _ ((Decides-eqb c.in-Some.last.now 62).1 c.if-last-eq62.true) (sym c.is_unbroken.ensures ∙ e)), λ j. c.is_unbroken.ensures ∙ (and_parts (c.in-Some.last.now == 62) _ (d.1 j)).1)
