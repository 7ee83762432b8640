use Rattle.std.proofs.Common.{sym, ap, ◌∙◌}
use Rattle.wac_types_base.specs.Entries.{value_at}
use Rattle.std.specs.Option.{option_or}
use Rattle.wac_types_fit.proofs.Reports.{looked_shown}
use Rattle.wac_types_fit.proofs.targets.given_import.Goals as goal

pub returns-in-Some : goal.returns-in-Some
returns-in-Some c =
    let e = sym (looked_shown c.args.name.now c.args.implicit.now.entries) ∙ sym c.get.ensures.value ∙ sym c.copied.ensures ∙ c.in-Some.is in
    sym (ap (λ o. option_or o (value_at c.args.target.now.imports c.args.name.now)) e)

pub returns-in-None : goal.returns-in-None
returns-in-None c =
    let e = sym (looked_shown c.args.name.now c.args.implicit.now.entries) ∙ sym c.get.ensures.value ∙ sym c.copied.ensures ∙ c.in-None.is in
    c.copied-in-None.ensures ∙ c.get-in-None.ensures ∙ sym (ap (λ o. option_or o (value_at c.args.target.now.imports c.args.name.now)) e)
