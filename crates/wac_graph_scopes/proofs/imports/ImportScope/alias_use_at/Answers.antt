use Rattle.std.proofs.Common.{sym, subst}
use Rattle.wac_graph_scopes.specs.ItemRefusals.{RefusedUse}
use Rattle.std.proofs.lemmas.Result.{err_from_is_err_and}
use Rattle.wac_graph_scopes.proofs.PreparedLaws.{use_given, use_kept}
use Rattle.wac_graph_scopes.proofs.imports.ImportScope.alias_use_at.Goals as goal

pub returns-clause-keeps : goal.returns-clause-keeps
returns-clause-keeps c w outer i imported exported h =
    let a = c.in_ok-alias_of.ensures.aliases c.in-Some-taken.ensures.stands c.in-Some-taken.ensures.kind w outer i imported exported h in
    record { goes = a.goes; on = a.on }

pub returns-in_err-alias_of-clause-refused : goal.returns-in_err-alias_of-clause-refused
returns-in_err-alias_of-clause-refused c =
    let u = c.in-Some.used in
    let p = err_from_is_err_and c.from_residual.result c.from_residual.ensures.1 in
    rw (p.1, p.2) (λ un. (c.args.at, u, c.in-Some.ensures.entry, (c.in-Some-taken.item, sym c.in-Some-taken.ensures.value, subst (RefusedUse c.args.all.types.now u) un c.in_err-alias_of.ensures.refused)))

pub returns-clause-kept : goal.returns-clause-kept
returns-clause-kept c = c.in_ok-alias_of.ensures.keeps c.in-Some-taken.ensures.stands c.in-Some-taken.ensures.kind

pub returns-clause-stands : goal.returns-clause-stands
returns-clause-stands c =
    let a = c.args.all in
    let old = c.args.self.now in
    let new = c.alias_of.new.self in
    let made = c.in_ok-alias_of.ensures in
    let u = c.in-Some.used in
    let item = c.in-Some-taken.item in
    use_given a new c.args.id c.args.at u c.in-Some.ensures.entry item (sym c.in-Some-taken.ensures.value)
    (use_kept a old new made.found made.places u item (made.stands c.in-Some-taken.ensures.stands c.in-Some-taken.ensures.kind))
