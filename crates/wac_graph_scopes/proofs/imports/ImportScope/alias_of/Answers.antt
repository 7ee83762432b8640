use Rattle.std.proofs.Common.{◌∷◌, sym, subst}
use Rattle.std.specs.Prelude.{IfSome, IfNone}
use Rattle.std.proofs.lemmas.Result.{IfOk-weaker}
use Rattle.wac_types_fit.specs.Trees.{tree_in}
use Rattle.wac_graph_scopes.specs.Items.{Never, IsTypeItem}
use Rattle.wac_graph_scopes.specs.Used.{IsUsedAs}
use Rattle.wac_graph_scopes.specs.Imports.{IsImportedAs, IsFoundFor}
use Rattle.wac_graph_scopes.proofs.PlaceLaws.{if_none_map}
use Rattle.wac_graph_scopes.proofs.FoundLaws.{found_nowhere}
use Rattle.wac_graph_scopes.proofs.PreparedLaws.{keeps_same, named_stands}
use Rattle.wac_graph_scopes.proofs.imports.ImportScope.alias_of.Goals as goal

pub returns-in-Some-found-clause-aliases : goal.returns-in-Some-found-clause-aliases
returns-in-Some-found-clause-aliases c stands used w outer i imported exported h =
    let types = c.args.all.types.now in
    let ss = h.goes.writing.inside.here ∷ outer in
    record { goes = h.goes; on = h.on; index = subst (λ o. IfSome o (IsTypeItem w ss 0 (tree_in types c.args.item))) c.in-Some-found.is (c.in_ok-found.ensures.reads w ss 0 h.goes.used) }

pub returns-in-None-clause-aliases : goal.returns-in-None-clause-aliases
returns-in-None-clause-aliases c stands used w outer i imported exported h = c.alias_new.ensures.aliases stands used w outer i imported exported h

pub returns-in-None-clause-none : goal.returns-in-None-clause-none
returns-in-None-clause-none c stands =
    let a = c.args.all in
    let s = c.args.self.now in
    let u = c.args.used in
    let item = c.args.item in
    let i = c.in-Some.identifier.now in
    let no_used = subst (λ o. IfNone o (Never (IsUsedAs a.types.now s.used i u.there.now item))) c.in-None.is (c.in_ok-found.ensures.none stands) in
    IfOk-weaker c.alias_new.result _ _
    (λ o f. if_none_map o (Never (IsImportedAs a s i u.there.now item)) (Never (IsFoundFor a s u item)) (found_nowhere a s u item i (sym c.in-Some.ensures) no_used) f) (c.alias_new.ensures.none stands)

pub returns-in-Some-found-clause-keeps : goal.returns-in-Some-found-clause-keeps
returns-in-Some-found-clause-keeps c stands used = keeps_same c.args.all c.args.self.now

pub returns-in-Some-found-clause-stands : goal.returns-in-Some-found-clause-stands
returns-in-Some-found-clause-stands c stands used imported =
    let a = c.args.all in
    let named = IsUsedAs a.types.now c.args.self.now.used c.in-Some.identifier.now c.args.used.there.now c.args.item in
    (c.in-Some-found.index, (c.in-Some.identifier.now, sym c.in-Some.ensures, subst (λ o. IfSome o named) c.in-Some-found.is (c.in_ok-found.ensures.found stands used)))

pub returns-in-None-clause-stands : goal.returns-in-None-clause-stands
returns-in-None-clause-stands c stands used =
    named_stands c.args.all c.args.self.now c.alias_new.new.self c.args.used c.in-Some.identifier.now c.args.item (sym c.in-Some.ensures) c.alias_new.result (c.alias_new.ensures.stands stands used) (c.alias_new.ensures.none stands)
