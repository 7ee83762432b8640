use Rattle.std.proofs.Common.{◌∷◌, subst}
use Rattle.std.specs.Prelude.{IfSome, IfNone}
use Rattle.wac_types_fit.specs.Trees.{tree_in}
use Rattle.wac_graph_scopes.specs.Items.{Never}
use Rattle.wac_graph_scopes.specs.Imports.{IsSource, IsImportedAs}
use Rattle.wac_graph_scopes.proofs.PreparedLaws.{keeps_same, put_keeps, put_stands}
use Rattle.wac_graph_scopes.proofs.imports.ImportScope.alias_new.Goals as goal

pub returns-in_ok-index-in-Some-clause-aliases : goal.returns-in_ok-index-in-Some-clause-aliases
returns-in_ok-index-in-Some-clause-aliases c stands used w outer i imported exported h =
    let types = c.args.all.types.now in
    let ss = h.goes.writing.inside.here ∷ outer in
    let src = subst (λ o. IfSome o (IsSource w ss c.args.name.name.now (tree_in types c.args.item))) c.in-Some.is (c.in_ok-source.ensures.reads stands used w outer imported exported h.goes) in
    c.in_ok-index-in-Some.ensures.adds c.args.all.world stands used w outer i imported exported h src

pub returns-in-None-clause-aliases : goal.returns-in-None-clause-aliases
returns-in-None-clause-aliases c stands used w outer i imported exported h = record { goes = h.goes; on = h.on; index = tt }

pub returns-in-None-clause-none : goal.returns-in-None-clause-none
returns-in-None-clause-none c stands =
    let imported = IsImportedAs c.args.all c.args.self.now c.args.name.identifier.now c.args.name.name.now c.args.item in
    subst (λ o. IfNone o (Never imported)) c.in-None.is (c.in_ok-source.ensures.none stands)

pub returns-in_ok-index-in-Some-clause-keeps : goal.returns-in_ok-index-in-Some-clause-keeps
returns-in_ok-index-in-Some-clause-keeps c stands used =
    let a = c.args.all in
    let s = c.args.self.now in
    let i = c.args.name.identifier.now in
    let n = c.args.name.name.now in
    let imported = subst (λ o. IfSome o (IsImportedAs a s i n c.args.item)) c.in-Some.is (c.in_ok-source.ensures.found stands used) in
    let added = c.in_ok-index-in-Some.ensures in
    put_keeps a s c.add_used.new.self i n c.args.item c.in-Some.instance c.in_ok-index-in-Some.index imported stands added.used added.found added.places

pub returns-in_ok-index-in-Some-clause-stands : goal.returns-in_ok-index-in-Some-clause-stands
returns-in_ok-index-in-Some-clause-stands c stands used =
    let a = c.args.all in
    let s = c.args.self.now in
    let i = c.args.name.identifier.now in
    let n = c.args.name.name.now in
    let imported = subst (λ o. IfSome o (IsImportedAs a s i n c.args.item)) c.in-Some.is (c.in_ok-source.ensures.found stands used) in
    put_stands a s c.add_used.new.self i n c.args.item c.in-Some.instance c.in_ok-index-in-Some.index imported stands c.in_ok-index-in-Some.ensures.used

pub returns-in-None-clause-keeps : goal.returns-in-None-clause-keeps
returns-in-None-clause-keeps c stands used = keeps_same c.args.all c.args.self.now
