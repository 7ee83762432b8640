use Rattle.std.proofs.Common.{◌≡◌, sym, subst}
use Rattle.wac_types_base.specs.declared.item.ItemKind.{ItemKind}
use Rattle.std.proofs.lemmas.Result.{IfOk-weaker, on_ok_weaker}
use Rattle.wac_types_fit.specs.Trees.{tree_in}
use Rattle.wac_types_parts.specs.Parts.{exports_of}
use Rattle.wac_graph_scopes.specs.Items.{MayGive}
use Rattle.wac_graph_scopes.proofs.WritingLaws.{may_follow}
use Rattle.std.specs.Prelude.{IfNone}
use Rattle.wac_graph_scopes.specs.Items.{Never, IsUsedBy}
use Rattle.wac_graph_scopes.proofs.StockLaws.{KeepsTypes-trans, keeps_same, use_taken, export_taken, if_ok_with, refused_memory}
use Rattle.wac_graph_scopes.proofs.stock.take_use.Goals as goal

pub returns-in-Some-found-clause-takes : goal.returns-in-Some-found-clause-takes
returns-in-Some-found-clause-takes c w outer i h are =
    let types = c.args.all.types.now in
    let t = tree_in types c.in-Some.item in
    let a = subst (MayGive w types outer i t c.alias_around.new.scope) c.in-Some-found.is (c.in_ok-found.ensures.aliases w outer i h are) in
    IfOk-weaker c.export_used.result _ _ (λ yes b. may_follow w types outer i a.after (exports_of types c.args.all.id) c.args.used.name.now c.alias_around.new.scope c.export_used.new.scope yes a.goes b)
    (c.export_used.ensures.exports w outer a.after a.goes.stands c.in-Some.ensures.stands c.in-Some.ensures.kind a.index)

pub returns-in-Some-found-clause-given : goal.returns-in-Some-found-clause-given
returns-in-Some-found-clause-given c =
    let types = c.args.all.types.now in
    let stands = c.in-Some.ensures.stands in
    let used = c.in-Some.ensures.kind in
    if_ok_with c.export_used.result _ _ _ (λ yes f h is. export_taken types c.see_acyclic.ensures c.args.all.id c.args.used.name.now c.in-Some.item c.export_used.new.scope.types stands used (f is) h)
    (c.export_used.ensures.given stands used) (c.export_used.ensures.held stands)

pub returns-in-Some-found-clause-held : goal.returns-in-Some-found-clause-held
returns-in-Some-found-clause-held c =
    let types = c.args.all.types.now in
    on_ok_weaker c.export_used.result (use_taken types c.args.all.around.used.now c.args.used c.in-Some.item c.export_used.new.scope.types (sym c.in-Some.ensures.value)) (c.export_used.ensures.held c.in-Some.ensures.stands)

pub returns-in-Some-found-clause-keeps : goal.returns-in-Some-found-clause-keeps
returns-in-Some-found-clause-keeps c =
    let s = c.args.scope.now.types in
    let m = c.alias_around.new.scope.types in
    on_ok_weaker c.export_used.result (KeepsTypes-trans s m c.export_used.new.scope.types (keeps_same s m c.alias_around.ensures.known c.alias_around.ensures.resources)) c.export_used.ensures.keeps

pub returns-in-Some-found-clause-refused : goal.returns-in-Some-found-clause-refused
returns-in-Some-found-clause-refused c = refused_memory c.export_used.result _ c.export_used.ensures.refused

pub returns-in-None-clause-held : goal.returns-in-None-clause-held
returns-in-None-clause-held c item k takes used =
    let types = c.args.all.types.now in
    let us = c.args.all.around.used.now in
    let same : c.in-Some.item ≡ item = cc (c.in-Some.ensures.value, takes) in
    let none = subst (λ o. IfNone o (Never (IsUsedBy types us c.args.used c.in-Some.item))) c.in-None.is (c.in_ok-found.ensures.none c.in-Some.ensures.stands) in
    absurd (none k (subst (λ (x : ItemKind). IsUsedBy types us c.args.used x k) (sym same) used))

pub returns-in-None-clause-keeps : goal.returns-in-None-clause-keeps
returns-in-None-clause-keeps c = keeps_same c.args.scope.now.types c.alias_around.new.scope.types c.alias_around.ensures.known c.alias_around.ensures.resources
