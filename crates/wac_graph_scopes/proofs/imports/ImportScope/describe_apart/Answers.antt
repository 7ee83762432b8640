use Rattle.std.proofs.Common.{sym, ap, subst}
use Rattle.std.proofs.lemmas.Result.{IfOk-weaker}
use Rattle.wac_types_base.specs.declared.item.ItemKind.{ItemKind}
use Rattle.wac_graph_scopes.specs.declared.items.ItemScope.{ItemScope}
use Rattle.wac_graph_scopes.specs.declared.scope.TypeScope.{TypeScope}
use Rattle.wac_graph_scopes.specs.Scopes.{IsEntryIn}
use Rattle.wac_graph_scopes.specs.ItemRefusals.{RefusedTypeApart}
use Rattle.wac_graph_scopes.proofs.ItemLaws.{item_exchanged}
use Rattle.wac_graph_scopes.proofs.ImportLaws.{world_apart}
use Rattle.wac_graph_scopes.proofs.RefusedLaws.{if_err_map, type_refused_kept}
use Rattle.wac_graph_scopes.proofs.imports.ImportScope.describe_apart.Goals as goal

pub returns-clause-describes : goal.returns-clause-describes
returns-clause-describes c world w col outer from imported exported h known =
    let types = c.args.types.now in
    let i = h.goes.writing.inside in
    let s = c.args.self.now in
    let mid = c.describe_type-description.new.scope in
    let held = c.exchange.new.other in
    let x = item_exchanged w col types outer i s.scope c.exchange.new.self c.args.other.now held c.exchange.ensures.exchanges h.goes.writing.stands known in
    IfOk-weaker c.describe_type-description.result _ _
    (λ d a. world_apart w col outer world imported exported types from s mid c.exchange-2.new.self held c.exchange-2.new.other h (ItemKind.Ty c.args.ty) d a x.1 c.exchange-2.ensures.exchanges)
    (c.describe_type-description.ensures.describes w outer i x.0)

pub returns-clause-refused : goal.returns-clause-refused
returns-clause-refused c stands =
    let mid = c.describe_type-description.new.scope in
    let last : ItemScope = record mid { types = c.exchange-2.new.self } in
    let same = c.exchange-2.ensures.scope in
    let s = c.args.self.now.scope in
    let begin : ItemScope = record s { types = c.exchange.new.self } in
    let known = ap (λ (t : TypeScope). let x : ItemScope = record s { types = t } in x) c.exchange.ensures.scope in
    if_err_map c.describe_type-description.result
    (λ e h. subst (λ (x : ItemScope). RefusedTypeApart c.args.types.now c.args.ty x last e) known (type_refused_kept c.args.types.now c.args.ty begin mid last e (ap (λ (t : TypeScope). t.resources) same) h))
    (c.describe_type-description.ensures.refused stands)

pub returns-clause-own : goal.returns-clause-own
returns-clause-own c own w col outer i h known =
    let types = c.args.types.now in
    let s = c.args.self.now in
    let x = item_exchanged w col types outer i s.scope c.exchange.new.self c.args.other.now c.exchange.new.other c.exchange.ensures.exchanges h known in
    IfOk-weaker c.describe_type-description.result _ _
    (λ d e. (e.0, e.1, subst (λ (t : TypeScope). IsEntryIn w outer t.declarations.items e.0) (sym c.exchange-2.ensures.scope) e.2))
    (c.describe_type-description.ensures.own own w outer i x.0)

pub returns-clause-instance : goal.returns-clause-instance
returns-clause-instance c stands id is w col outer i h known =
    let s = c.args.self.now in
    let x = item_exchanged w col c.args.types.now outer i s.scope c.exchange.new.self c.args.other.now c.exchange.new.other c.exchange.ensures.exchanges h known in
    c.describe_type-description.ensures.instance stands id is w outer i x.0 (λ j n u m. absurd (cc m))
