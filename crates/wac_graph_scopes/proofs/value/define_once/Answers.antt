use Rattle.std.proofs.Common.{◌∷◌, ◌∙◌, ap, subst}
use Rattle.std.specs.Prelude.{IfSome}
use Rattle.std.proofs.lemmas.Result.{IfOk-weaker, on_ok_weaker}
use Rattle.wac_types_base.specs.declared.item.ItemKind.{ItemKind}
use Rattle.wac_types_base.specs.declared.item.ValueType.{ValueType}
use Rattle.wac_types_fit.specs.Trees.{tree_in}
use Rattle.wac_graph_scopes.specs.Scopes.{StandsFor}
use Rattle.wac_graph_scopes.proofs.RefusedLaws.{if_err_map, whole_refused, later_same_list}
use Rattle.wac_graph_scopes.proofs.UsedLaws.{type_there, type_answered}
use Rattle.wac_graph_scopes.proofs.PlaceLaws.{KeepsKnown-trans, known_same_list}
use Rattle.wac_graph_scopes.proofs.value.define_once.Goals as goal

pub returns-in-Some-clause-writes : goal.returns-in-Some-clause-writes
returns-in-Some-clause-writes c w outer i h =
    let types = c.args.types.now in
    type_there w types outer i (tree_in types (ItemKind.Value (ValueType.Defined c.args.id))) c.known_index.new.scope c.in-Some.index (c.known_index.ensures.keeps w outer i h)
    (subst (λ o. IfSome o (StandsFor w (i.here ∷ outer) types c.args.id)) c.in-Some.is (c.in_ok-index.ensures.reads w outer i h))

pub returns-in-None-clause-writes : goal.returns-in-None-clause-writes
returns-in-None-clause-writes c w outer i h =
    let types = c.args.types.now in
    IfOk-weaker c.define_entry.result _ _ (λ k a. type_answered w types outer i (tree_in types (ItemKind.Value (ValueType.Defined c.args.id))) c.define_entry.new.scope k a)
    (c.define_entry.ensures.writes w outer i c.requires.no_alias (c.known_index.ensures.keeps w outer i h))

pub returns-in-None-clause-refused : goal.returns-in-None-clause-refused
returns-in-None-clause-refused c =
    let types = c.args.types.now in
    let s = c.args.scope.now in
    let mid = c.known_index.new.scope in
    let u = c.define_entry.new.scope in
    let later = later_same_list types s mid c.known_index.ensures.keeps c.known_index.ensures.known in
    let resources = c.define_entry.ensures.resources ∙ c.known_index.ensures.resources in
    if_err_map c.define_entry.result (λ e h. whole_refused types c.args.id s mid u e c.in_ok-index.field-0 later resources c.in-None.is c.in_ok-index.ensures.none h) c.define_entry.ensures.refused

pub returns-in-None-clause-known : goal.returns-in-None-clause-known
returns-in-None-clause-known c =
    let old = c.args.scope.now.known.all.items in
    let mid = c.known_index.new.scope.known.all.items in
    on_ok_weaker c.define_entry.result (KeepsKnown-trans old mid c.define_entry.new.scope.known.all.items (known_same_list old mid (ap (λ v. v.items) c.known_index.ensures.known))) c.define_entry.ensures.known
