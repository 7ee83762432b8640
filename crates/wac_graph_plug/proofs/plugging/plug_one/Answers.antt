use Rattle.std.proofs.Common.{subst, inr}
use Rattle.std.proofs.lemmas.Result.{err_from_is_err_and}
use Rattle.wac_types_base.specs.Collection.{IsAcyclic}
use Rattle.wac_types_base.specs.Graph.{Among}
use Rattle.wac_graph_plug.specs.Steps.{PassesAll}
use Rattle.wac_graph_plug.specs.Stops.{StopsPassing}
use Rattle.wac_graph_plug.proofs.Growing.{Grown-trans, Grown-instance, ContainsNode-grown}
use Rattle.wac_graph_plug.proofs.Calls.{match_has, plugs_some, stops_some, are_in, distinct_in, some_of}
use Rattle.wac_graph_plug.proofs.plugging.plug_one.Goals as goal

pub pass_all-requires-clause-socket : goal.pass_all-requires-clause-socket
pass_all-requires-clause-socket c =
    ContainsNode-grown c.args.graph.now c.instantiate.new.self (Grown-instance c.args.graph.now c.instantiate.new.self c.args.plug c.in_ok-source.source c.in_ok-source.ensures.instantiated) c.args.instance c.requires.instance

pub pass_all-requires-clause-plug : goal.pass_all-requires-clause-plug
pass_all-requires-clause-plug c = λ m at.
    match_has c.args.graph.now c.instantiate.new.self c.args.socket c.args.plug c.in_ok-source.source c.in_ok-matches.matches.items c.see_sound.ensures (subst IsAcyclic c.types.ensures c.see_acyclic.ensures) c.in_ok-source.ensures.instantiated
    (distinct_in c.args.graph.now c.args.plug c.index.result.now c.types-2.result.now c.ty-given.result c.index.ensures c.ty-given.ensures c.types-2.ensures c.in_ok-matches.ensures.distinct)
    (are_in c.args.graph.now c.args.socket c.args.plug c.index-2.result.now c.index.result.now c.types-2.result.now c.ty-given.result c.ty-asked.result c.in_ok-matches.matches.items c.index-2.ensures c.ty-asked.ensures c.index.ensures c.ty-given.ensures c.types-2.ensures c.in_ok-matches.ensures.matches)
    m (subst (Among m) c.as_slice-2.ensures.value at)

pub returns-clause-plugged : goal.returns-clause-plugged
returns-clause-plugged c =
    plugs_some c.args.graph.now c.instantiate.new.self c.pass_all.new.graph c.args.socket c.args.plug c.args.instance c.in_ok-source.source c.in_ok-matches.matches.items
    (are_in c.args.graph.now c.args.socket c.args.plug c.index-2.result.now c.index.result.now c.types-2.result.now c.ty-given.result c.ty-asked.result c.in_ok-matches.matches.items c.index-2.ensures c.ty-asked.ensures c.index.ensures c.ty-given.ensures c.types-2.ensures c.in_ok-matches.ensures.matches)
    (distinct_in c.args.graph.now c.args.plug c.index.result.now c.types-2.result.now c.ty-given.result c.index.ensures c.ty-given.ensures c.types-2.ensures c.in_ok-matches.ensures.distinct)
    (some_of c.in_ok-matches.matches.items c.as_slice.result.now c.has_one-some.result c.has_one-some.ensures c.as_slice.ensures.value c.if-not-some.false) c.in_ok-source.ensures.instantiated
    (subst (λ l. PassesAll c.args.instance c.in_ok-source.source l c.instantiate.new.self c.pass_all.new.graph) c.as_slice-2.ensures.value c.in_ok-pass_all.ensures.passed)

pub returns-clause-grown : goal.returns-clause-grown
returns-clause-grown c =
    Grown-trans c.args.graph.now c.instantiate.new.self c.pass_all.new.graph (Grown-instance c.args.graph.now c.instantiate.new.self c.args.plug c.in_ok-source.source c.in_ok-source.ensures.instantiated) c.pass_all.ensures.grown

pub returns-in_err-pass_all-clause-stopped : goal.returns-in_err-pass_all-clause-stopped
returns-in_err-pass_all-clause-stopped c =
    let p = err_from_is_err_and c.from_residual-in_err-pass_all.result c.from_residual-in_err-pass_all.ensures.1 in
    rw (p.1, p.2) (inr (stops_some c.args.graph.now c.instantiate.new.self c.pass_all.new.graph c.args.socket c.args.plug c.args.instance c.in_ok-source.source c.in_ok-matches.matches.items c.in_err-pass_all.field-0.0
    (are_in c.args.graph.now c.args.socket c.args.plug c.index-2.result.now c.index.result.now c.types-2.result.now c.ty-given.result c.ty-asked.result c.in_ok-matches.matches.items c.index-2.ensures c.ty-asked.ensures c.index.ensures c.ty-given.ensures c.types-2.ensures c.in_ok-matches.ensures.matches)
    (distinct_in c.args.graph.now c.args.plug c.index.result.now c.types-2.result.now c.ty-given.result c.index.ensures c.ty-given.ensures c.types-2.ensures c.in_ok-matches.ensures.distinct) c.in_ok-source.ensures.instantiated
    (subst (λ l. StopsPassing c.args.instance c.in_ok-source.source l c.in_err-pass_all.field-0.0 c.instantiate.new.self c.pass_all.new.graph) c.as_slice-2.ensures.value c.in_err-pass_all.ensures.stopped)))

pub returns-in_err-pass_all-clause-grown : goal.returns-in_err-pass_all-clause-grown
returns-in_err-pass_all-clause-grown c =
    Grown-trans c.args.graph.now c.instantiate.new.self c.pass_all.new.graph (Grown-instance c.args.graph.now c.instantiate.new.self c.args.plug c.in_ok-source.source c.in_ok-source.ensures.instantiated) c.pass_all.ensures.grown
