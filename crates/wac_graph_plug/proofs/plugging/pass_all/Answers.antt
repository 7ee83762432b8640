use Rattle.std.proofs.Common.{subst}
use Rattle.std.proofs.lemmas.List.{take_all}
use Rattle.std.proofs.lemmas.Result.{err_from_is_err_and}
use Rattle.wac_graph_plug.specs.Steps.{PassesAll, passed_none}
use Rattle.wac_graph_plug.proofs.Growing.{Grown-refl, Grown-trans, ContainsNode-grown, HasExport-grown}
use Rattle.wac_graph_plug.proofs.Calls.{passes_next}
use Rattle.wac_graph_plug.proofs.plugging.pass_all.Goals as goal
use Rattle.wac_types_base.proofs.Looked.{among-get}
use Rattle.wac_types_base.proofs.Loops.{get-place}

pub loop-one-init : goal.loop-one-init
loop-one-init c = (passed_none, Grown-refl c.args.graph.now)

pub pass-requires-clause-socket : goal.pass-requires-clause-socket
pass-requires-clause-socket c = ContainsNode-grown c.args.graph.now c.loop-one.graph c.loop-one.invariant.1 c.args.socket c.requires.socket

pub pass-requires-clause-plug : goal.pass-requires-clause-plug
pass-requires-clause-plug c =
    let at = get-place c.args.matches.now c.loop-one.one-index c.one-item.result c.loop-one-test.true c.one-item.is in
    HasExport-grown c.args.graph.now c.loop-one.graph c.loop-one.invariant.1 c.args.plug c.one-item.result.export
    (c.requires.plug c.one-item.result (among-get c.args.matches.now c.loop-one.one-index c.one-item.result at))

pub loop-one-preserved : goal.loop-one-preserved
loop-one-preserved c = (
  passes_next c.args.socket c.args.plug c.args.matches.now c.loop-one.one-index c.one-item.result c.args.graph.now c.loop-one.graph c.pass.new.graph c.loop-one-test.true c.one-item.is c.loop-one.invariant.0 c.in_ok-pass.ensures.passed,
  Grown-trans c.args.graph.now c.loop-one.graph c.pass.new.graph c.loop-one.invariant.1 c.pass.ensures.grown,
)

pub returns-in_err-pass-clause-stopped : goal.returns-in_err-pass-clause-stopped
returns-in_err-pass-clause-stopped c =
    let p = err_from_is_err_and c.from_residual.result c.from_residual.ensures.1 in
    rw (p.1, p.2) (record {
      place = c.loop-one.one-index;
      at = c.one-item.result;
      there = get-place c.args.matches.now c.loop-one.one-index c.one-item.result c.loop-one-test.true c.one-item.is;
      middle = c.loop-one.graph;
      before = c.loop-one.invariant.0;
      stops = c.in_err-pass.ensures.stopped;
    })

pub returns-in_err-pass-clause-grown : goal.returns-in_err-pass-clause-grown
returns-in_err-pass-clause-grown c = Grown-trans c.args.graph.now c.loop-one.graph c.pass.new.graph c.loop-one.invariant.1 c.pass.ensures.grown

pub returns-clause-passed : goal.returns-clause-passed
returns-clause-passed c =
    subst (λ l. PassesAll c.args.socket c.args.plug l c.args.graph.now c.loop-one.graph) (take_all c.loop-one.one-index c.args.matches.now c.loop-one-test.false) c.loop-one.invariant.0
