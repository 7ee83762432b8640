use Rattle.std.proofs.Common.{subst}
use Rattle.std.proofs.lemmas.Result.{err_from_is_err_and}
use Rattle.wac_types_base.specs.Entries.{texts_of}
use Rattle.wac_graph_plug.specs.Steps.{ExportsAll, exported_none}
use Rattle.wac_graph_plug.proofs.Growing.{Grown-refl, Grown-trans, HasExport-grown}
use Rattle.wac_graph_plug.proofs.Calls.{text_index, exports_next, texts_all}
use Rattle.wac_graph_plug.proofs.plugging.export_all.Goals as goal
use Rattle.wac_types_base.proofs.Looked.{among-get}

pub loop-name-init : goal.loop-name-init
loop-name-init c = (exported_none, Grown-refl c.args.graph.now)

pub export_one-requires : goal.export_one-requires
export_one-requires c =
    let at = text_index c.args.names.now c.loop-name.name-index c.name-item.result c.as_str.result.now c.loop-name-test.true c.name-item.is c.as_str.ensures.value in
    HasExport-grown c.args.graph.now c.loop-name.graph c.loop-name.invariant.1 c.args.socket c.as_str.result.now
    (c.requires c.as_str.result.now (among-get (texts_of c.args.names.now) c.loop-name.name-index c.as_str.result.now at))

pub loop-name-preserved : goal.loop-name-preserved
loop-name-preserved c =
    let at = text_index c.args.names.now c.loop-name.name-index c.name-item.result c.as_str.result.now c.loop-name-test.true c.name-item.is c.as_str.ensures.value in (
      exports_next c.args.socket (texts_of c.args.names.now) c.loop-name.name-index c.as_str.result.now c.args.graph.now c.loop-name.graph c.export_one.new.graph at c.loop-name.invariant.0 c.in_ok-export_one.ensures.exported,
      Grown-trans c.args.graph.now c.loop-name.graph c.export_one.new.graph c.loop-name.invariant.1 c.export_one.ensures.grown,
    )

pub returns-in_err-export_one-clause-stopped : goal.returns-in_err-export_one-clause-stopped
returns-in_err-export_one-clause-stopped c =
    let p = err_from_is_err_and c.from_residual.result c.from_residual.ensures.1 in
    rw (p.1, p.2) (record {
      place = c.loop-name.name-index;
      at = c.as_str.result.now;
      there = text_index c.args.names.now c.loop-name.name-index c.name-item.result c.as_str.result.now c.loop-name-test.true c.name-item.is c.as_str.ensures.value;
      middle = c.loop-name.graph;
      before = c.loop-name.invariant.0;
      stops = c.in_err-export_one.ensures.stopped;
    })

pub returns-in_err-export_one-clause-grown : goal.returns-in_err-export_one-clause-grown
returns-in_err-export_one-clause-grown c = Grown-trans c.args.graph.now c.loop-name.graph c.export_one.new.graph c.loop-name.invariant.1 c.export_one.ensures.grown

pub returns-clause-exported : goal.returns-clause-exported
returns-clause-exported c =
    subst (λ l. ExportsAll c.args.socket l c.args.graph.now c.loop-name.graph) (texts_all c.args.names.now c.loop-name.name-index c.loop-name-test.false) c.loop-name.invariant.0
