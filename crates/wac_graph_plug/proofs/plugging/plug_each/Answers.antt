use Rattle.std.proofs.Common.{◌≡◌, ◌∙◌, ◌||◌, Bool, ap, get_or, subst, sym, take, inl, inr}
use Rattle.wac_graph_core.specs.declared.ids.PackageId.{PackageId}
use Rattle.std.proofs.lemmas.List.{take_all}
use Rattle.std.proofs.lemmas.Result.{err_from_is_err_and}
use Rattle.wac_graph_plug.specs.Stops.{PlugsAll}
use Rattle.wac_graph_plug.proofs.Growing.{Grown-refl, Grown-trans, ContainsNode-grown, ContainsPackage-grown}
use Rattle.wac_graph_plug.proofs.Calls.{own_default, plugs_start, plugs_next}
use Rattle.wac_graph_plug.proofs.plugging.plug_each.Goals.{then-happened, else-happened}
use Rattle.wac_graph_plug.proofs.plugging.plug_each.Goals as goal
use Rattle.wac_types_base.proofs.Looked.{among-get}
use Rattle.wac_types_base.proofs.Loops.{get-place}

pub loop-plug-init : goal.loop-plug-init
loop-plug-init c = (plugs_start c.args.graph.now c.args.socket c.args.instance, Grown-refl c.args.graph.now)

pub plug_one-requires-clause-socket : goal.plug_one-requires-clause-socket
plug_one-requires-clause-socket c = ContainsPackage-grown c.args.graph.now c.loop-plug.graph c.loop-plug.invariant.1 c.args.socket c.requires.socket

pub plug_one-requires-clause-plug : goal.plug_one-requires-clause-plug
plug_one-requires-clause-plug c =
    let id : PackageId = get_or c.args.plugs.now c.loop-plug.plug-index (record { place = 0; generation = 0 }) in
    let is : id ≡ get_or c.args.plugs.now c.loop-plug.plug-index id = own_default c.args.plugs.now c.loop-plug.plug-index (record { place = 0; generation = 0 }) id c.loop-plug-test.true in
    let at = get-place c.args.plugs.now c.loop-plug.plug-index id c.loop-plug-test.true is in
    ContainsPackage-grown c.args.graph.now c.loop-plug.graph c.loop-plug.invariant.1 id (c.requires.plugs id (among-get c.args.plugs.now c.loop-plug.plug-index id at))

pub plug_one-requires-clause-instance : goal.plug_one-requires-clause-instance
plug_one-requires-clause-instance c = ContainsNode-grown c.args.graph.now c.loop-plug.graph c.loop-plug.invariant.1 c.args.instance c.requires.instance

pub loop-plug-preserved : goal.loop-plug-preserved
loop-plug-preserved c =
    let either : c.if-happened.happened ≡ (c.loop-plug.happened || c.in_ok-yes.yes) = elim c.if-happened.branch [
      | then-happened w ↦ w.happened-is ∙ w.if-happened.true ∙ sym (ap (λ (b : Bool). b || c.in_ok-yes.yes) w.if-happened.true)
      | else-happened w ↦ w.happened-is ∙ sym (ap (λ (b : Bool). b || c.in_ok-yes.yes) w.if-happened.false)
    ] in
    let id : PackageId = get_or c.args.plugs.now c.loop-plug.plug-index (record { place = 0; generation = 0 }) in
    let is : id ≡ get_or c.args.plugs.now c.loop-plug.plug-index id = own_default c.args.plugs.now c.loop-plug.plug-index (record { place = 0; generation = 0 }) id c.loop-plug-test.true in
    let at = get-place c.args.plugs.now c.loop-plug.plug-index id c.loop-plug-test.true is in (
      plugs_next c.args.graph.now c.loop-plug.graph c.plug_one.new.graph c.args.socket c.args.plugs.now c.loop-plug.plug-index id c.args.instance c.loop-plug.happened c.in_ok-yes.yes c.if-happened.happened c.loop-plug-test.true is
          c.loop-plug.invariant.1 c.loop-plug.invariant.0 c.in_ok-yes.ensures.plugged either,
      Grown-trans c.args.graph.now c.loop-plug.graph c.plug_one.new.graph c.loop-plug.invariant.1 c.plug_one.ensures.grown,
    )

pub returns-in_err-yes-clause-stopped : goal.returns-in_err-yes-clause-stopped
returns-in_err-yes-clause-stopped c =
    let id : PackageId = get_or c.args.plugs.now c.loop-plug.plug-index (record { place = 0; generation = 0 }) in
    let is : id ≡ get_or c.args.plugs.now c.loop-plug.plug-index id = own_default c.args.plugs.now c.loop-plug.plug-index (record { place = 0; generation = 0 }) id c.loop-plug-test.true in
    let at = get-place c.args.plugs.now c.loop-plug.plug-index id c.loop-plug-test.true is in
    let p = err_from_is_err_and c.from_residual.result c.from_residual.ensures.1 in
    rw (p.1, p.2) (elim c.in_err-yes.ensures.stopped [
      | inl m ↦ inl (
        m.0,
        record {
          count = c.loop-plug.plug-index;
          fewer = c.loop-plug-test.true;
          happened = c.loop-plug.happened;
          plugged = subst (λ g. PlugsAll c.args.graph.now g c.args.socket (take c.loop-plug.plug-index c.args.plugs.now) c.args.instance c.loop-plug.happened) (sym m.1) c.loop-plug.invariant.0;
        },
      )
      | inr r ↦ inr (record {
        place = c.loop-plug.plug-index;
        id = id;
        there = at;
        middle = c.loop-plug.graph;
        happened = c.loop-plug.happened;
        before = c.loop-plug.invariant.0;
        stops = r;
      })
    ])

pub returns-in_err-yes-clause-grown : goal.returns-in_err-yes-clause-grown
returns-in_err-yes-clause-grown c = Grown-trans c.args.graph.now c.loop-plug.graph c.plug_one.new.graph c.loop-plug.invariant.1 c.plug_one.ensures.grown

pub returns-clause-plugged : goal.returns-clause-plugged
returns-clause-plugged c =
    subst (λ l. PlugsAll c.args.graph.now c.loop-plug.graph c.args.socket l c.args.instance c.loop-plug.happened) (take_all c.loop-plug.plug-index c.args.plugs.now c.loop-plug-test.false) c.loop-plug.invariant.0
