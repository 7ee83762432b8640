use Rattle.std.proofs.Common.{All, map, ap, sym, subst, ◌∙◌}
use Rattle.std.proofs.lemmas.Result.{err_from_is_err_and}
use Rattle.wac_graph_plug.specs.Plans.{world_in, IsPlan}
use Rattle.wac_texts.specs.Plugs.{world_of, IsSpelled}
use Rattle.wac_texts.proofs.plugging.planned.Goals as goal

pub returns-in_err-test_arguments-clause-refused :
    goal.returns-in_err-test_arguments-clause-refused
returns-in_err-test_arguments-clause-refused c =
    let plan = c.in_ok-plan.plan in
    let worlds = ap (map world_in) c.deref.ensures.value ∙ c.in_ok-worlds.ensures.worlds in
    let planned = subst (λ s. IsPlan (map world_of c.args.plugs.now) s plan) c.world_of.ensures.world (subst (λ ps. IsPlan ps (world_in c.world_of.result) plan) worlds c.in_ok-plan.ensures.plan) in
    let fault = c.in_err-test_arguments.ensures.refused in
    let from = err_from_is_err_and c.from_residual-in_err-test_arguments.result c.from_residual-in_err-test_arguments.ensures.1 in
    rw (from.1, from.2, fault.0) (
      c.in_ok-test_names.ensures.readable,
      record {
        plan = plan;
        planned = planned;
        unspelled = λ all. fault.1 (subst (All IsSpelled) (sym c.deref-2.ensures.value) all);
      },
    )

pub returns-clause-plugged : goal.returns-clause-plugged
returns-clause-plugged c =
    let plan = c.in_ok-plan.plan in
    let worlds = ap (map world_in) c.deref.ensures.value ∙ c.in_ok-worlds.ensures.worlds in
    record {
      readable = c.in_ok-test_names.ensures.readable;
      planned = subst (λ s. IsPlan (map world_of c.args.plugs.now) s plan) c.world_of.ensures.world (subst (λ ps. IsPlan ps (world_in c.world_of.result) plan) worlds c.in_ok-plan.ensures.plan);
      spelled = subst (All IsSpelled) c.deref-2.ensures.value c.in_ok-test_arguments.ensures.spelled;
    }
