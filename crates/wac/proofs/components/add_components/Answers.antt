use Rattle.std.proofs.Common.{◌∙◌}
use Rattle.std.proofs.lemmas.Iterator.Adapters.{YieldsList-from_vec}
use Rattle.wac.proofs.Adding.{one_more}
use Rattle.wac.proofs.Refusing.{adding_stops, again_stops, walked}
use Rattle.wac.proofs.components.add_components.Goals as goal

pub loop-component-preserved : goal.loop-component-preserved
loop-component-preserved g c = one_more _ _ _ _ _ _ c.loop-component.invariant c.in_ok-add_component.ensures.added

pub returns-in_err-add_component-clause-refused : goal.returns-in_err-add_component-clause-refused
returns-in_err-add_component-clause-refused g c =
    let loop = c.loop-component in
    let gives = c.into_iter-component-iterator.ensures.into_iter_gives in
    let list = YieldsList-from_vec {s = c.into_iter-component-iterator.result} c.args.components.items gives.0 (gives.1 ∙ c.args.components.ok.0) in
    let at = walked list loop.yielded loop.component-iterator loop.yielded_by c.next.result c.next.new.self c.in-Some.component c.in-Some.is c.next.ensures.steps in
    again_stops c.from_residual.result c.in_err-add_component.field-0.0 c.from_residual.ensures.1
    (adding_stops (g.F.Files.stored c.args.files.now) c.args.components.items c.args.workspace.now loop.workspace loop.yielded c.in-Some.component at loop.invariant) c.in_err-add_component.ensures.refused
