use Rattle.std.proofs.Common.{[], ◌∷◌, ◌++◌, map, ap, ◌∙◌}
use Rattle.wac_graph_causes.specs.Alike.{dependency_of}
use Rattle.wac_graph_causes.proofs.Dependencies.{names_pushed, none_pushed}
use Rattle.wac_graph_causes.proofs.names.push_package_names.Goals as goal

pub loop-id-init : goal.loop-id-init
loop-id-init c = ap (λ l. c.args.names.now.items ++ map (dependency_of c.args.graph.now) l) (c.into_iter-id-iterator.ensures.into_iter_gives ∙ c.keys-id-items.ensures.rest)

pub loop-id-preserved : goal.loop-id-preserved
loop-id-preserved c =
    names_pushed (dependency_of c.args.graph.now) c.loop-id.names.items c.push.new.self.items c.loop-id.id-iterator c.next.new.self c.in-Some.id.now
    (c.in_ok-push.ensures.items ∙ ap (λ n. c.loop-id.names.items ++ n ∷ []) (c.new.ensures ∙ c.in_ok-name.ensures)) c.in-Some.ensures.steps c.loop-id.invariant

pub returns : goal.returns
returns c = none_pushed (dependency_of c.args.graph.now) c.loop-id.names.items c.loop-id.id-iterator c.in-None.ensures.steps.0 c.loop-id.invariant
