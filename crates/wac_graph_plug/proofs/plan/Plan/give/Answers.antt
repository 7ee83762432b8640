use Rattle.std.proofs.Common.{◌++◌, ◌∷◌, [], refl, sym, subst, ◌∙◌, inl}
use Rattle.wac_types_base.specs.Graph.{Among}
use Rattle.wac_graph_plug.specs.Plugging.{IsTwice}
use Rattle.wac_graph_plug.specs.Plans.{imports_given}
use Rattle.wac_graph_plug.proofs.Causes.{twice_before}
use Rattle.wac_graph_plug.proofs.plan.Plan.give.Goals as goal

pub returns-then-has_given-clause-refused : goal.returns-then-has_given-clause-refused
returns-then-has_given-clause-refused c =
    let given = imports_given c.args.self.now.arguments.items in
    let import = c.args.given.now.import in
    let among = subst (λ n. Among n given) c.as_str.ensures (c.has_given.ensures.0 c.if-has_given.true) in
    subst (λ n. IsTwice n (given ++ import ∷ [])) (sym (c.in_ok-from_str.ensures.ok ∙ c.as_str-then-has_given.ensures)) (twice_before import given (import ∷ []) among (inl refl))
