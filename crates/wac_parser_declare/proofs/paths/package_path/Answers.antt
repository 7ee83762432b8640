use Rattle.std.proofs.Common.{Bool, ◌==◌, ap, cond, subst, sym, ◌∙◌}
use Rattle.std.specs.Cmp.Lexicographic.{pointwise}
use Rattle.wac_types_base.specs.Record.{Collection}
use Rattle.wac_parser_tree.specs.Trees as t
use Rattle.wac_parser_tree.specs.Segments.{package_name_span, segment_spans}
use Rattle.wac_parser_tree.specs.Views.{view_package_path}
use Rattle.wac_parser_refusals.specs.Causes.{◌>>=◌}
use Rattle.wac_parser_refusals.specs.Outcomes.{IsOutcome}
use Rattle.wac_parser_declare.specs.Holding.{Holds}
use Rattle.wac_parser_declare.specs.InPaths.{IsOwnPath}
use Rattle.wac_parser_declare.specs.Scope.{definitions, from_definitions, from_root, world_of_package}
use Rattle.wac_parser_declare.proofs.paths.package_path.Goals as goal

pub returns-then-eq-clause-outcome : goal.returns-then-eq-clause-outcome
returns-then-eq-clause-outcome g c x s =
    let d = g.T.GrowingTypes.collection c.args.types.now in
    let p = view_package_path c.args.path.now in
    let r = c.own_path.result in
    let answered : IsOwnPath c.args.path.now c.args.context d r = subst (λ (e : Collection). IsOwnPath c.args.path.now c.args.context e r) c.types-then-eq.ensures c.own_path.ensures.outcome in
    subst (λ (b : Bool). IsOutcome (Holds d) (cond b (from_root x (segment_spans p)) (world_of_package x.packages (p.name, p.version) (package_name_span p) >>= λ w. from_definitions p (definitions w) (segment_spans p))) r)
    (sym (ap (λ (o : t.PackageName). pointwise ◌==◌ p.name o.name) s.own ∙ (sym c.eq.ensures ∙ c.if-eq.true))) (answered x s.root)
