use Rattle.std.proofs.Common.{◌≡◌, ◌∷◌, [], Option, Some, None, ap, refl, subst, sym, ◌∙◌}
use Rattle.wac_types_base.specs.declared.item.ItemKind.{ItemKind}
use Rattle.wac_types_base.specs.Record.{Collection}
use Rattle.wac_types_base.specs.Stated.{Stated, stated_of}
use Rattle.wac_parser_tree.specs.Segments.{Segment, segment_spans}
use Rattle.wac_parser_tree.specs.Views.{view_package_path}
use Rattle.wac_parser_refusals.specs.Causes.{Answer, ◌>>=◌, PackageMissingExport}
use Rattle.wac_parser_refusals.specs.Outcomes.{IsHeld, IsOutcome}
use Rattle.wac_parser_declare.specs.Holding.{Holds}
use Rattle.wac_parser_declare.specs.Packages.{HoldsIf, defined_in, named_package}
use Rattle.wac_parser_declare.specs.Scope.{definitions, from_definitions, package_path}
use Rattle.wac_parser_declare.proofs.PathSteps.{defined_by, given_next}
use Rattle.wac_parser_declare.proofs.paths.foreign_path.Goals as goal

pub returns-in-Some-2-clause-outcome : goal.returns-in-Some-2-clause-outcome
returns-in-Some-2-clause-outcome g c =
    let known = g.T.GrowingTypes.packages c.args.types.now in
    let d = g.T.GrowingTypes.collection c.definition.new.self in
    let p = view_package_path c.args.path.now in
    let s : Segment = (c.in-Some.first.now, c.in-Some.span) in
    let k = c.in-Some-2.kind in
    let r = c.foreign_rest.result in
    let rest = c.next.new.self in
    let is : segment_spans p ≡ s ∷ rest = sym c.segment_spans-segments.ensures.value ∙ given_next _ rest s c.in-Some.ensures.steps in
    let held : IsHeld (HoldsIf d) (defined_in known p s.0) (Some k) =
    subst (λ (o : Option ItemKind). IsHeld (HoldsIf d) (defined_in known p s.0) o) c.in-Some-2.is c.in_ok-kind.ensures.outcome in
    let found = defined_by d s.0 (PackageMissingExport p.name s.0 None []) s.1 (λ x. package_path p.name (s ∷ []) x rest) (named_package known p) k held in
    let answered : IsOutcome (Holds d) (package_path p.name (s ∷ []) (stated_of d k) rest) r =
    subst (λ (e : Collection). IsOutcome (Holds e) (package_path p.name (s ∷ []) (stated_of e k) rest) r) c.types-in-Some-2.ensures (c.foreign_rest.ensures.outcome s refl) in
    subst (λ (q : Answer Stated). IsOutcome (Holds d) q r) (sym (ap (λ is. named_package known p >>= λ w. from_definitions p (definitions w) is) is ∙ found)) answered
