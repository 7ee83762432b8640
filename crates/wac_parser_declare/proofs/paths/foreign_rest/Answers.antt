use Rattle.std.proofs.Common.{List, [], ◌∷◌, ◌++◌, ◌∙◌, ap, string_bytes, subst}
use Rattle.wac_types_base.specs.Entries.{Name}
use Rattle.wac_types_base.specs.Stated.{stated_of}
use Rattle.wac_parser_tree.specs.Segments.{Segment}
use Rattle.wac_parser_refusals.specs.Outcomes.{IsHeld}
use Rattle.wac_parser_declare.proofs.PathSteps.{IsPassed, given_next, passed_more, slash_more}
use Rattle.wac_parser_declare.specs.Holding.{Holds}
use Rattle.wac_parser_declare.specs.Scope.{foreign_export, package_path}
use Rattle.wac_parser_declare.proofs.paths.foreign_rest.Goals as goal

pub loop-segment-preserved : goal.loop-segment-preserved
loop-segment-preserved c = record {
  stands = c.in_ok-kind.ensures.stands;
  passed = λ i first.
      let d = c.args.types.now in
      let p = c.args.path.now.name.now in
      let seg : Segment = (c.in-Some.segment.now, c.in-Some.span) in
      let text = string_bytes c.loop-segment.passed in
      let all = package_path p (i ∷ []) (stated_of d c.args.kind) c.into_iter-segment-iterator.result in
      let passed : IsPassed d p all text c.loop-segment.kind (seg ∷ c.next.new.self) =
      subst (λ (left : List Segment). IsPassed d p all text c.loop-segment.kind left) (given_next c.loop-segment.segment-iterator c.next.new.self seg c.in-Some.ensures.steps) (c.loop-segment.invariant.passed i first) in
      let held : IsHeld (Holds d) (foreign_export p text (stated_of d c.loop-segment.kind) seg) c.in_ok-kind.kind =
      subst (λ (w : Name). IsHeld (Holds d) (foreign_export p w (stated_of d c.loop-segment.kind) seg) c.in_ok-kind.kind) c.as_str.ensures.value c.in_ok-kind.ensures.outcome in
      passed_more d p all text c.loop-segment.kind seg c.next.new.self passed c.in_ok-kind.kind (string_bytes c.push_str-in-loop-segment.new.self) held
      (c.in_ok-push_str-2.ensures.bytes ∙ ap (λ (w : Name). w ++ c.in-Some.segment.now) c.in_ok-push_str.ensures.bytes ∙ slash_more text c.in-Some.segment.now);
}
