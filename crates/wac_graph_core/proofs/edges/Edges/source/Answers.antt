use Rattle.std.proofs.Common.{ap, sym, ◌∙◌, subst, slice_get}
use Rattle.wac_graph_core.specs.Edges.{HasAlias}
use Rattle.wac_graph_core.specs.Ties.{source_in}
use Rattle.wac_graph_core.proofs.Tying.{some_source}
use Rattle.wac_graph_core.proofs.edges.Edges.source.Goals as goal

pub returns-in-Some-source-clause-found : goal.returns-in-Some-source-clause-found
returns-in-Some-source-clause-found c =
    let ts = c.self.inside.ties.items in
    let at = ap source_in (c.in-Some.ensures ∙ ap (λ l. slice_get l c.args.alias) c.as_slice.ensures.value) in
    subst (λ es. HasAlias es c.in-Some-source.instance c.as_str.result.now c.args.alias) c.self.view_is
    ((c.self.invariant.aliased c.in-Some-source.instance c.args.alias c.as_str.result.now).1 (sym at ∙ c.in-Some-source.is ∙ ap (some_source c.in-Some-source.instance) (sym c.as_str.ensures)))

pub returns-in-None-source-clause-none : goal.returns-in-None-source-clause-none
returns-in-None-source-clause-none c = λ i n.
    let at = ap source_in (c.in-Some.ensures ∙ ap (λ l. slice_get l c.args.alias) c.as_slice.ensures.value) in
    subst (λ es. HasAlias es i n c.args.alias → ⊥) c.self.view_is (λ m. absurd (cc ((c.self.invariant.aliased i c.args.alias n).0 m, at, c.in-None-source.is)))

pub returns-in-None-clause-none : goal.returns-in-None-clause-none
returns-in-None-clause-none c = λ i n.
    let at = ap source_in (c.in-None.ensures ∙ ap (λ l. slice_get l c.args.alias) c.as_slice.ensures.value) in
    subst (λ es. HasAlias es i n c.args.alias → ⊥) c.self.view_is (λ m. absurd (cc ((c.self.invariant.aliased i c.args.alias n).0 m, at)))
