use Rattle.std.proofs.Common.{ℕ, IfSome, IfNone, ap, ◌∙◌, subst, slice_get}
use Rattle.wac_graph_core.specs.Edges.{HasAlias}
use Rattle.wac_graph_core.proofs.EdgeLooks.{alias_some, alias_none, no_place_alias}
use Rattle.wac_graph_core.proofs.edges.Edges.alias.Goals as goal

pub returns-in-Some-clause-found : goal.returns-in-Some-clause-found
returns-in-Some-clause-found c = λ n is.
    subst (λ es. IfSome c.find_tie.result (λ k. HasAlias es c.args.instance n k)) c.self.view_is
    (alias_some c.self.inside.ties.items c.args.instance n c.in-Some.ties.now c.args.alias.now c.find_tie.result (c.in-Some.ensures ∙ ap (λ l. slice_get l c.args.instance) c.as_slice.ensures.value) is c.find_tie.ensures.found)

pub returns-in-Some-clause-none : goal.returns-in-Some-clause-none
returns-in-Some-clause-none c = λ n is.
    subst (λ es. IfNone c.find_tie.result ((k : ℕ) → HasAlias es c.args.instance n k → ⊥)) c.self.view_is
    (alias_none c.self.inside.ties.items c.args.instance n c.in-Some.ties.now c.args.alias.now c.find_tie.result (c.in-Some.ensures ∙ ap (λ l. slice_get l c.args.instance) c.as_slice.ensures.value) is c.find_tie.ensures.none)

pub returns-in-None-clause-none : goal.returns-in-None-clause-none
returns-in-None-clause-none c = λ n is.
    subst (λ es. (k : ℕ) → HasAlias es c.args.instance n k → ⊥) c.self.view_is
    (no_place_alias c.self.inside.ties.items c.args.instance n (c.in-None.ensures ∙ ap (λ l. slice_get l c.args.instance) c.as_slice.ensures.value))
