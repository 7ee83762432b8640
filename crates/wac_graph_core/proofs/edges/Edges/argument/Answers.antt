use Rattle.std.proofs.Common.{◌≡◌, ℕ, IfSome, IfNone, [], ap, ◌∙◌, sym, subst, slice_get}
use Rattle.std.specs.Prelude.{string_bytes}
use Rattle.wac_graph_core.specs.Edges.{HasArgument}
use Rattle.wac_graph_core.specs.Walking.{first_argument}
use Rattle.wac_graph_core.specs.Ties.{Passes, edges_in, arguments_in, arguments_at, source_at}
use Rattle.wac_graph_core.proofs.EdgeLooks.{argument_some, argument_none, argument_first, nothing_passed, none_passed}
use Rattle.wac_graph_core.proofs.edges.Edges.argument.Goals as goal

pub returns-in-Some-clause-found : goal.returns-in-Some-clause-found
returns-in-Some-clause-found c =
    let ts = c.self.inside.ties.items in
    let n = string_bytes c.args.name.now in
    let at : c.in-Some.ties.now.arguments.items ≡ arguments_at ts c.args.instantiation = ap arguments_in (c.in-Some.ensures ∙ ap (λ l. slice_get l c.args.instantiation) c.as_slice.ensures.value) in
    subst (λ es. IfSome c.find_passed.result (λ a. HasArgument es c.args.instantiation n a)) c.self.view_is
    (argument_some (edges_in ts) (arguments_at ts) (source_at ts) c.self.invariant c.args.instantiation n c.find_passed.result (subst (λ xs. IfSome c.find_passed.result (λ a. Passes xs n a)) at c.find_passed.ensures.found))

pub returns-in-Some-clause-none : goal.returns-in-Some-clause-none
returns-in-Some-clause-none c =
    let ts = c.self.inside.ties.items in
    let n = string_bytes c.args.name.now in
    let at : c.in-Some.ties.now.arguments.items ≡ arguments_at ts c.args.instantiation = ap arguments_in (c.in-Some.ensures ∙ ap (λ l. slice_get l c.args.instantiation) c.as_slice.ensures.value) in
    subst (λ es. IfNone c.find_passed.result ((a : ℕ) → HasArgument es c.args.instantiation n a → ⊥)) c.self.view_is
    (argument_none (edges_in ts) (arguments_at ts) (source_at ts) c.self.invariant c.args.instantiation n c.find_passed.result (subst (λ xs. IfNone c.find_passed.result ((a : ℕ) → Passes xs n a → ⊥)) at c.find_passed.ensures.none))

pub returns-in-Some-clause-first : goal.returns-in-Some-clause-first
returns-in-Some-clause-first c =
    let ts = c.self.inside.ties.items in
    let n = string_bytes c.args.name.now in
    let at : c.in-Some.ties.now.arguments.items ≡ arguments_at ts c.args.instantiation = ap arguments_in (c.in-Some.ensures ∙ ap (λ l. slice_get l c.args.instantiation) c.as_slice.ensures.value) in
    subst (λ es. c.find_passed.result ≡ first_argument es c.args.instantiation n) c.self.view_is
    (argument_first (edges_in ts) (arguments_at ts) (source_at ts) c.self.invariant c.args.instantiation n c.find_passed.result
    (subst (λ xs. IfSome c.find_passed.result (λ a. Passes xs n a)) at c.find_passed.ensures.found) (subst (λ xs. IfNone c.find_passed.result ((a : ℕ) → Passes xs n a → ⊥)) at c.find_passed.ensures.none)
    (subst (λ xs. IfSome c.find_passed.result (λ a. (b : ℕ) → Passes xs n b → b ≡ a)) at c.find_passed.ensures.one))

pub returns-in-None-clause-first : goal.returns-in-None-clause-first
returns-in-None-clause-first c =
    let ts = c.self.inside.ties.items in
    let away : arguments_at ts c.args.instantiation ≡ [] = sym (ap arguments_in (c.in-None.ensures ∙ ap (λ l. slice_get l c.args.instantiation) c.as_slice.ensures.value)) in
    nothing_passed (edges_in ts) (arguments_at ts) (source_at ts) c.self.invariant c.args.instantiation (string_bytes c.args.name.now) away ∙ ap (λ es. first_argument es c.args.instantiation (string_bytes c.args.name.now)) c.self.view_is

pub returns-in-None-clause-none : goal.returns-in-None-clause-none
returns-in-None-clause-none c =
    let ts = c.self.inside.ties.items in
    let away : arguments_at ts c.args.instantiation ≡ [] = sym (ap arguments_in (c.in-None.ensures ∙ ap (λ l. slice_get l c.args.instantiation) c.as_slice.ensures.value)) in
    subst (λ es. (a : ℕ) → HasArgument es c.args.instantiation (string_bytes c.args.name.now) a → ⊥) c.self.view_is
    (none_passed (edges_in ts) (arguments_at ts) (source_at ts) c.self.invariant c.args.instantiation (string_bytes c.args.name.now) away)
