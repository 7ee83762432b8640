-- What look-ups of edges find.
use Rattle.std.proofs.Common.{◌≡◌, ℕ, List, [], Option, Some, None, IfSome, IfNone, refl, sym, ap, ◌∙◌, subst, slice_get}
use Rattle.wac_types_base.specs.Entries.{Name}
use Rattle.wac_types_base.specs.Graph.{Among}
use Rattle.wac_graph_core.specs.declared.edge.Edge.{Edge}
use Rattle.wac_graph_core.specs.declared.tie.Tie.{Tie}
use Rattle.wac_graph_core.specs.declared.ties.Ties.{Ties}
use Rattle.wac_graph_core.specs.Edges.{HasAlias, HasArgument}
use Rattle.wac_graph_core.specs.Walking.{first_argument}
use Rattle.wac_graph_core.specs.Ties.{edges_in, dependants_in, dependants_at, Passed, Passes, AreTied}
use Rattle.wac_graph_core.proofs.Found.{argument_found, no_argument}
use Rattle.wac_graph_core.proofs.TiedEdges.{alias_tie, tie_alias}

module _ (ts : List Ties) (i : ℕ) (n : Name) where
  pub alias_some : (u : Ties) (t : Tie) (o : Option ℕ) → Some u ≡ slice_get ts i → t ≡ Tie.Alias n → IfSome o (λ k. Among (t, k) u.dependants.items) → IfSome o (λ k. HasAlias (edges_in ts) i n k)
  alias_some u t None at is h = tt
  alias_some u t (Some k) at is h = tie_alias ts i k n (subst (λ s. Among (s, k) (dependants_at ts i)) is (subst (λ p. Among (t, k) (dependants_in p)) at h))

  pub alias_none : (u : Ties) (t : Tie) (o : Option ℕ) → Some u ≡ slice_get ts i → t ≡ Tie.Alias n → IfNone o ((k : ℕ) → Among (t, k) u.dependants.items → ⊥) → IfNone o ((k : ℕ) → HasAlias (edges_in ts) i n k → ⊥)
  alias_none u t None at is h = λ k m. h k (subst (λ p. Among (t, k) (dependants_in p)) (sym at) (subst (λ s. Among (s, k) (dependants_at ts i)) (sym is) (alias_tie ts i k n m)))
  alias_none u t (Some k) at is h = tt

  pub no_place_alias : None ≡ slice_get ts i → (k : ℕ) → HasAlias (edges_in ts) i n k → ⊥
  no_place_alias at k m = absurd (subst (λ p. Among (Tie.Alias n, k) (dependants_in p)) (sym at) (alias_tie ts i k n m))

module _ (es : List Edge) (args : ℕ → List Passed) (src : ℕ → Option (ℕ × Name)) (tied : AreTied es args src) (i : ℕ) (n : Name) where
  pub argument_some : (o : Option ℕ) → IfSome o (Passes (args i) n) → IfSome o (λ a. HasArgument es i n a)
  argument_some None h = tt
  argument_some (Some a) h = (tied.passed i a n).1 h

  pub argument_none : (o : Option ℕ) → IfNone o ((a : ℕ) → Passes (args i) n a → ⊥) → IfNone o ((a : ℕ) → HasArgument es i n a → ⊥)
  argument_none None h = λ a m. h a ((tied.passed i a n).0 m)
  argument_none (Some a) h = tt

  pub argument_first : (o : Option ℕ) → IfSome o (Passes (args i) n) → IfNone o ((a : ℕ) → Passes (args i) n a → ⊥) → IfSome o (λ a. (b : ℕ) → Passes (args i) n b → b ≡ a) → o ≡ first_argument es i n
  argument_first o found none one = by_first (first_argument es i n) refl o found none one
    where
      by_first : (f : Option ℕ) → first_argument es i n ≡ f → (o : Option ℕ) → IfSome o (Passes (args i) n) → IfNone o ((a : ℕ) → Passes (args i) n a → ⊥) → IfSome o (λ a. (b : ℕ) → Passes (args i) n b → b ≡ a)
          → o ≡ first_argument es i n
      by_first None is None found none one = sym is
      by_first (Some b) is None found none one = absurd (none b ((tied.passed i b n).0 (argument_found es i b n is)))
      by_first None is (Some a) found none one = absurd (no_argument es i a n is ((tied.passed i a n).1 found))
      by_first (Some b) is (Some a) found none one = ap Some (sym (one b ((tied.passed i b n).0 (argument_found es i b n is)))) ∙ sym is

  pub nothing_passed : args i ≡ [] → None ≡ first_argument es i n
  nothing_passed away = by_first (first_argument es i n) refl
    where
      by_first : (f : Option ℕ) → first_argument es i n ≡ f → None ≡ first_argument es i n
      by_first None is = sym is
      by_first (Some b) is = absurd ((subst (λ xs. Passes xs n b) away ((tied.passed i b n).0 (argument_found es i b n is))).there)

  pub none_passed : args i ≡ [] → (a : ℕ) → HasArgument es i n a → ⊥
  none_passed away a m = absurd ((subst (λ xs. Passes xs n a) away ((tied.passed i a n).0 m)).there)
