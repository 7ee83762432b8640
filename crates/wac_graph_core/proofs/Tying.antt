-- What is kept of nodes stays tied to the edges.
use Rattle.std.proofs.Common.{◌≡◌, ◌≢◌, ◌⊎◌, ◌↔◌, ℕ, List, Option, Some, None, sym, ap, ◌∙◌, subst, inl, inr}
use Rattle.std.proofs.lemmas.Bool.{cases_eq}
use Rattle.wac_types_base.specs.Entries.{Name}
use Rattle.wac_types_base.specs.Graph.{Among}
use Rattle.wac_graph_core.specs.declared.edge.Edge.{Edge}
use Rattle.wac_graph_core.specs.declared.edge.Label.{Label}
use Rattle.wac_graph_core.specs.Edges.{alias_edge, argument_edge, HasAlias, AreEdges, Stays}
use Rattle.wac_graph_core.specs.Ties.{Passed, Passes, AreTied}
use Rattle.wac_graph_core.specs.TieSteps.{PutsPassed}
use Rattle.wac_graph_core.proofs.EdgeSteps.{edge_from, edge_to, edge_label, alias_name, argument_name}

abbrev Arguments : Type 0
Arguments = ℕ → List Passed

abbrev Sources : Type 0
Sources = ℕ → Option (ℕ × Name)

apart : (m n : Name) → Label.Argument m ≡ Label.Alias n → ⊥
apart m n h = absurd (cc h)

abbrev pub some_source : ℕ → Name → Option (ℕ × Name)
some_source i n = Some (i, n)

one_source : (i j : ℕ) (m n : Name) → some_source i m ≡ some_source j n → (i ≡ j) × (m ≡ n)
one_source i j m n h = (ap (λ (o : Option (ℕ × Name)). first o) h, ap (λ (o : Option (ℕ × Name)). second o) h)
  where
    first : Option (ℕ × Name) → ℕ
    first None = i
    first (Some p) = p.0

    second : Option (ℕ × Name) → Name
    second None = m
    second (Some p) = p.1

module _ (es new : List Edge) (args args' : Arguments) (src src' : Sources) (tied : AreTied es args src) where
  -- the same edges, the same kept
  pub tied_same : new ≡ es → ((j : ℕ) → args' j ≡ args j) → ((j : ℕ) → src' j ≡ src j) → AreTied new args' src'
  tied_same same arguments sources = record {
    passed = λ i a n. (
      λ h. subst (λ xs. Passes xs n a) (sym (arguments i)) ((tied.passed i a n).0 (subst (Among (argument_edge a i n)) same h)),
      λ h. subst (Among (argument_edge a i n)) (sym same) ((tied.passed i a n).1 (subst (λ xs. Passes xs n a) (arguments i) h)),
    );
    aliased = λ i k n. (
      λ h. sources k ∙ (tied.aliased i k n).0 (subst (Among (alias_edge i k n)) same h),
      λ h. subst (Among (alias_edge i k n)) (sym same) ((tied.aliased i k n).1 (sym (sources k) ∙ h)),
    );
  }

  -- edges that are neither
  pub tied_other : (IsSo : Edge → Type 0) → ((d : Edge) → IsSo d → d.label ≡ Label.Dependency) → AreEdges new (λ d. Among d es ⊎ IsSo d) → ((j : ℕ) → args' j ≡ args j) → ((j : ℕ) → src' j ≡ src j) → AreTied new args' src'
  tied_other IsSo label so arguments sources = record {
    passed = λ i a n. (
      λ h. elim ((so (argument_edge a i n)).0 h) [
        | inl old ↦ subst (λ xs. Passes xs n a) (sym (arguments i)) ((tied.passed i a n).0 old)
        | inr is ↦ absurd (no_argument n (label (argument_edge a i n) is))
      ],
      λ h. (so (argument_edge a i n)).1 (inl ((tied.passed i a n).1 (subst (λ xs. Passes xs n a) (arguments i) h))),
    );
    aliased = λ i k n. (
      λ h. elim ((so (alias_edge i k n)).0 h) [ inl old ↦ sources k ∙ (tied.aliased i k n).0 old | inr is ↦ absurd (no_alias n (label (alias_edge i k n) is)) ],
      λ h. (so (alias_edge i k n)).1 (inl ((tied.aliased i k n).1 (sym (sources k) ∙ h))),
    );
  }
    where
      no_argument : (n : Name) → Label.Argument n ≡ Label.Dependency → ⊥
      no_argument n h = absurd (cc h)

      no_alias : (n : Name) → Label.Alias n ≡ Label.Dependency → ⊥
      no_alias n h = absurd (cc h)

  pub tied_alias : (i k : ℕ) (n : Name) → AreEdges new (λ d. Among d es ⊎ (d ≡ alias_edge i k n)) → ((j : ℕ) (m : Name) → HasAlias es j m k → ⊥) → ((j : ℕ) → args' j ≡ args j)
      → ((j : ℕ) → j ≢ k → src' j ≡ src j) → src' k ≡ Some (i, n) → AreTied new args' src'
  tied_alias i k n so free arguments others own = record {
    passed = λ j a m. (
      λ h. elim ((so (argument_edge a j m)).0 h) [
        | inl old ↦ subst (λ xs. Passes xs m a) (sym (arguments j)) ((tied.passed j a m).0 old)
        | inr same ↦ absurd (apart m n (edge_label same))
      ],
      λ h. (so (argument_edge a j m)).1 (inl ((tied.passed j a m).1 (subst (λ xs. Passes xs m a) (arguments j) h))),
    );
    aliased = λ j l m. (λ h. forth j l m ((so (alias_edge j l m)).0 h), λ h. (so (alias_edge j l m)).1 (back j l m h));
  }
    where
      forth : (j l : ℕ) (m : Name) → Among (alias_edge j l m) es ⊎ (alias_edge j l m ≡ alias_edge i k n) → src' l ≡ Some (j, m)
      forth j l m (inl old) = elim (cases_eq l k) [
        | inl e ↦ absurd (free j m (subst (λ x. HasAlias es j m x) e old))
        | inr ne ↦ others l ne ∙ (tied.aliased j l m).0 old
      ]
      forth j l m (inr same) =
          let from : j ≡ i = edge_from same in
          let name : m ≡ n = alias_name m n (edge_label same) in
          ap src' (edge_to same) ∙ own ∙ ap (λ x. some_source x n) (sym from) ∙ ap (some_source j) (sym name)

      back : (j l : ℕ) (m : Name) → src' l ≡ Some (j, m) → Among (alias_edge j l m) es ⊎ (alias_edge j l m ≡ alias_edge i k n)
      back j l m h = elim (cases_eq l k) [
        | inl e ↦
            let r = one_source j i m n (sym h ∙ ap src' e ∙ own) in
            inr (ap (λ x. alias_edge x l m) r.0 ∙ ap (λ x. alias_edge i x m) e ∙ ap (alias_edge i k) r.1)
        | inr ne ↦ inl ((tied.aliased j l m).1 (sym (others l ne) ∙ h))
      ]

  pub tied_argument : (a i : ℕ) (n : Name) → AreEdges new (λ d. Among d es ⊎ (d ≡ argument_edge a i n)) → ((j : ℕ) → j ≢ i → args' j ≡ args j) → PutsPassed (args i) (args' i) n a → ((j : ℕ) → src' j ≡ src j) → AreTied new args' src'
  tied_argument a i n so others put sources = record {
    passed = λ j b m. (λ h. forth j b m ((so (argument_edge b j m)).0 h), λ h. (so (argument_edge b j m)).1 (back j b m h));
    aliased = λ j k m. (
      λ h. elim ((so (alias_edge j k m)).0 h) [ inl old ↦ sources k ∙ (tied.aliased j k m).0 old | inr same ↦ absurd (apart n m (sym (edge_label same))) ],
      λ h. (so (alias_edge j k m)).1 (inl ((tied.aliased j k m).1 (sym (sources k) ∙ h))),
    );
  }
    where
      forth : (j b : ℕ) (m : Name) → Among (argument_edge b j m) es ⊎ (argument_edge b j m ≡ argument_edge a i n) → Passes (args' j) m b
      forth j b m (inl old) = elim (cases_eq j i) [
        | inl e ↦ subst (λ x. Passes (args' x) m b) (sym e) ((put m b).1 (inl (subst (λ x. Passes (args x) m b) e ((tied.passed j b m).0 old))))
        | inr ne ↦ subst (λ xs. Passes xs m b) (sym (others j ne)) ((tied.passed j b m).0 old)
      ]
      forth j b m (inr same) = subst (λ x. Passes (args' x) m b) (sym (edge_to same)) ((put m b).1 (inr (argument_name m n (edge_label same), edge_from same)))

      back : (j b : ℕ) (m : Name) → Passes (args' j) m b → Among (argument_edge b j m) es ⊎ (argument_edge b j m ≡ argument_edge a i n)
      back j b m h = elim (cases_eq j i) [
        | inl e ↦ elim ((put m b).0 (subst (λ x. Passes (args' x) m b) e h)) [
          | inl old ↦ inl ((tied.passed j b m).1 (subst (λ x. Passes (args x) m b) (sym e) old))
          | inr r ↦ inr (ap (λ x. argument_edge x j m) r.1 ∙ ap (λ x. argument_edge a x m) e ∙ ap (argument_edge a i) r.0)
        ]
        | inr ne ↦ inl ((tied.passed j b m).1 (subst (λ xs. Passes xs m b) (others j ne) h))
      ]

  pub tied_unset : (a i : ℕ) (n : Name) → AreEdges new (λ d. Among d es × (d ≢ argument_edge a i n)) → ((j : ℕ) → j ≢ i → args' j ≡ args j) → ((b : ℕ) → Passes (args i) n b → b ≡ a)
      → ((m : Name) (b : ℕ) → Passes (args' i) m b ↔ (Passes (args i) m b × (m ≢ n))) → ((j : ℕ) → src' j ≡ src j) → AreTied new args' src'
  tied_unset a i n so others one taken sources = record {
    passed = λ j b m. (λ h. let r = (so (argument_edge b j m)).0 h in forth j b m r.0 r.1, λ h. (so (argument_edge b j m)).1 (back j b m h));
    aliased = λ j k m. (
      λ h. sources k ∙ (tied.aliased j k m).0 ((so (alias_edge j k m)).0 h).0,
      λ h. (so (alias_edge j k m)).1 ((tied.aliased j k m).1 (sym (sources k) ∙ h), λ same. apart n m (sym (edge_label same))),
    );
  }
    where
      forth : (j b : ℕ) (m : Name) → Among (argument_edge b j m) es → argument_edge b j m ≢ argument_edge a i n → Passes (args' j) m b
      forth j b m old away = elim (cases_eq j i) [
        | inl e ↦
            let was : Passes (args i) m b = subst (λ x. Passes (args x) m b) e ((tied.passed j b m).0 old) in
            let other : m ≢ n = λ same. away (ap (λ x. argument_edge x j m) (one b (subst (λ x. Passes (args i) x b) same was)) ∙ ap (λ x. argument_edge a x m) e ∙ ap (argument_edge a i) same) in
            subst (λ x. Passes (args' x) m b) (sym e) ((taken m b).1 (was, other))
        | inr ne ↦ subst (λ xs. Passes xs m b) (sym (others j ne)) ((tied.passed j b m).0 old)
      ]

      back : (j b : ℕ) (m : Name) → Passes (args' j) m b → Among (argument_edge b j m) es × (argument_edge b j m ≢ argument_edge a i n)
      back j b m h = elim (cases_eq j i) [
        | inl e ↦
            let r = (taken m b).0 (subst (λ x. Passes (args' x) m b) e h) in
            ((tied.passed j b m).1 (subst (λ x. Passes (args x) m b) (sym e) r.0), λ same. r.1 (argument_name m n (edge_label same)))
        | inr ne ↦ ((tied.passed j b m).1 (subst (λ xs. Passes xs m b) (others j ne) h), λ same. ne (edge_to same))
      ]

  pub tied_left : (gone : List ℕ) → AreEdges new (λ d. Among d es × (Stays gone d.from × Stays gone d.to)) → ((i a : ℕ) (n : Name) → Passes (args' i) n a ↔ (Passes (args i) n a × (Stays gone a × Stays gone i)))
      → ((k i : ℕ) (n : Name) → (src' k ≡ Some (i, n)) ↔ ((src k ≡ Some (i, n)) × (Stays gone i × Stays gone k))) → AreTied new args' src'
  tied_left gone so arguments sources = record {
    passed = λ i a n. (
      λ h. let r = (so (argument_edge a i n)).0 h in (arguments i a n).1 ((tied.passed i a n).0 r.0, r.1),
      λ h. let r = (arguments i a n).0 h in (so (argument_edge a i n)).1 ((tied.passed i a n).1 r.0, r.1),
    );
    aliased = λ i k n. (
      λ h. let r = (so (alias_edge i k n)).0 h in (sources k i n).1 ((tied.aliased i k n).0 r.0, r.1),
      λ h. let r = (sources k i n).0 h in (so (alias_edge i k n)).1 ((tied.aliased i k n).1 r.0, r.1),
    );
  }
