-- The edges that what is kept of nodes tells, and how one of them comes and goes.
use Rattle.std.proofs.Common.{◌≡◌, ◌≢◌, ◌⊎◌, ◌+◌, ℕ, zero, suc, List, [], ◌∷◌, ◌++◌, map, refl, sym, ap, ◌∙◌, subst, inl, inr, arith}
use Rattle.std.proofs.lemmas.Bool.{cases_eq}
use Rattle.wac_types_base.specs.Entries.{Name}
use Rattle.wac_types_base.specs.Graph.{Among}
use Rattle.wac_types_base.proofs.Lists.{among_split, among_mapped}
use Rattle.wac_types_base.proofs.Adding.{Among-left, Among-right}
use Rattle.wac_graph_core.specs.declared.edge.Edge.{Edge}
use Rattle.wac_graph_core.specs.declared.edge.Label.{Label}
use Rattle.wac_graph_core.specs.declared.tie.Tie.{Tie}
use Rattle.wac_graph_core.specs.declared.ties.Ties.{Ties}
use Rattle.wac_graph_core.specs.Edges.{alias_edge, argument_edge, HasAlias, HasArgument, AreEdges}
use Rattle.wac_graph_core.specs.Ties.{edge_of, label_of, end_of, edges_from, edges_in, dependants_at, AreFrom}
use Rattle.wac_graph_core.specs.TieSteps.{PutsTie, there, added, TakesTie}

pub from_mapped : {X Y : Type 0} (f : X → Y) (xs : List X) (y : Y) → Among y (map f xs) → (x : X) × Among x xs × (y ≡ f x)
from_mapped f [] y m = absurd m
from_mapped f (x ∷ xs) y (inl e) = (x, inl refl, e)
from_mapped f (x ∷ xs) y (inr m) = let r = from_mapped f xs y m in (r.0, inr r.1, r.2)

-- ---- from what is kept to edges, and back

edge_here : (ts : List Ties) (b j : ℕ) (x : Tie × ℕ) → Among x (dependants_at ts j) → Among (edge_of (b + j) x) (edges_from b ts)
edge_here [] b j x m = absurd m
edge_here (t ∷ ts) b zero x m =
    let same : b ≡ b + 0 = omega arith in
    subst (λ k. Among (edge_of k x) (edges_from b (t ∷ ts))) same (Among-left (edge_of b x) (map (edge_of b) t.dependants.items) (edges_from (b + 1) ts) (among_mapped (edge_of b) t.dependants.items x m))
edge_here (t ∷ ts) b (suc j) x m =
    let same : b + 1 + j ≡ b + suc j = omega arith in
    subst (λ k. Among (edge_of k x) (edges_from b (t ∷ ts))) same (Among-right (edge_of (b + 1 + j) x) (map (edge_of b) t.dependants.items) (edges_from (b + 1) ts) (edge_here ts (b + 1) j x m))

edge_there : (ts : List Ties) (b : ℕ) (d : Edge) → Among d (edges_from b ts) → (j : ℕ) × (x : Tie × ℕ) × Among x (dependants_at ts j) × (d ≡ edge_of (b + j) x)
edge_there [] b d m = absurd m
edge_there (t ∷ ts) b d m = elim (among_split d (map (edge_of b) t.dependants.items) (edges_from (b + 1) ts) m) [
  | inl h ↦
      let r = from_mapped (edge_of b) t.dependants.items d h in
      let same : b ≡ b + 0 = omega arith in
      (0, r.0, r.1, r.2 ∙ ap (λ k. edge_of k r.0) same)
  | inr h ↦
      let r = edge_there ts (b + 1) d h in
      let same : b + 1 + r.0 ≡ b + suc r.0 = omega arith in
      (suc r.0, r.1, r.2, r.3 ∙ ap (λ k. edge_of k r.1) same)
]

pub to_edge : (ts : List Ties) (i : ℕ) (x : Tie × ℕ) → Among x (dependants_at ts i) → Among (edge_of i x) (edges_in ts)
to_edge ts i x m = let same : 0 + i ≡ i = omega arith in subst (λ k. Among (edge_of k x) (edges_in ts)) same (edge_here ts 0 i x m)

-- an edge by what is kept of the node that it leaves
pub record IsKept (ts : List Ties) (d : Edge) : Type 0 where
  pub tie : Tie × ℕ
  pub there : Among tie (dependants_at ts d.from)
  pub is : d ≡ edge_of d.from tie

pub of_edge : (ts : List Ties) (d : Edge) → Among d (edges_in ts) → IsKept ts d
of_edge ts d m =
    let r = edge_there ts 0 d m in
    let zero_more : 0 + r.0 ≡ r.0 = omega arith in
    let from : d.from ≡ r.0 = ap (λ (e : Edge). e.from) r.3 ∙ zero_more in
    record { tie = r.1; there = subst (λ k. Among r.1 (dependants_at ts k)) (sym from) r.2; is = r.3 ∙ ap (λ k. edge_of k r.1) (zero_more ∙ sym from) }

pub kept_edge : (ts : List Ties) (d : Edge) → IsKept ts d → Among d (edges_in ts)
kept_edge ts d k = subst (λ e. Among e (edges_in ts)) (sym k.is) (to_edge ts d.from k.tie k.there)

-- exactly what hangs on a node
pub from_node : (ts : List Ties) (i : ℕ) (xs : List (Tie × ℕ)) → xs ≡ dependants_at ts i → AreFrom (edges_in ts) i xs
from_node ts i xs same d = (
  λ h.
      let k = of_edge ts d h.0 in
      let here : Among k.tie xs = subst (Among k.tie) (ap (dependants_at ts) h.1 ∙ sym same) k.there in
      subst (λ e. Among e (map (edge_of i) xs)) (sym (k.is ∙ ap (λ j. edge_of j k.tie) h.1)) (among_mapped (edge_of i) xs k.tie here),
  λ m.
      let r = from_mapped (edge_of i) xs d m in
      (subst (λ e. Among e (edges_in ts)) (sym r.2) (to_edge ts i r.0 (subst (Among r.0) same r.1)), ap (λ (e : Edge). e.from) r.2),
)

-- ---- which tie an edge is

alias_by : (i k : ℕ) (n : Name) (t : Tie) (j : ℕ) → alias_edge i k n ≡ edge_of i (t, j) → (t ≡ Tie.Alias n) × (j ≡ k)
alias_by i k n (Tie.Alias m) j e =
    let to : j ≡ k = sym (ap (λ (d : Edge). d.to) e) in
    let label : Label.Alias n ≡ Label.Alias m = ap (λ (d : Edge). d.label) e in
    let name : m ≡ n = cc label in
    (ap Tie.Alias name, to)
alias_by i k n (Tie.Argument l m) j e = let label : Label.Alias n ≡ Label.Argument m = ap (λ (d : Edge). d.label) e in absurd (cc label)
alias_by i k n (Tie.Dependency l) j e = let label : Label.Alias n ≡ Label.Dependency = ap (λ (d : Edge). d.label) e in absurd (cc label)

argument_by : (a i : ℕ) (n : Name) (t : Tie) (j : ℕ) → argument_edge a i n ≡ edge_of a (t, j) → t ≡ Tie.Argument i n
argument_by a i n (Tie.Alias m) j e = let label : Label.Argument n ≡ Label.Alias m = ap (λ (d : Edge). d.label) e in absurd (cc label)
argument_by a i n (Tie.Argument l m) j e =
    let to : l ≡ i = sym (ap (λ (d : Edge). d.to) e) in
    let label : Label.Argument n ≡ Label.Argument m = ap (λ (d : Edge). d.label) e in
    let name : m ≡ n = cc label in
    ap (λ x. Tie.Argument l x) name ∙ ap (λ y. Tie.Argument y n) to
argument_by a i n (Tie.Dependency l) j e = let label : Label.Argument n ≡ Label.Dependency = ap (λ (d : Edge). d.label) e in absurd (cc label)

pub alias_tie : (ts : List Ties) (i k : ℕ) (n : Name) → HasAlias (edges_in ts) i n k → Among (Tie.Alias n, k) (dependants_at ts i)
alias_tie ts i k n m =
    let h = of_edge ts (alias_edge i k n) m in
    let r = alias_by i k n h.tie.0 h.tie.1 h.is in
    subst (λ t. Among (t, k) (dependants_at ts i)) r.0 (subst (λ j. Among (h.tie.0, j) (dependants_at ts i)) r.1 h.there)

pub tie_alias : (ts : List Ties) (i k : ℕ) (n : Name) → Among (Tie.Alias n, k) (dependants_at ts i) → HasAlias (edges_in ts) i n k
tie_alias ts i k n m = to_edge ts i (Tie.Alias n, k) m

pub argument_tie : (ts : List Ties) (a i : ℕ) (n : Name) → HasArgument (edges_in ts) i n a → (j : ℕ) × Among (Tie.Argument i n, j) (dependants_at ts a)
argument_tie ts a i n m =
    let h = of_edge ts (argument_edge a i n) m in
    (h.tie.1, subst (λ t. Among (t, h.tie.1) (dependants_at ts a)) (argument_by a i n h.tie.0 h.tie.1 h.is) h.there)

-- ---- one edge more, one less

module _ (ts us : List Ties) (i : ℕ) (others : (j : ℕ) → j ≢ i → dependants_at us j ≡ dependants_at ts j) where
  elsewhere : (d : Edge) → d.from ≢ i → IsKept ts d → IsKept us d
  elsewhere d ne k = record { tie = k.tie; there = subst (Among k.tie) (sym (others d.from ne)) k.there; is = k.is }

  elsewhere_back : (d : Edge) → d.from ≢ i → IsKept us d → IsKept ts d
  elsewhere_back d ne k = record { tie = k.tie; there = subst (Among k.tie) (others d.from ne) k.there; is = k.is }

  module _ (t : Tie) (k : ℕ) (put : PutsTie (dependants_at ts i) (dependants_at us i) t k) (free : (j : ℕ) → Among (t, j) (dependants_at ts i) → end_of t j ≡ end_of t k) where
    still : PutsTie (dependants_at ts i) (dependants_at us i) t k → (x : Tie × ℕ) → Among x (dependants_at ts i) → Among x (dependants_at us i)
    still (there j m same) x h = subst (Among x) (sym same) h
    still (added so) x h = (so x).1 (inl h)

    only : PutsTie (dependants_at ts i) (dependants_at us i) t k → (x : Tie × ℕ) → Among x (dependants_at us i) → Among x (dependants_at ts i) ⊎ (x ≡ (t, k))
    only (there j m same) x h = inl (subst (Among x) same h)
    only (added so) x h = (so x).0 h

    now_in : PutsTie (dependants_at ts i) (dependants_at us i) t k → Among (edge_of i (t, k)) (edges_in us)
    now_in (there j m same) = subst (λ (e : ℕ). Among (record { from = i; to = e; label = label_of t }) (edges_in us)) (free j m) (to_edge us i (t, j) (subst (Among (t, j)) (sym same) m))
    now_in (added so) = to_edge us i (t, k) ((so (t, k)).1 (inr refl))

    pub puts_edge : AreEdges (edges_in us) (λ d. Among d (edges_in ts) ⊎ (d ≡ edge_of i (t, k)))
    puts_edge d = (λ m. forth (of_edge us d m), back)
      where
        here : (d.from ≡ i) → (h : IsKept us d) → Among h.tie (dependants_at ts i) ⊎ (h.tie ≡ (t, k)) → Among d (edges_in ts) ⊎ (d ≡ edge_of i (t, k))
        here e h (inl old) = inl (kept_edge ts d (record { tie = h.tie; there = subst (λ j. Among h.tie (dependants_at ts j)) (sym e) old; is = h.is }))
        here e h (inr new) = inr (h.is ∙ ap (λ j. edge_of j h.tie) e ∙ ap (edge_of i) new)

        forth : IsKept us d → Among d (edges_in ts) ⊎ (d ≡ edge_of i (t, k))
        forth h = elim (cases_eq d.from i) [
          | inl e ↦ here e h (only put h.tie (subst (λ j. Among h.tie (dependants_at us j)) e h.there))
          | inr ne ↦ inl (kept_edge ts d (elsewhere_back d ne h))
        ]

        old_in : IsKept ts d → Among d (edges_in us)
        old_in h = elim (cases_eq d.from i) [
          | inl e ↦ kept_edge us d (record { tie = h.tie; there = subst (λ j. Among h.tie (dependants_at us j)) (sym e) (still put h.tie (subst (λ j. Among h.tie (dependants_at ts j)) e h.there)); is = h.is })
          | inr ne ↦ kept_edge us d (elsewhere d ne h)
        ]

        back : Among d (edges_in ts) ⊎ (d ≡ edge_of i (t, k)) → Among d (edges_in us)
        back (inl m) = old_in (of_edge ts d m)
        back (inr e) = subst (λ x. Among x (edges_in us)) (sym e) (now_in put)

  pub takes_argument : (k : ℕ) (n : Name) → TakesTie (dependants_at ts i) (dependants_at us i) (Tie.Argument k n) → AreEdges (edges_in us) (λ d. Among d (edges_in ts) × (d ≢ argument_edge i k n))
  takes_argument k n taken d = (λ m. forth (of_edge us d m), λ h. back h.1 (of_edge ts d h.0))
    where
      forth : IsKept us d → Among d (edges_in ts) × (d ≢ argument_edge i k n)
      forth h = elim (cases_eq d.from i) [
        | inl e ↦
            let r = (taken h.tie).0 (subst (λ j. Among h.tie (dependants_at us j)) e h.there) in (
              kept_edge ts d (record { tie = h.tie; there = subst (λ j. Among h.tie (dependants_at ts j)) (sym e) r.0; is = h.is }),
              λ same. r.1 (argument_by i k n h.tie.0 h.tie.1 (sym same ∙ h.is ∙ ap (λ j. edge_of j h.tie) e)),
            )
        | inr ne ↦ (kept_edge ts d (elsewhere_back d ne h), λ same. ne (ap (λ (x : Edge). x.from) same))
      ]

      back : d ≢ argument_edge i k n → IsKept ts d → Among d (edges_in us)
      back away h = elim (cases_eq d.from i) [
        | inl e ↦
            let other : h.tie.0 ≢ Tie.Argument k n = λ same. away (h.is ∙ ap (λ j. edge_of j h.tie) e ∙ ap (λ s. edge_of i (s, h.tie.1)) same) in
            let left = (taken h.tie).1 (subst (λ j. Among h.tie (dependants_at ts j)) e h.there, other) in
            kept_edge us d (record { tie = h.tie; there = subst (λ j. Among h.tie (dependants_at us j)) (sym e) left; is = h.is })
        | inr ne ↦ kept_edge us d (elsewhere d ne h)
      ]

-- ---- the same edges

pub same_from : (ts us : List Ties) (b : ℕ) → ((j : ℕ) → dependants_at us j ≡ dependants_at ts j) → edges_from b us ≡ edges_from b ts
same_from [] [] b same = refl
same_from [] (u ∷ us) b same = ap (λ xs. map (edge_of b) xs ++ edges_from (b + 1) us) (same 0) ∙ same_from [] us (b + 1) (λ j. same (suc j))
same_from (t ∷ ts) [] b same = sym (ap (λ xs. map (edge_of b) xs ++ edges_from (b + 1) ts) (sym (same 0)) ∙ sym (same_from ts [] (b + 1) (λ j. same (suc j))))
same_from (t ∷ ts) (u ∷ us) b same =
    ap (λ xs. map (edge_of b) xs ++ edges_from (b + 1) us) (same 0) ∙ ap (λ es. map (edge_of b) t.dependants.items ++ es) (same_from ts us (b + 1) (λ j. same (suc j)))
