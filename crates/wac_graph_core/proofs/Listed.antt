-- The nodes of a map one after another, by rising index.
use Rattle.std.proofs.Common.{◌≡◌, ◌↔◌, ℕ, ◌<◌, Bool, true, false, List, [], ◌∷◌, ◌++◌, Option, Some, cond, refl, sym, ap, subst, ◌∙◌, inl, inr, arith, IsSome}
use Rattle.std.specs.Prelude.{T, ◌&&◌}
use Rattle.std.proofs.lemmas.Bool.{cases_eq}
use Rattle.std.proofs.lemmas.Option.{same_Some}
use Rattle.std.specs.Ordering.{nat_cmp, eq_by_cmp, is_lt}
use Rattle.std.specs.Cmp.{nat_cmp_total, nat_cmp_is, ranked}
use Rattle.std.specs.declared.cmp.Ordering.{Ordering}
use Rattle.std.specs.FinMap as map
use Rattle.std.specs.FinMap.{find, put, is_sorted}
use Rattle.std.specs.FinMap.Entries.{by_order, below_all}
use Rattle.wac_types_base.specs.Graph.{Among}
use Rattle.wac_graph_core.specs.Nodes.{NodeData}
use Rattle.wac_graph_core.specs.NodeMaps.{NodeMap, AreBelow}
use Rattle.wac_graph_core.proofs.NodeMap.{tied, apart}

pub both_parts : (a b : Bool) → T (a && b) → T a × T b
both_parts true b h = (tt, h)
both_parts false b h = absurd h

is_less : (k j : ℕ) → T (is_lt (nat_cmp k j)) → k < j
is_less k j h = by_rank (nat_cmp k j) refl h
  where
    by_rank : (o : Ordering) → o ≡ nat_cmp k j → T (is_lt o) → k < j
    by_rank Ordering.Less e h = ranked k j Ordering.Less e
    by_rank Ordering.Equal e h = absurd h
    by_rank Ordering.Greater e h = absurd h

pub first_below : (k j : ℕ) (x : NodeData) (es : List (ℕ × NodeData)) → T (below_all nat_cmp k es) → Among (j, x) es → k < j
first_below k j x [] low m = absurd m
first_below k j x (e ∷ es) low (inl same) = subst (λ i. k < i) (sym (ap (λ (p : ℕ × NodeData). p.0) same)) (is_less k e.0 (both_parts _ _ low).0)
first_below k j x (e ∷ es) low (inr rest) = first_below k j x es (both_parts _ _ low).1 rest

found : (k : ℕ) (x : NodeData) (es : List (ℕ × NodeData)) → T (is_sorted nat_cmp es) → Among (k, x) es → find nat_cmp k es ≡ Some x
found k x [] rising m = absurd m
found k x (e ∷ es) rising (inl same) =
    ap (λ (p : ℕ × NodeData). find nat_cmp k (p ∷ es)) (sym same) ∙ ap (λ b. cond b (Some x) (find nat_cmp k es)) (tied k)
found k x (e ∷ es) rising (inr rest) =
    let parts = both_parts _ _ rising in
    let low : e.0 < k = first_below e.0 k x es parts.0 rest in
    ap (λ b. cond b (Some e.1) (find nat_cmp k es)) (apart k e.0 (λ same. absurd (omega (arith, low, same)))) ∙ found k x es parts.1 rest

first_is : (b : Bool) (y x : NodeData) (o : Option NodeData) → b ≡ true → cond b (Some y) o ≡ Some x → y ≡ x
first_is true y x o is at = same_Some y x at
first_is false y x o is at = absurd (cc is)

listed : (k : ℕ) (x : NodeData) (es : List (ℕ × NodeData)) → find nat_cmp k es ≡ Some x → Among (k, x) es
listed k x [] at = absurd (cc at)
listed k x (e ∷ es) at = elim (cases_eq k e.0) [
  | inl same ↦
      let here : eq_by_cmp nat_cmp k e.0 ≡ true = subst (λ j. eq_by_cmp nat_cmp k j ≡ true) same (tied k) in
      let node : e.1 ≡ x = first_is (eq_by_cmp nat_cmp k e.0) e.1 x (find nat_cmp k es) here at in
      inl (ap (λ j. (j, x)) same ∙ ap (λ y. (e.0, y)) (sym node))
  | inr other ↦ inr (listed k x es (sym (ap (λ b. cond b (Some e.1) (find nat_cmp k es)) (apart k e.0 other)) ∙ at))
]

-- an entry is listed exactly where its node stands
pub Among-entries : (nodes : NodeMap) (k : ℕ) (x : NodeData) → Among (k, x) (map.entries nodes) ↔ (map.get nodes k ≡ Some x)
Among-entries nodes k x = (
  λ there. map.get-entries nodes k ∙ found k x (map.entries nodes) (map.entries_sorted nodes) there,
  λ at. listed k x (map.entries nodes) (sym (map.get-entries nodes k) ∙ at),
)

-- an entry behind all others is put last
put_last : (k : ℕ) (x : NodeData) (es : List (ℕ × NodeData)) → ((j : ℕ) (y : NodeData) → Among (j, y) es → j < k) → put nat_cmp k x es ≡ es ++ (k, x) ∷ []
put_last k x [] below = refl
put_last k x (e ∷ es) below =
    ap (λ o. by_order o ((k, x) ∷ e ∷ es) ((e.0, x) ∷ es) (e ∷ put nat_cmp k x es)) (sym (nat_cmp_is k e.0 Ordering.Greater (below e.0 e.1 (inl refl))))
    ∙ ap (λ l. e ∷ l) (put_last k x es (λ j y m. below j y (inr m)))

-- a node above all others is listed behind them
pub listed_last : (nodes : NodeMap) (k : ℕ) (x : NodeData) → AreBelow nodes k → map.entries (map.insert nodes k x) ≡ map.entries nodes ++ (k, x) ∷ []
listed_last nodes k x below =
    map.entries-insert nat_cmp_total nodes k x
    ∙ put_last k x (map.entries nodes) (λ j y there. below j (subst IsSome (sym ((Among-entries nodes j y).0 there)) refl))
