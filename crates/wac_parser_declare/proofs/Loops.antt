-- What a loop over a list keeps: what is left, over what was found, gives the same as all.
use Rattle.std.proofs.Common.{◌≡◌, ℕ, ◌+◌, ◌<◌, ◌≤◌, List, [], ◌∷◌, ◌++◌, map, length, get_or, drop, Option, Some, Ok, Err, refl, sym, ap, subst, ◌∙◌}
use Rattle.std.proofs.lemmas.List.{drop_more, drop_all}
use Rattle.wac_types_base.specs.declared.item.ValueType.{ValueType}
use Rattle.wac_types_base.specs.Record.{Collection}
use Rattle.wac_types_base.specs.Stated.{Stated}
use Rattle.wac_parser_tree.specs.Trees as t
use Rattle.wac_parser_refusals.specs.declared.refusal.Refusal.{Refusal}
use Rattle.wac_parser_refusals.specs.Causes.{Answer, ◌>>=◌, each}
use Rattle.wac_parser_declare.specs.Scope.{Scope}
use Rattle.wac_parser_declare.specs.ValueTypes.{value, values}
use Rattle.wac_parser_refusals.specs.Outcomes.{IsHeld, IsRefusal}
use Rattle.wac_parser_declare.specs.Holding.{IsValue}
use Rattle.wac_parser_refusals.proofs.Outcomes.{then_refused}

-- a step that gave something
pub step_by : {S A B : Type 0} (h : S → B → Type 0) (k : S → Answer A) (q : Answer S) (b : B) → IsHeld h q b → (s : S) × h s b × ((q >>= k) ≡ k s)
step_by h k (Ok s) b x = (s, x, refl)
step_by h k (Err c) b x = absurd x

module _ {S A X : Type 0} (f : S → A → Answer S) (view : X → A) (xs : List X) (i : ℕ) where
  pub each_next : {B : Type 0} (h : S → B → Type 0) (s : S) (d : X) (b : B) → i < length xs → IsHeld h (f s (view (get_or xs i d))) b
      → (u : S) × h u b × (each f s (map view (drop i xs)) ≡ each f u (map view (drop (i + 1) xs)))
  each_next h s d b lt x =
      let n = step_by h (λ u. each f u (map view (drop (i + 1) xs))) (f s (view (get_or xs i d))) b x in
      (n.0, n.1, ap (λ (ys : List X). each f s (map view ys)) (drop_more xs i d lt) ∙ n.2)

  pub each_stops : (s : S) (d : X) (e : Refusal) → i < length xs → IsRefusal (f s (view (get_or xs i d))) e → IsRefusal (each f s (map view (drop i xs))) e
  each_stops s d e lt x =
      subst (λ (ys : List X). IsRefusal (each f s (map view ys)) e) (sym (drop_more xs i d lt))
      (then_refused (λ u. each f u (map view (drop (i + 1) xs))) (f s (view (get_or xs i d))) e x)

  -- a step of what is left, of all
  pub each_refused_whole : (q : Answer S) (s : S) (d : X) (e : Refusal) → q ≡ each f s (map view (drop i xs)) → i < length xs → d ≡ get_or xs i d → IsRefusal (f s (view d)) e → IsRefusal q e
  each_refused_whole q s d e whole lt is h = subst (λ (p : Answer S). IsRefusal p e) (sym whole) (each_stops s d e lt (subst (λ (x : X). IsRefusal (f s (view x)) e) is h))

  pub each_ends : (s : S) → length xs ≤ i → each f s (map view (drop i xs)) ≡ Ok s
  each_ends s h = ap (λ (ys : List X). each f s (map view ys)) (drop_all i xs h)

-- the members of a tuple
module _ {X : Type 0} (ns : Scope) (view : X → t.Ty) (xs : List X) (i : ℕ) where
  pub members_next : (c : Collection) (os : List (Option Stated)) (d : X) (v : ValueType) → i < length xs → IsHeld (IsValue c) (value ns (view (get_or xs i d))) v
      → (u : Stated) × IsValue c u v × (values ns os (t.tys (map view (drop i xs))) ≡ values ns (os ++ Some u ∷ []) (t.tys (map view (drop (i + 1) xs))))
  members_next c os d v lt x =
      let n = step_by (IsValue c) (λ u. values ns (os ++ Some u ∷ []) (t.tys (map view (drop (i + 1) xs)))) (value ns (view (get_or xs i d))) v x in
      (n.0, n.1, ap (λ (ys : List X). values ns os (t.tys (map view ys))) (drop_more xs i d lt) ∙ n.2)

  pub members_stop : (os : List (Option Stated)) (d : X) (e : Refusal) → i < length xs → IsRefusal (value ns (view (get_or xs i d))) e → IsRefusal (values ns os (t.tys (map view (drop i xs)))) e
  members_stop os d e lt x =
      subst (λ (ys : List X). IsRefusal (values ns os (t.tys (map view ys))) e) (sym (drop_more xs i d lt))
      (then_refused (λ u. values ns (os ++ Some u ∷ []) (t.tys (map view (drop (i + 1) xs)))) (value ns (view (get_or xs i d))) e x)

  pub members_end : (os : List (Option Stated)) → length xs ≤ i → values ns os (t.tys (map view (drop i xs))) ≡ Ok os
  members_end os h = ap (λ (ys : List X). values ns os (t.tys (map view ys))) (drop_all i xs h)

  -- the same from a state that says it in another scope and of another item
  pub members_refused : (os : List (Option Stated)) (ms : Scope) (d : X) (e : Refusal) → i < length xs → ms ≡ ns → d ≡ get_or xs i d → IsRefusal (value ms (view d)) e → IsRefusal (values ns os (t.tys (map view (drop i xs)))) e
  members_refused os ms d e lt same is h =
      members_stop os d e lt (subst (λ (y : X). IsRefusal (value ns (view y)) e) is (subst (λ (n : Scope). IsRefusal (value n (view d)) e) same h))

  pub members_refused_whole : (q : Answer (List (Option Stated))) (os : List (Option Stated)) (ms : Scope) (d : X) (e : Refusal) → q ≡ values ns os (t.tys (map view (drop i xs))) → i < length xs → ms ≡ ns → d ≡ get_or xs i d
      → IsRefusal (value ms (view d)) e → IsRefusal q e
  members_refused_whole q os ms d e whole lt same is h = subst (λ (q : Answer (List (Option Stated))). IsRefusal q e) (sym whole) (members_refused os ms d e lt same is h)
