-- Entries under keys that are compared by a test.
use Rattle.std.specs.Map.{lookup}
use Rattle.std.proofs.Common.{rules, ◌≡◌, ◌↔◌, ℕ, Bool, true, false, cond, IsTrue, List, [], ◌∷◌, ◌++◌, Some, None, inl, inr, refl, sym, ap}
use Rattle.indexmap.specs.IndexMap.{insert_entry}
use Rattle.wac_types_base.specs.Entries.{names_of}
use Rattle.wac_types_base.specs.Graph.{Among}
use Rattle.wac_graph_core.specs.declared.ids.PackageId.{PackageId}
use Rattle.wac_graph_core.specs.contracts.ids.NodeIdPartialEq.TheImpl as node
use Rattle.wac_graph_core.specs.contracts.ids.PackageIdPartialEq.TheImpl as package_id

pub same_node : (a b : ℕ) → IsTrue (node.eq-value.it a b) ↔ (a ≡ b)
same_node a b = search rules

pub same_package : (a b : PackageId) → IsTrue (package_id.eq-value.it a b) ↔ (a ≡ b)
same_package a b = search rules

module _ {K X : Type 0} (eq : K → K → Bool) (decides : (a b : K) → IsTrue (eq a b) ↔ (a ≡ b)) where
  -- what is found is there
  pub found_among : (es : List (K × X)) (k : K) (x : X) → lookup (eq k) es ≡ Some x → Among (k, x) es
  found_among [] k x e = absurd (cc e)
  found_among (y ∷ es) k x e = go (eq k y.0) refl e (found_among es k x)
    where
      go : (b : Bool) → eq k y.0 ≡ b → cond b (Some y.1) (lookup (eq k) es) ≡ Some x → (lookup (eq k) es ≡ Some x → Among (k, x) es) → Among (k, x) (y ∷ es)
      go true q r rest = let key : k ≡ y.0 = (decides k y.0).0 q in let value : y.1 ≡ x = cc r in inl (λ i. (key i, sym value i))
      go false q r rest = inr (rest r)

  -- and what is not found is not
  pub none_among : (es : List (K × X)) (k : K) → lookup (eq k) es ≡ None → Among k (names_of es) → ⊥
  none_among [] k e m = m
  none_among (y ∷ es) k e m = go (eq k y.0) refl e m (none_among es k)
    where
      go : (b : Bool) → eq k y.0 ≡ b → cond b (Some y.1) (lookup (eq k) es) ≡ None → Among k (names_of (y ∷ es)) → (lookup (eq k) es ≡ None → Among k (names_of es) → ⊥) → ⊥
      go true q r n rest = absurd (cc r)
      go false q r (inl s) rest = absurd (cc (q, (decides k y.0).1 s))
      go false q r (inr n) rest = rest r n

  -- an entry under a new key stands behind the others
  pub inserted_new : (es : List (K × X)) (k : K) (x : X) → (Among k (names_of es) → ⊥) → insert_entry eq es k x ≡ es ++ (k, x) ∷ []
  inserted_new [] k x new = refl
  inserted_new (y ∷ es) k x new = go (eq k y.0) refl (inserted_new es k x (λ m. new (inr m)))
    where
      go : (b : Bool) → eq k y.0 ≡ b → insert_entry eq es k x ≡ es ++ (k, x) ∷ [] → (cond b ((y.0, x) ∷ es) (y ∷ insert_entry eq es k x)) ≡ y ∷ (es ++ (k, x) ∷ [])
      go true q rest = absurd (new (inl ((decides k y.0).0 q)))
      go false q rest = ap (λ l. y ∷ l) rest
