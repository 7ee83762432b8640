-- The first name that each node is exported under.
use Rattle.std.specs.Map.{lookup}
use Rattle.std.specs.Prelude.{unwrap_or}
use Rattle.std.proofs.Common.{rules, ◌≡◌, ◌≢◌, ◌⊎◌, ◌↔◌, IsTrue, ◌==◌, ℕ, ◌+◌, Bool, true, false, true≢false, is_some, cond, List, [], ◌∷◌, drop, length, ◌≤◌, slice_get, Option, Some, None, refl, sym, ap, ◌∙◌, inl, inr}
use Rattle.wac_types_base.specs.Entries.{Name}
use Rattle.wac_types_base.proofs.Used.{drop_next}
use Rattle.wac_types_base.proofs.Replacing.{same_number}
use Rattle.wac_types_base.proofs.Lists.{drop_all}
use Rattle.wac_graph_core.specs.contracts.ids.NodeIdPartialEq.TheImpl.{eq-value}
use Rattle.wac_graph_core.proofs.Found.{eq_same, eq_false}
use Rattle.wac_graph_asks.specs.Graphs.{first_export}
use Rattle.wac_graph_asks.specs.AskedNodes.{NamesFirst}

same_node : (a b : ℕ) → IsTrue (eq-value.it a b) ↔ (a ≡ b)
same_node a b = search rules

other_node : (a b : ℕ) → b ≢ a → eq-value.it a b ≡ false
other_node a b other = go (eq-value.it a b) refl
  where
    go : (r : Bool) → eq-value.it a b ≡ r → r ≡ false
    go true e = absurd (other (sym ((same_node a b).0 e)))
    go false e = refl

node_cases : (a b : ℕ) → (a ≡ b) ⊎ (a ≢ b)
node_cases a b = go (a == b) refl
  where
    go : (r : Bool) → (a == b) ≡ r → (a ≡ b) ⊎ (a ≢ b)
    go true e = inl (same_number a b e)
    go false e = inr (λ same. true≢false (sym (ap (λ c. a == c) (sym same) ∙ eq_same a) ∙ e))

-- it had a name
pub was_named : (es : List (ℕ × Name)) (k : ℕ) (n : Name) → is_some (lookup (eq-value.it k) es) ≡ true → NamesFirst es es k n
was_named es k n h = record { own = go (lookup (eq-value.it k) es) h; others = λ j d. refl }
  where
    go : (o : Option Name) → is_some o ≡ true → o ≡ Some (unwrap_or o n)
    go None e = absurd (true≢false (sym e))
    go (Some m) e = refl

-- it had none
pub is_named : (es fs : List (ℕ × Name)) (k : ℕ) (n : Name) → is_some (lookup (eq-value.it k) es) ≡ false → lookup (eq-value.it k) fs ≡ Some n → ((j : ℕ) → eq-value.it k j ≡ false → lookup (eq-value.it j) fs ≡ lookup (eq-value.it j) es) → NamesFirst es fs k n
is_named es fs k n none own others = record { own = own ∙ sym (go (lookup (eq-value.it k) es) none); others = λ j d. others j (other_node k j d) }
  where
    go : (o : Option Name) → is_some o ≡ false → Some (unwrap_or o n) ≡ Some n
    go None e = refl
    go (Some m) e = absurd (true≢false e)

-- a node without name gets the first of those that are left
abbrev pub GetsFirst : List (ℕ × Name) → List (Name × ℕ) → List (Name × ℕ) → Type 0
GetsFirst es left exports = (k : ℕ) → unwrap_or (lookup (eq-value.it k) es) (first_export left k) ≡ first_export exports k

pub none_named : (es : List (ℕ × Name)) (exports : List (Name × ℕ)) → es ≡ [] → GetsFirst es exports exports
none_named es exports is k = ap (λ l. unwrap_or (lookup (eq-value.it k) l) (first_export exports k)) is

pub next_named : (es fs : List (ℕ × Name)) (exports : List (Name × ℕ)) (i : ℕ) (n : Name) (j : ℕ) → GetsFirst es (drop i exports) exports → slice_get exports i ≡ Some (n, j) → NamesFirst es fs j n → GetsFirst fs (drop (i + 1) exports) exports
next_named es fs exports i n j h at named k = go (node_cases k j)
  where
    left : drop i exports ≡ (n, j) ∷ drop (i + 1) exports
    left = drop_next exports i (n, j) at

    before : unwrap_or (lookup (eq-value.it k) es) (cond (j == k) n (first_export (drop (i + 1) exports) k)) ≡ first_export exports k
    before = sym (ap (λ l. unwrap_or (lookup (eq-value.it k) es) (first_export l k)) left) ∙ h k

    go : (k ≡ j) ⊎ (k ≢ j) → unwrap_or (lookup (eq-value.it k) fs) (first_export (drop (i + 1) exports) k) ≡ first_export exports k
    go (inl same) =
        ap (λ o. unwrap_or o (first_export (drop (i + 1) exports) k)) (ap (λ m. lookup (eq-value.it m) fs) same ∙ named.own)
        ∙ ap (λ m. unwrap_or (lookup (eq-value.it m) es) n) (sym same)
        ∙ ap (λ b. unwrap_or (lookup (eq-value.it k) es) (cond b n (first_export (drop (i + 1) exports) k))) (sym (ap (λ m. j == m) same ∙ eq_same j)) ∙ before
    go (inr other) =
        ap (λ o. unwrap_or o (first_export (drop (i + 1) exports) k)) (named.others k other)
        ∙ ap (λ b. unwrap_or (lookup (eq-value.it k) es) (cond b n (first_export (drop (i + 1) exports) k))) (sym (eq_false j k (λ same. other (sym same)))) ∙ before

pub all_named : (es : List (ℕ × Name)) (exports : List (Name × ℕ)) (i : ℕ) → length exports ≤ i → GetsFirst es (drop i exports) exports → (k : ℕ) → unwrap_or (lookup (eq-value.it k) es) [] ≡ first_export exports k
all_named es exports i all h k = sym (ap (λ l. unwrap_or (lookup (eq-value.it k) es) (first_export l k)) (drop_all exports i all)) ∙ h k
