-- Sets of types, by their keys, and nodes of types.
use Rattle.std.proofs.Common.{rules, ◌≡◌, ◌⊎◌, ◌↔◌, ◌||◌, [], ◌∷◌, ℕ, Option, List, IsTrue, ◌≢◌, Bool, true, false, cond, inl, inr, sym, ap, refl, ◌∙◌}
use Rattle.std.specs.List.{list_any}
use Rattle.wac_types_base.specs.declared.item.«Type».{«Type» as TypeKind}
use Rattle.wac_types_base.specs.contracts.item.TypePartialEq.TheImpl.{eq-value}
use Rattle.wac_types_base.specs.Graph.{Among}
use Rattle.wac_graph_core.specs.TypeSets.{AddsType}
use Rattle.wac_graph_core.specs.TypeMaps.{node_of, Maps}

same_type : (a b : TypeKind) → IsTrue (eq-value.it a b) ↔ (a ≡ b)
same_type a b = search rules

among_first : (b : Bool) (t x : TypeKind) (xs : List TypeKind) → eq-value.it t x ≡ b → (IsTrue (list_any (eq-value.it t) xs) ↔ Among t xs) → IsTrue (b || list_any (eq-value.it t) xs) ↔ Among t (x ∷ xs)
among_first true t x xs e rest = (λ _. inl ((same_type t x).0 e), λ _. refl)
among_first false t x xs e rest = (λ h. inr (rest.0 h), λ m. elim m [ inl s ↦ absurd (cc (e, (same_type t x).1 s)) | inr r ↦ rest.1 r ])

-- a key is found where it is among the keys
pub any_among : (t : TypeKind) (ts : List TypeKind) → IsTrue (list_any (eq-value.it t) ts) ↔ Among t ts
any_among t [] = (λ h. absurd (cc h), λ m. absurd m)
any_among t (x ∷ xs) = among_first (eq-value.it t x) t x xs refl (any_among t xs)

-- a key is added, and no other
module _ (t : TypeKind) (old new : List TypeKind) (updates : (q : TypeKind) → list_any (eq-value.it q) new ≡ cond (eq-value.it t q) true (list_any (eq-value.it q) old)) where
  pub among_added : AddsType old new t
  among_added q = by (eq-value.it t q) refl
    where
      by : (b : Bool) → eq-value.it t q ≡ b → Among q new ↔ (Among q old ⊎ (q ≡ t))
      by true e = (λ _. inr (sym ((same_type t q).0 e)), λ _. (any_among q new).0 (updates q ∙ ap (λ b. cond b true (list_any (eq-value.it q) old)) e))
      by false e = (
        λ m. inl ((any_among q old).0 (ap (λ b. cond b true (list_any (eq-value.it q) old)) (sym e) ∙ sym (updates q) ∙ (any_among q new).1 m)),
        λ m. elim m [
          | inl there ↦ (any_among q new).0 (updates q ∙ ap (λ b. cond b true (list_any (eq-value.it q) old)) e ∙ (any_among q old).1 there)
          | inr same ↦ absurd (cc (e, (same_type t q).1 (sym same)))
        ],
      )

-- ---- nodes of types

pub type_cases : (a b : TypeKind) → (a ≡ b) ⊎ (a ≢ b)
type_cases a b = by (eq-value.it a b) refl
  where
    by : (r : Bool) → eq-value.it a b ≡ r → (a ≡ b) ⊎ (a ≢ b)
    by true e = inl ((same_type a b).0 e)
    by false e = inr (λ same. absurd (cc (e, (same_type a b).1 same)))

other_type : (a b : TypeKind) → b ≢ a → eq-value.it a b ≡ false
other_type a b other = by (eq-value.it a b) refl
  where
    by : (r : Bool) → eq-value.it a b ≡ r → r ≡ false
    by true e = absurd (other (sym ((same_type a b).0 e)))
    by false e = refl

pub maps : (t : TypeKind) (o : Option ℕ) (old new : List (TypeKind × ℕ)) → node_of new t ≡ o → ((q : TypeKind) → eq-value.it t q ≡ false → node_of new q ≡ node_of old q) → Maps old t o new
maps t o old new own others = record { own = own; others = λ u other. others u (other_type t u other) }
