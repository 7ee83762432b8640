-- Lists that are compared one by one.
use Rattle.std.proofs.Common.{◌≡◌, ℕ, ◌+◌, ◌<◌, ◌≤◌, List, [], ◌∷◌, map, length, Bool, true, false, IsTrue, ◌↔◌, Some, slice_get, refl, sym, ap, ◌∙◌, arith, below_more}
use Rattle.std.proofs.lemmas.List.{length-map}
use Rattle.wac_types_base.specs.declared.defined.UsedType.{UsedType}
use Rattle.wac_types_base.specs.Entries.{Name, names_of, values_of}
use Rattle.wac_types_base.specs.Collection.{use_names}
use Rattle.wac_types_base.proofs.Loops.{map-get}
use Rattle.wac_types_fit.proofs.ValueTrees.{same_lengths}
use Rattle.wac_types_same.specs.Same.{names_taken}

module _ {X Y : Type 0} (f : X → Y) (xs ys : List X) where
  abbrev AgreeAt : ℕ → Type 0
  AgreeAt i = slice_get (map f xs) i ≡ slice_get (map f ys) i

  pub agree_more : (n : ℕ) (x y : X) → slice_get xs n ≡ Some x → slice_get ys n ≡ Some y → f x ≡ f y → ((i : ℕ) → i < n → AgreeAt i) → (i : ℕ) → i < n + 1 → AgreeAt i
  agree_more n x y p q e before = below_more AgreeAt n before (map-get f xs n x p ∙ ap Some e ∙ sym (map-get f ys n y q))

  pub agree_not : (n : ℕ) (x y : X) → slice_get xs n ≡ Some x → slice_get ys n ≡ Some y → (f x ≡ f y → ⊥) → map f xs ≡ map f ys → ⊥
  agree_not n x y p q h e =
      let same : Some (f x) ≡ Some (f y) = sym (map-get f xs n x p) ∙ ap (λ l. slice_get l n) e ∙ map-get f ys n y q in
      h (cc same)

  pub agree_all : (n : ℕ) → length xs ≤ n → length ys ≤ n → ((i : ℕ) → i < n → AgreeAt i) → map f xs ≡ map f ys
  agree_all n l m h =
      let a = length-map xs f in
      let b = length-map ys f in
      same_lengths (map f xs) (map f ys) n (omega (arith, a, l)) (omega (arith, b, m)) h

-- ---- entries

same_entries : {N V : Type 0} (xs ys : List (N × V)) → names_of xs ≡ names_of ys → values_of xs ≡ values_of ys → xs ≡ ys
same_entries [] [] e f = refl
same_entries [] (y ∷ ys) e f = absurd (cc e)
same_entries (x ∷ xs) [] e f = absurd (cc e)
same_entries (x ∷ xs) (y ∷ ys) e f =
    let n : x.0 ≡ y.0 = cc e in
    let v : x.1 ≡ y.1 = cc f in
    let rest = same_entries xs ys (cc e) (cc f) in
    λ i. (n i, v i) ∷ rest i

pub entries_decided : {N V : Type 0} (xs ys : List (N × V)) (vs ws : List V) (b : Bool) → names_of xs ≡ names_of ys → vs ≡ values_of xs → ws ≡ values_of ys → IsTrue b ↔ (vs ≡ ws) → IsTrue b ↔ (xs ≡ ys)
entries_decided xs ys vs ws b names p q h = (λ t. same_entries xs ys names (sym p ∙ h.0 t ∙ q), λ e. h.1 (p ∙ ap values_of e ∙ sym q))

-- ---- uses

uses_same : (xs ys : List (Name × UsedType)) → names_of xs ≡ names_of ys → names_taken (values_of xs) ≡ names_taken (values_of ys) → use_names xs ≡ use_names ys
uses_same [] [] e f = refl
uses_same [] (y ∷ ys) e f = absurd (cc e)
uses_same (x ∷ xs) [] e f = absurd (cc e)
uses_same (x ∷ xs) (y ∷ ys) e f =
    let n : x.0 ≡ y.0 = cc e in
    let v : x.1.name ≡ y.1.name = cc f in
    let rest = uses_same xs ys (cc e) (cc f) in
    λ i. (n i, v i) ∷ rest i

use_firsts : (xs : List (Name × UsedType)) → names_of (use_names xs) ≡ names_of xs
use_firsts [] = refl
use_firsts (x ∷ xs) = ap (λ l. x.0 ∷ l) (use_firsts xs)

use_seconds : (xs : List (Name × UsedType)) → values_of (use_names xs) ≡ names_taken (values_of xs)
use_seconds [] = refl
use_seconds (x ∷ xs) = ap (λ l. x.1.name ∷ l) (use_seconds xs)

pub uses_decided : (xs ys : List (Name × UsedType)) (vs ws : List UsedType) (b : Bool) → names_of xs ≡ names_of ys → vs ≡ values_of xs → ws ≡ values_of ys → IsTrue b ↔ (names_taken vs ≡ names_taken ws) → IsTrue b ↔ (use_names xs ≡ use_names ys)
uses_decided xs ys vs ws b names p q h = (
  λ t. uses_same xs ys names (ap names_taken (sym p) ∙ h.0 t ∙ ap names_taken q),
  λ e. h.1 (ap names_taken p ∙ sym (use_seconds xs) ∙ ap values_of e ∙ use_seconds ys ∙ ap names_taken (sym q)),
)

pub uses_named : (xs ys : List (Name × UsedType)) → use_names xs ≡ use_names ys → names_of xs ≡ names_of ys
uses_named xs ys e = sym (use_firsts xs) ∙ ap names_of e ∙ use_firsts ys

-- ---- tests that say no

pub said_no : (b : Bool) (P : Type 0) → b ≡ false → (P → ⊥) → IsTrue b ↔ P
said_no true P e h = absurd (cc e)
said_no false P e h = (λ t. absurd (cc t), λ p. absurd (h p))

pub no_test : (b : Bool) (P : Type 0) → b ≡ false → IsTrue b ↔ P → P → ⊥
no_test true P e h p = cc e
no_test false P e h p = cc (h.1 p)
