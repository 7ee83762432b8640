-- Equality of names, labels and trees is decided.
use Rattle.std.proofs.Common.{◌≡◌, ℕ, refl, sym, ap, ◌∙◌}
use Rattle.std.specs.Coded.{Coded, codes}
use native.Mathlib.Decide.{ℕ_discrete}
use base.Stored.{Gv, gnil, gnum, gcons}
use Rattle.wac_types_base.specs.declared.core_types.CoreExtern.{CoreExtern}
use Rattle.wac_types_base.specs.declared.core_types.ModuleType.{ModuleType}
use Rattle.wac_types_base.specs.declared.item.PrimitiveType.{PrimitiveType}
use Rattle.wac_types_base.specs.declared.item.ItemKind.{ItemKind}
use Rattle.wac_types_base.specs.Entries.{Name}
use Rattle.wac_types_base.specs.Collection.{Shape, Shape-discrete}
use Rattle.wac_types_base.specs.Tree.{Tree, Tree-discrete}

abbrev tag : Gv → ℕ
tag gnil = 0
tag (gnum n) = 1
tag (gcons a b) = 2

abbrev num_of : Gv → ℕ
num_of (gnum n) = n
num_of _ = 0

abbrev first_of_pair : Gv → Gv
first_of_pair (gcons a b) = a
first_of_pair g = g

abbrev second_of_pair : Gv → Gv
second_of_pair (gcons a b) = b
second_of_pair g = g

apart : (a b : Gv) (n m : ℕ) → tag a ≡ n → tag b ≡ m → (n ≡ m → ⊥) → Dec (a ≡ b)
apart a b n m e f h = no (λ p. h (sym e ∙ ap tag p ∙ f))

numbers : (n m : ℕ) → Dec (n ≡ m) → Dec (gnum n ≡ gnum m)
numbers n m (yes e) = yes (ap gnum e)
numbers n m (no h) = no (λ p. h (ap num_of p))

pairs : (a b c d : Gv) → Dec (a ≡ c) → Dec (b ≡ d) → Dec (gcons a b ≡ gcons c d)
pairs a b c d (yes e) (yes f) = yes (ap (λ x. gcons x b) e ∙ ap (λ x. gcons c x) f)
pairs a b c d (yes e) (no h) = no (λ p. h (ap second_of_pair p))
pairs a b c d (no h) f = no (λ p. h (ap first_of_pair p))

-- what each code is decided by
pub codes_decided : Discrete Gv
codes_decided gnil gnil = yes refl
codes_decided gnil (gnum n) = apart _ _ 0 1 refl refl (λ p. absurd (cc p))
codes_decided gnil (gcons a b) = apart _ _ 0 2 refl refl (λ p. absurd (cc p))
codes_decided (gnum n) gnil = apart _ _ 1 0 refl refl (λ p. absurd (cc p))
codes_decided (gnum n) (gnum m) = numbers n m (ℕ_discrete n m)
codes_decided (gnum n) (gcons a b) = apart _ _ 1 2 refl refl (λ p. absurd (cc p))
codes_decided (gcons a b) gnil = apart _ _ 2 0 refl refl (λ p. absurd (cc p))
codes_decided (gcons a b) (gnum m) = apart _ _ 2 1 refl refl (λ p. absurd (cc p))
codes_decided (gcons a b) (gcons c d) = pairs a b c d (codes_decided a c) (codes_decided b d)

-- what has a code is decided
pub by_code : {A : Type 0} → Coded A → Discrete A
by_code c x y = decided (codes_decided (c.code x) (c.code y))
  where
    decided : Dec (c.code x ≡ c.code y) → Dec (x ≡ y)
    decided (yes e) = yes (c.inj x y e)
    decided (no h) = no (λ p. h (ap c.code p))

pub Name-discrete : Discrete Name
Name-discrete = by_code (hlevel codes)

pub ModuleType-discrete : Discrete ModuleType
ModuleType-discrete = by_code (hlevel codes)

pub CoreExtern-discrete : Discrete CoreExtern
CoreExtern-discrete = by_code (hlevel codes)

pub PrimitiveType-discrete : Discrete PrimitiveType
PrimitiveType-discrete = by_code (hlevel codes)

pub ItemKind-discrete : Discrete ItemKind
ItemKind-discrete = by_code (hlevel codes)

-- labels are decided
pub shape_decided : Discrete Shape
shape_decided =
    Shape-discrete PrimitiveType-discrete ℕ_discrete (by_code (hlevel codes)) Name-discrete (by_code (hlevel codes))
    (by_code (hlevel codes)) (by_code (hlevel codes)) ModuleType-discrete

-- trees are decided
pub tree_decided : Discrete Tree
tree_decided = Tree-discrete shape_decided (by_code (hlevel codes)) (by_code (hlevel codes)) Name-discrete
