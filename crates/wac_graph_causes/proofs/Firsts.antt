-- Maps by name that keep the first value of each name.
use Rattle.std.proofs.Common.{◌≡◌, ◌==◌, ℕ, Bool, true, false, true≢false, is_some, cond, List, [], ◌∷◌, ◌++◌, Option, Some, None, refl, sym, ap, ◌∙◌}
use Rattle.std.specs.Cmp.Lexicographic.{pointwise, same_text}
use Rattle.wac_types_base.specs.Entries.{Name, value_at, put_entry}
use Rattle.wac_types_base.proofs.Lists.{value_both}
use Rattle.std.specs.Option.{option_or}
use Rattle.wac_graph_causes.specs.Firsts.{AddsFirst, AreFirst}

module _ {X : Type 0} where
  pub or_nothing : (o : Option X) → option_or o None ≡ o
  or_nothing None = refl
  or_nothing (Some x) = refl

  or_assoc : (o p q : Option X) → option_or (option_or o p) q ≡ option_or o (option_or p q)
  or_assoc None p q = refl
  or_assoc (Some x) p q = refl

  or_there : (o p : Option X) → is_some o ≡ true → o ≡ option_or o p
  or_there None p h = absurd (true≢false (sym h))
  or_there (Some x) p h = refl

-- a new name is put last
put_last : (xs : List (Name × ℕ)) (n : Name) (v : ℕ) → is_some (value_at xs n) ≡ false → put_entry xs n v ≡ xs ++ (n, v) ∷ []
put_last [] n v h = refl
put_last (x ∷ xs) n v h = go (pointwise ◌==◌ n x.0) h (put_last xs n v)
  where
    go : (b : Bool) → is_some (cond b (Some x.1) (value_at xs n)) ≡ false → (is_some (value_at xs n) ≡ false → put_entry xs n v ≡ xs ++ (n, v) ∷ []) → cond b ((x.0, v) ∷ xs) (x ∷ put_entry xs n v) ≡ x ∷ (xs ++ (n, v) ∷ [])
    go true e rest = absurd (true≢false e)
    go false e rest = ap (λ l. x ∷ l) (rest e)

pub first_put : (old new : List (Name × ℕ)) (n : Name) (v : ℕ) → is_some (value_at old n) ≡ false → new ≡ put_entry old n v → AddsFirst old new ((n, v) ∷ [])
first_put old new n v h is m = ap (λ l. value_at l m) (is ∙ put_last old n v h) ∙ value_both old ((n, v) ∷ []) m

pub first_kept : (old : List (Name × ℕ)) (n : Name) (v : ℕ) → is_some (value_at old n) ≡ true → AddsFirst old old ((n, v) ∷ [])
first_kept old n v h m = go (pointwise ◌==◌ m n) refl
  where
    go : (b : Bool) → pointwise ◌==◌ m n ≡ b → value_at old m ≡ option_or (value_at old m) (cond b (Some v) None)
    go true e = or_there (value_at old m) (Some v) (ap (λ k. is_some (value_at old k)) (same_text m n (sym e)) ∙ h)
    go false e = sym (or_nothing (value_at old m))

pub adds_nothing : (old : List (Name × ℕ)) → AddsFirst old old []
adds_nothing old n = sym (or_nothing (value_at old n))

pub adds_then : (old mid new xs ys : List (Name × ℕ)) → AddsFirst old mid xs → AddsFirst mid new ys → AddsFirst old new (xs ++ ys)
adds_then old mid new xs ys f g n =
    g n ∙ ap (λ o. option_or o (value_at ys n)) (f n) ∙ or_assoc (value_at old n) (value_at xs n) (value_at ys n) ∙ ap (option_or (value_at old n)) (sym (value_both xs ys n))

-- from nothing on, all are there
pub adds_all : (old new all : List (Name × ℕ)) → old ≡ [] → AddsFirst old new all → AreFirst new all
adds_all old new all is h n = h n ∙ ap (λ l. option_or (value_at l n) (value_at all n)) is

pub more_first : (old new xs ys : List (Name × ℕ)) → AreFirst old xs → AddsFirst old new ys → AreFirst new (xs ++ ys)
more_first old new xs ys f g n = g n ∙ ap (λ o. option_or o (value_at ys n)) (f n) ∙ sym (value_both xs ys n)
