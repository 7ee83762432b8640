-- One more step of a loop over a list.
use Rattle.std.proofs.Common.{◌≡◌, ℕ, zero, suc, ◌+◌, ◌<◌, ◌≤◌, List, [], ◌∷◌, ◌++◌, map, length, take, Some, refl, sym, ap, ◌∙◌, slice_get, get_or, arith}
use Rattle.wac_types_base.specs.Entries.{names_of, values_of, with_values}
use Rattle.wac_types_base.proofs.Looked.{take-one_more}

pub mapped_next : {X Y : Type 0} (f : X → Y) (xs : List X) (x : X) → map f (xs ++ x ∷ []) ≡ map f xs ++ f x ∷ []
mapped_next f [] x = refl
mapped_next f (y ∷ xs) x = ap (λ l. f y ∷ l) (mapped_next f xs x)

pub map-one_more : {X Y : Type 0} (f : X → Y) (xs : List X) (i : ℕ) (x : X) → slice_get xs i ≡ Some x → map f (take (i + 1) xs) ≡ map f (take i xs) ++ f x ∷ []
map-one_more f xs i x e = ap (map f) (take-one_more xs i x e) ∙ mapped_next f (take i xs) x

pub get-place : {X : Type 0} (xs : List X) (i : ℕ) (x : X) → i < length xs → x ≡ get_or xs i x → slice_get xs i ≡ Some x
get-place [] i x h e = absurd (omega arith)
get-place (y ∷ xs) zero x h e = ap Some (sym e)
get-place (y ∷ xs) (suc i) x h e = get-place xs i x (omega arith) e

pub take-all : {X : Type 0} (xs : List X) (i : ℕ) → length xs ≤ i → take i xs ≡ xs
take-all [] zero h = refl
take-all [] (suc i) h = refl
take-all (x ∷ xs) zero h = absurd (omega arith)
take-all (x ∷ xs) (suc i) h = ap (λ l. x ∷ l) (take-all xs i (omega arith))

pub map-take : {X Y : Type 0} (f : X → Y) (xs : List X) (i : ℕ) → map f (take i xs) ≡ take i (map f xs)
map-take f [] zero = refl
map-take f [] (suc i) = refl
map-take f (x ∷ xs) zero = refl
map-take f (x ∷ xs) (suc i) = ap (λ l. f x ∷ l) (map-take f xs i)

pub map-map : {X Y Z : Type 0} (g : Y → Z) (f : X → Y) (xs : List X) → map g (map f xs) ≡ map (λ x. g (f x)) xs
map-map g f [] = refl
map-map g f (x ∷ xs) = ap (λ l. g (f x) ∷ l) (map-map g f xs)

pub map-append : {X Y : Type 0} (f : X → Y) (xs ys : List X) → map f (xs ++ ys) ≡ map f xs ++ map f ys
map-append f [] ys = refl
map-append f (x ∷ xs) ys = ap (λ l. f x ∷ l) (map-append f xs ys)

pub map-get : {X Y : Type 0} (f : X → Y) (xs : List X) (i : ℕ) (x : X) → slice_get xs i ≡ Some x → slice_get (map f xs) i ≡ Some (f x)
map-get f [] i x e = absurd (cc e)
map-get f (y ∷ xs) zero x e = ap (λ z. Some (f z)) (cc e)
map-get f (y ∷ xs) (suc i) x e = map-get f xs i x e

-- other values leave the names, and give the mapped values
pub names-with_values : {N T U : Type 0} (f : T → U) (xs : List (N × T)) → names_of (with_values f xs) ≡ names_of xs
names-with_values f [] = refl
names-with_values f (x ∷ xs) = ap (λ l. x.0 ∷ l) (names-with_values f xs)

pub values-with_values : {N T U : Type 0} (f : T → U) (xs : List (N × T)) → values_of (with_values f xs) ≡ map f (values_of xs)
values-with_values f [] = refl
values-with_values f (x ∷ xs) = ap (λ l. f x.1 ∷ l) (values-with_values f xs)

pub map_same : {X : Type 0} (xs : List X) → map (λ x. x) xs ≡ xs
map_same [] = refl
map_same (x ∷ xs) = ap (λ l. x ∷ l) (map_same xs)

pub with_values_same : {N T : Type 0} (xs : List (N × T)) → with_values (λ x. x) xs ≡ xs
with_values_same [] = refl
with_values_same (x ∷ xs) = ap (λ l. x ∷ l) (with_values_same xs)
