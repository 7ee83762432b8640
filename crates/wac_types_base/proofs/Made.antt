-- What a stated interface is made of is what it has.
use Rattle.std.proofs.Common.{◌≡◌, ℕ, zero, suc, List, [], ◌∷◌, ◌++◌, map, length, Option, Some, None, refl, ap, ◌∙◌}
use Rattle.std.specs.Prelude.{drop, option_map}
use Rattle.wac_types_base.specs.Entries.{Name}
use Rattle.wac_types_base.specs.Graph.{Wholes, no_more, more, hole}
use Rattle.wac_types_base.specs.Collection.{Shape, interface}
use Rattle.wac_types_base.specs.Stated.{Stated, row, places_in, with_names, names, filled, Used, names_used, used_places, interface_of, parts_at, only_places, first_parts, exports_of}

-- the stated types in their places
abbrev pub firsts : {A : Type 0} → List (Option (Stated × A)) → List (Option Stated)
firsts os = map (option_map (λ x. x.0)) os

pub first_names : {A : Type 0} (ns : List Name) (os : List (Option (Stated × A))) → first_parts (with_names ns os) ≡ with_names ns (firsts os)
first_names [] os = refl
first_names (n ∷ ns) [] = refl
first_names (n ∷ ns) (None ∷ os) = first_names ns os
first_names (n ∷ ns) (Some x ∷ os) = ap (λ l. (n, x.0) ∷ l) (first_names ns os)

pub drop_firsts : {A : Type 0} (k : ℕ) (os : List (Option (Stated × A))) → firsts (drop k os) ≡ drop k (firsts os)
drop_firsts zero os = refl
drop_firsts (suc k) [] = refl
drop_firsts (suc k) (o ∷ os) = drop_firsts k os

pub only_firsts : (ts : Wholes Shape) → firsts (only_places ts) ≡ places_in ts
only_firsts no_more = refl
only_firsts (hole ts) = ap (λ l. None ∷ l) (only_firsts ts)
only_firsts (more t ts) = ap (λ l. Some t ∷ l) (only_firsts ts)

pub row_places : (os : List (Option Stated)) → places_in (row os) ≡ os
row_places [] = refl
row_places (None ∷ os) = ap (λ l. None ∷ l) (row_places os)
row_places (Some t ∷ os) = ap (λ l. Some t ∷ l) (row_places os)

pub names_filled : (xs : List (Name × Stated)) → with_names (names xs) (filled xs) ≡ xs
names_filled [] = refl
names_filled (x ∷ xs) = ap (λ l. x ∷ l) (names_filled xs)

drop_used : (us : List Used) (os : List (Option Stated)) → drop (length (names_used us)) (used_places us ++ os) ≡ os
drop_used [] os = refl
drop_used (u ∷ us) os = drop_used us os

-- the exports of an interface over places
pub exports_are : {A : Type 0} (i : Option Name) (us : List (Name × Option Name)) (es : List Name) (os : List (Option (Stated × A))) (ts : Wholes Shape) → firsts os ≡ places_in ts
    → first_parts (parts_at (interface i us es) os).exports ≡ with_names es (drop (length us) (places_in ts))
exports_are i us es os ts e = first_names es (drop (length us) os) ∙ ap (with_names es) (drop_firsts (length us) os ∙ ap (drop (length us)) e)

-- an interface has the exports that it is made of
pub made_exports : (i : Option Name) (us : List Used) (xs : List (Name × Stated)) → exports_of (interface_of i us xs) ≡ xs
made_exports i us xs =
    let ts = row (used_places us ++ filled xs) in
    exports_are i (names_used us) (names xs) (only_places ts) ts (only_firsts ts)
    ∙ ap (λ os. with_names (names xs) (drop (length (names_used us)) os)) (row_places (used_places us ++ filled xs))
    ∙ ap (with_names (names xs)) (drop_used us (filled xs)) ∙ names_filled xs
