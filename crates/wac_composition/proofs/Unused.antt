-- A stated type without the uses of its worlds has the same tree.
use Rattle.std.specs.Prelude.{drop, option_map}
use Rattle.std.proofs.Common.{◌≡◌, ℕ, zero, suc, ◌+◌, List, [], ◌∷◌, ◌++◌, map, length, Option, Some, None, refl, sym, ap, ◌∙◌, arith}
use Rattle.wac_types_base.specs.Entries.{Name}
use Rattle.wac_types_base.specs.Graph.{Wholes, node, no_more, more, hole}
use Rattle.wac_types_base.specs.Collection.{Shape, interface, world, type_of}
use Rattle.wac_types_base.specs.Stated.{Stated, row, folded_row, places_in, with_names, names, filled, first_parts, parts_at, world_of}
use Rattle.wac_types_base.specs.Tree.{Row, component, type_item, put, fields, past, tree_at, tree, trees}
use Rattle.wac_types_written.specs.Written.{bare_world, formed_at, found_in, made_of, without_uses}
use Rattle.wac_composition.specs.Sound.{fields_of}
use Rattle.wac_composition.proofs.KeptFits.{folded_firsts, fields_behind, row_again}
use Rattle.wac_types_base.proofs.Made.{firsts}

-- ---- what was found of the parts has their trees

abbrev RowSame : List (Option (Stated × Stated)) → Type 0
RowSame [] = Unit {0}
RowSame (None ∷ os) = RowSame os
RowSame (Some x ∷ os) = (tree x.1 ≡ tree x.0) × RowSame os

abbrev AllSame : List (Name × (Stated × Stated)) → Type 0
AllSame [] = Unit {0}
AllSame (x ∷ xs) = (tree x.1.1 ≡ tree x.1.0) × AllSame xs

names_same : (ns : List Name) (os : List (Option (Stated × Stated))) → RowSame os → AllSame (with_names ns os)
names_same [] os h = tt
names_same (n ∷ ns) [] h = tt
names_same (n ∷ ns) (None ∷ os) h = names_same ns os h
names_same (n ∷ ns) (Some x ∷ os) h = (h.0, names_same ns os h.1)

drop_same : (k : ℕ) (os : List (Option (Stated × Stated))) → RowSame os → RowSame (drop k os)
drop_same zero os h = h
drop_same (suc k) [] h = tt
drop_same (suc k) (None ∷ os) h = drop_same k os h
drop_same (suc k) (Some x ∷ os) h = drop_same k os h.1

found_same : (xs : List (Name × (Stated × Stated))) → AllSame xs → fields_of (found_in xs) ≡ fields_of (first_parts xs)
found_same [] h = refl
found_same (x ∷ xs) h = λ i. put x.0 (h.0 i) (found_same xs h.1 i)

row_same : (os : List (Option (Stated × Stated))) → RowSame os → trees (row (map (λ o. option_map (λ x. x.1) o) os)) ≡ trees (row (firsts os))
row_same [] h = refl
row_same (None ∷ os) h = ap Row.gap (row_same os h)
row_same (Some x ∷ os) h = λ i. Row.place (h.0 i) (row_same os h.1 i)

-- ---- the maps of a world that is made

made_fields : (xs : List (Name × Stated)) (os : List (Option Stated)) → fields (names xs) (trees (row (filled xs ++ os))) ≡ fields_of xs
made_fields [] os = refl
made_fields (x ∷ xs) os = ap (put x.0 (tree x.1)) (made_fields xs os)

made_past : (xs : List (Name × Stated)) (os : List (Option Stated)) → past (names xs) (trees (row (filled xs ++ os))) ≡ trees (row os)
made_past [] os = refl
made_past (x ∷ xs) os = made_past xs os

made_last : (xs : List (Name × Stated)) → fields (names xs) (trees (row (filled xs))) ≡ fields_of xs
made_last [] = refl
made_last (x ∷ xs) = ap (put x.0 (tree x.1)) (made_last xs)

pub made_world : (i : Option Name) (is es : List (Name × Stated)) → tree (world_of i [] is es) ≡ component (fields_of is) (fields_of es)
made_world i is es = λ j. component (made_fields is (filled es) j) ((ap (fields (names es)) (made_past is (filled es)) ∙ made_last es) j)

-- ---- behind some places

module _ {U : Type 0} where
  behind : List U → Wholes Shape → Wholes Shape
  behind [] ts = ts
  behind (u ∷ us) no_more = no_more
  behind (u ∷ us) (hole ts) = behind us ts
  behind (u ∷ us) (more t ts) = behind us ts

  past_is : (us : List U) (ts : Wholes Shape) → past us (trees ts) ≡ trees (behind us ts)
  unfolding behind
  past_is [] ts = refl
  past_is (u ∷ us) no_more = refl
  past_is (u ∷ us) (hole ts) = past_is us ts
  past_is (u ∷ us) (more t ts) = past_is us ts

  firsts_behind : {A : Type 0} (us : List U) (os : List (Option (Stated × A))) (ts : Wholes Shape) → firsts os ≡ places_in ts → firsts (drop (length us) os) ≡ places_in (behind us ts)
  unfolding behind
  firsts_behind [] os ts e = e
  firsts_behind (u ∷ us) [] no_more e = refl
  firsts_behind (u ∷ us) [] (hole ts) e = absurd (let c : ⊥ = cc e in c)
  firsts_behind (u ∷ us) [] (more t ts) e = absurd (let c : ⊥ = cc e in c)
  firsts_behind (u ∷ us) (o ∷ os) no_more e = absurd (let c : ⊥ = cc e in c)
  firsts_behind (u ∷ us) (o ∷ os) (hole ts) e = firsts_behind us os ts cc
  firsts_behind (u ∷ us) (o ∷ os) (more t ts) e = firsts_behind us os ts cc

drop_nil : {A : Type 0} (n : ℕ) → drop {A = A} n [] ≡ []
drop_nil zero = refl
drop_nil (suc n) = refl

suc_plus : (m n : ℕ) → suc (m + n) ≡ suc m + n
suc_plus m n = omega arith

pub zero_plus : (n : ℕ) → n ≡ 0 + n
zero_plus n = omega arith

drop_more : {A : Type 0} (j k : ℕ) (xs : List A) → drop k (drop j xs) ≡ drop (j + k) xs
drop_more zero k xs = ap (λ n. drop n xs) (zero_plus k)
drop_more (suc j) k [] = drop_nil k ∙ sym (drop_nil (suc j + k))
drop_more (suc j) k (x ∷ xs) = drop_more j k xs ∙ ap (λ n. drop n (x ∷ xs)) (suc_plus j k)

-- ---- all kinds

world_same : (i : Option Name) (us : List (Name × Option Name)) (is es : List Name) (ts : Wholes Shape) → RowSame (folded_row (formed_at bare_world) ts)
    → tree (made_of bare_world (parts_at (world i us is es) (folded_row (formed_at bare_world) ts))) ≡ tree (node (world i us is es) ts)
world_same i us is es ts h =
    let os = folded_row (formed_at bare_world) ts in
    let one : fields_of (found_in (with_names is (drop (length us) os))) ≡ fields is (past us (trees ts)) =
    found_same (with_names is (drop (length us) os)) (names_same is (drop (length us) os) (drop_same (length us) os h)) ∙ sym (fields_behind is us os ts (folded_firsts (formed_at bare_world) ts)) in
    let two : fields_of (found_in (with_names es (drop (length us + length is) os))) ≡ fields es (past is (past us (trees ts))) =
    found_same (with_names es (drop (length us + length is) os)) (names_same es (drop (length us + length is) os) (drop_same (length us + length is) os h))
    ∙ ap (λ l. fields_of (first_parts (with_names es l))) (sym (drop_more (length us) (length is) os))
    ∙ sym (fields_behind es is (drop (length us) os) (behind us ts) (firsts_behind us os ts (folded_firsts (formed_at bare_world) ts)))
    ∙ ap (λ r. fields es (past is r)) (sym (past_is us ts)) in
    made_world i (found_in (with_names is (drop (length us) os))) (found_in (with_names es (drop (length us + length is) os))) ∙ (λ j. component (one j) (two j))

same_at : (s : Shape) (ts : Wholes Shape) → RowSame (folded_row (formed_at bare_world) ts) → tree (formed_at bare_world s (folded_row (formed_at bare_world) ts)) ≡ tree (node s ts)
same_at (world i us is es) ts h = world_same i us is es ts h
same_at (type_of (world i us is es)) ts h = ap type_item (world_same i us is es ts h)
same_at (interface i us es) ts h = ap (tree_at (interface i us es)) (row_same (folded_row (formed_at bare_world) ts) h ∙ ap (λ os. trees (row os)) (folded_firsts (formed_at bare_world) ts) ∙ ap trees (row_again ts))
same_at (type_of (interface i us es)) ts h = ap (tree_at (type_of (interface i us es))) (row_same (folded_row (formed_at bare_world) ts) h ∙ ap (λ os. trees (row os)) (folded_firsts (formed_at bare_world) ts) ∙ ap trees (row_again ts))
same_at s ts h = ap (tree_at s) (ap (λ os. trees (row os)) (folded_firsts (formed_at bare_world) ts) ∙ ap trees (row_again ts))

mutual
  pub without_same : (x : Stated) → tree (without_uses x) ≡ tree x
  without_same (node s ts) = same_at s ts (rows_same ts)

  rows_same : (ts : Wholes Shape) → RowSame (folded_row (formed_at bare_world) ts)
  rows_same no_more = tt
  rows_same (hole ts) = rows_same ts
  rows_same (more t ts) = (without_same t, rows_same ts)
