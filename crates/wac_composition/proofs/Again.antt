-- What is kept of an ask stays as it is where that is asked again.
use Rattle.std.specs.Prelude.{◌==◌, drop, option_map, is_none, not, cond, filter, bytes_eq, if◌then◌else◌, ◌&&◌, ◌||◌}
use Rattle.std.proofs.lemmas.Option.{none-some, same_Some}
use Rattle.std.specs.List.{list_all, list_any}
use Rattle.std.specs.Cmp.Lexicographic.{pointwise, bytes_decides}
use Rattle.std.proofs.lemmas.Slice.Eq.{bytes_eq-Decides}
use Rattle.std.proofs.lemmas.List.{map-append}
use Rattle.std.proofs.Common.{◌≡◌, List, [], ◌∷◌, ◌++◌, append_assoc, map, length, Bool, true, false, true≢false, Option, Some, None, ◌⊎◌, inl, inr, refl, sym, ap, subst, ◌∙◌}
use Rattle.wac_types_base.proofs.Lists.{value_append, value_behind}
use Rattle.wac_types_base.specs.Entries.{Name, AreDistinct, names_of, value_at}
use Rattle.wac_types_base.specs.Graph.{Wholes, node, Among}
use Rattle.wac_types_base.specs.Collection.{Shape, interface}
use Rattle.wac_types_base.specs.Stated.{Stated, row, folded_row, with_names, names, filled, Used, names_used, used_places, interface_of, Kind, IsFunction, IsInstance, IsComponent, IsModule, IsValue, IsResource, IsFunctionType, IsValueType, IsInterface, IsWorld, IsModuleType, kind_of, as_type, uses_from, only_places, parts_at, exports_of, uses_of, identifier_of, is_interface}
use Rattle.wac_types_base.specs.Tree.{tree}
use Rattle.wac_types_fit.proofs.TreeLaws.{Fits-refl}
use Rattle.wac_composition.specs.Classes.{is_instance_kind}
use Rattle.wac_composition.specs.Tests.{fits}
use Rattle.wac_composition.specs.Merging.{is_plain, is_wit, Merge, both, merged_with, merged_exports, has_use, merged_interface, rebuilt, if_kind, merge_at, merge, Asked, narrower, in_family, kept_from, kept}
use Rattle.wac_composition.specs.Again.{IsWell, well_instance, well_interface, no_interface, Asking_twice}
use Rattle.wac_composition.proofs.FitBack.{fits_decides}
use Rattle.wac_composition.proofs.KeptFits.{folded_firsts, row_again, value_passing, both_is, if_is, no_more_kept, append_nil, kept_fits}
use Rattle.wac_composition.proofs.Clashing.{merge_flat, merged_names, value_there, value_among, among_append, distinct_append, distinct_filter, name_passing, among_name, name_found, kept_further}
use Rattle.wac_composition.proofs.Closures.{filter_among}
use Rattle.wac_types_fit.proofs.Meeting.{mapped-some}
use Rattle.wac_types_base.proofs.Made.{made_exports}

-- ---- an interface that is made

-- exports, each with what merges it
abbrev pub merging : List (Name × Stated) → List (Name × (Stated × Merge))
merging es = map (λ e. (e.0, (e.1, merge e.1))) es

row_exports : (es : List (Name × Stated)) → with_names (names es) (folded_row merge_at (row (filled es))) ≡ merging es
row_exports [] = refl
row_exports (e ∷ es) = ap (λ l. (e.0, (e.1, merge e.1)) ∷ l) (row_exports es)

behind_uses : (us : List Used) (os : List (Option Stated)) → drop (length (names_used us)) (folded_row merge_at (row (used_places us ++ os))) ≡ folded_row merge_at (row os)
behind_uses [] os = refl
behind_uses (u ∷ us) os = behind_uses us os

first_uses : (us : List Used) (os : List (Option Stated)) → map (λ u. u.0) (uses_from (names_used us) (folded_row merge_at (row (used_places us ++ os)))) ≡ us
first_uses [] os = refl
first_uses (u ∷ us) os = ap (λ l. u ∷ l) (first_uses us os)

own_uses : (us : List Used) (os : List (Option Stated)) → map (λ u. u.0) (uses_from (names_used us) (only_places (row (used_places us ++ os)))) ≡ us
own_uses [] os = refl
own_uses (u ∷ us) os = ap (λ l. u ∷ l) (own_uses us os)

pub made_uses : (i : Option Name) (us : List Used) (es : List (Name × Stated)) → uses_of (interface_of i us es) ≡ us
made_uses i us es = own_uses us (filled es)

abbrev pub more_uses : List Used → Stated → List Used
more_uses us y = filter (λ u. not (has_use us u.name)) (uses_of y)

abbrev pub more_exports : List (Name × Stated) → Stated → List (Name × Stated)
more_exports es y = filter (λ f. is_none (value_at (merging es) f.0)) (exports_of y)

abbrev pub merged_of : Option Name → List Used → List (Name × Stated) → Stated → Option Stated
merged_of i us es y = option_map (λ xs. interface_of i (us ++ more_uses us y) (xs ++ more_exports es y)) (merged_exports (merging es) (exports_of y))

module _ (i : Option Name) (us : List Used) (es : List (Name × Stated)) where
  parts_exports : with_names (names es) (drop (length (names_used us)) (folded_row merge_at (row (used_places us ++ filled es)))) ≡ merging es
  parts_exports = ap (with_names (names es)) (behind_uses us (filled es)) ∙ row_exports es

  interface_merge : (y : Stated) → merged_interface (parts_at (interface i (names_used us) (names es)) (folded_row merge_at (row (used_places us ++ filled es)))) y ≡ merged_of i us es y
  interface_merge y = λ j.
      option_map (λ xs. interface_of i (first_uses us (filled es) j ++ more_uses (first_uses us (filled es) j) y) (xs ++ filter (λ (f : Name × Stated). is_none (value_at (parts_exports j) f.0)) (exports_of y))) (merged_exports (parts_exports j) (exports_of y))

  pub merge_made : (y : Stated) → merge (interface_of i us es) y ≡ if_kind (is_instance_kind (kind_of y)) (merged_of i us es y)
  merge_made y = ap (if_kind (is_instance_kind (kind_of y))) (interface_merge y)

  pub merge_typed : (y : Stated) → merge (as_type (interface_of i us es)) y ≡ if_kind (is_interface (kind_of y)) (option_map as_type (merged_of i us es y))
  merge_typed y = ap (λ o. if_kind (is_interface (kind_of y)) (option_map as_type o)) (interface_merge y)

-- what is no interface is kept where it is the same
rebuilt_same : (s : Shape) (ts : Wholes Shape) → rebuilt s (folded_row merge_at ts) ≡ node s ts
rebuilt_same s ts = ap (λ os. node s (row os)) (folded_firsts merge_at ts) ∙ ap (node s) (row_again ts)

pub merge_other : (x y : Stated) → is_instance_kind (kind_of x) ≡ false → is_interface (kind_of x) ≡ false → merge x y ≡ if_kind (fits x y && fits y x) (Some x)
merge_other (node s ts) y g h = merge_flat (folded_row merge_at ts) s y g h ∙ ap (λ x. if_kind (fits x y && fits y x) (Some x)) (rebuilt_same s ts)

-- ---- merged exports by their names

value_merging : (es : List (Name × Stated)) (n : Name) → value_at (merging es) n ≡ option_map (λ x. (x, merge x)) (value_at es n)
value_merging [] n = refl
value_merging (e ∷ es) n = go (value_merging es n) (pointwise ◌==◌ n e.0)
  where
    go : value_at (merging es) n ≡ option_map (λ x. (x, merge x)) (value_at es n) → (b : Bool) → (if b then Some (e.1, merge e.1) else value_at (merging es) n) ≡ option_map (λ x. (x, merge x)) (if b then Some e.1 else value_at es n)
    go rest true = refl
    go rest false = rest

pub none_merging : (es : List (Name × Stated)) (n : Name) → is_none (value_at (merging es) n) ≡ is_none (value_at es n)
none_merging es n = ap (λ (o : Option (Stated × Merge)). is_none o) (value_merging es n) ∙ go (value_at es n)
  where
    go : (o : Option Stated) → is_none (option_map {U = Stated × Merge} (λ x. (x, merge x)) o) ≡ is_none o
    go None = refl
    go (Some x) = refl

names_merging : (es : List (Name × Stated)) → names_of (merging es) ≡ names_of es
names_merging [] = refl
names_merging (e ∷ es) = ap (λ l. e.0 ∷ l) (names_merging es)

record MergedAt (fs xs : List (Name × Stated)) (n : Name) (x : Stated) : Type 0 where
  one : Stated
  there : value_at xs n ≡ Some one
  is : merged_with (merge x) x (value_at fs n) ≡ Some one

merged_at : (es fs xs : List (Name × Stated)) → merged_exports (merging es) fs ≡ Some xs → (n : Name) (x : Stated) → value_at es n ≡ Some x → MergedAt fs xs n x
merged_at [] fs xs q n x v = absurd (none-some _ v)
merged_at (e ∷ es) fs xs q n x v =
    let b = both_is (λ x ys. (e.0, x) ∷ ys) (merged_with (merge e.1) e.1 (value_at fs e.0)) (merged_exports (merging es) fs) xs q in
    subst (λ l. MergedAt fs l n x) b.4 (go b.0 b.2 b.1 (merged_at es fs b.1 b.3 n x) (pointwise ◌==◌ n e.0) refl v)
  where
    go : (z : Stated) → merged_with (merge e.1) e.1 (value_at fs e.0) ≡ Some z → (rest : List (Name × Stated)) → (value_at es n ≡ Some x → MergedAt fs rest n x) → (b : Bool) → pointwise ◌==◌ n e.0 ≡ b → (if b then Some e.1 else value_at es n) ≡ Some x → MergedAt fs ((e.0, z) ∷ rest) n x
    go z m rest h true p r = record {
      one = z;
      there = ap (λ (b : Bool). if b then Some z else value_at rest n) p;
      is = subst (λ w. merged_with (merge w) w (value_at fs n) ≡ Some z) (same_Some _ _ r) (ap (λ k. merged_with (merge e.1) e.1 (value_at fs k)) ((bytes_decides n e.0).0 p) ∙ m);
    }
    go z m rest h false p r =
        let k = h r in
        record { one = k.one; there = ap (λ (b : Bool). if b then Some z else value_at rest n) p ∙ k.there; is = k.is }

merged_none : (es fs xs : List (Name × Stated)) → merged_exports (merging es) fs ≡ Some xs → (n : Name) → value_at es n ≡ None → value_at xs n ≡ None
merged_none [] fs xs q n v = ap (λ l. value_at l n) (sym (same_Some _ _ q))
merged_none (e ∷ es) fs xs q n v =
    let b = both_is (λ x ys. (e.0, x) ∷ ys) (merged_with (merge e.1) e.1 (value_at fs e.0)) (merged_exports (merging es) fs) xs q in
    subst (λ l. value_at l n ≡ None) b.4 (go b.0 b.1 (merged_none es fs b.1 b.3 n) (pointwise ◌==◌ n e.0) v)
  where
    go : (z : Stated) (rest : List (Name × Stated)) → (value_at es n ≡ None → value_at rest n ≡ None) → (b : Bool) → (if b then Some e.1 else value_at es n) ≡ None → (if b then Some z else value_at rest n) ≡ None
    go z rest h true r = absurd (none-some _ (sym r))
    go z rest h false r = h r

-- exports that keep what they are merged with stay
merged_same : (es fs : List (Name × Stated)) → ((n : Name) (x y : Stated) → Among (n, x) es → value_at fs n ≡ Some y → merge x y ≡ Some x) → merged_exports (merging es) fs ≡ Some es
merged_same [] fs h = refl
merged_same (e ∷ es) fs h =
    let first = go (value_at fs e.0) refl in
    λ j. both (λ x xs. (e.0, x) ∷ xs) (first j) (merged_same es fs (λ n x y m v. h n x y (inr m) v) j)
  where
    go : (o : Option Stated) → value_at fs e.0 ≡ o → merged_with (merge e.1) e.1 o ≡ Some e.1
    go None q = refl
    go (Some y) q = h e.0 e.1 y (inl refl) q

-- ---- lists

filter_none : {X : Type 0} (t : X → Bool) (xs : List X) → ((x : X) → Among x xs → t x ≡ false) → filter t xs ≡ []
filter_none t [] h = refl
filter_none t (x ∷ xs) h = ap (λ b. cond b (x ∷ filter t xs) (filter t xs)) (h x (inl refl)) ∙ filter_none t xs (λ y m. h y (inr m))

nil_behind : {X : Type 0} (xs : List X) → xs ++ [] ≡ xs
nil_behind [] = refl
nil_behind (x ∷ xs) = ap (λ l. x ∷ l) (nil_behind xs)

has_own : (us : List Used) (u : Used) → Among u us → has_use us u.name ≡ true
has_own [] u m = absurd m
has_own (v ∷ us) u (inl e) = ap (λ b. b || list_any (λ w. bytes_eq w.name u.name) us) ((bytes_eq-Decides v.name u.name).1 (ap (λ (w : Used). w.name) (sym e)))
has_own (v ∷ us) u (inr m) = or_right (bytes_eq v.name u.name) (has_use us u.name) (has_own us u m)
  where
    or_right : (a b : Bool) → b ≡ true → (a || b) ≡ true
    or_right true b e = refl
    or_right false b e = e

has_left : (us vs : List Used) (n : Name) → has_use us n ≡ true → has_use (us ++ vs) n ≡ true
has_left [] vs n e = absurd (true≢false (sym e))
has_left (u ∷ us) vs n e = go (has_left us vs n) (bytes_eq u.name n) e
  where
    go : (has_use us n ≡ true → has_use (us ++ vs) n ≡ true) → (b : Bool) → (b || has_use us n) ≡ true → (b || has_use (us ++ vs) n) ≡ true
    go rest true e = refl
    go rest false e = rest e

has_right : (us vs : List Used) (n : Name) → has_use vs n ≡ true → has_use (us ++ vs) n ≡ true
has_right [] vs n e = e
has_right (u ∷ us) vs n e = go (has_right us vs n e) (bytes_eq u.name n)
  where
    go : has_use (us ++ vs) n ≡ true → (b : Bool) → (b || has_use (us ++ vs) n) ≡ true
    go rest true = refl
    go rest false = rest

among_filter : (t : Used → Bool) (us : List Used) (u : Used) → Among u us → t u ≡ true → Among u (filter t us)
among_filter t [] u m p = m
among_filter t (v ∷ us) u m p = go (λ k. among_filter t us u k p) (t v) refl m
  where
    go : (Among u us → Among u (filter t us)) → (b : Bool) → t v ≡ b → Among u (v ∷ us) → Among u (cond b (v ∷ filter t us) (filter t us))
    go rest true e (inl d) = inl d
    go rest true e (inr k) = inr (rest k)
    go rest false e (inl d) = absurd (true≢false (sym p ∙ ap t d ∙ e))
    go rest false e (inr k) = rest k

-- the uses of both
has_both : (us : List Used) (y : Stated) (u : Used) → Among u (uses_of y) → has_use (us ++ more_uses us y) u.name ≡ true
has_both us y u m = go (has_use us u.name) refl
  where
    go : (b : Bool) → has_use us u.name ≡ b → has_use (us ++ more_uses us y) u.name ≡ true
    go true e = has_left us (more_uses us y) u.name e
    go false e = has_right us (more_uses us y) u.name (has_own (more_uses us y) u (among_filter (λ (v : Used). not (has_use us v.name)) (uses_of y) u m (ap not e)))

-- ---- what has been merged

-- the one has what the other has, name by name
data Holds : Stated → Stated → Type 0 where
  of_equal : {w a : Stated} → is_instance_kind (kind_of w) ≡ false → is_interface (kind_of w) ≡ false → (fits w a && fits a w) ≡ true → Holds w a
  of_instances : {w a : Stated} → is_instance_kind (kind_of w) ≡ true → is_instance_kind (kind_of a) ≡ true → ((u : Used) → Among u (uses_of a) → has_use (uses_of w) u.name ≡ true)
      → ((n : Name) (y : Stated) → value_at (exports_of a) n ≡ Some y → is_none (value_at (exports_of w) n) ≡ false)
      → ((n : Name) (x y : Stated) → value_at (exports_of w) n ≡ Some x → value_at (exports_of a) n ≡ Some y → Holds x y) → Holds w a
  of_interfaces : {w a : Stated} → is_interface (kind_of w) ≡ true → is_interface (kind_of a) ≡ true → ((u : Used) → Among u (uses_of a) → has_use (uses_of w) u.name ≡ true)
      → ((n : Name) (y : Stated) → value_at (exports_of a) n ≡ Some y → is_none (value_at (exports_of w) n) ≡ false)
      → ((n : Name) (x y : Stated) → value_at (exports_of w) n ≡ Some x → value_at (exports_of a) n ≡ Some y → Holds x y) → Holds w a

abbrev Uses_all : Stated → Stated → Type 0
Uses_all w a = (u : Used) → Among u (uses_of a) → has_use (uses_of w) u.name ≡ true

abbrev Names_all : Stated → Stated → Type 0
Names_all w a = (n : Name) (y : Stated) → value_at (exports_of a) n ≡ Some y → is_none (value_at (exports_of w) n) ≡ false

abbrev Exports_hold : Stated → Stated → Type 0
Exports_hold w a = (n : Name) (x y : Stated) → value_at (exports_of w) n ≡ Some x → value_at (exports_of a) n ≡ Some y → Holds x y

pub no_both : (k : Kind) → is_instance_kind k ≡ true → is_interface k ≡ true → ⊥
no_both IsInstance a b = true≢false (sym b)
no_both IsFunction a b = true≢false (sym a)
no_both IsComponent a b = true≢false (sym a)
no_both IsModule a b = true≢false (sym a)
no_both IsValue a b = true≢false (sym a)
no_both IsResource a b = true≢false (sym a)
no_both IsFunctionType a b = true≢false (sym a)
no_both IsValueType a b = true≢false (sym a)
no_both IsInterface a b = true≢false (sym a)
no_both IsWorld a b = true≢false (sym a)
no_both IsModuleType a b = true≢false (sym a)

known : (w a : Stated) → Names_all w a → (f : Name × Stated) → Among f (exports_of a) → is_none (value_at (exports_of w) f.0) ≡ false
known w a g f m = go (value_at (exports_of a) f.0) refl
  where
    go : (o : Option Stated) → value_at (exports_of a) f.0 ≡ o → is_none (value_at (exports_of w) f.0) ≡ false
    go (Some y) e = g f.0 y e
    go None e = absurd (true≢false (sym (ap is_none e) ∙ name_found (exports_of a) f.0 (among_name (exports_of a) f m)))

-- the merged interface of what has it all is itself
same_again : (w a : Stated) → AreDistinct (names_of (exports_of w)) → Uses_all w a → Names_all w a → ((n : Name) (x y : Stated) → value_at (exports_of w) n ≡ Some x → value_at (exports_of a) n ≡ Some y → merge x y ≡ Some x)
    → merged_of (identifier_of w) (uses_of w) (exports_of w) a ≡ Some (interface_of (identifier_of w) (uses_of w) (exports_of w))
same_again w a d u g h =
    let no_uses : more_uses (uses_of w) a ≡ [] = filter_none (λ (v : Used). not (has_use (uses_of w) v.name)) (uses_of a) (λ v m. ap not (u v m)) in
    let no_exports : more_exports (exports_of w) a ≡ [] = filter_none (λ (f : Name × Stated). is_none (value_at (merging (exports_of w)) f.0)) (exports_of a) (λ f m. none_merging (exports_of w) f.0 ∙ known w a g f m) in
    let all_uses : uses_of w ++ more_uses (uses_of w) a ≡ uses_of w = ap (λ l. uses_of w ++ l) no_uses ∙ nil_behind (uses_of w) in
    let stay = merged_same (exports_of w) (exports_of a) (λ n x y m v. h n x y (value_there (exports_of w) n x d m) v) in
    (λ j. option_map (λ xs. interface_of (identifier_of w) (all_uses j) (xs ++ no_exports j)) (stay j)) ∙ ap (λ l. Some (interface_of (identifier_of w) (uses_of w) l)) (nil_behind (exports_of w))

holds_merge : (w a : Stated) → IsWell w → Holds w a → merge w a ≡ Some w
holds_merge w a k (of_equal g h e) = merge_other w a g h ∙ ap (λ b. if_kind b (Some w)) e
holds_merge w a (well_instance e d each) (of_instances g h u n f) =
    let i = identifier_of w in
    ap (λ x. merge x a) e ∙ merge_made i (uses_of w) (exports_of w) a ∙ ap (λ b. if_kind b (merged_of i (uses_of w) (exports_of w) a)) h
    ∙ same_again w a d u n (λ m x y p q. holds_merge x y (each m x (value_among (exports_of w) m x p)) (f m x y p q)) ∙ ap Some (sym e)
holds_merge w a (well_interface e d each) (of_instances g h u n f) = absurd (true≢false (sym g ∙ ap (λ x. is_instance_kind (kind_of x)) e))
holds_merge w a (no_interface b c) (of_instances g h u n f) = absurd (true≢false (sym g ∙ b))
holds_merge w a (well_interface e d each) (of_interfaces g h u n f) =
    let i = identifier_of w in
    ap (λ x. merge x a) e ∙ merge_typed i (uses_of w) (exports_of w) a ∙ ap (λ b. if_kind b (option_map as_type (merged_of i (uses_of w) (exports_of w) a))) h
    ∙ ap (option_map as_type) (same_again w a d u n (λ m x y p q. holds_merge x y (each m x (value_among (exports_of w) m x p)) (f m x y p q))) ∙ ap Some (sym e)
holds_merge w a (well_instance e d each) (of_interfaces g h u n f) = absurd (true≢false (sym g ∙ ap (λ x. is_interface (kind_of x)) e))
holds_merge w a (no_interface b c) (of_interfaces g h u n f) = absurd (true≢false (sym g ∙ c))

-- ---- what a type is merged with, it has

equal_itself : (x : Stated) → (fits x x && fits x x) ≡ true
equal_itself x = let f = (fits_decides x x).1 (Fits-refl (tree x)) in ap (λ b. b && b) f

there_is : (es : List (Name × Stated)) (n : Name) (x : Stated) → value_at es n ≡ Some x → is_none (value_at es n) ≡ false
there_is es n x e = ap is_none e

holds_itself : (x : Stated) → IsWell x → Holds x x
holds_itself x (no_interface g h) = of_equal g h (equal_itself x)
holds_itself x (well_instance e d each) =
    let k : is_instance_kind (kind_of x) ≡ true = ap (λ w. is_instance_kind (kind_of w)) e in
    of_instances k k (λ u m. has_own (uses_of x) u m) (λ n y q. there_is (exports_of x) n y q)
    (λ n y z p q. subst (Holds y) (same_Some _ _ (sym p ∙ q)) (holds_itself y (each n y (value_among (exports_of x) n y p))))
holds_itself x (well_interface e d each) =
    let k : is_interface (kind_of x) ≡ true = ap (λ w. is_interface (kind_of w)) e in
    of_interfaces k k (λ u m. has_own (uses_of x) u m) (λ n y q. there_is (exports_of x) n y q)
    (λ n y z p q. subst (Holds y) (same_Some _ _ (sym p ∙ q)) (holds_itself y (each n y (value_among (exports_of x) n y p))))

-- what one more merging gives: it is well, has what is merged, and all that was there
record Merges (w b z : Stated) : Type 0 where
  well : IsWell z
  new : Holds z b
  old : (a : Stated) → Holds w a → Holds z a

abbrev pub WellEntries : Stated → Type 0
WellEntries x = (n : Name) (y : Stated) → Among (n, y) (exports_of x) → IsWell y

-- the exports of a merged interface
module _ (w b : Stated) (dw : AreDistinct (names_of (exports_of w))) (db : AreDistinct (names_of (exports_of b))) (ew : WellEntries w) (eb : WellEntries b)
    (step : (n : Name) (x y z : Stated) → Among (n, x) (exports_of w) → Among (n, y) (exports_of b) → merge x y ≡ Some z → Merges x y z)
    (xs : List (Name × Stated)) (q : merged_exports (merging (exports_of w)) (exports_of b) ≡ Some xs) where
  abbrev rest : List (Name × Stated)
  rest = more_exports (exports_of w) b

  abbrev all : List (Name × Stated)
  all = xs ++ rest

  -- an export of the first
  merged_entry : (n : Name) (x : Stated) → value_at (exports_of w) n ≡ Some x → (z : Stated) × (value_at all n ≡ Some z) × (merged_with (merge x) x (value_at (exports_of b) n) ≡ Some z)
  merged_entry n x v = let m = merged_at (exports_of w) (exports_of b) xs q n x v in (m.one, value_append xs rest n m.one m.there, m.is)

  -- and one of the second alone
  new_entry : (n : Name) (y : Stated) → value_at (exports_of w) n ≡ None → value_at (exports_of b) n ≡ Some y → value_at all n ≡ Some y
  new_entry n y v p =
      value_behind xs rest n (merged_none (exports_of w) (exports_of b) xs q n v)
      ∙ value_passing (λ k. is_none (value_at (merging (exports_of w)) k)) (exports_of b) n y (none_merging (exports_of w) n ∙ ap is_none v) p

  old_given : (a : Stated) → Names_all w a → (n : Name) (y : Stated) → value_at (exports_of a) n ≡ Some y → is_none (value_at all n) ≡ false
  old_given a g n y v = go (value_at (exports_of w) n) refl
    where
      go : (o : Option Stated) → value_at (exports_of w) n ≡ o → is_none (value_at all n) ≡ false
      go (Some x) e = ap is_none (merged_entry n x e).1
      go None e = absurd (true≢false (sym (ap is_none e) ∙ g n y v))

  old_holds : (a : Stated) → Names_all w a → Exports_hold w a → (n : Name) (z y : Stated) → value_at all n ≡ Some z → value_at (exports_of a) n ≡ Some y → Holds z y
  old_holds a g f n z y p v = go (value_at (exports_of w) n) refl
    where
      more : (x z : Stated) → value_at (exports_of w) n ≡ Some x → (o : Option Stated) → value_at (exports_of b) n ≡ o → merged_with (merge x) x o ≡ Some z → Holds z y
      more x z e None k m = subst (λ t. Holds t y) (same_Some _ _ m) (f n x y e v)
      more x z e (Some t) k m = (step n x t z (value_among (exports_of w) n x e) (value_among (exports_of b) n t k) m).old y (f n x y e v)

      go : (o : Option Stated) → value_at (exports_of w) n ≡ o → Holds z y
      go (Some x) e = let m = merged_entry n x e in subst (λ t. Holds t y) (same_Some _ _ (sym m.1 ∙ p)) (more x m.0 e (value_at (exports_of b) n) refl m.2)
      go None e = absurd (true≢false (sym (ap is_none e) ∙ g n y v))

  new_given : (n : Name) (y : Stated) → value_at (exports_of b) n ≡ Some y → is_none (value_at all n) ≡ false
  new_given n y v = go (value_at (exports_of w) n) refl
    where
      go : (o : Option Stated) → value_at (exports_of w) n ≡ o → is_none (value_at all n) ≡ false
      go (Some x) e = ap is_none (merged_entry n x e).1
      go None e = ap is_none (new_entry n y e v)

  new_holds : (n : Name) (z y : Stated) → value_at all n ≡ Some z → value_at (exports_of b) n ≡ Some y → Holds z y
  new_holds n z y p v = go (value_at (exports_of w) n) refl
    where
      go : (o : Option Stated) → value_at (exports_of w) n ≡ o → Holds z y
      go (Some x) e =
          let m = merged_entry n x e in
          let is : merge x y ≡ Some m.0 = ap (merged_with (merge x) x) (sym v) ∙ m.2 in
          subst (λ t. Holds t y) (same_Some _ _ (sym m.1 ∙ p)) (step n x y m.0 (value_among (exports_of w) n x e) (value_among (exports_of b) n y v) is).new
      go None e = subst (λ t. Holds t y) (same_Some _ _ (sym (new_entry n y e v) ∙ p)) (holds_itself y (eb n y (value_among (exports_of b) n y v)))

  names_are : names_of xs ≡ names_of (exports_of w)
  names_are = merged_names (merging (exports_of w)) (exports_of b) xs q ∙ names_merging (exports_of w)

  abbrev passes : Name × Stated → Bool
  passes f = is_none (value_at (merging (exports_of w)) f.0)

  apart : (n : Name) → Among n (names_of xs) → Among n (names_of rest) → ⊥
  apart n k r =
      let f = name_passing passes (exports_of b) n r in
      true≢false (sym f.2 ∙ none_merging (exports_of w) f.0.0 ∙ ap (λ m. is_none (value_at (exports_of w) m)) (sym f.3) ∙ name_found (exports_of w) n (subst (Among n) names_are k))

  distinct : AreDistinct (names_of all)
  distinct =
      subst AreDistinct (sym (map-append (λ (f : Name × Stated). f.0) xs rest))
      (distinct_append (names_of xs) (names_of rest) (subst AreDistinct (sym names_are) dw) (distinct_filter passes (exports_of b) db) apart)

  each_well : (n : Name) (z : Stated) → Among (n, z) all → IsWell z
  each_well n z m = elim (among_append xs rest (n, z) m) [
    | inl k ↦ first (value_at (exports_of w) n) refl (value_append xs rest n z (value_there xs n z (subst AreDistinct (sym names_are) dw) k)) (among_name xs (n, z) k)
    | inr k ↦ eb n z (filter_among passes (exports_of b) (n, z) k).0
  ]
    where
      more : (x z : Stated) → value_at (exports_of w) n ≡ Some x → (o : Option Stated) → value_at (exports_of b) n ≡ o → merged_with (merge x) x o ≡ Some z → IsWell z
      more x z e None k m = subst IsWell (same_Some _ _ m) (ew n x (value_among (exports_of w) n x e))
      more x z e (Some t) k m = (step n x t z (value_among (exports_of w) n x e) (value_among (exports_of b) n t k) m).well

      first : (o : Option Stated) → value_at (exports_of w) n ≡ o → value_at all n ≡ Some z → Among n (names_of xs) → IsWell z
      first (Some x) e p k = let m = merged_entry n x e in subst IsWell (same_Some _ _ (sym m.1 ∙ p)) (more x m.0 e (value_at (exports_of b) n) refl m.2)
      first None e p k = absurd (true≢false (sym (ap is_none e) ∙ name_found (exports_of w) n (subst (Among n) names_are k)))

  -- the merged interface itself
  abbrev all_uses : List Used
  all_uses = uses_of w ++ more_uses (uses_of w) b

  abbrev made : Stated
  made = interface_of (identifier_of w) all_uses all

  exports_are : exports_of made ≡ all
  exports_are = made_exports (identifier_of w) all_uses all

  uses_are : uses_of made ≡ all_uses
  uses_are = made_uses (identifier_of w) all_uses all

  made_is : made ≡ interface_of (identifier_of made) (uses_of made) (exports_of made)
  made_is = λ j. interface_of (identifier_of w) (sym uses_are j) (sym exports_are j)

  made_distinct : AreDistinct (names_of (exports_of made))
  made_distinct = subst (λ l. AreDistinct (names_of l)) (sym exports_are) distinct

  made_well : WellEntries made
  made_well n z m = each_well n z (subst (Among (n, z)) exports_are m)

  new_uses : Uses_all made b
  new_uses u m = subst (λ l. has_use l u.name ≡ true) (sym uses_are) (has_both (uses_of w) b u m)

  new_names : Names_all made b
  new_names n y v = subst (λ l. is_none (value_at l n) ≡ false) (sym exports_are) (new_given n y v)

  new_exports : Exports_hold made b
  new_exports n x y p v = new_holds n x y (ap (λ l. value_at l n) (sym exports_are) ∙ p) v

  module _ (a : Stated) (u : Uses_all w a) (g : Names_all w a) (f : Exports_hold w a) where
    old_uses : Uses_all made a
    old_uses v m = subst (λ l. has_use l v.name ≡ true) (sym uses_are) (has_left (uses_of w) (more_uses (uses_of w) b) v.name (u v m))

    old_names : Names_all made a
    old_names n y v = subst (λ l. is_none (value_at l n) ≡ false) (sym exports_are) (old_given a g n y v)

    old_exports : Exports_hold made a
    old_exports n x y p v = old_holds a g f n x y (ap (λ l. value_at l n) (sym exports_are) ∙ p) v

  instance_keeps : is_instance_kind (kind_of w) ≡ true → (a : Stated) → Holds w a → Holds made a
  instance_keeps k a (of_equal g h e) = absurd (true≢false (sym k ∙ g))
  instance_keeps k a (of_instances g h u n f) = of_instances refl h (old_uses a u n f) (old_names a u n f) (old_exports a u n f)
  instance_keeps k a (of_interfaces g h u n f) = absurd (no_both (kind_of w) k g)

  interface_keeps : is_interface (kind_of w) ≡ true → (a : Stated) → Holds w a → Holds (as_type made) a
  interface_keeps k a (of_equal g h e) = absurd (true≢false (sym k ∙ h))
  interface_keeps k a (of_interfaces g h u n f) = of_interfaces refl h (old_uses a u n f) (old_names a u n f) (old_exports a u n f)
  interface_keeps k a (of_instances g h u n f) = absurd (no_both (kind_of w) g k)

  instances_merge : is_instance_kind (kind_of w) ≡ true → is_instance_kind (kind_of b) ≡ true → Merges w b made
  instances_merge k h = record { well = well_instance made_is made_distinct made_well; new = of_instances refl h new_uses new_names new_exports; old = instance_keeps k }

  interfaces_merge : is_interface (kind_of w) ≡ true → is_interface (kind_of b) ≡ true → Merges w b (as_type made)
  interfaces_merge k h = record { well = well_interface (ap as_type made_is) made_distinct made_well; new = of_interfaces refl h new_uses new_names new_exports; old = interface_keeps k }

pub entries_of : (b : Stated) → (is_instance_kind (kind_of b) ≡ true) ⊎ (is_interface (kind_of b) ≡ true) → IsWell b → AreDistinct (names_of (exports_of b)) × WellEntries b
entries_of b k (well_instance e d h) = (d, h)
entries_of b k (well_interface e d h) = (d, h)
entries_of b (inl k) (no_interface g h) = absurd (true≢false (sym k ∙ g))
entries_of b (inr k) (no_interface g h) = absurd (true≢false (sym k ∙ h))

merge_step : (w : Stated) → IsWell w → (b : Stated) → IsWell b → (z : Stated) → merge w b ≡ Some z → Merges w b z
merge_step w (no_interface g h) b v z m =
    let i = if_is (fits w b && fits b w) (Some w) z (sym (merge_other w b g h) ∙ m) in
    subst (Merges w b) (same_Some _ _ i.1) (record { well = no_interface g h; new = of_equal g h i.0; old = λ a o. o })
merge_step w (well_instance e d each) b v z m =
    let i = if_is (is_instance_kind (kind_of b)) (merged_of (identifier_of w) (uses_of w) (exports_of w) b) z (sym (merge_made (identifier_of w) (uses_of w) (exports_of w) b) ∙ ap (λ x. merge x b) (sym e) ∙ m) in
    let r = mapped-some (λ xs. interface_of (identifier_of w) (uses_of w ++ more_uses (uses_of w) b) (xs ++ more_exports (exports_of w) b)) (merged_exports (merging (exports_of w)) (exports_of b)) z i.1 in
    let y = entries_of b (inl i.0) v in
    subst (Merges w b) r.2 (instances_merge w b d y.0 each y.1 (λ n x u t k l q. merge_step x (each n x k) u (y.1 n u l) t q) r.0 r.1 (ap (λ x. is_instance_kind (kind_of x)) e) i.0)
merge_step w (well_interface e d each) b v z m =
    let i = if_is (is_interface (kind_of b)) (option_map as_type (merged_of (identifier_of w) (uses_of w) (exports_of w) b)) z (sym (merge_typed (identifier_of w) (uses_of w) (exports_of w) b) ∙ ap (λ x. merge x b) (sym e) ∙ m) in
    let t = mapped-some as_type (merged_of (identifier_of w) (uses_of w) (exports_of w) b) z i.1 in
    let r = mapped-some (λ xs. interface_of (identifier_of w) (uses_of w ++ more_uses (uses_of w) b) (xs ++ more_exports (exports_of w) b)) (merged_exports (merging (exports_of w)) (exports_of b)) t.0 t.1 in
    let y = entries_of b (inr i.0) v in
    subst (Merges w b) (ap as_type r.2 ∙ t.2) (interfaces_merge w b d y.0 each y.1 (λ n x u t k l q. merge_step x (each n x k) u (y.1 n u l) t q) r.0 r.1 (ap (λ x. is_interface (kind_of x)) e) i.0)

-- ---- families

module _ (p : Asked → Bool) where
  all_left : (xs ys : List Asked) → list_all p (xs ++ ys) ≡ true → list_all p xs ≡ true
  all_left [] ys e = refl
  all_left (x ∷ xs) ys e = go (all_left xs ys) (p x) e
    where
      go : (list_all p (xs ++ ys) ≡ true → list_all p xs ≡ true) → (b : Bool) → (b && list_all p (xs ++ ys)) ≡ true → (b && list_all p xs) ≡ true
      go rest true e = rest e
      go rest false e = absurd (true≢false (sym e))

  all_passed : (xs ys : List Asked) (a : Asked) → p a ≡ true → list_all p (xs ++ a ∷ ys) ≡ list_all p (xs ++ ys)
  all_passed [] ys a e = ap (λ b. b && list_all p ys) e
  all_passed (x ∷ xs) ys a e = ap (λ b. p x && b) (all_passed xs ys a e)

  all_failed : (xs ys : List Asked) (a : Asked) → Among a xs → p a ≡ false → list_all p (xs ++ ys) ≡ false
  all_failed [] ys a m e = absurd m
  all_failed (x ∷ xs) ys a (inl d) e = ap (λ b. b && list_all p (xs ++ ys)) (ap p (sym d) ∙ e)
  all_failed (x ∷ xs) ys a (inr m) e = ap (λ b. p x && b) (all_failed xs ys a m e) ∙ go (p x)
    where
      go : (b : Bool) → (b && false) ≡ false
      go true = refl
      go false = refl

  all_again : (xs ys : List Asked) (a : Asked) → Among a xs → list_all p (xs ++ a ∷ ys) ≡ list_all p (xs ++ ys)
  all_again xs ys a m = go (p a) refl
    where
      go : (b : Bool) → p a ≡ b → list_all p (xs ++ a ∷ ys) ≡ list_all p (xs ++ ys)
      go true e = all_passed xs ys a e
      go false e = all_failed xs (a ∷ ys) a m e ∙ sym (all_failed xs ys a m e)

-- all passes where one of them comes again exactly where it did
pub family_again : (before more : List Asked) (a : Asked) → Among a before → in_family (before ++ a ∷ more) ≡ in_family (before ++ more)
family_again before more a m = λ j. all_again (λ c. is_plain c.1) before more a m j || all_again (λ c. is_wit c.0 c.1) before more a m j

family_before : (before more : List Asked) → in_family (before ++ more) ≡ true → in_family before ≡ true
family_before before more e = go (list_all (λ c. is_plain c.1) (before ++ more)) refl e
  where
    right : (a b : Bool) → b ≡ true → (a || b) ≡ true
    right true b e = refl
    right false b e = e

    go : (b : Bool) → list_all (λ c. is_plain c.1) (before ++ more) ≡ b → (b || list_all (λ c. is_wit c.0 c.1) (before ++ more)) ≡ true → in_family before ≡ true
    go true q e = ap (λ b. b || list_all (λ c. is_wit c.0 c.1) before) (all_left (λ c. is_plain c.1) before more q)
    go false q e = right (list_all (λ c. is_plain c.1) before) (list_all (λ c. is_wit c.0 c.1) before) (all_left (λ c. is_wit c.0 c.1) before more e)

-- ---- a list of asks

-- in a family, what is kept has all that was asked
record Keeps (before : List Asked) (x : Stated) : Type 0 where
  well : IsWell x
  each : in_family before ≡ true → (a : Asked) → Among a before → Holds x a.1

narrower_is : (x y z : Stated) → narrower x y ≡ Some z → (z ≡ x) ⊎ (z ≡ y)
narrower_is x y z e = go (fits x y) (fits y x) e
  where
    go : (a b : Bool) → (if a then Some x else (if b then Some y else None)) ≡ Some z → (z ≡ x) ⊎ (z ≡ y)
    go true b e = inl (sym (same_Some _ _ e))
    go false true e = inr (sym (same_Some _ _ e))
    go false false e = absurd (none-some _ e)

keeps_step : (before : List Asked) (x : Stated) (a : Asked) (z : Stated) → Keeps before x → IsWell a.1 → (b : Bool) → in_family (before ++ a ∷ []) ≡ b → (if b then merge x a.1 else narrower x a.1) ≡ Some z → Keeps (before ++ a ∷ []) z
keeps_step before x a z k v false q e = record {
  well = elim (narrower_is x a.1 z e) [ inl d ↦ subst IsWell (sym d) k.well | inr d ↦ subst IsWell (sym d) v ];
  each = λ f. absurd (true≢false (sym f ∙ q));
}
keeps_step before x a z k v true q e =
    let m = merge_step x k.well a.1 v z e in
    record {
      well = m.well;
      each = λ f b i. elim (among_append before (a ∷ []) b i) [
        | inl c ↦ m.old b.1 (k.each (family_before before (a ∷ []) f) b c)
        | inr c ↦ subst (λ (d : Asked). Holds z d.1) (sym (only c)) m.new
      ];
    }
  where
    only : {b : Asked} → Among b (a ∷ []) → b ≡ a
    only (inl d) = d
    only (inr f) = absurd f

keeps_from : (before : List Asked) (x : Stated) (as_ : List Asked) (z : Stated) → Keeps before x → ((a : Asked) → Among a as_ → IsWell a.1) → kept_from before (Some x) as_ ≡ Some z → Keeps (before ++ as_) z
keeps_from before x [] z k v e = subst (λ l. Keeps l z) (sym (append_nil before)) (subst (Keeps before) (same_Some _ _ e) k)
keeps_from before x (a ∷ as_) z k v e = go (λ w i q. keeps_from (before ++ a ∷ []) w as_ z i (λ b m. v b (inr m)) q) (if in_family (before ++ a ∷ []) then merge x a.1 else narrower x a.1) refl e
  where
    go : ((w : Stated) → Keeps (before ++ a ∷ []) w → kept_from (before ++ a ∷ []) (Some w) as_ ≡ Some z → Keeps ((before ++ a ∷ []) ++ as_) z) → (o : Option Stated) → (if in_family (before ++ a ∷ []) then merge x a.1 else narrower x a.1) ≡ o
        → kept_from (before ++ a ∷ []) o as_ ≡ Some z → Keeps (before ++ a ∷ as_) z
    go further None q s = absurd (no_more_kept (before ++ a ∷ []) as_ z s)
    go further (Some w) q s = subst (λ l. Keeps l z) (append_assoc before (a ∷ []) as_) (further w (keeps_step before x a w k (v a (inl refl)) (in_family (before ++ a ∷ [])) refl q) s)

-- one ask keeps itself
first_keeps : (b : Asked) → IsWell b.1 → Keeps (b ∷ []) b.1
first_keeps b w = record { well = w; each = λ f c k. subst (λ (d : Asked). Holds b.1 d.1) (sym (only c k)) (holds_itself b.1 w) }
  where
    only : (c : Asked) → Among c (b ∷ []) → c ≡ b
    only c (inl d) = d
    only c (inr f) = absurd f

-- what well asks keep is well
pub kept_well : (asks : List Asked) (x : Stated) → ((a : Asked) → Among a asks → IsWell a.1) → kept asks ≡ Some x → IsWell x
kept_well [] x v e = absurd (none-some _ e)
kept_well (b ∷ bs) x v e = (keeps_from (b ∷ []) b.1 bs x (first_keeps b (v b (inl refl))) (λ c i. v c (inr i)) e).well

-- what is kept of an ask stays where it is asked again
stays : (before : List Asked) (x : Stated) (a : Asked) → kept before ≡ Some x → Keeps before x → Among a before → (if in_family (before ++ a ∷ []) then merge x a.1 else narrower x a.1) ≡ Some x
stays before x a e k m = go (in_family (before ++ a ∷ [])) refl
  where
    go : (b : Bool) → in_family (before ++ a ∷ []) ≡ b → (if b then merge x a.1 else narrower x a.1) ≡ Some x
    go true q = holds_merge x a.1 k.well (k.each (family_before before (a ∷ []) q) a m)
    go false q = ap (λ b. if b then Some x else (if fits a.1 x then Some a.1 else None)) ((fits_decides x a.1).1 (kept_fits before x e a m))

-- asks before that are of the same families
same_from : (bs cs : List Asked) (o : Option Stated) (as_ : List Asked) → ((more : List Asked) → in_family (bs ++ more) ≡ in_family (cs ++ more)) → kept_from bs o as_ ≡ kept_from cs o as_
same_from bs cs None as_ h = refl
same_from bs cs (Some x) [] h = refl
same_from bs cs (Some x) (a ∷ as_) h =
    ap (λ b. kept_from (bs ++ a ∷ []) (if b then merge x a.1 else narrower x a.1) as_) (h (a ∷ []))
    ∙ same_from (bs ++ a ∷ []) (cs ++ a ∷ []) (if in_family (cs ++ a ∷ []) then merge x a.1 else narrower x a.1) as_
    (λ more. ap in_family (append_assoc bs (a ∷ []) more) ∙ h (a ∷ more) ∙ ap in_family (sym (append_assoc cs (a ∷ []) more)))

still_none : (bs : List Asked) (o : Option Stated) (as_ more : List Asked) → kept_from bs o as_ ≡ None → kept_from bs o (as_ ++ more) ≡ None
still_none bs None as_ more e = refl
still_none bs (Some x) [] more e = absurd (none-some _ (sym e))
still_none bs (Some x) (a ∷ as_) more e = still_none (bs ++ a ∷ []) (if in_family (bs ++ a ∷ []) then merge x a.1 else narrower x a.1) as_ more e

pub asking_twice : Asking_twice
asking_twice [] after a m v = absurd m
asking_twice (b ∷ bs) after a m v = go (kept_from (b ∷ []) (Some b.1) bs) refl
  where
    go : (o : Option Stated) → kept_from (b ∷ []) (Some b.1) bs ≡ o → kept_from (b ∷ []) (Some b.1) (bs ++ a ∷ after) ≡ kept_from (b ∷ []) (Some b.1) (bs ++ after)
    go None e = still_none (b ∷ []) (Some b.1) bs (a ∷ after) e ∙ sym (still_none (b ∷ []) (Some b.1) bs after e)
    go (Some x) e =
        let k = keeps_from (b ∷ []) b.1 bs x (first_keeps b (v b (inl refl))) (λ c i. v c (inr i)) e in
        kept_further (b ∷ []) bs (a ∷ after) b.1 x e
        ∙ ap (λ o. kept_from ((b ∷ bs) ++ a ∷ []) o after) (stays (b ∷ bs) x a e k m)
        ∙ same_from ((b ∷ bs) ++ a ∷ []) (b ∷ bs) (Some x) after (λ more. ap in_family (append_assoc (b ∷ bs) (a ∷ []) more) ∙ family_again (b ∷ bs) more a m)
        ∙ sym (kept_further (b ∷ []) bs after b.1 x e)
