-- A composition keeps its meaning under other names of askers and instances.
use Rattle.std.specs.Prelude.{cond, not, filter, find, option_map, unwrap_or, is_some, bytes_eq, if◌then◌else◌, ◌||◌, ◌==◌}
use Rattle.std.specs.List.{list_any, flat_map, cons_option}
use Rattle.std.specs.Cmp.Lexicographic.{pointwise}
use Rattle.std.proofs.lemmas.List.{map-append}
use Rattle.std.proofs.Common.{◌≡◌, ℕ, zero, suc, List, [], ◌∷◌, ◌++◌, map, length, Bool, true, false, Option, Some, None, refl, sym, ap, ◌∙◌}
use Rattle.wac_types_base.specs.Entries.{Name, names_of, value_at}
use Rattle.wac_types_base.specs.Stated.{Stated, imports_of, identifier_of, kind_of, world_of}
use Rattle.wac_types_names.specs.Keys.{Key, same_key}
use Rattle.wac_graph_bytes.specs.Wirings.{Source, Absent, Outer, Inst, Projection, Bundle, Definition, project, rename}
use Rattle.wac_composition.specs.Composition.{Origin, imported, instance, projected, defined, Placed, Made, Composition}
use Rattle.wac_composition.specs.Asks.{Asking, ByName, ToFill, ToUse, Ask, used_by, used_by_definition, explicit_ask, filled_asks, asked_for, named_asks, asks_of}
use Rattle.wac_composition.specs.Names.{greatest}
use Rattle.wac_composition.specs.Classes.{near, within_steps, class, spelled, spelling, akin}
use Rattle.wac_composition.specs.Merging.{kept, identified}
use Rattle.wac_composition.specs.OuterImports.{with_new, asked_in, outer_of, outers_from, outer_imports}
use Rattle.wac_composition.specs.Circles.{written_whole, written_package}
use Rattle.std.specs.Option.{option_or}
use Rattle.wac_composition.specs.Conflicts.{Cause, Unwritable, ImportNames, ExportNames, first_found, dependency_name, each_once, dependencies_of, implicit_with, implicit_by, circle_cause, implicit_conflict, merge_cause, merge_fails, those_in, merge_conflict, cause_at, placed, unwritable_cause, late_unwritable, is_whole, written_forms, whole_forms, outers_written, first_cause, twins, alike, import_names, name_cause}
use Rattle.wac_composition.specs.Writable.{outer_unwritable, definition_unwritable, package_unwritable, alias_unwritable}
use Rattle.wac_types_written.specs.Written.{without_uses, written_definition}
use Rattle.wac_composition.specs.Worlds.{then_in, final_type, source_of, world_exports, composed_world}
use Rattle.wac_composition.specs.Renaming.{origin_renamed, placed_renamed, ask_renamed, cause_renamed, made_renamed, renamed, KeepsMeaning}

-- ---- lists

map_twice : {X Y Z : Type 0} (v : Y → Z) (h : X → Y) (xs : List X) → map (λ x. v (h x)) xs ≡ map v (map h xs)
map_twice v h [] = refl
map_twice v h (x ∷ xs) = ap (λ l. v (h x) ∷ l) (map_twice v h xs)

any_mapped : {X Y : Type 0} (v : X → Y) (p : Y → Bool) (xs : List X) → list_any p (map v xs) ≡ list_any (λ x. p (v x)) xs
any_mapped v p [] = refl
any_mapped v p (x ∷ xs) = ap (λ b. p (v x) || b) (any_mapped v p xs)

filter_mapped : {X Y : Type 0} (v : X → Y) (p : Y → Bool) (xs : List X) → filter p (map v xs) ≡ map v (filter (λ x. p (v x)) xs)
filter_mapped v p [] = refl
filter_mapped v p (x ∷ xs) = go (p (v x)) (filter_mapped v p xs)
  where
    go : (b : Bool) → filter p (map v xs) ≡ map v (filter (λ x. p (v x)) xs) → cond b (v x ∷ filter p (map v xs)) (filter p (map v xs)) ≡ map v (cond b (x ∷ filter (λ x. p (v x)) xs) (filter (λ x. p (v x)) xs))
    go true e = ap (λ l. v x ∷ l) e
    go false e = e

length_mapped : {X Y : Type 0} (v : X → Y) (xs : List X) → length (map v xs) ≡ length xs
length_mapped v [] = refl
length_mapped v (x ∷ xs) = ap suc (length_mapped v xs)

value_mapped : {X Y : Type 0} (v : X → Y) (xs : List (Name × X)) (n : Name) → is_some (value_at (map (λ x. (x.0, v x.1)) xs) n) ≡ is_some (value_at xs n)
value_mapped v [] n = refl
value_mapped v (x ∷ xs) n = go (pointwise ◌==◌ n x.0) (value_mapped v xs n)
  where
    go : (b : Bool) → is_some (value_at (map (λ x. (x.0, v x.1)) xs) n) ≡ is_some (value_at xs n) → is_some (if b then Some (v x.1) else value_at (map (λ x. (x.0, v x.1)) xs) n) ≡ is_some (if b then Some x.1 else value_at xs n)
    go true e = refl
    go false e = e

-- ---- sources and origins

project_renamed : {I J : Type 0} (g : I → J) (s : Source I) (n : Name) → project (rename g s) n ≡ rename g (project s n)
project_renamed g Absent n = refl
project_renamed g (Outer m) n = refl
project_renamed g (Inst k) n = refl
project_renamed g (Projection s m) n = refl
project_renamed g (Bundle h) n = refl
project_renamed g (Definition t) n = refl

module _ {A B : Type 0} (f : A → B) where
  abbrev as_asked : Ask A → Ask B
  as_asked a = ask_renamed f a

  abbrev as_cause : Cause A → Cause B
  as_cause c = cause_renamed f c

  -- ---- classes and outer imports

  near_renamed : (asks ms : List (Ask A)) → near (map as_asked asks) (map as_asked ms) ≡ map as_asked (near asks ms)
  near_renamed asks ms =
      filter_mapped as_asked (λ b. list_any (akin b) (map as_asked ms)) asks
      ∙ (λ i. map as_asked (filter (λ a. any_mapped as_asked (akin (as_asked a)) ms i) asks))

  steps_renamed : (k : ℕ) (asks ms : List (Ask A)) → within_steps k (map as_asked asks) (map as_asked ms) ≡ map as_asked (within_steps k asks ms)
  steps_renamed zero asks ms = refl
  steps_renamed (suc k) asks ms = ap (within_steps k (map as_asked asks)) (near_renamed asks ms) ∙ steps_renamed k asks (near asks ms)

  class_renamed : (asks : List (Ask A)) (a : Ask A) → class (map as_asked asks) (as_asked a) ≡ map as_asked (class asks a)
  class_renamed asks a = ap (λ k. within_steps k (map as_asked asks) (as_asked a ∷ [])) (length_mapped as_asked asks) ∙ steps_renamed (length asks) asks (a ∷ [])

  names_renamed : (as_ : List (Ask A)) → map (λ (b : Ask B). b.name) (map as_asked as_) ≡ map (λ (a : Ask A). a.name) as_
  names_renamed as_ = sym (map_twice (λ (b : Ask B). b.name) as_asked as_)

  spelled_renamed : (as_ : List (Ask A)) → spelled (map as_asked as_) ≡ spelled as_
  spelled_renamed [] = refl
  spelled_renamed (a ∷ as_) = ap (greatest a.name) (names_renamed as_)

  asked_in_renamed : (as_ : List (Ask A)) → asked_in (map as_asked as_) ≡ asked_in as_
  asked_in_renamed as_ = sym (map_twice (λ (b : Ask B). (b.name, b.item)) as_asked as_)

  outer_of_renamed : (as_ : List (Ask A)) → outer_of (map as_asked as_) ≡ outer_of as_
  outer_of_renamed as_ = λ i. option_map (λ x. (spelled_renamed as_ i, identified (spelled_renamed as_ i) (asked_in_renamed as_ i) x)) (kept (asked_in_renamed as_ i))

  outers_renamed : (found : List (Name × Stated)) (asks as_ : List (Ask A)) → outers_from found (map as_asked asks) (map as_asked as_) ≡ outers_from found asks as_
  outers_renamed found asks [] = refl
  outers_renamed found asks (a ∷ as_) =
      ap (λ o. outers_from (with_new found o) (map as_asked asks) (map as_asked as_)) (ap outer_of (class_renamed asks a) ∙ outer_of_renamed (class asks a))
      ∙ outers_renamed (with_new found (outer_of (class asks a))) asks as_

  spelling_renamed : (asks : List (Ask A)) (n : Name) → spelling (map as_asked asks) n ≡ spelling asks n
  spelling_renamed asks n = ap (λ o. unwrap_or o n) (found asks)
    where
      found : (bs : List (Ask A)) → option_map (λ b. spelled (class (map as_asked asks) b)) (find (λ b. bytes_eq b.name n) (map as_asked bs)) ≡ option_map (λ a. spelled (class asks a)) (find (λ a. bytes_eq a.name n) bs)
      found [] = refl
      found (b ∷ bs) = go (bytes_eq b.name n) (found bs)
        where
          go : (t : Bool) → option_map (λ b. spelled (class (map as_asked asks) b)) (find (λ b. bytes_eq b.name n) (map as_asked bs)) ≡ option_map (λ a. spelled (class asks a)) (find (λ a. bytes_eq a.name n) bs)
              → option_map (λ b. spelled (class (map as_asked asks) b)) (cond t (Some (as_asked b)) (find (λ b. bytes_eq b.name n) (map as_asked bs))) ≡ option_map (λ a. spelled (class asks a)) (cond t (Some b) (find (λ a. bytes_eq a.name n) bs))
          go true e = ap Some (ap spelled (class_renamed asks b) ∙ spelled_renamed (class asks b))
          go false e = e

  -- ---- the asks

  flat_renamed : {X Y : Type 0} (v : X → Y) (h : Y → List (Ask B)) (k : X → List (Ask A)) → ((x : X) → h (v x) ≡ map as_asked (k x)) → (xs : List X) → flat_map h (map v xs) ≡ map as_asked (flat_map k xs)
  flat_renamed v h k e [] = refl
  flat_renamed v h k e (x ∷ xs) = (λ i. e x i ++ flat_renamed v h k e xs i) ∙ sym (map-append as_asked (k x) (flat_map k xs))

  asked_for_renamed : (by : A) (xs : List Stated) → asked_for (f by) xs ≡ map as_asked (asked_for by xs)
  asked_for_renamed by [] = refl
  asked_for_renamed by (x ∷ xs) = go (identifier_of x) (asked_for_renamed by xs)
    where
      go : (o : Option Name) → asked_for (f by) xs ≡ map as_asked (asked_for by xs)
          → cons_option (option_map (λ n. record { asking = ToUse; by = f by; name = n; item = x }) o) (asked_for (f by) xs)
          ≡ map as_asked (cons_option (option_map (λ n. record { asking = ToUse; by = by; name = n; item = x }) o) (asked_for by xs))
      go None e = e
      go (Some n) e = ap (λ (l : List (Ask B)). record { asking = ToUse; by = f by; name = n; item = x } ∷ l) e

  explicit_renamed : (is : List (Placed A)) → map explicit_ask (map (placed_renamed f) is) ≡ map as_asked (map explicit_ask is)
  explicit_renamed [] = refl
  explicit_renamed (i ∷ is) = ap (λ l. as_asked (explicit_ask i) ∷ l) (explicit_renamed is)

  module _ {I J : Type 0} (g : I → J) where
    filled_renamed : (m : Made A I) → filled_asks (made_renamed f g m) ≡ map as_asked (filled_asks m)
    filled_renamed m =
        (λ i. map (λ e. record { asking = ToFill; by = f m.by; name = e.0; item = e.1 }) (filter (λ e. not (value_mapped (origin_renamed g) m.arguments e.0 i)) (imports_of m.world)))
        ∙ map_twice as_asked (λ (e : Name × Stated). record { asking = ToFill; by = m.by; name = e.0; item = e.1 }) (filter (λ e. not (is_some (value_at m.arguments e.0))) (imports_of m.world))

    module _ (c : Composition A I) where
      named_renamed : named_asks (renamed f g c) ≡ map as_asked (named_asks c)
      named_renamed =
          (λ i. explicit_renamed c.imports i ++ flat_renamed (made_renamed f g) filled_asks filled_asks filled_renamed c.made i)
          ∙ sym (map-append as_asked (map explicit_ask c.imports) (flat_map filled_asks c.made))

      asks_renamed : asks_of (renamed f g c) ≡ map as_asked (asks_of c)
      asks_renamed =
          (λ i. named_renamed i
          ++ (flat_map (λ a. asked_for a.by (used_by a.item)) (named_renamed i)
          ++ flat_renamed (placed_renamed f) (λ d. asked_for d.by (used_by_definition d.item)) (λ d. asked_for d.by (used_by_definition d.item)) (λ d. asked_for_renamed d.by (used_by_definition d.item)) c.definitions i))
          ∙ (λ i. map as_asked (named_asks c)
          ++ (flat_renamed as_asked (λ a. asked_for a.by (used_by a.item)) (λ a. asked_for a.by (used_by a.item)) (λ a. asked_for_renamed a.by (used_by a.item)) (named_asks c) i
          ++ map as_asked (flat_map (λ d. asked_for d.by (used_by_definition d.item)) c.definitions)))
          ∙ ap (λ l. map as_asked (named_asks c) ++ l) (sym (map-append as_asked (flat_map (λ a. asked_for a.by (used_by a.item)) (named_asks c)) (flat_map (λ d. asked_for d.by (used_by_definition d.item)) c.definitions)))
          ∙ sym (map-append as_asked (named_asks c) (flat_map (λ a. asked_for a.by (used_by a.item)) (named_asks c) ++ flat_map (λ d. asked_for d.by (used_by_definition d.item)) c.definitions))

      outers_same : outer_imports (asks_of (renamed f g c)) ≡ outer_imports (asks_of c)
      outers_same = ap outer_imports asks_renamed ∙ outers_renamed [] (asks_of c) (asks_of c)

      spelling_same : (n : Name) → spelling (asks_of (renamed f g c)) n ≡ spelling (asks_of c) n
      spelling_same n = ap (λ l. spelling l n) asks_renamed ∙ spelling_renamed (asks_of c) n

  -- ---- causes

  or_renamed : (o u : Option (Cause A)) → option_or (option_map as_cause o) (option_map as_cause u) ≡ option_map as_cause (option_or o u)
  or_renamed None u = refl
  or_renamed (Some x) u = refl

  or_both : (o u : Option (Cause B)) (p q : Option (Cause A)) → o ≡ option_map as_cause p → u ≡ option_map as_cause q → option_or o u ≡ option_map as_cause (option_or p q)
  or_both o u p q d e = (λ i. option_or (d i) (e i)) ∙ or_renamed p q

  found_renamed : {X Y : Type 0} (v : X → Y) (h : Y → Option (Cause B)) (k : X → Option (Cause A)) → ((x : X) → h (v x) ≡ option_map as_cause (k x)) → (xs : List X) → first_found h (map v xs) ≡ option_map as_cause (first_found k xs)
  found_renamed v h k e [] = refl
  found_renamed v h k e (x ∷ xs) = or_both (h (v x)) (first_found h (map v xs)) (k x) (first_found k xs) (e x) (found_renamed v h k e xs)

  found_same : {X : Type 0} (h : X → Option (Cause B)) (k : X → Option (Cause A)) → ((x : X) → h x ≡ option_map as_cause (k x)) → (xs : List X) → first_found h xs ≡ option_map as_cause (first_found k xs)
  found_same h k e [] = refl
  found_same h k e (x ∷ xs) = or_both (h x) (first_found h xs) (k x) (first_found k xs) (e x) (found_same h k e xs)

  found_import : (a : Ask A) (is : List (Placed A)) → implicit_with (as_asked a) (find (λ i. bytes_eq i.name a.name) (map (placed_renamed f) is)) ≡ option_map as_cause (implicit_with a (find (λ i. bytes_eq i.name a.name) is))
  found_import a [] = refl
  found_import a (i ∷ is) = go (bytes_eq i.name a.name) (found_import a is)
    where
      go : (b : Bool) → implicit_with (as_asked a) (find (λ i. bytes_eq i.name a.name) (map (placed_renamed f) is)) ≡ option_map as_cause (implicit_with a (find (λ i. bytes_eq i.name a.name) is))
          → implicit_with (as_asked a) (cond b (Some (placed_renamed f i)) (find (λ i. bytes_eq i.name a.name) (map (placed_renamed f) is))) ≡ option_map as_cause (implicit_with a (cond b (Some i) (find (λ i. bytes_eq i.name a.name) is)))
      go true e = refl
      go false e = e

  implicit_renamed : (k : Asking) (is : List (Placed A)) (a : Ask A) → implicit_by k (map (placed_renamed f) is) (as_asked a) ≡ option_map as_cause (implicit_by k is a)
  implicit_renamed ByName is a = refl
  implicit_renamed ToFill is a = found_import a is
  implicit_renamed ToUse is a = refl

  conflict_renamed : (is : List (Placed A)) (asks : List (Ask A)) → implicit_conflict (map (placed_renamed f) is) (map as_asked asks) ≡ option_map as_cause (implicit_conflict is asks)
  conflict_renamed is asks = found_renamed as_asked (λ b. implicit_by b.asking (map (placed_renamed f) is) b) (λ a. implicit_by a.asking is a) (λ a. implicit_renamed a.asking is a) asks

  those_renamed : (cs as_ : List (Ask A)) → those_in (map as_asked cs) (map as_asked as_) ≡ map as_asked (those_in cs as_)
  those_renamed cs as_ =
      filter_mapped as_asked (λ (b : Ask B). list_any (λ c. bytes_eq b.name c.name) (map as_asked cs)) as_
      ∙ (λ i. map as_asked (filter (λ a. any_mapped as_asked (λ c. bytes_eq a.name c.name) cs i) as_))

  fault_renamed : (k : Asking) (a : Ask A) (as_ : List (Ask A)) → merge_cause k (as_asked a) (map as_asked as_) ≡ option_map as_cause (merge_cause k a as_)
  fault_renamed k a [] = refl
  fault_renamed ByName a (b ∷ bs) = refl
  fault_renamed ToFill a (b ∷ bs) = refl
  fault_renamed ToUse a (b ∷ bs) = refl

  fails_renamed : (a : Ask A) (as_ : List (Ask A)) → merge_fails (as_asked a) (map as_asked as_) ≡ option_map as_cause (merge_fails a as_)
  fails_renamed a as_ =
      ap (λ l. if is_some (kept l) then None else merge_cause a.asking (as_asked a) (map as_asked as_)) (asked_in_renamed as_)
      ∙ go (is_some (kept (asked_in as_)))
    where
      go : (b : Bool) → (if b then None else merge_cause a.asking (as_asked a) (map as_asked as_)) ≡ option_map as_cause (if b then None else merge_cause a.asking a as_)
      go true = refl
      go false = fault_renamed a.asking a as_

  merges_renamed : (asks before as_ : List (Ask A)) → merge_conflict (map as_asked asks) (map as_asked before) (map as_asked as_) ≡ option_map as_cause (merge_conflict asks before as_)
  merges_renamed asks before [] = refl
  merges_renamed asks before (a ∷ as_) =
      let more : map as_asked before ++ as_asked a ∷ [] ≡ map as_asked (before ++ a ∷ []) = sym (map-append as_asked before (a ∷ [])) in
      or_both
      (merge_fails (as_asked a) (those_in (class (map as_asked asks) (as_asked a)) (map as_asked before ++ as_asked a ∷ [])))
      (merge_conflict (map as_asked asks) (map as_asked before ++ as_asked a ∷ []) (map as_asked as_))
      (merge_fails a (those_in (class asks a) (before ++ a ∷ [])))
      (merge_conflict asks (before ++ a ∷ []) as_)
      ((λ i. merge_fails (as_asked a) (those_in (class_renamed asks a i) (more i)))
      ∙ ap (merge_fails (as_asked a)) (those_renamed (class asks a) (before ++ a ∷ [])) ∙ fails_renamed a (those_in (class asks a) (before ++ a ∷ [])))
      (ap (λ l. merge_conflict (map as_asked asks) l (map as_asked as_)) more ∙ merges_renamed asks (before ++ a ∷ []) as_)

  cause_here : (p : Name × Stated → Bool) (e : Name × Stated) → cause_at {A = B} p e ≡ option_map as_cause (cause_at {A = A} p e)
  cause_here p e = go (p e)
    where
      go : (b : Bool) → (if b then Some (Unwritable e.0) else None) ≡ option_map as_cause (if b then Some (Unwritable e.0) else None)
      go true = refl
      go false = refl

  placed_same : (ds : List (Placed A)) → placed (map (placed_renamed f) ds) ≡ placed ds
  placed_same ds = sym (map_twice (λ (d : Placed B). (d.name, d.item)) (placed_renamed f) ds)

  forms_same : (ds : List (Placed A)) → written_forms (map (placed_renamed f) ds) ≡ written_forms ds
  forms_same ds = sym (map_twice (λ (d : Placed B). (d.name, written_definition d.item)) (placed_renamed f) ds)

  whole_same : (ds : List (Placed A)) → whole_forms (map (placed_renamed f) ds) ≡ whole_forms ds
  whole_same ds = ap (filter (λ (e : Name × Stated). is_whole (kind_of e.1))) (forms_same ds)

  module _ {I J : Type 0} (g : I → J) where
    once_renamed : (seen : List Key) (ms : List (Made A I)) → each_once seen (map (made_renamed f g) ms) ≡ each_once seen ms
    once_renamed seen [] = refl
    once_renamed seen (m ∷ ms) = go (once_renamed seen ms) (once_renamed (m.key ∷ seen) ms) (list_any (same_key m.key) seen)
      where
        go : each_once seen (map (made_renamed f g) ms) ≡ each_once seen ms → each_once (m.key ∷ seen) (map (made_renamed f g) ms) ≡ each_once (m.key ∷ seen) ms → (b : Bool) → (if b then each_once seen (map (made_renamed f g) ms) else (dependency_name m.key, m.world) ∷ each_once (m.key ∷ seen) (map (made_renamed f g) ms)) ≡ (if b then each_once seen ms else (dependency_name m.key, m.world) ∷ each_once (m.key ∷ seen) ms)
        go same more true = same
        go same more false = ap (λ l. (dependency_name m.key, m.world) ∷ l) more

    module _ (c : Composition A I) where
      dependencies_same : (define : Bool) → dependencies_of define (renamed f g c) ≡ dependencies_of define c
      dependencies_same true = refl
      dependencies_same false = once_renamed [] c.made

      unwritable_renamed : (define : Bool) (outers : List (Name × Stated)) → unwritable_cause define (renamed f g c) outers ≡ option_map as_cause (unwritable_cause define c outers)
      unwritable_renamed define outers =
          let definitions_ : first_found (cause_at {A = B} (definition_unwritable outers)) (placed (map (placed_renamed f) c.definitions)) ≡ option_map as_cause (first_found (cause_at (definition_unwritable outers)) (placed c.definitions)) =
          ap (first_found (cause_at (definition_unwritable outers))) (placed_same c.definitions) ∙ found_same (cause_at (definition_unwritable outers)) (cause_at (definition_unwritable outers)) (cause_here (definition_unwritable outers)) (placed c.definitions) in
          let packages_ : first_found (cause_at {A = B} package_unwritable) (dependencies_of define (renamed f g c)) ≡ option_map as_cause (first_found (cause_at package_unwritable) (dependencies_of define c)) =
          ap (first_found (cause_at package_unwritable)) (dependencies_same define) ∙ found_same (cause_at package_unwritable) (cause_at package_unwritable) (cause_here package_unwritable) (dependencies_of define c) in
          or_both (first_found (cause_at alias_unwritable) c.aliases) _ (first_found (cause_at alias_unwritable) c.aliases) _ (found_same (cause_at alias_unwritable) (cause_at alias_unwritable) (cause_here alias_unwritable) c.aliases)
          (or_both (first_found (cause_at (outer_unwritable outers)) outers) _ (first_found (cause_at (outer_unwritable outers)) outers) _ (found_same (cause_at (outer_unwritable outers)) (cause_at (outer_unwritable outers)) (cause_here (outer_unwritable outers)) outers)
          (or_both _ _ _ _ definitions_ packages_))

      circle_renamed : (define : Bool) (spell : Name → Name) (outers : List (Name × Stated)) → circle_cause define (renamed f g c) spell outers ≡ option_map as_cause (circle_cause define c spell outers)
      circle_renamed define spell outers =
          let definitions_ : first_found (cause_at {A = B} (late_unwritable true)) (flat_map written_whole (whole_forms (map (placed_renamed f) c.definitions))) ≡ option_map as_cause (first_found (cause_at (late_unwritable true)) (flat_map written_whole (whole_forms c.definitions))) =
          ap (λ es. first_found (cause_at (late_unwritable true)) (flat_map written_whole es)) (whole_same c.definitions) ∙ found_same (cause_at (late_unwritable true)) (cause_at (late_unwritable true)) (cause_here (late_unwritable true)) (flat_map written_whole (whole_forms c.definitions)) in
          let packages_ : first_found (cause_at {A = B} (late_unwritable true)) (flat_map written_package (dependencies_of define (renamed f g c))) ≡ option_map as_cause (first_found (cause_at (late_unwritable true)) (flat_map written_package (dependencies_of define c))) =
          ap (λ es. first_found (cause_at (late_unwritable true)) (flat_map written_package es)) (dependencies_same define) ∙ found_same (cause_at (late_unwritable true)) (cause_at (late_unwritable true)) (cause_here (late_unwritable true)) (flat_map written_package (dependencies_of define c)) in
          or_both (first_found (cause_at (late_unwritable true)) (outers_written spell outers)) _ (first_found (cause_at (late_unwritable true)) (outers_written spell outers)) _ (found_same (cause_at (late_unwritable true)) (cause_at (late_unwritable true)) (cause_here (late_unwritable true)) (outers_written spell outers))
          (or_both _ _ _ _ definitions_ packages_)

      circle_same : (define : Bool) → circle_cause define (renamed f g c) (spelling (asks_of (renamed f g c))) (outer_imports (asks_of (renamed f g c))) ≡ option_map as_cause (circle_cause define c (spelling (asks_of c)) (outer_imports (asks_of c)))
      circle_same define =
          (λ i. circle_cause define (renamed f g c) (λ n. spelling_same g c n i) (outers_same g c i))
          ∙ circle_renamed define (spelling (asks_of c)) (outer_imports (asks_of c))

      cause_same : (define : Bool) → first_cause define (renamed f g c) ≡ option_map as_cause (first_cause define c)
      cause_same define =
          or_both _ _ (implicit_conflict c.imports (asks_of c)) _
          (ap (implicit_conflict (map (placed_renamed f) c.imports)) (asks_renamed g c) ∙ conflict_renamed c.imports (asks_of c))
          (or_both _ _ (merge_conflict (asks_of c) [] (asks_of c)) _
          ((λ i. merge_conflict (asks_renamed g c i) [] (asks_renamed g c i)) ∙ merges_renamed (asks_of c) [] (asks_of c))
          (or_both _ _ (unwritable_cause define c (outer_imports (asks_of c))) _
          (ap (unwritable_cause define (renamed f g c)) (outers_same g c) ∙ unwritable_renamed define (outer_imports (asks_of c)))
          (circle_same define)))

      exported_same : map (λ (e : Name × Origin J × Stated). e.0) (map (λ (e : Name × Origin I × Stated). (e.0, origin_renamed g e.1, e.2)) c.exports) ≡ map (λ (e : Name × Origin I × Stated). e.0) c.exports
      exported_same = sym (map_twice (λ (e : Name × Origin J × Stated). e.0) (λ (e : Name × Origin I × Stated). (e.0, origin_renamed g e.1, e.2)) c.exports)

      imports_alike : (o : Option (Name × Name)) → option_map (λ t. ImportNames t.0 t.1) o ≡ option_map as_cause (option_map (λ t. ImportNames t.0 t.1) o)
      imports_alike None = refl
      imports_alike (Some t) = refl

      exports_alike : (o : Option (Name × Name)) → option_map (λ t. ExportNames t.0 t.1) o ≡ option_map as_cause (option_map (λ t. ExportNames t.0 t.1) o)
      exports_alike None = refl
      exports_alike (Some t) = refl

      names_same : (define validate : Bool) → name_cause define validate (renamed f g c) ≡ option_map as_cause (name_cause define validate c)
      names_same define validate =
          or_both _ _ _ _
          ((λ i. option_map (λ t. ImportNames t.0 t.1) (twins (alike validate) [] (names_of (outers_same g c i) ++ names_of (dependencies_same define i)))) ∙ imports_alike (twins (alike validate) [] (import_names define c)))
          (ap (λ l. option_map (λ t. ExportNames t.0 t.1) (twins (alike validate) [] l)) exported_same ∙ exports_alike (twins (alike validate) [] (map (λ (e : Name × Origin I × Stated). e.0) c.exports)))

      -- ---- the world and the sources

      final_same : (o : Origin I) → final_type (asks_of (renamed f g c)) (origin_renamed g o) ≡ final_type (asks_of c) o
      final_same (imported n) = λ i. value_at (outers_same g c i) (spelling_same g c n i)
      final_same (instance k) = refl
      final_same (projected o n) = ap (λ x. then_in x n) (final_same o)
      final_same (defined n x) = refl

      world_exports_same : (es : List (Name × Origin I × Stated)) → world_exports (asks_of (renamed f g c)) (map (λ e. (e.0, origin_renamed g e.1, e.2)) es) ≡ world_exports (asks_of c) es
      world_exports_same [] = refl
      world_exports_same (e ∷ es) = λ i. (e.0, unwrap_or (final_same e.1 i) e.2) ∷ world_exports_same es i

      world_same : composed_world (renamed f g c) ≡ composed_world c
      world_same = λ i. without_uses (world_of None [] (outers_same g c i) (world_exports_same c.exports i))

      sources_same : (o : Origin I) → source_of (asks_of (renamed f g c)) (origin_renamed g o) ≡ rename g (source_of (asks_of c) o)
      sources_same (imported n) = ap Outer (spelling_same g c n)
      sources_same (instance k) = refl
      sources_same (projected o n) = ap (λ s. project s n) (sources_same o) ∙ project_renamed g (source_of (asks_of c) o) n
      sources_same (defined n x) = refl

      pub keeps_meaning : KeepsMeaning f g c
      keeps_meaning = record {
        asks = asks_renamed g c;
        outers = outers_same g c;
        spelled = spelling_same g c;
        cause = cause_same;
        names = names_same;
        world = world_same;
        sources = sources_same;
      }
