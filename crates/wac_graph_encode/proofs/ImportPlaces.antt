-- Imports by their names and places, and those of them that are sources.
use Rattle.std.proofs.Common.{◌≡◌, ◌+◌, ◌==◌, ℕ, zero, suc, Bool, true, false, true≢false, ◌||◌, List, [], ◌∷◌, ◌++◌, length, Option, Some, None, refl, sym, ap, ◌∙◌, subst, arith, inl, inr, slice_get, append_assoc}
use Rattle.std.specs.Prelude.{filter_map, if◌then◌else◌, option_and_then}
use Rattle.std.specs.List.{range_with_len}
use Rattle.std.specs.Cmp.Lexicographic.{pointwise, bytes_decides}
use Rattle.std.proofs.lemmas.Option.{none-some, same_Some}
use Rattle.wac_types_base.specs.declared.item.ItemKind.{ItemKind}
use Rattle.wac_types_base.specs.Graph.{Among}
use Rattle.wac_types_base.specs.Entries.{Name, names_of, value_at, has_name, AreDistinct}
use Rattle.wac_graph_core.proofs.Found.{same_name}
use Rattle.wac_graph_scopes.specs.Imports.{own_places}
use Rattle.wac_graph_causes.specs.Late.{is_interface_item, interface_items}
use Rattle.wac_graph_encode.specs.PlainOrders.{source_name, source_at}
use Rattle.wac_graph_encode.proofs.TwoOrders.{filter_yes, filter_no, map_next}

apart : (n m : Name) → (n ≡ m → ⊥) → pointwise ◌==◌ n m ≡ false
apart n m f = go (pointwise ◌==◌ n m) refl
  where
    go : (b : Bool) → pointwise ◌==◌ n m ≡ b → pointwise ◌==◌ n m ≡ false
    go true e = absurd (f ((bytes_decides n m).0 e))
    go false e = e

not_named : (ns : List Name) (n : Name) → (Among n ns → ⊥) → has_name ns n ≡ false
not_named [] n f = refl
not_named (m ∷ ms) n f = ap (λ t. t || has_name ms n) (apart n m (λ e. f (inl e))) ∙ not_named ms n (λ a. f (inr a))

module _ {T : Type 0} where
  among_names : (xs : List (Name × T)) (i : ℕ) (n : Name) (x : T) → slice_get xs i ≡ Some (n, x) → Among n (names_of xs)
  among_names [] i n x e = absurd (none-some _ e)
  among_names (y ∷ ys) zero n x e = inl (ap (λ (p : Name × T). p.0) (sym (same_Some y (n, x) e)))
  among_names (y ∷ ys) (suc i) n x e = inr (among_names ys i n x e)

  -- ---- names and places

  pub place_here : (xs : List (Name × T)) (b i : ℕ) (n : Name) (x : T) → AreDistinct (names_of xs) → slice_get xs i ≡ Some (n, x) → value_at (own_places b (names_of xs)) n ≡ Some (b + i)
  place_here [] b i n x d e = absurd (none-some _ e)
  place_here (y ∷ ys) b zero n x d e =
      let same : y.0 ≡ n = ap (λ (p : Name × T). p.0) (same_Some y (n, x) e) in
      let none : b ≡ b + 0 = omega arith in
      ap (λ t. if t then Some b else value_at (own_places (b + 1) (names_of ys)) n) (ap (pointwise ◌==◌ n) same ∙ same_name n) ∙ ap Some none
  place_here (y ∷ ys) b (suc i) n x d e =
      let far : pointwise ◌==◌ n y.0 ≡ false = apart n y.0 (λ q. d.0 (subst (λ m. Among m (names_of ys)) q (among_names ys i n x e))) in
      let one : (b + 1) + i ≡ b + suc i = omega arith in
      ap (λ t. if t then Some b else value_at (own_places (b + 1) (names_of ys)) n) far ∙ place_here ys (b + 1) i n x d.1 e ∙ ap Some one

  pub record StandsThere (xs : List (Name × T)) (b m : ℕ) (n : Name) : Type 0 where
    pub place : ℕ
    pub item : T
    pub at : slice_get xs place ≡ Some (n, item)
    pub is : m ≡ b + place

  pub place_from : (xs : List (Name × T)) (b m : ℕ) (n : Name) → value_at (own_places b (names_of xs)) n ≡ Some m → StandsThere xs b m n
  place_from [] b m n e = absurd (none-some _ e)
  place_from (y ∷ ys) b m n e = go (pointwise ◌==◌ n y.0) refl (place_from ys (b + 1) m n)
    where
      go : (t : Bool) → pointwise ◌==◌ n y.0 ≡ t → (value_at (own_places (b + 1) (names_of ys)) n ≡ Some m → StandsThere ys (b + 1) m n) → StandsThere (y ∷ ys) b m n
      go true q rest =
          let same : b ≡ m = same_Some b m (sym (ap (λ t. if t then Some b else value_at (own_places (b + 1) (names_of ys)) n) q) ∙ e) in
          record { place = 0; item = y.1; at = ap (λ k. Some (k, y.1)) (sym ((bytes_decides n y.0).0 q)); is = omega (arith, same) }
      go false q rest =
          let s = rest (sym (ap (λ t. if t then Some b else value_at (own_places (b + 1) (names_of ys)) n) q) ∙ e) in
          record { place = suc s.place; item = s.item; at = s.at; is = omega (arith, s.is) }

  pub no_place : (xs : List (Name × T)) (b : ℕ) (n : Name) → value_at (own_places b (names_of xs)) n ≡ None → has_name (names_of xs) n ≡ false
  no_place [] b n e = refl
  no_place (y ∷ ys) b n e = go (pointwise ◌==◌ n y.0) refl (no_place ys (b + 1) n)
    where
      go : (t : Bool) → pointwise ◌==◌ n y.0 ≡ t → (value_at (own_places (b + 1) (names_of ys)) n ≡ None → has_name (names_of ys) n ≡ false) → has_name (names_of (y ∷ ys)) n ≡ false
      go true q rest = absurd (none-some _ (sym e ∙ ap (λ t. if t then Some b else value_at (own_places (b + 1) (names_of ys)) n) q))
      go false q rest = ap (λ t. t || has_name (names_of ys) n) q ∙ rest (sym (ap (λ t. if t then Some b else value_at (own_places (b + 1) (names_of ys)) n) q) ∙ e)

-- ---- sources

pub fewer : (xs : List (Name × ItemKind)) (n : Name) → has_name (names_of xs) n ≡ false → has_name (names_of (interface_items xs)) n ≡ false
fewer [] n e = refl
fewer (y ∷ ys) n e = go (pointwise ◌==◌ n y.0) refl (is_interface_item y.1) refl (fewer ys n)
  where
    go : (t : Bool) → pointwise ◌==◌ n y.0 ≡ t → (s : Bool) → is_interface_item y.1 ≡ s → (has_name (names_of ys) n ≡ false → has_name (names_of (interface_items ys)) n ≡ false) → has_name (names_of (interface_items (y ∷ ys))) n ≡ false
    go true q s f rest = absurd (true≢false (sym (ap (λ t. t || has_name (names_of ys) n) q) ∙ e))
    go false q true f rest = ap (λ l. has_name (names_of l) n) (filter_yes (λ (x : Name × ItemKind). is_interface_item x.1) y ys f) ∙ ap (λ t. t || has_name (names_of (interface_items ys)) n) q ∙ rest (sym (ap (λ t. t || has_name (names_of ys) n) q) ∙ e)
    go false q false f rest = ap (λ l. has_name (names_of l) n) (filter_no (λ (x : Name × ItemKind). is_interface_item x.1) y ys f) ∙ rest (sym (ap (λ t. t || has_name (names_of ys) n) q) ∙ e)

-- what is found of the import at a place among the sources
pub source_value : (xs : List (Name × ItemKind)) (i : ℕ) (n : Name) (x : ItemKind) → AreDistinct (names_of xs) → slice_get xs i ≡ Some (n, x) → value_at (interface_items xs) n ≡ (if is_interface_item x then Some x else None)
source_value [] i n x d e = absurd (none-some _ e)
source_value (y ∷ ys) zero n x d e = go (is_interface_item y.1) refl
  where
    same : y ≡ (n, x)
    same = same_Some y (n, x) e

    named : y.0 ≡ n
    named = ap (λ (q : Name × ItemKind). q.0) same

    valued : y.1 ≡ x
    valued = ap (λ (q : Name × ItemKind). q.1) same

    nothing : (o : Option ItemKind) → value_at (interface_items ys) n ≡ o → has_name (names_of (interface_items ys)) n ≡ false → o ≡ None
    nothing None q h = refl
    nothing (Some v) q h = absurd (none_there (interface_items ys) n v q h)
      where
        none_there : (zs : List (Name × ItemKind)) (n : Name) (v : ItemKind) → value_at zs n ≡ Some v → has_name (names_of zs) n ≡ false → ⊥
        none_there [] n v q h = none-some _ q
        none_there (z ∷ zs) n v q h = by (pointwise ◌==◌ n z.0) refl (none_there zs n v)
          where
            by : (t : Bool) → pointwise ◌==◌ n z.0 ≡ t → (value_at zs n ≡ Some v → has_name (names_of zs) n ≡ false → ⊥) → ⊥
            by true f rest = true≢false (sym (ap (λ t. t || has_name (names_of zs) n) f) ∙ h)
            by false f rest = rest (sym (ap (λ t. if t then Some z.1 else value_at zs n) f) ∙ q) (sym (ap (λ t. t || has_name (names_of zs) n) f) ∙ h)

    go : (s : Bool) → is_interface_item y.1 ≡ s → value_at (interface_items (y ∷ ys)) n ≡ (if is_interface_item x then Some x else None)
    go true f =
        ap (λ l. value_at l n) (filter_yes (λ (x : Name × ItemKind). is_interface_item x.1) y ys f)
        ∙ ap (λ t. if t then Some y.1 else value_at (interface_items ys) n) (ap (pointwise ◌==◌ n) named ∙ same_name n) ∙ ap Some valued
        ∙ sym (ap (λ t. if t then Some x else None) (ap is_interface_item (sym valued) ∙ f))
    go false f =
        ap (λ l. value_at l n) (filter_no (λ (x : Name × ItemKind). is_interface_item x.1) y ys f)
        ∙ nothing (value_at (interface_items ys) n) refl (fewer ys n (not_named (names_of ys) n (λ a. d.0 (subst (λ m. Among m (names_of ys)) (sym named) a))))
        ∙ sym (ap (λ t. if t then Some x else None) (ap is_interface_item (sym valued) ∙ f))
source_value (y ∷ ys) (suc i) n x d e = go (is_interface_item y.1) refl (source_value ys i n x d.1 e)
  where
    far : pointwise ◌==◌ n y.0 ≡ false
    far = apart n y.0 (λ q. d.0 (subst (λ m. Among m (names_of ys)) q (among_names ys i n x e)))

    go : (s : Bool) → is_interface_item y.1 ≡ s → value_at (interface_items ys) n ≡ (if is_interface_item x then Some x else None) → value_at (interface_items (y ∷ ys)) n ≡ (if is_interface_item x then Some x else None)
    go true f r =
        ap (λ l. value_at l n) (filter_yes (λ (x : Name × ItemKind). is_interface_item x.1) y ys f)
        ∙ ap (λ t. if t then Some y.1 else value_at (interface_items ys) n) far ∙ r
    go false f r = ap (λ l. value_at l n) (filter_no (λ (x : Name × ItemKind). is_interface_item x.1) y ys f) ∙ r

-- ---- all places

there_get : (before : List (Name × ItemKind)) (x : Name × ItemKind) (rest : List (Name × ItemKind)) → slice_get (before ++ x ∷ rest) (length before) ≡ Some x
there_get [] x rest = refl
there_get (y ∷ ys) x rest = there_get ys x rest

all_named : (before xs : List (Name × ItemKind)) (b : ℕ) → length before ≡ b → filter_map (source_at (before ++ xs)) (range_with_len b (length xs)) ≡ names_of (interface_items xs)
all_named before [] b e = refl
all_named before (x ∷ xs) b e = go (is_interface_item x.1) refl (all_named (before ++ x ∷ []) xs (b + 1) (longer before x b e))
  where
    longer : (ys : List (Name × ItemKind)) (x : Name × ItemKind) (b : ℕ) → length ys ≡ b → length (ys ++ x ∷ []) ≡ b + 1
    longer [] x b e = omega (arith, e)
    longer (y ∷ ys) x zero e = absurd (omega (arith, e))
    longer (y ∷ ys) x (suc b) e = let r = longer ys x b (cc e) in omega (arith, r)

    here : (o : Option Name) → source_name x ≡ o → source_at (before ++ x ∷ xs) b ≡ o
    here o f = ap (λ k. option_and_then source_name (slice_get (before ++ x ∷ xs) k)) (sym e) ∙ ap (option_and_then source_name) (there_get before x xs) ∙ f

    go : (s : Bool) → is_interface_item x.1 ≡ s → filter_map (source_at ((before ++ x ∷ []) ++ xs)) (range_with_len (b + 1) (length xs)) ≡ names_of (interface_items xs)
        → filter_map (source_at (before ++ x ∷ xs)) (range_with_len b (length (x ∷ xs))) ≡ names_of (interface_items (x ∷ xs))
    go true f r =
        map_next (source_at (before ++ x ∷ xs)) b (range_with_len (b + 1) (length xs)) (Some x.0) (here (Some x.0) (ap (λ t. if t then Some x.0 else None) f))
        ∙ ap (λ l. x.0 ∷ filter_map (source_at l) (range_with_len (b + 1) (length xs))) (sym (append_assoc before (x ∷ []) xs)) ∙ ap (λ l. x.0 ∷ l) r
        ∙ sym (ap (λ l. names_of l) (filter_yes (λ (x : Name × ItemKind). is_interface_item x.1) x xs f))
    go false f r =
        map_next (source_at (before ++ x ∷ xs)) b (range_with_len (b + 1) (length xs)) None (here None (ap (λ t. if t then Some x.0 else None) f))
        ∙ ap (λ l. filter_map (source_at l) (range_with_len (b + 1) (length xs))) (sym (append_assoc before (x ∷ []) xs)) ∙ r
        ∙ sym (ap (λ l. names_of l) (filter_no (λ (x : Name × ItemKind). is_interface_item x.1) x xs f))

pub every_source : (xs : List (Name × ItemKind)) → filter_map (source_at xs) (range_with_len 0 (length xs)) ≡ names_of (interface_items xs)
every_source xs = all_named [] xs 0 refl
