-- Places in order, and names in order, where places and names belong together: both orders are one.
use Rattle.std.proofs.Common.{◌≡◌, ◌<◌, ◌≤◌, ◌+◌, ◌==◌, ℕ, zero, suc, Bool, true, false, true≢false, ◌||◌, List, [], ◌∷◌, ◌++◌, length, Option, Some, None, refl, sym, ap, ◌∙◌, arith, inl, inr}
use Rattle.std.specs.Prelude.{◌⊎◌, eqb, nat_le, filter, filter_map, if◌then◌else◌}
use Rattle.std.specs.List.{fold, range_with_len, cons_option}
use Rattle.std.specs.Cmp.Lexicographic.{pointwise, bytes_decides}
use Rattle.std.proofs.Math.Bool.{or-true}
use Rattle.std.proofs.lemmas.Bool.{leb-true}
use Rattle.std.proofs.lemmas.Bool.Decides.{Decides-eqb, same_from_decides}
use Rattle.std.proofs.lemmas.List.{append-nil}
use Rattle.std.proofs.lemmas.List.Elements.{filter_map-append, filter-append}
use Rattle.std.proofs.lemmas.Option.{none-some, same_Some}
use Rattle.wac_types_base.specs.Entries.{Name, value_at, has_name, names_of}
use Rattle.wac_types_base.specs.Stated.{Stated}
use Rattle.wac_composition.specs.Circles.{used_names, put, written_names}
use Rattle.wac_graph_scopes.specs.Behind.{has_place, needs_at, places_in_order}
use Rattle.wac_graph_scopes.specs.Behind.{put as put_place}

-- ---- lists that are filtered

module _ {X : Type 0} (p : X → Bool) where
  pub filter_yes : (x : X) (xs : List X) → p x ≡ true → filter p (x ∷ xs) ≡ x ∷ filter p xs
  filter_yes x xs e = ap (λ b. if b then x ∷ filter p xs else filter p xs) e

  pub filter_no : (x : X) (xs : List X) → p x ≡ false → filter p (x ∷ xs) ≡ filter p xs
  filter_no x xs e = ap (λ b. if b then x ∷ filter p xs else filter p xs) e

module _ {X Y : Type 0} (f : X → Option Y) where
  pub map_next : (x : X) (xs : List X) (o : Option Y) → f x ≡ o → filter_map f (x ∷ xs) ≡ cons_option o (filter_map f xs)
  map_next x xs o e = ap (λ q. cons_option q (filter_map f xs)) e

kept_name : (p : Name → Bool) (ns : List Name) (n : Name) → p n ≡ true → has_name (filter p ns) n ≡ has_name ns n
kept_name p [] n t = refl
kept_name p (m ∷ ms) n t = go (p m) refl (kept_name p ms n t)
  where
    apart : (b : Bool) → pointwise ◌==◌ n m ≡ b → p m ≡ false → pointwise ◌==◌ n m ≡ false
    apart true e f = absurd (true≢false (sym t ∙ ap p ((bytes_decides n m).0 e) ∙ f))
    apart false e f = e

    go : (b : Bool) → p m ≡ b → has_name (filter p ms) n ≡ has_name ms n → has_name (filter p (m ∷ ms)) n ≡ has_name (m ∷ ms) n
    go true e r = ap (λ l. has_name l n) (filter_yes p m ms e) ∙ ap (λ b. pointwise ◌==◌ n m || b) r
    go false e r = ap (λ l. has_name l n) (filter_no p m ms e) ∙ r ∙ ap (λ b. b || has_name ms n) (sym (apart (pointwise ◌==◌ n m) refl e))

-- ---- names that do not wait

-- one, unless it waits
abbrev one_unless : Bool → ℕ
one_unless b = if b then 0 else 1

left : (sources waiting : List Name) → ℕ
left [] ws = 0
left (s ∷ ss) ws = one_unless (has_name ws s) + left ss ws

left_all : (sources : List Name) → left sources [] ≡ length sources
unfolding left
left_all [] = refl
left_all (s ∷ ss) = let r = left_all ss in omega (arith, r)

counted : (b c : Bool) → (b ≡ true → c ≡ true) → one_unless c ≤ one_unless b
counted b true h = omega arith
counted true false h = absurd (true≢false (sym (h refl)))
counted false false h = omega arith

left_less : (sources ws : List Name) (n : Name) → left sources (n ∷ ws) ≤ left sources ws
unfolding left
left_less [] ws n = omega arith
left_less (s ∷ ss) ws n =
    let h = counted (has_name ws s) (has_name (n ∷ ws) s) (λ e. ap (λ b. pointwise ◌==◌ s n || b) e ∙ or-true (pointwise ◌==◌ s n)) in
    let r = left_less ss ws n in
    omega (arith, h, r)

left_fewer : (sources ws : List Name) (n : Name) → has_name sources n ≡ true → has_name ws n ≡ false → left sources (n ∷ ws) < left sources ws
unfolding left
left_fewer [] ws n h new = absurd (true≢false (sym h))
left_fewer (s ∷ ss) ws n h new = go (pointwise ◌==◌ n s) refl (λ e. left_fewer ss ws n (sym (ap (λ b. b || has_name ss n) e) ∙ h) new)
  where
    itself : (n : Name) → pointwise ◌==◌ n n ≡ true
    itself n = (bytes_decides n n).1 refl

    go : (b : Bool) → pointwise ◌==◌ n s ≡ b → (pointwise ◌==◌ n s ≡ false → left ss (n ∷ ws) < left ss ws) → left (s ∷ ss) (n ∷ ws) < left (s ∷ ss) ws
    go true e f =
        let same = (bytes_decides n s).0 e in
        let one : one_unless (has_name ws s) ≡ 1 = ap one_unless (ap (has_name ws) (sym same) ∙ new) in
        let none : one_unless (has_name (n ∷ ws) s) ≡ 0 = ap (λ m. one_unless (pointwise ◌==◌ s m || has_name ws s)) same ∙ ap (λ b. one_unless (b || has_name ws s)) (itself s) in
        let r = left_less ss ws n in
        omega (arith, one, none, r)
    go false e f =
        let c = counted (has_name ws s) (has_name (n ∷ ws) s) (λ t. ap (λ b. pointwise ◌==◌ s n || b) t ∙ or-true (pointwise ◌==◌ s n)) in
        let r = f e in
        omega (arith, c, r)

left_none : (sources ws : List Name) (n : Name) → has_name sources n ≡ true → left sources ws ≤ 0 → has_name ws n ≡ true
left_none sources ws n h z = go (has_name ws n) refl
  where
    go : (b : Bool) → has_name ws n ≡ b → has_name ws n ≡ true
    go true e = e
    go false e = let f = left_fewer sources ws n h e in absurd (nothing (left sources (n ∷ ws)) (left sources ws) f z)
      where
        nothing : (a b : ℕ) → a < b → b ≤ 0 → ⊥
        nothing a b f z = omega (arith, f, z)

-- ---- both orders

-- what an import of that name uses, by the names of the imports
abbrev used_by_name : (Name → Name) → List (Name × Stated) → Name → List Name
used_by_name spell imports n = used_names spell imports (value_at imports n)

-- Some places have a name, under which one of the imports stands, and need the places of the names that it uses. No other place
-- needs any, and no other name uses any.
pub record Ties (needs : List (List ℕ)) (spell : Name → Name) (imports : List (Name × Stated)) (place : Name → Option ℕ) (name : ℕ → Option Name) : Type 0 where
  pub there : (m : ℕ) (n : Name) → name m ≡ Some n → (place n ≡ Some m) × (m < length needs) × (has_name (names_of imports) n ≡ true)
  pub needed : (m : ℕ) (n : Name) → name m ≡ Some n → needs_at needs m ≡ filter_map place (used_by_name spell imports n)
  pub other : (m : ℕ) → name m ≡ None → needs_at needs m ≡ []
  pub placed : (n : Name) (m : ℕ) → place n ≡ Some m → (name m ≡ Some n) ⊎ ((name m ≡ None) × (has_name (names_of imports) n ≡ false))
  pub unplaced : (n : Name) → place n ≡ None → has_name (names_of imports) n ≡ false
  pub useless : (n : Name) → has_name (names_of imports) n ≡ false → used_by_name spell imports n ≡ []
  pub all : filter_map name (range_with_len 0 (length needs)) ≡ names_of imports
  pub few : length imports ≤ length needs

module _ (needs : List (List ℕ)) (spell : Name → Name) (imports : List (Name × Stated)) (place : Name → Option ℕ) (name : ℕ → Option Name) (ties : Ties needs spell imports place name) where
  abbrev sources : List Name
  sources = names_of imports

  abbrev by_places : List ℕ → List Name
  by_places ns = filter_map name ns

  abbrev by_names : List Name → List Name
  by_names ns = filter (has_name sources) ns

  -- the sources of both are the same, in one order
  abbrev AreOne : List ℕ → List Name → Type 0
  AreOne ns ms = by_places ns ≡ by_names ms

  -- the same sources wait
  abbrev WaitAlike : List ℕ → List Name → Type 0
  WaitAlike ws vs = (m : ℕ) (n : Name) → name m ≡ Some n → has_place ws m ≡ has_name vs n

  -- two places of names are one where their names are
  same_place : (m k : ℕ) (n p : Name) → name m ≡ Some n → name k ≡ Some p → eqb m k ≡ pointwise ◌==◌ n p
  same_place m k n p e f = same_from_decides (eqb m k) (pointwise ◌==◌ n p) (Decides-eqb m k) (
    (λ t. same_Some m k (sym (ties.there m n e).0 ∙ ap place ((bytes_decides n p).0 t) ∙ (ties.there k p f).0)),
    (λ q. (bytes_decides n p).1 (same_Some n p (sym e ∙ ap name q ∙ f))),
  )

  place_named : (ns : List ℕ) (m : ℕ) (n : Name) → name m ≡ Some n → has_place ns m ≡ has_name (by_places ns) n
  place_named [] m n e = refl
  place_named (k ∷ ks) m n e = go (name k) refl (place_named ks m n e)
    where
      apart : (b : Bool) → eqb m k ≡ b → name k ≡ None → eqb m k ≡ false
      apart true t f = absurd (none-some _ (sym f ∙ ap name (sym ((Decides-eqb m k).0 t)) ∙ e))
      apart false t f = t

      go : (o : Option Name) → name k ≡ o → has_place ks m ≡ has_name (by_places ks) n → has_place (k ∷ ks) m ≡ has_name (by_places (k ∷ ks)) n
      go None f r =
          ap (λ b. b || has_place ks m) (apart (eqb m k) refl f) ∙ r
          ∙ ap (λ l. has_name l n) (sym (map_next name k ks None f))
      go (Some p) f r =
          ap (λ b. b || has_place ks m) (same_place m k n p e f) ∙ ap (λ b. pointwise ◌==◌ n p || b) r
          ∙ ap (λ l. has_name l n) (sym (map_next name k ks (Some p) f))

  stand_alike : (ns : List ℕ) (ms : List Name) → AreOne ns ms → (m : ℕ) (n : Name) → name m ≡ Some n → has_place ns m ≡ has_name ms n
  stand_alike ns ms s m n e = place_named ns m n e ∙ ap (λ l. has_name l n) s ∙ kept_name (has_name sources) ms n (ties.there m n e).2

  -- ---- what is no source

  -- a place without a name
  other_place : (k : ℕ) (ws ns : List ℕ) (m : ℕ) → name m ≡ None → by_places (put_place needs k ws ns m) ≡ by_places ns
  other_place zero ws ns m e = refl
  other_place (suc k) ws ns m e = go (has_place ws m || has_place ns m || nat_le (length needs) m)
    where
      go : (b : Bool) → by_places (if b then ns else fold (put_place needs k (m ∷ ws)) ns (needs_at needs m) ++ m ∷ []) ≡ by_places ns
      go true = refl
      go false =
          ap (λ xs. by_places (fold (put_place needs k (m ∷ ws)) ns xs ++ m ∷ [])) (ties.other m e)
          ∙ filter_map-append name ns (m ∷ []) ∙ ap (λ l. by_places ns ++ l) (map_next name m [] None e) ∙ append-nil (by_places ns)

  -- a name without a place
  other_name : (k : ℕ) (ws ns : List Name) (n : Name) → has_name sources n ≡ false → by_names (put spell imports k ws ns n) ≡ by_names ns
  other_name zero ws ns n e = refl
  other_name (suc k) ws ns n e = go (has_name ws n || has_name ns n)
    where
      go : (b : Bool) → by_names (if b then ns else fold (put spell imports k (n ∷ ws)) ns (used_by_name spell imports n) ++ n ∷ []) ≡ by_names ns
      go true = refl
      go false =
          ap (λ xs. by_names (fold (put spell imports k (n ∷ ws)) ns xs ++ n ∷ [])) (ties.useless n e)
          ∙ filter-append (has_name sources) ns (n ∷ []) ∙ ap (λ l. by_names ns ++ l) (filter_no (has_name sources) n [] e) ∙ append-nil (by_names ns)

  -- ---- sources

  -- each source is put in both
  abbrev PutAlike : (k l : ℕ) (ws : List ℕ) (vs : List Name) → Type 0
  PutAlike k l ws vs = (ns : List ℕ) (ms : List Name) (m : ℕ) (n : Name) → name m ≡ Some n → AreOne ns ms → AreOne (put_place needs k ws ns m) (put spell imports l vs ms n)

  -- and so are all that one uses
  module _ (k l : ℕ) (ws : List ℕ) (vs : List Name) (each : PutAlike k l ws vs) where
    used_alike : (us : List Name) (ns : List ℕ) (ms : List Name) → AreOne ns ms → AreOne (fold (put_place needs k ws) ns (filter_map place us)) (fold (put spell imports l vs) ms us)
    used_alike [] ns ms s = s
    used_alike (u ∷ us) ns ms s = go (place u) refl (used_alike us)
      where
        go : (o : Option ℕ) → place u ≡ o → ((xs : List ℕ) (ys : List Name) → AreOne xs ys → AreOne (fold (put_place needs k ws) xs (filter_map place us)) (fold (put spell imports l vs) ys us))
            → AreOne (fold (put_place needs k ws) ns (filter_map place (u ∷ us))) (fold (put spell imports l vs) ms (u ∷ us))
        go None e rest =
            ap (λ xs. by_places (fold (put_place needs k ws) ns xs)) (map_next place u us None e)
            ∙ rest ns (put spell imports l vs ms u) (s ∙ sym (other_name l vs ms u (ties.unplaced u e)))
        go (Some m) e rest =
            ap (λ xs. by_places (fold (put_place needs k ws) ns xs)) (map_next place u us (Some m) e)
            ∙ rest (put_place needs k ws ns m) (put spell imports l vs ms u) (elim (ties.placed u m e) [
              | inl h ↦ each ns ms m u h s
              | inr h ↦ other_place k ws ns m h.0 ∙ s ∙ sym (other_name l vs ms u h.1)
            ])

    all_alike : (ks : List ℕ) (ns : List ℕ) (ms : List Name) → AreOne ns ms → AreOne (fold (put_place needs k ws) ns ks) (fold (put spell imports l vs) ms (by_places ks))
    all_alike [] ns ms s = s
    all_alike (m ∷ ks) ns ms s = go (name m) refl (all_alike ks)
      where
        go : (o : Option Name) → name m ≡ o → ((xs : List ℕ) (ys : List Name) → AreOne xs ys → AreOne (fold (put_place needs k ws) xs ks) (fold (put spell imports l vs) ys (by_places ks)))
            → AreOne (fold (put_place needs k ws) ns (m ∷ ks)) (fold (put spell imports l vs) ms (by_places (m ∷ ks)))
        go None e rest =
            rest (put_place needs k ws ns m) ms (other_place k ws ns m e ∙ s)
            ∙ ap (λ xs. by_names (fold (put spell imports l vs) ms xs)) (sym (map_next name m ks None e))
        go (Some n) e rest =
            rest (put_place needs k ws ns m) (put spell imports l vs ms n) (each ns ms m n e s)
            ∙ ap (λ xs. by_names (fold (put spell imports l vs) ms xs)) (sym (map_next name m ks (Some n) e))

  -- it waits in both
  wait_more : (ws : List ℕ) (vs : List Name) (m : ℕ) (n : Name) → name m ≡ Some n → WaitAlike ws vs → WaitAlike (m ∷ ws) (n ∷ vs)
  wait_more ws vs m n e w k p f = ap (λ b. b || has_place ws k) (same_place k m p n f e) ∙ ap (λ b. pointwise ◌==◌ p n || b) (w k p f)

  within : (m : ℕ) → m < length needs → nat_le (length needs) m ≡ false
  within m lt = go (nat_le (length needs) m) refl
    where
      go : (b : Bool) → nat_le (length needs) m ≡ b → nat_le (length needs) m ≡ false
      go true e = absurd (let le = leb-true (length needs) m e in omega (arith, le, lt))
      go false e = e

  -- where it waits it is left, whatever the depth
  place_waits : (k : ℕ) (ws ns : List ℕ) (m : ℕ) → has_place ws m ≡ true → put_place needs k ws ns m ≡ ns
  place_waits zero ws ns m e = refl
  place_waits (suc k) ws ns m e = ap (λ b. if b || has_place ns m || nat_le (length needs) m then ns else fold (put_place needs k (m ∷ ws)) ns (needs_at needs m) ++ m ∷ []) e

  name_waits : (k : ℕ) (ws ns : List Name) (n : Name) → has_name ws n ≡ true → put spell imports k ws ns n ≡ ns
  name_waits zero ws ns n e = refl
  name_waits (suc k) ws ns n e = ap (λ b. if b || has_name ns n then ns else fold (put spell imports k (n ∷ ws)) ns (used_by_name spell imports n) ++ n ∷ []) e

  one_less : (a b c : ℕ) → a < b → b ≤ suc c → a ≤ c
  one_less a b c lt le = omega (arith, lt, le)

  abbrev place_then : (k : ℕ) (ws ns : List ℕ) → ℕ → Bool → List ℕ
  place_then k ws ns m b = if b then ns else fold (put_place needs k (m ∷ ws)) ns (needs_at needs m) ++ m ∷ []

  abbrev name_then : (l : ℕ) (vs ms : List Name) → Name → Bool → List Name
  name_then l vs ms n b = if b then ms else fold (put spell imports l (n ∷ vs)) ms (used_by_name spell imports n) ++ n ∷ []

  put_alike : (k l : ℕ) (ws : List ℕ) (vs : List Name) → WaitAlike ws vs → left sources vs ≤ k → left sources vs ≤ l → PutAlike k l ws vs
  put_alike zero l ws vs w few deep ns ms m n e s = s ∙ ap by_names (sym (name_waits l vs ms n (left_none sources vs n (ties.there m n e).2 few)))
  put_alike (suc k) zero ws vs w few deep ns ms m n e s = ap by_places (place_waits (suc k) ws ns m (w m n e ∙ left_none sources vs n (ties.there m n e).2 deep)) ∙ s
  put_alike (suc k) (suc l) ws vs w few deep ns ms m n e s =
      go (has_name vs n) refl (has_name ms n) refl
      (λ lt. put_alike k l (m ∷ ws) (n ∷ vs) (wait_more ws vs m n e w) (one_less (left sources (n ∷ vs)) (left sources vs) k lt few) (one_less (left sources (n ∷ vs)) (left sources vs) l lt deep))
    where
      at_place : (a b : Bool) → has_name vs n ≡ a → has_name ms n ≡ b → put_place needs (suc k) ws ns m ≡ place_then k ws ns m (a || b || false)
      at_place a b f g i = place_then k ws ns m ((w m n e ∙ f) i || (stand_alike ns ms s m n e ∙ g) i || within m (ties.there m n e).1 i)

      at_name : (a b : Bool) → has_name vs n ≡ a → has_name ms n ≡ b → put spell imports (suc l) vs ms n ≡ name_then l vs ms n (a || b)
      at_name a b f g i = name_then l vs ms n (f i || g i)

      go : (a : Bool) → has_name vs n ≡ a → (b : Bool) → has_name ms n ≡ b → (left sources (n ∷ vs) < left sources vs → PutAlike k l (m ∷ ws) (n ∷ vs)) → AreOne (put_place needs (suc k) ws ns m) (put spell imports (suc l) vs ms n)
      go true f b g each = ap by_places (at_place true b f g) ∙ s ∙ ap by_names (sym (at_name true b f g))
      go false f true g each = ap by_places (at_place false true f g) ∙ s ∙ ap by_names (sym (at_name false true f g))
      go false f false g each =
          let lt = left_fewer sources vs n (ties.there m n e).2 f in
          let all = used_alike k l (m ∷ ws) (n ∷ vs) (each lt) (used_by_name spell imports n) ns ms s in
          ap by_places (at_place false false f g)
          ∙ filter_map-append name (fold (put_place needs k (m ∷ ws)) ns (needs_at needs m)) (m ∷ [])
          ∙ ap (λ xs. by_places (fold (put_place needs k (m ∷ ws)) ns xs) ++ by_places (m ∷ [])) (ties.needed m n e)
          ∙ ap (λ x. x ++ by_places (m ∷ [])) all
          ∙ ap (λ x. by_names (fold (put spell imports l (n ∷ vs)) ms (used_by_name spell imports n)) ++ x) (map_next name m [] (Some n) e ∙ sym (filter_yes (has_name sources) n [] (ties.there m n e).2))
          ∙ sym (filter-append (has_name sources) (fold (put spell imports l (n ∷ vs)) ms (used_by_name spell imports n)) (n ∷ []))
          ∙ ap by_names (sym (at_name false false f g))

pub names_count : {T : Type 0} (xs : List (Name × T)) → length (names_of xs) ≡ length xs
names_count [] = refl
names_count (x ∷ xs) = ap suc (names_count xs)

pub one_order : (needs : List (List ℕ)) (spell : Name → Name) (imports : List (Name × Stated)) (place : Name → Option ℕ) (name : ℕ → Option Name) → Ties needs spell imports place name
    → filter_map name (places_in_order needs) ≡ filter (has_name (names_of imports)) (written_names spell imports)
one_order needs spell imports place name ties =
    let all = left_all (names_of imports) in
    let count = names_count imports in
    let few = ties.few in
    let each = put_alike needs spell imports place name ties (length needs) (length imports) [] [] (λ m n e. refl) (omega (arith, all, count, few)) (omega (arith, all, count)) in
    all_alike needs spell imports place name ties (length needs) (length imports) [] [] each (range_with_len 0 (length needs)) [] [] refl
    ∙ ap (λ xs. filter (has_name (names_of imports)) (fold (put spell imports (length imports) []) [] xs)) ties.all
