-- Exactly what is put in an order, step by step.
use Rattle.std.proofs.Common.{◌≡◌, ◌<◌, ℕ, ◌+◌, zero, suc, Bool, true, false, true≢false, ◌||◌, List, [], ◌∷◌, ◌++◌, length, take, Some, slice_get, slice_set, refl, sym, ap, ◌∙◌, subst, arith, add-zero, add-one, zero-add, append_assoc}
use Rattle.std.specs.Prelude.{eqb, nat_le, Option, filter, option_to_list, if◌then◌else◌}
use Rattle.std.specs.List.{fold, list_any, range_with_len}
use Rattle.std.specs.Option.{option_map_or}
use Rattle.std.proofs.Math.ListN.{length-set}
use Rattle.std.proofs.lemmas.Bool.{leb-true, or_left}
use Rattle.std.proofs.lemmas.Bool.Decides.{Decides-eqb}
use Rattle.std.proofs.lemmas.List.{append-nil}
use Rattle.std.proofs.lemmas.List.Folds.{list_any-append}
use Rattle.std.proofs.lemmas.List.Sums.{fold-append}
use Rattle.std.proofs.lemmas.List.Elements.{filter-append}
use Rattle.wac_types_base.proofs.Lists.{there_is}
use Rattle.wac_types_base.proofs.Replacing.{slice_get-set_same, slice_get-set_other}
use Rattle.wac_graph_scopes.specs.Behind.{has_place, needs_at, put, put_each, places_in_order, IsBehindNeeds}
use Rattle.wac_graph_scopes.proofs.BehindLaws.{not_below, none_behind, each_behind}
use Rattle.wac_graph_scopes.specs.Orders.{IsBegun, Marks, Leaves, ShowsBegun, PutsEach, is_same, has_turn, turn_places}
use Rattle.wac_graph_scopes.specs.declared.order.Turn.{Turn}

some_same : {X : Type 0} {o : Option X} (x y : X) → o ≡ Some x → o ≡ Some y → x ≡ y
some_same x y e f = cc (e, f)

-- ---- tests

pub is_false : (b : Bool) → (b ≡ true → ⊥) → b ≡ false
is_false true h = absurd (h refl)
is_false false h = refl

or_false_first : (a c : Bool) → a ≡ false → c ≡ false → (a || c) ≡ false
or_false_first a c e f = ap (λ t. t || c) e ∙ f

or_last : (a b : Bool) → ((a || b) || true) ≡ true
or_last true b = refl
or_last false true = refl
or_last false false = refl

or_turned : (t w o : Bool) → ((t || w) || o) ≡ (w || (o || (t || false)))
or_turned true true o = refl
or_turned true false true = refl
or_turned true false false = refl
or_turned false true o = refl
or_turned false false true = refl
or_turned false false false = refl

not_le : (a b : ℕ) → b < a → nat_le a b ≡ false
not_le a b lt = is_false (nat_le a b) (λ e. let le = leb-true a b e in omega (arith, le, lt))

-- ---- one after another

module _ (needs : List (List ℕ)) where
  module _ (k : ℕ) (old mid new : List Bool) (order between ordered : List ℕ) where
    pub puts_none : PutsEach needs k [] old old order order
    puts_none ws before len h = (h, refl)

    pub puts_both : (xs ys : List ℕ) → PutsEach needs k xs old mid order between → PutsEach needs k ys mid new between ordered → length mid ≡ length old
        → PutsEach needs k (xs ++ ys) old new order ordered
    puts_both xs ys f g same ws before len h =
        let a = f ws before len h in
        let b = g ws before (same ∙ len) a.0 in
        (b.0, b.1 ∙ ap (λ l. fold (put needs k ws) l ys) a.1 ∙ sym (fold-append (put needs k ws) (before ++ order) xs ys))

  pub puts_no_depth : (n : ℕ) (old : List Bool) (order : List ℕ) → PutsEach needs 0 (n ∷ []) old old order order
  puts_no_depth n old order ws before len h = (h, refl)

  -- ---- what is begun, or no place, is not put again

  put_again : (k : ℕ) (ws ns : List ℕ) (n : ℕ) (b : Bool) → b ≡ true
      → ns ≡ (if b then ns else fold (put needs k (n ∷ ws)) ns (needs_at needs n) ++ n ∷ [])
  put_again k ws ns n true t = refl
  put_again k ws ns n false t = absurd (true≢false (sym t))

  pub puts_again : (k n : ℕ) (old new : List Bool) (order ordered : List ℕ) → Leaves old new n → ordered ≡ order → PutsEach needs k (n ∷ []) old new order ordered
  puts_again k n old new order ordered l same ws before len h =
      let is : ShowsBegun ws (before ++ order) old → ShowsBegun ws (before ++ ordered) new = λ g. subst (λ os. ShowsBegun ws (before ++ os) new) (sym same) (subst (ShowsBegun ws (before ++ order)) (sym l.1) g) in
      (is h, ap (λ l. before ++ l) same ∙ stays k)
    where
      known : (b : Bool) → nat_le (length old) n ≡ b → (has_place ws n || has_place (before ++ order) n || nat_le (length needs) n) ≡ true
      known true e = ap (λ m. has_place ws n || has_place (before ++ order) n || nat_le m n) (sym len) ∙ ap (λ t. has_place ws n || has_place (before ++ order) n || t) e ∙ or_last (has_place ws n) (has_place (before ++ order) n)
      known false e =
          let lt : n < length old = not_below (length old) n e in
          or_left (has_place ws n || has_place (before ++ order) n) (nat_le (length needs) n) (some_same (has_place ws n || has_place (before ++ order) n) true (h n lt) (l.0 lt))

      stays : (k : ℕ) → before ++ order ≡ fold (put needs k ws) (before ++ order) (n ∷ [])
      stays zero = refl
      stays (suc k) = put_again k ws (before ++ order) n (has_place ws n || has_place (before ++ order) n || nat_le (length needs) n) (known (nat_le (length old) n) refl)

  -- ---- one that is begun only now is put last

  put_now : (k : ℕ) (ws ns : List ℕ) (n : ℕ) (b : Bool) → b ≡ false → fold (put needs k (n ∷ ws)) ns (needs_at needs n) ++ n ∷ []
      ≡ (if b then ns else fold (put needs k (n ∷ ws)) ns (needs_at needs n) ++ n ∷ [])
  put_now k ws ns n true t = absurd (true≢false t)
  put_now k ws ns n false t = refl

  module _ (k n : ℕ) (old mid new : List Bool) (order ordered last : List ℕ) (m : Marks old mid n) (f : PutsEach needs k (needs_at needs n) mid new order ordered) (e : last ≡ ordered ++ n ∷ []) where
    same_length : length mid ≡ length old
    same_length = ap (λ l. length l) m.2 ∙ length-set old n true

    not_begun : (ws ns : List ℕ) → ShowsBegun ws ns old → (has_place ws n || has_place ns n) ≡ false
    not_begun ws ns h = is_false (has_place ws n || has_place ns n) (λ t. m.1 (h n m.0 ∙ ap Some t))

    waits : (ws ns : List ℕ) → ShowsBegun ws ns old → ShowsBegun (n ∷ ws) ns mid
    waits ws ns h j lt = go (eqb j n) refl
      where
        go : (b : Bool) → eqb j n ≡ b → slice_get mid j ≡ Some ((eqb j n || list_any (eqb j) ws) || has_place ns j)
        go true q =
            ap (λ l. slice_get l j) m.2 ∙ ap (slice_get (slice_set old n true)) ((Decides-eqb j n).0 q) ∙ slice_get-set_same old n true m.0
            ∙ ap (λ t. Some ((t || list_any (eqb j) ws) || has_place ns j)) (sym q)
        go false q =
            ap (λ l. slice_get l j) m.2 ∙ slice_get-set_other old n j true (λ x. true≢false (sym ((Decides-eqb j n).1 x) ∙ q)) ∙ h j (omega (arith, lt, same_length))
            ∙ ap (λ t. Some ((t || list_any (eqb j) ws) || has_place ns j)) (sym q)

    behind : (before : List ℕ) → before ++ last ≡ (before ++ ordered) ++ n ∷ []
    behind before = ap (λ l. before ++ l) e ∙ sym (append_assoc before ordered (n ∷ []))

    stands : (ws before : List ℕ) → ShowsBegun (n ∷ ws) (before ++ ordered) new → ShowsBegun ws (before ++ last) new
    stands ws before g j lt =
        g j lt ∙ ap Some (or_turned (eqb j n) (has_place ws j) (has_place (before ++ ordered) j)
        ∙ ap (λ t. has_place ws j || t) (sym (list_any-append (eqb j) (before ++ ordered) (n ∷ [])) ∙ ap (λ l. has_place l j) (sym (behind before))))

    pub puts_last : PutsEach needs (suc k) (n ∷ []) old new order last
    puts_last ws before len h =
        let r = f (n ∷ ws) before (same_length ∙ len) (waits ws (before ++ order) h) in
        let out : nat_le (length needs) n ≡ false = not_le (length needs) n (omega (arith, len, m.0)) in
        let none = or_false_first (has_place ws n || has_place (before ++ order) n) (nat_le (length needs) n) (not_begun ws (before ++ order) h) out in
        (stands ws before r.0, behind before ∙ ap (λ l. l ++ n ∷ []) r.1 ∙ put_now k ws (before ++ order) n (has_place ws n || has_place (before ++ order) n || nat_le (length needs) n) none)

-- ---- all of them

pub shows_none : (bs : List Bool) → ((k : ℕ) → IsBegun bs k → ⊥) → ShowsBegun [] [] bs
shows_none bs none n lt = let x = there_is bs n lt in x.1 ∙ ap Some (is_false x.0 (λ t. none n (x.1 ∙ ap Some t)))

module _ (needs : List (List ℕ)) (xs : List ℕ) (old new : List Bool) (order : List ℕ) (count : length old ≡ length needs) (none : (k : ℕ) → IsBegun old k → ⊥) where
  pub all_listed : PutsEach needs (length old) xs old new [] order → order ≡ put_each needs [] xs
  all_listed f = (f [] [] count (shows_none old none)).1 ∙ ap (λ k. fold (put needs k []) [] xs) count

  pub both_behind : (ys : List ℕ) (newest : List Bool) (others : List ℕ) → PutsEach needs (length old) xs old new [] order → PutsEach needs (length new) ys new newest [] others
      → length new ≡ length old → IsBehindNeeds needs (order ++ others)
  both_behind ys newest others f g len =
      let shown : ShowsBegun [] (order ++ []) new = subst (λ l. ShowsBegun [] l new) (sym (append-nil order)) (f [] [] count (shows_none old none)).0 in
      let more = (g [] order (len ∙ count) shown).1 ∙ ap (λ k. fold (put needs k []) (order ++ []) ys) (len ∙ count) ∙ ap (λ l. put_each needs l ys) (append-nil order ∙ all_listed f) in
      subst (IsBehindNeeds needs) (sym more) (each_behind needs (put_each needs [] xs) ys (each_behind needs [] xs (none_behind needs)))

-- ---- one place more

range_next : (a n : ℕ) → range_with_len a (suc n) ≡ range_with_len a n ++ (a + n) ∷ []
range_next a zero = ap (λ k. k ∷ []) (sym (add-zero a))
range_next a (suc n) =
    let same : (a + 1) + n ≡ a + suc n = omega arith in
    ap (λ l. a ∷ l) (range_next (a + 1) n ∙ ap (λ k. range_with_len (a + 1) n ++ k ∷ []) same)

pub filter_next : (p : ℕ → Bool) (n : ℕ) → filter p (range_with_len 0 (n + 1)) ≡ filter p (range_with_len 0 n) ++ filter p (n ∷ [])
filter_next p n =
    ap (λ m. filter p (range_with_len 0 m)) (add-one n) ∙ ap (filter p) (range_next 0 n ∙ ap (λ k. range_with_len 0 n ++ k ∷ []) (zero-add n))
    ∙ filter-append p (range_with_len 0 n) (n ∷ [])

take_suc : {X : Type 0} (xs : List X) (n : ℕ) → take (suc n) xs ≡ take n xs ++ option_to_list (slice_get xs n)
take_suc [] zero = refl
take_suc [] (suc n) = refl
take_suc (x ∷ xs) zero = refl
take_suc (x ∷ xs) (suc n) = ap (λ l. x ∷ l) (take_suc xs n)

pub take_next : {X : Type 0} (xs : List X) (n : ℕ) → take (n + 1) xs ≡ take n xs ++ option_to_list (slice_get xs n)
take_next xs n = ap (λ m. take m xs) (add-one n) ∙ take_suc xs n

-- ---- steps of the walk

module _ (needs mids : List (List ℕ)) (old mid new : List Bool) (order between ordered : List ℕ) (same : mids ≡ needs) where
  pub puts_now : (k depth n : ℕ) (last : List ℕ) → suc k ≡ depth → Marks old mid n → between ≡ order → PutsEach mids k (needs_at mids n) mid new between ordered
      → last ≡ ordered ++ n ∷ [] → PutsEach needs depth (n ∷ []) old new order last
  puts_now k depth n last deep m e f behind =
      let g = subst (λ ns. PutsEach ns k (needs_at ns n) mid new between ordered) same f in
      let h = subst (λ l. PutsEach needs k (needs_at needs n) mid new l ordered) e g in
      subst (λ d. PutsEach needs d (n ∷ []) old new order last) deep (puts_last needs k n old mid new order ordered last m h behind)

  module _ (len : length mid ≡ length old) where
    pub puts_next : (k n w : ℕ) → PutsEach needs k (take w (needs_at needs n)) old mid order between → PutsEach mids k (option_to_list (slice_get (needs_at mids n) w)) mid new between ordered
        → PutsEach needs k (take (w + 1) (needs_at needs n)) old new order ordered
    puts_next k n w f g =
        let h = subst (λ ns. PutsEach ns k (option_to_list (slice_get (needs_at ns n) w)) mid new between ordered) same g in
        subst (λ l. PutsEach needs k l old new order ordered) (sym (take_next (needs_at needs n) w))
        (puts_both needs k old mid new order between ordered (take w (needs_at needs n)) (option_to_list (slice_get (needs_at needs n) w)) f h len)

    pub turn_next : (p q : ℕ → Bool) (at : ℕ) → q ≡ p → PutsEach needs (length old) (filter p (range_with_len 0 at)) old mid order between → PutsEach mids (length mid) (filter q (at ∷ [])) mid new between ordered
        → PutsEach needs (length old) (filter p (range_with_len 0 (at + 1))) old new order ordered
    turn_next p q at e f g =
        let h = subst (λ ns. PutsEach ns (length mid) (filter q (at ∷ [])) mid new between ordered) same g in
        let i = subst (λ k. PutsEach needs k (filter q (at ∷ [])) mid new between ordered) len h in
        let j = subst (λ r. PutsEach needs (length old) (filter r (at ∷ [])) mid new between ordered) e i in
        subst (λ l. PutsEach needs (length old) l old new order ordered) (sym (filter_next p at))
        (puts_both needs (length old) old mid new order between ordered (filter p (range_with_len 0 at)) (filter p (at ∷ [])) f j len)

    pub turns_both : (p q r : ℕ → Bool) → r ≡ q → PutsEach needs (length old) (filter p (range_with_len 0 (length old))) old mid order between
        → PutsEach mids (length mid) (filter r (range_with_len 0 (length mid))) mid new between ordered
        → PutsEach needs (length old) (filter p (range_with_len 0 (length old)) ++ filter q (range_with_len 0 (length old))) old new order ordered
    turns_both p q r e f g =
        let h = subst (λ ns. PutsEach ns (length mid) (filter r (range_with_len 0 (length mid))) mid new between ordered) same g in
        let i = subst (λ k. PutsEach needs k (filter r (range_with_len 0 k)) mid new between ordered) len h in
        let j = subst (λ s. PutsEach needs (length old) (filter s (range_with_len 0 (length old))) mid new between ordered) e i in
        puts_both needs (length old) old mid new order between ordered (filter p (range_with_len 0 (length old))) (filter q (range_with_len 0 (length old))) f j len

pub turn_put : (needs : List (List ℕ)) (k count at : ℕ) (p : ℕ → Bool) (b : Bool) (old new : List Bool) (order ordered : List ℕ) → k ≡ count → b ≡ p at → b ≡ true
    → PutsEach needs k (at ∷ []) old new order ordered → PutsEach needs count (filter p (at ∷ [])) old new order ordered
turn_put needs k count at p b old new order ordered e f t g =
    subst (λ l. PutsEach needs count l old new order ordered) (ap (λ d. if d then at ∷ [] else []) (sym t ∙ f))
    (subst (λ d. PutsEach needs d (at ∷ []) old new order ordered) e g)

-- ---- places of one turn

all_passed : (p : ℕ → Bool) (a n : ℕ) → ((k : ℕ) → k < a + n → p k ≡ true) → filter p (range_with_len a n) ≡ range_with_len a n
all_passed p a zero h = refl
all_passed p a (suc n) h =
    ap (λ b. if b then a ∷ filter p (range_with_len (a + 1) n) else filter p (range_with_len (a + 1) n)) (h a (omega arith)) ∙ ap (λ l. a ∷ l) (all_passed p (a + 1) n (λ k lt. h k (omega (arith, lt))))

none_passed : (p : ℕ → Bool) (a n : ℕ) → ((k : ℕ) → k < a + n → p k ≡ false) → filter p (range_with_len a n) ≡ []
none_passed p a zero h = refl
none_passed p a (suc n) h =
    ap (λ b. if b then a ∷ filter p (range_with_len (a + 1) n) else filter p (range_with_len (a + 1) n)) (h a (omega arith)) ∙ none_passed p (a + 1) n (λ k lt. h k (omega (arith, lt)))

turn_there : (ts : List Turn) (t u : Turn) (k : ℕ) → slice_get ts k ≡ Some u → has_turn ts t k ≡ is_same t u
turn_there ts t u k e = ap (λ o. option_map_or (is_same t) o false) e

-- where all have the last turn
pub listed_in_order : (needs : List (List ℕ)) (ts : List Turn) (old new : List Bool) (ordered : List ℕ) → length old ≡ length needs → ((k : ℕ) → IsBegun old k → ⊥)
    → ((k : ℕ) → k < length needs → slice_get ts k ≡ Some Turn.Others)
    → PutsEach needs (length old) (turn_places ts Turn.Types (length old) ++ turn_places ts Turn.Others (length old)) old new [] ordered → ordered ≡ places_in_order needs
listed_in_order needs ts old new ordered count none last f =
    let types = none_passed (has_turn ts Turn.Types) 0 (length old) (λ k lt. turn_there ts Turn.Types Turn.Others k (last k (omega (arith, lt, count)))) in
    let others = all_passed (has_turn ts Turn.Others) 0 (length old) (λ k lt. turn_there ts Turn.Others Turn.Others k (last k (omega (arith, lt, count)))) in
    all_listed needs (turn_places ts Turn.Types (length old) ++ turn_places ts Turn.Others (length old)) old new ordered count none f
    ∙ ap (λ l. put_each needs [] (l ++ turn_places ts Turn.Others (length old))) types ∙ ap (put_each needs []) (others ∙ ap (range_with_len 0) count)

pub listed_behind : (needs : List (List ℕ)) (ks : List ℕ) → ks ≡ places_in_order needs → IsBehindNeeds needs ks
listed_behind needs ks e = subst (IsBehindNeeds needs) (sym e) (each_behind needs [] (range_with_len 0 (length needs)) (none_behind needs))
