-- A place before another one, by the names of both.
use Rattle.std.proofs.Common.{◌≡◌, ◌<◌, ◌+◌, ℕ, Bool, true, false, List, [], ◌∷◌, ◌++◌, length, Option, Some, None, refl, sym, ap, ◌∙◌, subst, arith, inl, inr}
use Rattle.std.specs.Prelude.{nat_eq, not, filter_map, cond}
use Rattle.std.specs.List.{position, position_or_len}
use Rattle.std.proofs.lemmas.Bool.Decides.{Decides-eqb, Decides-ltb}
use Rattle.wac_types_base.specs.Graph.{Among}
use Rattle.wac_graph_scopes.specs.UsePlaces.{ComesBefore}
use Rattle.wac_graph_encode.proofs.TwoOrders.{map_next}

-- a list of which a filter gives a split list is split
pub record Split {X Y : Type 0} (f : X → Option Y) (xs : List X) (as_ : List Y) (y : Y) : Type 0 where
  pub before : List X
  pub here : X
  pub rest : List X
  pub is : xs ≡ before ++ here ∷ rest
  pub gives : f here ≡ Some y
  pub front : filter_map f before ≡ as_

pub split : {X Y : Type 0} (f : X → Option Y) (xs : List X) (as_ bs : List Y) (y : Y) → filter_map f xs ≡ as_ ++ y ∷ bs → Split f xs as_ y
split f [] [] bs y e = absurd (cc e)
split f [] (a ∷ as_) bs y e = absurd (cc e)
split {X} {Y} f (x ∷ xs) as_ bs y e = go (f x) refl as_ e (λ cs. split f xs cs bs y)
  where
    go : (o : Option Y) → f x ≡ o → (as_ : List Y) → filter_map f (x ∷ xs) ≡ as_ ++ y ∷ bs → ((cs : List Y) → filter_map f xs ≡ cs ++ y ∷ bs → Split f xs cs y) → Split f (x ∷ xs) as_ y
    go None q as_ e rest =
        let s = rest as_ (sym (map_next f x xs None q) ∙ e) in
        record { before = x ∷ s.before; here = s.here; rest = s.rest; is = ap (λ l. x ∷ l) s.is; gives = s.gives; front = map_next f x s.before None q ∙ s.front }
    go (Some z) q [] e rest =
        let h : z ∷ filter_map f xs ≡ y ∷ bs = sym (map_next f x xs (Some z) q) ∙ e in
        record { before = []; here = x; rest = xs; is = refl; gives = q ∙ ap Some (cc h); front = refl }
    go (Some z) q (a ∷ cs) e rest =
        let h : z ∷ filter_map f xs ≡ a ∷ (cs ++ y ∷ bs) = sym (map_next f x xs (Some z) q) ∙ e in
        let s = rest cs (cc h) in
        record {
          before = x ∷ s.before;
          here = s.here;
          rest = s.rest;
          is = ap (λ l. x ∷ l) s.is;
          gives = s.gives;
          front = map_next f x s.before (Some z) q ∙ ap (λ l. z ∷ l) s.front ∙ ap (λ c. c ∷ cs) (cc h);
        }

module _ {X : Type 0} (p : X → Bool) where
  next : (x : X) (xs : List X) (b : Bool) → p x ≡ b → position_or_len p (x ∷ xs) ≡ cond (not b) (1 + position_or_len p xs) 0
  next x xs b e = ap (λ t. cond (not t) (1 + position_or_len p xs) 0) e

  found_at : (ys : List X) (x : X) (zs : List X) → p x ≡ true → ((y : X) → Among y ys → p y ≡ false) → position_or_len p (ys ++ x ∷ zs) ≡ length ys
  found_at [] x zs t none = next x zs true t
  found_at (y ∷ ys) x zs t none =
      let r = found_at ys x zs t (λ w m. none w (inr m)) in
      let h = next y (ys ++ x ∷ zs) false (none y (inl refl)) in
      omega (arith, r, h)

  found_before : (ys zs : List X) (y : X) → Among y ys → p y ≡ true → position_or_len p (ys ++ zs) < length ys
  found_before [] zs y m t = absurd m
  found_before (x ∷ ys) zs y (inl e) t =
      let h = next x (ys ++ zs) true (ap p (sym e) ∙ t) in
      omega (arith, h)
  found_before (x ∷ ys) zs y (inr m) t = go (p x) refl (found_before ys zs y m t)
    where
      go : (b : Bool) → p x ≡ b → position_or_len p (ys ++ zs) < length ys → position_or_len p ((x ∷ ys) ++ zs) < length (x ∷ ys)
      go true q r = let h = next x (ys ++ zs) true q in omega (arith, h)
      go false q r = let h = next x (ys ++ zs) false q in omega (arith, h, r)

  is_position : (xs : List X) → position_or_len p xs < length xs → position p xs ≡ Some (position_or_len p xs)
  is_position xs lt = ap (λ b. cond b (Some (position_or_len p xs)) None) ((Decides-ltb (position_or_len p xs) (length xs)).1 lt)

length_more : {X : Type 0} (ys : List X) (x : X) (zs : List X) → length ys < length (ys ++ x ∷ zs)
length_more [] x zs = omega arith
length_more (y ∷ ys) x zs = let r = length_more ys x zs in omega (arith, r)

pub comes : (ks before rest : List ℕ) (one other : ℕ) → ks ≡ before ++ other ∷ rest → Among one before → (Among other before → ⊥) → ComesBefore ks one other
comes ks before rest one other e m none =
    let at = found_at (nat_eq other) before other rest ((Decides-eqb other other).1 refl) (λ y i. apart y i (nat_eq other y) refl) in
    let lower = found_before (nat_eq one) before (other ∷ rest) one m ((Decides-eqb one one).1 refl) in
    let more = length_more before other rest in
    record {
      first = position_or_len (nat_eq one) (before ++ other ∷ rest);
      second = position_or_len (nat_eq other) (before ++ other ∷ rest);
      one_is = ap (position (nat_eq one)) e ∙ is_position (nat_eq one) (before ++ other ∷ rest) (omega (arith, lower, more));
      other_is = ap (position (nat_eq other)) e ∙ is_position (nat_eq other) (before ++ other ∷ rest) (omega (arith, at, more));
      less = omega (arith, at, lower);
    }
  where
    apart : (y : ℕ) → Among y before → (b : Bool) → nat_eq other y ≡ b → nat_eq other y ≡ false
    apart y i true q = absurd (none (subst (λ k. Among k before) (sym ((Decides-eqb other y).0 q)) i))
    apart y i false q = q
