-- Plain trees that a common tree fits have a greatest one that fits both; there is at most one, and one may be made ask by ask.
use Rattle.std.proofs.Common.{◌≡◌, List, [], ◌∷◌, ◌++◌, Option, Some, None, refl, sym, ap, subst, ◌∙◌}
use Rattle.std.specs.Option.{option_map}
use Rattle.std.specs.declared.cmp.Ordering.{Ordering}
use Rattle.wac_types_base.specs.Entries.{Name}
use Rattle.wac_types_base.specs.Discrete.{tree_decided}
use Rattle.wac_types_base.specs.Tree.{Tree, Fields, rigid, instance, component, core_module, handle_own, handle_borrow, type_item, no_fields, field, put, name_cmp}
use Rattle.wac_types_base.specs.Fits.{HasField, Fits, FieldsFit, rigid_fits, own_fits, borrow_fits, instance_fits, type_fits, one_asked}
use Rattle.wac_types_fit.specs.Ordered.{InOrder, AllInOrder}
use Rattle.wac_types_fit.specs.Lookups.{found, lookup}
use Rattle.wac_types_fit.specs.Meets.{FitsAll, IsMeet, IsPlain, ArePlain, Clash}
use Rattle.wac_types_fit.proofs.Looking.{same_name, cmp_refl, looked-has, has-looked, in_order-at, given, all_given, looked-put, looked-other}
use Rattle.wac_types_fit.proofs.Ordering.{AllInOrder-put}
use Rattle.wac_types_fit.proofs.TreeLaws.{Fits-refl, Fits-trans, anti}

-- the meet with what the other map may have
abbrev pub meet_at : (Tree → Option Tree) → Tree → Option Tree → Option Tree
meet_at f t None = Some t
meet_at f t (Some u) = f u

abbrev pub put_both : Name → Option Tree → Option Fields → Option Fields
put_both n None o = None
put_both n (Some t) None = None
put_both n (Some t) (Some xs) = Some (put n t xs)

abbrev pub with_instance : (Fields → Option Fields) → Tree → Option Tree
with_instance f (instance ys) = option_map instance (f ys)
with_instance f _ = None

abbrev pub with_type : (Tree → Option Tree) → Tree → Option Tree
with_type f (type_item u) = option_map type_item (f u)
with_type f _ = None

abbrev pub when : {P A : Type 0} → Dec P → A → Option A
when (yes p) x = Some x
when (no p) x = None

module _ (decide : Discrete Tree) where
  abbrev pub if_same : Tree → Tree → Option Tree
  if_same t u = when (decide t u) t

  -- the greatest tree that fits both, if one does
  abbrev mutual
    pub meet : Tree → Tree → Option Tree
    meet (rigid s r) u = if_same (rigid s r) u
    meet (instance xs) u = with_instance (meet_fields xs) u
    meet (component is es) u = if_same (component is es) u
    meet (core_module is es) u = if_same (core_module is es) u
    meet (handle_own t) u = if_same (handle_own t) u
    meet (handle_borrow t) u = if_same (handle_borrow t) u
    meet (type_item t) u = with_type (meet t) u

    pub meet_fields : Fields → Fields → Option Fields
    meet_fields no_fields ys = Some ys
    meet_fields (field n t xs) ys = put_both n (meet_at (meet t) t (lookup n ys)) (meet_fields xs ys)

-- what a meet of two maps has under a name where they have these
abbrev pub Joins : Option Tree → Option Tree → Option Tree → Type 0
Joins None q r = r ≡ q
Joins (Some t) None r = r ≡ Some t
Joins (Some t) (Some u) r = (m : Tree) × (r ≡ Some m) × IsMeet m (t ∷ u ∷ [])

pub put_both-some : (n : Name) (o : Option Tree) (p : Option Fields) (zs : Fields) → put_both n o p ≡ Some zs → (m : Tree) × (ws : Fields) × (o ≡ Some m) × (p ≡ Some ws) × (put n m ws ≡ zs)
put_both-some n None p zs e = absurd (cc e)
put_both-some n (Some m) None zs e = absurd (cc e)
put_both-some n (Some m) (Some ws) zs e = (m, ws, refl, refl, cc e)

pub mapped-some : {A B : Type 0} (f : A → B) (o : Option A) (y : B) → option_map f o ≡ Some y → (x : A) × (o ≡ Some x) × (f x ≡ y)
mapped-some f None y e = absurd (cc e)
mapped-some f (Some x) y e = (x, refl, cc e)

pub record FieldsMeet (xs ys zs : Fields) : Type 0 where
  pub ordered : AllInOrder zs
  pub joins : (k : Name) → Joins (lookup k xs) (lookup k ys) (lookup k zs)

itself_meet : (t : Tree) → InOrder t → IsMeet t (t ∷ t ∷ [])
itself_meet t o = record { ordered = o; fits = (Fits-refl t, (Fits-refl t, tt)); greatest = λ x p f. f.0 }

-- zs fits xs at a name
fits_left : (n : Name) (t : Tree) (q : Option Tree) (zs : Fields) → Joins (Some t) q (lookup n zs) → (m : Tree) × HasField n m zs × Fits m t
fits_left n t None zs j = (t, looked-has n t zs j, Fits-refl t)
fits_left n t (Some u) zs j = (j.0, looked-has n j.0 zs j.1, j.2.fits.0)

fits_right : (n : Name) (u : Tree) (p : Option Tree) (zs : Fields) → Joins p (Some u) (lookup n zs) → (m : Tree) × HasField n m zs × Fits m u
fits_right n u None zs j = (u, looked-has n u zs j, Fits-refl u)
fits_right n u (Some t) zs j = (j.0, looked-has n j.0 zs j.1, j.2.fits.1.0)

-- what fits both maps at a name fits the third
fits_both : (n : Name) (m : Tree) (p q : Option Tree) (ws : Fields) → AllInOrder ws → Joins p q (Some m)
    → ((t : Tree) → p ≡ Some t → (w : Tree) × HasField n w ws × Fits w t)
    → ((u : Tree) → q ≡ Some u → (w : Tree) × HasField n w ws × Fits w u)
    → (w : Tree) × HasField n w ws × Fits w m
fits_both n m None q ws o j f g = g m (sym j)
fits_both n m (Some t) None ws o j f g = f m (sym j)
fits_both n m (Some t) (Some u) ws o j f g =
    let a = f t refl in
    let b = g u refl in
    let same : b.0 ≡ a.0 = cc (has-looked n a.0 ws o a.1, has-looked n b.0 ws o b.1) in
    let is : j.0 ≡ m = cc j.1 in
    (a.0, a.1, subst (λ v. Fits a.0 v) is (j.2.greatest a.0 (in_order-at n a.0 ws o a.1) (a.2, (subst (λ v. Fits v u) same b.2, tt))))

fields_great : (xs ys zs : Fields) → FieldsMeet xs ys zs → (x : Tree) → InOrder x → Fits x (instance xs) → Fits x (instance ys) → Fits x (instance zs)
fields_great xs ys zs h x o (instance_fits {xs = ws} f) (instance_fits g) =
    instance_fits (all_given ws zs (λ n m k.
    fits_both n m (lookup n xs) (lookup n ys) ws o
    (subst (λ r. Joins (lookup n xs) (lookup n ys) r) (has-looked n m zs h.ordered k) (h.joins n))
    (λ t e. given ws xs n t f (looked-has n t xs e))
    (λ u e. given ws ys n u g (looked-has n u ys e))))

pub fields_meet : (xs ys zs : Fields) → AllInOrder xs → AllInOrder ys → FieldsMeet xs ys zs → IsMeet (instance zs) (instance xs ∷ instance ys ∷ [])
fields_meet xs ys zs a b h = record {
  ordered = h.ordered;
  fits = (
    instance_fits (all_given zs xs (λ n t k. fits_left n t (lookup n ys) zs (subst (λ p. Joins p (lookup n ys) (lookup n zs)) (has-looked n t xs a k) (h.joins n)))),
    (instance_fits (all_given zs ys (λ n u k. fits_right n u (lookup n xs) zs (subst (λ q. Joins (lookup n xs) q (lookup n zs)) (has-looked n u ys b k) (h.joins n)))), tt),
  );
  greatest = λ x o f. fields_great xs ys zs h x o f.0 f.1.0;
}

types_great : (t u m x : Tree) → IsMeet m (t ∷ u ∷ []) → InOrder x → Fits x (type_item t) → Fits x (type_item u) → Fits x (type_item m)
types_great t u m x h o (type_fits {t = w} f) (type_fits g) = type_fits (h.greatest w o (f, (g, tt)))

pub types_meet : (t u m : Tree) → IsMeet m (t ∷ u ∷ []) → IsMeet (type_item m) (type_item t ∷ type_item u ∷ [])
types_meet t u m h = record {
  ordered = h.ordered;
  fits = (type_fits h.fits.0, (type_fits h.fits.1.0, tt));
  greatest = λ x o f. types_great t u m x h o f.0 f.1.0;
}

module _ (decide : Discrete Tree) where
  -- what the meet with t gives is one
  abbrev pub Sound : Tree → Type 0
  Sound t = (u m : Tree) → InOrder t → InOrder u → meet decide t u ≡ Some m → IsMeet m (t ∷ u ∷ [])

  abbrev pub SoundFields : Fields → Type 0
  SoundFields xs = (ys zs : Fields) → AllInOrder xs → AllInOrder ys → meet_fields decide xs ys ≡ Some zs → FieldsMeet xs ys zs

  when_same : (t u m : Tree) (d : Dec (t ≡ u)) → InOrder t → when d t ≡ Some m → IsMeet m (t ∷ u ∷ [])
  when_same t u m (yes p) o e =
      let is : t ≡ m = cc e in
      subst (λ v. IsMeet m (t ∷ v ∷ [])) p (subst (λ v. IsMeet v (t ∷ t ∷ [])) is (itself_meet t o))
  when_same t u m (no p) o e = absurd (cc e)

  first_joins : (t m : Tree) (q : Option Tree) → Sound t → InOrder t → ((u : Tree) → q ≡ Some u → InOrder u) → meet_at (meet decide t) t q ≡ Some m → Joins (Some t) q (Some m)
  first_joins t m None h o p e = sym e
  first_joins t m (Some u) h o p e = (m, refl, h u m o (p u refl) e)

  first_ordered : (t m : Tree) (q : Option Tree) → InOrder t → Joins (Some t) q (Some m) → InOrder m
  first_ordered t m None o j = let is : t ≡ m = cc j in subst InOrder is o
  first_ordered t m (Some u) o j = let is : j.0 ≡ m = cc j.1 in subst InOrder is j.2.ordered

  apart_less : (k n : Name) (o : Ordering) → name_cmp k n ≡ o → (o ≡ Ordering.Equal → ⊥) → k ≡ n → ⊥
  apart_less k n o e h is = h (sym e ∙ ap (λ j. name_cmp j n) is ∙ cmp_refl n)

  step_joins : (o : Ordering) (k n : Name) (t m : Tree) (xs ys ws : Fields) → name_cmp k n ≡ o → Joins (Some t) (lookup n ys) (Some m) → Joins (lookup k xs) (lookup k ys) (lookup k ws) → Joins (found o t (lookup k xs)) (lookup k ys) (lookup k (put n m ws))
  step_joins Ordering.Less k n t m xs ys ws e j r = subst (λ v. Joins (lookup k xs) (lookup k ys) v) (sym (looked-other k n m ws (apart_less k n Ordering.Less e (λ q. absurd (cc q))))) r
  step_joins Ordering.Greater k n t m xs ys ws e j r = subst (λ v. Joins (lookup k xs) (lookup k ys) v) (sym (looked-other k n m ws (apart_less k n Ordering.Greater e (λ q. absurd (cc q))))) r
  step_joins Ordering.Equal k n t m xs ys ws e j r =
      subst (λ i. Joins (Some t) (lookup i ys) (lookup i (put n m ws))) (sym (same_name k n e))
      (subst (λ v. Joins (Some t) (lookup n ys) v) (sym (looked-put n m ws)) j)

  sound_more : (n : Name) (t : Tree) (xs : Fields) → Sound t → SoundFields xs → SoundFields (field n t xs)
  sound_more n t xs h r ys zs a b e =
      let p = put_both-some n (meet_at (meet decide t) t (lookup n ys)) (meet_fields decide xs ys) zs e in
      let j = first_joins t p.0 (lookup n ys) h a.1 (λ u q. in_order-at n u ys b (looked-has n u ys q)) p.2 in
      let w = r ys p.1 a.2 b p.3 in
      subst (FieldsMeet (field n t xs) ys) p.4 (record {
        ordered = AllInOrder-put n p.0 p.1 (first_ordered t p.0 (lookup n ys) a.1 j) w.ordered;
        joins = λ k. step_joins (name_cmp k n) k n t p.0 xs ys p.1 refl j (w.joins k);
      })

  sound_instance : (xs : Fields) → SoundFields xs → (u m : Tree) → AllInOrder xs → InOrder u → with_instance (meet_fields decide xs) u ≡ Some m → IsMeet m (instance xs ∷ u ∷ [])
  sound_instance xs h (instance ys) m a b e =
      let p = mapped-some instance (meet_fields decide xs ys) m e in
      subst (λ v. IsMeet v (instance xs ∷ instance ys ∷ [])) p.2 (fields_meet xs ys p.0 a b (h ys p.0 a b p.1))
  sound_instance xs h (rigid s r) m a b e = absurd (cc e)
  sound_instance xs h (component is es) m a b e = absurd (cc e)
  sound_instance xs h (core_module is es) m a b e = absurd (cc e)
  sound_instance xs h (handle_own t) m a b e = absurd (cc e)
  sound_instance xs h (handle_borrow t) m a b e = absurd (cc e)
  sound_instance xs h (type_item t) m a b e = absurd (cc e)

  sound_type : (t : Tree) → Sound t → (u m : Tree) → InOrder t → InOrder u → with_type (meet decide t) u ≡ Some m → IsMeet m (type_item t ∷ u ∷ [])
  sound_type t h (type_item u) m a b e =
      let p = mapped-some type_item (meet decide t u) m e in
      subst (λ v. IsMeet v (type_item t ∷ type_item u ∷ [])) p.2 (types_meet t u p.0 (h u p.0 a b p.1))
  sound_type t h (rigid s r) m a b e = absurd (cc e)
  sound_type t h (component is es) m a b e = absurd (cc e)
  sound_type t h (core_module is es) m a b e = absurd (cc e)
  sound_type t h (handle_own v) m a b e = absurd (cc e)
  sound_type t h (handle_borrow v) m a b e = absurd (cc e)
  sound_type t h (instance ys) m a b e = absurd (cc e)

  mutual
    pub meet_sound : (t : Tree) → Sound t
    meet_sound (rigid s r) u m a b e = when_same (rigid s r) u m (decide (rigid s r) u) a e
    meet_sound (component is es) u m a b e = when_same (component is es) u m (decide (component is es) u) a e
    meet_sound (core_module is es) u m a b e = when_same (core_module is es) u m (decide (core_module is es) u) a e
    meet_sound (handle_own t) u m a b e = when_same (handle_own t) u m (decide (handle_own t) u) a e
    meet_sound (handle_borrow t) u m a b e = when_same (handle_borrow t) u m (decide (handle_borrow t) u) a e
    meet_sound (instance xs) u m a b e = sound_instance xs (meet_fields_sound xs) u m a b e
    meet_sound (type_item t) u m a b e = sound_type t (meet_sound t) u m a b e

    pub meet_fields_sound : (xs : Fields) → SoundFields xs
    meet_fields_sound no_fields ys zs a b e = let is : zs ≡ ys = cc e in record { ordered = subst AllInOrder (sym is) b; joins = λ k. ap (lookup k) is }
    meet_fields_sound (field n t xs) ys zs a b e = sound_more n t xs (meet_sound t) (meet_fields_sound xs) ys zs a b e

  -- where a tree fits both, and the first is plain, there is one
  abbrev pub Complete : Tree → Type 0
  Complete t = (u x : Tree) → InOrder x → InOrder u → IsPlain t → Fits x t → Fits x u → (m : Tree) × (meet decide t u ≡ Some m)

  abbrev pub CompleteFields : Fields → Type 0
  CompleteFields xs = (ys ws : Fields) → AllInOrder ws → AllInOrder ys → ArePlain xs → FieldsFit ws xs → FieldsFit ws ys → (zs : Fields) × (meet_fields decide xs ys ≡ Some zs)

  when_there : (t u : Tree) (d : Dec (t ≡ u)) → t ≡ u → (m : Tree) × (when d t ≡ Some m)
  when_there t u (yes p) e = (t, refl)
  when_there t u (no p) e = absurd (p e)

  complete_first : (n : Name) (t : Tree) (ys ws : Fields) (q : Option Tree) → lookup n ys ≡ q → Complete t → AllInOrder ws → AllInOrder ys → IsPlain t → (w : Tree) → HasField n w ws → Fits w t → FieldsFit ws ys → (m : Tree) × (meet_at (meet decide t) t q ≡ Some m)
  complete_first n t ys ws None e h o p l w k f g = (t, refl)
  complete_first n t ys ws (Some u) e h o p l w k f g =
      let b = given ws ys n u g (looked-has n u ys e) in
      let same : b.0 ≡ w = cc (has-looked n w ws o k, has-looked n b.0 ws o b.1) in
      h u w (in_order-at n w ws o k) (in_order-at n u ys p (looked-has n u ys e)) l f (subst (λ v. Fits v u) same b.2)

  complete_more : (n : Name) (t : Tree) (xs : Fields) → Complete t → CompleteFields xs → CompleteFields (field n t xs)
  complete_more n t xs h r ys ws o p l (one_asked {t = w} k f fs) g =
      let a = complete_first n t ys ws (lookup n ys) refl h o p l.0 w k f g in
      let b = r ys ws o p l.1 fs g in
      (put n a.0 b.0, rw (a.1, b.1) refl)

  mutual
    pub meet_complete : (t : Tree) → Complete t
    meet_complete (rigid s r) u x o p l rigid_fits rigid_fits = when_there (rigid s r) (rigid s r) (decide (rigid s r) (rigid s r)) refl
    meet_complete (handle_own t) u x o p l own_fits own_fits = when_there (handle_own t) (handle_own t) (decide (handle_own t) (handle_own t)) refl
    meet_complete (handle_borrow t) u x o p l borrow_fits borrow_fits = when_there (handle_borrow t) (handle_borrow t) (decide (handle_borrow t) (handle_borrow t)) refl
    meet_complete (component is es) u x o p l f g = absurd l
    meet_complete (core_module is es) u x o p l f g = absurd l
    meet_complete (type_item t) u x o p l (type_fits {t = w} f) (type_fits {u = v} g) =
        let a = meet_complete t v w o p l f g in
        (type_item a.0, rw a.1 refl)
    meet_complete (instance xs) u x o p l (instance_fits {xs = ws} f) (instance_fits {ys = ys} g) =
        let a = meet_fields_complete xs ys ws o p l f g in
        (instance a.0, rw a.1 refl)

    pub meet_fields_complete : (xs : Fields) → CompleteFields xs
    meet_fields_complete no_fields ys ws o p l f g = (ys, refl)
    meet_fields_complete (field n t xs) ys ws o p l f g = complete_more n t xs (meet_complete t) (meet_fields_complete xs) ys ws o p l f g

  is_none : (t u x m : Tree) → meet decide t u ≡ None → meet decide t u ≡ Some m → ⊥
  is_none t u x m e f = absurd (cc (e, f))

  -- where meet gives none, no tree fits both
  pub meet_none : (t u : Tree) → InOrder u → IsPlain t → meet decide t u ≡ None → Clash t u
  meet_none t u p l e x o f g = let m = meet_complete t u x o p l f g in is_none t u x m.0 e m.1

  -- plain trees that a common tree fits have a greatest one
  pub meet_exists : (t u x : Tree) → InOrder t → InOrder u → InOrder x → IsPlain t → Fits x t → Fits x u → (m : Tree) × IsMeet m (t ∷ u ∷ [])
  meet_exists t u x a b o l f g = let m = meet_complete t u x o b l f g in (m.0, meet_sound t u m.0 a b m.1)

pub meet_unique : (m k : Tree) (ts : List Tree) → IsMeet m ts → IsMeet k ts → m ≡ k
meet_unique m k ts a b = anti m k a.ordered b.ordered (b.greatest m a.ordered a.fits) (a.greatest k b.ordered b.fits)

-- what fits a tree that fits all fits all
pub through_all : (x m : Tree) (ts : List Tree) → Fits x m → FitsAll m ts → FitsAll x ts
through_all x m [] f g = tt
through_all x m (t ∷ ts) f g = (Fits-trans x m t f g.0, through_all x m ts f g.1)

pub FitsAll-append : (x : Tree) (ts us : List Tree) → FitsAll x ts → FitsAll x us → FitsAll x (ts ++ us)
FitsAll-append x [] us f g = g
FitsAll-append x (t ∷ ts) us f g = (f.0, FitsAll-append x ts us f.1 g)

pub FitsAll-left : (x : Tree) (ts us : List Tree) → FitsAll x (ts ++ us) → FitsAll x ts
FitsAll-left x [] us f = tt
FitsAll-left x (t ∷ ts) us f = (f.0, FitsAll-left x ts us f.1)

pub FitsAll-right : (x : Tree) (ts us : List Tree) → FitsAll x (ts ++ us) → FitsAll x us
FitsAll-right x [] us f = f
FitsAll-right x (t ∷ ts) us f = FitsAll-right x ts us f.1

-- one more ask
pub meet_more : (k m u : Tree) (ts : List Tree) → IsMeet k ts → IsMeet m (k ∷ u ∷ []) → IsMeet m (ts ++ u ∷ [])
meet_more k m u ts a b = record {
  ordered = b.ordered;
  fits = FitsAll-append m ts (u ∷ []) (through_all m k ts b.fits.0 a.fits) (b.fits.1.0, tt);
  greatest = λ x o f. b.greatest x o (a.greatest x o (FitsAll-left x ts (u ∷ []) f), FitsAll-right x ts (u ∷ []) f);
}

pub meet_one : (t : Tree) → InOrder t → IsMeet t (t ∷ [])
meet_one t o = record { ordered = o; fits = (Fits-refl t, tt); greatest = λ x p f. f.0 }

-- the narrower of two is their meet
pub meet_narrower : (k u : Tree) → InOrder k → Fits k u → IsMeet k (k ∷ u ∷ [])
meet_narrower k u o f = record { ordered = o; fits = (Fits-refl k, (f, tt)); greatest = λ x p g. g.0 }

-- where a tree fits all asks, one more ask has a tree that fits it and the meet so far
pub still_common : (k u x : Tree) (ts : List Tree) → IsMeet k ts → InOrder x → FitsAll x (ts ++ u ∷ []) → Fits x k × Fits x u
still_common k u x ts a o f = (a.greatest x o (FitsAll-left x ts (u ∷ []) f), (FitsAll-right x ts (u ∷ []) f).0)

-- at the decision of trees
pub plain_meets : (a b x : Tree) → InOrder a → InOrder b → InOrder x → IsPlain a → Fits x a → Fits x b → (m : Tree) × IsMeet m (a ∷ b ∷ [])
plain_meets a b x = meet_exists tree_decided a b x
