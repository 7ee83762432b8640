-- The order on trees is reflexive and transitive, and antisymmetric where the maps are in order.
use Rattle.std.proofs.Common.{◌≡◌, List, [], ◌∷◌, refl, sym, ap, subst, ◌∙◌, ◌⊎◌, inl, inr}
use Rattle.std.specs.declared.cmp.Ordering.{Ordering}
use Rattle.wac_types_base.specs.Graph.{Among}
use Rattle.wac_types_base.specs.Entries.{Name}
use Rattle.wac_types_base.specs.Tree.{Tree, Fields, rigid, instance, component, core_module, handle_own, handle_borrow, type_item, no_fields, field, name_cmp, pair_cmp}
use Rattle.wac_types_base.specs.Fits.{HasField, at_first, at_later, Fits, FieldsFit, rigid_fits, own_fits, borrow_fits, instance_fits, component_fits, module_fits, type_fits, none_asked, one_asked}
use Rattle.wac_types_fit.specs.Ordered.{IsBelow, IsBelowKeys, AreAscending, IsBelowFields, InOrder, AllInOrder}
use Rattle.wac_types_fit.proofs.Looking.{given, above}
use Rattle.wac_types_fit.proofs.Ordering.{never, IsKeyOrder, name_order, pair_order}

-- ---- reflexive

-- a larger map still has what is asked
pub more_fields : {xs ys : Fields} {m : Name} {u : Tree} → FieldsFit xs ys → FieldsFit (field m u xs) ys
more_fields none_asked = none_asked
more_fields (one_asked h f r) = one_asked (at_later h) f (more_fields r)

mutual
  pub Fits-refl : (t : Tree) → Fits t t
  Fits-refl (rigid s r) = rigid_fits
  Fits-refl (instance xs) = instance_fits (FieldsFit-refl xs)
  Fits-refl (component is es) = component_fits (FieldsFit-refl is) (FieldsFit-refl es)
  Fits-refl (core_module is es) = module_fits (λ y m. m) (λ y m. m)
  Fits-refl (handle_own t) = own_fits
  Fits-refl (handle_borrow t) = borrow_fits
  Fits-refl (type_item t) = type_fits (Fits-refl t)

  FieldsFit-refl : (xs : Fields) → FieldsFit xs xs
  FieldsFit-refl no_fields = none_asked
  FieldsFit-refl (field n t xs) = one_asked at_first (Fits-refl t) (more_fields (FieldsFit-refl xs))

-- ---- transitive

-- transitivity at t in the middle
abbrev pub Through : Tree → Type 0
Through t = (a c : Tree) → Fits a t → Fits t c → Fits a c

abbrev pub AllThrough : Fields → Type 0
AllThrough xs = (n : Name) (t : Tree) → HasField n t xs → Through t

first_through : (n : Name) (t : Tree) (xs : Fields) → Through t → AllThrough xs → (m : Name) (u : Tree) → HasField m u (field n t xs) → Through u
first_through n t xs p h m u at_first = p
first_through n t xs p h m u (at_later k) = h m u k

nothing_there : (m : Name) (u : Tree) → HasField m u no_fields → Through u
nothing_there m u k = elim k [ ]

-- what fits a map that is given fits the one behind
fields_through : (xs ys zs : Fields) → ((n : Name) (t : Tree) → HasField n t ys → Through t) → FieldsFit xs ys → FieldsFit ys zs → FieldsFit xs zs
fields_through xs ys no_fields h f none_asked = none_asked
fields_through xs ys (field n u zs) h f (one_asked {t = t} k g r) =
    let a = given xs ys n t f k in
    one_asked a.1 (h n t k a.0 u a.2 g) (fields_through xs ys zs h f r)

mutual
  pub through : (t : Tree) → Through t
  through (rigid s r) a c f rigid_fits = f
  through (core_module is es) a c (module_fits f g) (module_fits h k) = module_fits (λ y m. h y (f y m)) (λ y m. g y (k y m))
  through (handle_own t) a c f own_fits = f
  through (handle_borrow t) a c f borrow_fits = f
  through (instance ys) a c (instance_fits {xs = xs} f) (instance_fits {ys = zs} g) = instance_fits (fields_through xs ys zs (all_through ys) f g)
  through (component js fs) a c (component_fits {is = is} {es = es} f g) (component_fits {js = ks} {fs = gs} h k) = component_fits (fields_through ks js is (all_through js) h f) (fields_through es fs gs (all_through fs) g k)
  through (type_item t) a c (type_fits {t = b} f) (type_fits {u = d} g) = type_fits (through t b d f g)

  all_through : (xs : Fields) → AllThrough xs
  all_through no_fields = nothing_there
  all_through (field n t xs) = first_through n t xs (through t) (all_through xs)

pub Fits-trans : (a b c : Tree) → Fits a b → Fits b c → Fits a c
Fits-trans a b c f g = through b a c f g

-- ---- antisymmetric

not_below_itself : {K : Type 0} (cmp : K → K → Ordering) → IsKeyOrder cmp → (k : K) → IsBelow cmp k k → ⊥
not_below_itself cmp o k h = absurd (cc (h, o.itself k))

module _ {K V : Type 0} (cmp : K → K → Ordering) (o : IsKeyOrder cmp) where
  above_key : (k : K) (xs : List (K × V)) (y : K × V) → IsBelowKeys cmp k xs → Among y xs → IsBelow cmp k y.0
  above_key k [] y h m = absurd m
  above_key k (x ∷ xs) y h (inl e) = subst (λ z. IsBelow cmp k z.0) (sym e) h.0
  above_key k (x ∷ xs) y h (inr m) = above_key k xs y h.1 m

  -- the members behind the first
  behind_first : (x : K × V) (xs ys : List (K × V)) → IsBelowKeys cmp x.0 ys → ((y : K × V) → Among y ys → Among y (x ∷ xs)) → (y : K × V) → Among y ys → Among y xs
  behind_first x xs ys b h y m = elim (h y m) [
    | inl e ↦ absurd (not_below_itself cmp o x.0 (subst (λ z. IsBelow cmp x.0 z.0) e (above_key x.0 ys y b m)))
    | inr n ↦ n
  ]

  first_same : (x y : K × V) (xs ys : List (K × V)) → IsBelowKeys cmp x.0 xs → IsBelowKeys cmp y.0 ys → Among x (y ∷ ys) → Among y (x ∷ xs) → x ≡ y
  first_same x y xs ys a b (inl e) n = e
  first_same x y xs ys a b (inr m) (inl e) = sym e
  first_same x y xs ys a b (inr m) (inr n) = absurd (not_below_itself cmp o x.0 (o.trans x.0 y.0 x.0 (above_key x.0 xs y a n) (above_key y.0 ys x b m)))

  -- lists in order with the same members are equal
  pub same_members : (xs ys : List (K × V)) → AreAscending cmp xs → AreAscending cmp ys → ((y : K × V) → Among y ys → Among y xs) → ((y : K × V) → Among y xs → Among y ys) → xs ≡ ys
  same_members [] [] a b f g = refl
  same_members [] (y ∷ ys) a b f g = absurd (f y (inl refl))
  same_members (x ∷ xs) [] a b f g = absurd (g x (inl refl))
  same_members (x ∷ xs) (y ∷ ys) a b f g =
      let e = first_same x y xs ys a.0 b.0 (g x (inl refl)) (f y (inl refl)) in
      let rest = same_members xs ys a.1 b.1
      (behind_first x xs ys (subst (λ z. IsBelowKeys cmp z.0 ys) (sym e) b.0) (λ z m. f z (inr m)))
      (behind_first y ys xs (subst (λ z. IsBelowKeys cmp z.0 xs) e a.0) (λ z m. g z (inr m))) in
      λ i. e i ∷ rest i

-- an entry that is there, at the front or behind
front : (n m : Name) (t u : Tree) (xs : Fields) → HasField m u (field n t xs) → ((m ≡ n) × (u ≡ t)) ⊎ HasField m u xs
front n m t u xs at_first = inl (refl, refl)
front n m t u xs (at_later q) = inr q

-- what is asked behind a name that is below it is asked of the rest
rest_fits : (n : Name) (t : Tree) (xs ys : Fields) → IsBelowFields n ys → FieldsFit (field n t xs) ys → FieldsFit xs ys
rest_fits n t xs no_fields a none_asked = none_asked
rest_fits n t xs (field m u ys) a (one_asked {t = v} h f r) = elim (front n m t v xs h) [
  | inl e ↦ absurd (never n m a.0 (subst (λ k. IsBelow name_cmp k n) (sym e.0) (subst (λ k. IsBelow name_cmp n k) e.0 a.0)))
  | inr q ↦ one_asked q f (rest_fits n t xs ys a.1 r)
]

same_field : (n m : Name) (t u : Tree) (xs ys : Fields) → n ≡ m → t ≡ u → xs ≡ ys → field n t xs ≡ field m u ys
same_field n m t u xs ys a b c = rw (a, b, c) refl

mutual
  pub anti : (t u : Tree) → InOrder t → InOrder u → Fits t u → Fits u t → t ≡ u
  anti (rigid s r) u a b rigid_fits g = refl
  anti (core_module is es) u a b (module_fits {js = js} {fs = fs} f g) (module_fits h k) =
      ap (λ l. core_module l es) (same_members pair_cmp pair_order is js a.0 b.0 h f) ∙ ap (core_module js) (same_members name_cmp name_order es fs a.1 b.1 g k)
  anti (handle_own t) u a b own_fits g = refl
  anti (handle_borrow t) u a b borrow_fits g = refl
  anti (type_item t) u a b (type_fits {u = v} f) (type_fits g) = ap type_item (anti t v a b f g)
  anti (instance xs) u a b (instance_fits {ys = ys} f) (instance_fits g) = ap instance (anti_fields xs ys a b f g)
  anti (component is es) u a b (component_fits {js = js} {fs = fs} f g) (component_fits h k) =
      ap (λ l. component l es) (anti_fields is js a.0 b.0 h f) ∙ ap (component js) (anti_fields es fs a.1 b.1 g k)

  anti_fields : (xs ys : Fields) → AllInOrder xs → AllInOrder ys → FieldsFit xs ys → FieldsFit ys xs → xs ≡ ys
  anti_fields no_fields no_fields a b f g = refl
  anti_fields no_fields (field m u ys) a b (one_asked h p r) g = elim h [ ]
  anti_fields (field n t xs) no_fields a b f (one_asked k q s) = elim k [ ]
  anti_fields (field n t xs) (field m u ys) a b (one_asked {t = v} h p r) (one_asked {t = w} k q s) =
      elim (front n m t v xs h) [
        | inr h' ↦ absurd (elim (front m n u w ys k) [
          | inr k' ↦ never n m (above n m v xs a.0 h') (above m n w ys b.0 k')
          | inl e ↦ never n m (above n m v xs a.0 h') (subst (λ k. IsBelow name_cmp k n) e.0 (subst (λ k. IsBelow name_cmp n k) (sym e.0) (above n m v xs a.0 h')))
        ])
        | inl e ↦ elim (front m n u w ys k) [
          | inr k' ↦ absurd (never m n (above m n w ys b.0 k') (subst (λ k. IsBelow name_cmp k m) e.0 (subst (λ k. IsBelow name_cmp m k) (sym e.0) (above m n w ys b.0 k'))))
          | inl d ↦
              same_field n m t u xs ys d.0
              (anti t u a.1 b.1 (subst (λ v. Fits v u) e.1 p) (subst (λ w. Fits w t) d.1 q))
              (anti_fields xs ys a.2 b.2
              (rest_fits n t xs ys (subst (λ k. IsBelowFields k ys) e.0 b.0) r)
              (rest_fits m u ys xs (subst (λ k. IsBelowFields k xs) d.0 a.0) s))
        ]
      ]

-- ---- what fits an instance

pub fits_instance : (v : Tree) (xs : Fields) → Fits v (instance xs) → (ys : Fields) × (v ≡ instance ys) × FieldsFit ys xs
fits_instance v xs (instance_fits {xs = ys} f) = (ys, refl, f)
