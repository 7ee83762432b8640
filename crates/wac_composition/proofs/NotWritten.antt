-- The tests of what cannot be written say yes exactly of what cannot.
use Rattle.std.specs.Prelude.{◌==◌, not, ◌&&◌}
use Rattle.std.proofs.lemmas.Option.{none-some, same_Some}
use Rattle.std.specs.Bool.{Decides}
use Rattle.std.specs.List.{list_any}
use Rattle.std.specs.Cmp.Lexicographic.{pointwise, bytes_decides}
use Rattle.std.proofs.lemmas.Bool.Decides.{Decides-and, Decides-or, Decides-not, Decides-like}
use Rattle.std.proofs.Common.{◌≡◌, List, [], ◌∷◌, Bool, true, false, true≢false, Option, Some, None, ◌⊎◌, inl, inr, refl, sym, ap, subst, ◌∙◌}
use Rattle.wac_types_base.specs.Entries.{Name, value_at, has_name}
use Rattle.wac_types_base.specs.Graph.{Wholes, node, no_more, more, hole, Among}
use Rattle.wac_types_base.specs.Collection.{Shape, primitive, tuple, list, fixed_size_list, option, result, variant, record_of, flags, enum, alias, stream, future, resource, resource_alias, func, interface, world, module_type, type_of, own_of, borrow_of}
use Rattle.wac_types_base.specs.Stated.{Stated, row, folded_row, places_in, Kind, IsFunction, IsInstance, IsComponent, IsModule, IsValue, IsResource, IsFunctionType, IsValueType, IsInterface, IsWorld, IsModuleType, kind_of, untyped, root_name}
use Rattle.wac_types_base.specs.Tree.{tree}
use Rattle.wac_composition.specs.Tests.{same_tree}
use Rattle.wac_composition.specs.Writable.{Holder, is_resource, is_taken_as, is_given, is_value_type, is_used_value, stated_at, place_fails, value_at_label, value_fails, Found, any_value}
use Rattle.wac_composition.specs.NotWritten.{IsGiven, IsUsed, HasRoot, Handle, Resource, Compound, role, Dangles, handle, part}
use Rattle.wac_composition.proofs.TestLaws.{decides, trees_tell}
use Rattle.wac_composition.proofs.Closures.{any_among, among_any}
use Rattle.wac_composition.proofs.KeptFits.{folded_firsts, row_again}
use Rattle.wac_types_base.proofs.Made.{firsts}

-- ---- tests and lists

pub any_decides : {X : Type 0} (t : X → Bool) (P : X → Type 0) (xs : List X) → ((x : X) → Among x xs → Decides (t x) (P x)) → Decides (list_any t xs) ((x : X) × Among x xs × P x)
any_decides t P xs d = (λ e. let c = any_among t xs e in (c.0, c.1, (d c.0 c.1).0 c.2), λ h. among_any t xs h.0 h.1 ((d h.0 h.1).1 h.2))

pub has_decides : (ns : List Name) (n : Name) → Decides (has_name ns n) (Among n ns)
has_decides [] n = (λ e. absurd (true≢false (sym e)), λ m. absurd m)
has_decides (m ∷ ms) n = Decides-or (pointwise ◌==◌ n m) (has_name ms n) (bytes_decides n m) (has_decides ms n)

-- ---- what stands in a holder

pub trees_decide : (x y : Stated) → Decides (same_tree (tree x) (tree y)) (tree x ≡ tree y)
trees_decide x y = decides trees_tell (tree x) (tree y)

pub given_decides : (h : Holder) (n : Name) (x : Stated) → Decides (is_given h n x) (IsGiven h n x)
given_decides h n x = go (value_at h.used n) refl
  where
    go : (o : Option Stated) → value_at h.used n ≡ o → Decides (is_taken_as o x) (IsGiven h n x)
    go None e = (λ q. absurd (true≢false (sym q)), λ g. absurd (none-some _ (sym e ∙ g.taken)))
    go (Some y) e = (λ q. record { item = y; taken = e; same = (trees_decide y x).0 q }, λ g. (trees_decide y x).1 (ap tree (same_Some _ _ (sym e ∙ g.taken)) ∙ g.same))

value_type_decides : (k : Kind) → Decides (is_value_type k) (k ≡ IsValueType)
value_type_decides k = (only k, λ e. ap is_value_type e)
  where
    only : (k : Kind) → is_value_type k ≡ true → k ≡ IsValueType
    only IsValueType e = refl
    only IsFunction e = absurd (true≢false (sym e))
    only IsInstance e = absurd (true≢false (sym e))
    only IsComponent e = absurd (true≢false (sym e))
    only IsModule e = absurd (true≢false (sym e))
    only IsValue e = absurd (true≢false (sym e))
    only IsResource e = absurd (true≢false (sym e))
    only IsFunctionType e = absurd (true≢false (sym e))
    only IsInterface e = absurd (true≢false (sym e))
    only IsWorld e = absurd (true≢false (sym e))
    only IsModuleType e = absurd (true≢false (sym e))

pub resource_decides : (k : Kind) → Decides (is_resource k) (k ≡ IsResource)
resource_decides k = (only k, λ e. ap is_resource e)
  where
    only : (k : Kind) → is_resource k ≡ true → k ≡ IsResource
    only IsResource e = refl
    only IsFunction e = absurd (true≢false (sym e))
    only IsInstance e = absurd (true≢false (sym e))
    only IsComponent e = absurd (true≢false (sym e))
    only IsModule e = absurd (true≢false (sym e))
    only IsValue e = absurd (true≢false (sym e))
    only IsFunctionType e = absurd (true≢false (sym e))
    only IsValueType e = absurd (true≢false (sym e))
    only IsInterface e = absurd (true≢false (sym e))
    only IsWorld e = absurd (true≢false (sym e))
    only IsModuleType e = absurd (true≢false (sym e))

used_decides : (h : Holder) (v : Stated) → Decides (is_used_value h v) (IsUsed h v)
used_decides h v =
    Decides-like (is_used_value h v)
    (λ c. record { name = c.0.0; item = c.0.1; taken = c.1; kind = c.2.0; same = c.2.1 })
    (λ u. ((u.name, u.item), u.taken, (u.kind, u.same)))
    (any_decides _ (λ e. (kind_of e.1 ≡ IsValueType) × (tree (untyped e.1) ≡ tree v)) h.used
    (λ e m. Decides-and (is_value_type (kind_of e.1)) (same_tree (tree (untyped e.1)) (tree v)) (value_type_decides (kind_of e.1)) (trees_decide (untyped e.1) v)))

-- ---- values

pub stated_again : {A : Type 0} (f : Shape → List (Option (Stated × A)) → A) (s : Shape) (ts : Wholes Shape) → stated_at s (folded_row f ts) ≡ node s ts
stated_again f s ts = ap (λ os. node s (row os)) (folded_firsts f ts) ∙ ap (node s) (row_again ts)

module _ (h : Holder) where
  abbrev SomeDangles : Wholes Shape → Type 0
  SomeDangles ts = (u : Stated) × Among (Some u) (places_in ts) × Dangles h u

  abbrev Answers : Shape → Wholes Shape → Type 0
  Answers s ts = Decides (not (is_used_value h (node s ts)) && value_at_label h s (folded_row (value_at_label h) ts)) (Dangles h (node s ts))

  unused : (v : Stated) → Decides (not (is_used_value h v)) (IsUsed h v → ⊥)
  unused v = Decides-not (is_used_value h v) (used_decides h v)

  compound : (s : Shape) (ts : Wholes Shape) → role s ≡ Compound → Decides (place_fails h (folded_row (value_at_label h) ts)) (SomeDangles ts)
      → Decides (not (is_used_value h (node s ts)) && place_fails h (folded_row (value_at_label h) ts)) (Dangles h (node s ts))
  compound s ts r d =
      Decides-like _ (λ p. part r p.0 p.1.1 p.1.2) back (Decides-and (not (is_used_value h (node s ts))) (place_fails h (folded_row (value_at_label h) ts)) (unused (node s ts)) d)
    where
      back : Dangles h (node s ts) → (IsUsed h (node s ts) → ⊥) × SomeDangles ts
      back (handle e n m) = absurd (let c : ⊥ = cc (e, r) in c)
      back (part {u = u} e n m g) = (n, (u, m, g))

  a_handle : (s : Shape) (ts : Wholes Shape) → role s ≡ Handle
      → Decides (not (is_used_value h (node s ts)) && not (has_name h.roots (root_name (stated_at s (folded_row (value_at_label h) ts))))) (Dangles h (node s ts))
  a_handle s ts r =
      Decides-like _ (λ p. handle r p.0 p.1) back (Decides-and (not (is_used_value h (node s ts))) _ (unused (node s ts))
      (Decides-not (has_name h.roots (root_name (stated_at s (folded_row (value_at_label h) ts)))) (subst (λ v. Decides (has_name h.roots (root_name v)) (HasRoot h (node s ts))) (sym (stated_again (value_at_label h) s ts)) (has_decides h.roots (root_name (node s ts))))))
    where
      back : Dangles h (node s ts) → (IsUsed h (node s ts) → ⊥) × (HasRoot h (node s ts) → ⊥)
      back (handle e n m) = (n, m)
      back (part e n m g) = absurd (let c : ⊥ = cc (e, r) in c)

  a_resource : (s : Shape) (ts : Wholes Shape) → role s ≡ Resource → Decides (not (is_used_value h (node s ts)) && false) (Dangles h (node s ts))
  a_resource s ts r = Decides-like _ (λ p. absurd p.1) back (Decides-and (not (is_used_value h (node s ts))) false (unused (node s ts)) (λ e. absurd (true≢false (sym e)), λ b. absurd b))
    where
      back : Dangles h (node s ts) → (IsUsed h (node s ts) → ⊥) × ⊥
      back (handle e n m) = absurd (let c : ⊥ = cc (e, r) in c)
      back (part e n m g) = absurd (let c : ⊥ = cc (e, r) in c)

  at_label : (s : Shape) (ts : Wholes Shape) → Decides (place_fails h (folded_row (value_at_label h) ts)) (SomeDangles ts) → Answers s ts
  at_label (own_of s) ts d = a_handle (own_of s) ts refl
  at_label (borrow_of s) ts d = a_handle (borrow_of s) ts refl
  at_label (resource n) ts d = a_resource (resource n) ts refl
  at_label (resource_alias n) ts d = a_resource (resource_alias n) ts refl
  at_label (primitive p) ts d = compound (primitive p) ts refl d
  at_label tuple ts d = compound tuple ts refl d
  at_label list ts d = compound list ts refl d
  at_label (fixed_size_list n) ts d = compound (fixed_size_list n) ts refl d
  at_label option ts d = compound option ts refl d
  at_label result ts d = compound result ts refl d
  at_label (variant ns) ts d = compound (variant ns) ts refl d
  at_label (record_of ns) ts d = compound (record_of ns) ts refl d
  at_label (flags ns) ts d = compound (flags ns) ts refl d
  at_label (enum ns) ts d = compound (enum ns) ts refl d
  at_label alias ts d = compound alias ts refl d
  at_label stream ts d = compound stream ts refl d
  at_label future ts d = compound future ts refl d
  at_label (func ps a) ts d = compound (func ps a) ts refl d
  at_label (interface i us es) ts d = compound (interface i us es) ts refl d
  at_label (world i us is es) ts d = compound (world i us is es) ts refl d
  at_label (module_type m) ts d = compound (module_type m) ts refl d
  at_label (type_of s) ts d = compound (type_of s) ts refl d

  mutual
    pub value_decides : (v : Stated) → Decides (value_fails h v) (Dangles h v)
    value_decides (node s ts) = at_label s ts (places_decide ts)

    places_decide : (ts : Wholes Shape) → Decides (place_fails h (folded_row (value_at_label h) ts)) (SomeDangles ts)
    places_decide no_more = (λ e. absurd (true≢false (sym e)), λ p. absurd p.1)
    places_decide (hole ts) = Decides-like _ (λ p. (p.0, inr p.1, p.2)) past (places_decide ts)
      where
        past : SomeDangles (hole ts) → SomeDangles ts
        past (u, inl e, g) = absurd (none-some _ (sym e))
        past (u, inr m, g) = (u, m, g)
    places_decide (more t ts) = Decides-like _ to from (Decides-or (value_fails h t) (place_fails h (folded_row (value_at_label h) ts)) (value_decides t) (places_decide ts))
      where
        to : Dangles h t ⊎ SomeDangles ts → SomeDangles (more t ts)
        to (inl g) = (t, inl refl, g)
        to (inr p) = (p.0, inr p.1, p.2)

        from : SomeDangles (more t ts) → Dangles h t ⊎ SomeDangles ts
        from (u, inl e, g) = inl (subst (Dangles h) (same_Some _ _ e) g)
        from (u, inr m, g) = inr (u, m, g)

  pub any_value_decides : (os : List (Option (Stated × Found))) → Decides (any_value h os) ((v : Stated) × Among (Some v) (firsts os) × Dangles h v)
  any_value_decides [] = (λ e. absurd (true≢false (sym e)), λ p. absurd p.1)
  any_value_decides (None ∷ os) = Decides-like _ (λ p. (p.0, inr p.1, p.2)) past (any_value_decides os)
    where
      past : ((v : Stated) × Among (Some v) (firsts (None ∷ os)) × Dangles h v) → (v : Stated) × Among (Some v) (firsts os) × Dangles h v
      past (u, inl e, g) = absurd (none-some _ (sym e))
      past (u, inr m, g) = (u, m, g)
  any_value_decides (Some x ∷ os) = Decides-like _ to from (Decides-or (value_fails h x.0) (any_value h os) (value_decides x.0) (any_value_decides os))
    where
      to : Dangles h x.0 ⊎ ((v : Stated) × Among (Some v) (firsts os) × Dangles h v) → (v : Stated) × Among (Some v) (firsts (Some x ∷ os)) × Dangles h v
      to (inl g) = (x.0, inl refl, g)
      to (inr p) = (p.0, inr p.1, p.2)

      from : ((v : Stated) × Among (Some v) (firsts (Some x ∷ os)) × Dangles h v) → Dangles h x.0 ⊎ ((v : Stated) × Among (Some v) (firsts os) × Dangles h v)
      from (u, inl e, g) = inl (subst (Dangles h) (same_Some _ _ e) g)
      from (u, inr m, g) = inr (u, m, g)
