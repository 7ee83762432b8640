-- What merging makes of two collections' items states what merging makes of what they state.
use Rattle.std.specs.Prelude.{is_some, is_none, cond, filter, bytes_eq, if◌then◌else◌, ◌&&◌, ◌||◌, ◌⊎◌}
use Rattle.std.proofs.Common.{◌≡◌, List, [], ◌∷◌, ◌++◌, map, Bool, true, false, true≢false, not, Option, Some, None, refl, sym, ap, subst, ◌∙◌, inl, inr}
use Rattle.std.specs.Option.{option_map}
use Rattle.std.proofs.lemmas.List.{map-append}
use Rattle.std.proofs.lemmas.Option.{same_Some}
use Rattle.wac_types_base.specs.Entries.{Name, value_at}
use Rattle.wac_types_base.specs.Graph.{Among}
use Rattle.wac_types_base.specs.Stated.{Stated, Used, Kind, IsFunction, IsInstance, IsComponent, IsModule, IsValue, IsResource, IsFunctionType, IsValueType, IsInterface, IsWorld, IsModuleType, kind_of, interface_of, as_type, uses_of, exports_of, identifier_of, is_interface}
use Rattle.wac_types_base.proofs.Adding.{Among-left}
use Rattle.wac_types_fit.proofs.Meeting.{mapped-some}
use Rattle.wac_types_merge.specs.Interfaces.{new_in, joined}
use Rattle.wac_types_merge.specs.United.{by_name, AreBoth, Unites, the_first, of_instances, ExportsUnite, none_united, one_alone, one_united}
use Rattle.wac_composition.specs.Classes.{is_instance_kind}
use Rattle.wac_composition.specs.Tests.{fits}
use Rattle.wac_composition.specs.Merging.{both, merged_with, merged_exports, has_use, merge}
use Rattle.wac_composition.proofs.KeptFits.{both_is, if_is}
use Rattle.wac_composition.proofs.Again.{merging, more_uses, more_exports, merged_of, merge_made, merge_typed, merge_other, none_merging, no_both}
use Rattle.wac_merging.proofs.Well.{IsMade, made_instance, made_interface, made_other}
use Rattle.wac_types_base.proofs.Lists.{bytes_turned}

-- ---- kinds

instance_by : (k : Kind) → is_instance_kind k ≡ true → k ≡ IsInstance
instance_by IsInstance e = refl
instance_by IsFunction e = absurd (true≢false (sym e))
instance_by IsComponent e = absurd (true≢false (sym e))
instance_by IsModule e = absurd (true≢false (sym e))
instance_by IsValue e = absurd (true≢false (sym e))
instance_by IsResource e = absurd (true≢false (sym e))
instance_by IsFunctionType e = absurd (true≢false (sym e))
instance_by IsValueType e = absurd (true≢false (sym e))
instance_by IsInterface e = absurd (true≢false (sym e))
instance_by IsWorld e = absurd (true≢false (sym e))
instance_by IsModuleType e = absurd (true≢false (sym e))

interface_by : (k : Kind) → is_interface k ≡ true → k ≡ IsInterface
interface_by IsInterface e = refl
interface_by IsFunction e = absurd (true≢false (sym e))
interface_by IsComponent e = absurd (true≢false (sym e))
interface_by IsModule e = absurd (true≢false (sym e))
interface_by IsValue e = absurd (true≢false (sym e))
interface_by IsResource e = absurd (true≢false (sym e))
interface_by IsFunctionType e = absurd (true≢false (sym e))
interface_by IsValueType e = absurd (true≢false (sym e))
interface_by IsInstance e = absurd (true≢false (sym e))
interface_by IsWorld e = absurd (true≢false (sym e))
interface_by IsModuleType e = absurd (true≢false (sym e))

-- ---- names that the first list does not have

not_some : {A : Type 0} (o : Option A) → is_none o ≡ not (is_some o)
not_some None = refl
not_some (Some x) = refl

abbrev new_of : List (Name × Stated) → List (Name × Stated) → List (Name × Stated)
new_of es fs = filter (λ f. is_none (value_at (merging es) f.0)) fs

new_exports : (es fs : List (Name × Stated)) → new_in es fs ≡ new_of es fs
new_exports es [] = refl
new_exports es (f ∷ fs) =
    let tested : is_none (value_at (merging es) f.0) ≡ not (is_some (value_at es f.0)) = none_merging es f.0 ∙ not_some (value_at es f.0) in
    by (is_some (value_at es f.0)) (new_exports es fs) ∙ ap (λ b. cond b (f ∷ new_of es fs) (new_of es fs)) (sym tested)
  where
    by : (b : Bool) → new_in es fs ≡ new_of es fs → cond b (new_in es fs) (f ∷ new_in es fs) ≡ cond (not b) (f ∷ new_of es fs) (new_of es fs)
    by true e = e
    by false e = ap (λ l. f ∷ l) e

has_named : (us : List Used) (n : Name) → is_some (value_at (by_name us) n) ≡ has_use us n
has_named [] n = refl
has_named (u ∷ us) n = by (bytes_eq n u.name) (has_named us n) ∙ ap (λ b. b || has_use us n) (bytes_turned n u.name)
  where
    by : (b : Bool) → is_some (value_at (by_name us) n) ≡ has_use us n → is_some (if b then Some u else value_at (by_name us) n) ≡ (b || has_use us n)
    by true e = refl
    by false e = e

abbrev new_uses_of : List Used → List Used → List Used
new_uses_of us vs = filter (λ u. not (has_use us u.name)) vs

new_uses : (us vs : List Used) → new_in (by_name us) (by_name vs) ≡ by_name (new_uses_of us vs)
new_uses us [] = refl
new_uses us (v ∷ vs) =
    ap (λ b. cond b (new_in (by_name us) (by_name vs)) ((v.name, v) ∷ new_in (by_name us) (by_name vs))) (has_named us v.name) ∙ by (has_use us v.name) (new_uses us vs)
  where
    by : (b : Bool) → new_in (by_name us) (by_name vs) ≡ by_name (new_uses_of us vs) → cond b (new_in (by_name us) (by_name vs)) ((v.name, v) ∷ new_in (by_name us) (by_name vs)) ≡ by_name (cond (not b) (v ∷ new_uses_of us vs) (new_uses_of us vs))
    by true e = e
    by false e = ap (λ l. (v.name, v) ∷ l) e

no_names : (us : List Used) → map (λ (u : Name × Used). u.1) (by_name us) ≡ us
no_names [] = refl
no_names (u ∷ us) = ap (λ l. u ∷ l) (no_names us)

-- the uses of both, by their names
uses_are : (us vs ws : List Used) → by_name ws ≡ joined (by_name us) (by_name vs) → ws ≡ us ++ new_uses_of us vs
uses_are us vs ws e =
    sym (no_names ws)
    ∙ ap (map (λ (u : Name × Used). u.1)) (e ∙ ap (λ l. by_name us ++ l) (new_uses us vs) ∙ sym (map-append (λ (u : Used). (u.name, u)) us (new_uses_of us vs)))
    ∙ no_names (us ++ new_uses_of us vs)

-- ---- what merging makes is one

abbrev EachMade : List (Name × Stated) → Type 0
EachMade es = (n : Name) (y : Stated) → Among (n, y) es → IsMade y

-- the parts of an instance, or of the type of one
exports_made : (x : Stated) → (is_instance_kind (kind_of x) ≡ true) ⊎ (is_interface (kind_of x) ≡ true) → IsMade x → EachMade (exports_of x)
exports_made x k (made_instance e d h) = h
exports_made x k (made_interface e d h) = h
exports_made x (inl k) (made_other g h) = absurd (true≢false (sym k ∙ g))
exports_made x (inr k) (made_other g h) = absurd (true≢false (sym k ∙ h))

pub instance_made : (x : Stated) → is_instance_kind (kind_of x) ≡ true → IsMade x → x ≡ interface_of (identifier_of x) (uses_of x) (exports_of x)
instance_made x k (made_instance e d h) = e
instance_made x k (made_interface e d h) = absurd (no_both (kind_of x) k (ap (λ y. is_interface (kind_of y)) e))
instance_made x k (made_other g h) = absurd (true≢false (sym k ∙ g))

interface_made : (x : Stated) → is_interface (kind_of x) ≡ true → IsMade x → x ≡ as_type (interface_of (identifier_of x) (uses_of x) (exports_of x))
interface_made x k (made_interface e d h) = e
interface_made x k (made_instance e d h) = absurd (no_both (kind_of x) (ap (λ y. is_instance_kind (kind_of y)) e) k)
interface_made x k (made_other g h) = absurd (true≢false (sym k ∙ h))

-- what is merged of two interfaces
record MergedOf (t u y : Stated) : Type 0 where
  exports : List (Name × Stated)
  merged : merged_exports (merging (exports_of t)) (exports_of u) ≡ Some exports
  is : y ≡ interface_of (identifier_of t) (uses_of t ++ more_uses (uses_of t) u) (exports ++ more_exports (exports_of t) u)

merged_is : (t u y : Stated) → merged_of (identifier_of t) (uses_of t) (exports_of t) u ≡ Some y → MergedOf t u y
merged_is t u y e =
    let r = mapped-some (λ xs. interface_of (identifier_of t) (uses_of t ++ more_uses (uses_of t) u) (xs ++ more_exports (exports_of t) u)) (merged_exports (merging (exports_of t)) (exports_of u)) y e in
    record { exports = r.0; merged = r.1; is = sym r.2 }

instances_merged : (t u z : Stated) → is_instance_kind (kind_of t) ≡ true → IsMade t → merge t u ≡ Some z → (is_instance_kind (kind_of u) ≡ true) × MergedOf t u z
instances_merged t u z k w e =
    let own = instance_made t k w in
    let i = if_is (is_instance_kind (kind_of u)) (merged_of (identifier_of t) (uses_of t) (exports_of t) u) z (sym (merge_made (identifier_of t) (uses_of t) (exports_of t) u) ∙ ap (λ x. merge x u) (sym own) ∙ e) in
    (i.0, merged_is t u z i.1)

interfaces_merged : (t u z : Stated) → is_interface (kind_of t) ≡ true → IsMade t → merge t u ≡ Some z → (is_interface (kind_of u) ≡ true) × (y : Stated) × (z ≡ as_type y) × MergedOf t u y
interfaces_merged t u z k w e =
    let own = interface_made t k w in
    let i = if_is (is_interface (kind_of u)) (option_map as_type (merged_of (identifier_of t) (uses_of t) (exports_of t) u)) z (sym (merge_typed (identifier_of t) (uses_of t) (exports_of t) u) ∙ ap (λ x. merge x u) (sym own) ∙ e) in
    let m = mapped-some as_type (merged_of (identifier_of t) (uses_of t) (exports_of t) u) z i.1 in
    (i.0, m.0, sym m.2, merged_is t u m.0 m.1)

-- of neither kind the first is merged
first_merged : (t u z : Stated) → (AreBoth t u → ⊥) → IsMade t → merge t u ≡ Some z → z ≡ t
first_merged t u z other w e = by (is_instance_kind (kind_of t)) refl (is_interface (kind_of t)) refl
  where
    by : (a : Bool) → is_instance_kind (kind_of t) ≡ a → (b : Bool) → is_interface (kind_of t) ≡ b → z ≡ t
    by true p b q =
        let m = instances_merged t u z p w e in
        absurd (other (inl (instance_by (kind_of t) p, instance_by (kind_of u) m.0)))
    by false p true q =
        let m = interfaces_merged t u z q w e in
        absurd (other (inr (interface_by (kind_of t) q, interface_by (kind_of u) m.0)))
    by false p false q =
        let i = if_is (fits t u && fits u t) (Some t) z (sym (merge_other t u p q) ∙ e) in
        sym (same_Some _ _ i.1)

left_made : (v : Stated) (es fs : List (Name × Stated)) → exports_of v ≡ es ++ fs → EachMade (exports_of v) → EachMade es
left_made v es fs is h n y m = h n y (subst (Among (n, y)) (sym is) (Among-left (n, y) es fs m))

-- the united interface has the merged parts
united_parts : (t u v : Stated) (es : List (Name × Stated)) → identifier_of v ≡ identifier_of t → by_name (uses_of v) ≡ joined (by_name (uses_of t)) (by_name (uses_of u)) → exports_of v ≡ es ++ new_in (exports_of t) (exports_of u)
    → (y : Stated) (m : MergedOf t u y) → m.exports ≡ es → y ≡ interface_of (identifier_of v) (uses_of v) (exports_of v)
united_parts t u v es id us is y m same =
    let uses : uses_of v ≡ uses_of t ++ more_uses (uses_of t) u = uses_are (uses_of t) (uses_of u) (uses_of v) us in
    let exports : exports_of v ≡ m.exports ++ more_exports (exports_of t) u = is ∙ ap (λ l. es ++ l) (new_exports (exports_of t) (exports_of u)) ∙ ap (λ l. l ++ more_exports (exports_of t) u) (sym same) in
    m.is ∙ (λ j. interface_of (sym id j) (sym uses j) (sym exports j))

mutual
  unites_is : (t u v z : Stated) → IsMade t → IsMade v → Unites t u v → merge t u ≡ Some z → z ≡ v
  unites_is t u v z wt wv (the_first a b other) e = first_merged t u z other wt e
  unites_is t u v z wt wv (of_instances a b d (inl both) kind id us es each is) e =
      let k : is_instance_kind (kind_of t) ≡ true = ap (λ i. is_instance_kind i) both.0 in
      let m = (instances_merged t u z k wt e).1 in
      let l : is_instance_kind (kind_of v) ≡ true = ap (λ i. is_instance_kind i) kind ∙ k in
      let fs = exports_unite (exports_of u) (exports_of t) es m.exports (exports_made t (inl k) wt) (left_made v es (new_in (exports_of t) (exports_of u)) is (exports_made v (inl l) wv)) each m.merged in
      united_parts t u v es id us is z m fs ∙ sym (instance_made v l wv)
  unites_is t u v z wt wv (of_instances a b d (inr both) kind id us es each is) e =
      let k : is_interface (kind_of t) ≡ true = ap (λ i. is_interface i) both.0 in
      let r = interfaces_merged t u z k wt e in
      let l : is_interface (kind_of v) ≡ true = ap (λ i. is_interface i) kind ∙ k in
      let fs = exports_unite (exports_of u) (exports_of t) es r.3.exports (exports_made t (inr k) wt) (left_made v es (new_in (exports_of t) (exports_of u)) is (exports_made v (inr l) wv)) each r.3.merged in
      r.2 ∙ ap as_type (united_parts t u v es id us is r.1 r.3 fs) ∙ sym (interface_made v l wv)

  exports_unite : (others es fs xs : List (Name × Stated)) → EachMade es → EachMade fs → ExportsUnite others es fs → merged_exports (merging es) others ≡ Some xs → xs ≡ fs
  exports_unite others es fs xs we wf none_united e = sym (same_Some _ _ e)
  exports_unite others es fs xs we wf (one_alone n t gs hs none rest) e =
      let b = both_is (λ x ys. (n, x) ∷ ys) (merged_with (merge t) t (value_at others n)) (merged_exports (merging gs) others) xs e in
      let first : b.0 ≡ t = sym (same_Some _ _ (ap (merged_with (merge t) t) (sym none) ∙ b.2)) in
      let more = exports_unite others gs hs b.1 (λ m y k. we m y (inr k)) (λ m y k. wf m y (inr k)) rest b.3 in
      sym b.4 ∙ (λ j. (n, first j) ∷ more j)
  exports_unite others es fs xs we wf (one_united n t u v gs hs there here rest) e =
      let b = both_is (λ x ys. (n, x) ∷ ys) (merged_with (merge t) t (value_at others n)) (merged_exports (merging gs) others) xs e in
      let first = unites_is t u v b.0 (we n t (inl refl)) (wf n v (inl refl)) here (ap (merged_with (merge t) t) (sym there) ∙ b.2) in
      let more = exports_unite others gs hs b.1 (λ m y k. we m y (inr k)) (λ m y k. wf m y (inr k)) rest b.3 in
      sym b.4 ∙ (λ j. (n, first j) ∷ more j)

pub merged_once : (t u v z : Stated) → IsMade t → IsMade v → Unites t u v → merge t u ≡ Some z → z ≡ v
merged_once = unites_is
