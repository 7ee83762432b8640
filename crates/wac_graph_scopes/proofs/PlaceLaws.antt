-- The types that are known, and how they are found.
use Rattle.std.proofs.Common.{rules, ◌≡◌, ◌↔◌, ℕ, ◌+◌, ◌<◌, Bool, true, false, cond, IsTrue, List, [], ◌∷◌, ◌++◌, length, Option, Some, None, inl, inr, refl, sym, ap, ◌∙◌, subst, arith}
use Rattle.std.specs.Prelude.{slice_get, nat_eq, IfNone, IfSome, ◌⊎◌, is_some}
use Rattle.std.proofs.lemmas.Bool.{cases_eq}
use Rattle.std.specs.Map.{lookup}
use Rattle.wac_types_base.specs.contracts.item.ValueTypePartialEq.TheImpl.{eq-value}
use Rattle.wac_types_base.specs.contracts.ids.ResourceIdPartialEq.TheImpl.{eq-value as same_resource}
use Rattle.wac_types_base.specs.declared.ids.DefinedTypeId.{DefinedTypeId}
use Rattle.wac_types_base.specs.declared.ids.ResourceId.{ResourceId}
use Rattle.wac_types_base.specs.declared.item.ValueType.{ValueType}
use Rattle.wac_types_base.specs.declared.item.«Type».{«Type» as TypeKind}
use Rattle.wac_types_base.specs.declared.item.ItemKind.{ItemKind}
use Rattle.wac_types_base.specs.Record.{Collection}
use Rattle.wac_types_base.specs.Graph.{Among}
use Rattle.wac_types_base.specs.Tree.{Tree}
use Rattle.wac_types_base.proofs.Walking.{slice_get-Among}
use Rattle.wac_types_fit.proofs.Items.{Among-last}
use Rattle.wac_types_fit.specs.Trees.{tree_in}
use Rattle.wac_graph_bytes.specs.declared.value.ValueType.TheVariants.{Index}
use Rattle.wac_graph_bytes.specs.Typing.{Worlds, Scope, Inside, value_of}
use Rattle.wac_graph_bytes.proofs.Steps.{get_kept, get_last}
use Rattle.wac_graph_scopes.specs.declared.scope.KnownType.{KnownType}
use Rattle.wac_graph_scopes.specs.declared.scope.KnownTypes.{KnownTypes}
use Rattle.wac_graph_scopes.specs.declared.scope.TypeScope.{TypeScope}
use Rattle.wac_graph_scopes.specs.Prints.{tree_print, value_print, ArePrints}
use Rattle.wac_graph_scopes.specs.Known.{type_tree, HasPlace, FindsPrint, HasPrint, ArePlaces, HasId, HasTree, IsFound, DiffersAt, KeepsKnown}
use Rattle.wac_graph_scopes.specs.Scopes.{IsEntry, IsScope, IsScopeOf, KeepsScope}
use Rattle.wac_graph_scopes.proofs.ScopeLaws.{scope_known}

-- ---- going on

pub KeepsKnown-trans : (xs ys zs : List KnownType) → KeepsKnown xs ys → KeepsKnown ys zs → KeepsKnown xs zs
KeepsKnown-trans xs ys zs a b k m = b k (a k m)

pub known_same_list : (xs ys : List KnownType) → ys ≡ xs → KeepsKnown xs ys
known_same_list xs ys e k m = subst (Among k) (sym e) m

among_push : {X : Type 0} (xs : List X) (x y : X) → Among x xs → Among x (xs ++ y ∷ [])
among_push [] x y m = absurd m
among_push (z ∷ xs) x y (inl e) = inl e
among_push (z ∷ xs) x y (inr m) = inr (among_push xs x y m)

pub known_pushed : (xs ys : List KnownType) (k : KnownType) → ys ≡ xs ++ k ∷ [] → KeepsKnown xs ys
known_pushed xs ys k e x m = subst (Among x) (sym e) (among_push xs x k m)

-- what has its tree has it
pub tree_on : (c : Collection) (xs ys : List KnownType) (t : Tree) → KeepsKnown xs ys → HasTree c xs t → HasTree c ys t
tree_on c xs ys t a h = (h.0, a h.0 h.1, h.2, h.3)

-- what is found stays found
pub found_on : (c : Collection) (xs ys : List KnownType) (id : DefinedTypeId) → KeepsKnown xs ys → IsFound c xs id → IsFound c ys id
found_on c xs ys id a (inl h) = inl (h.0, a h.0 h.1, h.2)
found_on c xs ys id a (inr h) = inr (tree_on c xs ys (type_tree c (ValueType.Defined id)) a h)

-- ---- the places

same_id : (a b : ValueType) → IsTrue (eq-value.it a b) ↔ (a ≡ b)
same_id a b = search rules

-- of a type that is remembered
place_more : (old new : List (ValueType × ℕ)) (ks : List KnownType) (k : KnownType) (at : ℕ) → at ≡ length ks → ((x : ValueType) → lookup (eq-value.it x) new ≡ cond (eq-value.it k.ty x) (Some at) (lookup (eq-value.it x) old))
    → (x : KnownType) → Among x ks ⊎ (x ≡ k) → ((y : KnownType) → Among y ks → HasPlace old ks y.ty) → HasPlace new (ks ++ k ∷ []) x.ty
place_more old new ks k at end updates x m h = by (eq-value.it k.ty x.ty) refl m
  where
    at_last : k.ty ≡ x.ty → eq-value.it k.ty x.ty ≡ true → HasPlace new (ks ++ k ∷ []) x.ty
    at_last same q = record {
      place = at;
      there = k;
      found = updates x.ty ∙ ap (λ (b : Bool). cond b (Some at) (lookup (eq-value.it x.ty) old)) q;
      stands = get_last ks k at end;
      same = same;
    }

    by : (b : Bool) → eq-value.it k.ty x.ty ≡ b → Among x ks ⊎ (x ≡ k) → HasPlace new (ks ++ k ∷ []) x.ty
    by true q m = at_last ((same_id k.ty x.ty).0 q) q
    by false q (inr e) = absurd (cc (q, (same_id k.ty x.ty).1 (ap (λ (y : KnownType). y.ty) (sym e))))
    by false q (inl a) =
        let p = h x a in
        record {
          place = p.place;
          there = p.there;
          found = updates x.ty ∙ ap (λ (b : Bool). cond b (Some at) (lookup (eq-value.it x.ty) old)) q ∙ p.found;
          stands = get_kept ks k p.there p.place p.stands;
          same = p.same;
        }

-- one more type that is known
pub places_remembered : (c : Collection) (s u : KnownTypes) (k : KnownType) (at : ℕ) → at ≡ length s.all.items → ((x : ValueType) → lookup (eq-value.it x) u.places.by_id.entries ≡ cond (eq-value.it k.ty x) (Some at) (lookup (eq-value.it x) s.places.by_id.entries))
    → u.all.items ≡ s.all.items ++ k ∷ [] → u.places.by_print.entries ≡ s.places.by_print.entries → u.places.prints ≡ s.places.prints
    → (k.named ≡ true → HasPrint c s.places.by_print.entries k.ty) → ArePlaces c s → ArePlaces c u
places_remembered c s u k at end updates items by_print prints named h = record {
  ids = λ x m. subst (λ (l : List KnownType). HasPlace u.places.by_id.entries l x.ty) (sym items) (place_more s.places.by_id.entries u.places.by_id.entries s.all.items k at end updates x (last x m) h.ids);
  names = λ x m is. subst (λ (l : List (ℕ × ℕ)). HasPrint c l x.ty) (sym by_print) (name x (last x m) is);
  prints = subst (ArePrints c) (sym prints) h.prints;
}
  where
    last : (x : KnownType) → Among x u.all.items → Among x s.all.items ⊎ (x ≡ k)
    last x m = Among-last s.all.items k x (subst (λ (l : List KnownType). Among x l) items m)

    name : (x : KnownType) → Among x s.all.items ⊎ (x ≡ k) → x.named ≡ true → HasPrint c s.places.by_print.entries x.ty
    name x (inl a) is = h.names x a is
    name x (inr e) is = subst (λ (y : KnownType). HasPrint c s.places.by_print.entries y.ty) (sym e) (named (ap (λ (y : KnownType). y.named) (sym e) ∙ is))

-- with more numbers
pub places_printed : (c : Collection) (s u : KnownTypes) → u.all.items ≡ s.all.items → u.places.by_id.entries ≡ s.places.by_id.entries → ((n : ℕ) → FindsPrint s.places.by_print.entries n → FindsPrint u.places.by_print.entries n)
    → ArePrints c u.places.prints → ArePlaces c s → ArePlaces c u
places_printed c s u items ids keeps prints h = record {
  ids = λ x m. subst (λ (l : List KnownType). HasPlace u.places.by_id.entries l x.ty) (sym items) (subst (λ (l : List (ValueType × ℕ)). HasPlace l s.all.items x.ty) (sym ids) (h.ids x (subst (λ (l : List KnownType). Among x l) items m)));
  names = λ x m is. let p = h.names x (subst (λ (l : List KnownType). Among x l) items m) is in (p.0, keeps (value_print c x.ty) p.1);
  prints = prints;
}

-- a number that is put beside the others
pub print_found : (old new : List (ℕ × ℕ)) (n at : ℕ) → ((q : ℕ) → lookup (nat_eq q) new ≡ cond (nat_eq n q) (Some at) (lookup (nat_eq q) old)) → (q : ℕ) → FindsPrint old q → FindsPrint new q
print_found old new n at updates q h = by (nat_eq n q) refl
  where
    by : (b : Bool) → nat_eq n q ≡ b → FindsPrint new q
    by true e = (at, updates q ∙ ap (λ (b : Bool). cond b (Some at) (lookup (nat_eq q) old)) e)
    by false e = (h.0, updates q ∙ ap (λ (b : Bool). cond b (Some at) (lookup (nat_eq q) old)) e ∙ h.1)

-- ---- what is found

-- by its id
pub id_found : (c : Collection) (ks : KnownTypes) (v : ValueType) → ArePlaces c ks → HasId ks.all.items v → HasPlace ks.places.by_id.entries ks.all.items v
id_found c ks v h f = subst (λ (x : ValueType). HasPlace ks.places.by_id.entries ks.all.items x) f.2 (h.ids f.0 f.1)

pub no_place : (c : Collection) (ks : KnownTypes) (id : ValueType) → lookup (eq-value.it id) ks.places.by_id.entries ≡ None → ArePlaces c ks → HasId ks.all.items id → ⊥
no_place c ks id e h f = let p = id_found c ks id h f in absurd (cc (e, p.found))

pub other_place : (c : Collection) (ks : KnownTypes) (id : ValueType) (at : ℕ) → lookup (eq-value.it id) ks.places.by_id.entries ≡ Some at → ((k : KnownType) → slice_get ks.all.items at ≡ Some k → k.ty ≡ id → ⊥) → ArePlaces c ks → HasId ks.all.items id → ⊥
other_place c ks id at e none h f =
    let p = id_found c ks id h f in
    let same : p.place ≡ at = cc (e, p.found) in
    none p.there (ap (slice_get ks.all.items) (sym same) ∙ p.stands) p.same

-- by its tree
pub no_print : (c : Collection) (ks : KnownTypes) (t : Tree) → (FindsPrint ks.places.by_print.entries (tree_print t) → ⊥) → ArePlaces c ks → HasTree c ks.all.items t → ⊥
no_print c ks t none h f =
    let p = h.names f.0 f.1 f.2 in
    none (subst (λ (n : ℕ). FindsPrint ks.places.by_print.entries n) (print_same f.3) p.1)
  where
    print_same : type_tree c f.0.ty ≡ t → value_print c f.0.ty ≡ tree_print t
    print_same e = ap tree_print e

pub no_prints : (es : List (ℕ × ℕ)) (n : ℕ) → length es ≡ 0 → FindsPrint es n → ⊥
no_prints [] n e h = absurd (cc h.1)
no_prints (x ∷ es) n e h = absurd (omega (arith, e))

-- each that is known differs
pub none_has_tree : (c : Collection) (ks : KnownTypes) (t : Tree) → ((n : ℕ) → n < length ks.all.items → DiffersAt c ks.all.items t n) → ArePlaces c ks → HasTree c ks.all.items t → ⊥
none_has_tree c ks t differs h f =
    let p = slice_get-Among ks.all.items f.0 f.1 in
    differs p.0 p.1 f.0 p.2 (h.names f.0 f.1 f.2).0 f.3

-- ---- scopes

-- the same, but for places and numbers
pub scope_printed : (w : Worlds) (c : Collection) (outer : List Scope) (i : Inside) (s : TypeScope) (ks : KnownTypes) → ks.all.items ≡ s.known.all.items → ks.resources ≡ s.known.resources → ArePlaces c ks → IsScope w c outer i s → IsScope w c outer i (record s { known = ks })
scope_printed w c outer i s ks items es places h =
    scope_known w c outer i s ks h (record {
      each = λ k m. h.known.each k (subst (λ (l : List KnownType). Among k l) items m);
      places = places;
      resources = λ r k e. h.known.resources r k (ap (λ m. lookup (same_resource.it r) m.entries) (sym es) ∙ e);
    })

-- a resource is remembered by its entry
same_entry : (a b : ResourceId) → IsTrue (same_resource.it a b) ↔ (a ≡ b)
same_entry a b = search rules

pub scope_has_entry : (w : Worlds) (c : Collection) (outer : List Scope) (i : Inside) (s : TypeScope) (ks : KnownTypes) (r : ResourceId) (k : ℕ) → IsScope w c outer i s → IsEntry w (i.here ∷ outer) c r k
    → ((x : ResourceId) → lookup (same_resource.it x) ks.resources.entries ≡ cond (same_resource.it r x) (Some k) (lookup (same_resource.it x) s.known.resources.entries))
    → ks.all ≡ s.known.all → ks.places ≡ s.known.places → IsScope w c outer i (record s { known = ks })
scope_has_entry w c outer i s ks r k h e updates all places =
    scope_known w c outer i s ks h (record {
      each = λ x m. h.known.each x (subst (Among x) items m);
      places = places_printed c s.known ks items (ap (λ p. p.by_id.entries) places) (λ n f. subst (λ p. FindsPrint p.by_print.entries n) (sym places) f) (subst (λ p. ArePrints c p.prints) (sym places) h.known.places.prints) h.known.places;
      resources = λ x n at. by x n (same_resource.it r x) refl (sym (updates x) ∙ at);
    })
  where
    items : ks.all.items ≡ s.known.all.items
    items = ap (λ v. v.items) all

    by : (x : ResourceId) (n : ℕ) (b : Bool) → same_resource.it r x ≡ b → cond b (Some k) (lookup (same_resource.it x) s.known.resources.entries) ≡ Some n → IsEntry w (i.here ∷ outer) c x n
    by x n true q a =
        let same : r ≡ x = (same_entry r x).0 q in
        let index : k ≡ n = cc a in
        subst (λ (y : ResourceId). IsEntry w (i.here ∷ outer) c y n) same (subst (IsEntry w (i.here ∷ outer) c r) index e)
    by x n false q a = h.known.resources x n a

pub scope_of_on : (c : Collection) (s u : TypeScope) → KeepsScope c s u → IsScopeOf c s → IsScopeOf c u
scope_of_on c s u keeps h = (h.0, h.1, h.2, keeps h.0 h.1 h.2 h.3)

-- ---- one after another

pub if_none_from : {X : Type 0} (o : Option X) (P : Type 0) → (o ≡ None → P) → IfNone o P
if_none_from None P f = f refl
if_none_from (Some x) P f = tt

pub if_none_some : {X : Type 0} (o : Option X) (P : Type 0) → is_some o ≡ true → IfNone o P
if_none_some None P e = absurd (cc e)
if_none_some (Some x) P e = tt

-- one more that differs
pub differ_next : {X : Type 0} (c : Collection) (ks : List KnownType) (t : Tree) (at : ℕ) (o : Option X) → is_some o ≡ false → ((n : ℕ) → n < at → DiffersAt c ks t n) → IfNone o (DiffersAt c ks t at) → (n : ℕ) → n < at + 1 → DiffersAt c ks t n
differ_next c ks t at (Some x) e before now n lt = absurd (cc e)
differ_next c ks t at None e before now n lt = elim (cases_eq n at) [ inl same ↦ subst (DiffersAt c ks t) (sym same) now | inr other ↦ before n (omega (arith, lt, other)) ]

-- not known by its id, and where it is by its tree, that holds
pub found_none : {X : Type 0} (c : Collection) (ks : KnownTypes) (id : DefinedTypeId) (o : Option X) (P : Type 0) → (HasId ks.all.items (ValueType.Defined id) → ⊥) → IfNone o (HasTree c ks.all.items (type_tree c (ValueType.Defined id)) → P) → IfNone o (IsFound c ks.all.items id → P)
found_none c ks id (Some x) P f g = tt
found_none c ks id None P f g = none
  where
    none : IsFound c ks.all.items id → P
    none (inl h) = absurd (f h)
    none (inr h) = g h

pub if_none_map : {X : Type 0} (o : Option X) (P Q : Type 0) → (P → Q) → IfNone o P → IfNone o Q
if_none_map None P Q f h = f h
if_none_map (Some x) P Q f h = tt

-- a resource that is an alias has the index of its source
pub source_entry : (w : Worlds) (ss : List Scope) (c : Collection) (r s : ResourceId) (o : Option ℕ) → tree_in c (ItemKind.Ty (TypeKind.Resource s)) ≡ tree_in c (ItemKind.Ty (TypeKind.Resource r)) → IfSome o (IsEntry w ss c s) → IfSome o (IsEntry w ss c r)
source_entry w ss c r s None e h = tt
source_entry w ss c r s (Some k) e h = record { reads = h.reads ∙ ap Some e }

-- and a value type that is one, that of what it is an alias of
pub source_value : (w : Worlds) (ss : List Scope) (c : Collection) (v u : ValueType) (o : Option ℕ) → tree_in c (ItemKind.Value u) ≡ tree_in c (ItemKind.Value v)
    → IfSome o (λ k. value_of w ss (Index k) ≡ Some (tree_in c (ItemKind.Value u))) → IfSome o (λ k. value_of w ss (Index k) ≡ Some (tree_in c (ItemKind.Value v)))
source_value w ss c v u None e h = tt
source_value w ss c v u (Some k) e h = h ∙ ap Some e
