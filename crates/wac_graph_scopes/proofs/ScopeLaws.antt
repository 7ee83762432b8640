-- One more declaration of a scope of written types, and what stands on.
use Rattle.std.proofs.Common.{◌≡◌, ℕ, ◌+◌, Bool, true, false, List, [], ◌∷◌, ◌++◌, length, Option, Some, None, refl, sym, ap, ◌∙◌, subst, arith, inl, inr, if◌then◌else◌}
use Rattle.std.specs.Prelude.{slice_get, ◌==◌, ◌⊎◌}
use Rattle.std.specs.Cmp.Lexicographic.{pointwise}
use Rattle.std.proofs.lemmas.Slice.Eq.{bytes_eq-Decides}
use Rattle.wac_types_base.specs.Entries.{Name, value_at, put_entry}
use Rattle.std.proofs.lemmas.List.{length_push}
use Rattle.std.proofs.lemmas.Option.{none-some, same_Some}
use Rattle.std.specs.Map.{lookup}
use Rattle.wac_types_base.specs.contracts.ids.ResourceIdPartialEq.TheImpl.{eq-value}
use Rattle.wac_types_base.specs.declared.ids.ResourceId.{ResourceId}
use Rattle.wac_types_base.specs.declared.item.ValueType.{ValueType}
use Rattle.wac_types_base.specs.declared.item.ItemKind.{ItemKind}
use Rattle.wac_types_base.specs.Record.{Collection}
use Rattle.wac_types_base.specs.Graph.{Among}
use Rattle.wac_types_base.specs.Collection.{resource}
use Rattle.wac_types_base.specs.Tree.{Tree, rigid, end}
use Rattle.wac_types_fit.specs.Trees.{tree_in}
use Rattle.wac_graph_bytes.specs.declared.value.Sort.{Sort}
use Rattle.wac_graph_bytes.specs.declared.value.Sort.TheVariants as sort
use Rattle.wac_graph_bytes.specs.declared.value.ValueType.{ValueType as Written}
use Rattle.wac_graph_bytes.specs.declared.value.ValueType.TheVariants.{Primitive, Index}
use Rattle.wac_graph_bytes.specs.declared.entry.DefinedType.{DefinedType as CodeType}
use Rattle.wac_graph_bytes.specs.declared.entry.Declaration.{Declaration, Defined}
use Rattle.wac_graph_bytes.specs.Entries.{End}
use Rattle.wac_graph_bytes.specs.Typing.{◌>>=◌, Worlds, Meaning, Known, Scope, no_scope, with_one, Inside, nothing_inside, adds_inside, declared, defined, found, type_tree, type_at, value_of, as_value}
use Rattle.wac_graph_bytes.specs.Views.{defined_view, before, declarations_of}
use Rattle.wac_graph_bytes.proofs.Steps.{bind_some, kept_one, cores_kept, get_last}
use Rattle.wac_graph_bytes.proofs.Extending.{one_more, all_then}
use Rattle.wac_graph_scopes.specs.declared.scope.KnownType.{KnownType}
use Rattle.wac_graph_scopes.specs.declared.scope.KnownTypes.{KnownTypes}
use Rattle.wac_graph_scopes.specs.declared.scope.TypeScope.{TypeScope}
use Rattle.wac_graph_scopes.specs.Scopes.{Extends, OnlyTypes, IsKnown, IsEntry, AreKnown, IsResource, IsScope, Exchanges, Goes, AnswersType, PlaceReads, PlacesRead, IsTypeDeclaration, IsEntryIn}
use Rattle.wac_graph_scopes.specs.Known.{ArePlaces}
use Rattle.wac_types_fit.proofs.Items.{Among-last}

-- ---- what stands on

pub Extends-refl : (h : Scope) → Extends h h
Extends-refl h = record { indexes = λ s k m e. e; cores = λ k t e. e }

pub Extends-trans : (g h k : Scope) → Extends g h → Extends h k → Extends g k
Extends-trans g h k a b = record { indexes = λ s n m e. b.indexes s n m (a.indexes s n m e); cores = λ n t e. b.cores n t (a.cores n t e) }

pub Extends-one : (s : Sort) (m : Meaning) (h : Scope) → Extends h (with_one s m h)
Extends-one s m h = record {
  indexes = λ t k n e. kept_one t s m n h k e;
  cores = λ k t e. ap (λ (xs : List Tree). slice_get xs k) (cores_kept s m h) ∙ e;
}

pub OnlyTypes-refl : (h : Scope) → OnlyTypes h h
OnlyTypes-refl h = record { funcs = refl; components = refl; instances = refl; modules = refl; cores = refl }

pub OnlyTypes-trans : (g h k : Scope) → OnlyTypes g h → OnlyTypes h k → OnlyTypes g k
OnlyTypes-trans g h k a b = record {
  funcs = b.funcs ∙ a.funcs;
  components = b.components ∙ a.components;
  instances = b.instances ∙ a.instances;
  modules = b.modules ∙ a.modules;
  cores = b.cores ∙ a.cores;
}

found_kept : (h j : Scope) (outer : List Scope) (k : ℕ) (m : Meaning) → Extends h j → found (h ∷ outer) sort.Ty k ≡ Some m → found (j ∷ outer) sort.Ty k ≡ Some m
found_kept h j outer k m x e = x.indexes sort.Ty k m e

pub type_kept : (w : Worlds) (h j : Scope) (outer : List Scope) (k : ℕ) (t : Tree) → Extends h j → type_at w (h ∷ outer) k ≡ Some t → type_at w (j ∷ outer) k ≡ Some t
type_kept w h j outer k t x e =
    let b = bind_some (found (h ∷ outer) sort.Ty k) (type_tree w) t e in
    ap (λ (o : Option Meaning). o >>= type_tree w) (found_kept h j outer k b.0 x b.1) ∙ b.2

pub value_kept : (w : Worlds) (h j : Scope) (outer : List Scope) (b : Written) (t : Tree) → Extends h j → value_of w (h ∷ outer) b ≡ Some t → value_of w (j ∷ outer) b ≡ Some t
value_kept w h j outer (Primitive p) t x e = e
value_kept w h j outer (Index k) t x e =
    let b = bind_some (type_at w (h ∷ outer) k) as_value t e in
    ap (λ (o : Option Tree). o >>= as_value) (type_kept w h j outer k b.0 x b.1) ∙ b.2

pub place_kept : (w : Worlds) (h j : Scope) (outer : List Scope) (b : Option Written) (t : Option Tree) → Extends h j → PlaceReads w (h ∷ outer) b t → PlaceReads w (j ∷ outer) b t
place_kept w h j outer None None x e = tt
place_kept w h j outer (Some b) (Some t) x e = value_kept w h j outer b t x e
place_kept w h j outer None (Some t) x e = absurd e
place_kept w h j outer (Some b) None x e = absurd e

pub places_kept : (w : Worlds) (h j : Scope) (outer : List Scope) (bs : List (Option Written)) (ts : List (Option Tree)) → Extends h j → PlacesRead w (h ∷ outer) bs ts → PlacesRead w (j ∷ outer) bs ts
places_kept w h j outer [] [] x e = tt
places_kept w h j outer (b ∷ bs) (t ∷ ts) x e = (place_kept w h j outer b t x e.0, places_kept w h j outer bs ts x e.1)
places_kept w h j outer [] (t ∷ ts) x e = absurd e
places_kept w h j outer (b ∷ bs) [] x e = absurd e

pub places_more : (w : Worlds) (ss : List Scope) (bs : List (Option Written)) (ts : List (Option Tree)) (b : Option Written) (t : Option Tree) → PlacesRead w ss bs ts → PlaceReads w ss b t → PlacesRead w ss (bs ++ b ∷ []) (ts ++ t ∷ [])
places_more w ss [] [] b t h e = (e, tt)
places_more w ss (x ∷ bs) (y ∷ ts) b t h e = (h.0, places_more w ss bs ts b t h.1 e)
places_more w ss [] (y ∷ ts) b t h e = absurd h
places_more w ss (x ∷ bs) [] b t h e = absurd h

-- what is remembered stays true
pub known_kept : (w : Worlds) (c : Collection) (h j : Scope) (outer : List Scope) (k : KnownType) → Extends h j → IsKnown w (h ∷ outer) c k → IsKnown w (j ∷ outer) c k
known_kept w c h j outer k x e = record { reads = value_kept w h j outer (Index k.index) _ x e.reads }

entry_kept : (w : Worlds) (c : Collection) (h j : Scope) (outer : List Scope) (r : ResourceId) (k : ℕ) → Extends h j → IsEntry w (h ∷ outer) c r k → IsEntry w (j ∷ outer) c r k
entry_kept w c h j outer r k x e = record { reads = type_kept w h j outer k _ x e.reads }

pub all_known_kept : (w : Worlds) (c : Collection) (h j : Scope) (outer : List Scope) (ks : KnownTypes) → Extends h j → AreKnown w (h ∷ outer) c ks → AreKnown w (j ∷ outer) c ks
all_known_kept w c h j outer ks x a = record {
  each = λ k m. known_kept w c h j outer k x (a.each k m);
  places = a.places;
  resources = λ r k e. entry_kept w c h j outer r k x (a.resources r k e);
}

pub resource_kept : (w : Worlds) (h j : Scope) (outer : List Scope) (n : Name) (k : ℕ) → Extends h j → IsResource w (h ∷ outer) n k → IsResource w (j ∷ outer) n k
resource_kept w h j outer n k x e = record { reads = type_kept w h j outer k _ x e.reads }

-- ---- going on

module _ (w : Worlds) (c : Collection) (outer : List Scope) where
  pub Goes-refl : (i : Inside) (s : TypeScope) → IsScope w c outer i s → Goes w c outer i i s
  Goes-refl i s h = record { stands = h; extends = Extends-refl i.here; others = OnlyTypes-refl i.here; imports = refl; exports = refl }

  pub Goes-trans : (i j k : Inside) (s u : TypeScope) → Goes w c outer i j s → Goes w c outer j k u → Goes w c outer i k u
  Goes-trans i j k s u a b = record {
    stands = b.stands;
    extends = Extends-trans i.here j.here k.here a.extends b.extends;
    others = OnlyTypes-trans i.here j.here k.here a.others b.others;
    imports = b.imports ∙ a.imports;
    exports = b.exports ∙ a.exports;
  }

  -- one more type
  pub type_added : (i : Inside) (m : Meaning) (s u : TypeScope) (d : Declaration) → IsScope w c outer i s → declared w outer i (before d End) ≡ Some (adds_inside sort.Ty m i)
      → u.declarations.items ≡ s.declarations.items ++ d ∷ [] → u.types ≡ s.types + 1 → u.known ≡ s.known → u.resources ≡ s.resources
      → Goes w c outer i (adds_inside sort.Ty m i) u
  type_added i m s u d h one ds ts ks rs =
      let x = Extends-one sort.Ty m i.here in
      record {
        stands = record {
          reads = ap (λ (l : List Declaration). declared w outer nothing_inside (declarations_of l)) ds ∙ one_more w outer nothing_inside i (adds_inside sort.Ty m i) s.declarations.items d h.reads one;
          types = omega (arith, ts, h.types, length_push i.here.types m);
          known = subst (λ (k : KnownTypes). AreKnown w (with_one sort.Ty m i.here ∷ outer) c k) (sym ks) (all_known_kept w c i.here (with_one sort.Ty m i.here) outer s.known x h.known);
          resources = λ n k a. resource_kept w i.here (with_one sort.Ty m i.here) outer n k x (h.resources n k (subst (λ (l : List (Name × ℕ)). value_at l n ≡ Some k) rs a));
        };
        extends = x;
        others = record { funcs = refl; components = refl; instances = refl; modules = refl; cores = refl };
        imports = refl;
        exports = refl;
      }

  type_reads : (i : Inside) (ty : CodeType) (t : Tree) → defined w (i.here ∷ outer) (defined_view ty) ≡ Some t → declared w outer i (before (Defined ty) End) ≡ Some (adds_inside sort.Ty (Known t) i)
  unfolding declared
  type_reads i ty t e = ap (λ (o : Option Tree). o >>= λ t. Some (adds_inside sort.Ty (Known t) i)) e

  last_type : (i : Inside) (t : Tree) (k : ℕ) → k ≡ length i.here.types → type_at w (with_one sort.Ty (Known t) i.here ∷ outer) k ≡ Some t
  last_type i t k e = ap (λ (o : Option Meaning). o >>= type_tree w) (get_last i.here.types (Known t) k e)

  -- a type without declarations
  pub type_defined : (i : Inside) (t : Tree) (s u : TypeScope) (ty : CodeType) → IsScope w c outer i s → defined w (i.here ∷ outer) (defined_view ty) ≡ Some t
      → u.declarations.items ≡ s.declarations.items ++ Defined ty ∷ [] → u.types ≡ s.types + 1 → u.known ≡ s.known → u.resources ≡ s.resources
      → AnswersType w c outer i t u s.types
  type_defined i t s u ty h e ds ts ks rs = record {
    after = adds_inside sort.Ty (Known t) i;
    goes = type_added i (Known t) s u (Defined ty) h (type_reads i ty t e) ds ts ks rs;
    index = last_type i t s.types h.types;
  }

-- ---- types of their own

pub type_stated : (i j : Inside) (o : Option Tree) → (o >>= λ t. Some (adds_inside sort.Ty (Known t) i)) ≡ Some j → (t : Tree) × (adds_inside sort.Ty (Known t) i ≡ j)
type_stated i j (Some t) e = (t, same_Some _ _ e)
type_stated i j None e = absurd (none-some _ e)

pub defined_states : (ty : CodeType) → IsTypeDeclaration (Defined ty)
unfolding declared
defined_states ty w outer i j e = type_stated i j (defined w (i.here ∷ outer) (defined_view ty)) e

-- the last type is an entry of its own
pub entry_added : (w : Worlds) (c : Collection) (outer : List Scope) (i : Inside) (s : TypeScope) (ds : List Declaration) (d : Declaration) → IsTypeDeclaration d → IsScope w c outer i s → ds ≡ s.declarations.items ++ d ∷ [] → IsEntryIn w outer ds s.types
entry_added w c outer i s ds d states h is j reads =
    let last : declared w outer i (before d End) ≡ Some j =
    sym (ap (λ (l : List Declaration). declared w outer nothing_inside (declarations_of l)) is
    ∙ all_then w outer nothing_inside s.declarations.items (d ∷ [])
    ∙ ap (λ (o : Option Inside). o >>= λ x. declared w outer x (before d End)) h.reads) ∙ reads in
    let t = states w outer i j last in
    (t.0, ap (λ (x : Inside). slice_get x.here.types s.types) (sym t.1) ∙ get_last i.here.types (Known t.0) s.types h.types)

-- ---- a new scope, and what it remembers

pub scope_empty : (w : Worlds) (c : Collection) (outer : List Scope) (s : TypeScope) → s.declarations.items ≡ [] → s.types ≡ 0 → AreKnown w (no_scope ∷ outer) c s.known → s.resources ≡ [] → IsScope w c outer nothing_inside s
unfolding declared
scope_empty w c outer s d t k r = record {
  reads = ap (λ (l : List Declaration). declared w outer nothing_inside (declarations_of l)) d;
  types = t;
  known = k;
  resources = λ n k a. let none : value_at [] n ≡ Some k = subst (λ (l : List (Name × ℕ)). value_at l n ≡ Some k) r a in absurd (cc none);
}

further : {X : Type 0} (xs : List X) (x y z : X) → Among y xs ⊎ (y ≡ x) → Among y (z ∷ xs) ⊎ (y ≡ x)
further xs x y z (inl b) = inl (inr b)
further xs x y z (inr e) = inr e

pub scope_remembers : (w : Worlds) (c : Collection) (outer : List Scope) (i : Inside) (s u : TypeScope) (k : KnownType) → IsScope w c outer i s → IsKnown w (i.here ∷ outer) c k
    → u.declarations.items ≡ s.declarations.items → u.types ≡ s.types → u.known.all.items ≡ s.known.all.items ++ k ∷ [] → ArePlaces c u.known → u.known.resources ≡ s.known.resources → u.resources ≡ s.resources → IsScope w c outer i u
scope_remembers w c outer i s u k h true_of d t ks places es rs = record {
  reads = ap (λ (l : List Declaration). declared w outer nothing_inside (declarations_of l)) d ∙ h.reads;
  types = t ∙ h.types;
  known = record {
    each = λ x a. by x (Among-last s.known.all.items k x (subst (λ (l : List KnownType). Among x l) ks a));
    places = places;
    resources = λ r n e. h.known.resources r n (ap (λ m. lookup (eq-value.it r) m.entries) (sym es) ∙ e);
  };
  resources = λ n k a. h.resources n k (subst (λ (l : List (Name × ℕ)). value_at l n ≡ Some k) rs a);
}
  where
    by : (x : KnownType) → Among x s.known.all.items ⊎ (x ≡ k) → IsKnown w (i.here ∷ outer) c x
    by x (inl a) = h.known.each x a
    by x (inr e) = subst (λ (y : KnownType). IsKnown w (i.here ∷ outer) c y) (sym e) true_of

-- one more is known
pub known_put : (w : Worlds) (c : Collection) (ss : List Scope) (s u : KnownTypes) (k : KnownType) → AreKnown w ss c s → IsKnown w ss c k → u.all.items ≡ s.all.items ++ k ∷ [] → ArePlaces c u → u.resources ≡ s.resources → AreKnown w ss c u
known_put w c ss s u k h true_of items places rs = record {
  each = λ x a. by x (Among-last s.all.items k x (subst (λ (l : List KnownType). Among x l) items a));
  places = places;
  resources = λ r j e. h.resources r j (ap (λ m. lookup (eq-value.it r) m.entries) (sym rs) ∙ e);
}
  where
    by : (x : KnownType) → Among x s.all.items ⊎ (x ≡ k) → IsKnown w ss c x
    by x (inl a) = h.each x a
    by x (inr e) = subst (λ (y : KnownType). IsKnown w ss c y) (sym e) true_of

-- what is known of one id is known of an equal one
pub known_same : (w : Worlds) (c : Collection) (ss : List Scope) (k : KnownType) (v : ValueType) → IsKnown w ss c k → k.ty ≡ v → value_of w ss (Index k.index) ≡ Some (tree_in c (ItemKind.Value v))
known_same w c ss k v h same = h.reads ∙ ap (λ (x : ValueType). Some (tree_in c (ItemKind.Value x))) same

-- a scope of another collection, of which these types are known
pub scope_exchanged : (s : TypeScope) (ks here there : KnownTypes) → here ≡ ks → there ≡ s.known → Exchanges s ks (record s { known = here }) there
scope_exchanged s ks here there e f w c d outer i h a = (
  record { reads = h.reads; types = h.types; known = subst (λ (ls : KnownTypes). AreKnown w (i.here ∷ outer) d ls) (sym e) a; resources = h.resources },
  subst (λ (ls : KnownTypes). AreKnown w (i.here ∷ outer) c ls) (sym f) h.known,
)

-- a scope of which these types are known
pub scope_known : (w : Worlds) (c : Collection) (outer : List Scope) (i : Inside) (s : TypeScope) (ks : KnownTypes) → IsScope w c outer i s → AreKnown w (i.here ∷ outer) c ks → IsScope w c outer i (record s { known = ks })
scope_known w c outer i s ks h a = record { reads = h.reads; types = h.types; known = a; resources = h.resources }

-- ---- one more declaration of any kind

pub scope_at : (w : Worlds) (c : Collection) (outer : List Scope) (i j : Inside) (s u : TypeScope) (d : Declaration) → IsScope w c outer i s → declared w outer i (before d End) ≡ Some j → Extends i.here j.here
    → u.declarations.items ≡ s.declarations.items ++ d ∷ [] → u.types ≡ length j.here.types → u.known ≡ s.known → u.resources ≡ s.resources → IsScope w c outer j u
scope_at w c outer i j s u d h one x ds ts ks rs = record {
  reads = ap (λ (l : List Declaration). declared w outer nothing_inside (declarations_of l)) ds ∙ one_more w outer nothing_inside i j s.declarations.items d h.reads one;
  types = ts;
  known = subst (λ (k : KnownTypes). AreKnown w (j.here ∷ outer) c k) (sym ks) (all_known_kept w c i.here j.here outer s.known x h.known);
  resources = λ n k a. resource_kept w i.here j.here outer n k x (h.resources n k (subst (λ (l : List (Name × ℕ)). value_at l n ≡ Some k) rs a));
}

abbrev Either : {T : Type 0} → List (Name × T) → Name → Name → T → T → Type 0
Either es n m v k = (value_at es m ≡ Some k) ⊎ ((m ≡ n) × (k ≡ v))

put_in_none : {T : Type 0} (n m : Name) (v k : T) (t : Bool) → pointwise ◌==◌ m n ≡ t → (if t then Some v else None) ≡ Some k → Either [] n m v k
put_in_none n m v k true q e = inr ((bytes_eq-Decides m n).0 q, sym (cc e))
put_in_none n m v k false q e = absurd (cc e)

put_in_more : {T : Type 0} (x : Name × T) (es : List (Name × T)) (n m : Name) (v k : T) (b t : Bool) → pointwise ◌==◌ n x.0 ≡ b → pointwise ◌==◌ m x.0 ≡ t
    → (value_at (put_entry es n v) m ≡ Some k → Either es n m v k) → (if t then Some (if b then v else x.1) else value_at (if b then es else put_entry es n v) m) ≡ Some k
    → Either (x ∷ es) n m v k
put_in_more x es n m v k true true p q f e = inr ((bytes_eq-Decides m x.0).0 q ∙ sym ((bytes_eq-Decides n x.0).0 p), sym (cc e))
put_in_more x es n m v k true false p q f e = inl (subst (λ (z : Bool). (if z then Some x.1 else value_at es m) ≡ Some k) (sym q) e)
put_in_more x es n m v k false true p q f e = inl (subst (λ (z : Bool). (if z then Some x.1 else value_at es m) ≡ Some k) (sym q) e)
put_in_more x es n m v k false false p q f e = elim (f e) [ inl a ↦ inl (subst (λ (z : Bool). (if z then Some x.1 else value_at es m) ≡ Some k) (sym q) a) | inr b ↦ inr b ]

put_value : {T : Type 0} (x : Name × T) (es : List (Name × T)) (n m : Name) (v : T) (b : Bool) → value_at (if b then (x.0, v) ∷ es else x ∷ put_entry es n v) m ≡ (if pointwise ◌==◌ m x.0 then Some (if b then v else x.1) else value_at (if b then es else put_entry es n v) m)
put_value x es n m v true = refl
put_value x es n m v false = refl

-- what is under a name was there, or is what was put there
put_either : {T : Type 0} (es : List (Name × T)) (n m : Name) (v k : T) → value_at (put_entry es n v) m ≡ Some k → Either es n m v k
put_either [] n m v k e = put_in_none n m v k (pointwise ◌==◌ m n) refl e
put_either (x ∷ es) n m v k e = put_in_more x es n m v k (pointwise ◌==◌ n x.0) (pointwise ◌==◌ m x.0) refl refl (put_either es n m v k) (sym (put_value x es n m v (pointwise ◌==◌ n x.0)) ∙ e)

-- the name has an index, beside the others
pub scope_has_resource : (w : Worlds) (c : Collection) (outer : List Scope) (i : Inside) (s u : TypeScope) (n : Name) (k : ℕ) → IsScope w c outer i s → IsResource w (i.here ∷ outer) n k
    → u.declarations.items ≡ s.declarations.items → u.types ≡ s.types → u.known ≡ s.known → u.resources ≡ put_entry s.resources n k → IsScope w c outer i u
scope_has_resource w c outer i s u n k h r ds t ks rs = record {
  reads = ap (λ (l : List Declaration). declared w outer nothing_inside (declarations_of l)) ds ∙ h.reads;
  types = t ∙ h.types;
  known = subst (λ (k : KnownTypes). AreKnown w (i.here ∷ outer) c k) (sym ks) h.known;
  resources = λ m j a. elim (put_either s.resources n m k j (subst (λ (l : List (Name × ℕ)). value_at l m ≡ Some j) rs a)) [
    | inl e ↦ h.resources m j e
    | inr p ↦ record { reads = ap (type_at w (i.here ∷ outer)) p.1 ∙ r.reads ∙ ap (λ (x : Name). Some (rigid (resource x) end)) (sym p.0) }
  ];
}
