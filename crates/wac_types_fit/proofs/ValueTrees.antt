-- When two values, functions or resources have one tree.
use Rattle.std.proofs.lemmas.Bool.{and_parts}
use Rattle.std.proofs.Common.{◌≡◌, ℕ, zero, suc, ◌<◌, ◌≤◌, List, [], ◌∷◌, ◌++◌, map, length, Option, Some, None, Bool, true, false, refl, sym, ap, subst, ◌∙◌, IsTrue, ◌↔◌, arith}
use Rattle.std.specs.Prelude.{◌==◌, slice_get, String, string_bytes, is_some, not}
use mathlib.Core.Bool.{beq}
use Rattle.std.specs.Option.{option_map}
use Rattle.std.specs.Cmp.Lexicographic.{pointwise}
use Rattle.std.proofs.lemmas.Slice.Eq.{bytes_eq-Decides}
use Rattle.wac_types_base.specs.declared.item.PrimitiveType.{PrimitiveType}
use Rattle.wac_types_base.specs.declared.item.ValueType.{ValueType}
use Rattle.wac_types_base.specs.declared.item.«Type».{«Type» as TypeKind}
use Rattle.wac_types_base.specs.declared.item.ItemKind.{ItemKind}
use Rattle.wac_types_base.specs.declared.defined.DefinedType.{DefinedType}
use Rattle.wac_types_base.specs.declared.defined.Resource.{Resource}
use Rattle.wac_types_base.specs.declared.defined.FuncType.{FuncType}
use Rattle.wac_types_base.specs.declared.ids.DefinedTypeId.{DefinedTypeId}
use Rattle.wac_types_base.specs.declared.ids.ResourceId.{ResourceId}
use Rattle.wac_types_base.specs.declared.ids.FuncTypeId.{FuncTypeId}
use Rattle.wac_types_base.specs.Record.{Collection}
use Rattle.wac_types_base.specs.Entries.{Name, names_of, values_of, texts_of}
use Rattle.wac_types_base.specs.Collection.{Shape, Slot, Stands, IsAcyclic, item_node, size_of, slots_of, value_slot, option_slot, defined_entry, func_entry, primitive, tuple, list, fixed_size_list, option, result, alias, stream, future, func, resource, StandsIf}
use Rattle.wac_types_base.specs.Tree.{Tree, Row, rigid, handle_own, handle_borrow, end, place, gap, tree}
use Rattle.wac_types_base.specs.Stated.{stated_of}
use Rattle.wac_types_base.specs.Resolving.{IsNoAlias}
use Rattle.wac_types_base.proofs.Walking.{child_smaller}
use Rattle.wac_types_base.proofs.Standing.{defined_found}
use Rattle.wac_types_base.proofs.Slots.{slots_func, slots_defined}
use Rattle.wac_types_base.proofs.Telling.{value_places, entry_size}
use Rattle.wac_types_base.proofs.GraphLemmas.{value_of}
use Rattle.wac_types_base.proofs.Lists.{none_test}
use Rattle.std.proofs.lemmas.Option.{slice_get-map}
use Rattle.wac_types_fit.specs.Trees.{tree_in, SameTree}
use Rattle.wac_types_fit.specs.Checking.{value_in, HoldsValues, value_tree, place_trees}
use Rattle.wac_types_fit.proofs.Unfolded.{row_in, primitive_tree, own_tree, borrow_tree, defined_tree, defined_rigid, root_tree, func_tree}

-- ---- names

abbrev same_text : {Z : Type 0} → String Z → String Z → Bool
same_text a b = pointwise ◌==◌ (string_bytes a) (string_bytes b)

names_yes : {Z : Type 0} (xs ys : List (String Z)) → pointwise same_text xs ys ≡ true → texts_of xs ≡ texts_of ys
names_yes [] [] e = refl
names_yes [] (y ∷ ys) e = absurd (cc e)
names_yes (x ∷ xs) [] e = absurd (cc e)
names_yes (x ∷ xs) (y ∷ ys) e =
    let h = and_parts (same_text x y) (pointwise same_text xs ys) e in
    let first = (bytes_eq-Decides (string_bytes x) (string_bytes y)).0 h.0 in
    let rest = names_yes xs ys h.1 in
    λ i. first i ∷ rest i

names_no : {Z : Type 0} (xs ys : List (String Z)) → texts_of xs ≡ texts_of ys → pointwise same_text xs ys ≡ true
names_no [] [] e = refl
names_no [] (y ∷ ys) e = absurd (cc e)
names_no (x ∷ xs) [] e = absurd (cc e)
names_no (x ∷ xs) (y ∷ ys) e =
    let first : string_bytes x ≡ string_bytes y = cc e in
    let rest : texts_of xs ≡ texts_of ys = cc e in
    rw ((bytes_eq-Decides (string_bytes x) (string_bytes y)).1 first, names_no xs ys rest) refl

-- texts are equal where their bytes are
pub names_decided : {Z : Type 0} (xs ys : List (String Z)) (b : Bool) → b ≡ pointwise same_text xs ys → IsTrue b ↔ (texts_of xs ≡ texts_of ys)
names_decided xs ys b e = (λ t. names_yes xs ys (sym e ∙ t), λ h. e ∙ names_no xs ys h)

-- ---- labels of defined types

pub decided_no : (P : Type 0) → (P → ⊥) → (IsTrue false ↔ P)
decided_no P h = (λ e. absurd (cc e), λ p. absurd (h p))

pub decided_yes : (P : Type 0) → P → (IsTrue true ↔ P)
decided_yes P p = (λ e. p, λ q. refl)

pub decided_false : (P : Type 0) (b : Bool) → b ≡ false → (P → ⊥) → (IsTrue b ↔ P)
decided_false P true e h = absurd (cc e)
decided_false P false e h = decided_no P h

abbrev pub label_of : DefinedType → Shape
label_of x = (defined_entry x).0

other_tuple : (y : DefinedType) → ((t : _) → y ≡ DefinedType.Tuple t → ⊥) → label_of y ≡ tuple → ⊥
other_tuple (DefinedType.Tuple t) h e = h t refl
other_tuple y h e = absurd (cc e)

other_list : (y : DefinedType) → ((t : ValueType) → y ≡ DefinedType.List t → ⊥) → label_of y ≡ list → ⊥
other_list (DefinedType.List t) h e = h t refl
other_list y h e = absurd (cc e)

other_fixed : (y : DefinedType) (n : ℕ) → ((t : ValueType) (m : ℕ) → y ≡ DefinedType.FixedSizeList t m → ⊥) → label_of y ≡ fixed_size_list n → ⊥
other_fixed (DefinedType.FixedSizeList t m) n h e = h t m refl
other_fixed y n h e = absurd (cc e)

other_option : (y : DefinedType) → ((t : ValueType) → y ≡ DefinedType.Option t → ⊥) → label_of y ≡ option → ⊥
other_option (DefinedType.Option t) h e = h t refl
other_option y h e = absurd (cc e)

other_result : (y : DefinedType) → ((o e : Option ValueType) → y ≡ DefinedType.Result o e → ⊥) → label_of y ≡ result → ⊥
other_result (DefinedType.Result o r) h e = h o r refl
other_result y h e = absurd (cc e)

other_alias : (y : DefinedType) → ((t : ValueType) → y ≡ DefinedType.Alias t → ⊥) → label_of y ≡ alias → ⊥
other_alias (DefinedType.Alias t) h e = h t refl
other_alias y h e = absurd (cc e)

other_stream : (y : DefinedType) → ((t : Option ValueType) → y ≡ DefinedType.Stream t → ⊥) → label_of y ≡ stream → ⊥
other_stream (DefinedType.Stream t) h e = h t refl
other_stream y h e = absurd (cc e)

other_future : (y : DefinedType) → ((t : Option ValueType) → y ≡ DefinedType.Future t → ⊥) → label_of y ≡ future → ⊥
other_future (DefinedType.Future t) h e = h t refl
other_future y h e = absurd (cc e)

-- ---- rows of trees

abbrev pub row_of : List (Option Tree) → Row
row_of [] = end
row_of (None ∷ ts) = gap (row_of ts)
row_of (Some t ∷ ts) = place t (row_of ts)

abbrev list_of : Row → List (Option Tree)
list_of end = []
list_of (gap r) = None ∷ list_of r
list_of (place t r) = Some t ∷ list_of r

list_again : (ts : List (Option Tree)) → list_of (row_of ts) ≡ ts
list_again [] = refl
list_again (None ∷ ts) = ap (λ l. None ∷ l) (list_again ts)
list_again (Some t ∷ ts) = ap (λ l. Some t ∷ l) (list_again ts)

row_is : (c : Collection) (xs : List Slot) → row_in c xs ≡ row_of (map (option_map (tree_in c)) xs)
unfolding tree_in
row_is c [] = refl
row_is c (None ∷ xs) = ap gap (row_is c xs)
row_is c (Some k ∷ xs) = ap (place (tree (stated_of c k))) (row_is c xs)

-- two rows are equal where the trees in the places are
pub rows_same : (c d : Collection) (j k : ItemKind) (xs ys : List Slot) → slots_of c j ≡ xs → slots_of d k ≡ ys → place_trees c j ≡ place_trees d k → row_in c xs ≡ row_in d ys
rows_same c d j k xs ys e f h =
    row_is c xs ∙ ap (λ l. row_of (map (option_map (tree_in c)) l)) (sym e) ∙ ap row_of h ∙ ap (λ l. row_of (map (option_map (tree_in d)) l)) f ∙ sym (row_is d ys)

pub same_rows : (c d : Collection) (j k : ItemKind) (xs ys : List Slot) → slots_of c j ≡ xs → slots_of d k ≡ ys → row_in c xs ≡ row_in d ys → place_trees c j ≡ place_trees d k
same_rows c d j k xs ys e f h =
    ap (map (option_map (tree_in c))) e ∙ sym (list_again (map (option_map (tree_in c)) xs))
    ∙ ap list_of (sym (row_is c xs) ∙ h ∙ row_is d ys)
    ∙ list_again (map (option_map (tree_in d)) ys) ∙ ap (map (option_map (tree_in d))) (sym f)

-- ---- places of values

mapped_values : {X : Type 0} (f : X → Slot) → ((x : X) → f x ≡ option_slot (value_in (f x))) → (xs : List X) (i : ℕ) (s : Slot) → slice_get (map f xs) i ≡ Some s → s ≡ option_slot (value_in s)
mapped_values f h [] i s e = absurd (cc e)
mapped_values f h (x ∷ xs) zero s e = let is : f x ≡ s = cc e in subst (λ z. z ≡ option_slot (value_in z)) is (h x)
mapped_values f h (x ∷ xs) (suc i) s e = mapped_values f h xs i s e

option_values : (o : Option ValueType) → option_slot o ≡ option_slot (value_in (option_slot o))
option_values None = refl
option_values (Some v) = refl

func_values : (xs : List ValueType) (o : Option ValueType) (i : ℕ) (s : Slot) → slice_get (map value_slot xs ++ option_slot o ∷ []) i ≡ Some s → s ≡ option_slot (value_in s)
func_values [] o zero s e = let is : option_slot o ≡ s = cc e in subst (λ z. z ≡ option_slot (value_in z)) is (option_values o)
func_values [] o (suc i) s e = absurd (cc e)
func_values (x ∷ xs) o zero s e = let is : value_slot x ≡ s = cc e in subst (λ z. z ≡ option_slot (value_in z)) is refl
func_values (x ∷ xs) o (suc i) s e = func_values xs o i s e

pub func_holds : (c : Collection) (f : FuncTypeId) (x : FuncType) → slice_get c.func_types f.index ≡ Some x → f.collection ≡ c.number → HoldsValues c (ItemKind.Func f)
func_holds c f x at own i s e = func_values (values_of x.params) x.result i s (subst (λ l. slice_get l i ≡ Some s) (slots_func c f x at own) e)

defined_values : (x : DefinedType) (i : ℕ) (s : Slot) → slice_get (defined_entry x).1 i ≡ Some s → s ≡ option_slot (value_in s)
defined_values x i None e = refl
defined_values x i (Some k) e = let v = value_places x i k e in subst (λ j. Some j ≡ option_slot (value_in (Some j))) (sym v.1) refl

pub defined_holds : (c : Collection) (v : ValueType) (d : DefinedTypeId) (x : DefinedType) → v ≡ ValueType.Defined d → slice_get c.defined_types d.index ≡ Some x → d.collection ≡ c.number → HoldsValues c (ItemKind.Value v)
defined_holds c v d x is at own i s e =
    defined_values x i s (subst (λ l. slice_get l i ≡ Some s) (ap (λ w. slots_of c (ItemKind.Value w)) is ∙ slots_defined c d x at own) e)

-- how large what is in a place is
abbrev pub place_size : Collection → Option ValueType → ℕ
place_size c None = 0
place_size c (Some v) = size_of c (ItemKind.Value v)

positive : (c : Collection) → IsAcyclic c → (k : ItemKind) → Stands c k → 0 < size_of c k
positive c acyclic k stands =
    let v = value_of (item_node c k) stands in
    let e = entry_size c acyclic k v.0 v.1 in
    omega (arith, e)

inside_by : (c : Collection) → IsAcyclic c → (k : ItemKind) → Stands c k → (i : ℕ) (s : Slot) → slice_get (slots_of c k) i ≡ Some s → (o : Option ValueType) → s ≡ option_slot o → StandsIf c o × (place_size c o < size_of c k)
inside_by c acyclic k stands i s at None e = (tt, positive c acyclic k stands)
inside_by c acyclic k stands i s at (Some v) e = child_smaller c acyclic k stands i (ItemKind.Value v) (at ∙ ap Some e)

-- what is in a place stands, and is smaller
pub place_inside : (c : Collection) → IsAcyclic c → (k : ItemKind) → Stands c k → HoldsValues c k → (i : ℕ) (s : Slot) → slice_get (slots_of c k) i ≡ Some s → StandsIf c (value_in s) × (place_size c (value_in s) < size_of c k)
place_inside c acyclic k stands holds i s at = inside_by c acyclic k stands i s at (value_in s) (holds i s at)

-- the tree in a place
pub place_tree : (c : Collection) (k : ItemKind) → HoldsValues c k → (i : ℕ) (s : Slot) → slice_get (slots_of c k) i ≡ Some s → slice_get (place_trees c k) i ≡ Some (value_tree c (value_in s))
place_tree c k holds i s at = slice_get-map (option_map (tree_in c)) (slots_of c k) i ∙ ap (option_map (option_map (tree_in c))) (at ∙ ap Some (holds i s at))

pub no_place_tree : (c : Collection) (k : ItemKind) (i : ℕ) → slice_get (slots_of c k) i ≡ None → slice_get (place_trees c k) i ≡ None
no_place_tree c k i at = slice_get-map (option_map (tree_in c)) (slots_of c k) i ∙ ap (option_map (option_map (tree_in c))) at

-- lists that agree up to the end of both
pub same_to_end : {X : Type 0} (xs ys : List X) (n : ℕ) → slice_get xs n ≡ None → slice_get ys n ≡ None → ((i : ℕ) → i < n → slice_get xs i ≡ slice_get ys i) → xs ≡ ys
same_to_end [] [] n e f h = refl
same_to_end [] (y ∷ ys) zero e f h = absurd (cc f)
same_to_end [] (y ∷ ys) (suc n) e f h = let first = h 0 (omega arith) in absurd (cc first)
same_to_end (x ∷ xs) [] zero e f h = absurd (cc e)
same_to_end (x ∷ xs) [] (suc n) e f h = let first = h 0 (omega arith) in absurd (cc first)
same_to_end (x ∷ xs) (y ∷ ys) zero e f h = absurd (cc e)
same_to_end (x ∷ xs) (y ∷ ys) (suc n) e f h =
    let first : x ≡ y = cc (h 0 (omega arith)) in
    let rest = same_to_end xs ys n e f (λ i lt. h (suc i) (omega arith)) in
    λ i. first i ∷ rest i

-- ---- values that are no aliases

module _ (c : Collection) (acyclic : IsAcyclic c) (v : ValueType) (n : IsNoAlias c v) (d : DefinedTypeId) (x : DefinedType) (is : v ≡ ValueType.Defined d) (at : slice_get c.defined_types d.index ≡ Some x) (own : d.collection ≡ c.number) where
  pub defined_is : tree_in c (ItemKind.Value v) ≡ rigid (label_of x) (row_in c (defined_entry x).1)
  defined_is = ap (λ w. tree_in c (ItemKind.Value w)) is ∙ defined_tree c acyclic d x at own ∙ defined_rigid x (row_in c (defined_entry x).1) (λ t e. n d t is (at ∙ ap Some e))

  pub defined_slots : slots_of c (ItemKind.Value v) ≡ (defined_entry x).1
  defined_slots = ap (λ w. slots_of c (ItemKind.Value w)) is ∙ slots_defined c d x at own

abbrev value_sort : Tree → ℕ
value_sort (rigid (primitive p) r) = 0
value_sort (handle_own t) = 1
value_sort (handle_borrow t) = 2
value_sort t = 3

abbrev head_of : ValueType → ℕ
head_of (ValueType.Primitive p) = 0
head_of (ValueType.Own r) = 1
head_of (ValueType.Borrow r) = 2
head_of (ValueType.Defined d) = 3

sort_defined : (x : DefinedType) (r : Row) → value_sort (rigid (label_of x) r) ≡ 3
sort_defined (DefinedType.Tuple ts) r = refl
sort_defined (DefinedType.List t) r = refl
sort_defined (DefinedType.FixedSizeList t n) r = refl
sort_defined (DefinedType.Option t) r = refl
sort_defined (DefinedType.Result ok err) r = refl
sort_defined (DefinedType.Variant v) r = refl
sort_defined (DefinedType.Record v) r = refl
sort_defined (DefinedType.Flags f) r = refl
sort_defined (DefinedType.Enum e) r = refl
sort_defined (DefinedType.Alias t) r = refl
sort_defined (DefinedType.Stream o) r = refl
sort_defined (DefinedType.Future o) r = refl

head_is : (c : Collection) → IsAcyclic c → (v : ValueType) → Stands c (ItemKind.Value v) → IsNoAlias c v → value_sort (tree_in c (ItemKind.Value v)) ≡ head_of v
head_is c a (ValueType.Primitive p) s n = ap value_sort (primitive_tree c a p)
head_is c a (ValueType.Own r) s n = ap value_sort (own_tree c a r s)
head_is c a (ValueType.Borrow r) s n = ap value_sort (borrow_tree c a r s)
head_is c a (ValueType.Defined d) s n =
    let f = defined_found c d s in
    ap value_sort (defined_is c a (ValueType.Defined d) n d f.value refl f.at f.own) ∙ sort_defined f.value (row_in c (defined_entry f.value).1)

not_primitive : (w : ValueType) → ((p : PrimitiveType) → w ≡ ValueType.Primitive p → ⊥) → head_of w ≡ 0 → ⊥
not_primitive (ValueType.Primitive p) h e = h p refl
not_primitive w h e = absurd (cc e)

not_own : (w : ValueType) → ((r : ResourceId) → w ≡ ValueType.Own r → ⊥) → head_of w ≡ 1 → ⊥
not_own (ValueType.Own p) h e = h p refl
not_own w h e = absurd (cc e)

not_borrow : (w : ValueType) → ((r : ResourceId) → w ≡ ValueType.Borrow r → ⊥) → head_of w ≡ 2 → ⊥
not_borrow (ValueType.Borrow p) h e = h p refl
not_borrow w h e = absurd (cc e)

not_defined : (w : ValueType) → ((d : DefinedTypeId) → w ≡ ValueType.Defined d → ⊥) → head_of w ≡ 3 → ⊥
not_defined (ValueType.Defined p) h e = h p refl
not_defined w h e = absurd (cc e)

module _ (c d : Collection) (a : IsAcyclic c) (b : IsAcyclic d) (v w : ValueType) (s : Stands c (ItemKind.Value v)) (r : Stands d (ItemKind.Value w)) (m : IsNoAlias c v) (n : IsNoAlias d w) where
  apart : (head_of v ≡ head_of w → ⊥) → IsTrue false ↔ SameTree c (ItemKind.Value v) d (ItemKind.Value w)
  apart h = decided_no (SameTree c (ItemKind.Value v) d (ItemKind.Value w)) (λ e. h (sym (head_is c a v s m) ∙ ap value_sort e ∙ head_is d b w r n))

  pub other_primitive : (p : PrimitiveType) → v ≡ ValueType.Primitive p → ((q : PrimitiveType) → w ≡ ValueType.Primitive q → ⊥) → IsTrue false ↔ SameTree c (ItemKind.Value v) d (ItemKind.Value w)
  other_primitive p is h = apart (λ e. not_primitive w h (sym e ∙ ap head_of is))

  pub other_own : (p : ResourceId) → v ≡ ValueType.Own p → ((q : ResourceId) → w ≡ ValueType.Own q → ⊥) → IsTrue false ↔ SameTree c (ItemKind.Value v) d (ItemKind.Value w)
  other_own p is h = apart (λ e. not_own w h (sym e ∙ ap head_of is))

  pub other_borrow : (p : ResourceId) → v ≡ ValueType.Borrow p → ((q : ResourceId) → w ≡ ValueType.Borrow q → ⊥) → IsTrue false ↔ SameTree c (ItemKind.Value v) d (ItemKind.Value w)
  other_borrow p is h = apart (λ e. not_borrow w h (sym e ∙ ap head_of is))

  pub other_defined : (p : DefinedTypeId) → v ≡ ValueType.Defined p → ((q : DefinedTypeId) → w ≡ ValueType.Defined q → ⊥) → IsTrue false ↔ SameTree c (ItemKind.Value v) d (ItemKind.Value w)
  other_defined p is h = apart (λ e. not_defined w h (sym e ∙ ap head_of is))

  pub primitives_same : (p q : PrimitiveType) (t : Bool) → v ≡ ValueType.Primitive p → w ≡ ValueType.Primitive q → (IsTrue t ↔ (ItemKind.Value v ≡ ItemKind.Value w)) → IsTrue t ↔ SameTree c (ItemKind.Value v) d (ItemKind.Value w)
  primitives_same p q t e f h =
      let x = ap (λ z. tree_in c (ItemKind.Value z)) e ∙ primitive_tree c a p in
      let y = ap (λ z. tree_in d (ItemKind.Value z)) f ∙ primitive_tree d b q in (
        λ k. let i = h.0 k in let same : p ≡ q = cc (e, f, i) in x ∙ ap (λ z. rigid (primitive z) end) same ∙ sym y,
        λ z. let same : rigid (primitive p) end ≡ rigid (primitive q) end = sym x ∙ z ∙ y in let k : p ≡ q = cc same in h.1 (ap ItemKind.Value (e ∙ ap ValueType.Primitive k ∙ sym f)),
      )

  pub owns_same : (p q : ResourceId) (t : Bool) → v ≡ ValueType.Own p → w ≡ ValueType.Own q → (IsTrue t ↔ SameTree c (ItemKind.Ty (TypeKind.Resource p)) d (ItemKind.Ty (TypeKind.Resource q))) → IsTrue t ↔ SameTree c (ItemKind.Value v) d (ItemKind.Value w)
  owns_same p q t e f h =
      let x = ap (λ z. tree_in c (ItemKind.Value z)) e ∙ own_tree c a p (subst (λ z. Stands c (ItemKind.Value z)) e s) in
      let y = ap (λ z. tree_in d (ItemKind.Value z)) f ∙ own_tree d b q (subst (λ z. Stands d (ItemKind.Value z)) f r) in (
        λ k. x ∙ ap handle_own (h.0 k) ∙ sym y,
        λ z. let same : handle_own (tree_in c (ItemKind.Ty (TypeKind.Resource p))) ≡ handle_own (tree_in d (ItemKind.Ty (TypeKind.Resource q))) = sym x ∙ z ∙ y in h.1 (cc same),
      )

  pub borrows_same : (p q : ResourceId) (t : Bool) → v ≡ ValueType.Borrow p → w ≡ ValueType.Borrow q → (IsTrue t ↔ SameTree c (ItemKind.Ty (TypeKind.Resource p)) d (ItemKind.Ty (TypeKind.Resource q))) → IsTrue t ↔ SameTree c (ItemKind.Value v) d (ItemKind.Value w)
  borrows_same p q t e f h =
      let x = ap (λ z. tree_in c (ItemKind.Value z)) e ∙ borrow_tree c a p (subst (λ z. Stands c (ItemKind.Value z)) e s) in
      let y = ap (λ z. tree_in d (ItemKind.Value z)) f ∙ borrow_tree d b q (subst (λ z. Stands d (ItemKind.Value z)) f r) in (
        λ k. x ∙ ap handle_borrow (h.0 k) ∙ sym y,
        λ z. let same : handle_borrow (tree_in c (ItemKind.Ty (TypeKind.Resource p))) ≡ handle_borrow (tree_in d (ItemKind.Ty (TypeKind.Resource q))) = sym x ∙ z ∙ y in h.1 (cc same),
      )

  module _ (p q : DefinedTypeId) (x y : DefinedType) (e : v ≡ ValueType.Defined p) (f : w ≡ ValueType.Defined q) (at : slice_get c.defined_types p.index ≡ Some x) (own : p.collection ≡ c.number) (bt : slice_get d.defined_types q.index ≡ Some y) (bown : q.collection ≡ d.number) where
    trees_parts : SameTree c (ItemKind.Value v) d (ItemKind.Value w) → rigid (label_of x) (row_in c (defined_entry x).1) ≡ rigid (label_of y) (row_in d (defined_entry y).1)
    trees_parts z = sym (defined_is c a v m p x e at own) ∙ z ∙ defined_is d b w n q y f bt bown

    pub labels_of : SameTree c (ItemKind.Value v) d (ItemKind.Value w) → label_of x ≡ label_of y
    labels_of z = cc (trees_parts z)

    pub places_of : SameTree c (ItemKind.Value v) d (ItemKind.Value w) → place_trees c (ItemKind.Value v) ≡ place_trees d (ItemKind.Value w)
    places_of z =
        let rows : row_in c (defined_entry x).1 ≡ row_in d (defined_entry y).1 = cc (trees_parts z) in
        same_rows c d (ItemKind.Value v) (ItemKind.Value w) (defined_entry x).1 (defined_entry y).1 (defined_slots c a v m p x e at own) (defined_slots d b w n q y f bt bown) rows

    pub defined_same : label_of x ≡ label_of y → place_trees c (ItemKind.Value v) ≡ place_trees d (ItemKind.Value w) → SameTree c (ItemKind.Value v) d (ItemKind.Value w)
    defined_same l h =
        let rows = rows_same c d (ItemKind.Value v) (ItemKind.Value w) (defined_entry x).1 (defined_entry y).1 (defined_slots c a v m p x e at own) (defined_slots d b w n q y f bt bown) h in
        defined_is c a v m p x e at own ∙ ap (λ z. rigid z (row_in c (defined_entry x).1)) l ∙ ap (rigid (label_of y)) rows ∙ sym (defined_is d b w n q y f bt bown)

    pub defined_decided : (t : Bool) → label_of x ≡ label_of y → (IsTrue t ↔ (place_trees c (ItemKind.Value (ValueType.Defined p)) ≡ place_trees d (ItemKind.Value (ValueType.Defined q)))) → IsTrue t ↔ SameTree c (ItemKind.Value v) d (ItemKind.Value w)
    defined_decided t l h =
        let g : place_trees c (ItemKind.Value v) ≡ place_trees c (ItemKind.Value (ValueType.Defined p)) = ap (λ z. place_trees c (ItemKind.Value z)) e in
        let k : place_trees d (ItemKind.Value w) ≡ place_trees d (ItemKind.Value (ValueType.Defined q)) = ap (λ z. place_trees d (ItemKind.Value z)) f in
        (λ i. defined_same l (g ∙ h.0 i ∙ sym k), λ z. h.1 (sym g ∙ places_of z ∙ k))

-- ---- functions

module _ (c d : Collection) (a : IsAcyclic c) (b : IsAcyclic d) (i j : FuncTypeId) (x y : FuncType) (at : slice_get c.func_types i.index ≡ Some x) (own : i.collection ≡ c.number) (bt : slice_get d.func_types j.index ≡ Some y) (bown : j.collection ≡ d.number) where
  func_parts : SameTree c (ItemKind.Func i) d (ItemKind.Func j) → rigid (func (names_of x.params) x.is_async) (row_in c (func_entry x).1) ≡ rigid (func (names_of y.params) y.is_async) (row_in d (func_entry y).1)
  func_parts z = sym (func_tree c a i x at own) ∙ z ∙ func_tree d b j y bt bown

  pub func_names : SameTree c (ItemKind.Func i) d (ItemKind.Func j) → names_of x.params ≡ names_of y.params
  func_names z = cc (func_parts z)

  pub func_async : SameTree c (ItemKind.Func i) d (ItemKind.Func j) → x.is_async ≡ y.is_async
  func_async z = cc (func_parts z)

  pub func_places : SameTree c (ItemKind.Func i) d (ItemKind.Func j) → place_trees c (ItemKind.Func i) ≡ place_trees d (ItemKind.Func j)
  func_places z =
      let rows : row_in c (func_entry x).1 ≡ row_in d (func_entry y).1 = cc (func_parts z) in
      same_rows c d (ItemKind.Func i) (ItemKind.Func j) (func_entry x).1 (func_entry y).1 (slots_func c i x at own) (slots_func d j y bt bown) rows

  pub func_same : names_of x.params ≡ names_of y.params → x.is_async ≡ y.is_async → place_trees c (ItemKind.Func i) ≡ place_trees d (ItemKind.Func j) → SameTree c (ItemKind.Func i) d (ItemKind.Func j)
  func_same n s h =
      let rows = rows_same c d (ItemKind.Func i) (ItemKind.Func j) (func_entry x).1 (func_entry y).1 (slots_func c i x at own) (slots_func d j y bt bown) h in
      func_tree c a i x at own ∙ ap (λ z. rigid (func z x.is_async) (row_in c (func_entry x).1)) n ∙ ap (λ z. rigid (func (names_of y.params) z) (row_in c (func_entry x).1)) s
      ∙ ap (rigid (func (names_of y.params) y.is_async)) rows ∙ sym (func_tree d b j y bt bown)

  pub funcs_decided : (t : Bool) → names_of x.params ≡ names_of y.params → x.is_async ≡ y.is_async → (IsTrue t ↔ (place_trees c (ItemKind.Func i) ≡ place_trees d (ItemKind.Func j))) → IsTrue t ↔ SameTree c (ItemKind.Func i) d (ItemKind.Func j)
  funcs_decided t n s h = (λ k. func_same n s (h.0 k), λ z. h.1 (func_places z))

-- ---- resources

pub roots_same : (c d : Collection) → IsAcyclic c → IsAcyclic d → (p q : ResourceId) (x y : Resource) → slice_get c.resources p.index ≡ Some x → p.collection ≡ c.number → x.alias ≡ None → slice_get d.resources q.index ≡ Some y → q.collection ≡ d.number → y.alias ≡ None →
    (t : Bool) → (IsTrue t ↔ (x.name ≡ y.name)) → IsTrue t ↔ SameTree c (ItemKind.Ty (TypeKind.Resource p)) d (ItemKind.Ty (TypeKind.Resource q))
roots_same c d a b p q x y at own none bt bown bnone t h =
    let v = root_tree c a p x at own none in
    let w = root_tree d b q y bt bown bnone in (
      λ k. v ∙ ap (λ n. rigid (resource n) end) (h.0 k) ∙ sym w,
      λ z. let same : rigid (resource x.name) end ≡ rigid (resource y.name) end = sym v ∙ z ∙ w in h.1 (cc same),
    )

-- the test of two that have the trees of others
pub same_through : (c d : Collection) (i j k l : ItemKind) (t : Bool) → tree_in c i ≡ tree_in c j → tree_in d k ≡ tree_in d l → (IsTrue t ↔ SameTree c i d k) → IsTrue t ↔ SameTree c j d l
same_through c d i j k l t e f h = (λ y. sym e ∙ h.0 y ∙ f, λ z. h.1 (e ∙ z ∙ sym f))

pub not_both : (b : Bool) → b ≡ false → b ≡ true → ⊥
not_both true h k = absurd (cc h)
not_both false h k = absurd (cc k)

-- a test of two texts
pub text_test : (a b n : Name) (t : Bool) → t ≡ pointwise ◌==◌ a n → n ≡ b → IsTrue t ↔ (a ≡ b)
text_test a b n t e f = (λ k. (bytes_eq-Decides a n).0 (sym e ∙ k) ∙ f, λ k. e ∙ (bytes_eq-Decides a n).1 (k ∙ sym f))

-- ---- place by place

module _ (c d : Collection) (j k : ItemKind) (hc : HoldsValues c j) (hd : HoldsValues d k) where
  module _ (i : ℕ) (s u : Slot) (v w : Option ValueType) (e : v ≡ value_in s) (f : w ≡ value_in u) (p : slice_get (slots_of c j) i ≡ Some s) (q : slice_get (slots_of d k) i ≡ Some u) where
    left_tree : slice_get (place_trees c j) i ≡ Some (value_tree c v)
    left_tree = place_tree c j hc i s p ∙ ap (λ z. Some (value_tree c z)) (sym e)

    right_tree : slice_get (place_trees d k) i ≡ Some (value_tree d w)
    right_tree = place_tree d k hd i u q ∙ ap (λ z. Some (value_tree d z)) (sym f)

    pub place_agrees : place_trees c j ≡ place_trees d k → value_tree c v ≡ value_tree d w
    place_agrees h =
        let same : Some (value_tree c v) ≡ Some (value_tree d w) = sym left_tree ∙ ap (λ l. slice_get l i) h ∙ right_tree in
        cc same

    pub place_step : value_tree c v ≡ value_tree d w → slice_get (place_trees c j) i ≡ slice_get (place_trees d k) i
    place_step h = left_tree ∙ ap Some h ∙ sym right_tree

  -- a place in the one that the other does not have
  pub place_extra : (i : ℕ) (s : Slot) → slice_get (slots_of c j) i ≡ Some s → slice_get (slots_of d k) i ≡ None → place_trees c j ≡ place_trees d k → ⊥
  place_extra i s p q h = absurd (cc (place_tree c j hc i s p, ap (λ l. slice_get l i) h, no_place_tree d k i q))

  pub place_missing : (i : ℕ) (u : Slot) → slice_get (slots_of c j) i ≡ None → slice_get (slots_of d k) i ≡ Some u → place_trees c j ≡ place_trees d k → ⊥
  place_missing i u p q h = absurd (cc (no_place_tree c j i p, ap (λ l. slice_get l i) h, place_tree d k hd i u q))

-- at the end of the one, the other ends where they agree
pub ends_decided : (c d : Collection) (j k : ItemKind) → HoldsValues c j → HoldsValues d k → (n : ℕ) (o : Option Slot) (b : Bool) → slice_get (slots_of c j) n ≡ None → o ≡ slice_get (slots_of d k) n → is_some o ≡ not b → ((i : ℕ) → i < n → slice_get (place_trees c j) i ≡ slice_get (place_trees d k) i) → IsTrue b ↔ (place_trees c j ≡ place_trees d k)
ends_decided c d j k hc hd n o b p q e h =
    let t = none_test o b e in (
      λ y. same_to_end (place_trees c j) (place_trees d k) n (no_place_tree c j n p) (no_place_tree d k n (sym q ∙ t.0 y)) h,
      λ z. t.1 (λ x is. place_missing c d j k hc hd n x p (sym q ∙ is) z),
    )

pub ne_differs : (a b : Bool) → not (beq a b) ≡ true → a ≡ b → ⊥
ne_differs true true h e = absurd (cc h)
ne_differs true false h e = absurd (cc e)
ne_differs false true h e = absurd (cc e)
ne_differs false false h e = absurd (cc h)

pub not_ne : (a b : Bool) → not (beq a b) ≡ false → a ≡ b
not_ne true true h = refl
not_ne true false h = absurd (cc h)
not_ne false true h = absurd (cc h)
not_ne false false h = refl

none_from : {X : Type 0} (xs : List X) (n : ℕ) → length xs ≤ n → slice_get xs n ≡ None
none_from [] n h = refl
none_from (x ∷ xs) zero h = absurd (omega arith)
none_from (x ∷ xs) (suc n) h = none_from xs n (omega arith)

-- lists that agree at each index
pub same_lengths : {X : Type 0} (xs ys : List X) (n : ℕ) → length xs ≤ n → length ys ≤ n → ((i : ℕ) → i < n → slice_get xs i ≡ slice_get ys i) → xs ≡ ys
same_lengths xs ys n h k f = same_to_end xs ys n (none_from xs n h) (none_from ys n k) f
