-- What the steps of writing a value type answer, put together.
use Rattle.std.proofs.Common.{◌≡◌, ℕ, zero, suc, ◌+◌, List, [], ◌∷◌, ◌++◌, take, map, Option, Some, None, refl, sym, ap, ◌∙◌, subst}
use Rattle.std.specs.Prelude.{slice_get}
use Rattle.std.specs.Option.{option_map}
use Rattle.wac_types_base.specs.declared.ids.DefinedTypeId.{DefinedTypeId}
use Rattle.wac_types_base.specs.declared.ids.FuncTypeId.{FuncTypeId}
use Rattle.wac_types_base.specs.declared.item.ValueType.{ValueType}
use Rattle.wac_types_base.specs.declared.item.ItemKind.{ItemKind}
use Rattle.wac_types_base.specs.declared.defined.DefinedType.{DefinedType}
use Rattle.wac_types_base.specs.declared.defined.FuncType.{FuncType}
use Rattle.wac_types_base.specs.Record.{Collection}
use Rattle.wac_types_base.specs.Collection.{Slot, IsAcyclic, slots_of, defined_entry, func_entry}
use Rattle.wac_types_base.specs.Stated.{stated_of}
use Rattle.wac_types_base.specs.Tree.{Tree, rigid, place, gap, tree}
use Rattle.wac_types_base.specs.Resolving.{IsNoAlias}
use Rattle.wac_types_base.proofs.Slots.{slots_func, slots_defined}
use Rattle.wac_types_base.proofs.Looked.{take-one_more}
use Rattle.wac_types_fit.specs.Trees.{tree_in}
use Rattle.wac_types_fit.specs.Checking.{value_in, HoldsValues, value_tree, place_trees}
use Rattle.wac_types_fit.proofs.Unfolded.{row_in, func_tree}
use Rattle.wac_types_fit.proofs.ValueTrees.{defined_is, place_tree}
use Rattle.wac_graph_bytes.specs.declared.value.ValueType.{ValueType as Written}
use Rattle.wac_graph_bytes.specs.declared.value.ValueType.TheVariants.{Index}
use Rattle.wac_graph_bytes.specs.declared.entry.DefinedType.{DefinedType as CodeType}
use Rattle.wac_graph_bytes.specs.Typing.{Worlds, Scope, Inside, defined, type_at, value_of}
use Rattle.wac_graph_bytes.specs.Views.{defined_view}
use Rattle.wac_graph_scopes.specs.declared.scope.TypeScope.{TypeScope}
use Rattle.wac_graph_scopes.specs.Scopes.{IsScope, AnswersType, AnswersValue, AnswersPlace, AnswersPlaces, PlacesRead}
use Rattle.wac_graph_scopes.specs.Forms.{entry_of, func_entry_of, row_of}
use Rattle.wac_graph_scopes.proofs.ScopeLaws.{Goes-refl, Goes-trans, places_kept, places_more}
use Rattle.wac_graph_scopes.proofs.FormLaws.{trees_by, of_row, entry_reads, func_reads, entry_is_value, index_reads}

-- ---- trees by places

row_is : (c : Collection) (xs : List Slot) → row_in c xs ≡ row_of (trees_by (tree_in c) xs)
unfolding tree_in
row_is c [] = refl
row_is c (None ∷ xs) = ap gap (row_is c xs)
row_is c (Some k ∷ xs) = ap (place (tree (stated_of c k))) (row_is c xs)

-- a type entry is no alias
pub not_alias : (c : Collection) (d : DefinedTypeId) (x : DefinedType) → IsNoAlias c (ValueType.Defined d) → slice_get c.defined_types d.index ≡ Some x → (t : ValueType) → x ≡ DefinedType.Alias t → ⊥
not_alias c d x n at t e = n d t refl (at ∙ ap Some e)

module _ (c : Collection) (acyclic : IsAcyclic c) where
  pub defined_tree_is : (d : DefinedTypeId) (x : DefinedType) → IsNoAlias c (ValueType.Defined d) → slice_get c.defined_types d.index ≡ Some x → d.collection ≡ c.number
      → tree_in c (ItemKind.Value (ValueType.Defined d)) ≡ of_row x (tree_in c)
  defined_tree_is d x n at own = defined_is c acyclic (ValueType.Defined d) n d x refl at own ∙ ap (rigid (defined_entry x).0) (row_is c (defined_entry x).1)

  pub func_tree_is : (f : FuncTypeId) (x : FuncType) → slice_get c.func_types f.index ≡ Some x → f.collection ≡ c.number
      → tree_in c (ItemKind.Func f) ≡ rigid (func_entry x).0 (row_of (trees_by (tree_in c) (func_entry x).1))
  func_tree_is f x at own = func_tree c acyclic f x at own ∙ ap (rigid (func_entry x).0) (row_is c (func_entry x).1)

-- ---- the same answer for an equal tree

pub value_of_tree : (w : Worlds) (c : Collection) (outer : List Scope) (i : Inside) (t u : Tree) (s : TypeScope) (b : Written) → t ≡ u → AnswersValue w c outer i t s b → AnswersValue w c outer i u s b
value_of_tree w c outer i t u s b e a = subst (λ (x : Tree). AnswersValue w c outer i x s b) e a

module _ (w : Worlds) (c : Collection) (outer : List Scope) (i : Inside) where
  -- what needs no entry
  pub value_there : (t : Tree) (s : TypeScope) (b : Written) → IsScope w c outer i s → value_of w (i.here ∷ outer) b ≡ Some t → AnswersValue w c outer i t s b
  value_there t s b h e = record { after = i; goes = Goes-refl w c outer i s h; value = e }

  -- a new entry whose index is the value type
  pub value_defined : (t : Tree) (s u : TypeScope) (ty : CodeType) (k : ℕ) → IsScope w c outer i s
      → ((j : Inside) (x : Tree) → IsScope w c outer j s → defined w (j.here ∷ outer) (defined_view ty) ≡ Some x → AnswersType w c outer j x u k)
      → defined w (i.here ∷ outer) (defined_view ty) ≡ Some t → ((x : Scope) → type_at w (x ∷ outer) k ≡ Some t → value_of w (x ∷ outer) (Index k) ≡ Some t)
      → AnswersValue w c outer i t u (Index k)
  value_defined t s u ty k h defines reads is =
      let a = defines i t h reads in
      record { after = a.after; goes = a.goes; value = is a.after.here a.index }

  -- the places, the entry and its index
  pub value_written : (acyclic : IsAcyclic c) (d : DefinedTypeId) (x : DefinedType) (s u : TypeScope) (bs : List (Option Written)) (ty : CodeType) (k : ℕ)
      → IsNoAlias c (ValueType.Defined d) → slice_get c.defined_types d.index ≡ Some x → d.collection ≡ c.number
      → AnswersPlaces w c outer i (place_trees c (ItemKind.Value (ValueType.Defined d))) s bs
      → defined_view ty ≡ entry_of x bs
      → ((j : Inside) (t : Tree) → IsScope w c outer j s → defined w (j.here ∷ outer) (defined_view ty) ≡ Some t → AnswersType w c outer j t u k)
      → AnswersValue w c outer i (tree_in c (ItemKind.Value (ValueType.Defined d))) u (Index k)
  value_written acyclic d x s u bs ty k n at own a form defines =
      let t = of_row x (tree_in c) in
      let same : tree_in c (ItemKind.Value (ValueType.Defined d)) ≡ t = defined_tree_is c acyclic d x n at own in
      let no_alias = not_alias c d x n at in
      let places = subst (λ (l : List (Option Tree)). PlacesRead w (a.after.here ∷ outer) bs l) (ap (trees_by (tree_in c)) (slots_defined c d x at own)) a.values in
      let reads : defined w (a.after.here ∷ outer) (defined_view ty) ≡ Some t =
      ap (defined w (a.after.here ∷ outer)) form ∙ entry_reads w (a.after.here ∷ outer) (tree_in c) x bs no_alias places in
      let b = defines a.after t a.goes.stands reads in
      record {
        after = b.after;
        goes = Goes-trans w c outer i a.after b.after s u a.goes b.goes;
        value = index_reads w (b.after.here ∷ outer) k t (entry_is_value x (row_of (trees_by (tree_in c) (defined_entry x).1)) no_alias) b.index ∙ ap Some (sym same);
      }

  -- an index that is remembered
  pub value_remembered : (t : Tree) (s u : TypeScope) (k : ℕ) → AnswersValue w c outer i t s (Index k)
      → ((j : Inside) → IsScope w c outer j s → value_of w (j.here ∷ outer) (Index k) ≡ Some t → IsScope w c outer j u)
      → AnswersValue w c outer i t u (Index k)
  value_remembered t s u k a remembers = record {
    after = a.after;
    goes = record { stands = remembers a.after a.goes.stands a.value; extends = a.goes.extends; others = a.goes.others; imports = a.goes.imports; exports = a.goes.exports };
    value = a.value;
  }

  -- likewise of a function
  pub func_written : (acyclic : IsAcyclic c) (f : FuncTypeId) (x : FuncType) (s u : TypeScope) (bs : List (Option Written)) (ty : CodeType) (k : ℕ)
      → slice_get c.func_types f.index ≡ Some x → f.collection ≡ c.number
      → AnswersPlaces w c outer i (place_trees c (ItemKind.Func f)) s bs
      → defined_view ty ≡ func_entry_of x bs
      → ((j : Inside) (t : Tree) → IsScope w c outer j s → defined w (j.here ∷ outer) (defined_view ty) ≡ Some t → AnswersType w c outer j t u k)
      → AnswersType w c outer i (tree_in c (ItemKind.Func f)) u k
  func_written acyclic f x s u bs ty k at own a form defines =
      let t = rigid (func_entry x).0 (row_of (trees_by (tree_in c) (func_entry x).1)) in
      let same : tree_in c (ItemKind.Func f) ≡ t = func_tree_is c acyclic f x at own in
      let places = subst (λ (l : List (Option Tree)). PlacesRead w (a.after.here ∷ outer) bs l) (ap (trees_by (tree_in c)) (slots_func c f x at own)) a.values in
      let reads : defined w (a.after.here ∷ outer) (defined_view ty) ≡ Some t =
      ap (defined w (a.after.here ∷ outer)) form ∙ func_reads w (a.after.here ∷ outer) (tree_in c) x bs places in
      let b = defines a.after t a.goes.stands reads in
      record { after = b.after; goes = Goes-trans w c outer i a.after b.after s u a.goes b.goes; index = b.index ∙ ap Some (sym same) }

  -- ---- place by place

  pub places_none : (ts : List (Option Tree)) (s : TypeScope) (bs : List (Option Written)) → IsScope w c outer i s → ts ≡ [] → bs ≡ [] → AnswersPlaces w c outer i ts s bs
  places_none ts s bs h e f = record {
    after = i;
    goes = Goes-refl w c outer i s h;
    values = subst (λ (l : List (Option Tree)). PlacesRead w (i.here ∷ outer) bs l) (sym e) (subst (λ (l : List (Option Written)). PlacesRead w (i.here ∷ outer) l []) (sym f) tt);
  }

  pub places_next : (ts us : List (Option Tree)) (t : Option Tree) (s u : TypeScope) (bs cs : List (Option Written)) (b : Option Written)
      → (a : AnswersPlaces w c outer i ts s bs) → AnswersPlace w c outer a.after t u b → us ≡ ts ++ t ∷ [] → cs ≡ bs ++ b ∷ [] → AnswersPlaces w c outer i us u cs
  places_next ts us t s u bs cs b a p e f =
      let kept = places_kept w a.after.here p.after.here outer bs ts p.goes.extends a.values in
      let more = places_more w (p.after.here ∷ outer) bs ts b t kept p.value in
      record {
        after = p.after;
        goes = Goes-trans w c outer i a.after p.after s u a.goes p.goes;
        values = subst (λ (l : List (Option Tree)). PlacesRead w (p.after.here ∷ outer) cs l) (sym e) (subst (λ (l : List (Option Written)). PlacesRead w (p.after.here ∷ outer) l (ts ++ t ∷ [])) (sym f) more);
      }

-- the trees of the places so far
pub trees_next : (c : Collection) (k : ItemKind) (n : ℕ) (s : Slot) (v : Option ValueType) → HoldsValues c k → v ≡ value_in s → slice_get (slots_of c k) n ≡ Some s → take (n + 1) (place_trees c k) ≡ take n (place_trees c k) ++ value_tree c v ∷ []
trees_next c k n s v holds e at = take-one_more (place_trees c k) n (value_tree c v) (place_tree c k holds n s at ∙ ap (λ (x : Option ValueType). Some (value_tree c x)) (sym e))

take_end : {X : Type 0} (xs : List X) (n : ℕ) → slice_get xs n ≡ None → take n xs ≡ xs
take_end [] zero e = refl
take_end [] (suc n) e = refl
take_end (x ∷ xs) zero e = absurd (cc e)
take_end (x ∷ xs) (suc n) e = ap (λ l. x ∷ l) (take_end xs n e)

none_mapped : {X Y : Type 0} (f : X → Y) (xs : List X) (n : ℕ) → slice_get xs n ≡ None → slice_get (map f xs) n ≡ None
none_mapped f [] n e = refl
none_mapped f (x ∷ xs) zero e = absurd (cc e)
none_mapped f (x ∷ xs) (suc n) e = none_mapped f xs n e

pub trees_all : (c : Collection) (k : ItemKind) (n : ℕ) → slice_get (slots_of c k) n ≡ None → take n (place_trees c k) ≡ place_trees c k
trees_all c k n e = take_end (place_trees c k) n (none_mapped (option_map (tree_in c)) (slots_of c k) n e)
