-- The numbers of value types, place by place, and what is kept of them.
use Rattle.std.proofs.Common.{◌≡◌, ℕ, ◌+◌, Bool, true, false, cond, List, [], ◌∷◌, ◌++◌, take, Option, Some, None, Result, Ok, Err, refl, sym, ap, ◌∙◌, subst}
use Rattle.std.specs.Prelude.{slice_get, is_err, IfOk}
use Rattle.std.specs.Map.{lookup}
use Rattle.wac_types_base.specs.contracts.ids.DefinedTypeIdPartialEq.TheImpl.{eq-value}
use Rattle.wac_types_base.specs.declared.ids.DefinedTypeId.{DefinedTypeId}
use Rattle.wac_types_base.specs.declared.item.ValueType.{ValueType}
use Rattle.wac_types_base.specs.declared.item.ItemKind.{ItemKind}
use Rattle.wac_types_base.specs.declared.defined.DefinedType.{DefinedType}
use Rattle.wac_types_base.specs.Record.{Collection}
use Rattle.wac_types_base.specs.Collection.{Slot, Stands, IsAcyclic, slots_of, defined_entry}
use Rattle.wac_types_base.specs.Resolving.{IsNoAlias}
use Rattle.wac_types_base.specs.Tree.{Tree}
use Rattle.wac_types_base.proofs.Slots.{slots_defined}
use Rattle.wac_types_fit.specs.Trees.{tree_in}
use Rattle.wac_types_fit.specs.Checking.{value_in, HoldsValues, value_tree, place_trees}
use Rattle.wac_graph_scopes.specs.declared.prints.Prints.{Prints}
use Rattle.wac_graph_scopes.specs.Forms.{row_of}
use Rattle.wac_graph_scopes.specs.Prints.{joined, label_print, tree_print, row_print, place_print, places_print, type_print, ArePrints}
use Rattle.wac_types_parts.proofs.Ids.{same_type}
use Rattle.wac_graph_scopes.proofs.FormLaws.{trees_by}
use Rattle.wac_graph_scopes.proofs.ValueLaws.{defined_tree_is, trees_next}

-- ---- place by place

row_printed : (before : ℕ) (ts : List (Option Tree)) → row_print before (row_of ts) ≡ places_print before ts
row_printed before [] = refl
row_printed before (None ∷ ts) = row_printed (joined before 1) ts
row_printed before (Some t ∷ ts) = row_printed (joined (joined before 2) (tree_print t)) ts

place_printed : (before : ℕ) (ts : List (Option Tree)) (t : Option Tree) → places_print before (ts ++ t ∷ []) ≡ place_print (places_print before ts) t
place_printed before [] t = refl
place_printed before (u ∷ ts) t = place_printed (place_print before u) ts t

-- one place more
pub printed_next : (c : Collection) (k : ItemKind) (n : ℕ) (s : Slot) (v : Option ValueType) (before print next : ℕ) → HoldsValues c k → v ≡ value_in s → slice_get (slots_of c k) n ≡ Some s
    → print ≡ places_print before (take n (place_trees c k)) → next ≡ place_print print (value_tree c v) → next ≡ places_print before (take (n + 1) (place_trees c k))
printed_next c k n s v before print next holds e at so is =
    let more = trees_next c k n s v holds e at in
    is ∙ ap (λ (p : ℕ). place_print p (value_tree c v)) so ∙ sym (place_printed before (take n (place_trees c k)) (value_tree c v)) ∙ sym (ap (places_print before) more)

-- the number of a defined type that is no alias
pub defined_printed : (c : Collection) → IsAcyclic c → (d : DefinedTypeId) (x : DefinedType) (label : ℕ) → IsNoAlias c (ValueType.Defined d) → slice_get c.defined_types d.index ≡ Some x → d.collection ≡ c.number
    → label ≡ label_print (defined_entry x).0 → places_print label (place_trees c (ItemKind.Value (ValueType.Defined d))) ≡ type_print c d
defined_printed c acyclic d x label n at own is =
    let places = ap (trees_by (tree_in c)) (slots_defined c d x at own) in
    ap (places_print label) places
    ∙ ap (λ (p : ℕ). places_print p (trees_by (tree_in c) (defined_entry x).1)) is
    ∙ sym (row_printed (label_print (defined_entry x).0) (trees_by (tree_in c) (defined_entry x).1))
    ∙ sym (ap tree_print (defined_tree_is c acyclic d x n at own))

-- ---- what is kept

pub prints_same : (c : Collection) (p q : Prints) → q.found.entries ≡ p.found.entries → ArePrints c p → ArePrints c q
prints_same c p q e a = record { numbers = λ id n found. a.numbers id n (subst (λ (es : List (DefinedTypeId × ℕ)). lookup (eq-value.it id) es ≡ Some n) e found) }

pub prints_none : (c : Collection) (p : Prints) → p.found.entries ≡ [] → ArePrints c p
prints_none c p e = record { numbers = λ id n found stands. none id n (subst (λ (es : List (DefinedTypeId × ℕ)). lookup (eq-value.it id) es ≡ Some n) e found) }
  where
    none : (id : DefinedTypeId) (n : ℕ) → lookup (eq-value.it id) [] ≡ Some n → n ≡ type_print c id
    none id n f = absurd (cc f)

pub prints_more : (c : Collection) (p q : Prints) (id : DefinedTypeId) (n : ℕ) → n ≡ type_print c id → ((x : DefinedTypeId) → lookup (eq-value.it x) q.found.entries ≡ cond (eq-value.it id x) (Some n) (lookup (eq-value.it x) p.found.entries)) → ArePrints c p → ArePrints c q
prints_more c p q id n is updates a = record { numbers = λ x k found stands. by x k stands (eq-value.it id x) refl (sym (updates x) ∙ found) }
  where
    by : (x : DefinedTypeId) (k : ℕ) → Stands c (ItemKind.Value (ValueType.Defined x)) → (b : Bool) → eq-value.it id x ≡ b → cond b (Some n) (lookup (eq-value.it x) p.found.entries) ≡ Some k → k ≡ type_print c x
    by x k stands true q e =
        let same : id ≡ x = (same_type id x).0 q in
        let value : n ≡ k = cc e in
        sym value ∙ is ∙ ap (type_print c) same
    by x k stands false q e = a.numbers x k e stands

-- of a refusal nothing is said
pub err_gives : {T E : Type 0} (r : Result T E) (P : T → Type 0) → is_err r ≡ true → IfOk r P
err_gives (Ok x) P e = absurd (cc e)
err_gives (Err x) P e = tt
