-- Equality of containers, in order, and what a hash is fed of them.
use Rattle.std.specs.Prelude.{List, Bool, ◌&&◌, ◌==◌, ◌++◌}
use Rattle.std.specs.Cmp.Lexicographic.{pointwise, lists_per, lists_equiv, nat_list_eq_equiv}
use Rattle.std.specs.Cmp.{IsPartialEquivalence, IsEquivalence, on_per, on_equiv, and_per, and_equiv, partial_equiv_from_equiv}
use Rattle.std.proofs.lemmas.Slice.Eq.{bytes_eq-Decides}
use Rattle.std.specs.Hash.{HashWrites, Alike, slice, str, on_Alike, and-Alike, items_Alike, same_Alike}
use Rattle.wac_types_base.specs.Entries.{Name, names_of, values_of}

abbrev pub same_text : Name → Name → Bool
same_text = pointwise ◌==◌

pub same_text_equiv : IsEquivalence same_text
same_text_equiv = nat_list_eq_equiv

abbrev pub fed_text : Name → HashWrites
fed_text = str

pub fed_text_alike : Alike same_text fed_text
fed_text_alike = same_Alike str bytes_eq-Decides

abbrev pub same_names : List Name → List Name → Bool
same_names = pointwise same_text

pub same_names_equiv : IsEquivalence same_names
same_names_equiv = lists_equiv nat_list_eq_equiv

abbrev pub fed_names : List Name → HashWrites
fed_names = slice str

pub fed_names_alike : Alike same_names fed_names
fed_names_alike = items_Alike fed_text_alike

abbrev pub fed_items : {T : Type 0} → (T → HashWrites) → List T → HashWrites
fed_items F = slice F

pub fed_items_alike : {T : Type 0} {E : T → T → Bool} {F : T → HashWrites} → Alike E F → Alike (pointwise E) (fed_items F)
fed_items_alike a = items_Alike a

-- entries by their names, then by their values
module _ {N T : Type 0} where
  abbrev pub same_columns : (N → N → Bool) → (T → T → Bool) → List (N × T) → List (N × T) → Bool
  same_columns D E xs ys = pointwise D (names_of xs) (names_of ys) && pointwise E (values_of xs) (values_of ys)

  pub same_columns_laws : {D : N → N → Bool} {E : T → T → Bool} → IsPartialEquivalence D → IsPartialEquivalence E
      → IsPartialEquivalence (same_columns D E)
  same_columns_laws d e =
      and_per (on_per (λ (xs : List (N × T)). names_of xs) (lists_per d))
      (on_per (λ (xs : List (N × T)). values_of xs) (lists_per e))

  pub same_columns_equiv : {D : N → N → Bool} {E : T → T → Bool} → IsEquivalence D → IsEquivalence E
      → IsEquivalence (same_columns D E)
  same_columns_equiv d e =
      and_equiv (on_equiv (λ (xs : List (N × T)). names_of xs) (lists_equiv d))
      (on_equiv (λ (xs : List (N × T)). values_of xs) (lists_equiv e))

  abbrev pub fed_columns : (N → HashWrites) → (T → HashWrites) → List (N × T) → HashWrites
  fed_columns G F xs = slice G (names_of xs) ++ slice F (values_of xs)

  pub fed_columns_alike : {D : N → N → Bool} {E : T → T → Bool} {G : N → HashWrites} {F : T → HashWrites} → Alike D G
      → Alike E F → Alike (same_columns D E) (fed_columns G F)
  fed_columns_alike d e =
      and-Alike (on_Alike (λ (xs : List (N × T)). names_of xs) (items_Alike d))
      (on_Alike (λ (xs : List (N × T)). values_of xs) (items_Alike e))

module _ {T : Type 0} where
  abbrev pub same_map : (T → T → Bool) → List (Name × T) → List (Name × T) → Bool
  same_map = same_columns same_text

  pub same_map_laws : {E : T → T → Bool} → IsPartialEquivalence E → IsPartialEquivalence (same_map E)
  same_map_laws e = same_columns_laws (partial_equiv_from_equiv nat_list_eq_equiv) e

  pub same_map_equiv : {E : T → T → Bool} → IsEquivalence E → IsEquivalence (same_map E)
  same_map_equiv e = same_columns_equiv nat_list_eq_equiv e

  abbrev pub fed_map : (T → HashWrites) → List (Name × T) → HashWrites
  fed_map = fed_columns str

  pub fed_map_alike : {E : T → T → Bool} {F : T → HashWrites} → Alike E F → Alike (same_map E) (fed_map F)
  fed_map_alike a = fed_columns_alike fed_text_alike a

-- two names
abbrev pub same_two : Name × Name → Name × Name → Bool
same_two a b = same_text a.0 b.0 && same_text a.1 b.1

pub same_two_equiv : IsEquivalence same_two
same_two_equiv =
    and_equiv (on_equiv (λ (a : Name × Name). a.0) nat_list_eq_equiv)
    (on_equiv (λ (a : Name × Name). a.1) nat_list_eq_equiv)

abbrev pub fed_two : Name × Name → HashWrites
fed_two a = str a.0 ++ str a.1

pub fed_two_alike : Alike same_two fed_two
fed_two_alike =
    and-Alike (on_Alike (λ (a : Name × Name). a.0) fed_text_alike)
    (on_Alike (λ (a : Name × Name). a.1) fed_text_alike)
