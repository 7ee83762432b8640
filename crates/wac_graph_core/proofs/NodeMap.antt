-- Nodes in slots, seen as a finite map from indexes.
use Rattle.std.proofs.Common.{◌≡◌, ◌≢◌, ℕ, zero, suc, ◌+◌, ◌<◌, ◌≤◌, true, false, List, [], ◌∷◌, ◌++◌, Option, Some, None, length, get_or, set, cond, refl, sym, ap, ◌∙◌, inl, inr, arith, IsSome, subst}
use Rattle.std.proofs.lemmas.Bool.{cases_eq, cases_lt}
use Rattle.std.proofs.lemmas.Bool.Decides.{nat_tests}
use Rattle.std.proofs.lemmas.List.{get_or_read, get_or_append_left, get_or_past, get_or_push, length_push, get_or-set_same, get_or-set_other, set_past}
use Rattle.std.specs.Prelude.{option_map}
use Rattle.std.specs.Ordering.{nat_cmp, eq_by_cmp}
use Rattle.std.specs.Cmp.{unsigned_tied, nat_cmp_total, nat_cmp_is}
use Rattle.std.specs.declared.cmp.Ordering.{Ordering}
use Rattle.std.specs.FinMap as map
use Rattle.std.specs.FinMap.{find, put, FinMap, nat_cmp-IsAntisymmetric}
use Rattle.std.specs.FinMap.Entries.{by_order}
use Rattle.wac_graph_core.specs.Nodes.{NodeData}
use Rattle.wac_graph_core.specs.NodeMaps.{NodeMap, AreBelow}
use Rattle.wac_graph_core.specs.Slots.{entries_from, nodes_in}

pub tied : (a : ℕ) → eq_by_cmp nat_cmp a a ≡ true
tied a = unsigned_tied a a ∙ grind (arith, nat_tests)

pub apart : (a b : ℕ) → a ≢ b → eq_by_cmp nat_cmp a b ≡ false
apart a b ne = unsigned_tied a b ∙ grind (arith, nat_tests)

-- ---- maps from indexes

module _ {T : Type 0} where
  pub same_shown : (m n : FinMap nat_cmp T) → ((k : ℕ) → map.get m k ≡ map.get n k) → m ≡ n
  same_shown m n e = map.same_map nat_cmp_total nat_cmp-IsAntisymmetric m n e

  pub get-insert_same : (m : FinMap nat_cmp T) (k : ℕ) (v : T) → map.get (map.insert m k v) k ≡ Some v
  get-insert_same m k v = map.get-insert nat_cmp_total m k v k ∙ ap (λ b. cond b (Some v) (map.get m k)) (tied k)

  pub get-insert_other : (m : FinMap nat_cmp T) (k : ℕ) (v : T) (q : ℕ) → q ≢ k → map.get (map.insert m k v) q ≡ map.get m q
  get-insert_other m k v q ne = map.get-insert nat_cmp_total m k v q ∙ ap (λ b. cond b (Some v) (map.get m q)) (apart q k ne)

  pub get-remove_same : (m : FinMap nat_cmp T) (k : ℕ) → map.get (map.remove m k) k ≡ None
  get-remove_same m k = map.get-remove nat_cmp_total m k k ∙ ap (λ b. cond b None (map.get m k)) (tied k)

  pub get-remove_other : (m : FinMap nat_cmp T) (k q : ℕ) → q ≢ k → map.get (map.remove m k) q ≡ map.get m q
  get-remove_other m k q ne = map.get-remove nat_cmp_total m k q ∙ ap (λ b. cond b None (map.get m q)) (apart q k ne)

-- ---- slots

find_below : (q first : ℕ) (slots : List (Option NodeData)) → q < first → find nat_cmp q (entries_from first slots) ≡ None
find_below q first [] below = refl
find_below q first (None ∷ rest) below = find_below q (first + 1) rest (omega arith)
find_below q first (Some v ∷ rest) below =
    ap (λ b. cond b (Some v) (find nat_cmp q (entries_from (first + 1) rest))) (apart q first (λ e. absurd (omega (arith, e)))) ∙ find_below q (first + 1) rest (omega arith)

find_slot : (first : ℕ) (slots : List (Option NodeData)) (at : ℕ) → find nat_cmp (first + at) (entries_from first slots) ≡ get_or slots at None
find_slot first [] at = refl
find_slot first (None ∷ rest) zero = find_below (first + 0) (first + 1) rest (omega arith)
find_slot first (None ∷ rest) (suc at) =
    let shift : first + suc at ≡ first + 1 + at = omega arith in
    ap (λ q. find nat_cmp q (entries_from (first + 1) rest)) shift ∙ find_slot (first + 1) rest at
find_slot first (Some v ∷ rest) zero =
    let same : first + 0 ≡ first = omega arith in
    ap (λ q. cond (eq_by_cmp nat_cmp q first) (Some v) (find nat_cmp q (entries_from (first + 1) rest))) same
    ∙ ap (λ b. cond b (Some v) (find nat_cmp first (entries_from (first + 1) rest))) (tied first)
find_slot first (Some v ∷ rest) (suc at) =
    let shift : first + suc at ≡ first + 1 + at = omega arith in
    ap (λ b. cond b (Some v) (find nat_cmp (first + suc at) (entries_from (first + 1) rest))) (apart (first + suc at) first (λ e. absurd (omega (arith, e))))
    ∙ ap (λ q. find nat_cmp q (entries_from (first + 1) rest)) shift ∙ find_slot (first + 1) rest at

-- what is found under an index is what is in its slot
pub get-slots : (slots : List (Option NodeData)) (k : ℕ) → map.get (nodes_in slots) k ≡ get_or slots k None
get-slots slots k =
    let start : k ≡ 0 + k = omega arith in
    map.get-from_entries nat_cmp_total (entries_from 0 slots) k ∙ ap (λ q. find nat_cmp q (entries_from 0 slots)) start ∙ find_slot 0 slots k

-- the same by what is known of the index and the map
pub slot_at : (slots : List (Option NodeData)) (nodes : NodeMap) (i k : ℕ) → nodes_in slots ≡ nodes → i ≡ k → get_or slots i None ≡ map.get nodes k
slot_at slots nodes i k sees index = sym (get-slots slots i) ∙ ap (map.get (nodes_in slots)) index ∙ ap (λ m. map.get m k) sees

-- one slot has this node now
slots_insert : (old new : List (Option NodeData)) (k : ℕ) (x : NodeData) → get_or new k None ≡ Some x → ((q : ℕ) → q ≢ k → get_or new q None ≡ get_or old q None) → nodes_in new ≡ map.insert (nodes_in old) k x
slots_insert old new k x own others = same_shown _ _ (λ q. elim (cases_eq q k) [
  | inl e ↦ ap (map.get (nodes_in new)) e ∙ get-slots new k ∙ own ∙ sym (get-insert_same (nodes_in old) k x) ∙ ap (map.get (map.insert (nodes_in old) k x)) (sym e)
  | inr ne ↦ get-slots new q ∙ others q ne ∙ sym (get-slots old q) ∙ sym (get-insert_other (nodes_in old) k x q ne)
])

pushed_other : (slots : List (Option NodeData)) (o : Option NodeData) (q : ℕ) → q ≢ length slots → get_or (slots ++ o ∷ []) q None ≡ get_or slots q None
pushed_other slots o q ne = elim (cases_lt q (length slots)) [
  | inl below ↦ get_or_append_left slots (o ∷ []) None q below
  | inr above ↦
      let past : length slots + 1 ≤ q = elim (cases_eq q (length slots)) [ inl e ↦ absurd (ne e) | inr other ↦ omega (arith, above, other) ] in
      get_or_past (slots ++ o ∷ []) q None (omega (arith, length_push slots o, past)) ∙ sym (get_or_past slots q None above)
]

-- a node is put behind all others
pub nodes_pushed : (slots : List (Option NodeData)) (x : NodeData) → nodes_in (slots ++ Some x ∷ []) ≡ map.insert (nodes_in slots) (length slots) x
nodes_pushed slots x = slots_insert slots (slots ++ Some x ∷ []) (length slots) x (get_or_push slots (Some x) None (length slots) refl) (pushed_other slots (Some x))

-- an empty slot behind all others changes nothing
entries_skipped : (first : ℕ) (slots : List (Option NodeData)) → entries_from first (slots ++ None ∷ []) ≡ entries_from first slots
entries_skipped first [] = refl
entries_skipped first (None ∷ slots) = entries_skipped (first + 1) slots
entries_skipped first (Some x ∷ slots) = ap (λ es. (first, x) ∷ es) (entries_skipped (first + 1) slots)

pub nodes_skipped : (slots : List (Option NodeData)) → nodes_in (slots ++ None ∷ []) ≡ nodes_in slots
nodes_skipped slots = ap map.from_entries (entries_skipped 0 slots)

-- a node is written in its place
nodes_written : (slots : List (Option NodeData)) (k : ℕ) (x : NodeData) → k < length slots → nodes_in (set slots k (Some x)) ≡ map.insert (nodes_in slots) k x
nodes_written slots k x within = slots_insert slots (set slots k (Some x)) k x (get_or-set_same slots k (Some x) None within) (λ q ne. get_or-set_other slots k q (Some x) None ne)

emptied : (slots : List (Option NodeData)) (k : ℕ) → get_or (set slots k None) k None ≡ None
emptied slots k = elim (cases_lt k (length slots)) [
  | inl within ↦ get_or-set_same slots k None None within
  | inr past ↦ ap (λ l. get_or l k None) (set_past slots k None past) ∙ get_or_past slots k None past
]

-- a slot is emptied
nodes_removed : (slots : List (Option NodeData)) (k : ℕ) → nodes_in (set slots k None) ≡ map.remove (nodes_in slots) k
nodes_removed slots k = same_shown _ _ (λ q. elim (cases_eq q k) [
  | inl e ↦ ap (map.get (nodes_in (set slots k None))) e ∙ get-slots (set slots k None) k ∙ emptied slots k ∙ sym (get-remove_same (nodes_in slots) k) ∙ ap (map.get (map.remove (nodes_in slots) k)) (sym e)
  | inr ne ↦ get-slots (set slots k None) q ∙ get_or-set_other slots k q None None ne ∙ sym (get-slots slots q) ∙ sym (get-remove_other (nodes_in slots) k q ne)
])

-- the same by what is known of the index and the map
pub nodes_taken : (slots new : List (Option NodeData)) (nodes : NodeMap) (i k : ℕ) → nodes_in slots ≡ nodes → i ≡ k → new ≡ set slots i None → nodes_in new ≡ map.remove nodes k
nodes_taken slots new nodes i k sees index emptied = ap nodes_in emptied ∙ nodes_removed slots i ∙ ap (λ m. map.remove m i) sees ∙ ap (map.remove nodes) index

-- what is in a slot has an index below the number of slots
slot_within : (slots : List (Option NodeData)) (k : ℕ) → IsSome (get_or slots k None) → k < length slots
slot_within slots k there = elim (cases_lt k (length slots)) [
  | inl within ↦ within
  | inr past ↦ absurd (cc (subst IsSome (get_or_past slots k None past) there))
]

slots_below : (slots : List (Option NodeData)) → AreBelow (nodes_in slots) (length slots)
slots_below slots j there = slot_within slots j (subst IsSome (get-slots slots j) there)

-- ---- a node is added behind all slots

module _ (slots : List (Option NodeData)) (nodes : NodeMap) (k : ℕ) (sees : nodes_in slots ≡ nodes) (index : k ≡ length slots) where
  pub added_above : AreBelow nodes k
  added_above = subst (AreBelow nodes) (sym index) (subst (λ m. AreBelow m (length slots)) sees (slots_below slots))

  pub nodes_added : (new : List (Option NodeData)) (x : NodeData) → new ≡ slots ++ Some x ∷ [] → nodes_in new ≡ map.insert nodes k x
  nodes_added new x added =
      ap nodes_in added ∙ nodes_pushed slots x ∙ ap (λ m. map.insert m (length slots) x) sees ∙ ap (λ j. map.insert nodes j x) (sym index)

-- an index above those of all nodes is free
pub below_free : (nodes : NodeMap) (k : ℕ) → AreBelow nodes k → map.get nodes k ≡ None
below_free nodes k below = by_option (map.get nodes k) refl
  where
    by_option : (o : Option NodeData) → map.get nodes k ≡ o → map.get nodes k ≡ None
    by_option None e = e
    by_option (Some x) e = let low : k < k = below k (subst IsSome (sym e) refl) in absurd (omega (arith, low))

-- ---- a node is changed in its place

module _ (slots : List (Option NodeData)) (nodes : NodeMap) (i k : ℕ) (sees : nodes_in slots ≡ nodes) (index : i ≡ k) (there : IsSome (map.get nodes k)) where
  pub index_within : i < length slots
  index_within = slot_within slots i (subst IsSome (sym (slot_at slots nodes i k sees index)) there)

  pub nodes_changed : (old new : Option NodeData) (F : NodeData → NodeData) → old ≡ get_or slots i old → new ≡ option_map F old → (x : NodeData) → map.get nodes k ≡ Some x → nodes_in (set slots i new) ≡ map.insert nodes k (F x)
  nodes_changed old new F read is x at =
      let was : old ≡ Some x = get_or_read slots i old index_within read None ∙ slot_at slots nodes i k sees index ∙ at in
      ap (λ o. nodes_in (set slots i o)) (is ∙ ap (option_map F) was) ∙ nodes_written slots i (F x) index_within
      ∙ ap (λ m. map.insert m i (F x)) sees ∙ ap (λ j. map.insert nodes j (F x)) index

-- ---- entries

less : (k first : ℕ) → k < first → Ordering.Less ≡ nat_cmp k first
less k first below = nat_cmp_is k first Ordering.Less below

no_length : {A : Type 0} (es : List A) → length es ≡ 0 → es ≡ []
no_length [] e = refl
no_length (x ∷ es) e = absurd (omega arith)

no_entries : map.entries (map.empty {X = NodeData} {R = nat_cmp}) ≡ []
no_entries = no_length _ (sym (map.len-entries (map.empty {X = NodeData} {R = nat_cmp})) ∙ map.len-empty nat_cmp NodeData)

-- an entry before all others is put first
put_first : (k first : ℕ) (v : NodeData) (slots : List (Option NodeData)) → k < first → put nat_cmp k v (entries_from first slots) ≡ (k, v) ∷ entries_from first slots
put_first k first v [] below = refl
put_first k first v (None ∷ slots) below = put_first k (first + 1) v slots (omega arith)
put_first k first v (Some w ∷ slots) below =
    ap (λ o. by_order o ((k, v) ∷ (first, w) ∷ entries_from (first + 1) slots) ((first, v) ∷ entries_from (first + 1) slots) ((first, w) ∷ put nat_cmp k v (entries_from (first + 1) slots)))
    (sym (less k first below))

entries_of_slots : (first : ℕ) (slots : List (Option NodeData)) → map.entries (map.from_entries {R = nat_cmp} (entries_from first slots)) ≡ entries_from first slots
entries_of_slots first [] = no_entries
entries_of_slots first (None ∷ slots) = entries_of_slots (first + 1) slots
entries_of_slots first (Some v ∷ slots) =
    map.entries-insert nat_cmp_total (map.from_entries (entries_from (first + 1) slots)) first v
    ∙ ap (put nat_cmp first v) (entries_of_slots (first + 1) slots) ∙ put_first first (first + 1) v slots (omega arith)

-- the entries of the map are those in the slots
pub entries-slots : (slots : List (Option NodeData)) → map.entries (nodes_in slots) ≡ entries_from 0 slots
entries-slots slots = entries_of_slots 0 slots
