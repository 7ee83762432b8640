-- Imported interfaces one after another, each as it is written.
use Rattle.std.specs.Prelude.{option_map, take, if◌then◌else◌}
use Rattle.std.specs.Cmp.Lexicographic.{pointwise}
use Rattle.std.proofs.lemmas.List.{append-nil, append_assoc}
use Rattle.std.proofs.Common.{◌≡◌, ℕ, ◌+◌, ◌==◌, Bool, true, false, true≢false, ◌||◌, List, [], ◌∷◌, ◌++◌, Some, slice_get, refl, sym, ap, subst, ◌∙◌, inl, inr}
use Rattle.wac_types_base.specs.declared.ids.WorldId.{WorldId}
use Rattle.wac_types_base.specs.declared.item.ItemKind.{ItemKind}
use Rattle.wac_types_base.specs.declared.item.«Type».{«Type» as TypeKind}
use Rattle.wac_types_base.specs.Record.{Collection}
use Rattle.wac_types_base.specs.Entries.{Name, value_at, has_name, put_name, names_of}
use Rattle.wac_types_base.specs.Graph.{Among}
use Rattle.wac_types_base.specs.Collection.{Stands, IsAcyclic, Grows}
use Rattle.wac_types_base.specs.Stated.{Stated, stated_of, kind_of, exports_of, imports_of as stated_imports}
use Rattle.wac_types_base.proofs.Lists.{among_last}
use Rattle.wac_types_base.proofs.Loops.{mapped_next}
use Rattle.wac_types_base.proofs.Looked.{take-one_more}
use Rattle.wac_types_base.proofs.Standing.{world_found}
use Rattle.wac_types_base.proofs.Stating.{stated_kept}
use Rattle.wac_types_base.proofs.Telling.{item_kind, kind_stated}
use Rattle.wac_types_written.specs.Forms.{IsOf, ItemsStand, stated_items}
use Rattle.wac_types_written.proofs.Growing.{items_kept}
use Rattle.wac_types_written.proofs.Ids.{world_imports_stand, world_exports_stand}
use Rattle.wac_composition.specs.Writable.{has_items}
use Rattle.wac_composition.specs.Circles.{beside, interfaces_in, stands_in, under, written_from, written_names, exports_written}
use Rattle.wac_types_parts.specs.Parts.{imports_of, world_exports_of}
use Rattle.wac_types_parts.proofs.PartLaws.{imports_there, imports_missing, world_exports_there, world_exports_missing}
use Rattle.wac_writable.proofs.HolderLaws.{has_put}
use Rattle.wac_types_parts.proofs.PartsStated.{stands_or_not, imports_are, world_exports_are}
use Rattle.wac_graph_causes.specs.declared.late.Late.{Late}
use Rattle.wac_graph_causes.specs.declared.standing.Standing.{Standing}
use Rattle.wac_graph_causes.specs.Late.{AddsLate, AreLate, interface_items, is_interface_item, late_in, world_written, written_after, written_beside}
use Rattle.wac_graph_causes.specs.Standing.{spelled_in}
use Rattle.wac_graph_causes.proofs.Orders.{has_last}

-- ---- imports that are interfaces

interface_kind : (k : ItemKind) → has_items (item_kind k) ≡ is_interface_item k
interface_kind (ItemKind.Ty (TypeKind.Resource r)) = refl
interface_kind (ItemKind.Ty (TypeKind.Func f)) = refl
interface_kind (ItemKind.Ty (TypeKind.Value v)) = refl
interface_kind (ItemKind.Ty (TypeKind.Interface i)) = refl
interface_kind (ItemKind.Ty (TypeKind.World w)) = refl
interface_kind (ItemKind.Ty (TypeKind.Module m)) = refl
interface_kind (ItemKind.Func f) = refl
interface_kind (ItemKind.Instance i) = refl
interface_kind (ItemKind.Component w) = refl
interface_kind (ItemKind.Module m) = refl
interface_kind (ItemKind.Value v) = refl

module _ (c : Collection) (a : IsAcyclic c) where
  pub interfaces_are : (xs : List (Name × ItemKind)) → ItemsStand c xs → interfaces_in (stated_items c xs) ≡ stated_items c (interface_items xs)
  interfaces_are [] h = refl
  interfaces_are (x ∷ xs) h = go (interfaces_are xs (λ y m. h y (inr m))) (has_items (kind_of (stated_of c x.1))) (is_interface_item x.1) (ap has_items (kind_stated c a x.1 (h x (inl refl))) ∙ interface_kind x.1)
    where
      go : interfaces_in (stated_items c xs) ≡ stated_items c (interface_items xs) → (b d : Bool) → b ≡ d
          → (if b then (x.0, stated_of c x.1) ∷ interfaces_in (stated_items c xs) else interfaces_in (stated_items c xs)) ≡ stated_items c (if d then x ∷ interface_items xs else interface_items xs)
      go e true true q = ap (λ l. (x.0, stated_of c x.1) ∷ l) e
      go e true false q = absurd (true≢false q)
      go e false true q = absurd (true≢false (sym q))
      go e false false q = e

  among_filtered : (xs : List (Name × ItemKind)) (x : Name × ItemKind) → Among x (interface_items xs) → Among x xs
  among_filtered [] x m = absurd m
  among_filtered (y ∷ xs) x m = go (is_interface_item y.1) (among_filtered xs x) m
    where
      go : (b : Bool) → (Among x (interface_items xs) → Among x xs) → Among x (if b then y ∷ interface_items xs else interface_items xs) → Among x (y ∷ xs)
      go true f (inl e) = inl e
      go true f (inr n) = inr (f n)
      go false f n = inr (f n)

  pub imports_stand : (w : WorldId) → ItemsStand c (imports_of c w)
  imports_stand w = elim (stands_or_not c (ItemKind.Component w)) [
    | inl s ↦ let v = world_found c w s in subst (ItemsStand c) (sym (imports_there c w v.value v.at v.own)) (world_imports_stand c a w v.value v.at v.own)
    | inr n ↦ subst (ItemsStand c) (sym (imports_missing c w n)) (λ x m. absurd m)
  ]

  pub interfaces_stand : (w : WorldId) (xs : List (Name × ItemKind)) → xs ≡ interface_items (imports_of c w) → ItemsStand c xs
  interfaces_stand w xs e x m = imports_stand w x (among_filtered (imports_of c w) x (subst (Among x) e m))

  -- what is added in the order in which the interfaces of a world are written
  pub world_added : (spell : Name → Name) (w : WorldId) (xs : List (Name × ItemKind)) (order : List Name) → xs ≡ interface_items (imports_of c w)
      → order ≡ written_names spell (stated_items c xs) → written_after c spell xs [] order ≡ world_written c spell w
  world_added spell w xs order e o =
      ap (written_from spell (stated_items c xs) []) o
      ∙ ap (λ is. written_from spell is [] (written_names spell is)) (ap (stated_items c) e ∙ sym (interfaces_are (imports_of c w) (imports_stand w)))

  pub exports_stand : (w : WorldId) → ItemsStand c (world_exports_of c w)
  exports_stand w = elim (stands_or_not c (ItemKind.Component w)) [
    | inl s ↦ let v = world_found c w s in subst (ItemsStand c) (sym (world_exports_there c w v.value v.at v.own)) (world_exports_stand c a w v.value v.at v.own)
    | inr n ↦ subst (ItemsStand c) (sym (world_exports_missing c w n)) (λ x m. absurd m)
  ]

  pub exported_stand : (w : WorldId) (xs : List (Name × ItemKind)) → xs ≡ interface_items (world_exports_of c w) → ItemsStand c xs
  exported_stand w xs e x m = exports_stand w x (among_filtered (world_exports_of c w) x (subst (Among x) e m))

  named_items : (xs : List (Name × ItemKind)) → names_of (stated_items c xs) ≡ names_of xs
  named_items [] = refl
  named_items (x ∷ xs) = ap (λ l. x.0 ∷ l) (named_items xs)

  -- what is added in the order in which the exports of a package are written
  pub exports_added : (w : WorldId) (xs : List (Name × ItemKind)) (names order : List Name) → xs ≡ interface_items (world_exports_of c w) → names ≡ names_of (imports_of c w)
      → order ≡ written_names (λ n. n) (stated_items c xs) → written_after c (λ n. n) xs names order ≡ exports_written (stated_of c (ItemKind.Component w))
  exports_added w xs names order e n o =
      let es : stated_items c xs ≡ interfaces_in (exports_of (stated_of c (ItemKind.Component w))) = ap (stated_items c) e ∙ sym (interfaces_are (world_exports_of c w) (exports_stand w)) ∙ ap interfaces_in (sym (world_exports_are c a w)) in
      let is : names ≡ names_of (stated_imports (stated_of c (ItemKind.Component w))) = n ∙ sym (named_items (imports_of c w)) ∙ ap names_of (sym (imports_are c a w)) in
      ap (written_from (λ n. n) (stated_items c xs) names) o
      ∙ (λ i. written_from (λ n. n) (es i) (is i) (written_names (λ n. n) (es i)))

-- ---- what is held

module _ (c d : Collection) (g : Grows c d) where
  items_late : (ls : List Late) → ((l : Late) → Among l ls → Stands c l.item) → late_in d ls ≡ late_in c ls
  items_late [] h = refl
  items_late (l ∷ ls) h = ap (λ x. (l.name, x) ∷ late_in d ls) (stated_kept c d g l.item (h l (inl refl))) ∙ ap (λ r. (l.name, stated_of c l.item) ∷ r) (items_late ls (λ k m. h k (inr m)))

  pub late_kept : (ls : List Late) (es : List (Name × Stated)) → AreLate c ls es → AreLate d ls es
  late_kept ls es h = record { stand = λ l m. g.stand l.item (h.stand l m); are = items_late ls h.stand ∙ h.are }

  pub adds_nothing : (ls : List Late) → AddsLate c d ls ls []
  adds_nothing ls es h = subst (AreLate d ls) (sym (append-nil es)) (late_kept ls es h)

  pub adds_one : (l : Late) (x : Stated) (ls ms : List Late) → IsOf d x l.item → ms ≡ ls ++ l ∷ [] → AddsLate c d ls ms ((l.name, x) ∷ [])
  adds_one l x ls ms is e es h = subst (λ r. AreLate d r (es ++ (l.name, x) ∷ [])) (sym e) (record {
    stand = λ k m. elim (among_last k l ls m) [ inl o ↦ g.stand k.item (h.stand k o) | inr q ↦ subst (λ (k : Late). Stands d k.item) (sym q) is.stands ];
    are = mapped_next (λ (k : Late). (k.name, stated_of d k.item)) ls l ∙ (λ i. (items_late ls h.stand ∙ h.are) i ++ (l.name, is.states i) ∷ []);
  })

pub adds_then : (a b c : Collection) (x y z : List Late) (p q : List (Name × Stated)) → AddsLate a b x y p → AddsLate b c y z q → AddsLate a c x z (p ++ q)
adds_then a b c x y z p q f g es h = subst (AreLate c z) (append_assoc es p q) (g (es ++ p) (f es h))

pub adds_as : (a b : Collection) (x y : List Late) (p q : List (Name × Stated)) → p ≡ q → AddsLate a b x y p → AddsLate a b x y q
adds_as a b x y p q e f = subst (AddsLate a b x y) e f

-- ---- one after another

module _ (spell : Name → Name) (imports : List (Name × Stated)) where
  abbrev written_at : List Name → Name → List (Name × Stated)
  written_at ns x = under spell imports x (option_map (beside (stands_in spell imports ns)) (value_at imports x))

  from_last : (ns xs : List Name) (x : Name) → written_from spell imports ns (xs ++ x ∷ []) ≡ written_from spell imports ns xs ++ written_at (ns ++ xs) x
  from_last ns [] x = append-nil (written_at ns x) ∙ ap (λ l. written_at l x) (sym (append-nil ns))
  from_last ns (y ∷ xs) x =
      ap (λ l. written_at ns y ++ l) (from_last (ns ++ y ∷ []) xs x)
      ∙ sym (append_assoc (written_at ns y) (written_from spell imports (ns ++ y ∷ []) xs) (written_at ((ns ++ y ∷ []) ++ xs) x))
      ∙ ap (λ l. (written_at ns y ++ written_from spell imports (ns ++ y ∷ []) xs) ++ written_at l x) (append_assoc ns (y ∷ []) xs)

module _ (c d : Collection) (g : Grows c d) (xs : List (Name × ItemKind)) (stand : ItemsStand c xs) (s : Standing) (order : List Name) (i : ℕ) (x : Name) (at : slice_get order i ≡ Some x)
    (before : List Name) (known : (n : Name) → has_name s.names.now n ≡ has_name (before ++ take i order) n) where
  abbrev spell : Name → Name
  spell = spelled_in s.placed

  -- the next is written beside those before it
  pub written_next : written_beside d s xs x ≡ written_at spell (stated_items c xs) (before ++ take i order) x
  written_next =
      (λ j. under spell [] x (option_map (beside (λ n. has_name s.names.now (spell n))) (value_at (items_kept c d g xs stand j) x)))
      ∙ (λ j. under spell [] x (option_map (beside (λ n. known (spell n) j)) (value_at (stated_items c xs) x)))

  pub written_more : written_after c spell xs before (take i order) ++ written_beside d s xs x ≡ written_after c spell xs before (take (i + 1) order)
  written_more =
      ap (λ l. written_after c spell xs before (take i order) ++ l) written_next
      ∙ sym (from_last spell (stated_items c xs) before (take i order) x)
      ∙ ap (written_after c spell xs before) (sym (take-one_more order i x at))

-- the names that stand, with one more
pub standing_more : (before order : List Name) (i : ℕ) (x : Name) → slice_get order i ≡ Some x → (old new : List Name) → new ≡ put_name old x → ((n : Name) → has_name old n ≡ has_name (before ++ take i order) n)
    → (n : Name) → has_name new n ≡ has_name (before ++ take (i + 1) order) n
standing_more before order i x at old new e h n =
    ap (λ l. has_name l n) e ∙ has_put old x n ∙ ap (λ b. b || pointwise ◌==◌ n x) (h n)
    ∙ sym (has_last (before ++ take i order) x n) ∙ ap (λ l. has_name l n) (append_assoc before (take i order) (x ∷ []) ∙ ap (λ l. before ++ l) (sym (take-one_more order i x at)))
