-- The interfaces that types are used from, one after another.
use Rattle.std.proofs.Common.{◌≡◌, ℕ, zero, suc, ◌+◌, ◌<◌, List, [], ◌∷◌, ◌++◌, map, length, drop, Option, Some, None, Bool, true, false, ◌==◌, if◌then◌else◌, slice_get, get_or, refl, sym, ap, ◌∙◌, arith, inl, inr}
use Rattle.std.specs.Borrow.{Bor}
use Rattle.std.specs.Cmp.Lexicographic.{pointwise}
use Rattle.indexmap.specs.IndexMap.{insert_entry}
use Rattle.wac_types_base.specs.declared.ids.InterfaceId.{InterfaceId}
use Rattle.wac_types_base.specs.declared.item.ItemKind.{ItemKind}
use Rattle.wac_types_base.specs.declared.defined.UsedType.{UsedType}
use Rattle.wac_types_base.specs.declared.defined.Interface.{Interface}
use Rattle.wac_types_base.specs.declared.defined.World.{World}
use Rattle.wac_types_base.specs.Entries.{Name, values_of, put_entry}
use Rattle.wac_types_base.specs.Graph.{Among}
use Rattle.wac_types_base.specs.Record.{Collection}
use Rattle.wac_types_base.specs.Collection.{Slot, SlotStands, HasChildren, Stands, IsAcyclic, item_node, interface_entry, world_entry, items, used}
use Rattle.wac_types_base.specs.Parts.{identifier_in}
use Rattle.wac_types_base.specs.Implicit.{used_interfaces, uses_in, instance_uses, all_uses, implicit_interfaces, named, then_on, by_identifier, shown}
use Rattle.wac_types_base.proofs.Adding.{All-among, Among-left, Among-right}
use Rattle.wac_types_base.proofs.Loops.{get-place}
use Rattle.wac_types_base.proofs.Slots.{entry_at-is}
use Rattle.wac_types_base.proofs.Telling.{child_stands}
use Rattle.wac_types_base.proofs.Looked.{among-get}

pub drop_next : {X : Type 0} (xs : List X) (i : ℕ) (x : X) → slice_get xs i ≡ Some x → drop i xs ≡ x ∷ drop (i + 1) xs
drop_next [] i x e = absurd (cc e)
drop_next (y ∷ xs) zero x e = ap (λ z. z ∷ xs) (cc e)
drop_next (y ∷ xs) (suc i) x e = let n : suc i + 1 ≡ suc (i + 1) = omega arith in rw n (drop_next xs i x e)

pub among_at : {X : Type 0} (xs : List X) (i : ℕ) (x : X) → i < length xs → x ≡ get_or xs i x → Among x xs
among_at xs i x h e = among-get xs i x (get-place xs i x h e)

-- one interface that has an identifier
pub by_step : (c : Collection) (es : List (Name × ItemKind)) (i : InterfaceId) (is : List InterfaceId) (x : Interface) (n : Name) → slice_get c.interfaces i.index ≡ Some x → x.id ≡ Some n → by_identifier c es (i ∷ is) ≡ by_identifier c (put_entry es n (ItemKind.Instance i)) is
by_step c es i is x n at has = ap (λ o. then_on (named es i o) (λ fs. by_identifier c fs is)) (ap identifier_in at ∙ has)

pub by_append : (c : Collection) (xs ys : List InterfaceId) (es : List (Name × ItemKind)) → by_identifier c es (xs ++ ys) ≡ then_on (by_identifier c es xs) (λ fs. by_identifier c fs ys)
by_append c [] ys es = refl
by_append c (x ∷ xs) ys es = by_name (named es x (identifier_in (slice_get c.interfaces x.index))) (by_append c xs ys)
  where
    by_name : (o : Option (List (Name × ItemKind))) → ((es : List (Name × ItemKind)) → by_identifier c es (xs ++ ys) ≡ then_on (by_identifier c es xs) (λ fs. by_identifier c fs ys)) →
        then_on o (λ fs. by_identifier c fs (xs ++ ys)) ≡ then_on (then_on o (λ fs. by_identifier c fs xs)) (λ fs. by_identifier c fs ys)
    by_name None h = refl
    by_name (Some fs) h = h fs

pub shown_insert : {T : Type 0} (es : List (Bor (List ℕ) × T)) (k : Bor (List ℕ)) (v : T) → shown (insert_entry (λ a b. pointwise ◌==◌ a.now b.now) es k v) ≡ put_entry (shown es) k.now v
shown_insert [] k v = refl
shown_insert (e ∷ es) k v = by_test (pointwise ◌==◌ k.now e.0.now) (shown_insert es k v)
  where
    by_test : (b : Bool) → shown (insert_entry (λ a b. pointwise ◌==◌ a.now b.now) es k v) ≡ put_entry (shown es) k.now v →
        shown (if b then (e.0, v) ∷ es else e ∷ insert_entry (λ a b. pointwise ◌==◌ a.now b.now) es k v) ≡ (if b then (e.0.now, v) ∷ shown es else (e.0.now, e.1) ∷ put_entry (shown es) k.now v)
    by_test true h = refl
    by_test false h = ap (λ l. (e.0.now, e.1) ∷ l) h

used_among : (us : List UsedType) (rest : List Slot) (u : UsedType) → Among u us → Among (Some (ItemKind.Instance u.interface)) (map (λ u. Some (ItemKind.Instance u.interface)) us ++ rest)
used_among [] rest u m = absurd m
used_among (x ∷ us) rest u (inl e) = inl (ap (λ u. Some (ItemKind.Instance u.interface)) e)
used_among (x ∷ us) rest u (inr m) = inr (used_among us rest u m)

some_among : (ks : List ItemKind) (k : ItemKind) → Among k ks → Among (Some k) (map Some ks)
some_among [] k m = absurd m
some_among (x ∷ ks) k (inl e) = inl (ap Some e)
some_among (x ∷ ks) k (inr m) = inr (some_among ks k m)

-- the interfaces that an interface that stands uses types from stand
pub interface_uses_stand : (c : Collection) → IsAcyclic c → (i : InterfaceId) (x : Interface) → slice_get c.interfaces i.index ≡ Some x → i.collection ≡ c.number → (u : UsedType) → Among u (values_of x.uses) → Stands c (ItemKind.Instance u.interface)
unfolding item_node
interface_uses_stand c a i x at own u m =
    child_stands c a (ItemKind.Instance i) (interface_entry x) (entry_at-is interface_entry c.number c.interfaces i.collection i.index x at own)
    (ItemKind.Instance u.interface) (used_among (values_of x.uses) (items x.exports) u m)

pub world_uses_stand : (c : Collection) (w : World) → HasChildren c (world_entry w) → (u : UsedType) → Among u (values_of w.uses) → Stands c (ItemKind.Instance u.interface)
world_uses_stand c w has u m = All-among (SlotStands c) (world_entry w).1 (Some (ItemKind.Instance u.interface)) has (used_among (values_of w.uses) (items w.imports ++ items w.exports) u m)

pub world_imports_stand : (c : Collection) (w : World) → HasChildren c (world_entry w) → (k : ItemKind) → Among k (values_of w.imports) → Stands c k
world_imports_stand c w has k m =
    All-among (SlotStands c) (world_entry w).1 (Some k) has (Among-right (Some k) (used w.uses) (items w.imports ++ items w.exports) (Among-left (Some k) (items w.imports) (items w.exports) (some_among (values_of w.imports) k m)))

-- what is no instance uses nothing
pub no_uses : (c : Collection) (k : ItemKind) → ((i : InterfaceId) → k ≡ ItemKind.Instance i → ⊥) → instance_uses c k ≡ []
no_uses c (ItemKind.Ty t) h = refl
no_uses c (ItemKind.Func f) h = refl
no_uses c (ItemKind.Instance i) h = absurd (h i refl)
no_uses c (ItemKind.Component w) h = refl
no_uses c (ItemKind.Module m) h = refl
no_uses c (ItemKind.Value v) h = refl

pub place_or : {X : Type 0} (xs : List X) (i : ℕ) (d : X) → i < length xs → slice_get xs i ≡ Some (get_or xs i d)
place_or [] i d h = absurd (omega arith)
place_or (x ∷ xs) zero d h = refl
place_or (x ∷ xs) (suc i) d h = place_or xs i d (omega arith)

-- one import, then those behind it
pub all_step : (c : Collection) (es : List (Name × ItemKind)) (ks : List ItemKind) (i : ℕ) (k : ItemKind) → slice_get ks i ≡ Some k → by_identifier c es (all_uses c (drop i ks)) ≡ then_on (by_identifier c es (instance_uses c k)) (λ fs. by_identifier c fs (all_uses c (drop (i + 1) ks)))
all_step c es ks i k at = ap (λ l. by_identifier c es (all_uses c l)) (drop_next ks i k at) ∙ by_append c (instance_uses c k) (all_uses c (drop (i + 1) ks)) es

pub uses_of : (c : Collection) (i : InterfaceId) (x : Interface) (us : List UsedType) → slice_get c.interfaces i.index ≡ Some x → us ≡ values_of x.uses → instance_uses c (ItemKind.Instance i) ≡ used_interfaces us
uses_of c i x us at is = ap uses_in at ∙ ap used_interfaces (sym is)

-- the world's own uses, and then the others
pub implicit_step : (c : Collection) (w : World) (us : List UsedType) (ks : List ItemKind) → us ≡ values_of w.uses → ks ≡ values_of w.imports → by_identifier c [] (implicit_interfaces c w) ≡ then_on (by_identifier c [] (used_interfaces us)) (λ fs. by_identifier c fs (all_uses c ks))
implicit_step c w us ks e f =
    ap (λ us. by_identifier c [] (used_interfaces us ++ all_uses c (values_of w.imports))) (sym e)
    ∙ ap (λ ks. by_identifier c [] (used_interfaces us ++ all_uses c ks)) (sym f) ∙ by_append c (used_interfaces us) (all_uses c ks) []
