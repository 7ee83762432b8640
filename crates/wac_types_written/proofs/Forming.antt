-- What is made of the parts of an interface or a world is the form of it.
use Rattle.std.proofs.Common.{◌≡◌, ℕ, suc, ◌+◌, List, [], ◌∷◌, ◌++◌, map, take, Option, Some, None, slice_get, refl, sym, ap, subst, ◌∙◌, inl, inr}
use Rattle.wac_types_base.specs.declared.item.«Type».{«Type» as TypeKind}
use Rattle.wac_types_base.specs.declared.item.ItemKind.{ItemKind}
use Rattle.wac_types_base.specs.declared.ids.InterfaceId.{InterfaceId}
use Rattle.wac_types_base.specs.declared.ids.WorldId.{WorldId}
use Rattle.wac_types_base.specs.declared.defined.UsedType.{UsedType}
use Rattle.wac_types_base.specs.declared.defined.Interface.{Interface}
use Rattle.wac_types_base.specs.declared.defined.World.{World}
use Rattle.wac_types_base.specs.Record.{Collection}
use Rattle.wac_types_base.specs.Entries.{AreDistinct, IsNew, Name, names_of, with_values}
use Rattle.wac_types_base.specs.Graph.{Among, node, nodes}
use Rattle.wac_types_base.specs.Collection.{Shape, Stands, IsAcyclic, Grows, items, size_of, type_of, used}
use Rattle.wac_types_base.specs.Stated.{IsInterface, IsWorld, Stated, Used, as_type, identifier_of, interface_of, relabelled, world_of, stated_of, stated_use}
use Rattle.wac_types_base.proofs.Adding.{Grows-trans}
use Rattle.wac_types_base.proofs.Loops.{map-append, map-one_more, names-with_values}
use Rattle.wac_types_base.proofs.Slots.{stands_typed_interface, stands_typed_world}
use Rattle.wac_types_base.proofs.Standing.{interface_found, world_found}
use Rattle.wac_types_base.proofs.Telling.{item_kind, kind_stated, row_size, size_stated}
use Rattle.wac_types_written.specs.Components.{component_of}
use Rattle.wac_types_written.specs.Forms.{AreFormed, IsOf, ItemsStand, UsesFormed, UsesStand, formed_use, stated_items, stated_uses}
use Rattle.wac_types_written.specs.Written.{WorldMaker, as_component_type, formed, wrapped, written, written_by, written_definition}
use Rattle.wac_types_written.proofs.Growing.{items_formed_kept, items_kept, stated_kept, uses_formed_kept, uses_kept}
use Rattle.wac_types_written.proofs.Ids.{IsOther, interface_states, interface_type_stands, interface_type_states, world_size, world_states, world_type_stands, world_type_states}
use Rattle.wac_types_written.proofs.Loops.{place_new}
use Rattle.wac_types_written.proofs.Shapes.{interface_by_parts, interface_type_by_parts, world_by_parts, world_type_by_parts}
use Rattle.wac_types_written.proofs.Stepping.{row_append}
use Rattle.wac_types_written.proofs.Typing.{items_stand_both}

-- ---- maps in a larger collection

items_formed : (make : WorldMaker) (c d e : Collection) → Grows c d → Grows d e → (xs ys : List (Name × ItemKind)) → ItemsStand c xs → AreFormed make d xs ys → stated_items e ys ≡ with_values (formed make) (stated_items c xs)
items_formed make c d e g h xs ys s w = items_kept d e h ys w.stand ∙ w.state ∙ ap (with_values (formed make)) (items_kept c d g xs s)

uses_formed : (make : WorldMaker) (c d e : Collection) → Grows c d → Grows d e → (us vs : List (Name × UsedType)) → UsesStand c us → UsesFormed make d us vs → stated_uses e vs ≡ map (formed_use make) (stated_uses c us)
uses_formed make c d e g h us vs s w = uses_kept d e h vs w.stand ∙ w.state ∙ ap (map (formed_use make)) (uses_kept c d g us s)

-- ---- interfaces and worlds

module _ (make : WorldMaker) (c : Collection) (a : IsAcyclic c) where
  pub interface_formed : (d e f : Collection) → Grows c d → Grows d e → Grows e f → (id : InterfaceId) (i : Interface) → slice_get c.interfaces id.index ≡ Some i → id.collection ≡ c.number
      → (n : Option Name) (us vs : List (Name × UsedType)) (xs ys : List (Name × ItemKind)) → n ≡ i.id → us ≡ i.uses → xs ≡ i.exports → UsesStand c us → ItemsStand c xs → UsesFormed make d us vs → AreFormed make e xs ys
      → interface_of n (stated_uses f vs) (stated_items f ys) ≡ formed make (stated_of c (ItemKind.Instance id))
  interface_formed d e f g h k id i at own n us vs xs ys ni ui xi us_stand xs_stand uw xw =
      (λ j. interface_of n (uses_formed make c d f g (Grows-trans d e f h k) us vs us_stand uw j) (items_formed make c e f (Grows-trans c d e g h) k xs ys xs_stand xw j))
      ∙ sym (interface_by_parts make n (stated_uses c us) (stated_items c xs))
      ∙ (λ j. formed make (interface_of (ni j) (stated_uses c (ui j)) (stated_items c (xi j))))
      ∙ ap (formed make) (sym (interface_states c a id i at own))

  pub world_formed : (d e f h : Collection) → Grows c d → Grows d e → Grows e f → (id : WorldId) (w : World) → slice_get c.worlds id.index ≡ Some w → id.collection ≡ c.number
      → (n : Option Name) (us vs : List (Name × UsedType)) (is js xs ys : List (Name × ItemKind)) → n ≡ w.id → us ≡ w.uses → is ≡ w.imports → xs ≡ w.exports → UsesStand c us → ItemsStand c is → ItemsStand c xs
      → UsesFormed make d us vs → AreFormed make e is js → AreFormed make f xs ys → make n (stated_uses f vs) (stated_items f js) (stated_items f ys) ≡ formed make (stated_of c (ItemKind.Component id))
  world_formed d e f h g k l id w at own n us vs is js xs ys nw uw iw xw us_stand is_stand xs_stand uu ii xx =
      (λ j. make n (uses_formed make c d f g (Grows-trans d e f k l) us vs us_stand uu j) (items_formed make c e f (Grows-trans c d e g k) l is js is_stand ii j) (items_last j))
      ∙ sym (world_by_parts make n (stated_uses c us) (stated_items c is) (stated_items c xs))
      ∙ (λ j. formed make (world_of (nw j) (stated_uses c (uw j)) (stated_items c (iw j)) (stated_items c (xw j))))
      ∙ ap (formed make) (sym (world_states c a id w at own))
    where
      items_last : stated_items f ys ≡ with_values (formed make) (stated_items c xs)
      items_last = xx.state ∙ ap (with_values (formed make)) (items_kept c f (Grows-trans c d f g (Grows-trans d e f k l)) xs xs_stand)

  -- ---- types of them

  pub interface_type_formed : (d : Collection) → IsAcyclic d → (id form : InterfaceId) → Stands c (ItemKind.Instance id) → IsOf d (formed make (stated_of c (ItemKind.Instance id))) (ItemKind.Instance form) → IsOf d (formed make (stated_of c (ItemKind.Ty (TypeKind.Interface id)))) (ItemKind.Ty (TypeKind.Interface form))
  interface_type_formed d b id form s h =
      let f = interface_found c id s in
      let e = interface_states c a id f.value f.at f.own in
      record {
        stands = interface_type_stands d form h.stands;
        states = interface_type_states d b form h.stands ∙ ap as_type (h.states ∙ ap (formed make) e)
            ∙ sym (interface_type_by_parts make f.value.id (stated_uses c f.value.uses) (stated_items c f.value.exports)) ∙ ap (λ x. formed make (as_type x)) (sym e)
            ∙ ap (formed make) (sym (interface_type_states c a id s));
      }

  pub world_type_formed : (d : Collection) → IsAcyclic d → (id form : WorldId) → Stands c (ItemKind.Component id) → IsOf d (formed make (stated_of c (ItemKind.Component id))) (ItemKind.Component form) → IsOf d (formed make (stated_of c (ItemKind.Ty (TypeKind.World id)))) (ItemKind.Ty (TypeKind.World form))
  world_type_formed d b id form s h =
      let f = world_found c id s in
      let e = world_states c a id f.value f.at f.own in
      record {
        stands = world_type_stands d form h.stands;
        states = world_type_states d b form h.stands ∙ ap as_type (h.states ∙ ap (formed make) e)
            ∙ sym (world_type_by_parts make f.value.id (stated_uses c f.value.uses) (stated_items c f.value.imports) (stated_items c f.value.exports)) ∙ ap (λ x. formed make (as_type x)) (sym e)
            ∙ ap (formed make) (sym (world_type_states c a id s));
      }

module _ (c : Collection) (a : IsAcyclic c) where
  -- ---- sizes

  same_nodes : (f : Shape → Shape) (x : Stated) → nodes (relabelled f x) ≡ nodes x
  same_nodes f (node s ts) = refl

  pub interface_type_size : (id : InterfaceId) → Stands c (ItemKind.Ty (TypeKind.Interface id)) → size_of c (ItemKind.Instance id) ≡ size_of c (ItemKind.Ty (TypeKind.Interface id))
  interface_type_size id t =
      let i = stands_typed_interface c id t in
      size_stated c a (ItemKind.Instance id) i ∙ sym (ap nodes (interface_type_states c a id i) ∙ same_nodes type_of (stated_of c (ItemKind.Instance id))) ∙ sym (size_stated c a (ItemKind.Ty (TypeKind.Interface id)) t)

  pub world_type_size : (id : WorldId) → Stands c (ItemKind.Ty (TypeKind.World id)) → size_of c (ItemKind.Component id) ≡ size_of c (ItemKind.Ty (TypeKind.World id))
  world_type_size id t =
      let i = stands_typed_world c id t in
      size_stated c a (ItemKind.Component id) i ∙ sym (ap nodes (world_type_states c a id i) ∙ same_nodes type_of (stated_of c (ItemKind.Component id))) ∙ sym (size_stated c a (ItemKind.Ty (TypeKind.World id)) t)

  pub world_parts_size : (id : WorldId) (w : World) → slice_get c.worlds id.index ≡ Some w → id.collection ≡ c.number → size_of c (ItemKind.Component id) ≡ suc (row_size c (used w.uses) + (row_size c (items w.imports) + row_size c (items w.exports)))
  world_parts_size id w at own =
      world_size c a id w at own ∙ ap suc (row_append c (used w.uses) (items w.imports ++ items w.exports) ∙ ap (λ n. row_size c (used w.uses) + n) (row_append c (items w.imports) (items w.exports)))

-- ---- one more of a loop

pub items_none : (make : WorldMaker) (c : Collection) → AreFormed make c [] []
items_none make c = record { stand = λ x m. absurd m; state = refl }

pub uses_none : (make : WorldMaker) (c : Collection) → UsesFormed make c [] []
uses_none make c = record { stand = λ x m. absurd m; state = refl }

with_interface : Name → Option Name → Stated → Used
with_interface n o x = record { name = n; there = o; interface = x }

pub items_next : (make : WorldMaker) (d e : Collection) → Grows d e → (xs all : List (Name × ItemKind)) (i : ℕ) (n m : Name) (k form : ItemKind) → ItemsStand d xs → slice_get xs i ≡ Some (n, k) → Stands d k → m ≡ n → AreFormed make d (take i xs) all → ItemsStand d (take i xs)
    → IsOf e (formed make (stated_of d k)) form → AreFormed make e (take (i + 1) xs) (all ++ (m, form) ∷ [])
items_next make d e g xs all i n m k form s at sk name w front is =
    let v = items_formed_kept make d e g (take i xs) all front w in
    let one : List (Name × ItemKind) = (m, form) ∷ [] in
    record {
      stand = items_stand_both e all one v.stand (λ y j. subst (λ (z : Name × ItemKind). Stands e z.1) (sym (only_one j)) is.stands);
      state = map-append (λ (x : Name × ItemKind). (x.0, stated_of e x.1)) all one ∙ ap (λ l. l ++ (m, stated_of e form) ∷ []) v.state
          ∙ (λ j. with_values (formed make) (stated_items e (take i xs)) ++ (name j, (is.states ∙ ap (formed make) (sym (stated_kept d e g k sk))) j) ∷ [])
          ∙ sym (map-append (λ (x : Name × Stated). (x.0, formed make x.1)) (stated_items e (take i xs)) ((n, stated_of e k) ∷ []))
          ∙ ap (with_values (formed make)) (sym (map-one_more (λ (x : Name × ItemKind). (x.0, stated_of e x.1)) xs i (n, k) at));
    }
  where
    only_one : {y : Name × ItemKind} → Among y ((m, form) ∷ []) → y ≡ (m, form)
    only_one (inl e) = e
    only_one (inr k) = absurd k

pub uses_next : (make : WorldMaker) (d e : Collection) → Grows d e → (us all : List (Name × UsedType)) (i : ℕ) (n m : Name) (u v : UsedType) → slice_get us i ≡ Some (n, u) → Stands d (ItemKind.Instance u.interface) → m ≡ n → UsesFormed make d (take i us) all → UsesStand d (take i us)
    → v.name ≡ u.name → IsOf e (formed make (stated_of d (ItemKind.Instance u.interface))) (ItemKind.Instance v.interface) → UsesFormed make e (take (i + 1) us) (all ++ (m, v) ∷ [])
uses_next make d e g us all i n m u v at su name w front there is =
    let k = uses_formed_kept make d e g (take i us) all front w in
    let one : List (Name × UsedType) = (m, v) ∷ [] in
    record {
      stand = uses_stand_both all one k.stand (λ y j. subst (λ (z : Name × UsedType). Stands e (ItemKind.Instance z.1.interface)) (sym (only_one j)) is.stands);
      state = map-append (stated_use e) all one ∙ ap (λ l. l ++ stated_use e (m, v) ∷ []) k.state
          ∙ (λ j. map (formed_use make) (stated_uses e (take i us)) ++ with_interface_path j ∷ [])
          ∙ sym (map-append (formed_use make) (stated_uses e (take i us)) (stated_use e (n, u) ∷ []))
          ∙ ap (map (formed_use make)) (sym (map-one_more (stated_use e) us i (n, u) at));
    }
  where
    with_interface_path : stated_use e (m, v) ≡ formed_use make (stated_use e (n, u))
    with_interface_path = λ j. record { name = name j; there = there j; interface = (is.states ∙ ap (formed make) (sym (stated_kept d e g (ItemKind.Instance u.interface) su))) j }

    only_one : {y : Name × UsedType} → Among y ((m, v) ∷ []) → y ≡ (m, v)
    only_one (inl e) = e
    only_one (inr k) = absurd k

    uses_stand_both : (xs ys : List (Name × UsedType)) → UsesStand e xs → UsesStand e ys → UsesStand e (xs ++ ys)
    uses_stand_both [] ys h k x m = k x m
    uses_stand_both (y ∷ xs) ys h k x (inl e) = h x (inl e)
    uses_stand_both (y ∷ xs) ys h k x (inr m) = uses_stand_both xs ys (λ z n. h z (inr n)) k x m

-- its name is new
pub item_name_new : (make : WorldMaker) (c : Collection) (xs all : List (Name × ItemKind)) (i : ℕ) (n : Name) (k : ItemKind) → AreDistinct (names_of xs) → AreFormed make c (take i xs) all → slice_get xs i ≡ Some (n, k) → IsNew n all
item_name_new make c xs all i n k d w at =
    place_new xs i n k all d at (sym (names-with_values (stated_of c) all) ∙ ap names_of w.state ∙ names-with_values (formed make) (stated_items c (take i xs)) ∙ names-with_values (stated_of c) (take i xs))

use_names : (c : Collection) (us : List (Name × UsedType)) → map (λ (u : Used). u.name) (stated_uses c us) ≡ names_of us
use_names c [] = refl
use_names c (u ∷ us) = ap (λ l. u.0 ∷ l) (use_names c us)

formed_names : (make : WorldMaker) (us : List Used) → map (λ (u : Used). u.name) (map (formed_use make) us) ≡ map (λ (u : Used). u.name) us
formed_names make [] = refl
formed_names make (u ∷ us) = ap (λ l. u.name ∷ l) (formed_names make us)

pub use_name_new : (make : WorldMaker) (c : Collection) (us all : List (Name × UsedType)) (i : ℕ) (n : Name) (u : UsedType) → AreDistinct (names_of us) → UsesFormed make c (take i us) all → slice_get us i ≡ Some (n, u) → IsNew n all
use_name_new make c us all i n u d w at =
    place_new us i n u all d at (sym (use_names c all) ∙ ap (map (λ (u : Used). u.name)) w.state ∙ formed_names make (stated_uses c (take i us)) ∙ use_names c (take i us))

-- ---- what has no world in it

pub other_type : (t : TypeKind) → ((i : InterfaceId) → t ≡ TypeKind.Interface i → ⊥) → ((w : WorldId) → t ≡ TypeKind.World w → ⊥) → IsOther (ItemKind.Ty t)
other_type (TypeKind.Resource r) h k = tt
other_type (TypeKind.Func f) h k = tt
other_type (TypeKind.Value v) h k = tt
other_type (TypeKind.Interface i) h k = h i refl
other_type (TypeKind.World w) h k = k w refl
other_type (TypeKind.Module m) h k = tt

pub other_item : (k : ItemKind) → ((i : InterfaceId) → k ≡ ItemKind.Instance i → ⊥) → ((w : WorldId) → k ≡ ItemKind.Component w → ⊥) → ((t : TypeKind) → k ≡ ItemKind.Ty t → ⊥) → IsOther k
other_item (ItemKind.Ty t) h k l = absurd (l t refl)
other_item (ItemKind.Func f) h k l = tt
other_item (ItemKind.Instance i) h k l = h i refl
other_item (ItemKind.Component w) h k l = k w refl
other_item (ItemKind.Module m) h k l = tt
other_item (ItemKind.Value v) h k l = tt

-- ---- definitions

-- no type of an interface or a world
abbrev pub IsNoType : ItemKind → Type 0
IsNoType (ItemKind.Ty (TypeKind.Interface i)) = ⊥
IsNoType (ItemKind.Ty (TypeKind.World w)) = ⊥
IsNoType k = Unit {0}

module _ (i : Option Name) (us : List Used) (is es : List (Name × Stated)) where
  named_interface : (n : Name) → i ≡ Some n → written_definition (as_type (interface_of i us es)) ≡ wrapped n (written (interface_of i us es))
  named_interface n e = ap (λ o. written_by IsInterface o (written (as_type (interface_of i us es)))) e

  unnamed_interface : i ≡ None → written_definition (as_type (interface_of i us es)) ≡ written (as_type (interface_of i us es))
  unnamed_interface e = ap (λ o. written_by IsInterface o (written (as_type (interface_of i us es)))) e

  named_world : (n : Name) → i ≡ Some n → written_definition (as_type (world_of i us is es)) ≡ wrapped n (written (world_of i us is es))
  named_world n e = ap (λ o. written_by IsWorld o (written (as_type (world_of i us is es)))) e

  unnamed_world : i ≡ None → written_definition (as_type (world_of i us is es)) ≡ written (as_type (world_of i us is es))
  unnamed_world e = ap (λ o. written_by IsWorld o (written (as_type (world_of i us is es)))) e

module _ (c : Collection) (a : IsAcyclic c) where
  pub interface_named : (id : InterfaceId) (i : Interface) (n : Name) → slice_get c.interfaces id.index ≡ Some i → id.collection ≡ c.number → Stands c (ItemKind.Instance id) → i.id ≡ Some n → written_definition (stated_of c (ItemKind.Ty (TypeKind.Interface id))) ≡ wrapped n (written (stated_of c (ItemKind.Instance id)))
  interface_named id i n at own s e =
      let f = interface_states c a id i at own in
      ap written_definition (interface_type_states c a id s ∙ ap as_type f) ∙ named_interface i.id (stated_uses c i.uses) [] (stated_items c i.exports) n e ∙ ap (λ x. wrapped n (written x)) (sym f)

  pub interface_unnamed : (id : InterfaceId) (i : Interface) → slice_get c.interfaces id.index ≡ Some i → id.collection ≡ c.number → Stands c (ItemKind.Instance id) → i.id ≡ None → written_definition (stated_of c (ItemKind.Ty (TypeKind.Interface id))) ≡ written (stated_of c (ItemKind.Ty (TypeKind.Interface id)))
  interface_unnamed id i at own s e =
      let f = interface_type_states c a id s ∙ ap as_type (interface_states c a id i at own) in
      ap written_definition f ∙ unnamed_interface i.id (stated_uses c i.uses) [] (stated_items c i.exports) e ∙ ap written (sym f)

  pub world_named : (id : WorldId) (w : World) (n : Name) → slice_get c.worlds id.index ≡ Some w → id.collection ≡ c.number → Stands c (ItemKind.Component id) → w.id ≡ Some n → written_definition (stated_of c (ItemKind.Ty (TypeKind.World id))) ≡ wrapped n (written (stated_of c (ItemKind.Component id)))
  world_named id w n at own s e =
      let f = world_states c a id w at own in
      ap written_definition (world_type_states c a id s ∙ ap as_type f) ∙ named_world w.id (stated_uses c w.uses) (stated_items c w.imports) (stated_items c w.exports) n e ∙ ap (λ x. wrapped n (written x)) (sym f)

  pub world_unnamed : (id : WorldId) (w : World) → slice_get c.worlds id.index ≡ Some w → id.collection ≡ c.number → Stands c (ItemKind.Component id) → w.id ≡ None → written_definition (stated_of c (ItemKind.Ty (TypeKind.World id))) ≡ written (stated_of c (ItemKind.Ty (TypeKind.World id)))
  world_unnamed id w at own s e =
      let f = world_type_states c a id s ∙ ap as_type (world_states c a id w at own) in
      ap written_definition f ∙ unnamed_world w.id (stated_uses c w.uses) (stated_items c w.imports) (stated_items c w.exports) e ∙ ap written (sym f)

  -- what is neither is written as any item is
  pub plain_definition : (k : ItemKind) → Stands c k → IsNoType k → written_definition (stated_of c k) ≡ written (stated_of c k)
  plain_definition k s h = ap (λ j. written_by j (identifier_of (stated_of c k)) (written (stated_of c k))) (kind_stated c a k s) ∙ by_kind k h
    where
      by_kind : (j : ItemKind) → IsNoType j → written_by (item_kind j) (identifier_of (stated_of c k)) (written (stated_of c k)) ≡ written (stated_of c k)
      by_kind (ItemKind.Ty (TypeKind.Resource r)) h = refl
      by_kind (ItemKind.Ty (TypeKind.Func f)) h = refl
      by_kind (ItemKind.Ty (TypeKind.Value v)) h = refl
      by_kind (ItemKind.Ty (TypeKind.Interface i)) h = absurd h
      by_kind (ItemKind.Ty (TypeKind.World w)) h = absurd h
      by_kind (ItemKind.Ty (TypeKind.Module m)) h = refl
      by_kind (ItemKind.Func f) h = refl
      by_kind (ItemKind.Instance i) h = refl
      by_kind (ItemKind.Component w) h = refl
      by_kind (ItemKind.Module m) h = refl
      by_kind (ItemKind.Value v) h = refl

pub no_type : (k : ItemKind) → ((t : TypeKind) → k ≡ ItemKind.Ty t → ⊥) → IsNoType k
no_type (ItemKind.Ty t) h = absurd (h t refl)
no_type (ItemKind.Func f) h = tt
no_type (ItemKind.Instance i) h = tt
no_type (ItemKind.Component w) h = tt
no_type (ItemKind.Module m) h = tt
no_type (ItemKind.Value v) h = tt

pub other_no_type : (t : TypeKind) → IsOther (ItemKind.Ty t) → IsNoType (ItemKind.Ty t)
other_no_type (TypeKind.Resource r) h = tt
other_no_type (TypeKind.Func f) h = tt
other_no_type (TypeKind.Value v) h = tt
other_no_type (TypeKind.Interface i) h = h
other_no_type (TypeKind.World w) h = h
other_no_type (TypeKind.Module m) h = tt

-- a component type of the one export
pub wrapped_formed : (c d : Collection) → IsAcyclic d → (w : WorldId) (n m : Name) (k : ItemKind) (us : List (Name × UsedType)) (is es : List (Name × ItemKind)) → us ≡ [] → is ≡ [] → es ≡ (m, k) ∷ [] → m ≡ n → IsOf d (component_of c None us is es) (ItemKind.Component w)
    → IsOf d (wrapped n (stated_of c k)) (ItemKind.Ty (TypeKind.World w))
wrapped_formed c d b w n m k us is es u i e name h = record {
  stands = world_type_stands d w h.stands;
  states = world_type_states d b w h.stands ∙ ap as_type (h.states ∙ (λ j. component_of c None (u j) (i j) (e j)) ∙ ap (λ l. as_component_type (world_of None [] [] ((l, stated_of c k) ∷ []))) name);
}

pub one_stands : (c : Collection) (n : Name) (k : ItemKind) → Stands c k → ItemsStand c ((n, k) ∷ [])
one_stands c n k s x (inl e) = subst (λ (z : Name × ItemKind). Stands c z.1) (sym e) s
one_stands c n k s x (inr m) = absurd m
