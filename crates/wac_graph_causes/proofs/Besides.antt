-- An item with the uses of those interfaces alone that stand is made of parts that are so.
use Rattle.std.proofs.Common.{◌≡◌, ℕ, ◌+◌, List, [], ◌∷◌, ◌++◌, map, take, Option, Some, Bool, true, false, filter, if◌then◌else◌, slice_get, refl, sym, ap, subst, ◌∙◌, inl, inr}
use Rattle.std.specs.Option.{option_map}
use Rattle.wac_types_base.specs.declared.item.«Type».{«Type» as TypeKind}
use Rattle.wac_types_base.specs.declared.item.ItemKind.{ItemKind}
use Rattle.wac_types_base.specs.declared.ids.InterfaceId.{InterfaceId}
use Rattle.wac_types_base.specs.declared.defined.UsedType.{UsedType}
use Rattle.wac_types_base.specs.declared.defined.Interface.{Interface}
use Rattle.wac_types_base.specs.Record.{Collection}
use Rattle.wac_types_base.specs.Entries.{AreDistinct, IsNew, Name, names_of, with_values}
use Rattle.wac_types_base.specs.Graph.{Among, Wholes, node, no_more, more, hole}
use Rattle.wac_types_base.specs.Collection.{Shape, interface, type_of, Stands, IsAcyclic, Grows}
use Rattle.wac_types_base.specs.Stated.{Kind, IsInstance, IsInterface, Parts, Stated, Used, as_type, filled, folded_row, identifier_of, interface_of, kind_of, names, names_used, row, shape_kind, stated_of, stated_use, used_places}
use Rattle.wac_types_base.proofs.Adding.{Grows-trans}
use Rattle.wac_types_base.proofs.Lists.{among_filtered}
use Rattle.wac_types_base.proofs.Loops.{map-append, map-one_more, names-with_values}
use Rattle.wac_types_base.proofs.Standing.{interface_found}
use Rattle.wac_types_base.proofs.Telling.{item_kind, kind_stated}
use Rattle.wac_types_written.specs.Forms.{UsesStand, stated_items, stated_uses}
use Rattle.wac_types_written.specs.Written.{found_in}
use Rattle.wac_types_written.proofs.Growing.{items_kept, stated_kept, uses_kept}
use Rattle.wac_types_written.proofs.Ids.{interface_states, interface_type_stands, interface_type_states, interface_uses_stand}
use Rattle.wac_types_written.proofs.Loops.{place_new}
use Rattle.wac_types_written.proofs.Parts.{found_item, found_places, found_use, interface_parts}
use Rattle.wac_types_written.proofs.Typing.{items_stand_both}
use Rattle.wac_composition.specs.Circles.{beside, beside_at, is_standing, with_standing_uses}
use Rattle.wac_types_parts.proofs.PartLaws.{identifier_there}
use Rattle.wac_graph_causes.specs.Beside.{AreBeside, IsBeside, stands_named, standing_uses}

-- neither an instance nor an interface
abbrev pub IsNoInterface : Kind → Type 0
IsNoInterface IsInstance = ⊥
IsNoInterface IsInterface = ⊥
IsNoInterface k = Unit {0}

abbrev pub IsNoInstance : ItemKind → Type 0
IsNoInstance (ItemKind.Instance i) = ⊥
IsNoInstance (ItemKind.Ty (TypeKind.Interface i)) = ⊥
IsNoInstance k = Unit {0}

pub no_kind : (k : ItemKind) → IsNoInstance k → IsNoInterface (item_kind k)
no_kind (ItemKind.Instance i) h = absurd h
no_kind (ItemKind.Ty (TypeKind.Interface i)) h = absurd h
no_kind k h = tt

pub no_instance_type : (t : TypeKind) → ((i : InterfaceId) → t ≡ TypeKind.Interface i → ⊥) → IsNoInstance (ItemKind.Ty t)
no_instance_type (TypeKind.Interface i) h = h i refl
no_instance_type t h = tt

pub no_instance : (k : ItemKind) → ((i : InterfaceId) → k ≡ ItemKind.Instance i → ⊥) → ((t : TypeKind) → k ≡ ItemKind.Ty t → ⊥) → IsNoInstance k
no_instance (ItemKind.Instance i) h l = h i refl
no_instance (ItemKind.Ty t) h l = absurd (l t refl)
no_instance k h l = tt

module _ (stands : Name → Bool) where
  abbrev pub is_kept : Used → Bool
  is_kept u = is_standing stands (identifier_of u.interface)

  -- ---- what is no interface

  own_row : (ts : Wholes Shape) → row (map (option_map (λ x. x.0)) (folded_row (beside_at stands) ts)) ≡ ts
  own_row no_more = refl
  own_row (hole ts) = ap (λ l. hole l) (own_row ts)
  own_row (more t ts) = ap (λ l. more t l) (own_row ts)

  plain_beside : (s : Shape) (ts : Wholes Shape) → IsNoInterface (shape_kind s) → beside stands (node s ts) ≡ node s ts
  plain_beside (interface i us es) ts h = absurd h
  plain_beside (type_of (interface i us es)) ts h = absurd h
  plain_beside s ts h = ap (node s) (own_row ts)

  pub no_interface_beside : (x : Stated) → IsNoInterface (kind_of x) → beside stands x ≡ x
  no_interface_beside (node s ts) h = plain_beside s ts h

  -- ---- interfaces

  own_uses : (us : List Used) → map (λ (u : Used × Stated). u.0) (map (found_use (beside stands)) us) ≡ us
  own_uses [] = refl
  own_uses (u ∷ us) = ap (λ l. u ∷ l) (own_uses us)

  items_with : (xs : List (Name × Stated)) → found_in (map (found_item (beside stands)) xs) ≡ with_values (beside stands) xs
  items_with [] = refl
  items_with (x ∷ xs) = ap (λ l. (x.0, beside stands x.1) ∷ l) (items_with xs)

  pub interface_beside : (i : Option Name) (us : List Used) (es : List (Name × Stated)) → beside stands (interface_of i us es) ≡ interface_of i (filter is_kept us) (with_values (beside stands) es)
  interface_beside i us es =
      ap (beside_at stands (interface i (names_used us) (names es))) (found_places (beside_at stands) (used_places us ++ filled es))
      ∙ ap (λ (p : Parts Stated). with_standing_uses stands p) (interface_parts (beside stands) i us es)
      ∙ (λ j. interface_of i (filter is_kept (own_uses us j)) (items_with es j))

  pub interface_type_beside : (i : Option Name) (us : List Used) (es : List (Name × Stated)) → beside stands (as_type (interface_of i us es)) ≡ as_type (beside stands (interface_of i us es))
  interface_type_beside i us es = refl

  module _ (c : Collection) (a : IsAcyclic c) where
    -- ---- uses

    named_same : (id : InterfaceId) → Stands c (ItemKind.Instance id) → is_standing stands (identifier_of (stated_of c (ItemKind.Instance id))) ≡ stands_named stands c id
    named_same id s =
        let f = interface_found c id s in
        ap (λ x. is_standing stands (identifier_of x)) (interface_states c a id f.value f.at f.own) ∙ ap (is_standing stands) (sym (identifier_there c id f.value f.at f.own))

    pub uses_filtered : (us : List (Name × UsedType)) → UsesStand c us → filter is_kept (stated_uses c us) ≡ stated_uses c (standing_uses stands c us)
    uses_filtered [] h = refl
    uses_filtered (u ∷ us) h =
        ap (λ b. if b then stated_use c u ∷ rest else rest) (named_same u.1.interface (h u (inl refl)))
        ∙ by_test (stands_named stands c u.1.interface) (uses_filtered us (λ y m. h y (inr m)))
      where
        rest : List Used
        rest = filter is_kept (stated_uses c us)

        by_test : (b : Bool) → rest ≡ stated_uses c (standing_uses stands c us) → (if b then stated_use c u ∷ rest else rest) ≡ stated_uses c (if b then u ∷ standing_uses stands c us else standing_uses stands c us)
        by_test true e = ap (λ l. stated_use c u ∷ l) e
        by_test false e = e

    pub uses_stand : (us : List (Name × UsedType)) → UsesStand c us → UsesStand c (standing_uses stands c us)
    uses_stand us h u m = h u (among_filtered (λ (u : Name × UsedType). stands_named stands c u.1.interface) us u m).0

    -- ---- interfaces of the collection

    pub interface_made : (e f : Collection) → Grows c e → Grows e f → (id : InterfaceId) (i : Interface) → slice_get c.interfaces id.index ≡ Some i → id.collection ≡ c.number
        → (n : Option Name) (us vs : List (Name × UsedType)) (xs ys : List (Name × ItemKind)) → n ≡ i.id → us ≡ i.uses → xs ≡ i.exports → vs ≡ standing_uses stands c us → AreBeside stands c e xs ys
        → interface_of n (stated_uses f vs) (stated_items f ys) ≡ beside stands (stated_of c (ItemKind.Instance id))
    interface_made e f g h id i at own n us vs xs ys ni ui xi vi made =
        (λ j. interface_of n (uses_made j) (items_made j))
        ∙ sym (interface_beside n (stated_uses c us) (stated_items c xs))
        ∙ (λ j. beside stands (interface_of (ni j) (stated_uses c (ui j)) (stated_items c (xi j))))
        ∙ ap (beside stands) (sym (interface_states c a id i at own))
      where
        us_stand : UsesStand c us
        us_stand = subst (UsesStand c) (sym ui) (interface_uses_stand c a id i at own)

        uses_made : stated_uses f vs ≡ filter is_kept (stated_uses c us)
        uses_made = ap (stated_uses f) vi ∙ uses_kept c f (Grows-trans c e f g h) (standing_uses stands c us) (uses_stand us us_stand) ∙ sym (uses_filtered us us_stand)

        items_made : stated_items f ys ≡ with_values (beside stands) (stated_items c xs)
        items_made = items_kept e f h ys made.stand ∙ made.state

    pub type_made : (d : Collection) → IsAcyclic d → (id made : InterfaceId) → Stands c (ItemKind.Instance id) → IsBeside stands c d (ItemKind.Instance id) (ItemKind.Instance made) → IsBeside stands c d (ItemKind.Ty (TypeKind.Interface id)) (ItemKind.Ty (TypeKind.Interface made))
    type_made d b id made s h =
        let f = interface_found c id s in
        let e = interface_states c a id f.value f.at f.own in
        record {
          stands = interface_type_stands d made h.stands;
          states = interface_type_states d b made h.stands ∙ ap as_type (h.states ∙ ap (beside stands) e)
              ∙ sym (interface_type_beside f.value.id (stated_uses c f.value.uses) (stated_items c f.value.exports)) ∙ ap (λ x. beside stands (as_type x)) (sym e)
              ∙ ap (beside stands) (sym (interface_type_states c a id s));
        }

    -- what is no interface stays as it is
    pub other_beside : (k : ItemKind) → Stands c k → IsNoInstance k → IsBeside stands c c k k
    other_beside k s h = record { stands = s; states = sym (no_interface_beside (stated_of c k) (subst IsNoInterface (sym (kind_stated c a k s)) (no_kind k h))) }

  -- ---- one more of a loop

  pub items_none : (c : Collection) → AreBeside stands c c [] []
  items_none c = record { stand = λ x m. absurd m; state = refl }

  pub items_next : (c d e : Collection) → Grows c d → Grows d e → (xs all : List (Name × ItemKind)) (i : ℕ) (n m : Name) (k made : ItemKind) → slice_get xs i ≡ Some (n, k) → Stands c k → m ≡ n → AreBeside stands c d (take i xs) all
      → IsBeside stands d e k made → AreBeside stands c e (take (i + 1) xs) (all ++ (m, made) ∷ [])
  items_next c d e g h xs all i n m k made at s name w is =
      let one : List (Name × ItemKind) = (m, made) ∷ [] in
      record {
        stand = items_stand_both e all one (λ y j. h.stand y.1 (w.stand y j)) (λ y j. subst (λ (z : Name × ItemKind). Stands e z.1) (sym (only_one j)) is.stands);
        state = map-append (λ (x : Name × ItemKind). (x.0, stated_of e x.1)) all one ∙ ap (λ l. l ++ (m, stated_of e made) ∷ []) (items_kept d e h all w.stand ∙ w.state)
            ∙ (λ j. with_values (beside stands) (stated_items c (take i xs)) ++ (name j, (is.states ∙ ap (beside stands) (stated_kept c d g k s)) j) ∷ [])
            ∙ sym (map-append (λ (x : Name × Stated). (x.0, beside stands x.1)) (stated_items c (take i xs)) ((n, stated_of c k) ∷ []))
            ∙ ap (with_values (beside stands)) (sym (map-one_more (λ (x : Name × ItemKind). (x.0, stated_of c x.1)) xs i (n, k) at));
      }
    where
      only_one : {y : Name × ItemKind} → Among y ((m, made) ∷ []) → y ≡ (m, made)
      only_one (inl e) = e
      only_one (inr k) = absurd k

  -- its name is new
  pub item_name_new : (c d : Collection) (xs all : List (Name × ItemKind)) (i : ℕ) (n : Name) (k : ItemKind) → AreDistinct (names_of xs) → AreBeside stands c d (take i xs) all → slice_get xs i ≡ Some (n, k) → IsNew n all
  item_name_new c d xs all i n k distinct w at =
      place_new xs i n k all distinct at (sym (names-with_values (stated_of d) all) ∙ ap names_of w.state ∙ names-with_values (beside stands) (stated_items c (take i xs)) ∙ names-with_values (stated_of c) (take i xs))
