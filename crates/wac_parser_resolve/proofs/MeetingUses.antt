-- What a target gives, by the interfaces that its types are used from: the same of ids and of stated types.
use Rattle.std.proofs.Common.{◌≡◌, List, [], ◌∷◌, ◌++◌, map, Bool, true, false, ◌&&◌, ◌==◌, if◌then◌else◌, Option, Some, None, is_some, option_map, slice_get, refl, sym, ap, subst, ◌∙◌, inl, inr}
use Rattle.std.specs.Cmp.Lexicographic.{pointwise}
use Rattle.std.specs.List.{flat_map, list_all}
use Rattle.wac_types_base.specs.declared.item.ItemKind.{ItemKind}
use Rattle.wac_types_base.specs.declared.item.«Type».{«Type» as TypeKind}
use Rattle.wac_types_base.specs.declared.ids.InterfaceId.{InterfaceId}
use Rattle.wac_types_base.specs.declared.ids.WorldId.{WorldId}
use Rattle.wac_types_base.specs.declared.defined.Interface.{Interface}
use Rattle.wac_types_base.specs.declared.defined.UsedType.{UsedType}
use Rattle.wac_types_base.specs.declared.defined.World.{World}
use Rattle.wac_types_base.specs.Record.{Collection}
use Rattle.wac_types_base.specs.Collection.{HasChildren, IsAcyclic, Slot, Stands, interface_entry, item_node, items, use_names, used, world_entry}
use Rattle.wac_types_base.specs.Entries.{Name, put_entry, value_at, values_of, with_values}
use Rattle.wac_types_base.specs.Graph.{Among}
use Rattle.wac_types_base.specs.Implicit as ids
use Rattle.wac_types_base.specs.Parts.{identifier_in}
use Rattle.wac_types_base.specs.Implicit.{all_uses, instance_uses, named, then_on, used_interfaces, uses_in}
use Rattle.wac_types_base.specs.Stated.{Stated, Used, identifier_of, imports_of, kind_of, only_places, row, stated_of, uses_from, uses_of}
use Rattle.wac_types_base.proofs.Slots.{entry_at-is}
use Rattle.wac_types_base.proofs.Standing.{interface_found}
use Rattle.wac_types_base.proofs.Telling.{item_kind, kind_stated, stated_step}
use Rattle.wac_types_base.proofs.Used.{interface_uses_stand, world_imports_stand, world_uses_stand}
use Rattle.wac_types_fit.specs.Targets.{target_import}
use Rattle.wac_composition.specs.Classes.{is_instance_kind}
use Rattle.wac_parser_declare.proofs.Exports.{component_imports}
use Rattle.std.specs.Option.{option_or}
use Rattle.wac_types_base.proofs.Stating.{value_with}
use Rattle.wac_parser_resolve.specs.Holding.{InTurn}
use Rattle.wac_parser_resolve.specs.Meeting as stated
use Rattle.wac_parser_resolve.specs.Meeting.{by_identifier, implicit_interfaces, implicit_uses, put_named, uses_are_named}

-- ---- pairs, in order

turn_append : {A B : Type 0} (R : A → B → Type 0) (as_ cs : List A) (bs ds : List B) → InTurn R as_ bs → InTurn R cs ds → InTurn R (as_ ++ cs) (bs ++ ds)
turn_append R [] cs [] ds s t = t
turn_append R [] cs (b ∷ bs) ds s t = absurd s
turn_append R (a ∷ as_) cs [] ds s t = absurd s
turn_append R (a ∷ as_) cs (b ∷ bs) ds s t = (s.0, turn_append R as_ cs bs ds s.1 t)

module _ (c : Collection) (a : IsAcyclic c) where
  -- the use names the interface
  abbrev IsUse : Used → InterfaceId → Type 0
  IsUse u i = (u.interface ≡ stated_of c (ItemKind.Instance i)) × Stands c (ItemKind.Instance i)

  abbrev slots_stated : List Slot → List (Option Stated)
  slots_stated xs = map (option_map (stated_of c)) xs

  -- ---- what uses say

  uses_read : (us : List (Name × UsedType)) (rest : List Slot) → ((u : UsedType) → Among u (values_of us) → Stands c (ItemKind.Instance u.interface))
      → InTurn IsUse (map (λ u. u.0) (uses_from (use_names us) (only_places (row (slots_stated (used us ++ rest)))))) (used_interfaces (values_of us))
  uses_read [] rest stand = tt
  uses_read (u ∷ us) rest stand = ((refl, stand u.1 (inl refl)), uses_read us rest (λ v m. stand v (inr m)))

  world_uses : (w : WorldId) (x : World) → slice_get c.worlds w.index ≡ Some x → w.collection ≡ c.number → HasChildren c (world_entry x) → InTurn IsUse (uses_of (stated_of c (ItemKind.Component w))) (used_interfaces (values_of x.uses))
  unfolding item_node
  world_uses w x at own has =
      subst (λ (t : Stated). InTurn IsUse (uses_of t) (used_interfaces (values_of x.uses)))
      (sym (stated_step c a (ItemKind.Component w) (world_entry x) (entry_at-is world_entry c.number c.worlds w.collection w.index x at own)))
      (uses_read x.uses (items x.imports ++ items x.exports) (world_uses_stand c x has))

  interface_uses : (i : InterfaceId) (x : Interface) → slice_get c.interfaces i.index ≡ Some x → i.collection ≡ c.number → InTurn IsUse (uses_of (stated_of c (ItemKind.Instance i))) (used_interfaces (values_of x.uses))
  unfolding item_node
  interface_uses i x at own =
      subst (λ (t : Stated). InTurn IsUse (uses_of t) (used_interfaces (values_of x.uses)))
      (sym (stated_step c a (ItemKind.Instance i) (interface_entry x) (entry_at-is interface_entry c.number c.interfaces i.collection i.index x at own)))
      (uses_read x.uses (items x.exports) (interface_uses_stand c a i x at own))

  -- an import's uses, where it is an instance
  abbrev uses_if : Stated → List Used
  uses_if t = if is_instance_kind (kind_of t) then uses_of t else []

  instance_uses_if : (i : InterfaceId) → Stands c (ItemKind.Instance i) → InTurn IsUse (uses_of (stated_of c (ItemKind.Instance i))) (instance_uses c (ItemKind.Instance i))
  instance_uses_if i s =
      let f = interface_found c i s in
      subst (λ (is : List InterfaceId). InTurn IsUse (uses_of (stated_of c (ItemKind.Instance i))) is) (sym (ap uses_in f.at)) (interface_uses i f.value f.at f.own)

  by_kind : (k : ItemKind) → Stands c k → InTurn IsUse (if is_instance_kind (item_kind k) then uses_of (stated_of c k) else []) (instance_uses c k)
  by_kind (ItemKind.Ty (TypeKind.Resource r)) s = tt
  by_kind (ItemKind.Ty (TypeKind.Func r)) s = tt
  by_kind (ItemKind.Ty (TypeKind.Value r)) s = tt
  by_kind (ItemKind.Ty (TypeKind.Interface r)) s = tt
  by_kind (ItemKind.Ty (TypeKind.World r)) s = tt
  by_kind (ItemKind.Ty (TypeKind.Module r)) s = tt
  by_kind (ItemKind.Func r) s = tt
  by_kind (ItemKind.Instance i) s = instance_uses_if i s
  by_kind (ItemKind.Component r) s = tt
  by_kind (ItemKind.Module r) s = tt
  by_kind (ItemKind.Value r) s = tt

  import_uses : (k : ItemKind) → Stands c k → InTurn IsUse (uses_if (stated_of c k)) (instance_uses c k)
  import_uses k s =
      subst (λ j. InTurn IsUse (if is_instance_kind j then uses_of (stated_of c k) else []) (instance_uses c k)) (sym (kind_stated c a k s)) (by_kind k s)

  all_import_uses : (es : List (Name × ItemKind)) → ((k : ItemKind) → Among k (values_of es) → Stands c k)
      → InTurn IsUse (flat_map (λ (e : Name × Stated). uses_if e.1) (with_values (stated_of c) es)) (all_uses c (values_of es))
  all_import_uses [] stand = tt
  all_import_uses (e ∷ es) stand =
      turn_append IsUse (uses_if (stated_of c e.1)) (flat_map (λ (e : Name × Stated). uses_if e.1) (with_values (stated_of c) es)) (instance_uses c e.1) (all_uses c (values_of es))
      (import_uses e.1 (stand e.1 (inl refl))) (all_import_uses es (λ k m. stand k (inr m)))

  -- ---- under identifiers

  identifier_is : (i : InterfaceId) → Stands c (ItemKind.Instance i) → identifier_of (stated_of c (ItemKind.Instance i)) ≡ identifier_in (slice_get c.interfaces i.index)
  unfolding item_node
  identifier_is i s =
      let f = interface_found c i s in
      ap identifier_of (stated_step c a (ItemKind.Instance i) (interface_entry f.value) (entry_at-is interface_entry c.number c.interfaces i.collection i.index f.value f.at f.own))
      ∙ sym (ap identifier_in f.at)

  use_identifier : (u : Used) (i : InterfaceId) → IsUse u i → identifier_of u.interface ≡ identifier_in (slice_get c.interfaces i.index)
  use_identifier u i h = ap identifier_of h.0 ∙ identifier_is i h.1

  put_stated : (es : List (Name × ItemKind)) (n : Name) (k : ItemKind) → put_entry (with_values (stated_of c) es) n (stated_of c k) ≡ with_values (stated_of c) (put_entry es n k)
  put_stated [] n k = refl
  put_stated (e ∷ es) n k = by (pointwise ◌==◌ n e.0) (put_stated es n k)
    where
      by : (b : Bool) → put_entry (with_values (stated_of c) es) n (stated_of c k) ≡ with_values (stated_of c) (put_entry es n k)
          → (if b then (e.0, stated_of c k) ∷ with_values (stated_of c) es else (e.0, stated_of c e.1) ∷ put_entry (with_values (stated_of c) es) n (stated_of c k))
          ≡ with_values (stated_of c) (if b then (e.0, k) ∷ es else e ∷ put_entry es n k)
      by true h = refl
      by false h = ap (λ (xs : List (Name × Stated)). (e.0, stated_of c e.1) ∷ xs) h

  -- all are named, and this is listed of them
  record AreListed (es : List (Name × ItemKind)) (us : List Used) (fs : List (Name × ItemKind)) : Type 0 where
    named_all : list_all (λ (u : Used). is_some (identifier_of u.interface)) us ≡ true
    list : by_identifier (with_values (stated_of c) es) us ≡ with_values (stated_of c) fs

  and_true : (b d : Bool) → b ≡ true → d ≡ true → (b && d) ≡ true
  and_true true d e f = f
  and_true false d e f = e

  and_false : (b d : Bool) → d ≡ false → (b && d) ≡ false
  and_false true d f = f
  and_false false d f = refl

  listed_of : (us : List Used) (is : List InterfaceId) (es fs : List (Name × ItemKind)) → InTurn IsUse us is → ids.by_identifier c es is ≡ Some fs → AreListed es us fs
  listed_of [] [] es fs t e = record { named_all = refl; list = ap (with_values (stated_of c)) (let s : es ≡ fs = cc e in s) }
  listed_of [] (i ∷ is) es fs t e = absurd t
  listed_of (u ∷ us) [] es fs t e = absurd t
  listed_of (u ∷ us) (i ∷ is) es fs t e = by (λ xs f. listed_of us is xs fs t.1 f) (identifier_in (slice_get c.interfaces i.index)) refl e
    where
      by : ((xs : List (Name × ItemKind)) → ids.by_identifier c xs is ≡ Some fs → AreListed xs us fs) → (o : Option Name) → identifier_in (slice_get c.interfaces i.index) ≡ o → then_on (named es i o) (λ fs. ids.by_identifier c fs is) ≡ Some fs → AreListed es (u ∷ us) fs
      by rest None o e = absurd (cc e)
      by rest (Some n) o e =
          let r = rest (put_entry es n (ItemKind.Instance i)) e in
          let own : identifier_of u.interface ≡ Some n = use_identifier u i t.0 ∙ o in
          record {
            named_all = and_true (is_some (identifier_of u.interface)) _ (ap is_some own) r.named_all;
            list = ap (λ (m : Option Name). by_identifier (put_named (with_values (stated_of c) es) u.interface m) us) own
                ∙ ap (λ (x : Stated). by_identifier (put_entry (with_values (stated_of c) es) n x) us) t.0.0
                ∙ ap (λ (xs : List (Name × Stated)). by_identifier xs us) (put_stated es n (ItemKind.Instance i)) ∙ r.list;
          }

  unlisted_of : (us : List Used) (is : List InterfaceId) (es : List (Name × ItemKind)) → InTurn IsUse us is → ids.by_identifier c es is ≡ None → list_all (λ (u : Used). is_some (identifier_of u.interface)) us ≡ false
  unlisted_of [] [] es t e = absurd (cc e)
  unlisted_of [] (i ∷ is) es t e = absurd t
  unlisted_of (u ∷ us) [] es t e = absurd t
  unlisted_of (u ∷ us) (i ∷ is) es t e = by (λ xs f. unlisted_of us is xs t.1 f) (identifier_in (slice_get c.interfaces i.index)) refl e
    where
      by : ((xs : List (Name × ItemKind)) → ids.by_identifier c xs is ≡ None → list_all (λ (u : Used). is_some (identifier_of u.interface)) us ≡ false) → (o : Option Name) → identifier_in (slice_get c.interfaces i.index) ≡ o → then_on (named es i o) (λ fs. ids.by_identifier c fs is) ≡ None → list_all (λ (u : Used). is_some (identifier_of u.interface)) (u ∷ us) ≡ false
      by rest None o e = ap (λ (m : Option Name). is_some m && list_all (λ (u : Used). is_some (identifier_of u.interface)) us) (use_identifier u i t.0 ∙ o)
      by rest (Some n) o e = and_false (is_some (identifier_of u.interface)) _ (rest (put_entry es n (ItemKind.Instance i)) e)

  -- ---- a world

  module _ (w : WorldId) (x : World) (at : slice_get c.worlds w.index ≡ Some x) (own : w.collection ≡ c.number) (has : HasChildren c (world_entry x)) where
    abbrev world : Stated
    world = stated_of c (ItemKind.Component w)

    world_implicit : InTurn IsUse (implicit_uses world) (ids.implicit_interfaces c x)
    world_implicit =
        turn_append IsUse (uses_of world) (flat_map (λ (e : Name × Stated). uses_if e.1) (imports_of world)) (used_interfaces (values_of x.uses)) (all_uses c (values_of x.imports))
        (world_uses w x at own has)
        (subst (λ (es : List (Name × Stated)). InTurn IsUse (flat_map (λ (e : Name × Stated). uses_if e.1) es) (all_uses c (values_of x.imports))) (sym (component_imports c a w x at own))
        (all_import_uses x.imports (world_imports_stand c x has)))

    pub uses_named : (fs : List (Name × ItemKind)) → ids.by_identifier c [] (ids.implicit_interfaces c x) ≡ Some fs → uses_are_named world ≡ true
    uses_named fs e = (listed_of (implicit_uses world) (ids.implicit_interfaces c x) [] fs world_implicit e).named_all

    pub uses_unnamed : ids.by_identifier c [] (ids.implicit_interfaces c x) ≡ None → uses_are_named world ≡ false
    uses_unnamed e = unlisted_of (implicit_uses world) (ids.implicit_interfaces c x) [] world_implicit e

    either_of : (o p : Option ItemKind) → option_or (option_map (stated_of c) o) (option_map (stated_of c) p) ≡ option_map (stated_of c) (option_or o p)
    either_of None p = refl
    either_of (Some k) p = refl

    pub gives_same : (fs : List (Name × ItemKind)) → ids.by_identifier c [] (ids.implicit_interfaces c x) ≡ Some fs → (n : Name) → stated.given_by world n ≡ option_map (stated_of c) (target_import fs x.imports n)
    gives_same fs e n =
        ap (λ (es : List (Name × Stated)). option_or (value_at es n) (value_at (imports_of world) n)) (listed_of (implicit_uses world) (ids.implicit_interfaces c x) [] fs world_implicit e).list
        ∙ ap (λ (es : List (Name × Stated)). option_or (value_at (with_values (stated_of c) fs) n) (value_at es n)) (component_imports c a w x at own)
        ∙ ap (λ (o : Option Stated). option_or o (value_at (with_values (stated_of c) x.imports) n)) (value_with (stated_of c) fs n)
        ∙ ap (option_or (option_map (stated_of c) (value_at fs n))) (value_with (stated_of c) x.imports n)
        ∙ either_of (value_at fs n) (value_at x.imports n)
