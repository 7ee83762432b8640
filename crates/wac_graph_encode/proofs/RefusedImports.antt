-- Imports that are refused in the order of the causes.
use Rattle.std.proofs.Common.{◌≡◌, ◌≤◌, ◌-◌, ◌+◌, ◌^◌, ℕ, Bool, true, List, [], ◌∷◌, ◌++◌, length, Some, refl, sym, ap, ◌∙◌, subst, slice_get, inl, arith, append_assoc}
use Rattle.std.specs.Prelude.{option_map}
use Rattle.std.proofs.lemmas.List.{append-nil}
use Rattle.std.proofs.lemmas.Option.{same_Some}
use Rattle.wac_types_base.specs.declared.ids.InterfaceId.{InterfaceId}
use Rattle.wac_types_base.specs.declared.item.ItemKind.{ItemKind}
use Rattle.wac_types_base.specs.declared.defined.UsedType.{UsedType}
use Rattle.wac_types_base.specs.Record.{Collection}
use Rattle.wac_types_base.specs.Entries.{Name, AreDistinct, has_name, names_of, value_at}
use Rattle.wac_types_base.specs.Graph.{Among}
use Rattle.wac_types_base.specs.Parts.{identifier_in}
use Rattle.wac_types_base.specs.Collection.{Stands, IsAcyclic}
use Rattle.wac_types_base.specs.Stated.{Stated, stated_of, uses_of, exports_of}
use Rattle.wac_types_base.proofs.Adding.{Among-left, Among-right}
use Rattle.wac_types_base.proofs.Lists.{among_mapped}
use Rattle.wac_types_base.proofs.Looked.{among-get}
use Rattle.wac_types_base.proofs.Walking.{slice_get-Among}
use Rattle.wac_types_parts.specs.Parts.{interface_in}
use Rattle.wac_types_parts.specs.Parts.{exports_of as exports_in, uses_of as uses_in}
use Rattle.wac_types_parts.proofs.PartLaws.{name_at}
use Rattle.wac_types_parts.proofs.PartsStated.{identifier_is}
use Rattle.wac_types_written.specs.Forms.{ItemsStand, stated_items}
use Rattle.wac_composition.specs.Writable.{holder}
use Rattle.wac_composition.specs.Circles.{beside, used_inside, interfaces_in, interfaces_written, stands_in, under, written_from}
use Rattle.wac_composition.specs.NotWritten.{CannotBeWritten, ItemsFail}
use Rattle.wac_composition.proofs.Lists.{flat_among}
use Rattle.wac_writable.proofs.TypesLaws.{exports_stand}
use Rattle.wac_graph_bytes.specs.Typing.{Worlds, Scope}
use Rattle.wac_graph_bytes.specs.declared.value.Sort.TheVariants as sort
use Rattle.wac_graph_scopes.specs.declared.imports.Importing.{Importing}
use Rattle.wac_graph_scopes.specs.declared.imports.ImportScope.{ImportScope}
use Rattle.wac_graph_scopes.specs.Imports.{all_imports, IsPlaced, WritesWorld}
use Rattle.wac_graph_scopes.specs.Prepared.{IsWithin, itself, exported}
use Rattle.wac_graph_scopes.specs.ImportRefusals.{IsRefusedThen}
use Rattle.wac_graph_causes.specs.Orders.{interfaces_used, used_in_items}
use Rattle.wac_graph_causes.proofs.UsedInside.{same_inside, item_uses}
use Rattle.wac_graph_encode.specs.PlainOrders.{FindsSpelled}
use Rattle.wac_graph_encode.specs.RefusedInstances.{HasNoWorld, StandingAround}
use Rattle.wac_graph_encode.specs.RefusedImports.{GiveStanding, IsTurnAt, Refused_import_is_unwritable}
use Rattle.wac_graph_encode.proofs.SmallerInterfaces.{interface_stands}
use Rattle.wac_graph_encode.proofs.RefusedInstances.{beside_view, beside_unwritable, cannot_be_written}
use Rattle.wac_graph_encode.proofs.PlainOrders.{standing_before, value_there}

-- ---- what is used within an interface

module _ (c : Collection) (acyclic : IsAcyclic c) where
  pub within_stands : (id : InterfaceId) → Stands c (ItemKind.Instance id) → (i : InterfaceId) → IsWithin c id i → Stands c (ItemKind.Instance i)
  within_stands id st _ itself = st
  within_stands id st j (exported {i = i} n k w m is) = (interface_stands c acyclic k j is (exports_stand c acyclic i (within_stands id st i w) (n, k) m)).0

  -- what one within it uses, it uses itself
  used_within : (id : InterfaceId) → Stands c (ItemKind.Instance id) → (i : InterfaceId) → IsWithin c id i → (x : Stated) → Among x (used_inside (stated_of c (ItemKind.Instance i))) → Among x (used_inside (stated_of c (ItemKind.Instance id)))
  used_within id st _ itself x m = m
  used_within id st j (exported {i = i} n k w there is) x m =
      let inside = within_stands id st i w in
      let item = exports_stand c acyclic i inside (n, k) there in
      let among = flat_among (λ (e : Name × ItemKind). used_inside (stated_of c e.1)) (exports_in c i) (n, k) x there (subst (Among x) (sym (same_inside c acyclic k j is item)) m) in
      used_within id st i w x (subst (Among x) (sym (item_uses c acyclic (ItemKind.Instance i) i refl inside)) (Among-right x (interfaces_used c (uses_in c i)) (used_in_items c (exports_in c i)) among))

  -- the interface that one within it uses
  pub use_inside : (id : InterfaceId) → Stands c (ItemKind.Instance id) → (i : InterfaceId) → IsWithin c id i → (u : Name × UsedType) → Among u (uses_in c i)
      → Among (stated_of c (ItemKind.Instance u.1.interface)) (used_inside (stated_of c (ItemKind.Instance id)))
  use_inside id st i w u m =
      let inside = within_stands id st i w in
      used_within id st i w (stated_of c (ItemKind.Instance u.1.interface)) (
      subst (Among (stated_of c (ItemKind.Instance u.1.interface))) (sym (item_uses c acyclic (ItemKind.Instance i) i refl inside))
      (Among-left (stated_of c (ItemKind.Instance u.1.interface)) (interfaces_used c (uses_in c i)) (used_in_items c (exports_in c i)) (among_mapped (λ (u : Name × UsedType). stated_of c (ItemKind.Instance u.1.interface)) (uses_in c i) u m))
      )

-- ---- the turn of an import

module _ (spell : Name → Name) (imports : List (Name × Stated)) (n : Name) (y : Stated) (is : value_at imports n ≡ Some y) where
  written_turn : (before standing all rest : List Name) → before ++ standing ≡ all → Among (n, beside (stands_in spell imports all) y) (written_from spell imports before (standing ++ n ∷ rest))
  written_turn before [] all rest e =
      let same : before ≡ all = sym (append-nil before) ∙ e in
      Among-left (n, beside (stands_in spell imports all) y) (under spell imports n (option_map (beside (stands_in spell imports before)) (value_at imports n))) (written_from spell imports (before ++ n ∷ []) rest)
      (subst (λ o. Among (n, beside (stands_in spell imports all) y) (under spell imports n (option_map (beside (stands_in spell imports before)) o))) (sym is)
      (inl (ap (λ l. (n, beside (stands_in spell imports l) y)) (sym same))))
  written_turn before (m ∷ ms) all rest e =
      Among-right (n, beside (stands_in spell imports all) y) (under spell imports m (option_map (beside (stands_in spell imports before)) (value_at imports m))) (written_from spell imports (before ++ m ∷ []) (ms ++ n ∷ rest))
      (written_turn (before ++ m ∷ []) ms all rest (append_assoc before (m ∷ []) ms ∙ e))

-- ---- what is written stands around

module _ (w : Worlds) (a : Importing) (outer : List Scope) (imported exported : List Name) (s : ImportScope) (goes : WritesWorld w a.types.now outer a.world s imported exported) where
  instance_placed : (m : ℕ) (n : Name) (j : InterfaceId) → slice_get (all_imports a) m ≡ Some (n, ItemKind.Instance j) → Among n imported → (k : ℕ) × IsPlaced s.places.items m k
  instance_placed m n j e i =
      let p = goes.have m n (name_at (all_imports a) m n (ItemKind.Instance j) e) i in
      let at = goes.placed m n (ItemKind.Instance j) p.0 e p.1 in
      let is : sort.Instance ≡ p.0.sort = same_Some sort.Instance p.0.sort at.sort in
      (p.0.index, p.1 ∙ ap (λ t. Some (Some (record { sort = t; index = p.0.index }))) (sym is))

module _ (worlds : Worlds) (a : Importing) (outer : List Scope) (imported exported : List Name) (old new : ImportScope) (acyclic : IsAcyclic a.types.now) (distinct : AreDistinct (names_of (all_imports a)))
    (stand : ItemsStand a.types.now (all_imports a)) (few : length a.types.now.interfaces ≤ 2 ^ 64 - 1) (spell : Name → Name) (finds : FindsSpelled (all_imports a) spell old.found)
    (standing : List Name) (at : ℕ) (n : Name) (k : ItemKind) (id : InterfaceId) (turn : IsTurnAt a spell old.found standing imported at n k id) (no_world : HasNoWorld a.types.now id)
    (gives : GiveStanding a spell old.found standing id) (refused : IsRefusedThen worlds a outer imported exported k old new) where
  abbrev c : Collection
  c = a.types.now

  abbrev is : List (Name × ItemKind)
  is = all_imports a

  abbrev sources : List (Name × Stated)
  sources = interfaces_in (stated_items c is)

  abbrev stands : Name → Bool
  stands = stands_in spell sources standing

  abbrev between : ImportScope
  between = refused.0

  there : Stands c k
  there = stand (n, k) (among-get is at (n, k) turn.turn.import_is)

  inside : Stands c (ItemKind.Instance id)
  inside = (interface_stands c acyclic k id turn.interface there).0

  -- an interface that stands, and is used within this one, is written
  written_before : (j : InterfaceId) → IsWithin c id j → (u : Name × UsedType) → Among u (uses_in c j) → (i : Name) → identifier_in (interface_in c u.1.interface) ≡ Some i → has_name standing (spell i) ≡ true
      → (m : ℕ) → value_at old.found i ≡ Some m → (p : Name) (l : InterfaceId) → slice_get is m ≡ Some (p, ItemKind.Instance l) → Among p imported
  written_before j w u m i name t place found p l import_is =
      let used = subst (Among (stated_of c (ItemKind.Instance u.1.interface))) (sym (same_inside c acyclic k id turn.interface there)) (use_inside c acyclic id inside j w u m) in
      let before = standing_before a acyclic distinct stand spell old.found finds turn.order turn.before turn.after at turn.behind turn.place standing n k turn.turn i
      (stated_of c (ItemKind.Instance u.1.interface), used, identifier_is c acyclic u.1.interface ∙ name, t) place found (p, ItemKind.Instance l, import_is, (l, refl)) in
      turn.imported_are place (p, ItemKind.Instance l) before import_is

  around : StandingAround c stands between.used id
  around j w u m i id_is t item e =
      let g = gives j w u m i id_is t item e in
      let import_is = g.2.import_is in
      let placed = instance_placed worlds a outer imported exported between refused.1.goes g.0 import_is.0 g.2.interface import_is.1 (written_before j w u m i id_is t g.0 g.1 import_is.0 g.2.interface import_is.1) in
      let at = slice_get-Among (uses_in c j) u m in
      let taken = refused.3 there id turn.interface j w at.0 u at.2 item e (
        i,
        placed.0,
        id_is,
        record { at = g.0; found = ap (λ f. value_at f i) refused.2.found ∙ g.1; placed = placed.1; gives = g.2 },
      ) in
      (taken.0, taken.1, record { at = at.0; use_is = taken.2; item_is = taken.3 }, taken.4)

  fails : (is_outer : Bool) → ItemsFail is_outer (uses_of (beside stands (stated_of c (ItemKind.Instance id)))) (exports_of (beside stands (stated_of c (ItemKind.Instance id))))
  fails is_outer = beside_unwritable c acyclic between.used id inside no_world stands around is_outer 0 (zero_more (length c.interfaces) (2 ^ 64 - 1) few) (refused.1.instance id turn.interface)
    where
      zero_more : (n m : ℕ) → n ≤ m → 0 + n ≤ m
      zero_more n m le = omega (arith, le)

  pub late_unwritable : (is_outer : Bool) → (x : Stated) × Among (n, x) (interfaces_written spell (stated_items c is)) × CannotBeWritten is_outer (holder [] []) n x
  late_unwritable is_outer =
      let view = beside_view c acyclic stands in
      let uses = view.uses_alike k id turn.interface there in
      let exports = view.exports_alike k id turn.interface there in
      let value = value_there c acyclic is distinct stand at n k turn.turn.import_is turn.turn.source in (
        beside stands (stated_of c k),
        subst (λ l. Among (n, beside stands (stated_of c k)) (written_from spell sources [] l)) (sym turn.turn.order)
            (written_turn spell sources n (stated_of c k) value [] standing standing turn.turn.rest refl),
        cannot_be_written is_outer (holder [] []) n k id turn.interface (view.kind k id turn.interface there)
            (subst (λ us. ItemsFail is_outer us (exports_of (beside stands (stated_of c k)))) (sym uses)
            (subst (ItemsFail is_outer (uses_of (beside stands (stated_of c (ItemKind.Instance id))))) (sym exports) (fails is_outer))),
      )

pub import_unwritable : Refused_import_is_unwritable
import_unwritable = late_unwritable
