-- What an item uses of imports, and imports that are put in the order in which they are written.
use Rattle.std.specs.Prelude.{◌≡◌, ℕ, ◌||◌, List, [], ◌∷◌, ◌++◌, map, Some, option_map, filter_map, slice_get}
use Rattle.std.specs.List.{flat_map, fold}
use Rattle.wac_types_base.specs.declared.ids.InterfaceId.{InterfaceId}
use Rattle.wac_types_base.specs.declared.item.ItemKind.{ItemKind}
use Rattle.wac_types_base.specs.declared.defined.UsedType.{UsedType}
use Rattle.wac_types_base.specs.Record.{Collection}
use Rattle.wac_types_base.specs.Entries.{Name, has_name}
use Rattle.wac_types_base.specs.Stated.{Stated, stated_of, identifier_of}
use Rattle.wac_types_written.specs.Forms.{stated_items}
use Rattle.wac_composition.specs.Circles.{used_inside, put}
use Rattle.wac_types_parts.specs.Parts.{uses_of}
use Rattle.wac_graph_causes.specs.declared.order.Sources.{Sources}
use Rattle.wac_graph_causes.specs.declared.order.Order.{Order}
use Rattle.wac_graph_causes.specs.Standing.{spelled_in}

-- ---- interfaces that are used

abbrev pub interfaces_used : Collection → List (Name × UsedType) → List Stated
interfaces_used c us = map (λ u. stated_of c (ItemKind.Instance u.1.interface)) us

abbrev pub used_in_items : Collection → List (Name × ItemKind) → List Stated
used_in_items c xs = flat_map (λ x. used_inside (stated_of c x.1)) xs

-- ---- imports

module _ (s : Sources) where
  abbrev pub spell_in : Name → Name
  spell_in = spelled_in s.placed

  -- the interfaces that are imported, as stated types
  abbrev pub interfaces_stated : List (Name × Stated)
  interfaces_stated = stated_items s.types.now s.interfaces.now

  -- the names of the imports that give these interfaces
  abbrev pub import_names_of : List Stated → List Name
  import_names_of xs = filter_map (λ i. option_map spell_in (identifier_of i)) xs

  -- these names are added behind the others
  abbrev pub AddsUsed : List Stated → (old new : List Name) → Type 0
  AddsUsed xs old new = new ≡ old ++ import_names_of xs

  -- the name of the one that is used at a place
  abbrev pub AddsUseAt : InterfaceId → ℕ → (old new : List Name) → Type 0
  AddsUseAt id at old new = (e : Name × UsedType) → slice_get (uses_of s.types.now id) at ≡ Some e
      → AddsUsed (stated_of s.types.now (ItemKind.Instance e.1.interface) ∷ []) old new

  -- ---- the order

  -- begun are those that wait, and those that are written
  abbrev pub IsBegun : List Name → Order → Type 0
  IsBegun waiting o = (n : Name) → has_name o.begun n ≡ (has_name waiting n || has_name o.written.items n)

  -- whatever waits meanwhile, what is written then is this
  abbrev pub PutsSo : (List Name → List Name → List Name) → (old new : Order) → Type 0
  PutsSo f old new = (waiting : List Name) → IsBegun waiting old → IsBegun waiting new × (new.written.items ≡ f waiting old.written.items)

  abbrev pub Puts : ℕ → Name → (old new : Order) → Type 0
  Puts depth n old new = PutsSo (λ ws ns. put spell_in interfaces_stated depth ws ns n) old new

  abbrev pub PutsAll : ℕ → List Name → (old new : Order) → Type 0
  PutsAll depth names old new = PutsSo (λ ws ns. fold (put spell_in interfaces_stated depth ws) ns names) old new
