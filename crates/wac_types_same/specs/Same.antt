-- What two items state.
use Rattle.std.specs.Prelude.{List, Option, Some, None, map, String, string_bytes}
use Rattle.std.specs.Option.{option_map}
use Rattle.wac_types_base.specs.declared.item.ItemKind.{ItemKind}
use Rattle.wac_types_base.specs.declared.defined.UsedType.{UsedType}
use Rattle.wac_types_base.specs.Entries.{Name}
use Rattle.wac_types_base.specs.Record.{Collection}
use Rattle.wac_types_base.specs.Collection.{Shape, alias, Entry, Slot, item_node, slots_of}
use Rattle.wac_types_base.specs.Stated.{Stated, stated_of}

-- the label of an entry; where there is none it does not matter which
abbrev pub label_in : Option Entry → Shape
label_in None = alias
label_in (Some e) = e.0

-- the label of what a kind names
abbrev pub label_of : Collection → ItemKind → Shape
label_of c k = label_in (item_node c k)

-- what a place states
abbrev pub slot_stated : Collection → Slot → Option Stated
slot_stated c o = option_map (stated_of c) o

-- what the places of a kind state
abbrev pub places_stated : Collection → ItemKind → List (Option Stated)
places_stated c k = map (slot_stated c) (slots_of c k)

-- a pair of texts, as their bytes
abbrev pub pair_of : {Y Z : Type 0} → String Y × String Z → Name × Name
pair_of t = (string_bytes t.0, string_bytes t.1)

-- the names that uses take, where they are others
abbrev pub names_taken : List UsedType → List (Option Name)
names_taken us = map (λ u. u.name) us
