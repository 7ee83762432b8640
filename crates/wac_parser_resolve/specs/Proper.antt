-- Stated types as collections have them: what an alias is of, in its first place, is no instance.
use Rattle.std.specs.Prelude.{◌≡◌, List, ◌∷◌, Option, Some}
use Rattle.wac_types_base.specs.Graph.{Among}
use Rattle.wac_types_base.specs.Collection.{Shape, alias, resource_alias, type_of, borrow_of, own_of}
use Rattle.wac_types_base.specs.Stated.{Stated, IsInstance, kind_of, shape_of, places_of}
use Rattle.wac_types_names.specs.Keys.{Key}

abbrev pub NoInstance : Stated → Type 0
NoInstance x = kind_of x ≡ IsInstance → ⊥

abbrev pub NamesNoInstance : Shape → List (Option Stated) → Type 0
NamesNoInstance alias (Some x ∷ os) = NoInstance x
NamesNoInstance (resource_alias n) (Some x ∷ os) = NoInstance x
NamesNoInstance (type_of s) os = NamesNoInstance s os
NamesNoInstance (borrow_of s) os = NamesNoInstance s os
NamesNoInstance (own_of s) os = NamesNoInstance s os
NamesNoInstance s os = Unit {0}

pub data Proper : Stated → Type 0 where
  proper : {x : Stated} → NamesNoInstance (shape_of x) (places_of x) → ((y : Stated) → Among (Some y) (places_of x) → Proper y)
      → Proper x

-- packages with such worlds
abbrev pub AreProper : List (Key × Stated) → Type 0
AreProper ps = (p : Key × Stated) → Among p ps → Proper p.1
