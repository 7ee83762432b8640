-- The outer imports of what is kept of each label.
use Rattle.std.specs.Prelude.{◌≡◌, ℕ, List, Some}
use Rattle.wac_types_base.specs.declared.item.ItemKind.{ItemKind}
use Rattle.wac_types_base.specs.Record.{Collection}
use Rattle.wac_types_base.specs.Entries.{Name, names_of, values_of, with_values}
use Rattle.wac_types_base.specs.Graph.{Among}
use Rattle.wac_types_base.specs.Stated.{Stated, stated_of}
use Rattle.wac_composition.specs.Asks.{Ask}
use Rattle.wac_composition.specs.Classes.{spelled}
use Rattle.wac_composition.specs.OuterImports.{asked_in, outer_of, outer_imports}
use Rattle.wac_merging.specs.declared.kept.Kept.{Kept}
use Rattle.wac_merging.specs.Kept.{Keeps, Spells}
use Rattle.wac_merging.specs.Labelled.{each_label, labelled, LabelClasses}

-- an item of a collection that is the outer import of these asks, under its name
abbrev pub IsOuter : {A : Type 0} → Collection → List (Ask A) → Name × ItemKind → Type 0
IsOuter d asks e = outer_of asks ≡ Some (e.0, stated_of d e.1)

-- what asks keep, under their spelling, is their outer import
abbrev pub Spelled_is_outer : Type 0 → Type 0
Spelled_is_outer A = (c d : Collection) (asks : List (Ask A)) (k : Kept) (item : ItemKind) → Keeps c (asked_in asks) k
    → Spells c k (spelled asks) d item → IsOuter d asks (spelled asks, item)

-- items that are the outer imports of the labels, in order, state the outer imports of the asks
abbrev pub Outers_are_stated : Type 0 → Type 0
Outers_are_stated A = (d : Collection) (asks : List (Ask A)) (labels : List ℕ) (outers : List (ℕ × (Name × ItemKind)))
    → LabelClasses asks labels → names_of outers ≡ each_label labels
    → ((l : ℕ) (e : Name × ItemKind) → Among (l, e) outers → IsOuter d (labelled l asks labels) e)
    → outer_imports asks ≡ with_values (stated_of d) (values_of outers)

-- outer imports of two labels have two names
abbrev pub Outers_differ : Type 0 → Type 0
Outers_differ A = (asks : List (Ask A)) (labels : List ℕ) (l m : ℕ) (n : Name) (x y : Stated) → LabelClasses asks labels
    → outer_of (labelled l asks labels) ≡ Some (n, x) → outer_of (labelled m asks labels) ≡ Some (n, y) → l ≡ m
