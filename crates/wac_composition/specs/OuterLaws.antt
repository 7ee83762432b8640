-- What holds of outer imports.
use Rattle.std.specs.Prelude.{◌≡◌, ◌↔◌, Bool, List, [], ◌∷◌, ◌++◌, Some, None, true, false, map}
use Rattle.wac_types_base.specs.Entries.{Name, value_at}
use Rattle.wac_types_base.specs.Graph.{Among}
use Rattle.wac_types_base.specs.Stated.{Stated}
use Rattle.wac_types_base.specs.Tree.{Tree, tree}
use Rattle.wac_types_base.specs.Fits.{Fits}
use Rattle.wac_types_fit.specs.Meets.{FitsAll, IsMeet}
use Rattle.wac_types_fit.specs.Ordered.{InOrder}
use Rattle.wac_composition.specs.Names.{compatible}
use Rattle.wac_composition.specs.Composition.{Composition}
use Rattle.wac_composition.specs.Asks.{Ask, asks_of}
use Rattle.wac_composition.specs.Merging.{Asked, in_family, kept}
use Rattle.wac_composition.specs.Regular.{AreRegular}
use Rattle.wac_composition.specs.Classes.{Linked, class, spelling}
use Rattle.wac_composition.specs.OuterImports.{outer_of, outer_imports}
use Rattle.wac_composition.specs.Conflicts.{first_cause, merge_conflict}

abbrev pub trees_asked : List Asked → List Tree
trees_asked asks = map (λ a. tree a.1) asks

-- what several asks keep is the greatest tree that fits each of them
abbrev pub Kept_is_meet : Type 0
Kept_is_meet = (asks : List Asked) (x : Stated) → kept asks ≡ Some x → IsMeet (tree x) (trees_asked asks)

-- Why asks keep nothing: those before this one keep the last type but one. Where all have a family no tree fits all of them, and
-- else neither of the two fits the other.
pub record KeepNothing (asks : List Asked) : Type 0 where
  pub before : List Asked
  pub ask : Asked
  pub later : List Asked
  pub are : asks ≡ before ++ ask ∷ later
  pub item : Stated
  pub so_far : kept before ≡ Some item
  pub of_family : in_family (before ++ ask ∷ []) ≡ true → AreRegular (before ++ ask ∷ []) → (t : Tree) → InOrder t
      → FitsAll t (trees_asked (before ++ ask ∷ [])) → ⊥
  pub of_none : in_family (before ++ ask ∷ []) ≡ false
      → (Fits (tree item) (tree ask.1) → ⊥) × (Fits (tree ask.1) (tree item) → ⊥)

abbrev pub None_are_kept : Type 0
None_are_kept = (a : Asked) (asks : List Asked) → kept (a ∷ asks) ≡ None → KeepNothing (a ∷ asks)

-- the outer import of a class fits each of its asks
abbrev pub Outer_fits : Type 0 → Type 0
Outer_fits A = (asks : List (Ask A)) (n : Name) (x : Stated) → outer_of asks ≡ Some (n, x) → (a : Ask A) → Among a asks
    → Fits (tree x) (tree a.item)

-- the class of an ask is what is linked to it, in asking order
abbrev pub Classes_are_linked : Type 0 → Type 0
Classes_are_linked A = (asks : List (Ask A)) (a b : Ask A) → Among a asks → Among b (class asks a) ↔ Linked asks a b

-- being linked is an equivalence of asks, so it is the smallest one in which akin asks are equal
abbrev pub Links_turn : Type 0 → Type 0
Links_turn A = (asks : List (Ask A)) (a b : Ask A) → Among a asks → Linked asks a b → Linked asks b a

abbrev pub Links_go_on : Type 0 → Type 0
Links_go_on A = (asks : List (Ask A)) (a b c : Ask A) → Linked asks a b → Linked asks b c → Linked asks a c

-- each ask whose class merges finds an outer import under the spelling of its name, that fits it
abbrev pub Asks_are_met : Type 0 → Type 0
Asks_are_met A = (asks : List (Ask A)) (a : Ask A) (n : Name) (x : Stated) → Among a asks → outer_of (class asks a) ≡ Some (n, x)
    → (spelling asks a.name ≡ n) × (value_at (outer_imports asks) n ≡ Some x) × Fits (tree x) (tree a.item)

-- no two outer imports have equal names, or names on one track
abbrev pub Outers_are_apart : Type 0 → Type 0
Outers_are_apart A = (asks : List (Ask A)) (n m : Name) (x y : Stated) → value_at (outer_imports asks) n ≡ Some x
    → value_at (outer_imports asks) m ≡ Some y → compatible n m ≡ true → n ≡ m

-- under the spelling of its name there is an outer import that fits the ask
pub record IsMet {A : Type 0} (asks : List (Ask A)) (a : Ask A) : Type 0 where
  pub item : Stated
  pub there : value_at (outer_imports asks) (spelling asks a.name) ≡ Some item
  pub fits : Fits (tree item) (tree a.item)

-- each ask of a composition is met
abbrev pub AreMet : {A I : Type 0} → Composition A I → Type 0
AreMet c = (a : Ask _) → Among a (asks_of c) → IsMet (asks_of c) a

-- so it is where no imports conflict, and where nothing stands against the composition
abbrev pub Merged_are_met : Type 0 → Type 0 → Type 0
Merged_are_met A I = (c : Composition A I) → merge_conflict (asks_of c) [] (asks_of c) ≡ None → AreMet c

abbrev pub Accepted_are_met : Type 0 → Type 0 → Type 0
Accepted_are_met A I = (define : Bool) (c : Composition A I) → first_cause define c ≡ None → AreMet c
