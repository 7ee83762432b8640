-- Which causes stand against a composition. The first of them is `first_cause`, and a law ties both.
use Rattle.std.specs.Prelude.{◌≡◌, Bool, true, false, List, [], ◌∷◌, ◌++◌, Some, None}
use Rattle.std.specs.List.{flat_map}
use Rattle.wac_types_base.specs.Entries.{Name}
use Rattle.wac_types_base.specs.Graph.{Among}
use Rattle.wac_types_base.specs.Stated.{Stated, IsValue, kind_of}
use Rattle.wac_composition.specs.Composition.{Placed, Composition}
use Rattle.wac_composition.specs.Asks.{ByName, ToFill, Ask, asks_of}
use Rattle.wac_composition.specs.Classes.{class, spelling}
use Rattle.wac_composition.specs.Merging.{kept}
use Rattle.wac_composition.specs.OuterImports.{asked_in, outer_imports}
use Rattle.wac_composition.specs.Writable.{holder, as_defined}
use Rattle.wac_composition.specs.Circles.{written_whole, written_package}
use Rattle.wac_composition.specs.NotWritten.{CannotBeWritten, PackageCannotBeWritten}
use Rattle.wac_composition.specs.Conflicts.{Cause, ImplicitImport, ExplicitImport, ImportTypes, Unwritable, those_in, dependencies_of, whole_forms, outers_written, first_cause}

module _ {A I : Type 0} (define : Bool) (c : Composition A I) where
  -- The asks up to this one that are one outer import with it keep nothing; the first of them is that other one.
  pub record IsUnmerged (a b : Ask A) : Type 0 where
    pub before : List (Ask A)
    pub after : List (Ask A)
    pub stands : asks_of c ≡ before ++ a ∷ after
    pub others : List (Ask A)
    pub are : those_in (class (asks_of c) a) (before ++ a ∷ []) ≡ b ∷ others
    pub nothing : kept (asked_in (b ∷ others)) ≡ None

  pub data StandsAgainst : Cause A → Type 0 where
    -- an import is asked by name, and an instance leaves an import of that name
    asked_twice : (i : Placed A) (a : Ask A) → Among i c.imports → Among a (asks_of c) → a.asking ≡ ToFill → i.name ≡ a.name
        → StandsAgainst (ImplicitImport a.name i.by a.by)
    import_unmerged : (a b : Ask A) → IsUnmerged a b → a.asking ≡ ByName → StandsAgainst (ExplicitImport a.name b.by a.by)
    ask_unmerged : (a b : Ask A) → IsUnmerged a b → (a.asking ≡ ByName → ⊥) → StandsAgainst (ImportTypes a.name b.by a.by)
    alias_of_value : (n : Name) (x : Stated) → Among (n, x) c.aliases → kind_of x ≡ IsValue → StandsAgainst (Unwritable n)
    outer_import : (n : Name) (x : Stated) → Among (n, x) (outer_imports (asks_of c))
        → CannotBeWritten true (holder [] (outer_imports (asks_of c))) n x → StandsAgainst (Unwritable n)
    -- as they are written: an outer import, or an import of a component type that stands in one
    outer_in_circle : (n : Name) (x : Stated) → Among (n, x) (outers_written (spelling (asks_of c)) (outer_imports (asks_of c)))
        → CannotBeWritten true (holder [] []) n x → StandsAgainst (Unwritable n)
    -- a definition, or an import of a component type that stands in one
    circle_in_definition : (n : Name) (x : Stated) → Among (n, x) (flat_map written_whole (whole_forms c.definitions))
        → CannotBeWritten true (holder [] []) n x → StandsAgainst (Unwritable n)
    -- in an imported package
    circle_in_package : (n : Name) (x : Stated) → Among (n, x) (flat_map written_package (dependencies_of define c))
        → CannotBeWritten true (holder [] []) n x → StandsAgainst (Unwritable n)
    definition : (d : Placed A) → Among d c.definitions
        → CannotBeWritten false (holder [] (outer_imports (asks_of c))) d.name (as_defined d.item)
        → StandsAgainst (Unwritable d.name)
    imported_package : (n : Name) (x : Stated) → Among (n, x) (dependencies_of define c)
        → PackageCannotBeWritten x → StandsAgainst (Unwritable n)

  -- the first cause stands, and where there is none no cause stands
  pub record FirstStands : Type 0 where
    pub stands : (x : Cause A) → first_cause define c ≡ Some x → StandsAgainst x
    pub none : first_cause define c ≡ None → (x : Cause A) → StandsAgainst x → ⊥
