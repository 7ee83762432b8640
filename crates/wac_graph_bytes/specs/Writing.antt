-- What a writer does with the bytes so far, and the sections of a component that is written.
use Rattle.std.specs.Prelude.{◌≡◌, Bool, true, false, List, [], ◌∷◌, ℕ, ◌++◌, Result, Ok, Err, Option, Some, None, map, codes, ◌&&◌, length}
use Rattle.std.specs.List.{flat_map, list_all}
use Rattle.wac_types_base.specs.Entries.{Name}
use Rattle.wac_graph_bytes.specs.declared.error.SizeError.{SizeError}
use Rattle.wac_graph_bytes.specs.declared.error.SizeError.TheVariants.{TooLarge, Memory}
use Rattle.wac_graph_bytes.specs.declared.value.Sort.{Sort}
use Rattle.wac_graph_bytes.specs.Leb.{unsigned}
use Rattle.wac_graph_bytes.specs.Entries.{Entry, Core, Nested, Instantiate, Aliased, Typed, Imported, Exported, Section, Custom, CoreTypes, NestedComponent, Instances, Aliases, Types, Imports, Exports}
use Rattle.wac_graph_bytes.specs.Spelling.{vec, name, sort_bytes, framed, contents}
use Rattle.wac_graph_bytes.specs.Sizes.{small, name_fits, vec_fits, section_fits}

-- It appended that text, whose numbers fit; or one of them doesn't; or memory ran out.
abbrev pub Appends : {T : Type 0} → Result T SizeError → (old new text : List ℕ) → (fits : Bool) → Type 0
Appends (Ok x) old new text fits = (new ≡ old ++ text) × (fits ≡ true)
Appends (Err TooLarge) old new text fits = fits ≡ false
Appends (Err Memory) old new text fits = Unit {0}

-- a section of that one entry
abbrev pub section_of : Entry → Section
section_of (Core ds) = CoreTypes (ds ∷ [])
section_of (Nested bytes) = NestedComponent bytes
section_of (Instantiate c as') = Instances ((c, as') ∷ [])
section_of (Aliased a) = Aliases (a ∷ [])
section_of (Typed t) = Types (t ∷ [])
section_of (Imported n d) = Imports ((n, d) ∷ [])
section_of (Exported e) = Exports (e ∷ [])

abbrev pub entry_fits : Entry → Bool
entry_fits e = section_fits (section_of e)

-- ---- who wrote it (WebAssembly tool conventions: producers section): one field, `processed-by`, with one name and version

abbrev pub producers_rest : Name × Name → List ℕ
producers_rest p = unsigned 1 ++ (name (codes "processed-by") ++ (unsigned 1 ++ (name p.0 ++ name p.1)))

abbrev pub producers : Name × Name → Section
producers p = Custom (codes "producers") (producers_rest p)

abbrev pub producers_fit : Name × Name → Bool
producers_fit p = name_fits p.0 && name_fits p.1 && small (length (contents (producers p)))

-- ---- names for debuggers (Component Model, binary format: name section): for each sort the names of indexes

abbrev pub index_name : ℕ × Name → List ℕ
index_name x = unsigned x.0 ++ name x.1

abbrev pub sort_names : Sort × List (ℕ × Name) → List ℕ
sort_names x = sort_bytes x.0 ++ vec index_name x.1

abbrev pub debug_part : Sort × List (ℕ × Name) → List ℕ
debug_part x = framed 1 (sort_names x)

abbrev pub debug_names : List (Sort × List (ℕ × Name)) → Section
debug_names xs = Custom (codes "component-name") (flat_map debug_part xs)

abbrev pub index_name_fits : ℕ × Name → Bool
index_name_fits x = small x.0 && name_fits x.1

abbrev pub debug_part_fits : Sort × List (ℕ × Name) → Bool
debug_part_fits x = vec_fits index_name_fits x.1 && small (length (sort_names x))

abbrev pub debug_names_fit : List (Sort × List (ℕ × Name)) → Bool
debug_names_fit xs = list_all debug_part_fits xs && small (length (contents (debug_names xs)))

-- ---- a whole component: a section for each entry, the debug names where there are any, and the processor where one is given

abbrev pub debug_if : List (Sort × List (ℕ × Name)) → List Section
debug_if [] = []
debug_if (x ∷ xs) = debug_names (x ∷ xs) ∷ []

abbrev pub producers_if : Option (Name × Name) → List Section
producers_if None = []
producers_if (Some p) = producers p ∷ []

abbrev pub sections_for : List Entry → Option (Name × Name) → List (Sort × List (ℕ × Name)) → List Section
sections_for es p ns = map section_of es ++ (debug_if ns ++ producers_if p)

abbrev pub debug_if_fits : List (Sort × List (ℕ × Name)) → Bool
debug_if_fits [] = true
debug_if_fits (x ∷ xs) = debug_names_fit (x ∷ xs)

abbrev pub producers_if_fit : Option (Name × Name) → Bool
producers_if_fit None = true
producers_if_fit (Some p) = producers_fit p

abbrev pub sections_fit : List Entry → Option (Name × Name) → List (Sort × List (ℕ × Name)) → Bool
sections_fit es p ns = list_all entry_fits es && (debug_if_fits ns && producers_if_fit p)
