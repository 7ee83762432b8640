-- The sections of entries have these entries, and fit.
use Rattle.std.proofs.Common.{◌≡◌, ℕ, true, List, [], ◌∷◌, ◌++◌, length, map, Option, Some, None, refl, ap, ◌∙◌}
use Rattle.std.proofs.lemmas.Bool.{and_from, and_parts}
use Rattle.std.specs.Prelude.{◌&&◌}
use Rattle.std.specs.List.{AllByRecursion, list_all}
use Rattle.wac_types_base.specs.Entries.{Name}
use Rattle.wac_graph_bytes.specs.declared.value.Sort.{Sort}
use Rattle.wac_graph_bytes.specs.Entries.{Entry, Core, Nested, Instantiate, Aliased, Typed, Imported, Exported, Section, section_entries, entries_of}
use Rattle.wac_graph_bytes.specs.Spelling.{contents}
use Rattle.wac_graph_bytes.specs.Sizes.{section_fits, name_fits, small}
use Rattle.wac_graph_bytes.specs.Writing.{section_of, entry_fits, debug_part_fits, debug_names, debug_if, debug_if_fits, producers, producers_if, producers_if_fit, sections_for, sections_fit}
use Rattle.wac_graph_bytes.proofs.Texts.{producers_fits, component_name_fits}

-- the two tests of a conjunction
entry_alone : (e : Entry) → section_entries (section_of e) ≡ e ∷ []
entry_alone (Core ds) = refl
entry_alone (Nested bytes) = refl
entry_alone (Instantiate c as') = refl
entry_alone (Aliased a) = refl
entry_alone (Typed t) = refl
entry_alone (Imported n d) = refl
entry_alone (Exported e) = refl

custom_entries : (p : Option (Name × Name)) (ns : List (Sort × List (ℕ × Name))) → entries_of (debug_if ns ++ producers_if p) ≡ []
custom_entries None [] = refl
custom_entries None (n ∷ ns) = refl
custom_entries (Some p) [] = refl
custom_entries (Some p) (n ∷ ns) = refl

-- the entries of what is written are these
pub sections_entries : (es : List Entry) (p : Option (Name × Name)) (ns : List (Sort × List (ℕ × Name))) → entries_of (sections_for es p ns) ≡ es
sections_entries [] p ns = custom_entries p ns
sections_entries (e ∷ es) p ns = ap (λ (t : List Entry). t ++ entries_of (sections_for es p ns)) (entry_alone e) ∙ ap (λ (t : List Entry). e ∷ t) (sections_entries es p ns)

abbrev Fit : Section → Type 0
Fit s = section_fits s ≡ true

producers_small : (p : Option (Name × Name)) → producers_if_fit p ≡ true → AllByRecursion Fit (producers_if p)
producers_small None h = tt
producers_small (Some p) h =
    (and_from _ _ producers_fits (and_parts (name_fits p.0 && name_fits p.1) (small (length (contents (producers p)))) h).1, tt)

custom_small : (p : Option (Name × Name)) (ns : List (Sort × List (ℕ × Name))) → debug_if_fits ns ≡ true → producers_if_fit p ≡ true → AllByRecursion Fit (debug_if ns ++ producers_if p)
custom_small p [] g h = producers_small p h
custom_small p (n ∷ ns) g h = (
  and_from _ _ component_name_fits (and_parts (list_all debug_part_fits (n ∷ ns)) (small (length (contents (debug_names (n ∷ ns))))) g).1,
  producers_small p h,
)

entries_small : (es : List Entry) (rest : List Section) → list_all entry_fits es ≡ true → AllByRecursion Fit rest → AllByRecursion Fit (map section_of es ++ rest)
entries_small [] rest h k = k
entries_small (e ∷ es) rest h k =
    let a = and_parts (entry_fits e) (list_all entry_fits es) h in
    (a.0, entries_small es rest a.1 k)

pub sections_small : (es : List Entry) (p : Option (Name × Name)) (ns : List (Sort × List (ℕ × Name))) → sections_fit es p ns ≡ true → AllByRecursion (λ s. section_fits s ≡ true) (sections_for es p ns)
sections_small es p ns h =
    let a = and_parts (list_all entry_fits es) (debug_if_fits ns && producers_if_fit p) h in
    let b = and_parts (debug_if_fits ns) (producers_if_fit p) a.1 in
    entries_small es (debug_if ns ++ producers_if p) a.0 (custom_small p ns b.0 b.1)
