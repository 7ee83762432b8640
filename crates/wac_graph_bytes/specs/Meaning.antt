-- The wiring that a component's entries state, and what a byte string means.
use Rattle.std.specs.Prelude.{◌≡◌, ℕ, Bool, true, false, List, [], ◌∷◌, ◌++◌, length, codes, Option, Some, None, slice_get, if◌then◌else◌, ◌||◌}
use Rattle.std.specs.Option.{option_map}
use Rattle.std.specs.List.{AllByRecursion}
use Rattle.wac_types_base.specs.Tree.{Tree}
use Rattle.wac_graph_bytes.specs.declared.value.Sort.{Sort}
use Rattle.wac_graph_bytes.specs.declared.value.Sort.TheVariants as sort
use Rattle.wac_graph_bytes.specs.declared.value.Description.{Description}
use Rattle.wac_types_base.specs.Entries.{Name, names_of, value_at, AreDistinct}
use Rattle.wac_graph_bytes.specs.Entries.{Argument, Entry, Core, Nested, Instantiate, Aliased, Typed, Imported, Exported, Section, entries_of}
use Rattle.wac_graph_bytes.specs.Spelling.{component_bytes}
use Rattle.wac_graph_bytes.specs.Sizes.{section_fits}
use Rattle.wac_graph_bytes.specs.Wirings.{Source, Absent, Outer, Inst, Projection, Definition, Asks, Tag, OfBytes, OfDependency, Instantiation, Wiring}
use Rattle.wac_graph_bytes.specs.Typing.{◌>>=◌, Meaning, Item, Made, Part, Known, Code, Scope, no_scope, with_one, with_core, found, Worlds, item_of, item_tree, module_tree, described, alias_sort, alias_of, type_of, same_name}

-- ---- the entries, one after another

-- the source that an index stands for; a nested component is none
abbrev pub source_of : Meaning → Option (Source ℕ)
source_of (Item n s t) = Some (Outer n)
source_of (Made k tag) = Some (Inst k)
source_of (Part m s n) = source_of m >>= λ s. Some (Projection s n)
source_of (Known t) = Some (Definition (item_of t))
source_of (Code bytes) = None

-- what an instance of it is made of: a nested component, or an import
abbrev pub tag_of : Meaning → Option Tag
tag_of (Code bytes) = Some (OfBytes bytes)
tag_of (Item n s t) = Some (OfDependency n)
tag_of _ = None

-- the imports, the instances and the exports so far, in order
pub record Listed : Type 0 where
  pub imports : List (Name × Tree)
  pub instances : List (Tag × List (Name × Source ℕ))
  pub exports : List (Name × Source ℕ)

abbrev pub nothing_listed : Listed
nothing_listed = record { imports = []; instances = []; exports = [] }

-- the entries so far: what stands in scope, what they state, and which item was said to have which tree
pub record State : Type 0 where
  pub scope : Scope
  pub listed : Listed
  pub stated : List (Meaning × Tree)

abbrev pub start : State
start = record { scope = no_scope; listed = nothing_listed; stated = [] }

-- one more index that stands for m
abbrev pub adds : Sort → Meaning → State → State
adds s m st = record st { scope = with_one s m st.scope }

abbrev pub arguments_of : Scope → List Argument → Option (List (Name × Source ℕ))
arguments_of here [] = Some []
arguments_of here (a ∷ rest) =
    found (here ∷ []) a.1 a.2 >>= source_of >>= λ s. arguments_of here rest >>= λ others. Some ((a.0, s) ∷ others)

-- one more instance
abbrev pub makes : Tag → List (Name × Source ℕ) → State → State
makes tag arguments st = record {
  scope = with_one sort.Instance (Made (length st.listed.instances) tag) st.scope;
  listed = record st.listed { instances = st.listed.instances ++ (tag, arguments) ∷ [] };
  stated = st.stated;
}

-- one more import
abbrev pub imports_one : Name → Sort × Tree → State → State
imports_one n d st = record {
  scope = with_one d.0 (Item n d.0 d.1) st.scope;
  listed = record st.listed { imports = st.listed.imports ++ (n, d.1) ∷ [] };
  stated = st.stated;
}

-- one more export; its own index stands for what was exported
abbrev pub exports_one : Name → Sort → Meaning → Source ℕ → State → State
exports_one n s m x st = record {
  scope = with_one s m st.scope;
  listed = record st.listed { exports = st.listed.exports ++ (n, x) ∷ [] };
  stated = st.stated;
}

-- m was said to be that
abbrev pub states : Worlds → Meaning → Name → Option Description → State → Option State
states worlds m n None st = Some st
states worlds m n (Some d) st =
    described worlds (st.scope ∷ []) n d >>= λ i. Some (record st { stated = st.stated ++ (m, i.1) ∷ [] })

-- one more entry
unfoldable pub step : Worlds → State → Entry → Option State
step worlds st (Core ds) = module_tree ds >>= λ t. Some (record st { scope = with_core t st.scope })
step worlds st (Nested bytes) = Some (adds sort.Component (Code bytes) st)
step worlds st (Instantiate c as') = found (st.scope ∷ []) sort.Component c >>= tag_of >>= λ tag. arguments_of st.scope as'
    >>= λ arguments. Some (makes tag arguments st)
step worlds st (Aliased a) = alias_of worlds (st.scope ∷ []) a >>= λ m. Some (adds (alias_sort a) m st)
step worlds st (Typed t) = type_of worlds st.scope t >>= λ t. Some (adds sort.Ty (Known t) st)
step worlds st (Imported n d) = described worlds (st.scope ∷ []) n d >>= λ i. Some (imports_one n i st)
step worlds st (Exported e) = found (st.scope ∷ []) e.sort e.index >>= λ m. source_of m
    >>= λ x. states worlds m e.name e.stated st >>= λ st. Some (exports_one e.name e.sort m x st)

unfoldable pub steps : Worlds → State → List Entry → Option State
steps worlds st [] = Some st
steps worlds st (e ∷ es) = step worlds st e >>= λ next. steps worlds next es

-- ---- the wiring

-- the source under a name, or none
abbrev pub source_at : List (Name × Source ℕ) → Name → Source ℕ
source_at xs n = elim (value_at xs n) [ None ↦ Absent | Some s ↦ s ]

-- the imports that are packages: those that an instance is made of
abbrev pub is_package_of : Name → Tag → Bool
is_package_of n (OfBytes bytes) = false
is_package_of n (OfDependency m) = same_name n m

abbrev pub is_package : {X : Type 0} → Name → List (Tag × X) → Bool
is_package n [] = false
is_package n (x ∷ xs) = is_package_of n x.0 || is_package n xs

abbrev pub instantiation : Tag × List (Name × Source ℕ) → Instantiation ℕ
instantiation x = record { tag = x.0; args = source_at x.1 }

-- the wiring: an import is an outer import where it is no package; an instance's number is its place
abbrev pub wiring_of : Listed → Wiring ℕ
wiring_of l = record {
  outers = λ n. if is_package n l.instances then None else value_at l.imports n;
  at = λ k. option_map instantiation (slice_get l.instances k);
  exports = source_at l.exports;
}

-- ---- what a byte string means

-- it asks for no package
abbrev pub IsApart : Listed → Source ℕ → Type 0
IsApart l s = Asks (λ n. is_package n l.instances ≡ false) s

-- the name under which a package is imported, whatever it is called
abbrev pub NamesPackage : Name → Type 0
NamesPackage n = (called : Name) × (n ≡ codes "unlocked-dep=<" ++ (called ++ codes ">"))

-- an instance of an import is one of a component that is imported under a package's name
abbrev pub IsMadeOf : Tag → Type 0
IsMadeOf (OfBytes bytes) = Unit {0}
IsMadeOf (OfDependency n) = NamesPackage n

-- what holds of an instance: its arguments' names are distinct, and none of them is a package
pub record IsMade (l : Listed) (x : Tag × List (Name × Source ℕ)) : Type 0 where
  pub made_of : IsMadeOf x.0
  pub distinct : AreDistinct (names_of x.1)
  pub apart : AllByRecursion (λ a. IsApart l a.1) x.1

-- The entries can be read one after another to this last state, and state the wiring.
pub record States (worlds : Worlds) (entries : List Entry) (wiring : Wiring ℕ) : Type 0 where
  pub last : State
  pub read : steps worlds start entries ≡ Some last
  pub wired : wiring_of last.listed ≡ wiring
  -- what an export is said to be is exactly what it is
  pub stated : AllByRecursion (λ s. item_tree worlds s.0 ≡ Some s.1) last.stated
  -- no name stands twice, and no package is a source
  pub imports : AreDistinct (names_of last.listed.imports)
  pub instances : AllByRecursion (IsMade last.listed) last.listed.instances
  pub exports : AreDistinct (names_of last.listed.exports)
  pub exports_apart : AllByRecursion (λ e. IsApart last.listed e.1) last.listed.exports

-- The byte string is a component's, and its entries state that wiring.
pub record Means (worlds : Worlds) (bytes : List ℕ) (wiring : Wiring ℕ) : Type 0 where
  -- it is the spelling of these sections, whose numbers have 32 bits
  pub sections : List Section
  pub spelled : bytes ≡ component_bytes sections
  pub fits : AllByRecursion (λ s. section_fits s ≡ true) sections
  pub states : States worlds (entries_of sections) wiring
