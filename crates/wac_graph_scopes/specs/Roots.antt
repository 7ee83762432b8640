-- The root of a component: its types and imports are written like the declarations of a type, and stand as entries.
use Rattle.std.specs.Prelude.{◌≡◌, ℕ, zero, Bool, true, false, List, [], ◌∷◌, ◌++◌, Option, Some, None, option_to_list, slice_get, if◌then◌else◌}
use Rattle.std.specs.List.{AllZip}
use Rattle.wac_types_base.specs.Entries.{Name, names_of, has_name}
use Rattle.wac_graph_bytes.specs.declared.value.Sort.TheVariants as sort
use Rattle.wac_graph_bytes.specs.Entries.{Alias, OuterAlias, Declarations, End, CoreThen, TypeThen, ComponentTypeThen, InstanceTypeThen, AliasThen, ImportThen, ExportThen, PlainType, ComponentType, InstanceType, Entry, Core, Aliased, Typed, Imported, Exported}
use Rattle.wac_graph_bytes.specs.Typing.{Worlds, Meaning, Inside, declared}
use Rattle.wac_graph_bytes.specs.Wirings.{Source}
use Rattle.wac_graph_bytes.specs.Meaning.{State, source_of, steps}

-- the type of this scope that an alias repeats
abbrev pub repeated : Alias → Option ℕ
repeated (OuterAlias sort.Ty zero k) = Some k
repeated a = None

-- an export, unless one of its name is among these
abbrev pub if_new : List (Name × ℕ) → Option (Name × ℕ) → Option (Name × ℕ)
if_new seen None = None
if_new seen (Some x) = if has_name (names_of seen) x.0 then None else Some x

-- the alias, or the export in its place
abbrev pub export_of : Name → Alias → Entry
export_of n (OuterAlias s d k) = Exported (record { name = n; sort = s; index = k; stated = None })
export_of n a = Aliased a

abbrev pub alias_entry : Alias → Option (Name × ℕ) → Entry
alias_entry a o = elim o [ None ↦ Aliased a | Some x ↦ export_of x.0 a ]

-- Of some types an alias that repeats them is an export at the root: by their indexes its name, and a number beside it.
module _ (early : ℕ → Option (Name × ℕ)) where
  abbrev pub alias_export : List (Name × ℕ) → Alias → Option (Name × ℕ)
  alias_export seen a = elim (repeated a) [ None ↦ None | Some k ↦ if_new seen (early k) ]

  -- the declarations as entries, behind these exports; an export of theirs is none here
  abbrev pub root_entries : List (Name × ℕ) → Declarations → List Entry
  root_entries seen End = []
  root_entries seen (CoreThen ds rest) = Core ds ∷ root_entries seen rest
  root_entries seen (TypeThen t rest) = Typed (PlainType t) ∷ root_entries seen rest
  root_entries seen (ComponentTypeThen ds rest) = Typed (ComponentType ds) ∷ root_entries seen rest
  root_entries seen (InstanceTypeThen ds rest) = Typed (InstanceType ds) ∷ root_entries seen rest
  root_entries seen (AliasThen a rest) =
      alias_entry a (alias_export seen a) ∷ root_entries (seen ++ option_to_list (alias_export seen a)) rest
  root_entries seen (ImportThen n d rest) = Imported n d ∷ root_entries seen rest
  root_entries seen (ExportThen n d rest) = root_entries seen rest

  -- these exports, and those among the entries
  abbrev pub root_exports : List (Name × ℕ) → Declarations → List (Name × ℕ)
  root_exports seen End = seen
  root_exports seen (CoreThen ds rest) = root_exports seen rest
  root_exports seen (TypeThen t rest) = root_exports seen rest
  root_exports seen (ComponentTypeThen ds rest) = root_exports seen rest
  root_exports seen (InstanceTypeThen ds rest) = root_exports seen rest
  root_exports seen (AliasThen a rest) = root_exports (seen ++ option_to_list (alias_export seen a)) rest
  root_exports seen (ImportThen n d rest) = root_exports seen rest
  root_exports seen (ExportThen n d rest) = root_exports seen rest

-- nothing is exported
abbrev pub has_no_export : Declarations → Bool
has_no_export End = true
has_no_export (CoreThen ds rest) = has_no_export rest
has_no_export (TypeThen t rest) = has_no_export rest
has_no_export (ComponentTypeThen ds rest) = has_no_export rest
has_no_export (InstanceTypeThen ds rest) = has_no_export rest
has_no_export (AliasThen a rest) = has_no_export rest
has_no_export (ImportThen n d rest) = has_no_export rest
has_no_export (ExportThen n d rest) = false

-- the state of a component whose types and imports are these, with nothing instantiated and these exports
abbrev pub at_root : Inside → List (Name × Source ℕ) → State
at_root i es = record { scope = i.here; listed = record { imports = i.imports; instances = []; exports = es }; stated = [] }

module _ (early : ℕ → Option (Name × ℕ)) (j : Inside) where
  -- each type that is exported early has a source
  abbrev pub HaveSources : Type 0
  HaveSources = (k : ℕ) (x : Name × ℕ) → early k ≡ Some x → (m : Meaning) → slice_get j.here.types k ≡ Some m
      → (s : Source ℕ) × (source_of m ≡ Some s)

  -- the export is that of a type that is exported early
  pub record IsEarly (x : Name × ℕ) (e : Name × Source ℕ) : Type 0 where
    pub index : ℕ
    pub named : early index ≡ Some x
    pub name : e.0 ≡ x.0
    pub meaning : Meaning
    pub at : slice_get j.here.types index ≡ Some meaning
    pub is : source_of meaning ≡ Some e.1

  -- the entries are read to what stands inside, and the exports among them are these
  pub record ReadsWith (w : Worlds) (from : State) (es : List Entry) (exports : List (Name × ℕ)) : Type 0 where
    pub listing : List (Name × Source ℕ)
    pub reads : steps w from es ≡ Some (at_root j listing)
    pub are : AllZip IsEarly exports listing

-- What declarations without exports say at the root, the same entries state.
abbrev pub RootsRead : Type 0
RootsRead = (early : ℕ → Option (Name × ℕ)) (w : Worlds) (i j : Inside) (ds : Declarations) (seen : List (Name × ℕ))
    (es : List (Name × Source ℕ)) → AllZip (IsEarly early j) seen es → HaveSources early j
    → has_no_export ds ≡ true → declared w [] i ds ≡ Some j
    → ReadsWith early j w (at_root i es) (root_entries early seen ds) (root_exports early seen ds)
