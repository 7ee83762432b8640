-- The type entry of a defined type and of a function, by the value types in its places.
use Rattle.std.specs.Prelude.{ℕ, List, [], ◌∷◌, map, length, slice_get, Option, Some, None}
use Rattle.wac_types_base.specs.declared.item.PrimitiveType.{PrimitiveType}
use Rattle.wac_types_base.specs.declared.defined.DefinedType.{DefinedType}
use Rattle.wac_types_base.specs.declared.defined.FuncType.{FuncType}
use Rattle.wac_types_base.specs.Entries.{Name, names_of}
use Rattle.wac_types_base.specs.Tree.{Tree, Row, end, place, gap}
use Rattle.wac_graph_bytes.specs.declared.value.ValueType.{ValueType as Written}
use Rattle.wac_graph_bytes.specs.declared.value.ValueType.TheVariants.{Primitive}
use Rattle.wac_graph_bytes.specs.Entries.{DefinedType as TypeEntry, RecordEntry, VariantEntry, ListEntry, OptionEntry, FixedListEntry, TupleEntry, FlagsEntry, EnumEntry, ResultEntry, StreamEntry, FutureEntry, FuncEntry}

-- the value type in a place; where there is none it does not matter which
abbrev pub value_or : Option Written → Written
value_or (Some b) = b
value_or None = Primitive PrimitiveType.U8

abbrev pub in_place : Option (Option Written) → Option Written
in_place None = None
in_place (Some b) = b

-- what stands in the place of this number
abbrev pub place_at : List (Option Written) → ℕ → Option Written
place_at bs n = in_place (slice_get bs n)

abbrev pub first_place : List (Option Written) → Option Written
first_place [] = None
first_place (b ∷ bs) = b

abbrev pub other_places : List (Option Written) → List (Option Written)
other_places [] = []
other_places (b ∷ bs) = bs

-- each name with the value type of its place
abbrev pub params_with : List Name → List (Option Written) → List (Name × Written)
params_with [] bs = []
params_with (n ∷ ns) bs = (n, value_or (first_place bs)) ∷ params_with ns (other_places bs)

abbrev pub cases_with : List Name → List (Option Written) → List (Name × Option Written)
cases_with [] bs = []
cases_with (n ∷ ns) bs = (n, first_place bs) ∷ cases_with ns (other_places bs)

-- the entry of a type that is no alias
abbrev pub entry_of : DefinedType → List (Option Written) → TypeEntry
entry_of (DefinedType.Tuple ts) bs = TupleEntry (map value_or bs)
entry_of (DefinedType.List t) bs = ListEntry (value_or (place_at bs 0))
entry_of (DefinedType.FixedSizeList t n) bs = FixedListEntry (value_or (place_at bs 0)) n
entry_of (DefinedType.Option t) bs = OptionEntry (value_or (place_at bs 0))
entry_of (DefinedType.Result ok err) bs = ResultEntry (place_at bs 0) (place_at bs 1)
entry_of (DefinedType.Variant v) bs = VariantEntry (cases_with (names_of v.cases) bs)
entry_of (DefinedType.Record r) bs = RecordEntry (params_with (names_of r.fields) bs)
entry_of (DefinedType.Flags f) bs = FlagsEntry f.0
entry_of (DefinedType.Enum e) bs = EnumEntry e.0
entry_of (DefinedType.Alias t) bs = ListEntry (value_or (place_at bs 0))
entry_of (DefinedType.Stream o) bs = StreamEntry (place_at bs 0)
entry_of (DefinedType.Future o) bs = FutureEntry (place_at bs 0)

-- the entry of a function: the answer stands behind the parameters
abbrev pub func_entry_of : FuncType → List (Option Written) → TypeEntry
func_entry_of f bs = FuncEntry f.is_async (params_with (names_of f.params) bs) (place_at bs (length f.params))

-- the trees in places, as a row
abbrev pub row_of : List (Option Tree) → Row
row_of [] = end
row_of (None ∷ ts) = gap (row_of ts)
row_of (Some t ∷ ts) = place t (row_of ts)
