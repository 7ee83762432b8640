-- Which index each entry adds, and how many there are.
use Rattle.std.specs.Prelude.{ℕ, Bool, true, false, List, Option, Some, None, count_by}
use Rattle.wac_graph_bytes.specs.declared.value.Sort.{Sort}
use Rattle.wac_graph_bytes.specs.declared.value.Sort.TheVariants as sort
use Rattle.wac_graph_bytes.specs.declared.value.Description.{Description}
use Rattle.wac_graph_bytes.specs.declared.value.Description.TheVariants as desc
use Rattle.wac_graph_bytes.specs.declared.entry.Entry.{Entry as CodeEntry}
use Rattle.wac_graph_bytes.specs.Entries.{Entry, Core, Nested, Instantiate, Aliased, Typed, Imported, Exported}
use Rattle.wac_graph_bytes.specs.Typing.{alias_sort}
use Rattle.wac_graph_bytes.specs.Views.{view}

abbrev pub same_sort : Sort → Sort → Bool
same_sort sort.Func sort.Func = true
same_sort sort.Ty sort.Ty = true
same_sort sort.Component sort.Component = true
same_sort sort.Instance sort.Instance = true
same_sort sort.Module sort.Module = true
same_sort _ _ = false

abbrev pub description_sort : Description → Sort
description_sort (desc.Module i) = sort.Module
description_sort (desc.Func i) = sort.Func
description_sort (desc.Equal i) = sort.Ty
description_sort desc.Resource = sort.Ty
description_sort (desc.Component i) = sort.Component
description_sort (desc.Instance i) = sort.Instance

-- the sort of the index that an entry adds; a core type has a space of its own
abbrev pub entry_sort : Entry → Option Sort
entry_sort (Core ds) = None
entry_sort (Nested bytes) = Some sort.Component
entry_sort (Instantiate c as') = Some sort.Instance
entry_sort (Aliased a) = Some (alias_sort a)
entry_sort (Typed t) = Some sort.Ty
entry_sort (Imported n d) = Some (description_sort d)
entry_sort (Exported e) = Some e.sort

abbrev pub is_sort : Sort → Option Sort → Bool
is_sort s None = false
is_sort s (Some t) = same_sort s t

abbrev pub is_core : Option Sort → Bool
is_core None = true
is_core (Some s) = false

-- how many indexes of a sort the entries add, and how many core types
abbrev pub count_of : Sort → List CodeEntry → ℕ
count_of s es = count_by (λ e. is_sort s (entry_sort (view e))) es

abbrev pub core_count : List CodeEntry → ℕ
core_count es = count_by (λ e. is_core (entry_sort (view e))) es
