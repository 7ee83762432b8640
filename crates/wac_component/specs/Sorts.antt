-- Sorts, names of imports and exports, descriptions, aliases.
use Rattle.std.specs.Prelude.{ℕ, Option, Some, None, ◌==◌, if◌then◌else◌}
use Rattle.wac_types_base.specs.Entries.{Name}
use Rattle.wac_graph_bytes.specs.declared.value.Description.{Description}
use Rattle.wac_graph_bytes.specs.declared.value.Description.TheVariants as desc
use Rattle.wac_component.specs.declared.entry.CoreSort.{CoreSort}
use Rattle.wac_component.specs.declared.entry.CoreSort.TheVariants as core
use Rattle.wac_component.specs.declared.entry.Sort.{Sort}
use Rattle.wac_component.specs.declared.entry.Sort.TheVariants as sort
use Rattle.wac_component.specs.declared.fault.FaultKind.TheVariants as kind
use Rattle.wac_component.specs.Entries.{Alias, ExportAlias, CoreAlias, OuterAlias}
use Rattle.wac_component.specs.Rules.{Rule, ◌>>=◌, ◌>>◌, pure, refuse, choose, byte, exactly, or_refuse}
use Rattle.wac_component.specs.Numbers.{number, name}

-- ---- sorts

abbrev pub core_sort_of : ℕ → Option CoreSort
core_sort_of b =
    if b == 0x00 then Some core.Func else if b == 0x01 then Some core.Table else if b == 0x02 then Some core.LinearMemory
    else if b == 0x03 then Some core.Global else if b == 0x04 then Some core.Tag else if b == 0x10 then Some core.Ty
    else if b == 0x11 then Some core.Module else if b == 0x12 then Some core.Instance else None

unfoldable pub core_sort : Rule CoreSort
core_sort = byte >>= λ b. or_refuse kind.Sort (core_sort_of b)

-- a sort of one byte
abbrev pub sort_of : ℕ → Option Sort
sort_of b =
    if b == 0x01 then Some sort.Func else if b == 0x02 then Some sort.Value else if b == 0x03 then Some sort.Ty
    else if b == 0x04 then Some sort.Component else if b == 0x05 then Some sort.Instance else None

-- a core sort behind a 0
unfoldable pub sort_code : Rule Sort
sort_code = byte >>= λ b. choose (b == 0) (core_sort >>= λ c. pure (sort.Core c)) (or_refuse kind.Sort (sort_of b))

-- ---- names of imports and exports

-- a byte that says nothing, 0 or 1, and a text
unfoldable pub extern_name : Rule Name
extern_name = byte >>= λ b.
    choose (b == 0) name (choose (b == 1) name (choose (b == 2) (refuse kind.NameOptions) (refuse kind.Name)))

-- ---- descriptions

-- a type that is equal to another, or a fresh resource
unfoldable pub type_bound : Rule Description
type_bound = byte >>= λ b.
    choose (b == 0) (number >>= λ i. pure (desc.Equal i)) (choose (b == 1) (pure desc.Resource) (refuse kind.Description))

unfoldable pub description : Rule Description
description = byte >>= λ b.
    choose (b == 0) (exactly 0x11 kind.Description >> number >>= λ i. pure (desc.Module i))
    (choose (b == 1) (number >>= λ i. pure (desc.Func i))
    (choose (b == 2) (refuse kind.Value)
    (choose (b == 3) type_bound
    (choose (b == 4) (number >>= λ i. pure (desc.Component i))
    (choose (b == 5) (number >>= λ i. pure (desc.Instance i)) (refuse kind.Description))))))

-- ---- aliases

unfoldable pub export_alias : Sort → Rule Alias
export_alias s = do
  i ← number
  n ← name
  pure (ExportAlias s i n)

unfoldable pub core_alias : Sort → Rule Alias
core_alias s = do
  i ← number
  n ← name
  pure (CoreAlias s i n)

unfoldable pub outer_alias : Sort → Rule Alias
outer_alias s = do
  count ← number
  i ← number
  pure (OuterAlias s count i)

abbrev pub alias_by : Sort → ℕ → Rule Alias
alias_by s b =
    choose (b == 0) (export_alias s) (choose (b == 1) (core_alias s) (choose (b == 2) (outer_alias s) (refuse kind.Alias)))

unfoldable pub alias : Rule Alias
alias = do
  s ← sort_code
  b ← byte
  alias_by s b
