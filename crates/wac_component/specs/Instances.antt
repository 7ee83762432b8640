-- Core instances and instances.
use Rattle.std.specs.Prelude.{ℕ, ◌==◌}
use Rattle.wac_types_base.specs.Entries.{Name}
use Rattle.wac_component.specs.declared.entry.CoreSort.{CoreSort}
use Rattle.wac_component.specs.declared.entry.Sort.{Sort}
use Rattle.wac_component.specs.declared.fault.FaultKind.TheVariants as kind
use Rattle.wac_component.specs.Entries.{CoreInstance, CoreInstantiate, CoreBundle, Instance, Instantiate, Bundle}
use Rattle.wac_component.specs.Rules.{Rule, ◌>>=◌, ◌>>◌, pure, refuse, choose, byte, exactly}
use Rattle.wac_component.specs.Numbers.{number, name, vec}
use Rattle.wac_component.specs.Sorts.{core_sort, sort_code, extern_name}

-- a core instance under the name of an import; 12 is its sort
unfoldable pub core_argument : Rule (Name × ℕ)
core_argument = do
  n ← name
  exactly 0x12 kind.Sort
  i ← number
  pure (n, i)

unfoldable pub core_item : Rule (Name × CoreSort × ℕ)
core_item = do
  n ← name
  s ← core_sort
  i ← number
  pure (n, s, i)

unfoldable pub core_instantiation : Rule CoreInstance
core_instantiation = do
  m ← number
  args ← vec core_argument
  pure (CoreInstantiate m args)

unfoldable pub core_instance : Rule CoreInstance
core_instance = byte >>= λ b.
    choose (b == 0) core_instantiation (choose (b == 1) (vec core_item >>= λ is. pure (CoreBundle is)) (refuse kind.Instance))

-- an item under the name of an import
unfoldable pub argument : Rule (Name × Sort × ℕ)
argument = do
  n ← name
  s ← sort_code
  i ← number
  pure (n, s, i)

-- an item under the name of an export
unfoldable pub item : Rule (Name × Sort × ℕ)
item = do
  n ← extern_name
  s ← sort_code
  i ← number
  pure (n, s, i)

unfoldable pub instantiation : Rule Instance
instantiation = do
  c ← number
  args ← vec argument
  pure (Instantiate c args)

unfoldable pub instance : Rule Instance
instance = byte >>= λ b.
    choose (b == 0) instantiation (choose (b == 1) (vec item >>= λ is. pure (Bundle is)) (refuse kind.Instance))
