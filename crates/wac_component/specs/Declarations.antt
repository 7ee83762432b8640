-- Component types and instance types.
use Rattle.std.specs.Prelude.{ℕ, zero, suc, Bool, true, false, List, Option, Some, None, ◌==◌}
use Rattle.wac_graph_bytes.specs.Entries as plain
use Rattle.wac_graph_bytes.specs.declared.value.Sort.{Sort as PlainSort}
use Rattle.wac_graph_bytes.specs.declared.value.Sort.TheVariants as plain_sort
use Rattle.wac_component.specs.declared.entry.CoreSort.TheVariants as core
use Rattle.wac_component.specs.declared.entry.Sort.{Sort}
use Rattle.wac_component.specs.declared.entry.Sort.TheVariants as sort
use Rattle.wac_component.specs.declared.fault.FaultKind.TheVariants as kind
use Rattle.wac_component.specs.Entries.{Declaration, CoreModuleType, Defined, ComponentType, InstanceType, Aliased, Imported, Exported, chain, Alias, ExportAlias, CoreAlias, OuterAlias, TypeEntry, DefinedEntry, ResourceEntry, ComponentEntry, InstanceEntry}
use Rattle.wac_component.specs.Rules.{Rule, ◌>>=◌, ◌>>◌, pure, refuse, choose, byte, peek, exactly, or_refuse}
use Rattle.wac_component.specs.Numbers.{vec}
use Rattle.wac_component.specs.Types.{defined_type, optional_index}
use Rattle.wac_component.specs.CoreTypes.{core_type}
use Rattle.wac_component.specs.Sorts.{extern_name, description, alias}

-- the sorts of aliases in types
abbrev pub plain_sort_of : Sort → Option PlainSort
plain_sort_of (sort.Core core.Module) = Some plain_sort.Module
plain_sort_of sort.Func = Some plain_sort.Func
plain_sort_of sort.Ty = Some plain_sort.Ty
plain_sort_of sort.Component = Some plain_sort.Component
plain_sort_of sort.Instance = Some plain_sort.Instance
plain_sort_of _ = None

abbrev pub with_sort : (PlainSort → plain.Alias) → Option PlainSort → Option plain.Alias
with_sort f None = None
with_sort f (Some s) = Some (f s)

abbrev pub plain_alias_of : Alias → Option plain.Alias
plain_alias_of (ExportAlias s i n) = with_sort (λ s. plain.ExportAlias s i n) (plain_sort_of s)
plain_alias_of (CoreAlias s i n) = None
plain_alias_of (OuterAlias s count i) = with_sort (λ s. plain.OuterAlias s count i) (plain_sort_of s)

unfoldable pub alias_declaration : Rule Declaration
alias_declaration = do
  a ← alias
  p ← or_refuse kind.Alias (plain_alias_of a)
  pure (Aliased p)

unfoldable pub import_declaration : Rule Declaration
import_declaration = do
  n ← extern_name
  d ← description
  pure (Imported n d)

unfoldable pub export_declaration : Rule Declaration
export_declaration = do
  n ← extern_name
  d ← description
  pure (Exported n d)

-- The inner rule reads the declarations of a type in this one, imports among them or not.
module _ (inner : Bool → Rule (List Declaration)) where
  abbrev pub type_by : ℕ → Rule Declaration
  type_by b =
      choose (b == 0x41) (byte >> inner true >>= λ ds. pure (ComponentType (chain ds)))
      (choose (b == 0x42) (byte >> inner false >>= λ ds. pure (InstanceType (chain ds)))
      (defined_type >>= λ t. pure (Defined t)))

  unfoldable pub inner_type : Rule Declaration
  inner_type = peek >>= λ b. type_by b

  abbrev pub declaration_by : Bool → ℕ → Rule Declaration
  declaration_by imports b =
      choose (b == 0) (core_type >>= λ t. pure (CoreModuleType t))
      (choose (b == 1) inner_type
      (choose (b == 2) alias_declaration
      (choose (b == 3) (choose imports import_declaration (refuse kind.Declaration))
      (choose (b == 4) export_declaration (refuse kind.Declaration)))))

  unfoldable pub declaration : Bool → Rule Declaration
  declaration imports = byte >>= λ b. declaration_by imports b

-- types nested so deep at most
unfoldable pub declarations : ℕ → Bool → Rule (List Declaration)
declarations zero imports = refuse kind.Depth
declarations (suc levels) imports = vec (declaration (declarations levels) imports)

-- a resource has the representation i32
unfoldable pub resource : Rule TypeEntry
resource = do
  exactly 0x7f kind.Representation
  destructor ← optional_index
  pure (ResourceEntry destructor)

abbrev pub entry_by : ℕ → Rule TypeEntry
entry_by b =
    choose (b == 0x41) (byte >> declarations 128 true >>= λ ds. pure (ComponentEntry (chain ds)))
    (choose (b == 0x42) (byte >> declarations 128 false >>= λ ds. pure (InstanceEntry (chain ds)))
    (choose (b == 0x3f) (byte >> resource) (defined_type >>= λ t. pure (DefinedEntry t))))

unfoldable pub type_entry : Rule TypeEntry
type_entry = peek >>= λ b. entry_by b
