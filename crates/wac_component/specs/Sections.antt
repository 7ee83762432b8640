-- The sections of a component.
use Rattle.std.specs.Prelude.{ℕ, List, Option, ◌==◌}
use Rattle.wac_types_base.specs.Entries.{Name}
use Rattle.wac_graph_bytes.specs.declared.value.Description.{Description}
use Rattle.wac_component.specs.declared.fault.FaultKind.TheVariants as kind
use Rattle.wac_component.specs.Entries.{ExportEntry, Section, Custom, CoreModule, CoreInstances, CoreTypes, Nested, Instances, Aliases, Types, Canonicals, Start, Imports, Exports}
use Rattle.wac_component.specs.Rules.{Rule, ◌>>=◌, ◌>>◌, pure, refuse, choose, byte, exactly, bytes, room, within, with_rest, all_of}
use Rattle.wac_component.specs.Numbers.{number, name, vec}
use Rattle.wac_component.specs.Types.{optional}
use Rattle.wac_component.specs.Sorts.{sort_code, extern_name, description, alias}
use Rattle.wac_component.specs.CoreTypes.{core_type}
use Rattle.wac_component.specs.Declarations.{type_entry}
use Rattle.wac_component.specs.Instances.{core_instance, instance}
use Rattle.wac_component.specs.Canonicals.{canonical}

unfoldable pub import_entry : Rule (Name × Description)
import_entry = do
  n ← extern_name
  d ← description
  pure (n, d)

unfoldable pub optional_description : Rule (Option Description)
optional_description = optional description

unfoldable pub export_entry : Rule ExportEntry
export_entry = do
  n ← extern_name
  s ← sort_code
  i ← number
  d ← optional_description
  pure (record { name = n; sort = s; index = i; stated = d })

unfoldable pub start : Rule Section
start = do
  f ← number
  args ← vec number
  n ← number
  pure (Start f args n)

abbrev pub custom : ℕ → Rule Section
custom size = with_rest size name >>= λ x. pure (Custom x.0 x.1)

-- what a section of that number lists
unfoldable pub section_list : ℕ → Rule Section
section_list b =
    choose (b == 2) (vec core_instance >>= λ xs. pure (CoreInstances xs))
    (choose (b == 5) (vec instance >>= λ xs. pure (Instances xs))
    (choose (b == 6) (vec alias >>= λ xs. pure (Aliases xs))
    (choose (b == 7) (vec type_entry >>= λ xs. pure (Types xs))
    (choose (b == 8) (vec canonical >>= λ xs. pure (Canonicals xs))
    (choose (b == 9) start
    (choose (b == 10) (vec import_entry >>= λ xs. pure (Imports xs))
    (choose (b == 11) (vec export_entry >>= λ xs. pure (Exports xs))
    (choose (b == 3) (vec core_type >>= λ xs. pure (CoreTypes xs))
    (choose (b == 12) (refuse kind.Value) (refuse kind.Section))))))))))

-- what a section of that size and number holds
abbrev pub contents : ℕ → ℕ → Rule Section
contents size b =
    choose (b == 0) (custom size)
    (choose (b == 1) (bytes size >>= λ x. pure (CoreModule x))
    (choose (b == 4) (bytes size >>= λ x. pure (Nested x)) (within size (section_list b))))

-- a number, a size, and that many bytes
unfoldable pub section : Rule Section
section = do
  b ← byte
  size ← number
  room size
  contents size b

-- the bytes with which a component begins
unfoldable pub preamble : Rule (Unit {0})
preamble = do
  exactly 0x00 kind.Preamble
  exactly 0x61 kind.Preamble
  exactly 0x73 kind.Preamble
  exactly 0x6d kind.Preamble
  exactly 0x0d kind.Preamble
  exactly 0x00 kind.Preamble
  exactly 0x01 kind.Preamble
  exactly 0x00 kind.Preamble

-- sections to the end
unfoldable pub component : Rule (List Section)
component = preamble >>= λ _. all_of section
