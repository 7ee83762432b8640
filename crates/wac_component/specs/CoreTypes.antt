-- Core module types. Addresses of 64 bits, core types of other kinds and aliases in module types are not in the grammar.
use Rattle.std.specs.Prelude.{ℕ, true, false, List, Option, Some, None, ◌==◌, if◌then◌else◌}
use Rattle.wac_graph_bytes.specs.declared.module.CoreReference.{CoreReference}
use Rattle.wac_graph_bytes.specs.declared.module.CoreReference.TheVariants as reference
use Rattle.wac_graph_bytes.specs.declared.module.CoreValue.{CoreValue}
use Rattle.wac_graph_bytes.specs.declared.module.CoreValue.TheVariants as value
use Rattle.wac_graph_bytes.specs.declared.module.Limits.{Limits}
use Rattle.wac_graph_bytes.specs.declared.module.CoreDescription.{CoreDescription}
use Rattle.wac_graph_bytes.specs.declared.module.CoreDescription.TheVariants as core
use Rattle.wac_graph_bytes.specs.Entries.{CoreDeclaration, CoreImport, CoreSignature, CoreExport}
use Rattle.wac_component.specs.declared.fault.FaultKind.TheVariants as kind
use Rattle.wac_component.specs.Rules.{Rule, ◌>>=◌, ◌>>◌, pure, refuse, choose, byte, exactly, or_refuse}
use Rattle.wac_component.specs.Numbers.{number, name, vec}

abbrev pub core_reference_of : ℕ → Option CoreReference
core_reference_of b = if b == 0x70 then Some reference.Func else if b == 0x6f then Some reference.Extern else None

abbrev pub core_value_of : ℕ → Option CoreValue
core_value_of b =
    if b == 0x7f then Some value.I32 else if b == 0x7e then Some value.I64 else if b == 0x7d then Some value.F32
    else if b == 0x7c then Some value.F64 else if b == 0x7b then Some value.V128
    else if b == 0x70 then Some (value.Reference reference.Func)
    else if b == 0x6f then Some (value.Reference reference.Extern) else None

unfoldable pub core_reference : Rule CoreReference
core_reference = byte >>= λ b. or_refuse kind.CoreType (core_reference_of b)

unfoldable pub core_value : Rule CoreValue
core_value = byte >>= λ b. or_refuse kind.CoreType (core_value_of b)

-- a minimum alone
unfoldable pub minimum : Rule Limits
minimum = number >>= λ m. pure (record { minimum = m; maximum = None; wide = false })

-- a minimum and a maximum
unfoldable pub bounds : Rule Limits
bounds = do
  m ← number
  n ← number
  pure (record { minimum = m; maximum = Some n; wide = false })

unfoldable pub table : Rule CoreDescription
table = do
  r ← core_reference
  b ← byte
  l ← choose (b == 0) minimum (choose (b == 1) bounds (refuse kind.CoreType))
  pure (core.Table r l)

-- a shared memory has a maximum
unfoldable pub memory : Rule CoreDescription
memory = byte >>= λ b.
    choose (b == 0) (minimum >>= λ l. pure (core.Memory l false))
    (choose (b == 1) (bounds >>= λ l. pure (core.Memory l false))
    (choose (b == 3) (bounds >>= λ l. pure (core.Memory l true)) (refuse kind.CoreType)))

unfoldable pub global : Rule CoreDescription
global = do
  t ← core_value
  b ← byte
  choose (b == 0) (pure (core.Global t false)) (choose (b == 1) (pure (core.Global t true)) (refuse kind.Flag))

unfoldable pub core_description : Rule CoreDescription
core_description = byte >>= λ b.
    choose (b == 0) (number >>= λ i. pure (core.Func i))
    (choose (b == 1) table
    (choose (b == 2) memory
    (choose (b == 3) global
    (choose (b == 4) (exactly 0 kind.CoreType >> number >>= λ i. pure (core.Tag i)) (refuse kind.CoreType)))))

unfoldable pub core_import : Rule CoreDeclaration
core_import = do
  from ← name
  n ← name
  d ← core_description
  pure (CoreImport from n d)

unfoldable pub core_signature : Rule CoreDeclaration
core_signature = do
  exactly 0x60 kind.CoreType
  params ← vec core_value
  results ← vec core_value
  pure (CoreSignature params results)

unfoldable pub core_export : Rule CoreDeclaration
core_export = do
  n ← name
  d ← core_description
  pure (CoreExport n d)

unfoldable pub core_declaration : Rule CoreDeclaration
core_declaration = byte >>= λ b.
    choose (b == 0) core_import (choose (b == 1) core_signature (choose (b == 3) core_export (refuse kind.CoreType)))

unfoldable pub core_type : Rule (List CoreDeclaration)
core_type = exactly 0x50 kind.CoreType >> vec core_declaration
