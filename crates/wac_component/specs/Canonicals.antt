-- Canonical functions.
use Rattle.std.specs.Prelude.{ℕ, Option, Some, None, ◌==◌, if◌then◌else◌}
use Rattle.wac_component.specs.declared.entry.CanonicalOption.{CanonicalOption}
use Rattle.wac_component.specs.declared.entry.CanonicalOption.TheVariants as option
use Rattle.wac_component.specs.declared.canonicals.Operands.{Operands}
use Rattle.wac_component.specs.declared.canonicals.Operands.TheVariants as operands
use Rattle.wac_component.specs.declared.fault.FaultKind.TheVariants as kind
use Rattle.wac_component.specs.Entries.{Canonical, Lift, Lower, BuiltIn}
use Rattle.wac_component.specs.Rules.{Rule, ◌>>=◌, ◌>>◌, pure, refuse, choose, byte, exactly, or_refuse}
use Rattle.wac_component.specs.Numbers.{number, vec}
use Rattle.wac_component.specs.Types.{answer}

-- ---- options

-- an option of one byte
abbrev pub option_of : ℕ → Option CanonicalOption
option_of b =
    if b == 0x00 then Some option.Utf8 else if b == 0x01 then Some option.Utf16 else if b == 0x02 then Some option.CompactUtf16
    else if b == 0x06 then Some option.Async else if b == 0x09 then Some option.Gc else None

-- an option with an index
abbrev pub option_at : ℕ → ℕ → Option CanonicalOption
option_at b i =
    if b == 0x03 then Some (option.LinearMemory i) else if b == 0x04 then Some (option.Realloc i)
    else if b == 0x05 then Some (option.PostReturn i) else if b == 0x07 then Some (option.Callback i)
    else if b == 0x08 then Some (option.CoreType i) else None

abbrev pub option_by : ℕ → Option CanonicalOption → Rule CanonicalOption
option_by b (Some o) = pure o
option_by b None = number >>= λ i. or_refuse kind.CanonicalOption (option_at b i)

unfoldable pub canonical_option : Rule CanonicalOption
canonical_option = byte >>= λ b. option_by b (option_of b)

-- ---- functions

unfoldable pub lift : Rule Canonical
lift = do
  exactly 0x00 kind.Canonical
  f ← number
  options ← vec canonical_option
  t ← number
  pure (Lift f options t)

unfoldable pub lower : Rule Canonical
lower = do
  exactly 0x00 kind.Canonical
  f ← number
  options ← vec canonical_option
  pure (Lower f options)

-- What stands behind the number of a function of the component model's own: of resources, tasks and contexts,
abbrev pub task_operands_of : ℕ → Option Operands
task_operands_of b =
    if b == 0x02 then Some operands.Index else if b == 0x03 then Some operands.Index else if b == 0x04 then Some operands.Index
    else if b == 0x05 then Some operands.Nothing else if b == 0x06 then Some operands.Flag
    else if b == 0x07 then Some operands.Index else if b == 0x09 then Some operands.Answer
    else if b == 0x0a then Some operands.Context
    else if b == 0x0b then Some operands.Context else if b == 0x0c then Some operands.Flag
    else if b == 0x0d then Some operands.Nothing else None

-- of streams and futures,
abbrev pub stream_operands_of : ℕ → Option Operands
stream_operands_of b =
    if b == 0x0e then Some operands.Index else if b == 0x0f then Some operands.IndexOptions
    else if b == 0x10 then Some operands.IndexOptions else if b == 0x11 then Some operands.IndexFlag
    else if b == 0x12 then Some operands.IndexFlag else if b == 0x13 then Some operands.Index
    else if b == 0x14 then Some operands.Index else if b == 0x15 then Some operands.Index
    else if b == 0x16 then Some operands.IndexOptions else if b == 0x17 then Some operands.IndexOptions
    else if b == 0x18 then Some operands.IndexFlag else if b == 0x19 then Some operands.IndexFlag
    else if b == 0x1a then Some operands.Index else if b == 0x1b then Some operands.Index else None

-- of errors and sets of what is waited for,
abbrev pub waiting_operands_of : ℕ → Option Operands
waiting_operands_of b =
    if b == 0x1c then Some operands.Options else if b == 0x1d then Some operands.Options
    else if b == 0x1e then Some operands.Nothing else if b == 0x1f then Some operands.Nothing
    else if b == 0x20 then Some operands.FlagIndex else if b == 0x21 then Some operands.FlagIndex
    else if b == 0x22 then Some operands.Nothing else if b == 0x23 then Some operands.Nothing
    else if b == 0x24 then Some operands.Nothing else if b == 0x25 then Some operands.Nothing else None

-- of threads
abbrev pub thread_operands_of : ℕ → Option Operands
thread_operands_of b =
    if b == 0x26 then Some operands.Nothing else if b == 0x27 then Some operands.IndexIndex
    else if b == 0x28 then Some operands.Flag else if b == 0x29 then Some operands.Flag
    else if b == 0x2a then Some operands.Nothing else if b == 0x2b then Some operands.Flag
    else if b == 0x40 then Some operands.Index else if b == 0x41 then Some operands.IndexIndex
    else if b == 0x42 then Some operands.Nothing else None

abbrev pub or_else : Option Operands → Option Operands → Option Operands
or_else (Some o) p = Some o
or_else None p = p

unfoldable pub operands_of : ℕ → Option Operands
operands_of b =
    or_else (task_operands_of b) (or_else (stream_operands_of b) (or_else (waiting_operands_of b) (thread_operands_of b)))

-- 0 or 1
unfoldable pub flag : Rule (Unit {0})
flag = byte >>= λ b. choose (b == 0) (pure tt) (choose (b == 1) (pure tt) (refuse kind.Flag))

unfoldable pub operand : Operands → Rule (Unit {0})
operand operands.Nothing = pure tt
operand operands.Index = number >>= λ _. pure tt
operand operands.Flag = flag
operand operands.Options = vec canonical_option >>= λ _. pure tt
operand operands.IndexOptions = number >>= λ _. vec canonical_option >>= λ _. pure tt
operand operands.IndexIndex = number >>= λ _. number >>= λ _. pure tt
operand operands.IndexFlag = number >>= λ _. flag
operand operands.FlagIndex = flag >>= λ _. number >>= λ _. pure tt
operand operands.Answer = answer >>= λ _. vec canonical_option >>= λ _. pure tt
operand operands.Context = exactly 0x7f kind.Canonical >>= λ _. number >>= λ _. pure tt

abbrev pub built_in : ℕ → Option Operands → Rule Canonical
built_in b (Some o) = operand o >>= λ _. pure (BuiltIn b)
built_in b None = refuse kind.Canonical

abbrev pub canonical_by : ℕ → Rule Canonical
canonical_by b = choose (b == 0) lift (choose (b == 1) lower (built_in b (operands_of b)))

unfoldable pub canonical : Rule Canonical
canonical = byte >>= λ b. canonical_by b
