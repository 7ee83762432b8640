-- Types without declarations (Component Model, binary format: `valtype`, `defvaltype`, `functype`).
use Rattle.std.specs.Prelude.{ℕ, Bool, true, false, Option, Some, None, ◌==◌, ◌&&◌, nat_lt, if◌then◌else◌}
use Rattle.wac_types_base.specs.Entries.{Name}
use Rattle.wac_types_base.specs.declared.item.PrimitiveType.{PrimitiveType}
use Rattle.wac_types_base.specs.declared.item.PrimitiveType.TheVariants as prim
use Rattle.wac_graph_bytes.specs.declared.value.ValueType.{ValueType}
use Rattle.wac_graph_bytes.specs.declared.value.ValueType.TheVariants.{Primitive, Index}
use Rattle.wac_graph_bytes.specs.Entries.{DefinedType, PrimitiveEntry, RecordEntry, VariantEntry, ListEntry, OptionEntry, FixedListEntry, TupleEntry, FlagsEntry, EnumEntry, ResultEntry, OwnEntry, BorrowEntry, StreamEntry, FutureEntry, FuncEntry}
use Rattle.wac_component.specs.declared.fault.FaultKind.TheVariants as kind
use Rattle.wac_component.specs.declared.types.TypeForm.{TypeForm}
use Rattle.wac_component.specs.declared.types.TypeForm.TheVariants as form
use Rattle.wac_component.specs.Rules.{Rule, ◌>>=◌, ◌>>◌, pure, refuse, choose, byte, peek, exactly}
use Rattle.wac_component.specs.Numbers.{number, signed_number, name, vec}

abbrev pub primitive_of : ℕ → Option PrimitiveType
primitive_of b =
    if b == 0x7f then Some prim.Bool else if b == 0x7e then Some prim.S8 else if b == 0x7d then Some prim.U8
    else if b == 0x7c then Some prim.S16 else if b == 0x7b then Some prim.U16 else if b == 0x7a then Some prim.S32
    else if b == 0x79 then Some prim.U32 else if b == 0x78 then Some prim.S64 else if b == 0x77 then Some prim.U64
    else if b == 0x76 then Some prim.F32 else if b == 0x75 then Some prim.F64 else if b == 0x74 then Some prim.Char
    else if b == 0x73 then Some prim.String else if b == 0x64 then Some prim.ErrorContext else None

-- the byte of a primitive type, or an index
abbrev pub value_type_by : ℕ → Option PrimitiveType → Rule ValueType
value_type_by b (Some p) = byte >> pure (Primitive p)
value_type_by b None = choose (nat_lt 63 b && nat_lt b 128) (refuse kind.ValueType) (signed_number >>= λ n. pure (Index n))

unfoldable pub value_type : Rule ValueType
value_type = peek >>= λ b. value_type_by b (primitive_of b)

-- nothing behind a 0, a value behind a 1
abbrev pub optional : {X : Type 0} → Rule X → Rule (Option X)
optional p = byte >>= λ b. choose (b == 0) (pure None) (choose (b == 1) (p >>= λ x. pure (Some x)) (refuse kind.Flag))

unfoldable pub optional_type : Rule (Option ValueType)
optional_type = optional value_type

unfoldable pub optional_index : Rule (Option ℕ)
optional_index = optional number

-- what a function answers: a type behind a 0, nothing behind 1 and 0
unfoldable pub answer : Rule (Option ValueType)
answer = byte >>= λ b.
    choose (b == 0) (value_type >>= λ t. pure (Some t))
    (choose (b == 1) (exactly 0 kind.Answer >> pure None) (refuse kind.Answer))

-- a parameter of a function, or a field of a record
unfoldable pub field : Rule (Name × ValueType)
field = do
  n ← name
  t ← value_type
  pure (n, t)

-- a case of a variant, with a 0 behind it
unfoldable pub case_type : Rule (Name × Option ValueType)
case_type = do
  n ← name
  t ← optional_type
  exactly 0 kind.Flag
  pure (n, t)

unfoldable pub func_type : Bool → Rule DefinedType
func_type is_async = do
  params ← vec field
  result ← answer
  pure (FuncEntry is_async params result)

unfoldable pub fixed_list : Rule DefinedType
fixed_list = do
  t ← value_type
  n ← number
  pure (FixedListEntry t n)

unfoldable pub result_type : Rule DefinedType
result_type = do
  ok ← optional_type
  err ← optional_type
  pure (ResultEntry ok err)

-- what the first byte of a type says
abbrev pub form_of : ℕ → Option TypeForm
form_of b =
    if b == 0x72 then Some form.Record else if b == 0x71 then Some form.Variant else if b == 0x70 then Some form.List
    else if b == 0x6f then Some form.Tuple else if b == 0x6e then Some form.Flags else if b == 0x6d then Some form.Enum
    else if b == 0x6b then Some form.Option else if b == 0x6a then Some form.Result else if b == 0x69 then Some form.Own
    else if b == 0x68 then Some form.Borrow else if b == 0x67 then Some form.FixedList else if b == 0x66 then Some form.Stream
    else if b == 0x65 then Some form.Future else if b == 0x43 then Some form.AsyncFunc else if b == 0x40 then Some form.Func
    else None

-- what stands behind that byte
unfoldable pub type_of : TypeForm → Rule DefinedType
type_of form.Record = vec field >>= λ fs. pure (RecordEntry fs)
type_of form.Variant = vec case_type >>= λ cs. pure (VariantEntry cs)
type_of form.List = value_type >>= λ t. pure (ListEntry t)
type_of form.Tuple = vec value_type >>= λ ts. pure (TupleEntry ts)
type_of form.Flags = vec name >>= λ ns. pure (FlagsEntry ns)
type_of form.Enum = vec name >>= λ ns. pure (EnumEntry ns)
type_of form.Option = value_type >>= λ t. pure (OptionEntry t)
type_of form.Result = result_type
type_of form.Own = number >>= λ i. pure (OwnEntry i)
type_of form.Borrow = number >>= λ i. pure (BorrowEntry i)
type_of form.FixedList = fixed_list
type_of form.Stream = optional_type >>= λ t. pure (StreamEntry t)
type_of form.Future = optional_type >>= λ t. pure (FutureEntry t)
type_of form.AsyncFunc = func_type true
type_of form.Func = func_type false

abbrev pub formed_if : Option TypeForm → Rule DefinedType
formed_if (Some f) = byte >> type_of f
formed_if None = refuse kind.Type

abbrev pub defined_by : ℕ → Option PrimitiveType → Rule DefinedType
defined_by b (Some p) = byte >> pure (PrimitiveEntry p)
defined_by b None = formed_if (form_of b)

unfoldable pub defined_type : Rule DefinedType
defined_type = peek >>= λ b. defined_by b (primitive_of b)
