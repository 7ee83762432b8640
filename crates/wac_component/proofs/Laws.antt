-- Each rule of the grammar reads just what it says.
use Rattle.std.proofs.Common.{ℕ, zero, suc, Bool, true, false, List, Option, Some, None}
use Rattle.wac_types_base.specs.declared.item.PrimitiveType.{PrimitiveType}
use Rattle.wac_graph_bytes.specs.declared.value.ValueType.TheVariants.{Primitive, Index}
use Rattle.wac_graph_bytes.specs.declared.value.Description.TheVariants as desc
use Rattle.wac_graph_bytes.specs.Entries.{PrimitiveEntry, RecordEntry, VariantEntry, ListEntry, OptionEntry, FixedListEntry, TupleEntry, FlagsEntry, EnumEntry, ResultEntry, OwnEntry, BorrowEntry, StreamEntry, FutureEntry, FuncEntry}
use Rattle.wac_component.specs.declared.fault.FaultKind.{FaultKind}
use Rattle.wac_component.specs.declared.fault.FaultKind.TheVariants as kind
use Rattle.wac_component.specs.declared.types.TypeForm.{TypeForm}
use Rattle.wac_component.specs.declared.types.TypeForm.TheVariants as form
use Rattle.wac_component.specs.declared.entry.Sort.{Sort}
use Rattle.wac_component.specs.declared.entry.CanonicalOption.{CanonicalOption}
use Rattle.wac_component.specs.declared.canonicals.Operands.{Operands}
use Rattle.wac_component.specs.declared.canonicals.Operands.TheVariants as operands
use Rattle.wac_component.specs.Entries.{Declaration}
use Rattle.wac_component.specs.Rules.{Rule, ◌>>=◌, pure, exactly, with_rest, or_refuse}
use Rattle.wac_component.specs.Numbers.{small, some_digits, digits, number, signed_number, text, name, vec}
use Rattle.wac_component.specs.Types.{primitive_of, value_type_by, value_type, optional, optional_type, optional_index, answer, field, case_type, func_type, fixed_list, result_type, form_of, type_of, formed_if, defined_by, defined_type}
use Rattle.wac_component.specs.CoreTypes.{core_reference_of, core_value_of, core_reference, core_value, minimum, bounds, table, memory, global, core_description, core_import, core_signature, core_export, core_declaration, core_type}
use Rattle.wac_component.specs.Sorts.{core_sort_of, core_sort, sort_of, sort_code, extern_name, type_bound, description, export_alias, core_alias, outer_alias, alias_by, alias}
use Rattle.wac_component.specs.Declarations.{plain_alias_of, alias_declaration, import_declaration, export_declaration, type_by, inner_type, declaration_by, declaration, declarations, resource, entry_by, type_entry}
use Rattle.wac_component.specs.Instances.{core_argument, core_item, core_instantiation, core_instance, argument, item, instantiation, instance}
use Rattle.wac_component.specs.Canonicals.{option_of, option_at, option_by, canonical_option, lift, lower, operands_of, flag, operand, built_in, canonical_by, canonical}
use Rattle.wac_component.specs.Sections.{import_entry, optional_description, export_entry, start, custom, section_list, contents, section, preamble, component}
use Rattle.wac_component.proofs.All.{section_takes, all_exact}
use Rattle.wac_component.proofs.Exact.{Exact, bind, pure_exact, refuse_exact, choose_exact, byte_exact, peek_exact, bytes_exact, room_exact, within_exact, with_rest_exact, times_exact}

-- a value that is made of a read one
made : {A B : Type 0} (p : Rule A) (f : A → B) → Exact p → Exact (p >>= λ a. pure (f a))
made p f ep = bind p (λ a. pure (f a)) ep (λ a. pure_exact (f a))

pub exactly_exact : (n : ℕ) (k : FaultKind) → Exact (exactly n k)
exactly_exact n k = bind _ _ byte_exact (λ b. choose_exact _ _ _ (pure_exact tt) (refuse_exact k))

or_refuse_exact : {X : Type 0} (k : FaultKind) (o : Option X) → Exact (or_refuse k o)
or_refuse_exact k (Some x) = pure_exact x
or_refuse_exact k None = refuse_exact k

-- ---- numbers and names

small_exact : (n : ℕ) → Exact (small n)
small_exact n = choose_exact _ _ _ (pure_exact n) (refuse_exact kind.Number)

some_digits_exact : (higher : Rule ℕ) (limit : ℕ) → Exact higher → Exact (some_digits higher limit)
some_digits_exact higher limit eh =
    bind _ _ byte_exact (λ b. choose_exact _ _ _ (pure_exact b) (choose_exact _ _ _ (refuse_exact kind.Number) (bind _ _ eh (λ high. small_exact _))))

digits_exact : (n limit : ℕ) → Exact (digits n limit)
unfolding digits
digits_exact zero limit = refuse_exact kind.Number
digits_exact (suc n) limit = some_digits_exact (digits n limit) limit (digits_exact n limit)

number_exact : Exact number
number_exact = digits_exact 5 128

signed_number_exact : Exact signed_number
signed_number_exact = digits_exact 5 64

text_exact : (x : List ℕ) → Exact (text x)
text_exact x = choose_exact _ _ _ (pure_exact x) (refuse_exact kind.Text)

name_exact : Exact name
unfolding name
name_exact = bind _ _ number_exact (λ n. bind _ _ (bytes_exact n) (λ x. text_exact x))

vec_exact : {X : Type 0} (p : Rule X) → Exact p → Exact (vec p)
vec_exact p ep = bind _ _ number_exact (λ n. times_exact n p ep)

-- ---- types

value_type_by_exact : (b : ℕ) (o : Option PrimitiveType) → Exact (value_type_by b o)
value_type_by_exact b (Some p) = bind _ _ byte_exact (λ _. pure_exact (Primitive p))
value_type_by_exact b None = choose_exact _ _ _ (refuse_exact kind.ValueType) (made signed_number (λ n. Index n) signed_number_exact)

value_type_exact : Exact value_type
unfolding value_type
value_type_exact = bind _ _ peek_exact (λ b. value_type_by_exact b (primitive_of b))

optional_exact : {X : Type 0} (p : Rule X) → Exact p → Exact (optional p)
optional_exact p ep = bind _ _ byte_exact (λ b. choose_exact _ _ _ (pure_exact None) (choose_exact _ _ _ (made p (λ x. Some x) ep) (refuse_exact kind.Flag)))

optional_type_exact : Exact optional_type
unfolding optional_type
optional_type_exact = optional_exact value_type value_type_exact

optional_index_exact : Exact optional_index
unfolding optional_index
optional_index_exact = optional_exact number number_exact

answer_exact : Exact answer
unfolding answer
answer_exact =
    bind _ _ byte_exact (λ b. choose_exact _ _ _ (made value_type (λ t. Some t) value_type_exact)
    (choose_exact _ _ _ (bind _ _ (exactly_exact 0 kind.Answer) (λ _. pure_exact None)) (refuse_exact kind.Answer)))

field_exact : Exact field
unfolding field
field_exact = bind _ _ name_exact (λ n. bind _ _ value_type_exact (λ t. pure_exact (n, t)))

case_type_exact : Exact case_type
unfolding case_type
case_type_exact = bind _ _ name_exact (λ n. bind _ _ optional_type_exact (λ t. bind _ _ (exactly_exact 0 kind.Flag) (λ _. pure_exact (n, t))))

func_type_exact : (is_async : Bool) → Exact (func_type is_async)
unfolding func_type
func_type_exact is_async = bind _ _ (vec_exact field field_exact) (λ ps. bind _ _ answer_exact (λ r. pure_exact (FuncEntry is_async ps r)))

fixed_list_exact : Exact fixed_list
unfolding fixed_list
fixed_list_exact = bind _ _ value_type_exact (λ t. bind _ _ number_exact (λ n. pure_exact (FixedListEntry t n)))

result_type_exact : Exact result_type
unfolding result_type
result_type_exact = bind _ _ optional_type_exact (λ ok. bind _ _ optional_type_exact (λ err. pure_exact (ResultEntry ok err)))

type_of_exact : (f : TypeForm) → Exact (type_of f)
unfolding type_of
type_of_exact form.Record = made (vec field) (λ x. RecordEntry x) (vec_exact field field_exact)
type_of_exact form.Variant = made (vec case_type) (λ x. VariantEntry x) (vec_exact case_type case_type_exact)
type_of_exact form.List = made value_type (λ x. ListEntry x) value_type_exact
type_of_exact form.Tuple = made (vec value_type) (λ x. TupleEntry x) (vec_exact value_type value_type_exact)
type_of_exact form.Flags = made (vec name) (λ x. FlagsEntry x) (vec_exact name name_exact)
type_of_exact form.Enum = made (vec name) (λ x. EnumEntry x) (vec_exact name name_exact)
type_of_exact form.Option = made value_type (λ x. OptionEntry x) value_type_exact
type_of_exact form.Result = result_type_exact
type_of_exact form.Own = made number (λ x. OwnEntry x) number_exact
type_of_exact form.Borrow = made number (λ x. BorrowEntry x) number_exact
type_of_exact form.FixedList = fixed_list_exact
type_of_exact form.Stream = made optional_type (λ x. StreamEntry x) optional_type_exact
type_of_exact form.Future = made optional_type (λ x. FutureEntry x) optional_type_exact
type_of_exact form.AsyncFunc = func_type_exact true
type_of_exact form.Func = func_type_exact false

formed_if_exact : (o : Option TypeForm) → Exact (formed_if o)
formed_if_exact (Some f) = bind _ _ byte_exact (λ _. type_of_exact f)
formed_if_exact None = refuse_exact kind.Type

defined_by_exact : (b : ℕ) (o : Option PrimitiveType) → Exact (defined_by b o)
defined_by_exact b (Some p) = bind _ _ byte_exact (λ _. pure_exact (PrimitiveEntry p))
defined_by_exact b None = formed_if_exact (form_of b)

defined_type_exact : Exact defined_type
unfolding defined_type
defined_type_exact = bind _ _ peek_exact (λ b. defined_by_exact b (primitive_of b))

-- ---- core module types

core_reference_exact : Exact core_reference
unfolding core_reference
core_reference_exact = bind _ _ byte_exact (λ b. or_refuse_exact kind.CoreType (core_reference_of b))

core_value_exact : Exact core_value
unfolding core_value
core_value_exact = bind _ _ byte_exact (λ b. or_refuse_exact kind.CoreType (core_value_of b))

minimum_exact : Exact minimum
unfolding minimum
minimum_exact = made number _ number_exact

bounds_exact : Exact bounds
unfolding bounds
bounds_exact = bind _ _ number_exact (λ m. bind _ _ number_exact (λ n. pure_exact _))

table_exact : Exact table
unfolding table
table_exact =
    bind _ _ core_reference_exact (λ r. bind _ _ byte_exact (λ b.
    bind _ _ (choose_exact _ _ _ minimum_exact (choose_exact _ _ _ bounds_exact (refuse_exact kind.CoreType))) (λ l. pure_exact _)))

memory_exact : Exact memory
unfolding memory
memory_exact =
    bind _ _ byte_exact (λ b. choose_exact _ _ _ (made minimum _ minimum_exact)
    (choose_exact _ _ _ (made bounds _ bounds_exact) (choose_exact _ _ _ (made bounds _ bounds_exact) (refuse_exact kind.CoreType))))

global_exact : Exact global
unfolding global
global_exact = bind _ _ core_value_exact (λ t. bind _ _ byte_exact (λ b. choose_exact _ _ _ (pure_exact _) (choose_exact _ _ _ (pure_exact _) (refuse_exact kind.Flag))))

core_description_exact : Exact core_description
unfolding core_description
core_description_exact =
    bind _ _ byte_exact (λ b. choose_exact _ _ _ (made number _ number_exact)
    (choose_exact _ _ _ table_exact
    (choose_exact _ _ _ memory_exact
    (choose_exact _ _ _ global_exact
    (choose_exact _ _ _ (bind _ _ (bind _ _ (exactly_exact 0 kind.CoreType) (λ _. number_exact)) (λ i. pure_exact _)) (refuse_exact kind.CoreType))))))

core_import_exact : Exact core_import
unfolding core_import
core_import_exact = bind _ _ name_exact (λ m. bind _ _ name_exact (λ n. bind _ _ core_description_exact (λ d. pure_exact _)))

core_signature_exact : Exact core_signature
unfolding core_signature
core_signature_exact =
    bind _ _ (exactly_exact 0x60 kind.CoreType) (λ _. bind _ _ (vec_exact core_value core_value_exact) (λ ps.
    bind _ _ (vec_exact core_value core_value_exact) (λ rs. pure_exact _)))

core_export_exact : Exact core_export
unfolding core_export
core_export_exact = bind _ _ name_exact (λ n. bind _ _ core_description_exact (λ d. pure_exact _))

core_declaration_exact : Exact core_declaration
unfolding core_declaration
core_declaration_exact =
    bind _ _ byte_exact (λ b. choose_exact _ _ _ core_import_exact (choose_exact _ _ _ core_signature_exact (choose_exact _ _ _ core_export_exact (refuse_exact kind.CoreType))))

core_type_exact : Exact core_type
unfolding core_type
core_type_exact = bind _ _ (exactly_exact 0x50 kind.CoreType) (λ _. vec_exact core_declaration core_declaration_exact)

-- ---- sorts, descriptions, aliases

core_sort_exact : Exact core_sort
unfolding core_sort
core_sort_exact = bind _ _ byte_exact (λ b. or_refuse_exact kind.Sort (core_sort_of b))

sort_code_exact : Exact sort_code
unfolding sort_code
sort_code_exact = bind _ _ byte_exact (λ b. choose_exact _ _ _ (made core_sort _ core_sort_exact) (or_refuse_exact kind.Sort (sort_of b)))

extern_name_exact : Exact extern_name
unfolding extern_name
extern_name_exact =
    bind _ _ byte_exact (λ b. choose_exact _ _ _ name_exact (choose_exact _ _ _ name_exact (choose_exact _ _ _ (refuse_exact kind.NameOptions) (refuse_exact kind.Name))))

type_bound_exact : Exact type_bound
unfolding type_bound
type_bound_exact = bind _ _ byte_exact (λ b. choose_exact _ _ _ (made number _ number_exact) (choose_exact _ _ _ (pure_exact desc.Resource) (refuse_exact kind.Description)))

description_exact : Exact description
unfolding description
description_exact =
    bind _ _ byte_exact (λ b.
    choose_exact _ _ _ (bind _ _ (bind _ _ (exactly_exact 0x11 kind.Description) (λ _. number_exact)) (λ i. pure_exact (desc.Module i)))
    (choose_exact _ _ _ (made number _ number_exact)
    (choose_exact _ _ _ (refuse_exact kind.Value)
    (choose_exact _ _ _ type_bound_exact
    (choose_exact _ _ _ (made number _ number_exact)
    (choose_exact _ _ _ (made number _ number_exact) (refuse_exact kind.Description)))))))

export_alias_exact : (s : Sort) → Exact (export_alias s)
unfolding export_alias
export_alias_exact s = bind _ _ number_exact (λ i. bind _ _ name_exact (λ n. pure_exact _))

core_alias_exact : (s : Sort) → Exact (core_alias s)
unfolding core_alias
core_alias_exact s = bind _ _ number_exact (λ i. bind _ _ name_exact (λ n. pure_exact _))

outer_alias_exact : (s : Sort) → Exact (outer_alias s)
unfolding outer_alias
outer_alias_exact s = bind _ _ number_exact (λ count. bind _ _ number_exact (λ i. pure_exact _))

alias_by_exact : (s : Sort) (b : ℕ) → Exact (alias_by s b)
alias_by_exact s b = choose_exact _ _ _ (export_alias_exact s) (choose_exact _ _ _ (core_alias_exact s) (choose_exact _ _ _ (outer_alias_exact s) (refuse_exact kind.Alias)))

alias_exact : Exact alias
unfolding alias
alias_exact = bind _ _ sort_code_exact (λ s. bind _ _ byte_exact (λ b. alias_by_exact s b))

-- ---- declarations

alias_declaration_exact : Exact alias_declaration
unfolding alias_declaration
alias_declaration_exact = bind _ _ alias_exact (λ a. bind _ _ (or_refuse_exact kind.Alias (plain_alias_of a)) (λ p. pure_exact _))

import_declaration_exact : Exact import_declaration
unfolding import_declaration
import_declaration_exact = bind _ _ extern_name_exact (λ n. bind _ _ description_exact (λ d. pure_exact _))

export_declaration_exact : Exact export_declaration
unfolding export_declaration
export_declaration_exact = bind _ _ extern_name_exact (λ n. bind _ _ description_exact (λ d. pure_exact _))

module _ (inner : Bool → Rule (List Declaration)) (exact : (imports : Bool) → Exact (inner imports)) where
  type_by_exact : (b : ℕ) → Exact (type_by inner b)
  type_by_exact b =
      choose_exact _ _ _ (bind _ _ (bind _ _ byte_exact (λ _. exact true)) (λ ds. pure_exact _))
      (choose_exact _ _ _ (bind _ _ (bind _ _ byte_exact (λ _. exact false)) (λ ds. pure_exact _)) (made defined_type _ defined_type_exact))

  inner_type_exact : Exact (inner_type inner)
  unfolding inner_type
  inner_type_exact = bind _ _ peek_exact (λ b. type_by_exact b)

  declaration_by_exact : (imports : Bool) (b : ℕ) → Exact (declaration_by inner imports b)
  declaration_by_exact imports b =
      choose_exact _ _ _ (made core_type _ core_type_exact)
      (choose_exact _ _ _ inner_type_exact
      (choose_exact _ _ _ alias_declaration_exact
      (choose_exact _ _ _ (choose_exact _ _ _ import_declaration_exact (refuse_exact kind.Declaration))
      (choose_exact _ _ _ export_declaration_exact (refuse_exact kind.Declaration)))))

  declaration_exact : (imports : Bool) → Exact (declaration inner imports)
  unfolding declaration
  declaration_exact imports = bind _ _ byte_exact (λ b. declaration_by_exact imports b)

declarations_exact : (levels : ℕ) (imports : Bool) → Exact (declarations levels imports)
unfolding declarations
declarations_exact zero imports = refuse_exact kind.Depth
declarations_exact (suc levels) imports = vec_exact _ (declaration_exact (declarations levels) (declarations_exact levels) imports)

resource_exact : Exact resource
unfolding resource
resource_exact = bind _ _ (exactly_exact 0x7f kind.Representation) (λ _. bind _ _ optional_index_exact (λ d. pure_exact _))

entry_by_exact : (b : ℕ) → Exact (entry_by b)
entry_by_exact b =
    choose_exact _ _ _ (bind _ _ (bind _ _ byte_exact (λ _. declarations_exact 128 true)) (λ ds. pure_exact _))
    (choose_exact _ _ _ (bind _ _ (bind _ _ byte_exact (λ _. declarations_exact 128 false)) (λ ds. pure_exact _))
    (choose_exact _ _ _ (bind _ _ byte_exact (λ _. resource_exact)) (made defined_type _ defined_type_exact)))

type_entry_exact : Exact type_entry
unfolding type_entry
type_entry_exact = bind _ _ peek_exact (λ b. entry_by_exact b)

-- ---- instances

core_argument_exact : Exact core_argument
unfolding core_argument
core_argument_exact = bind _ _ name_exact (λ n. bind _ _ (exactly_exact 0x12 kind.Sort) (λ _. bind _ _ number_exact (λ i. pure_exact (n, i))))

core_item_exact : Exact core_item
unfolding core_item
core_item_exact = bind _ _ name_exact (λ n. bind _ _ core_sort_exact (λ s. bind _ _ number_exact (λ i. pure_exact (n, s, i))))

core_instantiation_exact : Exact core_instantiation
unfolding core_instantiation
core_instantiation_exact = bind _ _ number_exact (λ m. bind _ _ (vec_exact core_argument core_argument_exact) (λ args. pure_exact _))

core_instance_exact : Exact core_instance
unfolding core_instance
core_instance_exact =
    bind _ _ byte_exact (λ b. choose_exact _ _ _ core_instantiation_exact
    (choose_exact _ _ _ (made (vec core_item) _ (vec_exact core_item core_item_exact)) (refuse_exact kind.Instance)))

argument_exact : Exact argument
unfolding argument
argument_exact = bind _ _ name_exact (λ n. bind _ _ sort_code_exact (λ s. bind _ _ number_exact (λ i. pure_exact (n, s, i))))

item_exact : Exact item
unfolding item
item_exact = bind _ _ extern_name_exact (λ n. bind _ _ sort_code_exact (λ s. bind _ _ number_exact (λ i. pure_exact (n, s, i))))

instantiation_exact : Exact instantiation
unfolding instantiation
instantiation_exact = bind _ _ number_exact (λ c. bind _ _ (vec_exact argument argument_exact) (λ args. pure_exact _))

instance_exact : Exact instance
unfolding instance
instance_exact =
    bind _ _ byte_exact (λ b. choose_exact _ _ _ instantiation_exact
    (choose_exact _ _ _ (made (vec item) _ (vec_exact item item_exact)) (refuse_exact kind.Instance)))

-- ---- canonical functions

option_by_exact : (b : ℕ) (o : Option CanonicalOption) → Exact (option_by b o)
option_by_exact b (Some o) = pure_exact o
option_by_exact b None = bind _ _ number_exact (λ i. or_refuse_exact kind.CanonicalOption (option_at b i))

canonical_option_exact : Exact canonical_option
unfolding canonical_option
canonical_option_exact = bind _ _ byte_exact (λ b. option_by_exact b (option_of b))

options_exact : Exact (vec canonical_option)
options_exact = vec_exact canonical_option canonical_option_exact

lift_exact : Exact lift
unfolding lift
lift_exact = bind _ _ (exactly_exact 0x00 kind.Canonical) (λ _. bind _ _ number_exact (λ f. bind _ _ options_exact (λ os. bind _ _ number_exact (λ t. pure_exact _))))

lower_exact : Exact lower
unfolding lower
lower_exact = bind _ _ (exactly_exact 0x00 kind.Canonical) (λ _. bind _ _ number_exact (λ f. bind _ _ options_exact (λ os. pure_exact _)))

flag_exact : Exact flag
unfolding flag
flag_exact = bind _ _ byte_exact (λ b. choose_exact _ _ _ (pure_exact tt) (choose_exact _ _ _ (pure_exact tt) (refuse_exact kind.Flag)))

operand_exact : (o : Operands) → Exact (operand o)
unfolding operand
operand_exact operands.Nothing = pure_exact tt
operand_exact operands.Index = bind _ _ number_exact (λ _. pure_exact tt)
operand_exact operands.Flag = flag_exact
operand_exact operands.Options = bind _ _ options_exact (λ _. pure_exact tt)
operand_exact operands.IndexOptions = bind _ _ number_exact (λ _. bind _ _ options_exact (λ _. pure_exact tt))
operand_exact operands.IndexIndex = bind _ _ number_exact (λ _. bind _ _ number_exact (λ _. pure_exact tt))
operand_exact operands.IndexFlag = bind _ _ number_exact (λ _. flag_exact)
operand_exact operands.FlagIndex = bind _ _ flag_exact (λ _. bind _ _ number_exact (λ _. pure_exact tt))
operand_exact operands.Answer = bind _ _ answer_exact (λ _. bind _ _ options_exact (λ _. pure_exact tt))
operand_exact operands.Context = bind _ _ (exactly_exact 0x7f kind.Canonical) (λ _. bind _ _ number_exact (λ _. pure_exact tt))

built_in_exact : (b : ℕ) (o : Option Operands) → Exact (built_in b o)
built_in_exact b (Some o) = bind _ _ (operand_exact o) (λ _. pure_exact _)
built_in_exact b None = refuse_exact kind.Canonical

canonical_by_exact : (b : ℕ) → Exact (canonical_by b)
canonical_by_exact b = choose_exact _ _ _ lift_exact (choose_exact _ _ _ lower_exact (built_in_exact b (operands_of b)))

canonical_exact : Exact canonical
unfolding canonical
canonical_exact = bind _ _ byte_exact (λ b. canonical_by_exact b)

-- ---- sections

import_entry_exact : Exact import_entry
unfolding import_entry
import_entry_exact = bind _ _ extern_name_exact (λ n. bind _ _ description_exact (λ d. pure_exact (n, d)))

optional_description_exact : Exact optional_description
unfolding optional_description
optional_description_exact = optional_exact description description_exact

export_entry_exact : Exact export_entry
unfolding export_entry
export_entry_exact =
    bind _ _ extern_name_exact (λ n. bind _ _ sort_code_exact (λ s. bind _ _ number_exact (λ i. bind _ _ optional_description_exact (λ d. pure_exact _))))

start_exact : Exact start
unfolding start
start_exact = bind _ _ number_exact (λ f. bind _ _ (vec_exact number number_exact) (λ args. bind _ _ number_exact (λ n. pure_exact _)))

custom_exact : (size : ℕ) → Exact (custom size)
custom_exact size = made (with_rest size name) _ (with_rest_exact size name name_exact)

section_list_exact : (b : ℕ) → Exact (section_list b)
unfolding section_list
section_list_exact b =
    choose_exact _ _ _ (made (vec core_instance) _ (vec_exact core_instance core_instance_exact))
    (choose_exact _ _ _ (made (vec instance) _ (vec_exact instance instance_exact))
    (choose_exact _ _ _ (made (vec alias) _ (vec_exact alias alias_exact))
    (choose_exact _ _ _ (made (vec type_entry) _ (vec_exact type_entry type_entry_exact))
    (choose_exact _ _ _ (made (vec canonical) _ (vec_exact canonical canonical_exact))
    (choose_exact _ _ _ start_exact
    (choose_exact _ _ _ (made (vec import_entry) _ (vec_exact import_entry import_entry_exact))
    (choose_exact _ _ _ (made (vec export_entry) _ (vec_exact export_entry export_entry_exact))
    (choose_exact _ _ _ (made (vec core_type) _ (vec_exact core_type core_type_exact))
    (choose_exact _ _ _ (refuse_exact kind.Value) (refuse_exact kind.Section))))))))))

contents_exact : (size b : ℕ) → Exact (contents size b)
contents_exact size b =
    choose_exact _ _ _ (custom_exact size)
    (choose_exact _ _ _ (bind _ _ (bytes_exact size) (λ x. pure_exact _))
    (choose_exact _ _ _ (bind _ _ (bytes_exact size) (λ x. pure_exact _)) (within_exact size (section_list b) (section_list_exact b))))

pub section_exact : Exact section
unfolding section
section_exact =
    bind _ _ byte_exact (λ b. bind _ _ number_exact (λ size. bind _ _ (room_exact size) (λ _. contents_exact size b)))

pub preamble_exact : Exact preamble
unfolding preamble
preamble_exact =
    let one : (n : ℕ) → Exact (exactly n kind.Preamble) = λ n. exactly_exact n kind.Preamble in
    bind _ _ (one 0) (λ _. bind _ _ (one 0x61) (λ _. bind _ _ (one 0x73) (λ _. bind _ _ (one 0x6d) (λ _.
    bind _ _ (one 0x0d) (λ _. bind _ _ (one 0) (λ _. bind _ _ (one 1) (λ _. one 0)))))))

pub component_exact : Exact component
unfolding component
component_exact = bind _ _ preamble_exact (λ _. all_exact section section_exact section_takes)
