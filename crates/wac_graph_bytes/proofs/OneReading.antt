-- Each text is the spelling of at most one list of sections.
use Rattle.std.proofs.Common.{◌≡◌, ℕ, ◌+◌, ◌*◌, ◌%◌, ◌/◌, ◌<◌, ◌≤◌, Bool, true, false, List, [], ◌∷◌, ◌++◌, length, Option, Some, None, refl, sym, ap, ◌∙◌, arith, append_assoc, inl, inr}
use Rattle.std.specs.Prelude.{◌⊎◌}
use Rattle.std.specs.List.{flat_map}
use Rattle.std.proofs.lemmas.Bool.{cases_lt}
use Rattle.std.proofs.lemmas.List.{append_cancel_left}
use Rattle.wac_graph_bytes.specs.declared.value.Sort.{Sort}
use Rattle.wac_graph_bytes.specs.declared.value.Sort.TheVariants as sort
use Rattle.wac_types_base.specs.declared.item.PrimitiveType.{PrimitiveType}
use Rattle.wac_types_base.specs.declared.item.PrimitiveType.TheVariants as prim
use Rattle.wac_graph_bytes.specs.declared.value.ValueType.{ValueType}
use Rattle.wac_graph_bytes.specs.declared.value.ValueType.TheVariants.{Primitive, Index}
use Rattle.wac_graph_bytes.specs.declared.value.Description.{Description}
use Rattle.wac_graph_bytes.specs.declared.value.Description.TheVariants as desc
use Rattle.wac_graph_bytes.specs.declared.module.CoreReference.{CoreReference}
use Rattle.wac_graph_bytes.specs.declared.module.CoreReference.TheVariants as reference
use Rattle.wac_graph_bytes.specs.declared.module.CoreValue.{CoreValue}
use Rattle.wac_graph_bytes.specs.declared.module.CoreValue.TheVariants.{I32, I64, F32, F64, V128, Reference}
use Rattle.wac_graph_bytes.specs.declared.module.Limits.{Limits}
use Rattle.wac_graph_bytes.specs.declared.module.CoreDescription.{CoreDescription}
use Rattle.wac_graph_bytes.specs.declared.module.CoreDescription.TheVariants as core
use Rattle.wac_graph_bytes.specs.Leb.{unsigned, signed}
use Rattle.wac_graph_bytes.specs.Entries.{DefinedType, PrimitiveEntry, RecordEntry, VariantEntry, ListEntry, OptionEntry, FixedListEntry, TupleEntry, FlagsEntry, EnumEntry, ResultEntry, OwnEntry, BorrowEntry, StreamEntry, FutureEntry, FuncEntry, Alias, ExportAlias, OuterAlias, CoreDeclaration, CoreImport, CoreSignature, CoreExport, Declarations, End, CoreThen, TypeThen, ComponentTypeThen, InstanceTypeThen, AliasThen, ImportThen, ExportThen, TypeEntry, PlainType, ComponentType, InstanceType, ExportEntry, Argument, Section, Custom, CoreTypes, NestedComponent, Instances, Aliases, Types, Imports, Exports}
use Rattle.wac_graph_bytes.specs.Spelling.{vec, name, extern_name, sort_bytes, primitive_byte, value_type, optional, field, case_bytes, answer, func_byte, defined_type, description, alias_bytes, core_reference, core_value, bit, limits_by, limits, core_description, core_declaration, core_type, declaration_count, declaration_bytes, type_entry, argument, instance_entry, import_entry, stated_bytes, export_entry, section_id, contents, section_bytes, preamble, component_bytes}
use Rattle.wac_graph_bytes.proofs.LebLaws.{digits_last, digits_more}
use Rattle.wac_names.proofs.Parts.{cons_head, cons_tail}
use Rattle.wac_graph_bytes.proofs.Codes.{Same, IsCode, unsigned_code, signed_code, then_one, first_one, name_code, vec_code, whole, framed_one, all_one, both_code, tagged_code, ended_code}

sort_one : (a b : Sort) (x y : List ℕ) → sort_bytes a ++ x ≡ sort_bytes b ++ y → Same a b x y
sort_one sort.Func sort.Func x y e = record { value = refl; rest = cons_tail _ _ _ _ e }
sort_one sort.Ty sort.Ty x y e = record { value = refl; rest = cons_tail _ _ _ _ e }
sort_one sort.Component sort.Component x y e = record { value = refl; rest = cons_tail _ _ _ _ e }
sort_one sort.Instance sort.Instance x y e = record { value = refl; rest = cons_tail _ _ _ _ e }
sort_one sort.Module sort.Module x y e = record { value = refl; rest = cons_tail _ _ _ _ (cons_tail _ _ _ _ e) }
sort_one _ _ x y e = absurd (omega (arith, cons_head _ _ _ _ e))

sort_code : IsCode sort_bytes
sort_code = record { one = sort_one }

primitive_is : (a b : PrimitiveType) → primitive_byte a ≡ primitive_byte b → a ≡ b
primitive_is prim.Bool prim.Bool e = refl
primitive_is prim.S8 prim.S8 e = refl
primitive_is prim.U8 prim.U8 e = refl
primitive_is prim.S16 prim.S16 e = refl
primitive_is prim.U16 prim.U16 e = refl
primitive_is prim.S32 prim.S32 e = refl
primitive_is prim.U32 prim.U32 e = refl
primitive_is prim.S64 prim.S64 e = refl
primitive_is prim.U64 prim.U64 e = refl
primitive_is prim.F32 prim.F32 e = refl
primitive_is prim.F64 prim.F64 e = refl
primitive_is prim.Char prim.Char e = refl
primitive_is prim.String prim.String e = refl
primitive_is prim.ErrorContext prim.ErrorContext e = refl
primitive_is _ _ e = absurd (omega (arith, e))

-- a primitive type's byte is none of the other types' bytes
primitive_range : (a : PrimitiveType) → (primitive_byte a < 128) × ((115 ≤ primitive_byte a) ⊎ (primitive_byte a ≡ 100))
primitive_range prim.ErrorContext = (omega arith, inr refl)
primitive_range prim.Bool = (omega arith, inl (omega arith))
primitive_range _ = (omega arith, inl (omega arith))

record Begins (n : ℕ) : Type 0 where
  first : ℕ
  rest : List ℕ
  is : signed n ≡ first ∷ rest
  below : (first < 64) ⊎ (128 ≤ first)

signed_begins : (n : ℕ) → Begins n
signed_begins n =
    elim (cases_lt n 64) [
      | inl small ↦ record { first = n; rest = []; is = digits_last 64 n small; below = inl small }
      | inr big ↦ record { first = n % 128 + 128; rest = signed (n / 128); is = digits_more 64 n (omega arith) big; below = inr (omega arith) }
    ]

not_both : (p : PrimitiveType) (n : ℕ) (x y : List ℕ) → primitive_byte p ∷ x ≡ signed n ++ y → ⊥
not_both p n x y e =
    let b = signed_begins n in
    let f : primitive_byte p ∷ x ≡ b.first ∷ (b.rest ++ y) = e ∙ ap (λ (t : List ℕ). t ++ y) b.is in
    let h = cons_head _ _ _ _ f in
    let r = primitive_range p in
    let k = b.below in
    grind arith

value_one : (a b : ValueType) (x y : List ℕ) → value_type a ++ x ≡ value_type b ++ y → Same a b x y
value_one (Primitive p) (Primitive q) x y e =
    let h = primitive_is p q (cons_head _ _ _ _ e) in
    record { value = ap Primitive h; rest = cons_tail _ _ _ _ e }
value_one (Primitive p) (Index n) x y e = absurd (not_both p n x y e)
value_one (Index n) (Primitive p) x y e = absurd (not_both p n y x (sym e))
value_one (Index m) (Index n) x y e = let r = signed_code.one m n x y e in record { value = ap Index r.value; rest = r.rest }

pub value_code : IsCode value_type
value_code = record { one = value_one }

optional_one : (a b : Option ValueType) (x y : List ℕ) → optional a ++ x ≡ optional b ++ y → Same a b x y
optional_one None None x y e = record { value = refl; rest = cons_tail _ _ _ _ e }
optional_one (Some a) (Some b) x y e = let r = value_one a b x y (cons_tail _ _ _ _ e) in record { value = ap Some r.value; rest = r.rest }
optional_one _ _ x y e = absurd (omega (arith, cons_head _ _ _ _ e))

optional_code : IsCode optional
optional_code = record { one = optional_one }

answer_one : (a b : Option ValueType) (x y : List ℕ) → answer a ++ x ≡ answer b ++ y → Same a b x y
answer_one None None x y e = record { value = refl; rest = cons_tail _ _ _ _ (cons_tail _ _ _ _ e) }
answer_one (Some a) (Some b) x y e = let r = value_one a b x y (cons_tail _ _ _ _ e) in record { value = ap Some r.value; rest = r.rest }
answer_one _ _ x y e = absurd (omega (arith, cons_head _ _ _ _ e))

answer_code : IsCode answer
answer_code = record { one = answer_one }

field_code : IsCode field
field_code = both_code name value_type name_code value_code

case_code : IsCode case_bytes
case_code = both_code name (λ (t : Option ValueType). optional t ++ 0 ∷ []) name_code (ended_code optional (0 ∷ []) optional_code)

extern_name_code : IsCode extern_name
extern_name_code = tagged_code 0 name name_code

description_one : (a b : Description) (x y : List ℕ) → description a ++ x ≡ description b ++ y → Same a b x y
description_one (desc.Module i) (desc.Module j) x y e = let r = unsigned_code.one i j x y (cons_tail _ _ _ _ (cons_tail _ _ _ _ e)) in record { value = ap desc.Module r.value; rest = r.rest }
description_one (desc.Func i) (desc.Func j) x y e = let r = unsigned_code.one i j x y (cons_tail _ _ _ _ e) in record { value = ap desc.Func r.value; rest = r.rest }
description_one (desc.Equal i) (desc.Equal j) x y e = let r = unsigned_code.one i j x y (cons_tail _ _ _ _ (cons_tail _ _ _ _ e)) in record { value = ap desc.Equal r.value; rest = r.rest }
description_one desc.Resource desc.Resource x y e = record { value = refl; rest = cons_tail _ _ _ _ (cons_tail _ _ _ _ e) }
description_one (desc.Equal i) desc.Resource x y e = absurd (omega (arith, cons_head _ _ _ _ (cons_tail _ _ _ _ e)))
description_one desc.Resource (desc.Equal j) x y e = absurd (omega (arith, cons_head _ _ _ _ (cons_tail _ _ _ _ e)))
description_one (desc.Component i) (desc.Component j) x y e = let r = unsigned_code.one i j x y (cons_tail _ _ _ _ e) in record { value = ap desc.Component r.value; rest = r.rest }
description_one (desc.Instance i) (desc.Instance j) x y e = let r = unsigned_code.one i j x y (cons_tail _ _ _ _ e) in record { value = ap desc.Instance r.value; rest = r.rest }
description_one _ _ x y e = absurd (omega (arith, cons_head _ _ _ _ e))

description_code : IsCode description
description_code = record { one = description_one }

import_code : IsCode import_entry
import_code = both_code extern_name description extern_name_code description_code

stated_one : (a b : Option Description) (x y : List ℕ) → stated_bytes a ++ x ≡ stated_bytes b ++ y → Same a b x y
stated_one None None x y e = record { value = refl; rest = cons_tail _ _ _ _ e }
stated_one (Some a) (Some b) x y e = let r = description_one a b x y (cons_tail _ _ _ _ e) in record { value = ap Some r.value; rest = r.rest }
stated_one _ _ x y e = absurd (omega (arith, cons_head _ _ _ _ e))

stated_code : IsCode stated_bytes
stated_code = record { one = stated_one }

func_is : (a b : Bool) → func_byte a ≡ func_byte b → a ≡ b
func_is true true e = refl
func_is false false e = refl
func_is _ _ e = absurd (omega (arith, e))

-- one part behind a byte
abbrev Inner : {X : Type 0} (f : X → List ℕ) → IsCode f → (k : ℕ) (a b : X) (x y : List ℕ) → k ∷ (f a ++ x) ≡ k ∷ (f b ++ y) → Same a b x y
Inner f p k a b x y e = p.one a b x y (cons_tail k k (f a ++ x) (f b ++ y) e)

defined_one : (a b : DefinedType) (x y : List ℕ) → defined_type a ++ x ≡ defined_type b ++ y → Same a b x y
defined_one (PrimitiveEntry p) (PrimitiveEntry q) x y e = record { value = ap PrimitiveEntry (primitive_is p q (cons_head _ _ _ _ e)); rest = cons_tail _ _ _ _ e }
defined_one (PrimitiveEntry p) (FuncEntry true params r) x y e = let h = primitive_range p in absurd (omega (arith, h.0, h.1, cons_head _ _ _ _ e))
defined_one (PrimitiveEntry p) (FuncEntry false params r) x y e = let h = primitive_range p in absurd (omega (arith, h.0, h.1, cons_head _ _ _ _ e))
defined_one (FuncEntry true params r) (PrimitiveEntry p) x y e = let h = primitive_range p in absurd (omega (arith, h.0, h.1, cons_head _ _ _ _ e))
defined_one (FuncEntry false params r) (PrimitiveEntry p) x y e = let h = primitive_range p in absurd (omega (arith, h.0, h.1, cons_head _ _ _ _ e))
defined_one (PrimitiveEntry p) _ x y e = let h = primitive_range p in absurd (omega (arith, h.0, h.1, cons_head _ _ _ _ e))
defined_one _ (PrimitiveEntry p) x y e = let h = primitive_range p in absurd (omega (arith, h.0, h.1, cons_head _ _ _ _ e))
defined_one (RecordEntry a) (RecordEntry b) x y e = let r = Inner (vec field) (vec_code field field_code) _ a b x y e in record { value = ap RecordEntry r.value; rest = r.rest }
defined_one (VariantEntry a) (VariantEntry b) x y e = let r = Inner (vec case_bytes) (vec_code case_bytes case_code) _ a b x y e in record { value = ap VariantEntry r.value; rest = r.rest }
defined_one (ListEntry a) (ListEntry b) x y e = let r = Inner value_type value_code _ a b x y e in record { value = ap ListEntry r.value; rest = r.rest }
defined_one (OptionEntry a) (OptionEntry b) x y e = let r = Inner value_type value_code _ a b x y e in record { value = ap OptionEntry r.value; rest = r.rest }
defined_one (FixedListEntry a m) (FixedListEntry b n) x y e =
    let r = then_one value_type unsigned value_code unsigned_code a b m n x y (cons_tail _ _ _ _ e) in
    let p = r.0 in
    let q = r.1 in
    record { value = cc; rest = r.2 }
defined_one (TupleEntry a) (TupleEntry b) x y e = let r = Inner (vec value_type) (vec_code value_type value_code) _ a b x y e in record { value = ap TupleEntry r.value; rest = r.rest }
defined_one (FlagsEntry a) (FlagsEntry b) x y e = let r = Inner (vec name) (vec_code name name_code) _ a b x y e in record { value = ap FlagsEntry r.value; rest = r.rest }
defined_one (EnumEntry a) (EnumEntry b) x y e = let r = Inner (vec name) (vec_code name name_code) _ a b x y e in record { value = ap EnumEntry r.value; rest = r.rest }
defined_one (ResultEntry a m) (ResultEntry b n) x y e =
    let r = then_one optional optional optional_code optional_code a b m n x y (cons_tail _ _ _ _ e) in
    let p = r.0 in
    let q = r.1 in
    record { value = cc; rest = r.2 }
defined_one (OwnEntry a) (OwnEntry b) x y e = let r = Inner unsigned unsigned_code _ a b x y e in record { value = ap OwnEntry r.value; rest = r.rest }
defined_one (BorrowEntry a) (BorrowEntry b) x y e = let r = Inner unsigned unsigned_code _ a b x y e in record { value = ap BorrowEntry r.value; rest = r.rest }
defined_one (StreamEntry a) (StreamEntry b) x y e = let r = Inner optional optional_code _ a b x y e in record { value = ap StreamEntry r.value; rest = r.rest }
defined_one (FutureEntry a) (FutureEntry b) x y e = let r = Inner optional optional_code _ a b x y e in record { value = ap FutureEntry r.value; rest = r.rest }
defined_one (FuncEntry s a m) (FuncEntry t b n) x y e =
    let h = func_is s t (cons_head _ _ _ _ e) in
    let r = then_one (vec field) answer (vec_code field field_code) answer_code a b m n x y (cons_tail _ _ _ _ e) in
    let p = r.0 in
    let q = r.1 in
    record { value = cc; rest = r.2 }
defined_one (FuncEntry true a m) _ x y e = absurd (omega (arith, cons_head _ _ _ _ e))
defined_one (FuncEntry false a m) _ x y e = absurd (omega (arith, cons_head _ _ _ _ e))
defined_one _ (FuncEntry true b n) x y e = absurd (omega (arith, cons_head _ _ _ _ e))
defined_one _ (FuncEntry false b n) x y e = absurd (omega (arith, cons_head _ _ _ _ e))
defined_one _ _ x y e = absurd (omega (arith, cons_head _ _ _ _ e))

pub defined_code : IsCode defined_type
defined_code = record { one = defined_one }

-- the sort, and then which kind of alias
alias_one : (a b : Alias) (x y : List ℕ) → alias_bytes a ++ x ≡ alias_bytes b ++ y → Same a b x y
alias_one (ExportAlias s i n) (ExportAlias t j m) x y e =
    let r = first_one sort_bytes sort_code s t _ _ x y e in
    let q = then_one unsigned name unsigned_code name_code i j n m x y (cons_tail _ _ _ _ r.rest) in
    let h = r.value in
    let k = q.0 in
    let l = q.1 in
    record { value = cc; rest = q.2 }
alias_one (OuterAlias s i n) (OuterAlias t j m) x y e =
    let r = first_one sort_bytes sort_code s t _ _ x y e in
    let q = then_one unsigned unsigned unsigned_code unsigned_code i j n m x y (cons_tail _ _ _ _ r.rest) in
    let h = r.value in
    let k = q.0 in
    let l = q.1 in
    record { value = cc; rest = q.2 }
alias_one (ExportAlias s i n) (OuterAlias t j m) x y e = absurd (omega (arith, cons_head _ _ _ _ (first_one sort_bytes sort_code s t _ _ x y e).rest))
alias_one (OuterAlias s i n) (ExportAlias t j m) x y e = absurd (omega (arith, cons_head _ _ _ _ (first_one sort_bytes sort_code s t _ _ x y e).rest))

pub alias_code : IsCode alias_bytes
alias_code = record { one = alias_one }

argument_code : IsCode argument
argument_code = record {
  one = λ a b x y e.
      let r = first_one name name_code a.0 b.0 _ _ x y e in
      let q = then_one sort_bytes unsigned sort_code unsigned_code a.1 b.1 a.2 b.2 x y r.rest in
      let f : List ℕ → Argument = λ n. (n, a.1, a.2) in
      let g : Sort → Argument = λ s. (b.0, s, a.2) in
      let h : ℕ → Argument = λ i. (b.0, b.1, i) in
      record { value = ap f r.value ∙ ap g q.0 ∙ ap h q.1; rest = q.2 };
}

instance_code : IsCode instance_entry
instance_code = tagged_code 0 (λ (e : ℕ × List Argument). unsigned e.0 ++ vec argument e.1) (both_code unsigned (vec argument) unsigned_code (vec_code argument argument_code))

export_one : (a b : ExportEntry) (x y : List ℕ) → export_entry a ++ x ≡ export_entry b ++ y → Same a b x y
export_one a b x y e =
    let r = first_one extern_name extern_name_code a.name b.name _ _ x y e in
    let s = first_one sort_bytes sort_code a.sort b.sort _ _ x y r.rest in
    let t = then_one unsigned stated_bytes unsigned_code stated_code a.index b.index a.stated b.stated x y s.rest in
    let f : List ℕ → ExportEntry = λ n. record { name = n; sort = a.sort; index = a.index; stated = a.stated } in
    let g : Sort → ExportEntry = λ n. record { name = b.name; sort = n; index = a.index; stated = a.stated } in
    let h : ℕ → ExportEntry = λ n. record { name = b.name; sort = b.sort; index = n; stated = a.stated } in
    let k : Option Description → ExportEntry = λ n. record { name = b.name; sort = b.sort; index = b.index; stated = n } in
    record { value = ap f r.value ∙ ap g s.value ∙ ap h t.0 ∙ ap k t.1; rest = t.2 }

export_code : IsCode export_entry
export_code = record { one = export_one }

-- ---- core types

reference_is : (a b : CoreReference) → core_reference a ≡ core_reference b → a ≡ b
reference_is reference.Func reference.Func e = refl
reference_is reference.Extern reference.Extern e = refl
reference_is _ _ e = absurd (omega (arith, e))

reference_range : (a : CoreReference) → core_reference a < 113
reference_range reference.Func = omega arith
reference_range reference.Extern = omega arith

core_value_one : (a b : CoreValue) (x y : List ℕ) → core_value a ++ x ≡ core_value b ++ y → Same a b x y
core_value_one I32 I32 x y e = record { value = refl; rest = cons_tail _ _ _ _ e }
core_value_one I64 I64 x y e = record { value = refl; rest = cons_tail _ _ _ _ e }
core_value_one F32 F32 x y e = record { value = refl; rest = cons_tail _ _ _ _ e }
core_value_one F64 F64 x y e = record { value = refl; rest = cons_tail _ _ _ _ e }
core_value_one V128 V128 x y e = record { value = refl; rest = cons_tail _ _ _ _ e }
core_value_one (Reference a) (Reference b) x y e = record { value = ap Reference (reference_is a b (cons_head _ _ _ _ e)); rest = cons_tail _ _ _ _ e }
core_value_one (Reference a) _ x y e = absurd (omega (arith, reference_range a, cons_head _ _ _ _ e))
core_value_one _ (Reference a) x y e = absurd (omega (arith, reference_range a, cons_head _ _ _ _ e))
core_value_one _ _ x y e = absurd (omega (arith, cons_head _ _ _ _ e))

core_value_code : IsCode core_value
core_value_code = record { one = core_value_one }

flags_is : (a b c d : Bool) → 2 * bit a + 4 * bit b ≡ 2 * bit c + 4 * bit d → (a ≡ c) × (b ≡ d)
flags_is true true true true e = (refl, refl)
flags_is true false true false e = (refl, refl)
flags_is false true false true e = (refl, refl)
flags_is false false false false e = (refl, refl)
flags_is _ _ _ _ e = absurd (omega (arith, e))

-- no maximum's flag is odd
even_odd : (a b c d : Bool) → 2 * bit a + 4 * bit b ≡ 2 * bit c + 4 * bit d + 1 → ⊥
even_odd a b c d e = omega (arith, e)

limits_is : (a b : Limits) → a.minimum ≡ b.minimum → a.maximum ≡ b.maximum → a.wide ≡ b.wide → a ≡ b
limits_is a b p q s =
    let f : ℕ → Limits = λ n. record { minimum = n; maximum = a.maximum; wide = a.wide } in
    let g : Option ℕ → Limits = λ n. record { minimum = b.minimum; maximum = n; wide = a.wide } in
    let k : Bool → Limits = λ n. record { minimum = b.minimum; maximum = b.maximum; wide = n } in
    ap f p ∙ ap g q ∙ ap k s

limits_one_by : (m n : Option ℕ) (a b c d : Bool) (k l : ℕ) (x y : List ℕ) → limits_by m (2 * bit a + 4 * bit b) k ++ x ≡ limits_by n (2 * bit c + 4 * bit d) l ++ y
    → (k ≡ l) × (m ≡ n) × (a ≡ c) × (b ≡ d) × (x ≡ y)
limits_one_by None None a b c d k l x y e =
    let f = flags_is a b c d (cons_head _ _ _ _ e) in
    let r = unsigned_code.one k l x y (cons_tail _ _ _ _ e) in
    (r.value, refl, f.0, f.1, r.rest)
limits_one_by (Some m) (Some n) a b c d k l x y e =
    let h = cons_head _ _ _ _ e in
    let f = flags_is a b c d (omega (arith, h)) in
    let r = then_one unsigned unsigned unsigned_code unsigned_code k l m n x y (cons_tail _ _ _ _ e) in
    (r.0, ap Some r.1, f.0, f.1, r.2)
limits_one_by None (Some n) a b c d k l x y e = absurd (even_odd a b c d (cons_head _ _ _ _ e))
limits_one_by (Some m) None a b c d k l x y e = absurd (even_odd c d a b (sym (cons_head _ _ _ _ e)))

-- whether it is shared, and the bounds
limits_one : (s t : Bool) (a b : Limits) (x y : List ℕ) → limits s a ++ x ≡ limits t b ++ y → (s ≡ t) × (a ≡ b) × (x ≡ y)
limits_one s t a b x y e =
    let r = limits_one_by a.maximum b.maximum s a.wide t b.wide a.minimum b.minimum x y e in
    (r.2, limits_is a b r.0 r.1 r.3, r.4)

bit_is : (a b : Bool) → bit a ≡ bit b → a ≡ b
bit_is true true e = refl
bit_is false false e = refl
bit_is _ _ e = absurd (omega (arith, e))

core_description_one : (a b : CoreDescription) (x y : List ℕ) → core_description a ++ x ≡ core_description b ++ y → Same a b x y
core_description_one (core.Func a) (core.Func b) x y e = let r = Inner unsigned unsigned_code _ a b x y e in record { value = ap core.Func r.value; rest = r.rest }
core_description_one (core.Table a m) (core.Table b n) x y e =
    let t = cons_tail _ _ _ _ e in
    let p = reference_is a b (cons_head _ _ _ _ t) in
    let r = limits_one false false m n x y (cons_tail _ _ _ _ t) in
    let q = r.1 in
    record { value = cc; rest = r.2 }
core_description_one (core.Memory a s) (core.Memory b t) x y e =
    let r = limits_one s t a b x y (cons_tail _ _ _ _ e) in
    let p = r.0 in
    let q = r.1 in
    record { value = cc; rest = r.2 }
core_description_one (core.Global a m) (core.Global b n) x y e =
    let r = first_one core_value core_value_code a b (bit m ∷ []) (bit n ∷ []) x y (cons_tail _ _ _ _ e) in
    let p = r.value in
    let q = bit_is m n (cons_head _ _ _ _ r.rest) in
    record { value = cc; rest = cons_tail _ _ _ _ r.rest }
core_description_one (core.Tag a) (core.Tag b) x y e = let r = unsigned_code.one a b x y (cons_tail _ _ _ _ (cons_tail _ _ _ _ e)) in record { value = ap core.Tag r.value; rest = r.rest }
core_description_one _ _ x y e = absurd (omega (arith, cons_head _ _ _ _ e))

core_description_code : IsCode core_description
core_description_code = record { one = core_description_one }

core_declaration_one : (a b : CoreDeclaration) (x y : List ℕ) → core_declaration a ++ x ≡ core_declaration b ++ y → Same a b x y
core_declaration_one (CoreImport a c m) (CoreImport b d n) x y e =
    let s = first_one name name_code a b _ _ x y (cons_tail _ _ _ _ e) in
    let r = then_one name core_description name_code core_description_code c d m n x y s.rest in
    let o = s.value in
    let p = r.0 in
    let q = r.1 in
    record { value = cc; rest = r.2 }
core_declaration_one (CoreSignature a m) (CoreSignature b n) x y e =
    let r = then_one (vec core_value) (vec core_value) (vec_code core_value core_value_code) (vec_code core_value core_value_code) a b m n x y (cons_tail _ _ _ _ (cons_tail _ _ _ _ e)) in
    let p = r.0 in
    let q = r.1 in
    record { value = cc; rest = r.2 }
core_declaration_one (CoreExport a m) (CoreExport b n) x y e =
    let r = then_one name core_description name_code core_description_code a b m n x y (cons_tail _ _ _ _ e) in
    let p = r.0 in
    let q = r.1 in
    record { value = cc; rest = r.2 }
core_declaration_one _ _ x y e = absurd (omega (arith, cons_head _ _ _ _ e))

core_declaration_code : IsCode core_declaration
core_declaration_code = record { one = core_declaration_one }

pub core_type_code : IsCode core_type
core_type_code = tagged_code 0x50 (vec core_declaration) (vec_code core_declaration core_declaration_code)

-- ---- declarations

-- no other type entry begins as one with declarations does
not_scope : (t : DefinedType) (k : ℕ) (x y : List ℕ) → (65 ≤ k) × (k ≤ 66) → defined_type t ++ x ≡ k ∷ y → ⊥
not_scope (PrimitiveEntry p) k x y h e = let r = primitive_range p in omega (arith, h.0, h.1, r.0, r.1, cons_head _ _ _ _ e)
not_scope (FuncEntry true a m) k x y h e = omega (arith, h.0, h.1, cons_head _ _ _ _ e)
not_scope (FuncEntry false a m) k x y h e = omega (arith, h.0, h.1, cons_head _ _ _ _ e)
not_scope _ k x y h e = omega (arith, h.0, h.1, cons_head _ _ _ _ e)

mid_assoc : (a b x : List ℕ) (c d y : List ℕ) → (a ++ b) ++ x ≡ (c ++ d) ++ y → a ++ (b ++ x) ≡ c ++ (d ++ y)
mid_assoc a b x c d y e = sym (append_assoc a b x) ∙ e ∙ append_assoc c d y

declarations_one : (a b : Declarations) (x y : List ℕ) → declaration_count a ≡ declaration_count b → declaration_bytes a ++ x ≡ declaration_bytes b ++ y → Same a b x y
declarations_one End End x y c e = record { value = refl; rest = e }
declarations_one End _ x y c e = absurd (omega (arith, c))
declarations_one _ End x y c e = absurd (omega (arith, c))
declarations_one (CoreThen t a) (CoreThen s b) x y c e =
    let r = first_one core_type core_type_code t s _ _ x y (cons_tail _ _ _ _ e) in
    let q = declarations_one a b x y (omega (arith, c)) r.rest in
    let h = r.value in
    let k = q.value in
    record { value = cc; rest = q.rest }
declarations_one (TypeThen t a) (TypeThen s b) x y c e =
    let r = first_one defined_type defined_code t s _ _ x y (cons_tail _ _ _ _ e) in
    let q = declarations_one a b x y (omega (arith, c)) r.rest in
    let h = r.value in
    let k = q.value in
    record { value = cc; rest = q.rest }
declarations_one (ComponentTypeThen m a) (ComponentTypeThen n b) x y c e =
    let r = first_one unsigned unsigned_code (declaration_count m) (declaration_count n) _ _ x y (cons_tail _ _ _ _ (cons_tail _ _ _ _ e)) in
    let i = declarations_one m n _ _ r.value (mid_assoc (declaration_bytes m) (declaration_bytes a) x (declaration_bytes n) (declaration_bytes b) y r.rest) in
    let q = declarations_one a b x y (omega (arith, c)) i.rest in
    let h = i.value in
    let k = q.value in
    record { value = cc; rest = q.rest }
declarations_one (InstanceTypeThen m a) (InstanceTypeThen n b) x y c e =
    let r = first_one unsigned unsigned_code (declaration_count m) (declaration_count n) _ _ x y (cons_tail _ _ _ _ (cons_tail _ _ _ _ e)) in
    let i = declarations_one m n _ _ r.value (mid_assoc (declaration_bytes m) (declaration_bytes a) x (declaration_bytes n) (declaration_bytes b) y r.rest) in
    let q = declarations_one a b x y (omega (arith, c)) i.rest in
    let h = i.value in
    let k = q.value in
    record { value = cc; rest = q.rest }
declarations_one (AliasThen t a) (AliasThen s b) x y c e =
    let r = first_one alias_bytes alias_code t s _ _ x y (cons_tail _ _ _ _ e) in
    let q = declarations_one a b x y (omega (arith, c)) r.rest in
    let h = r.value in
    let k = q.value in
    record { value = cc; rest = q.rest }
declarations_one (ImportThen n d a) (ImportThen m f b) x y c e =
    let r = first_one extern_name extern_name_code n m _ _ x y (cons_tail _ _ _ _ e) in
    let s = first_one description description_code d f _ _ x y r.rest in
    let q = declarations_one a b x y (omega (arith, c)) s.rest in
    let g = r.value in
    let h = s.value in
    let k = q.value in
    record { value = cc; rest = q.rest }
declarations_one (ExportThen n d a) (ExportThen m f b) x y c e =
    let r = first_one extern_name extern_name_code n m _ _ x y (cons_tail _ _ _ _ e) in
    let s = first_one description description_code d f _ _ x y r.rest in
    let q = declarations_one a b x y (omega (arith, c)) s.rest in
    let g = r.value in
    let h = s.value in
    let k = q.value in
    record { value = cc; rest = q.rest }
declarations_one (TypeThen t a) (ComponentTypeThen n b) x y c e = absurd (not_scope t 65 _ _ (omega arith, omega arith) (sym (append_assoc (defined_type t) (declaration_bytes a) x) ∙ cons_tail _ _ _ _ e))
declarations_one (TypeThen t a) (InstanceTypeThen n b) x y c e = absurd (not_scope t 66 _ _ (omega arith, omega arith) (sym (append_assoc (defined_type t) (declaration_bytes a) x) ∙ cons_tail _ _ _ _ e))
declarations_one (ComponentTypeThen n b) (TypeThen t a) x y c e = absurd (not_scope t 65 _ _ (omega arith, omega arith) (sym (append_assoc (defined_type t) (declaration_bytes a) y) ∙ sym (cons_tail _ _ _ _ e)))
declarations_one (InstanceTypeThen n b) (TypeThen t a) x y c e = absurd (not_scope t 66 _ _ (omega arith, omega arith) (sym (append_assoc (defined_type t) (declaration_bytes a) y) ∙ sym (cons_tail _ _ _ _ e)))
declarations_one (ComponentTypeThen m a) (InstanceTypeThen n b) x y c e = absurd (omega (arith, cons_head _ _ _ _ (cons_tail _ _ _ _ e)))
declarations_one (InstanceTypeThen m a) (ComponentTypeThen n b) x y c e = absurd (omega (arith, cons_head _ _ _ _ (cons_tail _ _ _ _ e)))
declarations_one _ _ x y c e = absurd (omega (arith, cons_head _ _ _ _ e))

type_entry_one : (a b : TypeEntry) (x y : List ℕ) → type_entry a ++ x ≡ type_entry b ++ y → Same a b x y
type_entry_one (PlainType t) (PlainType s) x y e = let r = defined_one t s x y e in record { value = ap PlainType r.value; rest = r.rest }
type_entry_one (ComponentType m) (ComponentType n) x y e =
    let r = first_one unsigned unsigned_code (declaration_count m) (declaration_count n) _ _ x y (cons_tail _ _ _ _ e) in
    let q = declarations_one m n x y r.value r.rest in
    record { value = ap ComponentType q.value; rest = q.rest }
type_entry_one (InstanceType m) (InstanceType n) x y e =
    let r = first_one unsigned unsigned_code (declaration_count m) (declaration_count n) _ _ x y (cons_tail _ _ _ _ e) in
    let q = declarations_one m n x y r.value r.rest in
    record { value = ap InstanceType q.value; rest = q.rest }
type_entry_one (PlainType t) (ComponentType n) x y e = absurd (not_scope t 65 _ _ (omega arith, omega arith) e)
type_entry_one (PlainType t) (InstanceType n) x y e = absurd (not_scope t 66 _ _ (omega arith, omega arith) e)
type_entry_one (ComponentType n) (PlainType t) x y e = absurd (not_scope t 65 _ _ (omega arith, omega arith) (sym e))
type_entry_one (InstanceType n) (PlainType t) x y e = absurd (not_scope t 66 _ _ (omega arith, omega arith) (sym e))
type_entry_one _ _ x y e = absurd (omega (arith, cons_head _ _ _ _ e))

type_entry_code : IsCode type_entry
type_entry_code = record { one = type_entry_one }

-- ---- sections

section_is : (a b : Section) → section_id a ≡ section_id b → contents a ≡ contents b → a ≡ b
section_is (Custom n r) (Custom m s) i e = let q = name_code.one n m r s e in let h = q.value in let k = q.rest in cc
section_is (CoreTypes a) (CoreTypes b) i e = ap CoreTypes (whole (vec core_type) (vec_code core_type core_type_code) a b e)
section_is (NestedComponent a) (NestedComponent b) i e = ap NestedComponent e
section_is (Instances a) (Instances b) i e = ap Instances (whole (vec instance_entry) (vec_code instance_entry instance_code) a b e)
section_is (Aliases a) (Aliases b) i e = ap Aliases (whole (vec alias_bytes) (vec_code alias_bytes alias_code) a b e)
section_is (Types a) (Types b) i e = ap Types (whole (vec type_entry) (vec_code type_entry type_entry_code) a b e)
section_is (Imports a) (Imports b) i e = ap Imports (whole (vec import_entry) (vec_code import_entry import_code) a b e)
section_is (Exports a) (Exports b) i e = ap Exports (whole (vec export_entry) (vec_code export_entry export_code) a b e)
section_is _ _ i e = absurd (omega (arith, i))

section_code : IsCode section_bytes
unfolding section_bytes
section_code = record {
  one = λ a b x y e.
      let r = framed_one (section_id a) (section_id b) (contents a) (contents b) x y e in
      record { value = section_is a b r.0 r.1; rest = r.2 };
}

section_full : (s : Section) → 0 < length (section_bytes s)
unfolding section_bytes
section_full s = omega arith

pub sections_is : (a b : List Section) → component_bytes a ≡ component_bytes b → a ≡ b
unfolding component_bytes
sections_is a b e = all_one section_bytes section_code section_full a b (append_cancel_left preamble (flat_map section_bytes a) (flat_map section_bytes b) e)
