-- The equality of core types is decided by their tests.
use Rattle.std.proofs.Common.{◌≡◌, ◌&&◌, true, Option, refl, ap, sym, ◌∙◌, ℕ, ◌==◌}
use Rattle.std.proofs.lemmas.Bool.{and_parts}
use Rattle.std.specs.Bool.{Decides}
use Rattle.std.specs.Cmp.Lexicographic.{pointwise}
use Rattle.std.specs.Option.{option_eq}
use mathlib.Core.Bool.{beq}
use Rattle.wac_types_base.specs.One.{IsOne, OfItself, both, one_list, list_itself, one_option, option_itself, one_number, number_itself, one_bool, bool_itself}
use Rattle.wac_types_base.specs.declared.core_types.HeapType.{HeapType}
use Rattle.wac_types_base.specs.declared.core_types.CoreType.{CoreType}
use Rattle.wac_types_base.specs.declared.core_types.CoreExtern.{CoreExtern}
use Rattle.wac_types_base.specs.contracts.core_types.HeapTypePartialEq.TheImpl.{eq-value as heap_eq}
use Rattle.wac_types_base.specs.contracts.core_types.CoreRefTypePartialEq.TheImpl.{eq-value as ref_eq}
use Rattle.wac_types_base.specs.contracts.core_types.CoreTypePartialEq.TheImpl.{eq-value as core_eq}
use Rattle.wac_types_base.specs.contracts.core_types.CoreFuncTypePartialEq.TheImpl.{eq-value as func_eq}
use Rattle.wac_types_base.specs.contracts.core_types.CoreExternPartialEq.TheImpl.{eq-value as extern_eq}

one_heap : IsOne heap_eq.it
one_heap (HeapType.Concrete n) (HeapType.Concrete m) e = ap HeapType.Concrete (one_number n m e)
one_heap HeapType.Func HeapType.Func e = refl
one_heap HeapType.Extern HeapType.Extern e = refl
one_heap HeapType.Any HeapType.Any e = refl
one_heap HeapType.None HeapType.None e = refl
one_heap HeapType.NoExtern HeapType.NoExtern e = refl
one_heap HeapType.NoFunc HeapType.NoFunc e = refl
one_heap HeapType.Eq HeapType.Eq e = refl
one_heap HeapType.Struct HeapType.Struct e = refl
one_heap HeapType.Array HeapType.Array e = refl
one_heap HeapType.I31 HeapType.I31 e = refl
one_heap HeapType.Exn HeapType.Exn e = refl
one_heap HeapType.NoExn HeapType.NoExn e = refl
one_heap HeapType.Cont HeapType.Cont e = refl
one_heap HeapType.NoCont HeapType.NoCont e = refl
one_heap x y e = absurd (cc e)

heap_itself : OfItself heap_eq.it
heap_itself (HeapType.Concrete n) = number_itself n
heap_itself HeapType.Func = refl
heap_itself HeapType.Extern = refl
heap_itself HeapType.Any = refl
heap_itself HeapType.None = refl
heap_itself HeapType.NoExtern = refl
heap_itself HeapType.NoFunc = refl
heap_itself HeapType.Eq = refl
heap_itself HeapType.Struct = refl
heap_itself HeapType.Array = refl
heap_itself HeapType.I31 = refl
heap_itself HeapType.Exn = refl
heap_itself HeapType.NoExn = refl
heap_itself HeapType.Cont = refl
heap_itself HeapType.NoCont = refl

one_ref : IsOne ref_eq.it
one_ref x y e =
    let h = and_parts (beq x.nullable y.nullable) (heap_eq.it x.heap_type y.heap_type) e in
    let a = one_bool x.nullable y.nullable h.0 in
    let b = one_heap x.heap_type y.heap_type h.1 in
    λ i. record { nullable = a i; heap_type = b i }

ref_itself : OfItself ref_eq.it
ref_itself x =
    both (beq x.nullable x.nullable) (heap_eq.it x.heap_type x.heap_type) (bool_itself x.nullable) (heap_itself x.heap_type)

one_core : IsOne core_eq.it
one_core CoreType.I32 CoreType.I32 e = refl
one_core CoreType.I64 CoreType.I64 e = refl
one_core CoreType.F32 CoreType.F32 e = refl
one_core CoreType.F64 CoreType.F64 e = refl
one_core CoreType.V128 CoreType.V128 e = refl
one_core (CoreType.Ref x) (CoreType.Ref y) e = ap CoreType.Ref (one_ref x y e)
one_core x y e = absurd (cc e)

core_itself : OfItself core_eq.it
core_itself CoreType.I32 = refl
core_itself CoreType.I64 = refl
core_itself CoreType.F32 = refl
core_itself CoreType.F64 = refl
core_itself CoreType.V128 = refl
core_itself (CoreType.Ref x) = ref_itself x

one_func : IsOne func_eq.it
one_func x y e =
    let h = and_parts (pointwise core_eq.it x.params y.params) (pointwise core_eq.it x.results y.results) e in
    let a = one_list core_eq.it one_core x.params y.params h.0 in
    let b = one_list core_eq.it one_core x.results y.results h.1 in
    λ i. record { params = a i; results = b i }

func_itself : OfItself func_eq.it
func_itself x =
    both (pointwise core_eq.it x.params x.params) (pointwise core_eq.it x.results x.results)
    (list_itself core_eq.it core_itself x.params) (list_itself core_eq.it core_itself x.results)

one_maybe : (a b : Option ℕ) → option_eq ◌==◌ a b ≡ true → a ≡ b
one_maybe = one_option ◌==◌ one_number

maybe_itself : (a : Option ℕ) → option_eq ◌==◌ a a ≡ true
maybe_itself = option_itself ◌==◌ number_itself

pub one_extern : IsOne extern_eq.it
one_extern (CoreExtern.Func x) (CoreExtern.Func y) e = ap CoreExtern.Func (one_func x y e)
one_extern (CoreExtern.Table r i m t s) (CoreExtern.Table r' i' m' t' s') e =
    let h = and_parts (ref_eq.it r r') ((i == i') && (option_eq ◌==◌ m m' && (beq t t' && beq s s'))) e in
    let k = and_parts (i == i') (option_eq ◌==◌ m m' && (beq t t' && beq s s')) h.1 in
    let l = and_parts (option_eq ◌==◌ m m') (beq t t' && beq s s') k.1 in
    let n = and_parts (beq t t') (beq s s') l.1 in
    let a = one_ref r r' h.0 in
    let b = one_number i i' k.0 in
    let c = one_maybe m m' l.0 in
    let d = one_bool t t' n.0 in
    let f = one_bool s s' n.1 in
    λ j. CoreExtern.Table (a j) (b j) (c j) (d j) (f j)
one_extern (CoreExtern.Memory t s i m p) (CoreExtern.Memory t' s' i' m' p') e =
    let h = and_parts (beq t t') (beq s s' && ((i == i') && (option_eq ◌==◌ m m' && option_eq ◌==◌ p p'))) e in
    let k = and_parts (beq s s') ((i == i') && (option_eq ◌==◌ m m' && option_eq ◌==◌ p p')) h.1 in
    let l = and_parts (i == i') (option_eq ◌==◌ m m' && option_eq ◌==◌ p p') k.1 in
    let n = and_parts (option_eq ◌==◌ m m') (option_eq ◌==◌ p p') l.1 in
    let a = one_bool t t' h.0 in
    let b = one_bool s s' k.0 in
    let c = one_number i i' l.0 in
    let d = one_maybe m m' n.0 in
    let f = one_maybe p p' n.1 in
    λ j. CoreExtern.Memory (a j) (b j) (c j) (d j) (f j)
one_extern (CoreExtern.Global v m s) (CoreExtern.Global v' m' s') e =
    let h = and_parts (core_eq.it v v') (beq m m' && beq s s') e in
    let k = and_parts (beq m m') (beq s s') h.1 in
    let a = one_core v v' h.0 in
    let b = one_bool m m' k.0 in
    let c = one_bool s s' k.1 in
    λ j. CoreExtern.Global (a j) (b j) (c j)
one_extern (CoreExtern.Tag x) (CoreExtern.Tag y) e = ap CoreExtern.Tag (one_func x y e)
one_extern x y e = absurd (cc e)

extern_itself : OfItself extern_eq.it
extern_itself (CoreExtern.Func x) = func_itself x
extern_itself (CoreExtern.Table r i m t s) =
    both (ref_eq.it r r) ((i == i) && (option_eq ◌==◌ m m && (beq t t && beq s s))) (ref_itself r)
    (both (i == i) (option_eq ◌==◌ m m && (beq t t && beq s s)) (number_itself i)
    (both (option_eq ◌==◌ m m) (beq t t && beq s s) (maybe_itself m) (both (beq t t) (beq s s) (bool_itself t) (bool_itself s))))
extern_itself (CoreExtern.Memory t s i m p) =
    both (beq t t) (beq s s && ((i == i) && (option_eq ◌==◌ m m && option_eq ◌==◌ p p))) (bool_itself t)
    (both (beq s s) ((i == i) && (option_eq ◌==◌ m m && option_eq ◌==◌ p p)) (bool_itself s)
    (both (i == i) (option_eq ◌==◌ m m && option_eq ◌==◌ p p) (number_itself i)
    (both (option_eq ◌==◌ m m) (option_eq ◌==◌ p p) (maybe_itself m) (maybe_itself p))))
extern_itself (CoreExtern.Global v m s) =
    both (core_eq.it v v) (beq m m && beq s s) (core_itself v)
    (both (beq m m) (beq s s) (bool_itself m) (bool_itself s))
extern_itself (CoreExtern.Tag x) = func_itself x

pub extern_Decides : (x y : CoreExtern) → Decides (extern_eq.it x y) (x ≡ y)
extern_Decides x y = (one_extern x y, λ p. ap (extern_eq.it x) (sym p) ∙ extern_itself x)
