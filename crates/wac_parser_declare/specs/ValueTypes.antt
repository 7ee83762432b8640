-- The value type that a type of a document states, or its cause.
use Rattle.std.specs.Prelude.{List, [], ◌∷◌, ◌++◌, Option, Some, None}
use Rattle.wac_types_base.specs.declared.item.PrimitiveType.{PrimitiveType}
use Rattle.wac_types_base.specs.Collection as s
use Rattle.wac_types_base.specs.Stated.{Stated, Kind, IsResource, IsValueType, kind_of, desc, untyped, over, leaf, own, borrow}
use Rattle.wac_parser_tree.specs.Trees as t
use Rattle.wac_parser_declare.specs.Scope.{Scope, named}
use Rattle.wac_parser_refusals.specs.Causes.{Answer, ◌>>=◌, pure, refuse, NotValueType, NotResourceType}

-- a name of a value type is that type, a name of a resource is a handle that owns it
abbrev pub value_by : Kind → t.Ident → Stated → Answer Stated
value_by IsResource i x = pure (own x)
value_by IsValueType i x = pure (untyped x)
value_by k i x = refuse (NotValueType i.string (desc x)) i.span

abbrev pub borrow_by : Kind → t.Ident → Stated → Answer Stated
borrow_by IsResource i x = pure (borrow x)
borrow_by k i x = refuse (NotResourceType i.string (desc x)) i.span

abbrev pub value_named : Scope → t.Ident → Answer Stated
value_named ns i = named ns i >>= λ x. value_by (kind_of x) i x

abbrev pub borrow_named : Scope → t.Ident → Answer Stated
borrow_named ns i = named ns i >>= λ x. borrow_by (kind_of x) i x

abbrev pub primitive : PrimitiveType → Answer Stated
primitive p = pure (leaf (s.primitive p))

-- what a label says of one thing
abbrev pub of_one : s.Shape → Answer Stated → Answer Stated
of_one l v = v >>= λ x. pure (over l (Some x ∷ []))

abbrev pub of_maybe : s.Shape → Answer (Option Stated) → Answer Stated
of_maybe l v = v >>= λ o. pure (over l (o ∷ []))

abbrev pub of_two : s.Shape → Answer (Option Stated) → Answer (Option Stated) → Answer Stated
of_two l v w = v >>= λ o. w >>= λ p. pure (over l (o ∷ p ∷ []))

abbrev pub of_all : s.Shape → Answer (List (Option Stated)) → Answer Stated
of_all l vs = vs >>= λ os. pure (over l os)

abbrev pub some_of : Answer Stated → Answer (Option Stated)
some_of v = v >>= λ x. pure (Some x)

abbrev mutual
  pub value : Scope → t.Ty → Answer Stated
  value ns (t.Ty.u8 _) = primitive PrimitiveType.U8
  value ns (t.Ty.s8 _) = primitive PrimitiveType.S8
  value ns (t.Ty.u16 _) = primitive PrimitiveType.U16
  value ns (t.Ty.s16 _) = primitive PrimitiveType.S16
  value ns (t.Ty.u32 _) = primitive PrimitiveType.U32
  value ns (t.Ty.s32 _) = primitive PrimitiveType.S32
  value ns (t.Ty.u64 _) = primitive PrimitiveType.U64
  value ns (t.Ty.s64 _) = primitive PrimitiveType.S64
  value ns (t.Ty.f32 _) = primitive PrimitiveType.F32
  value ns (t.Ty.f64 _) = primitive PrimitiveType.F64
  value ns (t.Ty.char _) = primitive PrimitiveType.Char
  value ns (t.Ty.bool _) = primitive PrimitiveType.Bool
  value ns (t.Ty.string _) = primitive PrimitiveType.String
  value ns (t.Ty.error_context _) = primitive PrimitiveType.ErrorContext
  value ns (t.Ty.tuple ts _) = of_all s.tuple (values ns [] ts)
  value ns (t.Ty.list ty _) = of_one s.list (value ns ty)
  value ns (t.Ty.option ty _) = of_one s.option (value ns ty)
  value ns (t.Ty.result ok err _) = of_two s.result (maybe_value ns ok) (maybe_value ns err)
  value ns (t.Ty.stream ty _) = of_maybe s.stream (maybe_value ns ty)
  value ns (t.Ty.future ty _) = of_maybe s.future (maybe_value ns ty)
  value ns (t.Ty.borrow i _) = borrow_named ns i
  value ns (t.Ty.ident i) = value_named ns i

  -- in order, behind those that were found
  pub values : Scope → List (Option Stated) → t.Tys → Answer (List (Option Stated))
  values ns found t.Tys.no_more = pure found
  values ns found (t.Tys.more ty ts) = value ns ty >>= λ v. values ns (found ++ Some v ∷ []) ts

  pub maybe_value : Scope → t.MaybeTy → Answer (Option Stated)
  maybe_value ns t.MaybeTy.no_ty = pure None
  maybe_value ns (t.MaybeTy.some_ty ty) = some_of (value ns ty)

-- the same of an optional type that stands by itself
abbrev pub value_if : Scope → Option t.Ty → Answer (Option Stated)
value_if ns None = pure None
value_if ns (Some ty) = some_of (value ns ty)
