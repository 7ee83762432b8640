-- The types that functions and declarations of types state are proper.
use Rattle.std.specs.Prelude.{map}
use Rattle.std.proofs.lemmas.Option.{none-some}
use Rattle.std.proofs.Common.{◌≡◌, List, [], ◌∷◌, ◌++◌, Bool, true, false, true≢false, Option, Some, None, Ok, inl, inr, refl, sym, ap, subst}
use Rattle.wac_types_base.specs.declared.item.PrimitiveType.{PrimitiveType}
use Rattle.wac_types_base.specs.declared.item.FuncKind.{FuncKind}
use Rattle.wac_types_base.specs.Entries.{Name, value_at}
use Rattle.wac_types_base.specs.Graph.{node, Among}
use Rattle.wac_types_base.specs.Collection as s
use Rattle.wac_types_base.specs.Collection.{Shape}
use Rattle.wac_types_base.specs.Stated.{Stated, Kind, IsFunction, IsInstance, IsComponent, IsModule, IsValue, IsResource, IsFunctionType, IsValueType, IsInterface, IsWorld, IsModuleType, shape_of, places_of, kind_of, shape_kind, type_kind, untyped_shape, untyped, as_type, own, borrow, over, leaf, func_of, names, contains_borrow}
use Rattle.wac_parser_tree.specs.Trees as t
use Rattle.wac_parser_tree.specs.Accessors.{ty_span}
use Rattle.wac_parser_refusals.specs.Causes.{Fault, pure, unless_clear, each, UndefinedName, DuplicateParameter, BorrowInResult, DuplicateVariantCase, DuplicateRecordField}
use Rattle.wac_parser_declare.specs.Scope.{Scope, Meant, has, meant, named}
use Rattle.wac_parser_declare.specs.ValueTypes.{value_by, borrow_by, value_named, borrow_named, primitive, value, values, maybe_value, value_if}
use Rattle.wac_parser_declare.specs.Declarations.{add_member, param, result_of, function, free, func_by, func_ref, case_of, field_of, flag_of, enum_case_of, payloads, variant_of, record_of, owner_at, owner_of, alias_of, resource_alias_of, alias_by, alias_named, alias_value, alias_type, alias_kind, type_alias, variant_decl, record_decl, flags_decl, enum_decl, type_decl}
use Rattle.wac_composition.proofs.Lists.{mapped_among}
use Rattle.wac_parser_resolve.specs.Proper.{NoInstance, NamesNoInstance, Proper}
use Rattle.wac_parser_resolve.proofs.Answers.{err_ok, ok_of, then_ok, ok_is, each_keeps}
use Rattle.wac_parser_resolve.proofs.Numbers.{each_more}
use Rattle.wac_parser_resolve.proofs.Sound.{present_is}
use Rattle.wac_parser_resolve.proofs.Proper.{below, AllPlaces, over_proper, leaf_proper, typed_proper, own_proper, borrow_proper, untyped_proper, AllItems, IfProper, if_some, if_none, one_place, two_places, filled_places, behind_places, func_proper}

-- ---- kinds

type_no_instance : (x : Shape) → type_kind x ≡ IsInstance → ⊥
type_no_instance (s.primitive p) e = cc
type_no_instance s.tuple e = cc
type_no_instance s.list e = cc
type_no_instance (s.fixed_size_list n) e = cc
type_no_instance s.option e = cc
type_no_instance s.result e = cc
type_no_instance (s.variant ns) e = cc
type_no_instance (s.record_of ns) e = cc
type_no_instance (s.flags ns) e = cc
type_no_instance (s.enum ns) e = cc
type_no_instance s.alias e = cc
type_no_instance s.stream e = cc
type_no_instance s.future e = cc
type_no_instance (s.resource n) e = cc
type_no_instance (s.resource_alias n) e = cc
type_no_instance (s.func ps a) e = cc
type_no_instance (s.interface i us es) e = cc
type_no_instance (s.world i us is es) e = cc
type_no_instance (s.module_type m) e = cc
type_no_instance (s.type_of s) e = cc
type_no_instance (s.borrow_of s) e = cc
type_no_instance (s.own_of s) e = cc

-- the thing that a value type is the type of is no instance
value_shape : (x : Shape) → shape_kind x ≡ IsValueType → shape_kind (untyped_shape x) ≡ IsInstance → ⊥
value_shape (s.primitive p) k e = cc
value_shape s.tuple k e = cc
value_shape s.list k e = cc
value_shape (s.fixed_size_list n) k e = cc
value_shape s.option k e = cc
value_shape s.result k e = cc
value_shape (s.variant ns) k e = cc
value_shape (s.record_of ns) k e = cc
value_shape (s.flags ns) k e = cc
value_shape (s.enum ns) k e = cc
value_shape s.alias k e = cc
value_shape s.stream k e = cc
value_shape s.future k e = cc
value_shape (s.resource n) k e = cc
value_shape (s.resource_alias n) k e = cc
value_shape (s.func ps a) k e = cc
value_shape (s.interface i us es) k e = cc
value_shape (s.world i us is es) k e = cc
value_shape (s.module_type m) k e = cc
value_shape (s.borrow_of s) k e = cc
value_shape (s.own_of s) k e = cc
value_shape (s.type_of (s.primitive p)) k e = cc
value_shape (s.type_of s.tuple) k e = cc
value_shape (s.type_of s.list) k e = cc
value_shape (s.type_of (s.fixed_size_list n)) k e = cc
value_shape (s.type_of s.option) k e = cc
value_shape (s.type_of s.result) k e = cc
value_shape (s.type_of (s.variant ns)) k e = cc
value_shape (s.type_of (s.record_of ns)) k e = cc
value_shape (s.type_of (s.flags ns)) k e = cc
value_shape (s.type_of (s.enum ns)) k e = cc
value_shape (s.type_of s.alias) k e = cc
value_shape (s.type_of s.stream) k e = cc
value_shape (s.type_of s.future) k e = cc
value_shape (s.type_of (s.resource n)) k e = cc
value_shape (s.type_of (s.resource_alias n)) k e = cc
value_shape (s.type_of (s.func ps a)) k e = cc
value_shape (s.type_of (s.interface i us es)) k e = cc
value_shape (s.type_of (s.world i us is es)) k e = cc
value_shape (s.type_of (s.module_type m)) k e = cc
value_shape (s.type_of (s.type_of t)) k e = type_no_instance t e
value_shape (s.type_of (s.borrow_of t)) k e = cc
value_shape (s.type_of (s.own_of t)) k e = cc

untyped_kind : (x : Stated) → kind_of x ≡ IsValueType → NoInstance (untyped x)
untyped_kind (node l ts) k e = value_shape l k e

own_kind : (x : Stated) → NoInstance (own x)
own_kind (node l ts) e = cc

borrow_kind : (x : Stated) → NoInstance (borrow x)
borrow_kind (node l ts) e = cc

resource_kind : (x : Stated) → kind_of x ≡ IsResource → NoInstance x
resource_kind x k e = cc

-- a type item at the root
abbrev pub IsTyped : Stated → Type 0
IsTyped x = (l : Shape) × (shape_of x ≡ s.type_of l)

pub typed_is : (x : Stated) → IsTyped (as_type x)
typed_is (node l ts) = (l, refl)

abbrev is_function_type : Kind → Bool
is_function_type IsFunctionType = true
is_function_type k = false

function_shape : (x : Shape) → shape_kind x ≡ IsFunctionType → (l : Shape) × (x ≡ s.type_of l)
function_shape (s.type_of l) k = (l, refl)
function_shape (s.primitive p) k = absurd (true≢false (sym (ap is_function_type k)))
function_shape s.tuple k = absurd (true≢false (sym (ap is_function_type k)))
function_shape s.list k = absurd (true≢false (sym (ap is_function_type k)))
function_shape (s.fixed_size_list n) k = absurd (true≢false (sym (ap is_function_type k)))
function_shape s.option k = absurd (true≢false (sym (ap is_function_type k)))
function_shape s.result k = absurd (true≢false (sym (ap is_function_type k)))
function_shape (s.variant ns) k = absurd (true≢false (sym (ap is_function_type k)))
function_shape (s.record_of ns) k = absurd (true≢false (sym (ap is_function_type k)))
function_shape (s.flags ns) k = absurd (true≢false (sym (ap is_function_type k)))
function_shape (s.enum ns) k = absurd (true≢false (sym (ap is_function_type k)))
function_shape s.alias k = absurd (true≢false (sym (ap is_function_type k)))
function_shape s.stream k = absurd (true≢false (sym (ap is_function_type k)))
function_shape s.future k = absurd (true≢false (sym (ap is_function_type k)))
function_shape (s.resource n) k = absurd (true≢false (sym (ap is_function_type k)))
function_shape (s.resource_alias n) k = absurd (true≢false (sym (ap is_function_type k)))
function_shape (s.func ps a) k = absurd (true≢false (sym (ap is_function_type k)))
function_shape (s.interface i us es) k = absurd (true≢false (sym (ap is_function_type k)))
function_shape (s.world i us is es) k = absurd (true≢false (sym (ap is_function_type k)))
function_shape (s.module_type m) k = absurd (true≢false (sym (ap is_function_type k)))
function_shape (s.borrow_of s) k = absurd (true≢false (sym (ap is_function_type k)))
function_shape (s.own_of s) k = absurd (true≢false (sym (ap is_function_type k)))

function_typed : (x : Stated) → kind_of x ≡ IsFunctionType → IsTyped x
function_typed (node l ts) k = function_shape l k

-- ---- names

abbrev pub ScopeProper : Scope → Type 0
ScopeProper ns = (n : Name) (m : Meant) → value_at ns n ≡ Some m → Proper m.item

pub named_proper : (ns : Scope) (i : t.Ident) (x : Stated) → ScopeProper ns → Ok x ≡ named ns i → Proper x
named_proper ns i x h e =
    let a = ok_of (meant ns i) _ x e in
    subst Proper (sym (ok_is x a.0.item a.2)) (h i.string a.0 (present_is (value_at ns i.string) (UndefinedName i.string) i.span a.0 (sym a.1)))

-- ---- value types

pub record IsProperValue (x : Stated) : Type 0 where
  pub is : Proper x
  pub kind : NoInstance x

value_by_proper : (k : Kind) (i : t.Ident) (x y : Stated) → kind_of x ≡ k → Proper x → Ok y ≡ value_by k i x → IsProperValue y
value_by_proper IsResource i x y k h e = subst IsProperValue (sym (ok_is y (own x) e)) (record { is = own_proper x h; kind = own_kind x })
value_by_proper IsValueType i x y k h e = subst IsProperValue (sym (ok_is y (untyped x) e)) (record { is = untyped_proper x h; kind = untyped_kind x k })
value_by_proper IsFunction i x y k h e = absurd (err_ok _ y e)
value_by_proper IsInstance i x y k h e = absurd (err_ok _ y e)
value_by_proper IsComponent i x y k h e = absurd (err_ok _ y e)
value_by_proper IsModule i x y k h e = absurd (err_ok _ y e)
value_by_proper IsValue i x y k h e = absurd (err_ok _ y e)
value_by_proper IsFunctionType i x y k h e = absurd (err_ok _ y e)
value_by_proper IsInterface i x y k h e = absurd (err_ok _ y e)
value_by_proper IsWorld i x y k h e = absurd (err_ok _ y e)
value_by_proper IsModuleType i x y k h e = absurd (err_ok _ y e)

borrow_by_proper : (k : Kind) (i : t.Ident) (x y : Stated) → Proper x → Ok y ≡ borrow_by k i x → IsProperValue y
borrow_by_proper IsResource i x y h e = subst IsProperValue (sym (ok_is y (borrow x) e)) (record { is = borrow_proper x h; kind = borrow_kind x })
borrow_by_proper IsFunction i x y h e = absurd (err_ok _ y e)
borrow_by_proper IsInstance i x y h e = absurd (err_ok _ y e)
borrow_by_proper IsComponent i x y h e = absurd (err_ok _ y e)
borrow_by_proper IsModule i x y h e = absurd (err_ok _ y e)
borrow_by_proper IsValue i x y h e = absurd (err_ok _ y e)
borrow_by_proper IsFunctionType i x y h e = absurd (err_ok _ y e)
borrow_by_proper IsValueType i x y h e = absurd (err_ok _ y e)
borrow_by_proper IsInterface i x y h e = absurd (err_ok _ y e)
borrow_by_proper IsWorld i x y h e = absurd (err_ok _ y e)
borrow_by_proper IsModuleType i x y h e = absurd (err_ok _ y e)

value_named_proper : (ns : Scope) (i : t.Ident) (y : Stated) → ScopeProper ns → Ok y ≡ value_named ns i → IsProperValue y
value_named_proper ns i y h e = let a = ok_of (named ns i) _ y e in value_by_proper (kind_of a.0) i a.0 y refl (named_proper ns i a.0 h (sym a.1)) a.2

borrow_named_proper : (ns : Scope) (i : t.Ident) (y : Stated) → ScopeProper ns → Ok y ≡ borrow_named ns i → IsProperValue y
borrow_named_proper ns i y h e = let a = ok_of (named ns i) _ y e in borrow_by_proper (kind_of a.0) i a.0 y (named_proper ns i a.0 h (sym a.1)) a.2

primitive_proper : (p : PrimitiveType) (y : Stated) → Ok y ≡ primitive p → IsProperValue y
primitive_proper p y e = subst IsProperValue (sym (ok_is y (leaf (s.primitive p)) e)) (record { is = leaf_proper (s.primitive p) tt; kind = λ q. cc })

-- a label that is of no instance and names none
over_value : (l : Shape) (os : List (Option Stated)) (y : Stated) → NamesNoInstance l os → (shape_kind l ≡ IsInstance → ⊥) → AllPlaces os → Ok y ≡ pure (over l os) → IsProperValue y
over_value l os y n k h e = subst IsProperValue (sym (ok_is y (over l os) e)) (record { is = over_proper l os n h; kind = k })

no_value : IsValue ≡ IsInstance → ⊥
no_value e = cc

if_over : {o : Option Stated} (p : Option Stated) → IfProper o → Ok o ≡ pure p → IfProper p
if_over {o = o} p h e = subst IfProper (ok_is o p e) h

module _ (ns : Scope) (scope : ScopeProper ns) where
  mutual
    pub value_proper : (ty : t.Ty) (y : Stated) → Ok y ≡ value ns ty → IsProperValue y
    value_proper (t.Ty.u8 z) y e = primitive_proper PrimitiveType.U8 y e
    value_proper (t.Ty.s8 z) y e = primitive_proper PrimitiveType.S8 y e
    value_proper (t.Ty.u16 z) y e = primitive_proper PrimitiveType.U16 y e
    value_proper (t.Ty.s16 z) y e = primitive_proper PrimitiveType.S16 y e
    value_proper (t.Ty.u32 z) y e = primitive_proper PrimitiveType.U32 y e
    value_proper (t.Ty.s32 z) y e = primitive_proper PrimitiveType.S32 y e
    value_proper (t.Ty.u64 z) y e = primitive_proper PrimitiveType.U64 y e
    value_proper (t.Ty.s64 z) y e = primitive_proper PrimitiveType.S64 y e
    value_proper (t.Ty.f32 z) y e = primitive_proper PrimitiveType.F32 y e
    value_proper (t.Ty.f64 z) y e = primitive_proper PrimitiveType.F64 y e
    value_proper (t.Ty.char z) y e = primitive_proper PrimitiveType.Char y e
    value_proper (t.Ty.bool z) y e = primitive_proper PrimitiveType.Bool y e
    value_proper (t.Ty.string z) y e = primitive_proper PrimitiveType.String y e
    value_proper (t.Ty.error_context z) y e = primitive_proper PrimitiveType.ErrorContext y e
    value_proper (t.Ty.tuple ts z) y e = let a = ok_of (values ns [] ts) _ y e in over_value s.tuple a.0 y tt no_value (values_proper [] ts a.0 (λ z m. absurd m) (sym a.1)) a.2
    value_proper (t.Ty.list ty z) y e =
        let a = ok_of (value ns ty) _ y e in over_value s.list (Some a.0 ∷ []) y tt no_value (one_place (Some a.0) (if_some a.0 (value_proper ty a.0 (sym a.1)).is)) a.2
    value_proper (t.Ty.option ty z) y e =
        let a = ok_of (value ns ty) _ y e in over_value s.option (Some a.0 ∷ []) y tt no_value (one_place (Some a.0) (if_some a.0 (value_proper ty a.0 (sym a.1)).is)) a.2
    value_proper (t.Ty.result ok err z) y e =
        let a = ok_of (maybe_value ns ok) _ y e in
        let b = ok_of (maybe_value ns err) _ y a.2 in
        over_value s.result (a.0 ∷ b.0 ∷ []) y tt no_value (two_places a.0 b.0 (maybe_proper ok a.0 (sym a.1)) (maybe_proper err b.0 (sym b.1))) b.2
    value_proper (t.Ty.stream ty z) y e = let a = ok_of (maybe_value ns ty) _ y e in over_value s.stream (a.0 ∷ []) y tt no_value (one_place a.0 (maybe_proper ty a.0 (sym a.1))) a.2
    value_proper (t.Ty.future ty z) y e = let a = ok_of (maybe_value ns ty) _ y e in over_value s.future (a.0 ∷ []) y tt no_value (one_place a.0 (maybe_proper ty a.0 (sym a.1))) a.2
    value_proper (t.Ty.borrow i z) y e = borrow_named_proper ns i y scope e
    value_proper (t.Ty.ident i) y e = value_named_proper ns i y scope e

    values_proper : (found : List (Option Stated)) (ts : t.Tys) (os : List (Option Stated)) → AllPlaces found → Ok os ≡ values ns found ts → AllPlaces os
    values_proper found t.Tys.no_more os h e = subst AllPlaces (sym (ok_is os found e)) h
    values_proper found (t.Tys.more ty ts) os h e =
        let a = ok_of (value ns ty) _ os e in
        values_proper (found ++ Some a.0 ∷ []) ts os (behind_places found (Some a.0 ∷ []) h (one_place (Some a.0) (if_some a.0 (value_proper ty a.0 (sym a.1)).is))) a.2

    maybe_proper : (ty : t.MaybeTy) (o : Option Stated) → Ok o ≡ maybe_value ns ty → IfProper o
    maybe_proper t.MaybeTy.no_ty o e = subst IfProper (sym (ok_is o None e)) if_none
    maybe_proper (t.MaybeTy.some_ty ty) o e = let a = ok_of (value ns ty) _ o e in subst IfProper (sym (ok_is o (Some a.0) a.2)) (if_some a.0 (value_proper ty a.0 (sym a.1)).is)

  value_if_proper : (ty : Option t.Ty) (o : Option Stated) → Ok o ≡ value_if ns ty → IfProper o
  value_if_proper None o e = subst IfProper (sym (ok_is o None e)) if_none
  value_if_proper (Some ty) o e = let a = ok_of (value ns ty) _ o e in subst IfProper (sym (ok_is o (Some a.0) a.2)) (if_some a.0 (value_proper ty a.0 (sym a.1)).is)

-- ---- members

pub added_is : {T : Type 0} (found : List (Name × T)) (i : t.Ident) (f : Fault) (v : T) (r : List (Name × T)) → Ok r ≡ add_member found i f v → r ≡ found ++ (i.string, v) ∷ []
added_is found i f v r e = ok_is r (found ++ (i.string, v) ∷ []) (then_ok (unless_clear (has found i.string) f i.span) _ r e)

pub more_items : (xs : List (Name × Stated)) (e : Name × Stated) → AllItems xs → Proper e.1 → AllItems (xs ++ e ∷ [])
more_items xs e h k = each_more (λ (x : Name × Stated). Proper x.1) xs e h k

pub no_items : AllItems []
no_items e m = absurd m

-- ---- functions

module _ (ns : Scope) (scope : ScopeProper ns) where
  param_proper : (kind : FuncKind) (found r : List (Name × Stated)) (p : t.NamedType) → AllItems found → param kind ns found p ≡ Ok r → AllItems r
  param_proper kind found r p h e =
      let a = ok_of (value ns p.ty) _ r (sym e) in
      subst AllItems (sym (added_is found p.id (DuplicateParameter p.id.string kind) a.0 r a.2)) (more_items found (p.id.string, a.0) h (value_proper ns scope p.ty a.0 (sym a.1)).is)

  result_proper : (given : Option Stated) (r : t.ResultList) (o : Option Stated) → IfProper given → Ok o ≡ result_of ns given r → IfProper o
  result_proper given t.ResultList.empty o h e = subst IfProper (sym (ok_is o given e)) h
  result_proper given (t.ResultList.scalar ty) o h e =
      let a = ok_of (value ns ty) _ o e in
      let b = then_ok (unless_clear (contains_borrow a.0) BorrowInResult (ty_span ty)) _ o a.2 in
      subst IfProper (sym (ok_is o (Some a.0) b)) (if_some a.0 (value_proper ns scope ty a.0 (sym a.1)).is)

  pub function_proper : (kind : FuncKind) (self : List (Name × Stated)) (given : Option Stated) (ps : List t.NamedType) (r : t.ResultList) (is_async : Bool) (y : Stated) → AllItems self → IfProper given
      → Ok y ≡ function kind ns self given ps r is_async → Proper y
  function_proper kind self given ps r is_async y h k e =
      let a = ok_of (each (param kind ns) self ps) _ y e in
      let b = ok_of (result_of ns given r) _ y a.2 in
      subst Proper (sym (ok_is y (func_of a.0 b.0 is_async) b.2))
      (func_proper a.0 b.0 is_async (each_keeps (param kind ns) AllItems (λ f g p h e. param_proper kind f g p h e) self a.0 ps h (sym a.1)) (result_proper given r b.0 k (sym b.1)))

  pub free_proper : (f : t.FuncType) (y : Stated) → Ok y ≡ free ns f → Proper y
  free_proper f y e = function_proper FuncKind.Free [] None f.params f.results f.is_async y no_items if_none e

func_by_proper : (k : Kind) (i : t.Ident) (x y : Stated) → Proper x → Ok y ≡ func_by k i x → Proper y
func_by_proper IsFunction i x y h e = subst Proper (sym (ok_is y x e)) h
func_by_proper IsFunctionType i x y h e = subst Proper (sym (ok_is y (untyped x) e)) (untyped_proper x h)
func_by_proper IsInstance i x y h e = absurd (err_ok _ y e)
func_by_proper IsComponent i x y h e = absurd (err_ok _ y e)
func_by_proper IsModule i x y h e = absurd (err_ok _ y e)
func_by_proper IsValue i x y h e = absurd (err_ok _ y e)
func_by_proper IsResource i x y h e = absurd (err_ok _ y e)
func_by_proper IsValueType i x y h e = absurd (err_ok _ y e)
func_by_proper IsInterface i x y h e = absurd (err_ok _ y e)
func_by_proper IsWorld i x y h e = absurd (err_ok _ y e)
func_by_proper IsModuleType i x y h e = absurd (err_ok _ y e)

pub func_ref_proper : (ns : Scope) (r : t.FuncTypeRef) (y : Stated) → ScopeProper ns → Ok y ≡ func_ref ns r → Proper y
func_ref_proper ns (t.FuncTypeRef.func f) y h e = free_proper ns h f y e
func_ref_proper ns (t.FuncTypeRef.ident i) y h e = let a = ok_of (named ns i) _ y e in func_by_proper (kind_of a.0) i a.0 y (named_proper ns i a.0 h (sym a.1)) a.2

-- ---- variants and records

abbrev AllPayloads : List (Name × Option Stated) → Type 0
AllPayloads xs = (e : Name × Option Stated) → Among e xs → IfProper e.1

variant_proper : (xs : List (Name × Option Stated)) → AllPayloads xs → Proper (variant_of xs)
variant_proper xs h = over_proper (s.variant (names xs)) (payloads xs) tt (λ y m. let r = mapped_among (λ (x : Name × Option Stated). x.1) xs (Some y) m in h r.0 r.1 y (sym r.2))

record_proper : (xs : List (Name × Stated)) → AllItems xs → Proper (record_of xs)
record_proper xs h = over_proper (s.record_of (names xs)) (map (λ x. Some x.1) xs) tt (filled_places xs h)

module _ (ns : Scope) (scope : ScopeProper ns) where
  case_proper : (d : Name) (found r : List (Name × Option Stated)) (c : t.VariantCase) → AllPayloads found → case_of d ns found c ≡ Ok r → AllPayloads r
  case_proper d found r c h e =
      let a = ok_of (value_if ns c.ty) _ r (sym e) in
      subst AllPayloads (sym (added_is found c.id (DuplicateVariantCase c.id.string d) a.0 r a.2))
      (each_more (λ (x : Name × Option Stated). IfProper x.1) found (c.id.string, a.0) h (value_if_proper ns scope c.ty a.0 (sym a.1)))

  field_proper : (d : Name) (found r : List (Name × Stated)) (f : t.Field) → AllItems found → field_of d ns found f ≡ Ok r → AllItems r
  field_proper d found r f h e =
      let a = ok_of (value ns f.ty) _ r (sym e) in
      subst AllItems (sym (added_is found f.id (DuplicateRecordField f.id.string d) a.0 r a.2)) (more_items found (f.id.string, a.0) h (value_proper ns scope f.ty a.0 (sym a.1)).is)

-- ---- a declaration of a type

pub record IsDeclared (y : Stated) : Type 0 where
  pub is : Proper y
  pub typed : IsTyped y

declared_as : (x y : Stated) → Proper x → Ok y ≡ pure (as_type x) → IsDeclared y
declared_as x y h e = subst IsDeclared (sym (ok_is y (as_type x) e)) (record { is = typed_proper x h; typed = typed_is x })

pub variant_declared : (ns : Scope) (d : t.VariantDecl) (y : Stated) → ScopeProper ns → Ok y ≡ variant_decl ns d → IsDeclared y
variant_declared ns d y h e =
    let a = ok_of (each (case_of d.id.string ns) [] d.cases) _ y e in
    declared_as (variant_of a.0) y (variant_proper a.0 (each_keeps (case_of d.id.string ns) AllPayloads (λ f g c k q. case_proper ns h d.id.string f g c k q) [] a.0 d.cases (λ x m. absurd m) (sym a.1))) a.2

pub record_declared : (ns : Scope) (d : t.RecordDecl) (y : Stated) → ScopeProper ns → Ok y ≡ record_decl ns d → IsDeclared y
record_declared ns d y h e =
    let a = ok_of (each (field_of d.id.string ns) [] d.fields) _ y e in
    declared_as (record_of a.0) y (record_proper a.0 (each_keeps (field_of d.id.string ns) AllItems (λ f g c k q. field_proper ns h d.id.string f g c k q) [] a.0 d.fields no_items (sym a.1))) a.2

pub flags_declared : (d : t.FlagsDecl) (y : Stated) → Ok y ≡ flags_decl d → IsDeclared y
flags_declared d y e = let a = ok_of (each (flag_of d.id.string) [] d.flags) _ y e in declared_as (leaf (s.flags a.0)) y (leaf_proper (s.flags a.0) tt) a.2

pub enum_declared : (d : t.EnumDecl) (y : Stated) → Ok y ≡ enum_decl d → IsDeclared y
enum_declared d y e = let a = ok_of (each (enum_case_of d.id.string) [] d.cases) _ y e in declared_as (leaf (s.enum a.0)) y (leaf_proper (s.enum a.0) tt) a.2

-- ---- aliases

-- the owner stands in the second place
owner_among : (l : Shape) (os : List (Option Stated)) (y : Stated) → owner_at l os ≡ Some y → Among (Some y) os
owner_among (s.resource_alias n) (o ∷ owner ∷ os) y e = inr (inl (sym e))
owner_among (s.resource_alias n) (o ∷ []) y e = absurd (none-some _ e)
owner_among (s.resource_alias n) [] y e = absurd (none-some _ e)
owner_among (s.primitive p) os y e = absurd (none-some _ e)
owner_among s.tuple os y e = absurd (none-some _ e)
owner_among s.list os y e = absurd (none-some _ e)
owner_among (s.fixed_size_list n) os y e = absurd (none-some _ e)
owner_among s.option os y e = absurd (none-some _ e)
owner_among s.result os y e = absurd (none-some _ e)
owner_among (s.variant ns) os y e = absurd (none-some _ e)
owner_among (s.record_of ns) os y e = absurd (none-some _ e)
owner_among (s.flags ns) os y e = absurd (none-some _ e)
owner_among (s.enum ns) os y e = absurd (none-some _ e)
owner_among s.alias os y e = absurd (none-some _ e)
owner_among s.stream os y e = absurd (none-some _ e)
owner_among s.future os y e = absurd (none-some _ e)
owner_among (s.resource n) os y e = absurd (none-some _ e)
owner_among (s.func ps a) os y e = absurd (none-some _ e)
owner_among (s.interface i us es) os y e = absurd (none-some _ e)
owner_among (s.world i us is es) os y e = absurd (none-some _ e)
owner_among (s.module_type m) os y e = absurd (none-some _ e)
owner_among (s.type_of s) os y e = absurd (none-some _ e)
owner_among (s.borrow_of s) os y e = absurd (none-some _ e)
owner_among (s.own_of s) os y e = absurd (none-some _ e)

alias_proper : (v : Stated) → Proper v → NoInstance v → Proper (alias_of v)
alias_proper v h k = typed_proper (over s.alias (Some v ∷ [])) (over_proper s.alias (Some v ∷ []) k (one_place (Some v) (if_some v h)))

resource_proper : (n : Name) (x : Stated) → Proper x → NoInstance x → Proper (resource_alias_of n x)
resource_proper n x h k =
    over_proper (s.resource_alias n) (Some x ∷ owner_of x ∷ []) k (two_places (Some x) (owner_of x) (if_some x h) (λ y e. below x y h (owner_among (shape_of x) (places_of x) y e)))

-- at the root it is a type item
abbrev DeclaredAt : Bool → Stated → Type 0
DeclaredAt true y = IsDeclared y
DeclaredAt false y = Proper y

declared_at : (b : Bool) (y : Stated) → IsDeclared y → DeclaredAt b y
declared_at true y h = h
declared_at false y h = h.is

alias_by_proper : (k : Kind) (b : Bool) (n i : t.Ident) (x y : Stated) → kind_of x ≡ k → Proper x → Ok y ≡ alias_by k b n i x → DeclaredAt b y
alias_by_proper IsResource false n i x y k h e = subst Proper (sym (ok_is y (resource_alias_of n.string x) e)) (resource_proper n.string x h (resource_kind x k))
alias_by_proper IsResource true n i x y k h e = absurd (err_ok _ y e)
alias_by_proper IsValueType b n i x y k h e =
    declared_at b y (subst IsDeclared (sym (ok_is y (alias_of (untyped x)) e)) (record { is = alias_proper (untyped x) (untyped_proper x h) (untyped_kind x k); typed = typed_is (over s.alias (Some (untyped x) ∷ [])) }))
alias_by_proper IsFunction b n i x y k h e = declared_at b y (declared_as x y h e)
alias_by_proper IsFunctionType b n i x y k h e = declared_at b y (subst IsDeclared (sym (ok_is y x e)) (record { is = h; typed = function_typed x k }))
alias_by_proper IsInstance b n i x y k h e = absurd (err_ok _ y e)
alias_by_proper IsComponent b n i x y k h e = absurd (err_ok _ y e)
alias_by_proper IsModule b n i x y k h e = absurd (err_ok _ y e)
alias_by_proper IsValue b n i x y k h e = absurd (err_ok _ y e)
alias_by_proper IsInterface b n i x y k h e = absurd (err_ok _ y e)
alias_by_proper IsWorld b n i x y k h e = absurd (err_ok _ y e)
alias_by_proper IsModuleType b n i x y k h e = absurd (err_ok _ y e)

module _ (b : Bool) (ns : Scope) (scope : ScopeProper ns) where
  alias_value_proper : (ty : t.Ty) (y : Stated) → Ok y ≡ alias_value (value ns ty) → DeclaredAt b y
  alias_value_proper ty y e =
      let a = ok_of (value ns ty) _ y e in
      let v = value_proper ns scope ty a.0 (sym a.1) in
      declared_at b y (subst IsDeclared (sym (ok_is y (alias_of a.0) a.2)) (record { is = alias_proper a.0 v.is v.kind; typed = typed_is (over s.alias (Some a.0 ∷ [])) }))

  alias_named_proper : (n i : t.Ident) (y : Stated) → Ok y ≡ alias_named b ns n i → DeclaredAt b y
  alias_named_proper n i y e = let a = ok_of (named ns i) _ y e in alias_by_proper (kind_of a.0) b n i a.0 y refl (named_proper ns i a.0 scope (sym a.1)) a.2

  alias_type_proper : (n : t.Ident) (ty : t.Ty) (y : Stated) → Ok y ≡ alias_type b ns n ty → DeclaredAt b y
  alias_type_proper n (t.Ty.ident i) y e = alias_named_proper n i y e
  alias_type_proper n (t.Ty.u8 z) y e = alias_value_proper (t.Ty.u8 z) y e
  alias_type_proper n (t.Ty.s8 z) y e = alias_value_proper (t.Ty.s8 z) y e
  alias_type_proper n (t.Ty.u16 z) y e = alias_value_proper (t.Ty.u16 z) y e
  alias_type_proper n (t.Ty.s16 z) y e = alias_value_proper (t.Ty.s16 z) y e
  alias_type_proper n (t.Ty.u32 z) y e = alias_value_proper (t.Ty.u32 z) y e
  alias_type_proper n (t.Ty.s32 z) y e = alias_value_proper (t.Ty.s32 z) y e
  alias_type_proper n (t.Ty.u64 z) y e = alias_value_proper (t.Ty.u64 z) y e
  alias_type_proper n (t.Ty.s64 z) y e = alias_value_proper (t.Ty.s64 z) y e
  alias_type_proper n (t.Ty.f32 z) y e = alias_value_proper (t.Ty.f32 z) y e
  alias_type_proper n (t.Ty.f64 z) y e = alias_value_proper (t.Ty.f64 z) y e
  alias_type_proper n (t.Ty.char z) y e = alias_value_proper (t.Ty.char z) y e
  alias_type_proper n (t.Ty.bool z) y e = alias_value_proper (t.Ty.bool z) y e
  alias_type_proper n (t.Ty.string z) y e = alias_value_proper (t.Ty.string z) y e
  alias_type_proper n (t.Ty.error_context z) y e = alias_value_proper (t.Ty.error_context z) y e
  alias_type_proper n (t.Ty.tuple ts z) y e = alias_value_proper (t.Ty.tuple ts z) y e
  alias_type_proper n (t.Ty.list ty z) y e = alias_value_proper (t.Ty.list ty z) y e
  alias_type_proper n (t.Ty.option ty z) y e = alias_value_proper (t.Ty.option ty z) y e
  alias_type_proper n (t.Ty.result ok err z) y e = alias_value_proper (t.Ty.result ok err z) y e
  alias_type_proper n (t.Ty.stream ty z) y e = alias_value_proper (t.Ty.stream ty z) y e
  alias_type_proper n (t.Ty.future ty z) y e = alias_value_proper (t.Ty.future ty z) y e
  alias_type_proper n (t.Ty.borrow i z) y e = alias_value_proper (t.Ty.borrow i z) y e

  alias_kind_proper : (n : t.Ident) (k : t.TypeAliasKind) (y : Stated) → Ok y ≡ alias_kind b ns n k → DeclaredAt b y
  alias_kind_proper n (t.TypeAliasKind.func f) y e = let a = ok_of (free ns f) _ y e in declared_at b y (declared_as a.0 y (free_proper ns scope f a.0 (sym a.1)) a.2)
  alias_kind_proper n (t.TypeAliasKind.ty ty) y e = alias_type_proper n ty y e

pub type_decl_proper : (ns : Scope) (d : t.TypeDecl) (y : Stated) → ScopeProper ns → Ok y ≡ type_decl ns d → IsDeclared y
type_decl_proper ns (t.TypeDecl.variant d) y h e = variant_declared ns d y h e
type_decl_proper ns (t.TypeDecl.record_ d) y h e = record_declared ns d y h e
type_decl_proper ns (t.TypeDecl.flags d) y h e = flags_declared d y e
type_decl_proper ns (t.TypeDecl.enum d) y h e = enum_declared d y e
type_decl_proper ns (t.TypeDecl.alias d) y h e = alias_kind_proper true ns h d.id d.kind y e

pub alias_in_body : (ns : Scope) (d : t.TypeAlias) (y : Stated) → ScopeProper ns → Ok y ≡ type_alias false ns d → Proper y
alias_in_body ns d y h e = alias_kind_proper false ns h d.id d.kind y e
