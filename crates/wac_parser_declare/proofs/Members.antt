-- One more member of a map, and what functions state.
use Rattle.std.proofs.Common.{◌≡◌, List, [], ◌∷◌, ◌++◌, map, All, Option, Some, None, is_some, option_map, Bool, true, false, Ok, Err, refl, sym, ap, subst, ◌∙◌, if◌then◌else◌}
use Rattle.wac_types_base.specs.declared.item.ValueType.{ValueType}
use Rattle.wac_types_base.specs.declared.item.ItemKind.{ItemKind}
use Rattle.wac_types_base.specs.declared.item.«Type».{«Type» as TypeKind}
use Rattle.wac_types_base.specs.declared.ids.FuncTypeId.{FuncTypeId}
use Rattle.wac_types_base.specs.Record.{Collection}
use Rattle.wac_types_base.specs.Collection as s
use Rattle.wac_types_base.specs.Collection.{Shape, Slot, SlotStands, Stands, IsAcyclic, Grows, item_node, func_entry, value_slot, option_slot, StandsIf}
use Rattle.wac_types_base.specs.Entries.{Name, with_values, value_at, names_of, values_of}
use Rattle.wac_types_base.specs.Stated.{Stated, stated_of, kind_of, desc, func_of, names, filled, contains_borrow}
use Rattle.wac_types_base.proofs.Loops.{names-with_values, mapped_next}
use Rattle.wac_types_base.proofs.Telling.{item_kind, kind_stated, untyped_stated}
use Rattle.wac_types_base.proofs.Slots.{stands_typed_func}
use Rattle.wac_parser_tree.specs.Trees as t
use Rattle.wac_parser_tree.specs.Trees.{Span}
use Rattle.wac_parser_tree.specs.Accessors.{ty_span}
use Rattle.wac_parser_refusals.specs.declared.refusal.Refusal.{Refusal}
use Rattle.wac_parser_refusals.specs.Views.{Names, cause_in, maybe_at}
use Rattle.wac_parser_refusals.specs.Causes.{Answer, Cause, Fault, ◌>>=◌, ◌>>◌, unless_clear, BorrowInResult, NotFuncType, plainly}
use Rattle.wac_parser_declare.specs.declared.scope.Binding.{Binding}
use Rattle.wac_parser_declare.specs.Scope.{Scope, has}
use Rattle.wac_parser_declare.specs.Declarations.{add_member, member, no_borrow, result_of, func_by}
use Rattle.wac_parser_refusals.specs.Outcomes.{IsHeld, IsRefusal, Refuses, Tells}
use Rattle.wac_parser_declare.specs.Holding.{AddsNew, IsValue, IsValueIf, IsFunc, NamesStand, AreEntries, EachStands, ValueStands, AreNamedValues, AreCases, scope_of, self_params, stated_value, stated_if}
use Rattle.wac_parser_refusals.proofs.Outcomes.{then_refused, after_refused}
use Rattle.wac_parser_declare.proofs.Kept.{entry_holds, children, both_stand, named_values_stand, option_stands, option_places, IsValueIf-kept, StandsIf-kept, scope-kept, stated_if-kept, AreEntries-kept, EachStands-more, with_values-more}
use Rattle.wac_types_base.proofs.Standing.{is_some-option_map}
use Rattle.wac_types_base.proofs.Stating.{stated_kept, value_with}

-- ---- names

pub has-with_values : {V T : Type 0} (f : V → T) (es : List (Name × V)) (n : Name) → has (with_values f es) n ≡ is_some (value_at es n)
has-with_values f es n = ap is_some (value_with f es n) ∙ is_some-option_map f (value_at es n)

-- ---- one more member

-- an entry whose name was new, and one whose name was there
module _ {V : Type 0} (es fs : List (Name × V)) (n : Name) (v : V) where
  pub new_entry : (b : Bool) → b ≡ true → AddsNew es n v fs b → (is_some (value_at es n) ≡ false) × (fs ≡ es ++ (n, v) ∷ [])
  new_entry true e a = a
  new_entry false e a = absurd (cc e)

  pub old_entry : (b : Bool) → b ≡ false → AddsNew es n v fs b → (is_some (value_at es n) ≡ true) × (fs ≡ es)
  old_entry true e a = absurd (cc e)
  old_entry false e a = a

module _ {V T : Type 0} (g : V → T) (es : List (Name × V)) (i : t.Ident) (f : Fault) (q : Answer T) where
  pub member_refused : (e : Refusal) → IsRefusal q e → IsRefusal (member (with_values g es) i f q) e
  member_refused e h = then_refused (add_member (with_values g es) i f) q e h

  taken_by : (v : T) (b : Bool) (e : Refusal) → b ≡ true → Refuses e f i.span → IsRefusal (unless_clear b f i.span >> Ok (with_values g es ++ (i.string, v) ∷ [])) e
  taken_by v true e h r = r
  taken_by v false e h r = absurd (cc h)

  pub member_taken : (R : T → V → Type 0) (v : V) (e : Refusal) → IsHeld R q v → is_some (value_at es i.string) ≡ true → Refuses e f i.span → IsRefusal (member (with_values g es) i f q) e
  member_taken R v e h there r = after_refused (add_member (with_values g es) i f) R q v e h (λ t x. taken_by t (has (with_values g es) i.string) e (has-with_values g es i.string ∙ there) r)

added_by : {T B : Type 0} (P : List (Name × T) → B → Type 0) (xs : List (Name × T)) (b : Bool) (f : Fault) (s : Span) (u : B) → b ≡ false → P xs u → IsHeld P (unless_clear b f s >> Ok xs) u
added_by P xs true f s u h p = absurd (cc h)
added_by P xs false f s u h p = p

module _ {V T B : Type 0} (P Q : V → Type 0) (g k : V → T) (keep : (v : V) → P v → Q v) (same : (v : V) → P v → k v ≡ g v) (R : T → V → Type 0) (gives : (t : T) (v : V) → R t v → Q v × (k v ≡ t)) where
  pub member_added : (es fs : List (Name × V)) (i : t.Ident) (f : Fault) (q : Answer T) (v : V) (u : B) → EachStands P es → IsHeld R q v → is_some (value_at es i.string) ≡ false → fs ≡ es ++ (i.string, v) ∷ []
      → IsHeld (λ xs w. AreEntries Q k xs fs) (member (with_values g es) i f q) u
  member_added es fs i f (Err x) v u stand h absent is = absurd h
  member_added es fs i f (Ok t) v u stand h absent is =
      let p = gives t v h in
      let kept = AreEntries-kept P Q g k keep same (with_values g es) es (record { stand = stand; same = refl }) in
      let whole : AreEntries Q k (with_values g es ++ (i.string, t) ∷ []) (es ++ (i.string, v) ∷ []) = record {
        stand = EachStands-more Q es i.string v kept.stand p.0;
        same = with_values-more k es i.string v ∙ ap (λ xs. xs ++ (i.string, k v) ∷ []) kept.same ∙ ap (λ y. with_values g es ++ (i.string, y) ∷ []) p.1;
      } in
      added_by (λ xs w. AreEntries Q k xs fs) (with_values g es ++ (i.string, t) ∷ []) (has (with_values g es) i.string) f i.span u (has-with_values g es i.string ∙ absent)
      (subst (λ ys. AreEntries Q k (with_values g es ++ (i.string, t) ∷ []) ys) (sym is) whole)

-- one more value type
pub value_added : {B : Type 0} (c d : Collection) → Grows c d → (es fs : List (Name × ValueType)) (i : t.Ident) (f : Fault) (q : Answer Stated) (v : ValueType) (u : B) → EachStands (ValueStands c) es → IsHeld (IsValue d) q v
    → is_some (value_at es i.string) ≡ false → fs ≡ es ++ (i.string, v) ∷ [] → IsHeld (λ xs w. AreNamedValues d xs fs) (member (with_values (stated_value c) es) i f q) u
value_added c d g es fs i f q v u stand h absent is =
    member_added (ValueStands c) (ValueStands d) (stated_value c) (stated_value d) (λ v s. g.stand (ItemKind.Value v) s) (λ v s. stated_kept c d g (ItemKind.Value v) s) (IsValue d) (λ t v h. (h.stands, h.same)) es fs i f q v u stand h absent is

-- one more case
pub case_added : {B : Type 0} (c d : Collection) → Grows c d → (es fs : List (Name × Option ValueType)) (i : t.Ident) (f : Fault) (q : Answer (Option Stated)) (o : Option ValueType) (u : B) → EachStands (StandsIf c) es → IsHeld (IsValueIf d) q o
    → is_some (value_at es i.string) ≡ false → fs ≡ es ++ (i.string, o) ∷ [] → IsHeld (λ xs w. AreCases d xs fs) (member (with_values (stated_if c) es) i f q) u
case_added c d g es fs i f q o u stand h absent is =
    member_added (StandsIf c) (StandsIf d) (stated_if c) (stated_if d) (λ o s. StandsIf-kept c d g o s) (λ o s. stated_if-kept c d g o s) (IsValueIf d) (λ t o h. (h.stands, h.same)) es fs i f q o u stand h absent is

-- a step over what is equal
pub refused_over : {T S : Type 0} (f : T → Answer S) (x y : T) (e : Refusal) → x ≡ y → IsRefusal (f x) e → IsRefusal (f y) e
refused_over f x y e same h = subst (λ (z : _). IsRefusal (f z) e) same h

-- a refusal that names a cause tells it
pub told : (e : Refusal) (f : Fault) (s : Option Span) → Names e (maybe_at f s) → Tells (cause_in e) (plainly f s)
told (Refusal.Named b) f s h = subst (λ (o : Option Cause). Tells o (plainly f s)) (sym h) refl
told Refusal.Memory f s h = tt

-- ---- results

borrowing_by : (s : Span) (x : Stated) (b : Bool) (e : Refusal) → b ≡ true → Refuses e BorrowInResult s → IsRefusal {A = Option Stated} (unless_clear b BorrowInResult s >> Ok (Some x)) e
borrowing_by s x true e h r = r
borrowing_by s x false e h r = absurd (cc h)

-- a borrow in a result
pub borrowing : (c : Collection) (ty : t.Ty) (q : Answer Stated) (v : ValueType) (e : Refusal) → IsHeld (IsValue c) q v → contains_borrow (stated_value c v) ≡ true → Refuses e BorrowInResult (ty_span ty) → IsRefusal (q >>= λ x. no_borrow ty x) e
borrowing c ty q v e h b r = after_refused (λ x. no_borrow ty x) (IsValue c) q v e h (λ x y. borrowing_by (ty_span ty) x (contains_borrow x) e (ap contains_borrow (sym y.same) ∙ b) r)

clear_by : (c : Collection) (s : Span) (x : Stated) (v : ValueType) (b : Bool) → b ≡ false → IsValue c x v → IsHeld (IsValueIf c) (unless_clear b BorrowInResult s >> Ok (Some x)) (Some v)
clear_by c s x v true h y = absurd (cc h)
clear_by c s x v false h y = record { stands = y.stands; same = ap Some y.same }

pub unborrowed : (c : Collection) (ty : t.Ty) (q : Answer Stated) (v : ValueType) → IsHeld (IsValue c) q v → contains_borrow (stated_value c v) ≡ false → IsHeld (IsValueIf c) (q >>= λ x. no_borrow ty x) (Some v)
unborrowed c ty (Ok x) v h b = clear_by c (ty_span ty) x v (contains_borrow x) (ap contains_borrow (sym h.same) ∙ b) h
unborrowed c ty (Err x) v h b = absurd h

pub given_held : (c : Collection) (o : Option ValueType) → StandsIf c o → IsValueIf c (stated_if c o) o
given_held c o h = record { stands = h; same = refl }

-- ---- functions

pub filled_places : (d : Collection) (es : List (Name × ValueType)) → map (option_map (stated_of d)) (map value_slot (values_of es)) ≡ filled (with_values (stated_value d) es)
filled_places d [] = refl
filled_places d (e ∷ es) = ap (λ os. Some (stated_value d e.1) ∷ os) (filled_places d es)

func_holds : (d : Collection) → IsAcyclic d → (i : FuncTypeId) (es : List (Name × ValueType)) (o : Option ValueType) (b : Bool) (ps : List (Name × Stated)) (a : Option Stated)
    → item_node d (ItemKind.Func i) ≡ Some (s.func (names_of es) b, map value_slot (values_of es) ++ option_slot o ∷ []) → AreNamedValues d ps es → IsValueIf d a o → IsFunc d (func_of ps a b) i
func_holds d ac i es o b ps a node h r =
    let label : s.func (names_of es) b ≡ s.func (names ps) b = ap (λ ns. s.func ns b) (sym (names-with_values (stated_value d) es) ∙ ap names h.same) in
    entry_holds d ac (ItemKind.Func i) (s.func (names ps) b) (map value_slot (values_of es) ++ option_slot o ∷ []) (filled ps ++ a ∷ [])
    (node ∙ ap (λ l. Some (l, map value_slot (values_of es) ++ option_slot o ∷ [])) label)
    (mapped_next (option_map (stated_of d)) (map value_slot (values_of es)) (option_slot o) ∙ ap (λ x. map (option_map (stated_of d)) (map value_slot (values_of es)) ++ x ∷ []) (option_places d o ∙ r.same)
    ∙ ap (λ xs. xs ++ a ∷ []) (filled_places d es ∙ ap filled h.same))

pub func_children : (c : Collection) (es : List (Name × ValueType)) (o : Option ValueType) → EachStands (ValueStands c) es → StandsIf c o → All (SlotStands c) (map value_slot (values_of es) ++ option_slot o ∷ [])
func_children c es o h r = children c _ (both_stand c (map value_slot (values_of es)) (option_slot o ∷ []) (named_values_stand c es h) (option_stands c o r, tt))

pub named_values-kept : (c d : Collection) → Grows c d → (ps : List (Name × Stated)) (es : List (Name × ValueType)) → AreNamedValues c ps es → AreNamedValues d ps es
named_values-kept c d g ps es h = AreEntries-kept (ValueStands c) (ValueStands d) (stated_value c) (stated_value d) (λ v s. g.stand (ItemKind.Value v) s) (λ v s. stated_kept c d g (ItemKind.Value v) s) ps es h

pub held_stand : {B : Type 0} (c : Collection) (q : Answer (List (Name × Stated))) (es : List (Name × ValueType)) (u : B) → IsHeld (λ xs w. AreNamedValues c xs es) q u → EachStands (ValueStands c) es
held_stand c (Ok ps) es u h = h.stand
held_stand c (Err x) es u h = absurd h

-- what a function states, of its parameters and its result
pub function_held : {B : Type 0} (c d e : Collection) → Grows c d → Grows d e → (i : FuncTypeId) (es : List (Name × ValueType)) (o : Option ValueType) (b : Bool) (q : Answer (List (Name × Stated))) (r : Answer (Option Stated)) (u : B)
    → IsHeld (λ xs w. AreNamedValues c xs es) q u → IsHeld (IsValueIf d) r o → item_node e (ItemKind.Func i) ≡ Some (s.func (names_of es) b, map value_slot (values_of es) ++ option_slot o ∷ [])
    → IsHeld (IsFunc e) (q >>= λ ps. r >>= λ a. Ok (func_of ps a b)) i
function_held c d e g k i es o b (Ok ps) (Ok a) u h x node = func_holds e k.acyclic i es o b ps a node (named_values-kept d e k ps es (named_values-kept c d g ps es h)) (IsValueIf-kept d e k a o x)
function_held c d e g k i es o b (Ok ps) (Err y) u h x node = absurd x
function_held c d e g k i es o b (Err y) r u h x node = absurd h

-- what a method takes first, and what is given, while a collection grows
pub self_given : (c : Collection) (o : Option ValueType) → with_values (stated_value c) (self_params o) ≡ self_params (stated_if c o)
self_given c None = refl
self_given c (Some v) = refl

pub result_kept : (c d : Collection) → Grows c d → (names : List (Name × Binding)) → NamesStand c names → (given : Option ValueType) → StandsIf c given → (rs : t.ResultList) → (P : Answer (Option Stated) → Type 0)
    → P (result_of (scope_of d names) (stated_if d given) rs) → P (result_of (scope_of c names) (stated_if c given) rs)
result_kept c d g names s given t rs P h =
    subst (λ (ns : Scope). P (result_of ns (stated_if c given) rs)) (scope-kept c d g names s)
    (subst (λ (o : Option Stated). P (result_of (scope_of d names) o rs)) (stated_if-kept c d g given t) h)

pub result_refused : (c d : Collection) → Grows c d → (names : List (Name × Binding)) → NamesStand c names → (given : Option ValueType) → StandsIf c given → (rs : t.ResultList) → (e : Refusal)
    → IsRefusal (result_of (scope_of d names) (stated_if d given) rs) e → IsRefusal (result_of (scope_of c names) (stated_if c given) rs) e
result_refused c d g names s given t rs e h = result_kept c d g names s given t rs (λ (q : Answer (Option Stated)). IsRefusal q e) h

-- ---- items as functions

module _ (c : Collection) (a : IsAcyclic c) (i : t.Ident) where
  pub untyped_func : (f : FuncTypeId) → Stands c (ItemKind.Ty (TypeKind.Func f)) → IsHeld (IsFunc c) (func_by (kind_of (stated_of c (ItemKind.Ty (TypeKind.Func f)))) i (stated_of c (ItemKind.Ty (TypeKind.Func f)))) f
  unfolding item_node
  untyped_func f stands =
      let k = ItemKind.Ty (TypeKind.Func f) in
      rw (kind_stated c a k stands) (record { stands = stands_typed_func c f stands; same = sym (untyped_stated c a k (ItemKind.Func f) refl stands) })

  pub same_func : (f : FuncTypeId) → Stands c (ItemKind.Func f) → IsHeld (IsFunc c) (func_by (kind_of (stated_of c (ItemKind.Func f))) i (stated_of c (ItemKind.Func f))) f
  same_func f stands = rw (kind_stated c a (ItemKind.Func f) stands) (record { stands = stands; same = refl })

no_func_at : (ty : TypeKind) (i : t.Ident) (x : Stated) (e : Refusal) → ((f : FuncTypeId) → ty ≡ TypeKind.Func f → ⊥) → Refuses e (NotFuncType i.string (desc x)) i.span → IsRefusal (func_by (item_kind (ItemKind.Ty ty)) i x) e
no_func_at (TypeKind.Resource r) i x e h f = f
no_func_at (TypeKind.Func r) i x e h f = absurd (h r refl)
no_func_at (TypeKind.Value v) i x e h f = f
no_func_at (TypeKind.Interface r) i x e h f = f
no_func_at (TypeKind.World r) i x e h f = f
no_func_at (TypeKind.Module r) i x e h f = f

no_func : (k : ItemKind) (i : t.Ident) (x : Stated) (e : Refusal) → ((ty : TypeKind) → k ≡ ItemKind.Ty ty → ⊥) → ((f : FuncTypeId) → k ≡ ItemKind.Func f → ⊥) → Refuses e (NotFuncType i.string (desc x)) i.span → IsRefusal (func_by (item_kind k) i x) e
no_func (ItemKind.Ty ty) i x e h g f = absurd (h ty refl)
no_func (ItemKind.Func r) i x e h g f = absurd (g r refl)
no_func (ItemKind.Instance r) i x e h g f = f
no_func (ItemKind.Component r) i x e h g f = f
no_func (ItemKind.Module r) i x e h g f = f
no_func (ItemKind.Value r) i x e h g f = f

module _ (c : Collection) (a : IsAcyclic c) (i : t.Ident) (e : Refusal) where
  pub no_func_type : (ty : TypeKind) → Stands c (ItemKind.Ty ty) → ((f : FuncTypeId) → ty ≡ TypeKind.Func f → ⊥) → Refuses e (NotFuncType i.string (desc (stated_of c (ItemKind.Ty ty)))) i.span
      → IsRefusal (func_by (kind_of (stated_of c (ItemKind.Ty ty))) i (stated_of c (ItemKind.Ty ty))) e
  no_func_type ty stands h f = rw (kind_stated c a (ItemKind.Ty ty) stands) (no_func_at ty i (stated_of c (ItemKind.Ty ty)) e h f)

  pub no_func_kind : (k : ItemKind) → Stands c k → ((ty : TypeKind) → k ≡ ItemKind.Ty ty → ⊥) → ((f : FuncTypeId) → k ≡ ItemKind.Func f → ⊥) → Refuses e (NotFuncType i.string (desc (stated_of c k))) i.span
      → IsRefusal (func_by (kind_of (stated_of c k)) i (stated_of c k)) e
  no_func_kind k stands h g f = rw (kind_stated c a k stands) (no_func k i (stated_of c k) e h g f)
