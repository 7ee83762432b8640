-- What is stated in a body: while a collection grows, and with one more name or item.
use Rattle.std.specs.Prelude.{⊤}
use Rattle.std.proofs.Common.{◌≡◌, List, [], ◌∷◌, ◌++◌, map, Option, Some, None, option_map, is_some, Bool, true, false, ◌||◌, Result, Ok, Err, refl, sym, ap, subst, ◌∙◌}
use Rattle.wac_types_base.specs.declared.item.ItemKind.{ItemKind}
use Rattle.wac_types_base.specs.declared.item.ValueType.{ValueType}
use Rattle.wac_types_base.specs.declared.item.«Type».{«Type» as TypeKind}
use Rattle.wac_types_base.specs.declared.defined.UsedType.{UsedType}
use Rattle.wac_types_base.specs.Record.{Collection}
use Rattle.std.specs.declared.alloc.AllocError.{AllocError}
use Rattle.std.proofs.Common.{IfOk}
use Rattle.wac_types_base.specs.declared.ids.ResourceId.{ResourceId}
use Rattle.wac_types_base.specs.Collection as s
use Rattle.wac_types_base.specs.Collection.{Grows, IsAcyclic, Stands, item_node}
use Rattle.wac_types_base.specs.Entries.{Name, with_values, value_at}
use Rattle.wac_types_base.specs.Stated.{Stated, Used, borrow, leaf, own, stated_of, stated_use}
use Rattle.wac_types_base.proofs.Telling.{stated_step}
use Rattle.wac_types_base.proofs.Stating.{stated_kept, value_with}
use Rattle.wac_parser_tree.specs.Trees as t
use Rattle.wac_parser_tree.specs.Trees.{Span}
use Rattle.wac_parser_refusals.specs.declared.refusal.Refusal.{Refusal}
use Rattle.wac_parser_refusals.specs.Causes.{Answer, Fault, ◌>>◌, unless_clear, DuplicateName}
use Rattle.wac_parser_refusals.specs.Outcomes.{IsHeld, IsOutcome, IsRefusal, Refuses}
use Rattle.wac_parser_declare.specs.declared.bodies.Body.{Body}
use Rattle.wac_parser_declare.specs.declared.scope.Binding.{Binding}
use Rattle.wac_parser_declare.specs.Bodies as stated
use Rattle.wac_parser_declare.specs.Aliases.{stated_resource}
use Rattle.wac_parser_declare.specs.Bodies.{has_method, method_name, self_of, with_item}
use Rattle.wac_parser_declare.specs.Held.{BodyStands, stated_body}
use Rattle.wac_parser_declare.specs.Holding.{AddsNew, ItemsStand, UsesStand, meant_by, scope_of, self_params, stated_if}
use Rattle.wac_parser_declare.specs.InBodies.{is_method, receiver_of}
use Rattle.wac_parser_declare.specs.Scope.{Meant, Scope, bind, has, taken}
use Rattle.wac_parser_declare.proofs.Kept.{labelled_holds, scope-kept, with_values-more, with_values-same}
use Rattle.wac_parser_declare.proofs.Members.{has-with_values}
use Rattle.wac_parser_lexer.proofs.SymbolLaws.{neither}

-- ---- steps that are refused where something is there

module _ {A : Type 0} (b : Bool) (f : Fault) (s : Span) (q : Answer A) where
  pub there_refused : (e : Refusal) → b ≡ true → Refuses e f s → IsRefusal (unless_clear b f s >> q) e
  there_refused e is r = subst (λ (d : Bool). IsRefusal (unless_clear d f s >> q) e) (sym is) r

  pub absent_outcome : {B : Type 0} (h : A → B → Type 0) (r : Result B Refusal) → b ≡ false → IsOutcome h q r → IsOutcome h (unless_clear b f s >> q) r
  absent_outcome h r is o = subst (λ (d : Bool). IsOutcome h (unless_clear d f s >> q) r) (sym is) o

-- ---- names

module _ (c : Collection) (bs : List (Name × Binding)) (i : t.Ident) where
  meant_at : (o : Option Binding) → value_at bs i.string ≡ o → value_at (scope_of c bs) i.string ≡ option_map (meant_by c) o
  meant_at o at = value_with (meant_by c) bs i.string ∙ ap (option_map (meant_by c)) at

  pub bound_refused : (x : Stated) (b : Binding) (e : Refusal) → value_at bs i.string ≡ Some b → Refuses e (DuplicateName i.string b.span) i.span → IsRefusal (bind (scope_of c bs) i x) e
  bound_refused x b e at r = subst (λ (o : Option Meant). IsRefusal (taken o i >> Ok (scope_of c bs ++ (i.string, record { item = x; span = i.span }) ∷ [])) e) (sym (meant_at (Some b) at)) r

  pub bound_held : (ms : List (Name × Binding)) (k : ItemKind) (u : ⊤) → value_at bs i.string ≡ None → ms ≡ bs ++ (i.string, record { kind = k; span = i.span }) ∷ []
      → IsHeld (λ ns (v : ⊤). scope_of c ms ≡ ns) (bind (scope_of c bs) i (stated_of c k)) u
  bound_held ms k u at is =
      subst (λ (o : Option Meant). IsHeld (λ (ns : Scope) (v : ⊤). scope_of c ms ≡ ns) (taken o i >> Ok (scope_of c bs ++ (i.string, record { item = stated_of c k; span = i.span }) ∷ [])) u) (sym (meant_at None at))
      (ap (scope_of c) is ∙ with_values-more (meant_by c) bs i.string (record { kind = k; span = i.span }))

-- ---- items

module _ (c : Collection) (b : Body) (n : Name) where
  pub has_item : has (stated_body c b).items n ≡ is_some (value_at b.items n)
  has_item = has-with_values (stated_of c) b.items n

  -- the body with one more item
  pub item_more : (xs : List (Name × ItemKind)) (k : ItemKind) → xs ≡ b.items ++ (n, k) ∷ []
      → stated_body c (record { names = b.names; uses = b.uses; items = xs; exports = b.exports }) ≡ with_item (stated_body c b) n (stated_of c k)
  item_more xs k is =
      let P : List (Name × Stated) → stated.Body = λ ys. record { names = scope_of c b.names; uses = map (stated_use c) b.uses; items = ys; exports = with_values (stated_of c) b.exports } in
      ap P (ap (with_values (stated_of c)) is ∙ with_values-more (stated_of c) b.items n k)

-- the methods of a name
pub methods_stated : (c : Collection) (b : Body) (r m : Name) → has_method (stated_body c b).items r m ≡ is_method b.items r m
methods_stated c b r m =
    ap (λ (x : Bool). x || has (stated_body c b).items (method_name false r m)) (has_item c b (method_name true r m))
    ∙ ap (λ (y : Bool). is_some (value_at b.items (method_name true r m)) || y) (has_item c b (method_name false r m))

-- ---- while a collection grows

uses-kept : (c d : Collection) → Grows c d → (us : List (Name × UsedType)) → UsesStand c us → map (stated_use d) us ≡ map (stated_use c) us
uses-kept c d g [] s = refl
uses-kept c d g (u ∷ us) s =
    let P : Stated → Used = λ x. record { name = u.0; there = u.1.name; interface = x } in
    ap (λ x. P x ∷ map (stated_use d) us) (stated_kept c d g (ItemKind.Instance u.1.interface) s.0) ∙ ap (λ xs. stated_use c u ∷ xs) (uses-kept c d g us s.1)

items-kept : (c d : Collection) → Grows c d → (xs : List (Name × ItemKind)) → ItemsStand c xs → with_values (stated_of d) xs ≡ with_values (stated_of c) xs
items-kept c d g xs s = with_values-same (Stands c) (stated_of d) (stated_of c) (λ k h. stated_kept c d g k h) xs s

pub body-kept : (c d : Collection) → Grows c d → (b : Body) → BodyStands c b → stated_body d b ≡ stated_body c b
body-kept c d g b s =
    let P : Scope → List Used → List (Name × Stated) → List (Name × Stated) → stated.Body = λ ns us xs ys. record { names = ns; uses = us; items = xs; exports = ys } in
    ap (λ ns. P ns (map (stated_use d) b.uses) (with_values (stated_of d) b.items) (with_values (stated_of d) b.exports)) (scope-kept c d g b.names s.names)
    ∙ ap (λ us. P (scope_of c b.names) us (with_values (stated_of d) b.items) (with_values (stated_of d) b.exports)) (uses-kept c d g b.uses s.uses)
    ∙ ap (λ xs. P (scope_of c b.names) (map (stated_use c) b.uses) xs (with_values (stated_of d) b.exports)) (items-kept c d g b.items s.items)
    ∙ ap (λ ys. P (scope_of c b.names) (map (stated_use c) b.uses) (with_values (stated_of c) b.items) ys) (items-kept c d g b.exports s.exports)

-- ---- resources

-- a resource that is no alias
pub resource_stated : (d : Collection) → IsAcyclic d → (n m : Name) → n ≡ m → (r : Result ResourceId AllocError) → IfOk r (λ i. item_node d (ItemKind.Ty (TypeKind.Resource i)) ≡ Some (s.resource n, [])) → IfOk r (λ i. stated_resource d i ≡ leaf (s.resource m))
resource_stated d a n m e (Ok i) is = stated_step d a (ItemKind.Ty (TypeKind.Resource i)) (s.resource n, []) is ∙ ap (λ (k : Name). leaf (s.resource k)) e
resource_stated d a n m e (Err f) is = tt

-- the handles of a resource
module _ (c : Collection) (a : IsAcyclic c) (r : ResourceId) (stands : Stands c (ItemKind.Ty (TypeKind.Resource r))) where
  pub own_stated : stated_of c (ItemKind.Value (ValueType.Own r)) ≡ own (stated_resource c r)
  unfolding item_node
  own_stated = let h = labelled_holds c a s.own_of (ItemKind.Value (ValueType.Own r)) (ItemKind.Ty (TypeKind.Resource r)) refl stands in h.same

  borrow_stated : stated_of c (ItemKind.Value (ValueType.Borrow r)) ≡ borrow (stated_resource c r)
  unfolding item_node
  borrow_stated = let h = labelled_holds c a s.borrow_of (ItemKind.Value (ValueType.Borrow r)) (ItemKind.Ty (TypeKind.Resource r)) refl stands in h.same

  -- what a method takes first
  pub receiver_stated : (is_static : Bool) → self_params (stated_if c (receiver_of is_static r)) ≡ self_of is_static (stated_resource c r)
  receiver_stated true = refl
  receiver_stated false = ap (λ (x : Stated). self_params (Some x)) borrow_stated

-- no method of the name, so none that is static, or is not
pub absent_method : (xs : List (Name × ItemKind)) (r m : Name) (is_static : Bool) → is_method xs r m ≡ false → is_some (value_at xs (method_name is_static r m)) ≡ false
absent_method xs r m true e = (neither (is_some (value_at xs (method_name true r m))) (is_some (value_at xs (method_name false r m))) e).0
absent_method xs r m false e = (neither (is_some (value_at xs (method_name true r m))) (is_some (value_at xs (method_name false r m))) e).1

-- an entry whose name was new
pub added_absent : {V : Type 0} (es fs : List (Name × V)) (n : Name) (v : V) (b : Bool) → is_some (value_at es n) ≡ false → AddsNew es n v fs b → fs ≡ es ++ (n, v) ∷ []
added_absent es fs n v true e a = a.1
added_absent es fs n v false e a = absurd (cc (e, a.0))

-- what was declared
pub declared_stands : {A : Type 0} (P : A → Type 0) (o : Result A Refusal) (x : A) → o ≡ Ok x → IfOk o P → P x
declared_stands {A = A} P o x is h = subst (λ (r : Result A Refusal). IfOk r P) is h
