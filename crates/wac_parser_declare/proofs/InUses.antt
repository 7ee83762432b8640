-- Uses of types, step by step.
use Rattle.std.proofs.Common.{◌≡◌, List, [], ◌∷◌, ◌++◌, map, Option, Some, None, option_map, is_none, is_some, Bool, true, false, not, ◌||◌, ◌==◌, if◌then◌else◌, Result, Ok, refl, sym, ap, subst, ◌∙◌}
use Rattle.std.specs.Cmp.Lexicographic.{pointwise}
use Rattle.wac_types_base.specs.declared.item.ItemKind.{ItemKind}
use Rattle.wac_types_base.specs.declared.item.«Type».{«Type» as TypeKind}
use Rattle.wac_types_base.specs.declared.defined.UsedType.{UsedType}
use Rattle.wac_types_base.specs.declared.item.ValueType.{ValueType}
use Rattle.wac_types_base.specs.declared.ids.InterfaceId.{InterfaceId}
use Rattle.wac_types_base.specs.declared.ids.ResourceId.{ResourceId}
use Rattle.wac_types_base.specs.Record.{Collection}
use Rattle.wac_types_base.specs.Collection.{IsAcyclic, Stands, item_node}
use Rattle.wac_types_base.specs.Entries.{Name, value_at, with_values}
use Rattle.wac_types_base.specs.Stated.{Stated, Used, desc, exports_of, kind_of, stated_of, untyped, stated_use}
use Rattle.wac_types_base.proofs.Loops.{mapped_next}
use Rattle.wac_types_base.proofs.Telling.{item_kind, kind_stated, untyped_stated}
use Rattle.wac_parser_tree.specs.Trees as t
use Rattle.wac_parser_tree.specs.Trees.{Span}
use Rattle.wac_parser_refusals.specs.declared.refusal.Refusal.{Refusal}
use Rattle.wac_parser_refusals.specs.Causes.{Answer, Fault, ◌>>=◌, ◌>>◌, present, pure, unless_clear, NotInterfaceValueType, UndefinedInterfaceType, UseConflict}
use Rattle.wac_parser_refusals.specs.Outcomes.{IsHeld, IsOutcome, IsRefusal, Refuses}
use Rattle.wac_parser_refusals.proofs.Outcomes.{after_outcome, then_refused}
use Rattle.wac_parser_declare.specs.declared.bodies.Body.{Body}
use Rattle.wac_parser_declare.specs.declared.scope.Binding.{Binding}
use Rattle.wac_parser_declare.specs.Bodies as stated
use Rattle.wac_parser_declare.specs.Bodies.{is_used, local_name, name_there, usable, use_one, with_use}
use Rattle.wac_parser_declare.specs.Held.{stated_body}
use Rattle.wac_parser_declare.specs.Holding.{IsType, scope_of}
use Rattle.wac_parser_declare.specs.InUses.{IsExport, IsUsable, stated_interface, type_used, use_added}
use Rattle.wac_parser_declare.specs.Scope.{bind, has}
use Rattle.wac_parser_declare.proofs.Exports.{same_exports}
use Rattle.wac_parser_declare.proofs.InBodies.{absent_outcome, has_item, there_refused}
use Rattle.wac_parser_declare.proofs.Kept.{with_values-more}

-- ---- the steps of a use

clear_steps : {A B : Type 0} (b : Bool) (f : Fault) (s : Span) (x : A) (k : A → Answer B) → (unless_clear b f s >> k x) ≡ ((unless_clear b f s >> pure x) >>= k)
clear_steps true f s x k = refl
clear_steps false f s x k = refl

-- the type that is used, of the export that was found
abbrev type_by : Name → t.UseItem → Option Stated → Answer Stated
type_by path u o = present o (UndefinedInterfaceType u.id.string path) u.id.span >>= λ x. unless_clear (not (usable (kind_of x))) (NotInterfaceValueType u.id.string (desc x) path) u.id.span >> pure x

found_steps : {B : Type 0} (path : Name) (u : t.UseItem) (o : Option Stated) (k : Stated → Answer B)
    → (present o (UndefinedInterfaceType u.id.string path) u.id.span >>= λ x. unless_clear (not (usable (kind_of x))) (NotInterfaceValueType u.id.string (desc x) path) u.id.span >> k x) ≡ (type_by path u o >>= k)
found_steps path u None k = refl
found_steps path u (Some x) k = clear_steps (not (usable (kind_of x))) (NotInterfaceValueType u.id.string (desc x) path) u.id.span x k

-- the type that is used, then one more use of it
pub use_steps : (h : stated.Holder) (path : Name) (from : Stated) (b : stated.Body) (u : t.UseItem) → use_one h path from b u ≡ (type_used path from u >>= λ x. use_added h b u from x)
use_steps h path from b u = found_steps path u (value_at (exports_of from) u.id.string) (λ x. use_added h b u from x)

-- ---- the type that is used

-- a value type or a resource is usable, and nothing else is
pub no_use_of_type : (ty : TypeKind) → ((r : ResourceId) → ty ≡ TypeKind.Resource r → ⊥) → ((v : ValueType) → ty ≡ TypeKind.Value v → ⊥) → false ≡ usable (item_kind (ItemKind.Ty ty))
no_use_of_type (TypeKind.Resource r) h g = absurd (h r refl)
no_use_of_type (TypeKind.Func f) h g = refl
no_use_of_type (TypeKind.Value v) h g = absurd (g v refl)
no_use_of_type (TypeKind.Interface i) h g = refl
no_use_of_type (TypeKind.World w) h g = refl
no_use_of_type (TypeKind.Module m) h g = refl

pub no_use_of : (k : ItemKind) → ((ty : TypeKind) → k ≡ ItemKind.Ty ty → ⊥) → false ≡ usable (item_kind k)
no_use_of (ItemKind.Ty ty) h = absurd (h ty refl)
no_use_of (ItemKind.Func f) h = refl
no_use_of (ItemKind.Instance i) h = refl
no_use_of (ItemKind.Component w) h = refl
no_use_of (ItemKind.Module m) h = refl
no_use_of (ItemKind.Value v) h = refl

pub usable_stated : (k : ItemKind) (ty : Option TypeKind) → is_some ty ≡ usable (item_kind k) → IsUsable k ty
usable_stated k ty is c a stands = is ∙ ap usable (sym (kind_stated c a k stands))

module _ (c : Collection) (a : IsAcyclic c) (i : InterfaceId) (stands : Stands c (ItemKind.Instance i)) (path : Name) (u : t.UseItem) where
  found_there : (o : Option ItemKind) → IsExport c (ItemKind.Instance i) u.id.string o → option_map (stated_of c) o ≡ value_at (exports_of (stated_interface c i)) u.id.string
  found_there o is = is ∙ ap (λ es. value_at es u.id.string) (same_exports c a i stands)

  pub type_absent : (e : Refusal) → IsExport c (ItemKind.Instance i) u.id.string None → Refuses e (UndefinedInterfaceType u.id.string path) u.id.span → IsRefusal (type_used path (stated_interface c i) u) e
  type_absent e none r = subst (λ (o : Option Stated). IsRefusal (type_by path u o) e) (found_there None none) r

  module _ (k : ItemKind) (is : IsExport c (ItemKind.Instance i) u.id.string (Some k)) (there : Stands c k) where
    pub type_unusable : (e : Refusal) (o : Option TypeKind) → o ≡ None → IsUsable k o → Refuses e (NotInterfaceValueType u.id.string (desc (stated_of c k)) path) u.id.span → IsRefusal (type_used path (stated_interface c i) u) e
    type_unusable e o none can r =
        let x = stated_of c k in
        subst (λ (o : Option Stated). IsRefusal (type_by path u o) e) (found_there (Some k) is)
        (there_refused (not (usable (kind_of x))) (NotInterfaceValueType u.id.string (desc x) path) u.id.span (Ok x) e (ap not (sym (can c a there) ∙ ap is_some none)) r)

    pub type_usable : (ty : TypeKind) (o : Option TypeKind) → o ≡ Some ty → IsUsable k o → k ≡ ItemKind.Ty ty → IsHeld (IsType c) (type_used path (stated_interface c i) u) ty
    type_usable ty o some can same =
        let x = stated_of c k in
        subst (λ (o : Option Stated). IsHeld (IsType c) (type_by path u o) ty) (found_there (Some k) is)
        (absent_outcome (not (usable (kind_of x))) (NotInterfaceValueType u.id.string (desc x) path) u.id.span (Ok x) (IsType c) (Ok ty) (ap not (sym (can c a there) ∙ ap is_some some))
        (record { stands = subst (Stands c) same there; same = ap (stated_of c) (sym same) }))

-- the type of an interface is the type of its instances
pub untyped_interface : (c : Collection) → IsAcyclic c → (i : InterfaceId) → Stands c (ItemKind.Ty (TypeKind.Interface i)) → untyped (stated_interface c i) ≡ stated_of c (ItemKind.Instance i)
unfolding item_node
untyped_interface c a i stands = untyped_stated c a (ItemKind.Ty (TypeKind.Interface i)) (ItemKind.Instance i) refl stands

-- ---- one more use

used_by : {V : Type 0} (b : Bool) (v : V) (o : Option V) → (b || is_some o) ≡ is_some (if b then Some v else o)
used_by true v o = refl
used_by false v o = refl

uses_named : (c : Collection) (us : List (Name × UsedType)) (n : Name) → is_used (map (stated_use c) us) n ≡ is_some (value_at us n)
uses_named c [] n = refl
uses_named c (u ∷ us) n = ap (λ b. (pointwise ◌==◌ n u.0) || b) (uses_named c us n) ∙ used_by (pointwise ◌==◌ n u.0) u.1 (value_at us n)

-- whether the name is taken
abbrev pub conflicts : stated.Body → Name → Bool
conflicts b n = has b.items n || is_used b.uses n

pub conflict_stated : (c : Collection) (b : Body) (n : Name) → conflicts (stated_body c b) n ≡ (is_some (value_at b.items n) || is_some (value_at b.uses n))
conflict_stated c b n =
    ap (λ (x : Bool). x || is_used (stated_body c b).uses n) (has_item c b n)
    ∙ ap (λ (y : Bool). is_some (value_at b.items n) || y) (uses_named c b.uses n)

module _ (h : stated.Holder) (b : stated.Body) (u : t.UseItem) (from x : Stated) (i : t.Ident) (is : i ≡ local_name u) where
  abbrev added_under : t.Ident → Answer stated.Body
  added_under j = unless_clear (conflicts b j.string) (UseConflict j.string h.kind (is_none u.as_id)) j.span >> (bind b.names j x >>= λ ns. pure (with_use b ns u from x))

  pub use_taken : (e : Refusal) → conflicts b i.string ≡ true → Refuses e (UseConflict i.string h.kind (is_none u.as_id)) i.span → IsRefusal (use_added h b u from x) e
  use_taken e taken r =
      subst (λ (j : t.Ident). IsRefusal (added_under j) e) is
      (there_refused (conflicts b i.string) (UseConflict i.string h.kind (is_none u.as_id)) i.span (bind b.names i x >>= λ ns. pure (with_use b ns u from x)) e taken r)

  pub use_new : {B : Type 0} (k : stated.Body → B → Type 0) (r : Result B Refusal) → conflicts b i.string ≡ false → IsOutcome k (bind b.names i x >>= λ ns. pure (with_use b ns u from x)) r → IsOutcome k (use_added h b u from x) r
  use_new k r new o =
      subst (λ (j : t.Ident). IsOutcome k (added_under j) r) is
      (absent_outcome (conflicts b i.string) (UseConflict i.string h.kind (is_none u.as_id)) i.span (bind b.names i x >>= λ ns. pure (with_use b ns u from x)) k r new o)

-- the body with one more use
pub use_more : (c : Collection) (b : Body) (u : t.UseItem) (from : Stated) (i : InterfaceId) (there : Option Name) (k : ItemKind) (n : Name) (ms : List (Name × Binding)) (us : List (Name × UsedType)) (xs : List (Name × ItemKind))
    → n ≡ (local_name u).string → there ≡ name_there u → untyped from ≡ stated_of c (ItemKind.Instance i)
    → us ≡ b.uses ++ (n, record { interface = i; name = there }) ∷ [] → xs ≡ b.items ++ (n, k) ∷ []
    → stated_body c (record { names = ms; uses = us; items = xs; exports = b.exports }) ≡ with_use (stated_body c b) (scope_of c ms) u from (stated_of c k)
use_more c b u from i there k n ms us xs named is typed used more =
    let P : List Used → List (Name × Stated) → stated.Body = λ vs ys. record { names = scope_of c ms; uses = vs; items = ys; exports = with_values (stated_of c) b.exports } in
    let Q : Name → Option Name → Stated → Used = λ m o y. record { name = m; there = o; interface = y } in
    let vs = map (stated_use c) b.uses in
    let ys = with_values (stated_of c) b.items in
    ap (λ ws. P (map (stated_use c) ws) (with_values (stated_of c) xs)) used
    ∙ ap (λ zs. P zs (with_values (stated_of c) xs)) (mapped_next (stated_use c) b.uses (n, record { interface = i; name = there }))
    ∙ ap (λ zs. P (vs ++ Q n there (stated_of c (ItemKind.Instance i)) ∷ []) zs) (ap (with_values (stated_of c)) more ∙ with_values-more (stated_of c) b.items n k)
    ∙ ap (λ (m : Name). P (vs ++ Q m there (stated_of c (ItemKind.Instance i)) ∷ []) (ys ++ (m, stated_of c k) ∷ [])) named
    ∙ ap (λ (o : Option Name). P (vs ++ Q (local_name u).string o (stated_of c (ItemKind.Instance i)) ∷ []) (ys ++ ((local_name u).string, stated_of c k) ∷ [])) is
    ∙ ap (λ (y : Stated). P (vs ++ Q (local_name u).string (name_there u) y ∷ []) (ys ++ ((local_name u).string, stated_of c k) ∷ [])) (sym typed)

-- ---- a whole use

module _ (c : Collection) (h : stated.Holder) (path : Name) (from : Stated) (b : stated.Body) (u : t.UseItem) where
  pub use_stops : (e : Refusal) → IsRefusal (type_used path from u) e → IsRefusal (use_one h path from b u) e
  use_stops e r = subst (λ (q : Answer stated.Body). IsRefusal q e) (sym (use_steps h path from b u)) (then_refused (λ (x : Stated). use_added h b u from x) (type_used path from u) e r)

  pub use_goes : {B : Type 0} (k : stated.Body → B → Type 0) (ty : TypeKind) (r : Result B Refusal) → IsHeld (IsType c) (type_used path from u) ty → IsOutcome k (use_added h b u from (stated_of c (ItemKind.Ty ty))) r
      → IsOutcome k (use_one h path from b u) r
  use_goes k ty r held o =
      subst (λ (q : Answer stated.Body). IsOutcome k q r) (sym (use_steps h path from b u))
      (after_outcome (λ (x : Stated). use_added h b u from x) (IsType c) k (type_used path from u) ty r held (λ x is. subst (λ (y : Stated). IsOutcome k (use_added h b u from y) r) is.same o))
