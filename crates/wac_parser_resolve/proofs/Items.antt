-- What the items of nodes state.
use Rattle.std.proofs.Common.{◌≡◌, ℕ, List, Bool, true, false, not, Option, Some, refl, sym, ap, subst, ◌∙◌}
use Rattle.std.specs.Prelude.{option_map}
use Rattle.wac_types_base.proofs.Stating.{value_with}
use Rattle.wac_types_base.specs.declared.item.ItemKind.{ItemKind}
use Rattle.wac_types_base.specs.declared.item.«Type».{«Type» as TypeKind}
use Rattle.wac_types_base.specs.declared.ids.InterfaceId.{InterfaceId}
use Rattle.wac_types_base.specs.declared.defined.Interface.{Interface}
use Rattle.wac_types_base.specs.Record.{Collection}
use Rattle.wac_types_base.specs.Entries.{Name, value_at}
use Rattle.wac_types_base.specs.Collection.{IsAcyclic}
use Rattle.wac_types_base.specs.Stated.{Stated, kind_of, exports_of, stated_of, desc}
use Rattle.wac_types_base.proofs.Standing.{interface_found}
use Rattle.wac_types_base.proofs.Telling.{item_kind, kind_stated}
use Rattle.wac_composition.specs.Classes.{is_instance_kind}
use Rattle.wac_graph_core.specs.Nodes.{NodeData}
use Rattle.wac_graph_core.specs.Graph as graph
use Rattle.wac_graph_core.specs.Graph.{Graph, IsOfKind, exported_in, item_export}
use Rattle.wac_parser_refusals.specs.declared.refusal.Refusal.{Refusal}
use Rattle.wac_parser_refusals.specs.declared.error.InstanceOperation.{InstanceOperation}
use Rattle.wac_parser_refusals.specs.Causes.{Answer, ◌>>◌, NotAnInstance, unless_clear}
use Rattle.wac_parser_refusals.specs.Outcomes.{IsHeld, IsRefusal, Refuses}
use Rattle.wac_parser_tree.specs.Trees.{Span}
use Rattle.wac_parser_declare.specs.Holding.{Holds}
use Rattle.wac_parser_declare.proofs.Exports.{instance_exports}
use Rattle.wac_parser_resolve.specs.Holding.{HasItem}

-- ---- one item

module _ (g : Graph) (k : ℕ) where
  pub one_item : (P Q : ItemKind → Type 0) → IsOfKind g k P → IsOfKind g k Q → IsOfKind g k (λ x. P x × Q x)
  one_item P Q a b =
      let e : Some b.node ≡ Some a.node = sym b.there ∙ a.there in
      let same : b.node ≡ a.node = cc e in
      record { node = a.node; there = a.there; kind = (a.kind, subst (λ (x : NodeData). Q x.item_kind) same b.kind) }

  pub of_item : (i : ItemKind) (P : ItemKind → Type 0) → IsOfKind g k P → IsOfKind g k (λ x. x ≡ i) → P i
  of_item i P a b = let one = one_item P (λ x. x ≡ i) a b in subst P one.kind.1 one.kind.0

  pub stated_once : (t u : Stated) → HasItem g k t → HasItem g k u → t ≡ u
  stated_once t u a b = let one = one_item (Holds g.types t) (Holds g.types u) a b in sym one.kind.0.same ∙ one.kind.1.same

-- ---- instances

kind_by : (x : ItemKind) → is_instance_kind (item_kind x) ≡ graph.is_instance x
kind_by (ItemKind.Ty (TypeKind.Resource r)) = refl
kind_by (ItemKind.Ty (TypeKind.Func f)) = refl
kind_by (ItemKind.Ty (TypeKind.Value v)) = refl
kind_by (ItemKind.Ty (TypeKind.Interface i)) = refl
kind_by (ItemKind.Ty (TypeKind.World w)) = refl
kind_by (ItemKind.Ty (TypeKind.Module m)) = refl
kind_by (ItemKind.Func f) = refl
kind_by (ItemKind.Instance i) = refl
kind_by (ItemKind.Component w) = refl
kind_by (ItemKind.Module m) = refl
kind_by (ItemKind.Value v) = refl

pub other_by : (x : ItemKind) → ((i : InterfaceId) → x ≡ ItemKind.Instance i → ⊥) → graph.is_instance x ≡ false
other_by (ItemKind.Ty t) h = refl
other_by (ItemKind.Func f) h = refl
other_by (ItemKind.Instance i) h = absurd (h i refl)
other_by (ItemKind.Component w) h = refl
other_by (ItemKind.Module m) h = refl
other_by (ItemKind.Value v) h = refl

instance_by : (x : ItemKind) → graph.is_instance x ≡ true → (i : InterfaceId) × (x ≡ ItemKind.Instance i)
instance_by (ItemKind.Ty t) e = absurd (cc e)
instance_by (ItemKind.Func f) e = absurd (cc e)
instance_by (ItemKind.Instance i) e = (i, refl)
instance_by (ItemKind.Component w) e = absurd (cc e)
instance_by (ItemKind.Module m) e = absurd (cc e)
instance_by (ItemKind.Value v) e = absurd (cc e)

module _ (c : Collection) (a : IsAcyclic c) where
  -- what is stated is an instance where the item is one
  pub is_one : (t : Stated) (x : ItemKind) → Holds c t x → is_instance_kind (kind_of t) ≡ graph.is_instance x
  is_one t x h = ap is_instance_kind (sym (ap kind_of h.same) ∙ kind_stated c a x h.stands) ∙ kind_by x

  instance_export : (i : InterfaceId) (t : Stated) → Holds c t (ItemKind.Instance i) → (n : Name) → value_at (exports_of t) n ≡ option_map (stated_of c) (item_export c (ItemKind.Instance i) n)
  instance_export i t h n =
      let x = interface_found c i h.stands in
      sym (ap (λ (u : Stated). value_at (exports_of u) n) h.same) ∙ ap (λ (es : List (Name × Stated)). value_at es n) (instance_exports c a i x.value x.at x.own)
      ∙ value_with (stated_of c) x.value.exports n ∙ sym (ap (λ (o : Option Interface). option_map (stated_of c) (exported_in o n)) x.at)

  -- an export of an instance, as it is stated
  pub export_stated : (t : Stated) (x : ItemKind) → Holds c t x → graph.is_instance x ≡ true → (n : Name) → value_at (exports_of t) n ≡ option_map (stated_of c) (item_export c x n)
  export_stated t x h e n =
      let i = instance_by x e in
      subst (λ (y : ItemKind). value_at (exports_of t) n ≡ option_map (stated_of c) (item_export c y n)) (sym i.1)
      (instance_export i.0 t (subst (Holds c t) i.1 h) n)

-- ---- an operation that asks for an instance

module _ (t : Stated) (o : InstanceOperation) (s : Span) where
  pub passes_one : {A B : Type 0} (h : A → B → Type 0) (q : Answer A) (b : B) → is_instance_kind (kind_of t) ≡ true → IsHeld h q b → IsHeld h (unless_clear (not (is_instance_kind (kind_of t))) (NotAnInstance (desc t) o) s >> q) b
  passes_one h q b e x = subst (λ (y : Bool). IsHeld h (unless_clear (not y) (NotAnInstance (desc t) o) s >> q) b) (sym e) x

  pub passes_refused : {A : Type 0} (q : Answer A) (f : Refusal) → is_instance_kind (kind_of t) ≡ true → IsRefusal q f → IsRefusal (unless_clear (not (is_instance_kind (kind_of t))) (NotAnInstance (desc t) o) s >> q) f
  passes_refused q f e x = subst (λ (y : Bool). IsRefusal (unless_clear (not y) (NotAnInstance (desc t) o) s >> q) f) (sym e) x

  pub none_refused : {A : Type 0} (q : Answer A) (f : Refusal) → is_instance_kind (kind_of t) ≡ false → Refuses f (NotAnInstance (desc t) o) s → IsRefusal (unless_clear (not (is_instance_kind (kind_of t))) (NotAnInstance (desc t) o) s >> q) f
  none_refused q f e x = subst (λ (y : Bool). IsRefusal (unless_clear (not y) (NotAnInstance (desc t) o) s >> q) f) (sym e) x
