-- What import statements ask, and under which name.
use Rattle.std.proofs.Common.{◌≡◌, Option, Some, None, refl, sym, ap, subst, ◌∙◌, slice_get}
use Rattle.wac_types_base.specs.declared.item.ItemKind.{ItemKind}
use Rattle.wac_types_base.specs.declared.item.«Type».{«Type» as TypeKind}
use Rattle.wac_types_base.specs.declared.ids.InterfaceId.{InterfaceId}
use Rattle.wac_types_base.specs.declared.ids.WorldId.{WorldId}
use Rattle.wac_types_base.specs.declared.defined.Interface.{Interface}
use Rattle.wac_types_base.specs.declared.defined.World.{World}
use Rattle.wac_types_base.specs.Record.{Collection}
use Rattle.wac_types_base.specs.Collection.{IsAcyclic, Stands, interface_entry, item_node, world_entry}
use Rattle.wac_types_base.specs.Stated as stated
use Rattle.wac_types_base.specs.Stated.{Kind, stated_of}
use Rattle.wac_types_base.proofs.Telling.{item_kind, kind_stated, stated_step}
use Rattle.wac_types_base.proofs.Slots.{entry_at-is}
use Rattle.std.specs.Prelude.{List, option_map, Ok, Err}
use Rattle.wac_types_base.specs.Entries.{Name, value_at}
use Rattle.wac_types_base.proofs.Stating.{value_with}
use Rattle.wac_parser_tree.specs.Trees as t
use Rattle.wac_parser_refusals.specs.declared.refusal.Refusal.{Refusal}
use Rattle.wac_parser_refusals.specs.Causes.{Answer, ◌>>=◌, UndefinedName, present, pure}
use Rattle.wac_parser_refusals.specs.Outcomes.{IsHeld, IsRefusal, Refuses}
use Rattle.wac_parser_declare.specs.declared.scope.Binding.{Binding}
use Rattle.wac_parser_declare.specs.Holding.{BindingStands, Holds, NamesStand, meant_by, scope_of}
use Rattle.wac_parser_declare.specs.Scope.{Meant, named}
use Rattle.wac_parser_declare.proofs.Kept.{found_stands}
use Rattle.wac_parser_resolve.specs.InStatements.{identifier_of}
use Rattle.wac_parser_resolve.specs.Saying.{identified}

-- ---- identifiers

module _ (c : Collection) (a : IsAcyclic c) where
  by_kind : (k : ItemKind) → Stands c k → identifier_of c k ≡ identified (item_kind k) (stated_of c k)
  by_kind k s = ap (λ (j : Kind). identified j (stated_of c k)) (kind_stated c a k s)

  pub instance_identified : (i : InterfaceId) (x : Interface) → slice_get c.interfaces i.index ≡ Some x → i.collection ≡ c.number → (k : ItemKind) → Stands c k → k ≡ ItemKind.Instance i → identifier_of c k ≡ x.id
  unfolding item_node
  instance_identified i x at own k s is =
      by_kind k s ∙ ap (λ (j : ItemKind). identified (item_kind j) (stated_of c j)) is
      ∙ ap stated.identifier_of (stated_step c a (ItemKind.Instance i) (interface_entry x) (entry_at-is interface_entry c.number c.interfaces i.collection i.index x at own))

  pub component_identified : (i : WorldId) (x : World) → slice_get c.worlds i.index ≡ Some x → i.collection ≡ c.number → (k : ItemKind) → Stands c k → k ≡ ItemKind.Component i → identifier_of c k ≡ x.id
  unfolding item_node
  component_identified i x at own k s is =
      by_kind k s ∙ ap (λ (j : ItemKind). identified (item_kind j) (stated_of c j)) is
      ∙ ap stated.identifier_of (stated_step c a (ItemKind.Component i) (world_entry x) (entry_at-is world_entry c.number c.worlds i.collection i.index x at own))

  other_by : (k : ItemKind) → ((i : InterfaceId) → k ≡ ItemKind.Instance i → ⊥) → ((w : WorldId) → k ≡ ItemKind.Component w → ⊥) → identified (item_kind k) (stated_of c k) ≡ None
  other_by (ItemKind.Instance i) h l = absurd (h i refl)
  other_by (ItemKind.Component w) h l = absurd (l w refl)
  other_by (ItemKind.Ty (TypeKind.Resource r)) h l = refl
  other_by (ItemKind.Ty (TypeKind.Func r)) h l = refl
  other_by (ItemKind.Ty (TypeKind.Value r)) h l = refl
  other_by (ItemKind.Ty (TypeKind.Interface r)) h l = refl
  other_by (ItemKind.Ty (TypeKind.World r)) h l = refl
  other_by (ItemKind.Ty (TypeKind.Module r)) h l = refl
  other_by (ItemKind.Func r) h l = refl
  other_by (ItemKind.Module r) h l = refl
  other_by (ItemKind.Value r) h l = refl

  pub other_identified : (k : ItemKind) → Stands c k → ((i : InterfaceId) → k ≡ ItemKind.Instance i → ⊥) → ((w : WorldId) → k ≡ ItemKind.Component w → ⊥) → identifier_of c k ≡ None
  other_identified k s h l = by_kind k s ∙ other_by k h l

-- ---- items of names

pub held_map : {A B C : Type 0} (H : A → B → Type 0) (K : A → C → Type 0) (q : Answer A) (b : B) (c : C) → ((a : A) → H a b → K a c) → IsHeld H q b → IsHeld K q c
held_map H K (Ok a) b c f x = f a x
held_map H K (Err e) b c f x = absurd x

module _ (c : Collection) (bs : List (Name × Binding)) (i : t.Ident) where
  meant_at : (o : Option Binding) → value_at bs i.string ≡ o → value_at (scope_of c bs) i.string ≡ option_map (meant_by c) o
  meant_at o e = value_with (meant_by c) bs i.string ∙ ap (option_map (meant_by c)) e

  pub named_held : (b : Binding) → NamesStand c bs → value_at bs i.string ≡ Some b → IsHeld (Holds c) (named (scope_of c bs) i) b.kind
  named_held b s e =
      subst (λ (o : Option Meant). IsHeld (Holds c) (present o (UndefinedName i.string) i.span >>= λ m. pure m.item) b.kind) (sym (meant_at (Some b) e))
      (record { stands = found_stands (BindingStands c) bs i.string b s e; same = refl })

  pub named_lacking : (f : Refusal) → value_at bs i.string ≡ None → Refuses f (UndefinedName i.string) i.span → IsRefusal (named (scope_of c bs) i) f
  named_lacking f e r = subst (λ (o : Option Meant). IsRefusal (present o (UndefinedName i.string) i.span >>= λ m. pure m.item) f) (sym (meant_at None e)) r
