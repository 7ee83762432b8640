-- Interfaces that names of the root mean.
use Rattle.std.proofs.Common.{◌≡◌, Option, Some, None, is_some, false, not, Ok, refl, sym, ap, subst, ◌∙◌}
use Rattle.wac_types_base.specs.declared.item.ItemKind.{ItemKind}
use Rattle.wac_types_base.specs.declared.item.«Type».{«Type» as TypeKind}
use Rattle.wac_types_base.specs.declared.ids.InterfaceId.{InterfaceId}
use Rattle.wac_types_base.specs.Record.{Collection}
use Rattle.wac_types_base.specs.Collection.{IsAcyclic, Stands}
use Rattle.wac_types_base.specs.Entries.{Name}
use Rattle.wac_types_base.specs.Stated.{desc, kind_of, stated_of, is_interface}
use Rattle.wac_types_base.proofs.Telling.{item_kind, kind_stated}
use Rattle.wac_parser_tree.specs.Trees.{Span}
use Rattle.wac_parser_refusals.specs.declared.refusal.Refusal.{Refusal}
use Rattle.wac_parser_refusals.specs.Causes.{NotInterface}
use Rattle.wac_parser_refusals.specs.Outcomes.{IsHeld, IsRefusal, Refuses}
use Rattle.wac_parser_declare.specs.InUses.{AnInterface, IsInterfaceType, interface_in}
use Rattle.wac_parser_declare.proofs.InBodies.{absent_outcome, there_refused}

-- the type of an interface, and nothing else
pub no_interface_type : (ty : TypeKind) → ((i : InterfaceId) → ty ≡ TypeKind.Interface i → ⊥) → false ≡ is_interface (item_kind (ItemKind.Ty ty))
no_interface_type (TypeKind.Resource r) h = refl
no_interface_type (TypeKind.Func f) h = refl
no_interface_type (TypeKind.Value v) h = refl
no_interface_type (TypeKind.Interface i) h = absurd (h i refl)
no_interface_type (TypeKind.World w) h = refl
no_interface_type (TypeKind.Module m) h = refl

pub no_interface : (k : ItemKind) → ((ty : TypeKind) → k ≡ ItemKind.Ty ty → ⊥) → false ≡ is_interface (item_kind k)
no_interface (ItemKind.Ty ty) h = absurd (h ty refl)
no_interface (ItemKind.Func f) h = refl
no_interface (ItemKind.Instance i) h = refl
no_interface (ItemKind.Component w) h = refl
no_interface (ItemKind.Module m) h = refl
no_interface (ItemKind.Value v) h = refl

pub interface_stated : (k : ItemKind) (o : Option InterfaceId) → is_some o ≡ is_interface (item_kind k) → IsInterfaceType k o
interface_stated k o is c a stands = is ∙ ap is_interface (sym (kind_stated c a k stands))

-- an item that is to be one
module _ (c : Collection) (a : IsAcyclic c) (path : Name) (s : Span) (k : ItemKind) (stands : Stands c k) (o : Option InterfaceId) (can : IsInterfaceType k o) where
  pub interface_found : (i : InterfaceId) → o ≡ Some i → k ≡ ItemKind.Ty (TypeKind.Interface i) → IsHeld (AnInterface c) (interface_in path s (stated_of c k)) i
  interface_found i some is =
      let x = stated_of c k in
      absent_outcome (not (is_interface (kind_of x))) (NotInterface path (desc x)) s (Ok x) (AnInterface c) (Ok i) (ap not (sym (can c a stands) ∙ ap is_some some))
      (record { stands = subst (Stands c) is stands; same = ap (stated_of c) (sym is) })

  pub interface_lacking : (e : Refusal) → o ≡ None → Refuses e (NotInterface path (desc (stated_of c k))) s → IsRefusal (interface_in path s (stated_of c k)) e
  interface_lacking e none r =
      let x = stated_of c k in
      there_refused (not (is_interface (kind_of x))) (NotInterface path (desc x)) s (Ok x) e (ap not (sym (can c a stands) ∙ ap is_some none)) r
