-- The world that a directive names.
use Rattle.std.proofs.Common.{◌≡◌, Some, None, refl, sym, ap, subst}
use Rattle.wac_types_base.specs.declared.item.ItemKind.{ItemKind}
use Rattle.wac_types_base.specs.declared.item.«Type».{«Type» as TypeKind}
use Rattle.wac_types_base.specs.declared.ids.WorldId.{WorldId}
use Rattle.wac_types_base.specs.Record.{Collection}
use Rattle.wac_types_base.specs.Collection.{IsAcyclic, Stands, item_node}
use Rattle.wac_types_base.specs.Stated.{Stated, desc, kind_of, stated_of}
use Rattle.wac_types_base.proofs.Telling.{item_kind, kind_stated, untyped_stated}
use Rattle.wac_parser_tree.specs.Trees as t
use Rattle.wac_parser_refusals.specs.declared.refusal.Refusal.{Refusal}
use Rattle.wac_parser_refusals.specs.Causes.{NotWorld}
use Rattle.wac_parser_refusals.specs.Outcomes.{IsHeld, IsRefusal, Refuses}
use Rattle.wac_parser_declare.specs.Holding.{Holds}
use Rattle.wac_parser_resolve.specs.InTargets.{IsWorldHeld, world_in}
use Rattle.wac_parser_resolve.specs.Meeting.{target_by}
use Rattle.wac_parser_resolve.proofs.Growing.{world_stands}

module _ (c : Collection) (a : IsAcyclic c) (p : t.PackagePath) where
  typed_world : (w : WorldId) → Stands c (ItemKind.Ty (TypeKind.World w)) → IsHeld (IsWorldHeld c) (target_by (kind_of (stated_of c (ItemKind.Ty (TypeKind.World w)))) p (stated_of c (ItemKind.Ty (TypeKind.World w)))) w
  unfolding item_node
  typed_world w s =
      let k = ItemKind.Ty (TypeKind.World w) in
      subst (λ q. IsHeld (IsWorldHeld c) (target_by q p (stated_of c k)) w) (sym (kind_stated c a k s))
      (record { stands = world_stands c k w refl s; same = sym (untyped_stated c a k (ItemKind.Component w) refl s) })

  world_type : (k : ItemKind) (w : WorldId) → Some w ≡ world_in k → k ≡ ItemKind.Ty (TypeKind.World w)
  world_type (ItemKind.Ty (TypeKind.Resource i)) w e = absurd (cc e)
  world_type (ItemKind.Ty (TypeKind.Func i)) w e = absurd (cc e)
  world_type (ItemKind.Ty (TypeKind.Value i)) w e = absurd (cc e)
  world_type (ItemKind.Ty (TypeKind.Interface i)) w e = absurd (cc e)
  world_type (ItemKind.Ty (TypeKind.World v)) w e = let same : v ≡ w = cc e in ap (λ (u : WorldId). ItemKind.Ty (TypeKind.World u)) same
  world_type (ItemKind.Ty (TypeKind.Module i)) w e = absurd (cc e)
  world_type (ItemKind.Func i) w e = absurd (cc e)
  world_type (ItemKind.Instance i) w e = absurd (cc e)
  world_type (ItemKind.Component i) w e = absurd (cc e)
  world_type (ItemKind.Module i) w e = absurd (cc e)
  world_type (ItemKind.Value i) w e = absurd (cc e)

  pub world_held : (x : Stated) (k : ItemKind) (w : WorldId) → Holds c x k → Some w ≡ world_in k → IsHeld (IsWorldHeld c) (target_by (kind_of x) p x) w
  world_held x k w h e =
      let is = world_type k w e in
      subst (λ (y : Stated). IsHeld (IsWorldHeld c) (target_by (kind_of y) p y) w) h.same
      (subst (λ (j : ItemKind). IsHeld (IsWorldHeld c) (target_by (kind_of (stated_of c j)) p (stated_of c j)) w) (sym is) (typed_world w (subst (Stands c) is h.stands)))

  other_by : (k : ItemKind) (x : Stated) (e : Refusal) → None ≡ world_in k → Refuses e (NotWorld p.string (desc x)) p.span → IsRefusal (target_by (item_kind k) p x) e
  other_by (ItemKind.Ty (TypeKind.Resource i)) x e n r = r
  other_by (ItemKind.Ty (TypeKind.Func i)) x e n r = r
  other_by (ItemKind.Ty (TypeKind.Value i)) x e n r = r
  other_by (ItemKind.Ty (TypeKind.Interface i)) x e n r = r
  other_by (ItemKind.Ty (TypeKind.World w)) x e n r = absurd (cc n)
  other_by (ItemKind.Ty (TypeKind.Module i)) x e n r = r
  other_by (ItemKind.Func i) x e n r = r
  other_by (ItemKind.Instance i) x e n r = r
  other_by (ItemKind.Component w) x e n r = r
  other_by (ItemKind.Module i) x e n r = r
  other_by (ItemKind.Value i) x e n r = r

  pub world_refused : (x : Stated) (k : ItemKind) (e : Refusal) → Holds c x k → None ≡ world_in k → Refuses e (NotWorld p.string (desc (stated_of c k))) p.span → IsRefusal (target_by (kind_of x) p x) e
  world_refused x k e h n r =
      subst (λ (y : Stated). IsRefusal (target_by (kind_of y) p y) e) h.same
      (subst (λ q. IsRefusal (target_by q p (stated_of c k)) e) (sym (kind_stated c a k h.stands)) (other_by k (stated_of c k) e n r))
