-- What calls that take asks leave.
use Rattle.std.proofs.Common.{◌≡◌, Bool, true, false, List, [], ◌∷◌, ◌++◌, Option, Some, refl, sym, ap, subst, ◌∙◌, inl, inr}
use Rattle.wac_types_base.specs.declared.item.ItemKind.{ItemKind}
use Rattle.wac_types_base.specs.declared.ids.InterfaceId.{InterfaceId}
use Rattle.wac_types_base.specs.Record.{Collection}
use Rattle.wac_types_base.specs.Entries.{Name}
use Rattle.wac_types_base.specs.Collection.{IsAcyclic, Grows}
use Rattle.wac_types_merge.specs.declared.error.AggregateError.{AggregateError}
use Rattle.wac_types_merge.specs.declared.family.Family.{Family}
use Rattle.wac_types_merge.specs.Errors.{Refuses, LeadsTo}
use Rattle.wac_types_merge.specs.Families.{UsesUnnamed, joint}
use Rattle.wac_types_merge.specs.Interfaces.{MeetIn, LeadsIn}
use Rattle.wac_types_merge.specs.Imports.{IsNarrower, IsSpelled}
use Rattle.wac_types_merge.specs.Steps.{HasClash, LieOutside}
use Rattle.wac_types_merge.specs.United.{UnitesIn}
use Rattle.wac_composition.specs.Names.{has_track}
use Rattle.wac_composition.specs.Merging.{Asked}
use Rattle.wac_merging.specs.declared.kept.Kept.{Kept}
use Rattle.wac_merging.specs.Families.{NamesUses}
use Rattle.wac_merging.specs.Asking.{asked_as, IsOfFamily, IsTaken}
use Rattle.wac_merging.specs.Kept.{KeepsNothing, TellsNext, IfMerging, Spells}
use Rattle.wac_merging.proofs.Taking.{next_is_taken, refused_keeps_nothing, told_next, kept_is_identified, spelled_is_identified}

-- ---- uses

pub names_uses : (c : Collection) (k : ItemKind) (i : InterfaceId) → k ≡ ItemKind.Instance i → (UsesUnnamed c (ItemKind.Instance i) → ⊥) → NamesUses c k
names_uses c k i is h = subst (NamesUses c) (sym is) h

pub no_uses : (c : Collection) (k : ItemKind) → ((i : InterfaceId) → k ≡ ItemKind.Instance i → ⊥) → NamesUses c k
no_uses c (ItemKind.Instance i) h = absurd (h i refl)
no_uses c (ItemKind.Ty t) h = tt
no_uses c (ItemKind.Func t) h = tt
no_uses c (ItemKind.Component t) h = tt
no_uses c (ItemKind.Module t) h = tt
no_uses c (ItemKind.Value t) h = tt

-- ---- one ask more

pub with_family : (c : Collection) (asks : List Asked) (s : Bool) (k : ItemKind) (f g : Option Family) → f ≡ g → IsTaken c asks s k f → IsTaken c asks s k g
with_family c asks s k f g e t = subst (IsTaken c asks s k) e t

module _ (c : Collection) (acyclic : IsAcyclic c) (before : Kept) (f g h : Family) (j : ItemKind) (is : h ≡ joint f g) where
  pub next_kept : (d : Collection) (r : ItemKind) → MeetIn c before.item j d r → ((h ≡ Family.Neither → ⊥) → UnitesIn c before.item j d r) → (h ≡ Family.Neither → IsNarrower c before.item j r) → Grows c d
      → (asks : List Asked) (n : Name) → before.family ≡ Some f → IsOfFamily c n j g → IsTaken c asks before.several before.item before.family → IsTaken d (asks ++ asked_as c n j ∷ []) true r (Some h)
  next_kept d r meet united narrower grows asks n family o t =
      let next = next_is_taken c d asks before.several n before.item j r f g acyclic (with_family c asks before.several before.item before.family (Some f) family t) o
      (record { meet = meet; united = λ some. united (λ q. some (sym is ∙ q)); narrower = λ q. narrower (is ∙ q); grows = grows }) in
      with_family d (asks ++ asked_as c n j ∷ []) true r (Some (joint f g)) (Some h) (ap Some (sym is)) next

  pub nothing_kept : (e : AggregateError) → Refuses e (HasClash c h before.item j) (LieOutside c h before.item j) ⊥ → IfMerging e (KeepsNothing c before f j g)
  nothing_kept (AggregateError.Incompatible x) r = λ asks later n family o t.
      refused_keeps_nothing c asks later before.several n before.item j f g acyclic (with_family c asks before.several before.item before.family (Some f) family t) o (inl (subst (λ h. HasClash c h before.item j) is r))
  nothing_kept AggregateError.OutsideFamilies r = λ asks later n family o t.
      refused_keeps_nothing c asks later before.several n before.item j f g acyclic (with_family c asks before.several before.item before.family (Some f) family t) o (inr (subst (λ h. LieOutside c h before.item j) is r))
  nothing_kept AggregateError.UsedWithoutIdentifier r = absurd r
  nothing_kept AggregateError.Memory r = tt

  pub next_told : (e : AggregateError) → Refuses e (HasClash c h before.item j) (LieOutside c h before.item j) ⊥ → LeadsTo e (LeadsIn c before.item j) → IfMerging e (TellsNext c before f j g e)
  next_told (AggregateError.Incompatible x) r l = λ asks n family o t.
      told_next c asks before.several n before.item j f g acyclic (with_family c asks before.several before.item before.family (Some f) family t) o (AggregateError.Incompatible x) (subst (λ h. HasClash c h before.item j) is r) l
  next_told AggregateError.OutsideFamilies r l = λ asks n family o t.
      told_next c asks before.several n before.item j f g acyclic (with_family c asks before.several before.item before.family (Some f) family t) o AggregateError.OutsideFamilies (subst (λ h. LieOutside c h before.item j) is r) tt
  next_told AggregateError.UsedWithoutIdentifier r l = absurd r
  next_told AggregateError.Memory r l = tt

-- ---- the outer import

module _ (c : Collection) (k : Kept) (n : Name) where
  pub spelled_kept : IsAcyclic c → (d : Collection) → k.several ≡ true → has_track n ≡ true → (r : ItemKind) → IsSpelled c k.item d n r → Spells c k n d r
  spelled_kept acyclic d s e r h asks t = sym (spelled_is_identified c d asks k.several n k.item r k.family acyclic t s e h)

  pub stays_kept : (k.several ≡ false) → Spells c k n c k.item
  stays_kept e asks t = sym (kept_is_identified c asks k.several n k.item k.family t (inl e))

  pub off_track_kept : (has_track n ≡ false) → Spells c k n c k.item
  off_track_kept e asks t = sym (kept_is_identified c asks k.several n k.item k.family t (inr e))
