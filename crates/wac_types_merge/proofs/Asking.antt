-- One ask: what it adds or changes, and why it is refused.
use Rattle.std.proofs.Common.{◌≡◌, ℕ, ◌<◌, length, List, [], ◌∷◌, ◌++◌, Option, Some, None, refl, sym, ap, subst, ◌∙◌, inl, inr}
use Rattle.std.specs.Prelude.{slice_get, slice_set, slice_index_or}
use Rattle.wac_types_base.specs.declared.item.ItemKind.{ItemKind}
use Rattle.wac_types_base.specs.Record.{Collection}
use Rattle.wac_types_base.specs.Graph.{Among}
use Rattle.wac_types_base.specs.Collection.{Stands, IsAcyclic, Grows}
use Rattle.wac_types_base.specs.Copying.{IsCopy}
use Rattle.wac_types_base.specs.Fits.{Fits}
use Rattle.wac_types_base.specs.Stated.{Stated, stated_in, stated_of}
use Rattle.wac_types_base.proofs.Adding.{Grows-trans}
use Rattle.wac_types_base.specs.Entries.{Name}
use Rattle.wac_types_base.proofs.Loops.{get-place}
use Rattle.wac_types_base.proofs.Walking.{some_place}
use Rattle.wac_types_names.specs.Tracks.{AreCompatible}
use Rattle.wac_types_fit.specs.Frames.{Step, Disagree}
use Rattle.wac_types_fit.specs.Meets.{IsMeet, IsPlain, Clash}
use Rattle.wac_types_fit.specs.Trees.{tree_in}
use Rattle.wac_types_fit.proofs.Ordering.{named_in_order}
use Rattle.wac_types_merge.specs.declared.family.Family.{Family}
use Rattle.wac_types_merge.specs.declared.family.Import.{Import}
use Rattle.wac_types_merge.specs.Families.{UsesUnnamed, joint}
use Rattle.wac_types_merge.specs.United.{KeepsUnited}
use Rattle.wac_types_merge.specs.Imports.{Imports, IsPlace, AreSound, AreApart, IsMergeable, KeepsNarrower}
use Rattle.wac_types_merge.specs.Merging.{Ask, tree_asked, HasFamily, IsAsked, HaveNoCommon, AreOutside, LeadApart}
use Rattle.wac_types_merge.specs.Interfaces.{LeadsIn}
use Rattle.wac_types_merge.specs.Steps.{HasClash, LieOutside, IsMerged}
use Rattle.wac_types_merge.proofs.Grown.{tree_kept, copied_tree}
use Rattle.wac_types_merge.proofs.Plain.{family_plain, plain_meet}
use Rattle.wac_types_merge.proofs.Tracks.{greater_before, apart_more, apart_set, set_among}
use Rattle.wac_types_base.proofs.Looked.{among-get}
use Rattle.wac_types_base.proofs.Lists.{among_split}

-- ---- where the track of a name stands

pub none_on_track : (xs ms : List Import) (n : Name) (o : Option ℕ) → xs ≡ ms → o ≡ None → IsPlace xs n o → (m : Import) → Among m ms → AreCompatible m.name n → ⊥
none_on_track xs ms n None e is h m a = h m (subst (Among m) (sym e) a)
none_on_track xs ms n (Some i) e is h m a = absurd (cc is)

pub found_on_track : (xs ms : List Import) (n : Name) (o : Option ℕ) (i : ℕ) → xs ≡ ms → o ≡ Some i → IsPlace xs n o → (m : Import) × (slice_get ms i ≡ Some m) × AreCompatible m.name n
found_on_track xs ms n None i e is h = absurd (cc is)
found_on_track xs ms n (Some j) i e is h =
    let same : j ≡ i = cc is in
    (h.0, ap (λ l. slice_get l i) (sym e) ∙ ap (slice_get xs) (sym same) ∙ h.1, h.2)

pub place_within : (ms : List Import) (i : ℕ) (m : Import) → slice_get ms i ≡ Some m → i < length ms
place_within ms i m e = some_place ms i m e

pub same_import : (ms : List Import) (i : ℕ) (m b : Import) → slice_get ms i ≡ Some m → b ≡ slice_index_or ms i b → m ≡ b
same_import ms i m b e is = let at = get-place ms i b (some_place ms i m e) is in cc (e, at)

pub joint_first : (f g : Family) → (joint f g ≡ Family.Neither → ⊥) → f ≡ Family.Neither → ⊥
joint_first Family.Plain g h e = absurd (cc e)
joint_first Family.Wit g h e = absurd (cc e)
joint_first Family.Neither Family.Plain h e = h refl
joint_first Family.Neither Family.Wit h e = h refl
joint_first Family.Neither Family.Neither h e = h refl

pub joint_second : (f g : Family) → (joint f g ≡ Family.Neither → ⊥) → g ≡ Family.Neither → ⊥
joint_second f Family.Plain h e = absurd (cc e)
joint_second f Family.Wit h e = absurd (cc e)
joint_second Family.Plain Family.Neither h e = h refl
joint_second Family.Wit Family.Neither h e = h refl
joint_second Family.Neither Family.Neither h e = h refl

module _ (old new : Imports) (a : Ask) (acyclic : IsAcyclic a.types) (stands : Stands a.types a.kind) (sound : AreSound old) where
  -- an import keeps what is true of it
  old_stands : Grows old.types new.types → (m : Import) → Among m old.kept → Stands new.types m.kind
  old_stands g m n = g.stand m.kind (sound.stand m n)

  old_mergeable : Grows old.types new.types → (m : Import) → Among m old.kept → IsMergeable new.types m
  old_mergeable g m n h = subst IsPlain (sym (tree_kept old.types new.types g m.kind (sound.stand m n))) (sound.mergeable m n h)

  -- ---- the first on its track

  module _ (m : Import) (g : Grows old.types new.types) (alone : (l : Import) → Among l old.kept → AreCompatible l.name a.name → ⊥) (kept : new.kept ≡ old.kept ++ m ∷ []) (name : m.name ≡ a.name) (copied : IsCopy a.types new.types a.kind m.kind) (family : HasFamily a m.family) where
    pub first_asked : (UsesUnnamed a.types a.kind → ⊥) → IsAsked old a new
    first_asked named = record {
      named = named;
      one = inl (record { alone = alone; added = m; kept = kept; name = name; copied = copied; family = family });
      grows = g;
    }

    first_mergeable : IsMergeable new.types m
    first_mergeable h = subst IsPlain (sym (copied_tree a.types new.types a.kind m.kind copied)) (family_plain a.types acyclic a.name a.kind m.family stands family h)

    only : (P : Import → Type 0) → P m → (l : Import) → Among l (m ∷ []) → P l
    only P p l (inl e) = subst P (sym e) p
    only P p l (inr n) = absurd n

    either : (P : Import → Type 0) → ((l : Import) → Among l old.kept → P l) → P m → (l : Import) → Among l new.kept → P l
    either P h p l n = elim (among_split l old.kept (m ∷ []) (subst (Among l) kept n)) [ inl k ↦ h l k | inr k ↦ only P p l k ]

    pub first_sound : AreSound new
    first_sound = record {
      stand = either (λ (l : Import). Stands new.types l.kind) (old_stands g) copied.stands;
      mergeable = either (IsMergeable new.types) (old_mergeable g) first_mergeable;
      apart = subst AreApart (sym kept) (apart_more old.kept m sound.apart (λ l n c. alone l n (subst (AreCompatible l.name) name c)));
    }

  -- ---- beside another

  module _ (mid : Collection) (j : ItemKind) (copied : IsCopy a.types mid a.kind j) (g : Grows old.types mid) (at : ℕ) (before : Import) (there : slice_get old.kept at ≡ Some before) (track : AreCompatible before.name a.name) (f : Family) (has : HasFamily a f) where
    among : Among before old.kept
    among = among-get old.kept at before there

    was : tree_in mid before.kind ≡ tree_in old.types before.kind
    was = tree_kept old.types mid g before.kind (sound.stand before among)

    is_asked : tree_in mid j ≡ tree_asked a
    is_asked = copied_tree a.types mid a.kind j copied

    pub before_stands : Stands mid before.kind
    before_stands = g.stand before.kind (sound.stand before among)

    module _ (after : Import) (h : Grows mid new.types) (m : IsMerged mid before a.name j f new.types after) (kept : new.kept ≡ slice_set old.kept at after) where
      meet_here : IsMeet (tree_in new.types after.kind) (tree_in old.types before.kind ∷ tree_asked a ∷ [])
      meet_here = subst (λ t. IsMeet (tree_in new.types after.kind) (t ∷ tree_asked a ∷ [])) was (subst (λ u. IsMeet (tree_in new.types after.kind) (tree_in mid before.kind ∷ u ∷ [])) is_asked m.kept.meet)

      narrower_kept : after.family ≡ Family.Neither → KeepsNarrower (stated_of old.types before.kind) (stated_of a.types a.kind) a.name after.name (stated_of new.types after.kind)
      narrower_kept e =
          let P : Stated → Stated → Type 0 = λ x y. KeepsNarrower x y a.name after.name (stated_of new.types after.kind) in
          subst (λ x. P x (stated_of a.types a.kind)) (ap stated_in (g.keep before.kind (sound.stand before among)))
          (subst (λ y. P (stated_of mid before.kind) y) (ap stated_in copied.same) (m.narrower e))

      united_kept : (after.family ≡ Family.Neither → ⊥) → KeepsUnited (stated_of old.types before.kind) (stated_of a.types a.kind) a.name after.name (stated_of new.types after.kind)
      united_kept e =
          let P : Stated → Stated → Type 0 = λ x y. KeepsUnited x y a.name after.name (stated_of new.types after.kind) in
          subst (λ x. P x (stated_of a.types a.kind)) (ap stated_in (g.keep before.kind (sound.stand before among)))
          (subst (λ y. P (stated_of mid before.kind) y) (ap stated_in copied.same) (m.united e))

      pub asked_again : (UsesUnnamed a.types a.kind → ⊥) → IsAsked old a new
      asked_again named = record {
        named = named;
        one = inr (record {
          at = at;
          before = before;
          after = after;
          beside = record { there = there; track = track };
          kept = kept;
          name = m.greater;
          own_family = f;
          has = has;
          family = m.family;
          meet = meet_here;
          united = united_kept;
          narrower = narrower_kept;
          identified = m.identified;
        });
        grows = Grows-trans old.types mid new.types g h;
      }

      again_mergeable : IsMergeable new.types after
      again_mergeable n =
          let both = λ (e : joint before.family f ≡ Family.Neither). n (m.family ∙ e) in
          plain_meet (tree_in old.types before.kind) (tree_asked a) (tree_in new.types after.kind) (named_in_order old.types before.kind) (named_in_order a.types a.kind)
          (sound.mergeable before among (joint_first before.family f both))
          (family_plain a.types acyclic a.name a.kind f stands has (joint_second before.family f both)) meet_here

      any : (P : Import → Type 0) → ((l : Import) → Among l old.kept → P l) → P after → (l : Import) → Among l new.kept → P l
      any P p q l n = elim (set_among old.kept at before after l there (subst (Among l) kept n)) [
        | inl e ↦ subst P (sym e) q
        | inr e ↦ p l (among-get old.kept e.place l e.there)
      ]

      pub again_sound : AreSound new
      again_sound = record {
        stand = any (λ (l : Import). Stands new.types l.kind) (old_stands (Grows-trans old.types mid new.types g h)) m.kept.stands;
        mergeable = any (IsMergeable new.types) (old_mergeable (Grows-trans old.types mid new.types g h)) again_mergeable;
        apart = subst AreApart (sym kept) (apart_set old.kept at before after there (greater_before before.name a.name after.name track m.greater) sound.apart);
      }

    pub no_common : HasClash mid (joint before.family f) before.kind j → HaveNoCommon old a
    no_common h = record {
      at = at;
      before = before;
      beside = record { there = there; track = track };
      own_family = f;
      has = has;
      one_family = h.0;
      clash = subst (λ t. Clash t (tree_asked a)) was (subst (Clash (tree_in mid before.kind)) is_asked
          (h.1 (subst IsPlain (sym was) (sound.mergeable before among (joint_first before.family f h.0)))));
    }

    pub outside : LieOutside mid (joint before.family f) before.kind j → AreOutside old a
    outside h = record {
      at = at;
      before = before;
      beside = record { there = there; track = track };
      own_family = f;
      has = has;
      no_family = h.0;
      kept_wider = subst (λ t. Fits t (tree_asked a) → ⊥) was (subst (λ u. Fits (tree_in mid before.kind) u → ⊥) is_asked h.1.0);
      asked_wider = subst (λ t. Fits (tree_asked a) t → ⊥) was (subst (λ u. Fits u (tree_in mid before.kind) → ⊥) is_asked h.1.1);
    }

    pub lead_apart : (ss : List Step) → LeadsIn mid before.kind j ss → LeadApart old a ss
    lead_apart ss h = record {
      at = at;
      before = before;
      beside = record { there = there; track = track };
      apart = subst (λ t. Disagree ss t (tree_asked a)) was (subst (Disagree ss (tree_in mid before.kind)) is_asked h);
    }
