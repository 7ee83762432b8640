-- Merging and narrowing on ids, and what they state.
use Rattle.std.proofs.Common.{◌≡◌, Bool, true, false, true≢false, Option, Some, None, refl, sym, ap, subst, ◌∙◌, inl, inr}
use Rattle.std.specs.Prelude.{if◌then◌else◌}
use Rattle.wac_types_base.specs.declared.item.ItemKind.{ItemKind}
use Rattle.wac_types_base.specs.Record.{Collection}
use Rattle.wac_types_base.specs.Collection.{Stands}
use Rattle.wac_types_base.specs.Stated.{Stated, kind_of, stated_in, stated_of}
use Rattle.wac_types_base.specs.Tree.{tree}
use Rattle.wac_types_base.specs.Fits.{Fits}
use Rattle.wac_types_base.proofs.Telling.{item_kind, kind_stated}
use Rattle.wac_types_fit.specs.Trees.{tree_in}
use Rattle.wac_types_merge.specs.declared.family.Family.{Family}
use Rattle.wac_types_merge.specs.Interfaces.{renamed}
use Rattle.wac_types_merge.specs.Imports.{IsNarrower}
use Rattle.wac_types_merge.proofs.Renaming.{same_renamed}
use Rattle.wac_composition.specs.Classes.{is_instance_kind}
use Rattle.wac_composition.specs.Tests.{fits}
use Rattle.wac_composition.specs.Merging.{merge, identified_by}
use Rattle.wac_composition.proofs.FitBack.{fits_decides}
use Rattle.wac_composition.proofs.KeptFits.{merge_fits}
use Rattle.wac_composition.proofs.Clashing.{merge_clashes}
use Rattle.wac_merging.specs.Merging.{AreMergeable, Merged_is_stated, Clash_is_stated, Narrower_is_stated, Outside_is_stated, AreKeepable, Kept_is_stated, Refused_is_stated, Spelled_is_stated}
use Rattle.wac_merging.proofs.Well.{stated_made}
use Rattle.wac_merging.proofs.Regular.{regular_stated}
use Rattle.wac_merging.proofs.United.{merged_once, instance_made}

pub merged_is_stated : Merged_is_stated
unfolding tree_in
merged_is_stated c d a b k m acyclic meet united = go (merge (stated_of c a) (stated_of c b)) refl
  where
    go : (o : Option Stated) → merge (stated_of c a) (stated_of c b) ≡ o → o ≡ Some (stated_of d k)
    go None q = absurd (merge_clashes (stated_of c a) (regular_stated c m.acyclic a m.first m.first_well m.first_plain) (stated_of c b) (regular_stated c m.acyclic b m.second m.second_well m.second_plain) q
        (tree_in d k) meet.meet.ordered meet.meet.fits.0 meet.meet.fits.1.0)
    go (Some z) q = ap Some (merged_once (stated_of c a) (stated_of c b) (stated_of d k) z (stated_made c m.acyclic a m.first) (stated_made d acyclic k meet.stands) united q)

pub clash_is_stated : Clash_is_stated
unfolding tree_in
clash_is_stated c a b plain clash = go (merge (stated_of c a) (stated_of c b)) refl
  where
    go : (o : Option Stated) → merge (stated_of c a) (stated_of c b) ≡ o → o ≡ None
    go None q = refl
    go (Some z) q =
        let m = merge_fits (stated_of c a) (stated_of c b) z q in
        absurd (clash plain (tree z) m.ordered m.fits.0 m.fits.1.0)

-- ---- the narrower of two

not_fitting : (x y : Stated) → (Fits (tree x) (tree y) → ⊥) → fits x y ≡ false
not_fitting x y h = go (fits x y) refl
  where
    go : (b : Bool) → fits x y ≡ b → b ≡ false
    go true e = absurd (h ((fits_decides x y).0 e))
    go false e = refl

pub narrower_is_stated : Narrower_is_stated
unfolding tree_in
narrower_is_stated c a b k (inl h) =
    let x = stated_of c a in
    let y = stated_of c b in
    ap (λ t. if t then Some x else (if fits y x then Some y else None)) ((fits_decides x y).1 h.0) ∙ ap (λ j. Some (stated_of c j)) (sym h.1)
narrower_is_stated c a b k (inr h) =
    let x = stated_of c a in
    let y = stated_of c b in
    ap (λ t. if t then Some x else (if fits y x then Some y else None)) (not_fitting x y h.0) ∙ ap (λ t. if t then Some y else None) ((fits_decides y x).1 h.1) ∙ ap (λ j. Some (stated_of c j)) (sym h.2)

pub outside_is_stated : Outside_is_stated
unfolding tree_in
outside_is_stated c a b h =
    let x = stated_of c a in
    let y = stated_of c b in
    ap (λ t. if t then Some x else (if fits y x then Some y else None)) (not_fitting x y h.0) ∙ ap (λ t. if t then Some y else None) (not_fitting y x h.1)

-- ---- by families

abbrev IsNone : Family → Type 0
IsNone f = f ≡ Family.Neither

plain_no : IsNone Family.Plain → ⊥
plain_no e = cc e

wit_no : IsNone Family.Wit → ⊥
wit_no e = cc e

mergeable : (c : Collection) (f : Family) (a b : ItemKind) → AreKeepable c f a b → (IsNone f → ⊥) → AreMergeable c a b
mergeable c f a b k n = record { acyclic = k.acyclic; first = k.first; second = k.second; first_well = k.first_well; second_well = k.second_well; first_plain = k.first_plain n; second_plain = k.second_plain n }

pub kept_is_stated : Kept_is_stated
kept_is_stated c d Family.Plain a b k m h = merged_is_stated c d a b k (mergeable c Family.Plain a b m plain_no) h.grows.acyclic h.meet (h.united plain_no)
kept_is_stated c d Family.Wit a b k m h = merged_is_stated c d a b k (mergeable c Family.Wit a b m wit_no) h.grows.acyclic h.meet (h.united wit_no)
kept_is_stated c d Family.Neither a b k m h = narrower_is_stated c a b k (h.narrower refl) ∙ ap Some (sym (ap stated_in (h.grows.keep k (stays (h.narrower refl)))))
  where
    stays : IsNarrower c a b k → Stands c k
    stays (inl n) = subst (Stands c) (sym n.1) m.first
    stays (inr n) = subst (Stands c) (sym n.2) m.second

pub refused_is_stated : Refused_is_stated
refused_is_stated c Family.Plain a b m (inl h) = clash_is_stated c a b (m.first_plain plain_no) h.1
refused_is_stated c Family.Wit a b m (inl h) = clash_is_stated c a b (m.first_plain wit_no) h.1
refused_is_stated c Family.Neither a b m (inl h) = absurd (h.0 refl)
refused_is_stated c Family.Neither a b m (inr h) = outside_is_stated c a b h.1
refused_is_stated c Family.Plain a b m (inr h) = absurd (plain_no h.0)
refused_is_stated c Family.Wit a b m (inr h) = absurd (wit_no h.0)

-- ---- spellings

pub spelled_is_stated : Spelled_is_stated
spelled_is_stated c d j k n acyclic s h = h.stated ∙ go (is_instance_kind (kind_of (stated_of c j))) refl
  where
    go : (b : Bool) → is_instance_kind (kind_of (stated_of c j)) ≡ b → renamed n (stated_of c j) ≡ identified_by b n (stated_of c j)
    go true e = ap (renamed n) (instance_made (stated_of c j) e (stated_made c acyclic j s))
    go false e = sym (same_renamed c n acyclic j s (λ i is. true≢false (sym (ap (λ k. is_instance_kind (item_kind k)) is) ∙ sym (ap (λ l. is_instance_kind l) (kind_stated c acyclic j s)) ∙ e)))
