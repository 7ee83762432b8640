-- What is kept of two items, and the refusals.
use Rattle.std.proofs.Common.{◌≡◌, List, [], ◌∷◌, Some, IsSome, refl, sym, ap, subst, ◌∙◌, inl, inr}
use Rattle.std.specs.Prelude.{Result, Ok, Err, IfOk, IfErr, is_some}
use Rattle.wac_types_base.specs.declared.item.ItemKind.{ItemKind}
use Rattle.wac_types_base.specs.Record.{Collection}
use Rattle.wac_types_base.specs.Entries.{Name}
use Rattle.wac_types_base.specs.Collection.{Stands, Grows}
use Rattle.wac_types_base.specs.Stated.{Stated, stated_in, stated_of}
use Rattle.wac_types_names.specs.Tracks.{lookup_key}
use Rattle.wac_types_base.specs.Tree.{Tree}
use Rattle.wac_types_base.specs.Fits.{Fits}
use Rattle.wac_types_base.proofs.GraphLemmas.{value_of}
use Rattle.wac_types_fit.specs.declared.error.SubtypeError.{SubtypeError}
use Rattle.wac_types_fit.specs.Frames.{Step}
use Rattle.wac_types_fit.specs.Errors.{steps_of}
use Rattle.wac_types_fit.specs.Ordered.{InOrder}
use Rattle.wac_types_fit.specs.Meets.{IsMeet}
use Rattle.wac_types_fit.specs.Trees.{tree_in}
use Rattle.wac_types_fit.proofs.Meeting.{meet_narrower}
use Rattle.wac_types_fit.proofs.Ordering.{named_in_order}
use Rattle.wac_types_fit.proofs.TreeLaws.{Fits-refl}
use Rattle.wac_types_merge.specs.declared.error.AggregateError.{AggregateError}
use Rattle.wac_types_merge.specs.declared.family.Family.{Family}
use Rattle.wac_types_merge.specs.declared.family.Import.{Import}
use Rattle.wac_types_merge.specs.Families.{joint}
use Rattle.wac_types_merge.specs.Errors.{Refuses, LeadsTo}
use Rattle.wac_types_merge.specs.United.{UnitesIn}
use Rattle.wac_types_merge.specs.Imports.{IsGreater, IsNarrower, NeitherFits, spelled_if, KeepsNarrower}
use Rattle.wac_types_merge.specs.Interfaces.{MeetIn, ClashIn}
use Rattle.wac_types_merge.specs.Steps.{HasClash, LieOutside, IsMerged, IsSpelledImport}

second_narrower : (k u : Tree) → InOrder u → Fits u k → IsMeet u (k ∷ u ∷ [])
second_narrower k u o f = record { ordered = o; fits = (f, (Fits-refl u, tt)); greatest = λ x p g. g.1.0 }

-- the narrower of two is their meet
pub narrower_meet : (c : Collection) (a b k : ItemKind) → Stands c a → Stands c b → IsNarrower c a b k → MeetIn c a b c k
narrower_meet c a b k s r (inl h) = subst (MeetIn c a b c) (sym h.1) (record { stands = s; meet = meet_narrower (tree_in c a) (tree_in c b) (named_in_order c a) h.0 })
narrower_meet c a b k s r (inr h) = subst (MeetIn c a b c) (sym h.2) (record { stands = r; meet = second_narrower (tree_in c a) (tree_in c b) (named_in_order c b) h.1 })

-- other words for why it is refused
pub refused_as : (e : AggregateError) (P P' Q Q' R R' : Type 0) → (P → P') → (Q → Q') → (R → R') → Refuses e P Q R → Refuses e P' Q' R'
refused_as (AggregateError.Incompatible f) P P' Q Q' R R' p q r h = p h
refused_as AggregateError.OutsideFamilies P P' Q Q' R R' p q r h = q h
refused_as AggregateError.UsedWithoutIdentifier P P' Q Q' R R' p q r h = r h
refused_as AggregateError.Memory P P' Q Q' R R' p q r h = tt

-- other words for where it leads
pub leads_as : (e : AggregateError) (P Q : List Step → Type 0) → LeadsTo e P → ((ss : List Step) → P ss → Q ss) → LeadsTo e Q
leads_as (AggregateError.Incompatible f) P Q h p = (h.0, h.1, p h.0 h.2)
leads_as AggregateError.OutsideFamilies P Q h p = tt
leads_as AggregateError.UsedWithoutIdentifier P Q h p = tt
leads_as AggregateError.Memory P Q h p = tt

pub leads_nowhere : (e : AggregateError) (P : List Step → Type 0) (Q R : Type 0) → Refuses e ⊥ Q R → LeadsTo e P
leads_nowhere (AggregateError.Incompatible f) P Q R h = absurd h
leads_nowhere AggregateError.OutsideFamilies P Q R h = tt
leads_nowhere AggregateError.UsedWithoutIdentifier P Q R h = tt
leads_nowhere AggregateError.Memory P Q R h = tt

pub outside_refused : (c : Collection) (f : Family) (a b : ItemKind) (e : AggregateError) → f ≡ Family.Neither → Refuses e ⊥ (NeitherFits c a b) ⊥ → Refuses e (HasClash c f a b) (LieOutside c f a b) ⊥
outside_refused c f a b e is h = refused_as e ⊥ (HasClash c f a b) (NeitherFits c a b) (LieOutside c f a b) ⊥ ⊥ (λ x. absurd x) (λ n. (is, n)) (λ x. x) h

pub clash_refused : (c : Collection) (f : Family) (a b : ItemKind) (fault : SubtypeError) (e : AggregateError) → (f ≡ Family.Neither → ⊥) → ((ss : List Step) → steps_of fault ≡ Some ss → ClashIn c a b) → Refuses e (IsSome (steps_of fault)) ⊥ ⊥ → Refuses e (HasClash c f a b) (LieOutside c f a b) ⊥
clash_refused c f a b fault e n h r =
    refused_as e (IsSome (steps_of fault)) (HasClash c f a b) ⊥ (LieOutside c f a b) ⊥ ⊥ (λ s. let v = value_of (steps_of fault) s in (n, h v.0 v.1)) (λ x. absurd x) (λ x. x) r

pub if_ok : {T E : Type 0} (r : Result T E) (P Q : T → Type 0) → IfOk r P → ((x : T) → P x → Q x) → IfOk r Q
if_ok (Ok x) P Q h f = f x h
if_ok (Err e) P Q h f = tt

pub if_err : {T E : Type 0} (r : Result T E) (P Q : E → Type 0) → IfErr r P → ((e : E) → P e → Q e) → IfErr r Q
if_err (Ok x) P Q h f = tt
if_err (Err e) P Q h f = f e h

-- the narrower of two, by its stated type in a larger collection
pub keeps_narrower : (c mid : Collection) (a b k : ItemKind) (name spelling : Name) (t : Stated) → Grows c mid → Stands c a → Stands c b → IsNarrower c a b k → t ≡ spelled_if (is_some (lookup_key name)) spelling (stated_of mid k) → KeepsNarrower (stated_of c a) (stated_of c b) name spelling t
unfolding tree_in
keeps_narrower c mid a b k name spelling t g s r (inl h) e = record {
  narrower = stated_of c a;
  is = inl (h.0, refl);
  spelled = e ∙ ap (λ j. spelled_if (is_some (lookup_key name)) spelling (stated_of mid j)) h.1 ∙ ap (λ o. spelled_if (is_some (lookup_key name)) spelling (stated_in o)) (g.keep a s);
}
keeps_narrower c mid a b k name spelling t g s r (inr h) e = record {
  narrower = stated_of c b;
  is = inr (h.0, h.1, refl);
  spelled = e ∙ ap (λ j. spelled_if (is_some (lookup_key name)) spelling (stated_of mid j)) h.2 ∙ ap (λ o. spelled_if (is_some (lookup_key name)) spelling (stated_in o)) (g.keep b r);
}

-- the import of a track after one more ask
pub spelled_merged : (c mid d : Collection) (before : Import) (name old : Name) (asked : ItemKind) (f both : Family) (kept : ItemKind) (m : Import) → old ≡ before.name → both ≡ joint before.family f → Grows c mid → Stands c before.kind → Stands c asked → MeetIn c before.kind asked mid kept
    → ((both ≡ Family.Neither → ⊥) → UnitesIn c before.kind asked mid kept) → (both ≡ Family.Neither → IsNarrower c before.kind asked kept) → IsSpelledImport mid old name kept both d m → IsMerged c before name asked f d m
spelled_merged c mid d before name old asked f both kept m e is g s r k w n h = record {
  kept = record { stands = h.stands; meet = subst (λ t. IsMeet t (tree_in c before.kind ∷ tree_in c asked ∷ [])) (sym h.tree) k.meet };
  greater = subst (λ z. IsGreater z name m.name) e h.greater;
  family = h.family ∙ is;
  united = λ q. record { united = stated_of mid kept; is = w (λ e. q (h.family ∙ e)); spelled = h.stated };
  narrower = λ q. keeps_narrower c mid before.kind asked kept name m.name (stated_of d m.kind) g s r (n (sym h.family ∙ q)) h.stated;
  identified = h.identified;
}
