-- Where all asks are taken each class of them keeps something.
use Rattle.std.specs.Map.{lookup}
use Rattle.std.proofs.Common.{◌≡◌, ◌==◌, ℕ, zero, suc, Bool, true, false, List, [], ◌∷◌, ◌++◌, is_some, slice_get, Option, Some, None, Result, Ok, Err, IfOk, OnOk, refl, sym, ap, subst, ◌∙◌, if◌then◌else◌}
use Rattle.std.proofs.lemmas.Option.{none-some, same_Some}
use Rattle.std.proofs.lemmas.Result.{IfOk-weaker}
use Rattle.std.proofs.lemmas.List.{length-map}
use Rattle.wac_types_base.specs.Record.{Collection}
use Rattle.wac_types_base.proofs.Walking.{slice_get-Among}
use Rattle.wac_graph_core.proofs.Found.{eq_same}
use Rattle.wac_types_merge.specs.declared.error.AggregateError.{AggregateError}
use Rattle.wac_composition.specs.Asks.{Ask}
use Rattle.wac_composition.specs.Classes.{class}
use Rattle.wac_composition.specs.Merging.{kept}
use Rattle.wac_composition.specs.OuterImports.{asked_in}
use Rattle.wac_composition.specs.Conflicts.{Cause, merge_conflict}
use Rattle.wac_merging.specs.Named.{NamesDiffer}
use Rattle.wac_merging.specs.Labelled.{labelled, LabelClasses, AreLabels}
use Rattle.wac_merging.specs.Unmerged.{TellsConflict}
use Rattle.wac_merging.proofs.Conflicts.{kept_have_no_conflict, refused_is_conflict, refused_is_told}
use Rattle.wac_merging.proofs.Labels.{class_is_labelled}
use Rattle.wac_merging.proofs.Outers.{labels_are_of_classes}
use Rattle.wac_graph_asks.specs.declared.asks.Ask.{Ask as HeldAsk}
use Rattle.wac_graph_asks.specs.declared.asks.Asked.{Asked}
use Rattle.wac_graph_asks.specs.declared.taken.Taken.{Taken}
use Rattle.wac_graph_asks.specs.AsksIn.{ask_in, asks_in}
use Rattle.wac_graph_asks.specs.Takes.{AreTaken, AreSound, TakesAll, AreMerged, MergesLabelled, Merges, RefusesAll, HasNoneLabelled}

labelled_there : (l : ℕ) (xs : List (Ask ℕ)) (ms : List ℕ) (i : ℕ) (a : Ask ℕ) → slice_get xs i ≡ Some a → slice_get ms i ≡ Some l → labelled l xs ms ≡ [] → ⊥
labelled_there l [] ms i a p q e = none-some a p
labelled_there l (x ∷ xs) [] i a p q e = none-some l q
labelled_there l (x ∷ xs) (m ∷ ms) zero a p q e =
    let own : (m == l) ≡ true = ap (λ k. k == l) (same_Some m l q) ∙ eq_same l in
    cc (sym (ap (λ b. if b then x ∷ labelled l xs ms else labelled l xs ms) own) ∙ e)
labelled_there l (x ∷ xs) (m ∷ ms) (suc i) a p q e = by (labelled_there l xs ms i a p q) (m == l) e
  where
    by : (labelled l xs ms ≡ [] → ⊥) → (b : Bool) → (if b then x ∷ labelled l xs ms else labelled l xs ms) ≡ [] → ⊥
    by h true e = cc e
    by h false e = h e

pub all_merged : (c d : Collection) (held : List HeldAsk) (labels : List ℕ) (taken : List (ℕ × Taken)) → TakesAll c held labels d taken → AreSound c held → AreLabels (asks_in c held) labels → AreMerged (asks_in c held)
all_merged c d held labels taken takes sound are a m = ap (λ (xs : List (Ask ℕ)). is_some (kept (asked_in xs))) own ∙ by (lookup (λ k. l.0 == k) taken) refl
  where
    place : (i : ℕ) × (slice_get (asks_in c held) i ≡ Some a)
    place = let p = slice_get-Among (asks_in c held) a m in (p.0, p.2)

    l : (first : ℕ) × (slice_get labels place.0 ≡ Some first)
    l = let f = are.each place.0 a place.1 in (f.0, f.1)

    t : AreTaken d held (asks_in c held) labels taken
    t = takes sound (are.as_many ∙ length-map held (ask_in c))

    own : class (asks_in c held) a ≡ labelled l.0 (asks_in c held) labels
    own = class_is_labelled (asks_in c held) labels place.0 l.0 a (labels_are_of_classes (asks_in c held) labels are) place.1 l.1

    by : (o : Option Taken) → lookup (λ k. l.0 == k) taken ≡ o → is_some (kept (asked_in (labelled l.0 (asks_in c held) labels))) ≡ true
    by None e = absurd (labelled_there l.0 (asks_in c held) labels place.0 a place.1 l.1 (t.no_more l.0 e))
    by (Some one) e = ap is_some (t.each l.0 one e).keeps.kept

always : {T E : Type 0} (r : Result T E) (P : Type 0) → P → IfOk r (λ _. P)
always (Ok x) P p = p
always (Err e) P p = tt

pub merges_labelled : {T E : Type 0} (r : Result T E) (c d : Collection) (asks held : List HeldAsk) (ls labels : List ℕ) (taken : List (ℕ × Taken)) → asks ≡ held → ls ≡ labels → TakesAll c asks ls d taken
    → IfOk r (λ _. MergesLabelled c held labels)
merges_labelled r c d asks held ls labels taken is own takes =
    always r (MergesLabelled c held labels) (all_merged c d held labels taken (subst (λ l. TakesAll c held l d taken) own (subst (λ xs. TakesAll c xs ls d taken) is takes)))

pub merges : {T E : Type 0} (r : Result T E) (a : Asked) (asks : List HeldAsk) (labels : List ℕ) → NamesDiffer a.types → asks ≡ a.asks.items → AreLabels (asks_in a.types asks) labels → IfOk r (λ _. MergesLabelled a.types a.asks.items labels)
    → IfOk r (λ _. Merges a)
merges r a asks labels differ is are h =
    IfOk-weaker r (λ _. MergesLabelled a.types a.asks.items labels) (λ _. Merges a) (λ _ m stand. m (record { stand = stand; differ = differ }) (subst (λ xs. AreLabels (asks_in a.types xs) labels) is are)) h

-- ---- conflicts

none_labelled : (c d : Collection) (held : List HeldAsk) (labels : List ℕ) (taken : List (ℕ × Taken)) → TakesAll c held labels d taken → HasNoneLabelled c held labels
none_labelled c d held labels taken takes sound are =
    kept_have_no_conflict (asks_in c held) labels (labels_are_of_classes (asks_in c held) labels are) (takes sound (are.as_many ∙ length-map held (ask_in c))).in_turn

pub free_labelled : {T E : Type 0} (r : Result T E) (c d : Collection) (asks held : List HeldAsk) (ls labels : List ℕ) (taken : List (ℕ × Taken)) → asks ≡ held → ls ≡ labels → TakesAll c asks ls d taken → OnOk r (HasNoneLabelled c held labels)
free_labelled r c d asks held ls labels taken is own takes =
    always r (HasNoneLabelled c held labels) (none_labelled c d held labels taken (subst (λ l. TakesAll c held l d taken) own (subst (λ xs. TakesAll c xs ls d taken) is takes)))

-- the ask that is refused by its label is the first conflict, of which the source tells
pub refused_labelled : (c : Collection) (held : List HeldAsk) (labels : List ℕ) (cause : Cause ℕ) (source : AggregateError) → AreSound c held → AreLabels (asks_in c held) labels → RefusesAll c held labels cause source
    → (merge_conflict (asks_in c held) [] (asks_in c held) ≡ Some cause) × TellsConflict source (asks_in c held)
refused_labelled c held labels cause source sound are refuses =
    let asks = asks_in c held in
    let r = refuses sound (are.as_many ∙ length-map held (ask_in c)) in
    let classes = subst (λ ls. LabelClasses (r.before ++ r.ask ∷ r.later) ls) r.labels_are (subst (λ xs. LabelClasses xs labels) r.asks_are (labels_are_of_classes asks labels are)) in (
      ap (λ xs. merge_conflict xs [] xs) r.asks_are ∙ refused_is_conflict r.before r.later r.labels_before r.labels_later r.ask r.label classes r.as_many r.in_turn r.nothing ∙ sym r.is,
      subst (TellsConflict source) (sym r.asks_are) (refused_is_told source r.before r.later r.labels_before r.labels_later r.ask r.label classes r.as_many r.in_turn r.tells),
    )
