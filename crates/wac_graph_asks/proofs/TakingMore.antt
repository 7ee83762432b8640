-- What is kept with one ask more.
use Rattle.std.specs.Prelude.{string_bytes}
use Rattle.std.specs.List.{list_any}
use Rattle.std.specs.Map.{keys_of, lookup}
use Rattle.std.proofs.Common.{◌≡◌, ◌==◌, ℕ, ◌||◌, Bool, true, false, true≢false, is_some, List, [], ◌∷◌, ◌++◌, slice_get, Option, Some, None, Result, Ok, Err, IfErr, IsErrAnd, refl, sym, ap, subst, ◌∙◌, if◌then◌else◌}
use Rattle.std.proofs.lemmas.Option.{none-some, same_Some}
use Rattle.wac_types_base.specs.Record.{Collection}
use Rattle.wac_types_base.specs.Entries.{Name}
use Rattle.wac_types_base.specs.Graph.{Among}
use Rattle.wac_types_base.specs.Collection.{Stands}
use Rattle.wac_types_merge.specs.declared.error.AggregateError.{AggregateError}
use Rattle.wac_types_merge.specs.declared.family.Family.{Family}
use Rattle.wac_types_base.proofs.Replacing.{same_number}
use Rattle.indexmap.specs.IndexMap.{insert_entry}
use Rattle.wac_graph_core.proofs.Found.{eq_same, eq_false}
use Rattle.wac_composition.specs.Merging.{Asked}
use Rattle.wac_merging.specs.declared.kept.Kept.{Kept}
use Rattle.wac_merging.specs.Asking.{asked_as, FamilyTaken}
use Rattle.wac_composition.specs.Conflicts.{Cause, ExplicitImport, ImportTypes}
use Rattle.wac_merging.specs.Kept.{Keeps, HasFamily, KeepsAgain, KeepsWith, KeepsNext, TellsNext, IfMerging}
use Rattle.wac_merging.specs.Labelled.{with_label}
use Rattle.wac_graph_asks.specs.declared.asks.Ask.{Ask as HeldAsk}
use Rattle.wac_graph_asks.specs.declared.asks.Asking.{Asking}
use Rattle.wac_graph_asks.specs.declared.error.OuterError.{OuterError}
use Rattle.wac_graph_asks.specs.declared.taken.Taken.{Taken}
use Rattle.wac_graph_asks.specs.Takes.{conflict_by, pair_in, AsksSame, KeepsMore, KeepsNone, NamesConflict, conflict_of, IfConflict, IsNoConflict, IsMerging, RefusesMore, RefusesOne, RefusesAt, TakesOne, Takes}

if_merging : {P Q : Type 0} (e : AggregateError) → (P → Q) → IfMerging e P → IfMerging e Q
if_merging (AggregateError.Incompatible s) f h = f h
if_merging AggregateError.OutsideFamilies f h = f h
if_merging AggregateError.UsedWithoutIdentifier f h = f h
if_merging AggregateError.Memory f h = tt

-- what holds unless memory is wanted holds where it is not
pub merging_holds : {P : Type 0} (e : AggregateError) → IfMerging e P → IsMerging e → P
merging_holds (AggregateError.Incompatible s) h is = h
merging_holds AggregateError.OutsideFamilies h is = h
merging_holds AggregateError.UsedWithoutIdentifier h is = h
merging_holds AggregateError.Memory h is = absurd is

pub if_conflict : {P Q : Cause ℕ → AggregateError → Type 0} (e : OuterError) → ((cause : Cause ℕ) (source : AggregateError) → P cause source → Q cause source) → IfConflict e P → IfConflict e Q
if_conflict (OuterError.ExplicitImportConflict n first second) f h = (h.0, f (ExplicitImport (string_bytes n) first second) h.0 h.1)
if_conflict (OuterError.ImportTypeMergeConflict n first second source) f h = f (ImportTypes (string_bytes n) first second) source h
if_conflict OuterError.Memory f h = tt

module _ (c : Collection) (before : Kept) (first ask : HeldAsk) where
  -- while all ask the same, the first one asks what is kept
  first_asks : (asks : List Asked) → before.family ≡ None → Among (pair_in c first) asks → Keeps c asks before → pair_in c first ≡ asked_as c first.name before.item
  first_asks asks none there keeps = by before.family none keeps.family
    where
      by : (f : Option Family) → f ≡ None → FamilyTaken c asks before.item f → pair_in c first ≡ asked_as c first.name before.item
      by None e h = ap (λ (a : Asked). (first.name, a.1)) (h.1 (pair_in c first) there)
      by (Some f) e h = absurd (none-some f (sym e))

  pub again_more : (after : Kept) → before.family ≡ None → AsksSame first ask → KeepsAgain before after → KeepsMore c before first ask c after
  again_more after none same again asks there well keeps =
      again c asks (pair_in c ask) (subst (λ (a : Asked). Among a asks) (ap (λ n. asked_as c n first.item) (sym same.1) ∙ ap (asked_as c ask.name) (sym same.0)) there) none keeps

  module _ (d : Collection) (after : Kept) (g : Family) (asked : HasFamily c ask.name ask.item g) where
    pub next_more : (f : Family) → before.family ≡ Some f → KeepsNext c before f ask.item g d after → KeepsMore c before first ask d after
    next_more f has next asks there well keeps = next asks ask.name has (asked well) keeps

    pub first_more : (f : Family) (with : Kept) → before.family ≡ None → HasFamily c first.name before.item f → KeepsWith before f with → with.family ≡ Some f → KeepsNext c with f ask.item g d after → KeepsMore c before first ask d after
    first_more f with none own keeps_with has next asks there well keeps =
        let is = first_asks asks none there keeps in
        let among = subst (λ (a : Asked). Among a asks) is there in
        next asks ask.name has (asked well) (keeps_with c asks first.name none among (own (keeps.well (asked_as c first.name before.item) among)) keeps)

  -- where it is refused with its family, nothing is kept with it
  module _ (g : Family) (asked : HasFamily c ask.name ask.item g) where
    next_none : (e : AggregateError) (f : Family) → before.family ≡ Some f → TellsNext c before f ask.item g e → KeepsNone c before first ask e
    next_none e f has none asks there stands well keeps = none asks ask.name has (asked well) keeps

    first_none : (e : AggregateError) (f : Family) (with : Kept) → before.family ≡ None → HasFamily c first.name before.item f → KeepsWith before f with → with.family ≡ Some f → TellsNext c with f ask.item g e → KeepsNone c before first ask e
    first_none e f with none own keeps_with has nothing asks there stands well keeps =
        let is = first_asks asks none there keeps in
        let among = subst (λ (a : Asked). Among a asks) is there in
        nothing asks ask.name has (asked well) (keeps_with c asks first.name none among (own (keeps.well (asked_as c first.name before.item) among)) keeps)

    pub next_refused : {T : Type 0} (r : Result T AggregateError) (f : Family) → before.family ≡ Some f → IfErr r (λ e. IfMerging e (TellsNext c before f ask.item g e)) → IfErr r (λ e. IfMerging e (KeepsNone c before first ask e))
    next_refused (Ok x) f has h = tt
    next_refused (Err e) f has h = if_merging e (next_none e f has) h

    pub first_refused : {T : Type 0} (r : Result T AggregateError) (f : Family) (with : Kept) → before.family ≡ None → HasFamily c first.name before.item f → KeepsWith before f with → with.family ≡ Some f
        → IfErr r (λ e. IfMerging e (TellsNext c with f ask.item g e)) → IfErr r (λ e. IfMerging e (KeepsNone c before first ask e))
    first_refused (Ok x) f with none own keeps has h = tt
    first_refused (Err e) f with none own keeps has h = if_merging e (first_none e f with none own keeps has) h

  -- what does not stand was not asked
  pub not_kept : (e : AggregateError) → (Stands c before.item → ⊥) → KeepsNone c before first ask e
  not_kept e never asks there stands well keeps = absurd (never keeps.stands)

  pub not_asked : (e : AggregateError) → (Stands c ask.item → ⊥) → KeepsNone c before first ask e
  not_asked e never asks there stands well keeps = absurd (never stands)

pub no_family : (f : Option Family) → is_some f ≡ false → f ≡ None
no_family None e = refl
no_family (Some f) e = absurd (true≢false e)

pub takes_at : (c : Collection) (asks : List HeldAsk) (at l : ℕ) (old : List (ℕ × Taken)) (d : Collection) (new : List (ℕ × Taken)) (before : Option Taken) → before ≡ lookup (λ k. l == k) old → (a : HeldAsk) → slice_get asks at ≡ Some a
    → (after : Taken) → TakesOne c asks before at a d after → new ≡ insert_entry ◌==◌ old l after → Takes c asks at l old d new
takes_at c asks at l old d new before is a there after one entries b here =
    (after, subst (λ x. TakesOne c asks (lookup (λ k. l == k) old) at x d after) (same_Some a b (sym there ∙ here)) (subst (λ o. TakesOne c asks o at a d after) is one), entries)

pub refuses_at : (c : Collection) (asks : List HeldAsk) (at l : ℕ) (old : List (ℕ × Taken)) (before : Option Taken) → before ≡ lookup (λ k. l == k) old → (a : HeldAsk) → slice_get asks at ≡ Some a → (cause : Cause ℕ) (source : AggregateError)
    → RefusesOne c asks before a cause source → RefusesAt c asks at l old cause source
refuses_at c asks at l old before is a there cause source refuses b here =
    subst (λ x. RefusesOne c asks (lookup (λ k. l == k) old) x cause source) (same_Some a b (sym there ∙ here)) (subst (λ o. RefusesOne c asks o a cause source) is refuses)

-- why the ask is refused that does not merge
pub refuses_more : (c : Collection) (asks : List HeldAsk) (before : Taken) (first a : HeldAsk) (source : AggregateError) (e : OuterError) → ((x : HeldAsk) → slice_get asks before.first ≡ Some x → first ≡ x) → NamesConflict a first.by source e
    → IfMerging source (KeepsNone c before.kept first a source) → IfConflict e (RefusesMore c asks before a)
refuses_more c asks before first a source e is names none =
    if_conflict e (λ cause told h x there. (
      h.0 ∙ ap (λ (y : HeldAsk). conflict_of a y.by) (is x there),
      subst (λ s. KeepsNone c before.kept x a s) (sym h.1) (subst (λ y. KeepsNone c before.kept y a source) (is x there) (merging_holds source none h.2)),
    )) names

pub not_memory : (e : AggregateError) → (e ≡ AggregateError.Memory → ⊥) → IsMerging e
not_memory (AggregateError.Incompatible s) h = tt
not_memory AggregateError.OutsideFamilies h = tt
not_memory AggregateError.UsedWithoutIdentifier h = tt
not_memory AggregateError.Memory h = absurd (h refl)

-- the conflict of an ask by its name, and of any other
pub by_name : (a : HeldAsk) (first : ℕ) → a.asking ≡ Asking.ByName → (n : Name) → n ≡ a.name → ExplicitImport n first a.by ≡ conflict_of a first
by_name a first is n named = ap (λ m. ExplicitImport m first a.by) named ∙ sym (ap (λ k. conflict_by k a first) is)

pub by_other : (a : HeldAsk) (first : ℕ) → (a.asking ≡ Asking.ByName → ⊥) → (n : Name) → n ≡ a.name → ImportTypes n first a.by ≡ conflict_of a first
by_other a first other n named = ap (λ m. ImportTypes m first a.by) named ∙ go a.asking refl
  where
    go : (k : Asking) → a.asking ≡ k → ImportTypes a.name first a.by ≡ conflict_by k a first
    go Asking.ByName e = absurd (other e)
    go Asking.ToFill e = refl
    go Asking.ToUse e = refl

-- an error that is answered again
pub again_err : {T E : Type 0} (r : Result T E) (P : E → Type 0) (e : E) → IsErrAnd r (λ f. f ≡ e) → P e → IfErr r P
again_err (Ok x) P e is h = absurd is
again_err (Err f) P e is h = subst P (sym is) h

-- what is no conflict claims none
pub no_conflict : {T : Type 0} (r : Result T OuterError) (P : Cause ℕ → AggregateError → Type 0) → IfErr r IsNoConflict → IfErr r (λ e. IfConflict e P)
no_conflict (Ok x) P h = tt
no_conflict (Err e) P h = if_conflict e (λ cause source none. absurd none) h

-- ---- entries

module _ (l : ℕ) (v : Taken) where
  pub own_entry : (es : List (ℕ × Taken)) → lookup (λ k. l == k) (insert_entry ◌==◌ es l v) ≡ Some v
  own_entry [] = ap (λ b. if b then Some v else None) (eq_same l)
  own_entry (e ∷ es) = by (own_entry es) (l == e.0) refl
    where
      by : lookup (λ k. l == k) (insert_entry ◌==◌ es l v) ≡ Some v → (b : Bool) → (l == e.0) ≡ b → lookup (λ k. l == k) (if b then (e.0, v) ∷ es else e ∷ insert_entry ◌==◌ es l v) ≡ Some v
      by h true q = ap (λ b. if b then Some v else lookup (λ k. l == k) es) q
      by h false q = ap (λ b. if b then Some e.1 else lookup (λ k. l == k) (insert_entry ◌==◌ es l v)) q ∙ h

  pub other_entry : (j : ℕ) → (j == l) ≡ false → (es : List (ℕ × Taken)) → lookup (λ k. j == k) (insert_entry ◌==◌ es l v) ≡ lookup (λ k. j == k) es
  other_entry j other [] = ap (λ b. if b then Some v else None) other
  other_entry j other (e ∷ es) = by (other_entry j other es) (l == e.0) refl
    where
      by : lookup (λ k. j == k) (insert_entry ◌==◌ es l v) ≡ lookup (λ k. j == k) es → (b : Bool) → (l == e.0) ≡ b → lookup (λ k. j == k) (if b then (e.0, v) ∷ es else e ∷ insert_entry ◌==◌ es l v) ≡ (if j == e.0 then Some e.1 else lookup (λ k. j == k) es)
      by h true q =
          let no : (j == e.0) ≡ false = ap (λ m. j == m) (sym (same_number l e.0 q)) ∙ other in
          ap (λ b. if b then Some v else lookup (λ k. j == k) es) no ∙ ap (λ b. if b then Some e.1 else lookup (λ k. j == k) es) (sym no)
      by h false q = ap (λ o. if j == e.0 then Some e.1 else o) h

  pub keys_with : (es : List (ℕ × Taken)) → keys_of (insert_entry ◌==◌ es l v) ≡ with_label (keys_of es) l
  keys_with [] = refl
  keys_with (e ∷ es) = by (keys_with es) (l == e.0) refl
    where
      behind : (b : Bool) → list_any (λ m. m == l) (keys_of es) ≡ b → e.0 ∷ with_label (keys_of es) l ≡ (if b then e.0 ∷ keys_of es else e.0 ∷ keys_of es ++ l ∷ [])
      behind true q = ap (λ b. e.0 ∷ (if b then keys_of es else keys_of es ++ l ∷ [])) q
      behind false q = ap (λ b. e.0 ∷ (if b then keys_of es else keys_of es ++ l ∷ [])) q

      by : keys_of (insert_entry ◌==◌ es l v) ≡ with_label (keys_of es) l → (b : Bool) → (l == e.0) ≡ b → keys_of (if b then (e.0, v) ∷ es else e ∷ insert_entry ◌==◌ es l v) ≡ with_label (e.0 ∷ keys_of es) l
      by h true q =
          let yes : (e.0 == l) ≡ true = ap (λ m. e.0 == m) (same_number l e.0 q) ∙ eq_same e.0 in
          ap (λ b. if b || list_any (λ m. m == l) (keys_of es) then e.0 ∷ keys_of es else e.0 ∷ keys_of es ++ l ∷ []) (sym yes)
      by h false q =
          let no : (e.0 == l) ≡ false = eq_false e.0 l (λ s. true≢false (sym (ap (λ m. l == m) s ∙ eq_same l) ∙ q)) in
          ap (λ ks. e.0 ∷ ks) h ∙ behind (list_any (λ m. m == l) (keys_of es)) refl ∙ ap (λ b. if b || list_any (λ m. m == l) (keys_of es) then e.0 ∷ keys_of es else e.0 ∷ keys_of es ++ l ∷ []) (sym no)
