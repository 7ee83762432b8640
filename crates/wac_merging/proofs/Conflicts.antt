-- Asks that are taken by their labels conflict where asks of their classes do.
use Rattle.std.specs.Prelude.{bytes_eq, is_some, slice_get, if◌then◌else◌}
use Rattle.std.proofs.Common.{◌≡◌, ℕ, List, [], ◌∷◌, ◌++◌, append_assoc, length, Bool, Option, Some, None, ◌==◌, ◌+◌, refl, sym, ap, subst, ◌∙◌}
use Rattle.std.specs.List.{list_any}
use Rattle.std.specs.Cmp.Derive.{one_truth}
use Rattle.std.proofs.lemmas.Slice.Eq.{bytes_eq-Decides}
use Rattle.std.proofs.lemmas.Bool.Decides.{Decides-eqb}
use Rattle.std.proofs.lemmas.List.{length-append}
use Rattle.wac_types_base.specs.Graph.{Among}
use Rattle.wac_types_base.proofs.Adding.{slice_get-left}
use Rattle.wac_types_base.proofs.Copying.{last_place}
use Rattle.wac_composition.specs.Asks.{Asking, ByName, ToFill, ToUse, Ask}
use Rattle.wac_composition.specs.Classes.{class}
use Rattle.std.specs.Option.{option_or}
use Rattle.wac_composition.specs.OuterImports.{asked_in}
use Rattle.wac_composition.specs.Conflicts.{Cause, merge_cause, merge_fails, those_in, merge_conflict}
use Rattle.wac_composition.proofs.Closures.{any_among, among_any}
use Rattle.wac_composition.proofs.OuterClasses.{class_same, within, class_itself, class_by_name}
use Rattle.wac_composition.proofs.ClassLaws.{in_class_linked, linked_in_class}
use Rattle.wac_merging.specs.Labelled.{labelled, LabelClasses, AreKept, none_asked, one_more_kept, Kept_have_no_conflict, Refused_is_conflict}
use Rattle.wac_merging.specs.Unmerged.{TellsUnmerged, Refused_is_told}
use Rattle.wac_merging.proofs.Repeated.{conflict_split}
use Rattle.wac_merging.proofs.Labels.{one_more_labelled, passing_labelled, IsAt, at_among, one_label, linked}

module _ {A : Type 0} (all : List (Ask A)) (labels : List ℕ) (c : LabelClasses all labels) where
  -- whether a name of the class is the ask's
  abbrev named_in : Ask A → Ask A → Bool
  named_in a b = list_any (λ d. bytes_eq b.name d.name) (class all a)

  -- an ask has such a name exactly where it has the label
  name_test : (a b : Ask A) (l m : ℕ) → IsAt all labels c a l → IsAt all labels c b m → named_in a b ≡ (m == l)
  name_test a b l m i j =
      let here = at_among all labels c a l i in
      let there = at_among all labels c b m j in
      one_truth (named_in a b) (m == l)
      (λ e.
      let d = any_among (λ d. bytes_eq b.name d.name) (class all a) e in
      let same = class_by_name all b d.0 there (within all a d.0 here d.1) ((bytes_eq-Decides b.name d.0.name).0 d.2) ∙ sym (class_same all a d.0 here d.1) in
      (Decides-eqb m l).1 (one_label all labels c a b l m i j (in_class_linked all a b here (subst (Among b) same (class_itself all b there)))))
      (λ e. among_any (λ d. bytes_eq b.name d.name) (class all a) b (linked_in_class all a b here (linked all labels c a b l m i j ((Decides-eqb m l).0 e))) ((bytes_eq-Decides b.name b.name).1 refl))

  -- the first asks, with their labels
  module _ (asks rest : List (Ask A)) (ls more : List ℕ) (a : Ask A) (l : ℕ) (as_many : length ls ≡ length asks) (is : all ≡ (asks ++ a ∷ []) ++ rest) (are : labels ≡ (ls ++ l ∷ []) ++ more) where
    abbrev first : List (Ask A)
    first = asks ++ a ∷ []

    abbrev firsts : List ℕ
    firsts = ls ++ l ∷ []

    ask_at : (j : ℕ) (b : Ask A) → slice_get first j ≡ Some b → slice_get all j ≡ Some b
    ask_at j b e = ap (λ xs. slice_get xs j) is ∙ slice_get-left first rest j b e

    label_at : (j m : ℕ) → slice_get firsts j ≡ Some m → slice_get labels j ≡ Some m
    label_at j m e = ap (λ xs. slice_get xs j) are ∙ slice_get-left firsts more j m e

    last_at : IsAt all labels c a l
    last_at = record {
      place = length asks;
      ask = ask_at (length asks) a (last_place asks a);
      label = label_at (length asks) l (ap (λ n. slice_get firsts n) (sym as_many) ∙ last_place ls l);
    }

    as_many_firsts : length firsts ≡ length first
    as_many_firsts = length-append ls (l ∷ []) ∙ ap (λ n. n + 1) as_many ∙ sym (length-append asks (a ∷ []))

    those_are : those_in (class all a) first ≡ labelled l first firsts
    those_are = passing_labelled (named_in a) l first firsts as_many_firsts (λ j b m p q. name_test a b l m last_at (record { place = j; ask = ask_at j b p; label = label_at j m q }))

    -- those before the last
    those_before : those_in (class all a) asks ≡ labelled l asks ls
    those_before = passing_labelled (named_in a) l asks ls as_many
        (λ j b m p q. name_test a b l m last_at (record { place = j; ask = ask_at j b (slice_get-left asks (a ∷ []) j b p); label = label_at j m (slice_get-left ls (l ∷ []) j m q) }))

  kept_as_many : (asks : List (Ask A)) (ls : List ℕ) → AreKept asks ls → length ls ≡ length asks
  kept_as_many asks ls none_asked = refl
  kept_as_many asks ls (one_more_kept bs ms a l k e) = length-append ms (l ∷ []) ∙ ap (λ n. n + 1) (kept_as_many bs ms k) ∙ sym (length-append bs (a ∷ []))

  -- behind asks that are kept, the conflict is among the others
  conflict_behind : (asks rest : List (Ask A)) (ls more : List ℕ) → AreKept asks ls → all ≡ asks ++ rest → labels ≡ ls ++ more → merge_conflict all [] all ≡ merge_conflict all asks rest
  conflict_behind asks rest ls more none_asked is are = ap (λ xs. merge_conflict all [] xs) is
  conflict_behind asks rest ls more (one_more_kept bs ms a l k e) is are =
      let those = those_are bs rest ms more a l (kept_as_many bs ms k) is are in
      conflict_behind bs (a ∷ rest) ms (l ∷ more) k (is ∙ append_assoc bs (a ∷ []) rest) (are ∙ append_assoc ms (l ∷ []) more)
      ∙ ap (λ as_. option_or (merge_fails a as_) (merge_conflict all (bs ++ a ∷ []) rest)) those
      ∙ ap (λ b. option_or (if b then None else merge_cause a.asking a (labelled l (bs ++ a ∷ []) (ms ++ l ∷ []))) (merge_conflict all (bs ++ a ∷ []) rest)) e

  -- asks that are kept do not conflict, whatever is asked behind them
  none_behind : (asks rest : List (Ask A)) (ls more : List ℕ) → AreKept asks ls → all ≡ asks ++ rest → labels ≡ ls ++ more → merge_conflict all [] asks ≡ None
  none_behind asks rest ls more none_asked is are = refl
  none_behind asks rest ls more (one_more_kept bs ms a l k e) is are =
      let those = those_are bs rest ms more a l (kept_as_many bs ms k) is are in
      conflict_split all [] bs (a ∷ [])
      ∙ ap (λ o. option_or o (merge_conflict all bs (a ∷ []))) (none_behind bs (a ∷ rest) ms (l ∷ more) k (is ∙ append_assoc bs (a ∷ []) rest) (are ∙ append_assoc ms (l ∷ []) more))
      ∙ ap (λ as_. option_or (merge_fails a as_) None) those
      ∙ ap (λ b. option_or (if b then None else merge_cause a.asking a (labelled l (bs ++ a ∷ []) (ms ++ l ∷ []))) None) e

pub kept_have_no_conflict : {A : Type 0} → Kept_have_no_conflict A
kept_have_no_conflict asks labels c k = conflict_behind asks labels c asks [] labels [] k (sym (nothing_behind asks)) (sym (nothing_behind labels))
  where
    nothing_behind : {X : Type 0} (xs : List X) → xs ++ [] ≡ xs
    nothing_behind [] = refl
    nothing_behind (x ∷ xs) = ap (λ l. x ∷ l) (nothing_behind xs)

-- where there is an ask there is a cause
or_cause : {A : Type 0} (k : Asking) (a : Ask A) (xs : List (Ask A)) (b : Ask A) (o : Option (Cause A)) → option_or (merge_cause k a (xs ++ b ∷ [])) o ≡ merge_cause k a (xs ++ b ∷ [])
or_cause ByName a [] b o = refl
or_cause ToFill a [] b o = refl
or_cause ToUse a [] b o = refl
or_cause ByName a (x ∷ xs) b o = refl
or_cause ToFill a (x ∷ xs) b o = refl
or_cause ToUse a (x ∷ xs) b o = refl

pub refused_is_conflict : {A : Type 0} → Refused_is_conflict A
refused_is_conflict {A} asks later ls more a l c as_many k e =
    let all : List (Ask A) = asks ++ a ∷ later in
    let of_label : List (Ask A) = labelled l (asks ++ a ∷ []) (ls ++ l ∷ []) in
    let those = those_are all (ls ++ l ∷ more) c asks later ls more a l as_many (sym (append_assoc asks (a ∷ []) later)) (sym (append_assoc ls (l ∷ []) more)) in
    let rest = merge_conflict all (asks ++ a ∷ []) later in
    let last : of_label ≡ labelled l asks ls ++ a ∷ [] = one_more_labelled asks ls a l l as_many ∙ ap (λ b. if b then labelled l asks ls ++ a ∷ [] else labelled l asks ls) ((Decides-eqb l l).1 refl) in
    conflict_behind all (ls ++ l ∷ more) c asks (a ∷ later) ls (l ∷ more) k refl refl
    ∙ ap (λ as_. option_or (merge_fails a as_) rest) those
    ∙ ap (λ o. option_or (if is_some o then None else merge_cause a.asking a of_label) rest) e
    ∙ ap (λ as_. option_or (merge_cause a.asking a as_) rest) last ∙ or_cause a.asking a (labelled l asks ls) a rest ∙ ap (merge_cause a.asking a) (sym last)

pub refused_is_told : {A : Type 0} → Refused_is_told A
refused_is_told {A} e asks later ls more a l c as_many k t =
    let all : List (Ask A) = asks ++ a ∷ later in
    let those = those_before all (ls ++ l ∷ more) c asks later ls more a l as_many (sym (append_assoc asks (a ∷ []) later)) (sym (append_assoc ls (l ∷ []) more)) in
    record {
      before = asks;
      ask = a;
      later = later;
      are = refl;
      none_before = none_behind all (ls ++ l ∷ more) c asks (a ∷ later) ls (l ∷ more) k refl refl;
      tells = subst (λ (as_ : List (Ask A)). TellsUnmerged e (asked_in as_) (a.name, a.item)) (sym those) t;
    }
