-- Asks that are listed once have the classes of all.
use Rattle.std.proofs.Common.{◌≡◌, List, [], ◌∷◌, ◌++◌, refl, sym, ap, subst, ◌∙◌, inl, inr, append_assoc}
use Rattle.wac_types_base.specs.Graph.{Among}
use Rattle.wac_types_base.proofs.Adding.{Among-left, Among-right}
use Rattle.wac_types_merge.specs.declared.error.AggregateError.{AggregateError}
use Rattle.wac_composition.specs.Asks.{Ask}
use Rattle.wac_composition.specs.Again.{IsWell, KeepsClasses}
use Rattle.wac_composition.specs.OuterImports.{outer_imports}
use Rattle.wac_composition.specs.Conflicts.{merge_conflict}
use Rattle.wac_composition.proofs.AskedAgain.{asked_again}
use Rattle.wac_composition.proofs.OutersAgain.{outers_again}
use Rattle.wac_composition.proofs.Clashing.{among_append}
use Rattle.wac_merging.specs.Unmerged.{TellsConflict}
use Rattle.wac_merging.proofs.Repeated.{repeated_conflicts_no_more, repeated_is_told}
use Rattle.wac_graph_asks.proofs.Repeating.{listed_among}
use Rattle.wac_graph_asks.specs.Asked.{IsAskedBehind, no_more, asked, left_out, Asked_once_keeps, Asked_once_imports, Asked_once_conflicts, Asked_once_tells}

module _ {A : Type 0} where
  keeps_itself : (xs : List (Ask A)) → KeepsClasses xs xs
  keeps_itself xs = record { classes = λ c d m n. (λ h. h, λ h. h); kept = λ c m. refl; spelled = λ n. refl }

  keeps_then : (xs ys zs : List (Ask A)) → ((c : Ask A) → Among c xs → Among c ys) → KeepsClasses xs ys → KeepsClasses ys zs → KeepsClasses xs zs
  keeps_then xs ys zs inside p q = record {
    classes = λ c d m n. (
      λ h. (p.classes c d m n).0 ((q.classes c d (inside c m) (inside d n)).0 h),
      λ h. (q.classes c d (inside c m) (inside d n)).1 ((p.classes c d m n).1 h),
    );
    kept = λ c m. q.kept c (inside c m) ∙ p.kept c m;
    spelled = λ n. q.spelled n ∙ p.spelled n;
  }

  keeps_behind : {before asks list : List (Ask A)} → IsAskedBehind before asks list → ((a : Ask A) → Among a (before ++ list) → IsWell a.item) → KeepsClasses (before ++ list) (before ++ asks)
  keeps_behind {before} no_more well = keeps_itself (before ++ [])
  keeps_behind {before} (asked {asks = asks} {list = list} a h) well =
      subst (λ l. KeepsClasses l (before ++ a ∷ asks)) (append_assoc before (a ∷ []) list)
      (subst (λ l. KeepsClasses ((before ++ a ∷ []) ++ list) l) (append_assoc before (a ∷ []) asks)
      (keeps_behind h (λ x m. well x (subst (λ l. Among x l) (append_assoc before (a ∷ []) list) m))))
  keeps_behind {before} (left_out {asks = asks} {list = list} a b o e n i h) well =
      keeps_then (before ++ list) (before ++ asks) (before ++ a ∷ asks)
      (λ c m. elim (among_append before list c m) [ inl k ↦ Among-left c before asks k | inr k ↦ Among-right c before asks (listed_among h c k) ])
      (keeps_behind h well) (asked_again before asks a b e n i (λ c k. well c (Among-left c before list k)))

  pub asked_once_keeps : Asked_once_keeps A
  asked_once_keeps asks list h well = keeps_behind h well

  imports_behind : {before asks list : List (Ask A)} → IsAskedBehind before asks list → ((a : Ask A) → Among a (before ++ list) → IsWell a.item) → outer_imports (before ++ asks) ≡ outer_imports (before ++ list)
  imports_behind no_more well = refl
  imports_behind {before} (asked {asks = asks} {list = list} a h) well =
      ap outer_imports (sym (append_assoc before (a ∷ []) asks)) ∙ imports_behind h (λ x m. well x (subst (λ l. Among x l) (append_assoc before (a ∷ []) list) m)) ∙ ap outer_imports (append_assoc before (a ∷ []) list)
  imports_behind {before} (left_out {asks = asks} {list = list} a b o e n i h) well = outers_again before asks a b e n i o (λ c k. well c (Among-left c before list k)) ∙ imports_behind h well

  pub asked_once_imports : Asked_once_imports A
  asked_once_imports asks list h well = imports_behind h well

  conflicts_behind : {before asks list : List (Ask A)} → IsAskedBehind before asks list → ((a : Ask A) → Among a (before ++ list) → IsWell a.item)
      → merge_conflict (before ++ asks) [] (before ++ asks) ≡ merge_conflict (before ++ list) [] (before ++ list)
  conflicts_behind no_more well = refl
  conflicts_behind {before} (asked {asks = asks} {list = list} a h) well =
      ap (λ xs. merge_conflict xs [] xs) (sym (append_assoc before (a ∷ []) asks)) ∙ conflicts_behind h (λ x m. well x (subst (λ l. Among x l) (append_assoc before (a ∷ []) list) m))
      ∙ ap (λ xs. merge_conflict xs [] xs) (append_assoc before (a ∷ []) list)
  conflicts_behind {before} (left_out {asks = asks} {list = list} a b o e n i h) well = repeated_conflicts_no_more before asks a b e n i (λ c k. well c (Among-left c before list k)) ∙ conflicts_behind h well

  pub asked_once_conflicts : Asked_once_conflicts A
  asked_once_conflicts asks list h well = conflicts_behind h well

  tells_behind : (e : AggregateError) {before asks list : List (Ask A)} → IsAskedBehind before asks list → ((a : Ask A) → Among a (before ++ list) → IsWell a.item) → TellsConflict e (before ++ list) → TellsConflict e (before ++ asks)
  tells_behind e no_more well t = t
  tells_behind e {before} (asked {asks = asks} {list = list} a h) well t =
      subst (TellsConflict e) (append_assoc before (a ∷ []) asks) (tells_behind e h (λ x m. well x (subst (λ l. Among x l) (append_assoc before (a ∷ []) list) m)) (subst (TellsConflict e) (sym (append_assoc before (a ∷ []) list)) t))
  tells_behind e {before} (left_out {asks = asks} {list = list} a b o m n i h) well t = repeated_is_told e before asks a b m n i (λ c k. well c (Among-left c before list k)) (tells_behind e h well t)

  pub asked_once_tells : Asked_once_tells A
  asked_once_tells e asks list h well t = tells_behind e h well t
