-- The first of a list that cannot be written.
use Rattle.std.proofs.Common.{◌≡◌, ◌||◌, ℕ, zero, suc, Bool, true, false, true≢false, List, [], ◌∷◌, take, slice_get, Option, Some, None, string_bytes, refl, sym, ap, subst, ◌∙◌, if◌then◌else◌}
use Rattle.std.specs.List.{list_any}
use Rattle.std.proofs.lemmas.Option.{same_Some}
use Rattle.wac_types_base.specs.declared.item.ItemKind.{ItemKind}
use Rattle.wac_types_base.specs.Entries.{Name, with_values}
use Rattle.wac_types_base.specs.Stated.{Stated}
use Rattle.std.specs.Option.{option_or}
use Rattle.wac_composition.specs.Conflicts.{Cause, Unwritable, first_found}
use Rattle.wac_graph_causes.specs.declared.error.Unwritten.{Unwritten}
use Rattle.wac_graph_causes.specs.Unwritable.{TellsName, TellsUnwritable, first_unwritable}

-- the cause under this name, if it cannot be written
abbrev pub named_if : Bool → Name → Option (Cause ℕ)
named_if b n = if b then Some (Unwritable n) else None

-- ---- what is told

pub tells_named : (n : Name) (o : Option (Cause ℕ)) (e : Unwritten) → o ≡ named_if true n → TellsName n e → TellsUnwritable o e
tells_named n o (Unwritten.TypeCannotBeWritten m) is t = is ∙ ap (named_if true) (sym t)
tells_named n o Unwritten.Memory is t = tt

-- another cause that is the same where there is one
pub tells_same : (o p : Option (Cause ℕ)) (e : Unwritten) → ((c : Cause ℕ) → o ≡ Some c → p ≡ Some c) → TellsUnwritable o e → TellsUnwritable p e
tells_same o p (Unwritten.TypeCannotBeWritten m) h t = h (Unwritable (string_bytes m)) t
tells_same o p Unwritten.Memory h t = tt

-- ---- one cause before another

pub told_first : (o p : Option (Cause ℕ)) (e : Unwritten) → TellsUnwritable o e → TellsUnwritable (option_or o p) e
told_first o p e t = tells_same o (option_or o p) e (λ c at. ap (λ q. option_or q p) at) t

pub told_after : (o p : Option (Cause ℕ)) (e : Unwritten) → o ≡ None → TellsUnwritable p e → TellsUnwritable (option_or o p) e
told_after o p e none t = subst (λ q. TellsUnwritable q e) (sym (ap (λ q. option_or q p) none)) t

pub none_after : (o p : Option (Cause ℕ)) → o ≡ None → p ≡ None → option_or o p ≡ None
none_after o p none also = ap (λ q. option_or q p) none ∙ also

-- ---- one after another

module _ {X : Type 0} (f : X → Option (Cause ℕ)) (turn all : List X) (left : first_found f turn ≡ first_found f all) where
  pub cause_next : (x : X) (rest : List X) → turn ≡ x ∷ rest → f x ≡ None → first_found f rest ≡ first_found f all
  cause_next x rest is none = sym (ap (first_found f) is ∙ ap (λ o. option_or o (first_found f rest)) none) ∙ left

  pub cause_there : (x : X) (rest : List X) (e : Unwritten) → turn ≡ x ∷ rest → TellsUnwritable (f x) e → TellsUnwritable (first_found f all) e
  cause_there x rest e is t = tells_same (f x) (first_found f all) e (λ c at. sym left ∙ ap (first_found f) is ∙ ap (λ o. option_or o (first_found f rest)) at) t

  pub cause_nowhere : turn ≡ [] → first_found f all ≡ None
  cause_nowhere is = sym left ∙ ap (first_found f) is

-- ---- by a test

module _ (f : ItemKind → Stated) (q : Name × Stated → Bool) where
  abbrev pub fails : Name × ItemKind → Bool
  fails e = q (e.0, f e.1)

  pub none_fails : (xs : List (Name × ItemKind)) → list_any fails xs ≡ false → first_unwritable q (with_values f xs) ≡ None
  none_fails [] h = refl
  none_fails (x ∷ xs) h = go (fails x) h (none_fails xs)
    where
      go : (b : Bool) → (b || list_any fails xs) ≡ false → (list_any fails xs ≡ false → first_unwritable q (with_values f xs) ≡ None) → option_or (named_if b x.0) (first_unwritable q (with_values f xs)) ≡ None
      go true h later = absurd (true≢false h)
      go false h later = later h

  pub first_fails : (xs : List (Name × ItemKind)) (i : ℕ) (x : Name × ItemKind) → slice_get xs i ≡ Some x → fails x ≡ true → list_any fails (take i xs) ≡ false → first_unwritable q (with_values f xs) ≡ named_if true x.0
  first_fails [] i x at so before = absurd (cc at)
  first_fails (y ∷ ys) zero x at so before =
      let same : y ≡ x = same_Some y x at in
      ap (λ b. option_or (named_if b y.0) (first_unwritable q (with_values f ys))) (ap fails same ∙ so) ∙ ap (λ (e : Name × ItemKind). named_if true e.0) same
  first_fails (y ∷ ys) (suc i) x at so before = go (fails y) before (first_fails ys i x at so)
    where
      go : (b : Bool) → (b || list_any fails (take i ys)) ≡ false → (list_any fails (take i ys) ≡ false → first_unwritable q (with_values f ys) ≡ named_if true x.0) → option_or (named_if b y.0) (first_unwritable q (with_values f ys)) ≡ named_if true x.0
      go true h later = absurd (true≢false h)
      go false h later = later h
