-- Entries that are copied one by one.
use Rattle.std.proofs.Common.{◌≡◌, ℕ, ◌+◌, ◌≤◌, List, [], ◌∷◌, ◌++◌, length, take, Some, slice_get, sym, ap, subst, ◌∙◌}
use Rattle.wac_types_base.specs.Graph.{Among}
use Rattle.wac_types_base.specs.Entries.{Name, IsNew, names_of, AreDistinct}
use Rattle.wac_types_base.proofs.Looked.{distinct-before, take-one_more}
use Rattle.wac_types_base.proofs.Loops.{map-get, map-take, take-all}

module _ {T : Type 0} (es : List (Name × T)) (i : ℕ) (n : Name) (v : T) (at : slice_get es i ≡ Some (n, v)) where
  -- the name of an entry is not among those before it
  pub name_before : (names : List Name) → AreDistinct (names_of es) → names ≡ take i (names_of es) → Among n names → ⊥
  name_before names d is a = distinct-before (names_of es) i n d (map-get (λ e. e.0) es i (n, v) at) (subst (Among n) is a)

  pub new_in_copy : (m : Name) (copy : List (Name × T)) → AreDistinct (names_of es) → copy ≡ take i es → m ≡ n → IsNew m copy
  new_in_copy m copy d is same a = name_before (names_of copy) d (ap names_of is ∙ map-take (λ e. e.0) es i) (subst (λ x. Among x (names_of copy)) same a)

  pub one_more_copied : (m : Name) (copy after : List (Name × T)) → copy ≡ take i es → m ≡ n → after ≡ copy ++ (m, v) ∷ [] → after ≡ take (i + 1) es
  one_more_copied m copy after is same e = e ∙ ap (λ c. c ++ (m, v) ∷ []) is ∙ ap (λ x. take i es ++ (x, v) ∷ []) same ∙ sym (take-one_more es i (n, v) at)

pub all_copied : {T : Type 0} (es copy : List (Name × T)) (i : ℕ) → copy ≡ take i es → length es ≤ i → copy ≡ es
all_copied es copy i is le = is ∙ take-all es i le
