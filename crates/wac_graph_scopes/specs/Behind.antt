-- Places that are put one after another, each behind those that it needs, but for one that waits for it.
use Rattle.std.specs.Prelude.{◌≡◌, ◌<◌, ℕ, zero, suc, Bool, true, ◌||◌, nat_eq, nat_le, List, [], ◌∷◌, ◌++◌, map, length, slice_get, unwrap_or, if◌then◌else◌}
use Rattle.std.specs.List.{fold, list_any, range_with_len}
use Rattle.std.specs.declared.alloc.Global.{Global}
use Rattle.std.specs.declared.vec.Vec.{Vec}
use Rattle.wac_types_base.specs.Graph.{Among}

-- whether the place is one of these
abbrev pub has_place : List ℕ → ℕ → Bool
has_place ns n = list_any (nat_eq n) ns

abbrev pub lists_of : List (Vec ℕ Global) → List (List ℕ)
lists_of vs = map (λ v. v.items) vs

-- of each place those that it needs are given
module _ (needs : List (List ℕ)) where
  abbrev pub needs_at : ℕ → List ℕ
  needs_at n = unwrap_or (slice_get needs n) []

  -- behind those that have their place: this one, behind those that it needs and for which it waits
  abbrev pub put : ℕ → (waiting ordered : List ℕ) → ℕ → List ℕ
  put zero ws ns n = ns
  put (suc k) ws ns n =
      if has_place ws n || has_place ns n || nat_le (length needs) n then ns else fold (put k (n ∷ ws)) ns (needs_at n) ++ n ∷ []

  -- and these, one after another
  abbrev pub put_each : (ordered places : List ℕ) → List ℕ
  put_each ns ks = fold (put (length needs) []) ns ks

  -- all places
  abbrev pub places_in_order : List ℕ
  places_in_order = put_each [] (range_with_len 0 (length needs))

  -- ---- what comes before

  -- each place that passes the test stands behind those places that it needs
  abbrev pub AreBehind : (ℕ → Bool) → List ℕ → Type 0
  AreBehind test ks = (before rest : List ℕ) (n m : ℕ) → ks ≡ before ++ n ∷ rest → test n ≡ true → Among m (needs_at n)
      → m < length needs → Among m before

  -- a place that passes the test needs such places alone, of lower rank
  abbrev pub Falls : (ℕ → Bool) → (ℕ → ℕ) → Type 0
  Falls test rank = (n m : ℕ) → test n ≡ true → Among m (needs_at n) → m < length needs → (test m ≡ true) × (rank m < rank n)

  -- among places that need each other in no circle each stands behind those that it needs
  abbrev pub IsBehindNeeds : List ℕ → Type 0
  IsBehindNeeds ks = (test : ℕ → Bool) (rank : ℕ → ℕ) → Falls test rank → AreBehind test ks
