-- A value that is written through a reference.
use Rattle.std.proofs.Common.{◌≡◌, ℕ, suc, ◌+◌, Bool, true, false, List, [], ◌∷◌, length, refl, sym, ap, ◌∙◌, subst, arith}
use Rattle.std.specs.Prelude.{Option, Some, None, is_some, cond, position, nat_lt}
use Rattle.std.specs.List.{position_or_len}
use Rattle.std.specs.Map.{lookup, keys_of}
use Rattle.indexmap.specs.Layout.{set_value_at, length-set_value_at}
use Rattle.wac_types_names.specs.declared.spelling.Spelling.{Spelling}
use Rattle.wac_types_names.specs.NameMaps.{Entry, put_value}
use Rattle.wac_types_names.specs.Spellings.{entries_with, IsKept}

place_is : {K : Type 0} (p : K → Bool) (ks : List K) (i : ℕ) → Some i ≡ position p ks → i ≡ position_or_len p ks
place_is p ks i e = by (nat_lt (position_or_len p ks) (length ks)) e
  where
    by : (b : Bool) → Some i ≡ cond b (Some (position_or_len p ks)) None → i ≡ position_or_len p ks
    by true e = cc e
    by false e = absurd (cc e)

module _ {K V : Type 0} where
  pub kept-set : (ss : List Spelling) (es : List (K × V)) (i : ℕ) (w : V) → IsKept ss es → IsKept ss (set_value_at es i w)
  kept-set ss es i w h = record { lengths = h.lengths ∙ sym (length-set_value_at es i w); read = h.read }

  one_more : (es : List (K × V)) (e : K × V) (n : ℕ) (w : V) → set_value_at (e ∷ es) (1 + n) w ≡ e ∷ set_value_at es n w
  one_more es e n w =
      let k : 1 + n ≡ suc n = omega arith in
      ap (λ (m : ℕ). set_value_at (e ∷ es) m w) k

  set-first : (eq : K → K → Bool) (k : K) (w : V) (ss : List Spelling) (es : List (K × V)) → length ss ≡ length es → entries_with ss (set_value_at es (position_or_len (eq k) (keys_of es)) w) ≡ put_value eq (entries_with ss es) k w
  set-first eq k w [] [] l = refl
  set-first eq k w [] (e ∷ es) l = absurd (omega arith)
  set-first eq k w (s ∷ ss) [] l = absurd (omega arith)
  set-first eq k w (s ∷ ss) (e ∷ es) l = by (eq k e.0) refl (set-first eq k w ss es (omega arith))
    where
      by : (b : Bool) → eq k e.0 ≡ b → entries_with ss (set_value_at es (position_or_len (eq k) (keys_of es)) w) ≡ put_value eq (entries_with ss es) k w
          → entries_with (s ∷ ss) (set_value_at (e ∷ es) (position_or_len (eq k) (keys_of (e ∷ es))) w) ≡ put_value eq (entries_with (s ∷ ss) (e ∷ es)) k w
      by true t h = rw t refl
      by false t h = rw (t, one_more es e (position_or_len (eq k) (keys_of es)) w) (ap (λ (r : List (Entry K V)). (s.name, e.0, e.1) ∷ r) h)

  -- the value at the place of a key
  pub set-place : (eq : K → K → Bool) (k : K) (i : ℕ) (ss : List Spelling) (es : List (K × V)) → length ss ≡ length es → Some i ≡ position (eq k) (keys_of es) → (w : V) → entries_with ss (set_value_at es i w) ≡ put_value eq (entries_with ss es) k w
  set-place eq k i ss es l e w = ap (λ (n : ℕ). entries_with ss (set_value_at es n w)) (place_is (eq k) (keys_of es) i e) ∙ set-first eq k w ss es l

none_of : {V : Type 0} (o : Option V) → false ≡ is_some o → None ≡ o
none_of None e = refl
none_of (Some v) e = absurd (cc e)

pub no_value : {K V : Type 0} (p : K → Bool) (es fs : List (K × V)) (r : Option ℕ) → es ≡ fs → r ≡ None → is_some r ≡ is_some (lookup p es) → None ≡ lookup p fs
no_value p es fs r same n is = subst (λ t. None ≡ lookup p t) same (none_of (lookup p es) (sym (ap is_some n) ∙ is))
