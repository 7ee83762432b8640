-- Lines and characters, byte by byte.
use Rattle.std.proofs.Common.{◌≡◌, ℕ, ◌+◌, Bool, true, false, cond, List, [], ◌∷◌, ◌++◌, take, drop, length, reverse, filter, slice_get, Some, refl, ap, ◌∙◌, arith}
use Rattle.std.proofs.lemmas.List.{reverse-append}
use Rattle.wac_types_base.proofs.Looked.{take-one_more}
use Rattle.wac_types_base.proofs.Used.{drop_next}
use Rattle.wac_texts.specs.Places.{begins_character, is_newline, newlines, characters, first_line, behind_newline}

count_pick : (t : Bool) (x : ℕ) (ys : List ℕ) → length (cond t (x ∷ ys) ys) ≡ cond t 1 0 + length ys
count_pick true x ys = omega arith
count_pick false x ys = omega arith

count_one : (p : ℕ → Bool) (x : ℕ) (xs : List ℕ) → length (filter p (x ∷ xs)) ≡ cond (p x) 1 0 + length (filter p xs)
count_one p x xs = count_pick (p x) x (filter p xs)

count_end : (p : ℕ → Bool) (xs : List ℕ) (x : ℕ) → length (filter p (xs ++ x ∷ [])) ≡ length (filter p xs) + cond (p x) 1 0
count_end p [] x = omega (arith, count_one p x [])
count_end p (y ∷ ys) x = omega (arith, count_one p y ys, count_one p y (ys ++ x ∷ []), count_end p ys x)

-- ---- one byte more

newlines_end : (xs : List ℕ) (x : ℕ) → newlines (xs ++ x ∷ []) ≡ newlines xs + cond (is_newline x) 1 0
newlines_end xs x = count_end is_newline xs x

behind_end : (xs : List ℕ) (x : ℕ) → behind_newline (xs ++ x ∷ []) ≡ characters (first_line (x ∷ reverse xs))
behind_end xs x = ap (λ l. characters (first_line l)) (reverse-append xs (x ∷ []))

behind_in : (xs : List ℕ) (x : ℕ) → is_newline x ≡ false → characters (first_line (x ∷ reverse xs)) ≡ cond (begins_character x) 1 0 + behind_newline xs
behind_in xs x other = rw other (count_one begins_character x (first_line (reverse xs)))

behind_at : (xs : List ℕ) (x : ℕ) → is_newline x ≡ true → characters (first_line (x ∷ reverse xs)) ≡ 0
behind_at xs x is = rw is refl

-- ---- along a text

module _ (text : List ℕ) (i b : ℕ) (at : slice_get text i ≡ Some b) where
  pub line_next : newlines (take (i + 1) text) ≡ newlines (take i text) + cond (is_newline b) 1 0
  line_next = ap newlines (take-one_more text i b at) ∙ newlines_end (take i text) b

  pub column_next : is_newline b ≡ false → behind_newline (take (i + 1) text) ≡ behind_newline (take i text) + cond (begins_character b) 1 0
  column_next other = let e = ap behind_newline (take-one_more text i b at) ∙ behind_end (take i text) b ∙ behind_in (take i text) b other in omega (arith, e)

  pub column_new : is_newline b ≡ true → behind_newline (take (i + 1) text) ≡ 0
  column_new is = ap behind_newline (take-one_more text i b at) ∙ behind_end (take i text) b ∙ behind_at (take i text) b is

  -- ---- what is left of the first line

  pub first_next : is_newline b ≡ false → characters (first_line (drop i text)) ≡ cond (begins_character b) 1 0 + characters (first_line (drop (i + 1) text))
  first_next other = ap (λ l. characters (first_line l)) (drop_next text i b at) ∙ rw other (count_one begins_character b (first_line (drop (i + 1) text)))

  pub first_ends : is_newline b ≡ true → characters (first_line (drop i text)) ≡ 0
  first_ends is = ap (λ l. characters (first_line l)) (drop_next text i b at) ∙ rw is refl
