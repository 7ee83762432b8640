-- Where tokens end, a character ends.
use Rattle.std.proofs.Common.{◌≡◌, ℕ, ◌+◌, ◌<◌, inl, inr, Bool, true, ltb, List, [], ◌∷◌, ◌++◌, length, get_or, refl, ap, sym, subst, ◌∙◌, arith, append_assoc, length-append}
use Rattle.std.proofs.Math.Seq.{get_or-append_seam}
use Rattle.std.proofs.lemmas.Bool.Decides.{nat_tests}
use Rattle.std.proofs.lemmas.Str.{IsCharBoundary-after_ascii}
use Rattle.std.specs.Str.{IsUtf8, IsCharBoundary}
use Rattle.wac_parser_lexer.specs.Words.{is_lower, is_upper, is_digit, is_lower_word_byte, is_upper_word_byte, is_version_byte, Passes, IsRun, IsWord, Joined, one, more, Followed, Suffixed, IsLabel, IsIdent, IsNames, IsPath, IsVersion, IsPackageName, IsPackagePath, IsString, Inside, close, byte, comment, IsBlockComment}
use Rattle.wac_parser_lexer.proofs.WordLaws.{passes_run}

abbrev pub is_ascii : ℕ → Bool
is_ascii b = ltb b 128

abbrev pub Ascii : List ℕ → Type 0
Ascii = Passes is_ascii

-- the last byte is ASCII
pub record Ends (w : List ℕ) : Type 0 where
  pub front : List ℕ
  pub last : ℕ
  pub split : w ≡ front ++ last ∷ []
  pub small : last < 128

small_of : (b : ℕ) → is_ascii b ≡ true → b < 128
small_of b h = grind (arith, nat_tests)

ends_from : (b : ℕ) (w : List ℕ) → is_ascii b ≡ true → Ascii w → Ends (b ∷ w)
ends_from b [] e h = record { front = []; last = b; split = refl; small = small_of b e }
ends_from b (c ∷ w) e h =
    let r = ends_from c w h.0 h.1 in record { front = b ∷ r.front; last = r.last; split = ap (λ (l : List ℕ). b ∷ l) r.split; small = r.small }

pub ascii_ends : (w : List ℕ) → 0 < length w → Ascii w → Ends w
ascii_ends [] some h = absurd (omega arith)
ascii_ends (b ∷ w) some h = ends_from b w h.0 h.1

weaken : (p : ℕ → Bool) → ((b : ℕ) → p b ≡ true → is_ascii b ≡ true) → (w : List ℕ) → Passes p w → Ascii w
weaken p h [] k = tt
weaken p h (b ∷ w) k = (h b k.0, weaken p h w k.1)

lower_ascii : (b : ℕ) → is_lower b ≡ true → is_ascii b ≡ true
lower_ascii b h = grind (arith, nat_tests)

upper_ascii : (b : ℕ) → is_upper b ≡ true → is_ascii b ≡ true
upper_ascii b h = grind (arith, nat_tests)

digit_ascii : (b : ℕ) → is_digit b ≡ true → is_ascii b ≡ true
digit_ascii b h = grind (arith, nat_tests)

lower_word_ascii : (b : ℕ) → is_lower_word_byte b ≡ true → is_ascii b ≡ true
lower_word_ascii b h = grind (arith, nat_tests)

upper_word_ascii : (b : ℕ) → is_upper_word_byte b ≡ true → is_ascii b ≡ true
upper_word_ascii b h = grind (arith, nat_tests)

version_ascii : (b : ℕ) → is_version_byte b ≡ true → is_ascii b ≡ true
version_ascii b h = grind (arith, nat_tests)

append_ascii : (v w : List ℕ) → Ascii v → Ascii w → Ascii (v ++ w)
append_ascii [] w h k = k
append_ascii (b ∷ v) w h k = (h.0, append_ascii v w h.1 k)

word_ascii : (w : List ℕ) → IsWord w → Ascii w
word_ascii [] h = absurd h
word_ascii (c ∷ cs) (inl h) = (lower_ascii c h.0, weaken is_lower_word_byte lower_word_ascii cs h.1)
word_ascii (c ∷ cs) (inr h) = (upper_ascii c h.0, weaken is_upper_word_byte upper_word_ascii cs h.1)

run_ascii : (p : ℕ → Bool) → ((b : ℕ) → p b ≡ true → is_ascii b ≡ true) → (w : List ℕ) → IsRun p w → Ascii w
run_ascii p h w k = weaken p h w (passes_run p w k)

module _ (joint : ℕ) (L : List ℕ → Type 0) (small : is_ascii joint ≡ true) (all : (w : List ℕ) → L w → Ascii w) where
  joined_ascii : (w : List ℕ) → Joined L joint w → Ascii w
  joined_ascii _ (one {w = w} h) = all w h
  joined_ascii _ (more {w = v} {ws = ws} h j) = append_ascii v (joint ∷ ws) (all v h) (small, joined_ascii ws j)

  followed_ascii : (M : List ℕ → Type 0) → ((w : List ℕ) → M w → Ascii w) → (w : List ℕ) → Followed L joint M w → Ascii w
  followed_ascii M behind w h = let P : List ℕ → Type 0 = Ascii in subst P (sym h.4) (append_ascii h.0 (joint ∷ h.1) (all h.0 h.2) (small, behind h.1 h.3))

  suffixed_ascii : (M : List ℕ → Type 0) → ((w : List ℕ) → M w → Ascii w) → (w : List ℕ) → Suffixed L joint M w → Ascii w
  suffixed_ascii M behind w (inl h) = all w h
  suffixed_ascii M behind w (inr h) = followed_ascii M behind w h

label_ascii : (w : List ℕ) → IsLabel w → Ascii w
label_ascii = joined_ascii 45 IsWord refl word_ascii

pub ident_ascii : (w : List ℕ) → IsIdent w → Ascii w
ident_ascii w (inl h) = label_ascii w h
ident_ascii w (inr h) = let P : List ℕ → Type 0 = Ascii in subst P (sym h.2) (refl, label_ascii h.0 h.1)

names_ascii : (w : List ℕ) → IsNames w → Ascii w
names_ascii = followed_ascii 58 IsIdent refl ident_ascii (Joined IsIdent 58) (joined_ascii 58 IsIdent refl ident_ascii)

path_ascii : (w : List ℕ) → IsPath w → Ascii w
path_ascii = followed_ascii 47 IsNames refl names_ascii (Joined IsIdent 47) (joined_ascii 47 IsIdent refl ident_ascii)

version_text_ascii : (w : List ℕ) → IsVersion w → Ascii w
version_text_ascii = suffixed_ascii 46 (IsRun is_digit) refl (run_ascii is_digit digit_ascii) (Joined (IsRun is_version_byte) 46) (joined_ascii 46 (IsRun is_version_byte) refl (run_ascii is_version_byte version_ascii))

pub package_name_ascii : (w : List ℕ) → IsPackageName w → Ascii w
package_name_ascii = suffixed_ascii 64 IsNames refl names_ascii IsVersion version_text_ascii

pub package_path_ascii : (w : List ℕ) → IsPackagePath w → Ascii w
package_path_ascii = suffixed_ascii 64 IsPath refl path_ascii IsVersion version_text_ascii

pub string_ends : (w : List ℕ) → IsString w → Ends w
string_ends w h = record { front = 34 ∷ h.0; last = 34; split = h.2; small = omega arith }

before : (b : ℕ) (w : List ℕ) → Ends w → Ends (b ∷ w)
before b w h = record { front = b ∷ h.front; last = h.last; split = ap (λ (l : List ℕ). b ∷ l) h.split; small = h.small }

append_ends : (v w : List ℕ) → Ends w → Ends (v ++ w)
append_ends [] w h = h
append_ends (b ∷ v) w h = before b (v ++ w) (append_ends v w h)

inside_ends : (w : List ℕ) → Inside w → Ends w
inside_ends _ close = record { front = 42 ∷ []; last = 47; split = refl; small = omega arith }
inside_ends _ (byte {b = b} {c = c} {w = w} h k is) = before b (c ∷ w) (inside_ends (c ∷ w) is)
inside_ends _ (comment {v = v} {w = w} h k) = before 47 (42 ∷ (v ++ w)) (before 42 (v ++ w) (append_ends v w (inside_ends w k)))

pub block_ends : (w : List ℕ) → IsBlockComment w → Ends w
block_ends w h = let P : List ℕ → Type 0 = Ends in subst P (sym h.2) (before 47 (42 ∷ h.0) (before 42 h.0 (inside_ends h.0 h.1)))

-- the place behind a front that ends with an ASCII byte
pub place_behind : (w rest : List ℕ) → Ends w → IsUtf8 (w ++ rest) → IsCharBoundary (w ++ rest) (length w)
place_behind w rest h u =
    let whole : w ++ rest ≡ h.front ++ h.last ∷ rest = ap (λ (y : List ℕ). y ++ rest) h.split ∙ append_assoc h.front (h.last ∷ []) rest in
    let value : get_or (w ++ rest) (length h.front) 0 ≡ h.last = ap (λ (y : List ℕ). get_or y (length h.front) 0) whole ∙ get_or-append_seam h.front h.last rest 0 in
    let size : length h.front + 1 ≡ length w = omega (arith, ap length h.split, length-append h.front (h.last ∷ [])) in
    let few : length h.front < length (w ++ rest) = omega (arith, size, length-append w rest) in
    let small : get_or (w ++ rest) (length h.front) 0 < 128 = omega (arith, value, h.small) in
    subst (IsCharBoundary (w ++ rest)) size (IsCharBoundary-after_ascii (w ++ rest) (length h.front) u few small)
