-- The scans of words, labels, identifiers, names, paths and versions are the longest fronts of their kind.
use Rattle.std.proofs.Common.{◌≡◌, ◌≢◌, ℕ, zero, suc, ◌<◌, ◌≤◌, inl, inr, Bool, true, false, eqb, List, [], ◌∷◌, ◌++◌, length, get_or, refl, ap, sym, ◌∙◌, arith}
use Rattle.std.proofs.lemmas.Bool.{eqb-true}
use Rattle.std.proofs.lemmas.Bool.Decides.{nat_tests}
use Rattle.std.specs.List.{prefix_len, AllByRecursion}
use Rattle.wac_parser_lexer.specs.Words.{is_lower, is_upper, is_digit, is_lower_word_byte, is_upper_word_byte, is_version_byte, Passes, IsRun, IsWord, Joined, one, more, Followed, IsLabel, IsIdent, IsNames, IsPath, IsVersion, IsPackageName, IsPackagePath}
use Rattle.wac_parser_lexer.specs.Scan.{word_len, label_len, ident_len, idents_len, names_len, path_len, version_parts_len, version_len, package_name_len, package_path_len}
use Rattle.wac_parser_lexer.specs.Longest.{IsLongest}
use Rattle.wac_parser_lexer.proofs.FirstLaws.{apart}
use Rattle.wac_parser_lexer.proofs.Joins.{joined_longest, tested, longest_fits}
use Rattle.wac_parser_lexer.proofs.Suffixes.{followed_longest, suffixed_longest}
use Rattle.wac_parser_lexer.proofs.BlockPieceLaws.{positive}

module _ (p : ℕ → Bool) where
  abbrev pub Run : List ℕ → Type 0
  Run z = (w : List ℕ) × (rest : List ℕ) × (z ≡ w ++ rest) × (length w ≡ prefix_len p z) × Passes p w

  run_by : (b : ℕ) (z : List ℕ) → Run z → (t : Bool) → p b ≡ t → Run (b ∷ z)
  run_by b z r true e = (b ∷ r.0, r.1, ap (λ (l : List ℕ). b ∷ l) r.2, rw e (omega (arith, r.3)), (e, r.4))
  run_by b z r false e = ([], b ∷ z, refl, rw e refl, tt)

  -- the bytes at the front that pass
  pub run : (z : List ℕ) → Run z
  run [] = ([], [], refl, refl, tt)
  run (b ∷ z) = run_by b z (run z) (p b) refl

  pub run_greatest : (w rest : List ℕ) → Passes p w → length w ≤ prefix_len p (w ++ rest)
  run_greatest [] rest h = omega arith
  run_greatest (b ∷ w) rest h = rw h.0 (omega (arith, run_greatest w rest h.1))

  run_of : (w : List ℕ) → 0 < length w → Passes p w → IsRun p w
  run_of [] some h = absurd (omega arith)
  run_of (c ∷ cs) some h = h

  run_by_parts : (z : List ℕ) → 0 < prefix_len p z → Run z → (w : List ℕ) × (rest : List ℕ) × (z ≡ w ++ rest) × (length w ≡ prefix_len p z) × IsRun p w
  run_by_parts z h r = (r.0, r.1, r.2, r.3, run_of r.0 (omega (arith, r.3)) r.4)

  pub passes_run : (w : List ℕ) → IsRun p w → Passes p w
  passes_run [] h = absurd h
  passes_run (c ∷ cs) h = h

  run_greatest_some : (w rest : List ℕ) → IsRun p w → length w ≤ prefix_len p (w ++ rest)
  run_greatest_some w rest h = run_greatest w rest (passes_run w h)

  run_found : (z : List ℕ) → 0 < prefix_len p z → (w : List ℕ) × (rest : List ℕ) × (z ≡ w ++ rest) × (length w ≡ prefix_len p z) × IsRun p w
  run_found z h = run_by_parts z h (run z)

  run_some : (w : List ℕ) → IsRun p w → 0 < length w
  run_some [] h = absurd h
  run_some (c ∷ cs) h = omega arith

  -- one or more bytes that pass
  pub run_longest : IsLongest (IsRun p) (prefix_len p)
  run_longest = record { found = run_found; greatest = run_greatest_some; some = run_some }

upper_not_lower : (b : ℕ) → is_upper b ≡ true → is_lower b ≡ false
upper_not_lower b h = grind (arith, nat_tests)

abbrev WordFound : List ℕ → Type 0
WordFound z = (w : List ℕ) × (rest : List ℕ) × (z ≡ w ++ rest) × (length w ≡ word_len z) × IsWord w

found_by : (c : ℕ) (cs : List ℕ) → 0 < word_len (c ∷ cs) → (l u : Bool) → is_lower c ≡ l → is_upper c ≡ u → WordFound (c ∷ cs)
unfolding word_len
found_by c cs h true u e f =
    let r = run is_lower_word_byte cs in
    (c ∷ r.0, r.1, ap (λ (l : List ℕ). c ∷ l) r.2, rw e (omega (arith, r.3)), inl (e, r.4))
found_by c cs h false true e f =
    let r = run is_upper_word_byte cs in
    (c ∷ r.0, r.1, ap (λ (l : List ℕ). c ∷ l) r.2, rw (e, f) (omega (arith, r.3)), inr (f, r.4))
found_by c cs h false false e f = let none : word_len (c ∷ cs) ≡ 0 = rw (e, f) refl in absurd (omega (arith, none))

word_found : (z : List ℕ) → 0 < word_len z → WordFound z
unfolding word_len
word_found [] h = absurd (omega arith)
word_found (c ∷ cs) h = found_by c cs h (is_lower c) (is_upper c) refl refl

word_greatest : (w rest : List ℕ) → IsWord w → length w ≤ word_len (w ++ rest)
unfolding word_len
word_greatest [] rest h = absurd h
word_greatest (c ∷ cs) rest (inl h) = rw h.0 (omega (arith, run_greatest is_lower_word_byte cs rest h.1))
word_greatest (c ∷ cs) rest (inr h) = rw (upper_not_lower c h.0, h.0) (omega (arith, run_greatest is_upper_word_byte cs rest h.1))

pub word_some : (w : List ℕ) → IsWord w → 0 < length w
word_some [] h = absurd h
word_some (c ∷ cs) h = omega arith

pub word_longest : IsLongest IsWord word_len
word_longest = record { found = word_found; greatest = word_greatest; some = word_some }

-- ---- bytes that do not stand in a word

abbrev pub Lacks : ℕ → List ℕ → Type 0
Lacks x w = (i : ℕ) → i < length w → get_or w i 0 ≢ x

lacks_by : (x : ℕ) (p : ℕ → Bool) → p x ≡ false → (w : List ℕ) → AllByRecursion (λ b. p b ≡ true) w → Lacks x w
lacks_by x p refused [] h i l = absurd (omega arith)
lacks_by x p refused (b ∷ w) h zero l = λ e. (let a = ap p e in cc)
lacks_by x p refused (b ∷ w) h (suc i) l = lacks_by x p refused w h.1 i (omega arith)

pub lacks_front : (x c : ℕ) (cs : List ℕ) → c ≢ x → Lacks x cs → Lacks x (c ∷ cs)
lacks_front x c cs h k zero l = h
lacks_front x c cs h k (suc i) l = k i (omega arith)

word_lacks : (x : ℕ) → is_lower_word_byte x ≡ false → is_upper_word_byte x ≡ false → is_lower x ≡ false → is_upper x ≡ false → (w : List ℕ) → IsWord w → Lacks x w
word_lacks x a b c d [] h = absurd h
word_lacks x a b c d (f ∷ w) (inl h) = lacks_front x f w (λ e. (let g = ap is_lower e in cc)) (lacks_by x is_lower_word_byte a w h.1)
word_lacks x a b c d (f ∷ w) (inr h) = lacks_front x f w (λ e. (let g = ap is_upper e in cc)) (lacks_by x is_upper_word_byte b w h.1)

pub append_lacks : (x : ℕ) (v w : List ℕ) → Lacks x v → Lacks x w → Lacks x (v ++ w)
append_lacks x [] w h k = k
append_lacks x (b ∷ v) w h k = lacks_front x b (v ++ w) (h zero (omega arith)) (append_lacks x v w (λ i l. h (suc i) (omega arith)) k)

pub joined_lacks : (x joint : ℕ) (L : List ℕ → Type 0) → ((w : List ℕ) → L w → Lacks x w) → joint ≢ x → (w : List ℕ) → Joined L joint w → Lacks x w
joined_lacks x joint L h apart _ (one {w = w} is) = h w is
joined_lacks x joint L h apart _ (more {w = v} {ws = ws} is j) = append_lacks x v (joint ∷ ws) (h v is) (lacks_front x joint ws apart (joined_lacks x joint L h apart ws j))

pub word_fits : (z : List ℕ) → word_len z ≤ length z
word_fits z = longest_fits IsWord word_len word_longest z

pub label_longest : IsLongest IsLabel label_len
unfolding label_len
label_longest = joined_longest IsWord word_len 45 word_longest (word_lacks 45 refl refl refl refl)

label_lacks_colon : (w : List ℕ) → IsLabel w → Lacks 58 w
label_lacks_colon = joined_lacks 58 45 IsWord (word_lacks 58 refl refl refl refl) (λ e. omega arith)

pub ident_lacks_colon : (w : List ℕ) → IsIdent w → Lacks 58 w
ident_lacks_colon w (inl h) = label_lacks_colon w h
ident_lacks_colon w (inr h) = rw h.2 (lacks_front 58 37 h.0 (λ e. omega arith) (label_lacks_colon h.0 h.1))

-- ---- identifiers

abbrev IdentFound : List ℕ → Type 0
IdentFound z = (w : List ℕ) × (rest : List ℕ) × (z ≡ w ++ rest) × (length w ≡ ident_len z) × IsIdent w

at_percent : (z : List ℕ) → 0 < label_len z → ident_len (37 ∷ z) ≡ suc (label_len z)
unfolding ident_len
at_percent z h = rw (positive (label_len z) h) refl

pub elsewhere : (b : ℕ) (z : List ℕ) → eqb b 37 ≡ false → ident_len (b ∷ z) ≡ label_len (b ∷ z)
unfolding ident_len
elsewhere b z e = rw e refl

behind_percent : (b : ℕ) (z : List ℕ) → b ≡ 37 → 0 < ident_len (b ∷ z) → 0 < label_len z
unfolding ident_len
behind_percent b z e h = let k : 0 < ident_len (37 ∷ z) = rw e at h in tested (label_len z) (suc (label_len z)) k

ident_by : (b : ℕ) (z : List ℕ) → 0 < ident_len (b ∷ z) → (t : Bool) → eqb b 37 ≡ t → IdentFound (b ∷ z)
ident_by b z h true e =
    let same : b ≡ 37 = eqb-true b 37 e in
    let l = behind_percent b z same h in
    let f = label_longest.found z l in (
      37 ∷ f.0,
      f.1,
      ap (λ c. c ∷ z) same ∙ ap (λ (y : List ℕ). 37 ∷ y) f.2,
      omega (arith, f.3, at_percent z l, ap (λ c. ident_len (c ∷ z)) same),
      inr (f.0, f.4, refl),
    )
ident_by b z h false e =
    let f = label_longest.found (b ∷ z) (omega (arith, elsewhere b z e)) in (f.0, f.1, f.2, f.3 ∙ sym (elsewhere b z e), inl f.4)

ident_found : (z : List ℕ) → 0 < ident_len z → IdentFound z
unfolding ident_len
ident_found [] h = absurd (omega arith)
ident_found (b ∷ z) h = ident_by b z h (eqb b 37) refl

label_lacks_percent : (w : List ℕ) → IsLabel w → Lacks 37 w
label_lacks_percent = joined_lacks 37 45 IsWord (word_lacks 37 refl refl refl refl) (λ e. omega arith)

ident_greatest : (w rest : List ℕ) → IsIdent w → length w ≤ ident_len (w ++ rest)
unfolding ident_len
ident_greatest [] rest (inl h) = absurd (let s = label_longest.some [] h in omega (arith, s))
ident_greatest (c ∷ cs) rest (inl h) =
    let other : eqb c 37 ≡ false = apart c 37 (label_lacks_percent (c ∷ cs) h zero (omega arith)) in
    rw other (label_longest.greatest (c ∷ cs) rest h)
ident_greatest w rest (inr h) =
    let ge = label_longest.greatest h.0 rest h.1 in
    let some = label_longest.some h.0 h.1 in
    rw h.2 (rw (positive (label_len (h.0 ++ rest)) (omega (arith, ge, some))) (omega (arith, ge)))

ident_some : (w : List ℕ) → IsIdent w → 0 < length w
ident_some w (inl h) = label_longest.some w h
ident_some w (inr h) = rw h.2 (omega arith)

pub ident_longest : IsLongest IsIdent ident_len
ident_longest = record { found = ident_found; greatest = ident_greatest; some = ident_some }

-- identifiers joined by a byte that no identifier has
pub idents_longest : (joint : ℕ) → ((w : List ℕ) → IsIdent w → Lacks joint w) → IsLongest (Joined IsIdent joint) (idents_len joint)
unfolding idents_len
idents_longest joint apart = joined_longest IsIdent ident_len joint ident_longest apart

label_lacks : (x : ℕ) → is_lower_word_byte x ≡ false → is_upper_word_byte x ≡ false → is_lower x ≡ false → is_upper x ≡ false → 45 ≢ x → (w : List ℕ) → IsLabel w → Lacks x w
label_lacks x a b c d e = joined_lacks x 45 IsWord (word_lacks x a b c d) e

ident_lacks : (x : ℕ) → is_lower_word_byte x ≡ false → is_upper_word_byte x ≡ false → is_lower x ≡ false → is_upper x ≡ false → 45 ≢ x → 37 ≢ x → (w : List ℕ) → IsIdent w → Lacks x w
ident_lacks x a b c d e f w (inl h) = label_lacks x a b c d e w h
ident_lacks x a b c d e f w (inr h) = rw h.2 (lacks_front x 37 h.0 f (label_lacks x a b c d e h.0 h.1))

pub ident_lacks_slash : (w : List ℕ) → IsIdent w → Lacks 47 w
ident_lacks_slash = ident_lacks 47 refl refl refl refl (λ e. omega arith) (λ e. omega arith)

pub ident_lacks_at : (w : List ℕ) → IsIdent w → Lacks 64 w
ident_lacks_at = ident_lacks 64 refl refl refl refl (λ e. omega arith) (λ e. omega arith)

-- what follows lacks a byte where both parts and the joint do
pub followed_lacks : (x joint : ℕ) (L M : List ℕ → Type 0) → ((w : List ℕ) → L w → Lacks x w) → ((w : List ℕ) → M w → Lacks x w) → joint ≢ x → (w : List ℕ) → Followed L joint M w → Lacks x w
followed_lacks x joint L M h k apart w f = rw f.4 (append_lacks x f.0 (joint ∷ f.1) (h f.0 f.2) (lacks_front x joint f.1 apart (k f.1 f.3)))

pub names_lacks : (x : ℕ) → ((w : List ℕ) → IsIdent w → Lacks x w) → 58 ≢ x → (w : List ℕ) → IsNames w → Lacks x w
names_lacks x h apart = followed_lacks x 58 IsIdent (Joined IsIdent 58) h (joined_lacks x 58 IsIdent h apart) apart

pub path_lacks_at : (w : List ℕ) → IsPath w → Lacks 64 w
path_lacks_at = followed_lacks 64 47 IsNames (Joined IsIdent 47) (names_lacks 64 ident_lacks_at (λ e. omega arith)) (joined_lacks 64 47 IsIdent ident_lacks_at (λ e. omega arith)) (λ e. omega arith)

pub names_longest : IsLongest IsNames names_len
unfolding names_len
names_longest = followed_longest IsIdent (Joined IsIdent 58) ident_len (idents_len 58) 58 ident_longest (idents_longest 58 ident_lacks_colon) ident_lacks_colon

pub path_longest : IsLongest IsPath path_len
unfolding path_len
path_longest = followed_longest IsNames (Joined IsIdent 47) names_len (idents_len 47) 47 names_longest (idents_longest 47 ident_lacks_slash) (names_lacks 47 ident_lacks_slash (λ e. omega arith))

pub run_lacks : (x : ℕ) (p : ℕ → Bool) → p x ≡ false → (w : List ℕ) → IsRun p w → Lacks x w
run_lacks x p e w h = lacks_by x p e w (passes_run p w h)

version_parts_longest : IsLongest (Joined (IsRun is_version_byte) 46) version_parts_len
unfolding version_parts_len
version_parts_longest = joined_longest (IsRun is_version_byte) (prefix_len is_version_byte) 46 (run_longest is_version_byte) (run_lacks 46 is_version_byte refl)

pub version_longest : IsLongest IsVersion version_len
unfolding version_len
version_longest = suffixed_longest (IsRun is_digit) (Joined (IsRun is_version_byte) 46) (prefix_len is_digit) version_parts_len 46 (run_longest is_digit) version_parts_longest (run_lacks 46 is_digit refl)

pub package_name_longest : IsLongest IsPackageName package_name_len
unfolding package_name_len
package_name_longest = suffixed_longest IsNames IsVersion names_len version_len 64 names_longest version_longest (names_lacks 64 ident_lacks_at (λ e. omega arith))

pub package_path_longest : IsLongest IsPackagePath package_path_len
unfolding package_path_len
package_path_longest = suffixed_longest IsPath IsVersion path_len version_len 64 path_longest version_longest path_lacks_at

pub ident_fits : (z : List ℕ) → ident_len z ≤ length z
ident_fits z = longest_fits IsIdent ident_len ident_longest z

pub run_fits : (p : ℕ → Bool) (z : List ℕ) → prefix_len p z ≤ length z
run_fits p z = longest_fits (IsRun p) (prefix_len p) (run_longest p) z
