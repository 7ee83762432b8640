-- The first byte of a text tells which kinds of tokens can stand at its front.
use Rattle.std.proofs.Common.{◌≡◌, ◌≢◌, ℕ, ◌<◌, ◌⊎◌, inl, inr, false, cond, eqb, ltb, List, [], ◌∷◌, length, get_or, refl, ap, ◌∙◌, arith}
use Rattle.std.proofs.lemmas.Bool.Decides.{nat_tests}
use Rattle.wac_parser_lexer.specs.declared.token.Token.{Token}
use Rattle.wac_parser_lexer.specs.declared.token.Token.TheVariants as k
use Rattle.wac_parser_lexer.specs.Words.{is_lower, is_upper}
use Rattle.wac_parser_lexer.specs.Scan.{word_len, label_len, ident_len, names_len, path_len, package_name_len, package_path_len, string_len, line_comment_len, block_comment_len}
use Rattle.wac_parser_lexer.specs.Front.{longer, spelled_at, longest_at}

not_below : (m n : ℕ) → n ≡ 0 → ltb m n ≡ false
not_below m n e = grind (arith, nat_tests)

pub none_longer : (a : Token × ℕ) (kind : Token) (n : ℕ) → n ≡ 0 → longer a (kind, n) ≡ a
none_longer a kind n e = ap (λ t. cond t (kind, n) a) (not_below a.1 n e)

pub apart : (a b : ℕ) → a ≢ b → eqb a b ≡ false
apart a b h = grind (arith, nat_tests)

-- ---- what a text lacks

no_string : (z : List ℕ) → get_or z 0 0 ≢ 34 → string_len z ≡ 0
unfolding string_len
no_string [] other = refl
no_string (b ∷ z) other = rw (apart b 34 other) refl

no_line : (z : List ℕ) → get_or z 0 0 ≢ 47 → line_comment_len z ≡ 0
unfolding line_comment_len
no_line [] other = refl
no_line (b ∷ []) other = refl
no_line (b ∷ c ∷ z) other = rw (apart b 47 other) refl

no_block : (z : List ℕ) → get_or z 0 0 ≢ 47 → block_comment_len z ≡ 0
unfolding block_comment_len
no_block [] other = refl
no_block (b ∷ []) other = refl
no_block (b ∷ c ∷ z) other = rw (apart b 47 other) refl

-- neither a string nor a comment
pub no_text : (z : List ℕ) → get_or z 0 0 ≢ 34 → get_or z 0 0 ≢ 47 → (string_len z ≡ 0) × (line_comment_len z ≡ 0) × (block_comment_len z ≡ 0)
no_text z a b = (no_string z a, no_line z b, no_block z b)

no_label : (b : ℕ) (z : List ℕ) → is_lower b ≡ false → is_upper b ≡ false → label_len (b ∷ z) ≡ 0
unfolding label_len word_len
no_label b z l u = rw (l, u) refl

-- no letter and no `%`
pub no_letter : (b : ℕ) (z : List ℕ) → is_lower b ≡ false → is_upper b ≡ false → eqb b 37 ≡ false → ident_len (b ∷ z) ≡ 0
unfolding ident_len
no_letter b z l u p = rw p (no_label b z l u)

-- a quote or a slash begins no identifier
no_ident : (b : ℕ) (z : List ℕ) → (b ≡ 34) ⊎ (b ≡ 47) → ident_len (b ∷ z) ≡ 0
no_ident b z (inl e) = rw e (no_letter 34 z refl refl refl)
no_ident b z (inr e) = rw e (no_letter 47 z refl refl refl)

pub marked_no_ident : (z : List ℕ) → 0 < length z → (get_or z 0 0 ≡ 34) ⊎ (get_or z 0 0 ≡ 47) → ident_len z ≡ 0
marked_no_ident [] some e = absurd (omega arith)
marked_no_ident (b ∷ z) some e = no_ident b z e

pub no_names : (z : List ℕ) → ident_len z ≡ 0 → names_len z ≡ 0
unfolding names_len
no_names z e = rw e refl

no_package : (z : List ℕ) → names_len z ≡ 0 → (package_name_len z ≡ 0) × (package_path_len z ≡ 0)
unfolding package_name_len package_path_len path_len
no_package z e = (rw e refl, rw e refl)

-- ---- what is left to compare

module _ (z : List ℕ) where
  -- a word: no string and no comment
  pub words_longest : (string_len z ≡ 0) × (line_comment_len z ≡ 0) × (block_comment_len z ≡ 0)
      → longest_at z ≡ longer (longer (longer (spelled_at z) (k.Ident, ident_len z)) (k.PackageName, package_name_len z)) (k.PackagePath, package_path_len z)
  unfolding longest_at
  words_longest none =
      let c = longer (longer (longer (spelled_at z) (k.Ident, ident_len z)) (k.PackageName, package_name_len z)) (k.PackagePath, package_path_len z) in
      let d = longer c (k.String, string_len z) in
      none_longer (longer d (k.Comment, line_comment_len z)) k.BlockComment (block_comment_len z) none.2
      ∙ none_longer d k.Comment (line_comment_len z) none.1 ∙ none_longer c k.String (string_len z) none.0

  -- no package
  pub ident_longest : (string_len z ≡ 0) × (line_comment_len z ≡ 0) × (block_comment_len z ≡ 0) → names_len z ≡ 0 → longest_at z ≡ longer (spelled_at z) (k.Ident, ident_len z)
  ident_longest none e =
      let a = longer (spelled_at z) (k.Ident, ident_len z) in
      let p = no_package z e in
      words_longest none ∙ none_longer (longer a (k.PackageName, package_name_len z)) k.PackagePath (package_path_len z) p.1
      ∙ none_longer a k.PackageName (package_name_len z) p.0

  -- no identifier: strings and comments alone
  pub marked_longest : ident_len z ≡ 0
      → longest_at z ≡ longer (longer (longer (spelled_at z) (k.String, string_len z)) (k.Comment, line_comment_len z)) (k.BlockComment, block_comment_len z)
  unfolding longest_at
  marked_longest e =
      let s = spelled_at z in
      let a = longer s (k.Ident, ident_len z) in
      let p = no_package z (no_names z e) in
      let same : longer (longer a (k.PackageName, package_name_len z)) (k.PackagePath, package_path_len z) ≡ s =
      none_longer (longer a (k.PackageName, package_name_len z)) k.PackagePath (package_path_len z) p.1
      ∙ none_longer a k.PackageName (package_name_len z) p.0 ∙ none_longer s k.Ident (ident_len z) e in
      ap (λ (x : Token × ℕ). longer (longer (longer x (k.String, string_len z)) (k.Comment, line_comment_len z)) (k.BlockComment, block_comment_len z)) same

  -- behind a quote
  pub string_alone : 0 < length z → get_or z 0 0 ≡ 34 → longest_at z ≡ longer (spelled_at z) (k.String, string_len z)
  string_alone some e =
      let d = longer (spelled_at z) (k.String, string_len z) in
      let other : get_or z 0 0 ≢ 47 = omega (arith, e) in
      marked_longest (marked_no_ident z some (inl e)) ∙ none_longer (longer d (k.Comment, line_comment_len z)) k.BlockComment (block_comment_len z) (no_block z other)
      ∙ none_longer d k.Comment (line_comment_len z) (no_line z other)

  -- behind a slash
  pub comment_alone : 0 < length z → get_or z 0 0 ≡ 47 → longest_at z ≡ longer (longer (spelled_at z) (k.Comment, line_comment_len z)) (k.BlockComment, block_comment_len z)
  comment_alone some e =
      let other : get_or z 0 0 ≢ 34 = omega (arith, e) in
      marked_longest (marked_no_ident z some (inr e))
      ∙ ap (λ (x : Token × ℕ). longer (longer x (k.Comment, line_comment_len z)) (k.BlockComment, block_comment_len z)) (none_longer (spelled_at z) k.String (string_len z) (no_string z other))
