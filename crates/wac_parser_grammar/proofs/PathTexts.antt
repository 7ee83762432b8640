-- The name and the segments of the text of a package path, and the name of that of a package name.
use Rattle.std.proofs.Common.{◌≡◌, ℕ, ◌+◌, ◌<◌, ◌⊎◌, inl, inr, true, false, eqb, ltb, List, [], ◌∷◌, ◌++◌, length, take, drop, get_or, Some, None, unwrap_or, refl, ap, sym, ◌∙◌, arith, eq-eqb, append_assoc, length-append}
use Rattle.std.proofs.lemmas.Bool.Decides.{nat_tests}
use Rattle.std.proofs.lemmas.List.{append-nil, get_or_append_left}
use Rattle.std.proofs.lemmas.List.Sums.{position_or_len_is}
use Rattle.std.proofs.Math.Seq.{take-append_seam, drop-append-add, get_or-append_seam}
use Rattle.std.specs.List.{position_or_len}
use Rattle.wac_parser_lexer.proofs.FirstLaws.{apart}
use Rattle.wac_parser_lexer.specs.Words.{IsNames, IsPath, IsPackageName, IsPackagePath}
use Rattle.wac_parser_lexer.proofs.WordLaws.{Lacks, ident_lacks_at, ident_lacks_slash, names_lacks, path_lacks_at}
use Rattle.wac_parser_grammar.specs.Names.{before, behind_first}

under : (a b : ℕ) → a < b → ltb a b ≡ true
under a b h = grind (arith, nat_tests)

-- ---- a byte that the front lacks

module _ (x : ℕ) (a : List ℕ) (lacks : Lacks x a) where
  place_none : position_or_len (λ c. eqb c x) a ≡ length a
  place_none = position_or_len_is (λ c. eqb c x) a (length a) 0 (omega arith) (λ j l. apart (get_or a j 0) x (lacks j l)) (λ l. absurd (omega (arith, l)))

  pub nothing_behind : behind_first x a ≡ None
  nothing_behind =
      let here : ltb (length a) (length a) ≡ false = grind (arith, nat_tests) in
      rw (place_none, here) refl

  pub before_none : before x a ≡ a
  before_none = ap (λ n. take n a) place_none ∙ ap (take (length a)) (sym (append-nil a)) ∙ take-append_seam a []

  module _ (b : List ℕ) where
    place : position_or_len (λ c. eqb c x) (a ++ x ∷ b) ≡ length a
    place =
        position_or_len_is (λ c. eqb c x) (a ++ x ∷ b) (length a) 0 (omega (arith, length-append a (x ∷ b)))
        (λ j l. ap (λ c. eqb c x) (get_or_append_left a (x ∷ b) 0 j l) ∙ apart (get_or a j 0) x (lacks j l))
        (λ l. ap (λ c. eqb c x) (get_or-append_seam a x b 0) ∙ eq-eqb x x refl)

    pub before_joint : before x (a ++ x ∷ b) ≡ a
    before_joint = ap (λ n. take n (a ++ x ∷ b)) place ∙ take-append_seam a (x ∷ b)

    pub behind_joint : behind_first x (a ++ x ∷ b) ≡ Some b
    behind_joint =
        let here : ltb (length a) (length (a ++ x ∷ b)) ≡ true = under _ _ (omega (arith, length-append a (x ∷ b))) in
        let rest : drop (length a + 1) (a ++ x ∷ b) ≡ b = drop-append-add a (x ∷ b) 1 in
        rw (place, here) (ap Some rest)

-- ---- names and paths

names_lack_at : (w : List ℕ) → IsNames w → Lacks 64 w
names_lack_at = names_lacks 64 ident_lacks_at (λ e. omega arith)

names_lack_slash : (w : List ℕ) → IsNames w → Lacks 47 w
names_lack_slash = names_lacks 47 ident_lacks_slash (λ e. omega arith)

-- the name of a package name is all of it, or stands before an `@`
pub name_parts : (text : List ℕ) → IsPackageName text
    → ((text ≡ before 64 text) × (behind_first 64 text ≡ None)) ⊎ ((more : List ℕ) × (text ≡ before 64 text ++ 64 ∷ more) × (behind_first 64 text ≡ Some more))
name_parts text (inl h) = let lacks = names_lack_at text h in inl (sym (before_none 64 text lacks), nothing_behind 64 text lacks)
name_parts text (inr h) =
    let lacks = names_lack_at h.0 h.2 in
    let name : before 64 text ≡ h.0 = ap (before 64) h.4 ∙ before_joint 64 h.0 lacks h.1 in
    inr (h.1, h.4 ∙ ap (λ w. w ++ 64 ∷ h.1) (sym name), ap (behind_first 64) h.4 ∙ behind_joint 64 h.0 lacks h.1)

-- what stands before the version of a path, and the version
front : (text : List ℕ) → IsPackagePath text → (path : List ℕ) × (more : List ℕ) × IsPath path × (before 64 text ≡ path) × (text ≡ path ++ more)
front text (inl h) = (text, [], h, before_none 64 text (path_lacks_at text h), sym (append-nil text))
front text (inr h) = (h.0, 64 ∷ h.1, h.2, ap (before 64) h.4 ∙ before_joint 64 h.0 (path_lacks_at h.0 h.2) h.1, h.4)

-- a path is its name, a slash, its segments, and more
pub path_parts : (text : List ℕ) → IsPackagePath text
    → (more : List ℕ) × (text ≡ before 47 (before 64 text) ++ 47 ∷ (unwrap_or (behind_first 47 (before 64 text)) [] ++ more))
path_parts text h =
    let f = front text h in
    let names = f.2.0 in
    let segments = f.2.1 in
    let lacks = names_lack_slash names f.2.2 in
    let whole : before 64 text ≡ names ++ 47 ∷ segments = f.3 ∙ f.2.4 in
    let name : before 47 (before 64 text) ≡ names = ap (before 47) whole ∙ before_joint 47 names lacks segments in
    let rest : unwrap_or (behind_first 47 (before 64 text)) [] ≡ segments =
    ap (λ z. unwrap_or (behind_first 47 z) []) whole ∙ ap (λ o. unwrap_or o []) (behind_joint 47 names lacks segments) in (
      f.1,
      f.4 ∙ ap (λ (z : List ℕ). z ++ f.1) f.2.4 ∙ append_assoc names (47 ∷ segments) f.1 ∙ ap (λ (z : List ℕ). z ++ 47 ∷ (segments ++ f.1)) (sym name)
          ∙ ap (λ (z : List ℕ). before 47 (before 64 text) ++ 47 ∷ (z ++ f.1)) (sym rest),
    )
