-- A byte that begins one symbol alone and nothing else is that symbol, whatever stands behind it.
use Rattle.std.proofs.Common.{◌≡◌, ◌≢◌, ℕ, Bool, true, false, ◌&&◌, ◌||◌, cond, eqb, List, [], ◌∷◌, Some, Ok, refl, ap, sym, ◌∙◌, arith, eq-eqb}
use Rattle.std.proofs.lemmas.Bool.Decides.{nat_tests}
use Rattle.wac_parser_lexer.specs.declared.token.Token.{Token}
use Rattle.wac_parser_lexer.specs.declared.token.Token.TheVariants as k
use Rattle.wac_parser_lexer.specs.Words.{is_lower, is_upper}
use Rattle.wac_parser_lexer.specs.Begun.{spellings_by}
use Rattle.wac_parser_lexer.specs.Scan.{ident_len}
use Rattle.wac_parser_lexer.specs.Front.{spelled_from, spelled_at, longest_at, token_at}
use Rattle.wac_parser_lexer.specs.Pieces.{is_blank, is_comment, front_piece}
use Rattle.wac_parser_lexer.proofs.SpellingLaws.{spelled_first}
use Rattle.wac_parser_lexer.proofs.FirstLaws.{no_text, no_names, no_letter, none_longer, ident_longest}

differs : (a b : ℕ) → eqb a b ≡ false → a ≢ b
differs a b h = grind (arith, nat_tests)

-- the byte begins an identifier, a string, a comment or a blank
unfoldable pub begins_more : ℕ → Bool
begins_more b = is_lower b || (is_upper b || (eqb b 37 || (eqb b 34 || (eqb b 47 || is_blank b))))

record IsMark (b : ℕ) : Type 0 where
  lower : is_lower b ≡ false
  upper : is_upper b ≡ false
  percent : eqb b 37 ≡ false
  quote : eqb b 34 ≡ false
  slash : eqb b 47 ≡ false
  blank : is_blank b ≡ false

pub neither : (a b : Bool) → (a || b) ≡ false → (a ≡ false) × (b ≡ false)
neither true b h = cc
neither false b h = (refl, h)

mark_of : (b : ℕ) → begins_more b ≡ false → IsMark b
unfolding begins_more
mark_of b h =
    let l = neither (is_lower b) _ h in
    let u = neither (is_upper b) _ l.1 in
    let p = neither (eqb b 37) _ u.1 in
    let q = neither (eqb b 34) _ p.1 in
    let s = neither (eqb b 47) (is_blank b) q.1 in
    record { lower = l.0; upper = u.0; percent = p.0; quote = q.0; slash = s.0; blank = s.1 }

module _ (b : ℕ) (kind : Token) (z : List ℕ) (mark : IsMark b) (table : spellings_by b ≡ (b ∷ [], kind) ∷ []) where
  spelled_alone : spelled_at (b ∷ z) ≡ (kind, 1)
  spelled_alone =
      sym (spelled_first (b ∷ z) (omega arith)) ∙ ap (λ entries. spelled_from (k.Ident, 0) entries (b ∷ z)) table
      ∙ ap (λ t. cond (t && true) (kind, 1) (k.Ident, 0)) (eq-eqb b b refl)

  longest_alone : longest_at (b ∷ z) ≡ (kind, 1)
  longest_alone =
      let none = no_letter b z mark.lower mark.upper mark.percent in
      let text = no_text (b ∷ z) (differs b 34 mark.quote) (differs b 47 mark.slash) in
      ident_longest (b ∷ z) text (no_names (b ∷ z) none) ∙ none_longer (spelled_at (b ∷ z)) k.Ident (ident_len (b ∷ z)) none ∙ spelled_alone

  piece_alone : is_comment kind ≡ false → front_piece (b ∷ z) ≡ (Some (Ok kind), 1)
  unfolding front_piece token_at
  piece_alone e = rw (mark.blank, mark.slash, longest_alone, e) refl

pub alone : (b c : ℕ) (kind : Token) → b ≡ c → begins_more c ≡ false → spellings_by c ≡ (c ∷ [], kind) ∷ [] → is_comment kind ≡ false → (z : List ℕ) → front_piece (b ∷ z) ≡ (Some (Ok kind), 1)
alone b c kind e more table kept z = rw e (piece_alone c kind z (mark_of c more) table kept)
