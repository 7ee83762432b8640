-- Every item lies in its source, on the bounds of characters, and is what stands there.
use Rattle.std.proofs.Common.{◌≡◌, ℕ, zero, suc, ◌+◌, ◌-◌, ◌^◌, ◌<◌, ◌≤◌, Bool, true, false, ltb, List, [], ◌∷◌, ◌++◌, length, take, drop, Option, Some, None, Result, Ok, refl, ap, sym, subst, arith, rules, length-drop}
use Rattle.std.proofs.lemmas.List.Elements.{All-cons}
use Rattle.std.proofs.lemmas.Str.{IsCharBoundary-start}
use Rattle.std.specs.List.{All}
use Rattle.std.specs.Str.{IsUtf8, IsCharBoundary}
use Rattle.wac_parser_lexer.specs.declared.span.SourceSpan.{SourceSpan}
use Rattle.wac_parser_lexer.specs.declared.token.Token.{Token}
use Rattle.wac_parser_lexer.specs.declared.token.Token.TheVariants as k
use Rattle.wac_parser_lexer.specs.declared.error.Error.{Error}
use Rattle.wac_parser_lexer.specs.Words.{IsPackageName, IsPackagePath}
use Rattle.wac_parser_lexer.specs.Spellings.{Spells, spellings}
use Rattle.wac_parser_lexer.specs.Tokens.{IsToken, comment, block_comment, ident, string, package_name, package_path, spelled}
use Rattle.wac_parser_lexer.specs.Pieces.{Piece, front_piece, piece_by, pieces_at, text_at, IsSpanIn}
use Rattle.wac_parser_lexer.specs.Items.{Doc, Item, doc_in, items_of, input_of}
use Rattle.wac_parser_lexer.specs.Stands.{IsItem}
use Rattle.wac_parser_lexer.proofs.FrontLaws.{not_less}
use Rattle.wac_parser_lexer.proofs.PieceLaws.{piece_step, no_pieces, place_step}
use Rattle.wac_parser_lexer.proofs.StandLaws.{IsPiece, front_is, piece_fits}
use Rattle.wac_parser_lexer.proofs.StopLaws.{table_lacks}
use Rattle.wac_parser_lexer.proofs.TextLaws.{less}

-- The item lies in the source and is what stands there.
abbrev pub IsItemIn : List ℕ → Item → Type 0
IsItemIn source i = IsSpanIn source i.span × IsItem (drop i.span.offset source) i.token i.span.length

-- ---- piece by piece

module _ (source : List ℕ) (utf8 : IsUtf8 source) (small : length source < 2 ^ 64) where
  abbrev AllIn : List Piece → Type 0
  AllIn ps = (docs : List Doc) → All (IsItemIn source) (items_of docs ps)

  items_step : (at : ℕ) (o : Option (Result Token Error)) (n : ℕ) (ps : List Piece) → IsPiece (drop at source) (o, n) → at + n ≤ length source
      → IsCharBoundary source at → IsCharBoundary source (at + n) → AllIn ps → AllIn (piece_by at (drop at source) (o, n) ∷ ps)
  items_step at None n ps is within begins ends rest docs = rest (docs ++ doc_in (record { offset = at; length = n }) (take n (drop at source)))
  items_step at (Some token) n ps is within begins ends rest docs =
      let span : SourceSpan = record { offset = at; length = n } in
      let there : IsSpanIn source span = record { small = omega (arith, small, within); within = within; begins = begins; ends = ends } in
      All-cons (IsItemIn source) (record { docs = docs; token = token; span = span }) (items_of [] ps) (there, is.2) (rest [])

  abbrev Deeper : ℕ → Type 0
  Deeper at = (j : ℕ) → at < j → j ≤ length source → IsCharBoundary source j → AllIn (pieces_at source j)

  items_more : (at : ℕ) → at < length source → IsCharBoundary source at → Deeper at → AllIn (pieces_at source at)
  items_more at few begins deeper =
      let p = front_piece (drop at source) in
      let is = front_is (drop at source) (omega (arith, length-drop at source)) in
      let fits = piece_fits (drop at source) p.0 p.1 is in
      let within : at + p.1 ≤ length source = omega (arith, fits.1, length-drop at source) in
      let ends = place_step source at p utf8 begins few refl in
      let rest = deeper (at + p.1) (omega (arith, fits.0)) within ends in
      let P : List Piece → Type 0 = AllIn in
      subst P (sym (piece_step source at p refl fits.0 fits.1)) (items_step at p.0 p.1 (pieces_at source (at + p.1)) is within begins ends rest)

  items_by : (at : ℕ) → IsCharBoundary source at → Deeper at → (t : Bool) → ltb at (length source) ≡ t → AllIn (pieces_at source at)
  items_by at begins deeper true e = items_more at (less at (length source) e) begins deeper
  items_by at begins deeper false e =
      let P : List Piece → Type 0 = AllIn in
      let none : AllIn [] = λ docs. search rules in
      subst P (sym (no_pieces source at (not_less at (length source) e))) none

  items_from : (m at : ℕ) → length source - at < m → IsCharBoundary source at → AllIn (pieces_at source at)
  items_from zero at few begins = absurd (omega arith)
  items_from (suc m) at few begins = items_by at begins (λ j above within place. items_from m j (omega arith) place) (ltb at (length source)) refl

  pub all_in : All (IsItemIn source) (input_of source).items
  all_in = items_from (suc (length source)) 0 (omega arith) (IsCharBoundary-start source utf8) []

-- a token is the text at its span
pub token_text : (source : List ℕ) (span : SourceSpan) (kind : Token) → IsItem (drop span.offset source) (Ok kind) span.length → IsToken kind (text_at source span)
token_text source span kind is =
    let size : span.offset + span.length - span.offset ≡ span.length = omega arith in
    let P : ℕ → Type 0 = λ (n : ℕ). IsToken kind (take n (drop span.offset source)) in
    subst P (sym size) is.2.1.is

-- ---- names and paths of packages

abbrev is_package : Token → Bool
is_package k.PackageName = true
is_package k.PackagePath = true
is_package _ = false

none_spelled : (kind : Token) (w : List ℕ) → Spells spellings kind w → is_package kind ≡ false
unfolding spellings
none_spelled = table_lacks is_package spellings refl

pub path_text : (kind : Token) (w : List ℕ) → kind ≡ k.PackagePath → IsToken kind w → IsPackagePath w
path_text _ w e (comment h) = cc
path_text _ w e (block_comment h) = cc
path_text _ w e (ident h) = cc
path_text _ w e (string h) = cc
path_text _ w e (package_name h) = cc
path_text _ w e (package_path h) = h
path_text kind w e (spelled h) = let none = none_spelled kind w h in let some : is_package kind ≡ true = ap is_package e in cc

pub name_text : (kind : Token) (w : List ℕ) → kind ≡ k.PackageName → IsToken kind w → IsPackageName w
name_text _ w e (comment h) = cc
name_text _ w e (block_comment h) = cc
name_text _ w e (ident h) = cc
name_text _ w e (string h) = cc
name_text _ w e (package_name h) = h
name_text _ w e (package_path h) = cc
name_text kind w e (spelled h) = let none = none_spelled kind w h in let some : is_package kind ≡ true = ap is_package e in cc
