-- Which texts are tokens, and which of them stands at the front of a text.
use Rattle.std.specs.Prelude.{◌≡◌, ℕ, ◌≤◌, List, ◌++◌, length}
use Rattle.wac_parser_lexer.specs.declared.token.Token.{Token}
use Rattle.wac_parser_lexer.specs.declared.token.Token.TheVariants as k
use Rattle.wac_parser_lexer.specs.Words.{IsIdent, IsPackageName, IsPackagePath, IsString, IsLineComment, IsBlockComment}
use Rattle.wac_parser_lexer.specs.Spellings.{Spells, spellings}

-- The text is a token of this kind.
pub data IsToken : Token → List ℕ → Type 0 where
  comment : {w : List ℕ} → IsLineComment w → IsToken k.Comment w
  block_comment : {w : List ℕ} → IsBlockComment w → IsToken k.BlockComment w
  ident : {w : List ℕ} → IsIdent w → IsToken k.Ident w
  string : {w : List ℕ} → IsString w → IsToken k.String w
  package_name : {w : List ℕ} → IsPackageName w → IsToken k.PackageName w
  package_path : {w : List ℕ} → IsPackagePath w → IsToken k.PackagePath w
  spelled : {kind : Token} {w : List ℕ} → Spells spellings kind w → IsToken kind w

-- The front of this text is a token of this kind, no longer front is a token, and an identifier is no keyword.
pub record IsNext (z : List ℕ) (kind : Token) (word rest : List ℕ) : Type 0 where
  pub split : z ≡ word ++ rest
  pub is : IsToken kind word
  pub longest : (other : Token) (v tail : List ℕ) → z ≡ v ++ tail → IsToken other v → length v ≤ length word
  pub keyword : kind ≡ k.Ident → (other : Token) → Spells spellings other word → ⊥
