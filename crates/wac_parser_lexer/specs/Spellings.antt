-- The keywords and symbols of the language.
use Rattle.std.specs.Prelude.{◌≡◌, ℕ, ◌⊎◌, List, [], ◌∷◌, codes}
use Rattle.wac_parser_lexer.specs.declared.token.Token.{Token}
use Rattle.wac_parser_lexer.specs.declared.token.Token.TheVariants as k

-- The table has the text for the token.
abbrev pub Spells : List (List ℕ × Token) → Token → List ℕ → Type 0
Spells [] kind w = ⊥
Spells (entry ∷ table) kind w = ((w ≡ entry.0) × (kind ≡ entry.1)) ⊎ Spells table kind w

-- every keyword and symbol, with its text
unfoldable pub spellings : List (List ℕ × Token)
spellings =
    (codes "import", k.ImportKeyword) ∷
    (codes "with", k.WithKeyword) ∷
    (codes "type", k.TypeKeyword) ∷
    (codes "tuple", k.TupleKeyword) ∷
    (codes "list", k.ListKeyword) ∷
    (codes "option", k.OptionKeyword) ∷
    (codes "result", k.ResultKeyword) ∷
    (codes "borrow", k.BorrowKeyword) ∷
    (codes "resource", k.ResourceKeyword) ∷
    (codes "variant", k.VariantKeyword) ∷
    (codes "record", k.RecordKeyword) ∷
    (codes "flags", k.FlagsKeyword) ∷
    (codes "enum", k.EnumKeyword) ∷
    (codes "func", k.FuncKeyword) ∷
    (codes "static", k.StaticKeyword) ∷
    (codes "constructor", k.ConstructorKeyword) ∷
    (codes "u8", k.U8Keyword) ∷
    (codes "s8", k.S8Keyword) ∷
    (codes "u16", k.U16Keyword) ∷
    (codes "s16", k.S16Keyword) ∷
    (codes "u32", k.U32Keyword) ∷
    (codes "s32", k.S32Keyword) ∷
    (codes "u64", k.U64Keyword) ∷
    (codes "s64", k.S64Keyword) ∷
    (codes "f32", k.F32Keyword) ∷
    (codes "f64", k.F64Keyword) ∷
    (codes "char", k.CharKeyword) ∷
    (codes "bool", k.BoolKeyword) ∷
    (codes "string", k.StringKeyword) ∷
    (codes "interface", k.InterfaceKeyword) ∷
    (codes "world", k.WorldKeyword) ∷
    (codes "export", k.ExportKeyword) ∷
    (codes "new", k.NewKeyword) ∷
    (codes "let", k.LetKeyword) ∷
    (codes "use", k.UseKeyword) ∷
    (codes "include", k.IncludeKeyword) ∷
    (codes "as", k.AsKeyword) ∷
    (codes "package", k.PackageKeyword) ∷
    (codes "targets", k.TargetsKeyword) ∷
    (codes "async", k.AsyncKeyword) ∷
    (codes "stream", k.StreamKeyword) ∷
    (codes "future", k.FutureKeyword) ∷
    (codes "error-context", k.ErrorContextKeyword) ∷
    (codes ";", k.Semicolon) ∷
    (codes "{", k.OpenBrace) ∷
    (codes "}", k.CloseBrace) ∷
    (codes ":", k.Colon) ∷
    (codes "=", k.Equals) ∷
    (codes "(", k.OpenParen) ∷
    (codes ")", k.CloseParen) ∷
    (codes "->", k.Arrow) ∷
    (codes "<", k.OpenAngle) ∷
    (codes ">", k.CloseAngle) ∷
    (codes "_", k.Underscore) ∷
    (codes "[", k.OpenBracket) ∷
    (codes "]", k.CloseBracket) ∷
    (codes ".", k.Dot) ∷
    (codes "...", k.Ellipsis) ∷
    (codes ",", k.Comma) ∷
    (codes "/", k.Slash) ∷
    (codes "@", k.At) ∷
    []
