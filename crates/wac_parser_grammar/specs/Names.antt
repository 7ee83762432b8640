-- How names, strings and doc comments are written.
use Rattle.std.specs.Prelude.{ℕ, ◌+◌, ◌-◌, ◌==◌, nat_eq, nat_lt, if◌then◌else◌, List, [], map, length, take, drop, codes, Option, Some, None, unwrap_or, Result, Ok, Err}
use Rattle.std.specs.List.{starts_with, ends_with, position_or_len, before_first, after_first}
use Rattle.semver.specs.Parse.{version_parts}
use Rattle.semver.specs.declared.error.Error.{Error}
use Rattle.wac_parser_lexer.specs.declared.span.SourceSpan.{SourceSpan}
use Rattle.wac_parser_lexer.specs.declared.token.Token.TheVariants as k
use Rattle.wac_parser_lexer.specs.Items.{Doc, docs_ahead}
use Rattle.wac_parser_tree.specs.Trees as t
use Rattle.wac_parser_grammar.specs.Faults.{invalid_version}
use Rattle.wac_parser_grammar.specs.Tracks.{track_in}
use Rattle.wac_parser_grammar.specs.Rules.{Rule, ◌>>=◌, pure, refuse, token, look, slice}

abbrev pub doc_comment : Doc → t.DocComment
doc_comment d = record { comment = d.comment; span = d.span }

-- the doc comments before the next item, or before the end
unfoldable pub docs : Rule (List t.DocComment)
docs = look (λ s. map doc_comment (docs_ahead s))

-- a text without a leading `%`
abbrev pub strip_percent : List ℕ → List ℕ
strip_percent z = if starts_with nat_eq z (codes "%") then drop 1 z else z

unfoldable pub ident : Rule t.Ident
ident = do
  span ← token k.Ident
  text ← slice span
  pure (record { string = strip_percent text; span = span })

abbrev pub strip_open : List ℕ → List ℕ
strip_open z = if starts_with nat_eq z (codes "\"") then drop 1 z else z

abbrev pub strip_close : List ℕ → List ℕ
strip_close z = if ends_with nat_eq z (codes "\"") then take (length z - 1) z else z

-- a text without its quotes
abbrev pub strip_quotes : List ℕ → List ℕ
strip_quotes z = strip_close (strip_open z)

unfoldable pub string : Rule t.StringLiteral
string = do
  span ← token k.String
  text ← slice span
  pure (record { value = strip_quotes text; span = span })

-- ---- packages

-- what stands before the first such byte, all where there is none
abbrev pub before : ℕ → List ℕ → List ℕ
before b z = before_first (λ c. c == b) z

-- what stands behind the first such byte
abbrev pub behind_first : ℕ → List ℕ → Option (List ℕ)
behind_first b z = if nat_lt (position_or_len (λ c. c == b) z) (length z) then Some (after_first (λ c. c == b) z) else None

-- the last so many bytes of a span
abbrev pub end_of : SourceSpan → ℕ → SourceSpan
end_of span n = record { offset = (span.offset + span.length) - n; length = n }

abbrev pub version_read : Result t.Version Error → List ℕ → SourceSpan → Rule (Option t.Version)
version_read (Ok v) text span = pure (Some v)
version_read (Err e) text span = refuse (λ _. invalid_version text (end_of span (length text)))

abbrev pub version_by : Option (List ℕ) → SourceSpan → Rule (Option t.Version)
version_by None span = pure None
version_by (Some text) span = version_read (version_parts text) text span

-- the version behind the `@` of a name that stands at the span
unfoldable pub version_of : List ℕ → SourceSpan → Rule (Option t.Version)
version_of name span = version_by (behind_first 64 name) span

unfoldable pub package_name : Rule t.PackageName
package_name = do
  span ← token k.PackageName
  text ← slice span
  version ← version_of text span
  pure (record { string = text; name = before 64 text; version = version; span = span })

-- beside a track there is no version
abbrev pub version_beside : Option (List ℕ) → Option (List ℕ) → SourceSpan → Rule (Option t.Version)
version_beside None text span = version_by text span
version_beside (Some track) text span = pure None

-- the package of a `new`, and the version track that may stand in place of its version
unfoldable pub new_package : Rule (t.PackageName × Option (List ℕ))
new_package = do
  span ← token k.PackageName
  text ← slice span
  version ← version_beside (track_in (behind_first 64 text)) (behind_first 64 text) span
  pure (record { string = text; name = before 64 text; version = version; span = span }, track_in (behind_first 64 text))

unfoldable pub package_path : Rule t.PackagePath
package_path = do
  span ← token k.PackagePath
  text ← slice span
  version ← version_of text span
  pure (record {
    span = span;
    string = text;
    name = before 47 (before 64 text);
    segments = unwrap_or (behind_first 47 (before 64 text)) [];
    version = version;
  })
