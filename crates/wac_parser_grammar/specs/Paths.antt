-- That the names and paths of packages that are read stand in the source.
use Rattle.std.specs.Prelude.{◌≡◌, ℕ, ◌<◌, ◌^◌, List, ◌∷◌, ◌++◌, length, Option, Some, None, Ok}
use Rattle.std.specs.Str.{IsUtf8}
use Rattle.semver.specs.Identifiers.{parts_text}
use Rattle.wac_types_names.specs.Tracks.{IsTrack}
use Rattle.wac_parser_lexer.specs.Words.{IsPackageName}
use Rattle.wac_parser_lexer.specs.Pieces.{IsSpanIn, text_at}
use Rattle.wac_parser_lexer.specs.Items.{Input, input_of}
use Rattle.wac_parser_tree.specs.Trees as t
use Rattle.wac_parser_tree.specs.Segments.{IsPathIn}
use Rattle.wac_parser_grammar.specs.Places.{IsBehind}
use Rattle.wac_parser_grammar.specs.Rules.{Rule}
use Rattle.wac_parser_grammar.specs.Reads.{read_source}
use Rattle.wac_parser_grammar.specs.Names.{package_name, new_package, package_path}
use Rattle.wac_parser_grammar.specs.Documents.{document}
use Rattle.wac_parser_grammar.specs.PathsOfTrees.{EachInDocument}

-- a text in memory
abbrev pub IsText : List ℕ → Type 0
IsText source = IsUtf8 source × (length source < 2 ^ 64)

-- a name alone, or with an `@` and the text of a version behind it
abbrev pub versioned : List ℕ → Option t.Version → List ℕ
versioned name None = name
versioned name (Some version) = name ++ 64 ∷ parts_text version

-- The name is the text of a source at its span, a package name of the language: the name without a version, alone or with the
-- version behind it.
pub record IsNameIn (source : List ℕ) (name : t.PackageName) : Type 0 where
  pub within : IsSpanIn source name.span
  pub text : text_at source name.span ≡ name.string
  pub form : IsPackageName name.string
  pub parts : name.string ≡ versioned name.name name.version

-- The name stands in a source in the same way, with a version track behind it in place of a version.
pub record IsTrackedIn (source : List ℕ) (name : t.PackageName) (track : List ℕ) : Type 0 where
  pub within : IsSpanIn source name.span
  pub text : text_at source name.span ≡ name.string
  pub form : IsPackageName name.string
  pub parts : name.string ≡ name.name ++ 64 ∷ track
  pub tracked : IsTrack track
  pub unversioned : name.version ≡ None

-- the package of a `new` stands in a source, with its version or its track
abbrev pub IsNewIn : List ℕ → t.PackageName → Option (List ℕ) → Type 0
IsNewIn source name None = IsNameIn source name
IsNewIn source name (Some track) = IsTrackedIn source name track

-- what the rule reads at a place of a text stands in that text
abbrev pub ReadsWhatStands : {X : Type 0} → Rule X → (List ℕ → X → Type 0) → Type 0
ReadsWhatStands {X = X} p IsIn =
    (source : List ℕ) → IsText source → (s : Input) → IsBehind s (input_of source)
    → (x : X) (r : Input) → p.read s ≡ Ok (x, r) → IsIn source x

-- the names and paths of packages, and those of a document, that are read of a text stand in it
pub record ParsedPathsStand : Type 0 where
  pub name : ReadsWhatStands package_name IsNameIn
  pub new : ReadsWhatStands new_package (λ source p. IsNewIn source p.0 p.1)
  pub path : ReadsWhatStands package_path IsPathIn
  pub document : (source : List ℕ) → IsText source
      → (d : t.Document) → read_source document source ≡ Ok d → EachInDocument (IsNewIn source) (IsPathIn source) d
