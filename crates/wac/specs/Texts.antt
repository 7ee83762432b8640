-- What is told of a refusal, and the texts of refusals; those of the faults of documents are not stated.
use Rattle.std.specs.Prelude.{◌≡◌, ◌++◌, ℕ, List, [], Option, Some, None, codes}
use Rattle.wac_parser_lexer.specs.declared.span.SourceSpan.{SourceSpan}
use Rattle.wac_types_base.specs.Entries.{Name}
use Rattle.wac_types_names.specs.Keys.{Key, key_text}
use Rattle.wac_texts.specs.declared.declared.DeclaredWorldError.{DeclaredWorldError}
use Rattle.wac_workspace.specs.declared.error.AddPackageError.{AddPackageError}
use Rattle.wac_workspace.specs.Words.{adding_words}

-- what is told: a text, and the place where its cause stands in its source
pub record Told : Type 0 where
  pub text : List ℕ
  pub place : Option SourceSpan

-- this text is told, without a place
abbrev pub Says : (text : List ℕ) → Told → Type 0
Says text told = (told.text ≡ text) × (told.place ≡ None)

-- so it is where the text is stated; else there is no place
abbrev pub SaysIf : (text : Option (List ℕ)) → Told → Type 0
SaysIf None told = told.place ≡ None
SaysIf (Some text) told = Says text told

-- the cause stands, and this text is told of it
abbrev pub SaysOf : (cause : Type 0) → (text : List ℕ) → Told → Type 0
SaysOf cause text told = cause × Says text told

-- ---- texts

-- a file, or `-` for the input, that is not read, and a file that is not written
abbrev pub unread_text : (path : Name) → List ℕ
unread_text path = codes "cannot read " ++ path

abbrev pub unwritten_text : (path : Name) → List ℕ
unwritten_text path = codes "cannot write " ++ path

-- a key that is a package's, and one that is none's
abbrev pub taken_text : Key → List ℕ
taken_text k = codes "package `" ++ key_text k ++ codes "` is already there"

abbrev pub unknown_text : Key → List ℕ
unknown_text k = codes "unknown package `" ++ key_text k ++ codes "`"

-- why a package is not added under this key
abbrev pub adding_text : Key → AddPackageError → List ℕ
adding_text k AddPackageError.KeyTaken = taken_text k
adding_text k fault = adding_words fault

-- why a document gives no world of this name
abbrev pub selecting_text : Name → DeclaredWorldError → List ℕ
selecting_text name DeclaredWorldError.NotDeclared = codes "world `" ++ name ++ codes "` is not declared"
selecting_text name DeclaredWorldError.NotWorld = codes "`" ++ name ++ codes "` is not a world"
selecting_text name DeclaredWorldError.Memory = []
