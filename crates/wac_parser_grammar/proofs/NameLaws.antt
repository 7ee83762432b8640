-- The rules of names read just what they say.
use Rattle.std.proofs.Common.{ℕ, List, [], ◌∷◌, Option, Some, None, Result, Ok, Err}
use Rattle.wac_parser_lexer.specs.declared.span.SourceSpan.{SourceSpan}
use Rattle.wac_parser_lexer.specs.declared.token.Token.TheVariants as k
use Rattle.wac_parser_tree.specs.Trees as t
use Rattle.wac_parser_grammar.proofs.Exact.{Exact, Takes, Keeps, Begins, bind, pure_exact, refuse_exact, look_exact, token_exact, bind_takes, bind_keeps, still_keeps, pure_keeps, look_keeps, refuse_takes, token_takes, token_begins, bind_begins, Silent}
use Rattle.semver.specs.Parse.{version_parts}
use Rattle.wac_parser_grammar.specs.Tracks.{track_in}
use Rattle.wac_parser_grammar.specs.Names.{docs, ident, string, version_read, version_by, version_of, version_beside, behind_first, package_name, new_package, package_path}

pub ident_exact : Exact ident
unfolding ident
ident_exact = bind _ _ (token_exact k.Ident) (λ v0. bind _ _ (look_exact _) (λ v1. pure_exact _))

pub ident_takes : Takes ident
unfolding ident
ident_takes = bind_takes _ _ (token_takes k.Ident) (λ v0. bind_keeps _ _ (look_keeps _) (λ v1. pure_keeps _))

pub ident_begins : Begins (k.Ident ∷ []) ident
unfolding ident
ident_begins = bind_begins _ _ _ (token_begins k.Ident _)

pub string_exact : Exact string
unfolding string
string_exact = bind _ _ (token_exact k.String) (λ v0. bind _ _ (look_exact _) (λ v1. pure_exact _))

pub string_takes : Takes string
unfolding string
string_takes = bind_takes _ _ (token_takes k.String) (λ v0. bind_keeps _ _ (look_keeps _) (λ v1. pure_keeps _))

pub string_begins : Begins (k.String ∷ []) string
unfolding string
string_begins = bind_begins _ _ _ (token_begins k.String _)

pub docs_exact : Exact docs
unfolding docs
docs_exact = look_exact _

pub docs_keeps : Keeps docs
unfolding docs
docs_keeps = look_keeps _

pub docs_silent : Silent docs
unfolding docs
docs_silent = record { stays = λ s x r h. h.1 }

version_read_exact : (r : Result t.Version _) (text : List ℕ) (span : SourceSpan) → Exact (version_read r text span)
version_read_exact (Ok v) text span = pure_exact (Some v)
version_read_exact (Err e) text span = refuse_exact _

version_by_exact : (o : Option (List ℕ)) (span : SourceSpan) → Exact (version_by o span)
version_by_exact None span = pure_exact None
version_by_exact (Some text) span = version_read_exact (version_parts text) text span

pub version_of_exact : (name : List ℕ) (span : SourceSpan) → Exact (version_of name span)
unfolding version_of
version_of_exact name span = version_by_exact (behind_first 64 name) span

version_read_keeps : (r : Result t.Version _) (text : List ℕ) (span : SourceSpan) → Keeps (version_read r text span)
version_read_keeps (Ok v) text span = pure_keeps (Some v)
version_read_keeps (Err e) text span = still_keeps _ (refuse_takes _)

version_by_keeps : (o : Option (List ℕ)) (span : SourceSpan) → Keeps (version_by o span)
version_by_keeps None span = pure_keeps None
version_by_keeps (Some text) span = version_read_keeps (version_parts text) text span

pub version_of_keeps : (name : List ℕ) (span : SourceSpan) → Keeps (version_of name span)
unfolding version_of
version_of_keeps name span = version_by_keeps (behind_first 64 name) span

pub package_name_exact : Exact package_name
unfolding package_name
package_name_exact = bind _ _ (token_exact k.PackageName) (λ v0. bind _ _ (look_exact _) (λ v1. bind _ _ (version_of_exact v1 v0) (λ v2. pure_exact _)))

pub package_name_takes : Takes package_name
unfolding package_name
package_name_takes = bind_takes _ _ (token_takes k.PackageName) (λ v0. bind_keeps _ _ (look_keeps _) (λ v1. bind_keeps _ _ (version_of_keeps v1 v0) (λ v2. pure_keeps _)))

beside_exact : (track text : Option (List ℕ)) (span : SourceSpan) → Exact (version_beside track text span)
beside_exact None text span = version_by_exact text span
beside_exact (Some track) text span = pure_exact None

beside_keeps : (track text : Option (List ℕ)) (span : SourceSpan) → Keeps (version_beside track text span)
beside_keeps None text span = version_by_keeps text span
beside_keeps (Some track) text span = pure_keeps None

pub new_package_exact : Exact new_package
unfolding new_package
new_package_exact = bind _ _ (token_exact k.PackageName) (λ v0. bind _ _ (look_exact _) (λ v1. bind _ _ (beside_exact (track_in (behind_first 64 v1)) (behind_first 64 v1) v0) (λ v2. pure_exact _)))

pub new_package_takes : Takes new_package
unfolding new_package
new_package_takes = bind_takes _ _ (token_takes k.PackageName) (λ v0. bind_keeps _ _ (look_keeps _) (λ v1. bind_keeps _ _ (beside_keeps (track_in (behind_first 64 v1)) (behind_first 64 v1) v0) (λ v2. pure_keeps _)))

pub package_path_exact : Exact package_path
unfolding package_path
package_path_exact = bind _ _ (token_exact k.PackagePath) (λ v0. bind _ _ (look_exact _) (λ v1. bind _ _ (version_of_exact v1 v0) (λ v2. pure_exact _)))

pub package_path_takes : Takes package_path
unfolding package_path
package_path_takes = bind_takes _ _ (token_takes k.PackagePath) (λ v0. bind_keeps _ _ (look_keeps _) (λ v1. bind_keeps _ _ (version_of_keeps v1 v0) (λ v2. pure_keeps _)))

pub package_path_begins : Begins (k.PackagePath ∷ []) package_path
unfolding package_path
package_path_begins = bind_begins _ _ _ (token_begins k.PackagePath [])
