-- The faults of names stand in the source.
use Rattle.std.proofs.Common.{ℕ, inl, inr, List, [], unwrap_or}
use Rattle.wac_types_names.specs.Tracks.{IsTrack}
use Rattle.wac_parser_lexer.specs.declared.token.Token.TheVariants as k
use Rattle.wac_parser_grammar.proofs.Faithful.{FaithfulBy, Any, bind_faithful, pure_faithful, look_faithful, token_faithful}
use Rattle.wac_parser_grammar.specs.Standing.{Saying, IsTooDeep}
use Rattle.wac_parser_grammar.specs.Tracks.{track_in}
use Rattle.wac_parser_grammar.specs.Names.{docs, ident, string, before, behind_first, version_of, version_beside, package_name, new_package, package_path}
use Rattle.wac_parser_grammar.proofs.EarlierFaults.{versioned_faithful, version_of_reads, beside_reads}

pub ident_faithful : {N : Saying} → FaithfulBy N Any ident
unfolding ident
ident_faithful = bind_faithful _ _ (token_faithful k.Ident) (λ v0. bind_faithful _ _ (look_faithful _) (λ v1. pure_faithful _))

pub string_faithful : {N : Saying} → FaithfulBy N Any string
unfolding string
string_faithful = bind_faithful _ _ (token_faithful k.String) (λ v0. bind_faithful _ _ (look_faithful _) (λ v1. pure_faithful _))

pub docs_faithful : {N : Saying} → FaithfulBy N Any docs
unfolding docs
docs_faithful = look_faithful _

pub package_name_faithful : {n : ℕ} → FaithfulBy (IsTooDeep n) Any package_name
unfolding package_name
package_name_faithful = versioned_faithful _ k.PackageName (λ s span e. inl e) version_of version_of_reads (λ span text version. record { string = text; name = before 64 text; version = version; span = span })

pub new_package_faithful : {N : Saying} → ((text : List ℕ) → (IsTrack text → ⊥) → N.unread text) → FaithfulBy N Any new_package
unfolding new_package
new_package_faithful {N = N} untracked =
    versioned_faithful N k.PackageName (λ s span e. inl e) (λ name span. version_beside (track_in (behind_first 64 name)) (behind_first 64 name) span) (beside_reads N.unread untracked)
    (λ span text version. (record { string = text; name = before 64 text; version = version; span = span }, track_in (behind_first 64 text)))

pub package_path_faithful : {n : ℕ} → FaithfulBy (IsTooDeep n) Any package_path
unfolding package_path
package_path_faithful = versioned_faithful _ k.PackagePath (λ s span e. inr e) version_of version_of_reads (λ span text version. record {
  span = span;
  string = text;
  name = before 47 (before 64 text);
  segments = unwrap_or (behind_first 47 (before 64 text)) [];
  version = version;
})
