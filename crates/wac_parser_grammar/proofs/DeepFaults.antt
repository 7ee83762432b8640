-- The faults of a rule stand, those of nesting by their level.
use Rattle.std.proofs.Common.{◌≡◌, ℕ, Err, arith}
use Rattle.wac_parser_lexer.specs.declared.span.SourceSpan.{SourceSpan}
use Rattle.wac_parser_lexer.specs.Items.{Input}
use Rattle.wac_parser_grammar.specs.Faults.{Fault, lexer, expected, expected_either, expected_multiple, empty_type, invalid_version, nested_too_deep, memory}
use Rattle.wac_parser_grammar.specs.Rules.{Rule}
use Rattle.wac_parser_grammar.specs.Places.{here}
use Rattle.wac_parser_grammar.specs.Nesting.{Nest, BeginsDeeper}
use Rattle.wac_parser_grammar.specs.Standing.{Saying, StandsBy}
use Rattle.wac_parser_grammar.proofs.Faithful.{FaithfulBy, Any, Loose}
use Rattle.wac_parser_grammar.proofs.Sinking.{Sinks, Sunk}

pub deeper : (nest : Nest) (n : ℕ) (s : Input) (span : SourceSpan) → Sunk nest n 0 s span → BeginsDeeper nest n s span
deeper nest n s span k = record {
  place = k.place;
  behind = k.behind;
  token = k.token;
  there = k.there;
  begins = k.begins;
  levels = omega (arith, k.moves);
}

module _ {N : Saying} {nest : Nest} {n : ℕ} {X : Type 0} {m : X → ℕ} {p : Rule X} (loose : FaithfulBy (Loose N.unread) Any p) (sinks : Sinks nest n 0 m p)
    (said : (s : Input) (span : SourceSpan) → BeginsDeeper nest n s span → N.deep s span) where
  by_kind : (s : Input) (f : Fault) → p.read s ≡ Err f → StandsBy (Loose N.unread) s f → StandsBy N s f
  by_kind s (nested_too_deep span) h k = (s, here, said s span (deeper nest n s span (sinks.deep s span h)))
  by_kind s (lexer e span) h k = k
  by_kind s (expected t found span) h k = k
  by_kind s (expected_either t u found span) h k = k
  by_kind s (expected_multiple ks i found span) h k = k
  by_kind s (empty_type ty kind span) h k = k
  by_kind s (invalid_version text span) h k = k
  by_kind s memory h k = k

  pub deep_faithful : FaithfulBy N Any p
  deep_faithful = record { goes = λ s x r c h. loose.goes s x r c h; stands = λ s f c h. by_kind s f h (loose.stands s f c h) }
