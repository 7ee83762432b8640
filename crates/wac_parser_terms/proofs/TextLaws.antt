-- What is cut off a text.
use Rattle.std.proofs.Common.{◌≡◌, ℕ, List, Option, Some, None, Bor, MatchOption}
use Rattle.std.specs.Prelude.{codes}
use Rattle.std.specs.Option.{unwrap_or}
use Rattle.std.specs.Str.Pattern.{FindsTextSuffix, StripsSuffix}
use Rattle.wac_parser_grammar.specs.Names.{strip_close}
use Rattle.wac_parser_lexer.proofs.DocLaws.{has_suffix, lacks_suffix}

pub closed : (s : List ℕ) (d : Bor (List ℕ)) (r : Option (Bor (List ℕ))) → d.now ≡ s
    → MatchOption r (FindsTextSuffix (codes "\"") s None) (λ x. StripsSuffix (FindsTextSuffix (codes "\"")) s x.now) → (unwrap_or r d).now ≡ strip_close s
closed s d None e h = rw (lacks_suffix (codes "\"") s h) e
closed s d (Some x) e h = let p = has_suffix (codes "\"") s x.now h in rw (p.0) (p.1)
