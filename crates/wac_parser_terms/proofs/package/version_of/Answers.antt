use Rattle.std.proofs.Common.{ℕ, List, Option, Bor, sym, subst}
use Rattle.std.specs.Option.{option_map}
use Rattle.semver.specs.Identifiers.{parts_of}
use Rattle.wac_parser_grammar.specs.Names.{version_by}
use Rattle.wac_parser_grammar.specs.Reads.{Reads}
use Rattle.wac_parser_terms.proofs.package.version_of.Goals as goal

pub returns-in-Some : goal.returns-in-Some
returns-in-Some c = λ s.
    let P : Option (Bor (List ℕ)) → Type 0 = λ (o : Option (Bor (List ℕ))). Reads (option_map parts_of) (version_by (option_map (λ (z : Bor (List ℕ)). z.now) o) c.args.span) s c.read_version.result s in
    subst P (sym c.in-Some.is) (c.read_version.ensures s)
