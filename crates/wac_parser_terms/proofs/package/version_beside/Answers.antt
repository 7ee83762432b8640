use Rattle.std.proofs.Common.{ℕ, List, Option, Bor, sym, subst}
use Rattle.std.specs.Option.{option_map}
use Rattle.semver.specs.Identifiers.{parts_of}
use Rattle.wac_parser_grammar.specs.Names.{version_beside}
use Rattle.wac_parser_grammar.specs.Reads.{Reads}
use Rattle.wac_parser_terms.specs.Views.{view_text}
use Rattle.wac_parser_terms.proofs.package.version_beside.Goals as goal

pub returns-in-None : goal.returns-in-None
returns-in-None c = λ s.
    let P : Option (Bor (List ℕ)) → Type 0 = λ (o : Option (Bor (List ℕ))). Reads (option_map parts_of) (version_beside (option_map (λ (z : Bor (List ℕ)). z.now) o) (view_text c.args.version) c.args.span) s c.version_of.result s in
    subst P (sym c.in-None.is) (c.version_of.ensures s)
