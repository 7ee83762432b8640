-- The faults of a composition that come from parsing and from resolving.
use Rattle.std.specs.Prelude.{◌≡◌, ◌⊎◌}
use Rattle.wac_parser_grammar.specs.declared.error.Error.{Error as ParseError}
use Rattle.wac_parser_grammar.specs.declared.error.Error.TheVariants as parse
use Rattle.wac_parser_refusals.specs.declared.error.Error.{Error as ResolutionError}
use Rattle.wac_parser_refusals.specs.declared.error.Error.TheVariants as resolution
use Rattle.wac_workspace.specs.declared.error.ComposeError.{ComposeError}
use Rattle.wac_workspace.specs.declared.error.ComposeError.TheVariants as error

-- want of memory is one fault of a composition; any other fault of parsing is passed on
abbrev pub IsParsing : ParseError → ComposeError → Type 0
IsParsing parse.Memory e = e ≡ error.Memory
IsParsing f e = e ≡ error.Parse f

-- the same of resolving
abbrev pub IsResolving : ResolutionError → ComposeError → Type 0
IsResolving f e = ((f ≡ resolution.Memory) × (e ≡ error.Memory)) ⊎ (e ≡ error.Resolution f)
