-- How statements and documents are written.
use Rattle.std.specs.Prelude.{List, [], ◌∷◌, Option}
use Rattle.wac_parser_lexer.specs.declared.token.Token.{Token}
use Rattle.wac_parser_lexer.specs.declared.token.Token.TheVariants as k
use Rattle.wac_parser_tree.specs.Trees as t
use Rattle.wac_parser_grammar.specs.Ahead.{none_of}
use Rattle.wac_parser_grammar.specs.Rules.{Rule, ◌>>=◌, ◌>>◌, pure, refuse, token, begin, begin_any, optional_of, all_of}
use Rattle.wac_parser_grammar.specs.Names.{docs, ident, string, package_name, package_path}
use Rattle.wac_parser_grammar.specs.ValueTypes.{func_first, func_type}
use Rattle.wac_parser_grammar.specs.Expressions.{name_first, expression}
use Rattle.wac_parser_grammar.specs.Declarations.{type_decl_first, type_decl}
use Rattle.wac_parser_grammar.specs.Worlds.{interface_decl, inline_interface, world_decl}

abbrev pub type_statement_first : List Token
type_statement_first = k.InterfaceKeyword ∷ k.WorldKeyword ∷ type_decl_first

abbrev pub statement_first : List Token
statement_first = k.ImportKeyword ∷ k.LetKeyword ∷ k.ExportKeyword ∷ type_statement_first

unfoldable pub extern_name : Rule t.ExternName
extern_name =
    begin k.Ident (ident >>= λ id. pure (t.ExternName.ident id))
    (begin k.String (string >>= λ s. pure (t.ExternName.string s))
    (refuse (none_of name_first)))

unfoldable pub import_type : Rule t.ImportType
import_type =
    begin_any func_first (func_type >>= λ f. pure (t.ImportType.func f))
    (begin k.InterfaceKeyword (inline_interface >>= λ i. pure (t.ImportType.interface i))
    (begin k.PackagePath (package_path >>= λ p. pure (t.ImportType.package_path p))
    (begin k.Ident (ident >>= λ id. pure (t.ImportType.ident id))
    (refuse (none_of (k.AsyncKeyword ∷ k.FuncKeyword ∷ k.InterfaceKeyword ∷ k.PackagePath ∷ k.Ident ∷ []))))))

unfoldable pub import_name : Rule (Option t.ExternName)
import_name = optional_of k.AsKeyword extern_name

unfoldable pub import_statement : Rule t.ImportStatement
import_statement = do
  docs ← docs
  token k.ImportKeyword
  id ← ident
  name ← import_name
  token k.Colon
  ty ← import_type
  token k.Semicolon
  pure (record { docs = docs; id = id; name = name; ty = ty })

unfoldable pub let_statement : Rule t.LetStatement
let_statement = do
  docs ← docs
  token k.LetKeyword
  id ← ident
  token k.Equals
  e ← expression
  token k.Semicolon
  pure (record { docs = docs; id = id; expr = e })

unfoldable pub export_options : Rule t.ExportOptions
export_options =
    begin k.Ellipsis (token k.Ellipsis >>= λ span. pure (t.ExportOptions.spread span))
    (begin k.AsKeyword (token k.AsKeyword >> extern_name >>= λ name. pure (t.ExportOptions.rename name))
    (pure t.ExportOptions.none))

unfoldable pub export_statement : Rule t.ExportStatement
export_statement = do
  docs ← docs
  token k.ExportKeyword
  e ← expression
  options ← export_options
  token k.Semicolon
  pure (record { docs = docs; expr = e; options = options })

unfoldable pub type_statement : Rule t.TypeStatement
type_statement =
    begin k.InterfaceKeyword (interface_decl >>= λ x. pure (t.TypeStatement.interface x))
    (begin k.WorldKeyword (world_decl >>= λ x. pure (t.TypeStatement.world x))
    (begin_any type_decl_first (type_decl >>= λ x. pure (t.TypeStatement.ty x))
    (refuse (none_of type_statement_first))))

unfoldable pub statement : Rule t.Statement
statement =
    begin k.ImportKeyword (import_statement >>= λ x. pure (t.Statement.import x))
    (begin k.LetKeyword (let_statement >>= λ x. pure (t.Statement.let_ x))
    (begin k.ExportKeyword (export_statement >>= λ x. pure (t.Statement.export x))
    (begin_any type_statement_first (type_statement >>= λ x. pure (t.Statement.ty x))
    (refuse (none_of statement_first)))))

unfoldable pub targets : Rule (Option t.PackagePath)
targets = optional_of k.TargetsKeyword package_path

unfoldable pub package_directive : Rule t.PackageDirective
package_directive = do
  token k.PackageKeyword
  name ← package_name
  targets ← targets
  token k.Semicolon
  pure (record { «package» = name; targets = targets })

-- a directive, and statements to the end
unfoldable pub document : Rule t.Document
document = do
  docs ← docs
  directive ← package_directive
  statements ← all_of statement
  pure (record { docs = docs; directive = directive; statements = statements })
