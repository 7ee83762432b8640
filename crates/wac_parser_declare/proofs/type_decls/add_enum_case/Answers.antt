use Rattle.std.specs.Prelude.{List, ⊤}
use Rattle.wac_types_base.specs.Entries.{Name}
use Rattle.wac_parser_tree.specs.Views.{view_ident, view_enum_case}
use Rattle.wac_parser_refusals.specs.Causes.{DuplicateEnumCase}
use Rattle.wac_parser_refusals.proofs.Outcomes.{memory_outcome}
use Rattle.wac_parser_declare.specs.Declarations.{enum_case_of}
use Rattle.wac_parser_declare.specs.TypeDeclarations.{AreNames}
use Rattle.wac_parser_declare.proofs.Named.{name_added, name_taken}
use Rattle.wac_parser_declare.proofs.type_decls.add_enum_case.Goals as goal

pub returns-in_err-name : goal.returns-in_err-name
returns-in_err-name c =
    memory_outcome (λ (xs : List Name) (u : ⊤). AreNames xs c.args.found.now) (enum_case_of c.args.ty.now c.args.found.now (view_enum_case c.args.case.now)) _ c.from_residual.ensures.1

pub returns-in_err-insert : goal.returns-in_err-insert
returns-in_err-insert c =
    memory_outcome (λ (xs : List Name) (u : ⊤). AreNames xs c.insert.new.self) (enum_case_of c.args.ty.now c.args.found.now (view_enum_case c.args.case.now)) _ c.from_residual-in_err-insert.ensures.1

pub returns-then-branch : goal.returns-then-branch
returns-then-branch c =
    name_added (λ (m : Name). DuplicateEnumCase m c.args.ty.now) c.args.found.now (view_ident c.args.case.now.id) c.insert.new.self _ tt c.in_ok-insert.field-0
    c.in_ok-name.ensures.ok c.if-branch.true c.in_ok-insert.ensures.added c.in_ok-insert.ensures.ok

pub returns-else-branch : goal.returns-else-branch
returns-else-branch c =
    name_taken (λ (m : Name). DuplicateEnumCase m c.args.ty.now) c.args.found.now (view_ident c.args.case.now.id) _ _ c.in_ok-insert.field-0
    c.in_ok-name.ensures.ok c.if-branch.false c.in_ok-insert.ensures.added c.duplicate_enum_case.ensures
