use Rattle.std.specs.Prelude.{⊤}
use Rattle.std.proofs.Common.{◌≡◌, List, [], map, get_or, drop, ◌+◌, Ok, ap, refl, subst, sym, ◌∙◌, arith}
use Rattle.wac_types_base.specs.Entries.{Name}
use Rattle.wac_parser_tree.specs.declared.declaration.EnumCase.{EnumCase}
use Rattle.wac_parser_tree.specs.Views.{view_enum_case}
use Rattle.wac_parser_refusals.specs.Causes.{Answer, each}
use Rattle.wac_parser_refusals.specs.Outcomes.{IsHeld}
use Rattle.wac_parser_refusals.proofs.Outcomes.{refused_outcome}
use Rattle.wac_parser_declare.specs.Declarations.{enum_case_of}
use Rattle.wac_parser_declare.specs.TypeDeclarations.{AreNames}
use Rattle.wac_parser_declare.proofs.Loops.{each_next, each_refused_whole, each_ends}
use Rattle.wac_parser_declare.proofs.type_decls.enum_cases.Goals as goal

pub returns-in_err-add_enum_case : goal.returns-in_err-add_enum_case
returns-in_err-add_enum_case c =
    let name = c.args.decl.now.id.string.now in
    let all = each (enum_case_of name) [] (map view_enum_case c.args.decl.now.cases.items) in
    refused_outcome AreNames all _ _ c.from_residual.ensures.1
    (each_refused_whole (enum_case_of name) view_enum_case c.deref-case-items.result.now c.loop-case.case-index all c.loop-case.found c.case-item.result _ c.loop-case.invariant c.loop-case-test.true c.case-item.is c.in_err-add_enum_case.ensures)

pub loop-case-preserved : goal.loop-case-preserved
loop-case-preserved c =
    let name = c.args.decl.now.id.string.now in
    let items = c.deref-case-items.result.now in
    let here : IsHeld (λ (xs : List Name) (u : ⊤). AreNames xs c.add_enum_case.new.found) (enum_case_of name c.loop-case.found (view_enum_case (get_or items c.loop-case.case-index c.case-item.result))) tt =
    subst (λ (x : EnumCase). IsHeld (λ (xs : List Name) (u : ⊤). AreNames xs c.add_enum_case.new.found) (enum_case_of name c.loop-case.found (view_enum_case x)) tt) c.case-item.is c.in_ok-add_enum_case.ensures in
    let n = each_next (enum_case_of name) view_enum_case items c.loop-case.case-index (λ (xs : List Name) (u : ⊤). AreNames xs c.add_enum_case.new.found) c.loop-case.found c.case-item.result tt c.loop-case-test.true here in
    c.loop-case.invariant ∙ n.2 ∙ ap (λ (xs : List Name). each (enum_case_of name) xs (map view_enum_case (drop (c.loop-case.case-index + 1) items))) (sym n.1)

pub returns : goal.returns
returns c =
    let name = c.args.decl.now.id.string.now in
    let all : each (enum_case_of name) [] (map view_enum_case c.args.decl.now.cases.items) ≡ Ok c.loop-case.found =
    c.loop-case.invariant ∙ each_ends (enum_case_of name) view_enum_case c.deref-case-items.result.now c.loop-case.case-index c.loop-case.found (omega (arith, c.loop-case-test.false)) in
    subst (λ (q : Answer (List Name)). IsHeld AreNames q c.loop-case.found) (sym all) refl
