use Rattle.std.specs.Prelude.{⊤}
use Rattle.std.proofs.Common.{◌≡◌, List, [], map, get_or, drop, ◌+◌, Ok, ap, refl, subst, sym, ◌∙◌, arith}
use Rattle.wac_types_base.specs.Entries.{Name}
use Rattle.wac_parser_tree.specs.declared.declaration.Flag.{Flag}
use Rattle.wac_parser_tree.specs.Views.{view_flag}
use Rattle.wac_parser_refusals.specs.Causes.{Answer, each}
use Rattle.wac_parser_refusals.specs.Outcomes.{IsHeld}
use Rattle.wac_parser_refusals.proofs.Outcomes.{refused_outcome}
use Rattle.wac_parser_declare.specs.Declarations.{flag_of}
use Rattle.wac_parser_declare.specs.TypeDeclarations.{AreNames}
use Rattle.wac_parser_declare.proofs.Loops.{each_next, each_refused_whole, each_ends}
use Rattle.wac_parser_declare.proofs.type_decls.flags.Goals as goal

pub returns-in_err-add_flag : goal.returns-in_err-add_flag
returns-in_err-add_flag c =
    let name = c.args.decl.now.id.string.now in
    let all = each (flag_of name) [] (map view_flag c.args.decl.now.flags.items) in
    refused_outcome AreNames all _ _ c.from_residual.ensures.1
    (each_refused_whole (flag_of name) view_flag c.deref-flag-items.result.now c.loop-flag.flag-index all c.loop-flag.found c.flag-item.result _ c.loop-flag.invariant c.loop-flag-test.true c.flag-item.is c.in_err-add_flag.ensures)

pub loop-flag-preserved : goal.loop-flag-preserved
loop-flag-preserved c =
    let name = c.args.decl.now.id.string.now in
    let items = c.deref-flag-items.result.now in
    let here : IsHeld (λ (xs : List Name) (u : ⊤). AreNames xs c.add_flag.new.found) (flag_of name c.loop-flag.found (view_flag (get_or items c.loop-flag.flag-index c.flag-item.result))) tt =
    subst (λ (x : Flag). IsHeld (λ (xs : List Name) (u : ⊤). AreNames xs c.add_flag.new.found) (flag_of name c.loop-flag.found (view_flag x)) tt) c.flag-item.is c.in_ok-add_flag.ensures in
    let n = each_next (flag_of name) view_flag items c.loop-flag.flag-index (λ (xs : List Name) (u : ⊤). AreNames xs c.add_flag.new.found) c.loop-flag.found c.flag-item.result tt c.loop-flag-test.true here in
    c.loop-flag.invariant ∙ n.2 ∙ ap (λ (xs : List Name). each (flag_of name) xs (map view_flag (drop (c.loop-flag.flag-index + 1) items))) (sym n.1)

pub returns : goal.returns
returns c =
    let name = c.args.decl.now.id.string.now in
    let all : each (flag_of name) [] (map view_flag c.args.decl.now.flags.items) ≡ Ok c.loop-flag.found =
    c.loop-flag.invariant ∙ each_ends (flag_of name) view_flag c.deref-flag-items.result.now c.loop-flag.flag-index c.loop-flag.found (omega (arith, c.loop-flag-test.false)) in
    subst (λ (q : Answer (List Name)). IsHeld AreNames q c.loop-flag.found) (sym all) refl
