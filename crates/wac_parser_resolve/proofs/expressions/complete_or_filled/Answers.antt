use Rattle.std.proofs.Common.{List, subst, sym, ◌∙◌}
use Rattle.std.specs.Prelude.{⊤, find, map, not}
use Rattle.wac_types_base.specs.Entries.{Name, has_name}
use Rattle.wac_parser_tree.specs.Trees as t
use Rattle.wac_parser_tree.specs.Views.{view_instantiation_argument, view_package_name}
use Rattle.wac_parser_refusals.specs.Outcomes.{IsOutcome}
use Rattle.wac_parser_resolve.specs.Denoting as stated
use Rattle.wac_parser_resolve.specs.Denoting.{none_missing}
use Rattle.wac_parser_resolve.specs.InArguments.{imported_by}
use Rattle.wac_parser_resolve.proofs.Boards.{completed, filled_held}
use Rattle.wac_parser_resolve.proofs.expressions.complete_or_filled.Goals as goal

pub returns-then-is_filled : goal.returns-then-is_filled
returns-then-is_filled c gs names =
    filled_held _ (view_package_name c.args.new.now.«package») gs (imported_by c.args.types.now c.args.world) (sym c.is_filled.ensures ∙ c.if-is_filled.true)

pub returns : goal.returns
returns c gs names =
    let p = view_package_name c.args.new.now.«package» in
    let ns = imported_by c.args.types.now c.args.world in
    completed (stated.is_filled (t.arguments (map view_instantiation_argument c.args.new.now.arguments.items))) p gs ns c.complete.result (sym c.is_filled.ensures ∙ c.if-is_filled.false)
    (subst (λ (ks : List Name). IsOutcome (λ (u v : ⊤). Unit {0}) (none_missing p (find (λ n. not (has_name ks n)) ns)) c.complete.result) names c.complete.ensures)
