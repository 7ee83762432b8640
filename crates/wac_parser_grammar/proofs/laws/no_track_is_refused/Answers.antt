-- Each rule, by its own law.
use Rattle.std.proofs.Common.{ℕ, List}
use Rattle.wac_types_names.specs.Tracks.{IsTrack}
use Rattle.wac_parser_grammar.specs.Rules.{Rule}
use Rattle.wac_parser_grammar.specs.Laws.{FaultsStandBy}
use Rattle.wac_parser_grammar.specs.Standing.{IsUntracked}
use Rattle.wac_parser_grammar.proofs.Faithful.{FaithfulBy, Any}
use Rattle.wac_parser_grammar.proofs.NameFaults.{new_package_faithful}
use Rattle.wac_parser_grammar.proofs.ExprFaults.{expression_untracked, argument_by, named_by, nested_by, new_by, primary_by}
use Rattle.wac_parser_grammar.proofs.DocumentFaults.{let_by, export_by}
use Rattle.wac_parser_grammar.proofs.laws.no_track_is_refused.Goals as goal

stand : {X : Type 0} {n : ℕ} (p : Rule X) → FaithfulBy (IsUntracked n) Any p → FaultsStandBy (IsUntracked n) p
stand p e = record { goes_on = λ s x r h. e.goes s x r tt h; stands = λ s f h. e.stands s f tt h }

none : (text : List ℕ) → (IsTrack text → ⊥) → IsTrack text → ⊥
none text h = h

pub returns : goal.returns
returns c = record {
  new_package = stand _ (new_package_faithful none);
  expression = stand _ expression_untracked;
  instantiation_argument = λ depth. stand _ (argument_by _ none depth);
  named_argument = λ depth. stand _ (named_by _ none depth);
  nested_expr = λ depth. stand _ (nested_by _ none depth);
  new_expr = λ depth. stand _ (new_by _ none depth);
  primary_expr = λ depth. stand _ (primary_by _ none depth);
  let_statement = stand _ (let_by expression_untracked);
  export_statement = stand _ (export_by expression_untracked);
}
