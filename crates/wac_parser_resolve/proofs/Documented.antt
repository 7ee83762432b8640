-- What a document has said, as callers see it.
use Rattle.std.proofs.Common.{◌≡◌, Option, Ok, Err, refl, sym, ap, subst, ◌∙◌}
use Rattle.std.specs.Option.{option_or}
use Rattle.wac_types_base.specs.declared.ids.WorldId.{WorldId}
use Rattle.wac_types_base.specs.Stated.{Stated}
use Rattle.wac_types_names.specs.Keys.{package_key}
use Rattle.wac_graph_core.specs.Graph.{Graph, IsGraph}
use Rattle.wac_parser_tree.specs.Trees as t
use Rattle.wac_parser_refusals.specs.declared.error.Error.{Error}
use Rattle.wac_parser_refusals.specs.declared.refusal.Refusal.{Refusal}
use Rattle.wac_parser_refusals.specs.Causes.{Answer, Cause}
use Rattle.wac_parser_refusals.specs.Outcomes.{IsMemory, IsRefusal, Tells}
use Rattle.wac_parser_refusals.specs.Views.{cause_in, cause_of}
use Rattle.wac_parser_resolve.specs.declared.state.State.{State as Held}
use Rattle.wac_parser_resolve.specs.Ascribing.{State}
use Rattle.wac_parser_resolve.specs.InDocuments.{HoldsAll, IsBuilt, IsErrorOf, places_in}
use Rattle.wac_parser_resolve.specs.Knowing.{handed_under}
use Rattle.wac_parser_resolve.specs.Resolved.{Places}
use Rattle.wac_parser_resolve.specs.Said.{IsSaid}
use Rattle.wac_parser_resolve.proofs.Knowing.{known_package}

pub built : (p : t.PackageName) (b : Held) (s : State) → IsGraph b.board.types.graph → IsSaid p b s → IsBuilt b.board.types.graph (places_in b) s
built p b s sound said = record {
  names = b.nodes;
  says = said.board.says;
  imports = said.imports;
  definitions = said.definitions;
  exported = b.exports.noted.items;
  exports = said.exports;
  packages = λ id q at.
      sym (said.board.known (package_key q)) ∙ ap (λ o. option_or o (handed_under b.board.types (package_key q))) (known_package b.board.types.graph sound id q (package_key q) at refl);
}

pub error_told : {A : Type 0} (q : Answer A) (e : Refusal) (f : Error) → cause_of f ≡ cause_in e → IsRefusal q e → IsErrorOf q f
error_told (Ok a) e f same h = subst (λ (o : Option Cause). IsMemory o) (sym same) h
error_told (Err c) e f same h = subst (λ (o : Option Cause). Tells o c) (sym same) h

-- with the graph, the places and the target by other names
pub holds_as : (g h : Graph) (a b : Places) (w v : Option WorldId) (q : State × Option Stated) → h ≡ g → b ≡ a → v ≡ w → HoldsAll q g a w → HoldsAll q h b v
holds_as g h a b w v q same places target x =
    subst (λ (i : Graph). HoldsAll q i b v) (sym same) (subst (λ (c : Places). HoldsAll q g c v) (sym places) (subst (λ (u : Option WorldId). HoldsAll q g a u) (sym target) x))
