use Rattle.std.proofs.Common.{◌≡◌, [], refl, ap, subst, arith}
use Rattle.std.specs.Prelude.{string_bytes}
use Rattle.std.proofs.lemmas.Option.{slice_get_past}
use Rattle.wac_graph_core.specs.Ties.{Passes, arguments_in, arguments_at}
use Rattle.wac_graph_core.specs.TieSteps.{not_passed}
use Rattle.wac_graph_core.proofs.places.take_argument.Goals as goal

pub returns-else-index-len : goal.returns-else-index-len
returns-else-index-len c =
    let none : arguments_at c.args.ties.now.items c.args.node ≡ [] = ap arguments_in (slice_get_past c.args.ties.now.items c.args.node (omega (arith, c.if-index-len.false, c.index.ensures, c.len.ensures, c.args.ties.now.ok.0))) in
    record { take = not_passed (λ h. absurd ((subst (λ xs. Passes xs (string_bytes c.args.name.now) c.args.argument) none h).there)) refl; others = λ j ne. refl; dependants = λ j. refl; sources = λ j. refl }
