use Rattle.std.proofs.Common.{◌≡◌, refl, subst}
use Rattle.wac_types_fit.specs.Trees.{tree_in, Fit}
use Rattle.wac_types_fit.proofs.TreeLaws.{Fits-refl}
use Rattle.wac_graph_scopes.proofs.value.fits_in.Goals as goal

pub returns-then-is_same-clause-fits : goal.returns-then-is_same-clause-fits
returns-then-is_same-clause-fits c is =
    let types = c.args.types.now in
    let same : c.args.a ≡ c.args.b = c.if-is_same.ensures.0 refl in
    subst (λ k. Fit types c.args.a types k) same (Fits-refl (tree_in types c.args.a))
