use Rattle.std.proofs.Common.{◌≡◌, ◌∷◌, subst}
use Rattle.std.specs.Prelude.{IfSome, IfNone}
use Rattle.wac_types_base.specs.Entries.{Name}
use Rattle.wac_types_fit.specs.Trees.{tree_in}
use Rattle.wac_graph_scopes.specs.Used.{IsUsedAs}
use Rattle.wac_graph_scopes.specs.Items.{Never, IsTypeItem}
use Rattle.wac_graph_scopes.proofs.stock.alias_around.Goals as goal

pub returns-in_ok-alias-in-Some-found-clause-aliases : goal.returns-in_ok-alias-in-Some-found-clause-aliases
returns-in_ok-alias-in-Some-found-clause-aliases c w outer i h are =
    let types = c.args.types.now in
    let depth = c.args.around.depth in
    c.in_ok-alias-in-Some-found.ensures.aliases w types outer i (tree_in types c.args.item) h
    (subst (λ o. IfSome o (IsTypeItem w (i.here ∷ outer) depth (tree_in types c.args.item))) c.in-Some-found.is (c.in_ok-found.ensures.reads w (i.here ∷ outer) depth are))

pub returns-in-None-clause-none : goal.returns-in-None-clause-none
returns-in-None-clause-none c stands k h =
    let types = c.args.types.now in
    let us = c.args.around.used.now in
    let n = c.args.used.there.now in
    let i = c.in-Some.identifier.now in
    let this : h.0 ≡ i = cc (h.1, c.in-Some.ensures) in
    subst (λ o. IfNone o (Never (IsUsedAs types us i n c.args.item))) c.in-None.is (c.in_ok-found.ensures.none stands)
    k (subst (λ (m : Name). IsUsedAs types us m n c.args.item k) this h.2)
