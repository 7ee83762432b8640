use Rattle.std.proofs.Common.{◌≡◌, subst, sym, refl}
use Rattle.wac_types_base.specs.Graph.{Among}
use Rattle.wac_types_fit.proofs.Caching.{found-among}
use Rattle.wac_types_fit.proofs.cache.knows.Goals as goal

pub returns-then-is_same : goal.returns-then-is_same
returns-then-is_same c t =
    let p = c.in-Some.pair.now in
    let first : p.0 ≡ c.args.a = c.if-is_same.ensures.0 refl in
    let second : p.1 ≡ c.args.b = c.is_same-then-is_same.ensures.0 t in
    let whole : p ≡ (c.args.a, c.args.b) = λ i. (first i, second i) in
    subst (λ q. Among q c.args.cache.now.keys) whole (found-among _ c.args.cache.now.keys p (sym c.in-Some.ensures.key))
