use Rattle.std.proofs.Common.{◌≡◌, ◌<◌, ◌++◌, ◌∷◌, [], ◌∙◌, ap, sym, subst, take, Some, slice_get, length, get_or, arith}
use Rattle.std.specs.Prelude.{string_bytes}
use Rattle.wac_types_base.specs.Entries.{names_of, with_values}
use Rattle.wac_types_base.specs.Graph.{Among}
use Rattle.wac_types_base.proofs.Looked.{entry-place, distinct-before}
use Rattle.wac_types_base.proofs.Loops.{map-one_more, map-take, map-get, names-with_values}
use Rattle.wac_types_base.proofs.remap.NamedMapRemap.remap.Goals as goal

pub push-requires : goal.push-requires
push-requires g c m =
    let n = string_bytes c.in_ok-name.name in
    let x = c.index-values-at.result in
    let f = g.T.Remap.remapped c.args.copies.now in
    let within : c.loop-at.at < length c.args.self.now = omega (arith, c.loop-at-test.true, c.len-at-end.ensures.len) in
    let place : slice_get c.args.self.now c.loop-at.at ≡ Some (n, x) = entry-place c.args.self.now c.names.result.now c.values.result.now c.loop-at.at c.index-names-at.result x c.names.ensures c.values.ensures within
    ∙ ap (λ s. Some (string_bytes s, get_or c.values.result.now c.loop-at.at x)) (sym c.index-names-at.is) ∙ ap (λ b. Some (string_bytes c.index-names-at.result, b)) (sym c.index-values-at.is) ∙ ap (λ k. Some (k, x)) (sym c.in_ok-name.ensures.cases) in
    let before : names_of c.loop-at.copy ≡ take c.loop-at.at (names_of c.args.self.now) = ap names_of c.loop-at.invariant ∙ names-with_values f (take c.loop-at.at c.args.self.now) ∙ map-take (λ e. e.0) c.args.self.now c.loop-at.at in
    distinct-before (names_of c.args.self.now) c.loop-at.at n c.len-at-end.ensures.distinct (map-get (λ e. e.0) c.args.self.now c.loop-at.at (n, x) place) (subst (λ l. Among n l) before m)

pub loop-at-preserved : goal.loop-at-preserved
loop-at-preserved g c =
    let n = string_bytes c.in_ok-name.name in
    let x = c.index-values-at.result in
    let f = g.T.Remap.remapped c.args.copies.now in
    let within : c.loop-at.at < length c.args.self.now = omega (arith, c.loop-at-test.true, c.len-at-end.ensures.len) in
    let place : slice_get c.args.self.now c.loop-at.at ≡ Some (n, x) = entry-place c.args.self.now c.names.result.now c.values.result.now c.loop-at.at c.index-names-at.result x c.names.ensures c.values.ensures within
    ∙ ap (λ s. Some (string_bytes s, get_or c.values.result.now c.loop-at.at x)) (sym c.index-names-at.is) ∙ ap (λ b. Some (string_bytes c.index-names-at.result, b)) (sym c.index-values-at.is) ∙ ap (λ k. Some (k, x)) (sym c.in_ok-name.ensures.cases) in
    c.in_ok-push.ensures.ok ∙ ap (λ l. l ++ (n, c.in_ok-value.value) ∷ []) c.loop-at.invariant
    ∙ ap (λ v. with_values f (take c.loop-at.at c.args.self.now) ++ (n, v) ∷ []) c.in_ok-value.ensures
    ∙ sym (map-one_more (λ e. (e.0, f e.1)) c.args.self.now c.loop-at.at (n, x) place)
