use Rattle.std.proofs.Common.{◌≡◌, ℕ, ◌<◌, List, ◌++◌, ◌∷◌, [], ◌∙◌, ap, sym, subst, take, Some, slice_get, length, arith}
use Rattle.std.specs.Prelude.{string_bytes}
use Rattle.wac_types_base.specs.Entries.{names_of}
use Rattle.wac_types_base.specs.Graph.{Among}
use Rattle.wac_types_base.proofs.Looked.{distinct-before, take-one_more}
use Rattle.wac_types_base.proofs.PairNames.{pair-place}
use Rattle.wac_types_base.proofs.Loops.{map-take, map-get}
use Rattle.wac_types_base.proofs.remap.CoreImportsRemap.remap.Goals as goal

pub push-requires : goal.push-requires
push-requires c m =
    let t = c.index-names-at.result in
    let x = c.index-values-at.result in
    let within : c.loop-at.at < length c.args.self.now = omega (arith, c.loop-at-test.true, c.len-at-end.ensures.len) in
    let first : List ℕ → List ℕ × List ℕ = λ a. (a, string_bytes t.1) in
    let second : List ℕ → List ℕ × List ℕ = λ b. (string_bytes c.in_ok-module_name.module_name, b) in
    let n : List ℕ × List ℕ = (string_bytes c.in_ok-module_name.module_name, string_bytes c.in_ok-name.name) in
    let named : (string_bytes t.0, string_bytes t.1) ≡ n = ap first (sym c.in_ok-module_name.ensures.cases) ∙ ap second (sym c.in_ok-name.ensures.cases) in
    let place : slice_get c.args.self.now c.loop-at.at ≡ Some (n, x) = pair-place c.args.self.now c.names.result.now c.values.result.now c.loop-at.at t x c.names.ensures c.values.ensures within c.index-names-at.is c.index-values-at.is
    ∙ ap (λ k. Some (k, x)) named in
    let before : names_of c.loop-at.copy ≡ take c.loop-at.at (names_of c.args.self.now) = ap names_of c.loop-at.invariant ∙ map-take (λ e. e.0) c.args.self.now c.loop-at.at in
    distinct-before (names_of c.args.self.now) c.loop-at.at n c.len-at-end.ensures.distinct (map-get (λ e. e.0) c.args.self.now c.loop-at.at (n, x) place) (subst (λ l. Among n l) before m)

pub loop-at-preserved : goal.loop-at-preserved
loop-at-preserved c =
    let t = c.index-names-at.result in
    let x = c.index-values-at.result in
    let within : c.loop-at.at < length c.args.self.now = omega (arith, c.loop-at-test.true, c.len-at-end.ensures.len) in
    let first : List ℕ → List ℕ × List ℕ = λ a. (a, string_bytes t.1) in
    let second : List ℕ → List ℕ × List ℕ = λ b. (string_bytes c.in_ok-module_name.module_name, b) in
    let n : List ℕ × List ℕ = (string_bytes c.in_ok-module_name.module_name, string_bytes c.in_ok-name.name) in
    let named : (string_bytes t.0, string_bytes t.1) ≡ n = ap first (sym c.in_ok-module_name.ensures.cases) ∙ ap second (sym c.in_ok-name.ensures.cases) in
    let place : slice_get c.args.self.now c.loop-at.at ≡ Some (n, x) = pair-place c.args.self.now c.names.result.now c.values.result.now c.loop-at.at t x c.names.ensures c.values.ensures within c.index-names-at.is c.index-values-at.is
    ∙ ap (λ k. Some (k, x)) named in
    c.in_ok-push.ensures.ok ∙ ap (λ l. l ++ (n, c.in_ok-item.item) ∷ []) c.loop-at.invariant
    ∙ ap (λ v. take c.loop-at.at c.args.self.now ++ (n, v) ∷ []) c.in_ok-item.ensures
    ∙ sym (take-one_more c.args.self.now c.loop-at.at (n, x) place)
