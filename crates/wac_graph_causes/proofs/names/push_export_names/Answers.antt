use Rattle.std.proofs.Common.{◌≡◌, ◌≤◌, ℕ, ◌++◌, ◌∷◌, [], take, length, slice_get, Some, sym, ap, subst, ◌∙◌, append_assoc, arith}
use Rattle.std.proofs.lemmas.List.{take_all}
use Rattle.wac_types_base.specs.Entries.{Name, names_of}
use Rattle.wac_types_base.proofs.Looked.{take-one_more}
use Rattle.wac_types_base.proofs.Loops.{mapped_next}
use Rattle.wac_graph_causes.proofs.names.push_export_names.Goals as goal

pub loop-at-preserved : goal.loop-at-preserved
loop-at-preserved c =
    let es = c.args.graph.now.exports in
    let i = c.loop-at.at in
    let e : Name × ℕ = (c.entry.result.0.now, c.entry.result.1) in
    let there : slice_get es i ≡ Some e = subst (λ l. slice_get l i ≡ Some e) c.exports-listed.ensures c.entry.ensures in
    c.in_ok-push_copy.ensures ∙ ap (λ l. l ++ e.0 ∷ []) c.loop-at.invariant ∙ append_assoc c.args.names.now.items (names_of (take i es)) (e.0 ∷ [])
    ∙ ap (λ l. c.args.names.now.items ++ l) (sym (ap names_of (take-one_more es i e there) ∙ mapped_next (λ (x : Name × ℕ). x.0) (take i es) e))

pub returns : goal.returns
returns c =
    let es = c.args.graph.now.exports in
    let same = ap (λ l. length l) c.exports-listed.ensures in
    let past : length es ≤ c.loop-at.at = omega (arith, same, c.len-at-end.ensures.len, c.loop-at-test.false) in
    c.loop-at.invariant ∙ ap (λ l. c.args.names.now.items ++ names_of l) (take_all c.loop-at.at es past)
