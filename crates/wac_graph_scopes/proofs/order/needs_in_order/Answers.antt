use Rattle.std.proofs.Common.{◌≡◌, ℕ, Vec, Global, List, Some, slice_get, sym, ap, ◌∙◌, subst, arith}
use Rattle.std.proofs.lemmas.List.{length-map}
use Rattle.wac_types_base.proofs.Loops.{mapped_next}
use Rattle.wac_graph_scopes.specs.Behind.{lists_of}
use Rattle.wac_graph_scopes.specs.UsePlaces.{IsNeeds}
use Rattle.wac_graph_scopes.proofs.OrderLaws.{pushed_all}
use Rattle.wac_graph_scopes.proofs.order.needs_in_order.Goals as goal

pub loop-at-preserved : goal.loop-at-preserved
loop-at-preserved c =
    let a = c.args.all in
    let found = c.args.found.now in
    let order = c.args.order.now.keys in
    let us = c.loop-at.needs.items in
    let v = c.in_ok-needs_of_import.field-0 in
    let pushed = ap lists_of c.in_ok-push.ensures.items ∙ mapped_next (λ (x : Vec ℕ Global). x.items) us v in
    let many = length-map us (λ (x : Vec ℕ Global). x.items) ∙ c.loop-at.invariant.len in
    record {
      len = omega (arith, c.in_ok-push.ensures.len, c.loop-at.invariant.len);
      needs = subst (λ (l : List (List ℕ)). (k : ℕ) (ns : List ℕ) → slice_get l k ≡ Some ns → IsNeeds a found order k ns) (sym pushed)
          (pushed_all (IsNeeds a found order) (lists_of us) v.items c.loop-at.invariant.needs (subst (λ k. IsNeeds a found order k v.items) (sym many) c.in_ok-needs_of_import.ensures));
    }
