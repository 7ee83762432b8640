use Rattle.std.proofs.Common.{◌≡◌, ℕ, Vec, Global, List, Some, slice_get, sym, ap, ◌∙◌, subst, arith}
use Rattle.std.proofs.lemmas.List.{length-map}
use Rattle.wac_types_base.proofs.Loops.{mapped_next}
use Rattle.wac_graph_scopes.specs.Behind.{lists_of}
use Rattle.wac_graph_scopes.specs.UsePlaces.{ItemUses}
use Rattle.wac_graph_scopes.specs.Imports.{all_exports}
use Rattle.wac_graph_scopes.proofs.OrderLaws.{pushed_all}
use Rattle.wac_graph_scopes.proofs.order.needs_found.Goals as goal

pub loop-at-preserved : goal.loop-at-preserved
loop-at-preserved c =
    let a = c.args.all in
    let found = c.args.found.now in
    let us = c.loop-at.needs.items in
    let v = c.in_ok-needs_of_export.field-0 in
    let pushed = ap lists_of c.in_ok-push.ensures.items ∙ mapped_next (λ (x : Vec ℕ Global). x.items) us v in
    record {
      len = omega (arith, c.in_ok-push.ensures.len, c.loop-at.invariant.len, length-map us (λ (x : Vec ℕ Global). x.items), length-map c.push.new.self.items (λ (x : Vec ℕ Global). x.items));
      uses = subst (λ (l : List (List ℕ)). (k : ℕ) (ns : List ℕ) → slice_get l k ≡ Some ns → ItemUses a.types.now (all_exports a) found k ns) (sym pushed)
          (pushed_all (ItemUses a.types.now (all_exports a) found) (lists_of us) v.items c.loop-at.invariant.uses (subst (λ k. ItemUses a.types.now (all_exports a) found k v.items) (sym c.loop-at.invariant.len) c.in_ok-needs_of_export.ensures));
    }

pub returns : goal.returns
returns c = (omega (arith, c.loop-at-test.false, c.loop-at.invariant.len, c.loop-at.auto.at-end, c.world_export_count-at-end.ensures.len), c.loop-at.invariant.uses)
