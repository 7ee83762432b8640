use Rattle.wac_types_base.specs.Graph.{Among}
use Rattle.wac_types_base.specs.Entries.{Name}
use Rattle.wac_graph_scopes.specs.Items.{WritesSome}
use Rattle.std.proofs.Common.{◌≡◌, ℕ, List, length, sym, subst, arith}
use Rattle.wac_types_parts.specs.Parts.{uses_of}
use Rattle.wac_graph_scopes.specs.Stock.{HoldsUses}
use Rattle.wac_graph_scopes.proofs.StockLaws.{uses_next}
use Rattle.wac_graph_scopes.proofs.stock.take_uses.Goals as goal

pub returns-clause-begins : goal.returns-clause-begins
returns-clause-begins c w outer around k = (c.loop-at.invariant.written w outer around k).writing

pub loop-at-init : goal.loop-at-init
loop-at-init c = record {
  written = λ w outer around k. record {
    writing = subst (WritesSome w c.args.all.types.now outer c.args.all.id c.args.scope.now) (sym c.new-given.ensures) k;
    before_it = λ n m. absurd (subst (λ (l : List Name). Among n l) c.new-given.ensures m);
  };
  held = λ n lt. absurd (omega arith);
  given = λ n m. absurd (subst (λ (l : List Name). Among n l) c.new-given.ensures m);
}

pub returns-clause-held : goal.returns-clause-held
returns-clause-held c =
    let types = c.args.all.types.now in
    let us = c.args.all.around.used.now in
    let end : c.loop-at.at ≡ length (uses_of types c.args.all.id) = omega (arith, c.loop-at-test.false, c.use_count-count.ensures.len) in
    subst (λ (n : ℕ). HoldsUses types us c.args.all.id n c.loop-at.scope.types) end c.loop-at.invariant.held

pub loop-at-preserved : goal.loop-at-preserved
loop-at-preserved c =
    let i = c.loop-at.invariant in
    let made = c.in_ok-take_use_at.ensures in
    record {
      written = λ w outer around k. made.takes w outer around (i.written w outer around k);
      held = uses_next c.args.all.types.now c.args.all.around.used.now c.args.all.id c.loop-at.scope.types c.take_use_at.new.scope.types made.keeps c.loop-at.at i.held made.held;
      given = made.given i.given;
    }
