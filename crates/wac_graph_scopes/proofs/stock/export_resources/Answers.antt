use Rattle.std.proofs.Common.{◌≡◌, ℕ, length, subst, arith}
use Rattle.wac_types_parts.specs.Parts.{exports_of}
use Rattle.wac_graph_scopes.specs.Stock.{HoldsOwn}
use Rattle.wac_graph_scopes.proofs.StockLaws.{KeepsTypes-refl, KeepsTypes-trans, own_next}
use Rattle.wac_graph_scopes.proofs.stock.export_resources.Goals as goal

pub returns-clause-writes : goal.returns-clause-writes
returns-clause-writes c w outer k = c.loop-at.invariant.written w outer k

pub returns-clause-own : goal.returns-clause-own
returns-clause-own c h =
    let types = c.args.types.now in
    let end : c.loop-at.at ≡ length (exports_of types c.args.id) = omega (arith, c.loop-at-test.false, c.export_count-count.ensures.len) in
    subst (λ (n : ℕ). HoldsOwn types c.args.id n c.loop-at.scope.types) end (c.loop-at.invariant.own h)

pub loop-at-init : goal.loop-at-init
loop-at-init c = record { written = λ w outer k. k; keeps = KeepsTypes-refl c.args.scope.now.types; given = λ h. h; own = λ h m lt. absurd (omega arith) }

pub loop-at-preserved : goal.loop-at-preserved
loop-at-preserved c =
    let i = c.loop-at.invariant in
    let made = c.in_ok-export_fresh_at.ensures in
    record {
      written = λ w outer k. made.writes w outer (i.written w outer k);
      keeps = KeepsTypes-trans c.args.scope.now.types c.loop-at.scope.types c.export_fresh_at.new.scope.types i.keeps made.keeps;
      given = λ h. made.given (i.given h);
      own = λ h. own_next c.args.types.now c.args.id c.loop-at.scope.types c.export_fresh_at.new.scope.types made.keeps c.loop-at.at (i.own h) (made.own (i.given h));
    }
