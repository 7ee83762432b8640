use Rattle.std.proofs.Common.{arith}
use Rattle.std.proofs.lemmas.Option.{slice_get_within}
use Rattle.wac_types_parts.specs.Parts.{uses_of}
use Rattle.wac_graph_scopes.proofs.PreparedLaws.{keeps_same, keeps_both, stand_next}
use Rattle.wac_graph_scopes.proofs.imports.ImportScope.alias_uses.Goals as goal

pub loop-at-init : goal.loop-at-init
loop-at-init c = record { goes = λ w outer i imported exported h. h; kept = keeps_same c.args.all c.args.self.now; stand = λ m lt. absurd (omega (arith, lt)) }

pub returns-clause-keeps : goal.returns-clause-keeps
returns-clause-keeps c w outer i imported exported h = c.loop-at.invariant.goes w outer i imported exported h

pub returns-clause-stands : goal.returns-clause-stands
returns-clause-stands c at e there =
    let within = slice_get_within (uses_of c.args.all.types.now c.args.id) at e there in
    c.loop-at.invariant.stand at (omega (arith, within, c.loop-at-test.false, c.use_count-at-end.ensures.len)) e there

pub loop-at-preserved : goal.loop-at-preserved
loop-at-preserved c =
    let before = c.loop-at.invariant in
    let now = c.in_ok-alias_use_at.ensures in
    record {
      goes = λ w outer i imported exported h. now.keeps w outer i imported exported (before.goes w outer i imported exported h);
      kept = keeps_both c.args.all c.args.self.now c.loop-at.self c.alias_use_at.new.self before.kept now.kept;
      stand = stand_next c.args.all c.loop-at.self c.alias_use_at.new.self now.kept c.args.id c.loop-at.at before.stand now.stands;
    }
