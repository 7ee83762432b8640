use Rattle.std.proofs.Common.{◌+◌, length, sym, ap, subst, ◌∙◌}
use Rattle.std.proofs.lemmas.List.{length_push}
use Rattle.wac_graph_scopes.specs.Imports.{NoneWritten}
use Rattle.wac_graph_scopes.proofs.ImportLaws.{none_pushed}
use Rattle.wac_graph_scopes.proofs.import_places.add_empty.Goals as goal

pub loop-at-preserved : goal.loop-at-preserved
loop-at-preserved c = record {
  none = subst NoneWritten (sym c.in_ok-push.ensures.items) (none_pushed c.loop-at.places.items c.loop-at.invariant.none);
  many = ap length c.in_ok-push.ensures.items ∙ length_push c.loop-at.places.items _ ∙ ap (λ n. n + 1) c.loop-at.invariant.many;
}

pub loop-at-init : goal.loop-at-init
loop-at-init c = record { none = subst NoneWritten (sym c.requires) (λ at p e. absurd (cc e)); many = ap length c.requires }
