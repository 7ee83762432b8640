use Rattle.std.proofs.Common.{List, [], sym, subst}
use Rattle.wac_graph_asks.specs.declared.asks.Definition.{Definition}
use Rattle.wac_graph_asks.specs.AskedUses.{CopiesStand}
use Rattle.wac_graph_encode.specs.Formed.{AreFormed}
use Rattle.wac_graph_encode.proofs.forms.written_definitions.Goals as goal

pub returns-clause-forms : goal.returns-clause-forms
returns-clause-forms c = λ by copied. c.in_ok-push_all_formed.ensures.forms by copied [] (subst (λ (l : List Definition). AreFormed by c.args.types.now [] l) (sym c.new-written.ensures.items) tt)

pub returns-clause-stand : goal.returns-clause-stand
returns-clause-stand c = c.in_ok-push_all_formed.ensures.stand (subst (CopiesStand c.args.types.now) (sym c.new-written.ensures.items) (λ x m. absurd m))
