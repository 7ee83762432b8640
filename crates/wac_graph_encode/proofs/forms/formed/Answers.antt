use Rattle.wac_graph_encode.proofs.Forming.{form_stands}
use Rattle.wac_graph_encode.proofs.forms.formed.Goals as goal

pub returns-clause-stands : goal.returns-clause-stands
returns-clause-stands c = form_stands c.args.types.now c.form_of.new.types c.args.definition.now.copy c.in_ok-copy.copy c.in_ok-copy.ensures.form
