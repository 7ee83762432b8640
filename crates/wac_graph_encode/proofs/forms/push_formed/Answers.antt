use Rattle.std.proofs.Common.{[], ◌∷◌, ◌++◌, sym, subst}
use Rattle.wac_graph_encode.specs.Formed.{AreFormed}
use Rattle.wac_graph_encode.proofs.Forming.{copies_more, one_formed}
use Rattle.wac_graph_encode.proofs.forms.push_formed.Goals as goal

pub returns-clause-forms : goal.returns-clause-forms
returns-clause-forms c d copied ws f =
    subst (λ l. AreFormed d c.formed.new.types (ws ++ c.args.definition.now ∷ []) l) (sym c.in_ok-push.ensures.items)
    (one_formed c.args.types.now c.formed.new.types c.in_ok-definition.ensures.grows c.args.definition.now c.in_ok-definition.definition c.args.written.now.items c.in_ok-definition.ensures.forms d copied ws f)

pub returns-clause-stand : goal.returns-clause-stand
returns-clause-stand c = copies_more c.args.types.now c.formed.new.types c.in_ok-definition.ensures.grows c.args.written.now.items c.push.new.self.items c.in_ok-definition.definition c.in_ok-push.ensures.items c.in_ok-definition.ensures.stands
