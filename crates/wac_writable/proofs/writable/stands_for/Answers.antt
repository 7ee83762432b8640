use Rattle.std.proofs.Common.{sym, ap, ◌∙◌, subst}
use Rattle.std.specs.Prelude.{IfSome}
use Rattle.std.proofs.lemmas.Result.{IfOk-weaker}
use Rattle.wac_types_base.specs.Collection.{Stands}
use Rattle.wac_writable.specs.Tests.{stands_in}
use Rattle.wac_writable.proofs.writable.stands_for.Goals as goal

pub returns-in-Some : goal.returns-in-Some
returns-in-Some c =
    let C = c.args.test.types.now in
    IfOk-weaker c.is_same_item.result _ _ (λ b f. f c.requires.item (subst (λ o. IfSome o (Stands C)) c.in-Some.is c.requires.there) ∙ ap (stands_in C c.args.item) (sym c.in-Some.is)) c.is_same_item.ensures
