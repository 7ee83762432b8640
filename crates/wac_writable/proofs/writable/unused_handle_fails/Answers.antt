use Rattle.std.proofs.Common.{sym, ap, ◌∙◌}
use Rattle.std.proofs.lemmas.Result.{IfOk-weaker}
use Rattle.wac_writable.specs.Values.{fails_unused}
use Rattle.wac_writable.proofs.ValueLaws.{handle_is, handle_resource}
use Rattle.wac_writable.proofs.writable.unused_handle_fails.Goals as goal

pub returns : goal.returns
returns c =
    let C = c.args.test.types.now in
    IfOk-weaker c.unused_fails.result _ _ (λ y f s h w. f s h w.shows
    ∙ ap (λ b. fails_unused C c.args.ty b h) (c.handle_fails-fails.ensures (handle_resource C c.see_acyclic.ensures c.args.ty c.args.id c.requires s) h w.shows)
    ∙ sym (handle_is C c.see_acyclic.ensures c.args.ty c.args.id h c.requires s)) c.unused_fails.ensures
