use Rattle.std.proofs.lemmas.Result.{IfOk-weaker}
use Rattle.wac_writable.proofs.UseLaws.{tells_no}
use Rattle.wac_writable.proofs.GivenLaws.{item_gives, no_item_gives}
use Rattle.wac_writable.proofs.writable.Giver.gives.Goals as goal

pub returns-in-Some : goal.returns-in-Some
returns-in-Some c =
    let T = c.args.test in
    IfOk-weaker c.gives_used.result _ _ (λ b f. item_gives T.types.now c.see_acyclic.ensures c.args.self.now.given_by c.args.name.now c.args.used c.in-Some.item b c.in-Some.ensures.value (f c.in-Some.ensures.stands)) c.gives_used.ensures

pub returns-in-None : goal.returns-in-None
returns-in-None c = tells_no (no_item_gives c.args.test.types.now c.see_acyclic.ensures c.args.self.now.given_by c.args.name.now c.args.used c.in-None.ensures.value)
