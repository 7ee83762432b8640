use Rattle.std.proofs.Common.{◌≡◌, ◌∙◌, ap, false, is_some, refl, subst, sym, true}
use Rattle.std.specs.Prelude.{string_bytes}
use Rattle.wac_types_base.specs.Entries.{IsNew, value_at}
use Rattle.wac_types_base.proofs.Lists.{no_value}
use Rattle.wac_types_written.proofs.Walking.{walks_named, walks_new, walks_unnamed}
use Rattle.wac_types_written.proofs.uses.add_named.Goals as goal

pub returns-in_default : goal.returns-in_default
returns-in_default c = walks_unnamed c.args.types.now c.interface.ensures.acyclic c.args.id c.interface.result.now c.interface.ensures.entry c.interface.ensures.own c.args.walk.now c.in_default.is c.requires.walk

pub push-requires : goal.push-requires
push-requires c =
    let es = c.args.walk.now.found in
    let none : is_some (value_at es c.in-Some.name) ≡ false = ap (λ k. is_some (value_at es k)) (sym c.as_str.ensures) ∙ sym c.contains.ensures ∙ c.if-not-contains.true in
    subst (λ n. IsNew n es) (sym (c.in_ok-name.ensures.ok ∙ c.as_str-then-not-contains.ensures)) (no_value es c.in-Some.name none)

pub returns-in_ok-push : goal.returns-in_ok-push
returns-in_ok-push c =
    let es = c.args.walk.now.found in
    let none : is_some (value_at es c.in-Some.name) ≡ false = ap (λ k. is_some (value_at es k)) (sym c.as_str.ensures) ∙ sym c.contains.ensures ∙ c.if-not-contains.true in
    walks_new c.args.types.now c.interface.ensures.acyclic c.args.id c.interface.result.now c.interface.ensures.entry c.interface.ensures.own c.args.walk.now (record { found = c.push.new.self; walked = c.args.walk.now.walked })
    c.in-Some.name (string_bytes c.in_ok-name.name) c.in-Some.is none (c.in_ok-name.ensures.ok ∙ c.as_str-then-not-contains.ensures) c.in_ok-push.ensures.ok refl c.requires.stands c.requires.walk

pub returns-else-not-contains : goal.returns-else-not-contains
returns-else-not-contains c =
    let es = c.args.walk.now.found in
    let there : is_some (value_at es c.in-Some.name) ≡ true = ap (λ k. is_some (value_at es k)) (sym c.as_str.ensures) ∙ sym c.contains.ensures ∙ c.if-not-contains.false in
    walks_named c.args.types.now c.interface.ensures.acyclic c.args.id c.interface.result.now c.interface.ensures.entry c.interface.ensures.own c.args.walk.now c.in-Some.name c.in-Some.is there c.requires.walk
