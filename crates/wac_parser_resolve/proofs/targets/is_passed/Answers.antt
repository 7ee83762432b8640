use Rattle.std.proofs.Common.{ap, sym, ◌∙◌}
use Rattle.wac_types_base.specs.Entries.{has_name, names_of}
use Rattle.wac_parser_resolve.proofs.Meeting.{has_first, has_rest, has_none}
use Rattle.wac_parser_resolve.proofs.targets.is_passed.Goals as goal

pub loop-own-init : goal.loop-own-init
loop-own-init c = ap (λ es. has_name (names_of es) c.args.name.now) (c.into_iter-own-iterator.ensures.into_iter_gives ∙ c.get_instantiation_arguments-own-items.ensures)

pub loop-own-preserved : goal.loop-own-preserved
loop-own-preserved c =
    sym (has_rest c.args.name.now c.loop-own.own-iterator c.next.new.self (c.in-Some.own.now, c.in-Some.field-0-1) c.in-Some.ensures.steps c.if-eq.ensures) ∙ c.loop-own.invariant

pub returns-then-eq : goal.returns-then-eq
returns-then-eq c =
    sym (has_first c.args.name.now c.loop-own.own-iterator c.next.new.self (c.in-Some.own.now, c.in-Some.field-0-1) c.in-Some.ensures.steps c.if-eq.ensures) ∙ c.loop-own.invariant

pub returns : goal.returns
returns c = sym (has_none c.args.name.now c.loop-own.own-iterator c.in-None.ensures.steps.0) ∙ c.loop-own.invariant
