use Rattle.std.proofs.Common.{◌+◌, List, Some, None, sym, subst, ◌∙◌}
use Rattle.wac_types_base.specs.Entries.{Name, names_of}
use Rattle.wac_parser_resolve.specs.Matching.{has_segment, IsNextOf}
use Rattle.wac_parser_resolve.proofs.Matching.{has_value, meant_itself, more_meant, named_at, none_meant, one_meant}
use Rattle.wac_parser_resolve.proofs.names.matched.Goals as goal

pub returns-then-contains : goal.returns-then-contains
returns-then-contains c =
    meant_itself c.args.text.now (names_of c.args.items.now) (has_value c.args.items.now c.args.text.now ∙ sym c.contains.ensures ∙ c.if-contains.true)

pub returns-in-None : goal.returns-in-None
returns-in-None c =
    none_meant c.args.text.now (names_of c.args.items.now) (has_value c.args.items.now c.args.text.now ∙ sym c.contains.ensures ∙ c.if-contains.false)
    (subst (λ (ns : List Name). IsNextOf (has_segment c.args.text.now) ns 0 None) c.names-names.ensures (rw c.in-None.is at c.next_with_segment.ensures.next))

pub returns-in-Some-next_with_segment : goal.returns-in-Some-next_with_segment
returns-in-Some-next_with_segment c =
    let lacks = has_value c.args.items.now c.args.text.now ∙ sym c.contains.ensures ∙ c.if-contains.false in
    let first = subst (λ (ns : List Name). IsNextOf (has_segment c.args.text.now) ns 0 (Some c.in-Some.at)) c.names-names.ensures c.in-Some.ensures.next in
    let second = subst (λ (ns : List Name). IsNextOf (has_segment c.args.text.now) ns (c.in-Some.at + 1) (Some c.in-Some-next_with_segment.field-0)) c.names-names.ensures c.in-Some-next_with_segment.ensures.next in
    more_meant c.args.text.now (names_of c.args.items.now) c.in-Some.at c.in-Some-next_with_segment.field-0 lacks first second

pub returns-in-None-next_with_segment : goal.returns-in-None-next_with_segment
returns-in-None-next_with_segment c =
    let lacks = has_value c.args.items.now c.args.text.now ∙ sym c.contains.ensures ∙ c.if-contains.false in
    let first = subst (λ (ns : List Name). IsNextOf (has_segment c.args.text.now) ns 0 (Some c.in-Some.at)) c.names-names.ensures c.in-Some.ensures.next in
    let second = subst (λ (ns : List Name). IsNextOf (has_segment c.args.text.now) ns (c.in-Some.at + 1) None) c.names-names.ensures c.in-None-next_with_segment.ensures.next in
    one_meant c.args.text.now (names_of c.args.items.now) c.in-Some.at c.as_str.result.now lacks
    (named_at c.names-names.result.now (names_of c.args.items.now) c.in-Some.at c.index-names-at.result c.as_str.result.now c.names-names.ensures c.in-Some.ensures.place c.index-names-at.is c.as_str.ensures.value) first second
