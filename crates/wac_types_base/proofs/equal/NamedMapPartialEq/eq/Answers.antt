use Rattle.std.proofs.Common.{◌∙◌, ap, sym, ◌≡◌, true, false, ◌&&◌}
use Rattle.std.specs.Cmp.Lexicographic.{pointwise}
use Rattle.wac_types_base.specs.Entries.{texts_of, names_of, values_of}
use Rattle.wac_types_base.specs.Equal.{same_text}
use Rattle.wac_types_base.proofs.Sameness.{texts_same}
use Rattle.wac_types_base.proofs.equal.NamedMapPartialEq.eq.Goals as goal

pub returns-then-eq : goal.returns-then-eq
returns-then-eq g c =
    let a = c.args.self.now in
    let b = c.args.other.now in
    let E = g.T.PartialEq.eq in
    let n : pointwise same_text (names_of a) (names_of b) ≡ true =
    ap (λ l. pointwise same_text l (names_of b)) (sym c.names.ensures) ∙ ap (pointwise same_text (texts_of c.names.result.now)) (sym c.names-2.ensures)
    ∙ sym (texts_same c.names.result.now c.names-2.result.now) ∙ sym c.eq.ensures ∙ c.if-eq.true in
    c.eq-then-eq.ensures ∙ ap (λ l. pointwise E l c.values-then-eq.result.now) c.values.ensures ∙ ap (pointwise E (values_of a)) c.values-then-eq.ensures
    ∙ sym (ap (λ t. t && pointwise E (values_of a) (values_of b)) n)

pub returns-else-eq : goal.returns-else-eq
returns-else-eq g c =
    let a = c.args.self.now in
    let b = c.args.other.now in
    let E = g.T.PartialEq.eq in
    let n : pointwise same_text (names_of a) (names_of b) ≡ false =
    ap (λ l. pointwise same_text l (names_of b)) (sym c.names.ensures) ∙ ap (pointwise same_text (texts_of c.names.result.now)) (sym c.names-2.ensures)
    ∙ sym (texts_same c.names.result.now c.names-2.result.now) ∙ sym c.eq.ensures ∙ c.if-eq.false in
    c.if-eq.false ∙ sym (ap (λ t. t && pointwise E (values_of a) (values_of b)) n)
