use Rattle.std.proofs.Common.{◌≡◌, sym, ap, ◌∙◌, is_some, true}
use Rattle.std.specs.Map.{lookup}
use Rattle.wac_types_names.specs.NameMaps.{by_key, put_value}
use Rattle.wac_types_names.specs.Spellings.{entries_with}
use Rattle.wac_types_names.proofs.Maps.{by_key-entries_with, kept-insert, entries_with-insert}
use Rattle.wac_types_names.proofs.names.NameMap.shadow.Goals as goal

pub invariant_of-self-2 : goal.invariant_of-self-2
invariant_of-self-2 g c =
    let ss = c.self.inside.names.items in
    let es = c.self.inside.definitions.entries in
    let eq = g.K.PartialEq.eq in
    let there : is_some (lookup (eq c.args.key) es) ≡ true = ap (λ t. is_some (lookup (eq c.args.key) t)) (sym (by_key-entries_with ss es c.self.invariant.lengths) ∙ ap by_key c.self.view_is) ∙ c.requires.there in
    rw c.in_ok-insert.ensures.entries (kept-insert eq c.args.key c.args.item ss es c.self.invariant there)

pub returns-clause-ok : goal.returns-clause-ok
returns-clause-ok g c =
    let ss = c.self.inside.names.items in
    let es = c.self.inside.definitions.entries in
    let eq = g.K.PartialEq.eq in
    let there : is_some (lookup (eq c.args.key) es) ≡ true = ap (λ t. is_some (lookup (eq c.args.key) t)) (sym (by_key-entries_with ss es c.self.invariant.lengths) ∙ ap by_key c.self.view_is) ∙ c.requires.there in
    ap (entries_with ss) c.in_ok-insert.ensures.entries ∙ entries_with-insert eq c.args.key c.args.item ss es c.self.invariant.lengths there ∙ ap (λ m. put_value eq m c.args.key c.args.item) c.self.view_is
