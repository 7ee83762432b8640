use Rattle.std.proofs.Common.{◌≡◌, ◌++◌, ◌∷◌, [], sym, ap, subst, ◌∙◌, None}
use Rattle.std.specs.Map.{lookup}
use Rattle.wac_types_names.specs.NameMaps.{by_key}
use Rattle.wac_types_names.specs.Spellings.{entries_with, IsKept}
use Rattle.wac_types_names.proofs.Maps.{by_key-entries_with, kept-append, entries_with-append, insert_entry-new}
use Rattle.wac_types_names.proofs.names.NameMap.append.Goals as goal

pub invariant_of-self-in-Ok : goal.invariant_of-self-in-Ok
invariant_of-self-in-Ok g c =
    let ss = c.self.inside.names.items in
    let es = c.self.inside.definitions.entries in
    let eq = g.K.PartialEq.eq in
    let off : lookup (eq c.args.key) es ≡ None = ap (lookup (eq c.args.key)) (sym (by_key-entries_with ss es c.self.invariant.lengths) ∙ ap by_key c.self.view_is) ∙ c.requires in
    let more : IsKept (ss ++ c.in_ok-read.field-0 ∷ []) (es ++ (c.args.key, c.args.item) ∷ []) = kept-append ss es c.in_ok-read.field-0 (c.args.key, c.args.item) c.self.invariant c.in_ok-read.ensures.read in
    subst (λ t. IsKept t c.insert.new.self.entries) (sym c.in_ok-push.ensures.items)
    (subst (IsKept (ss ++ c.in_ok-read.field-0 ∷ [])) (sym (c.in-Ok.ensures.entries ∙ insert_entry-new eq c.args.key c.args.item es off)) more)

pub returns-in-Ok-clause-ok : goal.returns-in-Ok-clause-ok
returns-in-Ok-clause-ok g c =
    let ss = c.self.inside.names.items in
    let es = c.self.inside.definitions.entries in
    let eq = g.K.PartialEq.eq in
    let s = c.in_ok-read.field-0 in
    let off : lookup (eq c.args.key) es ≡ None = ap (lookup (eq c.args.key)) (sym (by_key-entries_with ss es c.self.invariant.lengths) ∙ ap by_key c.self.view_is) ∙ c.requires in
    let added = c.in-Ok.ensures.entries ∙ insert_entry-new eq c.args.key c.args.item es off in
    ap (λ t. entries_with t c.insert.new.self.entries) c.in_ok-push.ensures.items ∙ ap (entries_with (ss ++ s ∷ [])) added ∙ entries_with-append ss es s (c.args.key, c.args.item) c.self.invariant.lengths
    ∙ ap (λ m. m ++ (s.name, c.args.key, c.args.item) ∷ []) c.self.view_is ∙ ap (λ n. c.args.self.now ++ (n, c.args.key, c.args.item) ∷ []) c.in_ok-read.ensures.name
