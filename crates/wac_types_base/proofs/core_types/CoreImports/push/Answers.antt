use Rattle.std.proofs.Common.{◌++◌, ◌∷◌, [], ◌∙◌, ap, sym, subst}
use Rattle.std.specs.Prelude.{string_bytes}
use Rattle.wac_types_base.specs.Entries.{imports_in, IsNew}
use Rattle.wac_types_base.proofs.PairNames.{pair-insert}
use Rattle.wac_types_base.proofs.core_types.CoreImports.push.Goals as goal

pub returns-clause-ok : goal.returns-clause-ok
returns-clause-ok c =
    ap imports_in c.in_ok-insert.ensures.entries
    ∙ pair-insert c.self.inside.map.entries (c.args.module_name, c.args.name) c.args.item (subst (λ l. IsNew (string_bytes c.args.module_name, string_bytes c.args.name) l) (sym c.self.view_is) c.requires)
    ∙ ap (λ l. l ++ ((string_bytes c.args.module_name, string_bytes c.args.name), c.args.item) ∷ []) c.self.view_is
