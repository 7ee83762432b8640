use Rattle.std.proofs.Common.{◌∙◌, ap, not, Result, Ok, Err, Bool}
use Rattle.std.specs.Prelude.{string_bytes, IfOk}
use Rattle.wac_types_base.specs.Entries.{has_name, put_name, texts_of}
use Rattle.wac_types_base.proofs.Looked.{any-texts, texts-insert}
use Rattle.wac_types_base.proofs.containers.Names.insert.Goals as goal

if_ok : {E : Type 0} (r : Result Bool E) (P Q : Bool → Type 0) → IfOk r P → ((b : Bool) → P b → Q b) → IfOk r Q
if_ok (Ok b) P Q h f = f b h
if_ok (Err e) P Q h f = tt

pub returns-clause-added : goal.returns-clause-added
returns-clause-added c = if_ok c.insert.result _ _ c.insert.ensures.added
    (λ b e. e ∙ ap not (any-texts (string_bytes c.args.name) c.self.inside.set.keys) ∙ ap (λ l. not (has_name l (string_bytes c.args.name))) c.self.view_is)

pub returns-clause-ok : goal.returns-clause-ok
returns-clause-ok c = if_ok c.insert.result _ _ c.insert.ensures.keys
    (λ b e. ap texts_of e ∙ texts-insert c.self.inside.set.keys c.args.name ∙ ap (λ l. put_name l (string_bytes c.args.name)) c.self.view_is)
