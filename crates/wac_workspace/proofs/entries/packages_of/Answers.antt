use Rattle.std.proofs.Common.{List, ◌++◌, [], ◌∷◌, take, subst, sym, ap, ◌∙◌}
use Rattle.std.proofs.lemmas.List.{take_more, take_all}
use Rattle.wac_types_base.proofs.Adding.{All-among}
use Rattle.wac_workspace.specs.declared.entries.Entry.{Entry}
use Rattle.wac_workspace.specs.Packages.{key_of}
use Rattle.wac_workspace.specs.View.{HasWorld}
use Rattle.wac_workspace.proofs.Handing.{Lent, AreLent, lent_more, apart_at, handed_told}
use Rattle.wac_workspace.proofs.entries.packages_of.Goals as goal

pub loop-entry-preserved : goal.loop-entry-preserved
loop-entry-preserved c =
    let es = c.args.entries.now in
    let i = c.loop-entry.entry-index in
    let e = c.entry-item.result in
    let more = lent_more c.loop-entry.«packages».entries (take i es) c.key.result c.refer.result e c.loop-entry.invariant
    (c.key.ensures, record { «package» = c.refer.ensures.«package»; types = c.refer.ensures.types })
    (λ q a same. apart_at es i e c.loop-entry-test.true c.requires.apart q a (same ∙ ap key_of c.entry-item.is)) in
    let listed = subst (λ (ps : List Lent). AreLent ps (take i es ++ e ∷ [])) (sym c.in_ok-insert.ensures.entries) more in
    subst (λ (xs : List Entry). AreLent c.insert.new.self.entries xs) (ap (λ (y : Entry). take i es ++ y ∷ []) c.entry-item.is ∙ sym (take_more es i e c.loop-entry-test.true)) listed

pub returns : goal.returns
returns c =
    let es = c.args.entries.now in
    record {
      handed = handed_told c.loop-entry.«packages».entries es
          (subst (λ (xs : List Entry). AreLent c.loop-entry.«packages».entries xs) (take_all c.loop-entry.entry-index es c.loop-entry-test.false) c.loop-entry.invariant)
          (λ q a. All-among HasWorld es q c.requires.worlds a);
    }
