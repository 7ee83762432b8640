use Rattle.std.proofs.Common.{◌≡◌, List, ℕ, Option, Result, Ok, Err, IfErr, OnOk, OnErr, sym, subst}
use Rattle.std.specs.Io.KnownBytes.{Appends}
use Rattle.wac_parser_tree.specs.Views.{view_document}
use Rattle.wac_streams.specs.Calls.{AppendsPrefix, Calls, FailedOnce}
use Rattle.wac.specs.declared.stop.Stop.{Stop}
use Rattle.wac.specs.Refusing.{FailsToPrint}
use Rattle.wac.specs.Running.{FormatsTo, IsFormatted}
use Rattle.wac.proofs.commands.format.Goals as goal

printed : {T : Type 0} (r : Result T Stop) (source print shown : List ℕ) (had has : Option (List ℕ)) → IsFormatted source print → shown ≡ print → OnOk r (Appends had has shown) → OnOk r (FormatsTo source had has)
printed (Ok x) source print shown had has formatted same whole = (print, formatted, subst (Appends had has) same whole)
printed (Err s) source print shown had has formatted same whole = tt

unprinted : {T : Type 0} (r : Result T Stop) (source print shown : List ℕ) (had has : Option (List ℕ)) (calls called : Option Calls) → IsFormatted source print → shown ≡ print → OnErr r (AppendsPrefix had has shown) → OnErr r (FailedOnce calls called)
    → IfErr r (λ s. s ≡ Stop.Unwritten) → IfErr r (FailsToPrint source had has calls called)
unprinted (Ok x) source print shown had has calls called formatted same front failed is = tt
unprinted (Err s) source print shown had has calls called formatted same front failed is =
    subst (FailsToPrint source had has calls called) (sym is) (print, formatted, subst (AppendsPrefix had has) same front, failed)

pub returns-clause-formats : goal.returns-clause-formats
returns-clause-formats g c =
    let p = c.in_ok-text.ensures.print in
    printed c.put_print.result c.args.source.now c.in_ok-text.text.items c.as_slice.result.now _ _ (view_document p.0, p.1, p.2) c.as_slice.ensures.value c.put_print.ensures.whole

pub returns-clause-refused : goal.returns-clause-refused
returns-clause-refused g c =
    let p = c.in_ok-text.ensures.print in
    unprinted c.put_print.result c.args.source.now c.in_ok-text.text.items c.as_slice.result.now _ _ _ _ (view_document p.0, p.1, p.2) c.as_slice.ensures.value c.put_print.ensures.front c.put_print.ensures.failed c.put_print.ensures.refused
