use Rattle.std.proofs.Common.{Some, None, ap, sym, ◌∙◌, arith}
use Rattle.wac_manifest.specs.Manifests.{Text, ◌>>=◌, key}
use Rattle.wac_manifest.proofs.Reading.{plain_key}
use Rattle.wac_manifest.proofs.manifest.key_of.Goals as goal

pub returns-in_ok-from_str-in-None : goal.returns-in_ok-from_str-in-None
returns-in_ok-from_str-in-None c =
    ap (λ o. o >>= key) c.in_ok-text.ensures ∙ plain_key c.in_ok-text.text.now (c.in-None.ensures.byte (omega arith) (λ w o h. h))
    ∙ ap (λ (s : Text). Some (s, None)) (sym c.in_ok-from_str-in-None.ensures.ok)
