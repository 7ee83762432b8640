-- Names that are known fit, so a writer of one refuses for want of memory alone.
use Rattle.std.proofs.Common.{◌≡◌, ℕ, Bool, true, true≢false, List, codes, refl, sym, ◌∙◌}
use Rattle.std.specs.Prelude.{Err}
use Rattle.std.specs.Str.{chars, is_utf8}
use lib.Utf8.{encode}
use Rattle.wac_graph_bytes.specs.declared.error.SizeError.{SizeError}
use Rattle.wac_graph_bytes.specs.declared.error.SizeError.TheVariants.{TooLarge, Memory}
use Rattle.wac_graph_bytes.specs.Sizes.{name_fits}
use Rattle.wac_graph_bytes.specs.Writing.{Appends}

pub producers_fits : name_fits (codes "producers") ≡ true
unfolding is_utf8 chars encode
producers_fits = refl

pub processed_by_fits : name_fits (codes "processed-by") ≡ true
unfolding is_utf8 chars encode
processed_by_fits = refl

pub component_name_fits : name_fits (codes "component-name") ≡ true
unfolding is_utf8 chars encode
component_name_fits = refl

pub memory_alone : (e : SizeError) (old new text : List ℕ) (fits : Bool) → fits ≡ true → Appends {T = Unit {0}} (Err e) old new text fits → e ≡ Memory
memory_alone TooLarge old new text fits fit h = absurd (true≢false (sym fit ∙ h))
memory_alone Memory old new text fits fit h = refl
