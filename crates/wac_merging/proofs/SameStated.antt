-- The test of stated types says yes exactly of equal ones.
use Rattle.std.proofs.Common.{◌≡◌, List, Bool, true, true≢false, Option, refl, sym, ap}
use Rattle.std.specs.Prelude.{◌&&◌}
use Rattle.std.specs.Cmp.Derive.{both_true}
use Rattle.wac_types_base.specs.Graph.{Wholes, node, no_more, more, hole}
use Rattle.wac_types_base.specs.Collection.{Shape}
use Rattle.wac_types_base.specs.Stated.{Stated, folded_row, shape_of, places_in, places_of}
use Rattle.wac_composition.specs.Tests.{same_label, same_places, same}
use Rattle.wac_composition.proofs.TestLaws.{Tells, labels_tell}
use Rattle.std.proofs.lemmas.Bool.{and_parts}

abbrev same_at : Shape → List (Option (Stated × (Stated → Bool))) → Stated → Bool
same_at s os t = same_label s (shape_of t) && same_places os (places_of t)

abbrev same_row : Wholes Shape → Wholes Shape → Bool
same_row ts us = same_places (folded_row same_at ts) (places_in us)

mutual
  same_only : (x y : Stated) → same x y ≡ true → x ≡ y
  same_only (node s ts) (node t us) e =
      let f = and_parts (same_label s t) (same_row ts us) e in
      let x = labels_tell.only s t f.0 in
      let y = row_only ts us f.1 in
      λ o. node (x o) (y o)

  row_only : (ts us : Wholes Shape) → same_row ts us ≡ true → ts ≡ us
  row_only no_more no_more e = refl
  row_only (hole ts) (hole us) e = ap hole (row_only ts us e)
  row_only (more t ts) (more u us) e =
      let f = and_parts (same t u) (same_row ts us) e in
      let x = same_only t u f.0 in
      let y = row_only ts us f.1 in
      λ o. more (x o) (y o)
  row_only no_more (hole us) e = absurd (true≢false (sym e))
  row_only no_more (more u us) e = absurd (true≢false (sym e))
  row_only (hole ts) no_more e = absurd (true≢false (sym e))
  row_only (hole ts) (more u us) e = absurd (true≢false (sym e))
  row_only (more t ts) no_more e = absurd (true≢false (sym e))
  row_only (more t ts) (hole us) e = absurd (true≢false (sym e))

mutual
  same_itself : (x : Stated) → same x x ≡ true
  same_itself (node s ts) = both_true (labels_tell.itself s) (row_itself ts)

  row_itself : (ts : Wholes Shape) → same_row ts ts ≡ true
  row_itself no_more = refl
  row_itself (hole ts) = row_itself ts
  row_itself (more t ts) = both_true (same_itself t) (row_itself ts)

pub stated_tell : Tells same
stated_tell = record { only = same_only; itself = same_itself }
