use Rattle.std.proofs.Common.{◌≡◌, List, Bool, true, false, Some, None, slice_get, refl, sym, ap, subst, ◌∙◌, arith, below_more}
use Rattle.wac_types_base.specs.declared.item.ItemKind.{ItemKind}
use Rattle.wac_types_base.specs.Collection.{Slot, SlotStands, Stands}
use Rattle.wac_types_base.specs.Graph.{Among}
use Rattle.wac_types_base.specs.Record.{Collection}
use Rattle.wac_types_base.proofs.Adding.{All-among}
use Rattle.wac_types_base.proofs.Copying.{Among-All}
use Rattle.wac_types_base.proofs.Walking.{slice_get-Among, some_place, no_place}
use Rattle.wac_types_base.proofs.types.Types.has_ids_of.Goals as goal
use Rattle.wac_types_base.proofs.types.Types.has_ids_of.Goals.{in-Some-place+else-not-has, in_default-place}
use Rattle.wac_types_base.proofs.Looked.{among-get}

not_both : (b : Bool) → b ≡ false → b ≡ true → ⊥
not_both true h k = absurd (cc h)
not_both false h k = absurd (cc k)

by_slot : (c : Collection) (xs : List Slot) → ((j : ItemKind) → Among (Some j) xs → Stands c j) → (s : Slot) → Among s xs → SlotStands c s
by_slot c xs h None m = tt
by_slot c xs h (Some j) m = h j m

pub returns-then-not-has : goal.returns-then-not-has
returns-then-not-has g c =
    let xs = (g.E.Places.entry c.args.entry.now).1 in
    let at = sym c.in-Some.ensures.place ∙ ap Some c.in-Some-place.is in
    (λ h. absurd (cc h), λ all. absurd (not_both c.has.result c.if-not-has.true (c.has.ensures.1 (All-among (SlotStands c.args.self.now) xs (Some c.in-Some-place.child) all (among-get xs c.loop-place.at (Some c.in-Some-place.child) at)))))

pub loop-place-smaller : goal.loop-place-smaller
loop-place-smaller g c =
    let lt = some_place (g.E.Places.entry c.args.entry.now).1 c.loop-place.at c.in-Some.place (sym c.in-Some.ensures.place) in
    omega (arith, lt)

pub loop-place-preserved : goal.loop-place-preserved
loop-place-preserved g c i j lt at =
    below_more (λ i. (j : ItemKind) → slice_get (g.E.Places.entry c.args.entry.now).1 i ≡ Some (Some j) → Stands c.args.self.now j) c.loop-place.at
    (λ i lt j at. c.loop-place.invariant i j lt at)
    (λ j at.
    let is : c.in-Some.place ≡ Some j = cc (c.in-Some.ensures.place, at) in
    elim c.match-place-2.branch [
      | in-Some-place+else-not-has w ↦
          let same : w.in-Some-place.child ≡ j = cc (w.in-Some-place.is, is) in
          subst (λ j. Stands c.args.self.now j) same (w.has.ensures.0 w.if-not-has.false)
      | in_default-place w ↦ absurd (w.in_default-place.not-Some j is)
    ]) i lt j at

pub returns : goal.returns
returns g c =
    let xs = (g.E.Places.entry c.args.entry.now).1 in (
      λ h. Among-All (SlotStands c.args.self.now) xs (by_slot c.args.self.now xs (λ j m.
          let at = slice_get-Among xs (Some j) m in
          c.loop-place.invariant at.0 j (no_place xs c.loop-place.at at.0 (sym c.place.ensures.place ∙ c.in_default.is) at.1) at.2)),
      λ all. refl,
    )
