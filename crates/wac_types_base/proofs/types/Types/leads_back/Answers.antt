use Rattle.std.proofs.Common.{◌≡◌, Some, refl, sym, ap, subst, ◌∙◌, arith}
use Rattle.wac_types_base.specs.Collection.{item_node, SlotStands}
use Rattle.wac_types_base.specs.Reaching.{Reaches, NamesEntry}
use Rattle.wac_types_base.proofs.Adding.{All-among}
use Rattle.wac_types_base.proofs.Walking.{none_more, none_at_end, some_place}
use Rattle.wac_types_base.proofs.types.Types.leads_back.Goals as goal
use Rattle.wac_types_base.proofs.types.Types.leads_back.Goals.{in-Some-place+else-reaches, in_default-place}
use Rattle.wac_types_base.proofs.Looked.{among-get}

pub reaches-requires : goal.reaches-requires
reaches-requires g c =
    All-among (SlotStands c.args.self.now) (g.E.Places.entry c.args.entry.now).1 (Some c.in-Some-place.child) c.requires
    (among-get _ c.loop-place.at _ (sym c.in-Some.ensures.place ∙ ap Some c.in-Some-place.is))

pub returns-then-reaches : goal.returns-then-reaches
returns-then-reaches g c =
    (λ _. (c.in-Some-place.child, among-get _ c.loop-place.at _ (sym c.in-Some.ensures.place ∙ ap Some c.in-Some-place.is), c.if-reaches.ensures.0 refl), λ _. refl)

pub loop-place-smaller : goal.loop-place-smaller
loop-place-smaller g c =
    let lt = some_place (g.E.Places.entry c.args.entry.now).1 c.loop-place.at c.in-Some.place (sym c.in-Some.ensures.place) in
    omega (arith, lt)

pub loop-place-preserved : goal.loop-place-preserved
loop-place-preserved g c =
    none_more (g.E.Places.entry c.args.entry.now).1 (λ j. Reaches (item_node c.args.self.now) (NamesEntry c.args.target) j) c.loop-place.at c.loop-place.invariant
    (λ j at r.
    let is : c.in-Some.place ≡ Some j = cc (c.in-Some.ensures.place, at) in
    elim c.match-place-2.branch [
      | in-Some-place+else-reaches w ↦
          let same : w.in-Some-place.child ≡ j = cc (w.in-Some-place.is, is) in
          absurd (cc (w.if-reaches.ensures.1 (subst (λ j. Reaches (item_node c.args.self.now) (NamesEntry c.args.target) j) (sym same) r)))
      | in_default-place w ↦ absurd (w.in_default-place.not-Some j is)
    ])

pub returns : goal.returns
returns g c = (
  λ h. absurd (cc h),
  λ l. absurd (none_at_end (g.E.Places.entry c.args.entry.now).1 (λ j. Reaches (item_node c.args.self.now) (NamesEntry c.args.target) j) c.loop-place.at
      (sym c.place.ensures.place ∙ c.in_default.is) c.loop-place.invariant l.0 l.1 l.2),
)
