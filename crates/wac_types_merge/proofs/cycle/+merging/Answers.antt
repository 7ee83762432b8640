use Rattle.std.proofs.Common.{Some, [], take, refl, sym, ap, subst, ◌∙◌, arith}
use Rattle.std.proofs.lemmas.Result.{err_from_is_err_and}
use Rattle.wac_types_base.specs.declared.item.«Type».{«Type» as TypeKind}
use Rattle.wac_types_base.specs.declared.item.ItemKind.{ItemKind}
use Rattle.wac_types_base.specs.Collection.{Stands}
use Rattle.wac_types_fit.proofs.Checks.{types_disagree_as, interface_type_is, interface_type_stands, interface_type_size}
use Rattle.wac_types_merge.proofs.Clashing.{instance_apart, type_apart, other_apart, other_type_apart, interface_type_apart, instances_clash, typed_clash, clash_at, leads_at}
use Rattle.wac_types_base.proofs.Adding.{Grows-refl, Grows-trans}
use Rattle.wac_types_merge.specs.Interfaces.{SlotInside, JoinedIn, OtherClash, AreJoined, OtherLeads}
use Rattle.wac_types_fit.proofs.Items.{exports_inside, among-value_at, instance_misses}
use Rattle.wac_types_merge.proofs.Grown.{inside_kept, size_kept}
use Rattle.wac_types_merge.proofs.Joining.{names_joined, joined_stand, joined_before, joined_more, joined_new, found_inside_slot, slot_inside_kept, slot_stands}
use Rattle.wac_types_merge.proofs.Placed.{at_stands, typed_meet, instances_meet, uses_stand, exports_stand, uses_kept, exports_kept}
use Rattle.wac_types_merge.specs.United.{OtherUnites, ItemsUnite, none_united}
use Rattle.wac_types_merge.proofs.Uniting.{other_before, united_more, united_kept, both_instances, both_types, first_other, instance_other, type_other_than, typed_and_other, first_unites, same_type, no_instance}
use Rattle.wac_types_merge.proofs.Keeping.{if_ok}
use Rattle.wac_types_merge.proofs.cycle.+merging.Goals as goal
use Rattle.wac_types_base.proofs.Looked.{among-get}

pub merge-unmerged-requires : goal.merge-unmerged-requires
merge-unmerged-requires t c =
    let stands = subst (Stands c.args.own.now) c.in-Instance.is c.requires.kept in
    record {
      kept = stands;
      asked = c.requires.asked;
      apart = instance_apart c.args.own.now c.see_acyclic.ensures (ItemKind.Instance c.in-Instance.i) c.args.b stands c.requires.asked c.in-Instance.i refl c.in_default-b.not-Instance;
    }

pub merge-unmerged-requires-in_default-b-2 : goal.merge-unmerged-requires-in_default-b-2
merge-unmerged-requires-in_default-b-2 t c =
    let stands = subst (Stands c.args.own.now) c.in-Ty.is c.requires.kept in
    record {
      kept = stands;
      asked = c.requires.asked;
      apart = type_apart c.args.own.now c.see_acyclic.ensures (ItemKind.Ty c.in-Ty.x) c.args.b stands c.requires.asked c.in-Ty.x refl c.in_default-b-2.not-Ty;
    }

pub merge-unmerged-requires-in_default : goal.merge-unmerged-requires-in_default
merge-unmerged-requires-in_default t c = record {
  kept = c.requires.kept;
  asked = c.requires.asked;
  apart = other_apart c.args.own.now c.see_acyclic.ensures c.args.a c.args.b c.requires.kept c.in_default.not-Ty c.in_default.not-Instance;
}

pub merge_types-unmerged-requires : goal.merge_types-unmerged-requires
merge_types-unmerged-requires t c =
    let stands = subst (λ z. Stands c.args.own.now (ItemKind.Ty z)) c.in-Interface.is c.requires.kept in
    record {
      kept = stands;
      asked = c.requires.asked;
      apart = interface_type_apart c.args.own.now c.see_acyclic.ensures (TypeKind.Interface c.in-Interface.i) c.args.b stands c.requires.asked c.in-Interface.i refl c.in_default-b.not-Interface;
    }

pub merge_types-unmerged-requires-in_default : goal.merge_types-unmerged-requires-in_default
merge_types-unmerged-requires-in_default t c = record {
  kept = c.requires.kept;
  asked = c.requires.asked;
  apart = other_type_apart c.args.own.now c.see_acyclic.ensures c.args.a (ItemKind.Ty c.args.b) c.requires.kept c.in_default.not-Interface;
}

pub merge_types-merge_instances-requires : goal.merge_types-merge_instances-requires
merge_types-merge_instances-requires t c =
    let s = interface_type_size c.args.own.now c.see_acyclic.ensures c.args.a c.in-Interface.i c.in-Interface.is c.requires.kept in
    let r = interface_type_size c.args.own.now c.see_acyclic.ensures c.args.b c.in-Interface-b.j c.in-Interface-b.is c.requires.asked in
    (omega (arith, s, r, c.decreases), (interface_type_stands c.args.own.now c.args.a c.in-Interface.i c.in-Interface.is c.requires.kept, interface_type_stands c.args.own.now c.args.b c.in-Interface-b.j c.in-Interface-b.is c.requires.asked))

pub merge_types-returns-in_ok-id-in-Interface-b-clause-met : goal.merge_types-returns-in_ok-id-in-Interface-b-clause-met
merge_types-returns-in_ok-id-in-Interface-b-clause-met t c =
    typed_meet c.args.own.now c.merge_instances.new.own c.see_acyclic.ensures c.merge_instances.ensures.grows.acyclic c.args.a c.args.b c.in-Interface.i c.in-Interface-b.j c.in_ok-id-in-Interface-b.id c.in-Interface.is c.in-Interface-b.is c.requires.kept c.requires.asked c.in_ok-id-in-Interface-b.ensures.met

pub merge_types-returns-in_err-id-in-Interface-b-clause-clash : goal.merge_types-returns-in_err-id-in-Interface-b-clause-clash
merge_types-returns-in_err-id-in-Interface-b-clause-clash t c =
    let p = err_from_is_err_and c.from_residual.result c.from_residual.ensures.1 in
    rw (p.1, p.2)
    (λ ss e. typed_clash c.args.own.now (ItemKind.Ty c.args.a) (ItemKind.Ty c.args.b) (ItemKind.Instance c.in-Interface.i) (ItemKind.Instance c.in-Interface-b.j)
    (interface_type_is c.args.own.now c.see_acyclic.ensures c.args.a c.in-Interface.i c.in-Interface.is c.requires.kept) (interface_type_is c.args.own.now c.see_acyclic.ensures c.args.b c.in-Interface-b.j c.in-Interface-b.is c.requires.asked) (c.in_err-id-in-Interface-b.ensures.clash ss e))

pub merge_copies-merge_items-requires : goal.merge_copies-merge_items-requires
merge_copies-merge_items-requires t c =
    let p = c.requires.kept in
    let q = c.requires.asked in (
      omega (arith, c.decreases),
      (
        at_stands c.args.own.now c.args.a c.args.first.now p,
        (
          at_stands c.args.own.now c.args.b c.args.second.now q,
          (
            exports_inside c.args.own.now c.see_acyclic.ensures c.args.a c.args.first.now (at_stands c.args.own.now c.args.a c.args.first.now p) p.at p.own,
            exports_inside c.args.own.now c.see_acyclic.ensures c.args.b c.args.second.now (at_stands c.args.own.now c.args.b c.args.second.now q) q.at q.own,
          ),
        ),
      ),
    )

pub merge_copies-add_joined-requires : goal.merge_copies-add_joined-requires
merge_copies-add_joined-requires t c =
    let g = c.merge_items.ensures.grows in
    let d = c.merge_items.new.own in
    record {
      names = names_joined c.args.own.now c.args.second.now.exports d c.args.first.now.exports c.in_ok-both.both c.in_ok-both.ensures.joined;
      both = joined_stand c.args.own.now c.args.second.now.exports d c.args.first.now.exports c.in_ok-both.both c.in_ok-both.ensures.joined;
      exports = exports_kept c.args.own.now d g c.args.second.now.exports (exports_stand c.args.own.now c.see_acyclic.ensures c.args.b c.args.second.now c.requires.asked);
      uses = uses_kept c.args.own.now d g c.args.first.now.uses (uses_stand c.args.own.now c.see_acyclic.ensures c.args.a c.args.first.now c.requires.kept);
      more_uses = uses_kept c.args.own.now d g c.args.second.now.uses (uses_stand c.args.own.now c.see_acyclic.ensures c.args.b c.args.second.now c.requires.asked);
    }

pub merge_copies-returns-in_err-both-clause-clash : goal.merge_copies-returns-in_err-both-clause-clash
merge_copies-returns-in_err-both-clause-clash t c =
    let p = err_from_is_err_and c.from_residual.result c.from_residual.ensures.1 in
    rw (p.1, p.2)
    (λ ss e. instances_clash c.args.own.now c.see_acyclic.ensures c.args.a c.args.b c.args.first.now c.args.second.now c.requires.kept c.requires.asked (c.in_err-both.ensures.clash ss e))

pub merge_item-returns-in-Err-clause-clash : goal.merge_item-returns-in-Err-clause-clash
merge_item-returns-in-Err-clause-clash t c ss e =
    let w = c.within.ensures.steps ss e in
    subst (OtherClash c.args.own.now c.args.kind) (sym c.in-Some.is) (c.in-Err.ensures.clash w.0 w.1)

pub merge_item-returns-in-Ok-clause-joined : goal.merge_item-returns-in-Ok-clause-joined
merge_item-returns-in-Ok-clause-joined t c = subst (λ o. JoinedIn c.args.own.now c.args.kind o c.merge.new.own c.in-Ok.item) (sym c.in-Some.is) c.in-Ok.ensures.met

pub merge_item-returns-in-None-clause-joined : goal.merge_item-returns-in-None-clause-joined
merge_item-returns-in-None-clause-joined t c = subst (λ o. JoinedIn c.args.own.now c.args.kind o c.args.own.now c.args.kind) (sym c.in-None.is) (c.requires.1.1.0.0, refl)

pub merge_instances-merge_copies-requires : goal.merge_instances-merge_copies-requires
merge_instances-merge_copies-requires t c = (
  omega (arith, c.decreases),
  (
    record { at = c.interface.ensures.entry ∙ ap Some (sym c.in-Ok.ensures); own = c.interface.ensures.own },
    record { at = c.interface-in-Ok.ensures.entry ∙ ap Some (sym c.in-Ok-copy.ensures); own = c.interface-in-Ok.ensures.own },
  ),
)

pub merge_copies-returns-in-Ok-clause-met : goal.merge_copies-returns-in-Ok-clause-met
merge_copies-returns-in-Ok-clause-met t c =
    let g = c.merge_items.ensures.grows in
    let h = c.add_joined.ensures.grows in
    instances_meet c.args.own.now c.merge_items.new.own c.add_joined.new.own c.see_acyclic.ensures h.acyclic g h (Grows-trans c.args.own.now c.merge_items.new.own c.add_joined.new.own g h) c.args.a c.args.b c.in-Ok.id
    c.args.first.now c.args.second.now c.in_ok-both.both c.requires.kept c.requires.asked c.in-Ok.ensures.added c.in_ok-both.ensures.joined

pub merge_items-loop-index-init : goal.merge_items-loop-index-init
merge_items-loop-index-init t c = record {
  joined = subst (AreJoined c.args.own.now c.args.asked.now c.args.own.now []) (sym c.new-both.ensures) tt;
  united = subst (ItemsUnite c.args.own.now c.args.asked.now c.args.own.now []) (sym c.new-both.ensures) none_united;
  grows = Grows-refl c.args.own.now c.see_acyclic.ensures;
}

pub merge_items-merge_item-requires : goal.merge_items-merge_item-requires
merge_items-merge_item-requires t c =
    let n = c.entry.result.0.now in
    let k = c.entry.result.1.now in
    let own = c.args.own.now in
    let g = c.loop-index.invariant.grows in
    let sa = size_kept own c.loop-index.own g c.args.instances.kept c.requires.first in
    let sb = size_kept own c.loop-index.own g c.args.instances.asked c.requires.second in
    let m = among-get c.args.kept.now c.loop-index.index (n, k) c.entry.ensures in
    let o = c.copied-other.result in (
      omega (arith, sa, sb, c.decreases),
      (
        inside_kept own c.loop-index.own g k c.args.instances.kept c.requires.first (c.requires.kept n k m),
        slot_inside_kept own c.loop-index.own g o c.args.instances.asked c.requires.second (found_inside_slot own c.args.instances.asked c.args.asked.now c.requires.asked n o (sym (c.copied-other.ensures ∙ c.get.ensures))),
      ),
    )

pub merge_items-push_item-requires : goal.merge_items-push_item-requires
merge_items-push_item-requires t c =
    joined_new c.args.own.now c.args.asked.now c.loop-index.own c.args.kept.now c.loop-index.both c.loop-index.index c.entry.result.0.now c.entry.result.1.now c.entry.ensures c.len-index-end.ensures.distinct c.loop-index.invariant.joined

pub merge_items-loop-index-preserved : goal.merge_items-loop-index-preserved
merge_items-loop-index-preserved t c =
    let n = c.entry.result.0.now in
    let k = c.entry.result.1.now in
    let own = c.args.own.now in
    let d = c.loop-index.own in
    let e = c.merge_item.new.own in
    let g = c.loop-index.invariant.grows in
    let o = c.copied-other.result in
    let is = c.copied-other.ensures ∙ c.get.ensures in
    let inside = c.requires.kept n k (among-get c.args.kept.now c.loop-index.index (n, k) c.entry.ensures) in
    let other = slot_stands own o c.args.instances.asked (found_inside_slot own c.args.instances.asked c.args.asked.now c.requires.asked n o (sym is)) in
    let item = joined_before own d k o e c.in_ok-item.item g inside.0 other c.in_ok-item.ensures.joined in
    record {
      joined = joined_more own c.args.asked.now d e c.args.kept.now c.loop-index.both c.push_item.new.items c.loop-index.index n k c.in_ok-item.item c.entry.ensures c.merge_item.ensures.grows c.loop-index.invariant.joined
          (subst (λ p. JoinedIn own k p e c.in_ok-item.item) is item) c.in_ok-push_item.ensures.ok;
      united = united_more own c.args.asked.now d e c.args.kept.now c.loop-index.both c.push_item.new.items c.loop-index.index n k c.in_ok-item.item c.entry.ensures c.merge_item.ensures.grows
          (joined_stand own c.args.asked.now d (take c.loop-index.index c.args.kept.now) c.loop-index.both c.loop-index.invariant.joined) c.loop-index.invariant.united
          (subst (λ p. OtherUnites own k p e c.in_ok-item.item) is (other_before own d k o e c.in_ok-item.item g inside.0 other c.in_ok-item.ensures.united)) c.in_ok-push_item.ensures.ok;
      grows = Grows-trans own d e g c.merge_item.ensures.grows;
    }

pub merge_items-returns-in_err-item-clause-clash : goal.merge_items-returns-in_err-item-clause-clash
merge_items-returns-in_err-item-clause-clash t c =
    let p = err_from_is_err_and c.from_residual.result c.from_residual.ensures.1 in
    let n = c.entry.result.0.now in
    let k = c.entry.result.1.now in
    let own = c.args.own.now in
    let m = among-get c.args.kept.now c.loop-index.index (n, k) c.entry.ensures in
    let o = c.copied-other.result in
    let is = c.copied-other.ensures ∙ c.get.ensures in
    rw (p.1, p.2)
    (λ ss e. clash_at own c.loop-index.own c.args.kept.now c.args.asked.now n k o c.loop-index.invariant.grows (among-value_at c.args.kept.now n k c.len-index-end.ensures.distinct m) is (c.requires.kept n k m).0
    (slot_stands own o c.args.instances.asked (found_inside_slot own c.args.instances.asked c.args.asked.now c.requires.asked n o (sym is))) (c.in_err-item.ensures.clash ss e))

pub merge_items-returns-in_err-push_item-clause-clash : goal.merge_items-returns-in_err-push_item-clause-clash
merge_items-returns-in_err-push_item-clause-clash t c =
    let p = err_from_is_err_and c.from_residual-in_err-push_item.result c.from_residual-in_err-push_item.ensures.1 in
    rw (p.1, p.2) (λ ss e. absurd (c.in_err-push_item.ensures.clash ss e))

pub merge_item-merge-requires : goal.merge_item-merge-requires
merge_item-merge-requires t c =
    let r = c.requires.1.1 in
    let other = subst (λ o. SlotInside c.args.own.now o c.args.instances.asked) c.in-Some.is r.1 in
    let less = r.0.1 in
    let more = other.1 in
    (omega (arith, c.requires.1.0, less, more), (r.0.0, other.0))

-- ---- the stated type of what is made

pub merge-returns-in_ok-id-in-Instance-b-clause-united : goal.merge-returns-in_ok-id-in-Instance-b-clause-united
merge-returns-in_ok-id-in-Instance-b-clause-united t c =
    both_instances c.args.own.now c.merge_instances.new.own c.see_acyclic.ensures c.in_ok-id-in-Instance-b.ensures.grows.acyclic c.in_ok-id-in-Instance-b.ensures.grows c.args.a c.args.b c.in-Instance.i c.in-Instance-b.j c.in_ok-id-in-Instance-b.id c.in-Instance.is c.in-Instance-b.is c.requires.kept c.requires.asked c.in_ok-id-in-Instance-b.ensures.united

pub merge-returns-in_default-b-clause-united : goal.merge-returns-in_default-b-clause-united
merge-returns-in_default-b-clause-united t c =
    if_ok c.unmerged.result _ _ c.unmerged.ensures.first (λ k e. first_unites c.args.own.now c.see_acyclic.ensures c.args.a c.args.b k
    (instance_other c.args.own.now c.see_acyclic.ensures c.args.a c.args.b c.in-Instance.i c.in-Instance.is c.requires.kept c.requires.asked c.in_default-b.not-Instance) (e ∙ sym c.in-Instance.is))

pub merge-returns-in_default-b-2-clause-united : goal.merge-returns-in_default-b-2-clause-united
merge-returns-in_default-b-2-clause-united t c =
    if_ok c.unmerged-in_default-b-2.result _ _ c.unmerged-in_default-b-2.ensures.first (λ k e. first_unites c.args.own.now c.see_acyclic.ensures c.args.a c.args.b k
    (typed_and_other c.args.own.now c.see_acyclic.ensures c.args.a c.args.b c.in-Ty.x c.in-Ty.is c.requires.kept c.requires.asked c.in_default-b-2.not-Ty) (e ∙ sym c.in-Ty.is))

pub merge-returns-in_default-clause-united : goal.merge-returns-in_default-clause-united
merge-returns-in_default-clause-united t c =
    if_ok c.unmerged-in_default.result _ _ c.unmerged-in_default.ensures.first (λ k e. first_unites c.args.own.now c.see_acyclic.ensures c.args.a c.args.b k
    (first_other c.args.own.now c.see_acyclic.ensures c.args.a c.args.b c.requires.kept c.in_default.not-Instance (λ i. c.in_default.not-Ty (TypeKind.Interface i))) e)

pub merge_types-returns-in_ok-id-in-Interface-b-clause-united : goal.merge_types-returns-in_ok-id-in-Interface-b-clause-united
merge_types-returns-in_ok-id-in-Interface-b-clause-united t c =
    both_types c.args.own.now c.merge_instances.new.own c.see_acyclic.ensures c.in_ok-id-in-Interface-b.ensures.grows.acyclic c.in_ok-id-in-Interface-b.ensures.grows c.args.a c.args.b c.in-Interface.i c.in-Interface-b.j c.in_ok-id-in-Interface-b.id c.in-Interface.is c.in-Interface-b.is c.requires.kept c.requires.asked c.in_ok-id-in-Interface-b.ensures.united

pub merge_types-returns-in_default-b-clause-united : goal.merge_types-returns-in_default-b-clause-united
merge_types-returns-in_default-b-clause-united t c =
    if_ok c.unmerged.result _ _ c.unmerged.ensures.first (λ k e. first_unites c.args.own.now c.see_acyclic.ensures (ItemKind.Ty c.args.a) (ItemKind.Ty c.args.b) k
    (type_other_than c.args.own.now c.see_acyclic.ensures (ItemKind.Ty c.args.a) (ItemKind.Ty c.args.b) c.in-Interface.i (ap ItemKind.Ty c.in-Interface.is) c.requires.kept c.requires.asked (λ j is. c.in_default-b.not-Interface j (same_type c.args.b (TypeKind.Interface j) is))) (e ∙ ap ItemKind.Ty (sym c.in-Interface.is)))

pub merge_types-returns-in_default-clause-united : goal.merge_types-returns-in_default-clause-united
merge_types-returns-in_default-clause-united t c =
    if_ok c.unmerged-in_default.result _ _ c.unmerged-in_default.ensures.first (λ k e. first_unites c.args.own.now c.see_acyclic.ensures (ItemKind.Ty c.args.a) (ItemKind.Ty c.args.b) k
    (first_other c.args.own.now c.see_acyclic.ensures (ItemKind.Ty c.args.a) (ItemKind.Ty c.args.b) c.requires.kept (no_instance c.args.a) (λ i is. c.in_default.not-Interface i (same_type c.args.a (TypeKind.Interface i) is))) e)

pub merge_copies-returns-in-Ok-clause-united : goal.merge_copies-returns-in-Ok-clause-united
merge_copies-returns-in-Ok-clause-united t c = record {
  both = c.in_ok-both.both;
  at = c.in-Ok.ensures.added;
  united = united_kept c.args.own.now c.args.second.now.exports c.merge_items.new.own c.add_joined.new.own c.args.first.now.exports c.in_ok-both.both c.add_joined.ensures.grows
      (joined_stand c.args.own.now c.args.second.now.exports c.merge_items.new.own c.args.first.now.exports c.in_ok-both.both c.in_ok-both.ensures.joined) c.in_ok-both.ensures.united;
}

-- ---- where the steps of a mismatch lead

pub merge_types-returns-in_err-id-in-Interface-b-clause-frames : goal.merge_types-returns-in_err-id-in-Interface-b-clause-frames
merge_types-returns-in_err-id-in-Interface-b-clause-frames t c =
    let p = err_from_is_err_and c.from_residual.result c.from_residual.ensures.1 in
    rw (p.1, p.2)
    (λ ss e. types_disagree_as c.args.own.now c.args.own.now (ItemKind.Ty c.args.a) (ItemKind.Ty c.args.b) (ItemKind.Instance c.in-Interface.i) (ItemKind.Instance c.in-Interface-b.j)
    (interface_type_is c.args.own.now c.see_acyclic.ensures c.args.a c.in-Interface.i c.in-Interface.is c.requires.kept) (interface_type_is c.args.own.now c.see_acyclic.ensures c.args.b c.in-Interface-b.j c.in-Interface-b.is c.requires.asked) ss (c.in_err-id-in-Interface-b.ensures.frames ss e))

pub merge_copies-returns-in_err-both-clause-frames : goal.merge_copies-returns-in_err-both-clause-frames
merge_copies-returns-in_err-both-clause-frames t c =
    let p = err_from_is_err_and c.from_residual.result c.from_residual.ensures.1 in
    rw (p.1, p.2)
    (λ ss e. instance_misses c.args.own.now c.args.own.now c.see_acyclic.ensures c.see_acyclic.ensures c.args.a c.args.b c.args.first.now c.args.second.now c.requires.kept.at c.requires.kept.own c.requires.asked.at c.requires.asked.own ss (c.in_err-both.ensures.frames ss e))

pub merge_item-returns-in-Err-clause-frames : goal.merge_item-returns-in-Err-clause-frames
merge_item-returns-in-Err-clause-frames t c ss e =
    let w = c.within.ensures.steps ss e in
    subst (λ o. OtherLeads c.args.own.now c.args.name.now c.args.kind o ss) (sym c.in-Some.is) (w.0, w.2, c.in-Err.ensures.frames w.0 w.1)

pub merge_items-returns-in_err-item-clause-frames : goal.merge_items-returns-in_err-item-clause-frames
merge_items-returns-in_err-item-clause-frames t c =
    let p = err_from_is_err_and c.from_residual.result c.from_residual.ensures.1 in
    let n = c.entry.result.0.now in
    let k = c.entry.result.1.now in
    let own = c.args.own.now in
    let m = among-get c.args.kept.now c.loop-index.index (n, k) c.entry.ensures in
    let o = c.copied-other.result in
    let is = c.copied-other.ensures ∙ c.get.ensures in
    rw (p.1, p.2)
    (λ ss e. leads_at own c.loop-index.own c.args.kept.now c.args.asked.now n k o c.loop-index.invariant.grows (among-value_at c.args.kept.now n k c.len-index-end.ensures.distinct m) is (c.requires.kept n k m).0
    (slot_stands own o c.args.instances.asked (found_inside_slot own c.args.instances.asked c.args.asked.now c.requires.asked n o (sym is))) ss (c.in_err-item.ensures.frames ss e))

pub merge_items-returns-in_err-push_item-clause-frames : goal.merge_items-returns-in_err-push_item-clause-frames
merge_items-returns-in_err-push_item-clause-frames t c =
    let p = err_from_is_err_and c.from_residual-in_err-push_item.result c.from_residual-in_err-push_item.ensures.1 in
    rw (p.1, p.2) (λ ss e. absurd (c.in_err-push_item.ensures.clash ss e))
