-- Asks that are taken one after another keep what the list of them keeps.
use Rattle.std.proofs.Common.{◌≡◌, ◌≤◌, List, [], ◌∷◌, ◌++◌, length, Bool, true, false, true≢false, Option, Some, None, ◌⊎◌, refl, sym, ap, subst, ◌∙◌, inl, inr, arith}
use Rattle.std.specs.Prelude.{◌&&◌, ◌||◌, if◌then◌else◌}
use Rattle.std.specs.List.{list_all}
use Rattle.std.proofs.lemmas.Option.{none-some}
use Rattle.std.proofs.lemmas.List.{length-append}
use Rattle.std.proofs.lemmas.Bool.{false_from_ne_true}
use Rattle.wac_types_base.specs.declared.item.ItemKind.{ItemKind}
use Rattle.wac_types_base.specs.Record.{Collection}
use Rattle.wac_types_base.specs.Entries.{Name}
use Rattle.wac_types_base.specs.Collection.{IsAcyclic}
use Rattle.wac_types_base.specs.Graph.{Among}
use Rattle.wac_types_base.specs.Stated.{Stated, kind_of, interface_of, uses_of, exports_of, identifier_of, stated_in, stated_of}
use Rattle.wac_types_base.specs.Tree.{tree}
use Rattle.wac_types_base.proofs.Adding.{Among-left}
use Rattle.wac_types_fit.specs.Trees.{tree_in}
use Rattle.wac_types_fit.specs.Meets.{IsPlain}
use Rattle.wac_types_fit.proofs.Ordering.{tree_in_order}
use Rattle.wac_types_merge.specs.declared.family.Family.{Family}
use Rattle.wac_types_merge.specs.declared.error.AggregateError.{AggregateError}
use Rattle.wac_types_merge.specs.Errors.{Refuses, LeadsTo}
use Rattle.wac_types_merge.specs.Families.{joint}
use Rattle.wac_types_merge.specs.Interfaces.{LeadsIn}
use Rattle.wac_types_merge.specs.Steps.{HasClash, LieOutside}
use Rattle.wac_types_merge.proofs.Plain.{family_plain, plain_meet}
use Rattle.wac_types_merge.proofs.Asking.{joint_first, joint_second}
use Rattle.wac_composition.specs.Names.{has_track}
use Rattle.wac_composition.specs.Classes.{is_instance_kind}
use Rattle.wac_composition.specs.Merging.{is_plain, is_wit, merge, narrower, Asked, in_family, kept_from, kept, identified_by, identified}
use Rattle.wac_composition.specs.Again.{IsWell}
use Rattle.wac_composition.proofs.KeptFits.{append_nil}
use Rattle.wac_composition.proofs.Clashing.{among_append, kept_further}
use Rattle.wac_composition.proofs.Again.{asking_twice, kept_well}
use Rattle.wac_merging.specs.Families.{family_by, family_stated}
use Rattle.wac_merging.specs.Merging.{kept_by, IsKept, AreKeepable}
use Rattle.wac_merging.specs.Kept.{IfMerging}
use Rattle.wac_merging.specs.Unmerged.{TellsUnmerged}
use Rattle.wac_merging.specs.Asking.{asked_as, HaveFamily, IsOfFamily, FamilyTaken, IsTaken, Asked_has_family, Unnamed_has_none, First_is_taken, Again_is_taken, One_family_is_all, Next_is_taken, Refused_keeps_nothing, Taken_stays, Kept_is_identified, Spelled_is_identified}
use Rattle.wac_merging.proofs.Well.{well_made}
use Rattle.wac_merging.proofs.United.{instance_made}
use Rattle.wac_merging.proofs.Merged.{kept_is_stated, refused_is_stated, spelled_is_stated}
use Rattle.wac_merging.proofs.Wit.{all_of, of_all, called_is}
use Rattle.wac_merging.proofs.Families.{wit_kind, wit_called, family_is_stated, unnamed_is_of_none}

-- ---- families

-- what is identified is not plain
plain_or_wit : (n : Name) (x : Stated) → IsWell x → is_wit n x ≡ true → is_plain x ≡ true → ⊥
plain_or_wit n x w e p =
    let named = called_is (identifier_of x) n (wit_called n x e) in
    let made : x ≡ interface_of (Some n) (uses_of x) (exports_of x) = instance_made x (wit_kind n x e) (well_made w) ∙ ap (λ i. interface_of i (uses_of x) (exports_of x)) named in
    true≢false (sym p ∙ ap (λ y. is_plain y) made)

by_plain : (p w : Bool) → Family.Plain ≡ family_by p w → p ≡ true
by_plain true w e = refl
by_plain false true e = absurd (cc e)
by_plain false false e = absurd (cc e)

by_wit : (p w : Bool) → Family.Wit ≡ family_by p w → w ≡ true
by_wit true w e = absurd (cc e)
by_wit false true e = refl
by_wit false false e = absurd (cc e)

by_none : (p w : Bool) → Family.Neither ≡ family_by p w → (p ≡ false) × (w ≡ false)
by_none true w e = absurd (cc e)
by_none false true e = absurd (cc e)
by_none false false e = (refl, refl)

abbrev plain_ask : Asked → Bool
plain_ask a = is_plain a.1

abbrev wit_ask : Asked → Bool
wit_ask a = is_wit a.0 a.1

fails : (p : Asked → Bool) (asks : List Asked) (a : Asked) → Among a asks → p a ≡ false → list_all p asks ≡ false
fails p asks a m e = false_from_ne_true (list_all p asks) (λ h. true≢false (sym (of_all p asks h a m) ∙ e))

last : (asks : List Asked) (a : Asked) → Among a (asks ++ a ∷ [])
last [] a = inl refl
last (b ∷ asks) a = inr (last asks a)

all_more : (p : Asked → Bool) (asks : List Asked) (a : Asked) → list_all p asks ≡ true → p a ≡ true → list_all p (asks ++ a ∷ []) ≡ true
all_more p asks a e f = all_of p (asks ++ a ∷ []) (λ b m. elim (among_append asks (a ∷ []) b m) [ inl k ↦ of_all p asks e b k | inr k ↦ only b k ])
  where
    only : (b : Asked) → Among b (a ∷ []) → p b ≡ true
    only b (inl q) = ap p q ∙ f
    only b (inr q) = absurd q

all_before : (p : Asked → Bool) (asks : List Asked) (a : Asked) → list_all p (asks ++ a ∷ []) ≡ true → list_all p asks ≡ true
all_before p asks a e = all_of p asks (λ b m. of_all p (asks ++ a ∷ []) e b (Among-left b asks (a ∷ []) m))

no_family : (asks : List Asked) → list_all plain_ask asks ≡ false → list_all wit_ask asks ≡ false → in_family asks ≡ false
no_family asks p w = λ j. p j || w j

in_plain : (asks : List Asked) → list_all plain_ask asks ≡ true → in_family asks ≡ true
in_plain asks e = ap (λ b. b || list_all wit_ask asks) e

in_wit : (asks : List Asked) → list_all wit_ask asks ≡ true → in_family asks ≡ true
in_wit asks e = by (list_all plain_ask asks) e
  where
    by : (b : Bool) → list_all wit_ask asks ≡ true → (b || list_all wit_ask asks) ≡ true
    by true e = refl
    by false e = e

still_none : (asks : List Asked) (a : Asked) → in_family asks ≡ false → in_family (asks ++ a ∷ []) ≡ false
still_none asks a e = by (list_all plain_ask (asks ++ a ∷ [])) refl (list_all wit_ask (asks ++ a ∷ [])) refl
  where
    by : (p : Bool) → list_all plain_ask (asks ++ a ∷ []) ≡ p → (w : Bool) → list_all wit_ask (asks ++ a ∷ []) ≡ w → (p || w) ≡ false
    by true q w r = absurd (true≢false (sym (in_plain asks (all_before plain_ask asks a q)) ∙ e))
    by false q true r = absurd (true≢false (sym (in_wit asks (all_before wit_ask asks a r)) ∙ e))
    by false q false r = refl

module _ (asks : List Asked) (b : Asked) (there : Among b asks) (well : (a : Asked) → Among a asks → IsWell a.1) (a : Asked) (own : IsWell a.1) where
  abbrev more : List Asked
  more = asks ++ a ∷ []

  not_wit : (c : Asked) → IsWell c.1 → plain_ask c ≡ true → wit_ask c ≡ false
  not_wit c w p = false_from_ne_true (wit_ask c) (λ e. plain_or_wit c.0 c.1 w e p)

  not_plain : (c : Asked) → IsWell c.1 → wit_ask c ≡ true → plain_ask c ≡ false
  not_plain c w e = false_from_ne_true (plain_ask c) (λ p. plain_or_wit c.0 c.1 w e p)

  abbrev HasFamily : Family → Type 0
  HasFamily g = g ≡ family_stated a.0 a.1

  -- with one ask more
  pub family_next : (f g : Family) → HaveFamily asks f → HasFamily g → HaveFamily more (joint f g)
  family_next Family.Plain Family.Plain h e = all_more plain_ask asks a h (by_plain (plain_ask a) (wit_ask a) e)
  family_next Family.Wit Family.Wit h e = all_more wit_ask asks a h (by_wit (plain_ask a) (wit_ask a) e)
  family_next Family.Plain Family.Wit h e =
      no_family more (fails plain_ask more a (last asks a) (not_plain a own (by_wit (plain_ask a) (wit_ask a) e)))
      (fails wit_ask more b (Among-left b asks (a ∷ []) there) (not_wit b (well b there) (of_all plain_ask asks h b there)))
  family_next Family.Wit Family.Plain h e =
      no_family more (fails plain_ask more b (Among-left b asks (a ∷ []) there) (not_plain b (well b there) (of_all wit_ask asks h b there)))
      (fails wit_ask more a (last asks a) (not_wit a own (by_plain (plain_ask a) (wit_ask a) e)))
  family_next Family.Plain Family.Neither h e =
      let n = by_none (plain_ask a) (wit_ask a) e in
      no_family more (fails plain_ask more a (last asks a) n.0) (fails wit_ask more a (last asks a) n.1)
  family_next Family.Wit Family.Neither h e =
      let n = by_none (plain_ask a) (wit_ask a) e in
      no_family more (fails plain_ask more a (last asks a) n.0) (fails wit_ask more a (last asks a) n.1)
  family_next Family.Neither Family.Plain h e = still_none asks a h
  family_next Family.Neither Family.Wit h e = still_none asks a h
  family_next Family.Neither Family.Neither h e = still_none asks a h

-- asks that have a family are in one
have_one : (asks : List Asked) (f : Family) → HaveFamily asks f → (f ≡ Family.Neither → ⊥) → in_family asks ≡ true
have_one asks Family.Plain h some = in_plain asks h
have_one asks Family.Wit h some = in_wit asks h
have_one asks Family.Neither h some = absurd (some refl)

-- asks that are all one
all_one : (p : Asked → Bool) (asks : List Asked) (b : Asked) → ((a : Asked) → Among a asks → a ≡ b) → p b ≡ true → list_all p asks ≡ true
all_one p asks b h e = all_of p asks (λ a m. ap p (h a m) ∙ e)

one_family : (asks : List Asked) (b : Asked) → Among b asks → ((a : Asked) → Among a asks → a ≡ b) → (f : Family) → f ≡ family_stated b.0 b.1 → HaveFamily asks f
one_family asks b m h Family.Plain e = all_one plain_ask asks b h (by_plain (plain_ask b) (wit_ask b) e)
one_family asks b m h Family.Wit e = all_one wit_ask asks b h (by_wit (plain_ask b) (wit_ask b) e)
one_family asks b m h Family.Neither e =
    let n = by_none (plain_ask b) (wit_ask b) e in
    no_family asks (fails plain_ask asks b m n.0) (fails wit_ask asks b m n.1)

-- ---- what is kept with one ask more

abbrev step : List Asked → Stated → Asked → Option Stated
step asks x a = if in_family (asks ++ a ∷ []) then merge x a.1 else narrower x a.1

kept_next : (asks : List Asked) (x : Stated) (a : Asked) (later : List Asked) → kept asks ≡ Some x → kept (asks ++ a ∷ later) ≡ kept_from (asks ++ a ∷ []) (step asks x a) later
kept_next [] x a later e = absurd (none-some _ e)
kept_next (b ∷ bs) x a later e = kept_further (b ∷ []) bs (a ∷ later) b.1 x e

step_by : (asks : List Asked) (x : Stated) (a : Asked) (f : Family) → HaveFamily (asks ++ a ∷ []) f → step asks x a ≡ kept_by f x a.1
step_by asks x a Family.Plain h = ap (λ b. if b then merge x a.1 else narrower x a.1) (in_plain (asks ++ a ∷ []) h)
step_by asks x a Family.Wit h = ap (λ b. if b then merge x a.1 else narrower x a.1) (in_wit (asks ++ a ∷ []) h)
step_by asks x a Family.Neither h = ap (λ b. if b then merge x a.1 else narrower x a.1) h

some_ask : (asks : List Asked) (x : Stated) → kept asks ≡ Some x → (a : Asked) × Among a asks
some_ask [] x e = absurd (none-some _ e)
some_ask (a ∷ asks) x e = (a, inl refl)

-- ---- single asks

pub asked_has_family : Asked_has_family
asked_has_family c n k f acyclic s w named h = record {
  stands = s;
  family = family_is_stated c n k f acyclic s named h;
  plain = λ some. family_plain c acyclic n k f s h some;
  well = w;
}

pub unnamed_has_none : Unnamed_has_none
unnamed_has_none c n k acyclic s w u = record { stands = s; family = sym (unnamed_is_of_none c n k acyclic s u); plain = λ some. absurd (some refl); well = w }

pub first_is_taken : First_is_taken
first_is_taken c n k s w = record {
  stands = s;
  kept = refl;
  counted = (λ e. absurd (true≢false (sym e)), λ l. absurd (omega (arith, l)));
  well = λ a m. subst (λ (b : Asked). IsWell b.1) (sym (only a m)) w;
  family = (n, only);
}
  where
    only : (a : Asked) → Among a (asked_as c n k ∷ []) → a ≡ asked_as c n k
    only a (inl e) = e
    only a (inr e) = absurd e

more_asks : (asks : List Asked) (a : Asked) (P : Asked → Type 0) → ((b : Asked) → Among b asks → P b) → P a → (b : Asked) → Among b (asks ++ a ∷ []) → P b
more_asks asks a P h p b m = elim (among_append asks (a ∷ []) b m) [ inl k ↦ h b k | inr k ↦ only k ]
  where
    only : Among b (a ∷ []) → P b
    only (inl e) = subst P (sym e) p
    only (inr e) = absurd e

several_now : (asks : List Asked) (a b : Asked) → Among b asks → 2 ≤ length (asks ++ a ∷ [])
several_now [] a b m = absurd m
several_now (c ∷ asks) a b m = let all = length-append asks (a ∷ []) in omega (arith, all)

pub again_is_taken : Again_is_taken
again_is_taken c asks a several k m t = record {
  stands = t.stands;
  kept = asking_twice asks [] a m t.well ∙ ap kept (append_nil asks) ∙ t.kept;
  counted = (λ e. several_now asks a a m, λ l. refl);
  well = more_asks asks a (λ b. IsWell b.1) t.well (t.well a m);
  family = (t.family.0, more_asks asks a (λ b. b ≡ asked_as c t.family.0 k) t.family.1 (t.family.1 a m));
}

pub one_family_is_all : One_family_is_all
one_family_is_all c asks several n k f m o t = record {
  stands = t.stands;
  kept = t.kept;
  counted = t.counted;
  well = t.well;
  family = (one_family asks (asked_as c n k) m (λ a i. t.family.1 a i ∙ sym (t.family.1 (asked_as c n k) m)) f o.family, o.plain);
}

-- ---- the next ask

module _ (c : Collection) (asks : List Asked) (several : Bool) (n : Name) (k j : ItemKind) (f g : Family) (acyclic : IsAcyclic c) (t : IsTaken c asks several k (Some f)) (o : IsOfFamily c n j g) where
  abbrev a : Asked
  a = asked_as c n j

  have_next : HaveFamily (asks ++ a ∷ []) (joint f g)
  have_next = let b = some_ask asks (stated_of c k) t.kept in family_next asks b.0 b.1 t.well a o.well f g t.family.0 o.family

  keepable : AreKeepable c (joint f g) k j
  keepable = record {
    acyclic = acyclic;
    first = t.stands;
    second = o.stands;
    first_well = kept_well asks (stated_of c k) t.well t.kept;
    second_well = o.well;
    first_plain = λ some. t.family.1 (joint_first f g some);
    second_plain = λ some. o.plain (joint_second f g some);
  }

  kept_more : (later : List Asked) → kept (asks ++ a ∷ later) ≡ kept_from (asks ++ a ∷ []) (kept_by (joint f g) (stated_of c k) (stated_of c j)) later
  kept_more later =
      kept_next asks (stated_of c k) a later t.kept
      ∙ ap (λ z. kept_from (asks ++ a ∷ []) z later) (step_by asks (stated_of c k) a (joint f g) have_next)

  plain_next : (d : Collection) (r : ItemKind) → IsKept c (joint f g) k j d r → (joint f g ≡ Family.Neither → ⊥) → IsPlain (tree_in d r)
  unfolding tree_in
  plain_next d r h some =
      plain_meet (tree (stated_of c k)) (tree (stated_of c j)) (tree (stated_of d r)) (tree_in_order (stated_of c k)) (tree_in_order (stated_of c j)) (keepable.first_plain some) (keepable.second_plain some) h.meet.meet

  pub taken_next : (d : Collection) (r : ItemKind) → IsKept c (joint f g) k j d r → IsTaken d (asks ++ a ∷ []) true r (Some (joint f g))
  taken_next d r h = record {
    stands = h.meet.stands;
    kept = kept_more [] ∙ ap (λ z. kept_from (asks ++ a ∷ []) z []) (kept_is_stated c d (joint f g) k j r keepable h);
    counted = let b = some_ask asks (stated_of c k) t.kept in (λ e. several_now asks a b.0 b.1, λ l. refl);
    well = more_asks asks a (λ b. IsWell b.1) t.well o.well;
    family = (have_next, plain_next d r h);
  }

  pub refused_next : (later : List Asked) → HasClash c (joint f g) k j ⊎ LieOutside c (joint f g) k j → kept (asks ++ a ∷ later) ≡ None
  refused_next later h = kept_more later ∙ ap (λ z. kept_from (asks ++ a ∷ []) z later) (refused_is_stated c (joint f g) k j keepable h)

  -- what the error tells that refuses it
  pub told_next : (e : AggregateError) → Refuses e (HasClash c (joint f g) k j) (LieOutside c (joint f g) k j) ⊥ → LeadsTo e (LeadsIn c k j) → IfMerging e (TellsUnmerged e asks a)
  unfolding tree_in
  told_next (AggregateError.Incompatible x) r l = record {
    item = stated_of c k;
    so_far = t.kept;
    nothing = refused_next [] (inl r);
    apart = (have_one (asks ++ a ∷ []) (joint f g) have_next r.0, r.1 (keepable.first_plain r.0), l);
  }
  told_next AggregateError.OutsideFamilies r l = record {
    item = stated_of c k;
    so_far = t.kept;
    nothing = refused_next [] (inr r);
    apart = (subst (HaveFamily (asks ++ a ∷ [])) r.0 have_next, r.1.0, r.1.1);
  }
  told_next AggregateError.UsedWithoutIdentifier r l = absurd r
  told_next AggregateError.Memory r l = tt

pub next_is_taken : Next_is_taken
next_is_taken c d asks several n k j r f g acyclic t o h = taken_next c asks several n k j f g acyclic t o d r h

pub refused_keeps_nothing : Refused_keeps_nothing
refused_keeps_nothing c asks later several n k j f g acyclic t o h = refused_next c asks several n k j f g acyclic t o later h

-- ---- growing

pub taken_stays : Taken_stays
unfolding tree_in
taken_stays c d asks several k f g t =
    let same : stated_of d k ≡ stated_of c k = ap stated_in (g.keep k t.stands) in
    record { stands = g.stand k t.stands; kept = t.kept ∙ ap Some (sym same); counted = t.counted; well = t.well; family = stays f same t.family }
  where
    stays : (f : Option Family) → stated_of d k ≡ stated_of c k → FamilyTaken c asks k f → FamilyTaken d asks k f
    stays None e h = (h.0, λ a m. h.1 a m ∙ (λ i. (h.0, sym e i)))
    stays (Some w) e h = (h.0, λ some. subst (λ x. IsPlain (tree x)) (sym e) (h.1 some))

-- ---- the outer import

two_asks : (n : Name) (asks : List Asked) (x : Stated) → 2 ≤ length asks → identified n asks x ≡ identified_by (is_instance_kind (kind_of x) && has_track n) n x
two_asks n [] x h = absurd (omega (arith, h))
two_asks n (a ∷ []) x h = absurd (omega (arith, h))
two_asks n (a ∷ b ∷ asks) x h = refl

one_ask : (n : Name) (asks : List Asked) (x : Stated) → (2 ≤ length asks → ⊥) → identified n asks x ≡ x
one_ask n [] x h = refl
one_ask n (a ∷ []) x h = refl
one_ask n (a ∷ b ∷ asks) x h = absurd (h (omega arith))

off_track : (n : Name) (asks : List Asked) (x : Stated) → has_track n ≡ false → identified n asks x ≡ x
off_track n [] x h = refl
off_track n (a ∷ []) x h = refl
off_track n (a ∷ b ∷ asks) x h = ap (λ b. identified_by b n x) (ap (λ t. is_instance_kind (kind_of x) && t) h ∙ by (is_instance_kind (kind_of x)))
  where
    by : (i : Bool) → (i && false) ≡ false
    by true = refl
    by false = refl

pub kept_is_identified : Kept_is_identified
kept_is_identified c asks several n k f t (inl l) = one_ask n asks (stated_of c k) (λ s. true≢false (sym (t.counted.1 s) ∙ l))
kept_is_identified c asks several n k f t (inr e) = off_track n asks (stated_of c k) e

pub spelled_is_identified : Spelled_is_identified
spelled_is_identified c d asks several n k r f acyclic t l e h =
    two_asks n asks (stated_of c k) (t.counted.0 l)
    ∙ ap (λ b. identified_by b n (stated_of c k)) (ap (λ t. is_instance_kind (kind_of (stated_of c k)) && t) e ∙ by (is_instance_kind (kind_of (stated_of c k))))
    ∙ sym (spelled_is_stated c d k r n acyclic t.stands h)
  where
    by : (i : Bool) → (i && true) ≡ i
    by true = refl
    by false = refl
