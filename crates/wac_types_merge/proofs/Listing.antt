-- After each accepted ask, each track has one import: the meet of its asks, under the greatest name.
use Rattle.std.proofs.Common.{◌≡◌, ℕ, zero, suc, ◌+◌, ◌≤◌, take, drop, List, [], ◌∷◌, ◌++◌, map, length, Option, Some, None, IsSome, refl, sym, ap, subst, ◌∙◌, ◌⊎◌, inl, inr, arith}
use Rattle.std.specs.Prelude.{slice_get, slice_set}
use Rattle.wac_types_base.specs.declared.item.ItemKind.{ItemKind}
use Rattle.wac_types_base.specs.declared.ids.InterfaceId.{InterfaceId}
use Rattle.wac_types_base.specs.declared.defined.Interface.{Interface}
use Rattle.wac_types_base.specs.Record.{Collection}
use Rattle.wac_types_base.specs.Graph.{Among}
use Rattle.wac_types_base.specs.Entries.{Name}
use Rattle.wac_types_base.specs.Collection.{Stands, Grows}
use Rattle.wac_types_base.specs.Reaching.{here}
use Rattle.wac_types_base.specs.Stated.{identifier_of}
use Rattle.wac_types_base.proofs.Loops.{map-append, map-one_more, take-all}
use Rattle.wac_types_base.proofs.Adding.{Among-left}
use Rattle.wac_types_base.proofs.Walking.{slice_get-Among}
use Rattle.wac_types_names.specs.Tracks.{AreCompatible, IsLater}
use Rattle.wac_types_names.proofs.TrackLaws.{compatible_turned, compatible_joined}
use Rattle.wac_types_fit.specs.Meets.{IsMeet}
use Rattle.wac_types_fit.specs.Targets.{AreThose, none_left, first_is, first_is_not}
use Rattle.wac_types_fit.specs.Trees.{tree_in}
use Rattle.wac_types_fit.proofs.Meeting.{meet_one, meet_more}
use Rattle.wac_types_fit.proofs.Ordering.{named_in_order}
use Rattle.wac_types_merge.specs.declared.error.AggregateError.{AggregateError}
use Rattle.wac_types_merge.specs.declared.family.Family.{Family}
use Rattle.wac_types_merge.specs.declared.family.Import.{Import}
use Rattle.wac_types_merge.specs.Families.{HasMore, IsUnplain, IsPlainItem, IsWitInterface, IsWitItem, joint}
use Rattle.wac_types_merge.specs.Imports.{Imports, AreSound, AreApart, IsIdentified}
use Rattle.wac_types_merge.specs.Errors.{LeadsTo}
use Rattle.wac_types_merge.specs.Merging.{Ask, tree_asked, HasFamily, FirstAsked, AskedAgain, IsAsked, IsRefused, LeadApart}
use Rattle.wac_types_merge.specs.Lists.{AllPlain, AllWit, LieIn, IsImportOf, Merges, none_yet, AreAsked, one_more_asked, Lent, ask_of, asks_of, AsksStand, IsListRefused}
use Rattle.wac_types_merge.proofs.Grown.{tree_kept, stated_kept, copied_tree}
use Rattle.wac_types_merge.proofs.Tracks.{not_later, greater_before, greater_asked, greater_still, greater_than_asked, on_track_with, same_or_not, one_place, Elsewhere, set_among, set_there, other_there}
use Rattle.wac_types_base.proofs.Looked.{among-get}
use Rattle.wac_types_base.proofs.Lists.{among_split, last_among}

-- ---- those of a list

module _ {X : Type 0} (P : X → Type 0) where
  none_of : (xs : List X) → ((x : X) → Among x xs → P x → ⊥) → AreThose P xs []
  none_of [] h = none_left
  none_of (x ∷ xs) h = first_is_not (h x (inl refl)) (none_of xs (λ y m. h y (inr m)))

  one_more : (xs ys : List X) (x : X) → AreThose P xs ys → P x → AreThose P (xs ++ x ∷ []) (ys ++ x ∷ [])
  one_more xs ys x none_left p = first_is p none_left
  one_more xs ys x (first_is {xs = us} {ys = vs} q r) p = first_is q (one_more us vs x r p)
  one_more xs ys x (first_is_not {xs = us} q r) p = first_is_not q (one_more us ys x r p)

  not_more : (xs ys : List X) (x : X) → AreThose P xs ys → (P x → ⊥) → AreThose P (xs ++ x ∷ []) ys
  not_more xs ys x none_left p = first_is_not p none_left
  not_more xs ys x (first_is {xs = us} {ys = vs} q r) p = first_is q (not_more us vs x r p)
  not_more xs ys x (first_is_not {xs = us} q r) p = first_is_not q (not_more us ys x r p)

those_same : {X : Type 0} (P Q : X → Type 0) (xs ys : List X) → ((x : X) → P x → Q x) → ((x : X) → Q x → P x) → AreThose P xs ys → AreThose Q xs ys
those_same P Q xs ys f g none_left = none_left
those_same P Q xs ys f g (first_is {x = x} {xs = us} {ys = vs} q r) = first_is (f x q) (those_same P Q us vs f g r)
those_same P Q xs ys f g (first_is_not {x = x} {xs = us} q r) = first_is_not (λ k. q (g x k)) (those_same P Q us ys f g r)

-- ---- families

more_than : (c : Collection) (n : Name) (i : InterfaceId) (o : Option Interface) → IsWitInterface c n i o → HasMore o
more_than c n i None h = absurd h
more_than c n i (Some x) h = inl (subst IsSome (sym h.0) refl)

wit_unplain : (c : Collection) (n : Name) (k : ItemKind) → IsWitItem c n k → IsUnplain c k
wit_unplain c n (ItemKind.Instance i) h = more_than c n i (slice_get c.interfaces i.index) h
wit_unplain c n (ItemKind.Ty t) h = absurd h
wit_unplain c n (ItemKind.Func t) h = absurd h
wit_unplain c n (ItemKind.Component t) h = absurd h
wit_unplain c n (ItemKind.Module t) h = absurd h
wit_unplain c n (ItemKind.Value t) h = absurd h

-- no ask lies in both families
not_both : (a : Ask) → IsPlainItem a.types a.kind → IsWitItem a.types a.name a.kind → ⊥
not_both a p w = p (here (wit_unplain a.types a.name a.kind w))

one_member : {X : Type 0} (P : X → Type 0) (x y : X) → P x → Among y (x ∷ []) → P y
one_member P x y p (inl e) = subst P (sym e) p
one_member P x y p (inr m) = absurd m

all_more : {X : Type 0} (P : X → Type 0) (xs : List X) (x : X) → ((y : X) → Among y xs → P y) → P x → (y : X) → Among y (xs ++ x ∷ []) → P y
all_more P xs x h p y m = elim (among_split y xs (x ∷ []) m) [ inl n ↦ h y n | inr n ↦ one_member P x y p n ]

abbrev Plain : Ask → Type 0
Plain a = IsPlainItem a.types a.kind

abbrev Wit : Ask → Type 0
Wit a = IsWitItem a.types a.name a.kind

lies_alone : (a : Ask) (f : Family) → HasFamily a f → LieIn (a ∷ []) f
lies_alone a Family.Plain h = λ b m. one_member Plain a b h m
lies_alone a Family.Wit h = λ b m. one_member Wit a b h m
lies_alone a Family.Neither h = (λ p. h.0 (p a (inl refl)), λ w. h.1 (w a (inl refl)))

module _ (on : List Ask) (some : (b : Ask) × Among b on) (a : Ask) where
  not_wit : AllPlain on → AllWit (on ++ a ∷ []) → ⊥
  not_wit p w = not_both some.0 (p some.0 some.1) (w some.0 (Among-left some.0 on (a ∷ []) some.1))

  not_plain : AllWit on → AllPlain (on ++ a ∷ []) → ⊥
  not_plain w p = not_both some.0 (p some.0 (Among-left some.0 on (a ∷ []) some.1)) (w some.0 some.1)

  -- the family of one more
  lie_more : (f g : Family) → LieIn on f → HasFamily a g → LieIn (on ++ a ∷ []) (joint f g)
  lie_more Family.Plain Family.Plain h k = all_more Plain on a h k
  lie_more Family.Wit Family.Wit h k = all_more Wit on a h k
  lie_more Family.Plain Family.Wit h k = (λ p. not_both a (p a (last_among on a)) k, not_wit h)
  lie_more Family.Plain Family.Neither h k = (λ p. k.0 (p a (last_among on a)), not_wit h)
  lie_more Family.Wit Family.Plain h k = (not_plain h, λ w. not_both a k (w a (last_among on a)))
  lie_more Family.Wit Family.Neither h k = (not_plain h, λ w. k.1 (w a (last_among on a)))
  lie_more Family.Neither Family.Plain h k = (λ p. h.0 (λ b m. p b (Among-left b on (a ∷ []) m)), λ w. h.1 (λ b m. w b (Among-left b on (a ∷ []) m)))
  lie_more Family.Neither Family.Wit h k = (λ p. h.0 (λ b m. p b (Among-left b on (a ∷ []) m)), λ w. h.1 (λ b m. w b (Among-left b on (a ∷ []) m)))
  lie_more Family.Neither Family.Neither h k = (λ p. h.0 (λ b m. p b (Among-left b on (a ∷ []) m)), λ w. h.1 (λ b m. w b (Among-left b on (a ∷ []) m)))

-- ---- one more ask

identified_kept : (c d : Collection) → Grows c d → (k : ItemKind) (n : Name) → Stands c k → IsIdentified c k n → IsIdentified d k n
identified_kept c d g (ItemKind.Instance i) n s h = ap identifier_of (stated_kept c d g (ItemKind.Instance i) s) ∙ h
identified_kept c d g (ItemKind.Ty t) n s h = tt
identified_kept c d g (ItemKind.Func t) n s h = tt
identified_kept c d g (ItemKind.Component t) n s h = tt
identified_kept c d g (ItemKind.Module t) n s h = tt
identified_kept c d g (ItemKind.Value t) n s h = tt

abbrev On : Name → Ask → Type 0
On n a = AreCompatible n a.name

module _ (asks : List Ask) (old new : Imports) (a : Ask) (sound : AreSound old) (h : Merges asks old) (grows : Grows old.types new.types) where
  -- an import that is not asked
  not_asked : (m : Import) → Among m old.kept → (AreCompatible m.name a.name → ⊥) → (on : List Ask) × IsImportOf new.types (asks ++ a ∷ []) m on
  not_asked m n apart =
      let was = h.each m n in
      let s = sound.stand m n in (
        was.0,
        record {
          those = not_more (On m.name) asks was.0 a was.1.those apart;
          family = was.1.family;
          meet = subst (λ t. IsMeet t (map tree_asked was.0)) (sym (tree_kept old.types new.types grows m.kind s)) was.1.meet;
          asked = was.1.asked;
          greatest = was.1.greatest;
          identified = λ two on. identified_kept old.types new.types grows m.kind m.name s (was.1.identified two on);
        },
      )

  module _ (f : FirstAsked old new a) where
    nobody : (b : Ask) → Among b asks → AreCompatible f.added.name b.name → ⊥
    nobody b m c =
        let import = h.none_lost b m in
        f.alone import.0 import.1 (compatible_joined import.0.name b.name a.name import.2 (compatible_turned a.name b.name (subst (λ z. AreCompatible z b.name) f.name c)))

    first_import : IsImportOf new.types (asks ++ a ∷ []) f.added (a ∷ [])
    first_import = record {
      those = one_more (On f.added.name) asks [] a (none_of (On f.added.name) asks nobody) (inl f.name);
      family = lies_alone a f.added.family f.family;
      meet = subst (λ t. IsMeet (tree_in new.types f.added.kind) (t ∷ [])) (copied_tree a.types new.types a.kind f.added.kind f.copied) (meet_one (tree_in new.types f.added.kind) (named_in_order new.types f.added.kind));
      asked = (a, inl refl, f.name);
      greatest = λ b m l. one_member (λ (x : Ask). IsLater x.name f.added.name → ⊥) a b (λ k. not_later a.name (subst (IsLater a.name) f.name k)) m l;
      identified = λ two on. absurd (omega (arith, two));
    }

    first_each : (m : Import) → Among m (old.kept ++ f.added ∷ []) → (on : List Ask) × IsImportOf new.types (asks ++ a ∷ []) m on
    first_each m n = elim (among_split m old.kept (f.added ∷ []) n) [
      | inl k ↦ not_asked m k (f.alone m k)
      | inr k ↦ one_member (λ (x : Import). (on : List Ask) × IsImportOf new.types (asks ++ a ∷ []) x on) f.added m (a ∷ [], first_import) k
    ]

    first_found : (b : Ask) → Among b (asks ++ a ∷ []) → (m : Import) × Among m (old.kept ++ f.added ∷ []) × AreCompatible m.name b.name
    first_found b n = elim (among_split b asks (a ∷ []) n) [
      | inl k ↦ let was = h.none_lost b k in (was.0, Among-left was.0 old.kept (f.added ∷ []) was.1, was.2)
      | inr k ↦ one_member (λ (x : Ask). (m : Import) × Among m (old.kept ++ f.added ∷ []) × AreCompatible m.name x.name) a b (f.added, last_among old.kept f.added, inl f.name) k
    ]

  module _ (g : AskedAgain old new a) where
    was_among : Among g.before old.kept
    was_among = among-get old.kept g.at g.before g.beside.there

    to_before : AreCompatible g.after.name g.before.name
    to_before = greater_before g.before.name a.name g.after.name g.beside.track g.name

    name_asked : (on : List Ask) → (b : Ask) × Among b on × (g.before.name ≡ b.name) → (b : Ask) × Among b (on ++ a ∷ []) × (g.after.name ≡ b.name)
    name_asked on b = elim g.name [
      | inl e ↦ (a, last_among on a, e.1)
      | inr e ↦ (b.0, Among-left b.0 on (a ∷ []) b.1, e.1 ∙ b.2)
    ]

    again_import : (on : List Ask) → IsImportOf old.types asks g.before on → IsImportOf new.types (asks ++ a ∷ []) g.after (on ++ a ∷ [])
    again_import on was = record {
      those = one_more (On g.after.name) asks on a
          (those_same (On g.before.name) (On g.after.name) asks on
          (λ b c. compatible_joined g.after.name g.before.name b.name to_before c)
          (λ b c. compatible_joined g.before.name g.after.name b.name (compatible_turned g.after.name g.before.name to_before) c) was.those)
          (greater_asked g.before.name a.name g.after.name g.beside.track g.name);
      family = subst (LieIn (on ++ a ∷ [])) (sym g.family) (lie_more on (was.asked.0, was.asked.1) a g.before.family g.own_family was.family g.has);
      meet = subst (IsMeet (tree_in new.types g.after.kind)) (sym (map-append tree_asked on (a ∷ []))) (meet_more (tree_in old.types g.before.kind) (tree_in new.types g.after.kind) (tree_asked a) (map tree_asked on) was.meet g.meet);
      asked = name_asked on was.asked;
      greatest = all_more (λ (x : Ask). IsLater x.name g.after.name → ⊥) on a
          (λ b m. greater_still g.before.name a.name g.after.name b.name g.name (was.greatest b m))
          (greater_than_asked g.before.name a.name g.after.name g.name);
      identified = λ two on_track. g.identified (on_track_with g.after.name a.name (greater_asked g.before.name a.name g.after.name g.beside.track g.name) on_track);
    }

    elsewhere_apart : (m : Import) → Elsewhere old.kept g.at m → AreCompatible m.name a.name → ⊥
    elsewhere_apart m e c =
        e.other (one_place old.kept e.place g.at m g.before sound.apart e.there g.beside.there
        (compatible_joined m.name a.name g.before.name c (compatible_turned g.before.name a.name g.beside.track)))

    again_each : (m : Import) → Among m (slice_set old.kept g.at g.after) → (on : List Ask) × IsImportOf new.types (asks ++ a ∷ []) m on
    again_each m n = elim (set_among old.kept g.at g.before g.after m g.beside.there n) [
      | inl e ↦ subst (λ (x : Import). (on : List Ask) × IsImportOf new.types (asks ++ a ∷ []) x on) (sym e) (let was = h.each g.before was_among in (was.0 ++ a ∷ [], again_import was.0 was.1))
      | inr e ↦ not_asked m (among-get old.kept e.place m e.there) (elsewhere_apart m e)
    ]

    abbrev Found : Ask → Type 0
    Found b = (m : Import) × Among m (slice_set old.kept g.at g.after) × AreCompatible m.name b.name

    found_old : (b : Ask) (m : Import) (i : ℕ) → slice_get old.kept i ≡ Some m → AreCompatible m.name b.name → (i ≡ g.at) ⊎ (i ≡ g.at → ⊥) → Found b
    found_old b m i at c (inl e) =
        let same : m ≡ g.before = cc (subst (λ j. slice_get old.kept j ≡ Some m) e at, g.beside.there) in
        (g.after, set_there old.kept g.at g.before g.after g.beside.there, compatible_joined g.after.name g.before.name b.name to_before (subst (λ (x : Import). AreCompatible x.name b.name) same c))
    found_old b m i at c (inr n) = (m, other_there old.kept g.at g.after m (record { place = i; other = n; there = at }), c)

    again_found : (b : Ask) → Among b (asks ++ a ∷ []) → Found b
    again_found b n = elim (among_split b asks (a ∷ []) n) [
      | inl k ↦ let was = h.none_lost b k in let p = slice_get-Among old.kept was.0 was.1 in found_old b was.0 p.0 p.2 was.2 (same_or_not g.at p.0)
      | inr k ↦ one_member Found a b (g.after, set_there old.kept g.at g.before g.after g.beside.there, greater_asked g.before.name a.name g.after.name g.beside.track g.name) k
    ]

  pub asked_merges : AreSound new → IsAsked old a new → Merges (asks ++ a ∷ []) new
  asked_merges next is = elim is.one [
    | inl f ↦ record {
      each = λ m n. first_each f m (subst (Among m) f.kept n);
      none_lost = λ b n. let r = first_found f b n in (r.0, subst (Among r.0) (sym f.kept) r.1, r.2);
      apart = next.apart;
    }
    | inr g ↦ record {
      each = λ m n. again_each g m (subst (Among m) g.kept n);
      none_lost = λ b n. let r = again_found g b n in (r.0, subst (Among r.0) (sym g.kept) r.1, r.2);
      apart = next.apart;
    }
  ]

pub nothing_merged : (g : Imports) → g.kept ≡ [] → Merges [] g
nothing_merged g e = record {
  each = λ m n. absurd (subst (Among m) e n);
  none_lost = λ b n. absurd n;
  apart = subst AreApart (sym e) tt;
}

-- ---- a list of asks

split_list : {X : Type 0} (xs : List X) (i : ℕ) (x : X) → slice_get xs i ≡ Some x → xs ≡ take i xs ++ x ∷ drop (i + 1) xs
split_list [] i x e = absurd (cc e)
split_list (y ∷ xs) zero x e = ap (λ z. z ∷ xs) (cc e)
split_list (y ∷ xs) (suc i) x e = let n : suc i + 1 ≡ suc (i + 1) = omega arith in rw n (ap (λ l. y ∷ l) (split_list xs i x e))

pub list_refused : (n : ℕ) (xs : List Lent) (i : ℕ) (x : Lent) (g : Imports) (e : AggregateError) → slice_get xs i ≡ Some x → AreAsked (none_yet n) (asks_of (take i xs)) g → Merges (asks_of (take i xs)) g → IsRefused g (ask_of x) e → LeadsTo e (LeadApart g (ask_of x)) → IsListRefused n (asks_of xs) e
list_refused n xs i x g e at asked h r f = record {
  before = asks_of (take i xs);
  ask = ask_of x;
  rest = asks_of (drop (i + 1) xs);
  is = ap asks_of (split_list xs i x at) ∙ map-append ask_of (take i xs) (x ∷ drop (i + 1) xs);
  so_far = g;
  asked = asked;
  merged = h;
  refused = r;
  frames = f;
}

pub next_merged : (xs : List Lent) (i : ℕ) (x : Lent) (old new : Imports) → slice_get xs i ≡ Some x → AreSound old → AreSound new → Merges (asks_of (take i xs)) old → IsAsked old (ask_of x) new → Merges (asks_of (take (i + 1) xs)) new
next_merged xs i x old new at s t h is =
    subst (λ l. Merges l new) (sym (map-one_more ask_of xs i x at)) (asked_merges (asks_of (take i xs)) old new (ask_of x) s h is.grows t is)

pub next_asked : (n : ℕ) (xs : List Lent) (i : ℕ) (x : Lent) (old new : Imports) → slice_get xs i ≡ Some x → AreAsked (none_yet n) (asks_of (take i xs)) old → IsAsked old (ask_of x) new → AreAsked (none_yet n) (asks_of (take (i + 1) xs)) new
next_asked n xs i x old new at h is =
    subst (λ l. AreAsked (none_yet n) l new) (sym (map-one_more ask_of xs i x at)) (one_more_asked (asks_of (take i xs)) (ask_of x) old new h is)

pub all_asked : (n : ℕ) (xs : List Lent) (i : ℕ) (g : Imports) → length xs ≤ i → AreAsked (none_yet n) (asks_of (take i xs)) g → AreAsked (none_yet n) (asks_of xs) g
all_asked n xs i g le h = subst (λ l. AreAsked (none_yet n) (asks_of l) g) (take-all xs i le) h

pub all_merged : (xs : List Lent) (i : ℕ) (g : Imports) → length xs ≤ i → Merges (asks_of (take i xs)) g → Merges (asks_of xs) g
all_merged xs i g le h = subst (λ l. Merges (asks_of l) g) (take-all xs i le) h

lent_among : (xs : List Lent) (x : Lent) → Among x xs → Among (ask_of x) (asks_of xs)
lent_among [] x m = absurd m
lent_among (y ∷ xs) x (inl e) = inl (ap ask_of e)
lent_among (y ∷ xs) x (inr m) = inr (lent_among xs x m)

pub lent_stands : (xs : List Lent) (i : ℕ) (x : Lent) → slice_get xs i ≡ Some x → AsksStand (asks_of xs) → Stands (ask_of x).types (ask_of x).kind
lent_stands xs i x at h = h (ask_of x) (lent_among xs x (among-get xs i x at))
