-- What a walk over uses remembers.
use Rattle.std.proofs.Common.{◌≡◌, ◌⊎◌, ℕ, ◌+◌, ◌<◌, ◌≤◌, Bool, true, false, true≢false, not, List, [], ◌∷◌, ◌++◌, Some, None, inl, inr, refl, sym, ap, ◌∙◌, subst, arith, if◌then◌else◌}
use Rattle.std.specs.Bool.{Decides}
use Rattle.std.specs.List.{list_any}
use Rattle.std.proofs.lemmas.Bool.Decides.{Decides-like}
use Rattle.std.proofs.lemmas.Option.{none-some, same_Some}
use Rattle.indexmap.specs.IndexSet.{insert_key}
use Rattle.wac_types_base.specs.declared.ids.InterfaceId.{InterfaceId}
use Rattle.wac_types_base.specs.declared.item.ItemKind.{ItemKind}
use Rattle.wac_types_base.specs.contracts.ids.InterfaceIdPartialEq.TheImpl.{eq-value}
use Rattle.wac_types_base.specs.Entries.{Name}
use Rattle.wac_types_base.specs.Graph.{Among}
use Rattle.wac_types_base.specs.Collection.{size_of}
use Rattle.wac_types_base.specs.Stated.{Stated, identifier_of}
use Rattle.wac_types_base.proofs.Lists.{among_last}
use Rattle.wac_composition.specs.NotWritten.{IsImported}
use Rattle.wac_types_parts.specs.declared.parts.Use.{Use}
use Rattle.wac_writable.specs.declared.writable.Test.{Test}
use Rattle.wac_writable.specs.declared.writable.Giver.{Giver}
use Rattle.wac_writable.specs.declared.writable.GivenBy.{GivenBy}
use Rattle.wac_writable.specs.Unnamed.{KnowsAll}
use Rattle.wac_writable.specs.Tests.{used_of}
use Rattle.wac_writable.specs.Uses.{TypesFail, AddedFails, UseFails}
use Rattle.wac_writable.specs.Givers.{instance_of, givers_by, NeedsFailing, AllFine, KnowsBelow, Goes, TellsBeside}
use Rattle.wac_types_parts.proofs.Ids.{any_interface}
use Rattle.wac_writable.proofs.UseLaws.{tells_no}
use Rattle.wac_types_base.proofs.Lists.{always}

-- ---- sets of interfaces

-- what is in a set after an insertion
pub among_inserted : (id : InterfaceId) (old new : List InterfaceId) → new ≡ insert_key eq-value.it old id → (i : InterfaceId) → Among i new → Among i old ⊎ (i ≡ id)
among_inserted id old new keys i m = by (list_any (eq-value.it id) old) (subst (Among i) keys m)
  where
    by : (b : Bool) → Among i (if b then old else old ++ id ∷ []) → Among i old ⊎ (i ≡ id)
    by true n = inl n
    by false n = among_last i id old n

pub was_there : (id : InterfaceId) (old : List InterfaceId) (is_new : Bool) → is_new ≡ not (list_any (eq-value.it id) old) → is_new ≡ false → Among id old
was_there id old is_new added e = by (list_any (eq-value.it id) old) refl (sym added ∙ e)
  where
    by : (b : Bool) → list_any (eq-value.it id) old ≡ b → not b ≡ false → Among id old
    by true h n = any_interface id old h
    by false h n = absurd (true≢false n)

module _ (t : Test) where
  abbrev at : InterfaceId → Stated
  at i = instance_of t.types.now i

  abbrev beside : GivenBy → List (Name × Stated)
  beside w = givers_by t.types.now w

  -- ---- what goes on

  pub goes_nowhere : (n : ℕ) (g : Giver) → KnowsBelow t n g → Goes t g g
  goes_nowhere n g k = record { given_by = refl; fine = k.fine; seen = λ i m. inl m }

  pub goes_then : (a b d : Giver) → Goes t a b → Goes t b d → Goes t a d
  goes_then a b d p q = record { given_by = q.given_by ∙ p.given_by; fine = q.fine; seen = λ i m. by i (q.seen i m) }
    where
      by : (i : InterfaceId) → Among i b.seen.keys ⊎ (NeedsFailing t b.given_by i → ⊥) → Among i a.seen.keys ⊎ (NeedsFailing t a.given_by i → ⊥)
      by i (inl m) = p.seen i m
      by i (inr h) = inr (λ f. h (subst (λ w. NeedsFailing t w i) (sym p.given_by) f))

  pub knows_after : (n m : ℕ) (a b : Giver) → m ≤ n → KnowsBelow t n a → Goes t a b → KnowsBelow t m b
  knows_after n m a b le k g = record { fine = g.fine; seen = λ i s lt f. by i lt (subst (λ w. NeedsFailing t w i) g.given_by f) (g.seen i s) }
    where
      by : (i : InterfaceId) → size_of t.types.now (ItemKind.Instance i) < m → NeedsFailing t a.given_by i → Among i a.seen.keys ⊎ (NeedsFailing t a.given_by i → ⊥) → ⊥
      by i lt f (inl s) = k.seen i s (omega (arith, le, lt)) f
      by i lt f (inr h) = h f

  -- what a later call answers, from the start on
  pub tells_after : (a b d : Giver) (n m : ℕ) (P : List (Name × Stated) → Type 0) (r : Bool) → KnowsAll t.types.now t.unnamed.now → KnowsBelow t n a → m ≤ n → Goes t a b → TellsBeside t b d m P r
      → Decides r (P (beside a.given_by)) × (r ≡ false → Goes t a d)
  tells_after a b d n m P r ka k le g f =
      let x = f ka (knows_after n m a b le k g) in
      (subst (λ w. Decides r (P (beside w))) g.given_by x.0, λ e. goes_then a b d g (x.1 e))

  pub beside_yes : (a d : Giver) (n : ℕ) (P : List (Name × Stated) → Type 0) → (KnowsAll t.types.now t.unnamed.now → KnowsBelow t n a → P (beside a.given_by)) → TellsBeside t a d n P true
  beside_yes a d n P f ka k = (always (f ka k), λ e. absurd (true≢false e))

  pub beside_no : (a d : Giver) (n : ℕ) (P : List (Name × Stated) → Type 0) → (KnowsAll t.types.now t.unnamed.now → KnowsBelow t n a → Goes t a d × (P (beside a.given_by) → ⊥)) → TellsBeside t a d n P false
  beside_no a d n P f ka k = let x = f ka k in (tells_no x.1, λ e. x.0)

  -- so far none fails, and what is remembered stays true
  abbrev pub Passed : Giver → Giver → ℕ → (List (Name × Stated) → Type 0) → Type 0
  Passed old now n P = KnowsAll t.types.now t.unnamed.now → KnowsBelow t n old → Goes t old now × P (beside old.given_by)

  -- ---- types of interfaces

  module _ (id : InterfaceId) (g : Giver) where
    pub found_fine : t.is_outer ≡ false → KnowsBelow t 0 g → list_any (eq-value.it id) g.fine.keys ≡ true → Decides false (AddedFails t.is_outer (at id))
    found_fine e k h = tells_no by
      where
        by : AddedFails t.is_outer (at id) → ⊥
        by (inl o) = true≢false (sym o ∙ e)
        by (inr f) = k.fine.each id (any_interface id g.fine.keys h) f

    pub types_added : t.is_outer ≡ false → (TypesFail t.is_outer (at id) → ⊥) → AddedFails t.is_outer (at id) → ⊥
    types_added e n (inl o) = true≢false (sym o ∙ e)
    types_added e n (inr f) = n f

    pub goes_fine : (d : Giver) → KnowsBelow t 0 g → (TypesFail t.is_outer (at id) → ⊥) → d.given_by ≡ g.given_by → d.seen.keys ≡ g.seen.keys → d.fine.keys ≡ insert_key eq-value.it g.fine.keys id → Goes t g d
    goes_fine d k n w s e = record {
      given_by = w;
      fine = record { each = λ i m f. by i f (among_inserted id g.fine.keys d.fine.keys e i m) };
      seen = λ i m. inl (subst (Among i) s m);
    }
      where
        by : (i : InterfaceId) → TypesFail t.is_outer (at i) → Among i g.fine.keys ⊎ (i ≡ id) → ⊥
        by i f (inl m) = k.fine.each i m f
        by i f (inr q) = n (subst (λ i. TypesFail t.is_outer (at i)) q f)

  -- ---- a use

  module _ (u : Use) (is : List (Name × Stated)) where
    pub unnamed_passes : identifier_of (at u.interface) ≡ None → UseFails t.is_outer is (used_of t.types.now u) → ⊥
    unnamed_passes e f = none-some _ (sym e ∙ f.named)

    pub imported_passes : (n : Name) → identifier_of (at u.interface) ≡ Some n → IsImported is n (used_of t.types.now u) → UseFails t.is_outer is (used_of t.types.now u) → ⊥
    imported_passes n e h f = let s : n ≡ f.name = same_Some _ _ (sym e ∙ f.named) in f.missing (subst (λ n. IsImported is n (used_of t.types.now u)) s h)

    pub by_types : (n : Name) (b : Bool) → identifier_of (at u.interface) ≡ Some n → (IsImported is n (used_of t.types.now u) → ⊥) → Decides b (AddedFails t.is_outer (at u.interface)) → Decides b (UseFails t.is_outer is (used_of t.types.now u))
    by_types n b e h d = Decides-like b (λ f. record { name = n; named = e; missing = h; added = f }) (λ f. f.added) d

  -- ---- an interface that was seen, and one that is new

  module _ (u : Use) (a b : Giver) (k : KnowsBelow t (size_of t.types.now (ItemKind.Instance u.interface) + 1) a) (g : Goes t a b) where
    pub seen_before : Among u.interface b.seen.keys → NeedsFailing t a.given_by u.interface → ⊥
    seen_before s f = by (g.seen u.interface s)
      where
        by : Among u.interface a.seen.keys ⊎ (NeedsFailing t a.given_by u.interface → ⊥) → ⊥
        by (inl m) = k.seen u.interface m (omega arith) f
        by (inr h) = h f

    module _ (d : Giver) (w : d.given_by ≡ b.given_by) (fine : d.fine.keys ≡ b.fine.keys) (keys : d.seen.keys ≡ insert_key eq-value.it b.seen.keys u.interface) where
      all_fine : AllFine t d.fine.keys
      all_fine = subst (AllFine t) (sym fine) g.fine

      -- those below it are others
      pub knows_new : KnowsBelow t (size_of t.types.now (ItemKind.Instance u.interface)) d
      knows_new = record { fine = all_fine; seen = λ i m lt f. by i lt (subst (λ w. NeedsFailing t w i) (w ∙ g.given_by) f) (among_inserted u.interface b.seen.keys d.seen.keys keys i m) }
        where
          old : (i : InterfaceId) → size_of t.types.now (ItemKind.Instance i) < size_of t.types.now (ItemKind.Instance u.interface) → NeedsFailing t a.given_by i → Among i a.seen.keys ⊎ (NeedsFailing t a.given_by i → ⊥) → ⊥
          old i lt f (inl m) = k.seen i m (omega (arith, lt)) f
          old i lt f (inr h) = h f

          by : (i : InterfaceId) → size_of t.types.now (ItemKind.Instance i) < size_of t.types.now (ItemKind.Instance u.interface) → NeedsFailing t a.given_by i → Among i b.seen.keys ⊎ (i ≡ u.interface) → ⊥
          by i lt f (inl m) = old i lt f (g.seen i m)
          by i lt f (inr q) = let s : size_of t.types.now (ItemKind.Instance i) ≡ size_of t.types.now (ItemKind.Instance u.interface) = ap (λ i. size_of t.types.now (ItemKind.Instance i)) q in omega (arith, s, lt)

      -- and it needs none that fails
      pub goes_new : (e : Giver) → Goes t d e → (NeedsFailing t a.given_by u.interface → ⊥) → Goes t a e
      goes_new e h n = record { given_by = h.given_by ∙ w ∙ g.given_by; fine = h.fine; seen = λ i m. by i (h.seen i m) }
        where
          known : (i : InterfaceId) → Among i b.seen.keys ⊎ (i ≡ u.interface) → Among i a.seen.keys ⊎ (NeedsFailing t a.given_by i → ⊥)
          known i (inl m) = g.seen i m
          known i (inr q) = inr (subst (λ i. NeedsFailing t a.given_by i → ⊥) (sym q) n)

          by : (i : InterfaceId) → Among i d.seen.keys ⊎ (NeedsFailing t d.given_by i → ⊥) → Among i a.seen.keys ⊎ (NeedsFailing t a.given_by i → ⊥)
          by i (inl m) = known i (among_inserted u.interface b.seen.keys d.seen.keys keys i m)
          by i (inr x) = inr (λ f. x (subst (λ w. NeedsFailing t w i) (sym (w ∙ g.given_by)) f))

      pub goes_seen : Among u.interface b.seen.keys → Goes t a d
      goes_seen s = record { given_by = w ∙ g.given_by; fine = all_fine; seen = λ i m. by i (among_inserted u.interface b.seen.keys d.seen.keys keys i m) }
        where
          by : (i : InterfaceId) → Among i b.seen.keys ⊎ (i ≡ u.interface) → Among i a.seen.keys ⊎ (NeedsFailing t a.given_by i → ⊥)
          by i (inl m) = g.seen i m
          by i (inr q) = g.seen i (subst (λ i. Among i b.seen.keys) (sym q) s)

  -- ---- at the start

  pub knows_none : (n : ℕ) (g : Giver) → g.seen.keys ≡ [] → g.fine.keys ≡ [] → KnowsBelow t n g
  knows_none n g s f = record { fine = record { each = λ i m x. absurd (subst (Among i) f m) }; seen = λ i m lt x. absurd (subst (Among i) s m) }
