-- Asks of used interfaces that are added one after another.
use Rattle.std.specs.List.{flat_map, cons_option}
use Rattle.std.specs.Option.{option_map}
use Rattle.std.specs.Prelude.{option_to_list}
use Rattle.std.proofs.Common.{◌≡◌, ◌⊎◌, ℕ, ◌+◌, ◌<◌, ◌≤◌, true, false, List, [], ◌∷◌, ◌++◌, length, take, slice_get, Option, Some, None, refl, sym, ap, subst, ◌∙◌, inl, inr, append_assoc, arith}
use Rattle.std.proofs.lemmas.List.{map-append, append-nil}
use Rattle.std.proofs.lemmas.List.Elements.{filter_map-append}
use Rattle.std.proofs.lemmas.Grind.{flat_map-append}
use Rattle.wac_types_base.specs.declared.ids.InterfaceId.{InterfaceId}
use Rattle.wac_types_base.specs.declared.item.ItemKind.{ItemKind}
use Rattle.wac_types_base.specs.Entries.{Name}
use Rattle.wac_types_base.specs.Graph.{Among}
use Rattle.wac_types_base.specs.Record.{Collection}
use Rattle.wac_types_base.specs.Collection.{Stands, size_of}
use Rattle.wac_types_base.specs.Stated.{Stated, stated_of, identifier_of}
use Rattle.wac_types_base.proofs.Looked.{take-one_more}
use Rattle.wac_types_base.proofs.Loops.{take-all}
use Rattle.wac_composition.specs.Asks.{Ask, ToUse, used_by, asked_for}
use Rattle.wac_composition.proofs.Clashing.{among_append}
use Rattle.wac_graph_asks.specs.declared.asks.Asking.{Asking as HeldAsking}
use Rattle.wac_graph_asks.specs.declared.asks.Ask.{Ask as HeldAsk}
use Rattle.wac_graph_asks.specs.declared.asks.Asked.{Asked}
use Rattle.wac_graph_asks.specs.declared.asks.UseAsks.{UseAsks}
use Rattle.wac_graph_asks.specs.AsksIn.{ask_in, asks_in}
use Rattle.wac_graph_asks.specs.Asked.{IsAskedBehind, IsAskedOnce, no_more}
use Rattle.wac_graph_asks.specs.AskedUses.{HasSame, with_used, use_asks, NotesUse, AllAsked, AskedBelow, AllSeenAsked, AddsUses, uses_of_asks, uses_of_copies, AreUses}
use Rattle.wac_graph_asks.proofs.Repeating.{behind_then, behind_none, behind_same, same_more, behind_has}

asked_append : (by : ℕ) (xs ys : List Stated) → asked_for by (xs ++ ys) ≡ asked_for by xs ++ asked_for by ys
asked_append by xs ys = filter_map-append (λ x. option_map (λ n. record { asking = ToUse; by = by; name = n; item = x }) (identifier_of x)) xs ys

-- an interface is asked under its identifier
asked_named : (by : ℕ) (xs : List Stated) (a : Ask ℕ) → Among a (asked_for by xs) → identifier_of a.item ≡ Some a.name
asked_named by [] a m = absurd m
asked_named by (x ∷ xs) a m = go (identifier_of x) refl m (asked_named by xs a)
  where
    go : (o : Option Name) → identifier_of x ≡ o → Among a (cons_option (option_map (λ n. record { asking = ToUse; by = by; name = n; item = x }) o) (asked_for by xs)) → (Among a (asked_for by xs) → identifier_of a.item ≡ Some a.name) → identifier_of a.item ≡ Some a.name
    go None e m rest = rest m
    go (Some n) e (inl s) rest = ap (λ (b : Ask ℕ). identifier_of b.item) s ∙ e ∙ ap (λ (b : Ask ℕ). Some b.name) (sym s)
    go (Some n) e (inr m) rest = rest m

-- the same is asked by another
asked_alike : (by other : ℕ) (xs : List Stated) (a : Ask ℕ) → Among a (asked_for by xs) → HasSame (asked_for other xs) a
asked_alike by other [] a m = absurd m
asked_alike by other (x ∷ xs) a m = go (identifier_of x) m (asked_alike by other xs a)
  where
    go : (o : Option Name) → Among a (cons_option (option_map (λ n. record { asking = ToUse; by = by; name = n; item = x }) o) (asked_for by xs)) → (Among a (asked_for by xs) → HasSame (asked_for other xs) a)
        → HasSame (cons_option (option_map (λ n. record { asking = ToUse; by = other; name = n; item = x }) o) (asked_for other xs)) a
    go None m later = later m
    go (Some n) (inl s) later = record { other = record { asking = ToUse; by = other; name = n; item = x }; among = inl refl; name = ap (λ (b : Ask ℕ). b.name) (sym s); item = ap (λ (b : Ask ℕ). b.item) (sym s) }
    go (Some n) (inr r) later = let h = later r in record { other = h.other; among = inr h.among; name = h.name; item = h.item }

module _ (c : Collection) where
  more_asked : (asks more : List HeldAsk) (id : InterfaceId) → AllAsked c asks id → AllAsked c (asks ++ more) id
  more_asked asks more id h = record { each = λ by a m. subst (λ l. HasSame l a) (sym (map-append (ask_in c) asks more)) (same_more (asks_in c more) (h.each by a m)) }

  asked_with : (asks more : List HeldAsk) (id : InterfaceId) → asks ≡ more → AllAsked c asks id → AllAsked c more id
  asked_with asks more id is h = subst (λ l. AllAsked c l id) is h

  -- ---- one after another

  pub adds_none : (old new : UseAsks) → new.asks.items ≡ old.asks.items → new.seen.keys ≡ old.seen.keys → AddsUses c old new []
  adds_none old new same seen = record {
    added = [];
    are = same ∙ sym (append-nil old.asks.items);
    once = no_more;
    stand = λ a m. absurd m;
    seen = λ id m. inl (subst (λ l. Among id l) seen m);
  }

  pub uses_then : (old mid new : UseAsks) {xs ys : List (Ask ℕ)} → AddsUses c old mid xs → AddsUses c mid new ys → AddsUses c old new (xs ++ ys)
  uses_then old mid new {xs} {ys} p q = record {
    added = p.added ++ q.added;
    are = q.are ∙ ap (λ l. l ++ q.added) p.are ∙ append_assoc old.asks.items p.added q.added;
    once = subst (λ l. IsAskedBehind (asks_in c old.asks.items) (xs ++ ys) l) (sym (map-append (ask_in c) p.added q.added))
        (behind_then p.once (subst (λ l. IsAskedBehind l ys (asks_in c q.added)) (ap (asks_in c) p.are ∙ map-append (ask_in c) old.asks.items p.added) q.once));
    stand = λ a m. elim (among_append p.added q.added a m) [ inl b ↦ p.stand a b | inr b ↦ q.stand a b ];
    seen = λ id m. go id (q.seen id m);
  }
    where
      earlier : (id : InterfaceId) → Among id old.seen.keys ⊎ AllAsked c mid.asks.items id → Among id old.seen.keys ⊎ AllAsked c new.asks.items id
      earlier id (inl m) = inl m
      earlier id (inr h) = inr (asked_with (mid.asks.items ++ q.added) new.asks.items id (sym q.are) (more_asked mid.asks.items q.added id h))

      go : (id : InterfaceId) → Among id mid.seen.keys ⊎ AllAsked c new.asks.items id → Among id old.seen.keys ⊎ AllAsked c new.asks.items id
      go id (inl m) = earlier id (p.seen id m)
      go id (inr h) = inr h

  pub uses_as : (old new : UseAsks) {xs ys : List (Ask ℕ)} → AddsUses c old new xs → xs ≡ ys → AddsUses c old new ys
  uses_as old new h is = subst (λ l. AddsUses c old new l) is h

  -- what was seen stays asked
  kept_asked : (old new : UseAsks) {xs : List (Ask ℕ)} → AddsUses c old new xs → (id : InterfaceId) → AllAsked c old.asks.items id → AllAsked c new.asks.items id
  kept_asked old new h id a = asked_with (old.asks.items ++ h.added) new.asks.items id (sym h.are) (more_asked old.asks.items h.added id a)

  pub below_after : (old new : UseAsks) {xs : List (Ask ℕ)} (size : ℕ) → AskedBelow c old size → AddsUses c old new xs → AskedBelow c new size
  below_after old new size below h = record { each = λ id m less. go id less (h.seen id m) }
    where
      go : (id : InterfaceId) → size_of c (ItemKind.Instance id) < size → Among id old.seen.keys ⊎ AllAsked c new.asks.items id → AllAsked c new.asks.items id
      go id less (inl n) = kept_asked old new h id (below.each id n less)
      go id less (inr a) = a

  pub below_less : (all : UseAsks) (size more : ℕ) → size ≤ more → AskedBelow c all more → AskedBelow c all size
  below_less all size more fits below = record { each = λ id m less. below.each id m (omega (arith, fits, less)) }

  pub below_all : (all : UseAsks) (size : ℕ) → AllSeenAsked c all → AskedBelow c all size
  below_all all size h = record { each = λ id m less. h.each id m }

  pub all_after : (old new : UseAsks) {xs : List (Ask ℕ)} → AllSeenAsked c old → AddsUses c old new xs → AllSeenAsked c new
  all_after old new seen h = record { each = λ id m. go id (h.seen id m) }
    where
      go : (id : InterfaceId) → Among id old.seen.keys ⊎ AllAsked c new.asks.items id → AllAsked c new.asks.items id
      go id (inl n) = kept_asked old new h id (seen.each id n)
      go id (inr a) = a

  -- ---- an interface

  -- it was seen before
  pub seen_before : (old new : UseAsks) (by : ℕ) (id : InterfaceId) → NotesUse c old new by id false → AskedBelow c old (size_of c (ItemKind.Instance id) + 1) → AddsUses c old new (asked_for by (with_used c id))
  seen_before old new by id h below = record {
    added = [];
    are = h.0 ∙ sym (append-nil old.asks.items);
    once = behind_none (asks_in c old.asks.items) (asked_for by (with_used c id)) (asked_named by (with_used c id)) (λ a m. (below.each id h.2 (omega arith)).each by a m);
    stand = λ a m. absurd m;
    seen = λ z m. inl (subst (λ l. Among z l) h.1 m);
  }

  use_asked : (by : ℕ) (id : InterfaceId) → asks_in c (use_asks c by id) ++ asked_for by (used_by (stated_of c (ItemKind.Instance id))) ≡ asked_for by (with_used c id)
  use_asked by id = go (identifier_of (stated_of c (ItemKind.Instance id)))
    where
      go : (o : Option Name) → asks_in c (option_to_list (option_map (λ n. record { asking = HeldAsking.ToUse; by = by; name = n; item = ItemKind.Instance id }) o)) ++ asked_for by (used_by (stated_of c (ItemKind.Instance id)))
          ≡ cons_option (option_map (λ n. record { asking = ToUse; by = by; name = n; item = stated_of c (ItemKind.Instance id) }) o) (asked_for by (used_by (stated_of c (ItemKind.Instance id))))
      go None = refl
      go (Some n) = refl

  use_stands : (by : ℕ) (id : InterfaceId) → Stands c (ItemKind.Instance id) → (a : HeldAsk) → Among a (use_asks c by id) → Stands c a.item
  use_stands by id stands a m = go (identifier_of (stated_of c (ItemKind.Instance id))) m
    where
      go : (o : Option Name) → Among a (option_to_list (option_map (λ n. record { asking = HeldAsking.ToUse; by = by; name = n; item = ItemKind.Instance id }) o)) → Stands c a.item
      go None m = absurd m
      go (Some n) (inl s) = subst (Stands c) (ap (λ (b : HeldAsk). b.item) (sym s)) stands
      go (Some n) (inr r) = absurd r

  -- it is new: below it all stays asked
  pub below_new : (old mid : UseAsks) (by : ℕ) (id : InterfaceId) → NotesUse c old mid by id true → AskedBelow c old (size_of c (ItemKind.Instance id) + 1) → AskedBelow c mid (size_of c (ItemKind.Instance id))
  below_new old mid by id h below = record { each = λ z m less. go z less (among_append old.seen.keys (id ∷ []) z (subst (λ l. Among z l) h.1 m)) }
    where
      own : (z : InterfaceId) → size_of c (ItemKind.Instance z) < size_of c (ItemKind.Instance id) → z ≡ id → AllAsked c mid.asks.items z
      own z less s = let e : size_of c (ItemKind.Instance z) ≡ size_of c (ItemKind.Instance id) = ap (λ i. size_of c (ItemKind.Instance i)) s in absurd (omega (arith, e, less))

      go : (z : InterfaceId) → size_of c (ItemKind.Instance z) < size_of c (ItemKind.Instance id) → Among z old.seen.keys ⊎ Among z (id ∷ []) → AllAsked c mid.asks.items z
      go z less (inl n) = asked_with (old.asks.items ++ use_asks c by id) mid.asks.items z (sym h.0) (more_asked old.asks.items (use_asks c by id) z (below.each z n (omega (arith, less))))
      go z less (inr (inl s)) = own z less s
      go z less (inr (inr r)) = absurd r

  -- it is asked before those that it uses
  pub seen_new : (old mid new : UseAsks) (by : ℕ) (id : InterfaceId) → Stands c (ItemKind.Instance id) → NotesUse c old mid by id true → AddsUses c mid new (asked_for by (used_by (stated_of c (ItemKind.Instance id)))) → AddsUses c old new (asked_for by (with_used c id))
  seen_new old mid new by id stands h rest = record { added = added; are = are; once = once; stand = stand; seen = λ z m. go z (rest.seen z m) }
    where
      added : List HeldAsk
      added = use_asks c by id ++ rest.added

      are : new.asks.items ≡ old.asks.items ++ added
      are = rest.are ∙ ap (λ l. l ++ rest.added) h.0 ∙ append_assoc old.asks.items (use_asks c by id) rest.added

      once : IsAskedBehind (asks_in c old.asks.items) (asked_for by (with_used c id)) (asks_in c added)
      once =
          subst (λ l. IsAskedBehind (asks_in c old.asks.items) l (asks_in c added)) (use_asked by id)
          (subst (λ l. IsAskedBehind (asks_in c old.asks.items) (asks_in c (use_asks c by id) ++ asked_for by (used_by (stated_of c (ItemKind.Instance id)))) l) (sym (map-append (ask_in c) (use_asks c by id) rest.added))
          (behind_then (behind_same (asks_in c old.asks.items) (asks_in c (use_asks c by id)))
          (subst (λ l. IsAskedBehind l (asked_for by (used_by (stated_of c (ItemKind.Instance id)))) (asks_in c rest.added)) (ap (asks_in c) h.0 ∙ map-append (ask_in c) old.asks.items (use_asks c by id)) rest.once)))

      stand : (a : HeldAsk) → Among a added → Stands c a.item
      stand a m = elim (among_append (use_asks c by id) rest.added a m) [ inl b ↦ use_stands by id stands a b | inr b ↦ rest.stand a b ]

      asked_again : (other : ℕ) (a : Ask ℕ) → Among a (asked_for other (with_used c id)) → HasSame (asks_in c new.asks.items) a
      asked_again other a m =
          let s = asked_alike other by (with_used c id) a m in
          let t = behind_has once s.other s.among in
          record {
            other = t.other;
            among = subst (λ l. Among t.other l) (sym (ap (asks_in c) are ∙ map-append (ask_in c) old.asks.items added)) t.among;
            name = t.name ∙ s.name;
            item = t.item ∙ s.item;
          }

      own : AllAsked c new.asks.items id
      own = record { each = asked_again }

      first : (z : InterfaceId) → Among z old.seen.keys ⊎ Among z (id ∷ []) → Among z old.seen.keys ⊎ AllAsked c new.asks.items z
      first z (inl n) = inl n
      first z (inr (inl s)) = inr (subst (λ i. AllAsked c new.asks.items i) (sym s) own)
      first z (inr (inr r)) = absurd r

      go : (z : InterfaceId) → Among z mid.seen.keys ⊎ AllAsked c new.asks.items z → Among z old.seen.keys ⊎ AllAsked c new.asks.items z
      go z (inl m) = first z (among_append old.seen.keys (id ∷ []) z (subst (λ l. Among z l) h.1 m))
      go z (inr a) = inr a

  -- ---- one more of a list

  pub adds_all : {X : Type 0} (f : X → List Stated) (by : ℕ) (xs : List X) (i : ℕ) (ys : List Stated) (old new : UseAsks) → length xs ≤ i → flat_map f xs ≡ ys → AddsUses c old new (asked_for by (flat_map f (take i xs))) → AddsUses c old new (asked_for by ys)
  adds_all f by xs i ys old new all is h = uses_as old new h (ap (λ l. asked_for by (flat_map f l)) (take-all xs i all) ∙ ap (asked_for by) is)

  pub one_more : {X : Type 0} (f : X → List Stated) (by : ℕ) (xs : List X) (i : ℕ) (x : X) (old mid new : UseAsks) → slice_get xs i ≡ Some x → AddsUses c old mid (asked_for by (flat_map f (take i xs))) → AddsUses c mid new (asked_for by (f x))
      → AddsUses c old new (asked_for by (flat_map f (take (i + 1) xs)))
  one_more f by xs i x old mid new at h step = uses_as old new (uses_then old mid new h step) (sym (asked_append by (flat_map f (take i xs)) (f x)) ∙ ap (asked_for by) joins)
    where
      joins : flat_map f (take i xs) ++ f x ≡ flat_map f (take (i + 1) xs)
      joins = ap (λ l. flat_map f (take i xs) ++ l) (sym (append-nil (f x))) ∙ sym (flat_map-append f (take i xs) (x ∷ [])) ∙ ap (flat_map f) (sym (take-one_more xs i x at))

  pub both_used : (by : ℕ) (xs ys zs : List Stated) (old mid new : UseAsks) → zs ≡ xs ++ ys → AddsUses c old mid (asked_for by xs) → AddsUses c mid new (asked_for by ys) → AddsUses c old new (asked_for by zs)
  both_used by xs ys zs old mid new is p q = uses_as old new (uses_then old mid new p q) (sym (asked_append by xs ys) ∙ ap (asked_for by) (sym is))

  -- ---- asks for one after another

  pub more_uses : {X : Type 0} (f : X → List (Ask ℕ)) (xs : List X) (i : ℕ) (x : X) (old mid new : UseAsks) → slice_get xs i ≡ Some x → AddsUses c old mid (flat_map f (take i xs)) → AddsUses c mid new (f x) → AddsUses c old new (flat_map f (take (i + 1) xs))
  more_uses f xs i x old mid new at h step = uses_as old new (uses_then old mid new h step) joins
    where
      joins : flat_map f (take i xs) ++ f x ≡ flat_map f (take (i + 1) xs)
      joins = ap (λ l. flat_map f (take i xs) ++ l) (sym (append-nil (f x))) ∙ sym (flat_map-append f (take i xs) (x ∷ [])) ∙ ap (flat_map f) (sym (take-one_more xs i x at))

  pub all_uses : {X : Type 0} (f : X → List (Ask ℕ)) (xs : List X) (i : ℕ) (old new : UseAsks) → length xs ≤ i → AddsUses c old new (flat_map f (take i xs)) → AddsUses c old new (flat_map f xs)
  all_uses f xs i old new all h = uses_as old new h (ap (flat_map f) (take-all xs i all))

  -- what an ask asks for what it uses
  abbrev pub ask_uses_of : HeldAsk → List (Ask ℕ)
  ask_uses_of a = asked_for a.by (used_by (stated_of c a.item))

  pub asks_use : (asks : List HeldAsk) → flat_map ask_uses_of asks ≡ uses_of_asks (asks_in c asks)
  asks_use [] = refl
  asks_use (a ∷ asks) = ap (λ l. ask_uses_of a ++ l) (asks_use asks)

  pub none_seen : (all : UseAsks) → all.seen.keys ≡ [] → AllSeenAsked c all
  none_seen all is = record { each = λ id m. absurd (subst (λ l. Among id l) is m) }

pub are_uses : (a : Asked) (old mid new : UseAsks) → old.asks.items ≡ [] → AddsUses a.types old mid (uses_of_asks (asks_in a.types a.asks.items)) → AddsUses a.types mid new (uses_of_copies a.types a.definitions.items) → AreUses a new.asks.items
are_uses a old mid new none p q = record { stand = λ x m. h.stand x (subst (λ l. Among x l) is m); once = subst (λ l. IsAskedOnce all (asks_in a.types l)) (sym is) (subst (λ l. IsAskedBehind (asks_in a.types l) all (asks_in a.types h.added)) none h.once) }
  where
    all : List (Ask ℕ)
    all = uses_of_asks (asks_in a.types a.asks.items) ++ uses_of_copies a.types a.definitions.items

    h : AddsUses a.types old new all
    h = uses_then a.types old mid new p q

    is : new.asks.items ≡ h.added
    is = h.are ∙ ap (λ l. l ++ h.added) none
