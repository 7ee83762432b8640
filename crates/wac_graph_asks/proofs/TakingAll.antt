-- What all asks keep by their labels, as they are taken one after another.
use Rattle.std.specs.Map.{keys_of, lookup}
use Rattle.std.proofs.Common.{◌≡◌, ◌==◌, ◌<◌, ℕ, zero, suc, ◌+◌, Bool, true, false, true≢false, ◌≤◌, List, [], ◌∷◌, ◌++◌, length, take, drop, is_some, slice_get, Option, Some, None, refl, sym, ap, subst, ◌∙◌, inl, arith, if◌then◌else◌}
use Rattle.std.proofs.lemmas.Option.{none-some, same_Some, get_or_from_slice_get}
use Rattle.std.proofs.lemmas.List.{map-append, length-map, length-take-le}
use Rattle.std.proofs.lemmas.List.Sums.{fold-append}
use Rattle.indexmap.specs.IndexMap.{insert_entry}
use Rattle.wac_types_base.specs.Record.{Collection}
use Rattle.wac_types_base.specs.Graph.{Among}
use Rattle.wac_types_base.specs.Collection.{Stands, IsAcyclic, Grows}
use Rattle.wac_types_base.specs.Stated.{stated_of}
use Rattle.wac_types_base.proofs.Adding.{Grows-refl, Grows-trans}
use Rattle.wac_types_base.proofs.Looked.{among-get, take-one_more}
use Rattle.wac_types_base.proofs.Loops.{map-get, take-all}
use Rattle.wac_types_base.proofs.Replacing.{same_number}
use Rattle.wac_types_base.proofs.Lists.{there_is}
use Rattle.wac_types_base.proofs.Stating.{stated_kept}
use Rattle.wac_graph_core.proofs.Found.{eq_same, eq_false}
use Rattle.wac_types_merge.specs.declared.error.AggregateError.{AggregateError}
use Rattle.wac_composition.specs.Asks.{Ask}
use Rattle.wac_composition.specs.Merging.{kept as kept_of}
use Rattle.wac_composition.specs.Again.{IsWell}
use Rattle.wac_composition.specs.OuterImports.{asked_in}
use Rattle.wac_composition.specs.Conflicts.{Cause, merge_cause}
use Rattle.wac_merging.specs.Kept.{Keeps}
use Rattle.wac_merging.specs.Unmerged.{TellsUnmerged}
use Rattle.wac_merging.specs.Labelled.{labelled, each_label, with_label, AreKept, none_asked, one_more_kept}
use Rattle.wac_merging.proofs.Taking.{taken_stays}
use Rattle.wac_merging.proofs.Labels.{one_more_labelled}
use Rattle.wac_merging.proofs.Well.{stated_are_well}
use Rattle.wac_types_parts.proofs.Lists.{take_zero}
use Rattle.wac_graph_asks.specs.declared.asks.Ask.{Ask as HeldAsk}
use Rattle.wac_graph_asks.specs.declared.asks.Asking.{Asking as HeldAsking}
use Rattle.wac_graph_asks.specs.declared.taken.Taken.{Taken}
use Rattle.wac_graph_asks.specs.AsksIn.{asking_of, ask_in, asks_in}
use Rattle.wac_graph_asks.specs.Joining.{label_at}
use Rattle.wac_graph_asks.specs.Takes.{pair_in, TakesFirst, TakesMore, TakesOne, Takes, IsTakenOf, AreTaken, AreSound, TakesAll, conflict_by, conflict_of, RefusesOne, RefusesAt, RefusesAsk, RefusesAll}
use Rattle.wac_graph_asks.proofs.TakingMore.{own_entry, other_entry, keys_with}

-- a list around one of its places
split_there : {X : Type 0} (xs : List X) (i : ℕ) (x : X) → slice_get xs i ≡ Some x → xs ≡ take i xs ++ x ∷ drop (suc i) xs
split_there [] i x e = absurd (none-some x e)
split_there (y ∷ xs) zero x e = ap (λ z. z ∷ xs) (same_Some y x e)
split_there (y ∷ xs) (suc i) x e = ap (λ zs. y ∷ zs) (split_there xs i x e)

module _ (c : Collection) (acyclic : IsAcyclic c) (held : List HeldAsk) (sound : AreSound c held) where
  held_stands : (at : ℕ) (x : HeldAsk) → slice_get held at ≡ Some x → Stands c x.item
  held_stands at x there = sound.stand x (among-get held at x there)

  ask_kept : (d e : Collection) → Grows c d → Grows d e → (at : ℕ) (x : HeldAsk) → slice_get held at ≡ Some x → ask_in e x ≡ ask_in d x
  ask_kept d e g h at x there = ap (λ s. record { asking = asking_of x.asking; by = x.by; name = x.name; item = s }) (stated_kept d e h x.item (g.stand x.item (held_stands at x there)))

  stays : (d e : Collection) → Grows c d → Grows d e → (asks : List (Ask ℕ)) (one : Taken) → IsTakenOf d held asks one → IsTakenOf e held asks one
  stays d e g h asks one t = record {
    first = t.first;
    there = t.there;
    others = t.others;
    begins = t.begins ∙ ap (λ a. a ∷ t.others) (sym (ask_kept d e g h one.first t.first t.there));
    keeps = taken_stays d e (asked_in asks) one.kept.several one.kept.item one.kept.family h t.keeps;
  }

  first_among : (d : Collection) (asks : List (Ask ℕ)) (one : Taken) (t : IsTakenOf d held asks one) → Among (pair_in d t.first) (asked_in asks)
  first_among d asks one t = subst (λ (xs : List (Ask ℕ)). Among (pair_in d t.first) (asked_in xs)) (sym t.begins) (inl refl)

  well_in : (d : Collection) → Grows c d → (at : ℕ) (x : HeldAsk) → slice_get held at ≡ Some x → IsWell (stated_of d x.item)
  well_in d g at x there = subst IsWell (sym (stated_kept c d g x.item (held_stands at x there))) (stated_are_well c x.item acyclic sound.differ (held_stands at x there))

  -- the asks of the ask's label, and it behind them
  asked_with : (d : Collection) → Grows c d → (at : ℕ) (x : HeldAsk) → slice_get held at ≡ Some x → (asks : List (Ask ℕ)) → asked_in (asks ++ ask_in c x ∷ []) ≡ asked_in asks ++ pair_in d x ∷ []
  asked_with d g at x there asks =
      map-append (λ (a : Ask ℕ). (a.name, a.item)) asks (ask_in c x ∷ []) ∙ ap (λ s. asked_in asks ++ (x.name, s) ∷ []) (sym (stated_kept c d g x.item (held_stands at x there)))

  own_labelled : (xs : List (Ask ℕ)) (ls : List ℕ) → length ls ≡ length xs → (l : ℕ) (a : Ask ℕ) → labelled l (xs ++ a ∷ []) (ls ++ l ∷ []) ≡ labelled l xs ls ++ a ∷ []
  own_labelled xs ls many l a = one_more_labelled xs ls a l l many ∙ ap (λ b. if b then labelled l xs ls ++ a ∷ [] else labelled l xs ls) (eq_same l)

  -- one ask more
  module _ (d e : Collection) (g : Grows c d) (h : Grows d e) (xs : List (Ask ℕ)) (ls : List ℕ) (many : length ls ≡ length xs) (at l : ℕ) (x : HeldAsk) (there : slice_get held at ≡ Some x) (old new : List (ℕ × Taken)) (t : AreTaken d held xs ls old)
      (after : Taken) (entries : new ≡ insert_entry ◌==◌ old l after) where
    abbrev before_at : List (Ask ℕ)
    before_at = labelled l xs ls

    still : ask_in e x ≡ ask_in c x
    still = ask_kept c e (Grows-refl c acyclic) (Grows-trans c d e g h) at x there

    more_first : lookup (λ k. l == k) old ≡ None → TakesFirst at x after → IsTakenOf e held (before_at ++ ask_in c x ∷ []) after
    more_first none takes =
        subst (λ (ys : List (Ask ℕ)). IsTakenOf e held (ys ++ ask_in c x ∷ []) after) (sym (t.no_more l none)) (record {
          first = x;
          there = ap (slice_get held) takes.0 ∙ there;
          others = [];
          begins = ap (λ a. a ∷ []) (sym still);
          keeps = subst (λ (a : Ask ℕ). Keeps e (asked_in (a ∷ [])) after.kept) still (takes.1 e x.name (h.stand x.item (g.stand x.item (held_stands at x there))) (well_in e (Grows-trans c d e g h) at x there));
        })

    more_behind : (before : Taken) → lookup (λ k. l == k) old ≡ Some before → TakesMore d held before x e after → IsTakenOf e held (before_at ++ ask_in c x ∷ []) after
    more_behind before some takes =
        let was = t.each l before some in
        record {
          first = was.first;
          there = ap (slice_get held) takes.0 ∙ was.there;
          others = was.others ++ ask_in c x ∷ [];
          begins = ap (λ ys. ys ++ ask_in c x ∷ []) was.begins ∙ ap (λ a. a ∷ (was.others ++ ask_in c x ∷ [])) (sym (ask_kept d e g h before.first was.first was.there));
          keeps = subst (λ ps. Keeps e ps after.kept) (sym (asked_with d g at x there before_at)) (takes.1 was.first was.there (asked_in before_at) (first_among d before_at before was) (well_in d g at x there) was.keeps);
        }

    more_by : (o : Option Taken) → lookup (λ k. l == k) old ≡ o → TakesOne d held o at x e after → IsTakenOf e held (before_at ++ ask_in c x ∷ []) after
    more_by None is takes = more_first is takes
    more_by (Some before) is takes = more_behind before is takes

    other_labelled : (j : ℕ) → (j == l) ≡ false → labelled j (xs ++ ask_in c x ∷ []) (ls ++ l ∷ []) ≡ labelled j xs ls
    other_labelled j apart =
        one_more_labelled xs ls (ask_in c x) j l many
        ∙ ap (λ b. if b then labelled j xs ls ++ ask_in c x ∷ [] else labelled j xs ls) (eq_false l j (λ s. true≢false (sym (ap (λ m. m == l) (sym s) ∙ eq_same l) ∙ apart)))

    own_now : lookup (λ k. l == k) new ≡ Some after
    own_now = ap (lookup (λ k. l == k)) entries ∙ own_entry l after old

    other_now : (j : ℕ) → (j == l) ≡ false → lookup (λ k. j == k) new ≡ lookup (λ k. j == k) old
    other_now j apart = ap (lookup (λ k. j == k)) entries ∙ other_entry l after j apart old

    abbrev IsMore : ℕ → Taken → Type 0
    IsMore j one = IsTakenOf e held (labelled j (xs ++ ask_in c x ∷ []) (ls ++ l ∷ [])) one

    module _ (takes : TakesOne d held (lookup (λ k. l == k) old) at x e after) where
      own_more : IsMore l after
      own_more = subst (λ asks. IsTakenOf e held asks after) (sym (own_labelled xs ls many l (ask_in c x))) (more_by (lookup (λ k. l == k) old) refl takes)

      each_more : (j : ℕ) (one : Taken) → lookup (λ k. j == k) new ≡ Some one → (b : Bool) → (j == l) ≡ b → IsMore j one
      each_more j one is true q =
          let same = same_number j l q in
          subst (λ i. IsMore i one) (sym same) (subst (IsMore l) (same_Some after one (sym own_now ∙ ap (λ i. lookup (λ k. i == k) new) (sym same) ∙ is)) own_more)
      each_more j one is false q = subst (λ (ys : List (Ask ℕ)). IsTakenOf e held ys one) (sym (other_labelled j q)) (stays d e g h (labelled j xs ls) one (t.each j one (sym (other_now j q) ∙ is)))

      none_more : (j : ℕ) → lookup (λ k. j == k) new ≡ None → (b : Bool) → (j == l) ≡ b → labelled j (xs ++ ask_in c x ∷ []) (ls ++ l ∷ []) ≡ []
      none_more j is true q = absurd (none-some after (sym is ∙ ap (λ i. lookup (λ k. i == k) new) (same_number j l q) ∙ own_now))
      none_more j is false q = other_labelled j q ∙ t.no_more j (sym (other_now j q) ∙ is)

      one_more : AreTaken e held (xs ++ ask_in c x ∷ []) (ls ++ l ∷ []) new
      one_more = record {
        keys = ap keys_of entries ∙ keys_with l after old ∙ ap (λ ks. with_label ks l) t.keys ∙ sym (fold-append with_label [] ls (l ∷ []));
        each = λ j one is. each_more j one is (j == l) refl;
        in_turn = one_more_kept xs ls (ask_in c x) l t.in_turn (ap is_some own_more.keeps.kept);
        no_more = λ j is. none_more j is (j == l) refl;
      }

-- ---- the loop

abbrev pub SoFar : Collection → List HeldAsk → List ℕ → ℕ → Collection → List (ℕ × Taken) → Type 0
SoFar c held labels m d taken = Grows c d × (AreSound c held → length labels ≡ length held → AreTaken d held (take m (asks_in c held)) (take m labels) taken)

none_taken : (d : Collection) (held : List HeldAsk) (xs : List (Ask ℕ)) (ls : List ℕ) → xs ≡ [] → ls ≡ [] → (taken : List (ℕ × Taken)) → taken ≡ [] → AreTaken d held xs ls taken
none_taken d held xs ls nx nl taken none = record {
  keys = ap keys_of none ∙ ap each_label (sym nl);
  each = λ l one is. absurd (none-some one (sym (ap (lookup (λ k. l == k)) none) ∙ is));
  in_turn = subst (λ ys. AreKept ys ls) (sym nx) (subst (AreKept []) (sym nl) none_asked);
  no_more = λ l is. ap (λ (ys : List (Ask ℕ)). labelled l ys ls) nx;
}

pub so_far_first : (c : Collection) → IsAcyclic c → (held : List HeldAsk) (labels : List ℕ) (taken : List (ℕ × Taken)) → taken ≡ [] → SoFar c held labels 0 c taken
so_far_first c acyclic held labels taken none = (Grows-refl c acyclic, λ sound many. none_taken c held (take 0 (asks_in c held)) (take 0 labels) (take_zero (asks_in c held)) (take_zero labels) taken none)

pub so_far_next : (c : Collection) → IsAcyclic c → (held : List HeldAsk) (labels : List ℕ) (m l : ℕ) (d e : Collection) (old new : List (ℕ × Taken)) → m < length held → l ≡ label_at labels m → SoFar c held labels m d old → Takes d held m l old e new → Grows d e
    → SoFar c held labels (m + 1) e new
so_far_next c acyclic held labels m l d e old new lt is far takes h = (Grows-trans c d e far.0 h, next)
  where
    next : AreSound c held → length labels ≡ length held → AreTaken e held (take (m + 1) (asks_in c held)) (take (m + 1) labels) new
    next sound many =
        let x = there_is held m lt in
        let k = there_is labels m (omega (arith, many, lt)) in
        let same : l ≡ k.0 = is ∙ get_or_from_slice_get labels m k.0 m k.1 in
        let one = takes x.0 x.1 in
        let as_many : length (take m labels) ≡ length (take m (asks_in c held)) =
        length-take-le m labels (omega (arith, many, lt)) ∙ sym (length-take-le m (asks_in c held) (omega (arith, length-map held (ask_in c), lt))) in
        subst (λ ys. AreTaken e held ys (take (m + 1) labels) new) (sym (take-one_more (asks_in c held) m (ask_in c x.0) (map-get (ask_in c) held m x.0 x.1)))
        (subst (λ ns. AreTaken e held (take m (asks_in c held) ++ ask_in c x.0 ∷ []) ns new) (sym (take-one_more labels m l (k.1 ∙ ap Some (sym same))))
        (one_more c acyclic held sound d e far.0 h (take m (asks_in c held)) (take m labels) as_many m l x.0 x.1 old new (far.1 sound many) one.0 one.2 one.1))

pub so_far_all : (c : Collection) (held : List HeldAsk) (labels : List ℕ) (m : ℕ) (d : Collection) (taken : List (ℕ × Taken)) → length held ≤ m → SoFar c held labels m d taken → TakesAll c held labels d taken
so_far_all c held labels m d taken le far sound many =
    subst (λ ys. AreTaken d held ys labels taken) (take-all (asks_in c held) m (omega (arith, length-map held (ask_in c), le))) (subst (λ ns. AreTaken d held (take m (asks_in c held)) ns taken) (take-all labels m (omega (arith, many, le))) (far.1 sound many))

-- ---- a refusal

named : (c : Collection) (x : HeldAsk) (b : Ask ℕ) (bs : List (Ask ℕ)) → Some (conflict_of x b.by) ≡ merge_cause (asking_of x.asking) (ask_in c x) (b ∷ bs)
named c x b bs = go x.asking
  where
    go : (k : HeldAsking) → Some (conflict_by k x b.by) ≡ merge_cause (asking_of k) (ask_in c x) (b ∷ bs)
    go HeldAsking.ByName = refl
    go HeldAsking.ToFill = refl
    go HeldAsking.ToUse = refl

pub refused_at : (c : Collection) → IsAcyclic c → (held : List HeldAsk) (labels : List ℕ) (m l : ℕ) (d : Collection) (taken : List (ℕ × Taken)) → m < length held → l ≡ label_at labels m → SoFar c held labels m d taken → (cause : Cause ℕ) (source : AggregateError)
    → RefusesAt d held m l taken cause source → RefusesAll c held labels cause source
refused_at c acyclic held labels m l d taken lt is far cause source refuses sound many = go (lookup (λ k. l == k) taken) refl (refuses x.0 x.1)
  where
    asks : List (Ask ℕ)
    asks = asks_in c held

    x : (x : HeldAsk) × (slice_get held m ≡ Some x)
    x = there_is held m lt

    k : (k : ℕ) × (slice_get labels m ≡ Some k)
    k = there_is labels m (omega (arith, many, lt))

    label : slice_get labels m ≡ Some l
    label = k.1 ∙ ap Some (sym (is ∙ get_or_from_slice_get labels m k.0 m k.1))

    t : AreTaken d held (take m (asks_in c held)) (take m labels) taken
    t = far.1 sound many

    as_many : length (take m labels) ≡ length (take m (asks_in c held))
    as_many = length-take-le m labels (omega (arith, many, lt)) ∙ sym (length-take-le m (asks_in c held) (omega (arith, length-map held (ask_in c), lt)))

    go : (o : Option Taken) → lookup (λ j. l == j) taken ≡ o → RefusesOne d held o x.0 cause source → RefusesAsk (asks_in c held) labels cause source
    go None e r = absurd r
    go (Some before) e r =
        let was = t.each l before e in
        let h = r was.first was.there in
        let own = own_labelled c acyclic held sound (take m (asks_in c held)) (take m labels) as_many l (ask_in c x.0) in
        let so_far = labelled l (take m (asks_in c held)) (take m labels) in
        let stands = held_stands c acyclic held sound m x.0 x.1 in
        let told = h.1 (asked_in so_far) (first_among c acyclic held sound d so_far before was) (far.0.stand x.0.item stands) (well_in c acyclic held sound d far.0 m x.0 x.1) was.keeps in
        record {
          before = take m (asks_in c held);
          ask = ask_in c x.0;
          later = drop (suc m) (asks_in c held);
          labels_before = take m labels;
          label = l;
          labels_later = drop (suc m) labels;
          asks_are = split_there (asks_in c held) m (ask_in c x.0) (map-get (ask_in c) held m x.0 x.1);
          labels_are = split_there labels m l label;
          as_many = as_many;
          in_turn = t.in_turn;
          nothing = ap (λ (ys : List (Ask ℕ)). kept_of (asked_in ys)) own ∙ ap kept_of (asked_with c acyclic held sound d far.0 m x.0 x.1 so_far) ∙ told.nothing;
          tells = subst (λ s. TellsUnmerged source (asked_in so_far) (x.0.name, s)) (stated_kept c d far.0 x.0.item stands) told;
          is = ap Some h.0 ∙ named c x.0 (ask_in d was.first) (was.others ++ ask_in c x.0 ∷ []) ∙ ap (merge_cause (asking_of x.0.asking) (ask_in c x.0)) (sym (own ∙ ap (λ (ys : List (Ask ℕ)). ys ++ ask_in c x.0 ∷ []) was.begins));
        }
