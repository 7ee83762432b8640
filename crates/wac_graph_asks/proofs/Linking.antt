-- Asks that are akin with the first of each of their words are together exactly where they are linked.
use Rattle.std.proofs.Common.{◌≡◌, ℕ, ◌+◌, ◌<◌, true, List, [], ◌∷◌, ◌++◌, map, Option, Some, None, inl, inr, refl, sym, ap, subst, ◌∙◌, arith, length, length-append, slice_get}
use Rattle.std.proofs.lemmas.List.{length-map}
use Rattle.std.specs.Prelude.{◌⊎◌, option_map}
use Rattle.std.proofs.lemmas.Option.{none-some, same_Some, slice_get-map, slice_get_within, slice_get-get_or}
use Rattle.std.proofs.lemmas.Slice.Eq.{bytes_eq-Decides}
use Rattle.semver.specs.Parse.{Parts}
use Rattle.std.proofs.lemmas.Bool.{or_right, or_cases, or_left}
use Rattle.wac_types_base.specs.Entries.{Name}
use Rattle.wac_types_base.specs.Graph.{Among}
use Rattle.wac_types_base.proofs.Looked.{among-get}
use Rattle.wac_types_base.proofs.Walking.{slice_get-Among}
use Rattle.wac_types_base.proofs.Lists.{there_is}
use Rattle.wac_types_names.specs.Tracks.{lookup_key, AreCompatible}
use Rattle.wac_composition.specs.Asks.{Ask}
use Rattle.wac_composition.specs.Classes.{same_text, identifier_asked, Linked, itself, joined_to, akin}
use Rattle.wac_composition.specs.Names.{compatible}
use Rattle.wac_composition.proofs.ClassLaws.{links_turn, links_go_on}
use Rattle.wac_composition.proofs.NameLaws.{compatible_is}
use Rattle.wac_composition.proofs.NamesBack.{is_compatible}
use Rattle.wac_graph_asks.specs.Words.{Words, words_of, name_word, track_word, identifier_word}
use Rattle.wac_graph_asks.specs.Joining.{label_at, LeadsTo, there, AreTogether, JoinsBy, AreSettled}
use Rattle.wac_graph_asks.specs.Classed.{IsFirstLinked, AreLabels}
use Rattle.wac_graph_asks.specs.Named.{AreJoined}
use Rattle.wac_graph_asks.proofs.Roots.{meets_back, meets_through, leads_before, leads_end, leads_once}
use Rattle.wac_graph_asks.proofs.Firsts.{AreFirsts, no_firsts, joins_keep, firsts_after, firsts_sound, firsts_kept, words_together, joins_as_many, none_together, together_next, next_together}

-- ---- places in lists

-- ---- asks are akin where they share a word

abbrev BothHave : (Words → Option Name) → Words → Words → Type 0
BothHave word v w = (x : Name) × (word v ≡ Some x) × (word w ≡ Some x)

abbrev ShareWord : Words → Words → Type 0
ShareWord v w = BothHave name_word v w ⊎ (BothHave track_word v w ⊎ BothHave identifier_word v w)

same_texts : (o u : Option Name) → same_text o u ≡ true → (x : Name) × (o ≡ Some x) × (u ≡ Some x)
same_texts (Some m) (Some n) e = (m, refl, ap Some (sym ((bytes_eq-Decides m n).0 e)))
same_texts None u e = absurd (cc e)
same_texts (Some m) None e = absurd (cc e)

texts_same : (o u : Option Name) (x : Name) → o ≡ Some x → u ≡ Some x → same_text o u ≡ true
texts_same (Some m) (Some n) x e d = (bytes_eq-Decides m n).1 (same_Some m n (e ∙ sym d))
texts_same None u x e d = absurd (none-some x e)
texts_same (Some m) None x e d = absurd (none-some x d)

on_track : (o : Option (Name × Parts)) (x : Name) → option_map (λ t. t.0) o ≡ Some x → (p : Parts) × (o ≡ Some (x, p))
on_track None x e = absurd (none-some x e)
on_track (Some t) x e = (t.1, ap Some (λ i. (same_Some t.0 x e i, t.1)))

module _ {A : Type 0} (a b : Ask A) where
  pub shares_word : akin a b ≡ true → ShareWord (words_of a) (words_of b)
  shares_word e = elim (or_cases (compatible a.name b.name) (same_text (identifier_asked a) (identifier_asked b)) e) [
    | inl h ↦ by_name (compatible_is a.name b.name h)
    | inr h ↦ inr (inr (same_texts (identifier_asked a) (identifier_asked b) h))
  ]
    where
      by_name : AreCompatible a.name b.name → ShareWord (words_of a) (words_of b)
      by_name (inl h) = inl (a.name, refl, ap Some (sym h))
      by_name (inr h) = inr (inl (h.0, ap (option_map (λ (t : Name × Parts). t.0)) h.3, ap (option_map (λ (t : Name × Parts). t.0)) h.4))

  pub joined_by_word : ShareWord (words_of a) (words_of b) → akin a b ≡ true
  joined_by_word (inl h) = or_left (compatible a.name b.name) (same_text (identifier_asked a) (identifier_asked b)) (is_compatible a.name b.name (inl (same_Some a.name b.name (h.1 ∙ sym h.2))))
  joined_by_word (inr (inl h)) =
      let p = on_track (lookup_key a.name) h.0 h.1 in
      let q = on_track (lookup_key b.name) h.0 h.2 in
      or_left (compatible a.name b.name) (same_text (identifier_asked a) (identifier_asked b)) (is_compatible a.name b.name (inr (h.0, p.0, q.0, p.1, q.1)))
  joined_by_word (inr (inr h)) = or_right (compatible a.name b.name) (same_text (identifier_asked a) (identifier_asked b)) (texts_same (identifier_asked a) (identifier_asked b) h.0 h.1 h.2)

-- ---- the words at places

abbrev pub word_in : (Words → Option Name) → Option Words → Option Name
word_in word None = None
word_in word (Some w) = word w

abbrev pub word_at : (Words → Option Name) → List Words → ℕ → Option Name
word_at word ws i = word_in word (slice_get ws i)

module _ {A : Type 0} (asks : List (Ask A)) (ws : List Words) (are : ws ≡ map words_of asks) where
  words_at : (word : Words → Option Name) (i : ℕ) (a : Ask A) → slice_get asks i ≡ Some a → word_at word ws i ≡ word (words_of a)
  words_at word i a e = ap (λ l. word_in word (slice_get l i)) are ∙ ap (word_in word) (slice_get-map words_of asks i ∙ ap (option_map words_of) e)

  -- whatever asks stand there are linked
  abbrev pub LinkedAt : ℕ → ℕ → Type 0
  LinkedAt i j = (a b : Ask A) → slice_get asks i ≡ Some a → slice_get asks j ≡ Some b → Linked asks a b

  ask_at : (i : ℕ) → i < length ws → (a : Ask A) × (slice_get asks i ≡ Some a)
  ask_at i l = there_is asks i (subst (λ (n : ℕ). i < n) (ap length are ∙ length-map asks words_of) l)

  linked_through : (i j k : ℕ) → j < length ws → LinkedAt i j → LinkedAt j k → LinkedAt i k
  linked_through i j k l h g a c e d = let b = ask_at j l in links_go_on asks a b.0 c (h a b.0 e b.1) (g b.0 c b.1 d)

  linked_back : (i j : ℕ) → LinkedAt i j → LinkedAt j i
  linked_back i j h b a e d = links_turn asks a b (among-get asks i a d) (h a b d e)

  linked_same : (i j : ℕ) → i ≡ j → LinkedAt i j
  linked_same i j s a b e d = subst (Linked asks a) (same_Some a b (sym e ∙ ap (slice_get asks) s ∙ d)) itself

  linked_by : (i j : ℕ) (a b : Ask A) → slice_get asks i ≡ Some a → slice_get asks j ≡ Some b → ShareWord (words_of b) (words_of a) → Linked asks a b
  linked_by i j a b e d s = joined_to a b itself (among-get asks j b d) (joined_by_word b a s)

  by_names : (i j : ℕ) (w : Name) → word_at name_word ws i ≡ Some w → word_at name_word ws j ≡ Some w → LinkedAt i j
  by_names i j w h g a b e d = linked_by i j a b e d (inl (w, sym (words_at name_word j b d) ∙ g, sym (words_at name_word i a e) ∙ h))

  by_tracks : (i j : ℕ) (w : Name) → word_at track_word ws i ≡ Some w → word_at track_word ws j ≡ Some w → LinkedAt i j
  by_tracks i j w h g a b e d = linked_by i j a b e d (inr (inl (w, sym (words_at track_word j b d) ∙ g, sym (words_at track_word i a e) ∙ h)))

  by_identifiers : (i j : ℕ) (w : Name) → word_at identifier_word ws i ≡ Some w → word_at identifier_word ws j ≡ Some w → LinkedAt i j
  by_identifiers i j w h g a b e d = linked_by i j a b e d (inr (inr (w, sym (words_at identifier_word j b d) ∙ g, sym (words_at identifier_word i a e) ∙ h)))

-- ---- so far

-- the asks so far are akin: the first of each word is known, and together are only linked ones
pub record SoFar (ws : List Words) (n : ℕ) (names tracks identifiers : List (Name × ℕ)) (labels : List ℕ) : Type 0 where
  pub as_many : length labels ≡ n
  pub by_name : AreFirsts (word_at name_word ws) n names labels
  pub by_track : AreFirsts (word_at track_word ws) n tracks labels
  pub by_identifier : AreFirsts (word_at identifier_word ws) n identifiers labels
  pub sound : (asks : List (Ask ℕ)) (are : ws ≡ map words_of asks) (i j : ℕ) → AreTogether labels i j → LinkedAt asks ws are i j

pub none_yet : (ws : List Words) → SoFar ws 0 [] [] [] []
none_yet ws = record {
  as_many = refl;
  by_name = no_firsts (word_at name_word ws) [];
  by_track = no_firsts (word_at track_word ws) [];
  by_identifier = no_firsts (word_at identifier_word ws) [];
  sound = λ asks are i j t. linked_same asks ws are i j (none_together i j t);
}

pub one_more : (ws : List Words) (n : ℕ) (w : Words) (names tracks identifiers names' tracks' identifiers' : List (Name × ℕ)) (labels first second third : List ℕ)
    → slice_get ws n ≡ Some w → SoFar ws n names tracks identifiers labels
    → JoinsBy (name_word w) n names names' (labels ++ n ∷ []) first
    → JoinsBy (track_word w) n tracks tracks' first second
    → JoinsBy (identifier_word w) n identifiers identifiers' second third
    → SoFar ws (n + 1) names' tracks' identifiers' third
one_more ws n w names tracks identifiers names' tracks' identifiers' labels first second third e s x y z =
    record {
      as_many = joins_as_many (identifier_word w) n identifiers identifiers' second third z ∙ joins_as_many (track_word w) n tracks tracks' first second y
          ∙ joins_as_many (name_word w) n names names' pushed first x ∙ length-append labels (n ∷ []) ∙ ap (λ k. k + 1) s.as_many;
      by_name = firsts_kept (word_at name_word ws) (n + 1) names' first third (λ i j t. keep3 i j (keep2 i j t)) (firsts_after (word_at name_word ws) n names names' labels pushed first keep0 s.by_name (name_word w) (here name_word) x);
      by_track = firsts_kept (word_at track_word ws) (n + 1) tracks' second third keep3 (firsts_after (word_at track_word ws) n tracks tracks' labels first second (λ i j t. keep1 i j (keep0 i j t)) s.by_track (track_word w) (here track_word) y);
      by_identifier = firsts_after (word_at identifier_word ws) n identifiers identifiers' labels second third (λ i j t. keep2 i j (keep1 i j (keep0 i j t))) s.by_identifier (identifier_word w) (here identifier_word) z;
      sound = sounds;
    }
  where
    pushed : List ℕ
    pushed = labels ++ n ∷ []

    keep0 : (i j : ℕ) → AreTogether labels i j → AreTogether pushed i j
    keep0 i j t = subst (λ k. AreTogether (labels ++ k ∷ []) i j) s.as_many (together_next labels i j t)

    keep1 : (i j : ℕ) → AreTogether pushed i j → AreTogether first i j
    keep1 = joins_keep (word_at name_word ws) n names names' labels pushed first (name_word w) x

    keep2 : (i j : ℕ) → AreTogether first i j → AreTogether second i j
    keep2 = joins_keep (word_at track_word ws) n tracks tracks' labels first second (track_word w) y

    keep3 : (i j : ℕ) → AreTogether second i j → AreTogether third i j
    keep3 = joins_keep (word_at identifier_word ws) n identifiers identifiers' labels second third (identifier_word w) z

    here : (word : Words → Option Name) → word_at word ws n ≡ word w
    here word = ap (word_in word) e

    within : n < length ws
    within = slice_get_within ws n w e

    sounds : (asks : List (Ask ℕ)) (are : ws ≡ map words_of asks) (i j : ℕ) → AreTogether third i j → LinkedAt asks ws are i j
    sounds asks are =
        let E = LinkedAt asks ws are in
        let through = λ (i j k : ℕ) (l : j < n + 1). linked_through asks ws are i j k (omega (arith, l, within)) in
        let back = λ (i j : ℕ) (l : i < n + 1) (m : j < n + 1). linked_back asks ws are i j in
        let start = λ (i j : ℕ) (t : AreTogether pushed i j). s.sound asks are i j (next_together labels i j (subst (λ k. AreTogether (labels ++ k ∷ []) i j) (sym s.as_many) t)) in
        let one = firsts_sound (word_at name_word ws) n names names' labels pushed first E through back (λ i j v l m. by_names asks ws are i j v) s.by_name start (name_word w) (here name_word) x in
        let two = firsts_sound (word_at track_word ws) n tracks tracks' labels first second E through back (λ i j v l m. by_tracks asks ws are i j v) s.by_track one (track_word w) (here track_word) y in
        firsts_sound (word_at identifier_word ws) n identifiers identifiers' labels second third E through back (λ i j v l m. by_identifiers asks ws are i j v) s.by_identifier two (identifier_word w) (here identifier_word) z

-- ---- at the end

module _ (asks : List (Ask ℕ)) (ws : List Words) (are : ws ≡ map words_of asks) where
  places_together : (names tracks identifiers : List (Name × ℕ)) (labels : List ℕ) → SoFar ws (length ws) names tracks identifiers labels
      → (i j : ℕ) (a b : Ask ℕ) → slice_get asks i ≡ Some a → slice_get asks j ≡ Some b → ShareWord (words_of a) (words_of b) → AreTogether labels i j
  places_together names tracks identifiers labels s i j a b e d h =
      elim h [
        | inl h ↦ words_together (word_at name_word ws) (length ws) names labels s.by_name h.0 i j (within i a e) (within j b d) (words_at asks ws are name_word i a e ∙ h.1) (words_at asks ws are name_word j b d ∙ h.2)
        | inr (inl h) ↦ words_together (word_at track_word ws) (length ws) tracks labels s.by_track h.0 i j (within i a e) (within j b d) (words_at asks ws are track_word i a e ∙ h.1) (words_at asks ws are track_word j b d ∙ h.2)
        | inr (inr h) ↦ words_together (word_at identifier_word ws) (length ws) identifiers labels s.by_identifier h.0 i j (within i a e) (within j b d) (words_at asks ws are identifier_word i a e ∙ h.1) (words_at asks ws are identifier_word j b d ∙ h.2)
      ]
    where
      within : (i : ℕ) (a : Ask ℕ) → slice_get asks i ≡ Some a → i < length ws
      within i a e = subst (λ (n : ℕ). i < n) (sym (ap length are ∙ length-map asks words_of)) (slice_get_within asks i a e)

  linked_among : (a b : Ask ℕ) → Among a asks → Linked asks a b → Among b asks
  linked_among a b m itself = m
  linked_among a b m (joined_to d c l n e) = n

  linked_together : (names tracks identifiers : List (Name × ℕ)) (labels : List ℕ) → SoFar ws (length ws) names tracks identifiers labels
      → (i : ℕ) (a : Ask ℕ) → slice_get asks i ≡ Some a → (b : Ask ℕ) → Linked asks a b → (j : ℕ) → slice_get asks j ≡ Some b → AreTogether labels i j
  linked_together names tracks identifiers labels s i a e b itself j d = places_together names tracks identifiers labels s i j a a e d (inl (a.name, refl, refl))
  linked_together names tracks identifiers labels s i a e x (joined_to b c l n q) j d =
      let k = slice_get-Among asks b (linked_among a b (among-get asks i a e) l) in
      let there = linked_together names tracks identifiers labels s i a e b l k.0 k.2 in
      meets_through (label_at labels) i k.0 j there
      (meets_back (label_at labels) j k.0 (places_together names tracks identifiers labels s j k.0 c b d k.2 (shares_word c b q)))

  pub all_joined : (names tracks identifiers : List (Name × ℕ)) (labels : List ℕ) → SoFar ws (length ws) names tracks identifiers labels → AreJoined asks labels
  all_joined names tracks identifiers labels s = record {
    as_many = s.as_many ∙ ap length are ∙ length-map asks words_of;
    each = λ i j a b e d. (λ t. s.sound asks are i j t a b e d, λ l. linked_together names tracks identifiers labels s i a e b l j d);
  }

-- ---- labels that are where they led

pub labels_settled : (asks : List (Ask ℕ)) (old new : List ℕ) → AreJoined asks old → AreSettled old new → AreLabels asks new
labels_settled asks old new j s = record { as_many = s.as_many ∙ j.as_many; each = each }
  where
    each : (i : ℕ) (a : Ask ℕ) → slice_get asks i ≡ Some a → (first : ℕ) × (slice_get new i ≡ Some first) × IsFirstLinked asks a first
    each i a e =
        let l = slice_get_within asks i a e in
        let within : i < length old = subst (λ (n : ℕ). i < n) (sym j.as_many) l in
        let in_new : i < length new = subst (λ (n : ℕ). i < n) (sym s.as_many) within in
        let top = label_at new i in
        let led = s.each i within in
        let below = leads_before (label_at old) i top led in
        let b = there_is asks top (omega (arith, l, below)) in
        let stays : LeadsTo (label_at old) top top = there (leads_end (label_at old) i top led) in (
          top,
          slice_get-get_or new i i in_new,
          record {
            ask = b.0;
            there = b.1;
            linked = (j.each i top a b.0 e b.1).0 (top, led, stays);
            none_before = λ k c m d n.
                let t = (j.each i k a c e d).1 n in
                let same = leads_once (label_at old) i t.0 top t.1 led in
                let low = leads_before (label_at old) k t.0 t.2 in
                omega (arith, m, same, low);
          },
        )

pub starts : (ws : List Words) (names tracks identifiers : List (Name × ℕ)) (labels : List ℕ) → names ≡ [] → tracks ≡ [] → identifiers ≡ [] → labels ≡ [] → SoFar ws 0 names tracks identifiers labels
starts ws n t i l a b c d =
    subst (λ n. SoFar ws 0 n t i l) (sym a) (subst (λ t. SoFar ws 0 [] t i l) (sym b) (subst (λ i. SoFar ws 0 [] [] i l) (sym c) (subst (SoFar ws 0 [] [] []) (sym d) (none_yet ws))))
