-- The ask that spells a class: the one of greatest version on the track of the first.
use Rattle.std.proofs.Common.{◌≡◌, ◌≢◌, ℕ, zero, suc, ◌+◌, ◌<◌, ◌≤◌, Bool, true, false, cond, true≢false, List, [], ◌∷◌, ◌++◌, map, take, set, Option, Some, None, inl, inr, refl, sym, ap, subst, ◌∙◌, arith, length, length-append, length-set, slice_get, get_or-set_same, get_or-set_other}
use Rattle.std.specs.Prelude.{◌==◌, ◌&&◌, option_map, bytes_eq, filter, if◌then◌else◌}
use Rattle.std.specs.Bool.{one_answer}
use Rattle.std.specs.List.{list_any}
use Rattle.std.proofs.lemmas.Bool.{cases_eq, cases_lt, and_parts, and_from}
use Rattle.std.proofs.lemmas.Bool.Decides.{Decides-eqb}
use Rattle.std.proofs.lemmas.List.{get_or_push, length-map, map-append, append-nil}
use Rattle.std.proofs.lemmas.List.Elements.{filter_more}
use Rattle.std.proofs.Math.ListN.{get_or-append}
use Rattle.std.proofs.Math.Seq.{take-length}
use Rattle.std.proofs.lemmas.Option.{none-some, same_Some, slice_get-map, slice_get_within, slice_get-get_or, get_or_from_slice_get}
use Rattle.std.proofs.lemmas.Slice.Eq.{bytes_eq-Decides}
use Rattle.semver.specs.Parse.{Parts}
use Rattle.wac_types_base.specs.Entries.{Name}
use Rattle.wac_types_base.specs.Graph.{Among}
use Rattle.wac_types_base.proofs.Looked.{among-get}
use Rattle.wac_types_base.proofs.Lists.{there_is}
use Rattle.wac_types_names.specs.Tracks.{lookup_key, IsLater}
use Rattle.wac_types_names.specs.Versions.{version_cmp}
use Rattle.wac_composition.specs.Asks.{Ask}
use Rattle.wac_composition.specs.Classes.{Linked, itself, class, spelled, akin}
use Rattle.wac_composition.specs.Names.{is_greater, is_later, greatest}
use Rattle.wac_composition.proofs.ClassLaws.{in_class_linked, linked_in_class, links_turn, links_go_on}
use Rattle.wac_composition.proofs.OuterClasses.{class_is, itself as joined_itself, turned}
use Rattle.wac_composition.proofs.Closures.{closed, filter_among, among_filter}
use Rattle.wac_composition.proofs.NameLaws.{later_is}
use Rattle.wac_composition.proofs.AskedAgain.{greater_is}
use Rattle.wac_composition.proofs.NamesBack.{later_on_track}
use Rattle.wac_graph_asks.specs.Words.{Words, words_of, is_later_on, track_of, respelled}
use Rattle.wac_graph_asks.specs.Joining.{label_at}
use Rattle.wac_graph_asks.specs.Classed.{IsFirstLinked, AreLabels, IsSpelledAt, AreSpellings}

-- ---- a later name, by the tracks

later_on : (m n : Name) (o u : Option (Name × Parts)) → lookup_key m ≡ o → lookup_key n ≡ u → is_later_on o u ≡ true → IsLater m n
later_on m n (Some k) (Some l) a b e =
    let h = and_parts (bytes_eq k.0 l.0) (is_greater (version_cmp k.1 l.1)) e in
    (k.0, k.1, l.1, a, b ∙ ap Some (λ i. (sym ((bytes_eq-Decides k.0 l.0).0 h.0) i, l.1)), greater_is (version_cmp k.1 l.1) h.1)
later_on m n None u a b e = absurd (true≢false (sym e))
later_on m n (Some k) None a b e = absurd (true≢false (sym e))

on_later : (m n : Name) → IsLater m n → is_later_on (lookup_key m) (lookup_key n) ≡ true
on_later m n h =
    ap (λ o. is_later_on o (lookup_key n)) h.3 ∙ ap (λ o. is_later_on (Some (h.0, h.1)) o) h.4
    ∙ and_from (bytes_eq h.0 h.0) (is_greater (version_cmp h.1 h.2)) ((bytes_eq-Decides h.0 h.0).1 refl) (ap is_greater h.5)

later_same : (m n : Name) → is_later_on (lookup_key m) (lookup_key n) ≡ is_later m n
later_same m n = one_answer {P = IsLater m n} _ _ (later_on m n (lookup_key m) (lookup_key n) refl refl, on_later m n) (later_is m n, later_on_track m n)

-- ---- who leads a class, after so many

module _ (ws : List Words) (labels : List ℕ) (class : ℕ) where
  abbrev better : (n best : ℕ) → ℕ
  better n best = cond ((label_at labels n == class) && is_later_on (track_of (slice_get ws n)) (track_of (slice_get ws best))) n best

  abbrev pub leader : ℕ → ℕ
  leader zero = class
  leader (suc n) = better n (leader n)

  not_that : (n : ℕ) → label_at labels n ≢ class → (best : ℕ) → better n best ≡ best
  not_that n d best = go (label_at labels n == class) refl
    where
      go : (b : Bool) → (label_at labels n == class) ≡ b → better n best ≡ best
      go true e = absurd (d ((Decides-eqb (label_at labels n) class).0 e))
      go false e = ap (λ b. cond (b && is_later_on (track_of (slice_get ws n)) (track_of (slice_get ws best))) n best) e

  that : (n : ℕ) → label_at labels n ≡ class → (best : ℕ) → better n best ≡ cond (is_later_on (track_of (slice_get ws n)) (track_of (slice_get ws best))) n best
  that n d best = ap (λ b. cond (b && is_later_on (track_of (slice_get ws n)) (track_of (slice_get ws best))) n best) ((Decides-eqb (label_at labels n) class).1 d)

  leads_first : (n : ℕ) → n ≤ class → ((k : ℕ) → k < class → label_at labels k ≢ class) → leader n ≡ class
  leads_first zero l h = refl
  leads_first (suc n) l h = not_that n (h n (omega (arith, l))) (leader n) ∙ leads_first n (omega (arith, l)) h

-- each class that began has its leader so far
abbrev pub AreLed : List Words → (labels best : List ℕ) → ℕ → Type 0
AreLed ws labels best n = (class : ℕ) → class < n → label_at labels class ≡ class → ((k : ℕ) → k < class → label_at labels k ≢ class) → label_at best class ≡ leader ws labels class n

either_way : (t : Bool) (xs ys : List ℕ) → length xs ≡ length ys → length (cond t xs ys) ≡ length ys
either_way true xs ys e = e
either_way false xs ys e = refl

pub led_length : (ws : List Words) (best : List ℕ) (class : ℕ) (w : Words) (at : ℕ) → length (respelled ws best class w at) ≡ length best
led_length ws best class w at = either_way (is_later_on w.track (track_of (slice_get ws (label_at best class)))) (set best class at) best (length-set best class at)

pub led_more : (ws : List Words) (labels best : List ℕ) (n : ℕ) (w : Words) → slice_get ws n ≡ Some w → length best ≡ n → AreLed ws labels best n → AreLed ws labels (respelled ws (best ++ n ∷ []) (label_at labels n) w n) (suc n)
led_more ws labels best n w e len led class l own first = elim (cases_eq class n) [
  | inl d ↦ at_last d
  | inr d ↦ elim (cases_eq (label_at labels n) class) [
    | inl c ↦ at_class (omega (arith, l, d)) c
    | inr c ↦ at_other (omega (arith, l, d)) c
  ]
]
  where
    pushed : List ℕ
    pushed = best ++ n ∷ []

    test : Bool
    test = is_later_on w.track (track_of (slice_get ws (label_at pushed (label_at labels n))))

    new : List ℕ
    new = cond test (set pushed (label_at labels n) n) pushed

    many : length pushed ≡ suc n
    many = length-append best (n ∷ []) ∙ (let q : length best + 1 ≡ suc n = omega (arith, len) in q)

    last : label_at pushed n ≡ n
    last = get_or_push best n n n len

    old : (k : ℕ) → k < n → label_at pushed k ≡ label_at best k
    old k m = get_or-append best (n ∷ []) k k (omega (arith, m, len))

    -- the new one leads its own class
    at_last : class ≡ n → label_at new class ≡ leader ws labels class (suc n)
    at_last d =
        let c : label_at labels n ≡ n = subst (λ k. label_at labels k ≡ k) d own in
        let left : label_at new n ≡ n = go test c in
        let lead : leader ws labels class n ≡ n = leads_first ws labels class n (omega (arith, d)) first ∙ d in
        let right : leader ws labels class (suc n) ≡ n =
        that ws labels class n (c ∙ sym d) (leader ws labels class n) ∙ same (is_later_on (track_of (slice_get ws n)) (track_of (slice_get ws (leader ws labels class n)))) (leader ws labels class n) lead in
        ap (label_at new) d ∙ left ∙ sym right
      where
        go : (t : Bool) → label_at labels n ≡ n → label_at (cond t (set pushed (label_at labels n) n) pushed) n ≡ n
        go true c = ap (λ k. label_at (set pushed k n) n) c ∙ get_or-set_same pushed n n n (omega (arith, many))
        go false c = last

        same : (t : Bool) (k : ℕ) → k ≡ n → cond t n k ≡ n
        same true k e = refl
        same false k e = e

    at_class : class < n → label_at labels n ≡ class → label_at new class ≡ leader ws labels class (suc n)
    at_class m c =
        let before : label_at pushed class ≡ leader ws labels class n = old class m ∙ led class m own first in
        let tests : test ≡ is_later_on (track_of (slice_get ws n)) (track_of (slice_get ws (leader ws labels class n))) =
        ap (λ k. is_later_on w.track (track_of (slice_get ws (label_at pushed k)))) c ∙ ap (λ k. is_later_on w.track (track_of (slice_get ws k))) before
        ∙ ap (λ o. is_later_on (track_of o) (track_of (slice_get ws (leader ws labels class n)))) (sym e) in
        go test before
        ∙ ap (λ t. cond t n (leader ws labels class n)) tests
        ∙ sym (that ws labels class n c (leader ws labels class n))
      where
        go : (t : Bool) → label_at pushed class ≡ leader ws labels class n → label_at (cond t (set pushed (label_at labels n) n) pushed) class ≡ cond t n (leader ws labels class n)
        go true b = ap (λ k. label_at (set pushed k n) class) c ∙ get_or-set_same pushed class n class (omega (arith, many, m))
        go false b = b

    at_other : class < n → label_at labels n ≢ class → label_at new class ≡ leader ws labels class (suc n)
    at_other m c = go test ∙ sym (not_that ws labels class n c (leader ws labels class n))
      where
        go : (t : Bool) → label_at (cond t (set pushed (label_at labels n) n) pushed) class ≡ leader ws labels class n
        go true = get_or-set_other pushed (label_at labels n) class n class (λ d. c (sym d)) ∙ old class m ∙ led class m own first
        go false = old class m ∙ led class m own first

-- ---- lists that are filtered

-- the first that passes comes first
filter_first : {X : Type 0} (q : X → Bool) (xs : List X) (i : ℕ) (x : X) → slice_get xs i ≡ Some x → q x ≡ true → ((k : ℕ) (y : X) → k < i → slice_get xs k ≡ Some y → q y ≡ false) → (rest : List X) × (filter q xs ≡ x ∷ rest)
filter_first q [] i x e t h = absurd (none-some x e)
filter_first q (y ∷ xs) zero x e t h =
    let same = same_Some y x e in
    (filter q xs, ap (λ b. cond b (y ∷ filter q xs) (filter q xs)) (ap q same ∙ t) ∙ ap (λ z. z ∷ filter q xs) same)
filter_first q (y ∷ xs) (suc i) x e t h =
    let r = filter_first q xs i x e t (λ k z l d. h (suc k) z (omega (arith, l)) d) in
    (r.0, ap (λ b. cond b (y ∷ filter q xs) (filter q xs)) (h zero y (omega arith) refl) ∙ r.1)

greatest_more : (m : Name) (ns : List Name) (n : Name) → greatest m (ns ++ n ∷ []) ≡ cond (is_later n (greatest m ns)) n (greatest m ns)
greatest_more m [] n = refl
greatest_more m (k ∷ ns) n = greatest_more (if is_later k m then k else m) ns n

greatest_again : (m : Name) (ns : List Name) → greatest m (m ∷ ns) ≡ greatest m ns
greatest_again m ns = go (is_later m m)
  where
    go : (b : Bool) → greatest (cond b m m) ns ≡ greatest m ns
    go true = refl
    go false = refl

-- ---- a class in asking order

module _ {A : Type 0} (asks : List (Ask A)) (a : Ask A) (there : Among a asks) where
  abbrev in_class : Ask A → Bool
  in_class b = list_any (akin b) (class asks a)

  class_filtered : filter in_class asks ≡ class asks a
  class_filtered = subst (λ ms. filter (λ b. list_any (akin b) ms) asks ≡ ms) (sym (class_is asks a)) (closed akin asks joined_itself turned a there)

  linked_passes : (b : Ask A) → Among b asks → Linked asks a b → in_class b ≡ true
  linked_passes b m l = (filter_among in_class asks b (subst (Among b) (sym (class_filtered)) (linked_in_class asks a b there l))).1

  passes_linked : (b : Ask A) → Among b asks → in_class b ≡ true → Linked asks a b
  passes_linked b m e = in_class_linked asks a b there (subst (Among b) (class_filtered) (among_filter in_class asks b m e))

  apart_fails : (b : Ask A) → Among b asks → (Linked asks a b → ⊥) → in_class b ≡ false
  apart_fails b m h = go (in_class b) refl
    where
      go : (t : Bool) → in_class b ≡ t → in_class b ≡ false
      go true e = absurd (h (passes_linked b m e))
      go false e = e

  module _ (labels : List ℕ) (are : AreLabels asks labels) (first : ℕ) (own : slice_get labels first ≡ Some first) (at : slice_get asks first ≡ Some a) where
    first_linked : IsFirstLinked asks a first
    first_linked =
        let h = are.each first a at in
        subst (IsFirstLinked asks a) (same_Some h.0 first (sym h.1 ∙ own)) h.2

    kept_label : (i n : ℕ) → slice_get labels i ≡ Some n → label_at labels i ≡ n
    kept_label i n e = same_Some (label_at labels i) n (sym (slice_get-get_or labels i i (slice_get_within labels i n e)) ∙ e)

    no_earlier : (k : ℕ) → k < first → label_at labels k ≢ first
    no_earlier k l e =
        let c = there_is asks k (omega (arith, l, slice_get_within asks first a at)) in
        let h = are.each k c.0 c.1 in
        let same : h.0 ≡ first = sym (kept_label k h.0 h.1) ∙ e in
        h.2.none_before k c.0 (omega (arith, l, same)) c.1 itself

    linked_by_label : (i : ℕ) (c : Ask A) → slice_get asks i ≡ Some c → label_at labels i ≡ first → Linked asks a c
    linked_by_label i c e d =
        let h = are.each i c e in
        let same : h.0 ≡ first = sym (kept_label i h.0 h.1) ∙ d in
        let f = subst (IsFirstLinked asks c) same h.2 in
        let is : f.ask ≡ a = same_Some f.ask a (sym f.there ∙ at) in
        links_turn asks c a (among-get asks i c e) (subst (Linked asks c) is f.linked)

    label_by_link : (i : ℕ) (c : Ask A) → slice_get asks i ≡ Some c → Linked asks a c → label_at labels i ≡ first
    label_by_link i c e l =
        let h = are.each i c e in
        let back = links_turn asks a c there l in
        let one : h.0 < first → ⊥ = λ m. first_linked.none_before h.0 h.2.ask m h.2.there (links_go_on asks a c h.2.ask l h.2.linked) in
        let two : first < h.0 → ⊥ = λ m. h.2.none_before first a m at back in
        kept_label i h.0 h.1 ∙ elim (cases_lt h.0 first) as (λ _. h.0 ≡ first) [
          | inl m ↦ absurd (one m)
          | inr m ↦ elim (cases_lt first h.0) as (λ _. h.0 ≡ first) [
            | inl k ↦ absurd (two k)
            | inr k ↦ omega (arith, m, k)
          ]
        ]

    module _ (ws : List Words) (worded : ws ≡ map words_of asks) where
      track_at : (i : ℕ) (c : Ask A) → slice_get asks i ≡ Some c → track_of (slice_get ws i) ≡ lookup_key c.name
      track_at i c e = ap (λ l. track_of (slice_get l i)) worded ∙ ap track_of (slice_get-map words_of asks i ∙ ap (option_map words_of) e)

      so_far : ℕ → Name
      so_far n = greatest a.name (map (λ (b : Ask A). b.name) (filter in_class (take n asks)))

      record Spells (place : ℕ) (name : Name) : Type 0 where
        ask : Ask A
        stands : slice_get asks place ≡ Some ask
        linked : Linked asks a ask
        is : ask.name ≡ name

      spells_same : (k l : ℕ) (m n : Name) → k ≡ l → m ≡ n → Spells k m → Spells l n
      spells_same k l m n d e s = record { ask = s.ask; stands = subst (λ i. slice_get asks i ≡ Some s.ask) d s.stands; linked = s.linked; is = s.is ∙ e }

      kept_more : (n : ℕ) (c : Ask A) → slice_get asks n ≡ Some c → filter in_class (take (suc n) asks) ≡ filter in_class (take n asks) ++ cond (in_class c) (c ∷ []) []
      kept_more n c e =
          let next : suc n ≡ n + 1 = omega arith in
          ap (λ k. filter in_class (take k asks)) next ∙ filter_more in_class asks n c (slice_get_within asks n c e)
          ∙ ap (λ x. filter in_class (take n asks) ++ cond (in_class x) (x ∷ []) []) (get_or_from_slice_get asks n c c e)

      so_far_in : (n : ℕ) (c : Ask A) → slice_get asks n ≡ Some c → in_class c ≡ true → so_far (suc n) ≡ cond (is_later c.name (so_far n)) c.name (so_far n)
      unfolding so_far
      so_far_in n c e t =
          ap (λ l. greatest a.name (map (λ (b : Ask A). b.name) l)) (kept_more n c e ∙ ap (λ b. filter in_class (take n asks) ++ cond b (c ∷ []) []) t)
          ∙ ap (greatest a.name) (map-append (λ (b : Ask A). b.name) (filter in_class (take n asks)) (c ∷ [])) ∙ greatest_more a.name (map (λ (b : Ask A). b.name) (filter in_class (take n asks))) c.name

      so_far_out : (n : ℕ) (c : Ask A) → slice_get asks n ≡ Some c → in_class c ≡ false → so_far (suc n) ≡ so_far n
      unfolding so_far
      so_far_out n c e t =
          ap (λ l. greatest a.name (map (λ (b : Ask A). b.name) l))
          (kept_more n c e ∙ ap (λ b. filter in_class (take n asks) ++ cond b (c ∷ []) []) t ∙ append-nil (filter in_class (take n asks)))

      next_spells : (n : ℕ) → Spells (leader ws labels first n) (so_far n) → (c : Ask A) → slice_get asks n ≡ Some c → Spells (leader ws labels first (suc n)) (so_far (suc n))
      next_spells n s c e = elim (cases_eq (label_at labels n) first) [
        | inl d ↦
            let lead = leader ws labels first n in
            let link = linked_by_label n c e d in
            let tests : is_later_on (track_of (slice_get ws n)) (track_of (slice_get ws lead)) ≡ is_later c.name (so_far n) =
            ap (λ o. is_later_on o (track_of (slice_get ws lead))) (track_at n c e) ∙ ap (is_later_on (lookup_key c.name)) (track_at lead s.ask s.stands)
            ∙ later_same c.name s.ask.name ∙ ap (is_later c.name) s.is in
            spells_same _ _ _ _ (ap (λ t. cond t n lead) (sym tests) ∙ sym (that ws labels first n d lead))
            (sym (so_far_in n c e (linked_passes c (among-get asks n c e) link))) (pick (is_later c.name (so_far n)) link)
        | inr d ↦
            spells_same _ _ _ _ (sym (not_that ws labels first n d (leader ws labels first n)))
            (sym (so_far_out n c e (apart_fails c (among-get asks n c e) (λ l. d (label_by_link n c e l))))) s
      ]
        where
          pick : (t : Bool) → Linked asks a c → Spells (cond t n (leader ws labels first n)) (cond t c.name (so_far n))
          pick true l = record { ask = c; stands = e; linked = l; is = refl }
          pick false l = s

      spelled_so_far : (n : ℕ) → n ≤ length asks → Spells (leader ws labels first n) (so_far n)
      unfolding so_far
      spelled_so_far zero l = record { ask = a; stands = at; linked = itself; is = refl }
      spelled_so_far (suc n) l = let c = there_is asks n (omega (arith, l)) in next_spells n (spelled_so_far n (omega (arith, l))) c.0 c.1

      so_far_all : so_far (length asks) ≡ spelled (class asks a)
      unfolding so_far
      so_far_all =
          let same = class_filtered in
          let f = filter_first in_class asks first a at (linked_passes a there itself)
          (λ k y l e. apart_fails y (among-get asks k y e) (λ h. first_linked.none_before k y l e h)) in
          ap (λ l. greatest a.name (map (λ (b : Ask A). b.name) (filter in_class l))) (take-length asks) ∙ ap (λ l. greatest a.name (map (λ (b : Ask A). b.name) l)) f.1
          ∙ greatest_again a.name (map (λ (b : Ask A). b.name) f.0) ∙ ap spelled (sym f.1 ∙ same)

      pub spelled_at : (n : ℕ) → n ≡ length asks → IsSpelledAt asks a (leader ws labels first n)
      spelled_at n e =
          let s = spelled_so_far n (omega (arith, e)) in
          record { ask = s.ask; there = s.stands; linked = s.linked; spells = s.is ∙ ap so_far e ∙ so_far_all }

-- ---- the spellings

pub led_spells : (ws : List Words) (asks : List (Ask ℕ)) (labels best : List ℕ) → ws ≡ map words_of asks → length best ≡ length ws → AreLed ws labels best (length ws) → AreLabels asks labels → AreSpellings asks labels best
led_spells ws asks labels best worded many led are = record {
  as_many = many ∙ sizes;
  each = λ first a own at.
      let there = among-get asks first a at in
      let m : first < length ws = subst (λ (n : ℕ). first < n) (sym sizes) (slice_get_within asks first a at) in
      let is = led first m (kept_label asks a there labels are first own at first first own) (no_earlier asks a there labels are first own at) in (
        label_at best first,
        slice_get-get_or best first first (omega (arith, m, many)),
        subst (IsSpelledAt asks a) (sym is) (spelled_at asks a there labels are first own at ws worded (length ws) sizes),
      );
}
  where
    sizes : length ws ≡ length asks
    sizes = ap length worded ∙ length-map asks words_of

pub led_step : (ws : List Words) (labels best pushed new : List ℕ) (n place : ℕ) (w : Words) → slice_get ws n ≡ Some w → length best ≡ n → AreLed ws labels best n
    → pushed ≡ best ++ n ∷ [] → place ≡ label_at labels n → new ≡ respelled ws pushed place w n → (length new ≡ n + 1) × AreLed ws labels new (n + 1)
led_step ws labels best pushed new n place w e len led p q r =
    let is : new ≡ respelled ws (best ++ n ∷ []) (label_at labels n) w n = r ∙ ap (λ l. respelled ws l place w n) p ∙ ap (λ k. respelled ws (best ++ n ∷ []) k w n) q in
    let next : suc n ≡ n + 1 = omega arith in (
      ap length is ∙ led_length ws (best ++ n ∷ []) (label_at labels n) w n ∙ length-append best (n ∷ []) ∙ ap (λ k. k + 1) len,
      subst (AreLed ws labels new) next (subst (λ l. AreLed ws labels l (suc n)) (sym is) (led_more ws labels best n w e len led)),
    )
