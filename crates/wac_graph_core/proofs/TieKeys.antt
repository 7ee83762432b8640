-- Ties and names in their orders: what a search finds, and what putting in and taking out change.
use Rattle.std.proofs.Common.{◌≡◌, ◌≢◌, ◌⊎◌, ◌↔◌, ℕ, zero, suc, Bool, true, false, not, ◌+◌, ◌<◌, ◌≤◌, ◌++◌, length, take, get_or, List, [], ◌∷◌, map, filter, insert, remove, Some, refl, sym, ap, ◌∙◌, subst, slice_get, slice_index_or, string_bytes, string_cmp, inl, inr}
use Rattle.std.proofs.lemmas.List.{take_more, take_all}
use Rattle.std.specs.Global.{Global}
use Rattle.std.specs.declared.string.String.{String}
use Rattle.std.specs.Ordering.{nat_cmp}
use Rattle.std.specs.Cmp.Lexicographic.{slice_cmp}
use Rattle.std.specs.String.{string_cmp_total}
use Rattle.std.specs.List.{AllByRecursion}
use Rattle.std.specs.List.Sorted.{IsStrictlySortedBy}
use Rattle.std.specs.declared.cmp.Ordering.TheVariants.{Less, Equal}
use Rattle.wac_types_base.specs.Entries.{Name}
use Rattle.wac_types_base.specs.Graph.{Among}
use Rattle.wac_types_base.proofs.Looked.{among-get}
use Rattle.wac_types_base.proofs.Lists.{among_filtered}
use Rattle.wac_types_fit.proofs.Looking.{same_name, cmp_refl}
use Rattle.wac_graph_core.specs.declared.tie.Tie.{Tie}
use Rattle.wac_graph_core.specs.Edges.{has}
use Rattle.wac_graph_core.specs.Sorted.{IsAt, Belongs}
use Rattle.wac_graph_core.specs.Ties.{tie_code, tie_cmp, tie_cmp_total, end_of, Passed, Passes}
use Rattle.wac_graph_core.specs.TieSteps.{PutsTie, added, TakesTie, PutsPassed, KeepsTie, KeepsPassed, shown_passed}
use Rattle.wac_graph_core.proofs.Keyed.{put_in, in_put, one_entry, none_there, out_from}
use Rattle.wac_graph_core.proofs.Found.{passes}

pub read_at : {X : Type 0} (xs : List X) (i : ℕ) (x d : X) → slice_get xs i ≡ Some x → slice_index_or xs i d ≡ x
read_at [] i x d at = absurd (cc at)
read_at (y ∷ xs) zero x d at = cc at
read_at (y ∷ xs) (suc i) x d at = read_at xs i x d at

not_false : (b : Bool) → not b ≡ true → b ≡ false
not_false true h = absurd (cc h)
not_false false h = refl

-- ---- names

names_equal : (s t : String Global) → string_bytes s ≡ string_bytes t → string_cmp s t ≡ Equal
names_equal s t e = ap (slice_cmp nat_cmp (string_bytes s)) (sym e) ∙ cmp_refl (string_bytes s)

equal_names : (s t : String Global) → string_cmp s t ≡ Equal → string_bytes s ≡ string_bytes t
equal_names s t e = same_name (string_bytes s) (string_bytes t) e

abbrev RiseByName : List Passed → Type 0
RiseByName es = IsStrictlySortedBy string_cmp (map (λ e. e.0) es)

module _ (es : List Passed) (key : String Global) (p : ℕ) where
  pub passed_here : (k : IsAt string_cmp es key p) → Passes es (string_bytes key) k.entry.1
  passed_here k = record { name = k.entry.0; is = equal_names k.entry.0 key k.equal; there = among-get es p k.entry k.there }

  pub passed_at : IsAt string_cmp es key p → (xs : List Passed) → xs ≡ es → (d : Passed) → Passes es (string_bytes key) (slice_index_or xs p d).1
  passed_at k xs same d = subst (λ (x : Passed). Passes es (string_bytes key) x.1) (sym (ap (λ l. slice_index_or l p d) same ∙ read_at es p k.entry d k.there)) (passed_here k)

  pub passed_one : RiseByName es → IsAt string_cmp es key p → (xs : List Passed) → xs ≡ es → (d : Passed) (b : ℕ) → Passes es (string_bytes key) b → b ≡ (slice_index_or xs p d).1
  passed_one sorted k xs same d b h =
      ap (λ (x : Passed). x.1) (one_entry string_cmp string_cmp_total es sorted (h.name, b) k.entry h.there (among-get es p k.entry k.there) (names_equal h.name k.entry.0 (h.is ∙ sym (equal_names k.entry.0 key k.equal)))
      ∙ sym (ap (λ l. slice_index_or l p d) same ∙ read_at es p k.entry d k.there))

  pub passed_none : Belongs string_cmp es key p → (a : ℕ) → Passes es (string_bytes key) a → ⊥
  passed_none b a h = none_there string_cmp string_cmp_total es key p b (h.name, a) h.there (names_equal h.name key h.is)

  pub passed_put : (a : ℕ) → PutsPassed es (insert es p (key, a)) (string_bytes key) a
  passed_put a m b = (forth, back)
    where
      forth : Passes (insert es p (key, a)) m b → Passes es m b ⊎ ((m ≡ string_bytes key) × (b ≡ a))
      forth h = elim (put_in es p (key, a) (h.name, b) h.there) [
        | inl old ↦ inl (record { name = h.name; is = h.is; there = old })
        | inr e ↦ inr (sym h.is ∙ ap (λ (x : Passed). string_bytes x.0) e, ap (λ (x : Passed). x.1) e)
      ]

      back : Passes es m b ⊎ ((m ≡ string_bytes key) × (b ≡ a)) → Passes (insert es p (key, a)) m b
      back (inl h) = record { name = h.name; is = h.is; there = in_put es p (key, a) (h.name, b) (inl h.there) }
      back (inr r) = record { name = key; is = sym r.0; there = in_put es p (key, a) (key, b) (inr (ap (λ (x : ℕ). (key, x)) r.1)) }

  pub passed_out : RiseByName es → IsAt string_cmp es key p → (m : Name) (b : ℕ) → Passes (remove es p) m b ↔ (Passes es m b × (m ≢ string_bytes key))
  passed_out sorted k m b =
      let out : (y : Passed) → Among y (remove es p) ↔ (Among y es × (string_cmp y.0 k.entry.0 ≢ Equal)) = out_from string_cmp string_cmp_total es p k.entry sorted k.there in
      let named : string_bytes k.entry.0 ≡ string_bytes key = equal_names k.entry.0 key k.equal in (
        λ h.
            let r = (out (h.name, b)).0 h.there in
            (record { name = h.name; is = h.is; there = r.0 }, λ e. r.1 (names_equal h.name k.entry.0 (h.is ∙ e ∙ sym named))),
        λ h. record { name = h.0.name; is = h.0.is; there = (out (h.0.name, b)).1 (h.0.there, λ e. h.1 (sym h.0.is ∙ equal_names h.0.name k.entry.0 e ∙ named)) },
      )

pub passed_kept : (old new : List Passed) (gone : List ℕ) → new ≡ filter (λ e. not (has gone e.1)) old → KeepsPassed old new gone
passed_kept old new gone is n a = (
  λ h.
      let r = among_filtered (λ e. not (has gone e.1)) old (h.name, a) (subst (Among (h.name, a)) is h.there) in
      (record { name = h.name; is = h.is; there = r.0 }, not_false (has gone a) r.1),
  λ h. record { name = h.0.name; is = h.0.is; there = subst (Among (h.0.name, a)) (sym is) (passes (λ e. not (has gone e.1)) old (h.0.name, a) (ap not h.1) h.0.there) },
)

-- ---- ties

code_same : (s t : Tie) → tie_code s ≡ tie_code t → s ≡ t
code_same (Tie.Alias m) (Tie.Alias n) e = ap Tie.Alias (cc e)
code_same (Tie.Alias m) (Tie.Argument k n) e = absurd (cc e)
code_same (Tie.Alias m) (Tie.Dependency k) e = absurd (cc e)
code_same (Tie.Argument j m) (Tie.Alias n) e = absurd (cc e)
code_same (Tie.Argument j m) (Tie.Argument k n) e = let a : j ≡ k = cc e in let b : m ≡ n = cc e in ap (λ x. Tie.Argument x m) a ∙ ap (Tie.Argument k) b
code_same (Tie.Argument j m) (Tie.Dependency k) e = absurd (cc e)
code_same (Tie.Dependency j) (Tie.Alias n) e = absurd (cc e)
code_same (Tie.Dependency j) (Tie.Argument k n) e = absurd (cc e)
code_same (Tie.Dependency j) (Tie.Dependency k) e = ap Tie.Dependency (cc e)

ties_same : (s t : Tie) → tie_cmp s t ≡ Equal → s ≡ t
ties_same s t e = code_same s t (same_name (tie_code s) (tie_code t) e)

ties_equal : (s t : Tie) → s ≡ t → tie_cmp s t ≡ Equal
ties_equal s t e = ap (tie_cmp s) (sym e) ∙ cmp_refl (tie_code s)

abbrev RiseByTie : List (Tie × ℕ) → Type 0
RiseByTie es = IsStrictlySortedBy tie_cmp (map (λ e. e.0) es)

module _ (es : List (Tie × ℕ)) (t : Tie) (p : ℕ) where
  pub tie_here : (k : IsAt tie_cmp es t p) → Among (t, k.entry.1) es
  tie_here k = subst (λ s. Among (s, k.entry.1) es) (ties_same k.entry.0 t k.equal) (among-get es p k.entry k.there)

  pub tie_at : IsAt tie_cmp es t p → (xs : List (Tie × ℕ)) → xs ≡ es → (d : Tie × ℕ) → Among (t, (slice_index_or xs p d).1) es
  tie_at k xs same d = subst (λ (x : Tie × ℕ). Among (t, x.1) es) (sym (ap (λ l. slice_index_or l p d) same ∙ read_at es p k.entry d k.there)) (tie_here k)

  pub no_tie : Belongs tie_cmp es t p → (k : ℕ) → Among (t, k) es → ⊥
  no_tie b k m = none_there tie_cmp tie_cmp_total es t p b (t, k) m (cmp_refl (tie_code t))

  pub tie_put : (k : ℕ) → PutsTie es (insert es p (t, k)) t k
  tie_put k = added (λ x. (put_in es p (t, k) x, in_put es p (t, k) x))

  pub tie_out : RiseByTie es → IsAt tie_cmp es t p → TakesTie es (remove es p) t
  tie_out sorted k x =
      let out = out_from tie_cmp tie_cmp_total es p k.entry sorted k.there x in
      let own : k.entry.0 ≡ t = ties_same k.entry.0 t k.equal in (
        λ m. let r = out.0 m in (r.0, λ e. r.1 (ties_equal x.0 k.entry.0 (e ∙ sym own))),
        λ h. out.1 (h.0, λ e. h.1 (ties_same x.0 k.entry.0 e ∙ own)),
      )

  pub tie_absent : Belongs tie_cmp es t p → TakesTie es es t
  tie_absent b x = (λ m. (m, λ e. no_tie b x.1 (subst (λ s. Among (s, x.1) es) e m)), λ h. h.0)

pub tie_kept : (old new : List (Tie × ℕ)) (gone : List ℕ) → new ≡ filter (λ e. not (has gone (end_of e.0 e.1))) old → KeepsTie old new gone
tie_kept old new gone is x = (
  λ m. let r = among_filtered (λ (e : Tie × ℕ). not (has gone (end_of e.0 e.1))) old x (subst (Among x) is m) in (r.0, not_false (has gone (end_of x.0 x.1)) r.1),
  λ h. subst (Among x) (sym is) (passes (λ (e : Tie × ℕ). not (has gone (end_of e.0 e.1))) old x (ap not h.1) h.0),
)

-- ---- copies

below_same : (s t : String Global) (xs ys : List Passed) → string_bytes t ≡ string_bytes s → shown_passed ys ≡ shown_passed xs
    → AllByRecursion (λ k. string_cmp s k ≡ Less) (map (λ (x : Passed). x.0) xs) → AllByRecursion (λ k. string_cmp t k ≡ Less) (map (λ (x : Passed). x.0) ys)
below_same s t [] [] own same all = tt
below_same s t [] (y ∷ ys) own same all = absurd (cc same)
below_same s t (x ∷ xs) [] own same all = tt
below_same s t (x ∷ xs) (y ∷ ys) own same all =
    let pair : (string_bytes y.0, y.1) ≡ (string_bytes x.0, x.1) = cc same in
    let first : string_bytes y.0 ≡ string_bytes x.0 = ap (λ (p : Name × ℕ). p.0) pair in
    let rest : shown_passed ys ≡ shown_passed xs = cc same in
    (ap (λ n. slice_cmp nat_cmp n (string_bytes y.0)) own ∙ ap (slice_cmp nat_cmp (string_bytes s)) first ∙ all.0, below_same s t xs ys own rest all.1)

pub names_rise : (xs ys : List Passed) → shown_passed ys ≡ shown_passed xs → RiseByName xs → RiseByName ys
unfolding IsStrictlySortedBy
names_rise [] [] same sorted = tt
names_rise [] (y ∷ ys) same sorted = absurd (cc same)
names_rise (x ∷ xs) [] same sorted = tt
names_rise (x ∷ xs) (y ∷ ys) same sorted =
    let pair : (string_bytes y.0, y.1) ≡ (string_bytes x.0, x.1) = cc same in
    let first : string_bytes y.0 ≡ string_bytes x.0 = ap (λ (p : Name × ℕ). p.0) pair in
    let rest : shown_passed ys ≡ shown_passed xs = cc same in
    (below_same x.0 y.0 xs ys first rest sorted.0, names_rise xs ys rest sorted.1)

shown_both : (xs ys : List Passed) → shown_passed (xs ++ ys) ≡ shown_passed xs ++ shown_passed ys
shown_both [] ys = refl
shown_both (x ∷ xs) ys = ap (λ (l : List (Name × ℕ)). (string_bytes x.0, x.1) ∷ l) (shown_both xs ys)

pub shown_more : (xs cs new : List Passed) (i : ℕ) (x y : Passed) → i < length xs → x ≡ get_or xs i x → shown_passed cs ≡ shown_passed (take i xs) → new ≡ cs ++ y ∷ [] → (string_bytes y.0 ≡ string_bytes x.0) × (y.1 ≡ x.1)
    → shown_passed new ≡ shown_passed (take (i + 1) xs)
shown_more xs cs new i x y within is so pushed same =
    let pair : (string_bytes y.0, y.1) ≡ (string_bytes x.0, x.1) = λ j. (same.0 j, same.1 j) in
    ap shown_passed pushed ∙ shown_both cs (y ∷ []) ∙ ap (λ l. l ++ shown_passed (y ∷ [])) so ∙ ap (λ (p : Name × ℕ). shown_passed (take i xs) ++ p ∷ []) pair
    ∙ sym (ap shown_passed (take_more xs i x within ∙ ap (λ d. take i xs ++ d ∷ []) (sym is)) ∙ shown_both (take i xs) (x ∷ []))

pub shown_all : (xs es cs : List Passed) (i : ℕ) → length xs ≤ i → xs ≡ es → shown_passed cs ≡ shown_passed (take i xs) → shown_passed cs ≡ shown_passed es
shown_all xs es cs i past same so = so ∙ ap shown_passed (take_all i xs past ∙ same)

-- the same is passed by names that are the same
abbrev shown : Passed → Name × ℕ
shown x = (string_bytes x.0, x.1)

first_passes : (y : Passed) (ys : List Passed) → Passes (y ∷ ys) (string_bytes y.0) y.1
first_passes y ys = record { name = y.0; is = refl; there = inl refl }

later_passes : (y : Passed) (ys : List Passed) (n : Name) (a : ℕ) → Passes ys n a → Passes (y ∷ ys) n a
later_passes y ys n a h = record { name = h.name; is = h.is; there = inr h.there }

pub passes_same : (xs ys : List Passed) → shown_passed ys ≡ shown_passed xs → (n : Name) (a : ℕ) → Passes xs n a → Passes ys n a
passes_same [] ys same n a h = absurd h.there
passes_same (x ∷ xs) [] same n a h = absurd (cc same)
passes_same (x ∷ xs) (y ∷ ys) same n a h = by_place (passes_same xs ys (cc same) n a) h.there
  where
    pair : shown y ≡ shown x
    pair = cc same

    by_place : (Passes xs n a → Passes ys n a) → Among (h.name, a) (x ∷ xs) → Passes (y ∷ ys) n a
    by_place later (inl e) =
        let number : y.1 ≡ a = ap (λ (p : Name × ℕ). p.1) pair ∙ sym (ap (λ (p : Passed). p.1) e) in
        let name : string_bytes y.0 ≡ n = ap (λ (p : Name × ℕ). p.0) pair ∙ sym (ap (λ (p : Passed). string_bytes p.0) e) ∙ h.is in
        subst (λ k. Passes (y ∷ ys) n k) number (subst (λ m. Passes (y ∷ ys) m y.1) name (first_passes y ys))
    by_place later (inr m) = later_passes y ys n a (later (record { name = h.name; is = h.is; there = m }))
