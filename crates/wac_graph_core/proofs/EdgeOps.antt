-- What each change of edges leaves.
use Rattle.std.proofs.Common.{◌≡◌, ◌≢◌, ◌⊎◌, ◌↔◌, ◌+◌, ◌<◌, ◌≤◌, ℕ, zero, suc, true, false, List, [], ◌∷◌, ◌++◌, length, get_or, Option, Some, None, Result, Ok, Err, OnErr, refl, sym, ap, ◌∙◌, subst, slice_get, inl, inr, arith}
use Rattle.std.specs.Prelude.{vec_len, vec_capacity}
use Rattle.std.proofs.lemmas.Bool.{cases_eq}
use Rattle.std.proofs.lemmas.Option.{slice_get-get_or, same_Some}
use Rattle.wac_types_base.specs.Entries.{Name}
use Rattle.wac_types_base.specs.Graph.{Among}
use Rattle.wac_types_base.proofs.Walking.{some_place}
use Rattle.wac_graph_core.specs.declared.edge.Edge.{Edge}
use Rattle.wac_graph_core.specs.declared.tie.Tie.{Tie}
use Rattle.wac_graph_core.specs.declared.ties.Ties.{Ties}
use Rattle.wac_graph_core.specs.Edges.{alias_edge, argument_edge, dependency_edge, HasAlias, HasArgument, AreEdges, AddsEach, IsMadeOf}
use Rattle.wac_graph_core.specs.Ties.{edge_of, end_of, edges_in, dependants_in, dependants_at, arguments_in, arguments_at, source_in, source_at, Passed, Passes, AreTied, AddsDependencies}
use Rattle.wac_graph_core.specs.TieSteps.{TakesTie, PutsPassed, TakesPassed, taken, not_passed, HasRoom, IsReady, IsRoomier, PutsDependant, PutsArgument, TakesArgument, DropsDependant, PutsEach, SetsSource, LeavesAll, SameTies, AreSamePassed}
use Rattle.wac_graph_core.proofs.PlaceSteps.{get_before, get_set_same, get_set_other}
use Rattle.wac_graph_core.proofs.TieKeys.{passes_same}
use Rattle.wac_graph_core.proofs.TiedEdges.{same_from, tie_alias, takes_argument}
use Rattle.wac_graph_core.proofs.Tying.{tied_same, tied_other, tied_alias, tied_argument, tied_unset, tied_left}
use Rattle.wac_graph_core.proofs.Placing.{set_shown, none_there, ready_room, put_edges, put_arguments, put_sources, left_edges, left_arguments, left_sources}

abbrev pub Tied : List Ties → Type 0
Tied ts = AreTied (edges_in ts) (arguments_at ts) (source_at ts)

pub same_edges : (ts us : List Ties) → ((j : ℕ) → dependants_at us j ≡ dependants_at ts j) → edges_in us ≡ edges_in ts
same_edges ts us same = same_from ts us 0 same

pub tied_roomier : (ts us : List Ties) → IsRoomier ts us → Tied ts → Tied us
tied_roomier ts us r tied = tied_same (edges_in ts) (edges_in us) (arguments_at ts) (arguments_at us) (source_at ts) (source_at us) tied (same_edges ts us r.dependants) r.arguments r.sources

-- ---- an alias

module _ (ts us : List Ties) (k i : ℕ) (n : Name) (s : SetsSource ts us k i n) where
  sourced : Ties
  sourced = record s.at { source = Some (i, n) }

  pub sourced_dependants : (j : ℕ) → dependants_at us j ≡ dependants_at ts j
  sourced_dependants j = ap (λ l. dependants_at l j) s.made ∙ set_shown dependants_in ts k s.at (record s.at { source = Some (i, n) }) s.there refl j

  pub sourced_arguments : (j : ℕ) → arguments_at us j ≡ arguments_at ts j
  sourced_arguments j = ap (λ l. arguments_at l j) s.made ∙ set_shown arguments_in ts k s.at (record s.at { source = Some (i, n) }) s.there refl j

  pub sourced_own : source_at us k ≡ Some (i, n)
  sourced_own = ap (λ l. source_at l k) s.made ∙ ap source_in (get_set_same ts k (record s.at { source = Some (i, n) }) s.at s.there)

  pub sourced_other : (j : ℕ) → j ≢ k → source_at us j ≡ source_at ts j
  sourced_other j ne = ap (λ l. source_at l j) s.made ∙ ap source_in (get_set_other ts k j (record s.at { source = Some (i, n) }) ne)

  pub sourced_ready : (j : ℕ) (t : Tie) → HasRoom ts j 1 → IsReady us j t
  sourced_ready j t h = ready_room us j t (elim (cases_eq j k) [
    | inl e ↦
        let same : h.at ≡ s.at = same_Some _ _ (sym h.there ∙ ap (slice_get ts) e ∙ s.there) in
        record { at = record s.at { source = Some (i, n) }; there = ap (slice_get us) e ∙ ap (λ l. slice_get l k) s.made ∙ get_set_same ts k (record s.at { source = Some (i, n) }) s.at s.there; room = subst (λ (x : Ties). vec_len x.dependants + 1 ≤ vec_capacity x.dependants) same h.room }
    | inr ne ↦ record { at = h.at; there = ap (λ l. slice_get l j) s.made ∙ get_set_other ts k j (record s.at { source = Some (i, n) }) ne ∙ h.there; room = h.room }
  ])

module _ (ts t2 t3 t4 : List Ties) (i k : ℕ) (n : Name) (t : Tie) (is : t ≡ Tie.Alias n) (r : IsRoomier ts t2) (s : SetsSource t2 t3 k i n) (p : PutsDependant t3 t4 i t k) where
  before : (j : ℕ) → dependants_at t3 j ≡ dependants_at ts j
  before j = sourced_dependants t2 t3 k i n s j ∙ r.dependants j

  pub alias_edges : ((j : ℕ) → HasAlias (edges_in ts) i n j → ⊥) → AreEdges (edges_in t4) (λ d. Among d (edges_in ts) ⊎ (d ≡ alias_edge i k n))
  alias_edges none =
      subst (λ x. AreEdges (edges_in t4) (λ d. Among d (edges_in ts) ⊎ (d ≡ edge_of i (x, k)))) is
      (subst (λ es. AreEdges (edges_in t4) (λ d. Among d es ⊎ (d ≡ edge_of i (t, k)))) (same_edges ts t3 before)
      (put_edges t3 t4 i t k p (λ j m. absurd (none j (tie_alias ts i j n (subst (λ x. Among (x, j) (dependants_at ts i)) is (subst (Among (t, j)) (before i) m)))))))

  pub alias_tied : ((j : ℕ) → HasAlias (edges_in ts) i n j → ⊥) → ((j : ℕ) (m : Name) → HasAlias (edges_in ts) j m k → ⊥) → Tied ts → Tied t4
  alias_tied none free tied =
      tied_alias (edges_in ts) (edges_in t4) (arguments_at ts) (arguments_at t4) (source_at ts) (source_at t4) tied i k n (alias_edges none) free
      (λ j. put_arguments t3 t4 i t k p j ∙ sourced_arguments t2 t3 k i n s j ∙ r.arguments j)
      (λ j ne. put_sources t3 t4 i t k p j ∙ sourced_other t2 t3 k i n s j ne ∙ r.sources j)
      (put_sources t3 t4 i t k p k ∙ sourced_own t2 t3 k i n s)

-- ---- an argument

module _ (ts us : List Ties) (i a : ℕ) (n : Name) (p : PutsArgument ts us i n a) where
  pub passed_dependants : (j : ℕ) → dependants_at us j ≡ dependants_at ts j
  passed_dependants j = ap (λ l. dependants_at l j) p.made ∙ set_shown dependants_in ts i p.at (record p.at { arguments = p.list }) p.there refl j

  pub passed_sources : (j : ℕ) → source_at us j ≡ source_at ts j
  passed_sources j = ap (λ l. source_at l j) p.made ∙ set_shown source_in ts i p.at (record p.at { arguments = p.list }) p.there refl j

  pub passed_other : (j : ℕ) → j ≢ i → arguments_at us j ≡ arguments_at ts j
  passed_other j ne = ap (λ l. arguments_at l j) p.made ∙ ap arguments_in (get_set_other ts i j (record p.at { arguments = p.list }) ne)

  pub passed_own : arguments_at us i ≡ p.list.items
  passed_own = ap (λ l. arguments_at l i) p.made ∙ ap arguments_in (get_set_same ts i (record p.at { arguments = p.list }) p.at p.there)

  pub passed_ready : (j : ℕ) (t : Tie) → HasRoom ts j 1 → IsReady us j t
  passed_ready j t h = ready_room us j t (elim (cases_eq j i) [
    | inl e ↦
        let same : h.at ≡ p.at = same_Some _ _ (sym h.there ∙ ap (slice_get ts) e ∙ p.there) in
        record { at = record p.at { arguments = p.list }; there = ap (slice_get us) e ∙ ap (λ l. slice_get l i) p.made ∙ get_set_same ts i (record p.at { arguments = p.list }) p.at p.there; room = subst (λ (x : Ties). vec_len x.dependants + 1 ≤ vec_capacity x.dependants) same h.room }
    | inr ne ↦ record { at = h.at; there = ap (λ l. slice_get l j) p.made ∙ get_set_other ts i j (record p.at { arguments = p.list }) ne ∙ h.there; room = h.room }
  ])

module _ (ts t2 t3 t4 : List Ties) (a i : ℕ) (n : Name) (t : Tie) (is : t ≡ Tie.Argument i n) (r : IsRoomier ts t2) (s : PutsArgument t2 t3 i n a) (p : PutsDependant t3 t4 a t i) where
  earlier : (j : ℕ) → dependants_at t3 j ≡ dependants_at ts j
  earlier j = passed_dependants t2 t3 i a n s j ∙ r.dependants j

  ends : (j : ℕ) → end_of t j ≡ end_of t i
  ends j = ap (λ x. end_of x j) is ∙ sym (ap (λ x. end_of x i) is)

  pub argument_edges : AreEdges (edges_in t4) (λ d. Among d (edges_in ts) ⊎ (d ≡ argument_edge a i n))
  argument_edges =
      subst (λ x. AreEdges (edges_in t4) (λ d. Among d (edges_in ts) ⊎ (d ≡ edge_of a (x, i)))) is
      (subst (λ es. AreEdges (edges_in t4) (λ d. Among d es ⊎ (d ≡ edge_of a (t, i)))) (same_edges ts t3 earlier) (put_edges t3 t4 a t i p (λ j m. ends j)))

  own_put : PutsPassed (arguments_at ts i) (arguments_at t4 i) n a
  own_put =
      subst (λ xs. PutsPassed xs (arguments_at t4 i) n a) (sym (ap arguments_in s.there) ∙ r.arguments i)
      (subst (λ ys. PutsPassed s.at.arguments.items ys n a) (sym (put_arguments t3 t4 a t i p i ∙ passed_own t2 t3 i a n s)) s.put)

  pub argument_tied : Tied ts → Tied t4
  argument_tied tied =
      tied_argument (edges_in ts) (edges_in t4) (arguments_at ts) (arguments_at t4) (source_at ts) (source_at t4) tied a i n argument_edges
      (λ j ne. put_arguments t3 t4 a t i p j ∙ passed_other t2 t3 i a n s j ne ∙ r.arguments j) own_put
      (λ j. put_sources t3 t4 a t i p j ∙ passed_sources t2 t3 i a n s j ∙ r.sources j)

-- ---- an argument taken back

taken_was : (xs ys : List Passed) (n : Name) (a : ℕ) → TakesPassed xs ys n a true → Passes xs n a × (((b : ℕ) → Passes xs n b → b ≡ a) × ((m : Name) (b : ℕ) → Passes ys m b ↔ (Passes xs m b × (m ≢ n))))
taken_was xs ys n a (taken h one so) = (h, (one, so))

not_taken : (xs ys : List Passed) (n : Name) (a : ℕ) → TakesPassed xs ys n a false → (Passes xs n a → ⊥) × (ys ≡ xs)
not_taken xs ys n a (not_passed h same) = (h, same)

module _ (ts t2 t3 : List Ties) (a i : ℕ) (n : Name) (t : Tie) (is : t ≡ Tie.Argument i n) (s : TakesArgument ts t2 i n a true) (p : DropsDependant t2 t3 a t) where
  pub unset_edges : AreEdges (edges_in t3) (λ d. Among d (edges_in ts) × (d ≢ argument_edge a i n))
  unset_edges = takes_argument ts t3 a (λ j ne. p.others j ne ∙ s.dependants j) i n (subst (λ x. TakesTie (dependants_at ts a) (dependants_at t3 a) x) is (subst (λ xs. TakesTie xs (dependants_at t3 a) t) (s.dependants a) p.take))

  pub unset_tied : Tied ts → Tied t3
  unset_tied tied =
      let w = taken_was (arguments_at ts i) (arguments_at t2 i) n a s.take in
      tied_unset (edges_in ts) (edges_in t3) (arguments_at ts) (arguments_at t3) (source_at ts) (source_at t3) tied a i n unset_edges (λ j ne. p.arguments j ∙ s.others j ne) w.1.0
      (subst (λ ys. (m : Name) (b : ℕ) → Passes ys m b ↔ (Passes (arguments_at ts i) m b × (m ≢ n))) (sym (p.arguments i)) w.1.1)
      (λ j. p.sources j ∙ s.sources j)

module _ (ts t2 : List Ties) (a i : ℕ) (n : Name) (s : TakesArgument ts t2 i n a false) where
  kept_arguments : (j : ℕ) → arguments_at t2 j ≡ arguments_at ts j
  kept_arguments j = elim (cases_eq j i) [
    | inl e ↦ ap (arguments_at t2) e ∙ (not_taken (arguments_at ts i) (arguments_at t2 i) n a s.take).1 ∙ ap (arguments_at ts) (sym e)
    | inr ne ↦ s.others j ne
  ]

  pub kept_tied : Tied ts → Tied t2
  kept_tied tied = tied_same (edges_in ts) (edges_in t2) (arguments_at ts) (arguments_at t2) (source_at ts) (source_at t2) tied (same_edges ts t2 s.dependants) kept_arguments s.sources

  pub kept_edges : Tied ts → AreEdges (edges_in t2) (λ d. Among d (edges_in ts) × (d ≢ argument_edge a i n))
  kept_edges tied d =
      let same = same_edges ts t2 s.dependants in (
        λ m.
            let old = subst (Among d) same m in
            (old, λ e. (not_taken (arguments_at ts i) (arguments_at t2 i) n a s.take).0 ((tied.passed i a n).0 (subst (λ x. Among x (edges_in ts)) e old))),
        λ h. subst (Among d) (sym same) h.0,
      )

-- ---- dependencies

module _ (ts t2 t3 t4 : List Ties) (k : ℕ) (sources targets : List ℕ) (r : IsRoomier ts t2) (p : PutsEach (λ a. dependency_edge a k) t2 t3 sources) (q : PutsEach (λ b. dependency_edge k b) t3 t4 targets) where
  pub dependencies_added : AddsDependencies (edges_in ts) (edges_in t4) k sources targets
  dependencies_added = record {
    mid = edges_in t3;
    first = subst (λ es. AddsEach (λ a. dependency_edge a k) es (edges_in t3) sources) (same_edges ts t2 r.dependants) p.edges;
    second = q.edges;
  }

  pub dependencies_tied : Tied ts → Tied t4
  dependencies_tied tied =
      let mid : Tied t3 = tied_other (edges_in t2) (edges_in t3) (arguments_at t2) (arguments_at t3) (source_at t2) (source_at t3) (tied_roomier ts t2 r tied)
      (IsMadeOf (λ a. dependency_edge a k) sources) (λ d m. ap (λ (e : Edge). e.label) m.2) p.edges p.arguments p.sources in
      tied_other (edges_in t3) (edges_in t4) (arguments_at t3) (arguments_at t4) (source_at t3) (source_at t4) mid
      (IsMadeOf (λ b. dependency_edge k b) targets) (λ d m. ap (λ (e : Edge). e.label) m.2) q.edges q.arguments q.sources

-- ---- what is left

pub all_left : (gone : List ℕ) (ts us : List Ties) → LeavesAll gone ts us → Tied ts → Tied us
all_left gone ts us l tied =
    tied_left (edges_in ts) (edges_in us) (arguments_at ts) (arguments_at us) (source_at ts) (source_at us) tied gone (left_edges gone ts us l) (left_arguments gone ts us l) (left_sources gone ts us l)

-- ---- copies

-- so many are copied
pub record AreCopies (ts us : List Ties) (at : ℕ) : Type 0 where
  pub length_is : length us ≡ at
  pub same : (i : ℕ) (t : Ties) → i < at → slice_get ts i ≡ Some t → (u : Ties) × (slice_get us i ≡ Some u) × SameTies t u

pub copies_begin : (ts : List Ties) → AreCopies ts [] 0
copies_begin ts = record { length_is = refl; same = λ i t h. absurd (omega (arith, h)) }

last_get : (us : List Ties) (u : Ties) (i : ℕ) → length us ≡ i → slice_get (us ++ u ∷ []) i ≡ Some u
last_get [] u zero e = refl
last_get [] u (suc i) e = absurd (omega (arith, e))
last_get (t ∷ us) u zero e = absurd (omega (arith, e))
last_get (t ∷ us) u (suc i) e = last_get us u i (omega (arith, e))

longer_by_one : (us : List Ties) (u : Ties) → length (us ++ u ∷ []) ≡ length us + 1
longer_by_one [] u = refl
longer_by_one (t ∷ us) u = let ih = longer_by_one us u in omega (arith, ih)

pub copies_next : (ts us new : List Ties) (at : ℕ) (t u : Ties) → at < length ts → t ≡ get_or ts at t → SameTies t u → new ≡ us ++ u ∷ [] → AreCopies ts us at → AreCopies ts new (at + 1)
copies_next ts us new at t u within is own pushed so =
    subst (λ l. AreCopies ts l (at + 1)) (sym pushed) (record {
      length_is = longer_by_one us u ∙ ap (λ n. n + 1) so.length_is;
      same = λ i x h was. elim (cases_eq i at) [
        | inl e ↦
            let one : t ≡ x = same_Some _ _ (sym (slice_get-get_or ts at t within ∙ ap Some (sym is)) ∙ ap (slice_get ts) (sym e) ∙ was) in
            (u, last_get us u i (so.length_is ∙ sym e), subst (λ y. SameTies y u) one own)
        | inr ne ↦ let r = so.same i x (omega (arith, h, ne)) was in (r.0, get_before us u i r.0 r.1, r.2)
      ];
    })

module _ (ts us : List Ties) (all : length us ≡ length ts) (so : (i : ℕ) (t : Ties) → i < length ts → slice_get ts i ≡ Some t → (u : Ties) × (slice_get us i ≡ Some u) × SameTies t u) where
  by_place : {X : Type 0} (f : Option Ties → X) (Rel : X → X → Type 0) → Rel (f None) (f None) → ((t u : Ties) → SameTies t u → Rel (f (Some t)) (f (Some u))) → (j : ℕ) → Rel (f (slice_get ts j)) (f (slice_get us j))
  by_place f Rel none some j = go (slice_get ts j) refl
    where
      go : (o : Option Ties) → slice_get ts j ≡ o → Rel (f (slice_get ts j)) (f (slice_get us j))
      go None at = subst (λ o. Rel (f o) (f (slice_get us j))) (sym at) (subst (λ o. Rel (f None) (f o)) (sym (none_there ts us j all at)) none)
      go (Some t) at =
          let r = so j t (some_place ts j t at) at in
          subst (λ o. Rel (f o) (f (slice_get us j))) (sym at) (subst (λ o. Rel (f (Some t)) (f o)) (sym r.1) (some t r.0 r.2))

  pub copied_edges : edges_in us ≡ edges_in ts
  copied_edges = same_edges ts us (by_place dependants_in (λ x y. y ≡ x) refl (λ t u s. s.dependants))

  copied_arguments : (j : ℕ) → AreSamePassed (arguments_at ts j) (arguments_at us j)
  copied_arguments = by_place arguments_in (λ x y. AreSamePassed x y) refl (λ t u s. s.arguments)

  copied_sources : (j : ℕ) → source_at us j ≡ source_at ts j
  copied_sources = by_place source_in (λ x y. y ≡ x) refl (λ t u s. s.source)

  pub copied_tied : Tied ts → Tied us
  copied_tied tied = record {
    passed = λ i a n. (
      λ h. passes_same (arguments_at ts i) (arguments_at us i) (copied_arguments i) n a ((tied.passed i a n).0 (subst (Among (argument_edge a i n)) copied_edges h)),
      λ h. subst (Among (argument_edge a i n)) (sym copied_edges) ((tied.passed i a n).1 (passes_same (arguments_at us i) (arguments_at ts i) (sym (copied_arguments i)) n a h)),
    );
    aliased = λ i k n. (
      λ h. copied_sources k ∙ (tied.aliased i k n).0 (subst (Among (alias_edge i k n)) copied_edges h),
      λ h. subst (Among (alias_edge i k n)) (sym copied_edges) ((tied.aliased i k n).1 (sym (copied_sources k) ∙ h)),
    );
  }

pub copies_all : (ts us : List Ties) (at : ℕ) → length ts ≤ at → at ≤ length ts → AreCopies ts us at → (length us ≡ length ts) × ((i : ℕ) (t : Ties) → i < length ts → slice_get ts i ≡ Some t → (u : Ties) × (slice_get us i ≡ Some u) × SameTies t u)
copies_all ts us at past within so = (omega (arith, past, within, so.length_is), λ i t h was. so.same i t (omega (arith, past, h)) was)

-- ---- answers

pub on_err : {T E : Type 0} {P : Type 0} (r : Result T E) → P → OnErr r P
on_err (Ok x) p = tt
on_err (Err x) p = p

pub same_after : (ts us : List Ties) (es : List Edge) → IsRoomier ts us → edges_in ts ≡ es → edges_in us ≡ es
same_after ts us es r is = same_edges ts us r.dependants ∙ is

pub none_here : (ts us : List Ties) (i : ℕ) (n : Name) → IsRoomier ts us → Tied ts → ((a : ℕ) → HasArgument (edges_in ts) i n a → ⊥) → (a : ℕ) → Passes (arguments_at us i) n a → ⊥
none_here ts us i n r tied none a h = none a ((tied.passed i a n).1 (subst (λ xs. Passes xs n a) (r.arguments i) h))
