-- What is kept of nodes in their places: what room leaves, and what single steps change.
use Rattle.std.proofs.Common.{◌≡◌, ◌≢◌, ◌⊎◌, ◌↔◌, ◌+◌, ◌-◌, ◌<◌, ◌≤◌, ℕ, zero, suc, Bool, true, false, cond, List, [], ◌∷◌, ◌++◌, length, take, get_or, Option, Some, None, refl, sym, ap, Result, Ok, Err, OnOk, ◌∙◌, subst, slice_get, slice_set, inl, inr, arith}
use Rattle.std.specs.Prelude.{vec_len, vec_capacity}
use Rattle.std.specs.Global.{Vec}
use Rattle.std.proofs.lemmas.Bool.{cases_eq}
use Rattle.std.proofs.lemmas.Option.{slice_get-get_or, slice_get_past, same_Some}
use Rattle.wac_types_base.specs.Entries.{Name}
use Rattle.wac_types_base.specs.Graph.{Among}
use Rattle.wac_types_base.proofs.Walking.{some_place}
use Rattle.wac_graph_core.specs.declared.edge.Edge.{Edge}
use Rattle.wac_graph_core.specs.declared.tie.Tie.{Tie}
use Rattle.wac_graph_core.specs.declared.ties.Ties.{Ties}
use Rattle.wac_graph_core.specs.Edges.{has, AreEdges, Stays, dependency_edge}
use Rattle.wac_graph_core.specs.Ties.{edge_of, end_of, edges_in, dependants_in, dependants_at, arguments_in, arguments_at, source_in, source_at, Passes}
use Rattle.wac_graph_core.specs.TieSteps.{LacksTie, PutsTie, there, added, HasRoom, IsReady, HasPlace, IsRoomier, TakesTie, PutsDependant, DropsDependant, PutsEach, LeavesTies, LeavesAll, source_left}
use Rattle.wac_graph_core.proofs.PlaceSteps.{get_before, get_set_same, get_set_other}
use Rattle.std.proofs.lemmas.List.{take_more}
use Rattle.wac_graph_core.proofs.Walks.{has-push}
use Rattle.wac_graph_core.proofs.Depending.{none_made, next_so, all_made}
use Rattle.wac_graph_core.proofs.Following.{here}
use Rattle.wac_graph_core.proofs.TiedEdges.{of_edge, kept_edge, puts_edge}

-- ---- room

pub roomier_self : (ts : List Ties) → IsRoomier ts ts
roomier_self ts = record { dependants = λ j. refl; arguments = λ j. refl; sources = λ j. refl; longer = omega arith; rooms = λ j n h. h; places = λ j h. h }

pub roomier_on : (ts us vs : List Ties) → IsRoomier ts us → IsRoomier us vs → IsRoomier ts vs
roomier_on ts us vs a b = record {
  dependants = λ j. b.dependants j ∙ a.dependants j;
  arguments = λ j. b.arguments j ∙ a.arguments j;
  sources = λ j. b.sources j ∙ a.sources j;
  longer = omega (arith, a.longer, b.longer);
  rooms = λ j n h. b.rooms j n (a.rooms j n h);
  places = λ j h. b.places j (a.places j h);
}

last_shown : {X : Type 0} (f : Option Ties → X) (us : List Ties) (u : Ties) → f (Some u) ≡ f None → (j : ℕ) → f (slice_get (us ++ u ∷ []) j) ≡ f (slice_get us j)
last_shown f [] u same zero = same
last_shown f [] u same (suc j) = refl
last_shown f (t ∷ us) u same zero = refl
last_shown f (t ∷ us) u same (suc j) = last_shown f us u same j

one_longer : (us : List Ties) (u : Ties) → length (us ++ u ∷ []) ≡ length us + 1
one_longer [] u = refl
one_longer (t ∷ us) u = let ih = one_longer us u in omega (arith, ih)

pub roomier_last : (us : List Ties) (u : Ties) → u.dependants.items ≡ [] → u.arguments.items ≡ [] → u.source ≡ None → IsRoomier us (us ++ u ∷ [])
roomier_last us u a b c = record {
  dependants = last_shown dependants_in us u a;
  arguments = last_shown arguments_in us u b;
  sources = last_shown source_in us u c;
  longer = let more = one_longer us u in omega (arith, more);
  rooms = λ j n h. record { at = h.at; there = get_before us u j h.at h.there; room = h.room };
  places = λ j h. record { at = h.at; there = get_before us u j h.at h.there; room = h.room };
}

pub set_shown : {X : Type 0} (f : Option Ties → X) (us : List Ties) (i : ℕ) (t u : Ties) → slice_get us i ≡ Some t → f (Some u) ≡ f (Some t) → (j : ℕ) → f (slice_get (slice_set us i u) j) ≡ f (slice_get us j)
set_shown f us i t u here same j = elim (cases_eq j i) [
  | inl e ↦ ap (λ k. f (slice_get (slice_set us i u) k)) e ∙ ap f (get_set_same us i u t here) ∙ same ∙ ap f (sym here) ∙ ap (λ k. f (slice_get us k)) (sym e)
  | inr ne ↦ ap f (get_set_other us i j u ne)
]

same_length : (us : List Ties) (i : ℕ) (u : Ties) → length (slice_set us i u) ≡ length us
same_length [] i u = refl
same_length (t ∷ us) zero u = refl
same_length (t ∷ us) (suc i) u = let ih = same_length us i u in omega (arith, ih)

module _ (us : List Ties) (i : ℕ) (t u : Ties) (here : slice_get us i ≡ Some t) where
  other_slot : (j : ℕ) → j ≢ i → slice_get (slice_set us i u) j ≡ slice_get us j
  other_slot j ne = get_set_other us i j u ne

  own_slot : (j : ℕ) (x : Ties) → j ≡ i → slice_get us j ≡ Some x → (x ≡ t) × (slice_get (slice_set us i u) j ≡ Some u)
  own_slot j x e at = (same_Some _ _ (sym at ∙ ap (slice_get us) e ∙ here), ap (slice_get (slice_set us i u)) e ∙ get_set_same us i u t here)

  pub roomier_set : u.dependants.items ≡ t.dependants.items → vec_len u.dependants ≡ vec_len t.dependants → vec_capacity t.dependants ≤ vec_capacity u.dependants
      → u.arguments.items ≡ t.arguments.items → vec_len u.arguments ≡ vec_len t.arguments → vec_capacity t.arguments ≤ vec_capacity u.arguments → u.source ≡ t.source → IsRoomier us (slice_set us i u)
  roomier_set a len cap b len_b cap_b c = record {
    dependants = set_shown dependants_in us i t u here a;
    arguments = set_shown arguments_in us i t u here b;
    sources = set_shown source_in us i t u here c;
    longer = let same = same_length us i u in omega (arith, same);
    rooms = λ j n h. elim (cases_eq j i) [
      | inl e ↦
          let r = own_slot j h.at e h.there in
          let was : vec_len t.dependants + n ≤ vec_capacity t.dependants = subst (λ (x : Ties). vec_len x.dependants + n ≤ vec_capacity x.dependants) r.0 h.room in
          record { at = u; there = r.1; room = omega (arith, was, len, cap) }
      | inr ne ↦ record { at = h.at; there = other_slot j ne ∙ h.there; room = h.room }
    ];
    places = λ j h. elim (cases_eq j i) [
      | inl e ↦
          let r = own_slot j h.at e h.there in
          let was : vec_len t.arguments + 1 ≤ vec_capacity t.arguments = subst (λ (x : Ties). vec_len x.arguments + 1 ≤ vec_capacity x.arguments) r.0 h.room in
          record { at = u; there = r.1; room = omega (arith, was, len_b, cap_b) }
      | inr ne ↦ record { at = h.at; there = other_slot j ne ∙ h.there; room = h.room }
    ];
  }

-- ---- a tie put at a node

pub ready_room : (ts : List Ties) (i : ℕ) (t : Tie) → HasRoom ts i 1 → IsReady ts i t
ready_room ts i t h = record { at = h.at; there = h.there; room = λ lacks. h.room }

module _ (ts us : List Ties) (i : ℕ) (t : Tie) (k : ℕ) (p : PutsDependant ts us i t k) where
  new_ties : Ties
  new_ties = record p.at { dependants = p.list }

  own : slice_get us i ≡ Some (record p.at { dependants = p.list })
  own = ap (λ l. slice_get l i) p.made ∙ get_set_same ts i (record p.at { dependants = p.list }) p.at p.there

  pub put_other : (j : ℕ) → j ≢ i → slice_get us j ≡ slice_get ts j
  put_other j ne = ap (λ l. slice_get l j) p.made ∙ get_set_other ts i j (record p.at { dependants = p.list }) ne

  pub put_arguments : (j : ℕ) → arguments_at us j ≡ arguments_at ts j
  put_arguments j = ap (λ l. arguments_at l j) p.made ∙ set_shown arguments_in ts i p.at (record p.at { dependants = p.list }) p.there refl j

  pub put_sources : (j : ℕ) → source_at us j ≡ source_at ts j
  put_sources j = ap (λ l. source_at l j) p.made ∙ set_shown source_in ts i p.at (record p.at { dependants = p.list }) p.there refl j

  put_here : PutsTie (dependants_at ts i) (dependants_at us i) t k
  put_here = subst (λ xs. PutsTie xs (dependants_at us i) t k) (sym (ap dependants_in p.there)) (subst (λ ys. PutsTie p.at.dependants.items ys t k) (sym (ap dependants_in own)) p.put)

  pub put_edges : ((j : ℕ) → Among (t, j) (dependants_at ts i) → end_of t j ≡ end_of t k) → AreEdges (edges_in us) (λ d. Among d (edges_in ts) ⊎ (d ≡ edge_of i (t, k)))
  put_edges free = puts_edge ts us i (λ j ne. ap dependants_in (put_other j ne)) t k put_here free

  put_lacks : PutsTie p.at.dependants.items p.list.items t k → LacksTie p.list.items t → ⊥
  put_lacks (there j m same) lacks = lacks j (subst (Among (t, j)) (sym same) m)
  put_lacks (added so) lacks = lacks k ((so (t, k)).1 (inr refl))

  pub put_ready : (j : ℕ) → IsReady ts j t → IsReady us j t
  put_ready j h = elim (cases_eq j i) [
    | inl e ↦ record { at = record p.at { dependants = p.list }; there = ap (slice_get us) e ∙ own; room = λ lacks. absurd (put_lacks p.put lacks) }
    | inr ne ↦ record { at = h.at; there = put_other j ne ∙ h.there; room = h.room }
  ]

  pub put_room : (n : ℕ) → HasRoom ts i (n + 1) → HasRoom us i n
  put_room n h =
      let same : h.at ≡ p.at = same_Some _ _ (sym h.there ∙ p.there) in
      let was : vec_len p.at.dependants + (n + 1) ≤ vec_capacity p.at.dependants = subst (λ (x : Ties). vec_len x.dependants + (n + 1) ≤ vec_capacity x.dependants) same h.room in
      record { at = record p.at { dependants = p.list }; there = own; room = omega (arith, was, p.len, p.capacity) }

  pub put_room_other : (j n : ℕ) → j ≢ i → HasRoom ts j n → HasRoom us j n
  put_room_other j n ne h = record { at = h.at; there = put_other j ne ∙ h.there; room = h.room }

-- ---- what is read and written at an index

pub at_index : (ts : List Ties) (i j : ℕ) (d : Ties) → j ≡ i → i < length ts → d ≡ get_or ts j d → slice_get ts i ≡ Some d
at_index ts i j d e within value = slice_get-get_or ts i d within ∙ ap Some (sym (value ∙ ap (λ k. get_or ts k d) e))

module _ (us : List Ties) (i j : ℕ) (d u : Ties) (e : j ≡ i) (here : slice_get us i ≡ Some d) where
  at_own : slice_get (slice_set us j u) i ≡ Some u
  at_own = ap (λ k. slice_get (slice_set us k u) i) e ∙ get_set_same us i u d here

  pub roomier_at : (ts : List Ties) → IsRoomier ts us → u.dependants.items ≡ d.dependants.items → vec_len u.dependants ≡ vec_len d.dependants → vec_capacity d.dependants ≤ vec_capacity u.dependants
      → u.arguments.items ≡ d.arguments.items → vec_len u.arguments ≡ vec_len d.arguments → vec_capacity d.arguments ≤ vec_capacity u.arguments → u.source ≡ d.source → IsRoomier ts (slice_set us j u)
  roomier_at ts before a len cap b len_b cap_b c =
      roomier_on ts us (slice_set us j u) before (subst (λ k. IsRoomier us (slice_set us k u)) (sym e) (roomier_set us i d u here a len cap b len_b cap_b c))

  pub room_at : {T E : Type 0} (r : Result T E) (n : ℕ) → OnOk r (vec_len u.dependants + n ≤ vec_capacity u.dependants) → OnOk r (HasRoom (slice_set us j u) i n)
  room_at (Ok x) n h = record { at = u; there = at_own; room = h }
  room_at (Err x) n h = tt

  pub place_at : {T E : Type 0} (r : Result T E) → OnOk r (vec_len u.arguments + 1 ≤ vec_capacity u.arguments) → OnOk r (HasPlace (slice_set us j u) i)
  place_at (Ok x) h = record { at = u; there = at_own; room = h }
  place_at (Err x) h = tt

pub drops_at : (ts : List Ties) (i j : ℕ) (t : Tie) (d : Ties) (list : Vec (Tie × ℕ)) → j ≡ i → i < length ts → d ≡ get_or ts j d → TakesTie d.dependants.items list.items t → DropsDependant ts (slice_set ts j (record d { dependants = list })) i t
drops_at ts i j t d list e within value take =
    let there = at_index ts i j d e within value in
    subst (λ k. DropsDependant ts (slice_set ts k (record d { dependants = list })) i t) (sym e) (record {
      take = subst (λ xs. TakesTie xs (dependants_at (slice_set ts i (record d { dependants = list })) i) t) (sym (ap dependants_in there))
          (subst (λ ys. TakesTie d.dependants.items ys t) (sym (ap dependants_in (get_set_same ts i (record d { dependants = list }) d there))) take);
      others = λ k ne. ap dependants_in (get_set_other ts i k (record d { dependants = list }) ne);
      arguments = set_shown arguments_in ts i d (record d { dependants = list }) there refl;
      sources = set_shown source_in ts i d (record d { dependants = list }) there refl;
    })

pub drops_none : (ts : List Ties) (i : ℕ) (t : Tie) → length ts ≤ i → DropsDependant ts ts i t
drops_none ts i t past =
    let none : dependants_at ts i ≡ [] = ap dependants_in (slice_get_past ts i past) in
    record { take = λ x. (λ m. absurd (subst (Among x) none m), λ h. h.0); others = λ j ne. refl; arguments = λ j. refl; sources = λ j. refl }

pub less_room : (ts : List Ties) (i m n : ℕ) → n ≤ m → HasRoom ts i m → HasRoom ts i n
less_room ts i m n less h = record { at = h.at; there = h.there; room = omega (arith, less, h.room) }

-- ---- what is left of each node

pub none_there : (xs ys : List Ties) (i : ℕ) → length ys ≡ length xs → slice_get xs i ≡ None → slice_get ys i ≡ None
none_there [] [] i same at = refl
none_there [] (y ∷ ys) i same at = absurd (omega (arith, same))
none_there (x ∷ xs) [] i same at = refl
none_there (x ∷ xs) (y ∷ ys) zero same at = absurd (cc at)
none_there (x ∷ xs) (y ∷ ys) (suc i) same at = none_there xs ys i (omega (arith, same)) at

module _ (gone : List ℕ) (ts us : List Ties) (l : LeavesAll gone ts us) where
  left_ties : (i : ℕ) (x : Tie × ℕ) → Among x (dependants_at us i) ↔ (Among x (dependants_at ts i) × (Stays gone (end_of x.0 x.1) × Stays gone i))
  left_ties i x = by_slot (slice_get ts i) refl
    where
      by_slot : (o : Option Ties) → slice_get ts i ≡ o → Among x (dependants_at us i) ↔ (Among x (dependants_at ts i) × (Stays gone (end_of x.0 x.1) × Stays gone i))
      by_slot None at =
          let away = none_there ts us i l.longer at in
          (λ m. absurd (subst (λ o. Among x (dependants_in o)) away m), λ h. absurd (subst (λ o. Among x (dependants_in o)) at h.0))
      by_slot (Some t) at =
          let r = l.left i t at in
          let so = r.2.dependants x in (
            λ m. let h = so.0 (subst (λ o. Among x (dependants_in o)) r.1 m) in (subst (λ o. Among x (dependants_in o)) (sym at) h.0, h.1),
            λ h. subst (λ o. Among x (dependants_in o)) (sym r.1) (so.1 (subst (λ o. Among x (dependants_in o)) at h.0, h.1)),
          )

  pub left_arguments : (i a : ℕ) (n : Name) → Passes (arguments_at us i) n a ↔ (Passes (arguments_at ts i) n a × (Stays gone a × Stays gone i))
  left_arguments i a n = by_slot (slice_get ts i) refl
    where
      by_slot : (o : Option Ties) → slice_get ts i ≡ o → Passes (arguments_at us i) n a ↔ (Passes (arguments_at ts i) n a × (Stays gone a × Stays gone i))
      by_slot None at =
          let away = none_there ts us i l.longer at in
          (λ m. absurd ((subst (λ o. Passes (arguments_in o) n a) away m).there), λ h. absurd ((subst (λ o. Passes (arguments_in o) n a) at h.0).there))
      by_slot (Some t) at =
          let r = l.left i t at in
          let so = r.2.arguments n a in (
            λ m. let h = so.0 (subst (λ o. Passes (arguments_in o) n a) r.1 m) in (subst (λ o. Passes (arguments_in o) n a) (sym at) h.0, h.1),
            λ h. subst (λ o. Passes (arguments_in o) n a) (sym r.1) (so.1 (subst (λ o. Passes (arguments_in o) n a) at h.0, h.1)),
          )

  pub left_sources : (k i : ℕ) (n : Name) → (source_at us k ≡ Some (i, n)) ↔ ((source_at ts k ≡ Some (i, n)) × (Stays gone i × Stays gone k))
  left_sources k i n = by_slot (slice_get ts k) refl
    where
      by_slot : (o : Option Ties) → slice_get ts k ≡ o → (source_at us k ≡ Some (i, n)) ↔ ((source_at ts k ≡ Some (i, n)) × (Stays gone i × Stays gone k))
      by_slot None at =
          let away = none_there ts us k l.longer at in
          (λ e. absurd (cc (e, ap source_in away)), λ h. absurd (cc (h.0, ap source_in at)))
      by_slot (Some t) at =
          let r = l.left k t at in
          let so = r.2.source i n in (
            λ e. let h = so.0 (sym (ap source_in r.1) ∙ e) in (ap source_in at ∙ h.0, h.1),
            λ h. ap source_in r.1 ∙ so.1 (sym (ap source_in at) ∙ h.0, h.1),
          )

  pub left_edges : AreEdges (edges_in us) (λ d. Among d (edges_in ts) × (Stays gone d.from × Stays gone d.to))
  left_edges d = (
    λ m.
        let k = of_edge us d m in
        let r = (left_ties d.from k.tie).0 k.there in
        (kept_edge ts d (record { tie = k.tie; there = r.0; is = k.is }), (r.1.1, subst (Stays gone) (sym (ap (λ (e : Edge). e.to) k.is)) r.1.0)),
    λ h.
        let k = of_edge ts d h.0 in
        kept_edge us d (record { tie = k.tie; there = (left_ties d.from k.tie).1 (k.there, (subst (Stays gone) (ap (λ (e : Edge). e.to) k.is) h.1.1, h.1.0)); is = k.is }),
  )

-- ---- a source that is left

pub left_source : (gone : List ℕ) (o : Option (ℕ × Name)) (j : ℕ) (n : Name) → (source_left gone o ≡ Some (j, n)) ↔ ((o ≡ Some (j, n)) × Stays gone j)
left_source gone None j n = (λ e. absurd (cc e), λ h. h.0)
left_source gone (Some x) j n = by_test (has gone x.0) refl
  where
    by_test : (b : Bool) → has gone x.0 ≡ b → (cond b None (Some x) ≡ Some (j, n)) ↔ ((Some x ≡ Some (j, n)) × Stays gone j)
    by_test true is = (λ e. absurd (cc e), λ h. absurd (cc (is, h.1, ap (λ (y : ℕ × Name). has gone y.0) (same_Some _ _ h.0))))
    by_test false is = (λ e. (e, ap (λ (y : ℕ × Name). has gone y.0) (sym (same_Some _ _ e)) ∙ is), λ h. h.0)

-- ---- over lists of nodes

pub rooms_next : (ts us : List Ties) (ks : List ℕ) (i k : ℕ) → i < length ks → k ≡ get_or ks i k → IsRoomier ts us → HasRoom us k 1 → ((j : ℕ) → has (take i ks) j ≡ true → HasRoom ts j 1) → (j : ℕ) → has (take (i + 1) ks) j ≡ true → HasRoom us j 1
rooms_next ts us ks i k within is more own so j h = elim (has-push (take i ks) k j (ap (λ l. has l j) (sym (take_more ks i k within ∙ ap (λ d. take i ks ++ d ∷ []) (sym is))) ∙ h)) [
  | inl old ↦ more.rooms j 1 (so j old)
  | inr e ↦ subst (λ x. HasRoom us x 1) e own
]

not_in : (ks : List ℕ) (j k : ℕ) → has ks k ≡ true → has ks j ≡ false → j ≢ k
not_in ks j k h away e = absurd (cc (h, away, e))

module _ (made : ℕ → Edge) where
  pub none_put : (ts : List Ties) → PutsEach made ts ts []
  none_put ts = record { edges = none_made made (edges_in ts); arguments = λ j. refl; sources = λ j. refl }

  -- a dependency more
  pub next_put : (ts us vs : List Ties) (ks : List ℕ) (i k : ℕ) (from to : ℕ) (t : Tie) → i < length ks → k ≡ get_or ks i k → PutsDependant us vs from t to → ((j : ℕ) → end_of t j ≡ end_of t to) → edge_of from (t, to) ≡ made k
      → PutsEach made ts us (take i ks) → PutsEach made ts vs (take (i + 1) ks)
  next_put ts us vs ks i k from to t within is p free same so = record {
    edges = next_so made (edges_in ts) (edges_in us) (edges_in vs) ks i k (edge_of from (t, to)) so.edges within is same (put_edges us vs from t to p (λ j m. free j));
    arguments = λ j. put_arguments us vs from t to p j ∙ so.arguments j;
    sources = λ j. put_sources us vs from t to p j ∙ so.sources j;
  }

  pub all_put : (ts us : List Ties) (ks : List ℕ) (i : ℕ) → PutsEach made ts us (take i ks) → length ks ≤ i → PutsEach made ts us ks
  all_put ts us ks i so past = record { edges = all_made made (edges_in ts) (edges_in us) ks i so.edges past; arguments = so.arguments; sources = so.sources }

-- sources put one after another
pub record ArePut (ts us : List Ties) (ks : List ℕ) (node i : ℕ) : Type 0 where
  pub put : PutsEach (λ a. dependency_edge a node) ts us (take i ks)
  pub ready : (k : ℕ) → has ks k ≡ true → IsReady us k (Tie.Dependency node)
  pub rooms : (k n : ℕ) → has ks k ≡ false → HasRoom ts k n → HasRoom us k n

module _ (ts : List Ties) (ks : List ℕ) (node : ℕ) where
  pub sources_begin : ((k : ℕ) → has ks k ≡ true → HasRoom ts k 1) → ArePut ts ts ks node 0
  sources_begin rooms = record { put = none_put (λ a. dependency_edge a node) ts; ready = λ k h. ready_room ts k (Tie.Dependency node) (rooms k h); rooms = λ k n h r. r }

  pub sources_next : (us vs : List Ties) (i k : ℕ) → i < length ks → k ≡ get_or ks i k → PutsDependant us vs k (Tie.Dependency node) node → ArePut ts us ks node i → ArePut ts vs ks node (i + 1)
  sources_next us vs i k within is p so = record {
    put = next_put (λ a. dependency_edge a node) ts us vs ks i k k node (Tie.Dependency node) within is p (λ j. refl) refl so.put;
    ready = λ j h. put_ready us vs k (Tie.Dependency node) node p j (so.ready j h);
    rooms = λ j n h r. put_room_other us vs k (Tie.Dependency node) node p j n (not_in ks j k (here ks i k within is) h) (so.rooms j n h r);
  }

-- users put one after another
pub record AreUsers (ts us : List Ties) (ks : List ℕ) (node i : ℕ) : Type 0 where
  pub put : PutsEach (λ b. dependency_edge node b) ts us (take i ks)
  pub room : HasRoom us node (length ks - i)

module _ (ts : List Ties) (ks : List ℕ) (node : ℕ) where
  pub users_begin : HasRoom ts node (length ks) → AreUsers ts ts ks node 0
  users_begin room = record { put = none_put (λ b. dependency_edge node b) ts; room = less_room ts node (length ks) (length ks - 0) (omega arith) room }

  pub users_ready : (us : List Ties) (i : ℕ) (t : Tie) → i < length ks → AreUsers ts us ks node i → IsReady us node t
  users_ready us i t within so = ready_room us node t (less_room us node (length ks - i) 1 (omega (arith, within)) so.room)

  pub users_next : (us vs : List Ties) (i k : ℕ) → i < length ks → k ≡ get_or ks i k → PutsDependant us vs node (Tie.Dependency k) k → AreUsers ts us ks node i → AreUsers ts vs ks node (i + 1)
  users_next us vs i k within is p so = record {
    put = next_put (λ b. dependency_edge node b) ts us vs ks i k node k (Tie.Dependency k) within is p (λ j. refl) refl so.put;
    room = put_room us vs node (Tie.Dependency k) k p (length ks - (i + 1)) (less_room us node (length ks - i) (length ks - (i + 1) + 1) (omega (arith, within)) so.room);
  }

-- ---- nodes left one after another

pub record AreLeft (gone : List ℕ) (ts us : List Ties) (at : ℕ) : Type 0 where
  pub longer : length us ≡ length ts
  pub left : (i : ℕ) (t : Ties) → i < at → slice_get ts i ≡ Some t → (u : Ties) × (slice_get us i ≡ Some u) × LeavesTies gone i t u
  pub rest : (i : ℕ) → at ≤ i → slice_get us i ≡ slice_get ts i

pub left_begin : (gone : List ℕ) (ts : List Ties) → AreLeft gone ts ts 0
left_begin gone ts = record { longer = refl; left = λ i t h. absurd (omega (arith, h)); rest = λ i h. refl }

pub left_next : (gone : List ℕ) (ts us : List Ties) (at : ℕ) (d u : Ties) → at < length us → d ≡ get_or us at d → LeavesTies gone at d u → AreLeft gone ts us at → AreLeft gone ts (slice_set us at u) (at + 1)
left_next gone ts us at d u within value own so =
    let there = at_index us at at d refl within value in
    record {
      longer = same_length us at u ∙ so.longer;
      left = λ i t h was. elim (cases_eq i at) [
        | inl e ↦
            let same : d ≡ t = same_Some _ _ (sym there ∙ ap (slice_get us) (sym e) ∙ so.rest i (omega (arith, e)) ∙ was) in
            (u, ap (slice_get (slice_set us at u)) e ∙ get_set_same us at u d there, subst (λ j. LeavesTies gone j t u) (sym e) (subst (λ x. LeavesTies gone at x u) same own))
        | inr ne ↦ let r = so.left i t (omega (arith, h, ne)) was in (r.0, get_set_other us at i u ne ∙ r.1, r.2)
      ];
      rest = λ i h. get_set_other us at i u (λ e. absurd (omega (arith, h, e))) ∙ so.rest i (omega (arith, h));
    }

pub left_end : (gone : List ℕ) (ts us : List Ties) (at : ℕ) → length ts ≤ at → AreLeft gone ts us at → LeavesAll gone ts us
left_end gone ts us at past so = record { longer = so.longer; left = λ i t was. let within = some_place ts i t was in so.left i t (omega (arith, past, within)) was }
