-- Steps of a walk over what hangs on nodes.
use Rattle.std.proofs.Common.{◌≡◌, ◌⊎◌, ◌+◌, ◌-◌, ◌<◌, ◌≤◌, ℕ, zero, suc, Bool, true, false, cond, ◌==◌, List, [], ◌∷◌, ◌++◌, length, take, get_or, Some, slice_get, refl, sym, ap, ◌∙◌, subst, inl, inr, arith}
use Rattle.std.proofs.lemmas.List.{take_more, take_all}
use Rattle.std.proofs.lemmas.Option.{slice_get-get_or}
use Rattle.wac_types_base.specs.Graph.{Among}
use Rattle.wac_types_base.proofs.Lists.{among_mapped}
use Rattle.wac_types_base.proofs.Looked.{among-get}
use Rattle.wac_types_fit.proofs.Items.{Among-last}
use Rattle.wac_graph_core.specs.declared.edge.Edge.{Edge}
use Rattle.wac_graph_core.specs.declared.edge.Follow.{Follow}
use Rattle.wac_graph_core.specs.declared.tie.Tie.{Tie}
use Rattle.wac_graph_core.specs.Edges.{follows, has, Reaches, at_start, along}
use Rattle.wac_graph_core.specs.Walking.{outside}
use Rattle.wac_graph_core.specs.Ties.{edge_of, label_of, end_of, AreFrom}
use Rattle.wac_graph_core.specs.NodeSets.{AddsNode}
use Rattle.wac_graph_core.specs.Following.{Leads, FollowsTie, FollowsFrom}
use Rattle.wac_graph_core.proofs.TiedEdges.{from_mapped}
use Rattle.wac_graph_core.proofs.Found.{eq_same}
use Rattle.wac_graph_core.proofs.Walks.{has-push, has-kept, has_pushed, outside_lt}

kept_at : (b : Bool) (js ks : List ℕ) (k : ℕ) → (has js k ≡ true → has (js ++ ks) k ≡ true) → cond b true (has js k) ≡ true → cond b true (has (js ++ ks) k) ≡ true
kept_at true js ks k ih h = refl
kept_at false js ks k ih h = ih h

pub has_front : (js ks : List ℕ) (k : ℕ) → has js k ≡ true → has (js ++ ks) k ≡ true
has_front [] ks k h = absurd (cc h)
has_front (j ∷ js) ks k h = kept_at (j == k) js ks k (has_front js ks k) h

none_more : (xs : List ℕ) → xs ≡ xs ++ []
none_more [] = refl
none_more (x ∷ xs) = ap (λ l. x ∷ l) (none_more xs)

joined_all : (xs ys zs : List ℕ) → (xs ++ ys) ++ zs ≡ xs ++ (ys ++ zs)
joined_all [] ys zs = refl
joined_all (x ∷ xs) ys zs = ap (λ l. x ∷ l) (joined_all xs ys zs)

one_longer : (xs : List ℕ) (x : ℕ) → length (xs ++ x ∷ []) ≡ length xs + 1
one_longer [] x = refl
one_longer (y ∷ xs) x = let ih = one_longer xs x in omega (arith, ih)

-- a node of a list is in it
pub has_at : (xs : List ℕ) (i x : ℕ) → slice_get xs i ≡ Some x → has xs x ≡ true
has_at [] i x at = absurd (cc at)
has_at (y ∷ xs) zero x at = let same : y ≡ x = cc at in ap (λ b. cond b true (has xs x)) (ap (λ n. n == x) same ∙ eq_same x)
has_at (y ∷ xs) (suc i) x at = later (y == x) (has xs x) (has_at xs i x at)
  where
    later : (b c : Bool) → c ≡ true → cond b true c ≡ true
    later true c h = refl
    later false c h = h

pub here : (xs : List ℕ) (i x : ℕ) → i < length xs → x ≡ get_or xs i x → has xs x ≡ true
here xs i x within is = has_at xs i x (slice_get-get_or xs i x within ∙ ap Some (sym is))

module _ (f : Follow) (es : List Edge) (j : ℕ) where
  -- what these of the node's ties lead to is added
  pub record IsFollowing (old : List ℕ) (xs : List (Tie × ℕ)) (new : List ℕ) : Type 0 where
    pub more : List ℕ
    pub put : new ≡ old ++ more
    pub sound : (k : ℕ) → has new k ≡ true → (has old k ≡ true) ⊎ Leads f es j k
    pub complete : (x : Tie × ℕ) → Among x xs → follows f (label_of x.0) ≡ true → has new (end_of x.0 x.1) ≡ true
    pub fewer : outside new es + length new ≤ outside old es + length old

  pub begins : (old : List ℕ) → IsFollowing old [] old
  begins old = record { more = []; put = none_more old; sound = λ k h. inl h; complete = λ x m is. absurd m; fewer = omega arith }

  pub passes_by : (old new : List ℕ) (xs : List (Tie × ℕ)) (x : Tie × ℕ) → follows f (label_of x.0) ≡ false → IsFollowing old xs new → IsFollowing old (xs ++ x ∷ []) new
  passes_by old new xs x not k = record {
    more = k.more;
    put = k.put;
    sound = k.sound;
    complete = λ y m is. elim (Among-last xs x y m) [
      | inl n ↦ k.complete y n is
      | inr e ↦ absurd (cc (is, ap (λ (z : Tie × ℕ). follows f (label_of z.0)) e, not))
    ];
    fewer = k.fewer;
  }

  module _ (old mid new : List ℕ) (xs : List (Tie × ℕ)) (x : Tie × ℕ) (is : follows f (label_of x.0) ≡ true) (there : Among (edge_of j x) es) (k : IsFollowing old xs mid) where
    end : ℕ
    end = end_of x.0 x.1

    leads : (i : ℕ) → end_of x.0 x.1 ≡ i → Leads f es j i
    leads i e = (edge_of j x, there, is, refl, e)

    ends : ((i : ℕ) → has mid i ≡ true → has new i ≡ true) → has new (end_of x.0 x.1) ≡ true → (y : Tie × ℕ) → Among y (xs ++ x ∷ []) → follows f (label_of y.0) ≡ true → has new (end_of y.0 y.1) ≡ true
    ends kept here y m follow = elim (Among-last xs x y m) [
      | inl n ↦ kept (end_of y.0 y.1) (k.complete y n follow)
      | inr e ↦ ap (λ (z : Tie × ℕ). has new (end_of z.0 z.1)) e ∙ here
    ]

    pub follows_one : AddsNode mid new (end_of x.0 x.1) → IsFollowing old (xs ++ x ∷ []) new
    follows_one (inl h) = record {
      more = k.more;
      put = h.1 ∙ k.put;
      sound = λ i at. k.sound i (ap (λ l. has l i) (sym h.1) ∙ at);
      complete = ends (λ i at. ap (λ l. has l i) h.1 ∙ at) (ap (λ l. has l (end_of x.0 x.1)) h.1 ∙ h.0);
      fewer = subst (λ l. outside l es + length l ≤ outside old es + length old) (sym h.1) k.fewer;
    }
    follows_one (inr h) = record {
      more = k.more ++ end_of x.0 x.1 ∷ [];
      put = h.1 ∙ ap (λ l. l ++ end_of x.0 x.1 ∷ []) k.put ∙ joined_all old k.more (end_of x.0 x.1 ∷ []);
      sound = λ i at. elim (has-push mid (end_of x.0 x.1) i (ap (λ l. has l i) (sym h.1) ∙ at)) [ inl was ↦ k.sound i was | inr e ↦ inr (leads i e) ];
      complete = ends (λ i at. ap (λ l. has l i) h.1 ∙ has-kept mid (end_of x.0 x.1) i at) (ap (λ l. has l (end_of x.0 x.1)) h.1 ∙ has_pushed mid (end_of x.0 x.1));
      fewer = subst (λ l. outside l es + length l ≤ outside old es + length old) (sym h.1) (less (outside_lt mid (end_of x.0 x.1) es (edge_of j x) there h.0 refl) (one_longer mid (end_of x.0 x.1)));
    }
      where
        less : outside (mid ++ end_of x.0 x.1 ∷ []) es < outside mid es → length (mid ++ end_of x.0 x.1 ∷ []) ≡ length mid + 1 → outside (mid ++ end_of x.0 x.1 ∷ []) es + length (mid ++ end_of x.0 x.1 ∷ []) ≤ outside old es + length old
        less a b = omega (arith, a, b, k.fewer)

  module _ (old : List ℕ) (xs : List (Tie × ℕ)) (from : AreFrom es j xs) where
    -- one more of the ties
    pub next_follows : (mid new : List ℕ) (i : ℕ) (x : Tie × ℕ) → i < length xs → x ≡ get_or xs i x → Among x xs → follows f (label_of x.0) ≡ true → AddsNode mid new (end_of x.0 x.1)
        → IsFollowing old (take i xs) mid → IsFollowing old (take (i + 1) xs) new
    next_follows mid new i x within is at follow adds k =
        subst (λ l. IsFollowing old l new) (sym (take_more xs i x within ∙ ap (λ d. take i xs ++ d ∷ []) (sym is)))
        (follows_one old mid new (take i xs) x follow ((from (edge_of j x)).1 (among_mapped (edge_of j) xs x at)).0 k adds)

    pub next_passed : (mid : List ℕ) (i : ℕ) (x : Tie × ℕ) → i < length xs → x ≡ get_or xs i x → follows f (label_of x.0) ≡ false → IsFollowing old (take i xs) mid → IsFollowing old (take (i + 1) xs) mid
    next_passed mid i x within is not k =
        subst (λ l. IsFollowing old l mid) (sym (take_more xs i x within ∙ ap (λ d. take i xs ++ d ∷ []) (sym is))) (passes_by old mid (take i xs) x not k)

    pub next_tie : (mid new : List ℕ) (i : ℕ) (x : Tie × ℕ) → i < length xs → x ≡ get_or xs i x → FollowsTie f x.0 x.1 mid new → IsFollowing old (take i xs) mid → IsFollowing old (take (i + 1) xs) new
    next_tie mid new i x within is (inl h) k = next_follows mid new i x within is (among-get xs i x (slice_get-get_or xs i x within ∙ ap Some (sym is))) h.0 h.1 k
    next_tie mid new i x within is (inr h) k = subst (IsFollowing old (take (i + 1) xs)) (sym h.1) (next_passed mid i x within is h.0 k)

    pub all_followed : (new : List ℕ) (i : ℕ) → length xs ≤ i → IsFollowing old (take i xs) new → FollowsFrom f es j old new
    all_followed new i past k = record {
      more = k.more;
      put = k.put;
      sound = k.sound;
      complete = λ n h.
          let m = (from h.0).0 (h.1, h.3) in
          let r = from_mapped (edge_of j) xs h.0 m in
          let label : follows f (label_of r.0.0) ≡ true = ap (λ (e : Edge). follows f e.label) (sym r.2) ∙ h.2 in
          ap (has new) (sym h.4 ∙ ap (λ (e : Edge). e.to) r.2) ∙ k.complete r.0 (subst (Among r.0) (sym (take_all i xs past)) r.1) label;
      fewer = k.fewer;
    }

-- ---- the whole walk

front : (xs ys : List ℕ) (i : ℕ) → i ≤ length xs → take i (xs ++ ys) ≡ take i xs
front xs ys zero h = refl
front [] ys (suc i) h = absurd (omega (arith, h))
front (x ∷ xs) ys (suc i) h = ap (λ l. x ∷ l) (front xs ys i (omega (arith, h)))

module _ (f : Follow) (es : List Edge) (starts : List ℕ) where
  -- so many of the nodes were followed
  pub record IsWalking (seen : List ℕ) (at : ℕ) : Type 0 where
    pub begun : (k : ℕ) → has starts k ≡ true → has seen k ≡ true
    pub sound : (k : ℕ) → has seen k ≡ true → Reaches f es starts k
    pub closed : (j k : ℕ) → has (take at seen) j ≡ true → Leads f es j k → has seen k ≡ true

  pub walk_begins : IsWalking starts 0
  walk_begins = record { begun = λ k h. h; sound = λ k h. at_start h; closed = λ j k h l. absurd (cc h) }

  pub walks_on : (seen new : List ℕ) (at node : ℕ) → at < length seen → node ≡ get_or seen at node → has seen node ≡ true → FollowsFrom f es node seen new → IsWalking seen at → IsWalking new (at + 1)
  walks_on seen new at node within is there s w =
      let kept : (k : ℕ) → has seen k ≡ true → has new k ≡ true = λ k h. ap (λ l. has l k) s.put ∙ has_front seen s.more k h in
      let done : take (at + 1) new ≡ take at seen ++ node ∷ [] = ap (take (at + 1)) s.put ∙ front seen s.more (at + 1) (omega (arith, within)) ∙ take_more seen at node within ∙ ap (λ d. take at seen ++ d ∷ []) (sym is) in
      record {
        begun = λ k h. kept k (w.begun k h);
        sound = λ k h. elim (s.sound k h) [ inl old ↦ w.sound k old | inr l ↦ along l.0 (w.sound node there) l.1 l.2 l.3 l.4 ];
        closed = λ j k h l. elim (has-push (take at seen) node j (ap (λ xs. has xs j) (sym done) ∙ h)) [
          | inl old ↦ kept k (w.closed j k old l)
          | inr e ↦ s.complete k (subst (λ i. Leads f es i k) (sym e) l)
        ];
      }

  pub walk_ends : (seen : List ℕ) (at : ℕ) → length seen ≤ at → IsWalking seen at → (k : ℕ) → Reaches f es starts k → has seen k ≡ true
  walk_ends seen at past w k (at_start h) = w.begun k h
  walk_ends seen at past w k (along {j = j} e r m is from to) =
      w.closed j k (ap (λ l. has l j) (take_all at seen past) ∙ walk_ends seen at past w j r) (e, m, is, from, to)

  pub walk_smaller : (seen new : List ℕ) (at node : ℕ) → at < length seen → FollowsFrom f es node seen new → outside new es + length new - (at + 1) < outside seen es + length seen - at
  walk_smaller seen new at node within s = omega (arith, within, s.fewer)
