-- The instances, the arguments and the exports that plugging makes in a graph without nodes.
use Rattle.std.proofs.Common.{◌≡◌, ◌≢◌, ◌⊎◌, ℕ, zero, suc, ◌<◌, List, [], ◌∷◌, ◌++◌, length, Option, Some, None, slice_get, refl, sym, ap, subst, ◌∙◌, inl, inr, arith}
use Rattle.std.proofs.lemmas.Option.{none-some, same_Some}
use Rattle.std.proofs.lemmas.Bool.{cases_eq}
use Rattle.wac_types_base.specs.declared.item.ItemKind.{ItemKind}
use Rattle.wac_types_base.specs.Entries.{Name, AreDistinct}
use Rattle.wac_types_base.specs.Graph.{Among}
use Rattle.wac_types_names.specs.Packaged.{Packaged}
use Rattle.wac_graph_core.specs.declared.ids.PackageId.{PackageId}
use Rattle.wac_graph_core.specs.Nodes.{NodeData, Role, plain_node}
use Rattle.wac_graph_core.specs.Edges.{argument_edge, HasArgument}
use Rattle.wac_graph_core.specs.Graph.{Graph, node_at, package_in, package_of, package_made, instantiated}
use Rattle.wac_graph_core.specs.Steps.{Aliases, SetsArgument}
use Rattle.wac_graph_core.proofs.NodeMap.{get-insert_same, get-insert_other}
use Rattle.wac_graph_core.proofs.EdgeSteps.{edge_to, edge_label}
use Rattle.wac_graph_core.proofs.PlaceSteps.{get_before, get_last}
use Rattle.wac_graph_plug.specs.declared.matching.Match.{Match}
use Rattle.wac_graph_plug.specs.Steps.{PassesAll, passed_none, passed_next, PlugsOne, PlugsIn, PlugsEach, plugged_none, plugged_next}
use Rattle.wac_graph_plug.proofs.State.{Bound, State, no_argument, State-instance, apart_from_new}
use Rattle.wac_graph_plug.proofs.Passing.{bound_of, all_bound, exports_in, IsPlug-instance, passes_all_state}
use Rattle.wac_graph_core.proofs.Found.{Among-front}
use Rattle.wac_types_base.proofs.Copying.{last_place}
use Rattle.wac_types_base.proofs.Lists.{last_among}

-- the same instances, the same exports, and arguments for one node more at most
pub record Quiet (s : ℕ) (g h : Graph) : Type 0 where
  pub instances : (k : ℕ) → instantiated h k ≡ instantiated g k
  pub args : (k : ℕ) (n : Name) (a : ℕ) → HasArgument h.edges k n a → HasArgument g.edges k n a ⊎ (k ≡ s)
  pub exports : h.exports ≡ g.exports
  pub places : h.places ≡ g.places

quiet_same : (s : ℕ) (g h : Graph) → h ≡ g → Quiet s g h
quiet_same s g h same =
    record {
      instances = λ k. ap (λ (x : Graph). instantiated x k) same;
      args = λ k n a at. inl (subst (Among (argument_edge a k n)) (ap (λ (x : Graph). x.edges) same) at);
      exports = ap (λ (x : Graph). x.exports) same;
      places = ap (λ (x : Graph). x.places) same;
    }

quiet_trans : (s : ℕ) (f g h : Graph) → Quiet s f g → Quiet s g h → Quiet s f h
quiet_trans s f g h a b =
    record {
      instances = λ k. b.instances k ∙ a.instances k;
      args = λ k n x at. elim (b.args k n x at) [ inl old ↦ a.args k n x old | inr same ↦ inr same ];
      exports = b.exports ∙ a.exports;
      places = b.places ∙ a.places;
    }

pub quiet_alias : (s : ℕ) (g h : Graph) (i : ℕ) (n : Name) (k : ℕ) → Aliases g h i n k → Quiet s g h
quiet_alias s g h i n k (inl again) = quiet_same s g h again.same
quiet_alias s g h i n k (inr a) =
    record {
      instances = λ j. elim (cases_eq j k) [
        | inl e ↦
            ap (instantiated h) e ∙ ap (λ (x : Graph). instantiated x k) a.made ∙ ap (package_made g) (get-insert_same g.nodes k (plain_node Role.Aliased None a.item))
            ∙ sym (ap (package_made g) a.free) ∙ ap (instantiated g) (sym e)
        | inr ne ↦ ap (λ (x : Graph). instantiated x j) a.made ∙ ap (package_made g) (get-insert_other g.nodes k (plain_node Role.Aliased None a.item) j ne)
      ];
      args = λ j m x at. elim ((a.edges (argument_edge x j m)).0 at) [ inl old ↦ inl old | inr same ↦ absurd (no_argument m n (edge_label same)) ];
      exports = ap (λ (x : Graph). x.exports) a.made;
      places = ap (λ (x : Graph). x.places) a.made;
    }

quiet_set : (s : ℕ) (g h : Graph) (n : Name) (a : ℕ) → SetsArgument g h s n a → Quiet s g h
quiet_set s g h n a set = elim set.step [
  | inl keep ↦ quiet_same s g h keep.same
  | inr add ↦ record {
    instances = λ j. ap (λ (x : Graph). instantiated x j) add.made;
    args = λ j m x at. elim ((add.edges (argument_edge x j m)).0 at) [ inl old ↦ inl old | inr same ↦ inr (edge_to same) ];
    exports = ap (λ (x : Graph). x.exports) add.made;
    places = ap (λ (x : Graph). x.places) add.made;
  }
]

pub quiet_all : {s p : ℕ} {ms : List Match} {g h : Graph} → PassesAll s p ms g h → Quiet s g h
quiet_all {s} {h = h} passed_none = quiet_same s h h refl
quiet_all {s} {p} (passed_next {m = m} {f = f} {g = g} {h = h} rest one) =
    quiet_trans s f g h (quiet_all rest)
    (quiet_trans s g one.middle h (quiet_alias s g one.middle p m.export one.alias one.aliased) (quiet_set s one.middle h m.import one.alias one.set))

-- ---- which plugs are plugged in

-- the plug at place p is the instance k
pub record PlugAt (g : Graph) (s : ℕ) (ids : List PackageId) (mss : List (List Match)) (p k : ℕ) : Type 0 where
  pub id : PackageId
  pub of : Packaged
  pub one : Match
  pub rest : List Match
  pub there : slice_get ids p ≡ Some id
  pub package_is : package_of g id ≡ Some of
  pub is : instantiated g k ≡ Some of
  pub matches : slice_get mss p ≡ Some (one ∷ rest)
  pub apart : k ≢ s

-- the export of a plug at a place
pub record BoundAt (mss : List (List Match)) (made : List (Option ℕ)) (b : Bound) : Type 0 where
  pub place : ℕ
  pub there : slice_get made place ≡ Some (Some b.plug)
  pub ms : List Match
  pub matches : slice_get mss place ≡ Some ms
  pub m : Match
  pub among : Among m ms
  pub same : b ≡ bound_of b.plug m

pub record EachMade (g : Graph) (s : ℕ) (ids : List PackageId) (mss : List (List Match)) (made : List (Option ℕ)) (done : List Bound) : Type 0 where
  pub ids_long : length made ≡ length ids
  pub mss_long : length made ≡ length mss
  pub plug_in : (p k : ℕ) → slice_get made p ≡ Some (Some k) → PlugAt g s ids mss p k
  pub out : (p : ℕ) → slice_get made p ≡ Some None → slice_get mss p ≡ Some []
  pub once : (p q k : ℕ) → slice_get made p ≡ Some (Some k) → slice_get made q ≡ Some (Some k) → p ≡ q
  pub only : (k : ℕ) (q : Packaged) → instantiated g k ≡ Some q → (k ≡ s) ⊎ ((p : ℕ) × (slice_get made p ≡ Some (Some k)))
  pub bound_in : (b : Bound) → Among b done → BoundAt mss made b
  pub bound_at : (p k : ℕ) (ms : List Match) (m : Match) → slice_get made p ≡ Some (Some k) → slice_get mss p ≡ Some ms → Among m ms → Among (bound_of k m) done
  pub args : (k : ℕ) (n : Name) (a : ℕ) → HasArgument g.edges k n a → k ≡ s
  pub exports : g.exports ≡ []

-- what holds still after one more place
later_plug : (g h : Graph) (s : ℕ) (ids : List PackageId) (mss : List (List Match)) (id : PackageId) (ms : List Match) (p k : ℕ) → h.places ≡ g.places → instantiated h k ≡ instantiated g k → PlugAt g s ids mss p k → PlugAt h s (ids ++ id ∷ []) (mss ++ ms ∷ []) p k
later_plug g h s ids mss id ms p k places same at =
    record {
      id = at.id;
      of = at.of;
      one = at.one;
      rest = at.rest;
      there = get_before ids id p at.id at.there;
      package_is = ap (λ ps. package_in ps at.id) places ∙ at.package_is;
      is = same ∙ at.is;
      matches = get_before mss ms p (at.one ∷ at.rest) at.matches;
      apart = at.apart;
    }

later_bound : (mss : List (List Match)) (made : List (Option ℕ)) (ms : List Match) (o : Option ℕ) (b : Bound) → BoundAt mss made b → BoundAt (mss ++ ms ∷ []) (made ++ o ∷ []) b
later_bound mss made ms o b at =
    record {
      place = at.place;
      there = get_before made o at.place (Some b.plug) at.there;
      ms = at.ms;
      matches = get_before mss ms at.place at.ms at.matches;
      m = at.m;
      among = at.among;
      same = at.same;
    }

long_more : {X Y : Type 0} (xs : List X) (ys : List Y) (x : X) (y : Y) → length xs ≡ length ys → length (xs ++ x ∷ []) ≡ length (ys ++ y ∷ [])
long_more [] [] x y e = refl
long_more [] (z ∷ ys) x y e = absurd (omega (arith, e))
long_more (z ∷ xs) [] x y e = absurd (omega (arith, e))
long_more (z ∷ xs) (w ∷ ys) x y e = ap suc (long_more xs ys x y (omega (arith, e)))

-- a plug that stays out
module _ (g : Graph) (s : ℕ) (ids : List PackageId) (mss : List (List Match)) (made : List (Option ℕ)) (done : List Bound) (id : PackageId) (is : EachMade g s ids mss made done) where
  last_matches : (ms : List Match) → slice_get (mss ++ ms ∷ []) (length made) ≡ Some ms
  last_matches ms = ap (slice_get (mss ++ ms ∷ [])) is.mss_long ∙ last_place mss ms

  pub made_out : EachMade g s (ids ++ id ∷ []) (mss ++ [] ∷ []) (made ++ None ∷ []) done
  made_out =
      record {
        ids_long = long_more made ids None id is.ids_long;
        mss_long = long_more made mss None [] is.mss_long;
        plug_in = λ p k at. elim (get_last made None p (Some k) at) [ inl old ↦ later_plug g g s ids mss id [] p k refl refl (is.plug_in p k old) | inr r ↦ absurd (none-some _ r.1) ];
        out = λ p at. elim (get_last made None p None at) [ inl old ↦ get_before mss [] p [] (is.out p old) | inr r ↦ ap (slice_get (mss ++ [] ∷ [])) r.0 ∙ last_matches [] ];
        once = λ p q k at bt. elim (get_last made None p (Some k) at) [
          | inl a ↦ elim (get_last made None q (Some k) bt) [ inl b ↦ is.once p q k a b | inr r ↦ absurd (none-some _ r.1) ]
          | inr r ↦ absurd (none-some _ r.1)
        ];
        only = λ k q at. elim (is.only k q at) [ inl same ↦ inl same | inr r ↦ inr (r.0, get_before made None r.0 (Some k) r.1) ];
        bound_in = λ b at. later_bound mss made [] None b (is.bound_in b at);
        bound_at = λ p k ms m at there among. elim (get_last made None p (Some k) at) [
          | inl old ↦ elim (get_last mss [] p ms there) [
            | inl x ↦ is.bound_at p k ms m old x among
            | inr x ↦ absurd (subst (Among m) (sym x.1) among)
          ]
          | inr r ↦ absurd (none-some _ r.1)
        ];
        args = is.args;
        exports = is.exports;
      }

  -- a plug that is plugged in
  module _ (h : Graph) (ms : List Match) (r : PlugsIn s id ms g h) (apart : r.plug ≢ s) where
    abbrev p0 : ℕ
    p0 = r.plug

    passing : Quiet s r.middle h
    passing = quiet_all r.passed

    places : h.places ≡ g.places
    places = passing.places ∙ ap (λ (x : Graph). x.places) r.made.made

    abbrev new_node : NodeData
    new_node = plain_node Role.Instance (Some id) (ItemKind.Instance r.made.of.instance_type)

    at_new : node_at r.middle p0 ≡ Some new_node
    at_new = ap (λ (x : Graph). node_at x p0) r.made.made ∙ get-insert_same g.nodes p0 new_node

    is_new : instantiated h p0 ≡ Some r.made.of
    is_new = passing.instances p0 ∙ ap (package_made r.middle) at_new ∙ ap (λ (x : Graph). package_of x id) r.made.made ∙ r.made.is

    others : (k : ℕ) → k ≢ p0 → instantiated h k ≡ instantiated g k
    others k ne = passing.instances k ∙ ap (λ (x : Graph). instantiated x k) r.made.made ∙ ap (package_made g) (get-insert_other g.nodes p0 new_node k ne)

    -- it was no instance before
    not_old : (k : ℕ) (q : Packaged) → instantiated g k ≡ Some q → k ≢ p0
    not_old k q at e = absurd (cc (ap (package_made g) (ap (node_at g) e ∙ r.made.free), at))

    some_ms : (ms : List Match) → ms ≢ [] → (m : Match) × (rest : List Match) × (ms ≡ m ∷ rest)
    some_ms [] ne = absurd (ne refl)
    some_ms (m ∷ rest) ne = (m, rest, refl)

    new_plug : (k : ℕ) → p0 ≡ k → PlugAt h s (ids ++ id ∷ []) (mss ++ ms ∷ []) (length made) k
    new_plug k same =
        let c = some_ms ms r.some in
        record {
          id = id;
          of = r.made.of;
          one = c.0;
          rest = c.1;
          there = ap (slice_get (ids ++ id ∷ [])) is.ids_long ∙ last_place ids id;
          package_is = ap (λ ps. package_in ps id) places ∙ r.made.is;
          is = ap (instantiated h) (sym same) ∙ is_new;
          matches = last_matches ms ∙ ap Some c.2;
          apart = λ e. absurd (apart (same ∙ e));
        }

    old_plug : (p k : ℕ) → slice_get made p ≡ Some (Some k) → PlugAt h s (ids ++ id ∷ []) (mss ++ ms ∷ []) p k
    old_plug p k old =
        let at = is.plug_in p k old in
        later_plug g h s ids mss id ms p k places (others k (not_old k at.of at.is)) at

    clash : (p k : ℕ) → slice_get made p ≡ Some (Some k) → p0 ≡ k → ⊥
    clash p k old same = let at = is.plug_in p k old in not_old k at.of at.is (sym same)

    within_made : {X : Type 0} (xs : List X) (q : ℕ) (x : X) → slice_get xs q ≡ Some x → q < length xs
    within_made [] q x e = absurd (cc (e))
    within_made (y ∷ xs) zero x e = omega arith
    within_made (y ∷ xs) (suc q) x e = let w = within_made xs q x e in omega (arith, w)

    pub made_in : EachMade h s (ids ++ id ∷ []) (mss ++ ms ∷ []) (made ++ Some p0 ∷ []) (done ++ all_bound p0 ms)
    made_in =
        record {
          ids_long = long_more made ids (Some p0) id is.ids_long;
          mss_long = long_more made mss (Some p0) ms is.mss_long;
          plug_in = λ p k at. elim (get_last made (Some p0) p (Some k) at) [
            | inl old ↦ old_plug p k old
            | inr x ↦ subst (λ j. PlugAt h s (ids ++ id ∷ []) (mss ++ ms ∷ []) j k) (sym x.0) (new_plug k (same_Some _ _ x.1))
          ];
          out = λ p at. elim (get_last made (Some p0) p None at) [ inl old ↦ get_before mss ms p [] (is.out p old) | inr x ↦ absurd (none-some _ (sym x.1)) ];
          once = λ p q k at bt. elim (get_last made (Some p0) p (Some k) at) [
            | inl a ↦ elim (get_last made (Some p0) q (Some k) bt) [ inl b ↦ is.once p q k a b | inr y ↦ absurd (clash p k a (same_Some _ _ y.1)) ]
            | inr x ↦ elim (get_last made (Some p0) q (Some k) bt) [ inl b ↦ absurd (clash q k b (same_Some _ _ x.1)) | inr y ↦ x.0 ∙ sym y.0 ]
          ];
          only = λ k q at. elim (cases_eq k p0) [
            | inl e ↦ inr (length made, last_place made (Some p0) ∙ ap (λ j. Some (Some j)) (sym e))
            | inr ne ↦ elim (is.only k q (sym (others k ne) ∙ at)) [ inl same ↦ inl same | inr x ↦ inr (x.0, get_before made (Some p0) x.0 (Some k) x.1) ]
          ];
          bound_in = λ b at. elim (split_bound done ms b at) [
            | inl old ↦ later_bound mss made ms (Some p0) b (is.bound_in b old)
            | inr x ↦ record {
              place = length made;
              there = last_place made (Some p0) ∙ ap (λ (c : Bound). Some (Some c.plug)) (sym x.2);
              ms = ms;
              matches = last_matches ms;
              m = x.0;
              among = x.1;
              same = x.2 ∙ ap (λ j. bound_of j x.0) (ap (λ (c : Bound). c.plug) (sym x.2));
            }
          ];
          bound_at = λ p k ns m at there among. elim (get_last made (Some p0) p (Some k) at) [
            | inl old ↦ elim (get_last mss ms p ns there) [
              | inl x ↦ in_front done (all_bound p0 ms) (bound_of k m) (is.bound_at p k ns m old x among)
              | inr x ↦ absurd (let w = within_made made p (Some k) old in omega (arith, w, x.0, is.mss_long))
            ]
            | inr x ↦ elim (get_last mss ms p ns there) [
              | inl y ↦ absurd (let w = within_made mss p ns y in omega (arith, w, x.0, is.mss_long))
              | inr y ↦
                  in_back done (all_bound p0 ms) (bound_of k m)
                  (subst (λ j. Among (bound_of j m) (all_bound p0 ms)) (same_Some _ _ x.1) (bound_among ms m (subst (Among m) (sym y.1) among)))
            ]
          ];
          args = λ k n a at. elim (passing.args k n a at) [
            | inl old ↦ is.args k n a (subst (Among (argument_edge a k n)) (ap (λ (x : Graph). x.edges) r.made.made) old)
            | inr same ↦ same
          ];
          exports = passing.exports ∙ ap (λ (x : Graph). x.exports) r.made.made ∙ is.exports;
        }
      where
        in_front : (xs ys : List Bound) (b : Bound) → Among b xs → Among b (xs ++ ys)
        in_front [] ys b at = absurd at
        in_front (x ∷ xs) ys b (inl e) = inl e
        in_front (x ∷ xs) ys b (inr at) = inr (in_front xs ys b at)

        in_back : (xs ys : List Bound) (b : Bound) → Among b ys → Among b (xs ++ ys)
        in_back [] ys b at = at
        in_back (x ∷ xs) ys b at = inr (in_back xs ys b at)

        bound_among : (ms : List Match) (m : Match) → Among m ms → Among (bound_of p0 m) (all_bound p0 ms)
        bound_among [] m at = absurd at
        bound_among (x ∷ ms) m (inl e) = inl (ap (bound_of p0) e)
        bound_among (x ∷ ms) m (inr at) = inr (bound_among ms m at)

        from_bound : (ms : List Match) (b : Bound) → Among b (all_bound p0 ms) → (m : Match) × Among m ms × (b ≡ bound_of p0 m)
        from_bound [] b at = absurd at
        from_bound (x ∷ ms) b (inl e) = (x, inl refl, e)
        from_bound (x ∷ ms) b (inr at) = let r = from_bound ms b at in (r.0, inr r.1, r.2)

        split_bound : (bs : List Bound) (ms : List Match) (b : Bound) → Among b (bs ++ all_bound p0 ms) → Among b bs ⊎ ((m : Match) × Among m ms × (b ≡ bound_of p0 m))
        split_bound [] ms b at = inr (from_bound ms b at)
        split_bound (x ∷ bs) ms b (inl e) = inl (inl e)
        split_bound (x ∷ bs) ms b (inr at) = elim (split_bound bs ms b at) [ inl old ↦ inl (inr old) | inr r ↦ inr r ]

-- ---- all plugs

pub record AllMade (g : Graph) (s : ℕ) (sp : Packaged) (ids : List PackageId) (mss : List (List Match)) : Type 0 where
  pub made : List (Option ℕ)
  pub done : List Bound
  pub state : State g s sp done
  pub each : EachMade g s ids mss made done

pub each_made : {s : ℕ} {ids : List PackageId} {mss : List (List Match)} {g h : Graph} (sp : Packaged) → PlugsEach s ids mss g h → ((ms : List Match) → Among ms mss → AreDistinct (exports_in ms)) → State g s sp [] → EachMade g s [] [] [] [] → AllMade h s sp ids mss
each_made sp plugged_none d st is = record { made = []; done = []; state = st; each = is }
each_made {s} sp (plugged_next {ids = ids} {id = id} {mss = mss} {ms = ms} {g = g} {h = h} rest one) d st is =
    let r = each_made sp rest (λ x at. d x (Among-front mss ms x at)) st is in
    by_one r one
  where
    by_one : AllMade g s sp ids mss → PlugsOne s id ms g h → AllMade h s sp (ids ++ id ∷ []) (mss ++ ms ∷ [])
    by_one r (inl x) =
        subst (λ l. AllMade h s sp (ids ++ id ∷ []) (mss ++ l ∷ [])) (sym x.0)
        (subst (λ f. AllMade f s sp (ids ++ id ∷ []) (mss ++ [] ∷ [])) (sym x.1) (record { made = r.made ++ None ∷ []; done = r.done; state = r.state; each = made_out g s ids mss r.made r.done id r.each }))
    by_one r (inr x) =
        let st2 = State-instance g x.middle s sp r.done r.state id x.plug x.made in
        let plug = IsPlug-instance g x.middle s sp r.done id x.plug r.state x.made in
        let apart = apart_from_new g x.middle s sp r.done r.state x.plug x.made.free in
        record {
          made = r.made ++ Some x.plug ∷ [];
          done = r.done ++ all_bound x.plug ms;
          state = (passes_all_state s x.plug sp x.made.of apart r.done x.passed st2 plug (d ms (last_among mss ms))).0;
          each = made_in g s ids mss r.made r.done id r.each h ms x apart;
        }
