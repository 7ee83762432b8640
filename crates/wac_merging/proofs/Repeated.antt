-- An ask that repeats one before it conflicts with none, and changes no conflict.
use Rattle.std.specs.Prelude.{bytes_eq, cond, filter, is_some, if◌then◌else◌, ◌||◌}
use Rattle.std.proofs.Common.{◌≡◌, List, [], ◌∷◌, ◌++◌, append_assoc, Bool, true, false, Option, Some, None, ◌⊎◌, refl, sym, ap, subst, ◌∙◌, inl, inr}
use Rattle.std.specs.List.{list_all, list_any}
use Rattle.std.specs.Cmp.Derive.{one_truth}
use Rattle.std.proofs.lemmas.Option.{none-some}
use Rattle.std.proofs.lemmas.List.{append-nil, map-append}
use Rattle.std.proofs.lemmas.Slice.Eq.{bytes_eq-Decides}
use Rattle.wac_types_base.specs.Graph.{Among}
use Rattle.wac_types_base.proofs.Adding.{Among-left, Among-right}
use Rattle.wac_types_base.proofs.Lists.{among_mapped}
use Rattle.wac_types_base.specs.Tree.{tree}
use Rattle.wac_types_merge.specs.declared.error.AggregateError.{AggregateError}
use Rattle.wac_composition.specs.Asks.{Asking, ByName, ToFill, ToUse, Ask}
use Rattle.wac_composition.specs.Classes.{class}
use Rattle.wac_composition.specs.Merging.{is_plain, is_wit, Asked, in_family, kept}
use Rattle.wac_composition.specs.Again.{IsWell, KeepsClasses}
use Rattle.wac_composition.specs.OuterImports.{asked_in}
use Rattle.std.specs.Option.{option_or}
use Rattle.wac_composition.specs.Conflicts.{Cause, merge_cause, merge_fails, those_in, merge_conflict}
use Rattle.wac_composition.proofs.Closures.{any_among, among_any, filter_among, among_filter, filter_same}
use Rattle.wac_composition.proofs.OuterClasses.{class_same, within, class_itself, class_by_name}
use Rattle.wac_composition.proofs.AskedAgain.{asked_again, filter_append, kept_again, among_more, among_fewer}
use Rattle.wac_composition.proofs.Again.{asking_twice, family_again}
use Rattle.wac_composition.proofs.Lists.{mapped_among}
use Rattle.wac_composition.proofs.Against.{or_none}
use Rattle.wac_merging.specs.Repeated.{Repeated_conflicts_no_more}
use Rattle.wac_merging.specs.Unmerged.{TellsApart, TellsUnmerged, TellsConflict, Repeated_is_told}
use Rattle.wac_merging.proofs.Wit.{all_of, of_all}

-- ---- what is told of asks of which one is repeated

unmerged_again : (e : AggregateError) (xs ys : List Asked) (a ask : Asked) → Among a xs → ((b : Asked) → Among b xs → IsWell b.1) → TellsUnmerged e (xs ++ ys) ask → TellsUnmerged e (xs ++ a ∷ ys) ask
unmerged_again e xs ys a ask m well t =
    let more = append_assoc xs (a ∷ ys) (ask ∷ []) in
    let less = append_assoc xs ys (ask ∷ []) in
    record {
      item = t.item;
      so_far = asking_twice xs ys a m well ∙ t.so_far;
      nothing = ap kept more ∙ asking_twice xs (ys ++ ask ∷ []) a m well ∙ ap kept (sym less) ∙ t.nothing;
      apart = subst (λ b. TellsApart e b (tree t.item) (tree ask.1)) (ap in_family less ∙ sym (family_again xs (ys ++ ask ∷ []) a m) ∙ ap in_family (sym more)) t.apart;
    }

-- where an element of two lists stands, in the first or in the second
abbrev StandsIn : {X : Type 0} (bs as_ ps : List X) (x : X) (qs : List X) → Type 0
StandsIn {X} bs as_ ps x qs = ((ms : List X) × (bs ≡ ps ++ x ∷ ms) × (qs ≡ ms ++ as_)) ⊎ ((ms : List X) × (ps ≡ bs ++ ms) × (as_ ≡ ms ++ x ∷ qs))

stands_in : {X : Type 0} (bs as_ ps : List X) (x : X) (qs : List X) → bs ++ as_ ≡ ps ++ x ∷ qs → StandsIn bs as_ ps x qs
stands_in [] as_ ps x qs e = inr (ps, refl, e)
stands_in (b ∷ bs) as_ [] x qs e = inl (bs, cc e, cc e)
stands_in (b ∷ bs) as_ (p ∷ ps) x qs e = elim (stands_in bs as_ ps x qs (cc e)) [
  | inl s ↦ inl (s.0, (let h : b ≡ p = cc e in λ i. h i ∷ s.1 i), s.2)
  | inr s ↦ inr (s.0, (let h : p ≡ b = cc e in λ i. h i ∷ s.1 i), s.2)
]

-- ---- causes

or_else_through : {X : Type 0} (o p q : Option X) → option_or (option_or o p) q ≡ option_or o (option_or p q)
or_else_through None p q = refl
or_else_through (Some x) p q = refl

module _ {A : Type 0} where
  -- the cause of asks that are some is that of their first
  cause_first : (k : Asking) (a : Ask A) (xs ys zs : List (Ask A)) (b : Ask A) → Among b xs → merge_cause k a (xs ++ ys) ≡ merge_cause k a (xs ++ zs)
  cause_first k a [] ys zs b m = absurd m
  cause_first ByName a (x ∷ xs) ys zs b m = refl
  cause_first ToFill a (x ∷ xs) ys zs b m = refl
  cause_first ToUse a (x ∷ xs) ys zs b m = refl

  no_cause : (k : Asking) (a : Ask A) (xs : List (Ask A)) (b : Ask A) → Among b xs → merge_cause k a xs ≡ None → ⊥
  no_cause k a [] b m e = m
  no_cause ByName a (x ∷ xs) b m e = none-some _ (sym e)
  no_cause ToFill a (x ∷ xs) b m e = none-some _ (sym e)
  no_cause ToUse a (x ∷ xs) b m e = none-some _ (sym e)

  -- what meets no cause keeps something
  keeps_some : (a : Ask A) (xs : List (Ask A)) (b : Ask A) → Among b xs → merge_fails a xs ≡ None → is_some (kept (asked_in xs)) ≡ true
  keeps_some a xs b m e = go (is_some (kept (asked_in xs))) e
    where
      go : (t : Bool) → (if t then None else merge_cause a.asking a xs) ≡ None → t ≡ true
      go true q = refl
      go false q = absurd (no_cause a.asking a xs b m q)

  pub conflict_split : (all pre ds rest : List (Ask A)) → merge_conflict all pre (ds ++ rest) ≡ option_or (merge_conflict all pre ds) (merge_conflict all (pre ++ ds) rest)
  conflict_split all pre [] rest = ap (λ xs. merge_conflict all xs rest) (sym (append-nil pre))
  conflict_split all pre (d ∷ ds) rest =
      let fails = merge_fails d (those_in (class all d) (pre ++ d ∷ [])) in
      ap (option_or fails) (conflict_split all (pre ++ d ∷ []) ds rest ∙ ap (λ xs. option_or (merge_conflict all (pre ++ d ∷ []) ds) (merge_conflict all xs rest)) (append_assoc pre (d ∷ []) ds))
      ∙ sym (or_else_through fails (merge_conflict all (pre ++ d ∷ []) ds) (merge_conflict all (pre ++ d ∷ ds) rest))

  -- whether a name of the asks is this one's
  abbrev named : List (Ask A) → Ask A → Bool
  named cs x = list_any (λ c. bytes_eq x.name c.name) cs

  named_by : (cs : List (Ask A)) (x : Ask A) → named cs x ≡ true → (d : Ask A) × Among d cs × (x.name ≡ d.name)
  named_by cs x e = let d = any_among (λ c. bytes_eq x.name c.name) cs e in (d.0, d.1, (bytes_eq-Decides x.name d.0.name).0 d.2)

  by_named : (cs : List (Ask A)) (x d : Ask A) → Among d cs → x.name ≡ d.name → named cs x ≡ true
  by_named cs x d m e = among_any (λ c. bytes_eq x.name c.name) cs d m ((bytes_eq-Decides x.name d.name).1 e)

  -- ---- asks of one class, so far

  module _ (all : List (Ask A)) (a : Ask A) (there : Among a all) where
    abbrev p : Ask A → Bool
    p x = named (class all a) x

    -- an ask that has a name of the class is of it
    class_named : (d : Ask A) → Among d all → p d ≡ true → class all d ≡ class all a
    class_named d m e =
        let c = named_by (class all a) d e in
        class_by_name all d c.0 m (within all a c.0 there c.1) c.2 ∙ sym (class_same all a c.0 there c.1)

    -- none is asked yet, or something is kept
    abbrev IsFine : List (Ask A) → Type 0
    IsFine xs = (filter p xs ≡ []) ⊎ (is_some (kept (asked_in (filter p xs))) ≡ true)

    fine_more : (pre : List (Ask A)) (d : Ask A) → Among d all → IsFine pre → merge_fails d (those_in (class all d) (pre ++ d ∷ [])) ≡ None → IsFine (pre ++ d ∷ [])
    fine_more pre d m fine e = go (p d) refl
      where
        go : (b : Bool) → p d ≡ b → IsFine (pre ++ d ∷ [])
        go true q =
            let same : those_in (class all d) (pre ++ d ∷ []) ≡ filter p (pre ++ d ∷ []) = ap (λ cs. those_in cs (pre ++ d ∷ [])) (class_named d m q) in
            inr (keeps_some d (filter p (pre ++ d ∷ [])) d (among_filter p (pre ++ d ∷ []) d (Among-right d pre (d ∷ []) (inl refl)) q) (ap (merge_fails d) (sym same) ∙ e))
        go false q =
            let same : filter p (pre ++ d ∷ []) ≡ filter p pre = filter_append p pre (d ∷ []) ∙ ap (λ b. filter p pre ++ cond b (d ∷ []) []) q ∙ append-nil (filter p pre) in
            subst (λ xs. (xs ≡ []) ⊎ (is_some (kept (asked_in xs)) ≡ true)) (sym same) fine

    -- behind asks that do not conflict
    fine_behind : (pre ds : List (Ask A)) → ((d : Ask A) → Among d ds → Among d all) → IsFine pre → merge_conflict all pre ds ≡ None → IsFine (pre ++ ds)
    fine_behind pre [] sub fine e = subst IsFine (sym (append-nil pre)) fine
    fine_behind pre (d ∷ ds) sub fine e =
        let n = or_none (merge_fails d (those_in (class all d) (pre ++ d ∷ []))) (merge_conflict all (pre ++ d ∷ []) ds) e in
        subst IsFine (append_assoc pre (d ∷ []) ds) (fine_behind (pre ++ d ∷ []) ds (λ c m. sub c (inr m)) (fine_more pre d (sub d (inl refl)) fine n.0) n.1)

  -- ---- an ask that repeats one before

  module _ (before after : List (Ask A)) (a b : Ask A) (there : Among b before) (names : b.name ≡ a.name) (items : b.item ≡ a.item) (well : (c : Ask A) → Among c before → IsWell c.item) where
    abbrev asks : List (Ask A)
    asks = before ++ after

    abbrev more : List (Ask A)
    more = before ++ a ∷ after

    own : Among a more
    own = Among-right a before (a ∷ after) (inl refl)

    twin : Among b more
    twin = Among-left b before (a ∷ after) there

    classes_stay : KeepsClasses asks more
    classes_stay = asked_again before after a b there names items well

    -- the asks before whose names are these
    abbrev firsts : List (Ask A) → List (Ask A)
    firsts cs = filter (named cs) before

    -- the names of a class are the same
    names_same : (c x : Ask A) → Among c asks → named (class more c) x ≡ named (class asks c) x
    names_same c x m = one_truth (named (class more c) x) (named (class asks c) x) to from
      where
        to : named (class more c) x ≡ true → named (class asks c) x ≡ true
        to e =
            let d = named_by (class more c) x e in
            let here = among_more before after a c m in
            elim (among_fewer before after a d.0 (within more c d.0 here d.1)) [
              | inl n ↦ by_named (class asks c) x d.0 ((classes_stay.classes c d.0 m n).0 d.1) d.2
              | inr q ↦
                  let in_class : Among a (class more c) = subst (λ y. Among y (class more c)) q d.1 in
                  let same = class_same more c a here in_class ∙ class_by_name more a b own twin (sym names) in
                  let b_in : Among b (class more c) = subst (Among b) (sym same) (class_itself more b twin) in
                  by_named (class asks c) x b ((classes_stay.classes c b m (Among-left b before after there)).0 b_in) (d.2 ∙ ap (λ (y : Ask A). y.name) q ∙ sym names)
            ]

        from : named (class asks c) x ≡ true → named (class more c) x ≡ true
        from e =
            let d = named_by (class asks c) x e in
            by_named (class more c) x d.0 ((classes_stay.classes c d.0 m (within asks c d.0 m d.1)).1 d.1) d.2

    those_same : (c : Ask A) (xs : List (Ask A)) → Among c asks → those_in (class more c) xs ≡ those_in (class asks c) xs
    those_same c xs m = filter_same (named (class more c)) (named (class asks c)) xs (λ x n e. sym (names_same c x m) ∙ e) (λ x n e. names_same c x m ∙ e)

    -- the asks before
    before_same : (pre ds : List (Ask A)) → ((d : Ask A) → Among d ds → Among d asks) → merge_conflict more pre ds ≡ merge_conflict asks pre ds
    before_same pre [] sub = refl
    before_same pre (d ∷ ds) sub =
        λ i. option_or (merge_fails d (those_same d (pre ++ d ∷ []) (sub d (inl refl)) i)) (before_same (pre ++ d ∷ []) ds (λ c m. sub c (inr m)) i)

    -- the repeated one among asks of a class
    fails_same : (d : Ask A) (cs xs : List (Ask A)) → merge_fails d (those_in cs (before ++ a ∷ xs)) ≡ merge_fails d (those_in cs (before ++ xs))
    fails_same d cs xs = ap (merge_fails d) (filter_append (named cs) before (a ∷ xs)) ∙ go (named cs a) refl ∙ ap (merge_fails d) (sym (filter_append (named cs) before xs))
      where
        go : (t : Bool) → named cs a ≡ t → merge_fails d (firsts cs ++ cond t (a ∷ filter (named cs) xs) (filter (named cs) xs)) ≡ merge_fails d (firsts cs ++ filter (named cs) xs)
        go true q =
            let m = among_filter (named cs) before b there (ap (λ n. list_any (λ c. bytes_eq n c.name) cs) names ∙ q) in
            λ i. if is_some (kept_again (firsts cs) (filter (named cs) xs) a b m names items (λ c n. well c (filter_among (named cs) before c n).0) i) then None else cause_first d.asking d (firsts cs) (a ∷ filter (named cs) xs) (filter (named cs) xs) b m i
        go false q = refl

    -- the asks behind it
    after_same : (bs ds : List (Ask A)) → ((d : Ask A) → Among d ds → Among d asks) → merge_conflict more (before ++ a ∷ bs) ds ≡ merge_conflict asks (before ++ bs) ds
    after_same bs [] sub = refl
    after_same bs (d ∷ ds) sub =
        let left = append_assoc before (a ∷ bs) (d ∷ []) in
        let right = append_assoc before bs (d ∷ []) in
        let first = ap (λ xs. merge_fails d (those_in (class more d) xs)) left ∙ ap (merge_fails d) (those_same d (before ++ a ∷ (bs ++ d ∷ [])) (sub d (inl refl))) ∙ fails_same d (class asks d) (bs ++ d ∷ []) ∙ ap (λ xs. merge_fails d (those_in (class asks d) xs)) (sym right) in
        let rest = ap (λ xs. merge_conflict more xs ds) left ∙ after_same (bs ++ d ∷ []) ds (λ c m. sub c (inr m)) ∙ ap (λ xs. merge_conflict asks xs ds) (sym right) in
        λ i. option_or (first i) (rest i)

    -- and itself
    repeated_fine : merge_conflict more [] before ≡ None → merge_fails a (those_in (class more a) (before ++ a ∷ [])) ≡ None
    repeated_fine e = fails_same a (class more a) [] ∙ ap (λ xs. merge_fails a (those_in (class more a) xs)) (append-nil before) ∙ go (fine_behind more a own [] before (λ d m. Among-left d before (a ∷ after) m) (inl refl) e)
      where
        go : (firsts (class more a) ≡ []) ⊎ (is_some (kept (asked_in (firsts (class more a)))) ≡ true) → merge_fails a (firsts (class more a)) ≡ None
        go (inl q) = absurd (subst (Among b) q (among_filter (named (class more a)) before b there (by_named (class more a) b a (class_itself more a own) names)))
        go (inr q) = ap (λ t. if t then None else merge_cause a.asking a (firsts (class more a))) q

    firsts_same : merge_conflict more [] before ≡ merge_conflict asks [] before
    firsts_same = before_same [] before (λ d m. Among-left d before after m)

    conflict_same : merge_conflict more [] more ≡ merge_conflict asks [] asks
    conflict_same = conflict_split more [] before (a ∷ after) ∙ go (merge_conflict more [] before) refl ∙ sym (conflict_split asks [] before after)
      where
        go : (o : Option (Cause A)) → merge_conflict more [] before ≡ o → option_or (merge_conflict more [] before) (merge_conflict more before (a ∷ after)) ≡ option_or (merge_conflict asks [] before) (merge_conflict asks before after)
        go None e =
            let rest = ap (λ o. option_or o (merge_conflict more (before ++ a ∷ []) after)) (repeated_fine e) ∙ after_same [] after (λ d m. Among-right d before after m) ∙ ap (λ xs. merge_conflict asks xs after) (append-nil before) in
            λ i. option_or (firsts_same i) (rest i)
        go (Some x) e =
            ap (λ o. option_or o (merge_conflict more before (a ∷ after))) e ∙ ap (λ o. option_or o (merge_conflict asks before after)) (sym (sym firsts_same ∙ e))

    -- those asked before are well, in their pairs too
    pairs_well : (cs : List (Ask A)) (p : Asked) → Among p (asked_in (firsts cs)) → IsWell p.1
    pairs_well cs p m =
        let r = mapped_among (λ (c : Ask A). (c.name, c.item)) (firsts cs) p m in
        subst (λ (q : Asked). IsWell q.1) (sym r.2) (well r.0 (filter_among (named cs) before r.0 r.1).0)

    -- what is told of an ask behind it, of asks of a class
    told_behind : (e : AggregateError) (cs xs : List (Ask A)) (ask : Asked) → TellsUnmerged e (asked_in (those_in cs (before ++ xs))) ask → TellsUnmerged e (asked_in (those_in cs (before ++ a ∷ xs))) ask
    told_behind e cs xs ask t =
        subst (λ ys. TellsUnmerged e (asked_in ys) ask) (sym (filter_append (named cs) before (a ∷ xs)))
        (go (named cs a) refl (subst (λ ys. TellsUnmerged e (asked_in ys) ask) (filter_append (named cs) before xs) t))
      where
        go : (c : Bool) → named cs a ≡ c → TellsUnmerged e (asked_in (firsts cs ++ filter (named cs) xs)) ask → TellsUnmerged e (asked_in (firsts cs ++ cond c (a ∷ filter (named cs) xs) (filter (named cs) xs))) ask
        go false q u = u
        go true q u =
            let m = among_filter (named cs) before b there (ap (λ n. list_any (λ c. bytes_eq n c.name) cs) names ∙ q) in
            let pair : Asked = (a.name, a.item) in
            let twin_pair = subst (λ p. Among p (asked_in (firsts cs))) (λ i. (names i, items i)) (among_mapped (λ (c : Ask A). (c.name, c.item)) (firsts cs) b m) in
            let without = map-append (λ (c : Ask A). (c.name, c.item)) (firsts cs) (filter (named cs) xs) in
            let along = map-append (λ (c : Ask A). (c.name, c.item)) (firsts cs) (a ∷ filter (named cs) xs) in
            subst (λ ys. TellsUnmerged e ys ask) (sym along)
            (unmerged_again e (asked_in (firsts cs)) (asked_in (filter (named cs) xs)) pair ask twin_pair (pairs_well cs) (subst (λ ys. TellsUnmerged e ys ask) without u))

    -- an ask before it conflicts, or one behind it
    told_same : (e : AggregateError) → TellsConflict e asks → TellsConflict e more
    told_same e t = elim (stands_in before after t.before t.ask t.later t.are) [ inl s ↦ first s.0 s.1 | inr s ↦ second s.0 s.1 s.2 ]
      where
        among : Among t.ask asks
        among = subst (Among t.ask) (sym t.are) (Among-right t.ask t.before (t.ask ∷ t.later) (inl refl))

        each : (d : Ask A) → Among d t.before → Among d asks
        each d m = subst (Among d) (sym t.are) (Among-left d t.before (t.ask ∷ t.later) m)

        first : (ms : List (Ask A)) → before ≡ t.before ++ t.ask ∷ ms → TellsConflict e more
        first ms is = record {
          before = t.before;
          ask = t.ask;
          later = ms ++ a ∷ after;
          are = ap (λ xs. xs ++ a ∷ after) is ∙ append_assoc t.before (t.ask ∷ ms) (a ∷ after);
          none_before = before_same [] t.before each ∙ t.none_before;
          tells = subst (λ xs. TellsUnmerged e (asked_in xs) (t.ask.name, t.ask.item)) (sym (those_same t.ask t.before among)) t.tells;
        }

        second : (ms : List (Ask A)) → t.before ≡ before ++ ms → after ≡ ms ++ t.ask ∷ t.later → TellsConflict e more
        second ms is are = record {
          before = before ++ a ∷ ms;
          ask = t.ask;
          later = t.later;
          are = ap (λ xs. before ++ a ∷ xs) are ∙ sym (append_assoc before (a ∷ ms) (t.ask ∷ t.later));
          none_before = none_before;
          tells = subst (λ xs. TellsUnmerged e (asked_in xs) (t.ask.name, t.ask.item)) (sym (those_same t.ask (before ++ a ∷ ms) among))
              (told_behind e (class asks t.ask) ms (t.ask.name, t.ask.item) (subst (λ xs. TellsUnmerged e (asked_in (those_in (class asks t.ask) xs)) (t.ask.name, t.ask.item)) is t.tells));
        }
          where
            parts : (merge_conflict asks [] before ≡ None) × (merge_conflict asks before ms ≡ None)
            parts = or_none (merge_conflict asks [] before) (merge_conflict asks before ms) (sym (conflict_split asks [] before ms) ∙ ap (λ xs. merge_conflict asks [] xs) (sym is) ∙ t.none_before)

            none_first : merge_conflict more [] before ≡ None
            none_first = firsts_same ∙ parts.0

            behind : (d : Ask A) → Among d ms → Among d asks
            behind d m = each d (subst (Among d) (sym is) (Among-right d before ms m))

            none_rest : merge_conflict more (before ++ a ∷ []) ms ≡ None
            none_rest = after_same [] ms behind ∙ ap (λ xs. merge_conflict asks xs ms) (append-nil before) ∙ parts.1

            none_before : merge_conflict more [] (before ++ a ∷ ms) ≡ None
            none_before =
                conflict_split more [] before (a ∷ ms)
                ∙ ap (λ o. option_or o (merge_conflict more before (a ∷ ms))) none_first
                ∙ ap (λ o. option_or o (merge_conflict more (before ++ a ∷ []) ms)) (repeated_fine none_first) ∙ none_rest

pub repeated_is_told : {A : Type 0} → Repeated_is_told A
repeated_is_told e before after a b m n i w t = told_same before after a b m n i w e t

pub repeated_conflicts_no_more : {A : Type 0} → Repeated_conflicts_no_more A
repeated_conflicts_no_more before after a b m n i w = conflict_same before after a b m n i w
