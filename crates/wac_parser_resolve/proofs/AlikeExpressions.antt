-- Expressions denote the same whatever the spans are, and over packages that are the same where they are named.
use Rattle.std.specs.Prelude.{ℕ, Bool, true, false, not, ◌&&◌, List, [], ◌∷◌, ◌++◌, map, length, Option, Some, None, is_some, filter, find, ⊤, bytes_eq, option_map}
use Rattle.std.proofs.Common.{◌≡◌, refl, sym, ap, subst, inl, inr}
use Rattle.std.proofs.lemmas.List.{map-append, length-map}
use Rattle.std.proofs.lemmas.Option.{same_Some}
use Rattle.semver.specs.Parse.{Parts}
use Rattle.wac_types_base.specs.Entries.{Name, value_at, names_of, has_name}
use Rattle.wac_types_base.specs.Stated.{Stated, kind_of, exports_of, imports_of, instance_type}
use Rattle.wac_types_names.specs.Keys.{Key}
use Rattle.wac_composition.specs.Tests.{fits}
use Rattle.wac_composition.specs.Classes.{is_instance_kind}
use Rattle.wac_composition.specs.Composition.{instance}
use Rattle.wac_parser_tree.specs.Trees as t
use Rattle.wac_parser_tree.specs.Trees.{Span}
use Rattle.wac_parser_tree.specs.Bare.{nowhere, bare_ident, bare_package_name, bare_postfix, bare_expr, bare_primary, bare_new, bare_nested, bare_arguments, bare_argument, bare_named_argument, bare_argument_name}
use Rattle.wac_parser_tree.specs.Named.{Named, Tracked, from_expr, from_primary, from_new, from_nested, from_arguments, from_argument, from_named_argument, in_expr, in_new, track_in_new}
use Rattle.wac_parser_tree.specs.Accessors.{argument_name_span, postfix_expr_span, primary_expr_span}
use Rattle.wac_parser_refusals.specs.declared.error.InstanceOperation.{InstanceOperation}
use Rattle.wac_parser_refusals.specs.Causes.{Answer, ◌>>=◌, pure, present, each, DuplicateInstantiationArg, UnknownPackage}
use Rattle.wac_parser_refusals.proofs.Alike.{IsAlike, both, neither, itself, AreSame, then_alike, next_alike, clear_alike, clear_same, needs_alike, present_same, each_alike, each_same, HoldsIn, front_holds, back_holds}
use Rattle.wac_parser_declare.specs.Packages.{Content}
use Rattle.wac_parser_declare.proofs.AlikeScopes.{IsSameIn, AreSameIn, package_alike}
use Rattle.wac_parser_resolve.specs.Ascribing.{Denoted, Made, State, worlds_of}
use Rattle.wac_parser_resolve.specs.Choosing.{greatest_on}
use Rattle.wac_parser_resolve.specs.Laws.{ChoosesTheSame}
use Rattle.wac_parser_resolve.specs.Denoting.{needs_instance, export_by, export_named, access_by, access, accesses, Given, given_names, add_given, inferred_name, argument_name, left_names, spread_given, spread_all, spread_one, spreads_of, compared_by, argument_fits, none_missing, complete, is_filled, is_last, with_made, finished, version_key, under_key, new_package, denote, primary, nested, new_instance, arguments, one_argument, named_argument}
use Rattle.wac_parser_resolve.proofs.AlikeStates.{bare_made, over, bare_over, denoted_alike, IsDenotedAlike, spoken_alike}

-- ---- accesses

pub needs_instance_alike : (d : Denoted) (o : InstanceOperation) (s z : Span) → AreSame (needs_instance d o s) (needs_instance d o z)
needs_instance_alike d o s z = clear_alike (not (is_instance_kind (kind_of d.item))) _ _ s z

export_by_alike : (d : Denoted) (n : Name) (o : Option Stated) (s z : Span) → AreSame (export_by d n o s) (export_by d n o z)
export_by_alike d n None s z = neither _ _
export_by_alike d n (Some x) s z = both _

pub export_named_alike : (d : Denoted) (n : Name) (s z : Span) → AreSame (export_named d n s) (export_named d n z)
export_named_alike d n s z = export_by_alike d n (value_at (exports_of d.item) n) s z

access_by_alike : (d : Denoted) (p : t.PostfixExpr) → AreSame (access_by d p) (access_by d (bare_postfix p))
access_by_alike d (t.PostfixExpr.access a) = export_named_alike d _ a.span nowhere
access_by_alike d (t.PostfixExpr.named_access a) = export_named_alike d a.string.value a.span nowhere

-- ---- what is given

abbrev pub bare_given : Given → Given
bare_given g = record { name = g.name; denoted = g.denoted; span = nowhere }

names_bare : (gs : List Given) → given_names (map bare_given gs) ≡ given_names gs
names_bare [] = refl
names_bare (g ∷ gs) = ap (λ ns. g.name ∷ ns) (names_bare gs)

abbrev pair_of : Given → Name × Denoted
pair_of a = (a.name, a.denoted)

pairs_bare : (gs : List Given) → map pair_of (map bare_given gs) ≡ map pair_of gs
pairs_bare [] = refl
pairs_bare (g ∷ gs) = ap (λ es. pair_of g ∷ es) (pairs_bare gs)

add_given_alike : (gs : List Given) (x : Given) → IsAlike itself (map bare_given) (add_given gs x) (add_given (map bare_given gs) (bare_given x))
add_given_alike gs x = next_alike
    (clear_same (has_name (given_names gs) x.name) (has_name (given_names (map bare_given gs)) x.name) (DuplicateInstantiationArg x.name) (DuplicateInstantiationArg x.name) x.span nowhere (ap (λ ns. has_name ns x.name) (sym (names_bare gs))))
    (subst (λ (hs : List Given). IsAlike itself (map bare_given) (pure (gs ++ x ∷ [])) (pure hs)) (map-append bare_given gs (x ∷ [])) (both (gs ++ x ∷ [])))

argument_name_bare : (ns : List Name) (n : t.InstantiationArgumentName) → argument_name ns (bare_argument_name n) ≡ argument_name ns n
argument_name_bare ns (t.InstantiationArgumentName.ident i) = refl
argument_name_bare ns (t.InstantiationArgumentName.string x) = refl

argument_span_bare : (n : t.InstantiationArgumentName) → argument_name_span (bare_argument_name n) ≡ nowhere
argument_span_bare (t.InstantiationArgumentName.ident i) = refl
argument_span_bare (t.InstantiationArgumentName.string x) = refl

spreads_bare : (as_ : t.Arguments) → spreads_of (bare_arguments as_) ≡ map bare_ident (spreads_of as_)
spreads_bare t.no_arguments = refl
spreads_bare (t.argument (t.InstantiationArgument.spread i) as_) = ap (λ is. bare_ident i ∷ is) (spreads_bare as_)
spreads_bare (t.argument (t.InstantiationArgument.inferred i) as_) = spreads_bare as_
spreads_bare (t.argument (t.InstantiationArgument.named a) as_) = spreads_bare as_
spreads_bare (t.argument (t.InstantiationArgument.fill s) as_) = spreads_bare as_

filled_bare : (as_ : t.Arguments) → is_filled (bare_arguments as_) ≡ is_filled as_
filled_bare t.no_arguments = refl
filled_bare (t.argument (t.InstantiationArgument.spread i) as_) = filled_bare as_
filled_bare (t.argument (t.InstantiationArgument.inferred i) as_) = filled_bare as_
filled_bare (t.argument (t.InstantiationArgument.named a) as_) = filled_bare as_
filled_bare (t.argument (t.InstantiationArgument.fill s) as_) = refl

last_bare : (as_ : t.Arguments) → is_last (bare_arguments as_) ≡ is_last as_
last_bare t.no_arguments = refl
last_bare (t.argument a as_) = refl

-- ---- the instance

argument_fits_alike : (k : Key) (w : Stated) (u : ⊤) (a : Given) → AreSame (argument_fits k w u a) (argument_fits k w u (bare_given a))
argument_fits_alike k w u a = then_alike _ _ (present_same (value_at (imports_of w) a.name) _ _ a.span nowhere)
    (λ x. needs_alike (fits (compared_by a.denoted.origin a.denoted.item) x) _ _)

none_missing_alike : (p : t.PackageName) (o : Option Name) → AreSame (none_missing p o) (none_missing (bare_package_name p) o)
none_missing_alike p None = both tt
none_missing_alike p (Some n) = neither _ _

complete_alike : (filled : Bool) (p : t.PackageName) (gs : List Given) (ns : List Name) → AreSame (complete filled p gs ns) (complete filled (bare_package_name p) (map bare_given gs) ns)
complete_alike true p gs ns = both tt
complete_alike false p gs ns = subst (λ (ms : List Name). AreSame (complete false p gs ns) (none_missing (bare_package_name p) (find (λ n. not (has_name ms n)) ns))) (sym (names_bare gs)) (none_missing_alike p _)

module _ (ps qs : List (Key × Content)) where
  made_alike : (g : State) (m : Made) → IsDenotedAlike ps qs (pure (with_made (over ps g) m)) (pure (with_made (bare_over qs g) (bare_made m)))
  made_alike g m = subst (λ (ms : List Made). IsDenotedAlike ps qs (pure (with_made (over ps g) m)) (pure (read ms (length (map bare_made g.made))))) (map-append bare_made g.made (m ∷ []))
      (subst (λ (k : ℕ). IsDenotedAlike ps qs (pure (with_made (over ps g) m)) (pure (read (map bare_made (g.made ++ m ∷ [])) k))) (sym (length-map g.made bare_made))
      (both (record g { made = g.made ++ m ∷ [] }, record { origin = instance (length g.made); item = instance_type m.world })))
    where
      read : List Made → ℕ → State × Denoted
      read ms k = (record (bare_over qs g) { made = ms }, record { origin = instance k; item = instance_type m.world })

  finished_alike : (g : State) (p : t.PackageName) (k : Key) (w : Stated) (gs : List Given) (filled : Bool) → IsDenotedAlike ps qs (finished (over ps g) p k w gs filled) (finished (bare_over qs g) (bare_package_name p) k w (map bare_given gs) filled)
  finished_alike g p k w gs filled = next_alike
      (each_alike {f = itself} {g = itself} bare_given (argument_fits k w) (argument_fits k w) (argument_fits_alike k w) tt gs)
      (next_alike (complete_alike filled p gs (names_of (imports_of w)))
      (subst (λ (as_ : List (Name × Denoted)). IsDenotedAlike ps qs (pure (with_made (over ps g) made)) (pure (with_made (bare_over qs g) (record { key = k; world = w; arguments = as_; span = nowhere }))))
      (sym (pairs_bare gs)) (made_alike g made)))
    where
      made : Made
      made = record { key = k; world = w; arguments = map pair_of gs; span = p.span }

  -- ---- the package

  -- the packages and the tracks that are named are the same
  abbrev pub AreHeld : List Named → List Tracked → Type 0
  AreHeld ks ts = AreSameIn (worlds_of ps) (worlds_of qs) ks × HoldsIn (ChoosesTheSame ps qs) ts

  pub front_held : (ks ls : List Named) (ts us : List Tracked) → AreHeld (ks ++ ls) (ts ++ us) → AreHeld ks ts
  front_held ks ls ts us h = (front_holds (IsSameIn (worlds_of ps) (worlds_of qs)) ks ls h.0, front_holds (ChoosesTheSame ps qs) ts us h.1)

  pub back_held : (ks ls : List Named) (ts us : List Tracked) → AreHeld (ks ++ ls) (ts ++ us) → AreHeld ls us
  back_held ks ls ts us h = (back_holds (IsSameIn (worlds_of ps) (worlds_of qs)) ks ls h.0, back_holds (ChoosesTheSame ps qs) ts us h.1)

  under_key_alike : (k : Key) (s z : Span) → IsSameIn (worlds_of ps) (worlds_of qs) k → AreSame (under_key (worlds_of ps) s k) (under_key (worlds_of qs) z k)
  under_key_alike k s z h = then_alike _ _ (package_alike (worlds_of ps) (worlds_of qs) k s z h) (λ w. both (k, w))

  chosen_alike : (n : Name) (o r : Option Parts) (s z : Span) → o ≡ r → ((v : Parts) → o ≡ Some v → IsSameIn (worlds_of ps) (worlds_of qs) (version_key n v))
      → AreSame (present (option_map (version_key n) o) (UnknownPackage n) s >>= under_key (worlds_of ps) s) (present (option_map (version_key n) r) (UnknownPackage n) z >>= under_key (worlds_of qs) z)
  chosen_alike n None None s z e h = neither _ _
  chosen_alike n None (Some v) s z e h = absurd (cc e)
  chosen_alike n (Some v) None s z e h = absurd (cc e)
  chosen_alike n (Some v) (Some w) s z e h =
      subst (λ (u : Parts). AreSame (under_key (worlds_of ps) s (version_key n v)) (under_key (worlds_of qs) z (version_key n u))) (same_Some v w e) (under_key_alike (version_key n v) s z (h v refl))

  new_package_alike : (g : State) (p : t.PackageName) (track : Option Name) → AreHeld (in_new p track) (track_in_new p track) → AreSame (new_package (over ps g) p track) (new_package (bare_over qs g) (bare_package_name p) track)
  new_package_alike g p None h = next_alike (clear_alike (bytes_eq p.name g.own.name) _ _ p.span nowhere) (under_key_alike (p.name, p.version) p.span nowhere (h.0 (p.name, p.version) (inl refl)))
  new_package_alike g p (Some track) h =
      let same = h.1 (p.name, track) (inl refl) in
      next_alike (clear_alike (bytes_eq p.name g.own.name) _ _ p.span nowhere) (chosen_alike p.name (greatest_on (names_of ps) p.name track) (greatest_on (names_of qs) p.name track) p.span nowhere same.greatest same.world)

  -- ---- steps over what was said

  access_alike : (s z : Span) (g : State) (d : Denoted) (p : t.PostfixExpr) → IsDenotedAlike ps qs (access s (over ps g) d p) (access z (bare_over qs g) d (bare_postfix p))
  access_alike s z g d p = next_alike (needs_instance_alike d InstanceOperation.Access s z) (spoken_alike ps qs g _ _ (access_by_alike d p))

  accesses_alike : (s z : Span) (g : State) (d : Denoted) (as_ : List t.PostfixExpr) → IsDenotedAlike ps qs (accesses s (over ps g) d as_) (accesses z (bare_over qs g) d (map bare_postfix as_))
  accesses_alike s z g d [] = both (g, d)
  accesses_alike s z g d (a ∷ as_) = then_alike _ _ (access_alike s z g d a) (λ r. accesses_alike (postfix_expr_span a) (postfix_expr_span (bare_postfix a)) r.0 r.1 as_)

  abbrev pub left_given : State × List Given → State × List Given
  left_given r = (over ps r.0, r.1)

  abbrev pub right_given : State × List Given → State × List Given
  right_given r = (bare_over qs r.0, map bare_given r.1)

  abbrev pub IsGivenAlike : Answer (State × List Given) → Answer (State × List Given) → Type 0
  IsGivenAlike a b = IsAlike {A = State × List Given} left_given right_given a b

  spread_given_alike : (s : Span) (d : Denoted) (r : State × List Given) (n : Name) → IsGivenAlike (spread_given s d (left_given r) n) (spread_given nowhere d (right_given r) n)
  spread_given_alike s d r n = then_alike _ _ (spoken_alike ps qs r.0 _ _ (export_named_alike d n s nowhere)) step
    where
      one : Denoted → Given
      one e = record { name = n; denoted = e; span = s }

      step : (q : State × Denoted) → IsGivenAlike (pure (over ps q.0, r.1 ++ one q.1 ∷ [])) (pure (bare_over qs q.0, map bare_given r.1 ++ bare_given (one q.1) ∷ []))
      step q = subst (λ (hs : List Given). IsGivenAlike (pure (over ps q.0, r.1 ++ one q.1 ∷ [])) (pure (bare_over qs q.0, hs))) (map-append bare_given r.1 (one q.1 ∷ [])) (both (q.0, r.1 ++ one q.1 ∷ []))

  spread_all_alike : (s : Span) (d : Denoted) (r : State × List Given) (ns : List Name) → IsGivenAlike (spread_all s d (left_given r) ns) (spread_all nowhere d (right_given r) ns)
  spread_all_alike s d r [] = neither _ _
  spread_all_alike s d r (n ∷ ns) = each_same {f = left_given} {g = right_given} (spread_given s d) (spread_given nowhere d) (spread_given_alike s d) r (n ∷ ns)

  spread_one_alike : (ns : List Name) (r : State × List Given) (i : t.Ident) → IsGivenAlike (spread_one ns (left_given r) i) (spread_one ns (right_given r) (bare_ident i))
  spread_one_alike ns r i = then_alike _ _ (denoted_alike (over ps r.0) (bare_over qs r.0) i refl)
      (λ d. next_alike (needs_instance_alike d InstanceOperation.Spread i.span nowhere)
      (subst (λ (ms : List Name). IsGivenAlike (spread_all i.span d (left_given r) (left_names r.1 ns d.item)) (spread_all nowhere d (right_given r) (filter (λ n. not (has_name ms n) && is_some (value_at (exports_of d.item) n)) ns)))
      (sym (names_bare r.1)) (spread_all_alike i.span d r (left_names r.1 ns d.item))))

  -- ---- expressions

  mutual
    pub denote_alike : (g : State) (e : t.Expr) → AreHeld (in_expr e) (from_expr track_in_new e) → IsDenotedAlike ps qs (denote (over ps g) e) (denote (bare_over qs g) (bare_expr e))
    denote_alike g (t.expr s p as_) h = then_alike _ _ (primary_alike g p h) (λ r. accesses_alike (primary_expr_span p) (primary_expr_span (bare_primary p)) r.0 r.1 as_)

    primary_alike : (g : State) (p : t.PrimaryExpr) → AreHeld (from_primary in_new p) (from_primary track_in_new p) → IsDenotedAlike ps qs (primary (over ps g) p) (primary (bare_over qs g) (bare_primary p))
    primary_alike g (t.PrimaryExpr.ident i) h = then_alike _ _ (denoted_alike (over ps g) (bare_over qs g) i refl) (λ d. both (g, d))
    primary_alike g (t.PrimaryExpr.nested n) h = nested_alike g n h
    primary_alike g (t.PrimaryExpr.new n) h = new_alike g n h

    nested_alike : (g : State) (n : t.NestedExpr) → AreHeld (from_nested in_new n) (from_nested track_in_new n) → IsDenotedAlike ps qs (nested (over ps g) n) (nested (bare_over qs g) (bare_nested n))
    nested_alike g (t.nested_expr s e) h = denote_alike g e h

    new_alike : (g : State) (n : t.NewExpr) → AreHeld (from_new in_new n) (from_new track_in_new n) → IsDenotedAlike ps qs (new_instance (over ps g) n) (new_instance (bare_over qs g) (bare_new n))
    new_alike g (t.new_expr s p track as_) h =
        then_alike _ _ (new_package_alike g p track (front_held (in_new p track) (from_arguments in_new as_) (track_in_new p track) (from_arguments track_in_new as_) h))
        (λ x. then_alike _ _ (arguments_alike g (names_of (imports_of x.1)) [] as_ (back_held (in_new p track) (from_arguments in_new as_) (track_in_new p track) (from_arguments track_in_new as_) h))
        (λ r. then_alike _ _ (spreads_alike x.1 r (spreads_bare as_)) (λ q. instance_alike x.0 x.1 q (filled_bare as_))))
      where
        spreads_alike : (w : Stated) (r : State × List Given) → spreads_of (bare_arguments as_) ≡ map bare_ident (spreads_of as_)
            → IsGivenAlike (each (spread_one (names_of (imports_of w))) (left_given r) (spreads_of as_)) (each (spread_one (names_of (imports_of w))) (right_given r) (spreads_of (bare_arguments as_)))
        spreads_alike w r e = subst (λ (is : List t.Ident). IsGivenAlike (each (spread_one (names_of (imports_of w))) (left_given r) (spreads_of as_)) (each (spread_one (names_of (imports_of w))) (right_given r) is)) (sym e)
            (each_alike {f = left_given} {g = right_given} bare_ident (spread_one (names_of (imports_of w))) (spread_one (names_of (imports_of w))) (spread_one_alike (names_of (imports_of w))) r (spreads_of as_))

        instance_alike : (k : Key) (w : Stated) (q : State × List Given) → is_filled (bare_arguments as_) ≡ is_filled as_
            → IsDenotedAlike ps qs (finished (over ps q.0) p k w q.1 (is_filled as_)) (finished (bare_over qs q.0) (bare_package_name p) k w (map bare_given q.1) (is_filled (bare_arguments as_)))
        instance_alike k w q e = subst (λ (b : Bool). IsDenotedAlike ps qs (finished (over ps q.0) p k w q.1 (is_filled as_)) (finished (bare_over qs q.0) (bare_package_name p) k w (map bare_given q.1) b)) (sym e) (finished_alike q.0 p k w q.1 (is_filled as_))

    arguments_alike : (g : State) (ns : List Name) (gs : List Given) (as_ : t.Arguments) → AreHeld (from_arguments in_new as_) (from_arguments track_in_new as_) → IsGivenAlike (arguments (over ps g) ns gs as_) (arguments (bare_over qs g) ns (map bare_given gs) (bare_arguments as_))
    arguments_alike g ns gs t.no_arguments h = both (g, gs)
    arguments_alike g ns gs (t.argument a as_) h = then_alike _ _
        (subst (λ (b : Bool). IsGivenAlike (one_argument (over ps g) ns gs a (is_last as_)) (one_argument (bare_over qs g) ns (map bare_given gs) (bare_argument a) b)) (sym (last_bare as_))
        (one_argument_alike g ns gs a (is_last as_) (front_held (from_argument in_new a) (from_arguments in_new as_) (from_argument track_in_new a) (from_arguments track_in_new as_) h)))
        (λ r. arguments_alike r.0 ns r.1 as_ (back_held (from_argument in_new a) (from_arguments in_new as_) (from_argument track_in_new a) (from_arguments track_in_new as_) h))

    one_argument_alike : (g : State) (ns : List Name) (gs : List Given) (a : t.InstantiationArgument) (last : Bool) → AreHeld (from_argument in_new a) (from_argument track_in_new a) → IsGivenAlike (one_argument (over ps g) ns gs a last) (one_argument (bare_over qs g) ns (map bare_given gs) (bare_argument a) last)
    one_argument_alike g ns gs (t.InstantiationArgument.inferred i) last h = then_alike _ _ (denoted_alike (over ps g) (bare_over qs g) i refl)
        (λ d. then_alike _ _ (add_given_alike gs (record { name = inferred_name ns i d; denoted = d; span = i.span })) (λ hs. both (g, hs)))
    one_argument_alike g ns gs (t.InstantiationArgument.spread i) last h = both (g, gs)
    one_argument_alike g ns gs (t.InstantiationArgument.fill s) last h = next_alike (clear_alike (not last) _ _ s nowhere) (both (g, gs))
    one_argument_alike g ns gs (t.InstantiationArgument.named a) last h = named_argument_alike g ns gs a h

    named_argument_alike : (g : State) (ns : List Name) (gs : List Given) (a : t.NamedInstantiationArgument) → AreHeld (from_named_argument in_new a) (from_named_argument track_in_new a) → IsGivenAlike (named_argument (over ps g) ns gs a) (named_argument (bare_over qs g) ns (map bare_given gs) (bare_named_argument a))
    named_argument_alike g ns gs (t.named_argument n e) h = then_alike _ _ (denote_alike g e h) (λ r. then_alike _ _ (added r.1) (λ hs. both (r.0, hs)))
      where
        given : Denoted → Name → Span → Given
        given d m z = record { name = m; denoted = d; span = z }

        added : (d : Denoted) → IsAlike itself (map bare_given) (add_given gs (given d (argument_name ns n) (argument_name_span n))) (add_given (map bare_given gs) (given d (argument_name ns (bare_argument_name n)) (argument_name_span (bare_argument_name n))))
        added d = subst (λ (z : Span). IsAlike itself (map bare_given) (add_given gs (given d (argument_name ns n) (argument_name_span n))) (add_given (map bare_given gs) (given d (argument_name ns (bare_argument_name n)) z))) (sym (argument_span_bare n))
            (subst (λ (m : Name). IsAlike itself (map bare_given) (add_given gs (given d (argument_name ns n) (argument_name_span n))) (add_given (map bare_given gs) (given d m nowhere))) (sym (argument_name_bare ns n))
            (add_given_alike gs (given d (argument_name ns n) (argument_name_span n))))
