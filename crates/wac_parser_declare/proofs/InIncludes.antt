-- Includes: one item under its name, all items in order, names that are left for exports.
use Rattle.std.proofs.Common.{◌≡◌, ◌==◌, ℕ, zero, suc, ◌+◌, Bool, true, false, not, ◌&&◌, ◌||◌, cond, List, [], ◌∷◌, ◌++◌, drop, Option, Some, None, is_some, slice_get, Result, Ok, Err, refl, sym, ap, subst, ◌∙◌, arith}
use Rattle.std.specs.Prelude.{⊤}
use Rattle.std.specs.Cmp.Lexicographic.{bytes_decides, pointwise}
use Rattle.wac_types_base.specs.declared.item.ExternKind.{ExternKind}
use Rattle.wac_types_base.specs.declared.item.ItemKind.{ItemKind}
use Rattle.wac_types_base.specs.declared.defined.World.{World}
use Rattle.wac_types_base.specs.Record.{Collection}
use Rattle.wac_types_base.specs.Entries.{Name, value_at, with_values}
use Rattle.wac_types_base.specs.Stated.{Stated, exports_of, imports_of, stated_of}
use Rattle.wac_types_base.proofs.Standing.{is_some-option_map}
use Rattle.wac_types_base.proofs.Stating.{value_with}
use Rattle.wac_parser_tree.specs.Trees as t
use Rattle.wac_parser_tree.specs.Trees.{Span}
use Rattle.wac_parser_tree.specs.Accessors.{world_ref_name}
use Rattle.wac_parser_tree.specs.declared.world.WorldIncludeItem.{WorldIncludeItem}
use Rattle.wac_parser_refusals.specs.declared.refusal.Refusal.{Refusal}
use Rattle.wac_parser_refusals.specs.Causes.{Answer, Fault, ◌>>=◌, ◌>>◌, each, unless_clear, MissingWorldInclude}
use Rattle.wac_parser_refusals.specs.Outcomes.{IsHeld, IsOutcome, IsRefusal, Refuses}
use Rattle.wac_parser_refusals.proofs.Outcomes.{after_outcome, after_refused, memory_refusal, then_refused}
use Rattle.wac_parser_declare.specs.Bodies as stated
use Rattle.wac_parser_declare.specs.Bodies.{Items}
use Rattle.wac_parser_declare.specs.Holding.{AddsNew}
use Rattle.wac_parser_declare.specs.InIncludes.{AreNow, HasExports, HasImports, included, met_in, renamings}
use Rattle.wac_parser_declare.specs.Scope.{Path, has, path_text, world_path}
use Rattle.wac_parser_declare.specs.Worlds.{has_colon, include_at, include_items, include_one, is_empty, left_for_exports, or_itself, renaming, unmet}
use Rattle.wac_parser_declare.proofs.InBodies.{absent_outcome, there_refused}
use Rattle.wac_parser_declare.proofs.Kept.{with_values-more}

module _ (c : Collection) where
  abbrev at_now : List (Name × ItemKind) → Items
  at_now es = with_values (stated_of c) es

  pub has_now : (es : List (Name × ItemKind)) (n : Name) → has (at_now es) n ≡ is_some (value_at es n)
  has_now es n = ap is_some (value_with (stated_of c) es n) ∙ is_some-option_map (stated_of c) (value_at es n)

  -- ---- one item

  module _ (f : Fault) (old new : List (Name × ItemKind)) (k : ItemKind) (i : t.Ident) where
    abbrev one_more : Answer Items
    one_more = unless_clear (has (at_now old) i.string) f i.span >> Ok (at_now old ++ (i.string, stated_of c k) ∷ [])

    pub put_there : (b : Bool) → AddsNew old i.string k new b → b ≡ true → IsHeld (AreNow c new) one_more tt
    put_there true a is =
        absent_outcome (has (at_now old) i.string) f i.span (Ok (at_now old ++ (i.string, stated_of c k) ∷ [])) (AreNow c new) (Ok tt) (has_now old i.string ∙ a.0)
        (ap at_now a.1 ∙ with_values-more (stated_of c) old i.string k)
    put_there false a is = absurd (cc is)

    pub there_already : (b : Bool) → AddsNew old i.string k new b → b ≡ false → (e : Refusal) → Refuses e f i.span → IsRefusal one_more e
    there_already true a is e r = absurd (cc is)
    there_already false a is e r = there_refused (has (at_now old) i.string) f i.span (Ok (at_now old ++ (i.string, stated_of c k) ∷ [])) e (has_now old i.string ∙ a.0) r

  module _ (w : Name) (p : Path) (help : Bool) (kind : ExternKind) (old new : List (Name × ItemKind)) (k : ItemKind) where
    added_once : (n : Name) (b : Bool) → AddsNew old n k new b → at_now new ≡ cond (has (at_now old) n) (at_now old) (at_now old ++ (n, stated_of c k) ∷ [])
    added_once n true a =
        ap at_now a.1 ∙ with_values-more (stated_of c) old n k
        ∙ ap (λ (b : Bool). cond b (at_now old) (at_now old ++ (n, stated_of c k) ∷ [])) (sym (has_now old n ∙ a.0))
    added_once n false a = ap at_now a.1 ∙ ap (λ (b : Bool). cond b (at_now old) (at_now old ++ (n, stated_of c k) ∷ [])) (sym (has_now old n ∙ a.0))

    pub with_colon : (n : Name) (o : Option t.Ident) (b : Bool) → has_colon n ≡ true → AddsNew old n k new b → IsHeld (AreNow c new) (included w p help kind (at_now old) (n, stated_of c k) o) tt
    with_colon n o b colon a =
        subst (λ (x : Bool). IsHeld (AreNow c new) (cond x (Ok (cond (has (at_now old) n) (at_now old) (at_now old ++ (n, stated_of c k) ∷ []))) (include_at w p help kind (at_now old) (stated_of c k) (or_itself p n o))) tt)
        (sym colon) (added_once n b a)

    pub without_colon : (n : Name) (o : Option t.Ident) (i : t.Ident) (r : Result ⊤ Refusal) → has_colon n ≡ false → i ≡ or_itself p n o → IsOutcome (AreNow c new) (include_at w p help kind (at_now old) (stated_of c k) i) r
        → IsOutcome (AreNow c new) (included w p help kind (at_now old) (n, stated_of c k) o) r
    without_colon n o i r colon is h =
        subst (λ (x : Bool). IsOutcome (AreNow c new) (cond x (Ok (cond (has (at_now old) n) (at_now old) (at_now old ++ (n, stated_of c k) ∷ []))) (include_at w p help kind (at_now old) (stated_of c k) (or_itself p n o))) r)
        (sym colon) (subst (λ (j : t.Ident). IsOutcome (AreNow c new) (include_at w p help kind (at_now old) (stated_of c k) j) r) is h)

  -- ---- all items

  drop_at : {X : Type 0} (xs : List X) (i : ℕ) (x : X) → slice_get xs i ≡ Some x → drop i xs ≡ x ∷ drop (i + 1) xs
  drop_at [] i x e = absurd (cc e)
  drop_at (y ∷ ys) zero x e = let same : y ≡ x = cc e in ap (λ (z : _). z ∷ ys) same
  drop_at (y ∷ ys) (suc i) x e = let more : suc (i + 1) ≡ suc i + 1 = omega arith in drop_at ys i x e ∙ ap (λ (m : ℕ). x ∷ drop m (y ∷ ys)) more

  module _ (f : Items → Name × Stated → Answer Items) (xs : List (Name × ItemKind)) (i : ℕ) (n : Name) (k : ItemKind) (is : slice_get xs i ≡ Some (n, k)) (old : List (Name × ItemKind)) where
    each_from : each f (at_now old) (at_now (drop i xs)) ≡ (f (at_now old) (n, stated_of c k) >>= λ ys. each f ys (at_now (drop (i + 1) xs)))
    each_from = ap (λ (zs : List (Name × ItemKind)). each f (at_now old) (at_now zs)) (drop_at xs i (n, k) is)

    pub included_next : (new : List (Name × ItemKind)) → IsHeld (AreNow c new) (f (at_now old) (n, stated_of c k)) tt → each f (at_now old) (at_now (drop i xs)) ≡ each f (at_now new) (at_now (drop (i + 1) xs))
    included_next new held = each_from ∙ by (f (at_now old) (n, stated_of c k)) held
      where
        by : (q : Answer Items) → IsHeld (AreNow c new) q tt → (q >>= λ ys. each f ys (at_now (drop (i + 1) xs))) ≡ each f (at_now new) (at_now (drop (i + 1) xs))
        by (Ok ys) h = ap (λ (zs : Items). each f zs (at_now (drop (i + 1) xs))) (sym h)
        by (Err e) h = absurd h

    pub included_stops : (q : Answer Items) (e : Refusal) → q ≡ each f (at_now old) (at_now (drop i xs)) → IsRefusal (f (at_now old) (n, stated_of c k)) e → IsRefusal q e
    included_stops q e same r = subst (λ (p : Answer Items). IsRefusal p e) (sym (same ∙ each_from)) (then_refused (λ (ys : Items). each f ys (at_now (drop (i + 1) xs))) (f (at_now old) (n, stated_of c k)) e r)

-- ---- names that are left for exports

-- what is found for a name with a colon does not matter
pub included_same : (w : Name) (p : Path) (help : Bool) (kind : ExternKind) (xs : Items) (e : Name × Stated) (o q : Option t.Ident) → (has_colon e.0 ≡ false → o ≡ q) → included w p help kind xs e o ≡ included w p help kind xs e q
included_same w p help kind xs e o q same = by (has_colon e.0) same
  where
    by : (b : Bool) → (b ≡ false → o ≡ q)
        → (cond b (Ok (cond (has xs e.0) xs (xs ++ e ∷ []))) (include_at w p help kind xs e.1 (or_itself p e.0 o))) ≡ (cond b (Ok (cond (has xs e.0) xs (xs ++ e ∷ []))) (include_at w p help kind xs e.1 (or_itself p e.0 q)))
    by true f = refl
    by false f = ap (λ (r : Option t.Ident). include_at w p help kind xs e.1 (or_itself p e.0 r)) (f refl)

module _ (x : Stated) (n : Name) (colon : has_colon n ≡ false) where
  left_step : (w : t.WorldIncludeItem) (b k taken : Bool) → (b ≡ true → k ≡ not taken) → (left all : Option t.Ident) → left ≡ cond taken None all → cond k (cond b (Some w.to) left) left ≡ cond taken None (cond b (Some w.to) all)
  left_step w true true true h left all e = absurd (cc (h refl))
  left_step w true true false h left all e = refl
  left_step w true false true h left all e = e
  left_step w true false false h left all e = absurd (cc (h refl))
  left_step w false true taken h left all e = e
  left_step w false false taken h left all e = e

  kept_or_not : (w : t.WorldIncludeItem) (k : Bool) (ws : List t.WorldIncludeItem) → renaming (cond k (w ∷ ws) ws) n ≡ cond k (cond (pointwise ◌==◌ n w.from.string) (Some w.to) (renaming ws n)) (renaming ws n)
  kept_or_not w true ws = refl
  kept_or_not w false ws = refl

  pub left_renaming : (ws : List t.WorldIncludeItem) → renaming (left_for_exports x ws) n ≡ cond (has (imports_of x) n) None (renaming ws n)
  left_renaming [] = none_either (has (imports_of x) n)
    where
      none_either : (b : Bool) → None ≡ cond b None (renaming [] n)
      none_either true = refl
      none_either false = refl
  left_renaming (w ∷ ws) =
      let tested = has_colon w.from.string || not (has (imports_of x) w.from.string) in
      kept_or_not w tested (left_for_exports x ws)
      ∙ left_step w (pointwise ◌==◌ n w.from.string) tested (has (imports_of x) n)
      (λ same. let is : n ≡ w.from.string = (bytes_decides n w.from.string).0 same in
      ap (λ (m : Name). has_colon m || not (has (imports_of x) m)) (sym is) ∙ ap (λ (b : Bool). b || not (has (imports_of x) n)) colon)
      (renaming (left_for_exports x ws) n) (renaming ws n) (left_renaming ws)

-- ---- names that are met

pub name_is : (w : t.WorldRef) → world_ref_name w ≡ path_text (world_path w)
name_is (t.WorldRef.ident i) = refl
name_is (t.WorldRef.package_path p) = refl

module _ (c : Collection) (x : Stated) (is : List (Name × ItemKind)) (imports : imports_of x ≡ with_values (stated_of c) is) where
  import_there : (n : Name) → has (imports_of x) n ≡ is_some (value_at is n)
  import_there n = ap (λ (es : Items). has es n) imports ∙ has_now c is n

  pub left_taken_of : (ws : List WorldIncludeItem) (n : Name) → has_colon n ≡ false → is_some (value_at is n) ≡ true → None ≡ renaming (left_for_exports x (renamings ws)) n
  left_taken_of ws n colon e = sym (left_renaming x n colon (renamings ws) ∙ ap (λ (b : Bool). cond b None (renaming (renamings ws) n)) (import_there n ∙ e))

  pub left_free_of : (ws : List WorldIncludeItem) (n : Name) → has_colon n ≡ false → is_some (value_at is n) ≡ false → renaming (renamings ws) n ≡ renaming (left_for_exports x (renamings ws)) n
  left_free_of ws n colon e = sym (left_renaming x n colon (renamings ws) ∙ ap (λ (b : Bool). cond b None (renaming (renamings ws) n)) (import_there n ∙ e))

module _ (c : Collection) (x : Stated) (w : World) (imports : HasImports c x w) where
  has_import : (n : Name) → has (imports_of x) n ≡ is_some (value_at w.imports n)
  has_import n = import_there c x w.imports imports n

  module _ (exports : HasExports c x w) where
    has_export : (n : Name) → has (exports_of x) n ≡ is_some (value_at w.exports n)
    has_export n = ap (λ (es : Items). has es n) exports ∙ has_now c w.exports n

    unmet_is : (n : Name) → (has_colon n || not (has (imports_of x) n || has (exports_of x) n)) ≡ not (met_in w n)
    unmet_is n =
        ap (λ (b : Bool). has_colon n || not (b || has (exports_of x) n)) (has_import n)
        ∙ ap (λ (b : Bool). has_colon n || not (is_some (value_at w.imports n) || b)) (has_export n)
        ∙ by (has_colon n) (is_some (value_at w.imports n) || is_some (value_at w.exports n))
      where
        by : (h b : Bool) → (h || not b) ≡ not (not h && b)
        by true b = refl
        by false b = refl

    pub met_clear : (p : Path) (u : ⊤) (i : t.WorldIncludeItem) → met_in w i.from.string ≡ true → IsHeld {A = ⊤} {B = ⊤} (λ u v. ⊤) (unmet p x u i) tt
    met_clear p u i is = subst (λ (b : Bool). IsHeld {A = ⊤} {B = ⊤} (λ u v. ⊤) (unless_clear b (MissingWorldInclude (path_text p) i.from.string) i.from.span) tt) (sym (unmet_is i.from.string ∙ ap not is)) tt

    pub unmet_refused : (p : Path) (u : ⊤) (i : t.WorldIncludeItem) (e : Refusal) → met_in w i.from.string ≡ false → Refuses e (MissingWorldInclude (path_text p) i.from.string) i.from.span → IsRefusal (unmet p x u i) e
    unmet_refused p u i e is r = subst (λ (b : Bool). IsRefusal (unless_clear b (MissingWorldInclude (path_text p) i.from.string) i.from.span) e) (sym (unmet_is i.from.string ∙ ap not is)) r

pub met_under : (e : Refusal) (v w n : Name) (s : Span) → v ≡ w → Refuses e (MissingWorldInclude v n) s → Refuses e (MissingWorldInclude w n) s
met_under e v w n s same r = subst (λ (m : Name). Refuses e (MissingWorldInclude m n) s) same r

-- ---- a step whose answer is not looked at

module _ {A C : Type 0} (r : Answer C) where
  pub first_refused : (q : Answer A) (e : Refusal) → IsRefusal q e → IsRefusal (q >> r) e
  first_refused (Ok a) e m = memory_refusal r e m
  first_refused (Err c) e m = m

  module _ {B : Type 0} (h : A → B → Type 0) where
    pub behind_refused : (q : Answer A) (b : B) (e : Refusal) → IsHeld h q b → IsRefusal r e → IsRefusal (q >> r) e
    behind_refused (Ok a) b e x m = m
    behind_refused (Err c) b e x m = absurd x

    pub behind_outcome : {D : Type 0} (k : C → D → Type 0) (q : Answer A) (b : B) (y : Result D Refusal) → IsHeld h q b → IsOutcome k r y → IsOutcome k (q >> r) y
    behind_outcome k (Ok a) b y x o = o
    behind_outcome k (Err c) b y x o = absurd x

-- ---- a whole include

module _ (d : Collection) (to : Name) (b : stated.Body) (p : Path) (ws : List t.WorldIncludeItem) (x : Stated) (w : World) (imports : HasImports d x w) where
  abbrev imports_said : Items → Answer Items
  imports_said xs = each (include_one to p (is_empty ws) ws ExternKind.Import) b.items xs

  abbrev exports_said : Items → Answer Items
  exports_said xs = each (include_one to p (is_empty ws) (left_for_exports x ws) ExternKind.Export) b.exports xs

  abbrev body_said : Items → Items → Answer stated.Body
  body_said is es = each (unmet p x) tt ws >> Ok (record { names = b.names; uses = b.uses; items = is; exports = es })

  pub imports_refused : (e : Refusal) → IsRefusal (imports_said (with_values (stated_of d) w.imports)) e → IsRefusal (include_items to b p ws x) e
  imports_refused e r =
      then_refused (λ (is : Items). exports_said (exports_of x) >>= λ es. body_said is es) (imports_said (imports_of x)) e
      (subst (λ (xs : Items). IsRefusal (imports_said xs) e) (sym imports) r)

  module _ (exports : HasExports d x w) (is : List (Name × ItemKind)) (first : IsHeld (AreNow d is) (imports_said (with_values (stated_of d) w.imports)) tt) where
    abbrev imported : IsHeld (AreNow d is) (imports_said (imports_of x)) tt
    imported = subst (λ (xs : Items). IsHeld (AreNow d is) (imports_said xs) tt) (sym imports) first

    pub exports_refused : (e : Refusal) → IsRefusal (exports_said (with_values (stated_of d) w.exports)) e → IsRefusal (include_items to b p ws x) e
    exports_refused e r =
        after_refused (λ (xs : Items). exports_said (exports_of x) >>= λ es. body_said xs es) (AreNow d is) (imports_said (imports_of x)) tt e imported
        (λ xs h. then_refused (λ (ys : Items). body_said xs ys) (exports_said (exports_of x)) e (subst (λ (ys : Items). IsRefusal (exports_said ys) e) (sym exports) r))

    module _ (es : List (Name × ItemKind)) (second : IsHeld (AreNow d es) (exports_said (with_values (stated_of d) w.exports)) tt) (k : stated.Body → ⊤ → Type 0) where
      pub all_said : (r : Result ⊤ Refusal) → IsOutcome {A = ⊤} {B = ⊤} (λ u v. ⊤) (each (unmet p x) tt ws) r → k (record { names = b.names; uses = b.uses; items = at_now d is; exports = at_now d es }) tt → IsOutcome k (include_items to b p ws x) r
      all_said r o same =
          after_outcome (λ (xs : Items). exports_said (exports_of x) >>= λ ys. body_said xs ys) (AreNow d is) k (imports_said (imports_of x)) tt r imported
          (λ xs h.
          after_outcome (λ (ys : Items). body_said xs ys) (AreNow d es) k (exports_said (exports_of x)) tt r (subst (λ (zs : Items). IsHeld (AreNow d es) (exports_said zs) tt) (sym exports) second)
          (λ ys g.
          subst (λ (zs : Items). IsOutcome k (body_said zs ys) r) h (subst (λ (zs : Items). IsOutcome k (body_said (at_now d is) zs) r) g (by (each (unmet p x) tt ws) r o))))
        where
          by : (q : Answer ⊤) (r : Result ⊤ Refusal) → IsOutcome {A = ⊤} {B = ⊤} (λ u v. ⊤) q r → IsOutcome k (q >> Ok (record { names = b.names; uses = b.uses; items = at_now d is; exports = at_now d es })) r
          by (Ok u) (Ok v) h = same
          by (Ok u) (Err e) h = h
          by (Err e) (Ok v) h = absurd h
          by (Err e) (Err f) h = h
