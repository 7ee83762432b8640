-- What the statements say is sound: each instance is of a package handed in and names instances before it alone, and all that
-- is spoken of is there.
use Rattle.std.specs.Prelude.{◌==◌, slice_get, option_map, ⊤, not, ◌||◌, if◌then◌else◌, is_none, bytes_eq}
use Rattle.std.proofs.lemmas.Option.{none-some, same_Some}
use Rattle.std.specs.List.{list_any}
use Rattle.std.specs.Cmp.Lexicographic.{pointwise, bytes_decides}
use Rattle.std.proofs.Common.{◌≡◌, ℕ, List, [], ◌∷◌, ◌++◌, map, Bool, true, false, true≢false, Option, Some, None, Ok, Err, inl, inr, length, refl, sym, ap, subst, ◌∙◌}
use Rattle.wac_types_base.specs.declared.item.ExternKind.{ExternKind}
use Rattle.wac_types_base.specs.Entries.{Name, value_at, names_of, has_name}
use Rattle.wac_types_base.specs.Graph.{Among}
use Rattle.wac_types_base.specs.Stated.{Stated, kind_of, desc, exports_of, imports_of, instance_type, promote}
use Rattle.wac_types_names.specs.Keys.{Key}
use Rattle.wac_composition.specs.Classes.{is_instance_kind}
use Rattle.wac_composition.specs.Tests.{fits}
use Rattle.wac_composition.specs.Composition.{Origin, imported, instance, projected, defined}
use Rattle.wac_composition.specs.Sound.{IsBefore}
use Rattle.wac_parser_tree.specs.Trees as t
use Rattle.wac_parser_tree.specs.Trees.{Span}
use Rattle.wac_parser_refusals.specs.declared.error.InstanceOperation.{InstanceOperation}
use Rattle.wac_parser_refusals.specs.Causes.{Answer, Cause, Fault, ◌>>◌, pure, unless_clear, needs, present, each, UndefinedName, UnknownPackage, MissingComponentImport, FillArgumentNotLast, DuplicateInstantiationArg, InvalidExternName, ExportRequiresAs, NotAnInstance}
use Rattle.wac_parser_declare.specs.Packages.{Content}
use Rattle.wac_parser_declare.specs.Scope.{package_under, world_of_package, bind}
use Rattle.wac_parser_declare.specs.Worlds.{type_statement}
use Rattle.wac_parser_resolve.specs.Ascribing.{Denoted, Made, Import, Bound, State, start, root_scope, context, denoted_by, bound, projection, is_projection, same_origin, speak_of, worlds_of}
use Rattle.wac_parser_tree.specs.Accessors.{argument_name_span as argument_span, postfix_expr_span as postfix_span, primary_expr_span as primary_span}
use Rattle.wac_parser_resolve.specs.Denoting.{Given, given_names, needs_instance, export_by, export_named, access_by, spoken, access, accesses, add_given, inferred_name, argument_name, left_names, spread_given, spread_all, spread_one, spreads_of, compared_by, argument_fits, complete, is_filled, is_last, with_made, finished, key_named, new_package, denote, primary, nested, new_instance, arguments, one_argument, named_argument}
use Rattle.wac_parser_resolve.specs.Matching.{matched}
use Rattle.wac_types_names.specs.InterfaceNames.{is_exportable, is_extern_name}
use Rattle.wac_parser_resolve.specs.Saying.{asked, import_name, import_called, not_imported, with_import, import_statement, not_exported, with_definition, declaration, declared_id, no_definition, new_export, exported, export_name, export_one, export_left, export_as, written_name, expr_span, statement, statements}
use Rattle.wac_parser_resolve.proofs.Answers.{err_ok, ok_of, then_ok, ok_is, each_keeps}
use Rattle.wac_parser_resolve.proofs.Numbers.{slice_more, slice_kept, slice_last, slice_below, value_more, among_more, among_last, each_more}

abbrev pub Packages : Type 0
Packages = List (Key × Content)

-- what an origin is, with the type by which steps from it go, in what was said
pub data Has (g : State) : Origin ℕ → Stated → Type 0 where
  an_import : (i : Import) → Among i g.imports → Has g (imported i.name) i.item
  an_instance : (k : ℕ) (m : Made) → slice_get g.made k ≡ Some m → Has g (instance k) (instance_type m.world)
  an_export : (o : Origin ℕ) (x : Stated) (n : Name) (y : Stated) → Has g o x → is_instance_kind (kind_of x) ≡ true → value_at (exports_of x) n ≡ Some y → Has g (projected o n) y
  a_definition : (n : Name) (x : Stated) → Among (n, x) g.definitions → Has g (defined n x) x

abbrev pub HasThat : State → Denoted → Type 0
HasThat g d = Has g d.origin d.item

pub has_before : (g : State) (o : Origin ℕ) (x : Stated) → Has g o x → IsBefore (length g.made) o
has_before g o x (an_import i m) = tt
has_before g o x (an_instance k m e) = slice_below g.made k m e
has_before g o x (an_export p z n y h k e) = has_before g p z h
has_before g o x (a_definition n y m) = tt

-- what was said was said
pub record Grows (g h : State) : Type 0 where
  pub imports : (i : Import) → Among i g.imports → Among i h.imports
  pub made : (k : ℕ) (m : Made) → slice_get g.made k ≡ Some m → slice_get h.made k ≡ Some m
  pub definitions : (e : Name × Stated) → Among e g.definitions → Among e h.definitions

grows_then : (g h k : State) → Grows g h → Grows h k → Grows g k
grows_then g h k a b = record { imports = λ i m. b.imports i (a.imports i m); made = λ j m e. b.made j m (a.made j m e); definitions = λ e m. b.definitions e (a.definitions e m) }

has_more : (g h : State) → Grows g h → (o : Origin ℕ) (x : Stated) → Has g o x → Has h o x
has_more g h w o x (an_import i m) = an_import i (w.imports i m)
has_more g h w o x (an_instance k m e) = an_instance k m (w.made k m e)
has_more g h w o x (an_export p z n y f k e) = an_export p z n y (has_more g h w p z f) k e
has_more g h w o x (a_definition n y m) = a_definition n y (w.definitions (n, y) m)

-- the instance of this number is of a package handed in, and is passed what is there, comes before it and fits
pub record IsMadeOk (ps : Packages) (g : State) (i : ℕ) (m : Made) : Type 0 where
  pub known : package_under (worlds_of ps) m.key ≡ Some m.world
  pub has : (n : Name) (d : Denoted) → value_at m.arguments n ≡ Some d → HasThat g d
  pub before : (n : Name) (d : Denoted) → value_at m.arguments n ≡ Some d → IsBefore i d.origin
  pub fit : (n : Name) (d : Denoted) → value_at m.arguments n ≡ Some d → (x : Stated) → value_at (imports_of m.world) n ≡ Some x → fits (compared_by d.origin d.item) x ≡ true

made_more : (ps : Packages) (g h : State) (i : ℕ) (m : Made) → Grows g h → IsMadeOk ps g i m → IsMadeOk ps h i m
made_more ps g h i m w k = record { known = k.known; has = λ n d e. has_more g h w d.origin d.item (k.has n d e); before = k.before; fit = k.fit }

pub record Sound (ps : Packages) (g : State) : Type 0 where
  pub same : g.packages ≡ ps
  pub made : (i : ℕ) (m : Made) → slice_get g.made i ≡ Some m → IsMadeOk ps g i m
  pub root : (n : Name) (b : Bound) → value_at g.root n ≡ Some b → HasThat g b.denoted
  pub exports : (e : Name × Bound) → Among e g.exports → HasThat g e.1.denoted

abbrev pub AllThere : State → List Given → Type 0
AllThere g [] = Unit {0}
AllThere g (a ∷ gs) = HasThat g a.denoted × AllThere g gs

all_more : (g h : State) (gs : List Given) → Grows g h → AllThere g gs → AllThere h gs
all_more g h [] w b = tt
all_more g h (a ∷ gs) w b = (has_more g h w a.denoted.origin a.denoted.item b.0, all_more g h gs w b.1)

all_last : (g : State) (gs : List Given) (a : Given) → AllThere g gs → HasThat g a.denoted → AllThere g (gs ++ a ∷ [])
all_last g [] a b h = (h, tt)
all_last g (x ∷ gs) a b h = (b.0, all_last g gs a b.1 h)

-- what is passed under a name
passed : (P : Given → Type 0) (gs : List Given) (n : Name) (d : Denoted) → ((a : Given) → Among a gs → P a) → value_at (map (λ (a : Given). (a.name, a.denoted)) gs) n ≡ Some d → (a : Given) × (a.name ≡ n) × (a.denoted ≡ d) × P a
passed P [] n d h e = absurd (none-some _ e)
passed P (a ∷ gs) n d h e = go (passed P gs n d (λ b m. h b (inr m))) (pointwise ◌==◌ n a.name) refl e
  where
    go : (value_at (map (λ (a : Given). (a.name, a.denoted)) gs) n ≡ Some d → (a : Given) × (a.name ≡ n) × (a.denoted ≡ d) × P a) → (c : Bool) → pointwise ◌==◌ n a.name ≡ c
        → (if c then Some a.denoted else value_at (map (λ (a : Given). (a.name, a.denoted)) gs) n) ≡ Some d → (a : Given) × (a.name ≡ n) × (a.denoted ≡ d) × P a
    go rest true q r = (a, sym ((bytes_decides n a.name).0 q), same_Some _ _ r, h a (inl refl))
    go rest false q r = rest r

there_each : (g : State) (gs : List Given) → AllThere g gs → (a : Given) → Among a gs → HasThat g a.denoted
there_each g [] h a m = absurd m
there_each g (x ∷ gs) h a (inl e) = subst (λ (y : Given). HasThat g y.denoted) (sym e) h.0
there_each g (x ∷ gs) h a (inr m) = there_each g gs h.1 a m

-- ---- exports of instances

pub present_is : {A : Type 0} (o : Option A) (f : Fault) (s : Span) (a : A) → Ok a ≡ present o f s → o ≡ Some a
present_is (Some x) f s a e = ap Some (sym (ok_is a x e))
present_is None f s a e = absurd (err_ok _ a e)

-- nothing stood against what went on
pub clear_is : {A : Type 0} (b : Bool) (f : Fault) (s : Span) (q : Answer A) (r : A) → Ok r ≡ (unless_clear b f s >> q) → b ≡ false
clear_is true f s q r e = absurd (err_ok _ r e)
clear_is false f s q r e = refl

needs_alone : (b : Bool) (c : Cause) → Ok tt ≡ needs b c → b ≡ true
needs_alone true c e = refl
needs_alone false c e = absurd (err_ok _ tt e)

not_false : (b : Bool) → not b ≡ false → b ≡ true
not_false true e = refl
not_false false e = absurd (true≢false e)

first_ok : {A B : Type 0} (r : Answer A) (q : Answer B) (b : B) → Ok b ≡ (r >> q) → (a : A) × (r ≡ Ok a)
first_ok (Ok a) q b e = (a, refl)
first_ok (Err c) q b e = absurd (err_ok c b e)

is_one : {A : Type 0} (d : Denoted) (o : InstanceOperation) (s : Span) (q : Answer A) (r : A) → Ok r ≡ (needs_instance d o s >> q) → is_instance_kind (kind_of d.item) ≡ true
is_one d o s q r e = not_false (is_instance_kind (kind_of d.item)) (clear_is (not (is_instance_kind (kind_of d.item))) (NotAnInstance (desc d.item) o) s q r e)

export_has : (g : State) (d : Denoted) (n : Name) (o : Option Stated) (s : Span) (e : Denoted) → HasThat g d → is_instance_kind (kind_of d.item) ≡ true → value_at (exports_of d.item) n ≡ o → Ok e ≡ export_by d n o s → HasThat g e
export_has g d n None s e h k v q = absurd (err_ok _ e q)
export_has g d n (Some x) s e h k v q = subst (HasThat g) (sym (ok_is e (projection d n x) q)) (an_export d.origin d.item n x h k v)

named_has : (g : State) (d : Denoted) (n : Name) (s : Span) (e : Denoted) → HasThat g d → is_instance_kind (kind_of d.item) ≡ true → Ok e ≡ export_named d n s → HasThat g e
named_has g d n s e h k q = export_has g d n (value_at (exports_of d.item) n) s e h k refl q

access_has : (g : State) (d : Denoted) (p : t.PostfixExpr) (e : Denoted) → HasThat g d → is_instance_kind (kind_of d.item) ≡ true → Ok e ≡ access_by d p → HasThat g e
access_has g d (t.PostfixExpr.access a) e h k q = named_has g d (matched a.id.string (names_of (exports_of d.item))) a.span e h k q
access_has g d (t.PostfixExpr.named_access a) e h k q = named_has g d a.string.value a.span e h k q

-- ---- what is spoken of changes nothing else

record IsSame (g h : State) : Type 0 where
  made : h.made ≡ g.made
  root : h.root ≡ g.root
  exports : h.exports ≡ g.exports
  packages : h.packages ≡ g.packages
  imports : h.imports ≡ g.imports
  definitions : h.definitions ≡ g.definitions

speak_same : (g : State) (d : Denoted) → IsSame g (speak_of g d)
speak_same g d = go (not (is_projection d.origin) || list_any (λ (e : Denoted). same_origin e.origin d.origin) g.aliases)
  where
    go : (b : Bool) → IsSame g (if b then g else record g { aliases = g.aliases ++ d ∷ [] })
    go true = record { made = refl; root = refl; exports = refl; packages = refl; imports = refl; definitions = refl }
    go false = record { made = refl; root = refl; exports = refl; packages = refl; imports = refl; definitions = refl }

same_grows : (g h : State) → IsSame g h → Grows g h
same_grows g h e = record {
  imports = λ i m. subst (Among i) (sym e.imports) m;
  made = λ k m q. ap (λ xs. slice_get xs k) e.made ∙ q;
  definitions = λ d m. subst (Among d) (sym e.definitions) m;
}

grows_here : (g : State) → Grows g g
grows_here g = record { imports = λ i m. m; made = λ k m e. e; definitions = λ d m. m }

module _ (ps : Packages) where
  -- the same but for what is spoken of
  sound_as : (g h : State) → IsSame g h → Sound ps g → Sound ps h
  sound_as g h e s =
      let w = same_grows g h e in
      record {
        same = e.packages ∙ s.same;
        made = λ i m q. made_more ps g h i m w (s.made i m (ap (λ xs. slice_get xs i) (sym e.made) ∙ q));
        root = λ n b q. has_more g h w b.denoted.origin b.denoted.item (s.root n b (ap (λ xs. value_at xs n) (sym e.root) ∙ q));
        exports = λ x m. has_more g h w x.1.denoted.origin x.1.denoted.item (s.exports x (subst (Among x) e.exports m));
      }

  speak_sound : (g : State) (d : Denoted) → Sound ps g → Sound ps (speak_of g d)
  speak_sound g d s = sound_as g (speak_of g d) (speak_same g d) s

  speak_grows : (g : State) (d : Denoted) → Grows g (speak_of g d)
  speak_grows g d = same_grows g (speak_of g d) (speak_same g d)

  -- what comes of a state: it is sound, and what was said was said
  pub record Comes (g h : State) : Type 0 where
    pub sound : Sound ps h
    pub grows : Grows g h

  comes_here : (g : State) → Sound ps g → Comes g g
  comes_here g s = record { sound = s; grows = grows_here g }

  comes_then : (g h k : State) → Comes g h → Comes h k → Comes g k
  comes_then g h k a b = record { sound = b.sound; grows = grows_then g h k a.grows b.grows }

  comes_spoken : (g h : State) (d : Denoted) → Comes g h → Comes g (speak_of h d)
  comes_spoken g h d c = record { sound = speak_sound h d c.sound; grows = grows_then g h (speak_of h d) c.grows (speak_grows h d) }

  -- and something that is there
  pub record Denotes (g : State) (r : State × Denoted) : Type 0 where
    pub comes : Comes g r.0
    pub has : HasThat r.0 r.1

  pub record GivesAll (g : State) (r : State × List Given) : Type 0 where
    pub comes : Comes g r.0
    pub there : AllThere r.0 r.1

  -- ---- names

  denoted_has : (g : State) (i : t.Ident) (d : Denoted) → Sound ps g → Ok d ≡ denoted_by g i → HasThat g d
  denoted_has g i d s e = go (value_at g.root i.string) refl (present_is (option_map (λ b. b.denoted) (value_at g.root i.string)) (UndefinedName i.string) i.span d e)
    where
      go : (o : Option Bound) → value_at g.root i.string ≡ o → option_map (λ b. b.denoted) o ≡ Some d → HasThat g d
      go None q r = absurd (none-some _ r)
      go (Some b) q r = subst (HasThat g) (same_Some _ _ r) (s.root i.string b q)

  -- ---- accesses and spreads

  -- an export that is spoken of
  spoken_denotes : (g h : State) (d : Denoted) → Comes g h → HasThat h d → Denotes g (speak_of h d, d)
  spoken_denotes g h d c b = record { comes = comes_spoken g h d c; has = has_more h (speak_of h d) (speak_grows h d) d.origin d.item b }

  said_denotes : (g h : State) (q : Answer Denoted) (r : State × Denoted) → Comes g h → ((e : Denoted) → Ok e ≡ q → HasThat h e) → Ok r ≡ spoken h q → Denotes g r
  said_denotes g h q r c f e =
      let a = ok_of q _ r e in subst (Denotes g) (sym (ok_is r (speak_of h a.0, a.0) a.2)) (spoken_denotes g h a.0 c (f a.0 (sym a.1)))

  access_denotes : (s : Span) (g : State) (d : Denoted) (x : t.PostfixExpr) (r : State × Denoted) → Sound ps g → HasThat g d → Ok r ≡ access s g d x → Denotes g r
  access_denotes s g d x r h b q =
      said_denotes g g (access_by d x) r (comes_here g h) (λ e w. access_has g d x e b (is_one d InstanceOperation.Access s _ r q) w)
      (then_ok (needs_instance d InstanceOperation.Access s) _ r q)

  accesses_denotes : (s : Span) (g : State) (d : Denoted) (xs : List t.PostfixExpr) (r : State × Denoted) → Sound ps g → HasThat g d → Ok r ≡ accesses s g d xs → Denotes g r
  accesses_denotes s g d [] r h b q = subst (Denotes g) (sym (ok_is r (g, d) q)) (record { comes = comes_here g h; has = b })
  accesses_denotes s g d (x ∷ xs) r h b q =
      let u = ok_of (access s g d x) _ r q in
      let one = access_denotes s g d x u.0 h b (sym u.1) in
      let rest = accesses_denotes (postfix_span x) u.0.0 u.0.1 xs r one.comes.sound one.has u.2 in
      record { comes = comes_then g u.0.0 r.0 one.comes rest.comes; has = rest.has }

  spread_one_more : (g : State) (s : Span) (d : Denoted) → HasThat g d → is_instance_kind (kind_of d.item) ≡ true → (q r : State × List Given) (n : Name) → GivesAll g q → spread_given s d q n ≡ Ok r → GivesAll g r
  spread_one_more g s d b k q r n h e =
      let u = ok_of (spoken q.0 (export_named d n s)) _ r (sym e) in
      let one = said_denotes q.0 q.0 (export_named d n s) u.0 (comes_here q.0 h.comes.sound)
      (λ x w. named_has q.0 d n s x (has_more g q.0 h.comes.grows d.origin d.item b) k w) (sym u.1) in
      let last : Given = record { name = n; denoted = u.0.1; span = s } in
      subst (GivesAll g) (sym (ok_is r (u.0.0, q.1 ++ last ∷ []) u.2))
      (record { comes = comes_then g q.0 u.0.0 h.comes one.comes; there = all_last u.0.0 q.1 last (all_more q.0 u.0.0 q.1 one.comes.grows h.there) one.has })

  spread_there : (g : State) (s : Span) (d : Denoted) → HasThat g d → is_instance_kind (kind_of d.item) ≡ true → (q r : State × List Given) (ns : List Name) → GivesAll g q → Ok r ≡ spread_all s d q ns → GivesAll g r
  spread_there g s d b k q r [] h e = absurd (err_ok _ r e)
  spread_there g s d b k q r (n ∷ ns) h e = each_keeps (spread_given s d) (GivesAll g) (spread_one_more g s d b k) q r (n ∷ ns) h e

  spread_name_there : (g : State) (ns : List Name) (q r : State × List Given) (i : t.Ident) → GivesAll g q → spread_one ns q i ≡ Ok r → GivesAll g r
  spread_name_there g ns q r i h e =
      let a = ok_of (denoted_by q.0 i) _ r (sym e) in
      let x = then_ok (needs_instance a.0 InstanceOperation.Spread i.span) _ r a.2 in
      let rest = spread_there q.0 i.span a.0 (denoted_has q.0 i a.0 h.comes.sound (sym a.1)) (is_one a.0 InstanceOperation.Spread i.span _ r a.2) q r (left_names q.1 ns a.0.item) (record { comes = comes_here q.0 h.comes.sound; there = h.there }) x in
      record { comes = comes_then g q.0 r.0 h.comes rest.comes; there = rest.there }

  -- ---- the instance

  -- what each argument was tested for
  abbrev IsFitting : Stated → Given → Type 0
  IsFitting w a = (x : Stated) → value_at (imports_of w) a.name ≡ Some x → fits (compared_by a.denoted.origin a.denoted.item) x ≡ true

  one_fits : (k : Key) (w : Stated) (a : Given) → Ok tt ≡ argument_fits k w tt a → IsFitting w a
  one_fits k w a e x v =
      let y = ok_of (present (value_at (imports_of w) a.name) (MissingComponentImport k.0 a.name) a.span) _ tt e in
      let is : y.0 ≡ x = same_Some _ _ (sym (present_is (value_at (imports_of w) a.name) (MissingComponentImport k.0 a.name) a.span y.0 (sym y.1)) ∙ v) in
      subst (λ z. fits (compared_by a.denoted.origin a.denoted.item) z ≡ true) is
      (needs_alone (fits (compared_by a.denoted.origin a.denoted.item) y.0) _ y.2)

  all_fit : (k : Key) (w : Stated) (gs : List Given) (u : ⊤) → Ok u ≡ each (argument_fits k w) tt gs → (a : Given) → Among a gs → IsFitting w a
  all_fit k w [] u e a m = absurd m
  all_fit k w (x ∷ gs) u e a m = let y = ok_of (argument_fits k w tt x) _ u e in go (λ r n. all_fit k w gs u r a n) y.0 (sym y.1) y.2 m
    where
      go : (Ok u ≡ each (argument_fits k w) tt gs → Among a gs → IsFitting w a) → (v : ⊤) → Ok v ≡ argument_fits k w tt x → Ok u ≡ each (argument_fits k w) v gs → Among a (x ∷ gs) → IsFitting w a
      go rest tt q r (inl s) = subst (IsFitting w) (sym s) (one_fits k w x q)
      go rest tt q r (inr n) = rest r n

  record_made : (g : State) (m : Made) → Sound ps g → IsMadeOk ps g (length g.made) m → Comes g (record g { made = g.made ++ m ∷ [] })
  record_made g m s ok =
      let h : State = record g { made = g.made ++ m ∷ [] } in
      let w : Grows g h = record { imports = λ i m. m; made = λ k x e. slice_kept g.made m x k e; definitions = λ d m. m } in
      record {
        sound = record {
          same = s.same;
          made = λ i x e. made_more ps g h i x w (elim (slice_more g.made m x i e) [
            | inl h ↦ s.made i x h
            | inr h ↦ subst (λ j. IsMadeOk ps g j x) (sym h.0) (subst (IsMadeOk ps g (length g.made)) h.1 ok)
          ]);
          root = λ n b e. has_more g h w b.denoted.origin b.denoted.item (s.root n b e);
          exports = λ x n. has_more g h w x.1.denoted.origin x.1.denoted.item (s.exports x n);
        };
        grows = w;
      }

  finished_denotes : (g : State) (p : t.PackageName) (k : Key) (w : Stated) (gs : List Given) (b : Bool) (r : State × Denoted) → Sound ps g → AllThere g gs → package_under (worlds_of ps) k ≡ Some w → Ok r ≡ finished g p k w gs b → Denotes g r
  finished_denotes g p k w gs b r s there known e =
      let u = first_ok (each (argument_fits k w) tt gs) _ r e in
      let x = then_ok (each (argument_fits k w) tt gs) _ r e in
      let y = then_ok (complete b p gs (names_of (imports_of w))) _ r x in
      let m : Made = record { key = k; world = w; arguments = map (λ (a : Given). (a.name, a.denoted)) gs; span = p.span } in
      let given = λ (n : Name) (d : Denoted) (q : value_at m.arguments n ≡ Some d). passed (λ a. HasThat g a.denoted × IsFitting w a) gs n d (λ a i. (there_each g gs there a i, all_fit k w gs u.0 (sym u.1) a i)) q in
      let ok : IsMadeOk ps g (length g.made) m = record {
        known = known;
        has = λ n d q. let a = given n d q in subst (HasThat g) a.2 a.3.0;
        before = λ n d q. let a = given n d q in has_before g d.origin d.item (subst (HasThat g) a.2 a.3.0);
        fit = λ n d q z v. let a = given n d q in subst (λ (c : Denoted). fits (compared_by c.origin c.item) z ≡ true) a.2 (a.3.1 z (ap (value_at (imports_of w)) a.1 ∙ v));
      } in
      subst (Denotes g) (sym (ok_is r (with_made g m) y)) (record { comes = record_made g m s ok; has = an_instance (length g.made) m (slice_last g.made m) })

  known_package : (g : State) (p : t.PackageName) (track : Option Name) (x : Key × Stated) → Sound ps g → Ok x ≡ new_package g p track → package_under (worlds_of ps) x.0 ≡ Some x.1
  known_package g p track x s e =
      let y = then_ok (unless_clear (bytes_eq p.name g.own.name) (UnknownPackage p.name) p.span) _ x e in
      let k = ok_of (key_named (names_of g.packages) p track) _ x y in
      let w = ok_of (world_of_package (worlds_of g.packages) k.0 p.span) _ x k.2 in
      let here = present_is (package_under (worlds_of g.packages) k.0) (UnknownPackage k.0.0) p.span w.0 (sym w.1) in
      subst (λ (q : Key × Stated). package_under (worlds_of ps) q.0 ≡ Some q.1) (sym (ok_is x (k.0, w.0) w.2))
      (subst (λ qs. package_under (worlds_of qs) k.0 ≡ Some w.0) s.same here)

  -- ---- expressions

  given_more : (g : State) (gs hs : List Given) (a : Given) → AllThere g gs → HasThat g a.denoted → Ok hs ≡ add_given gs a → AllThere g hs
  given_more g gs hs a h b e =
      let x = then_ok (unless_clear (has_name (given_names gs) a.name) (DuplicateInstantiationArg a.name) a.span) _ hs e in
      subst (AllThere g) (sym (ok_is hs (gs ++ a ∷ []) x)) (all_last g gs a h b)

  mutual
    pub denote_sound : (g : State) (x : t.Expr) (r : State × Denoted) → Sound ps g → Ok r ≡ denote g x → Denotes g r
    denote_sound g (t.expr s p xs) r h e =
        let a = ok_of (primary g p) _ r e in
        let d = primary_sound g p a.0 h (sym a.1) in
        let b = accesses_denotes (primary_span p) a.0.0 a.0.1 xs r d.comes.sound d.has a.2 in
        record { comes = comes_then g a.0.0 r.0 d.comes b.comes; has = b.has }

    primary_sound : (g : State) (x : t.PrimaryExpr) (r : State × Denoted) → Sound ps g → Ok r ≡ primary g x → Denotes g r
    primary_sound g (t.PrimaryExpr.ident i) r h e =
        let a = ok_of (denoted_by g i) _ r e in
        subst (Denotes g) (sym (ok_is r (g, a.0) a.2)) (record { comes = comes_here g h; has = denoted_has g i a.0 h (sym a.1) })
    primary_sound g (t.PrimaryExpr.nested x) r h e = nested_sound g x r h e
    primary_sound g (t.PrimaryExpr.new x) r h e = new_sound g x r h e

    nested_sound : (g : State) (x : t.NestedExpr) (r : State × Denoted) → Sound ps g → Ok r ≡ nested g x → Denotes g r
    nested_sound g (t.nested_expr s x) r h e = denote_sound g x r h e

    new_sound : (g : State) (x : t.NewExpr) (r : State × Denoted) → Sound ps g → Ok r ≡ new_instance g x → Denotes g r
    new_sound g (t.new_expr s p track xs) r h e =
        let a = ok_of (new_package g p track) _ r e in
        let ns = names_of (imports_of a.0.1) in
        let b = ok_of (arguments g ns [] xs) _ r a.2 in
        let c = ok_of (each (spread_one ns) b.0 (spreads_of xs)) _ r b.2 in
        let all = each_keeps (spread_one ns) (GivesAll g) (spread_name_there g ns) b.0 c.0 (spreads_of xs) (arguments_sound g ns [] xs b.0 h tt (sym b.1)) (sym c.1) in
        let done = finished_denotes c.0.0 p a.0.0 a.0.1 c.0.1 (is_filled xs) r all.comes.sound all.there (known_package g p track a.0 h (sym a.1)) c.2 in
        record { comes = comes_then g c.0.0 r.0 all.comes done.comes; has = done.has }

    arguments_sound : (g : State) (ns : List Name) (gs : List Given) (xs : t.Arguments) (r : State × List Given) → Sound ps g → AllThere g gs → Ok r ≡ arguments g ns gs xs → GivesAll g r
    arguments_sound g ns gs t.no_arguments r h b e = subst (GivesAll g) (sym (ok_is r (g, gs) e)) (record { comes = comes_here g h; there = b })
    arguments_sound g ns gs (t.argument x xs) r h b e =
        let a = ok_of (one_argument g ns gs x (is_last xs)) _ r e in
        let one = one_sound g ns gs x (is_last xs) a.0 h b (sym a.1) in
        let rest = arguments_sound a.0.0 ns a.0.1 xs r one.comes.sound one.there a.2 in
        record { comes = comes_then g a.0.0 r.0 one.comes rest.comes; there = rest.there }

    one_sound : (g : State) (ns : List Name) (gs : List Given) (x : t.InstantiationArgument) (last : Bool) (r : State × List Given) → Sound ps g → AllThere g gs → Ok r ≡ one_argument g ns gs x last → GivesAll g r
    one_sound g ns gs (t.InstantiationArgument.inferred i) last r h b e =
        let a = ok_of (denoted_by g i) _ r e in
        let c = ok_of (add_given gs (record { name = inferred_name ns i a.0; denoted = a.0; span = i.span })) _ r a.2 in
        subst (GivesAll g) (sym (ok_is r (g, c.0) c.2)) (record { comes = comes_here g h; there = given_more g gs c.0 (record { name = inferred_name ns i a.0; denoted = a.0; span = i.span }) b (denoted_has g i a.0 h (sym a.1)) (sym c.1) })
    one_sound g ns gs (t.InstantiationArgument.spread i) last r h b e = subst (GivesAll g) (sym (ok_is r (g, gs) e)) (record { comes = comes_here g h; there = b })
    one_sound g ns gs (t.InstantiationArgument.fill s) last r h b e =
        subst (GivesAll g) (sym (ok_is r (g, gs) (then_ok {A = ⊤} (unless_clear (not last) FillArgumentNotLast s) (pure (g, gs)) r e))) (record { comes = comes_here g h; there = b })
    one_sound g ns gs (t.InstantiationArgument.named x) last r h b e = named_sound g ns gs x r h b e

    named_sound : (g : State) (ns : List Name) (gs : List Given) (x : t.NamedInstantiationArgument) (r : State × List Given) → Sound ps g → AllThere g gs → Ok r ≡ named_argument g ns gs x → GivesAll g r
    named_sound g ns gs (t.named_argument n x) r h b e =
        let a = ok_of (denote g x) _ r e in
        let d = denote_sound g x a.0 h (sym a.1) in
        let one : Given = record { name = argument_name ns n; denoted = a.0.1; span = argument_span n } in
        let c = ok_of (add_given gs one) _ r a.2 in
        subst (GivesAll g) (sym (ok_is r (a.0.0, c.0) c.2)) (record { comes = d.comes; there = given_more a.0.0 gs c.0 one (all_more g a.0.0 gs d.comes.grows b) d.has (sym c.1) })

  -- ---- statements

  -- the same instances, imports and definitions, with other names
  renamed_sound : (g h : State) → Grows g h → h.packages ≡ g.packages → h.made ≡ g.made → ((n : Name) (b : Bound) → value_at h.root n ≡ Some b → HasThat h b.denoted) → ((e : Name × Bound) → Among e h.exports → HasThat h e.1.denoted) → Sound ps g → Sound ps h
  renamed_sound g h w p m root exports s = record {
    same = p ∙ s.same;
    made = λ i x e. made_more ps g h i x w (s.made i x (ap (λ xs. slice_get xs i) (sym m) ∙ e));
    root = root;
    exports = exports;
  }

  bound_sound : (g : State) (i : t.Ident) (d : Denoted) (h : State) → Sound ps g → HasThat g d → Ok h ≡ bound g i d → Sound ps h
  bound_sound g i d h s b e =
      let x = then_ok (bind (root_scope g) i d.item) _ h e in
      let one : Bound = record { denoted = d; span = i.span } in
      let k : State = record g { root = g.root ++ (i.string, one) ∷ [] } in
      let w : Grows g k = record { imports = λ i m. m; made = λ j m e. e; definitions = λ d m. m } in
      subst (Sound ps) (sym (ok_is h k x)) (renamed_sound g k w refl refl
      (λ n v q. has_more g k w v.denoted.origin v.denoted.item (value_more (λ (w : Bound). HasThat g w.denoted) g.root i.string one s.root b n v q))
      (λ x m. has_more g k w x.1.denoted.origin x.1.denoted.item (s.exports x m)) s)

  declaration_sound : (g : State) (i : t.Ident) (x : Stated) (h : State) → Sound ps g → Ok h ≡ declaration g i x → Sound ps h
  declaration_sound g i x h s e =
      let k : State = with_definition g i x in
      let w : Grows g k = record { imports = λ i m. m; made = λ j m e. e; definitions = λ d m. among_more d g.definitions (i.string, x) m } in
      let new : Has k (defined i.string x) x = a_definition i.string x (among_last g.definitions (i.string, x)) in
      let one : Bound = record { denoted = record { origin = defined i.string x; item = x }; span = i.span } in
      bound_sound k i (record { origin = defined i.string x; item = x }) h (renamed_sound g k w refl refl
      (λ n v q. has_more g k w v.denoted.origin v.denoted.item (s.root n v q))
      (each_more (λ (x : Name × Bound). HasThat k x.1.denoted) g.exports (i.string, one) (λ x m. has_more g k w x.1.denoted.origin x.1.denoted.item (s.exports x m)) new) s)
      new (then_ok (not_exported g (value_at g.exports i.string) i) _ h (then_ok (unless_clear (not (is_extern_name i.string)) (InvalidExternName i.string ExternKind.Export) i.span) _ h e))

  exported_sound : (d : Denoted) (b : Bool) (g : State) (n : t.Ident) (h : State) → Sound ps g → HasThat g d → Ok h ≡ exported d b g n → Comes g h
  exported_sound d b g n h s has e =
      let x = then_ok (no_definition n b (value_at g.root n.string)) _ h e in
      let y = then_ok (new_export g n b (value_at g.exports n.string)) _ h x in
      let z = then_ok (unless_clear (not (is_exportable n.string)) (InvalidExternName n.string ExternKind.Export) n.span) _ h y in
      let one : Bound = record { denoted = d; span = n.span } in
      let m : State = speak_of g d in
      let spoken = speak_sound g d s in
      let k : State = record m { exports = g.exports ++ (n.string, one) ∷ [] } in
      let v : Grows m k = record { imports = λ i m. m; made = λ j m e. e; definitions = λ d m. m } in
      let w : Grows g k = grows_then g m k (speak_grows g d) v in
      subst (Comes g) (sym (ok_is h k z)) (record {
        sound = renamed_sound m k v refl refl
            (λ l u q. has_more m k v u.denoted.origin u.denoted.item (spoken.root l u q))
            (each_more (λ (x : Name × Bound). HasThat k x.1.denoted) g.exports (n.string, one) (λ x m. has_more g k w x.1.denoted.origin x.1.denoted.item (s.exports x m)) (has_more g k w d.origin d.item has)) spoken;
        grows = w;
      })

  left_one : (g : State) (dots : Span) (d : Denoted) → HasThat g d → is_instance_kind (kind_of d.item) ≡ true → (k l : State) (n : Name) → Comes g k → export_one dots d k n ≡ Ok l → Comes g l
  left_one g dots d b i k l n c q =
      let a = ok_of (export_named d n dots) _ l (sym q) in
      let has = named_has k d n dots a.0 (has_more g k c.grows d.origin d.item b) i (sym a.1) in
      comes_then g k l c (exported_sound a.0 false k (record { string = n; span = dots }) l c.sound has a.2)

  export_left_sound : (g : State) (s dots : Span) (d : Denoted) (ns : List Name) (h : State) → Sound ps g → HasThat g d → is_instance_kind (kind_of d.item) ≡ true → Ok h ≡ export_left g s dots d ns → Sound ps h
  export_left_sound g s dots d [] h f b i e = absurd (err_ok _ h e)
  export_left_sound g s dots d (n ∷ ns) h f b i e = (each_keeps (export_one dots d) (Comes g) (left_one g dots d b i) g h (n ∷ ns) (comes_here g f) e).sound

  export_sound : (g : State) (s : Span) (d : Denoted) (o : t.ExportOptions) (h : State) → Sound ps g → HasThat g d → Ok h ≡ export_as g s d o → Sound ps h
  export_sound g s d (t.ExportOptions.rename n) h f b e = (exported_sound d false g (written_name n) h f b e).sound
  export_sound g s d t.ExportOptions.none h f b e =
      let a = ok_of (present (export_name d) ExportRequiresAs s) _ h e in (exported_sound d true g (record { string = a.0; span = s }) h f b a.2).sound
  export_sound g s d (t.ExportOptions.spread dots) h f b e =
      export_left_sound g s dots d _ h f b (is_one d InstanceOperation.Spread s _ h e) (then_ok (needs_instance d InstanceOperation.Spread s) _ h e)

  import_sound : (g : State) (x : t.ImportStatement) (h : State) → Sound ps g → Ok h ≡ import_statement g x → Sound ps h
  import_sound g x h s e =
      let n = ok_of (import_name g x) _ h e in
      let item = ok_of (asked g x.ty) _ h n.2 in
      let y = then_ok (not_imported (import_called g.imports n.0.string) n.0 (is_none x.name)) _ h item.2 in
      let z = then_ok (unless_clear (not (is_extern_name n.0.string)) (InvalidExternName n.0.string ExternKind.Import) n.0.span) _ h y in
      let one : Import = record { name = n.0.string; item = promote item.0; span = n.0.span; id_span = x.id.span } in
      let k : State = with_import g one in
      let w : Grows g k = record { imports = λ i m. among_more i g.imports one m; made = λ j m e. e; definitions = λ d m. m } in
      bound_sound k x.id (record { origin = imported n.0.string; item = promote item.0 }) h (renamed_sound g k w refl refl
      (λ l v q. has_more g k w v.denoted.origin v.denoted.item (s.root l v q))
      (λ x m. has_more g k w x.1.denoted.origin x.1.denoted.item (s.exports x m)) s)
      (an_import one (among_last g.imports one)) z

  pub statement_sound : (g h : State) (x : t.Statement) → Sound ps g → statement g x ≡ Ok h → Sound ps h
  statement_sound g h (t.Statement.import x) s e = import_sound g x h s (sym e)
  statement_sound g h (t.Statement.ty x) s e =
      let a = ok_of (type_statement (context g) x) _ h (sym e) in declaration_sound g (declared_id x) a.0 h s a.2
  statement_sound g h (t.Statement.let_ x) s e =
      let a = ok_of (denote g x.expr) _ h (sym e) in
      let d = denote_sound g x.expr a.0 s (sym a.1) in
      bound_sound a.0.0 x.id a.0.1 h d.comes.sound d.has a.2
  statement_sound g h (t.Statement.export x) s e =
      let a = ok_of (denote g x.expr) _ h (sym e) in
      let d = denote_sound g x.expr a.0 s (sym a.1) in
      export_sound a.0.0 (expr_span x.expr) a.0.1 x.options h d.comes.sound d.has a.2

  -- what a document's statements say is sound
  pub statements_sound : (d : t.Document) (g : State) → Ok g ≡ statements d ps → Sound ps g
  statements_sound d g e =
      each_keeps statement (Sound ps) (λ k l x s q. statement_sound k l x s q) (start d ps) g d.statements
      (record { same = refl; made = λ i m q. absurd (none-some _ q); root = λ n b q. absurd (none-some _ q); exports = λ x m. absurd m }) e
