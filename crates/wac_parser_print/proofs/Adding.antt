-- Texts that are added to a printer, one after another.
use Rattle.std.proofs.Common.{◌≡◌, ℕ, zero, suc, ◌+◌, ◌<◌, ◌≤◌, Bool, true, false, List, [], ◌∷◌, ◌++◌, length, map, take, get_or, is_err, Result, Ok, Err, refl, ap, sym, ◌∙◌, subst, arith, append_assoc, add-one}
use Rattle.std.specs.Result.{OnOk, OnErr}
use Rattle.std.proofs.lemmas.List.{append-nil, map-append, take_more, take_all, length-take-le, length-map, get_or_default}
use Rattle.std.specs.Io.KnownBytes.{Appends}
use Rattle.wac_parser_print.specs.Texts.{Layout, Text, nothing, word, slice, ◌>>◌, line_end, unit, indent, each, joined}
use Rattle.wac_streams.specs.Calls.{Calls, NoneFailed, FailedOnce, AppendsPrefix}
use Rattle.wac_parser_print.specs.declared.error.PrintError.{PrintError}
use Rattle.wac_parser_print.specs.declared.error.PrintError.TheVariants as error
use Rattle.wac_parser_print.specs.Printers.{Printer, IsPrinted, IsStopped, IsRefused, Adds, printed, stopped, refused, Tells, Prints}
use Rattle.wac_streams.proofs.CallLaws.{Appends-none, Appends-more, NoneFailed-none, NoneFailed-more, FailedOnce-after, front_early, front_late}

never : (b : Bool) → b ≡ true → b ≡ false → ⊥
never b holds fails = cc

-- ---- two texts

both_printed : (a b c : Printer) (f g : Text) → IsPrinted a f b → IsPrinted b g c → IsPrinted a (f >> g) c
unfolding ◌>>◌
both_printed a b c f g p q = record {
  ready = p.ready;
  goes_on = q.goes_on;
  layout = q.layout ∙ p.layout;
  written = Appends-more a.written b.written c.written (f a.layout) (g a.layout) p.written (subst (λ (l : Layout). Appends b.written c.written (g l)) p.layout q.written);
  none_failed = NoneFailed-more a.calls b.calls c.calls p.none_failed q.none_failed;
}

second_stopped : (a b c : Printer) (f g : Text) → IsPrinted a f b → IsStopped b g c → IsStopped a (f >> g) c
unfolding ◌>>◌
second_stopped a b c f g p q = record {
  ready = p.ready;
  gives_up = q.gives_up;
  layout = q.layout ∙ p.layout;
  written = front_late a.written b.written c.written (f a.layout) (g a.layout) p.written (subst (λ (l : Layout). AppendsPrefix b.written c.written (g l)) p.layout q.written);
  failed_once = FailedOnce-after a.calls b.calls c.calls p.none_failed q.failed_once;
}

first_stopped : (a b : Printer) (f g : Text) → IsStopped a f b → IsStopped a (f >> g) b
unfolding ◌>>◌
first_stopped a b f g p = record {
  ready = p.ready;
  gives_up = p.gives_up;
  layout = p.layout;
  written = front_early a.written b.written (f a.layout) (g a.layout) p.written;
  failed_once = p.failed_once;
}

stays_failed : (a b : Printer) → IsRefused a b → b.failed ≡ true
stays_failed a b r = ap (λ (p : Printer). p.failed) r.kept ∙ r.failed

two_texts : (a b c : Printer) (f g : Text) → Adds a f b → Adds b g c → Adds a (f >> g) c
two_texts a b c f g (printed p) (printed q) = printed (both_printed a b c f g p q)
two_texts a b c f g (printed p) (stopped q) = stopped (second_stopped a b c f g p q)
two_texts a b c f g (printed p) (refused q) = absurd (never b.failed q.failed p.goes_on)
two_texts a b c f g (stopped p) (printed q) = absurd (never b.failed p.gives_up q.ready)
two_texts a b c f g (stopped p) (stopped q) = absurd (never b.failed p.gives_up q.ready)
two_texts a b c f g (stopped p) (refused q) = stopped (subst (λ (x : Printer). IsStopped a (f >> g) x) (sym q.kept) (first_stopped a b f g p))
two_texts a b c f g (refused p) (printed q) = absurd (never b.failed (stays_failed a b p) q.ready)
two_texts a b c f g (refused p) (stopped q) = absurd (never b.failed (stays_failed a b p) q.ready)
two_texts a b c f g (refused p) (refused q) = refused (record { failed = p.failed; kept = q.kept ∙ p.kept })

pub and_then : {a b c : Printer} {f g : Text} → Adds a f b → Adds b g c → Adds a (f >> g) c
and_then {a = a} {b = b} {c = c} {f = f} {g = g} p q = two_texts a b c f g p q

-- ---- the same text

-- the same bytes in the printer's layout
pub same_at : {a b : Printer} (f g : Text) → f a.layout ≡ g a.layout → Adds a f b → Adds a g b
same_at {a = a} {b = b} f g same (printed p) = printed (record {
  ready = p.ready;
  goes_on = p.goes_on;
  layout = p.layout;
  written = subst (λ (t : List ℕ). Appends a.written b.written t) same p.written;
  none_failed = p.none_failed;
})
same_at {a = a} {b = b} f g same (stopped p) = stopped (record {
  ready = p.ready;
  gives_up = p.gives_up;
  layout = p.layout;
  written = subst (λ (t : List ℕ). AppendsPrefix a.written b.written t) same p.written;
  failed_once = p.failed_once;
})
same_at f g same (refused p) = refused p

pub same_text : {a b : Printer} (f g : Text) → ((l : Layout) → f l ≡ g l) → Adds a f b → Adds a g b
same_text {a = a} f g same p = same_at f g (same a.layout) p

pub equal_text : {a b : Printer} (f g : Text) → f ≡ g → Adds a f b → Adds a g b
equal_text {a = a} {b = b} f g e p = subst (λ (t : Text). Adds a t b) e p

-- ---- no text

nothing_by : (a : Printer) (b : Bool) → a.failed ≡ b → Adds a nothing a
unfolding nothing
nothing_by a true e = refused (record { failed = e; kept = refl })
nothing_by a false e = printed (record {
  ready = e;
  goes_on = e;
  layout = refl;
  written = Appends-none a.written;
  none_failed = NoneFailed-none a.calls;
})

pub adds_nothing : (a : Printer) → Adds a nothing a
adds_nothing a = nothing_by a a.failed refl

pub no_word : (a : Printer) → Adds a (word []) a
unfolding nothing word
no_word a = same_at nothing (word []) refl (adds_nothing a)

-- ---- bytes

-- what a write of some bytes does, by its answer
pub bytes_by : {T E : Type 0} (a b : Printer) (bytes : List ℕ) (r : Result T E) → a.failed ≡ false → b.failed ≡ is_err r → b.layout ≡ a.layout
    → OnOk r (Appends a.written b.written bytes) → OnErr r (AppendsPrefix a.written b.written bytes) → OnOk r (NoneFailed a.calls b.calls) → OnErr r (FailedOnce a.calls b.calls) → Adds a (word bytes) b
unfolding word
bytes_by a b bytes (Ok x) ready fails layout whole front none once = printed (record { ready = ready; goes_on = fails; layout = layout; written = whole; none_failed = none })
bytes_by a b bytes (Err e) ready fails layout whole front none once = stopped (record { ready = ready; gives_up = fails; layout = layout; written = front; failed_once = once })

pub adds_refused : (a : Printer) (f : Text) → a.failed ≡ true → Adds a f a
adds_refused a f e = refused (record { failed = e; kept = refl })

-- ---- answers

pub prints : {T : Type 0} {a b : Printer} {f : Text} (r : Result T PrintError) (before : Bool) → before ≡ a.failed → Adds a f b → Tells before b.failed r → Prints a f r b
prints {a = a} {b = b} (Ok x) before e (printed p) h = p
prints {a = a} {b = b} (Ok x) before e (stopped p) h = absurd (never b.failed p.gives_up h.1)
prints {a = a} {b = b} (Ok x) before e (refused p) h = absurd (never a.failed p.failed (sym e ∙ h.0))
prints {a = a} {b = b} (Err error.Write) before e (printed p) h = absurd (never b.failed h.1 p.goes_on)
prints {a = a} {b = b} (Err error.Write) before e (stopped p) h = p
prints {a = a} {b = b} (Err error.Write) before e (refused p) h = absurd (never a.failed p.failed (sym e ∙ h.0))
prints {a = a} {b = b} (Err error.Failed) before e (printed p) h = absurd (never a.failed (sym e ∙ h) p.ready)
prints {a = a} {b = b} (Err error.Failed) before e (stopped p) h = absurd (never a.failed (sym e ∙ h) p.ready)
prints {a = a} {b = b} (Err error.Failed) before e (refused p) h = p

-- ---- lists

indent_more : (n : ℕ) (l : Layout) → indent (suc n) l ≡ indent n l ++ l.space
unfolding indent unit ◌>>◌ nothing
indent_more zero l = append-nil l.space
indent_more (suc n) l = ap (λ (t : List ℕ). l.space ++ t) (indent_more n l) ∙ sym (append_assoc l.space (indent n l) l.space)

pub indent_step : {a b c : Printer} (n : ℕ) → Adds a (indent n) b → Adds b unit c → Adds a (indent (n + 1)) c
unfolding unit ◌>>◌
indent_step n p q = same_text (indent n >> unit) (indent (n + 1)) (λ l. sym (ap (λ (k : ℕ). indent k l) (add-one n) ∙ indent_more n l)) (and_then p q)

pub indent_start : (a : Printer) → Adds a (indent 0) a
unfolding indent
indent_start a = adds_nothing a

each_more : {A : Type 0} (f : A → Text) (xs : List A) (x : A) (l : Layout) → each f (xs ++ x ∷ []) l ≡ each f xs l ++ f x l
unfolding each ◌>>◌ nothing
each_more f [] x l = append-nil (f x l)
each_more f (y ∷ ys) x l = ap (λ (t : List ℕ). f y l ++ t) (each_more f ys x l) ∙ sym (append_assoc (f y l) (each f ys l) (f x l))

each_then : {A : Type 0} {a b c : Printer} (f : A → Text) (xs : List A) (x : A) → Adds a (each f xs) b → Adds b (f x) c → Adds a (each f (xs ++ x ∷ [])) c
unfolding ◌>>◌
each_then f xs x p q = same_text (each f xs >> f x) (each f (xs ++ x ∷ [])) (λ l. sym (each_more f xs x l)) (and_then p q)

one_more_item : {X A : Type 0} (view : X → A) (items : List X) (i : ℕ) (x : X) → i < length items → x ≡ get_or items i x → map view (take (i + 1) items) ≡ map view (take i items) ++ view x ∷ []
one_more_item {X = X} view items i x h is =
    ap (λ (t : List X). map view t) (take_more items i x h ∙ ap (λ (y : X). take i items ++ y ∷ []) (sym is)) ∙ map-append view (take i items) (x ∷ [])

-- a loop over values
pub each_start : {X A : Type 0} (view : X → A) (f : A → Text) (a : Printer) → Adds a (each f (map view [])) a
unfolding each
each_start view f a = adds_nothing a

pub each_step : {X A : Type 0} {a b c : Printer} (view : X → A) (f : A → Text) (items : List X) (i : ℕ) (x : X) → i < length items → x ≡ get_or items i x
    → Adds a (each f (map view (take i items))) b → Adds b (f (view x)) c → Adds a (each f (map view (take (i + 1) items))) c
each_step {A = A} {a = a} {c = c} view f items i x h is p q =
    subst (λ (ys : List A). Adds a (each f ys) c) (sym (one_more_item view items i x h is)) (each_then f (map view (take i items)) (view x) p q)

-- the same where the loop copies the value
pub each_copied : {X A : Type 0} {a b c : Printer} (view : X → A) (f : A → Text) (items : List X) (i : ℕ) (d : X) → i < length items
    → Adds a (each f (map view (take i items))) b → Adds b (f (view (get_or items i d))) c → Adds a (each f (map view (take (i + 1) items))) c
each_copied view f items i d h p q = each_step view f items i (get_or items i d) h (get_or_default items i d (get_or items i d) h) p q

-- the same over values that an iterator gave
pub each_push : {X A : Type 0} {a b c : Printer} (view : X → A) (f : A → Text) (xs : List X) (x : X) → Adds a (each f (map view xs)) b → Adds b (f (view x)) c → Adds a (each f (map view (xs ++ x ∷ []))) c
each_push {A = A} {a = a} {c = c} view f xs x p q = subst (λ (ys : List A). Adds a (each f ys) c) (sym (map-append view xs (x ∷ []))) (each_then f (map view xs) (view x) p q)

pub each_end : {X A : Type 0} {a b : Printer} (view : X → A) (f : A → Text) (items : List X) (i : ℕ) → length items ≤ i → Adds a (each f (map view (take i items))) b → Adds a (each f (map view items)) b
each_end {X = X} {a = a} {b = b} view f items i h p = subst (λ (xs : List X). Adds a (each f (map view xs)) b) (take_all i items h) p

-- what stands before the value of a place
abbrev pub gap : ℕ → List ℕ → List ℕ
gap zero between = []
gap (suc n) between = between

joined_more : {A : Type 0} (between : List ℕ) (f : A → Text) (xs : List A) (x : A) (l : Layout) → joined between f (xs ++ x ∷ []) l ≡ joined between f xs l ++ (gap (length xs) between ++ f x l)
unfolding joined each ◌>>◌ nothing word
joined_more between f [] x l = append-nil (f x l)
joined_more between f (y ∷ ys) x l =
    ap (λ (t : List ℕ). f y l ++ t) (each_more (λ z. word between >> f z) ys x l) ∙ sym (append_assoc (f y l) (each (λ z. word between >> f z) ys l) (between ++ f x l))

joined_then : {A : Type 0} {a b c d : Printer} (between : List ℕ) (f : A → Text) (xs : List A) (x : A)
    → Adds a (joined between f xs) b → Adds b (word (gap (length xs) between)) c → Adds c (f x) d → Adds a (joined between f (xs ++ x ∷ [])) d
unfolding ◌>>◌ word
joined_then between f xs x p q r =
    same_text (joined between f xs >> (word (gap (length xs) between) >> f x)) (joined between f (xs ++ x ∷ [])) (λ l. sym (joined_more between f xs x l)) (and_then p (and_then q r))

pub joined_start : {X A : Type 0} (view : X → A) (between : List ℕ) (f : A → Text) (a : Printer) → Adds a (joined between f (map view [])) a
unfolding joined
joined_start view between f a = adds_nothing a

pub joined_step : {X A : Type 0} {a b c d : Printer} (view : X → A) (between now : List ℕ) (f : A → Text) (items : List X) (i : ℕ) (x : X) → i < length items → x ≡ get_or items i x → now ≡ gap i between
    → Adds a (joined between f (map view (take i items))) b → Adds b (word now) c → Adds c (f (view x)) d → Adds a (joined between f (map view (take (i + 1) items))) d
joined_step {X = X} {A = A} {a = a} {b = b} {c = c} {d = d} view between now f items i x h is e p q r =
    let count : length (map view (take i items)) ≡ i = length-map (take i items) view ∙ length-take-le i items (omega (arith, h)) in
    let before : Adds b (word (gap (length (map view (take i items))) between)) c =
    subst (λ (t : List ℕ). Adds b (word t) c) (e ∙ ap (λ (n : ℕ). gap n between) (sym count)) q in
    subst (λ (ys : List A). Adds a (joined between f ys) d) (sym (one_more_item view items i x h is)) (joined_then between f (map view (take i items)) (view x) p before r)

pub joined_copied : {X A : Type 0} {a b c d : Printer} (view : X → A) (between now : List ℕ) (f : A → Text) (items : List X) (i : ℕ) (e : X) → i < length items → now ≡ gap i between
    → Adds a (joined between f (map view (take i items))) b → Adds b (word now) c → Adds c (f (view (get_or items i e))) d → Adds a (joined between f (map view (take (i + 1) items))) d
joined_copied view between now f items i e h same p q r = joined_step view between now f items i (get_or items i e) h (get_or_default items i e (get_or items i e) h) same p q r

pub joined_end : {X A : Type 0} {a b : Printer} (view : X → A) (between : List ℕ) (f : A → Text) (items : List X) (i : ℕ) → length items ≤ i → Adds a (joined between f (map view (take i items))) b → Adds a (joined between f (map view items)) b
joined_end {X = X} {a = a} {b = b} view between f items i h p = subst (λ (xs : List X). Adds a (joined between f (map view xs)) b) (take_all i items h) p

pub gap_more : (n : ℕ) (between : List ℕ) → between ≡ gap (n + 1) between
gap_more n between = sym (ap (λ (k : ℕ). gap k between) (add-one n))

-- a form by what its tree is
pub of_view : {A : Type 0} {a b : Printer} (f : A → Text) {x y : A} → x ≡ y → Adds a (f y) b → Adds a (f x) b
of_view {A = A} {a = a} {b = b} f e p = subst (λ (z : A). Adds a (f z) b) (sym e) p

pub ruleset adding = (and_then, adds_nothing)
