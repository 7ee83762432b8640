-- What has a plain form is taken by the rule, where what follows can't go on with it.
use Rattle.std.proofs.Common.{◌≡◌, ℕ, zero, suc, ◌≤◌, inl, inr, true, false, List, [], ◌∷◌, Option, Some, None, Result, refl, ap, subst, sym, ◌∙◌, arith}
use Rattle.std.proofs.Math.Nat.{le-max_left, le-max_right}
use Rattle.std.proofs.lemmas.Bool.{false_from_ne_true}
use Rattle.semver.specs.declared.error.Error.{Error}
use Rattle.wac_types_names.specs.Tracks.{IsTrack}
use Rattle.wac_parser_lexer.specs.declared.span.SourceSpan.{SourceSpan}
use Rattle.wac_parser_lexer.specs.declared.token.Token.{Token}
use Rattle.wac_parser_lexer.specs.declared.token.Token.TheVariants as k
use Rattle.wac_parser_lexer.specs.Pieces.{text_at}
use Rattle.wac_parser_lexer.specs.Items.{Input, Item, first_of_items}
use Rattle.wac_parser_tree.specs.Trees as t
use Rattle.wac_parser_grammar.specs.Ahead.{same_token, token_of, is_token, is_any, next_token, sees, sees_any, none_of}
use Rattle.wac_parser_grammar.specs.Rules.{Rule, ◌>>=◌, ◌>>◌, token, choose, begin, begin_any, pure, refuse, optional, comma, behind, list_of, IsListOf, fault_of_item, fault_ahead, has_token, sees_token}
use Rattle.wac_parser_grammar.specs.Tracks.{track_in}
use Rattle.wac_parser_grammar.specs.Names as n
use Rattle.wac_parser_grammar.specs.ValueTypes as v
use Rattle.wac_parser_grammar.specs.Forms.{At, Ident, Quoted, Version, VersionOrTrack, PackageName, NewPackage, PackagePath, Ty, SomeTys, FurtherTys, Omitted, Second}
use Rattle.wac_parser_grammar.specs.FormDepths.{levels, levels_of, levels_in, Ends}
use Rattle.wac_parser_grammar.proofs.TrackTests.{track_taken, other_left}
use Rattle.wac_parser_grammar.proofs.Exact.{Begins, found_same}
use Rattle.wac_parser_grammar.proofs.TypeLaws.{ty_begins}
use Rattle.wac_parser_grammar.proofs.TableLaws.{apart}

-- ---- the next token

pub next_at : (k : Token) (span : t.Span) (s m : Input) → At k span s m → next_token s ≡ Some k
next_at k span s m h = ap (λ (l : List Item). token_of (first_of_items l)) h.2

pub seen : (k : Token) (span : t.Span) (s m : Input) → At k span s m → sees k s ≡ true
unfolding sees
seen k span s m h = ap (is_token k) (next_at k span s m h) ∙ found_same k

pub sees_at : (k l : Token) (span : t.Span) (s m : Input) → At k span s m → sees l s ≡ same_token k l
unfolding sees
sees_at k l span s m h = ap (is_token l) (next_at k span s m h)

pub any_at : (k : Token) (ks : List Token) (span : t.Span) (s m : Input) → At k span s m → sees_any ks s ≡ is_any ks (Some k)
unfolding sees_any
any_at k ks span s m h = ap (is_any ks) (next_at k span s m h)

pub some_at : (k : Token) (span : t.Span) (s m : Input) → At k span s m → sees_token s ≡ true
unfolding sees_token
some_at k span s m h = ap has_token (next_at k span s m h)

pub sound_at : (k : Token) (span : t.Span) (s m : Input) → At k span s m → fault_ahead s ≡ None
unfolding fault_ahead
sound_at k span s m h = ap (λ (l : List Item). fault_of_item (first_of_items l)) h.2

pub ends_at : (k l : Token) (span : t.Span) (s m : Input) → same_token k l ≡ false → At k span s m → Ends l s
ends_at k l span s m e h = (sound_at k span s m h, sees_at k l span s m h ∙ e)

-- ---- choices

pub here : {X : Type 0} (k : Token) (p q : Rule X) (span : t.Span) (s m : Input) (x : X) (r : Input) → At k span s m → p.Is x s r → (begin k p q).Is x s r
here k p q span s m x r at h = (true, s, (sym (seen k span s m at), refl), inl (refl, h))

pub past : {X : Type 0} (k : Token) (p q : Rule X) (s : Input) (x : X) (r : Input) → sees k s ≡ false → q.Is x s r → (begin k p q).Is x s r
past k p q s x r e h = (false, s, (sym e, refl), inr (refl, h))

pub any_here : {X : Type 0} (ks : List Token) (p q : Rule X) (s : Input) (x : X) (r : Input) → sees_any ks s ≡ true → p.Is x s r → (begin_any ks p q).Is x s r
any_here ks p q s x r e h = (true, s, (sym e, refl), inl (refl, h))

pub optional_here : (k : Token) (span : t.Span) (s m : Input) → At k span s m → (optional k).Is true s m
unfolding optional
optional_here k span s m at = (tt, s, (sound_at k span s m at, refl), here k (token k >> pure true) (pure false) span s m true m at (span, m, at, (refl, refl)))

pub optional_past : (k : Token) (s : Input) → Ends k s → (optional k).Is false s s
unfolding optional
optional_past k s e = (tt, s, (e.0, refl), past k (token k >> pure true) (pure false) s false s e.1 (refl, refl))

-- ---- lists

pub behind_end : (until : Token) (span : t.Span) (s m : Input) → At until span s m → (behind until true).Is tt s s
unfolding behind
behind_end until span s m at = here until (pure tt) (choose true comma (pure tt)) span s m tt s at (refl, refl)

pub behind_comma : (until : Token) (span : t.Span) (s m : Input) → same_token k.Comma until ≡ false → At k.Comma span s m → (behind until true).Is tt s m
unfolding behind
behind_comma until span s m e at =
    past until (pure tt) (choose true comma (pure tt)) s tt m (sees_at k.Comma until span s m at ∙ e)
    (inl (refl, (true, s, (sym (some_at k.Comma span s m at), refl), inl (refl, (span, m, at, (refl, refl))))))

-- ---- names

pub ident_back : (s : Input) (x : t.Ident) (r : Input) → Ident x s r → n.ident.Is x s r
unfolding n.ident
ident_back s x r h =
    (x.span, r, h.0, (text_at r.source x.span, r, (refl, refl), (ap (λ (z : List ℕ). record { string = z; span = x.span }) (h.1 ∙ ap (λ (i : Input). n.strip_percent (text_at i.source x.span)) (sym h.0.3)), refl)))

pub string_back : (s : Input) (x : t.StringLiteral) (r : Input) → Quoted x s r → n.string.Is x s r
unfolding n.string
string_back s x r h =
    (x.span, r, h.0, (text_at r.source x.span, r, (refl, refl), (ap (λ (z : List ℕ). record { value = z; span = x.span }) (h.1 ∙ ap (λ (i : Input). n.strip_quotes (text_at i.source x.span)) (sym h.0.3)), refl)))

version_by_back : (o : Option (List ℕ)) (span : SourceSpan) (s : Input) (x : Option t.Version) → Version o x → (n.version_by o span).Is x s s
version_by_back None span s x h = (h, refl)
version_by_back (Some text) span s x h = let P : Result t.Version Error → Type 0 = λ (o : Result t.Version Error). (n.version_read o text span).Is x s s in subst P (sym h.1) (h.2, refl)

version_of_back : (name : List ℕ) (span : SourceSpan) (s : Input) (x : Option t.Version) → Version (n.behind_first 64 name) x → (n.version_of name span).Is x s s
unfolding n.version_of
version_of_back name span s x h = version_by_back (n.behind_first 64 name) span s x h

pub package_name_back : (s : Input) (x : t.PackageName) (r : Input) → PackageName x s r → n.package_name.Is x s r
unfolding n.package_name
package_name_back s x r h = (
  x.span,
  r,
  h.0,
  (
    x.string,
    r,
    (h.1 ∙ ap (λ (i : Input). text_at i.source x.span) (sym h.0.3), refl),
    (
      x.version,
      r,
      version_of_back x.string x.span r x.version h.3,
      (ap (λ (z : List ℕ). record { string = x.string; name = z; version = x.version; span = x.span }) h.2, refl),
    ),
  ),
)

beside_back : (o : Option (List ℕ)) (span : SourceSpan) (s : Input) (x : Option t.Version) (track : Option (List ℕ))
    → VersionOrTrack o x track → (n.version_beside track o span).Is x s s × (track_in o ≡ track)
beside_back None span s x None h = (version_by_back None span s x h.0, refl)
beside_back (Some text) span s x None h = (version_by_back (Some text) span s x h.0, other_left text h.1)
beside_back None span s x (Some track) h = cc
beside_back (Some text) span s x (Some track) h =
    let same : text ≡ track = cc in
    ((h.2, refl), track_taken text (subst IsTrack (sym same) h.1) ∙ h.0)

pub new_package_back : (s : Input) (x : t.PackageName × Option (List ℕ)) (r : Input) → NewPackage x s r → n.new_package.Is x s r
unfolding n.new_package
new_package_back s x r h =
    let p = x.0 in
    let v = beside_back (n.behind_first 64 p.string) p.span r p.version x.1 h.3 in
    let P : Option (List ℕ) → Type 0 = λ z. (n.version_beside z (n.behind_first 64 p.string) p.span).Is p.version r r in (
      p.span,
      r,
      h.0,
      (
        p.string,
        r,
        (h.1 ∙ ap (λ (i : Input). text_at i.source p.span) (sym h.0.3), refl),
        (
          p.version,
          r,
          subst P (sym v.1) v.0,
          (
            ap (λ (z : List ℕ). (record { string = p.string; name = z; version = p.version; span = p.span }, x.1)) h.2
                ∙ ap (λ (z : Option (List ℕ)). (record { string = p.string; name = n.before 64 p.string; version = p.version; span = p.span }, z)) (sym v.1),
            refl,
          ),
        ),
      ),
    )

pub package_path_back : (s : Input) (x : t.PackagePath) (r : Input) → PackagePath x s r → n.package_path.Is x s r
unfolding n.package_path
package_path_back s x r h = (
  x.span,
  r,
  h.0,
  (
    x.string,
    r,
    (h.1 ∙ ap (λ (i : Input). text_at i.source x.span) (sym h.0.3), refl),
    (
      x.version,
      r,
      version_of_back x.string x.span r x.version h.4,
      (
        ap (λ (z : List ℕ). record { span = x.span; string = x.string; name = z; segments = x.segments; version = x.version }) h.2
            ∙ ap (λ (z : List ℕ). record { span = x.span; string = x.string; name = n.before 47 (n.before 64 x.string); segments = z; version = x.version }) h.3,
        refl,
      ),
    ),
  ),
)

-- ---- types

unfoldable pub untys : t.Tys → List t.Ty
untys t.Tys.no_more = []
untys (t.Tys.more ty tys) = ty ∷ untys tys

pub tys_again : (ts : t.Tys) → t.tys (untys ts) ≡ ts
unfolding untys
tys_again t.Tys.no_more = refl
tys_again (t.Tys.more ty tys) = ap (t.Tys.more ty) (tys_again tys)

further_stop : (ts : t.Tys) (m r e : Input) (span : t.Span) → FurtherTys ts m r → At k.CloseAngle span r e → Ends k.OpenAngle m
unfolding same_token
further_stop t.Tys.no_more m r e span h at = elim h [
  | inl w ↦ ends_at k.Comma k.OpenAngle w.0 m r refl w.1
  | inr w ↦ (let P : Input → Type 0 = λ (i : Input). Ends k.OpenAngle i in subst P w (ends_at k.CloseAngle k.OpenAngle span r e refl at))
]
further_stop (t.Tys.more ty tys) m r e span h at = ends_at k.Comma k.OpenAngle h.1.0 m h.0 refl h.1.1

pub second_stop : (o : t.MaybeTy) (m r e : Input) (span : t.Span) → Second o m r → At k.CloseAngle span r e → Ends k.OpenAngle m
unfolding same_token
second_stop t.MaybeTy.no_ty m r e span h at = elim h [
  | inl w ↦ ends_at k.Comma k.OpenAngle w.1.0 m w.0 refl w.1.1
  | inr w ↦ (let P : Input → Type 0 = λ (i : Input). Ends k.OpenAngle i in subst P w (ends_at k.CloseAngle k.OpenAngle span r e refl at))
]
second_stop (t.MaybeTy.some_ty ty) m r e span h at = ends_at k.Comma k.OpenAngle h.1.0 m h.0 refl h.1.1

borrow_back : (id : t.Ident) (span : t.Span) (s r : Input) → Ty (t.Ty.borrow id span) s r → v.borrow_ty.Is (t.Ty.borrow id span) s r
unfolding v.borrow_ty
borrow_back id span s r h =
    (h.0, h.3.0, h.3.1, (h.3.2.1.1.0, h.3.2.1.0, h.3.2.1.1.1, (id, h.3.2.0, ident_back h.3.2.1.0 id h.3.2.0 h.3.2.1.2, (h.1, r, h.3.2.2, (ap (t.Ty.borrow id) h.2, refl)))))

module _ (depth : ℕ) (inner : Rule t.Ty) (back : (s : Input) (x : t.Ty) (r : Input) → levels x ≤ depth → Ty x s r → Ends k.OpenAngle r → inner.Is x s r) (begins : Begins v.type_first inner) where
  no_token : (l : Token) (s : Input) (x : t.Ty) (r : Input) → is_any v.type_first (Some l) ≡ false → inner.Is x s r → sees l s ≡ false
  no_token l s x r e is = false_from_ne_true (sees l s) (λ f. apart l v.type_first s e f (begins.begins s x r is))

  further_back : (ts : t.Tys) (m r e : Input) (span : t.Span) → levels_of ts ≤ depth → FurtherTys ts m r → At k.CloseAngle span r e
      → (a : Input) × (behind k.CloseAngle true).Is tt m a × IsListOf inner.Is k.CloseAngle true (untys ts) a r
  unfolding untys same_token
  further_back t.Tys.no_more m r e span few h at = elim h [
    | inl w ↦ (r, behind_comma k.CloseAngle w.0 m r refl w.1, (seen k.CloseAngle span r e at, refl))
    | inr w ↦ (let P : Input → Type 0 = λ (i : Input). (a : Input) × (behind k.CloseAngle true).Is tt i a × IsListOf inner.Is k.CloseAngle true [] a r in
        subst P w (r, behind_end k.CloseAngle span r e at, (seen k.CloseAngle span r e at, refl)))
  ]
  further_back (t.Tys.more ty tys) m r e span few h at =
      let a = le-max_left (levels ty) (levels_of tys) in
      let b = le-max_right (levels ty) (levels_of tys) in
      let is = back h.0 ty h.2.0 (omega (arith, a, few)) h.2.1 (further_stop tys h.2.0 r e span h.2.2 at) in
      let rest = further_back tys h.2.0 r e span (omega (arith, b, few)) h.2.2 at in
      (h.0, behind_comma k.CloseAngle h.1.0 m h.0 refl h.1.1, (no_token k.CloseAngle h.0 ty h.2.0 refl is, h.2.0, is, rest.0, rest.1, rest.2))

  some_back : (ts : t.Tys) (s r e : Input) (span : t.Span) → levels_of ts ≤ depth → SomeTys ts s r → At k.CloseAngle span r e
      → IsListOf inner.Is k.CloseAngle true (untys ts) s r × (sees_any v.type_first s ≡ true)
  unfolding untys same_token
  some_back t.Tys.no_more s r e span few h at = absurd h
  some_back (t.Tys.more ty tys) s r e span few h at =
      let a = le-max_left (levels ty) (levels_of tys) in
      let b = le-max_right (levels ty) (levels_of tys) in
      let is = back s ty h.0 (omega (arith, a, few)) h.1 (further_stop tys h.0 r e span h.2 at) in
      let rest = further_back tys h.0 r e span (omega (arith, b, few)) h.2 at in
      ((no_token k.CloseAngle s ty h.0 refl is, h.0, is, rest.0, rest.1, rest.2), begins.begins s ty h.0 is)

  tuple_back : (ts : t.Tys) (span : t.Span) (s r : Input) → levels_of ts ≤ depth → Ty (t.Ty.tuple ts span) s r → (v.tuple_ty inner).Is (t.Ty.tuple ts span) s r
  unfolding v.tuple_ty
  tuple_back ts span s r few h =
      let all = some_back ts h.3.2.1.0 h.3.2.0 r h.1 few h.3.2.1.2 h.3.2.2 in (
        h.0,
        h.3.0,
        h.3.1,
        (
          h.3.2.1.1.0,
          h.3.2.1.0,
          h.3.2.1.1.1,
          (
            untys ts,
            h.3.2.0,
            any_here v.type_first (list_of inner v.type_first k.CloseAngle true) (refuse (none_of v.type_first)) h.3.2.1.0 (untys ts) h.3.2.0 all.1 all.0,
            (h.1, r, h.3.2.2, (ap (t.Ty.tuple ts) h.2 ∙ ap (λ (z : t.Tys). t.Ty.tuple z (v.through h.0 h.1)) (sym (tys_again ts)), refl)),
          ),
        ),
      )

  list_back : (ty : t.Ty) (span : t.Span) (s r : Input) → levels ty ≤ depth → Ty (t.Ty.list ty span) s r → (v.list_ty inner).Is (t.Ty.list ty span) s r
  unfolding v.list_ty same_token
  list_back ty span s r few h = (
    h.0,
    h.3.0,
    h.3.1,
    (
      h.3.2.1.1.0,
      h.3.2.1.0,
      h.3.2.1.1.1,
      (ty, h.3.2.0, back h.3.2.1.0 ty h.3.2.0 few h.3.2.1.2 (ends_at k.CloseAngle k.OpenAngle h.1 h.3.2.0 r refl h.3.2.2), (h.1, r, h.3.2.2, (ap (t.Ty.list ty) h.2, refl))),
    ),
  )

  option_back : (ty : t.Ty) (span : t.Span) (s r : Input) → levels ty ≤ depth → Ty (t.Ty.option ty span) s r → (v.option_ty inner).Is (t.Ty.option ty span) s r
  unfolding v.option_ty same_token
  option_back ty span s r few h = (
    h.0,
    h.3.0,
    h.3.1,
    (
      h.3.2.1.1.0,
      h.3.2.1.0,
      h.3.2.1.1.1,
      (ty, h.3.2.0, back h.3.2.1.0 ty h.3.2.0 few h.3.2.1.2 (ends_at k.CloseAngle k.OpenAngle h.1 h.3.2.0 r refl h.3.2.2), (h.1, r, h.3.2.2, (ap (t.Ty.option ty) h.2, refl))),
    ),
  )

  omitted_back : (o : t.MaybeTy) (s r : Input) → levels_in o ≤ depth → Omitted o s r → Ends k.OpenAngle r → (v.omitted_or inner).Is o s r
  unfolding v.omitted_or same_token
  omitted_back t.MaybeTy.no_ty s r few h e =
      (true, s, (sym (seen k.Underscore h.0 s r h.1), refl), inl (refl, (h.0, r, h.1, (refl, refl))))
  omitted_back (t.MaybeTy.some_ty ty) s r few h e =
      let is = back s ty r few h e in
      (false, s, (sym (no_token k.Underscore s ty r refl is), refl), inr (refl, (true, s, (sym (begins.begins s ty r is), refl), inl (refl, (ty, r, is, (refl, refl))))))

  second_back : (o : t.MaybeTy) (s r e : Input) (span : t.Span) → levels_in o ≤ depth → Second o s r → At k.CloseAngle span r e → (v.second_part inner).Is o s r
  unfolding v.second_part same_token
  second_back t.MaybeTy.no_ty s r e span few h at = elim h [
    | inl w ↦ (true, w.0, optional_here k.Comma w.1.0 s w.0 w.1.1, inl (refl, omitted_back t.MaybeTy.no_ty w.0 r few w.2 (ends_at k.CloseAngle k.OpenAngle span r e refl at)))
    | inr w ↦ (let P : Input → Type 0 = λ (i : Input). Ends k.Comma i in (false, s, optional_past k.Comma s (subst P w (ends_at k.CloseAngle k.Comma span r e refl at)), inr (refl, (refl, w))))
  ]
  second_back (t.MaybeTy.some_ty ty) s r e span few h at =
      (true, h.0, optional_here k.Comma h.1.0 s h.0 h.1.1, inl (refl, omitted_back (t.MaybeTy.some_ty ty) h.0 r few h.2 (ends_at k.CloseAngle k.OpenAngle span r e refl at)))

  result_back : (ok err : t.MaybeTy) (span : t.Span) (s r : Input) → levels_in ok ≤ depth → levels_in err ≤ depth → Ty (t.Ty.result ok err span) s r → Ends k.OpenAngle r → (v.result_ty inner).Is (t.Ty.result ok err span) s r
  unfolding v.result_ty v.result_parts
  result_back ok err span s r few_ok few_err h e = elim h [
    | inl w ↦ (span, r, w.2, (false, r, optional_past k.OpenAngle r e, inr (refl, (ap (λ (z : t.MaybeTy). t.Ty.result z err span) w.0 ∙ ap (λ (z : t.MaybeTy). t.Ty.result t.MaybeTy.no_ty z span) w.1, refl))))
    | inr w ↦ (let i = w.3.2.1 in (
      w.0,
      w.3.0,
      w.3.1,
      (
        true,
        i.0,
        optional_here k.OpenAngle i.1.0 w.3.0 i.0 i.1.1,
        inl (
          refl,
          (
            ok,
            i.2.0,
            omitted_back ok i.0 i.2.0 few_ok i.2.1 (second_stop err i.2.0 w.3.2.0 r w.1 i.2.2 w.3.2.2),
            (err, w.3.2.0, second_back err i.2.0 w.3.2.0 r w.1 few_err i.2.2 w.3.2.2, (w.1, r, w.3.2.2, (ap (t.Ty.result ok err) w.2, refl))),
          ),
        ),
      ),
    ))
  ]

  stream_back : (o : t.MaybeTy) (span : t.Span) (s r : Input) → levels_in o ≤ depth → Ty (t.Ty.stream o span) s r → Ends k.OpenAngle r → (v.stream_ty inner).Is (t.Ty.stream o span) s r
  unfolding v.stream_ty v.payload same_token
  stream_back t.MaybeTy.no_ty span s r few h e =
      (span, r, h, ((t.MaybeTy.no_ty, span), r, (false, r, optional_past k.OpenAngle r e, inr (refl, (refl, refl))), (refl, refl)))
  stream_back (t.MaybeTy.some_ty ty) span s r few h e =
      let i = h.3.2.1 in (
        h.0,
        h.3.0,
        h.3.1,
        (
          (t.MaybeTy.some_ty ty, v.through h.0 h.1),
          r,
          (
            true,
            i.0,
            optional_here k.OpenAngle i.1.0 h.3.0 i.0 i.1.1,
            inl (
              refl,
              (ty, h.3.2.0, back i.0 ty h.3.2.0 few i.2 (ends_at k.CloseAngle k.OpenAngle h.1 h.3.2.0 r refl h.3.2.2), (h.1, r, h.3.2.2, (refl, refl))),
            ),
          ),
          (ap (t.Ty.stream (t.MaybeTy.some_ty ty)) h.2, refl),
        ),
      )

  future_back : (o : t.MaybeTy) (span : t.Span) (s r : Input) → levels_in o ≤ depth → Ty (t.Ty.future o span) s r → Ends k.OpenAngle r → (v.future_ty inner).Is (t.Ty.future o span) s r
  unfolding v.future_ty v.payload same_token
  future_back t.MaybeTy.no_ty span s r few h e =
      (span, r, h, ((t.MaybeTy.no_ty, span), r, (false, r, optional_past k.OpenAngle r e, inr (refl, (refl, refl))), (refl, refl)))
  future_back (t.MaybeTy.some_ty ty) span s r few h e =
      let i = h.3.2.1 in (
        h.0,
        h.3.0,
        h.3.1,
        (
          (t.MaybeTy.some_ty ty, v.through h.0 h.1),
          r,
          (
            true,
            i.0,
            optional_here k.OpenAngle i.1.0 h.3.0 i.0 i.1.1,
            inl (
              refl,
              (ty, h.3.2.0, back i.0 ty h.3.2.0 few i.2 (ends_at k.CloseAngle k.OpenAngle h.1 h.3.2.0 r refl h.3.2.2), (h.1, r, h.3.2.2, (refl, refl))),
            ),
          ),
          (ap (t.Ty.future (t.MaybeTy.some_ty ty)) h.2, refl),
        ),
      )

  composed_by : (x : t.Ty) (s r : Input) (l : Token) (span : t.Span) (m : Input) → At l span s m → v.keyword_type l ≡ None → (v.composed_ty inner).Is x s r → (v.ty_level inner).Is x s r
  unfolding v.ty_level v.keyword_type_or
  composed_by x s r l span m at e h =
      let P : Option (SourceSpan → t.Ty) → Type 0 = λ (o : Option (SourceSpan → t.Ty)). (v.keyword_or o l (v.composed_ty inner)).Is x s r in
      (Some l, s, (sym (next_at l span s m at), refl), subst P (sym e) h)

  tuple_composed : (x : t.Ty) (span : t.Span) (s m r : Input) → At k.TupleKeyword span s m → (v.tuple_ty inner).Is x s r → (v.ty_level inner).Is x s r
  unfolding v.composed_ty same_token
  tuple_composed x span s m r at h = composed_by x s r k.TupleKeyword span m at refl
      (true, s, (sym (seen k.TupleKeyword span s m at), refl), inl (refl, h))

  list_composed : (x : t.Ty) (span : t.Span) (s m r : Input) → At k.ListKeyword span s m → (v.list_ty inner).Is x s r → (v.ty_level inner).Is x s r
  unfolding v.composed_ty same_token
  list_composed x span s m r at h = composed_by x s r k.ListKeyword span m at refl
      (false, s, (sym (sees_at k.ListKeyword k.TupleKeyword span s m at), refl), inr (refl, (true, s, (sym (seen k.ListKeyword span s m at), refl), inl (refl, h))))

  option_composed : (x : t.Ty) (span : t.Span) (s m r : Input) → At k.OptionKeyword span s m → (v.option_ty inner).Is x s r → (v.ty_level inner).Is x s r
  unfolding v.composed_ty same_token
  option_composed x span s m r at h = composed_by x s r k.OptionKeyword span m at refl
      (false, s, (sym (sees_at k.OptionKeyword k.TupleKeyword span s m at), refl), inr (refl, (false, s, (sym (sees_at k.OptionKeyword k.ListKeyword span s m at), refl), inr (refl, (true, s, (sym (seen k.OptionKeyword span s m at), refl), inl (refl, h))))))

  result_composed : (x : t.Ty) (span : t.Span) (s m r : Input) → At k.ResultKeyword span s m → (v.result_ty inner).Is x s r → (v.ty_level inner).Is x s r
  unfolding v.composed_ty same_token
  result_composed x span s m r at h = composed_by x s r k.ResultKeyword span m at refl
      (false, s, (sym (sees_at k.ResultKeyword k.TupleKeyword span s m at), refl), inr (refl, (false, s, (sym (sees_at k.ResultKeyword k.ListKeyword span s m at), refl), inr (refl, (false, s, (sym (sees_at k.ResultKeyword k.OptionKeyword span s m at), refl), inr (refl, (true, s, (sym (seen k.ResultKeyword span s m at), refl), inl (refl, h))))))))

  borrow_composed : (x : t.Ty) (span : t.Span) (s m r : Input) → At k.BorrowKeyword span s m → v.borrow_ty.Is x s r → (v.ty_level inner).Is x s r
  unfolding v.composed_ty same_token
  borrow_composed x span s m r at h = composed_by x s r k.BorrowKeyword span m at refl
      (false, s, (sym (sees_at k.BorrowKeyword k.TupleKeyword span s m at), refl), inr (refl, (false, s, (sym (sees_at k.BorrowKeyword k.ListKeyword span s m at), refl), inr (refl, (false, s, (sym (sees_at k.BorrowKeyword k.OptionKeyword span s m at), refl), inr (refl, (false, s, (sym (sees_at k.BorrowKeyword k.ResultKeyword span s m at), refl), inr (refl, (true, s, (sym (seen k.BorrowKeyword span s m at), refl), inl (refl, h))))))))))

  stream_composed : (x : t.Ty) (span : t.Span) (s m r : Input) → At k.StreamKeyword span s m → (v.stream_ty inner).Is x s r → (v.ty_level inner).Is x s r
  unfolding v.composed_ty same_token
  stream_composed x span s m r at h = composed_by x s r k.StreamKeyword span m at refl
      (false, s, (sym (sees_at k.StreamKeyword k.TupleKeyword span s m at), refl), inr (refl, (false, s, (sym (sees_at k.StreamKeyword k.ListKeyword span s m at), refl), inr (refl, (false, s, (sym (sees_at k.StreamKeyword k.OptionKeyword span s m at), refl), inr (refl, (false, s, (sym (sees_at k.StreamKeyword k.ResultKeyword span s m at), refl), inr (refl, (false, s, (sym (sees_at k.StreamKeyword k.BorrowKeyword span s m at), refl), inr (refl, (true, s, (sym (seen k.StreamKeyword span s m at), refl), inl (refl, h))))))))))))

  future_composed : (x : t.Ty) (span : t.Span) (s m r : Input) → At k.FutureKeyword span s m → (v.future_ty inner).Is x s r → (v.ty_level inner).Is x s r
  unfolding v.composed_ty same_token
  future_composed x span s m r at h = composed_by x s r k.FutureKeyword span m at refl
      (false, s, (sym (sees_at k.FutureKeyword k.TupleKeyword span s m at), refl), inr (refl, (false, s, (sym (sees_at k.FutureKeyword k.ListKeyword span s m at), refl), inr (refl, (false, s, (sym (sees_at k.FutureKeyword k.OptionKeyword span s m at), refl), inr (refl, (false, s, (sym (sees_at k.FutureKeyword k.ResultKeyword span s m at), refl), inr (refl, (false, s, (sym (sees_at k.FutureKeyword k.BorrowKeyword span s m at), refl), inr (refl, (false, s, (sym (sees_at k.FutureKeyword k.StreamKeyword span s m at), refl), inr (refl, (true, s, (sym (seen k.FutureKeyword span s m at), refl), inl (refl, h))))))))))))))

  ident_composed : (x : t.Ty) (span : t.Span) (s m r : Input) → At k.Ident span s m → (n.ident >>= (λ id. pure (t.Ty.ident id))).Is x s r → (v.ty_level inner).Is x s r
  unfolding v.composed_ty same_token
  ident_composed x span s m r at h = composed_by x s r k.Ident span m at refl
      (false, s, (sym (sees_at k.Ident k.TupleKeyword span s m at), refl), inr (refl, (false, s, (sym (sees_at k.Ident k.ListKeyword span s m at), refl), inr (refl, (false, s, (sym (sees_at k.Ident k.OptionKeyword span s m at), refl), inr (refl, (false, s, (sym (sees_at k.Ident k.ResultKeyword span s m at), refl), inr (refl, (false, s, (sym (sees_at k.Ident k.BorrowKeyword span s m at), refl), inr (refl, (false, s, (sym (sees_at k.Ident k.StreamKeyword span s m at), refl), inr (refl, (false, s, (sym (sees_at k.Ident k.FutureKeyword span s m at), refl), inr (refl, (true, s, (sym (seen k.Ident span s m at), refl), inl (refl, h))))))))))))))))

  keyword_back : (l : Token) (make : SourceSpan → t.Ty) (span : t.Span) (s r : Input) → v.keyword_type l ≡ Some make → At l span s r → (v.ty_level inner).Is (make span) s r
  unfolding v.ty_level v.keyword_type_or
  keyword_back l make span s r e at =
      let P : Option (SourceSpan → t.Ty) → Type 0 = λ (o : Option (SourceSpan → t.Ty)). (v.keyword_or o l (v.composed_ty inner)).Is (make span) s r in
      (Some l, s, (sym (next_at l span s r at), refl), subst P (sym e) (span, r, at, (refl, refl)))

  level_back : (s : Input) (x : t.Ty) (r : Input) → levels x ≤ suc depth → Ty x s r → Ends k.OpenAngle r → (v.ty_level inner).Is x s r
  unfolding v.result_ty v.stream_ty v.future_ty
  level_back s (t.Ty.u8 span) r few h e = keyword_back k.U8Keyword t.Ty.u8 span s r refl h
  level_back s (t.Ty.s8 span) r few h e = keyword_back k.S8Keyword t.Ty.s8 span s r refl h
  level_back s (t.Ty.u16 span) r few h e = keyword_back k.U16Keyword t.Ty.u16 span s r refl h
  level_back s (t.Ty.s16 span) r few h e = keyword_back k.S16Keyword t.Ty.s16 span s r refl h
  level_back s (t.Ty.u32 span) r few h e = keyword_back k.U32Keyword t.Ty.u32 span s r refl h
  level_back s (t.Ty.s32 span) r few h e = keyword_back k.S32Keyword t.Ty.s32 span s r refl h
  level_back s (t.Ty.u64 span) r few h e = keyword_back k.U64Keyword t.Ty.u64 span s r refl h
  level_back s (t.Ty.s64 span) r few h e = keyword_back k.S64Keyword t.Ty.s64 span s r refl h
  level_back s (t.Ty.f32 span) r few h e = keyword_back k.F32Keyword t.Ty.f32 span s r refl h
  level_back s (t.Ty.f64 span) r few h e = keyword_back k.F64Keyword t.Ty.f64 span s r refl h
  level_back s (t.Ty.char span) r few h e = keyword_back k.CharKeyword t.Ty.char span s r refl h
  level_back s (t.Ty.bool span) r few h e = keyword_back k.BoolKeyword t.Ty.bool span s r refl h
  level_back s (t.Ty.string span) r few h e = keyword_back k.StringKeyword t.Ty.string span s r refl h
  level_back s (t.Ty.error_context span) r few h e = keyword_back k.ErrorContextKeyword t.Ty.error_context span s r refl h
  level_back s (t.Ty.tuple tys span) r few h e = tuple_composed _ h.0 s h.3.0 r h.3.1 (tuple_back tys span s r (omega (arith, few)) h)
  level_back s (t.Ty.list ty span) r few h e = list_composed _ h.0 s h.3.0 r h.3.1 (list_back ty span s r (omega (arith, few)) h)
  level_back s (t.Ty.option ty span) r few h e = option_composed _ h.0 s h.3.0 r h.3.1 (option_back ty span s r (omega (arith, few)) h)
  level_back s (t.Ty.result ok err span) r few h e =
      let a = le-max_left (levels_in ok) (levels_in err) in
      let b = le-max_right (levels_in ok) (levels_in err) in
      let is = result_back ok err span s r (omega (arith, a, few)) (omega (arith, b, few)) h e in
      result_composed _ is.0 s is.1 r is.2 is
  level_back s (t.Ty.borrow id span) r few h e = borrow_composed _ h.0 s h.3.0 r h.3.1 (borrow_back id span s r h)
  level_back s (t.Ty.stream o span) r few h e = let is = stream_back o span s r (omega (arith, few)) h e in stream_composed _ is.0 s is.1 r is.2 is
  level_back s (t.Ty.future o span) r few h e = let is = future_back o span s r (omega (arith, few)) h e in future_composed _ is.0 s is.1 r is.2 is
  level_back s (t.Ty.ident id) r few h e = ident_composed _ id.span s r r h.0 ((id, r, ident_back s id r h, (refl, refl)))

some_levels : (x : t.Ty) → levels x ≤ 0 → ⊥
some_levels (t.Ty.u8 span) few = absurd (omega (arith, few))
some_levels _ few = absurd (omega (arith, few))

pub ty_back : (depth : ℕ) (s : Input) (x : t.Ty) (r : Input) → levels x ≤ depth → Ty x s r → Ends k.OpenAngle r → (v.ty depth).Is x s r
unfolding v.ty
ty_back zero s x r few h e = absurd (some_levels x few)
ty_back (suc depth) s x r few h e = level_back depth (v.ty depth) (ty_back depth) (ty_begins depth) s x r few h e

pub value_type_back : (s : Input) (x : t.Ty) (r : Input) → levels x ≤ 128 → Ty x s r → Ends k.OpenAngle r → v.value_type.Is x s r
unfolding v.value_type
value_type_back s x r few h e = ty_back 128 s x r few h e
