-- What has the plain form of a type is read, or refused as nested too deep.
use Rattle.std.proofs.Common.{◌≡◌, ℕ, zero, suc, inl, inr, true, ◌∷◌, Option, Some, None, refl, ap, subst, sym, ◌∙◌}
use Rattle.wac_parser_lexer.specs.declared.span.SourceSpan.{SourceSpan}
use Rattle.wac_parser_lexer.specs.declared.token.Token.{Token}
use Rattle.wac_parser_lexer.specs.declared.token.Token.TheVariants as k
use Rattle.wac_parser_lexer.specs.Items.{Input}
use Rattle.wac_parser_tree.specs.Trees as t
use Rattle.wac_parser_grammar.specs.Ahead.{same_token, sees_any}
use Rattle.wac_parser_grammar.specs.Rules.{Rule, list_of}
use Rattle.wac_parser_grammar.specs.ValueTypes as v
use Rattle.wac_parser_grammar.specs.Forms.{At, Ty, SomeTys, FurtherTys, Omitted, Second, Payload, Further}
use Rattle.wac_parser_grammar.specs.FormDepths.{Ends}
use Rattle.wac_parser_grammar.proofs.Exact.{Exact, Takes}
use Rattle.wac_parser_grammar.proofs.TypeLaws.{ty_exact, ty_takes}
use Rattle.wac_parser_grammar.proofs.TableBack.{any_at, ends_at, untys, tys_again, second_stop}
use Rattle.wac_parser_grammar.proofs.TableBackChoices.{other}
use Rattle.wac_parser.proofs.OrDeep.{Meets, met, go, made, looked, at, as_one, Next, next, opened, closed, come, pass, past, any_here, no_room, ident_met}
use Rattle.wac_parser.proofs.OrDeepLists.{list_met}

-- a type begins with one of its tokens
pub ty_begun : (s : Input) (x : t.Ty) (r : Input) → Ty x s r → sees_any v.type_first s ≡ true
unfolding same_token
ty_begun s (t.Ty.u8 span) r h = any_at k.U8Keyword v.type_first span s r h
ty_begun s (t.Ty.s8 span) r h = any_at k.S8Keyword v.type_first span s r h
ty_begun s (t.Ty.u16 span) r h = any_at k.U16Keyword v.type_first span s r h
ty_begun s (t.Ty.s16 span) r h = any_at k.S16Keyword v.type_first span s r h
ty_begun s (t.Ty.u32 span) r h = any_at k.U32Keyword v.type_first span s r h
ty_begun s (t.Ty.s32 span) r h = any_at k.S32Keyword v.type_first span s r h
ty_begun s (t.Ty.u64 span) r h = any_at k.U64Keyword v.type_first span s r h
ty_begun s (t.Ty.s64 span) r h = any_at k.S64Keyword v.type_first span s r h
ty_begun s (t.Ty.f32 span) r h = any_at k.F32Keyword v.type_first span s r h
ty_begun s (t.Ty.f64 span) r h = any_at k.F64Keyword v.type_first span s r h
ty_begun s (t.Ty.char span) r h = any_at k.CharKeyword v.type_first span s r h
ty_begun s (t.Ty.bool span) r h = any_at k.BoolKeyword v.type_first span s r h
ty_begun s (t.Ty.string span) r h = any_at k.StringKeyword v.type_first span s r h
ty_begun s (t.Ty.error_context span) r h = any_at k.ErrorContextKeyword v.type_first span s r h
ty_begun s (t.Ty.tuple tys span) r h = any_at k.TupleKeyword v.type_first h.0 s h.3.0 h.3.1
ty_begun s (t.Ty.list ty span) r h = any_at k.ListKeyword v.type_first h.0 s h.3.0 h.3.1
ty_begun s (t.Ty.option ty span) r h = any_at k.OptionKeyword v.type_first h.0 s h.3.0 h.3.1
ty_begun s (t.Ty.result ok err span) r h = elim h [
  | inl w ↦ any_at k.ResultKeyword v.type_first span s r w.2
  | inr w ↦ any_at k.ResultKeyword v.type_first w.0 s w.3.0 w.3.1
]
ty_begun s (t.Ty.borrow id span) r h = any_at k.BorrowKeyword v.type_first h.0 s h.3.0 h.3.1
ty_begun s (t.Ty.stream t.MaybeTy.no_ty span) r h = any_at k.StreamKeyword v.type_first span s r h
ty_begun s (t.Ty.stream (t.MaybeTy.some_ty ty) span) r h = any_at k.StreamKeyword v.type_first h.0 s h.3.0 h.3.1
ty_begun s (t.Ty.future t.MaybeTy.no_ty span) r h = any_at k.FutureKeyword v.type_first span s r h
ty_begun s (t.Ty.future (t.MaybeTy.some_ty ty) span) r h = any_at k.FutureKeyword v.type_first h.0 s h.3.0 h.3.1
ty_begun s (t.Ty.ident id) r h = any_at k.Ident v.type_first id.span s r h.0

-- ---- several

further_listed : (ts : t.Tys) (s r : Input) → FurtherTys ts s r → Further Ty (untys ts) s r
unfolding untys
further_listed t.Tys.no_more s r h = h
further_listed (t.Tys.more ty tys) s r h = (h.0, h.1, (h.2.0, h.2.1, further_listed tys h.2.0 r h.2.2))

some_begun : (ts : t.Tys) (s r : Input) → SomeTys ts s r → sees_any v.type_first s ≡ true
some_begun t.Tys.no_more s r h = absurd h
some_begun (t.Tys.more ty tys) s r h = ty_begun s ty h.0 h.1

close_ends : (span : t.Span) (s m : Input) → At k.CloseAngle span s m → Ends k.OpenAngle s
unfolding same_token
close_ends span s m at = ends_at k.CloseAngle k.OpenAngle span s m refl at

pub comma_ends : (span : t.Span) (s m : Input) → At k.Comma span s m → Ends k.OpenAngle s
unfolding same_token
comma_ends span s m at = ends_at k.Comma k.OpenAngle span s m refl at

borrow_met : (id : t.Ident) (span : t.Span) (s r : Input) → Ty (t.Ty.borrow id span) s r → Meets v.borrow_ty s (t.Ty.borrow id span) r
unfolding v.borrow_ty
borrow_met id span s r h =
    let i = h.3.2.1 in
    go _ (at h.3.1) (go _ (at i.1.1) (go _ (ident_met i.2) (go _ (at h.3.2.2) (made (ap (t.Ty.borrow id) h.2)))))

result_next : (ok err : t.MaybeTy) (span : t.Span) (s r : Input) → Ty (t.Ty.result ok err span) s r → Next k.ResultKeyword s
result_next ok err span s r h = elim h [ inl w ↦ next w.2 | inr w ↦ next w.3.1 ]

-- ---- one level

module _ (inner : Rule t.Ty) (meets : (s : Input) (x : t.Ty) (r : Input) → Ty x s r → Ends k.OpenAngle r → Meets inner s x r) (exact : Exact inner) (takes : Takes inner) where
  some_met : (ts : t.Tys) (s r e : Input) (span : t.Span) → SomeTys ts s r → At k.CloseAngle span r e → Meets (list_of inner v.type_first k.CloseAngle true) s (untys ts) r
  unfolding untys same_token
  some_met t.Tys.no_more s r e span h at = absurd h
  some_met (t.Tys.more ty tys) s r e span h at =
      list_met inner Ty (Ends k.OpenAngle) v.type_first k.CloseAngle meets ty_begun exact takes refl comma_ends close_ends refl
      (ty ∷ untys tys) s r e span (h.0, h.1, further_listed tys h.0 r h.2) at

  tuple_met : (ts : t.Tys) (span : t.Span) (s r : Input) → Ty (t.Ty.tuple ts span) s r → Meets (v.tuple_ty inner) s (t.Ty.tuple ts span) r
  unfolding v.tuple_ty
  tuple_met ts span s r h =
      let i = h.3.2.1 in
      let same = ap (t.Ty.tuple ts) h.2 ∙ ap (λ (z : t.Tys). t.Ty.tuple z (v.through h.0 h.1)) (sym (tys_again ts)) in
      go _ (at h.3.1) (go _ (at i.1.1) (go _ (any_here _ _ (some_begun ts i.0 h.3.2.0 i.2) (some_met ts i.0 h.3.2.0 r h.1 i.2 h.3.2.2)) (go _ (at h.3.2.2) (made same))))

  list_ty_met : (ty : t.Ty) (span : t.Span) (s r : Input) → Ty (t.Ty.list ty span) s r → Meets (v.list_ty inner) s (t.Ty.list ty span) r
  unfolding v.list_ty
  list_ty_met ty span s r h =
      let i = h.3.2.1 in
      go _ (at h.3.1) (go _ (at i.1.1) (go _ (meets i.0 ty h.3.2.0 i.2 (close_ends h.1 h.3.2.0 r h.3.2.2)) (go _ (at h.3.2.2) (made (ap (t.Ty.list ty) h.2)))))

  option_met : (ty : t.Ty) (span : t.Span) (s r : Input) → Ty (t.Ty.option ty span) s r → Meets (v.option_ty inner) s (t.Ty.option ty span) r
  unfolding v.option_ty
  option_met ty span s r h =
      let i = h.3.2.1 in
      go _ (at h.3.1) (go _ (at i.1.1) (go _ (meets i.0 ty h.3.2.0 i.2 (close_ends h.1 h.3.2.0 r h.3.2.2)) (go _ (at h.3.2.2) (made (ap (t.Ty.option ty) h.2)))))

  omitted_met : (o : t.MaybeTy) (s r : Input) → Omitted o s r → Ends k.OpenAngle r → Meets (v.omitted_or inner) s o r
  unfolding v.omitted_or same_token
  omitted_met t.MaybeTy.no_ty s r h e = come _ (next h.1) (go _ (at h.1) (met refl))
  omitted_met (t.MaybeTy.some_ty ty) s r h e =
      let begun = ty_begun s ty r h in
      past k.Underscore _ (other k.Underscore v.type_first s refl begun) (any_here _ _ begun (as_one t.some_ty (meets s ty r h e)))

  second_met : (o : t.MaybeTy) (s r e : Input) (span : t.Span) → Second o s r → At k.CloseAngle span r e → Meets (v.second_part inner) s o r
  unfolding v.second_part same_token
  second_met t.MaybeTy.no_ty s r e span h at = elim h [
    | inl w ↦ opened _ w.1.1 ((omitted_met t.MaybeTy.no_ty w.0 r w.2 (close_ends span r e at)))
    | inr w ↦ (let P : Input → Type 0 = λ (i : Input). Ends k.Comma i in
        let Q : Input → Type 0 = λ (i : Input). Meets (v.second_part inner) i t.MaybeTy.no_ty r in
        subst Q w (closed k.Comma _ (ends_at k.CloseAngle k.Comma span r e refl at) (met refl)))
  ]
  second_met (t.MaybeTy.some_ty ty) s r e span h at = opened _ h.1.1 ((omitted_met (t.MaybeTy.some_ty ty) h.0 r h.2 (close_ends span r e at)))

  result_met : (ok err : t.MaybeTy) (span : t.Span) (s r : Input) → Ty (t.Ty.result ok err span) s r → Ends k.OpenAngle r → Meets (v.result_ty inner) s (t.Ty.result ok err span) r
  unfolding v.result_ty v.result_parts
  result_met ok err span s r h e = elim h [
    | inl w ↦ go _ (at w.2) (closed k.OpenAngle _ e ((made (ap (λ (z : t.MaybeTy). t.Ty.result z err span) w.0 ∙ ap (λ (z : t.MaybeTy). t.Ty.result t.MaybeTy.no_ty z span) w.1))))
    | inr w ↦ (let i = w.3.2.1 in
        go _ (at w.3.1) (opened _ i.1.1 ((go _ (omitted_met ok i.0 i.2.0 i.2.1 (second_stop err i.2.0 w.3.2.0 r w.1 i.2.2 w.3.2.2))
        (go _ (second_met err i.2.0 w.3.2.0 r w.1 i.2.2 w.3.2.2) (go _ (at w.3.2.2) (made (ap (t.Ty.result ok err) w.2))))))))
  ]

  payload_met : (o : t.MaybeTy) (l : Token) (span : t.Span) (s r : Input) → Payload l o span s r → Ends k.OpenAngle r → (start : t.Span) × (m : Input) × At l start s m × Meets (v.payload inner start) m (o, span) r
  unfolding v.payload
  payload_met t.MaybeTy.no_ty l span s r h e = (span, r, h, closed k.OpenAngle _ e ((met refl)))
  payload_met (t.MaybeTy.some_ty ty) l span s r h e =
      let i = h.3.2.1 in (
        h.0,
        h.3.0,
        h.3.1,
        opened _ i.1.1 ((go _ (meets i.0 ty h.3.2.0 i.2 (close_ends h.1 h.3.2.0 r h.3.2.2)) (go _ (at h.3.2.2)
            (made (ap (λ (z : t.Span). (t.MaybeTy.some_ty ty, z)) h.2))))),
      )

  composed_by : (x : t.Ty) (s r : Input) (l : Token) → Next l s → v.keyword_type l ≡ None → Meets (v.composed_ty inner) s x r → Meets (v.ty_level inner) s x r
  unfolding v.ty_level v.keyword_type_or
  composed_by x s r l nx e h =
      let P : Option (SourceSpan → t.Ty) → Type 0 = λ (o : Option (SourceSpan → t.Ty)). Meets (v.keyword_or o l (v.composed_ty inner)) s x r in
      looked (λ o. v.keyword_at o (v.composed_ty inner)) (sym nx.is) (subst P (sym e) h)

  keyword_met : (l : Token) (make : SourceSpan → t.Ty) (span : t.Span) (s r : Input) → v.keyword_type l ≡ Some make → At l span s r → Meets (v.ty_level inner) s (make span) r
  unfolding v.ty_level v.keyword_type_or
  keyword_met l make span s r e h =
      let P : Option (SourceSpan → t.Ty) → Type 0 = λ (o : Option (SourceSpan → t.Ty)). Meets (v.keyword_or o l (v.composed_ty inner)) s (make span) r in
      let nx = next {k = l} {span = span} {s = s} {m = r} h in
      looked (λ o. v.keyword_at o (v.composed_ty inner)) (sym nx.is) (subst P (sym e) (as_one make (at h)))

  level_met : (s : Input) (x : t.Ty) (r : Input) → Ty x s r → Ends k.OpenAngle r → Meets (v.ty_level inner) s x r
  unfolding v.composed_ty v.stream_ty v.future_ty same_token
  level_met s (t.Ty.u8 span) r h e = keyword_met k.U8Keyword t.Ty.u8 span s r refl h
  level_met s (t.Ty.s8 span) r h e = keyword_met k.S8Keyword t.Ty.s8 span s r refl h
  level_met s (t.Ty.u16 span) r h e = keyword_met k.U16Keyword t.Ty.u16 span s r refl h
  level_met s (t.Ty.s16 span) r h e = keyword_met k.S16Keyword t.Ty.s16 span s r refl h
  level_met s (t.Ty.u32 span) r h e = keyword_met k.U32Keyword t.Ty.u32 span s r refl h
  level_met s (t.Ty.s32 span) r h e = keyword_met k.S32Keyword t.Ty.s32 span s r refl h
  level_met s (t.Ty.u64 span) r h e = keyword_met k.U64Keyword t.Ty.u64 span s r refl h
  level_met s (t.Ty.s64 span) r h e = keyword_met k.S64Keyword t.Ty.s64 span s r refl h
  level_met s (t.Ty.f32 span) r h e = keyword_met k.F32Keyword t.Ty.f32 span s r refl h
  level_met s (t.Ty.f64 span) r h e = keyword_met k.F64Keyword t.Ty.f64 span s r refl h
  level_met s (t.Ty.char span) r h e = keyword_met k.CharKeyword t.Ty.char span s r refl h
  level_met s (t.Ty.bool span) r h e = keyword_met k.BoolKeyword t.Ty.bool span s r refl h
  level_met s (t.Ty.string span) r h e = keyword_met k.StringKeyword t.Ty.string span s r refl h
  level_met s (t.Ty.error_context span) r h e = keyword_met k.ErrorContextKeyword t.Ty.error_context span s r refl h
  level_met s (t.Ty.tuple tys span) r h e = let nx = next h.3.1 in composed_by _ s r k.TupleKeyword nx refl (come _ nx (tuple_met tys span s r h))
  level_met s (t.Ty.list ty span) r h e = let nx = next h.3.1 in composed_by _ s r k.ListKeyword nx refl (pass _ _ nx refl (come _ nx (list_ty_met ty span s r h)))
  level_met s (t.Ty.option ty span) r h e = let nx = next h.3.1 in composed_by _ s r k.OptionKeyword nx refl (pass _ _ nx refl (pass _ _ nx refl (come _ nx (option_met ty span s r h))))
  level_met s (t.Ty.result ok err span) r h e =
      let nx = result_next ok err span s r h in
      composed_by _ s r k.ResultKeyword nx refl (pass _ _ nx refl (pass _ _ nx refl (pass _ _ nx refl (come _ nx (result_met ok err span s r h e)))))
  level_met s (t.Ty.borrow id span) r h e =
      let nx = next h.3.1 in
      composed_by _ s r k.BorrowKeyword nx refl (pass _ _ nx refl (pass _ _ nx refl (pass _ _ nx refl (pass _ _ nx refl (come _ nx (borrow_met id span s r h))))))
  level_met s (t.Ty.stream o span) r h e =
      let p = payload_met o k.StreamKeyword span s r h e in
      let nx = next p.2 in
      composed_by _ s r k.StreamKeyword nx refl (pass _ _ nx refl (pass _ _ nx refl (pass _ _ nx refl (pass _ _ nx refl (pass _ _ nx refl (come _ nx (go _ (at p.2) (go _ p.3 (met refl)))))))))
  level_met s (t.Ty.future o span) r h e =
      let p = payload_met o k.FutureKeyword span s r h e in
      let nx = next p.2 in
      composed_by _ s r k.FutureKeyword nx refl (pass _ _ nx refl (pass _ _ nx refl (pass _ _ nx refl (pass _ _ nx refl (pass _ _ nx refl (pass _ _ nx refl (come _ nx (go _ (at p.2) (go _ p.3 (met refl))))))))))
  level_met s (t.Ty.ident id) r h e =
      let nx = next h.0 in
      composed_by _ s r k.Ident nx refl
      (pass _ _ nx refl (pass _ _ nx refl (pass _ _ nx refl (pass _ _ nx refl (pass _ _ nx refl (pass _ _ nx refl (pass _ _ nx refl (come _ nx (as_one t.Ty.ident (ident_met h))))))))))

pub ty_met : (depth : ℕ) (s : Input) (x : t.Ty) (r : Input) → Ty x s r → Ends k.OpenAngle r → Meets (v.ty depth) s x r
unfolding v.ty
ty_met zero s x r h e = no_room v.type_first (ty_begun s x r h)
ty_met (suc depth) s x r h e = level_met (v.ty depth) (ty_met depth) (ty_exact depth) (ty_takes depth) s x r h e

pub value_type_met : (s : Input) (x : t.Ty) (r : Input) → Ty x s r → Ends k.OpenAngle r → Meets v.value_type s x r
unfolding v.value_type
value_type_met s x r h e = ty_met 128 s x r h e
