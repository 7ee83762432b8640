-- The rules of names and types accept only their plain forms.
use Rattle.std.proofs.Common.{◌≡◌, ℕ, zero, suc, inl, inr, Bool, true, List, [], ◌∷◌, Option, Some, None, Result, Ok, Err, refl, ap, subst, sym, ◌∙◌, cond, false}
use Rattle.std.proofs.lemmas.Bool.Decides.{not_from_Decides}
use Rattle.semver.specs.Parse.{version_parts}
use Rattle.semver.specs.declared.error.Error.{Error}
use Rattle.wac_parser_lexer.specs.declared.span.SourceSpan.{SourceSpan}
use Rattle.wac_parser_lexer.specs.declared.token.Token.{Token}
use Rattle.wac_parser_lexer.specs.declared.token.Token.TheVariants as k
use Rattle.wac_parser_lexer.specs.Pieces.{text_at}
use Rattle.wac_parser_lexer.specs.Items.{Input}
use Rattle.wac_parser_tree.specs.Trees as t
use Rattle.wac_parser_grammar.specs.Ahead.{same_token, none_of, sees_any}
use Rattle.wac_parser_grammar.specs.Rules.{Rule, begin_any, refuse, list_of, IsListOf}
use Rattle.wac_parser_grammar.specs.Tracks.{track_test, track_in}
use Rattle.wac_parser_grammar.specs.Names as n
use Rattle.wac_parser_grammar.specs.ValueTypes as v
use Rattle.wac_parser_grammar.specs.Forms.{At, Word, Marked, Further, Separated, Docs, Ident, Quoted, Version, VersionOrTrack, PackageName, NewPackage, PackagePath, Ty, SomeTys, FurtherTys, Omitted, Second, Payload, NamedType, Results, Parameters, FuncType, FuncTypeRef}
use Rattle.wac_parser_grammar.proofs.TrackTests.{track_tells}
use Rattle.wac_parser_grammar.proofs.Exact.{Begins}
use Rattle.wac_parser_grammar.proofs.TypeLaws.{ty_begins, named_type_begins}
use Rattle.wac_parser_grammar.proofs.TableLaws.{Within, refuse_within, made, begin_within, begin_any_within, word_within, optional_within, moved, landed, list_within, apart}

-- ---- names

source_of : (k : Token) (span : t.Span) (s m : Input) → At k span s m → m.source ≡ s.source
source_of k span s m h = ap (λ (i : Input). i.source) h.3

pub docs_within : Within n.docs Docs
unfolding n.docs
docs_within = record { within = λ s x r h. h }

pub ident_within : Within n.ident Ident
unfolding n.ident
ident_within = record {
  within = λ s x r h. rw (h.3.3.0, h.3.3.1 ∙ h.3.2.1) (h.2, ap n.strip_percent (h.3.2.0 ∙ ap (λ (z : List ℕ). text_at z h.0) (source_of k.Ident h.0 s h.1 h.2)));
}

pub string_within : Within n.string Quoted
unfolding n.string
string_within = record {
  within = λ s x r h. rw (h.3.3.0, h.3.3.1 ∙ h.3.2.1) (h.2, ap n.strip_quotes (h.3.2.0 ∙ ap (λ (z : List ℕ). text_at z h.0) (source_of k.String h.0 s h.1 h.2)));
}

version_read : (o : Result t.Version Error) (text : List ℕ) (span : SourceSpan) (s : Input) (x : Option t.Version) (r : Input)
    → (n.version_read o text span).Is x s r → version_parts text ≡ o → Version (Some text) x × (r ≡ s)
version_read (Ok p) text span s x r h e = ((p, e, h.0), h.1)
version_read (Err e) text span s x r h f = absurd h

version_by : (o : Option (List ℕ)) (span : SourceSpan) (s : Input) (x : Option t.Version) (r : Input) → (n.version_by o span).Is x s r → Version o x × (r ≡ s)
version_by None span s x r h = (h.0, h.1)
version_by (Some text) span s x r h = version_read (version_parts text) text span s x r h refl

version_of : (name : List ℕ) (span : SourceSpan) (s : Input) (x : Option t.Version) (r : Input) → (n.version_of name span).Is x s r → Version (n.behind_first 64 name) x × (r ≡ s)
unfolding n.version_of
version_of name span s x r h = version_by (n.behind_first 64 name) span s x r h

pub package_name_within : Within n.package_name PackageName
unfolding n.package_name
package_name_within = record {
  within = λ s x r h.
      let v = version_of h.3.0 h.0 h.3.1 h.3.3.0 h.3.3.1 h.3.3.2 in
      let text : h.3.0 ≡ text_at s.source h.0 = h.3.2.0 ∙ ap (λ (z : List ℕ). text_at z h.0) (source_of k.PackageName h.0 s h.1 h.2) in
      rw (h.3.3.3.0, h.3.3.3.1 ∙ v.1 ∙ h.3.2.1) (h.2, text, refl, v.0);
}

-- what stands behind the `@` of a name is a track that is taken, or none, and what is read of it
beside : (o : Option (List ℕ)) (span : SourceSpan) (s : Input) (x : Option t.Version) (r : Input)
    → (n.version_beside (track_in o) o span).Is x s r → VersionOrTrack o x (track_in o) × (r ≡ s)
beside None span s x r h = ((h.0, tt), h.1)
beside (Some text) span s x r h = by (track_test text) refl h
  where
    by : (b : Bool) → track_test text ≡ b → (n.version_beside (cond b (Some text) None) (Some text) span).Is x s r
        → VersionOrTrack (Some text) x (cond b (Some text) None) × (r ≡ s)
    by true q g = ((refl, (track_tells text).0 q, g.0), g.1)
    by false q g = let v = version_by (Some text) span s x r g in ((v.0, not_from_Decides (track_test text) (track_tells text) q), v.1)

pub new_package_within : Within n.new_package NewPackage
unfolding n.new_package
new_package_within = record {
  within = λ s x r h.
      let v = beside (n.behind_first 64 h.3.0) h.0 h.3.1 h.3.3.0 h.3.3.1 h.3.3.2 in
      let text : h.3.0 ≡ text_at s.source h.0 = h.3.2.0 ∙ ap (λ (z : List ℕ). text_at z h.0) (source_of k.PackageName h.0 s h.1 h.2) in
      rw (h.3.3.3.0, h.3.3.3.1 ∙ v.1 ∙ h.3.2.1) (h.2, text, refl, v.0);
}

pub package_path_within : Within n.package_path PackagePath
unfolding n.package_path
package_path_within = record {
  within = λ s x r h.
      let v = version_of h.3.0 h.0 h.3.1 h.3.3.0 h.3.3.1 h.3.3.2 in
      let text : h.3.0 ≡ text_at s.source h.0 = h.3.2.0 ∙ ap (λ (z : List ℕ). text_at z h.0) (source_of k.PackagePath h.0 s h.1 h.2) in
      rw (h.3.3.3.0, h.3.3.3.1 ∙ v.1 ∙ h.3.2.1) (h.2, text, refl, refl, v.0);
}

-- ---- types

Keeps : Option (SourceSpan → t.Ty) → Token → Type 0
Keeps None k = Unit {0}
Keeps (Some make) k = (span : t.Span) (s r : Input) → At k span s r → Ty (make span) s r

keyword_keeps : (k : Token) → Keeps (v.keyword_type k) k
unfolding Keeps
keyword_keeps k.U8Keyword = λ span s r h. h
keyword_keeps k.S8Keyword = λ span s r h. h
keyword_keeps k.U16Keyword = λ span s r h. h
keyword_keeps k.S16Keyword = λ span s r h. h
keyword_keeps k.U32Keyword = λ span s r h. h
keyword_keeps k.S32Keyword = λ span s r h. h
keyword_keeps k.U64Keyword = λ span s r h. h
keyword_keeps k.S64Keyword = λ span s r h. h
keyword_keeps k.F32Keyword = λ span s r h. h
keyword_keeps k.F64Keyword = λ span s r h. h
keyword_keeps k.CharKeyword = λ span s r h. h
keyword_keeps k.BoolKeyword = λ span s r h. h
keyword_keeps k.StringKeyword = λ span s r h. h
keyword_keeps k.ErrorContextKeyword = λ span s r h. h
keyword_keeps _ = tt

further_tys : (xs : List t.Ty) (s r : Input) → Further Ty xs s r → FurtherTys (t.tys xs) s r
further_tys [] s r h = h
further_tys (x ∷ xs) s r h = (h.0, h.1, (h.2.0, h.2.1, further_tys xs h.2.0 r h.2.2))

some_tys : (xs : List t.Ty) (s r : Input) → (xs ≡ [] → ⊥) → Separated Ty xs s r → SomeTys (t.tys xs) s r
some_tys [] s r some h = absurd (some refl)
some_tys (x ∷ xs) s r some h = (h.0, h.1, further_tys xs h.0 r h.2)

pub borrow_ty_within : Within v.borrow_ty Ty
unfolding v.borrow_ty
borrow_ty_within = record { within = λ s x r h. rw (h.3.3.3.3.0, h.3.3.3.3.1) (h.0, h.3.3.3.0, refl, (h.1, h.2, (h.3.3.1, (h.3.1, (h.3.0, h.3.2), (ident_within).within h.3.1 h.3.3.0 h.3.3.1 h.3.3.2), h.3.3.3.2))) }

module _ (inner : Rule t.Ty) (ty : Within inner Ty) (begins : Begins v.type_first inner) where
  some_listed : (xs : List t.Ty) (s r : Input) → IsListOf inner.Is k.CloseAngle true xs s r → sees_any v.type_first s ≡ true → xs ≡ [] → ⊥
  unfolding same_token
  some_listed [] s r h e f = apart k.CloseAngle v.type_first s refl h.0 e
  some_listed (x ∷ xs) s r h e f = cc

  tuple_types : (xs : List t.Ty) (s r : Input) → (begin_any v.type_first (list_of inner v.type_first k.CloseAngle true) (refuse (none_of v.type_first))).Is xs s r → SomeTys (t.tys xs) s r
  tuple_types xs s r h = elim h.3 [
    | inl w ↦ moved (SomeTys (t.tys xs)) h.1 s r h.2.1
        (some_tys xs h.1 r (some_listed xs h.1 r w.1 (ap (sees_any v.type_first) h.2.1 ∙ sym h.2.0 ∙ w.0))
        ((list_within inner Ty ty v.type_first k.CloseAngle begins).within h.1 xs r w.1))
    | inr w ↦ absurd w.1
  ]

  tuple_ty_within : Within (v.tuple_ty inner) Ty
  unfolding v.tuple_ty
  tuple_ty_within = record { within = λ s x r h. rw (h.3.3.3.3.0, h.3.3.3.3.1) (h.0, h.3.3.3.0, refl, (h.1, h.2, (h.3.3.1, (h.3.1, (h.3.0, h.3.2), tuple_types h.3.3.0 h.3.1 h.3.3.1 h.3.3.2), h.3.3.3.2))) }

  list_ty_within : Within (v.list_ty inner) Ty
  unfolding v.list_ty
  list_ty_within = record { within = λ s x r h. rw (h.3.3.3.3.0, h.3.3.3.3.1) (h.0, h.3.3.3.0, refl, (h.1, h.2, (h.3.3.1, (h.3.1, (h.3.0, h.3.2), (ty).within h.3.1 h.3.3.0 h.3.3.1 h.3.3.2), h.3.3.3.2))) }

  option_ty_within : Within (v.option_ty inner) Ty
  unfolding v.option_ty
  option_ty_within = record { within = λ s x r h. rw (h.3.3.3.3.0, h.3.3.3.3.1) (h.0, h.3.3.3.0, refl, (h.1, h.2, (h.3.3.1, (h.3.1, (h.3.0, h.3.2), (ty).within h.3.1 h.3.3.0 h.3.3.1 h.3.3.2), h.3.3.3.2))) }

  omitted_or_within : Within (v.omitted_or inner) Omitted
  unfolding v.omitted_or
  omitted_or_within =
      begin_within k.Underscore _ _ Omitted (word_within k.Underscore t.MaybeTy.no_ty Omitted (λ s r w. w))
      (begin_any_within v.type_first _ _ Omitted (made inner t.MaybeTy.some_ty Omitted (record { within = ty.within })) (refuse_within _ Omitted))

  second : (e : t.MaybeTy) (s m r : Input) → Word k.Comma s m → Omitted e m r → Second e s r
  second t.MaybeTy.no_ty s m r c h = inl (m, c, h)
  second (t.MaybeTy.some_ty x) s m r c h = (m, c, h)

  second_part_within : Within (v.second_part inner) Second
  unfolding v.second_part
  second_part_within = record {
    within = λ s x r h. let mark = (optional_within k.Comma).within s h.0 h.1 h.2 in
        elim h.3 [
          | inl w ↦ second x s h.1 r (let P : Bool → Type 0 = λ (b : Bool). Marked k.Comma b s h.1 in subst P w.0 mark) (omitted_or_within.within h.1 x r w.1)
          | inr w ↦ rw (w.1.0, w.1.1) (inr (let P : Bool → Type 0 = λ (b : Bool). Marked k.Comma b s h.1 in subst P w.0 mark))
        ];
  }

  result_ty_within : Within (v.result_ty inner) Ty
  unfolding v.result_ty v.result_parts
  result_ty_within = record {
    within = λ s x r h. let mark = (optional_within k.OpenAngle).within h.1 h.3.0 h.3.1 h.3.2 in
        elim h.3.3 [
          | inl w ↦ (let word : Word k.OpenAngle h.1 h.3.1 = (let P : Bool → Type 0 = λ (b : Bool). Marked k.OpenAngle b h.1 h.3.1 in subst P w.0 mark) in
              let a = w.1 in
              rw (a.3.3.3.0, a.3.3.3.1) (inr (h.0, a.3.3.0, refl, (h.1, h.2, (a.3.1, (h.3.1, word, (a.1, omitted_or_within.within h.3.1 a.0 a.1 a.2, second_part_within.within a.1 a.3.0 a.3.1 a.3.2)), a.3.3.2)))))
          | inr w ↦ (let same : h.3.1 ≡ h.1 = (let P : Bool → Type 0 = λ (b : Bool). Marked k.OpenAngle b h.1 h.3.1 in subst P w.0 mark) in
              rw (w.1.0, w.1.1) (inl (refl, refl, landed (At k.ResultKeyword h.0) s h.1 h.3.1 (sym same) h.2)))
        ];
  }

  payload_by : (k : Token) (start : SourceSpan) (s m : Input) → At k start s m → (p : t.MaybeTy × SourceSpan) (r : Input) → (v.payload inner start).Is p m r → Payload k p.0 p.1 s r
  unfolding v.payload
  payload_by first start s m at p r h = let mark = (optional_within k.OpenAngle).within m h.0 h.1 h.2 in
      elim h.3 [
        | inl w ↦ (let word : Word k.OpenAngle m h.1 = (let P : Bool → Type 0 = λ (b : Bool). Marked k.OpenAngle b m h.1 in subst P w.0 mark) in
            let a = w.1 in rw (a.3.3.0, a.3.3.1) (start, a.3.0, refl, (m, at, (a.1, (h.1, word, ty.within h.1 a.0 a.1 a.2), a.3.2))))
        | inr w ↦ (let same : h.1 ≡ m = (let P : Bool → Type 0 = λ (b : Bool). Marked k.OpenAngle b m h.1 in subst P w.0 mark) in
            rw (w.1.0, w.1.1) (landed (At first start) s m h.1 (sym same) at))
      ]

  stream_ty_within : Within (v.stream_ty inner) Ty
  unfolding v.stream_ty
  stream_ty_within = record { within = λ s x r h. rw (h.3.3.0, h.3.3.1) (payload_by k.StreamKeyword h.0 s h.1 h.2 h.3.0 h.3.1 h.3.2) }

  future_ty_within : Within (v.future_ty inner) Ty
  unfolding v.future_ty
  future_ty_within = record { within = λ s x r h. rw (h.3.3.0, h.3.3.1) (payload_by k.FutureKeyword h.0 s h.1 h.2 h.3.0 h.3.1 h.3.2) }

  composed_ty_within : Within (v.composed_ty inner) Ty
  unfolding v.composed_ty
  composed_ty_within =
      begin_within k.TupleKeyword _ _ Ty tuple_ty_within (begin_within k.ListKeyword _ _ Ty list_ty_within (begin_within k.OptionKeyword _ _ Ty option_ty_within
      (begin_within k.ResultKeyword _ _ Ty result_ty_within (begin_within k.BorrowKeyword _ _ Ty borrow_ty_within (begin_within k.StreamKeyword _ _ Ty stream_ty_within
      (begin_within k.FutureKeyword _ _ Ty future_ty_within (begin_within k.Ident _ _ Ty (made n.ident t.Ty.ident Ty (record { within = ident_within.within })) (refuse_within _ Ty))))))))

  keyword_or_by : (o : Option (SourceSpan → t.Ty)) (k : Token) → Keeps o k → (s : Input) (x : t.Ty) (r : Input) → (v.keyword_or o k (v.composed_ty inner)).Is x s r → Ty x s r
  unfolding Keeps
  keyword_or_by None k keep s x r h = composed_ty_within.within s x r h
  keyword_or_by (Some make) k keep s x r h = rw (h.3.0, h.3.1) (keep h.0 s h.1 h.2)

  keyword_at_by : (o : Option Token) (s : Input) (x : t.Ty) (r : Input) → (v.keyword_at o (v.composed_ty inner)).Is x s r → Ty x s r
  keyword_at_by None s x r h = composed_ty_within.within s x r h
  keyword_at_by (Some k) s x r h = keyword_or_by (v.keyword_type k) k (keyword_keeps k) s x r h

  pub ty_level_within : Within (v.ty_level inner) Ty
  unfolding v.ty_level v.keyword_type_or
  ty_level_within = record { within = λ s x r h. moved (Ty x) h.1 s r h.2.1 (keyword_at_by h.0 h.1 x r h.3) }

pub ty_within : (depth : ℕ) → Within (v.ty depth) Ty
unfolding v.ty
ty_within zero = begin_any_within v.type_first _ _ Ty (refuse_within _ Ty) (refuse_within _ Ty)
ty_within (suc depth) = ty_level_within (v.ty depth) (ty_within depth) (ty_begins depth)

pub value_type_within : Within v.value_type Ty
unfolding v.value_type
value_type_within = ty_within 128

-- ---- functions

pub named_type_within : Within v.named_type NamedType
unfolding v.named_type
named_type_within = record { within = λ s x r h. rw (h.3.3.3.0, h.3.3.3.1) (h.1, (ident_within).within s h.0 h.1 h.2, (h.3.1, (h.3.0, h.3.2), (value_type_within).within h.3.1 h.3.3.0 h.3.3.1 h.3.3.2)) }

pub func_params_within : Within v.func_params Parameters
unfolding v.func_params
func_params_within = record { within = λ s x r h. rw (h.3.3.3.0, h.3.3.3.1) (h.1, (h.0, h.2), (h.3.1, (list_within v.named_type NamedType named_type_within (k.Ident ∷ []) k.CloseParen named_type_begins).within h.1 h.3.0 h.3.1 h.3.2, (h.3.3.0, h.3.3.2))) }

result_of : (x : t.ResultList) (s m r : Input) → Word k.Arrow s m → v.result_list.Is x m r → Results x s r
unfolding v.result_list
result_of x s m r word h = elim h.3 [
  | inl w ↦ rw (w.1.3.0, w.1.3.1) (m, word, moved (Ty w.1.0) h.1 m w.1.1 h.2.1 (value_type_within.within h.1 w.1.0 w.1.1 w.1.2))
  | inr w ↦ rw (w.1.0, w.1.1, h.2.1) (inl word)
]

pub func_results_within : Within v.func_results Results
unfolding v.func_results
func_results_within = record {
  within = λ s x r h. let mark = (optional_within k.Arrow).within s h.0 h.1 h.2 in
      elim h.3 [
        | inl w ↦ result_of x s h.1 r (let P : Bool → Type 0 = λ (b : Bool). Marked k.Arrow b s h.1 in subst P w.0 mark) w.1
        | inr w ↦ rw (w.1.0, w.1.1) (inr (let P : Bool → Type 0 = λ (b : Bool). Marked k.Arrow b s h.1 in subst P w.0 mark))
      ];
}

pub func_type_within : Within v.func_type FuncType
unfolding v.func_type
func_type_within = record { within = λ s x r h. rw (h.3.3.3.3.0, h.3.3.3.3.1) (h.1, (optional_within k.AsyncKeyword).within s h.0 h.1 h.2, (h.3.1, (h.3.0, h.3.2), (h.3.3.1, (func_params_within).within h.3.1 h.3.3.0 h.3.3.1 h.3.3.2, (func_results_within).within h.3.3.1 h.3.3.3.0 h.3.3.3.1 h.3.3.3.2))) }

pub func_type_ref_within : Within v.func_type_ref FuncTypeRef
unfolding v.func_type_ref
func_type_ref_within =
    begin_any_within v.func_first _ _ FuncTypeRef (made v.func_type t.FuncTypeRef.func FuncTypeRef (record { within = func_type_within.within }))
    (begin_within k.Ident _ _ FuncTypeRef (made n.ident t.FuncTypeRef.ident FuncTypeRef (record { within = ident_within.within })) (refuse_within _ FuncTypeRef))
