-- Where types begin, and where the depth is spent.
use Rattle.std.proofs.Common.{◌≡◌, ℕ, Bool, true, false, List, [], ◌∷◌, Option, Some, None, Result, Ok, Err, refl, ap, sym, subst, ◌∙◌, cond}
use Rattle.std.specs.Option.{option_map}
use Rattle.wac_parser_lexer.specs.declared.span.SourceSpan.{SourceSpan}
use Rattle.wac_parser_lexer.specs.declared.token.Token.{Token}
use Rattle.wac_parser_lexer.specs.declared.error.Error.{Error}
use Rattle.wac_parser_lexer.specs.Items.{Input, Doc, Item, first_item, rest_input}
use Rattle.wac_parser_tree.specs.Trees as t
use Rattle.wac_parser_grammar.specs.Faults.{Fault, nested_too_deep}
use Rattle.wac_parser_grammar.specs.Ahead.{token_of, sees, sees_any, none_of}
use Rattle.wac_parser_grammar.specs.Reads.{Reads}
use Rattle.wac_parser_grammar.specs.Rules.{Rule, span_of_items}
use Rattle.wac_parser_grammar.specs.ValueTypes.{TakesKeyword, keyword_made, keyword_type, keyword_or, keyword_at, keyword_type_or, too_deep}
use Rattle.wac_parser_grammar.proofs.Exact.{found_same}

err_by : {X : Type 0} (b : Bool) (x y f : Fault) → f ≡ cond b x y → ◌≡◌ {A = Result (X × Input) Fault} (cond b (Err x) (Err y)) (Err f)
err_by true x y f e = ap Err (sym e)
err_by false x y f e = ap Err (sym e)

pub too_deep_reads : {X : Type 0} (first : List Token) (s : Input) (f : Fault) → f ≡ cond (sees_any first s) (nested_too_deep (span_of_items s.items)) (none_of first s) → (too_deep {X = X} first).read s ≡ Err f
too_deep_reads first s f e = err_by (sees_any first s) (nested_too_deep (span_of_items s.items)) (none_of first s) f e

taken_by : (p : Rule t.Ty) (source : List ℕ) (docs behind : List Doc) (k : Token) (span last : SourceSpan) (items : List Item) (o : Option (SourceSpan → t.Ty)) (ty : t.Ty) → keyword_type k ≡ o → option_map (λ make. make span) o ≡ Some ty
    → let s : Input = record { source = source; items = record { docs = docs; token = Ok k; span = span } ∷ items; docs = behind; last = last } in (keyword_type_or p).read s ≡ Ok (ty, rest_input s)
unfolding keyword_type_or sees
taken_by p source docs behind k span last items None ty e f = cc
taken_by p source docs behind k span last items (Some make) ty e f =
    let made : make span ≡ ty = cc in
    let s : Input = record { source = source; items = record { docs = docs; token = Ok k; span = span } ∷ items; docs = behind; last = last } in
    rw (e, found_same k) (ap (λ (y : t.Ty). Ok (y, rest_input s)) made)

passed_by : (p : Rule t.Ty) (s : Input) (k : Token) (span : SourceSpan) (o : Option (SourceSpan → t.Ty)) → keyword_type k ≡ o → option_map (λ make. make span) o ≡ None → (keyword_or (keyword_type k) k p).read s ≡ p.read s
passed_by p s k span None e f = rw e refl
passed_by p s k span (Some make) e f = cc

taken_at : (p : Rule t.Ty) (source : List ℕ) (behind : List Doc) (last : SourceSpan) (docs : List Doc) (token : Result Token Error) (span : SourceSpan) (items : List Item) (ty : t.Ty) → keyword_made (Some (token, span)) ≡ Some ty
    → let s : Input = record { source = source; items = record { docs = docs; token = token; span = span } ∷ items; docs = behind; last = last } in (keyword_type_or p).read s ≡ Ok (ty, rest_input s)
taken_at p source behind last docs (Ok k) span items ty e = taken_by p source docs behind k span last items (keyword_type k) ty refl e
taken_at p source behind last docs (Err x) span items ty e = cc

taken_items : (p : Rule t.Ty) (source : List ℕ) (items : List Item) (behind : List Doc) (last : SourceSpan) (ty : t.Ty)
    → let s : Input = record { source = source; items = items; docs = behind; last = last } in keyword_made (first_item s) ≡ Some ty → (keyword_type_or p).read s ≡ Ok (ty, rest_input s)
taken_items p source [] behind last ty e = cc
taken_items p source (i ∷ is) behind last ty e = taken_at p source behind last i.docs i.token i.span is ty e

pub keyword_taken : (p : Rule t.Ty) (s : Input) (ty : t.Ty) → keyword_made (first_item s) ≡ Some ty → (keyword_type_or p).read s ≡ Ok (ty, rest_input s)
keyword_taken p s ty e = taken_items p s.source s.items s.docs s.last ty e

passed_at : (p : Rule t.Ty) (s : Input) (o : Option (Result Token Error × SourceSpan)) → keyword_made o ≡ None → (keyword_at (token_of o) p).read s ≡ p.read s
passed_at p s None e = refl
passed_at p s (Some (Ok k, span)) e = passed_by p s k span (keyword_type k) refl e
passed_at p s (Some (Err x, span)) e = refl

pub keyword_passed : (p : Rule t.Ty) (s : Input) → keyword_made (first_item s) ≡ None → (keyword_type_or p).read s ≡ p.read s
unfolding keyword_type_or
keyword_passed p s e = passed_at p s (first_item s) e

reads_taken : {T : Type 0} (view : T → t.Ty) (p : Rule t.Ty) (old new : Input) (x : T) → TakesKeyword (Some (view x)) old new → (keyword_type_or p).read old ≡ Ok (view x, new)
reads_taken view p old new x h = keyword_taken p old (view x) h.0 ∙ ap (λ (r : Input). Ok (view x, r)) (sym h.1)

pub taken_type : {T : Type 0} (view : T → t.Ty) (p : Rule t.Ty) (old new : Input) (o : Option T) (x : T) → o ≡ Some x → TakesKeyword (option_map view o) old new → (keyword_type_or p).read old ≡ Ok (view x, new)
taken_type {T = T} view p old new o x e h = let P : Option T → Type 0 = λ (o : Option T). TakesKeyword (option_map view o) old new in reads_taken view p old new x (subst P e h)

pub passed_type : {T : Type 0} (view : T → t.Ty) (p : Rule t.Ty) (old new after : Input) (o : Option T) (result : Result T _) → o ≡ None → TakesKeyword (option_map view o) old new → Reads view p new result after → Reads view (keyword_type_or p) old result after
passed_type {T = T} view p old new after o (Ok x) e h r =
    let P : Option T → Type 0 = λ (o : Option T). TakesKeyword (option_map view o) old new in
    let q = subst P e h in
    keyword_passed p old q.0 ∙ ap p.read (sym q.1) ∙ r
passed_type {T = T} view p old new after o (Err x) e h r = λ other.
    let P : Option T → Type 0 = λ (o : Option T). TakesKeyword (option_map view o) old new in
    let q = subst P e h in
    keyword_passed p old q.0 ∙ ap p.read (sym q.1) ∙ r other
