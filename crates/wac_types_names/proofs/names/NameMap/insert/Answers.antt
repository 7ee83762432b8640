use Rattle.std.proofs.Common.{◌≡◌, sym, ap, subst, ◌∙◌, Some}
use Rattle.wac_types_names.specs.NameMaps.{by_name, by_key, KnowsKeys}
use Rattle.wac_types_names.proofs.Maps.{by_key-entries_with, keys_last, absent-key, present-key, new-absent, among-found, known-append, by_name-new, known-put, by_name-put}
use Rattle.wac_types_names.proofs.names.NameMap.insert.Goals as goal

pub returns-in_err-key-clause-known : goal.returns-in_err-key-clause-known
returns-in_err-key-clause-known g c = λ was.
    keys_last (g.I.NameMapIntern.text_of c.args.cx.now) (g.I.NameMapIntern.text_of c.intern.new.self) c.args.self.now c.intern.ensures.lasting was

pub returns-in_err-kept-clause-known : goal.returns-in_err-kept-clause-known
returns-in_err-kept-clause-known g c = λ was.
    keys_last (g.I.NameMapIntern.text_of c.args.cx.now) (g.I.NameMapIntern.text_of c.intern.new.self) c.args.self.now c.intern.ensures.lasting was

pub append-requires : goal.append-requires
append-requires g c =
    let seen = sym (by_key-entries_with c.self.inside.names.items c.self.inside.definitions.entries c.self.invariant.lengths) ∙ ap by_key c.self.view_is in
    let off = absent-key (g.K.PartialEq.eq c.in_ok-kept.kept) _ _ c.contains_key.result seen c.contains_key.ensures c.if-not-contains_key.true in
    off

pub returns-in_err-append-clause-known : goal.returns-in_err-append-clause-known
returns-in_err-append-clause-known g c = λ was.
    subst (KnowsKeys (g.I.NameMapIntern.text_of c.intern.new.self)) (sym c.in_err-append.ensures.err) (keys_last (g.I.NameMapIntern.text_of c.args.cx.now) (g.I.NameMapIntern.text_of c.intern.new.self) c.args.self.now c.intern.ensures.lasting was)

pub returns-then-not-contains_key-clause-ok : goal.returns-then-not-contains_key-clause-ok
returns-then-not-contains_key-clause-ok g c = λ was.
    let text = g.I.NameMapIntern.text_of c.intern.new.self in
    let law = g.met.I.NameMapIntern.one_text c.intern.new.self in
    let kept = c.in_ok-kept.kept in
    let is : text kept ≡ Some c.args.name.now = g.met.I.NameMapIntern.clone_text c.intern.new.self c.in_ok-key.key kept c.in_ok-kept.ensures.cases ∙ c.in_ok-key.ensures.key in
    let known : KnowsKeys text c.args.self.now = keys_last (g.I.NameMapIntern.text_of c.args.cx.now) (g.I.NameMapIntern.text_of c.intern.new.self) c.args.self.now c.intern.ensures.lasting was in
    let seen = sym (by_key-entries_with c.self.inside.names.items c.self.inside.definitions.entries c.self.invariant.lengths) ∙ ap by_key c.self.view_is in
    let off = absent-key (g.K.PartialEq.eq kept) _ _ c.contains_key.result seen c.contains_key.ensures c.if-not-contains_key.true in
    let fresh = new-absent g.K.PartialEq.eq text law kept c.args.name.now is c.args.self.now known off in
    ap by_name c.in_ok-append.ensures.ok ∙ by_name-new g.K.PartialEq.eq text law kept c.args.name.now is c.args.self.now c.args.item fresh

pub returns-then-not-contains_key-clause-fresh : goal.returns-then-not-contains_key-clause-fresh
returns-then-not-contains_key-clause-fresh g c = λ was.
    let text = g.I.NameMapIntern.text_of c.intern.new.self in
    let law = g.met.I.NameMapIntern.one_text c.intern.new.self in
    let kept = c.in_ok-kept.kept in
    let is : text kept ≡ Some c.args.name.now = g.met.I.NameMapIntern.clone_text c.intern.new.self c.in_ok-key.key kept c.in_ok-kept.ensures.cases ∙ c.in_ok-key.ensures.key in
    let known : KnowsKeys text c.args.self.now = keys_last (g.I.NameMapIntern.text_of c.args.cx.now) (g.I.NameMapIntern.text_of c.intern.new.self) c.args.self.now c.intern.ensures.lasting was in
    let seen = sym (by_key-entries_with c.self.inside.names.items c.self.inside.definitions.entries c.self.invariant.lengths) ∙ ap by_key c.self.view_is in
    let off = absent-key (g.K.PartialEq.eq kept) _ _ c.contains_key.result seen c.contains_key.ensures c.if-not-contains_key.true in
    let fresh = new-absent g.K.PartialEq.eq text law kept c.args.name.now is c.args.self.now known off in
    λ _. fresh

pub returns-then-not-contains_key-clause-known : goal.returns-then-not-contains_key-clause-known
returns-then-not-contains_key-clause-known g c = λ was.
    let text = g.I.NameMapIntern.text_of c.intern.new.self in
    let law = g.met.I.NameMapIntern.one_text c.intern.new.self in
    let kept = c.in_ok-kept.kept in
    let is : text kept ≡ Some c.args.name.now = g.met.I.NameMapIntern.clone_text c.intern.new.self c.in_ok-key.key kept c.in_ok-kept.ensures.cases ∙ c.in_ok-key.ensures.key in
    let known : KnowsKeys text c.args.self.now = keys_last (g.I.NameMapIntern.text_of c.args.cx.now) (g.I.NameMapIntern.text_of c.intern.new.self) c.args.self.now c.intern.ensures.lasting was in
    let seen = sym (by_key-entries_with c.self.inside.names.items c.self.inside.definitions.entries c.self.invariant.lengths) ∙ ap by_key c.self.view_is in
    subst (KnowsKeys text) (sym c.in_ok-append.ensures.ok) (known-append g.K.PartialEq.eq text law kept c.args.name.now is c.args.self.now c.args.item known)

pub returns-then-not-allow_shadowing-clause-duplicate : goal.returns-then-not-allow_shadowing-clause-duplicate
returns-then-not-allow_shadowing-clause-duplicate g c = λ said was.
    let text = g.I.NameMapIntern.text_of c.intern.new.self in
    let law = g.met.I.NameMapIntern.one_text c.intern.new.self in
    let kept = c.in_ok-kept.kept in
    let is : text kept ≡ Some c.args.name.now = g.met.I.NameMapIntern.clone_text c.intern.new.self c.in_ok-key.key kept c.in_ok-kept.ensures.cases ∙ c.in_ok-key.ensures.key in
    let known : KnowsKeys text c.args.self.now = keys_last (g.I.NameMapIntern.text_of c.args.cx.now) (g.I.NameMapIntern.text_of c.intern.new.self) c.args.self.now c.intern.ensures.lasting was in
    let seen = sym (by_key-entries_with c.self.inside.names.items c.self.inside.definitions.entries c.self.invariant.lengths) ∙ ap by_key c.self.view_is in
    let on = present-key (g.K.PartialEq.eq kept) _ _ c.contains_key.result seen c.contains_key.ensures c.if-not-contains_key.false in
    (c.if-not-allow_shadowing.true, among-found g.K.PartialEq.eq text law kept c.args.name.now is c.args.self.now known on)

pub returns-then-not-allow_shadowing-clause-known : goal.returns-then-not-allow_shadowing-clause-known
returns-then-not-allow_shadowing-clause-known g c = λ was.
    keys_last (g.I.NameMapIntern.text_of c.args.cx.now) (g.I.NameMapIntern.text_of c.intern.new.self) c.args.self.now c.intern.ensures.lasting was

pub shadow-requires : goal.shadow-requires
shadow-requires g c =
    let seen = sym (by_key-entries_with c.self.inside.names.items c.self.inside.definitions.entries c.self.invariant.lengths) ∙ ap by_key c.self.view_is in
    let on = present-key (g.K.PartialEq.eq c.in_ok-kept.kept) _ _ c.contains_key.result seen c.contains_key.ensures c.if-not-contains_key.false in
    record { there = on }

pub returns-in_err-shadow-clause-known : goal.returns-in_err-shadow-clause-known
returns-in_err-shadow-clause-known g c = λ was.
    subst (KnowsKeys (g.I.NameMapIntern.text_of c.intern.new.self)) (sym c.in_err-shadow.ensures.err) (keys_last (g.I.NameMapIntern.text_of c.args.cx.now) (g.I.NameMapIntern.text_of c.intern.new.self) c.args.self.now c.intern.ensures.lasting was)

pub returns-clause-ok : goal.returns-clause-ok
returns-clause-ok g c = λ was.
    let text = g.I.NameMapIntern.text_of c.intern.new.self in
    let law = g.met.I.NameMapIntern.one_text c.intern.new.self in
    let kept = c.in_ok-kept.kept in
    let is : text kept ≡ Some c.args.name.now = g.met.I.NameMapIntern.clone_text c.intern.new.self c.in_ok-key.key kept c.in_ok-kept.ensures.cases ∙ c.in_ok-key.ensures.key in
    let known : KnowsKeys text c.args.self.now = keys_last (g.I.NameMapIntern.text_of c.args.cx.now) (g.I.NameMapIntern.text_of c.intern.new.self) c.args.self.now c.intern.ensures.lasting was in
    let seen = sym (by_key-entries_with c.self.inside.names.items c.self.inside.definitions.entries c.self.invariant.lengths) ∙ ap by_key c.self.view_is in
    let on = present-key (g.K.PartialEq.eq kept) _ _ c.contains_key.result seen c.contains_key.ensures c.if-not-contains_key.false in
    ap by_name c.in_ok-shadow.ensures.ok ∙ by_name-put g.K.PartialEq.eq text law kept c.args.name.now is c.args.self.now c.args.item known on

pub returns-clause-known : goal.returns-clause-known
returns-clause-known g c = λ was.
    let text = g.I.NameMapIntern.text_of c.intern.new.self in
    let law = g.met.I.NameMapIntern.one_text c.intern.new.self in
    let kept = c.in_ok-kept.kept in
    let is : text kept ≡ Some c.args.name.now = g.met.I.NameMapIntern.clone_text c.intern.new.self c.in_ok-key.key kept c.in_ok-kept.ensures.cases ∙ c.in_ok-key.ensures.key in
    let known : KnowsKeys text c.args.self.now = keys_last (g.I.NameMapIntern.text_of c.args.cx.now) (g.I.NameMapIntern.text_of c.intern.new.self) c.args.self.now c.intern.ensures.lasting was in
    let seen = sym (by_key-entries_with c.self.inside.names.items c.self.inside.definitions.entries c.self.invariant.lengths) ∙ ap by_key c.self.view_is in
    subst (KnowsKeys text) (sym c.in_ok-shadow.ensures.ok) (known-put g.K.PartialEq.eq text law kept c.args.name.now is c.args.self.now c.args.item known)
