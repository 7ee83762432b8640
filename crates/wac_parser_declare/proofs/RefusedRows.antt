-- Documents that are refused, and the cause of each, by computing.
use Rattle.std.specs.Prelude.{◌≡◌, true, false, List, [], ◌∷◌, Some, None, codes}
use Rattle.std.proofs.Common.{refl}
use Rattle.wac_types_base.specs.declared.item.PrimitiveType.{PrimitiveType}
use Rattle.wac_types_base.specs.declared.item.ExternKind.{ExternKind}
use Rattle.wac_types_base.specs.declared.item.FuncKind.{FuncKind}
use Rattle.wac_types_base.specs.Collection.{primitive, record_of, resource}
use Rattle.wac_types_base.specs.Stated.{Stated, func_of, interface_of, world_of, leaf, over, own, as_type, desc, value_desc, contains_borrow}
use Rattle.wac_types_names.specs.Keys.{Key}
use Rattle.wac_parser_tree.specs.Trees as m
use Rattle.wac_parser_refusals.specs.Causes as f
use Rattle.wac_parser_declare.specs.Scope.{in_package, at_root}
use Rattle.wac_parser_declare.proofs.RowWords as t
use Rattle.wac_parser_declare.proofs.RowWords.{sp, id_at, refusal, declared}

abbrev world_0 : Stated
world_0 = (world_of None ([]) (((codes "f"), (func_of ([]) None false)) ∷ []) (((codes "g"), (func_of ([]) None false)) ∷ []))

abbrev world_1 : Stated
world_1 = (world_of None ([]) (((codes "g"), (func_of ([]) None false)) ∷ []) (((codes "h"), (func_of ([]) None false)) ∷ []))

abbrev world_2 : Stated
world_2 = (world_of None ([]) ([]) (((codes "t"), (as_type (world_of None ([]) ([]) (((codes "d:d/t@1.0.0"), (interface_of (Some (codes "d:d/t@1.0.0")) ([]) (((codes "r"), (leaf (resource (codes "r")))) ∷ ((codes "k"), (as_type (over (record_of ((codes "x") ∷ [])) ((Some (leaf (primitive PrimitiveType.U32))) ∷ [])))) ∷ ((codes "f"), (func_of ([]) None false)) ∷ []))) ∷ [])))) ∷ ((codes "u"), (as_type (world_of None ([]) (((codes "d:d/t@1.0.0"), (interface_of (Some (codes "d:d/t@1.0.0")) ([]) (((codes "r"), (leaf (resource (codes "r")))) ∷ ((codes "k"), (as_type (over (record_of ((codes "x") ∷ [])) ((Some (leaf (primitive PrimitiveType.U32))) ∷ [])))) ∷ []))) ∷ []) (((codes "d:d/u@1.0.0"), (interface_of (Some (codes "d:d/u@1.0.0")) ((record { name = (codes "q"); there = (Some (codes "r")); interface = (interface_of (Some (codes "d:d/t@1.0.0")) ([]) (((codes "r"), (leaf (resource (codes "r")))) ∷ ((codes "k"), (as_type (over (record_of ((codes "x") ∷ [])) ((Some (leaf (primitive PrimitiveType.U32))) ∷ [])))) ∷ ((codes "f"), (func_of ([]) None false)) ∷ [])) }) ∷ (record { name = (codes "k"); there = None; interface = (interface_of (Some (codes "d:d/t@1.0.0")) ([]) (((codes "r"), (leaf (resource (codes "r")))) ∷ ((codes "k"), (as_type (over (record_of ((codes "x") ∷ [])) ((Some (leaf (primitive PrimitiveType.U32))) ∷ [])))) ∷ ((codes "f"), (func_of ([]) None false)) ∷ [])) }) ∷ []) (((codes "q"), (leaf (resource (codes "r")))) ∷ ((codes "k"), (as_type (over (record_of ((codes "x") ∷ [])) ((Some (leaf (primitive PrimitiveType.U32))) ∷ [])))) ∷ ((codes "g"), (func_of (((codes "a"), (own (leaf (resource (codes "r"))))) ∷ ((codes "b"), (over (record_of ((codes "x") ∷ [])) ((Some (leaf (primitive PrimitiveType.U32))) ∷ []))) ∷ []) None false)) ∷ []))) ∷ [])))) ∷ ((codes "w"), (as_type (world_of None ([]) ([]) (((codes "d:d/w@1.0.0"), (world_of (Some (codes "d:d/w@1.0.0")) ([]) (((codes "d:d/t@1.0.0"), (interface_of (Some (codes "d:d/t@1.0.0")) ([]) (((codes "r"), (leaf (resource (codes "r")))) ∷ ((codes "k"), (as_type (over (record_of ((codes "x") ∷ [])) ((Some (leaf (primitive PrimitiveType.U32))) ∷ [])))) ∷ []))) ∷ ((codes "k"), (as_type (over (record_of ((codes "x") ∷ [])) ((Some (leaf (primitive PrimitiveType.U32))) ∷ [])))) ∷ ((codes "i"), (interface_of None ([]) (((codes "h"), (func_of ([]) None false)) ∷ []))) ∷ []) (((codes "d:d/t@1.0.0"), (interface_of (Some (codes "d:d/t@1.0.0")) ([]) (((codes "r"), (leaf (resource (codes "r")))) ∷ ((codes "k"), (as_type (over (record_of ((codes "x") ∷ [])) ((Some (leaf (primitive PrimitiveType.U32))) ∷ [])))) ∷ ((codes "f"), (func_of ([]) None false)) ∷ []))) ∷ []))) ∷ [])))) ∷ []))

abbrev world_3 : Stated
world_3 = (world_of None ([]) ([]) (((codes "a:b/i@1.0.0"), (interface_of (Some (codes "a:b/i@1.0.0")) ([]) (((codes "f"), (func_of ([]) None false)) ∷ ((codes "g"), (func_of ([]) None false)) ∷ []))) ∷ ((codes "f"), (func_of ([]) None false)) ∷ []))

abbrev world_4 : Stated
world_4 = (world_of None ([]) (((codes "a:b/i@1.0.0"), (interface_of (Some (codes "a:b/i@1.0.0")) ([]) (((codes "f"), (func_of ([]) None false)) ∷ []))) ∷ ((codes "f"), (func_of ([]) None false)) ∷ []) (((codes "x:y/i"), (interface_of None ([]) ([]))) ∷ []))

abbrev world_5 : Stated
world_5 = (world_of None ([]) (((codes "n:a/i"), (interface_of None ([]) (((codes "f"), (func_of ([]) None false)) ∷ []))) ∷ ((codes "n:b/i"), (interface_of None ([]) ([]))) ∷ ((codes "n:c/j"), (interface_of None ([]) ([]))) ∷ []) ([]))

abbrev world_6 : Stated
world_6 = (world_of None ([]) ([]) (((codes "i"), (as_type (world_of None ([]) ([]) (((codes "t:t/i"), (interface_of (Some (codes "t:t/i")) ([]) (((codes "f"), (func_of ([]) None false)) ∷ []))) ∷ [])))) ∷ ((codes "w"), (as_type (world_of None ([]) ([]) (((codes "t:t/w"), (world_of (Some (codes "t:t/w")) ([]) (((codes "f"), (func_of ([]) None false)) ∷ []) (((codes "t:t/i"), (interface_of (Some (codes "t:t/i")) ([]) (((codes "f"), (func_of ([]) None false)) ∷ []))) ∷ ((codes "h"), (func_of ([]) None false)) ∷ []))) ∷ [])))) ∷ ((codes "v"), (as_type (world_of None ([]) ([]) (((codes "t:t/v"), (world_of (Some (codes "t:t/v")) ([]) ([]) (((codes "f"), (func_of (((codes "a"), (leaf (primitive PrimitiveType.U8))) ∷ []) None false)) ∷ []))) ∷ [])))) ∷ []))

abbrev packages_0 : List (Key × Stated)
packages_0 = ((((codes "p:p"), None), world_0) ∷ (((codes "q:q"), None), world_1) ∷ (((codes "d:d"), (Some (1, 0, 0, [], []))), world_2) ∷ (((codes "s:s"), None), world_3) ∷ (((codes "o:o"), None), world_4) ∷ (((codes "z:z"), None), world_5) ∷ [])

-- package a:b; type t = u;
row_0 : declared (record { string = (codes "a:b"); name = (codes "a:b"); version = None; span = (sp 8 3) }) packages_0 [] (((t.type_ (t.alias_ty (id_at (codes "t") 18 1) (m.Ty.ident (id_at (codes "u") 22 1)))) ∷ [])) ≡ refusal (f.UndefinedName (codes "u")) 22 1
unfolding desc value_desc contains_borrow
row_0 = refl

-- package a:b; type t = borrow<u>;
row_1 : declared (record { string = (codes "a:b"); name = (codes "a:b"); version = None; span = (sp 8 3) }) packages_0 [] (((t.type_ (t.alias_ty (id_at (codes "t") 18 1) (m.Ty.borrow (id_at (codes "u") 29 1) (sp 22 9)))) ∷ [])) ≡ refusal (f.UndefinedName (codes "u")) 29 1
unfolding desc value_desc contains_borrow
row_1 = refl

-- package a:b; type u = u8; type t = borrow<u>;
row_2 : declared (record { string = (codes "a:b"); name = (codes "a:b"); version = None; span = (sp 8 3) }) packages_0 [] (((t.type_ (t.alias_ty (id_at (codes "u") 18 1) (m.Ty.u8 (sp 22 2)))) ∷ (t.type_ (t.alias_ty (id_at (codes "t") 31 1) (m.Ty.borrow (id_at (codes "u") 42 1) (sp 35 9)))) ∷ [])) ≡ refusal (f.NotResourceType (codes "u") (codes "u8")) 42 1
unfolding desc value_desc contains_borrow
row_2 = refl

-- package a:b; record r { a: u8, a: u16 }
row_3 : declared (record { string = (codes "a:b"); name = (codes "a:b"); version = None; span = (sp 8 3) }) packages_0 [] (((t.type_ (t.record_of (id_at (codes "r") 20 1) ((record { id = (id_at (codes "a") 24 1); ty = (m.Ty.u8 (sp 27 2)) }) ∷ (record { id = (id_at (codes "a") 31 1); ty = (m.Ty.u16 (sp 34 3)) }) ∷ []))) ∷ [])) ≡ refusal (f.DuplicateRecordField (codes "a") (codes "r")) 31 1
unfolding desc value_desc contains_borrow
row_3 = refl

-- package a:b; record r { a: u8, a: q }
row_4 : declared (record { string = (codes "a:b"); name = (codes "a:b"); version = None; span = (sp 8 3) }) packages_0 [] (((t.type_ (t.record_of (id_at (codes "r") 20 1) ((record { id = (id_at (codes "a") 24 1); ty = (m.Ty.u8 (sp 27 2)) }) ∷ (record { id = (id_at (codes "a") 31 1); ty = (m.Ty.ident (id_at (codes "q") 34 1)) }) ∷ []))) ∷ [])) ≡ refusal (f.UndefinedName (codes "q")) 34 1
unfolding desc value_desc contains_borrow
row_4 = refl

-- package a:b; variant v { a(u8), b, a }
row_5 : declared (record { string = (codes "a:b"); name = (codes "a:b"); version = None; span = (sp 8 3) }) packages_0 [] (((t.type_ (t.variant (id_at (codes "v") 21 1) ((record { id = (id_at (codes "a") 25 1); ty = (Some (m.Ty.u8 (sp 27 2))) }) ∷ (record { id = (id_at (codes "b") 32 1); ty = None }) ∷ (record { id = (id_at (codes "a") 35 1); ty = None }) ∷ []))) ∷ [])) ≡ refusal (f.DuplicateVariantCase (codes "a") (codes "v")) 35 1
unfolding desc value_desc contains_borrow
row_5 = refl

-- package a:b; flags f { a, a }
row_6 : declared (record { string = (codes "a:b"); name = (codes "a:b"); version = None; span = (sp 8 3) }) packages_0 [] (((t.type_ (t.flags (id_at (codes "f") 19 1) ((id_at (codes "a") 23 1) ∷ (id_at (codes "a") 26 1) ∷ []))) ∷ [])) ≡ refusal (f.DuplicateFlag (codes "a") (codes "f")) 26 1
unfolding desc value_desc contains_borrow
row_6 = refl

-- package a:b; enum e { a, b, a }
row_7 : declared (record { string = (codes "a:b"); name = (codes "a:b"); version = None; span = (sp 8 3) }) packages_0 [] (((t.type_ (t.enum (id_at (codes "e") 18 1) ((id_at (codes "a") 22 1) ∷ (id_at (codes "b") 25 1) ∷ (id_at (codes "a") 28 1) ∷ []))) ∷ [])) ≡ refusal (f.DuplicateEnumCase (codes "a") (codes "e")) 28 1
unfolding desc value_desc contains_borrow
row_7 = refl

-- package a:b; type f = func(a: u8, a: u16);
row_8 : declared (record { string = (codes "a:b"); name = (codes "a:b"); version = None; span = (sp 8 3) }) packages_0 [] (((t.type_ (t.alias_func (id_at (codes "f") 18 1) (record { is_async = false; params = ((record { id = (id_at (codes "a") 27 1); ty = (m.Ty.u8 (sp 30 2)) }) ∷ (record { id = (id_at (codes "a") 34 1); ty = (m.Ty.u16 (sp 37 3)) }) ∷ []); result = None }))) ∷ [])) ≡ refusal (f.DuplicateParameter (codes "a") FuncKind.Free) 34 1
unfolding desc value_desc contains_borrow
row_8 = refl

-- package a:b; type f = func(a: u8) -> list<borrow<a>>;
row_9 : declared (record { string = (codes "a:b"); name = (codes "a:b"); version = None; span = (sp 8 3) }) packages_0 [] (((t.type_ (t.alias_func (id_at (codes "f") 18 1) (record { is_async = false; params = ((record { id = (id_at (codes "a") 27 1); ty = (m.Ty.u8 (sp 30 2)) }) ∷ []); result = (Some (m.Ty.list (m.Ty.borrow (id_at (codes "a") 49 1) (sp 42 9)) (sp 37 15))) }))) ∷ [])) ≡ refusal (f.UndefinedName (codes "a")) 49 1
unfolding desc value_desc contains_borrow
row_9 = refl

-- package a:b; interface i { resource r; f: func() -> borrow<r>; }
row_10 : declared (record { string = (codes "a:b"); name = (codes "a:b"); version = None; span = (sp 8 3) }) packages_0 [] (((t.interface (id_at (codes "i") 23 1) ((t.type_item (t.resource (id_at (codes "r") 36 1) ([]))) ∷ (t.export_item (id_at (codes "f") 39 1) (t.func_type (record { is_async = false; params = ([]); result = (Some (m.Ty.borrow (id_at (codes "r") 59 1) (sp 52 9))) }))) ∷ [])) ∷ [])) ≡ refusal (f.BorrowInResult) 52 9
unfolding desc value_desc contains_borrow
row_10 = refl

-- package a:b; interface i { resource r { constructor(); constructor(a: u8); } }
row_11 : declared (record { string = (codes "a:b"); name = (codes "a:b"); version = None; span = (sp 8 3) }) packages_0 [] (((t.interface (id_at (codes "i") 23 1) ((t.type_item (t.resource (id_at (codes "r") 36 1) ((t.constructor_at (sp 40 11) ([])) ∷ (t.constructor_at (sp 55 11) ((record { id = (id_at (codes "a") 67 1); ty = (m.Ty.u8 (sp 70 2)) }) ∷ [])) ∷ []))) ∷ [])) ∷ [])) ≡ refusal (f.DuplicateResourceConstructor (codes "r")) 55 11
unfolding desc value_desc contains_borrow
row_11 = refl

-- package a:b; interface i { resource r { m: func(); m: static func(); } }
row_12 : declared (record { string = (codes "a:b"); name = (codes "a:b"); version = None; span = (sp 8 3) }) packages_0 [] (((t.interface (id_at (codes "i") 23 1) ((t.type_item (t.resource (id_at (codes "r") 36 1) ((t.method (id_at (codes "m") 40 1) false (record { is_async = false; params = ([]); result = None })) ∷ (t.method (id_at (codes "m") 51 1) true (record { is_async = false; params = ([]); result = None })) ∷ []))) ∷ [])) ∷ [])) ≡ refusal (f.DuplicateResourceMethod (codes "m") (codes "r")) 51 1
unfolding desc value_desc contains_borrow
row_12 = refl

-- package a:b; interface i { resource r { constructor(a: r); m: async func(self: u8); } }
row_13 : declared (record { string = (codes "a:b"); name = (codes "a:b"); version = None; span = (sp 8 3) }) packages_0 [] (((t.interface (id_at (codes "i") 23 1) ((t.type_item (t.resource (id_at (codes "r") 36 1) ((t.constructor_at (sp 40 11) ((record { id = (id_at (codes "a") 52 1); ty = (m.Ty.ident (id_at (codes "r") 55 1)) }) ∷ [])) ∷ (t.method (id_at (codes "m") 59 1) false (record { is_async = true; params = ((record { id = (id_at (codes "self") 73 4); ty = (m.Ty.u8 (sp 79 2)) }) ∷ []); result = None })) ∷ []))) ∷ [])) ∷ [])) ≡ refusal (f.DuplicateParameter (codes "self") FuncKind.Method) 73 4
unfolding desc value_desc contains_borrow
row_13 = refl

-- package a:b; interface i { f: func(); f: func(); }
row_14 : declared (record { string = (codes "a:b"); name = (codes "a:b"); version = None; span = (sp 8 3) }) packages_0 [] (((t.interface (id_at (codes "i") 23 1) ((t.export_item (id_at (codes "f") 27 1) (t.func_type (record { is_async = false; params = ([]); result = None }))) ∷ (t.export_item (id_at (codes "f") 38 1) (t.func_type (record { is_async = false; params = ([]); result = None }))) ∷ [])) ∷ [])) ≡ refusal (f.DuplicateInterfaceExport (codes "f") (Some (codes "i"))) 38 1
unfolding desc value_desc contains_borrow
row_14 = refl

-- package a:b; interface i { f: func(); g: f; h: nope; }
row_15 : declared (record { string = (codes "a:b"); name = (codes "a:b"); version = None; span = (sp 8 3) }) packages_0 [] (((t.interface (id_at (codes "i") 23 1) ((t.export_item (id_at (codes "f") 27 1) (t.func_type (record { is_async = false; params = ([]); result = None }))) ∷ (t.export_item (id_at (codes "g") 38 1) (t.func_named (id_at (codes "f") 41 1))) ∷ (t.export_item (id_at (codes "h") 44 1) (t.func_named (id_at (codes "nope") 47 4))) ∷ [])) ∷ [])) ≡ refusal (f.UndefinedName (codes "f")) 41 1
unfolding desc value_desc contains_borrow
row_15 = refl

-- package a:b; interface i { type t = u8; g: t; }
row_16 : declared (record { string = (codes "a:b"); name = (codes "a:b"); version = None; span = (sp 8 3) }) packages_0 [] (((t.interface (id_at (codes "i") 23 1) ((t.type_item (t.plain_type (t.alias_ty (id_at (codes "t") 32 1) (m.Ty.u8 (sp 36 2))))) ∷ (t.export_item (id_at (codes "g") 40 1) (t.func_named (id_at (codes "t") 43 1))) ∷ [])) ∷ [])) ≡ refusal (f.NotFuncType (codes "t") (codes "u8")) 43 1
unfolding desc value_desc contains_borrow
row_16 = refl

-- package a:b; interface i { f: func(); type t = f; }
row_17 : declared (record { string = (codes "a:b"); name = (codes "a:b"); version = None; span = (sp 8 3) }) packages_0 [] (((t.interface (id_at (codes "i") 23 1) ((t.export_item (id_at (codes "f") 27 1) (t.func_type (record { is_async = false; params = ([]); result = None }))) ∷ (t.type_item (t.plain_type (t.alias_ty (id_at (codes "t") 43 1) (m.Ty.ident (id_at (codes "f") 47 1))))) ∷ [])) ∷ [])) ≡ refusal (f.UndefinedName (codes "f")) 47 1
unfolding desc value_desc contains_borrow
row_17 = refl

-- package a:b; interface i { f: func(); } type t = i;
row_18 : declared (record { string = (codes "a:b"); name = (codes "a:b"); version = None; span = (sp 8 3) }) packages_0 [] (((t.interface (id_at (codes "i") 23 1) ((t.export_item (id_at (codes "f") 27 1) (t.func_type (record { is_async = false; params = ([]); result = None }))) ∷ [])) ∷ (t.type_ (t.alias_ty (id_at (codes "t") 45 1) (m.Ty.ident (id_at (codes "i") 49 1)))) ∷ [])) ≡ refusal (f.InvalidAliasType (codes "i") (codes "interface")) 49 1
unfolding desc value_desc contains_borrow
row_18 = refl

-- package a:b; interface i { resource r; } interface j { use i.{r}; use i.{r}; }
row_19 : declared (record { string = (codes "a:b"); name = (codes "a:b"); version = None; span = (sp 8 3) }) packages_0 [] (((t.interface (id_at (codes "i") 23 1) ((t.type_item (t.resource (id_at (codes "r") 36 1) ([]))) ∷ [])) ∷ (t.interface (id_at (codes "j") 51 1) ((t.use_item (record { path = (at_root (id_at (codes "i") 59 1)); items = ((record { id = (id_at (codes "r") 62 1); as_id = None }) ∷ []) })) ∷ (t.use_item (record { path = (at_root (id_at (codes "i") 70 1)); items = ((record { id = (id_at (codes "r") 73 1); as_id = None }) ∷ []) })) ∷ [])) ∷ [])) ≡ refusal (f.UseConflict (codes "r") ExternKind.Export true) 73 1
unfolding desc value_desc contains_borrow
row_19 = refl

-- package a:b; interface i { resource r; } interface j { use i.{r, r as s}; type r = u8; }
row_20 : declared (record { string = (codes "a:b"); name = (codes "a:b"); version = None; span = (sp 8 3) }) packages_0 [] (((t.interface (id_at (codes "i") 23 1) ((t.type_item (t.resource (id_at (codes "r") 36 1) ([]))) ∷ [])) ∷ (t.interface (id_at (codes "j") 51 1) ((t.use_item (record { path = (at_root (id_at (codes "i") 59 1)); items = ((record { id = (id_at (codes "r") 62 1); as_id = None }) ∷ (record { id = (id_at (codes "r") 65 1); as_id = (Some (id_at (codes "s") 70 1)) }) ∷ []) })) ∷ (t.type_item (t.plain_type (t.alias_ty (id_at (codes "r") 79 1) (m.Ty.u8 (sp 83 2))))) ∷ [])) ∷ [])) ≡ refusal (f.DuplicateName (codes "r") (sp 62 1)) 79 1
unfolding desc value_desc contains_borrow
row_20 = refl

-- package a:b; interface i { resource r; f: func(); } interface j { use i.{f}; }
row_21 : declared (record { string = (codes "a:b"); name = (codes "a:b"); version = None; span = (sp 8 3) }) packages_0 [] (((t.interface (id_at (codes "i") 23 1) ((t.type_item (t.resource (id_at (codes "r") 36 1) ([]))) ∷ (t.export_item (id_at (codes "f") 39 1) (t.func_type (record { is_async = false; params = ([]); result = None }))) ∷ [])) ∷ (t.interface (id_at (codes "j") 62 1) ((t.use_item (record { path = (at_root (id_at (codes "i") 70 1)); items = ((record { id = (id_at (codes "f") 73 1); as_id = None }) ∷ []) })) ∷ [])) ∷ [])) ≡ refusal (f.NotInterfaceValueType (codes "f") (codes "function") (codes "i")) 73 1
unfolding desc value_desc contains_borrow
row_21 = refl

-- package a:b; interface i { resource r; f: func(); } interface j { use i.{nope}; }
row_22 : declared (record { string = (codes "a:b"); name = (codes "a:b"); version = None; span = (sp 8 3) }) packages_0 [] (((t.interface (id_at (codes "i") 23 1) ((t.type_item (t.resource (id_at (codes "r") 36 1) ([]))) ∷ (t.export_item (id_at (codes "f") 39 1) (t.func_type (record { is_async = false; params = ([]); result = None }))) ∷ [])) ∷ (t.interface (id_at (codes "j") 62 1) ((t.use_item (record { path = (at_root (id_at (codes "i") 70 1)); items = ((record { id = (id_at (codes "nope") 73 4); as_id = None }) ∷ []) })) ∷ [])) ∷ [])) ≡ refusal (f.UndefinedInterfaceType (codes "nope") (codes "i")) 73 4
unfolding desc value_desc contains_borrow
row_22 = refl

-- package a:b; interface i { resource r; } interface j { r: func(); use i.{r}; }
row_23 : declared (record { string = (codes "a:b"); name = (codes "a:b"); version = None; span = (sp 8 3) }) packages_0 [] (((t.interface (id_at (codes "i") 23 1) ((t.type_item (t.resource (id_at (codes "r") 36 1) ([]))) ∷ [])) ∷ (t.interface (id_at (codes "j") 51 1) ((t.export_item (id_at (codes "r") 55 1) (t.func_type (record { is_async = false; params = ([]); result = None }))) ∷ (t.use_item (record { path = (at_root (id_at (codes "i") 70 1)); items = ((record { id = (id_at (codes "r") 73 1); as_id = None }) ∷ []) })) ∷ [])) ∷ [])) ≡ refusal (f.UseConflict (codes "r") ExternKind.Export true) 73 1
unfolding desc value_desc contains_borrow
row_23 = refl

-- package a:b; interface i { resource r; } interface j { r: func(); use i.{r as r}; }
row_24 : declared (record { string = (codes "a:b"); name = (codes "a:b"); version = None; span = (sp 8 3) }) packages_0 [] (((t.interface (id_at (codes "i") 23 1) ((t.type_item (t.resource (id_at (codes "r") 36 1) ([]))) ∷ [])) ∷ (t.interface (id_at (codes "j") 51 1) ((t.export_item (id_at (codes "r") 55 1) (t.func_type (record { is_async = false; params = ([]); result = None }))) ∷ (t.use_item (record { path = (at_root (id_at (codes "i") 70 1)); items = ((record { id = (id_at (codes "r") 73 1); as_id = (Some (id_at (codes "r") 78 1)) }) ∷ []) })) ∷ [])) ∷ [])) ≡ refusal (f.UseConflict (codes "r") ExternKind.Export false) 78 1
unfolding desc value_desc contains_borrow
row_24 = refl

-- package a:b; type t = u8; interface j { use t.{r}; }
row_25 : declared (record { string = (codes "a:b"); name = (codes "a:b"); version = None; span = (sp 8 3) }) packages_0 [] (((t.type_ (t.alias_ty (id_at (codes "t") 18 1) (m.Ty.u8 (sp 22 2)))) ∷ (t.interface (id_at (codes "j") 36 1) ((t.use_item (record { path = (at_root (id_at (codes "t") 44 1)); items = ((record { id = (id_at (codes "r") 47 1); as_id = None }) ∷ []) })) ∷ [])) ∷ [])) ≡ refusal (f.NotInterface (codes "t") (codes "u8")) 44 1
unfolding desc value_desc contains_borrow
row_25 = refl

-- package a:b; interface j { use d:d/t@2.0.0.{r}; }
row_27 : declared (record { string = (codes "a:b"); name = (codes "a:b"); version = None; span = (sp 8 3) }) packages_0 [] (((t.interface (id_at (codes "j") 23 1) ((t.use_item (record { path = (in_package (record { span = (sp 31 11); string = (codes "d:d/t@2.0.0"); name = (codes "d:d"); segments = (codes "t"); version = (Some (2, 0, 0, [], [])) })); items = ((record { id = (id_at (codes "r") 44 1); as_id = None }) ∷ []) })) ∷ [])) ∷ [])) ≡ refusal (f.UnknownPackage (codes "d:d")) 31 3
unfolding desc value_desc contains_borrow
row_27 = refl

-- package a:b; interface j { use a:b/nope.{r}; }
row_31 : declared (record { string = (codes "a:b"); name = (codes "a:b"); version = None; span = (sp 8 3) }) packages_0 [] (((t.interface (id_at (codes "j") 23 1) ((t.use_item (record { path = (in_package (record { span = (sp 31 8); string = (codes "a:b/nope"); name = (codes "a:b"); segments = (codes "nope"); version = None })); items = ((record { id = (id_at (codes "r") 41 1); as_id = None }) ∷ []) })) ∷ [])) ∷ [])) ≡ refusal (f.UndefinedName (codes "nope")) 35 4
unfolding desc value_desc contains_borrow
row_31 = refl

-- package a:b; interface i { type r = u8; } interface j { use a:b/i/nope.{r}; }
row_32 : declared (record { string = (codes "a:b"); name = (codes "a:b"); version = None; span = (sp 8 3) }) packages_0 [] (((t.interface (id_at (codes "i") 23 1) ((t.type_item (t.plain_type (t.alias_ty (id_at (codes "r") 32 1) (m.Ty.u8 (sp 36 2))))) ∷ [])) ∷ (t.interface (id_at (codes "j") 52 1) ((t.use_item (record { path = (in_package (record { span = (sp 60 10); string = (codes "a:b/i/nope"); name = (codes "a:b"); segments = (codes "i/nope"); version = None })); items = ((record { id = (id_at (codes "r") 72 1); as_id = None }) ∷ []) })) ∷ [])) ∷ [])) ≡ refusal (f.PackagePathMissingExport (codes "i") (codes "interface") (codes "nope")) 66 4
unfolding desc value_desc contains_borrow
row_32 = refl

-- package a:b; world w { import i; }
row_33 : declared (record { string = (codes "a:b"); name = (codes "a:b"); version = None; span = (sp 8 3) }) packages_0 [] (((t.world (id_at (codes "w") 19 1) ((t.world_import (t.item_at (at_root (id_at (codes "i") 30 1)))) ∷ [])) ∷ [])) ≡ refusal (f.UndefinedName (codes "i")) 30 1
unfolding desc value_desc contains_borrow
row_33 = refl

-- package a:b; interface i {} world w { import i; import i; export i; }
row_34 : declared (record { string = (codes "a:b"); name = (codes "a:b"); version = None; span = (sp 8 3) }) packages_0 [] (((t.interface (id_at (codes "i") 23 1) ([])) ∷ (t.world (id_at (codes "w") 34 1) ((t.world_import (t.item_at (at_root (id_at (codes "i") 45 1)))) ∷ (t.world_import (t.item_at (at_root (id_at (codes "i") 55 1)))) ∷ (t.world_export (t.item_at (at_root (id_at (codes "i") 65 1)))) ∷ [])) ∷ [])) ≡ refusal (f.DuplicateWorldItem ExternKind.Import (codes "a:b/i") (codes "w")) 55 1
unfolding desc value_desc contains_borrow
row_34 = refl

-- package a:b; interface i {} world w { import i; import a:b/i; }
row_35 : declared (record { string = (codes "a:b"); name = (codes "a:b"); version = None; span = (sp 8 3) }) packages_0 [] (((t.interface (id_at (codes "i") 23 1) ([])) ∷ (t.world (id_at (codes "w") 34 1) ((t.world_import (t.item_at (at_root (id_at (codes "i") 45 1)))) ∷ (t.world_import (t.item_at (in_package (record { span = (sp 55 5); string = (codes "a:b/i"); name = (codes "a:b"); segments = (codes "i"); version = None })))) ∷ [])) ∷ [])) ≡ refusal (f.DuplicateWorldItem ExternKind.Import (codes "a:b/i") (codes "w")) 55 5
unfolding desc value_desc contains_borrow
row_35 = refl

-- package a:b; interface i {} world w { type j = u8; import j: i; }
row_36 : declared (record { string = (codes "a:b"); name = (codes "a:b"); version = None; span = (sp 8 3) }) packages_0 [] (((t.interface (id_at (codes "i") 23 1) ([])) ∷ (t.world (id_at (codes "w") 34 1) ((t.world_type (t.plain_type (t.alias_ty (id_at (codes "j") 43 1) (m.Ty.u8 (sp 47 2))))) ∷ (t.world_import (t.item_named (id_at (codes "j") 58 1) (t.extern_ident (id_at (codes "i") 61 1)))) ∷ [])) ∷ [])) ≡ refusal (f.DuplicateWorldItem ExternKind.Import (codes "j") (codes "w")) 58 1
unfolding desc value_desc contains_borrow
row_36 = refl

-- package a:b; interface i {} world w { import j: i; type j = u8; }
row_37 : declared (record { string = (codes "a:b"); name = (codes "a:b"); version = None; span = (sp 8 3) }) packages_0 [] (((t.interface (id_at (codes "i") 23 1) ([])) ∷ (t.world (id_at (codes "w") 34 1) ((t.world_import (t.item_named (id_at (codes "j") 45 1) (t.extern_ident (id_at (codes "i") 48 1)))) ∷ (t.world_type (t.plain_type (t.alias_ty (id_at (codes "j") 56 1) (m.Ty.u8 (sp 60 2))))) ∷ [])) ∷ [])) ≡ refusal (f.DuplicateWorldItem ExternKind.Import (codes "j") (codes "w")) 56 1
unfolding desc value_desc contains_borrow
row_37 = refl

-- package a:b; type t = u8; world w { import j: t; }
row_38 : declared (record { string = (codes "a:b"); name = (codes "a:b"); version = None; span = (sp 8 3) }) packages_0 [] (((t.type_ (t.alias_ty (id_at (codes "t") 18 1) (m.Ty.u8 (sp 22 2)))) ∷ (t.world (id_at (codes "w") 32 1) ((t.world_import (t.item_named (id_at (codes "j") 43 1) (t.extern_ident (id_at (codes "t") 46 1)))) ∷ [])) ∷ [])) ≡ refusal (f.NotFuncOrInterface (codes "t") (codes "u8")) 46 1
unfolding desc value_desc contains_borrow
row_38 = refl

-- package a:b; world v { import a: func(); export b: func(); } world w { include v; include v; }
row_40 : declared (record { string = (codes "a:b"); name = (codes "a:b"); version = None; span = (sp 8 3) }) packages_0 [] (((t.world (id_at (codes "v") 19 1) ((t.world_import (t.item_named (id_at (codes "a") 30 1) (t.extern_func (record { is_async = false; params = ([]); result = None })))) ∷ (t.world_export (t.item_named (id_at (codes "b") 48 1) (t.extern_func (record { is_async = false; params = ([]); result = None })))) ∷ [])) ∷ (t.world (id_at (codes "w") 67 1) ((t.include (at_root (id_at (codes "v") 79 1)) ([])) ∷ (t.include (at_root (id_at (codes "v") 90 1)) ([])) ∷ [])) ∷ [])) ≡ refusal (f.WorldIncludeConflict ExternKind.Import (codes "a") (codes "v") (codes "w") true) 90 1
unfolding desc value_desc contains_borrow
row_40 = refl

-- package a:b; world v { import a: func(); export b: func(); } world w { include v with { a as b, b as a }; import b: func(); }
row_41 : declared (record { string = (codes "a:b"); name = (codes "a:b"); version = None; span = (sp 8 3) }) packages_0 [] (((t.world (id_at (codes "v") 19 1) ((t.world_import (t.item_named (id_at (codes "a") 30 1) (t.extern_func (record { is_async = false; params = ([]); result = None })))) ∷ (t.world_export (t.item_named (id_at (codes "b") 48 1) (t.extern_func (record { is_async = false; params = ([]); result = None })))) ∷ [])) ∷ (t.world (id_at (codes "w") 67 1) ((t.include (at_root (id_at (codes "v") 79 1)) ((record { from = (id_at (codes "a") 88 1); to = (id_at (codes "b") 93 1) }) ∷ (record { from = (id_at (codes "b") 96 1); to = (id_at (codes "a") 101 1) }) ∷ [])) ∷ (t.world_import (t.item_named (id_at (codes "b") 113 1) (t.extern_func (record { is_async = false; params = ([]); result = None })))) ∷ [])) ∷ [])) ≡ refusal (f.WorldIncludeConflict ExternKind.Import (codes "b") (codes "v") (codes "w") false) 93 1
unfolding desc value_desc contains_borrow
row_41 = refl

-- package a:b; world v { import a: func(); export b: func(); } world w { include v with { a as c, a as d }; }
row_42 : declared (record { string = (codes "a:b"); name = (codes "a:b"); version = None; span = (sp 8 3) }) packages_0 [] (((t.world (id_at (codes "v") 19 1) ((t.world_import (t.item_named (id_at (codes "a") 30 1) (t.extern_func (record { is_async = false; params = ([]); result = None })))) ∷ (t.world_export (t.item_named (id_at (codes "b") 48 1) (t.extern_func (record { is_async = false; params = ([]); result = None })))) ∷ [])) ∷ (t.world (id_at (codes "w") 67 1) ((t.include (at_root (id_at (codes "v") 79 1)) ((record { from = (id_at (codes "a") 88 1); to = (id_at (codes "c") 93 1) }) ∷ (record { from = (id_at (codes "a") 96 1); to = (id_at (codes "d") 101 1) }) ∷ [])) ∷ [])) ∷ [])) ≡ refusal (f.DuplicateWorldIncludeName (codes "a")) 96 1
unfolding desc value_desc contains_borrow
row_42 = refl

-- package a:b; world v { import a: func(); export b: func(); } world w { include v with { x as c }; }
row_43 : declared (record { string = (codes "a:b"); name = (codes "a:b"); version = None; span = (sp 8 3) }) packages_0 [] (((t.world (id_at (codes "v") 19 1) ((t.world_import (t.item_named (id_at (codes "a") 30 1) (t.extern_func (record { is_async = false; params = ([]); result = None })))) ∷ (t.world_export (t.item_named (id_at (codes "b") 48 1) (t.extern_func (record { is_async = false; params = ([]); result = None })))) ∷ [])) ∷ (t.world (id_at (codes "w") 67 1) ((t.include (at_root (id_at (codes "v") 79 1)) ((record { from = (id_at (codes "x") 88 1); to = (id_at (codes "c") 93 1) }) ∷ [])) ∷ [])) ∷ [])) ≡ refusal (f.MissingWorldInclude (codes "v") (codes "x")) 88 1
unfolding desc value_desc contains_borrow
row_43 = refl

-- package a:b; interface i {} world v { include i; }
row_44 : declared (record { string = (codes "a:b"); name = (codes "a:b"); version = None; span = (sp 8 3) }) packages_0 [] (((t.interface (id_at (codes "i") 23 1) ([])) ∷ (t.world (id_at (codes "v") 34 1) ((t.include (at_root (id_at (codes "i") 46 1)) ([])) ∷ [])) ∷ [])) ≡ refusal (f.NotWorld (codes "i") (codes "interface")) 46 1
unfolding desc value_desc contains_borrow
row_44 = refl

-- package a:b; world v { include nope; }
row_45 : declared (record { string = (codes "a:b"); name = (codes "a:b"); version = None; span = (sp 8 3) }) packages_0 [] (((t.world (id_at (codes "v") 19 1) ((t.include (at_root (id_at (codes "nope") 31 4)) ([])) ∷ [])) ∷ [])) ≡ refusal (f.UndefinedName (codes "nope")) 31 4
unfolding desc value_desc contains_borrow
row_45 = refl
