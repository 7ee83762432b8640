-- The JSON texts of small documents from outside.
use Rattle.std.specs.Prelude.{ℕ, List, [], ◌∷◌, ◌++◌, Some, None, codes}
use Rattle.wac_parser_tree.specs.Trees as t

-- `package a:b targets c:d/e;`
abbrev pub target_json : List ℕ
target_json =
    codes "{\"directive\":{\"package\":{\"name\":\"a:b\",\"span\":{\"length\":3,\"offset\":8},\"string\":\"a:b\",\"version\":null},"
    ++ codes "\"targets\":{\"name\":\"c:d\",\"segments\":\"e\",\"span\":{\"length\":5,\"offset\":20},\"string\":\"c:d/e\",\"version\":null}},"
    ++ codes "\"docs\":[],\"statements\":[]}"

-- `package a:b; type t = result<_, _>;`
abbrev pub result_json : List ℕ
result_json =
    codes "{\"directive\":{\"package\":{\"name\":\"a:b\",\"span\":{\"length\":3,\"offset\":8},\"string\":\"a:b\",\"version\":null}},"
    ++ codes "\"docs\":[],\"statements\":[{\"Type\":{\"type\":{\"alias\":{\"docs\":[],\"id\":{\"span\":{\"length\":1,\"offset\":18},"
    ++ codes "\"string\":\"t\"},\"kind\":{\"type\":{\"result\":{\"err\":null,\"ok\":null,\"span\":{\"length\":12,\"offset\":22}}}}}}}}]}"

-- `/// a "b" \ c` and a tab and `d`, and `package a:b@1.0.0-x.1+y;` on the next line
abbrev pub with_comment : t.Document
with_comment = record {
  docs = record { comment = codes "a \"b\" \\ c\td"; span = record { offset = 0; length = 15 } } ∷ [];
  directive = record {
    «package» =
        record {
          string = codes "a:b@1.0.0-x.1+y";
          name = codes "a:b";
          version = Some
              (1, 0, 0, codes "x.1", codes "y");
          span = record { offset = 24; length = 15 };
        };
    targets = None;
  };
  statements = [];
}

abbrev pub comment_json : List ℕ
comment_json =
    codes "{\"directive\":{\"package\":{\"name\":\"a:b\",\"span\":{\"length\":15,\"offset\":24},\"string\":\"a:b@1.0.0-x.1+y\","
    ++ codes "\"version\":\"1.0.0-x.1+y\"}},\"docs\":[{\"comment\":\"a \\\"b\\\" \\\\ c\\td\",\"span\":{\"length\":15,\"offset\":0}}],"
    ++ codes "\"statements\":[]}"
