-- The root of the workspace that a client names when it begins.
use Rattle.std.specs.Prelude.{ℕ, List, [], ◌∷◌, Option, Some, None, codes, drop, length, nat_eq, option_and_then, take, if◌then◌else◌}
use Rattle.std.specs.Cmp.Lexicographic.{pointwise}
use Rattle.std.specs.Str.{is_utf8}
use Rattle.percent_encoding.specs.Percent.{percent_decode}
use Rattle.serde_json.specs.Data.{Data}
use Rattle.serde_json.specs.Find.{at, get}
use Rattle.lsp_read.specs.Params.{text_at}

-- what follows these bytes at the start of others
unfoldable pub after : List ℕ → List ℕ → Option (List ℕ)
after front bytes = if pointwise nat_eq (take (length front) bytes) front then Some (drop (length front) bytes) else None

-- what follows, or else all of them
abbrev pub rest_or : Option (List ℕ) → List ℕ → List ℕ
rest_or None bytes = bytes
rest_or (Some rest) bytes = rest

-- without the name of this host at its start
unfoldable pub without_host : List ℕ → List ℕ
without_host bytes = rest_or (after (codes "localhost") bytes) bytes

-- a path where something follows
abbrev pub path_if : Option (List ℕ) → List ℕ → Option (List ℕ)
path_if None path = None
path_if (Some rest) path = Some path

-- a path, where it is absolute
unfoldable pub absolute : List ℕ → Option (List ℕ)
absolute path = path_if (after (codes "/") path) path

-- the path of a file of this host, as its URI has it: `file:///a/b` and `file://localhost/a/b`
unfoldable pub path_in : List ℕ → Option (List ℕ)
path_in uri = option_and_then (λ rest. absolute (without_host rest)) (after (codes "file://") uri)

-- its bytes, where they are UTF-8
unfoldable pub decoded : List ℕ → Option (List ℕ)
decoded path = if is_utf8 (percent_decode path) then Some (percent_decode path) else None

-- the path that a URI names
unfoldable pub root_at : List ℕ → Option (List ℕ)
root_at uri = option_and_then decoded (path_in uri)

-- a text, where it is not empty
abbrev pub if_any : List ℕ → Option (List ℕ)
if_any [] = None
if_any (byte ∷ rest) = Some (byte ∷ rest)

-- the text that a member is, where it is not empty
unfoldable pub named_at : List ℕ → Data → Option (List ℕ)
named_at key d = option_and_then if_any (text_at key d)

-- the URI of the first folder of a workspace
unfoldable pub folder_in : Data → Option (List ℕ)
folder_in params = option_and_then (λ folders. option_and_then (named_at (codes "uri")) (at 0 folders)) (get (codes "workspaceFolders") params)

-- the root by the first folder, or else by the URI, or else by the path that is named
abbrev pub root_by : Option (List ℕ) → Option (List ℕ) → Option (List ℕ) → Option (List ℕ)
root_by (Some folder) uri path = root_at folder
root_by None (Some uri) path = root_at uri
root_by None None path = path

-- the root that the parameters of `initialize` name
unfoldable pub root_in : Data → Option (List ℕ)
root_in params = root_by (folder_in params) (named_at (codes "rootUri") params) (named_at (codes "rootPath") params)
