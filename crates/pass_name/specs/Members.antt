-- The lists of columns of a statement.
use Rattle.std.specs.Prelude.{ℕ, ◌==◌, Bool, ◌&&◌, false, nat_lt, List, [], ◌∷◌, ◌++◌, length, map, if◌then◌else◌, Option, Some, None}
use Rattle.std.specs.Ordering.{on}
use Rattle.std.specs.Str.{bytes_eq}
use Rattle.lint_pass.specs.sql_name.Name.{cut_name}
use Rattle.sql_token.specs.Token.{text_of}
use Rattle.lint_pass.specs.sql_tree.declared.nodes.Elem.{Elem}
use Rattle.lint_pass.specs.sql_tree.declared.nodes.Elem.TheVariants as elem
use Rattle.lint_pass.specs.sql_tree.declared.nodes.SetPart.{SetPart}
use Rattle.lint_pass.specs.sql_tree.declared.nodes.Target.{Target}
use Rattle.lint_pass.specs.sql_tree.Range.{token_at}
use Rattle.lint_pass.specs.sql_tree.Statement.{Tree}
use Rattle.pass_name.specs.declared.members.Member.{Member}
use Rattle.pass_name.specs.declared.members.Removable.{Removable}

-- the name that the token of this number gives, cut to what PostgreSQL tells names apart by: 63 bytes
abbrev pub cut_at : Tree → ℕ → List ℕ
cut_at tree number = cut_name (text_of tree.text (token_at tree.toks number))

abbrev pub key_of : Tree → Member → List ℕ
key_of tree m = cut_at tree m.name

-- the two names are equal, as far as PostgreSQL keeps them
abbrev pub same_name : Tree → Member → Member → Bool
same_name tree = on (key_of tree) bytes_eq

-- ---- lists of names

abbrev pub member_of : Target → Member
member_of t = record { name = t.name; partial = t.partial; part = None }

abbrev pub column_of : Elem → Option Member
column_of (elem.Column c) = Some (record { name = c.name; partial = false; part = None })
column_of _ = None

-- ---- SET clauses

-- the part, where it sets one column, in no list, and another part follows
abbrev pub removable : SetPart → List SetPart → Option Removable
removable part [] = None
removable part (next ∷ later) =
    if part.single && length part.targets == 1 then Some (record { first = part.first; last = part.last; next = next.first }) else None

abbrev pub assigned_in : Option Removable → Target → Member
assigned_in part t = record { name = t.name; partial = t.partial; part = part }

-- the names of a clause, each with its part
unfoldable pub assigned : List SetPart → List Member
assigned [] = []
assigned (part ∷ later) = map (assigned_in (removable part later)) part.targets ++ assigned later

-- ---- lists before a clause

abbrev pub first_name : List Target → ℕ
first_name [] = 0
first_name (t ∷ ts) = t.name

abbrev pub first_token : List SetPart → ℕ
first_token [] = 0
first_token (part ∷ parts) = part.first

-- the lists that begin before this token, as far as they go
unfoldable pub lists_before : ℕ → List (List Target) → List (List Target)
lists_before token [] = []
lists_before token (ts ∷ lists) = if nat_lt (first_name ts) token then ts ∷ lists_before token lists else []

-- the others
unfoldable pub lists_from : ℕ → List (List Target) → List (List Target)
lists_from token [] = []
lists_from token (ts ∷ lists) = if nat_lt (first_name ts) token then lists_from token lists else ts ∷ lists
