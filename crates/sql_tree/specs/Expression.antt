-- Expressions (PostgreSQL manual, section 4.2): which reading one has, and its tree.
use Rattle.std.specs.Prelude.{ℕ, suc, zero, ◌+◌, ◌-◌, ◌==◌, nat_lt, nat_le, Bool, true, false, not, ◌&&◌, ◌||◌, if◌then◌else◌, List, [], ◌∷◌, length, take, drop, map, slice_index_or, Option, Some, None}
use Rattle.sql_token.specs.sql_keyword.declared.words.TheConstants.Keyword as keyword
use Rattle.sql_token.specs.declared.token.Span.{Span}
use Rattle.sql_token.specs.declared.terminal.Symbol.{Symbol}
use Rattle.sql_token.specs.declared.terminal.Symbol.TheVariants as s
use Rattle.sql_token.specs.declared.terminal.Terminal.{Terminal}
use Rattle.sql_token.specs.Terminal.{is_keyword}
use Rattle.sql_token.specs.Depth.{nothing}
use Rattle.sql_tree.specs.declared.nodes.Expr.{Expr}
use Rattle.sql_tree.specs.declared.nodes.Expr.TheVariants as e
use Rattle.sql_tree.specs.declared.shape.Shape.{Shape}
use Rattle.sql_tree.specs.declared.shape.Shape.TheVariants.{Literal, Array, Bin, Call, Cast, Collate, Name, IsNotNull, Other}
use Rattle.sql_tree.specs.Split.{before, has, split, word, operator, cast}
use Rattle.sql_tree.specs.Groups.{is_empty, is_list, is_square, inside_list, path_first}

-- ---- IS NOT NULL

-- the terminal that is there n before the end
abbrev pub from_end : ℕ → List Terminal → Terminal
from_end n ts = slice_index_or ts (length ts - n) nothing

unfoldable pub ends_not_null : List Terminal → Bool
ends_not_null ts =
    nat_le 3 (length ts) && is_keyword keyword.IS (from_end 3 ts) && is_keyword keyword.NOT (from_end 2 ts)
    && is_keyword keyword.NULL (from_end 1 ts)

-- The part before IS NOT NULL is not empty, has no operator at depth 0, and does not itself end with IS NOT NULL.
unfoldable pub is_not_null : List Terminal → Bool
is_not_null ts =
    nat_lt 3 (length ts) && ends_not_null ts && not (has operator (take (length ts - 3) ts))
    && not (ends_not_null (take (length ts - 3) ts))

-- ---- operators and casts

abbrev pub all_full_of : List (List Terminal) → Bool
all_full_of [] = true
all_full_of (x ∷ xs) = if is_empty x then false else all_full_of xs

-- No part between operators is empty.
unfoldable pub all_full : List Terminal → Bool
all_full ts = all_full_of (split operator ts)

-- The mark after n terminals decides, and it is of what comes before it. Neither side is empty.
unfoldable pub cast_at : List Terminal → ℕ → Shape
cast_at ts n =
    if is_keyword keyword.COLLATE (slice_index_or ts n nothing)
    then (if n == 0 || n + 1 == length ts then Other else Collate n)
    else (if n == 0 || nat_le (length ts) (n + 2) then Other else Cast 0 n)

-- ---- what has neither

abbrev pub is_literal_symbol : Symbol → Bool
is_literal_symbol s.One = true
is_literal_symbol s.Number = true
is_literal_symbol s.Str = true
is_literal_symbol s.Dollar = true
is_literal_symbol _ = false

-- a number, a string constant, or TRUE, FALSE or NULL
unfoldable pub is_literal : Terminal → Bool
is_literal t = is_literal_symbol t.symbol || is_keyword keyword.TRUE t || is_keyword keyword.FALSE t || is_keyword keyword.NULL t

-- What follows the word CAST: a bracket list with an AS in it, the first one of depth 0.
unfoldable pub cast_call : List Terminal → Option Shape
cast_call ts =
    if is_list ts && has (word keyword.AS) (inside_list ts) then Some (Cast 2 (before (word keyword.AS) (inside_list ts))) else None

-- the name of a path of one name
abbrev pub name_of : Bool → Span → Option ℕ
name_of is_one path = if is_one then Some path.first else None

-- A path alone is a name, and one with a bracket list a call.
unfoldable pub after_path : Bool → Span → List Terminal → Shape
after_path is_one path rest =
    if is_empty rest then Name path
    else (if is_list rest then Call (name_of is_one path) (length rest == 2) else Other)

abbrev pub named_by : List Terminal → Option (Span × List Terminal) → Shape
named_by ts None = Other
named_by ts (Some r) = after_path (length r.1 + 1 == length ts) r.0 r.1

unfoldable pub named : List Terminal → Shape
named ts = named_by ts (path_first ts)

abbrev pub or_named : List Terminal → Option Shape → Shape
or_named ts None = named ts
or_named ts (Some shape) = shape

unfoldable pub leaf : List Terminal → Shape
leaf [] = Other
leaf (t ∷ ts) =
    if is_empty ts && is_literal t then Literal
    else (if is_keyword keyword.ARRAY t && is_square ts then Array
    else (if is_keyword keyword.CAST t then or_named (t ∷ ts) (cast_call ts) else named (t ∷ ts)))

-- ---- the first reading that fits

unfoldable pub shape_of : List Terminal → Shape
shape_of ts =
    if is_not_null ts then IsNotNull (length ts - 3)
    else (if has operator ts then (if all_full ts then Bin else Other)
    else (if nat_lt (before cast ts) (length ts) then cast_at ts (before cast ts) else leaf ts))

-- ---- the tree

-- the terminals of a part that is shorter than the whole
abbrev pub part : ℕ → ℕ → List Terminal → List Terminal
part from len ts = if nat_lt (from + len) (length ts) then take len (drop from ts) else []

-- the tree of a shape, where f gives the trees of its parts
abbrev pub tree_by : (List Terminal → Expr) → List Terminal → Shape → Expr
tree_by f ts Literal = e.Literal
tree_by f ts Array = e.Array
tree_by f ts Bin = e.Bin (map f (split operator ts))
tree_by f ts (Call name no_args) = e.Call name no_args
tree_by f ts (Cast from len) = e.Cast (f (part from len ts))
tree_by f ts (Collate len) = e.Collate (f (part 0 len ts))
tree_by f ts (Name path) = e.Name path
tree_by f ts (IsNotNull len) = e.IsNotNull (f (part 0 len ts))
tree_by f ts Other = e.Other

-- The tree of an expression in which expressions nest less deep than this number.
unfoldable pub tree : ℕ → List Terminal → Expr
tree zero ts = e.Other
tree (suc n) ts = tree_by (tree n) ts (shape_of ts)

abbrev pub parts_of : ℕ → List Terminal → List Expr
parts_of n ts = map (tree n) (split operator ts)

-- The expression that these terminals are. Each part is shorter than the whole, so its length is number enough. The
-- number changes nothing: the tree is that of its shape, over the trees of its parts.
unfoldable pub expression_of : List Terminal → Expr
expression_of ts = tree (suc (length ts)) ts
