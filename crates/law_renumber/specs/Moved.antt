-- Trees under other numbers: each number of a token that a tree holds is changed.
use Rattle.std.specs.Prelude.{ℕ, map}
use Rattle.std.specs.Option.{option_map}
use Rattle.sql_token.specs.declared.token.Span.{Span}
use Rattle.sql_tree.specs.declared.kinds.StmtKind.{StmtKind}
use Rattle.sql_tree.specs.declared.nodes.Action.{Action}
use Rattle.sql_tree.specs.declared.nodes.Body.{Body}
use Rattle.sql_tree.specs.declared.nodes.Body.TheVariants as body
use Rattle.sql_tree.specs.declared.nodes.ColType.{ColType}
use Rattle.sql_tree.specs.declared.nodes.Column.{Column}
use Rattle.sql_tree.specs.declared.nodes.Constraint.{Constraint}
use Rattle.sql_tree.specs.declared.nodes.Elem.{Elem}
use Rattle.sql_tree.specs.declared.nodes.Elem.TheVariants as elem
use Rattle.sql_tree.specs.declared.nodes.Expr.{Expr, Expr-F, fold-Expr}
use Rattle.sql_tree.specs.declared.nodes.Expr.TheOpen as layer
use Rattle.sql_tree.specs.declared.nodes.Expr.TheVariants as e
use Rattle.sql_tree.specs.declared.nodes.Piece.{Piece}
use Rattle.sql_tree.specs.declared.nodes.SetPart.{SetPart}
use Rattle.sql_tree.specs.declared.nodes.Stmt.{Stmt}
use Rattle.sql_tree.specs.declared.nodes.TableWrite.{TableWrite}
use Rattle.sql_tree.specs.declared.nodes.Target.{Target}
use Rattle.sql_tree.specs.declared.nodes.ViewDefinition.{ViewDefinition}

abbrev pub span_moved : (ℕ → ℕ) → Span → Span
span_moved f s = record { first = f s.first; last = f s.last }

-- ---- expressions and types

-- an expression whose parts were moved
abbrev pub layer_moved : (ℕ → ℕ) → Expr-F Expr → Expr
layer_moved f layer.Literal = e.Literal
layer_moved f layer.Array = e.Array
layer_moved f (layer.Bin parts) = e.Bin parts
layer_moved f (layer.Call name no_args) = e.Call (option_map f name) no_args
layer_moved f (layer.Cast x) = e.Cast x
layer_moved f (layer.Collate x) = e.Collate x
layer_moved f (layer.Name path) = e.Name (span_moved f path)
layer_moved f (layer.IsNotNull x) = e.IsNotNull x
layer_moved f layer.Other = e.Other

unfoldable pub expr_moved : (ℕ → ℕ) → Expr → Expr
expr_moved f x = fold-Expr Expr (layer_moved f) x

abbrev pub type_moved : (ℕ → ℕ) → ColType → ColType
type_moved f t = record t {
  whole = span_moved f t.whole;
  inner = span_moved f t.inner;
  name = f t.name;
  args = option_map (span_moved f) t.args;
}

-- ---- constraints and columns

abbrev pub constraint_moved : (ℕ → ℕ) → Constraint → Constraint
constraint_moved f c = record c {
  name = option_map f c.name;
  first = f c.first;
  last = f c.last;
  expr = option_map (expr_moved f) c.expr;
  expr_span = option_map (span_moved f) c.expr_span;
}

abbrev pub column_moved : (ℕ → ℕ) → Column → Column
column_moved f c = record {
  name = f c.name;
  ty = option_map (type_moved f) c.ty;
  constraints = map (constraint_moved f) c.constraints;
}

abbrev pub elem_moved : (ℕ → ℕ) → Elem → Elem
elem_moved f (elem.Column c) = elem.Column (column_moved f c)
elem_moved f (elem.Constraint c) = elem.Constraint (constraint_moved f c)
elem_moved f elem.Like = elem.Like
elem_moved f elem.Other = elem.Other

-- ---- actions

abbrev pub piece_moved : (ℕ → ℕ) → Piece → Piece
piece_moved f p = record p { first = f p.first; last = f p.last; ty = option_map (type_moved f) p.ty }

abbrev pub action_moved : (ℕ → ℕ) → Action → Action
action_moved f a = record a {
  first = f a.first;
  last = f a.last;
  name = option_map f a.name;
  path = option_map (span_moved f) a.path;
  word = option_map f a.word;
  column = option_map (column_moved f) a.column;
  constraint = option_map (constraint_moved f) a.constraint;
  pieces = map (piece_moved f) a.pieces;
}

-- ---- queries and writes

abbrev pub target_moved : (ℕ → ℕ) → Target → Target
target_moved f t = record t { name = f t.name }

abbrev pub set_part_moved : (ℕ → ℕ) → SetPart → SetPart
set_part_moved f p = record p { first = f p.first; last = f p.last; targets = map (target_moved f) p.targets }

abbrev pub view_moved : (ℕ → ℕ) → ViewDefinition → ViewDefinition
view_moved f v = record v { columns = map (target_moved f) v.columns; targets = map (target_moved f) v.targets }

abbrev pub write_moved : (ℕ → ℕ) → TableWrite → TableWrite
write_moved f w = record {
  path = span_moved f w.path;
  sets = map (map (set_part_moved f)) w.sets;
  lists = map (map (target_moved f)) w.lists;
}

-- ---- statements

abbrev pub body_moved : (ℕ → ℕ) → Body → Body
body_moved f body.Kept = body.Kept
body_moved f (body.End plain chain) = body.End plain chain
body_moved f (body.Table temp guarded on_commit_drop word path elems) =
    body.Table temp guarded on_commit_drop (f word) (span_moved f path) (map (elem_moved f) elems)
body_moved f (body.Into path targets) = body.Into (span_moved f path) (map (target_moved f) targets)
body_moved f (body.Index word unique concurrently guarded name path) =
    body.Index (f word) unique (option_map f concurrently) guarded (option_map f name) (span_moved f path)
body_moved f (body.Drop word concurrently guarded paths) = body.Drop (f word) concurrently guarded (map (span_moved f) paths)
body_moved f (body.Reindex target word concurrent valued path) =
    body.Reindex target (f word) concurrent valued (option_map (span_moved f) path)
body_moved f (body.Alter path actions) = body.Alter (option_map (span_moved f) path) (map (action_moved f) actions)
body_moved f (body.Domain constraints) = body.Domain (map (constraint_moved f) constraints)
body_moved f (body.Made path guarded) = body.Made (span_moved f path) guarded
body_moved f (body.View v) = body.View (view_moved f v)
body_moved f (body.Code replace) = body.Code replace
body_moved f (body.Truncate cascade) = body.Truncate (option_map f cascade)
body_moved f (body.Setting name) = body.Setting (option_map (span_moved f) name)
body_moved f (body.Locking mode) = body.Locking mode
body_moved f (body.Refresh concurrently) = body.Refresh concurrently
body_moved f (body.Vacuum full tables) = body.Vacuum full (option_map (span_moved f) tables)
body_moved f (body.Cluster table index) = body.Cluster (option_map (span_moved f) table) (option_map f index)
body_moved f (body.Write w) = body.Write (write_moved f w)

abbrev pub form_moved : (ℕ → ℕ) → StmtKind × Body → StmtKind × Body
form_moved f r = (r.0, body_moved f r.1)

abbrev pub stmt_moved : (ℕ → ℕ) → Stmt → Stmt
stmt_moved f s = record s { first = f s.first; last = f s.last; body = body_moved f s.body }
