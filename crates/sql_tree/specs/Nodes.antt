-- The nodes of a tree that laws and passes speak of, in the order of their places, and the numbers of their first tokens.
use Rattle.std.specs.Prelude.{ℕ, List, [], ◌∷◌, ◌++◌, map, Option, Some, None}
use Rattle.std.specs.List.{flat_map}
use Rattle.std.specs.Option.{option_to_list}
use Rattle.sql_tree.specs.declared.nodes.Action.{Action}
use Rattle.sql_tree.specs.declared.nodes.Body.{Body}
use Rattle.sql_tree.specs.declared.nodes.Body.TheVariants as body
use Rattle.sql_tree.specs.declared.nodes.ColType.{ColType}
use Rattle.sql_tree.specs.declared.nodes.Column.{Column}
use Rattle.sql_tree.specs.declared.nodes.Elem.{Elem}
use Rattle.sql_tree.specs.declared.nodes.Elem.TheVariants as elem
use Rattle.sql_tree.specs.Statement.{Tree}

-- the actions of an ALTER statement
abbrev pub actions_in : Body → List Action
actions_in (body.Alter path actions) = actions
actions_in _ = []

-- the elements of a table's list
abbrev pub elements_in : Body → List Elem
elements_in (body.Table temp guarded on_commit_drop word path elems) = elems
elements_in _ = []

-- the first token of a column or of a constraint; of the other elements none is kept
abbrev pub element_start : Elem → List ℕ
element_start (elem.Column c) = c.name ∷ []
element_start (elem.Constraint c) = c.first ∷ []
element_start elem.Like = []
element_start elem.Other = []

abbrev pub statement_starts : Tree → List ℕ
statement_starts tree = map (λ s. s.first) tree.stmts

abbrev pub action_starts : Tree → List ℕ
action_starts tree = flat_map (λ s. map (λ a. a.first) (actions_in s.body)) tree.stmts

abbrev pub element_starts : Tree → List ℕ
element_starts tree = flat_map (λ s. flat_map element_start (elements_in s.body)) tree.stmts

-- the types of the columns of a table's list
abbrev pub element_types : Elem → List ColType
element_types (elem.Column c) = option_to_list c.ty
element_types _ = []

-- the types of an action: that of the column that it adds, and those in its pieces
abbrev pub added_types : Option Column → List ColType
added_types None = []
added_types (Some c) = option_to_list c.ty

abbrev pub action_types : Action → List ColType
action_types a = added_types a.column ++ flat_map (λ p. option_to_list p.ty) a.pieces

-- the column types of a statement
abbrev pub types_in : Body → List ColType
types_in b = flat_map element_types (elements_in b) ++ flat_map action_types (actions_in b)

abbrev pub type_starts : Tree → List ℕ
type_starts tree = flat_map (λ s. map (λ t. t.whole.first) (types_in s.body)) tree.stmts
