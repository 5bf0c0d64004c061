-- A table, by the parts of its statement.
use Rattle.std.specs.Prelude.{Bool, List, Option, Some}
use Rattle.std.specs.Option.{option_and_then}
use Rattle.sql_tree.specs.declared.forms.Captures.{Captures}
use Rattle.sql_tree.specs.declared.nodes.Body.{Body}
use Rattle.sql_tree.specs.declared.nodes.Body.TheVariants as body
use Rattle.sql_tree.specs.declared.nodes.Elem.{Elem}

-- by what its front kept, whether ON COMMIT DROP is in its tail, and the elements of its list
abbrev pub table_of : Captures → Bool → List Elem → Option Body
table_of c on_commit_drop elems =
    option_and_then (λ word. option_and_then (λ path. Some (body.Table c.temp c.guarded on_commit_drop word path elems)) c.path) c.word
