-- What a walk over the statements knows of the block that may have begun.
use Rattle.std.specs.Prelude.{ℕ, Bool, false, ◌||◌, List, [], ◌∷◌, if◌then◌else◌, Option, Some, None}
use Rattle.std.specs.List.{flat_map}
use Rattle.std.specs.Option.{option_map, option_to_list}
use Rattle.lint_ignore.specs.sql_tree.declared.nodes.Stmt.{Stmt}
use Rattle.lint_ignore.specs.sql_tree.Statement.{Tree}
use Rattle.lint_transaction.specs.Earlier.{any_between, concat_below}
use Rattle.lint_transaction.specs.Transaction.{is_begin_kind}
use Rattle.lint_pass.specs.declared.blocks.Block.{Block}
use Rattle.lint_pass.specs.declared.blocks.Opening.{Opening}
use Rattle.lint_pass.specs.Blocks.{is_end_kind, is_stamp, leads_to, stamps_at}

abbrev pub opening_at : Tree → ℕ → ℕ → List Opening
opening_at tree i b =
    if leads_to tree b i then record { begin = b; is_stamped = any_between (stamps_at tree) b i } ∷ [] else []

-- the BEGIN that leads to statement i, if there is one
abbrev pub openings : Tree → ℕ → List Opening
openings tree i = concat_below (opening_at tree i) i

abbrev pub stamped : Bool → Opening → Opening
stamped stamp o = record o { is_stamped = o.is_stamped || stamp }

-- the one after s, which is statement i
abbrev pub opening_after : Tree → Stmt → ℕ → Option Opening → Option Opening
opening_after tree s i o =
    if is_begin_kind s.kind then Some (record { begin = i; is_stamped = false })
    else (if is_end_kind s.kind then None else option_map (stamped (is_stamp tree s)) o)

abbrev pub block_from : ℕ → Opening → List Block
block_from e o = if o.is_stamped then record { first = o.begin; last = e } ∷ [] else []

-- the block that s, which is statement i, ends
abbrev pub block_by : Stmt → ℕ → Option Opening → List Block
block_by s i o = if is_end_kind s.kind then flat_map (block_from i) (option_to_list o) else []
