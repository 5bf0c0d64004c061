-- The word CONCURRENTLY after the word or the path that its form gives: the same form, with the mark.
use Rattle.std.specs.Prelude.{◌≡◌, ℕ, true, false, List, [], ◌∷◌, ◌++◌, length, Some}
use Rattle.std.specs.Option.{option_map}
use Rattle.law_edit_cuts.specs.sql_keyword.declared.words.Keyword.{Keyword}
use Rattle.law_edit_cuts.specs.sql_keyword.declared.words.TheConstants.Keyword as keyword
use Rattle.law_edit_cuts.specs.sql_token.declared.terminal.Symbol.TheVariants as symbol
use Rattle.law_edit_cuts.specs.sql_token.declared.terminal.Terminal.{Terminal}
use Rattle.law_edit_cuts.specs.sql_token.Terminal.{is_name}
use Rattle.law_edit_cuts.specs.sql_tree.declared.kinds.StmtKind.{StmtKind}
use Rattle.law_edit_cuts.specs.sql_tree.declared.kinds.StmtKind.TheVariants as stmt
use Rattle.law_edit_cuts.specs.sql_tree.declared.nodes.Action.{Action}
use Rattle.law_edit_cuts.specs.sql_tree.declared.nodes.Body.{Body}
use Rattle.law_edit_cuts.specs.sql_tree.declared.nodes.Body.TheVariants as body
use Rattle.law_edit_cuts.specs.sql_tree.Action.{action}
use Rattle.law_edit_cuts.specs.sql_tree.Forms.{names_end}
use Rattle.law_edit_cuts.specs.sql_tree.Split.{begins_with, begins_list, closing}
use Rattle.law_edit_cuts.specs.sql_tree.Statement.{form_of}

-- this key word, as token n
abbrev pub key : Keyword → ℕ → Terminal
key w n = record { symbol = symbol.Keyword w; number = n }

-- the body with the mark, which is token n
abbrev pub concurrent_body : ℕ → Body → Body
concurrent_body n (body.Index word unique concurrently guarded name path) = body.Index word unique (Some n) guarded name path
concurrent_body n (body.Drop word concurrently guarded paths) = body.Drop word true guarded paths
concurrent_body n (body.Reindex target word concurrent valued path) = body.Reindex target word true valued path
concurrent_body n b = b

abbrev pub concurrent_form : ℕ → StmtKind × Body → StmtKind × Body
concurrent_form n f = (f.0, concurrent_body n f.1)

-- CREATE INDEX without the word (PostgreSQL manual, CREATE INDEX)
abbrev pub CreateIndexConcurrently : Type 0
CreateIndexConcurrently =
    (c x n : ℕ) (rest : List Terminal) → begins_with keyword.CONCURRENTLY rest ≡ false →
    form_of (key keyword.CREATE c ∷ key keyword.INDEX x ∷ key keyword.CONCURRENTLY n ∷ rest)
    ≡ option_map (concurrent_form n) (form_of (key keyword.CREATE c ∷ key keyword.INDEX x ∷ rest))

-- CREATE UNIQUE INDEX
abbrev pub CreateUniqueIndexConcurrently : Type 0
CreateUniqueIndexConcurrently =
    (c u x n : ℕ) (rest : List Terminal) → begins_with keyword.CONCURRENTLY rest ≡ false →
    form_of (key keyword.CREATE c ∷ key keyword.UNIQUE u ∷ key keyword.INDEX x ∷ key keyword.CONCURRENTLY n ∷ rest)
    ≡ option_map (concurrent_form n) (form_of (key keyword.CREATE c ∷ key keyword.UNIQUE u ∷ key keyword.INDEX x ∷ rest))

-- DROP INDEX (manual: DROP INDEX)
abbrev pub DropIndexConcurrently : Type 0
DropIndexConcurrently =
    (c x n : ℕ) (rest : List Terminal) → begins_with keyword.CONCURRENTLY rest ≡ false →
    form_of (key keyword.DROP c ∷ key keyword.INDEX x ∷ key keyword.CONCURRENTLY n ∷ rest)
    ≡ option_map (concurrent_form n) (form_of (key keyword.DROP c ∷ key keyword.INDEX x ∷ rest))

-- REINDEX without options (manual: REINDEX)
abbrev pub ReindexConcurrently : Type 0
ReindexConcurrently =
    (c n : ℕ) (target : Terminal) (rest : List Terminal) → begins_list (target ∷ []) ≡ false → begins_with keyword.CONCURRENTLY rest ≡ false →
    form_of (key keyword.REINDEX c ∷ target ∷ key keyword.CONCURRENTLY n ∷ rest)
    ≡ option_map (concurrent_form n) (form_of (key keyword.REINDEX c ∷ target ∷ rest))

-- REINDEX with options, which are all that comes before the word of what is rebuilt
abbrev pub ReindexOptionsConcurrently : Type 0
ReindexOptionsConcurrently =
    (c n : ℕ) (options : List Terminal) (target : Terminal) (rest : List Terminal) → begins_list options ≡ true →
    closing 0 0 (options ++ target ∷ rest) ≡ length options → begins_with keyword.CONCURRENTLY rest ≡ false →
    form_of (key keyword.REINDEX c ∷ (options ++ target ∷ key keyword.CONCURRENTLY n ∷ rest))
    ≡ option_map (concurrent_form n) (form_of (key keyword.REINDEX c ∷ (options ++ target ∷ rest)))

-- the action that ends with the mark
abbrev pub concurrent_action : ℕ → Action → Action
concurrent_action n a = record a { last = n; word = Some n }

-- DETACH PARTITION path, where no word follows (manual: ALTER TABLE, DETACH PARTITION)
abbrev pub DetachConcurrently : Type 0
DetachConcurrently =
    (d x n e : ℕ) (t : Terminal) (path : List Terminal) → is_name t ≡ true → names_end t.number path ≡ (e, []) →
    action stmt.AlterTable (key keyword.DETACH d ∷ key keyword.PARTITION x ∷ t ∷ (path ++ key keyword.CONCURRENTLY n ∷ []))
    ≡ option_map (concurrent_action n) (action stmt.AlterTable (key keyword.DETACH d ∷ key keyword.PARTITION x ∷ t ∷ path))
