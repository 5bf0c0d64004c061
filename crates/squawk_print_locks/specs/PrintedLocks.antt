-- The printed form of work under locks.
use Rattle.std.specs.Prelude.{ℕ, Bool, List, ◌++◌, Option, Some, None, codes, decimal, flat_map, if◌then◌else◌}
use Rattle.squawk_print.specs.text_pos.Range.{Range}
use Rattle.lock_machine.specs.lint_lock.Lock.{printed}
use Rattle.lock_machine.specs.declared.work.Work.{Work}

-- the bytes of a table's path
abbrev pub printed_place : Range → List ℕ
printed_place path = codes "on " ++ decimal path.start ++ codes ".." ++ decimal path.end

-- the place of the table, where the work names it
abbrev pub printed_table : Option Range → List ℕ
printed_table None = codes "unnamed"
printed_table (Some path) = printed_place path

abbrev pub printed_age : Bool → List ℕ
printed_age old = if old then codes "old" else codes "new"

-- the number of the statement, and the lock
abbrev pub printed_head : Work → List ℕ
printed_head w = codes "work " ++ decimal w.stmt ++ codes ": " ++ printed w.lock ++ codes " "

-- the statement, its lock, its table and its age, on a line of their own
unfoldable pub printed_work : Work → List ℕ
printed_work w = printed_head w ++ printed_table w.path ++ codes " " ++ printed_age w.old ++ codes "\n"

abbrev pub printed_plain : Bool → List ℕ
printed_plain plain = if plain then codes "plain: yes\n" else codes "plain: no\n"

-- each work, and then whether the text is plain
abbrev pub printed_locks : List Work → Bool → List ℕ
printed_locks works plain = flat_map printed_work works ++ printed_plain plain
