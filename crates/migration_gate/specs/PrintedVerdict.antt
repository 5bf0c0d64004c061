-- The printed form of a verdict.
use Rattle.std.specs.Prelude.{ℕ, suc, ◌==◌, List, [], ◌∷◌, ◌++◌, codes, decimal, drop, flat_map, length, not, position, slice_index_or, take, unwrap_or, Ok, Err}
use Rattle.squawk_linter.specs.lint_base.Rules.{name_of}
use Rattle.squawk_print_locks.specs.lint_lock.Lock.{printed}
use Rattle.squawk_linter.specs.lock_machine.declared.work.Work.{Work}
use Rattle.squawk_print_locks.specs.PrintedLocks.{printed_table}
use Rattle.squawk_print_locks.specs.squawk_print.Escaped.{escaped}
use Rattle.migration_gate.specs.declared.verdict.GateWork.{GateWork}
use Rattle.migration_gate.specs.declared.verdict.Why.{Why}
use Rattle.migration_gate.specs.declared.verdict.Why.TheVariants.{Unterminated, Syntax, Ignored, NotPlain, Found}
use Rattle.migration_gate.specs.Verdict.{Shown}

-- ---- accepted files

-- the number of the statement, its lock and its table
abbrev pub printed_work : Work → List ℕ
printed_work w = codes "  " ++ decimal w.stmt ++ codes ": " ++ printed w.lock ++ codes " " ++ printed_table w.path ++ codes "\n"

abbrev pub printed_works : List GateWork → List ℕ
printed_works works = flat_map (λ w. printed_work w.work) works

abbrev pub printed_ok : List ℕ → List ℕ
printed_ok name = codes "ok " ++ escaped name ++ codes "\n"

-- how many works at the front are of this file: all that come before the first of another file
abbrev pub count_of_file : ℕ → List GateWork → ℕ
count_of_file file works = unwrap_or (position (λ w. not (w.file == file)) works) (length works)

-- Files by their names, the first of which has this number, each with its works. The works come file by file.
abbrev pub printed_files : ℕ → List (List ℕ) → List GateWork → List ℕ
printed_files file [] works = []
printed_files file (name ∷ names) works =
    printed_ok name ++ printed_works (take (count_of_file file works) works) ++ printed_files (suc file) names (drop (count_of_file file works) works)

-- each file with its works, and then how many files there are
abbrev pub printed_accepted : List (List ℕ) → List GateWork → List ℕ
printed_accepted names works = printed_files 0 names works ++ codes "accepted: " ++ decimal (length names) ++ codes "\n"

-- ---- a rejected file

abbrev pub printed_at : List ℕ → ℕ → List ℕ
printed_at what at = what ++ codes " at " ++ decimal at

abbrev pub printed_why : Why → List ℕ
printed_why (Unterminated at) = printed_at (codes "unterminated") at
printed_why (Syntax at) = printed_at (codes "syntax") at
printed_why (Ignored at) = printed_at (codes "ignore comment") at
printed_why NotPlain = codes "not plain"
printed_why (Found at rule) = printed_at (name_of rule) at

abbrev pub name_at : List (List ℕ) → ℕ → List ℕ
name_at names file = slice_index_or names file []

-- the file and why it does not pass
abbrev pub printed_rejected : List ℕ → Why → List ℕ
printed_rejected name why = codes "rejected " ++ escaped name ++ codes ": " ++ printed_why why ++ codes "\n"

-- ---- verdicts

-- the verdict on files of these names
abbrev pub printed_verdict : List (List ℕ) → Shown → List ℕ
printed_verdict names (Ok works) = printed_accepted names works
printed_verdict names (Err refusal) = printed_rejected (name_at names refusal.0) refusal.1
