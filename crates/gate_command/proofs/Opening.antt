-- Files that end inside a transaction, one by one.
use Rattle.std.proofs.Common.{◌≡◌, ◌+◌, ◌≤◌, ap, arith, subst, sym, ℕ, zero, suc, Bool, true, false, List, [], ◌∷◌, length, drop, take, Some}
use Rattle.std.proofs.lemmas.List.{take_all}
use Rattle.std.proofs.lemmas.Option.{slice_get_within}
use Rattle.std.specs.Prelude.{slice_get}
use Rattle.gate_report.specs.lint_transaction.Transaction.{is_open}
use Rattle.gate_report.specs.sql_token.Token.{Text}
use Rattle.gate_report.specs.sql_tree.Statement.{Tree}
use Rattle.gate_report.specs.sql_read.Cause.{IsTreeOf}
use Rattle.gate_report.specs.migration_gate.declared.file.GateFile.{GateFile}
use Rattle.gate_report.specs.migration_gate.Run.{EndsOutside}
use Rattle.gate_report.specs.migration_gate.Verdict.{texts_of}
use Rattle.gate_command.specs.Open.{AllEndOutside, IsFirstOpen, NeverInside, TellsOpen}

-- what is told of the one tree of a text
pub tells_open : (text : Text) (tree : Tree) (b : Bool) → IsTreeOf text tree → ((t : Tree) → IsTreeOf text t → tree ≡ t) → b ≡ is_open false tree (length tree.stmts) → TellsOpen text b
tells_open text tree true is only e = record { tree = tree; of_text = is; goes_on = sym e }
tells_open text tree false is only e = λ t of_text. subst EndsOutside (only t of_text) (sym e)

drop_at : (ts : List Text) (k : ℕ) (text : Text) → slice_get ts k ≡ Some text → drop k ts ≡ text ∷ drop (suc k) ts
drop_at [] k text e = absurd (omega (arith, slice_get_within [] k text e))
drop_at (t ∷ ts) zero text e = let same : t ≡ text = cc in ap (λ x. x ∷ ts) same
drop_at (t ∷ ts) (suc k) text e = drop_at ts k text e

never_at : (t text : Text) → t ≡ text → NeverInside text → NeverInside t
never_at t text e never = subst NeverInside (sym e) never

pub outside_next : (ts : List Text) (k : ℕ) (text : Text) → slice_get ts k ≡ Some text → AllEndOutside (take k ts) → NeverInside text → AllEndOutside (take (suc k) ts)
outside_next [] k text e so never = absurd (omega (arith, slice_get_within [] k text e))
outside_next (t ∷ ts) zero text e so never = let same : t ≡ text = cc in (never_at t text same never, tt)
outside_next (t ∷ ts) (suc k) text e so never = (so.0, outside_next ts k text e so.1 never)

pub outside_more : (ts : List Text) (k : ℕ) (text : Text) (b : Bool) → slice_get ts k ≡ Some text → AllEndOutside (take k ts) → b ≡ false → TellsOpen text b → AllEndOutside (take (k + 1) ts)
outside_more ts k text b e so is told =
    let next : suc k ≡ k + 1 = omega arith in
    subst (λ (n : ℕ). AllEndOutside (take n ts)) next (outside_next ts k text e so (subst (TellsOpen text) is told))

pub first_open : (ts : List Text) (k : ℕ) (text : Text) (b : Bool) → slice_get ts k ≡ Some text → AllEndOutside (take k ts) → b ≡ true → TellsOpen text b → IsFirstOpen ts k
first_open ts k text b e so is told =
    record { text = text; others = drop (suc k) ts; here = drop_at ts k text e; inside = subst (TellsOpen text) is told; before = so }

count_texts : (files : List GateFile) → length (texts_of files) ≡ length files
count_texts [] = λ i. 0
count_texts (f ∷ fs) = ap suc (count_texts fs)

pub all_outside : (files : List GateFile) (k : ℕ) → length files ≤ k → AllEndOutside (take k (texts_of files)) → AllEndOutside (texts_of files)
all_outside files k l so =
    let within : length (texts_of files) ≤ k = omega (arith, count_texts files) in
    subst AllEndOutside (take_all k (texts_of files) within) so
