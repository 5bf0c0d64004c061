-- One token more.
use Rattle.std.proofs.Common.{◌≡◌, ℕ, ◌+◌, ◌-◌, ◌<◌, ◌≤◌, false, List, ap, suc, arith}
use Rattle.std.specs.Prelude.{◌||◌}
use Rattle.lint_ignore.specs.sql_tree.Statement.{Tree}
use Rattle.fix_class.specs.Words.{is_word_at, says_from}

pub one_more : (tree : Tree) (word : List ℕ) (i n : ℕ) → i < n → says_from tree word i (n - i) ≡ (is_word_at tree word i || says_from tree word (i + 1) (n - (i + 1)))
one_more tree word i n h =
    let more : n - i ≡ suc (n - (i + 1)) = omega arith in
    ap (says_from tree word i) more

pub no_more : (tree : Tree) (word : List ℕ) (i n : ℕ) → n ≤ i → says_from tree word i (n - i) ≡ false
no_more tree word i n h =
    let none : n - i ≡ 0 = omega arith in
    ap (says_from tree word i) none
