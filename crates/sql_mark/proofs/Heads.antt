-- What comes before a mark where there is no head, and before a mark that is told by its terminal alone.
use Rattle.std.proofs.Common.{◌≡◌, ℕ, suc, ◌+◌, ◌==◌, Bool, true, false, ◌&&◌, List, [], ◌∷◌, refl, Option, Some, None}
use Rattle.sql_token.specs.declared.terminal.Terminal.{Terminal}
use Rattle.sql_token.specs.Terminal.{is_opener, is_closer}
use Rattle.sql_token.specs.Depth.{one_if}
use Rattle.sql_tree.specs.Split.{Test, before_from, equals, clause_end}
use Rattle.sql_tree.specs.Pieces.{before_after_head}

pub no_head : (mark : Test) (e : Option Terminal) (o c : ℕ) (ts : List Terminal) → before_after_head mark 0 e o c ts ≡ before_from mark e o c ts
no_head mark e o c [] = refl
no_head mark e o c (t ∷ ts) = rw (no_head mark (Some t) (o + one_if (is_opener t)) (c + one_if (is_closer t)) ts) refl

pub equals_alone : (e : Option Terminal) (o c : ℕ) (ts : List Terminal) → before_from equals e o c ts ≡ before_from equals None o c ts
unfolding equals
equals_alone e o c [] = refl
equals_alone e o c (t ∷ ts) = refl

pub clause_end_alone : (e : Option Terminal) (o c : ℕ) (ts : List Terminal) → before_from clause_end e o c ts ≡ before_from clause_end None o c ts
unfolding clause_end
clause_end_alone e o c [] = refl
clause_end_alone e o c (t ∷ ts) = refl
