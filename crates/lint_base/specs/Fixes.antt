-- Fixes, as clauses see them.
use Rattle.std.specs.Prelude.{ℕ, Bool, List, nat_eq}
use Rattle.std.specs.declared.cmp.Ordering.{Ordering}
use Rattle.std.specs.Cmp.Lexicographic.{pointwise, slice_cmp}
use Rattle.std.specs.Ordering.{eq_of_both, nat_cmp, on, then_cmp}
use Rattle.lint_base.specs.declared.edit.Edit.{Edit}
use Rattle.lint_base.specs.Edits.{edit_cmp, edit_eq}

-- a fix: the bytes of its title, and its edits in order
pub record FixValue : Type 0 where
  pub title : List ℕ
  pub edits : List Edit

-- `==` on fixes: equal titles, and equal edits
abbrev pub fix_eq : FixValue → FixValue → Bool
fix_eq = eq_of_both (on (λ f. f.title) (pointwise nat_eq)) (on (λ f. f.edits) (pointwise edit_eq))

-- the order of fixes: by title, and then by edits
abbrev pub fix_cmp : FixValue → FixValue → Ordering
fix_cmp = then_cmp (on (λ f. f.title) (slice_cmp nat_cmp)) (on (λ f. f.edits) (slice_cmp edit_cmp))
