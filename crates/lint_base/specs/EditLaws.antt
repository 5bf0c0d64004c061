-- The orders of edits and of fixes are total, and tie exactly where these are equal.
use Rattle.std.specs.Prelude.{◌≡◌, ℕ, Bool, ◌&&◌, nat_eq, List, Option, Some, None}
use Rattle.std.specs.declared.cmp.Ordering.{Ordering}
use Rattle.std.specs.declared.cmp.Ordering.TheVariants.{Less, Equal, Greater}
use Rattle.std.proofs.Common.{◌∙◌, ap, refl}
use Rattle.std.specs.Cmp.{IsTotalOrder, IsEquivalence, both_tied, nat_cmp_total, nat_eq_equiv, and_equiv, on_equiv, then_total, unsigned_ties, on_total}
use Rattle.std.specs.Cmp.Lexicographic.{nat_list_cmp_total, nat_list_eq_equiv, lists_equiv, lists_total, lists_ties, options_equiv, options_total, texts_ties, pointwise, slice_cmp}
use Rattle.std.specs.Option.{option_cmp, option_eq}
use Rattle.std.specs.Ordering.{eq_by_cmp, is_eq, nat_cmp, ordering_then}
use Rattle.lint_base.specs.declared.edit.Edit.{Edit}
use Rattle.lint_base.specs.Fixes.{FixValue, fix_cmp, fix_eq}
use Rattle.lint_base.specs.Edits.{edit_cmp, edit_eq}

-- the order of edits is total
pub edit_cmp-total : IsTotalOrder edit_cmp
edit_cmp-total = then_total (on_total (λ e. e.text_range.start) nat_cmp_total) (then_total (on_total (λ e. e.text_range.end) nat_cmp_total) (on_total (λ e. e.text) (options_total nat_list_cmp_total)))

-- the order of two edits' texts ties exactly where they are equal
option_ties : (x y : Option (List ℕ)) → option_eq (pointwise nat_eq) x y ≡ eq_by_cmp (option_cmp (slice_cmp nat_cmp)) x y
option_ties None None = refl
option_ties None (Some y) = refl
option_ties (Some x) None = refl
option_ties (Some x) (Some y) = texts_ties x y

-- which of three orders decides does not depend on how they are grouped
then_grouped : (a b c : Ordering) → ordering_then (ordering_then a b) c ≡ ordering_then a (ordering_then b c)
then_grouped Less b c = refl
then_grouped Equal b c = refl
then_grouped Greater b c = refl

-- three tests at once
all_tied : (s t u : Bool) (a b c : Ordering) → s ≡ is_eq a → t ≡ is_eq b → u ≡ is_eq c → ((s && t) && u) ≡ is_eq (ordering_then a (ordering_then b c))
all_tied s t u a b c e f g = both_tied (s && t) u (ordering_then a b) c (both_tied s t a b e f) g ∙ ap is_eq (then_grouped a b c)

-- edits tie exactly where they are equal
pub edit_ties : (x y : Edit) → edit_eq x y ≡ eq_by_cmp edit_cmp x y
edit_ties x y = all_tied _ _ _ _ _ _ (unsigned_ties x.text_range.start y.text_range.start) (unsigned_ties x.text_range.end y.text_range.end) (option_ties x.text y.text)

-- the order of fixes is total
pub fix_cmp-total : IsTotalOrder fix_cmp
fix_cmp-total = then_total (on_total (λ f. f.title) nat_list_cmp_total) (on_total (λ f. f.edits) (lists_total edit_cmp-total))

-- fixes tie exactly where they are equal
pub fix_ties : (x y : FixValue) → fix_eq x y ≡ eq_by_cmp fix_cmp x y
fix_ties x y = both_tied _ _ _ _ (texts_ties x.title y.title) (lists_ties edit_cmp edit_ties x.edits y.edits)

-- equality of edits is an equivalence
edit_eq-equiv : IsEquivalence edit_eq
edit_eq-equiv = and_equiv (and_equiv (on_equiv (λ e. e.text_range.start) nat_eq_equiv) (on_equiv (λ e. e.text_range.end) nat_eq_equiv)) (on_equiv (λ e. e.text) (options_equiv nat_list_eq_equiv))

-- equality of fixes is an equivalence
pub fix_eq-equiv : IsEquivalence fix_eq
fix_eq-equiv = and_equiv (on_equiv (λ f. f.title) nat_list_eq_equiv) (on_equiv (λ f. f.edits) (lists_equiv edit_eq-equiv))
