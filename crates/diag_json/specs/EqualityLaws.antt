-- Equality of fixes is an equivalence.
use Rattle.std.specs.Cmp.{IsEquivalence, and_equiv, nat_eq_equiv, on_equiv}
use Rattle.std.specs.Cmp.Lexicographic.{lists_equiv, nat_list_eq_equiv, options_equiv}
use Rattle.diag_json.specs.Equality.{edit_eq, fix_eq, pos_eq}

pos_eq-equiv : IsEquivalence pos_eq
pos_eq-equiv = and_equiv (on_equiv (λ p. p.line) nat_eq_equiv) (on_equiv (λ p. p.col) nat_eq_equiv)

edit_eq-equiv : IsEquivalence edit_eq
edit_eq-equiv = and_equiv (and_equiv (on_equiv (λ e. e.start) pos_eq-equiv) (on_equiv (λ e. e.end) pos_eq-equiv)) (on_equiv (λ e. e.text) (options_equiv nat_list_eq_equiv))

pub fix_eq-equiv : IsEquivalence fix_eq
fix_eq-equiv = and_equiv (on_equiv (λ f. f.title) nat_list_eq_equiv) (on_equiv (λ f. f.edits) (lists_equiv edit_eq-equiv))
