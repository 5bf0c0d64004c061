-- Equality of edits and fixes of diagnostics.
use Rattle.std.specs.Prelude.{Bool, ◌&&◌, nat_eq}
use Rattle.std.specs.Cmp.Lexicographic.{pointwise}
use Rattle.std.specs.Option.{option_eq}
use Rattle.std.specs.Ordering.{eq_of_both, on}
use Rattle.text_utf16.specs.declared.position.Pos.{Pos}
use Rattle.diag_json.specs.declared.diagnostic.DiagEdit.{DiagEdit}
use Rattle.diag_json.specs.Fix.{DiagFixValue}

abbrev pub pos_eq : Pos → Pos → Bool
pos_eq a b = nat_eq a.line b.line && nat_eq a.col b.col

-- `==` on edits: equal positions, and equal texts or none
abbrev pub edit_eq : DiagEdit → DiagEdit → Bool
edit_eq a b = (pos_eq a.start b.start && pos_eq a.end b.end) && option_eq (pointwise nat_eq) a.text b.text

-- `==` on fixes: equal titles, and equal edits
abbrev pub fix_eq : DiagFixValue → DiagFixValue → Bool
fix_eq = eq_of_both (on (λ f. f.title) (pointwise nat_eq)) (on (λ f. f.edits) (pointwise edit_eq))
