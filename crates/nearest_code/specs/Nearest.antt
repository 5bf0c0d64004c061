-- The rule or the hazard whose printed name is nearest to a text.
use Rattle.std.specs.Prelude.{◌≡◌, ◌<◌, ◌≤◌, ◌++◌, ◌∷◌, ◌&&◌, ℕ, List, Option, find, length, map, nat_eq, nat_le, All}
use Rattle.std.specs.List.{list_all}
use Rattle.std.specs.Str.{chars}
use Rattle.strsim.specs.Edits.{levenshtein_row}
use Rattle.lint_report.specs.declared.code.Code.{Code}
use Rattle.hazard_base.specs.Hazards.{all_hazards}
use Rattle.lint_base.specs.Rules.{all_rules}
use Rattle.lint_report.specs.declared.code.Code.TheVariants as code
use Rattle.lint_report.specs.Codes.{name_of}

-- all rules, and then all hazards, in declaration order
unfoldable pub all_codes : List Code
all_codes = map (λ rule. code.Rule rule) all_rules ++ map (λ hazard. code.Hazard hazard) all_hazards

-- how many characters must at least be put in, taken out or changed to make a printed name of a text
unfoldable pub edits : List ℕ → Code → ℕ
edits text r = levenshtein_row nat_eq (chars text) (chars (name_of r)) (length (chars (name_of r)))

-- Those before it in a list are farther from the text, and none after it is nearer.
pub record IsNearestOf (codes : List Code) (text : List ℕ) (r : Code) : Type 0 where
  pub before : List Code
  pub after : List Code
  pub split : codes ≡ before ++ (r ∷ after)
  pub farther : All (λ q. edits text r < edits text q) before
  pub not_nearer : All (λ q. edits text r ≤ edits text q) after

-- No name is nearer to the text, and none before it is as near.
abbrev pub IsNearest : List ℕ → Code → Type 0
IsNearest text r = IsNearestOf all_codes text r

-- The first that takes so many edits at most, where none takes fewer.
unfoldable pub near_code : ℕ → List ℕ → Option Code
near_code most text = find (λ r. nat_le (edits text r) most && list_all (λ q. nat_le (edits text r) (edits text q)) all_codes) all_codes
