-- Comments that tell the linter to leave a report.
use Rattle.std.specs.Prelude.{ℕ, ◌-◌, ◌==◌, Bool, true, false, not, ◌&&◌, nat_le, nat_lt, List, [], ◌∷◌, ◌++◌, Option, Some, None, codes, if◌then◌else◌}
use Rattle.std.specs.List.{find, list_any}
use Rattle.lsp_session.specs.lint_base.declared.rule.Rule.{Rule}
use Rattle.lsp_session.specs.lint_base.declared.rule.Rule.TheVariants.{UnusedIgnore}
use Rattle.lsp_session.specs.lint_report.Codes.{name_of}
use Rattle.lsp_session.specs.lint_report.declared.code.Code.{Code}
use Rattle.lsp_session.specs.lint_report.declared.code.Code.TheVariants as by
use Rattle.lsp_session.specs.Remedy.{RemedyValue}
use Rattle.lsp_shown.specs.declared.ignore.Lines.{Lines}
use Rattle.lsp_session.specs.text_utf16.declared.position.Pos.{Pos}

-- the line begins inside of a token that goes over these lines
abbrev pub goes_over : ℕ → Lines → Bool
goes_over line lines = nat_lt lines.first line && nat_le line lines.last

-- the comment, on a line of its own
abbrev pub comment : Code → List ℕ
comment code = codes "-- squawk-ignore " ++ name_of code ++ codes "\n"

-- what the comment does, in a few words
abbrev pub title : Code → List ℕ
title code = codes "Ignore `" ++ name_of code ++ codes "` here"

-- the comment put before a line
abbrev pub new_comment : Code → ℕ → RemedyValue
new_comment code line = record {
  title = title code;
  is_preferred = false;
  changes = record { start = record { line = line; col = 0 }; end = record { line = line; col = 0 }; text = Some (comment code) } ∷ [];
}

-- the name put before the names of a comment, which begin at a place
abbrev pub new_name : Code → Pos → RemedyValue
new_name code at = record {
  title = title code;
  is_preferred = false;
  changes = record { start = at; end = at; text = Some (name_of code ++ codes ", ") } ∷ [];
}

-- the place is on the line before
abbrev pub is_above : ℕ → Pos → Bool
is_above line at = line - at.line == 1

-- the name in the comment on the line before, where there is one, or else in a comment of its own
abbrev pub remedy_in : Option Pos → Code → ℕ → RemedyValue
remedy_in None code line = new_comment code line
remedy_in (Some at) code line = new_name code at

-- a comment can name the rule
abbrev pub is_rule_named : Rule → Bool
is_rule_named UnusedIgnore = false
is_rule_named rule = true

-- a comment can name the rule or the hazard
abbrev pub is_named : Code → Bool
is_named (by.Rule rule) = is_rule_named rule
is_named (by.Hazard hazard) = true

-- none where the line begins inside of one of these tokens, and none for the one rule that no comment names
abbrev pub ignore_if : List Lines → List Pos → Code → ℕ → Option RemedyValue
ignore_if tokens notes code line = if is_named code && not (list_any (goes_over line) tokens) then Some (remedy_in (find (is_above line) notes) code line) else None
