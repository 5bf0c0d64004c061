-- What is told of a text that was made for psql.
use Rattle.std.specs.Prelude.{◌≡◌, ℕ, ◌+◌, List, [], ◌∷◌, Option, MatchOption}
use Rattle.std.specs.String.{string_bytes}
use Rattle.sql_lex.specs.sql_token.Token.{Text}
use Rattle.psql_text.specs.Count.{lines_between, commands_of, data_of, bodies_of}
use Rattle.psql_text.specs.Psql.{blank_all}
use Rattle.psql_text.specs.declared.part.Part.{Part}
use Rattle.psql_text.specs.declared.blank.Blanked.{Blanked}

abbrev pub commands_in : List Part → ℕ
commands_in [] = 0
commands_in (p ∷ ps) = commands_of p.kind + commands_in ps

abbrev pub data_in : Text → List Part → ℕ
data_in t [] = 0
data_in t (p ∷ ps) = data_of p.kind (lines_between t p.from p.to) + data_in t ps

abbrev pub bodies_in : List Part → ℕ
bodies_in [] = 0
bodies_in (p ∷ ps) = bodies_of p.kind + bodies_in ps

-- the first of these parts begins at n
abbrev pub StartsAt : List Part → ℕ → Type 0
StartsAt [] n = ⊥
StartsAt (p ∷ ps) n = n ≡ p.from

-- The parts of the text are blank, and what is told of them is so.
pub record IsTold (t : Text) (ps : List Part) (b : Blanked) : Type 0 where
  pub text : string_bytes b.text ≡ blank_all ps t
  pub first : StartsAt ps b.first
  pub commands : b.commands ≡ commands_in ps
  pub data_lines : b.data_lines ≡ data_in t ps
  pub bodies : b.bodies ≡ bodies_in ps

abbrev pub IsAnswer : Text → List Part → Option Blanked → Type 0
IsAnswer t ps answer = MatchOption answer (ps ≡ []) (IsTold t ps)
