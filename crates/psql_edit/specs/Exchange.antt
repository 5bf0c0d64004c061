-- A text that was made for psql, whose SQL becomes another one.
use Rattle.std.specs.Prelude.{◌≡◌, ◌≤◌, ◌-◌, ℕ, List, drop, length, map, take}
use Rattle.psql_text.specs.Psql.{Passes, blank_all}
use Rattle.psql_text.specs.declared.part.Part.{Part}
use Rattle.psql_text.specs.declared.part.PartKind.{PartKind}

-- the part is one of the text's
abbrev pub IsPartOf : List ℕ → Part → Type 0
IsPartOf t p = (p.from ≤ p.to) × (p.to ≤ length t)

-- a part: what psql makes of it, and its bytes
abbrev pub piece : List ℕ → Part → PartKind × List ℕ
piece t p = (p.kind, take (p.to - p.from) (drop p.from t))

-- the commands, the data and the bodies of a text of which these parts are not read as SQL, in their order
abbrev pub for_psql : List ℕ → List Part → List (PartKind × List ℕ)
for_psql t ps = map (piece t) ps

-- The SQL of the new text is this, and its commands, data and bodies are, byte for byte, those of the old one, of which these parts are not read as SQL.
pub record HasSql (old : List ℕ) (ps : List Part) (sql new : List ℕ) : Type 0 where
  pub parts : List Part
  pub passes : Passes new parts
  pub sql_is : blank_all parts new ≡ sql
  pub kept : for_psql new parts ≡ for_psql old ps
