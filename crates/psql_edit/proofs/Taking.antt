-- What is taken as the new text.
use Rattle.std.proofs.Common.{◌≡◌, ◌∙◌, ℕ, List, ap, refl, subst, sym}
use Rattle.psql_text.specs.Psql.{Passes, blank_all, start}
use Rattle.psql_text.specs.declared.part.Part.{Part}
use Rattle.psql_text.proofs.Once.{reads_one}
use Rattle.psql_edit.specs.Exchange.{HasSql}

-- a text has the SQL that it has
pub has_itself : (old sql new : List ℕ) (ps qs : List Part) → Passes old qs → sql ≡ blank_all qs old → new ≡ old → Passes old ps → HasSql old ps sql new
has_itself old sql new ps qs here same is passes =
    let one : qs ≡ ps = reads_one (start old) qs ps here passes in
    let itself : HasSql old ps sql old = record { parts = ps; passes = passes; sql_is = ap (λ (x : List Part). blank_all x old) (sym one) ∙ sym same; kept = refl } in
    subst (λ (x : List ℕ). HasSql old ps sql x) (sym is) itself

pub has_by : (old sql new : List ℕ) (ps qs : List Part) → Passes old qs → HasSql old qs sql new → Passes old ps → HasSql old ps sql new
has_by old sql new ps qs here has passes = subst (λ (x : List Part). HasSql old x sql new) (reads_one (start old) qs ps here passes) has

pub is_own : (old sql own : List ℕ) (ps qs : List Part) → Passes old qs → own ≡ blank_all qs old → Passes old ps → sql ≡ blank_all ps old → own ≡ sql
is_own old sql own ps qs here same passes is =
    same ∙ (ap (λ (x : List Part). blank_all x old) (reads_one (start old) qs ps here passes) ∙ sym is)

-- what is known of a text, of parts and of SQL, of others that are the same
pub moved : (P : List ℕ → List Part → List ℕ → Type 0) (a b : List ℕ) (ps qs : List Part) (s u : List ℕ) → a ≡ b → ps ≡ qs → s ≡ u → P a ps s → P b qs u
moved P a b ps qs s u e f g h = subst (λ (x : List ℕ). P b qs x) g (subst (λ (x : List Part). P b x s) f (subst (λ (x : List ℕ). P x ps s) e h))
