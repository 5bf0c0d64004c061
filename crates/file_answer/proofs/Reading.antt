-- What is read of the bytes of a file.
use Rattle.std.proofs.Common.{◌≡◌, ◌∙◌, ◌<◌, ◌^◌, ℕ, ap, List, Option, Some, None, inl, inr, length, refl, subst, false, sym}
use Rattle.std.specs.Str.{IsUtf8}
use Rattle.check_run.specs.checked_file.declared.checked.Passed.{Passed}
use Rattle.psql_text.proofs.Blanks.{all_stays}
use Rattle.psql_text.specs.declared.blank.Blanked.{Blanked}
use Rattle.psql_text.specs.declared.part.Part.{Part}
use Rattle.psql_text.specs.Psql.{Passes, blank_all}
use Rattle.psql_text.specs.Told.{IsAnswer}
use Rattle.law_reports.specs.sql_token.Token.{Text}
use Rattle.file_answer.specs.declared.read.Read.{Read}
use Rattle.file_answer.specs.Reading.{IsBlankedBy, IsPassed, IsReadAs, IsReadBy, IsTextIn}

pub text_found : (t s : Text) (found : Option Blanked) → s ≡ t → IsUtf8 t → ((ps : List Part) × Passes s ps × IsAnswer s ps found) → IsTextIn t found
text_found t s found same utf8 h = inl (utf8, subst (λ (x : Text). (ps : List Part) × Passes x ps × IsAnswer x ps found) same h)

-- of nothing found, the bytes stay
pub read_none : (t : Text) → IsTextIn t None → IsReadBy false t t None
read_none t (inl (utf8, (ps, passes, none))) = inl (utf8, record { parts = ps; passes = passes; text = subst (λ (qs : List Part). t ≡ blank_all qs t) (sym none) refl; are = none })
read_none t (inr (bad, none)) = inr (bad, record { text = refl; none = refl })

-- of a text in which something is blank, that is what is read
pub read_some : (t : Text) (b : Blanked) (read : Read) → IsTextIn t (Some b) → IsBlankedBy b read → IsReadAs false t read
read_some t b read (inl (utf8, (ps, passes, told))) by =
    inl (
      utf8,
      record {
        parts = ps;
        passes = passes;
        text = by.bytes ∙ told.text;
        are = subst (λ (p : Option Passed). IsPassed t ps p) (sym by.passed) (told.first, told.commands, told.data_lines, told.bodies);
      },
    )
read_some t b read (inr (bad, none)) by = absurd (cc none)

-- it is as long as the file
pub read_short : (t : Text) (b : Blanked) (read : Read) → IsTextIn t (Some b) → IsBlankedBy b read → length t < 2 ^ 32 → length read.bytes.items < 2 ^ 32
read_short t b read (inl (utf8, (ps, passes, told))) by short =
    let same : length read.bytes.items ≡ length t = ap length (by.bytes ∙ told.text) ∙ (all_stays ps t).0 in
    rw same short
read_short t b read (inr (bad, none)) by short = absurd (cc none)
