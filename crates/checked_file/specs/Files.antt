-- What follows of a run over files.
use Rattle.std.specs.Prelude.{ℕ, List, fold, take}
use Rattle.std.specs.Str.Lossy.{utf8_valid_len}
use Rattle.checked_file.specs.declared.checked.Checked.{Checked}
use Rattle.checked_file.specs.declared.checked.Linted.{Linted}
use Rattle.checked_file.specs.declared.status.Status.{Status}
use Rattle.checked_file.specs.declared.status.Status.TheVariants.{Clean}
use Rattle.checked_file.specs.Answers.{status_of}
use Rattle.checked_file.specs.Statuses.{worse}

-- the front of a file that is UTF-8
abbrev pub readable_of : List ℕ → List ℕ
readable_of bytes = take (utf8_valid_len bytes) bytes

-- the greatest status of the files
abbrev pub worst : List Checked → Status
worst files = fold (λ s file. worse s (status_of file.answer)) Clean files

-- what came of the bytes of a file
abbrev pub linted_of : Checked → Linted
linted_of file = record { bytes = file.bytes; passed = file.passed; answer = file.answer }
