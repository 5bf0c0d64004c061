use Rattle.std.proofs.Common.{◌≡◌, ◌<◌, ◌^◌, ℕ, All, List, ap, length, string_bytes, subst, sym}
use Rattle.std.proofs.lemmas.Str.{IsUtf8-string_bytes}
use Rattle.check_run.specs.checked_file.Files.{readable_of}
use Rattle.check_run.specs.checked_file.Sound.{IsReportIn}
use Rattle.file_answer.specs.declared.text.Found.{Found}
use Rattle.file_answer.specs.Found.{IsFoundIn, IsRestIn}
use Rattle.file_answer.proofs.Placing.{front_short, reports_of_all}
use Rattle.file_answer.proofs.answer.answered.Goals as goal

pub returns-in-Rest-clause-sound : goal.returns-in-Rest-clause-sound
returns-in-Rest-clause-sound c =
    let rest = c.in-Rest.rest in
    let read = c.args.read.bytes.items in
    let text : List ℕ = string_bytes rest.text in
    let same : c.into_bytes.result.items ≡ text = ap (λ v. v.items) c.into_bytes.ensures.value in
    let in_rest : IsRestIn (readable_of read) rest = subst (λ (f : Found). IsFoundIn (readable_of read) f) c.in-Rest.is c.requires.placed in
    let reports = reports_of_all text rest.reports.items (IsUtf8-string_bytes rest.text) in_rest.reports in
    record {
      short = subst (λ (z : List ℕ). length (readable_of z) < 2 ^ 32) (sym same) (front_short text in_rest.short);
      placed = record {
        short = front_short read c.requires.short;
        faults = in_rest.faults;
        reports = subst (λ (z : List ℕ). All (IsReportIn (readable_of z)) rest.reports.items) (sym same) reports;
      };
    }
