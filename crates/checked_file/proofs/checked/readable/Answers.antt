use Rattle.std.proofs.Common.{◌∙◌, arith, length, sym}
use Rattle.std.proofs.lemmas.List.{take_all}
use Rattle.std.proofs.lemmas.Str.{utf8_valid_len-IsUtf8}
use Rattle.checked_file.proofs.checked.readable.Goals as goal

pub returns-in-Ok : goal.returns-in-Ok
returns-in-Ok c =
    let bytes = c.args.bytes.now in
    c.in-Ok.ensures.cases.0 ∙ sym (rw (utf8_valid_len-IsUtf8 bytes c.in-Ok.ensures.cases.1) (take_all (length bytes) bytes (omega arith)))
