-- Where the front of a file ends that is UTF-8.
use Rattle.std.proofs.Common.{◌≡◌, ◌∙◌, ◌<◌, ◌^◌, arith, subst, sym, ℕ, List, [], length}
use Rattle.std.proofs.lemmas.List.{length-take-le}
use Rattle.std.proofs.lemmas.Str.{IsCharBoundary-end, utf8_valid_len_le}
use Rattle.std.specs.Str.{IsCharBoundary}
use Rattle.std.specs.Str.Lossy.{utf8_valid_len}
use Rattle.gate_files.specs.checked_file.Files.{readable_of}

pub end_in : (bytes : List ℕ) (at : ℕ) → at ≡ utf8_valid_len bytes → IsCharBoundary (readable_of bytes) at
end_in bytes at e =
    let front = readable_of bytes in
    let long : length front ≡ at = length-take-le (utf8_valid_len bytes) bytes (utf8_valid_len_le bytes) ∙ sym e in
    subst (λ (n : ℕ). IsCharBoundary front n) long (IsCharBoundary-end front)

pub front_short : (bytes : List ℕ) → length bytes < 2 ^ 32 → length (readable_of bytes) < 2 ^ 32
front_short bytes short = omega (arith, length-take-le (utf8_valid_len bytes) bytes (utf8_valid_len_le bytes), utf8_valid_len_le bytes)

-- no text has a place but its end
pub none_in : (at : ℕ) → at ≡ 0 → IsCharBoundary [] at
none_in at e = subst (λ (n : ℕ). IsCharBoundary [] n) (sym e) (IsCharBoundary-end [])
