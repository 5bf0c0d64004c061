-- The words ATOMIC and END are ASCII.
use Rattle.std.proofs.Common.{◌≡◌, ◌∙◌, ℕ, ◌+◌, ◌-◌, ◌<◌, Bool, true, false, if◌then◌else◌, ap, arith, codes, drop, get_or, inl, inr, length, length-take-le, length-drop, map, refl, subst, sym, take}
use Rattle.std.specs.Char.{to_ascii_lowercase}
use Rattle.std.specs.Str.{IsUtf8, IsCharBoundary, str_eq_ignore_ascii_case}
use Rattle.std.proofs.lemmas.Bool.{cases_lt, false≢true}
use Rattle.std.proofs.lemmas.Bool.Decides.{nat_tests}
use Rattle.std.proofs.lemmas.List.{get_or-drop, get_or-map, get_or-take, get_or_past, length-map}
use Rattle.std.proofs.lemmas.Slice.Eq.{bytes_eq-Decides}
use Rattle.std.proofs.lemmas.Str.{IsCharBoundary-after_ascii, IsCharBoundary-before_ascii}
use Rattle.sql_lex.specs.sql_token.declared.token.TokKind.{TokKind}
use Rattle.sql_lex.specs.sql_token.declared.token.TokKind.TheVariants as k
use Rattle.sql_lex.specs.sql_token.Token.{Text, At}
use Rattle.psql_text.specs.Marks.{block_mark, is_atomic, is_end, mark_of, routine_mark, word_mark}
use Rattle.psql_text.specs.Psql.{mark_at}
use Rattle.psql_text.specs.declared.mark.Mark.{Mark}
use Rattle.psql_text.specs.declared.mark.Mark.TheVariants.{Copy, From, Stdin, Create, Or, Replace, Routine, Begin, Case, End, Atomic, Opener, Closer, Semicolon, Backslash, Other}

-- ---- a word with such a mark is that word

false_true : {P : Type 0} (b : Bool) → b ≡ true → b ≡ false → P
false_true b p q = cc

past_copy : (is : Mark → Bool) (a b c : Bool) (m : Mark) → is Copy ≡ false → is From ≡ false → is Stdin ≡ false
    → is (if a then Copy else (if b then From else (if c then Stdin else m))) ≡ true → is m ≡ true
past_copy is true b c m p q r h = false_true _ h p
past_copy is false true c m p q r h = false_true _ h q
past_copy is false false true m p q r h = false_true _ h r
past_copy is false false false m p q r h = h

past_routine : (is : Mark → Bool) (a b c d : Bool) (m : Mark) → is Create ≡ false → is Or ≡ false → is Replace ≡ false → is Routine ≡ false
    → is (if a then Create else (if b then Or else (if c then Replace else (if d then Routine else m)))) ≡ true → is m ≡ true
past_routine is true b c d m p q r s h = false_true _ h p
past_routine is false true c d m p q r s h = false_true _ h q
past_routine is false false true d m p q r s h = false_true _ h r
past_routine is false false false true m p q r s h = false_true _ h s
past_routine is false false false false m p q r s h = h

atomic_alone : (a b c d : Bool) → is_atomic (if a then Begin else (if b then Case else (if c then End else (if d then Atomic else Other)))) ≡ true → d ≡ true
atomic_alone true b c d h = absurd (false≢true h)
atomic_alone false true c d h = absurd (false≢true h)
atomic_alone false false true d h = absurd (false≢true h)
atomic_alone false false false true h = refl
atomic_alone false false false false h = absurd (false≢true h)

end_alone : (a b c d : Bool) → is_end (if a then Begin else (if b then Case else (if c then End else (if d then Atomic else Other)))) ≡ true → c ≡ true
end_alone true b c d h = absurd (false≢true h)
end_alone false true c d h = absurd (false≢true h)
end_alone false false true d h = refl
end_alone false false false true h = absurd (false≢true h)
end_alone false false false false h = absurd (false≢true h)

-- no punctuation, and no other byte, has such a mark
no_punct : (is : Mark → Bool) (a b c : Bool) → is Opener ≡ false → is Closer ≡ false → is Semicolon ≡ false → is Other ≡ false
    → is (if a then Opener else (if b then Closer else (if c then Semicolon else Other))) ≡ false
no_punct is true b c p q r s = p
no_punct is false true c p q r s = q
no_punct is false false true p q r s = r
no_punct is false false false p q r s = s

no_other : (is : Mark → Bool) (a : Bool) → is Backslash ≡ false → is Other ≡ false → is (if a then Backslash else Other) ≡ false
no_other is true p q = p
no_other is false p q = q

atomic_word : (kind : TokKind) (bs : Text) → is_atomic (mark_of kind bs) ≡ true → str_eq_ignore_ascii_case bs (codes "atomic") ≡ true
unfolding mark_of word_mark routine_mark block_mark
atomic_word k.Word bs h =
    atomic_alone _ _ _ (str_eq_ignore_ascii_case bs (codes "atomic")) (past_routine is_atomic _ _ _ _ (block_mark bs) refl refl refl refl (past_copy is_atomic _ _ _ (routine_mark bs) refl refl refl h))
atomic_word k.Punct bs h = false_true _ h (no_punct is_atomic _ _ _ refl refl refl refl)
atomic_word k.Other bs h = false_true _ h (no_other is_atomic _ refl refl)
atomic_word kind bs h = absurd (false≢true h)

end_word : (kind : TokKind) (bs : Text) → is_end (mark_of kind bs) ≡ true → str_eq_ignore_ascii_case bs (codes "end") ≡ true
unfolding mark_of word_mark routine_mark block_mark
end_word k.Word bs h =
    end_alone _ _ (str_eq_ignore_ascii_case bs (codes "end")) _ (past_routine is_end _ _ _ _ (block_mark bs) refl refl refl refl (past_copy is_end _ _ _ (routine_mark bs) refl refl refl h))
end_word k.Punct bs h = false_true _ h (no_punct is_end _ _ _ refl refl refl refl)
end_word k.Other bs h = false_true _ h (no_other is_end _ refl refl)
end_word kind bs h = absurd (false≢true h)

-- ---- its bytes

same_low : (bs w : Text) → str_eq_ignore_ascii_case bs w ≡ true → map to_ascii_lowercase bs ≡ map to_ascii_lowercase w
same_low bs w h = (bytes_eq-Decides (map to_ascii_lowercase bs) (map to_ascii_lowercase w)).0 h

small_from : (b c : ℕ) → to_ascii_lowercase b ≡ c → c < 128 → b < 128
small_from b c e small = grind (arith, nat_tests)

byte_small : (bs low : Text) (n c : ℕ) → map to_ascii_lowercase bs ≡ low → get_or low n 0 ≡ c → c < 128 → get_or bs n 0 < 128
byte_small bs low n c same at small =
    elim (cases_lt n (length bs)) [
      | inl less ↦ small_from (get_or bs n 0) c (sym (get_or-map to_ascii_lowercase bs n 0 0 less) ∙ (ap (λ (x : Text). get_or x n 0) same ∙ at)) small
      | inr more ↦ let none : get_or bs n 0 ≡ 0 = get_or_past bs n 0 more in omega arith
    ]

-- the byte n of a token
token_byte : (t : Text) (i j n m : ℕ) → n < j - i → i + n ≡ m → get_or (take (j - i) (drop i t)) n 0 ≡ get_or t m 0
token_byte t i j n m within place = get_or-take (j - i) (drop i t) n 0 within ∙ (get_or-drop i t n 0 ∙ ap (λ (x : ℕ). get_or t x 0) place)

pub atomic_whole : (t : Text) (i j : ℕ) (kind : TokKind) → At t i kind j → is_atomic (mark_at t i kind j) ≡ true → IsCharBoundary t i
atomic_whole t i j kind at is =
    let bs = take (j - i) (drop i t) in
    let same = same_low bs (codes "atomic") (atomic_word kind bs is) in
    let first : get_or bs 0 0 < 128 = byte_small bs (map to_ascii_lowercase (codes "atomic")) 0 97 same refl (omega arith) in
    let byte = token_byte t i j 0 i (omega (arith, at.before)) (omega arith) in
    IsCharBoundary-before_ascii t i (omega (arith, at.before, at.within)) (subst (λ (b : ℕ). b < 128) byte first)

pub end_whole : (t : Text) (i j : ℕ) (kind : TokKind) → IsUtf8 t → At t i kind j → is_end (mark_at t i kind j) ≡ true → IsCharBoundary t j
end_whole t i j kind utf8 at is =
    let bs = take (j - i) (drop i t) in
    let same = same_low bs (codes "end") (end_word kind bs is) in
    let short : length bs ≡ j - i = length-take-le (j - i) (drop i t) (omega (arith, at.within, length-drop i t)) in
    let three : length bs ≡ 3 = sym (length-map bs to_ascii_lowercase) ∙ ap length same in
    let last : get_or bs 2 0 < 128 = byte_small bs (map to_ascii_lowercase (codes "end")) 2 100 same refl (omega arith) in
    let byte = token_byte t i j 2 (i + 2) (omega arith) refl in
    let edge = IsCharBoundary-after_ascii t (i + 2) utf8 (omega (arith, at.before, at.within)) (subst (λ (b : ℕ). b < 128) byte last) in
    let place : i + 2 + 1 ≡ j = omega (arith, at.before) in
    subst (λ (x : ℕ). IsCharBoundary t x) place edge
