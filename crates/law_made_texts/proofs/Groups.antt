-- The tokens of made groups.
use Rattle.std.proofs.Common.{◌≡◌, ◌∙◌, ℕ, ◌+◌, ◌<◌, ◌≤◌, Bool, true, false, List, [], ◌∷◌, ◌++◌, length, get_or, codes, refl, ap, sym, append_assoc, arith}
use Rattle.std.proofs.lemmas.Bool.{ltb-true, leb-true}
use Rattle.std.specs.List.{list_all}
use Rattle.std.specs.Prelude.{nat_lt, nat_le}
use Rattle.law_joined_texts.specs.sql_token.declared.token.TokKind.TheVariants.{Blank, Word, Number, Op, Punct}
use Rattle.law_joined_texts.specs.sql_token.Token.{Text, begins_word, is_blank, is_word}
use Rattle.law_joined_texts.specs.law_edit_tokens.Exchange.{Fits, IsPlainWord, IsTokenBefore, Made, made_text}
use Rattle.law_joined_texts.proofs.of_law_edit_tokens.Made.{blank_fits, word_fits}
use Rattle.squawk_generate.specs.Made.{column_group, constraint_group, index_group, index_on, table_group}
use Rattle.law_made_texts.proofs.Names.{IsNumber, name_plain}

-- ---- the tokens

abbrev pub blank : Made
blank = (Blank, codes " ")

abbrev pub feed : Made
feed = (Blank, codes "\n")

abbrev pub semicolon : Made
semicolon = (Punct, codes ";")

-- a letter and a number
abbrev pub name : ℕ → List ℕ → Made
name letter number = (Word, letter ∷ number)

-- CREATE INDEX and what follows it
abbrev pub index_toks : List ℕ → List Made → List Made
index_toks number after =
    (Word, codes "CREATE") ∷ blank ∷ (Word, codes "INDEX") ∷ blank ∷ name 105 number ∷ blank ∷ (Word, codes "ON") ∷ blank ∷ name 116 number ∷ blank
    ∷ (Punct, codes "(") ∷ (Word, codes "id") ∷ (Punct, codes ")") ∷ semicolon ∷ after

abbrev pub index_made : List ℕ → List Made
index_made number = index_toks number (feed ∷ [])

abbrev pub table_made : List ℕ → List Made
table_made number =
    (Word, codes "BEGIN") ∷ semicolon ∷ blank
    ∷ (Word, codes "CREATE") ∷ blank ∷ (Word, codes "TABLE") ∷ blank ∷ name 116 number ∷ blank
    ∷ (Punct, codes "(") ∷ (Word, codes "id") ∷ blank ∷ (Word, codes "int") ∷ (Punct, codes ")") ∷ semicolon ∷ blank
    ∷ index_toks number (blank ∷ (Word, codes "COMMIT") ∷ semicolon ∷ feed ∷ [])

abbrev pub alter_toks : List ℕ → List Made → List Made
alter_toks number after = (Word, codes "ALTER") ∷ blank ∷ (Word, codes "TABLE") ∷ blank ∷ name 116 number ∷ blank ∷ (Word, codes "ADD") ∷ blank ∷ after

abbrev pub constraint_toks : List ℕ → List Made
constraint_toks number =
    (Word, codes "CONSTRAINT") ∷ blank ∷ name 99 number ∷ blank ∷ (Word, codes "CHECK") ∷ blank ∷ (Punct, codes "(") ∷ (Word, codes "id") ∷ blank
    ∷ (Op, codes ">") ∷ blank ∷ (Number, codes "0") ∷ (Punct, codes ")") ∷ semicolon ∷ feed ∷ []

abbrev pub constraint_made : List ℕ → List Made
constraint_made number = alter_toks number (constraint_toks number)

abbrev pub column_toks : List ℕ → List Made
column_toks number = (Word, codes "COLUMN") ∷ blank ∷ name 97 number ∷ blank ∷ (Word, codes "text") ∷ semicolon ∷ feed ∷ []

abbrev pub column_made : List ℕ → List Made
column_made number = alter_toks number (column_toks number)

-- ---- their texts

pub index_text : (number : List ℕ) → made_text (index_made number) ≡ index_group number
unfolding index_on
index_text number = simp append_assoc

index_on_is : (number : List ℕ) → index_on number ≡ codes "CREATE INDEX i" ++ (number ++ (codes " ON t" ++ (number ++ codes " (id);")))
unfolding index_on
index_on_is number = simp append_assoc

pub table_text : (number : List ℕ) → made_text (table_made number) ≡ table_group number
table_text number =
    sym (five (codes "BEGIN; CREATE TABLE t") number (codes " (id int); ") (index_on number) (codes " COMMIT;\n")
    ∙ (λ i. codes "BEGIN; CREATE TABLE t" ++ (number ++ (codes " (id int); " ++ (index_on_is number i ++ codes " COMMIT;\n"))))
    ∙ ap (λ (x : Text). codes "BEGIN; CREATE TABLE t" ++ (number ++ (codes " (id int); " ++ x))) (six (codes "CREATE INDEX i") number (codes " ON t") number (codes " (id);") (codes " COMMIT;\n")))
  where
    five : (a b c d e : Text) → (((a ++ b) ++ c) ++ d) ++ e ≡ a ++ (b ++ (c ++ (d ++ e)))
    five a b c d e = simp append_assoc

    six : (a b c d e f : Text) → (a ++ (b ++ (c ++ (d ++ e)))) ++ f ≡ a ++ (b ++ (c ++ (d ++ (e ++ f))))
    six a b c d e f = simp append_assoc

pub constraint_text : (number : List ℕ) → made_text (constraint_made number) ≡ constraint_group number
constraint_text number = simp append_assoc

pub column_text : (number : List ℕ) → made_text (column_made number) ≡ column_group number
column_text number = simp append_assoc

-- ---- each is a token there

word_there : (s : Bool) (w rest : Text) → list_all is_word w ≡ true → begins_word (get_or w 0 0) ≡ true → nat_lt (get_or w 0 0) 128 ≡ true → nat_le 2 (length w) ≡ true
    → is_word (get_or rest 0 0) ≡ false → IsTokenBefore s (Word, w) rest
word_there s w rest bytes begins low long ends =
    word_fits s w rest (record { bytes = bytes; begins = begins; ascii = ltb-true (get_or w 0 0) 128 low; long = leb-true 2 (length w) long }) ends

open_there : (rest : Text) → IsTokenBefore false (Punct, codes "(") rest
open_there rest = record { some = omega arith; kind = refl; takes = refl }

close_there : (rest : Text) → IsTokenBefore false (Punct, codes ")") rest
close_there rest = record { some = omega arith; kind = refl; takes = refl }

semicolon_there : (rest : Text) → IsTokenBefore false (Punct, codes ";") rest
semicolon_there rest = record { some = omega arith; kind = refl; takes = refl }

zero_there : (rest : Text) → IsTokenBefore false (Number, codes "0") (41 ∷ 59 ∷ rest)
zero_there rest = record {
  some = omega arith;
  kind = refl;
  takes = record { begun = omega arith; within = omega arith; each = λ n from low. absurd (omega arith); stops = λ _. refl };
}

greater_there : (rest : Text) → IsTokenBefore false (Op, codes ">") (32 ∷ rest)
greater_there rest = record {
  some = omega arith;
  kind = refl;
  takes = record {
    run = 1;
    is_run = record { begun = omega arith; within = omega arith; each = λ n from low. absurd (omega arith); stops = λ _. refl };
    length = refl;
  };
}

module _ (number : List ℕ) (is : IsNumber number) where
  name_there : (letter : ℕ) (rest : Text) → begins_word letter ≡ true → nat_lt letter 128 ≡ true → is_word (get_or rest 0 0) ≡ false → IsTokenBefore false (name letter number) rest
  name_there letter rest begins low ends = word_fits false (letter ∷ number) rest (name_plain letter number begins (ltb-true letter 128 low) is) ends

  index_there : (s : Bool) (after : List Made) → Fits false after [] → Fits s (index_toks number after) []
  index_there s after fits = (
    word_there s (codes "CREATE") _ refl refl refl refl refl,
    (
      blank_fits false (codes " ") _ refl (omega arith) refl,
      (
        word_there false (codes "INDEX") _ refl refl refl refl refl,
        (
          blank_fits false (codes " ") _ refl (omega arith) refl,
          (
            name_there 105 _ refl refl refl,
            (
              blank_fits false (codes " ") _ refl (omega arith) refl,
              (
                word_there false (codes "ON") _ refl refl refl refl refl,
                (
                  blank_fits false (codes " ") _ refl (omega arith) refl,
                  (
                    name_there 116 _ refl refl refl,
                    (
                      blank_fits false (codes " ") _ refl (omega arith) refl,
                      (open_there _, (word_there false (codes "id") _ refl refl refl refl refl, (close_there _, (semicolon_there _, fits)))),
                    ),
                  ),
                ),
              ),
            ),
          ),
        ),
      ),
    ),
  )

  feed_there : Fits false (feed ∷ []) []
  feed_there = (blank_fits false (codes "\n") [] refl (omega arith) refl, tt)

  pub index_fits : Fits true (index_made number) []
  index_fits = index_there true (feed ∷ []) feed_there

  commit_there : Fits false (blank ∷ (Word, codes "COMMIT") ∷ semicolon ∷ feed ∷ []) []
  commit_there = (
    blank_fits false (codes " ") _ refl (omega arith) refl,
    (word_there false (codes "COMMIT") _ refl refl refl refl refl, (semicolon_there _, feed_there)),
  )

  pub table_fits : Fits true (table_made number) []
  table_fits = (
    word_there true (codes "BEGIN") _ refl refl refl refl refl,
    (
      semicolon_there _,
      (
        blank_fits false (codes " ") _ refl (omega arith) refl,
        (
          word_there false (codes "CREATE") _ refl refl refl refl refl,
          (
            blank_fits false (codes " ") _ refl (omega arith) refl,
            (
              word_there false (codes "TABLE") _ refl refl refl refl refl,
              (
                blank_fits false (codes " ") _ refl (omega arith) refl,
                (
                  name_there 116 _ refl refl refl,
                  (
                    blank_fits false (codes " ") _ refl (omega arith) refl,
                    (
                      open_there _,
                      (
                        word_there false (codes "id") _ refl refl refl refl refl,
                        (
                          blank_fits false (codes " ") _ refl (omega arith) refl,
                          (
                            word_there false (codes "int") _ refl refl refl refl refl,
                            (
                              close_there _,
                              (
                                semicolon_there _,
                                (
                                  blank_fits false (codes " ") _ refl (omega arith) refl,
                                  index_there false (blank ∷ (Word, codes "COMMIT") ∷ semicolon ∷ feed ∷ []) commit_there,
                                ),
                              ),
                            ),
                          ),
                        ),
                      ),
                    ),
                  ),
                ),
              ),
            ),
          ),
        ),
      ),
    ),
  )

  alter_there : (after : List Made) → is_blank (get_or (made_text after ++ []) 0 0) ≡ false → Fits false after [] → Fits true (alter_toks number after) []
  alter_there after begins fits = (
    word_there true (codes "ALTER") _ refl refl refl refl refl,
    (
      blank_fits false (codes " ") _ refl (omega arith) refl,
      (
        word_there false (codes "TABLE") _ refl refl refl refl refl,
        (
          blank_fits false (codes " ") _ refl (omega arith) refl,
          (
            name_there 116 _ refl refl refl,
            (
              blank_fits false (codes " ") _ refl (omega arith) refl,
              (word_there false (codes "ADD") _ refl refl refl refl refl, (blank_fits false (codes " ") _ refl (omega arith) begins, fits)),
            ),
          ),
        ),
      ),
    ),
  )

  pub constraint_fits : Fits true (constraint_made number) []
  constraint_fits =
      alter_there (constraint_toks number) refl (
        word_there false (codes "CONSTRAINT") _ refl refl refl refl refl,
        (
          blank_fits false (codes " ") _ refl (omega arith) refl,
          (
            name_there 99 _ refl refl refl,
            (
              blank_fits false (codes " ") _ refl (omega arith) refl,
              (
                word_there false (codes "CHECK") _ refl refl refl refl refl,
                (
                  blank_fits false (codes " ") _ refl (omega arith) refl,
                  (
                    open_there _,
                    (
                      word_there false (codes "id") _ refl refl refl refl refl,
                      (
                        blank_fits false (codes " ") _ refl (omega arith) refl,
                        (
                          greater_there _,
                          (blank_fits false (codes " ") _ refl (omega arith) refl, (zero_there _, (close_there _, (semicolon_there _, feed_there)))),
                        ),
                      ),
                    ),
                  ),
                ),
              ),
            ),
          ),
        ),
      )

  pub column_fits : Fits true (column_made number) []
  column_fits =
      alter_there (column_toks number) refl (
        word_there false (codes "COLUMN") _ refl refl refl refl refl,
        (
          blank_fits false (codes " ") _ refl (omega arith) refl,
          (
            name_there 97 _ refl refl refl,
            (
              blank_fits false (codes " ") _ refl (omega arith) refl,
              (word_there false (codes "text") _ refl refl refl refl refl, (semicolon_there _, feed_there)),
            ),
          ),
        ),
      )
