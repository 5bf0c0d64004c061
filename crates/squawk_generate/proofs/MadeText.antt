-- The made text is ASCII, and takes little room for a group.
use Rattle.std.proofs.Common.{◌≡◌, ℕ, zero, suc, ◌+◌, ◌*◌, ◌%◌, ◌<◌, ◌≤◌, ◌^◌, Bool, true, false, List, [], ◌∷◌, ◌++◌, length, length-append, codes, decimal, refl, arith, if◌then◌else◌, add-one, append_assoc}
use Rattle.std.specs.Prelude.{◌==◌, ltb, IsAscii, IsUtf8}
use Rattle.std.specs.List.{list_all}
use Rattle.std.proofs.lemmas.Bool.{and_parts}
use Rattle.std.proofs.lemmas.Bool.Decides.{nat_tests}
use Rattle.std.proofs.lemmas.Fmt.{IsAscii-decimal, length-decimal-le}
use Rattle.std.proofs.lemmas.Str.{IsAscii-append, IsUtf8-from_ascii}
use Rattle.std.proofs.lemmas.Str.Ascii.{IsAscii-nil}
use Rattle.squawk_generate.specs.Made.{index_on, table_group, index_group, constraint_group, column_group, group_by, group, made}

pub made_none : made 0 ≡ []
unfolding made
made_none = refl

-- one group more
pub made_more : (i : ℕ) → made (i + 1) ≡ made i ++ group i
unfolding made
made_more i = rw (add-one i) refl

-- a table's text in pieces
pub table_regrouped : (text a b c d e : List ℕ) → ((((text ++ a) ++ b) ++ c) ++ d) ++ e ≡ text ++ ((((a ++ b) ++ c) ++ d) ++ e)
table_regrouped text a b c d e = simp append_assoc

-- a text of ASCII, of at most n bytes
pub record IsText (n : ℕ) (text : List ℕ) : Type 0 where
  pub ascii : IsAscii text
  pub short : length text ≤ n

weaker : {m : ℕ} {text : List ℕ} (n : ℕ) → m ≤ n → IsText m text → IsText n text
weaker n l t = record { ascii = t.ascii; short = omega (arith, t.short, l) }

joined : {m n : ℕ} {a b : List ℕ} → IsText m a → IsText n b → IsText (m + n) (a ++ b)
joined {m} {n} {a} {b} s t = record {
  ascii = IsAscii-append a b s.ascii t.ascii;
  short = omega (arith, length-append a b, s.short, t.short);
}

either : {n : ℕ} {a b : List ℕ} (test : Bool) → IsText n a → IsText n b → IsText n (if test then a else b)
either true s t = s
either false s t = t

ascii_all : (text : List ℕ) → list_all (λ b. ltb b 128) text ≡ true → IsAscii text
ascii_all [] e i = IsAscii-nil i
ascii_all (b ∷ bs) e zero = let (here, later) = and_parts (ltb b 128) (list_all (λ x. ltb x 128) bs) e in grind (arith, nat_tests)
ascii_all (b ∷ bs) e (suc i) = let (here, later) = and_parts (ltb b 128) (list_all (λ x. ltb x 128) bs) e in ascii_all bs later i

-- a text that is written out
given : (text : List ℕ) → list_all (λ b. ltb b 128) text ≡ true → IsText (length text) text
given text e = record { ascii = ascii_all text e; short = omega arith }

module _ (number : List ℕ) (t : IsText 10 number) where
  index_text : IsText 48 (index_on number)
  unfolding index_on
  index_text = weaker 48 (omega arith)
      (joined (joined (joined (joined (given (codes "CREATE INDEX i") refl) t) (given (codes " ON t") refl)) t) (given (codes " (id);") refl))

  table_text : IsText 128 (table_group number)
  table_text = weaker 128 (omega arith)
      (joined (joined (joined (joined (given (codes "BEGIN; CREATE TABLE t") refl) t) (given (codes " (id int); ") refl)) index_text) (given (codes " COMMIT;\n") refl))

  index_group_text : IsText 128 (index_group number)
  index_group_text = weaker 128 (omega arith) (joined index_text (given (codes "\n") refl))

  constraint_text : IsText 128 (constraint_group number)
  constraint_text = weaker 128 (omega arith)
      (joined (joined (joined (joined (given (codes "ALTER TABLE t") refl) t) (given (codes " ADD CONSTRAINT c") refl)) t) (given (codes " CHECK (id > 0);\n") refl))

  column_text : IsText 128 (column_group number)
  column_text = weaker 128 (omega arith)
      (joined (joined (joined (joined (given (codes "ALTER TABLE t") refl) t) (given (codes " ADD COLUMN a") refl)) t) (given (codes " text;\n") refl))

  group_by_text : (kind : ℕ) → IsText 128 (group_by kind number)
  group_by_text kind = either (kind == 0) table_text (either (kind == 1) index_group_text (either (kind == 2) constraint_text column_text))

number_text : (i : ℕ) → i < 2 ^ 32 → IsText 10 (decimal i)
number_text i l = record {
  ascii = IsAscii-decimal i (omega arith);
  short = length-decimal-le 10 i (omega arith) (omega arith) (omega arith);
}

group_text : (i : ℕ) → i < 2 ^ 32 → IsText 128 (group i)
unfolding group
group_text i l = group_by_text (decimal i) (number_text i l) (i % 4)

pub made_is_text : (n : ℕ) → n ≤ 2 ^ 32 → IsText (128 * n) (made n)
unfolding made
made_is_text zero l = record { ascii = IsAscii-nil; short = omega arith }
made_is_text (suc n) l = weaker _ (omega arith) (joined (made_is_text n (omega arith)) (group_text n (omega arith)))

pub made_is_utf8 : (n : ℕ) → n ≤ 2 ^ 32 → IsUtf8 (made n)
made_is_utf8 n l = IsUtf8-from_ascii (made n) (made_is_text n l).ascii
